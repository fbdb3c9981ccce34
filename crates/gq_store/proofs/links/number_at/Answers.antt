use Rattle.std.proofs.Common.{◌<◌, ℕ, List, Some, length, sym, ap, ◌∙◌, arith}
use Rattle.std.specs.Prelude.{slice_get}
use Rattle.std.specs.List.{concat}
use Rattle.std.proofs.lemmas.Option.{slice_get-get_or}
use Rattle.gq_base.specs.declared.direction.Direction.TheVariants.{Forward, Backward}
use Rattle.gq_store.proofs.Placing.{count_in_pages, not_lists, source_told, target_told}
use Rattle.gq_store.proofs.Reading.{number_in_pages, paged_is, sources_is, targets_is}
use Rattle.gq_store.proofs.Validity.{length-ends}
use Rattle.gq_store.proofs.links.number_at.Goals as goal

pub number-requires : goal.number-requires
number-requires c = (source_told _ _ _ c.requires.linked _ c.requires.place _ _ c.in-Sources.is c.in-Single.is).0

pub unreachable-requires : goal.unreachable-requires
unreachable-requires c = not_lists _ _ _ c.requires.linked Forward _ c.in-Listed.is (sources_is _ _ _ _ c.requires.linked c.in-Sources.is).0

pub returns-in-Single : goal.returns-in-Single
returns-in-Single c = c.number.ensures ∙ (source_told _ _ _ c.requires.linked _ c.requires.place _ _ c.in-Sources.is c.in-Single.is).1

pub number-requires-in-Single-backward : goal.number-requires-in-Single-backward
number-requires-in-Single-backward c = (target_told _ _ _ c.requires.linked _ c.requires.place _ _ c.in-Targets.is c.in-Single-backward.is).0

pub unreachable-requires-in-Listed-backward : goal.unreachable-requires-in-Listed-backward
unreachable-requires-in-Listed-backward c = not_lists _ _ _ c.requires.linked Backward _ c.in-Listed-backward.is (targets_is _ _ _ _ c.requires.linked c.in-Targets.is).1

pub returns-in-Single-backward : goal.returns-in-Single-backward
returns-in-Single-backward c = c.number-in-Single-backward.ensures ∙ (target_told _ _ _ c.requires.linked _ c.requires.place _ _ c.in-Targets.is c.in-Single-backward.is).1

pub returns-in-Paged : goal.returns-in-Paged
returns-in-Paged c =
    let g = c.args.of.now.value in
    let rel = c.args.rel in
    let p = paged_is _ _ _ _ c.requires.linked c.in-Paged.is in
    let low : c.args.place < length (concat c.in-Paged.pages) = omega (arith, p.1.size, length-ends g rel c.requires.valid c.requires.within Forward, count_in_pages g rel p.0, c.requires.place) in
    sym (number_in_pages g rel c.args.place p.0 ∙ ap (λ (l : List (List ℕ)). slice_get (concat l) c.args.place) (sym p.1.pages_of)
    ∙ slice_get-get_or (concat c.in-Paged.pages) c.args.place 0 low ∙ ap (λ (m : ℕ). Some m) (sym c.number_at.ensures))
