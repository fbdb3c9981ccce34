use Rattle.std.proofs.Common.{◌≡◌, ◌+◌, List, Option, Bool, ℤ, ◌++◌, ap, length, sym, ◌∙◌, arith, count_by, get_or, pos, ◌∷◌, []}
use Rattle.std.proofs.lemmas.List.{length-append, get_or_past}
use Rattle.gq_column.specs.steps.Cells.{cells_of}
use Rattle.gq_column.proofs.Flagged.{flagged_ranked, length-flagged}
use Rattle.gq_column.proofs.Ranked.{padded}
use Rattle.gq_column.proofs.builder.ColumnBuilder.build.Goals as goal

pub from_bools-requires : goal.from_bools-requires
from_bools-requires c =
    let flags = c.self.inside.flags.items in
    let kept = c.self.inside.kept.items in
    omega (arith, c.requires, ap (λ (l : List (Option ℤ)). length l) c.self.view_is, length-flagged flags kept, ap (λ (l : List Bool). length l) c.as_slice.ensures.value)

pub invariant_of-result : goal.invariant_of-result
invariant_of-result c =
    let flags = c.self.inside.flags.items in
    let kept = c.self.inside.kept.items in
    let present : c.in_ok-present.present ≡ flags = c.in_ok-present.ensures ∙ c.as_slice.ensures.value in
    let padding : c.shrink_to_fit.new.self.items ≡ kept ++ (pos 0 ∷ []) = c.shrink_to_fit.ensures.items ∙ c.in_ok-push.ensures.items in
    let ones : length kept ≡ count_by (λ on. on) c.in_ok-present.present = c.self.invariant ∙ ap (count_by (λ on. on)) (sym present) in
    record {
      few = omega (arith, c.requires, ap (λ (l : List (Option ℤ)). length l) c.self.view_is, length-flagged flags kept, ap (λ (l : List Bool). length l) present);
      count = ap length padding ∙ length-append kept (pos 0 ∷ []) ∙ ap (λ n. n + 1) ones;
      zero = ap (λ (l : List ℤ). get_or l (count_by (λ on. on) c.in_ok-present.present) (pos 0)) padding ∙ padded kept (count_by (λ on. on) c.in_ok-present.present)
          ∙ get_or_past kept (count_by (λ on. on) c.in_ok-present.present) (pos 0) (omega (arith, ones));
    }

pub returns : goal.returns
returns c =
    let flags = c.self.inside.flags.items in
    let kept = c.self.inside.kept.items in
    let present : c.in_ok-present.present ≡ flags = c.in_ok-present.ensures ∙ c.as_slice.ensures.value in
    let padding : c.shrink_to_fit.new.self.items ≡ kept ++ (pos 0 ∷ []) = c.shrink_to_fit.ensures.items ∙ c.in_ok-push.ensures.items in
    ap (λ (l : List Bool). cells_of l c.shrink_to_fit.new.self.items) present ∙ ap (cells_of flags) padding ∙ flagged_ranked flags kept c.self.invariant ∙ c.self.view_is
