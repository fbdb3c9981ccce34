use Rattle.std.proofs.Common.{◌∙◌, ap, sym, length, arith}
use Rattle.std.proofs.lemmas.Bool.{ltb-true}
use Rattle.gq_exists.specs.steps.Levels.{keys_from, links_of, roots}
use Rattle.gq_exists.proofs.Fronts.{as_last}
use Rattle.gq_exists.proofs.paths.Paths.len.Goals as goal

pub returns-in-Some : goal.returns-in-Some
returns-in-Some c =
    let item = c.in-Some.ensures.item in
    let some = ltb-true 0 _ (sym item.0) in
    c.len.ensures.len
    ∙ sym (ap (λ l. length (keys_from (roots c.args.self.now.any) (links_of l))) (sym c.as_slice.ensures.value)
    ∙ as_last (roots c.args.self.now.any) c.as_slice.result.now c.in-Some.level.now (omega (arith, some)) item.1)
