use Rattle.std.proofs.Common.{◌≡◌, ◌+◌, nat_lt, true, false, refl, arith}
use Rattle.std.proofs.lemmas.Bool.Decides.{nat_tests}
use Rattle.gq_hops.specs.steps.Searches.{no_level}
use Rattle.gq_hops.specs.declared.search.Search.{Search}
use Rattle.gq_hops.proofs.search.Search.take.Goals as goal

pub returns-then-self-run : goal.returns-then-self-run
returns-then-self-run c =
    let s : Search = c.args.self.now in
    let low = c.if-self-run.true in
    let is : nat_lt (s.depth + 1) c.args.run.now.high ≡ true = grind (arith, nat_tests, low) in
    record { level = c.level_at.result; is = rw is refl; fits = λ more. c.level_at.ensures.level; start = λ more. c.level_at.ensures.start }

pub returns-else-self-run : goal.returns-else-self-run
returns-else-self-run c =
    let s : Search = c.args.self.now in
    let high = c.if-self-run.false in
    let is : nat_lt (s.depth + 1) c.args.run.now.high ≡ false = grind (arith, nat_tests, high) in
    record { level = no_level; is = rw is refl; fits = λ more. absurd (omega (arith, more, high)); start = λ more. absurd (omega (arith, more, high)) }
