use Rattle.std.proofs.Common.{ap, length, arith, List, ℕ}
use Rattle.std.specs.List.{concat}
use Rattle.gq_edges.proofs.paged.Pages.page_start.Goals as goal

pub returns-then-first-from-clause-few : goal.returns-then-first-from-clause-few
returns-then-first-from-clause-few c = omega (arith, ap (λ (xss : List (List ℕ)). length (concat xss)) c.self.view_is, c.self.invariant.len, c.self.invariant.few)
