use Rattle.std.proofs.Common.{ap, length, arith, List, ℕ}
use Rattle.std.specs.List.{concat}
use Rattle.gq_edges.proofs.paged.Pages.len.Goals as goal

pub overflow_cast-result : goal.overflow_cast-result
overflow_cast-result c = omega (arith, c.len.ensures, c.self.inside.places.ok.0, c.self.invariant.few)

pub returns : goal.returns
returns c = omega (arith, c.len.ensures, c.self.inside.places.ok.0, c.self.invariant.len, ap (λ (xss : List (List ℕ)). length (concat xss)) c.self.view_is)
