use Rattle.std.proofs.Common.{◌≡◌, ◌≤◌, ℕ, List, get_or, true, false, Bool, sym, ◌∙◌, arith}
use Rattle.std.specs.Prelude.{Option, Some, None, MatchOption}
use Rattle.std.specs.Option.{is_some}
use Rattle.gq_search.specs.Running.{has_mark}
use Rattle.gq_search.proofs.Runs.{any-none, any-at}
use Rattle.gq_search.proofs.walker.is_live.Goals as goal

found : (m : List Bool) (o : Option ℕ) → MatchOption o ((k : ℕ) → 0 ≤ k → get_or m k false ≡ false) (λ p. (0 ≤ p) × (get_or m p false ≡ true)) → is_some o ≡ has_mark m
found m None h = sym (any-none m (λ k. h k (omega arith)))
found m (Some p) h = sym (any-at m p h.1)

pub returns-else-flat-clause-any : goal.returns-else-flat-clause-any
returns-else-flat-clause-any c e = c.is_some.ensures ∙ found c.args.marks.now c.next_from.result c.next_from.ensures.found
