use Rattle.std.proofs.Common.{◌+◌, ℕ, ap₂, drop, length, length-drop, arith}
use Rattle.gq_optional.specs.declared.clause.Clause.{Clause}
use Rattle.gq_optional.proofs.clause_level.ClauseLevel.+next_match.Goals as goal

pub next_match-requires : goal.next_match-requires
next_match-requires t c =
    let items = c.args.self.now.clause.now.matches.items in
    let at = c.args.self.now.at in
    let less = ap₂ (λ (k : ℕ) (l : Clause). length (drop k l.matches.items)) c.look_up.ensures.at c.look_up.ensures.same.clause in
    (omega (arith, c.decreases, less, length-drop at items, length-drop (at + 1) items, c.in-Some.ensures.lookup.3.0), (c.look_up.ensures.level, c.look_up.ensures.rows))
