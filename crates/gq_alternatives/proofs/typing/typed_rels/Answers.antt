use Rattle.std.proofs.Common.{◌≡◌, ℕ, ◌++◌, List, [], ◌∷◌, length, drop, min, refl, sym, ap, ◌∙◌, arith, append-nil, length-drop}
use Rattle.std.proofs.lemmas.Slice.Zip.{zip_end}
use Rattle.gq_alternatives.specs.Alternatives.{Reading, typed_rels}
use Rattle.gq_alternatives.proofs.typing.typed_rels.Goals as goal
use Rattle.gq_scopes.specs.Patterns.{RelPattern}

ended : (ps : List RelPattern) (cs : List Reading) → min (length ps) (length cs) ≡ 0 → typed_rels ps cs ≡ []
ended [] cs h = refl
ended (p ∷ ps) [] h = refl
ended (p ∷ ps) (c ∷ cs) h = absurd (omega arith)

pub returns : goal.returns
returns c =
    let ps : List RelPattern = c.args.patterns.now in
    let cs : List Reading = c.args.readings.now in
    let n : ℕ = length c.loop-pattern.yielded in
    let all : n ≡ min (length ps) (length cs) = zip_end ps cs c.loop-pattern.yielded _ c.loop-pattern.pattern-iterator c.next.new.self c.next.result (cc) (cc) c.loop-pattern.yielded_by c.in-None.is c.next.ensures.steps in
    let left : min (length (drop n ps)) (length (drop n cs)) ≡ 0 = omega (arith, all, length-drop n ps, length-drop n cs) in
    sym (append-nil c.loop-pattern.rels) ∙ ap (λ rs. c.loop-pattern.rels ++ rs) (sym (ended (drop n ps) (drop n cs) left)) ∙ c.loop-pattern.invariant
