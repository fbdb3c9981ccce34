use Rattle.std.proofs.Common.{◌≡◌, ◌++◌, ℕ, List, IfOk, rules, flat_map, subst, sym, ap, ◌∙◌}
use Rattle.gq_expr.specs.declared.expr.Expr.{the_lemmas}
use Rattle.gq_eval.specs.steps.Places.{Leads, expr_places, past, tester_places}
use Rattle.gq_eval.proofs.PlaceEquations.{places_TypeName, places_Coalesce, places_Negate, places_Plus, places_Not, places_Or, places_Xor, places_And, places_Compare, places_Test, places_Arith}
use Rattle.gq_eval.proofs.PlaceLemmas.{chain_first, chain_past, chain_rest, leads_over}
use Rattle.gq_eval.proofs.evaluate.+eval.Goals as goal

pub eval_parts-eval-requires : goal.eval_parts-eval-requires
eval_parts-eval-requires g t c κs within =
    let places = expr_places c.args.graph.now.catalog in
    let same : places c.args.expr.now ≡ places c.get.result.now = ap places c.in-TypeName.is ∙ places_TypeName _ _ ∙ ap places (sym c.get.ensures) in
    (search (rules, the_lemmas), (search rules, leads_over same c.requires))

pub eval_parts-eval-requires-in-Negate : goal.eval_parts-eval-requires-in-Negate
eval_parts-eval-requires-in-Negate g t c κs within =
    let places = expr_places c.args.graph.now.catalog in
    let same : places c.args.expr.now ≡ places c.get-in-Negate.result.now = ap places c.in-Negate.is ∙ places_Negate _ _ ∙ ap places (sym c.get-in-Negate.ensures) in
    (search (rules, the_lemmas), (search rules, leads_over same c.requires))

pub eval_parts-eval-requires-in-Plus : goal.eval_parts-eval-requires-in-Plus
eval_parts-eval-requires-in-Plus g t c κs within =
    let places = expr_places c.args.graph.now.catalog in
    let same : places c.args.expr.now ≡ places c.get-in-Plus.result.now = ap places c.in-Plus.is ∙ places_Plus _ _ ∙ ap places (sym c.get-in-Plus.ensures) in
    (search (rules, the_lemmas), (search rules, leads_over same c.requires))

pub eval_parts-eval-requires-in-Not : goal.eval_parts-eval-requires-in-Not
eval_parts-eval-requires-in-Not g t c κs within =
    let places = expr_places c.args.graph.now.catalog in
    let same : places c.args.expr.now ≡ places c.get-in-Not.result.now = ap places c.in-Not.is ∙ places_Not _ _ ∙ ap places (sym c.get-in-Not.ensures) in
    (search (rules, the_lemmas), (search rules, leads_over same c.requires))

pub eval_parts-eval_coalesce-requires : goal.eval_parts-eval_coalesce-requires
eval_parts-eval_coalesce-requires g t c κs within =
    let places = expr_places c.args.graph.now.catalog in
    let same : places c.args.expr.now ≡ flat_map places c.as_slice.result.now = ap places c.in-Coalesce.is ∙ places_Coalesce _ _ ∙ ap (flat_map places) (sym c.as_slice.ensures) in
    (search (rules, the_lemmas), (search rules, leads_over same c.requires))

pub eval_parts-eval_logic-requires : goal.eval_parts-eval_logic-requires
eval_parts-eval_logic-requires g t c κs within =
    let places = expr_places c.args.graph.now.catalog in
    let same : places c.args.expr.now ≡ flat_map places c.as_slice-in-Or.result.now = ap places c.in-Or.is ∙ places_Or _ _ ∙ ap (flat_map places) (sym c.as_slice-in-Or.ensures) in
    (search (rules, the_lemmas), (search rules, leads_over same c.requires))

pub eval_parts-eval_logic-requires-in-Xor : goal.eval_parts-eval_logic-requires-in-Xor
eval_parts-eval_logic-requires-in-Xor g t c κs within =
    let places = expr_places c.args.graph.now.catalog in
    let same : places c.args.expr.now ≡ flat_map places c.as_slice-in-Xor.result.now = ap places c.in-Xor.is ∙ places_Xor _ _ ∙ ap (flat_map places) (sym c.as_slice-in-Xor.ensures) in
    (search (rules, the_lemmas), (search rules, leads_over same c.requires))

pub eval_parts-eval_logic-requires-in-And : goal.eval_parts-eval_logic-requires-in-And
eval_parts-eval_logic-requires-in-And g t c κs within =
    let places = expr_places c.args.graph.now.catalog in
    let same : places c.args.expr.now ≡ flat_map places c.as_slice-in-And.result.now = ap places c.in-And.is ∙ places_And _ _ ∙ ap (flat_map places) (sym c.as_slice-in-And.ensures) in
    (search (rules, the_lemmas), (search rules, leads_over same c.requires))

pub eval_parts-eval-requires-in-Compare : goal.eval_parts-eval-requires-in-Compare
eval_parts-eval-requires-in-Compare g t c κs within =
    let places = expr_places c.args.graph.now.catalog in
    let later : List ℕ = flat_map (λ t. places t.expr) c.in-Compare.terms in
    let same : places c.args.expr.now ≡ places c.get-in-Compare.result.now ++ later = ap places c.in-Compare.is ∙ places_Compare _ _ _ ∙ ap (λ e. places e ++ later) (sym c.get-in-Compare.ensures) in
    (search (rules, the_lemmas), (search rules, chain_first (places c.get-in-Compare.result.now) later same c.requires))

pub eval_parts-eval_compares-requires : goal.eval_parts-eval_compares-requires
eval_parts-eval_compares-requires g t c κs within =
    let places = expr_places c.args.graph.now.catalog in
    let later : List ℕ = flat_map (λ t. places t.expr) c.in-Compare.terms in
    let same : places c.args.expr.now ≡ places c.get-in-Compare.result.now ++ later = ap places c.in-Compare.is ∙ places_Compare _ _ _ ∙ ap (λ e. places e ++ later) (sym c.get-in-Compare.ensures) in
    let rest : Leads later c.eval-in-Compare.new.places.now = chain_rest (places c.get-in-Compare.result.now) later same c.requires c.in_ok-value-in-Compare.ensures.places in
    (search (rules, the_lemmas), (search rules, subst (λ ts. Leads (flat_map (λ t. places t.expr) ts) c.eval-in-Compare.new.places.now) (sym c.as_slice-in-Compare.ensures) rest))

pub eval_parts-returns-in_ok-value-in-Compare-clause-places : goal.eval_parts-returns-in_ok-value-in-Compare-clause-places
eval_parts-returns-in_ok-value-in-Compare-clause-places g t c =
    let places = expr_places c.args.graph.now.catalog in
    let later : List ℕ = flat_map (λ t. places t.expr) c.in-Compare.terms in
    let same : places c.args.expr.now ≡ places c.get-in-Compare.result.now ++ later = ap places c.in-Compare.is ∙ places_Compare _ _ _ ∙ ap (λ e. places e ++ later) (sym c.get-in-Compare.ensures) in
    subst (λ (l : List ℕ). IfOk c.eval_compares.result (λ _. c.eval_compares.new.places.now ≡ l))
    (ap (λ ts. past (flat_map (λ t. places t.expr) ts) c.eval-in-Compare.new.places.now) c.as_slice-in-Compare.ensures ∙ chain_past (places c.get-in-Compare.result.now) later same c.requires c.in_ok-value-in-Compare.ensures.places)
    c.eval_compares.ensures.places

pub eval_parts-eval-requires-in-Test : goal.eval_parts-eval-requires-in-Test
eval_parts-eval-requires-in-Test g t c κs within =
    let places = expr_places c.args.graph.now.catalog in
    let later : List ℕ = flat_map (tester_places c.args.graph.now.catalog) c.in-Test.testers in
    let same : places c.args.expr.now ≡ places c.get-in-Test.result.now ++ later = ap places c.in-Test.is ∙ places_Test _ _ _ ∙ ap (λ e. places e ++ later) (sym c.get-in-Test.ensures) in
    (search (rules, the_lemmas), (search rules, chain_first (places c.get-in-Test.result.now) later same c.requires))

pub eval_parts-eval_tests-requires : goal.eval_parts-eval_tests-requires
eval_parts-eval_tests-requires g t c κs within =
    let places = expr_places c.args.graph.now.catalog in
    let later : List ℕ = flat_map (tester_places c.args.graph.now.catalog) c.in-Test.testers in
    let same : places c.args.expr.now ≡ places c.get-in-Test.result.now ++ later = ap places c.in-Test.is ∙ places_Test _ _ _ ∙ ap (λ e. places e ++ later) (sym c.get-in-Test.ensures) in
    let rest : Leads later c.eval-in-Test.new.places.now = chain_rest (places c.get-in-Test.result.now) later same c.requires c.in_ok-value-in-Test.ensures.places in
    (search (rules, the_lemmas), (search rules, subst (λ ts. Leads (flat_map (tester_places c.args.graph.now.catalog) ts) c.eval-in-Test.new.places.now) (sym c.as_slice-in-Test.ensures) rest))

pub eval_parts-returns-in_ok-value-in-Test-clause-places : goal.eval_parts-returns-in_ok-value-in-Test-clause-places
eval_parts-returns-in_ok-value-in-Test-clause-places g t c =
    let places = expr_places c.args.graph.now.catalog in
    let later : List ℕ = flat_map (tester_places c.args.graph.now.catalog) c.in-Test.testers in
    let same : places c.args.expr.now ≡ places c.get-in-Test.result.now ++ later = ap places c.in-Test.is ∙ places_Test _ _ _ ∙ ap (λ e. places e ++ later) (sym c.get-in-Test.ensures) in
    subst (λ (l : List ℕ). IfOk c.eval_tests.result (λ _. c.eval_tests.new.places.now ≡ l))
    (ap (λ ts. past (flat_map (tester_places c.args.graph.now.catalog) ts) c.eval-in-Test.new.places.now) c.as_slice-in-Test.ensures ∙ chain_past (places c.get-in-Test.result.now) later same c.requires c.in_ok-value-in-Test.ensures.places)
    c.eval_tests.ensures.places

pub eval_parts-eval-requires-in-Arith : goal.eval_parts-eval-requires-in-Arith
eval_parts-eval-requires-in-Arith g t c κs within =
    let places = expr_places c.args.graph.now.catalog in
    let later : List ℕ = flat_map (λ t. places t.expr) c.in-Arith.terms in
    let same : places c.args.expr.now ≡ places c.get-in-Arith.result.now ++ later = ap places c.in-Arith.is ∙ places_Arith _ _ _ ∙ ap (λ e. places e ++ later) (sym c.get-in-Arith.ensures) in
    (search (rules, the_lemmas), (search rules, chain_first (places c.get-in-Arith.result.now) later same c.requires))

pub eval_parts-eval_ariths-requires : goal.eval_parts-eval_ariths-requires
eval_parts-eval_ariths-requires g t c κs within =
    let places = expr_places c.args.graph.now.catalog in
    let later : List ℕ = flat_map (λ t. places t.expr) c.in-Arith.terms in
    let same : places c.args.expr.now ≡ places c.get-in-Arith.result.now ++ later = ap places c.in-Arith.is ∙ places_Arith _ _ _ ∙ ap (λ e. places e ++ later) (sym c.get-in-Arith.ensures) in
    let rest : Leads later c.eval-in-Arith.new.places.now = chain_rest (places c.get-in-Arith.result.now) later same c.requires c.in_ok-value-in-Arith.ensures.places in
    (search (rules, the_lemmas), (search rules, subst (λ ts. Leads (flat_map (λ t. places t.expr) ts) c.eval-in-Arith.new.places.now) (sym c.as_slice-in-Arith.ensures) rest))

pub eval_parts-returns-in_ok-value-in-Arith-clause-places : goal.eval_parts-returns-in_ok-value-in-Arith-clause-places
eval_parts-returns-in_ok-value-in-Arith-clause-places g t c =
    let places = expr_places c.args.graph.now.catalog in
    let later : List ℕ = flat_map (λ t. places t.expr) c.in-Arith.terms in
    let same : places c.args.expr.now ≡ places c.get-in-Arith.result.now ++ later = ap places c.in-Arith.is ∙ places_Arith _ _ _ ∙ ap (λ e. places e ++ later) (sym c.get-in-Arith.ensures) in
    subst (λ (l : List ℕ). IfOk c.eval_ariths.result (λ _. c.eval_ariths.new.places.now ≡ l))
    (ap (λ ts. past (flat_map (λ t. places t.expr) ts) c.eval-in-Arith.new.places.now) c.as_slice-in-Arith.ensures ∙ chain_past (places c.get-in-Arith.result.now) later same c.requires c.in_ok-value-in-Arith.ensures.places)
    c.eval_ariths.ensures.places
