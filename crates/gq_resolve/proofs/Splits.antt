-- The equation of the conjuncts of a condition, with a tree opened by one level; a condition that is split stands for
-- what the tree stands for, and is the test that the tree is.
use Rattle.std.proofs.Common.{◌≡◌, ◌∙◌, ℕ, suc, ◌+◌, ◌<◌, length, drop, get_or, drop-cons, add-one, sym, ap, ap₂, refl, subst, List, [], ◌∷◌, ◌++◌, map, filter, flat_map, append-nil, append_assoc, Option, Some, None}
use Rattle.std.specs.Option.{option_map}
use Rattle.std.proofs.lemmas.List.{map-append}
use Rattle.std.proofs.lemmas.List.Elements.{filter-append, filter_map-append}
use Rattle.std.proofs.lemmas.List.Folds.{flat_map-map}
use mathlib.Core.Former.{map-map}
use Rattle.gq_base.proofs.ListLaws.{prepend, prepend-first}
use Rattle.gq_expr.specs.declared.Expr.{Expr}
use Rattle.gq_ast.specs.declared.Span.{Span}
use Rattle.gq_plan.specs.declared.NamedExpr.{NamedExpr}
use Rattle.gq_ast.specs.declared.Ast.{Ast, Ast-F, out-Ast, roll-Ast, map-Ast, fold-Ast, fold_out-Ast, fold-roll-Ast, ind-Ast}
use Rattle.gq_ast.specs.declared.expression.Ast.TheShapes.{former-Ast-node as parts}
use Rattle.gq_ast.specs.declared.AstNode.{AstNode}
use Rattle.gq_ast.specs.declared.AstNode.TheVariants as ast
use Rattle.gq_resolve.specs.Conjuncts.{NamedTest, conjunct_expr, is_value, named_test, tests_of, values_of}
use Rattle.gq_resolve.specs.PathTests.{PathTest, test_of, test_step}
use Rattle.gq_resolve.specs.steps.Conjuncts.{conjuncts_in, joined_to, listed_behind, whole_conjunct}
use Rattle.gq_resolve.specs.Resolving.{Calls, Conjunct, Split, functions, resolved, resolve_step, split, split_node, split_step, all_some}
use Rattle.gq_resolve.specs.declared.conjuncts.Conjuncts.{Conjuncts}
use Rattle.gq_scopes.specs.Scopes.{Scope}

module _ (calls : Calls) (s : Scope) where
  -- what a fold gives of a tree is what it gives of each level, where it does so of what is split
  module _ (A : Type 0) (get : Split → A) (step : AstNode A → A) (is : (n : AstNode Split) (span : Span) → get (split_step calls s n span) ≡ step (parts.map Split A get n)) where
    abbrev folded : Ast → A
    folded = fold-Ast A (λ a. step a.node)

    abbrev Same : Ast → Type 0
    Same t = get (split calls s t) ≡ folded t

    abbrev Part : Type 0
    Part = (t : Ast) × Same t

    abbrev seen : AstNode Part → AstNode Ast
    seen n = parts.map Part Ast (λ q. q.0) n

    level : (n : AstNode Part) → parts.map Split A get (parts.map Ast Split (split calls s) (seen n)) ≡ parts.map Ast A folded (seen n)
    level n =
        let each : ◌≡◌ {A = Part → A} (λ q. get (split calls s q.0)) (λ q. folded q.0) = λ i. λ q. q.1 i in
        map-map parts Ast Split A (split calls s) get (seen n)
        ∙ map-map parts Part Ast A (λ q. q.0) (λ t. get (split calls s t)) n
        ∙ ap (λ (f : Part → A). parts.map Part A f n) each
        ∙ sym (map-map parts Part Ast A (λ q. q.0) folded n)

    split_roll : (x : Ast-F Ast) → split calls s (roll-Ast x) ≡ split_step calls s (parts.map Ast Split (split calls s) x.node) x.span
    unfolding split
    split_roll = fold-roll-Ast Split (λ a. split_step calls s a.node a.span)

    folded_roll : (x : Ast-F Ast) → folded (roll-Ast x) ≡ step (parts.map Ast A folded x.node)
    folded_roll = fold-roll-Ast A (λ a. step a.node)

    rolled : (y : Ast-F Part) → Same (roll-Ast (map-Ast Part Ast (λ q. q.0) y))
    rolled y =
        let x : Ast-F Ast = map-Ast Part Ast (λ q. q.0) y in
        ap get (split_roll x) ∙ is (parts.map Ast Split (split calls s) x.node) x.span ∙ ap step (level y.node) ∙ sym (folded_roll x)

    split_folded : (t : Ast) → get (split calls s t) ≡ folded t
    split_folded = ind-Ast Same (λ x y is. subst (λ z. Same (roll-Ast z)) is (rolled y))

  -- a condition that is split stands for what the tree stands for
  pub split_whole : (t : Ast) → (split calls s t).expr ≡ resolved calls s t
  unfolding resolved
  split_whole = split_folded (Option Expr) (λ part. part.expr) (resolve_step calls s) (λ n span. refl)

  -- and is the test that the tree is
  pub split_test : (t : Ast) → (split calls s t).test ≡ test_of t
  unfolding test_of
  split_test = split_folded (Option PathTest) (λ part. part.test) test_step (λ n span. refl)

  -- the conjuncts of one level of a condition
  abbrev pub opened : AstNode Ast → Conjunct → List Conjunct
  opened (ast.And ts) whole = flat_map (λ t. (split calls s t).conjuncts) ts
  opened (ast.Paren t) whole = (split calls s t).conjuncts
  opened node whole = whole ∷ []

  opens : (n : AstNode Ast) (whole : Conjunct) → split_node (parts.map Ast Split (split calls s) n) whole ≡ opened n whole
  opens (ast.And ts) whole = flat_map-map (λ part. part.conjuncts) (split calls s) ts
  opens n whole = refl

  split_at : (t : Ast) → split calls s t ≡ split_step calls s (parts.map Ast Split (split calls s) (out-Ast t).node) (out-Ast t).span
  unfolding split
  split_at = fold_out-Ast Split (λ a. split_step calls s a.node a.span)

  -- the conjuncts of a tree, with the tree opened by one level
  pub split_out : (t : Ast) → (split calls s t).conjuncts ≡ opened (out-Ast t).node (record { span = (out-Ast t).span; expr = resolved calls s t; test = test_of t })
  split_out t =
      let n : AstNode Split = parts.map Ast Split (split calls s) (out-Ast t).node in
      let whole : (split_step calls s n (out-Ast t).span).expr ≡ resolved calls s t = sym (ap (λ part. part.expr) (split_at t)) ∙ split_whole t in
      let test : (split_step calls s n (out-Ast t).span).test ≡ test_of t = sym (ap (λ part. part.test) (split_at t)) ∙ split_test t in
      ap (λ part. part.conjuncts) (split_at t)
      ∙ ap₂ (λ e o. split_node n (record { span = (out-Ast t).span; expr = e; test = o })) whole test
      ∙ opens (out-Ast t).node (record { span = (out-Ast t).span; expr = resolved calls s t; test = test_of t })

-- the conjuncts of AND, and of parentheses
pub and_conjuncts : (s : Scope) (t : Ast) (ts : List Ast) → (out-Ast t).node ≡ ast.And ts → (split functions s t).conjuncts ≡ conjuncts_in s ts
and_conjuncts s t ts is = split_out functions s t ∙ ap (λ n. opened functions s n (whole_conjunct s t)) is

pub paren_conjuncts : (s : Scope) (t x : Ast) → (out-Ast t).node ≡ ast.Paren x → (split functions s t).conjuncts ≡ (split functions s x).conjuncts
paren_conjuncts s t x is = split_out functions s t ∙ ap (λ n. opened functions s n (whole_conjunct s t)) is

alone : (s : Scope) (n : AstNode Ast) (w : Conjunct) → ((ts : List Ast) → n ≡ ast.And ts → ⊥) → ((x : Ast) → n ≡ ast.Paren x → ⊥) → opened functions s n w ≡ w ∷ []
alone s (ast.And ts) w h k = absurd (h ts refl)
alone s (ast.Paren x) w h k = absurd (k x refl)
alone s _ w h k = refl

-- any other condition is one conjunct
pub other_conjuncts : (s : Scope) (t : Ast) → ((ts : List Ast) → (out-Ast t).node ≡ ast.And ts → ⊥) → ((x : Ast) → (out-Ast t).node ≡ ast.Paren x → ⊥)
    → (split functions s t).conjuncts ≡ whole_conjunct s t ∷ []
other_conjuncts s t h k = split_out functions s t ∙ alone s (out-Ast t).node (whole_conjunct s t) h k

-- items, if they are there, and then those that follow
abbrev followed : {A : Type 0} → Option (List A) → List (Option A) → Option (List A)
followed None os = None
followed (Some all) os = prepend all (all_some os)

gathered : {A : Type 0} (before : List A) (os ps : List (Option A)) → prepend before (all_some (os ++ ps)) ≡ followed (prepend before (all_some os)) ps
gathered before [] ps = ap (λ l. prepend l (all_some ps)) (sym (append-nil before))
gathered before (None ∷ os) ps = refl
gathered before (Some a ∷ os) ps =
    prepend-first before a (all_some (os ++ ps)) ∙ gathered (before ++ a ∷ []) os ps ∙ ap (λ o. followed o ps) (sym (prepend-first before a (all_some os)))

-- conjuncts, if they are there, and then those that follow
abbrev pub after : List ℕ → Option Conjuncts → List Conjunct → Option Conjuncts
after text None cs = None
after text (Some all) cs = listed_behind all text cs

abbrev then_joined : Option Conjuncts → List (Option NamedExpr) → List NamedTest → Option Conjuncts
then_joined None os us = None
then_joined (Some all) os us = joined_to all (all_some os) us

-- joined in two steps
joined_more : (before : Conjuncts) (os ps : List (Option NamedExpr)) (ts us : List NamedTest)
    → joined_to before (all_some (os ++ ps)) (ts ++ us) ≡ then_joined (joined_to before (all_some os) ts) ps us
joined_more before os ps ts us =
    tested (all_some (os ++ ps)) (ts ++ us)
    ∙ ap (option_map (made (ts ++ us))) (gathered before.values os ps)
    ∙ go (all_some os)
  where
    made : List NamedTest → List NamedExpr → Conjuncts
    made vs es = record { values = es; tests = before.tests ++ vs }

    tested : (o : Option (List NamedExpr)) (vs : List NamedTest) → joined_to before o vs ≡ option_map (made vs) (prepend before.values o)
    tested None vs = refl
    tested (Some es) vs = refl

    go : (o : Option (List NamedExpr)) → option_map (made (ts ++ us)) (followed (prepend before.values o) ps) ≡ then_joined (joined_to before o ts) ps us
    go None = refl
    go (Some es) = last (all_some ps)
      where
        last : (o : Option (List NamedExpr)) → option_map (made (ts ++ us)) (prepend (before.values ++ es) o) ≡ joined_to (record { values = before.values ++ es; tests = before.tests ++ ts }) o us
        last None = refl
        last (Some fs) = ap (λ l. Some (record { values = (before.values ++ es) ++ fs; tests = l })) (sym (append_assoc before.tests ts us))

-- conjuncts behind others, in two steps
pub behind_more : (before : Conjuncts) (text : List ℕ) (cs ds : List Conjunct) → listed_behind before text (cs ++ ds) ≡ after text (listed_behind before text cs) ds
behind_more before text cs ds =
    ap₂ (λ os ts. joined_to before (all_some os) ts)
    (ap (map (conjunct_expr text)) (filter-append is_value cs ds) ∙ map-append (conjunct_expr text) (filter is_value cs) (filter is_value ds))
    (filter_map-append (named_test text) cs ds)
    ∙ joined_more before (values_of text cs) (values_of text ds) (tests_of text cs) (tests_of text ds)
    ∙ go (listed_behind before text cs)
  where
    go : (o : Option Conjuncts) → then_joined o (values_of text ds) (tests_of text ds) ≡ after text o ds
    go None = refl
    go (Some all) = refl

-- one more condition of several, whose conjuncts behind others are known
pub one_more : (before : Conjuncts) (text : List ℕ) (s : Scope) (ts : List Ast) (i : ℕ) (t : Ast) (o : Option Conjuncts) → i < length ts → t ≡ get_or ts i t
    → o ≡ listed_behind before text (split functions s t).conjuncts
    → listed_behind before text (conjuncts_in s (drop i ts)) ≡ after text o (conjuncts_in s (drop (i + 1) ts))
one_more before text s ts i t o h is e =
    let first : drop i ts ≡ t ∷ drop (i + 1) ts = rw (add-one i) (drop-cons ts i t h ∙ ap (λ x. x ∷ drop (suc i) ts) (sym is)) in
    ap (λ us. listed_behind before text (conjuncts_in s us)) first
    ∙ behind_more before text (split functions s t).conjuncts (conjuncts_in s (drop (i + 1) ts))
    ∙ ap (λ r. after text r (conjuncts_in s (drop (i + 1) ts))) (sym e)

pub ruleset opening = split_out
