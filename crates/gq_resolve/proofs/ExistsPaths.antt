-- The equations of the paths of an expression and of those that are stray in a condition, with the tree opened by one level.
use Rattle.std.proofs.Common.{◌≡◌, ◌∙◌, ℕ, suc, ◌+◌, ◌<◌, List, [], ◌∷◌, ◌++◌, map, flat_map, length, drop, get_or, drop-cons, add-one, append_assoc, append-nil, refl, sym, ap, ap₂, subst}
use Rattle.std.proofs.lemmas.Grind.{flat_map-append}
use Rattle.std.proofs.lemmas.List.Folds.{flat_map-map}
use mathlib.Core.Former.{map-map}
use Rattle.gq_ast.specs.declared.Ast.{Ast, Ast-F, out-Ast, roll-Ast, map-Ast, fold-Ast, fold_out-Ast, fold-roll-Ast, ind-Ast}
use Rattle.gq_ast.specs.declared.expression.Ast.TheShapes.{former-Ast-node as parts}
use Rattle.gq_ast.specs.declared.AstNode.{AstNode}
use Rattle.gq_ast.specs.declared.AstNode.TheVariants as ast
use Rattle.gq_ast.specs.Operands.{in_tester}
use Rattle.gq_ast.specs.declared.Term.{Term}
use Rattle.gq_ast.specs.declared.Tester.{Tester}
use Rattle.gq_ast.specs.declared.Tester.TheVariants as tester
use Rattle.gq_resolve.proofs.UseLemmas.{uses_out}
use Rattle.gq_resolve.specs.PathTests.{PathTest}
use Rattle.gq_resolve.specs.Places.{Condition, condition_step, paths_in, strays, strays_in, untested, use_paths}
use Rattle.gq_resolve.specs.Uses.{all_uses, term_uses, uses}
use Rattle.gq_resolve.specs.steps.Places.{tester_paths}
use Rattle.gq_resolve.specs.steps.Trees.{term_with, tester_with}

abbrev seen : Ast → Condition
seen = fold-Ast Condition condition_step

-- ---- the tree that is looked at is the tree

abbrev Same : Ast → Type 0
Same t = (seen t).tree ≡ t

abbrev Part : Type 0
Part = (t : Ast) × Same t

abbrev shown : AstNode Part → AstNode Ast
shown n = parts.map Part Ast (λ q. q.0) n

level : (n : AstNode Part) → parts.map Condition Ast (λ part. part.tree) (parts.map Ast Condition seen (shown n)) ≡ shown n
level n =
    let each : ◌≡◌ {A = Part → Ast} (λ q. (seen q.0).tree) (λ q. q.0) = λ i. λ q. q.1 i in
    map-map parts Ast Condition Ast seen (λ part. part.tree) (shown n)
    ∙ map-map parts Part Ast Ast (λ q. q.0) (λ t. (seen t).tree) n
    ∙ ap (λ (f : Part → Ast). parts.map Part Ast f n) each

rolled : (y : Ast-F Part) → Same (roll-Ast (map-Ast Part Ast (λ q. q.0) y))
rolled y =
    let x : Ast-F Ast = map-Ast Part Ast (λ q. q.0) y in
    let step : seen (roll-Ast x) ≡ condition_step (map-Ast Ast Condition seen x) = fold-roll-Ast Condition condition_step x in
    ap (λ (c : Condition). c.tree) step ∙ ap (λ n. roll-Ast (record { node = n; span = y.span })) (level y.node)

tree_whole : (t : Ast) → (seen t).tree ≡ t
tree_whole = ind-Ast Same (λ x y is. subst (λ z. Same (roll-Ast z)) is (rolled y))

-- ---- one level of a condition

abbrev pub opened : AstNode Ast → Ast → List PathTest
opened (ast.And ts) whole = flat_map strays ts
opened (ast.Paren t) whole = strays t
opened node whole = untested whole

opens : (n : AstNode Ast) (whole : Ast) → strays_in (parts.map Ast Condition seen n) whole ≡ opened n whole
unfolding strays
opens (ast.And ts) whole = flat_map-map (λ (part : Condition). part.strays) seen ts
opens n whole = refl

pub strays_out : (t : Ast) → strays t ≡ opened (out-Ast t).node t
unfolding strays
strays_out t =
    let step : seen t ≡ condition_step (map-Ast Ast Condition seen (out-Ast t)) = fold_out-Ast Condition condition_step t in
    ap (λ (c : Condition). c.strays) step
    ∙ ap (strays_in (parts.map Ast Condition seen (out-Ast t).node)) (sym (ap (λ (c : Condition). c.tree) step) ∙ tree_whole t)
    ∙ opens (out-Ast t).node t

pub ruleset straying = strays_out

-- ---- one level of an expression

pub paths_all : (ts : List Ast) → flat_map use_paths (all_uses (map uses ts)) ≡ flat_map paths_in ts
paths_all [] = refl
paths_all (t ∷ ts) = flat_map-append use_paths (uses t) (all_uses (map uses ts)) ∙ ap (λ ps. paths_in t ++ ps) (paths_all ts)

pub paths_terms : {O : Type 0} (ts : List (Term O Ast)) → flat_map use_paths (all_uses (map term_uses (map (term_with uses) ts))) ≡ flat_map (λ (t : Term O Ast). paths_in t.tree) ts
paths_terms [] = refl
paths_terms (t ∷ ts) = flat_map-append use_paths (uses t.tree) (all_uses (map term_uses (map (term_with uses) ts))) ∙ ap (λ ps. paths_in t.tree ++ ps) (paths_terms ts)

pub paths_testers : (ts : List (Tester Ast)) → flat_map use_paths (all_uses (map in_tester (map (tester_with uses) ts))) ≡ flat_map tester_paths ts
paths_testers [] = refl
paths_testers (t ∷ ts) = flat_map-append use_paths (in_tester (tester_with uses t)) (all_uses (map in_tester (map (tester_with uses) ts))) ∙ ap₂ ◌++◌ (one t) (paths_testers ts)
  where
    one : (t : Tester Ast) → flat_map use_paths (in_tester (tester_with uses t)) ≡ tester_paths t
    one tester.IsNull = refl
    one tester.IsNotNull = refl
    one (tester.Member ls) = refl
    one (tester.Text test e) = refl

pub ruleset finding = (uses_out, flat_map-append, paths_all, paths_terms, paths_testers, append_assoc, append-nil)

-- ---- one more item of several

pub one_more : {X Y : Type 0} (f : X → List Y) (xs : List X) (i : ℕ) (x : X) → i < length xs → x ≡ get_or xs i x → (old new whole : List Y) → new ≡ old ++ f x
    → old ++ flat_map f (drop i xs) ≡ whole → new ++ flat_map f (drop (i + 1) xs) ≡ whole
one_more f xs i x low is old new whole e h =
    let cut : drop i xs ≡ x ∷ drop (i + 1) xs = rw (add-one i) (drop-cons xs i x low ∙ ap (λ z. z ∷ drop (suc i) xs) (sym is)) in
    ap (λ l. l ++ flat_map f (drop (i + 1) xs)) e
    ∙ append_assoc old (f x) (flat_map f (drop (i + 1) xs))
    ∙ sym (ap (λ l. old ++ flat_map f l) cut)
    ∙ h
