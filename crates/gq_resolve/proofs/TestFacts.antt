-- What holds of a condition holds of the paths that its conjuncts test, where it goes down to members of AND and to what stands in
-- parentheses or behind NOT.
use Rattle.std.proofs.Common.{◌≡◌, Option, Some, None, List, [], ◌∷◌, map, flat_map, refl, sym, ap, ◌∙◌, subst}
use Rattle.std.specs.Option.{option_map}
use Rattle.std.specs.List.{AllByRecursion}
use Rattle.gq_plan.proofs.Each.{each_append}
use Rattle.gq_ast.specs.declared.Ast.{Ast, Ast-F, roll-Ast, map-Ast, fold-roll-Ast, ind-Ast}
use Rattle.gq_ast.specs.declared.expression.Ast.TheShapes.{former-Ast-node as parts}
use Rattle.gq_ast.specs.declared.AstNode.{AstNode}
use Rattle.gq_ast.specs.declared.AstNode.TheVariants as ast
use Rattle.gq_ast.specs.declared.Path.{Path}
use Rattle.gq_resolve.proofs.Splits.{split_test}
use Rattle.gq_resolve.specs.PathTests.{PathTest, negated, test_of, test_step}
use Rattle.gq_scopes.specs.Scopes.{Scope}
use Rattle.gq_resolve.specs.Resolving.{Conjunct, Split, functions, split, split_node, split_step}

-- what goes down
pub record GoesDown (P : Ast → Type 0) (Q : Path → Type 0) : Type 0 where
  pub ands : (x : Ast-F Ast) (ts : List Ast) → x.node ≡ ast.And ts → P (roll-Ast x) → AllByRecursion P ts
  pub parens : (x : Ast-F Ast) (t : Ast) → x.node ≡ ast.Paren t → P (roll-Ast x) → P t
  pub nots : (x : Ast-F Ast) (t : Ast) → x.node ≡ ast.Not t → P (roll-Ast x) → P t
  pub tests : (x : Ast-F Ast) (path : Path) → x.node ≡ ast.Exists path → P (roll-Ast x) → Q path

module _ (P : Ast → Type 0) (Q : Path → Type 0) (down : GoesDown P Q) where
  -- it holds of the path of a test, if there is one
  abbrev pub Holds : Option PathTest → Type 0
  Holds None = Unit {0}
  Holds (Some t) = Q t.path

  -- ---- the test that a tree is

  abbrev IsGood : Ast → Type 0
  IsGood t = P t → Holds (test_of t)

  abbrev Part : Type 0
  Part = (t : Ast) × IsGood t

  abbrev seen : AstNode Part → AstNode Ast
  seen n = parts.map Part Ast (λ q. q.0) n

  denied : (o : Option PathTest) → Holds o → Holds (option_map negated o)
  denied None h = tt
  denied (Some t) h = h

  test_level : (y : Ast-F Part) (n : AstNode Part) → y.node ≡ n → P (roll-Ast (map-Ast Part Ast (λ q. q.0) y)) → Holds (test_step (parts.map Ast (Option PathTest) test_of (seen n)))
  test_level y (ast.Exists path) is p = down.tests (map-Ast Part Ast (λ q. q.0) y) path (ap seen is) p
  test_level y (ast.Paren q) is p = q.1 (down.parens (map-Ast Part Ast (λ q. q.0) y) q.0 (ap seen is) p)
  test_level y (ast.Not q) is p = denied (test_of q.0) (q.1 (down.nots (map-Ast Part Ast (λ q. q.0) y) q.0 (ap seen is) p))
  test_level y (ast.Literal l) is p = tt
  test_level y (ast.Variable name) is p = tt
  test_level y (ast.Property name key) is p = tt
  test_level y (ast.Call name qs) is p = tt
  test_level y (ast.Negate q) is p = tt
  test_level y (ast.Plus q) is p = tt
  test_level y (ast.Or qs) is p = tt
  test_level y (ast.Xor qs) is p = tt
  test_level y (ast.And qs) is p = tt
  test_level y (ast.Compare q ts) is p = tt
  test_level y (ast.Test q ts) is p = tt
  test_level y (ast.Sum q ts) is p = tt
  test_level y (ast.Product q ts) is p = tt

  test_roll : (x : Ast-F Ast) → test_of (roll-Ast x) ≡ test_step (parts.map Ast (Option PathTest) test_of x.node)
  unfolding test_of
  test_roll = fold-roll-Ast (Option PathTest) (λ a. test_step a.node)

  test_rolled : (y : Ast-F Part) → IsGood (roll-Ast (map-Ast Part Ast (λ q. q.0) y))
  test_rolled y p = subst Holds (sym (test_roll (map-Ast Part Ast (λ q. q.0) y))) (test_level y y.node refl p)

  pub test_good : (t : Ast) → P t → Holds (test_of t)
  test_good = ind-Ast IsGood (λ x y is. subst (λ z. IsGood (roll-Ast z)) is (test_rolled y))

  -- ---- those of its conjuncts

  module _ (s : Scope) where
    abbrev cut : Ast → Split
    cut = split functions s

    abbrev pub HoldsOf : Conjunct → Type 0
    HoldsOf c = Holds c.test

    abbrev AreGood : Ast → Type 0
    AreGood t = P t → AllByRecursion HoldsOf (cut t).conjuncts

    abbrev Piece : Type 0
    Piece = (t : Ast) × AreGood t

    abbrev trees : List Piece → List Ast
    trees qs = map (λ q. q.0) qs

    abbrev shown : AstNode Piece → AstNode Ast
    shown n = parts.map Piece Ast (λ q. q.0) n

    members : (qs : List Piece) → AllByRecursion P (trees qs) → AllByRecursion HoldsOf (flat_map (λ part. part.conjuncts) (map cut (trees qs)))
    members [] h = tt
    members (q ∷ qs) h = each_append HoldsOf (cut q.0).conjuncts (flat_map (λ part. part.conjuncts) (map cut (trees qs))) (q.1 h.0) (members qs h.1)

    level : (y : Ast-F Piece) (n : AstNode Piece) (whole : Conjunct) → y.node ≡ n → HoldsOf whole → P (roll-Ast (map-Ast Piece Ast (λ q. q.0) y))
        → AllByRecursion HoldsOf (split_node (parts.map Ast Split cut (shown n)) whole)
    level y (ast.And qs) whole is h p = members qs (down.ands (map-Ast Piece Ast (λ q. q.0) y) (trees qs) (ap shown is) p)
    level y (ast.Paren q) whole is h p = q.1 (down.parens (map-Ast Piece Ast (λ q. q.0) y) q.0 (ap shown is) p)
    level y (ast.Literal l) whole is h p = (h, tt)
    level y (ast.Variable name) whole is h p = (h, tt)
    level y (ast.Property name key) whole is h p = (h, tt)
    level y (ast.Call name qs) whole is h p = (h, tt)
    level y (ast.Exists path) whole is h p = (h, tt)
    level y (ast.Negate q) whole is h p = (h, tt)
    level y (ast.Plus q) whole is h p = (h, tt)
    level y (ast.Not q) whole is h p = (h, tt)
    level y (ast.Or qs) whole is h p = (h, tt)
    level y (ast.Xor qs) whole is h p = (h, tt)
    level y (ast.Compare q ts) whole is h p = (h, tt)
    level y (ast.Test q ts) whole is h p = (h, tt)
    level y (ast.Sum q ts) whole is h p = (h, tt)
    level y (ast.Product q ts) whole is h p = (h, tt)

    split_roll : (x : Ast-F Ast) → cut (roll-Ast x) ≡ split_step functions s (parts.map Ast Split cut x.node) x.span
    unfolding split
    split_roll = fold-roll-Ast Split (λ a. split_step functions s a.node a.span)

    rolled : (y : Ast-F Piece) → AreGood (roll-Ast (map-Ast Piece Ast (λ q. q.0) y))
    rolled y p =
        let x : Ast-F Ast = map-Ast Piece Ast (λ q. q.0) y in
        let step : Split = split_step functions s (parts.map Ast Split cut x.node) x.span in
        let whole : Conjunct = record { span = x.span; expr = step.expr; test = step.test } in
        let same : test_of (roll-Ast x) ≡ step.test = sym (split_test functions s (roll-Ast x)) ∙ ap (λ (part : Split). part.test) (split_roll x) in
        subst (λ (part : Split). AllByRecursion HoldsOf part.conjuncts) (sym (split_roll x))
        (level y y.node whole refl (subst Holds same (test_good (roll-Ast x) p)) p)

    -- each path that a conjunct tests has it
    pub each_test : (t : Ast) → P t → AllByRecursion HoldsOf (cut t).conjuncts
    each_test = ind-Ast AreGood (λ x y is. subst (λ z. AreGood (roll-Ast z)) is (rolled y))
