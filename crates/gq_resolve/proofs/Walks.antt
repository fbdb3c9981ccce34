-- What a walk over an expression gives, with the expression opened by one level: so whether two expressions are the same,
-- and whether one is made of columns.
use Rattle.std.proofs.Common.{◌≡◌, ◌∙◌, ap, ap₂, refl, sym, subst, Bool, true, false, ◌&&◌, ◌||◌, arith}
use Rattle.std.proofs.Common.{ℕ, zero, suc, ◌+◌, ◌-◌, ◌^◌, ◌<◌, ◌≤◌, max, min, arith, Option, Some, None}
use Rattle.std.proofs.Common.{List, [], ◌∷◌, length, map, get_or, drop}
use Rattle.std.specs.Prelude.{slice_get}
use Rattle.std.specs.Option.{option_map, option_and_then}
use Rattle.std.specs.List.{list_any, list_all}
use Rattle.std.specs.Cmp.Lexicographic.{pointwise}
use Rattle.std.proofs.Math.Bool.{and_comm}
use Rattle.std.proofs.lemmas.Bool.{and_parts}
use Rattle.std.proofs.lemmas.List.{drop_more, drop_all}
use Rattle.gq_expr.specs.steps.Parts.{operand_with}
use Rattle.gq_expr.specs.declared.Operand.{Operand}
use Rattle.gq_expr.specs.declared.Expr.{Expr, Expr-F, out-Expr, map-Expr, fold-Expr, fold_out-Expr}
use Rattle.gq_expr.specs.declared.expr.Expr.TheShapes.{former-Expr-Test-1}
use Rattle.gq_expr.specs.declared.Expr.TheVariants as expr
use Rattle.gq_expr.specs.declared.Tester.{Tester}
use Rattle.gq_expr.specs.declared.Tester.TheVariants as tester
use Rattle.gq_resolve.specs.Operands.{list_places, term_places, test_places, places, at_places}
use Rattle.gq_resolve.specs.Operands.{Step, walk_step, walk}
use Rattle.gq_resolve.specs.steps.Depths.{deepest, depth, told_depth}
use Rattle.gq_resolve.specs.MadeOf.{agrees, same_step, same_head, same_expr}
use Rattle.gq_resolve.specs.MadeOf.{is_made_alone, if_there, made_step, is_made_of}

-- ---- one level of a walk

module _ (A : Type 0) (go : Expr → Expr → A) where
  abbrev at_each : List (Option Expr) → List (Option A)
  at_each ps = map (option_map (λ e. go e e)) ps

  of_all : (es : List Expr) → at_places (list_places (map go es)) (list_places es) ≡ at_each (list_places es)
  of_all [] = refl
  of_all (e ∷ es) = ap (λ r. Some (go e e) ∷ r) (of_all es)

  of_terms : {O : Type 0} (ts : List (Operand O Expr))
      → at_places (term_places (map (operand_with go) ts)) (term_places ts) ≡ at_each (term_places ts)
  of_terms [] = refl
  of_terms (t ∷ ts) = ap (λ r. Some (go t.expr t.expr) ∷ r) (of_terms ts)

  of_tests : (ts : List (Tester Expr))
      → at_places (test_places (former-Expr-Test-1.map Expr (Expr → A) go ts)) (test_places ts) ≡ at_each (test_places ts)
  of_tests [] = refl
  of_tests (tester.IsNull ∷ ts) = ap (λ r. None ∷ r) (of_tests ts)
  of_tests (tester.IsNotNull ∷ ts) = ap (λ r. None ∷ r) (of_tests ts)
  of_tests (tester.Member ls ∷ ts) = ap (λ r. None ∷ r) (of_tests ts)
  of_tests (tester.Text test e ∷ ts) = ap (λ r. Some (go e e) ∷ r) (of_tests ts)

  of_level : (l : Expr-F Expr) → at_places (places (map-Expr Expr (Expr → A) go l)) (places l) ≡ at_each (places l)
  of_level (Expr-F.Coalesce es) = of_all es
  of_level (Expr-F.Or es) = of_all es
  of_level (Expr-F.Xor es) = of_all es
  of_level (Expr-F.And es) = of_all es
  of_level (Expr-F.Compare e ts) = ap (λ r. Some (go e e) ∷ r) (of_terms ts)
  of_level (Expr-F.Test e ts) = ap (λ r. Some (go e e) ∷ r) (of_tests ts)
  of_level (Expr-F.Arith e ts) = ap (λ r. Some (go e e) ∷ r) (of_terms ts)
  of_level l = refl

-- a walk is its step at the expression, and at what the walk gives for the operands
pub walk_out : {A : Type 0} (step : Step A) (e : Expr)
    → walk step e ≡ step e (map (option_map (walk step)) (places (out-Expr e)))
unfolding walk
walk_out {A} step e =
    ap (λ (f : Expr → A). f e) (fold_out-Expr (Expr → A) (walk_step step) e)
    ∙ ap (step e) (of_level A (fold-Expr (Expr → A) (walk_step step)) (out-Expr e))

-- ---- the depth of an expression, by which a recursion over its operands ends

abbrev pub depth_of : List (Option Expr) → ℕ
depth_of ps = deepest (map (option_map depth) ps)

pub depth_out : (e : Expr) → depth e ≡ suc (depth_of (places (out-Expr e)))
unfolding depth
depth_out e = walk_out _ e

abbrev Fits : ℕ → Option Expr → Type 0
Fits n None = Unit {0}
Fits n (Some e) = depth e ≤ n

looser : (m n : ℕ) (o : Option Expr) → m ≤ n → Fits m o → Fits n o
looser m n None le h = tt
looser m n (Some e) le h = omega arith

each_fits : (ps : List (Option Expr)) (i : ℕ) → Fits (depth_of ps) (get_or ps i None)
each_fits [] i = tt
each_fits (None ∷ ps) zero = tt
each_fits (Some e ∷ ps) zero = omega arith
each_fits (None ∷ ps) (suc i) = each_fits ps i
each_fits (Some e ∷ ps) (suc i) =
    looser (depth_of ps) (max (depth e) (depth_of ps)) (get_or ps i None) (omega arith) (each_fits ps i)

-- an operand is less deep than the expression
pub shallower : (e p : Expr) (i : ℕ) → Some p ≡ get_or (places (out-Expr e)) i None → depth p < depth e
shallower e p i is =
    let ps : List (Option Expr) = places (out-Expr e) in
    let deep : depth e ≡ suc (depth_of ps) = depth_out e in
    let fits : depth p ≤ depth_of ps = subst (Fits (depth_of ps)) (sym is) (each_fits ps i) in
    omega arith

-- ---- when two expressions are the same

-- two operands at one place are the same, or there is neither
abbrev pub same_place : Option Expr → Option Expr → Bool
same_place None None = true
same_place (Some d) (Some e) = same_expr d e
same_place d e = false

agree_at : (p q : Option Expr) → agrees (option_map same_expr p) q ≡ same_place p q
agree_at None None = refl
agree_at None (Some e) = refl
agree_at (Some d) None = refl
agree_at (Some d) (Some e) = refl

agree : (ps qs : List (Option Expr)) → pointwise agrees (map (option_map same_expr) ps) qs ≡ pointwise same_place ps qs
agree [] [] = refl
agree [] (q ∷ qs) = refl
agree (p ∷ ps) [] = refl
agree (p ∷ ps) (q ∷ qs) = ap₂ ◌&&◌ (agree_at p q) (agree ps qs)

pub same_out : (d e : Expr)
    → same_expr d e ≡ (same_head (out-Expr d) (out-Expr e) && pointwise same_place (places (out-Expr d)) (places (out-Expr e)))
unfolding same_expr
same_out d e =
    ap (λ (t : Expr → Bool). t e) (walk_out same_step d)
    ∙ ap (λ b. same_head (out-Expr d) (out-Expr e) && b) (agree (places (out-Expr d)) (places (out-Expr e)))

-- ---- the same expressions are as deep

-- operands that are the same place by place are as deep, where those up to this depth are that are the same
places_deep : (n : ℕ) → ((d e : Expr) → depth d ≤ n → same_expr d e ≡ true → depth d ≡ depth e)
    → (ps qs : List (Option Expr)) → depth_of ps ≤ n → pointwise same_place ps qs ≡ true → depth_of ps ≡ depth_of qs
places_deep n known [] [] low same = refl
places_deep n known [] (q ∷ qs) low same = cc same
places_deep n known (p ∷ ps) [] low same = cc same
places_deep n known (None ∷ ps) (None ∷ qs) low same = places_deep n known ps qs low same
places_deep n known (None ∷ ps) (Some e ∷ qs) low same = cc same
places_deep n known (Some d ∷ ps) (None ∷ qs) low same = cc same
places_deep n known (Some d ∷ ps) (Some e ∷ qs) low same =
    let both = and_parts (same_expr d e) (pointwise same_place ps qs) same in
    let here = known d e (omega (arith, low)) both.0 in
    let rest = places_deep n known ps qs (omega (arith, low)) both.1 in
    ap₂ max here rest

deep_to : (n : ℕ) (d e : Expr) → depth d ≤ n → same_expr d e ≡ true → depth d ≡ depth e
deep_to zero d e low same = let here = depth_out d in absurd (omega (arith, low, here))
deep_to (suc n) d e low same =
    let here = depth_out d in
    let both = and_parts (same_head (out-Expr d) (out-Expr e)) (pointwise same_place (places (out-Expr d)) (places (out-Expr e))) (sym (same_out d e) ∙ same) in
    here ∙ ap suc (places_deep n (deep_to n) (places (out-Expr d)) (places (out-Expr e)) (omega (arith, low, here)) both.1) ∙ sym (depth_out e)

-- an expression is not the same as one of another depth
pub deep_apart : (d e : Expr) → (told_depth e ≡ told_depth d → ⊥) → same_expr d e ≡ false
deep_apart d e apart = by (same_expr d e) refl
  where
    by : (b : Bool) → same_expr d e ≡ b → same_expr d e ≡ false
    by false is = is
    by true is = absurd (apart (ap (λ n. min n (2 ^ 64 - 1)) (sym (deep_to (depth d) d e (omega arith) is))))

counted : (most d n m : ℕ) → n ≡ min d most → m ≡ min (n + 1) most → m ≡ min (suc d) most
counted most d n m is next = omega (arith, is, next)

-- an expression is one level deeper than its deepest operand, as it is counted
pub told_out : (e : Expr) (n m : ℕ) → n ≡ min (depth_of (places (out-Expr e))) (2 ^ 64 - 1) → m ≡ min (n + 1) (2 ^ 64 - 1) → m ≡ told_depth e
told_out e n m is next = counted (2 ^ 64 - 1) (depth_of (places (out-Expr e))) n m is next ∙ ap (λ k. min k (2 ^ 64 - 1)) (sym (depth_out e))

-- an expression without operands is one level deep
leaf : (e : Expr) → places (out-Expr e) ≡ [] → 1 ≡ told_depth e
leaf e none = let one : depth e ≡ 1 = depth_out e ∙ ap (λ ps. suc (depth_of ps)) none in ap (λ n. min n (2 ^ 64 - 1)) (sym one)

pub node_depth : (v : ℕ) → 1 ≡ told_depth (expr.Node v)
unfolding out-Expr denote.Hole.Carrier.out
node_depth v = leaf (expr.Node v) refl

pub rel_depth : (x : ℕ) → 1 ≡ told_depth (expr.Rel x)
unfolding out-Expr denote.Hole.Carrier.out
rel_depth x = leaf (expr.Rel x) refl

-- ---- when an expression is made of columns

abbrev pub made_place : List Expr → Option Expr → Bool
made_place columns None = true
made_place columns (Some e) = is_made_of columns e

all_made : (columns : List Expr) (ps : List (Option Expr))
    → list_all if_there (map (option_map (is_made_of columns)) ps) ≡ list_all (made_place columns) ps
all_made columns [] = refl
all_made columns (None ∷ ps) = all_made columns ps
all_made columns (Some e ∷ ps) = ap (λ b. is_made_of columns e && b) (all_made columns ps)

-- made of columns by what an expression is besides its operands, and by these
abbrev pub made_by : List Expr → Expr-F Expr → Bool
made_by columns level = is_made_alone columns level && list_all (made_place columns) (places level)

pub made_out : (columns : List Expr) (e : Expr)
    → is_made_of columns e ≡ (list_any (same_expr e) columns || made_by columns (out-Expr e))
unfolding is_made_of
made_out columns e =
    walk_out (made_step columns) e
    ∙ ap (λ b. list_any (same_expr e) columns || (is_made_alone columns (out-Expr e) && b)) (all_made columns (places (out-Expr e)))

-- ---- loops over the places of operands

-- what stands at a place, for the function that looks for it
pub at_place : {X A : Type 0} (f : X → Option A) (xs : List X) (i : ℕ)
    → get_or (map f xs) i None ≡ option_and_then f (slice_get xs i)
at_place f [] i = refl
at_place f (x ∷ xs) zero = refl
at_place f (x ∷ xs) (suc i) = at_place f xs i

pub at_list : {A : Type 0} (xs : List A) (i : ℕ) → get_or (list_places xs) i None ≡ slice_get xs i
at_list [] i = refl
at_list (x ∷ xs) zero = refl
at_list (x ∷ xs) (suc i) = at_list xs i

module _ (ps qs : List (Option Expr)) where
  abbrev from : ℕ → Bool
  from i = pointwise same_place (drop i ps) (drop i qs)

  pub same_at : (i : ℕ) → i < length ps → i < length qs
      → from i ≡ (same_place (get_or ps i None) (get_or qs i None) && from (i + 1))
  same_at i h k = ap₂ (pointwise same_place) (drop_more ps i None h) (drop_more qs i None k)

  pub same_end : (n : ℕ) → length ps ≤ n → length qs ≤ n → from n ≡ true
  same_end n h k = ap₂ (pointwise same_place) (drop_all n ps h) (drop_all n qs k)

pub and_true : (a : Bool) → (a && true) ≡ a
and_true a = grind arith

pub and_false : (a : Bool) → (a && false) ≡ false
and_false a = grind arith

uneven : (ps qs : List (Option Expr)) → (length qs ≡ length ps → ⊥)
    → pointwise same_place ps qs ≡ false
uneven [] [] h = absurd (h refl)
uneven [] (q ∷ qs) h = refl
uneven (p ∷ ps) [] h = refl
uneven (p ∷ ps) (q ∷ qs) h =
    ap (λ b. same_place p q && b) (uneven ps qs (λ e. h (ap suc e))) ∙ and_false (same_place p q)

-- expressions with other numbers of places differ
pub differ : (d e : Expr) → (length (places (out-Expr e)) ≡ length (places (out-Expr d)) → ⊥)
    → false ≡ same_expr d e
differ d e h =
    let head : Bool = same_head (out-Expr d) (out-Expr e) in
    let none = uneven (places (out-Expr d)) (places (out-Expr e)) h in
    sym (same_out d e ∙ ap (λ b. head && b) none ∙ and_false head)

module _ (columns : List Expr) (ps : List (Option Expr)) where
  abbrev made_from : ℕ → Bool
  made_from i = list_all (made_place columns) (drop i ps)

  pub made_at : (i : ℕ) → i < length ps → made_from i ≡ (made_place columns (get_or ps i None) && made_from (i + 1))
  made_at i h = ap (list_all (made_place columns)) (drop_more ps i None h)

  pub made_end : (n : ℕ) → length ps ≤ n → made_from n ≡ true
  made_end n h = ap (list_all (made_place columns)) (drop_all n ps h)

-- the depths of operands from a place on
module _ (ps : List (Option Expr)) where
  pub deep_at : (i : ℕ) → i < length ps → depth_of (drop i ps) ≡ depth_of (get_or ps i None ∷ drop (i + 1) ps)
  deep_at i h = ap depth_of (drop_more ps i None h)

  deep_end : (n : ℕ) → length ps ≤ n → depth_of (drop n ps) ≡ 0
  deep_end n h = ap depth_of (drop_all n ps h)

  -- where no place is left
  pub told_end : (most i n : ℕ) → length ps ≤ i → max n (min (depth_of (drop i ps)) most) ≡ min (depth_of ps) most → n ≡ min (depth_of ps) most
  told_end most i n over is = let end = deep_end i over in omega (arith, end, is)

  pub all_end : (columns : List Expr) (i : ℕ) (b : Bool) → length ps ≤ i → (b && list_all (made_place columns) (drop i ps)) ≡ list_all (made_place columns) ps
      → b ≡ list_all (made_place columns) ps
  all_end columns i b over is = sym (and_true b) ∙ ap (λ c. b && c) (sym (ap (list_all (made_place columns)) (drop_all i ps over))) ∙ is

-- what an expression is, where it is a column or not, where its operands are made of columns or not
pub made_told : (columns : List Expr) (e : Expr) (column alone parts : Bool) → column ≡ list_any (same_expr e) columns
    → alone ≡ is_made_alone columns (out-Expr e) → parts ≡ list_all (made_place columns) (places (out-Expr e))
    → (column || (parts && alone)) ≡ is_made_of columns e
made_told columns e column alone parts is level operands =
    ap₂ (λ c p. c || p) is (ap₂ (λ p a. p && a) operands level
    ∙ and_comm (list_all (made_place columns) (places (out-Expr e))) (is_made_alone columns (out-Expr e))) ∙ sym (made_out columns e)

pub ruleset sameness = (same_out, same_at, same_end)

pub ruleset making = (made_out, made_at, made_end)
