-- Turned lists have the same relationships.
use Rattle.std.proofs.Common.{◌≡◌, ℕ, Bool, true, false, not, ◌&&◌, ◌||◌, cond, nat_eq, List, [], ◌∷◌, ◌++◌, reverse, refl, sym, ap, ap₂, ◌∙◌, arith}
use Rattle.std.specs.List.{list_all, list_any}
use Rattle.std.proofs.lemmas.List.{reverse-append}
use Rattle.std.proofs.lemmas.List.Folds.{list_any-append}
use Rattle.gq_base.specs.Lists.{all_distinct}
use Rattle.gq_base.specs.declared.RelId.{RelId}
use Rattle.gq_base.specs.declared.direction.Direction.{Direction}
use Rattle.gq_base.specs.declared.direction.Direction.TheVariants.{Forward, Backward}
use Rattle.gq_plan.specs.Assignments.{same_rel}
use Rattle.gq_scopes.specs.Patterns.{Pattern, MapEntry}
use Rattle.gq_plan.specs.declared.TrailPart.{TrailPart}
use Rattle.gq_law_trails.proofs.Apart.{swap_bits}
use Rattle.gq_law_trails.proofs.Free.{free_distinct, free_is, unused, unused_more}
use Rattle.gq_law_trails.specs.Apart.{lists_for}
use Rattle.gq_law_trails.specs.Met.{turned}
use Rattle.gq_plan.specs.Soundness.{has_number}
use Rattle.gq_law_reaches.specs.Core.{part_of, parts_from}
use Rattle.gq_law_reaches.specs.Reaches.{TrailPattern, lists_in}
use Rattle.gq_law_reaches.specs.Turned.{TurnedDiffer, turned_all}
use Rattle.gq_plan.specs.declared.NamedExpr.{NamedExpr}

or_swap : (a b : Bool) → (a || b) ≡ (b || a)
or_swap a b = grind arith

none_unused : (b : List RelId) → unused [] b ≡ true
none_unused [] = refl
none_unused (r ∷ b) = none_unused b

unused_swap : (a b : List RelId) → unused a b ≡ unused b a
unused_swap [] b = none_unused b
unused_swap (u ∷ a) b = unused_more u a b ∙ ap (λ c. not (list_any (same_rel u) b) && c) (unused_swap a b)

distinct_is : (a b : List RelId) → all_distinct same_rel (a ++ b) ≡ (all_distinct same_rel a && (unused a b && all_distinct same_rel b))
distinct_is a b = free_distinct a b ∙ ap (λ c. all_distinct same_rel a && c) (free_is a b)

-- two lists have the same relationships, and are both of different ones or both not
record AreAlike (a b : List RelId) : Type 0 where
  distinct : all_distinct same_rel a ≡ all_distinct same_rel b
  any : (u : RelId) → list_any (same_rel u) a ≡ list_any (same_rel u) b

same_list : (a : List RelId) → AreAlike a a
same_list a = record { distinct = refl; any = λ u. refl }

unused_alike : (a b c : List RelId) → AreAlike a b → unused a c ≡ unused b c
unused_alike a b [] same = refl
unused_alike a b (r ∷ c) same = ap₂ ◌&&◌ (ap not (same.any r)) (unused_alike a b c same)

-- one behind another
both_alike : (a b c d : List RelId) → AreAlike a b → AreAlike c d → AreAlike (a ++ c) (b ++ d)
both_alike a b c d left right = record {
  distinct =
      distinct_is a c
      ∙ ap₂ (λ x y. x && (y && all_distinct same_rel c)) left.distinct (unused_alike a b c left ∙ unused_swap b c ∙ unused_alike c d b right ∙ unused_swap d b)
      ∙ ap (λ x. all_distinct same_rel b && (unused b d && x)) right.distinct
      ∙ sym (distinct_is b d);
  any = λ u. list_any-append (same_rel u) a c ∙ ap₂ ◌||◌ (left.any u) (right.any u) ∙ sym (list_any-append (same_rel u) b d);
}

swapped : (a b : List RelId) → AreAlike (a ++ b) (b ++ a)
swapped a b = record {
  distinct = distinct_is a b ∙ swap_bits (all_distinct same_rel a) (unused a b) (all_distinct same_rel b) ∙ ap (λ c. all_distinct same_rel b && (c && all_distinct same_rel a)) (unused_swap a b) ∙ sym (distinct_is b a);
  any = λ u. list_any-append (same_rel u) a b ∙ or_swap (list_any (same_rel u) a) (list_any (same_rel u) b) ∙ sym (list_any-append (same_rel u) b a);
}

then_alike : (a b c : List RelId) → AreAlike a b → AreAlike b c → AreAlike a c
then_alike a b c h k = record { distinct = h.distinct ∙ k.distinct; any = λ u. h.any u ∙ k.any u }

is_alike : (a b : List RelId) → a ≡ b → AreAlike a b
is_alike a b e = record { distinct = ap (all_distinct same_rel) e; any = λ u. ap (list_any (same_rel u)) e }

reversed : (l : List RelId) → AreAlike (reverse l) l
reversed [] = same_list []
reversed (r ∷ l) =
    then_alike (reverse (r ∷ l)) (reverse l ++ r ∷ []) (r ∷ l) (is_alike (reverse (r ∷ l)) (reverse l ++ r ∷ []) (reverse-append (r ∷ []) l))
    (then_alike (reverse l ++ r ∷ []) (l ++ r ∷ []) (r ∷ l) (both_alike (reverse l) l (r ∷ []) (r ∷ []) (reversed l) (same_list (r ∷ []))) (swapped l (r ∷ [])))

turned_alike : (way : Direction) (l : List RelId) → AreAlike (turned way l) l
turned_alike Forward l = same_list l
turned_alike Backward l = reversed l

chosen : (b : Bool) (l m : List RelId) → AreAlike l m → AreAlike (cond b l []) (cond b m [])
chosen true l m h = h
chosen false l m h = same_list []

module _ (test : MapEntry → NamedExpr) (p : Pattern) where
  lists_alike : (clause : ℕ) (known : List ℕ) (ts : List TrailPattern) (ls : List (List RelId))
      → AreAlike (lists_for clause (parts_from test p known ts) (turned_all (parts_from test p known ts) ls)) (lists_in clause ts ls)
  lists_alike clause known [] ls = same_list []
  lists_alike clause known (t ∷ ts) [] = same_list []
  lists_alike clause known (t ∷ ts) (l ∷ ls) =
      let q : TrailPart = part_of test p (has_number known t.left) (has_number known t.right) t in
      let more : List TrailPart = parts_from test p (t.left ∷ t.right ∷ known) ts in
      both_alike (cond (nat_eq t.clause clause) (turned q.way l) []) (cond (nat_eq t.clause clause) l []) (lists_for clause more (turned_all more ls)) (lists_in clause ts ls)
      (chosen (nat_eq t.clause clause) (turned q.way l) l (turned_alike q.way l))
      (lists_alike clause (t.left ∷ t.right ∷ known) ts ls)

  -- a test of the clauses of parts is one of the clauses of trails
  each_clause : (holds : ℕ → Bool) (known : List ℕ) (ts : List TrailPattern) → list_all (λ (q : TrailPart). holds q.clause) (parts_from test p known ts) ≡ list_all (λ (t : TrailPattern). holds t.clause) ts
  each_clause holds known [] = refl
  each_clause holds known (t ∷ ts) = ap (λ b. holds t.clause && b) (each_clause holds (t.left ∷ t.right ∷ known) ts)

all_same : {A : Type 0} (f h : A → Bool) → ((x : A) → f x ≡ h x) → (xs : List A) → list_all f xs ≡ list_all h xs
all_same f h same [] = refl
all_same f h same (x ∷ xs) = ap₂ ◌&&◌ (same x) (all_same f h same xs)

pub turned_differ : TurnedDiffer
turned_differ test p known ts have ls =
    each_clause test p (λ c. all_distinct same_rel (have c ++ lists_for c (parts_from test p known ts) (turned_all (parts_from test p known ts) ls))) known ts
    ∙ all_same _ _ (λ (t : TrailPattern). (both_alike (have t.clause) (have t.clause) _ (lists_in t.clause ts ls) (same_list (have t.clause)) (lists_alike test p t.clause known ts ls)).distinct) ts
