-- Trails that are free of what is used before them are all different, clause by clause.
use Rattle.std.proofs.Common.{◌≡◌, ℕ, Bool, true, false, not, ◌&&◌, ◌||◌, cond, nat_eq, List, [], ◌∷◌, ◌++◌, append_assoc, append-nil, refl, sym, ap, ap₂, ◌∙◌, arith}
use Rattle.std.specs.List.{AllByRecursion, list_all, list_any}
use Rattle.std.proofs.lemmas.Bool.{and_parts, and_from, eq-eqb, eqb-true}
use Rattle.std.proofs.lemmas.List.Folds.{list_any-append}
use Rattle.gq_base.specs.Lists.{all_distinct}
use Rattle.gq_base.specs.declared.RelId.{RelId}
use Rattle.gq_plan.specs.Assignments.{same_rel}
use Rattle.gq_plan.proofs.Each.{each_of, each_then}
use Rattle.gq_law_plans.proofs.Wholes.{bool_iff}
use Rattle.gq_law_trails.specs.Trails.{taken_in, used_in}
use Rattle.gq_law_trails.specs.Walks.{are_free}
use Rattle.gq_plan.specs.declared.TrailPart.{TrailPart}
use Rattle.gq_law_trails.specs.Apart.{FreesAreDistinct, frees, lists_for}
use Rattle.gq_law_trails.proofs.Free.{free_distinct, free_is, unused, unused_more}

-- ---- the order of used relationships does not matter

unused_swap : (a b : List RelId) → unused a b ≡ unused b a
unused_swap [] b = none b
  where
    none : (b : List RelId) → unused [] b ≡ true
    none [] = refl
    none (r ∷ b) = none b
unused_swap (u ∷ a) b = unused_more u a b ∙ ap (λ c. not (list_any (same_rel u) b) && c) (unused_swap a b)

pub swap_bits : (a u b : Bool) → (a && (u && b)) ≡ (b && (u && a))
swap_bits a u b = grind arith

distinct_is : (a b : List RelId) → all_distinct same_rel (a ++ b) ≡ (all_distinct same_rel a && (unused a b && all_distinct same_rel b))
distinct_is a b = free_distinct a b ∙ ap (λ c. all_distinct same_rel a && c) (free_is a b)

distinct_swap : (a b : List RelId) → all_distinct same_rel (a ++ b) ≡ all_distinct same_rel (b ++ a)
distinct_swap a b =
    distinct_is a b ∙ swap_bits (all_distinct same_rel a) (unused a b) (all_distinct same_rel b)
    ∙ ap (λ c. all_distinct same_rel b && (c && all_distinct same_rel a)) (unused_swap a b) ∙ sym (distinct_is b a)

or_swap : (a b : Bool) → (a || b) ≡ (b || a)
or_swap a b = grind arith

unused_turn : (a b l : List RelId) → unused (a ++ b) l ≡ unused (b ++ a) l
unused_turn a b [] = refl
unused_turn a b (r ∷ l) =
    ap₂ ◌&&◌ (ap not (list_any-append (same_rel r) a b ∙ or_swap (list_any (same_rel r) a) (list_any (same_rel r) b) ∙ sym (list_any-append (same_rel r) b a))) (unused_turn a b l)

-- the first two of three parts change places
distinct_turn : (a b c : List RelId) → all_distinct same_rel ((a ++ b) ++ c) ≡ all_distinct same_rel (b ++ (a ++ c))
distinct_turn a b c =
    distinct_is (a ++ b) c
    ∙ ap₂ (λ (x y : Bool). x && (y && all_distinct same_rel c)) (distinct_swap a b) (unused_turn a b c)
    ∙ sym (distinct_is (b ++ a) c) ∙ ap (all_distinct same_rel) (append_assoc b a c)

-- ---- one clause

module _ (patterns : ℕ → List RelId) where
  abbrev frees_in : ℕ → List TrailPart → List (ℕ × List RelId) → List (List RelId) → Bool
  frees_in c [] ws ls = true
  frees_in c (p ∷ ps) ws [] = true
  frees_in c (p ∷ ps) ws (l ∷ ls) = (not (nat_eq p.clause c) || are_free (used_in patterns ws c) l) && frees_in c ps ((p.clause, l) ∷ ws) ls

  assoc_bits : (a b c : Bool) → (a && (b && c)) ≡ ((a && b) && c)
  assoc_bits true b c = refl
  assoc_bits false b c = refl

  clause_distinct : (c : ℕ) (ps : List TrailPart) (ws : List (ℕ × List RelId)) (ls : List (List RelId))
      → (all_distinct same_rel (used_in patterns ws c) && frees_in c ps ws ls) ≡ all_distinct same_rel (used_in patterns ws c ++ lists_for c ps ls)
  clause_distinct c [] ws ls = alone (all_distinct same_rel (used_in patterns ws c)) ∙ ap (all_distinct same_rel) (sym (append-nil (used_in patterns ws c)))
    where
      alone : (b : Bool) → (b && true) ≡ b
      alone true = refl
      alone false = refl
  clause_distinct c (p ∷ ps) ws [] = alone (all_distinct same_rel (used_in patterns ws c)) ∙ ap (all_distinct same_rel) (sym (append-nil (used_in patterns ws c)))
    where
      alone : (b : Bool) → (b && true) ≡ b
      alone true = refl
      alone false = refl
  clause_distinct c (p ∷ ps) ws (l ∷ ls) = go (nat_eq p.clause c) refl (clause_distinct c ps ((p.clause, l) ∷ ws) ls)
    where
      used : List RelId
      used = used_in patterns ws c

      rest : List RelId
      rest = lists_for c ps ls

      more : Bool
      more = frees_in c ps ((p.clause, l) ∷ ws) ls

      go : (b : Bool) → nat_eq p.clause c ≡ b
          → (all_distinct same_rel ((cond (nat_eq p.clause c) l [] ++ taken_in c ws) ++ patterns c) && more) ≡ all_distinct same_rel (((cond (nat_eq p.clause c) l [] ++ taken_in c ws) ++ patterns c) ++ rest)
          → (all_distinct same_rel used && ((not b || are_free used l) && more)) ≡ all_distinct same_rel (used ++ (cond b l [] ++ rest))
      go true e h =
          let here : cond (nat_eq p.clause c) l [] ≡ l = ap (λ (b : Bool). cond b l []) e in
          assoc_bits (all_distinct same_rel used) (are_free used l) more
          ∙ ap (λ b. b && more) (sym (free_distinct used l) ∙ distinct_swap used l ∙ ap (all_distinct same_rel) (sym (append_assoc l (taken_in c ws) (patterns c))) ∙ ap (λ (k : List RelId). all_distinct same_rel ((k ++ taken_in c ws) ++ patterns c)) (sym here))
          ∙ h
          ∙ ap (λ (k : List RelId). all_distinct same_rel (((k ++ taken_in c ws) ++ patterns c) ++ rest)) here
          ∙ ap (λ (k : List RelId). all_distinct same_rel (k ++ rest)) (append_assoc l (taken_in c ws) (patterns c))
          ∙ distinct_turn l used rest
      go false e h =
          let here : cond (nat_eq p.clause c) l [] ≡ [] = ap (λ (b : Bool). cond b l []) e in
          ap (λ (k : List RelId). all_distinct same_rel ((k ++ taken_in c ws) ++ patterns c) && more) (sym here) ∙ h
          ∙ ap (λ (k : List RelId). all_distinct same_rel (((k ++ taken_in c ws) ++ patterns c) ++ rest)) here

  -- ---- all clauses

  all_free : (c : ℕ) (ps : List TrailPart) (ws : List (ℕ × List RelId)) (ls : List (List RelId)) → frees patterns ps ws ls ≡ true → frees_in c ps ws ls ≡ true
  all_free c [] ws ls h = refl
  all_free c (p ∷ ps) ws [] h = refl
  all_free c (p ∷ ps) ws (l ∷ ls) h =
      let parts = and_parts (are_free (used_in patterns ws p.clause) l) (frees patterns ps ((p.clause, l) ∷ ws) ls) h in
      and_from (not (nat_eq p.clause c) || are_free (used_in patterns ws c) l) (frees_in c ps ((p.clause, l) ∷ ws) ls) (here (nat_eq p.clause c) refl parts.0) (all_free c ps ((p.clause, l) ∷ ws) ls parts.1)
    where
      here : (b : Bool) → nat_eq p.clause c ≡ b → are_free (used_in patterns ws p.clause) l ≡ true → (not b || are_free (used_in patterns ws c) l) ≡ true
      here false e k = refl
      here true e k = ap (λ n. are_free (used_in patterns ws n) l) (sym (eqb-true p.clause c e)) ∙ k

  each_free : (ps : List TrailPart) (ws : List (ℕ × List RelId)) (ls : List (List RelId)) → AllByRecursion (λ (p : TrailPart). frees_in p.clause ps ws ls ≡ true) ps → frees patterns ps ws ls ≡ true
  each_free [] ws ls h = refl
  each_free (p ∷ ps) ws [] h = refl
  each_free (p ∷ ps) ws (l ∷ ls) h =
      let first = and_parts (not (nat_eq p.clause p.clause) || are_free (used_in patterns ws p.clause) l) (frees_in p.clause ps ((p.clause, l) ∷ ws) ls) h.0 in
      and_from (are_free (used_in patterns ws p.clause) l) (frees patterns ps ((p.clause, l) ∷ ws) ls)
      (ap (λ b. not b || are_free (used_in patterns ws p.clause) l) (sym (eq-eqb p.clause p.clause refl)) ∙ first.0)
      (each_free ps ((p.clause, l) ∷ ws) ls
      (each_then (λ (q : TrailPart). frees_in q.clause (p ∷ ps) ws (l ∷ ls) ≡ true) (λ (q : TrailPart). frees_in q.clause ps ((p.clause, l) ∷ ws) ls ≡ true)
      (λ q k. (and_parts (not (nat_eq p.clause q.clause) || are_free (used_in patterns ws q.clause) l) (frees_in q.clause ps ((p.clause, l) ∷ ws) ls) k).1) ps h.1))

pub all_each : {X : Type 0} (test : X → Bool) (ps : List X) → list_all test ps ≡ true → AllByRecursion (λ p. test p ≡ true) ps
all_each test [] h = tt
all_each test (p ∷ ps) h = let parts = and_parts (test p) (list_all test ps) h in (parts.0, all_each test ps parts.1)

pub each_all : {X : Type 0} (test : X → Bool) (ps : List X) → AllByRecursion (λ p. test p ≡ true) ps → list_all test ps ≡ true
each_all test [] h = refl
each_all test (p ∷ ps) h = and_from (test p) (list_all test ps) h.0 (each_all test ps h.1)

pub frees_distinct : FreesAreDistinct
frees_distinct patterns ps ls e apart =
    bool_iff (frees patterns ps [] ls) (list_all distinct ps)
    (λ h. each_all distinct ps (each_of (λ p. distinct p ≡ true) (λ p. sym (is p.clause) ∙ all_free patterns p.clause ps [] ls h) ps))
    (λ h. each_free patterns ps [] ls (each_then (λ p. distinct p ≡ true) (λ p. frees_in patterns p.clause ps [] ls ≡ true) (λ p k. is p.clause ∙ k) ps (all_each distinct ps h)))
  where
    distinct : TrailPart → Bool
    distinct p = all_distinct same_rel (patterns p.clause ++ lists_for p.clause ps ls)

    is : (c : ℕ) → frees_in patterns c ps [] ls ≡ all_distinct same_rel (patterns c ++ lists_for c ps ls)
    is c = ap (λ b. b && frees_in patterns c ps [] ls) (sym (apart c)) ∙ clause_distinct patterns c ps [] ls
