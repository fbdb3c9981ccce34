-- What keys say of a test: whether it is true of a row, and whether its path has too many.
use Rattle.std.proofs.Common.{◌≡◌, ◌∙◌, ap, refl, sym, ℕ, ◌<◌, Bool, true, false, cond, ◌&&◌, ◌||◌, IsTrue, Option, Some, List, [], ◌∷◌, ◌++◌, length, map, take, arith, true≢false}
use Rattle.std.specs.Prelude.{IsPermutation, nat_lt}
use Rattle.std.specs.Cmp.Lexicographic.{pointwise}
use Rattle.std.specs.List.{AllZip, list_any}
use Rattle.std.proofs.lemmas.Bool.Decides.{nat_tests}
use Rattle.std.proofs.lemmas.List.Folds.{list_any-append}
use Rattle.std.proofs.lemmas.List.Sorted.{list_any-IsPermutation}
use Rattle.gq_alternatives.specs.Matches.{pattern_matches}
use Rattle.gq_alternatives.specs.Tested.{exists_value}
use Rattle.gq_base.specs.Plain.{Graph}
use Rattle.gq_base.specs.Valid.{is_valid}
use Rattle.gq_base.specs.declared.NodeId.{NodeId}
use Rattle.gq_bound.specs.Tested.{IsTested, ScopedTest}
use Rattle.gq_expr.specs.Reading as reading
use Rattle.gq_law_answers.proofs.Listed.{pattern_planned}
use Rattle.gq_law_answers.specs.Answered.{meanings}
use Rattle.gq_plan.proofs.DifferentReads.{among_fewer}
use Rattle.gq_plan.proofs.Each.{each_then}
use Rattle.gq_plan.proofs.Permuted.{list_any_map}
use Rattle.gq_plan.specs.Allowed.{at_same}
use Rattle.gq_plan.specs.Assignments.{Assignment}
use Rattle.gq_plan.specs.Covers.{Covers}
use Rattle.gq_plan.specs.Keys.{different, has_key, key_of, same_nodes, stand_at}
use Rattle.gq_plan.specs.Plans.{Plan}
use Rattle.gq_plan.specs.declared.ExistsPart.{ExistsPart}
use Rattle.gq_scopes.specs.PathPatterns.{path_pattern}
use Rattle.gq_exists.specs.Different.{AreDifferent, HasMany, HasNoMore}
use Rattle.gq_exists.specs.Made.{keys_of, some_stand_on, stands_on}
use Rattle.gq_exists.proofs.Filling.{bag_same, unique}
use Rattle.gq_exists.proofs.Gathered.{AllKeys, Same, Within, all_among, apart_push, many_more, none_same, or_left, or_right}
use Rattle.gq_exists.proofs.Fronts.{same_is, same_refl}

-- ---- keys that are the same

module _ (p : List NodeId → Bool) where
  from_key : (k : List NodeId) (ys : AllKeys) → has_key k ys ≡ true → p k ≡ true → list_any p ys ≡ true
  from_key k [] e h = absurd (true≢false (sym e))
  from_key k (y ∷ ys) e h = go (same_nodes k y) refl e (λ f. from_key k ys f h)
    where
      go : (b : Bool) → same_nodes k y ≡ b → (b || has_key k ys) ≡ true → (has_key k ys ≡ true → list_any p ys ≡ true) → (p y || list_any p ys) ≡ true
      go true s m more = or_left (p y) (list_any p ys) (ap p (sym (same_is k y s)) ∙ h)
      go false s m more = or_right (p y) (list_any p ys) (more m)

  within_any : (xs ys : AllKeys) → Within xs ys → list_any p xs ≡ true → list_any p ys ≡ true
  within_any [] ys h e = absurd (true≢false (sym e))
  within_any (x ∷ xs) ys h e = go (p x) refl e (within_any xs ys (λ q f. h q (or_right (same_nodes q x) (has_key q xs) f)))
    where
      go : (b : Bool) → p x ≡ b → (b || list_any p xs) ≡ true → (list_any p xs ≡ true → list_any p ys ≡ true) → list_any p ys ≡ true
      go true s m more = from_key x ys (h x (or_left (same_nodes x x) (has_key x xs) (same_refl x))) s
      go false s m more = more m

  same_any : (xs ys : AllKeys) → Same xs ys → list_any p xs ≡ list_any p ys
  same_any xs ys h = go (list_any p xs) refl (list_any p ys) refl
    where
      go : (b : Bool) → list_any p xs ≡ b → (c : Bool) → list_any p ys ≡ c → list_any p xs ≡ list_any p ys
      go true e true f = e ∙ sym f
      go false e false f = e ∙ sym f
      go true e false f = absurd (true≢false (sym (within_any xs ys (λ q m. sym (h q) ∙ m) e) ∙ f))
      go false e true f = absurd (true≢false (sym (within_any ys xs (λ q m. h q ∙ m) f) ∙ e))

-- ---- the value of a test

-- a row's nodes are the front of a match's
stands_front : (vs : List ℕ) (row : ℕ → Option NodeId) (ns : List NodeId) → stand_at vs row ns ≡ pointwise at_same (map row vs) (map Some (take (length vs) ns))
stands_front [] row ns = refl
stands_front (v ∷ vs) row [] = refl
stands_front (v ∷ vs) row (n ∷ ns) = ap (λ b. at_same (row v) (Some n) && b) (stands_front vs row ns)

module _ (g : Graph) (text : List ℕ) (t : ScopedTest) (part : ExistsPart) (plans : List Plan) (real : IsTrue (is_valid g)) (is : IsTested text g.catalog t part)
    (covers : AllZip (Covers g.catalog) part.alternatives plans) where
  abbrev made : List Assignment
  made = meanings g part.alternatives plans

  abbrev ms : List Assignment
  ms = pattern_matches g (path_pattern t.test.path)

  planned : IsPermutation made ms
  planned = pattern_planned g (path_pattern t.test.path) text real part.alternatives plans is.alternatives is.sound covers

  -- it is whether the row stands on a key
  pub exists_by_keys : (row : reading.Assignment) (keys : AllKeys) → Same keys (keys_of g part plans) → some_stand_on part.nodes row keys ≡ exists_value g t.test.path part.nodes row
  exists_by_keys row keys same =
      same_any (stands_on part.nodes row) keys (keys_of g part plans) same
      ∙ list_any_map (stands_on part.nodes row) (key_of (length part.nodes)) made
      ∙ (λ i. list_any (λ (s : Assignment). sym (stands_front part.nodes row.nodes s.nodes) i) made)
      ∙ list_any-IsPermutation (λ (s : Assignment). stand_at part.nodes row.nodes s.nodes) made ms (planned)

  -- the keys are those of the matches of the path
  pub keys_matched : Same (keys_of g part plans) (map (key_of (length part.nodes)) ms)
  keys_matched = bag_same (length part.nodes) made ms (planned)

  pub matched_many : (limit : ℕ) → HasMany limit (keys_of g part plans) → HasMany limit (map (key_of (length part.nodes)) ms)
  matched_many limit m = many_more limit (keys_of g part plans) (map (key_of (length part.nodes)) ms) (λ q e. sym (keys_matched q) ∙ e) m

  pub matched_few : (limit : ℕ) → HasNoMore limit (keys_of g part plans) → HasNoMore limit (map (key_of (length part.nodes)) ms)
  matched_few limit few = λ m. few (many_more limit (map (key_of (length part.nodes)) ms) (keys_of g part plans) (λ q e. keys_matched q ∙ e) m)

-- ---- how many keys differ

different_apart : (seen ks : AllKeys) → AreDifferent seen → AreDifferent (different seen ks)
different_apart seen [] a = a
different_apart seen (k ∷ ks) a = go (has_key k seen) refl (λ s h. different_apart s ks h)
  where
    go : (b : Bool) → has_key k seen ≡ b → ((s : AllKeys) → AreDifferent s → AreDifferent (different s ks)) → AreDifferent (different (cond b seen (seen ++ k ∷ [])) ks)
    go true e more = more seen a
    go false e more = more (seen ++ k ∷ []) (apart_push seen k a (none_same k seen e))

or_false : (b : Bool) → b ≡ (b || false)
or_false true = refl
or_false false = refl

or_moved : (a b c : Bool) → ((a || (b || false)) || c) ≡ (a || (b || c))
or_moved true b c = refl
or_moved false true c = refl
or_moved false false c = refl

different_has : (q : List NodeId) (seen ks : AllKeys) → has_key q (different seen ks) ≡ (has_key q seen || has_key q ks)
different_has q seen [] = or_false (has_key q seen)
different_has q seen (k ∷ ks) = go (has_key k seen) refl (λ s. different_has q s ks)
  where
    known : has_key k seen ≡ true → (b : Bool) → same_nodes q k ≡ b → (has_key q seen || has_key q ks) ≡ (has_key q seen || (b || has_key q ks))
    known e true s =
        let there : has_key q seen ≡ true = ap (λ x. has_key x seen) (same_is q k s) ∙ e in
        or_left (has_key q seen) (has_key q ks) there ∙ sym (or_left (has_key q seen) true there)
    known e false s = refl

    go : (b : Bool) → has_key k seen ≡ b → ((s : AllKeys) → has_key q (different s ks) ≡ (has_key q s || has_key q ks))
        → has_key q (different (cond b seen (seen ++ k ∷ [])) ks) ≡ (has_key q seen || (same_nodes q k || has_key q ks))
    go true e more = more seen ∙ known e (same_nodes q k) refl
    go false e more =
        more (seen ++ k ∷ []) ∙ ap (λ b. b || has_key q ks) (list_any-append (same_nodes q) seen (k ∷ [])) ∙ or_moved (has_key q seen) (same_nodes q k) (has_key q ks)

is_less : (m n : ℕ) → m < n → nat_lt m n ≡ true
is_less m n k = grind (arith, nat_tests, k)

is_more : (m n : ℕ) → nat_lt m n ≡ true → m < n
is_more m n k = grind (arith, nat_tests, k)

module _ (limit : ℕ) (all : AllKeys) where
  -- more than so many differ
  pub many_counted : HasMany limit all → nat_lt limit (length (different [] all)) ≡ true
  many_counted m =
      let among = each_then (λ l. has_key l all ≡ true) (λ l. has_key l (different [] all) ≡ true) (λ l e. different_has l [] all ∙ e) m.some m.among in
      let fewer = among_fewer same_nodes same_is m.some (different [] all) (unique m.some m.apart) among in
      is_less limit (length (different [] all)) (omega (arith, m.many, fewer))

  -- no more do
  pub few_counted : HasNoMore limit all → nat_lt limit (length (different [] all)) ≡ false
  few_counted few = go (nat_lt limit (length (different [] all))) refl
    where
      go : (b : Bool) → nat_lt limit (length (different [] all)) ≡ b → nat_lt limit (length (different [] all)) ≡ false
      go false e = e
      go true e =
          absurd
          (few
          (record {
            some = different [] all;
            apart = different_apart [] all tt;
            among = all_among (different [] all) all (λ q m. sym (different_has q [] all) ∙ m);
            many = is_more limit (length (different [] all)) e;
          }))
