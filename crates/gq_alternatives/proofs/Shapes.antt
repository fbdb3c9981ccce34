-- Paths of joined relationships: what they keep where they grow by one relationship or one node variable.
use Rattle.std.proofs.Common.{◌≡◌, ℕ, zero, suc, ◌+◌, ◌<◌, ◌≤◌, Bool, true, false, ◌&&◌, ◌||◌, nat_eq, Option, Some, None, List, [], ◌∷◌, ◌++◌, map, flat_map, length, slice_get, refl, sym, ap, ap₂, ◌∙◌, subst, arith, true≢false, append-nil, append_assoc, zero-add, inl, inr, length-append}
use Rattle.gq_plan.specs.declared.variable.Variable.TheVariants.{Node as node, Rel as rel}
use Rattle.gq_plan.specs.declared.variable.Variable.{Variable}
use Rattle.std.specs.List.{range_with_len, AllByRecursion, list_any}
use Rattle.std.proofs.Math.Bool.{or-true}
use Rattle.std.proofs.lemmas.Bool.{eq-eqb, and_parts, and_from, cases_lt}
use Rattle.std.proofs.lemmas.Grind.{flat_map-append}
use Rattle.std.proofs.lemmas.List.{map_push}
use Rattle.std.proofs.lemmas.List.Folds.{list_any-append}
use Rattle.gq_plan.specs.Soundness.{has_number}
use Rattle.gq_plan.specs.declared.PathPart.{PathPart}
use Rattle.gq_plan.proofs.Each.{each_then, each_append, each_below}
use Rattle.gq_scopes.proofs.RangeLemmas.{range_more}
use Rattle.gq_scopes.specs.Patterns.{MapEntry}
use Rattle.gq_scopes.specs.steps.Variables.{IsThere}

-- the node variables at the left and at the right of a relationship
pub record Ends : Type 0 where
  pub left : ℕ
  pub right : ℕ

-- from a node variable on, each begins at the left where the one before it ends
abbrev pub linked : ℕ → List (Option Ends) → Bool
linked at [] = true
linked at (None ∷ es) = false
linked at (Some e ∷ es) = nat_eq e.left at && linked e.right es

-- the node variables at the right
abbrev pub rights_of : List (Option Ends) → List ℕ
rights_of [] = []
rights_of (None ∷ es) = rights_of es
rights_of (Some e ∷ es) = e.right ∷ rights_of es

-- where a walk from a node variable on ends
abbrev pub end_of : ℕ → List (Option Ends) → ℕ
end_of at [] = at
end_of at (None ∷ es) = end_of at es
end_of at (Some e ∷ es) = end_of e.right es

abbrev pub path_ends : List Ends → PathPart → List (Option Ends)
path_ends es q = map (slice_get es) q.rels

-- the node variables of a path
abbrev pub walk : List Ends → PathPart → List ℕ
walk es q = q.first ∷ rights_of (path_ends es q)

-- patterns with so many node variables and node patterns, relationships with these ends, these paths and entries; of the first node
-- variables so many are free, that is, may stand in no path yet
pub record IsShape (free n k : ℕ) (es : List Ends) (ps : List PathPart) (entries : List MapEntry) : Type 0 where
  pub joins : AllByRecursion (λ q. linked q.first (path_ends es q) ≡ true) ps
  pub within : AllByRecursion (λ q. AllByRecursion (λ x. x < length es) q.rels) ps
  pub every_node : (v : ℕ) → free ≤ v → v < n → has_number (flat_map (walk es) ps) v ≡ true
  pub every_rel : flat_map (λ q. q.rels) ps ≡ range_with_len 0 (length es)
  pub fewer : n ≤ free + k
  pub there : AllByRecursion (λ e. IsThere n (length es) e.variable) entries

pub there_more : (n m k l : ℕ) (v : Variable) → n ≤ k → m ≤ l → IsThere n m v → IsThere k l v
there_more n m k l (node v) h j there = omega arith
there_more n m k l (rel x) h j there = omega arith

each_there : (n m k l : ℕ) (es : List MapEntry) → n ≤ k → m ≤ l → AllByRecursion (λ e. IsThere n m e.variable) es → AllByRecursion (λ e. IsThere k l e.variable) es
each_there n m k l es h j = each_then (λ e. IsThere n m e.variable) (λ e. IsThere k l e.variable) (λ e. there_more n m k l e.variable h j) es

-- ---- places of a list that grows

slice_kept : {X : Type 0} (xs more : List X) (k : ℕ) → k < length xs → slice_get (xs ++ more) k ≡ slice_get xs k
slice_kept [] more k h = absurd (omega arith)
slice_kept (x ∷ xs) more zero h = refl
slice_kept (x ∷ xs) more (suc k) h = slice_kept xs more k (omega arith)

slice_next : {X : Type 0} (xs : List X) (x : X) → slice_get (xs ++ x ∷ []) (length xs) ≡ Some x
slice_next [] x = refl
slice_next (y ∷ xs) x = slice_next xs x

slices_kept : {X : Type 0} (xs more : List X) (ks : List ℕ) → AllByRecursion (λ k. k < length xs) ks → map (slice_get (xs ++ more)) ks ≡ map (slice_get xs) ks
slices_kept xs more [] h = refl
slices_kept xs more (k ∷ ks) h = ap₂ ◌∷◌ (slice_kept xs more k h.0) (slices_kept xs more ks h.1)

has_left : (xs ys : List ℕ) (v : ℕ) → has_number xs v ≡ true → has_number (xs ++ ys) v ≡ true
has_left xs ys v h = list_any-append (nat_eq v) xs ys ∙ ap (λ b. b || list_any (nat_eq v) ys) h

pub has_right : (xs ys : List ℕ) (v : ℕ) → has_number ys v ≡ true → has_number (xs ++ ys) v ≡ true
has_right xs ys v h = list_any-append (nat_eq v) xs ys ∙ ap (λ b. list_any (nat_eq v) xs || b) h ∙ or-true (list_any (nat_eq v) xs)

has_first : (v : ℕ) (ys : List ℕ) → has_number (v ∷ ys) v ≡ true
has_first v ys = ap (λ b. b || list_any (nat_eq v) ys) (eq-eqb v v refl)

-- ---- one relationship more at the end of a walk

linked_last : (at : ℕ) (os : List (Option Ends)) (e : Ends) → linked at os ≡ true → end_of at os ≡ e.left → linked at (os ++ Some e ∷ []) ≡ true
linked_last at [] e h is = and_from (nat_eq e.left at) true (eq-eqb e.left at (sym is)) refl
linked_last at (None ∷ os) e h is = absurd (true≢false (sym h))
linked_last at (Some f ∷ os) e h is =
    let parts = and_parts (nat_eq f.left at) (linked f.right os) h in
    and_from (nat_eq f.left at) (linked f.right (os ++ Some e ∷ [])) parts.0 (linked_last f.right os e parts.1 is)

end_last : (at : ℕ) (os : List (Option Ends)) (e : Ends) → end_of at (os ++ Some e ∷ []) ≡ e.right
end_last at [] e = refl
end_last at (None ∷ os) e = end_last at os e
end_last at (Some f ∷ os) e = end_last f.right os e

rights_last : (os : List (Option Ends)) (e : Ends) → rights_of (os ++ Some e ∷ []) ≡ rights_of os ++ e.right ∷ []
rights_last [] e = refl
rights_last (None ∷ os) e = rights_last os e
rights_last (Some f ∷ os) e = ap (λ l. f.right ∷ l) (rights_last os e)

-- a path whose relationships have consecutive numbers
abbrev pub run : ℕ → ℕ → ℕ → PathPart
run first start count = record { first = first; rels = range_with_len start count }

module _ (es : List Ends) (e : Ends) where
  paths_kept : (ps : List PathPart) → AllByRecursion (λ q. AllByRecursion (λ x. x < length es) q.rels) ps → flat_map (walk (es ++ e ∷ [])) ps ≡ flat_map (walk es) ps
  paths_kept [] h = refl
  paths_kept (q ∷ ps) h = ap₂ ◌++◌ (ap (λ os. q.first ∷ rights_of os) (slices_kept es (e ∷ []) q.rels h.0)) (paths_kept ps h.1)

  joins_kept : (ps : List PathPart) → AllByRecursion (λ q. AllByRecursion (λ x. x < length es) q.rels) ps
      → AllByRecursion (λ q. linked q.first (path_ends es q) ≡ true) ps → AllByRecursion (λ q. linked q.first (path_ends (es ++ e ∷ []) q) ≡ true) ps
  joins_kept [] h j = tt
  joins_kept (q ∷ ps) h j = (ap (linked q.first) (slices_kept es (e ∷ []) q.rels h.0) ∙ j.0, joins_kept ps h.1 j.1)

  -- the run that grows by the new relationship
  run_more : (first start count : ℕ) → start + count ≡ length es → AllByRecursion (λ x. x < length es) (range_with_len start count)
      → path_ends (es ++ e ∷ []) (run first start (count + 1)) ≡ path_ends es (run first start count) ++ Some e ∷ []
  run_more first start count is low =
      ap (map (slice_get (es ++ e ∷ []))) (range_more start count)
      ∙ map_push (slice_get (es ++ e ∷ [])) (range_with_len start count) (start + count)
      ∙ ap₂ (λ os o. os ++ o ∷ []) (slices_kept es (e ∷ []) (range_with_len start count) low)
      (ap (slice_get (es ++ e ∷ [])) is ∙ slice_next es e)

pub each_left : {X : Type 0} (P : X → Type 0) (xs ys : List X) → AllByRecursion P (xs ++ ys) → AllByRecursion P xs
each_left P [] ys h = tt
each_left P (x ∷ xs) ys h = (h.0, each_left P xs ys h.1)

pub each_right : {X : Type 0} (P : X → Type 0) (xs ys : List X) → AllByRecursion P (xs ++ ys) → AllByRecursion P ys
each_right P [] ys h = h
each_right P (x ∷ xs) ys h = each_right P xs ys h.1

-- ---- how a shape grows

-- a path without a relationship
pub shape_path : (first : ℕ) (free n k : ℕ) (es : List Ends) (ps : List PathPart) (entries : List MapEntry) → IsShape free n k es ps entries → (start : ℕ) → IsShape free n k es (ps ++ run first start 0 ∷ []) entries
shape_path first free n k es ps entries s start = record {
  joins = each_append _ ps (run first start 0 ∷ []) s.joins (refl, tt);
  within = each_append _ ps (run first start 0 ∷ []) s.within (tt, tt);
  every_node = λ v f h. ap (λ ns. has_number ns v) (flat_map-append (walk es) ps (run first start 0 ∷ [])) ∙ has_left (flat_map (walk es) ps) (first ∷ []) v (s.every_node v f h);
  every_rel = flat_map-append (λ q. q.rels) ps (run first start 0 ∷ []) ∙ append-nil (flat_map (λ q. q.rels) ps) ∙ s.every_rel;
  fewer = s.fewer;
  there = s.there;
}

-- the first node variable of a path stands in it
pub first_passed : (first start : ℕ) (es : List Ends) (ps : List PathPart) → has_number (flat_map (walk es) (ps ++ run first start 0 ∷ [])) first ≡ true
first_passed first start es ps = ap (λ ns. has_number ns first) (flat_map-append (walk es) ps (run first start 0 ∷ [])) ∙ has_right (flat_map (walk es) ps) (first ∷ []) first (has_first first [])

-- a node pattern of a variable that stands already
pub shape_again : (free n k : ℕ) (es : List Ends) (ps : List PathPart) (entries more : List MapEntry) → IsShape free n k es ps entries → AllByRecursion (λ e. IsThere n (length es) e.variable) more
    → IsShape free n (suc k) es ps (entries ++ more)
shape_again free n k es ps entries more s there = record {
  joins = s.joins;
  within = s.within;
  every_node = s.every_node;
  every_rel = s.every_rel;
  fewer = let fewer : n ≤ free + k = s.fewer in omega arith;
  there = each_append _ entries more s.there there;
}

-- a node pattern of a new variable, which stands in a path
pub shape_new : (free n k : ℕ) (es : List Ends) (ps : List PathPart) (entries more : List MapEntry) → IsShape free n k es ps entries → has_number (flat_map (walk es) ps) n ≡ true
    → AllByRecursion (λ e. IsThere (suc n) (length es) e.variable) more → IsShape free (suc n) (suc k) es ps (entries ++ more)
shape_new free n k es ps entries more s passed there = record {
  joins = s.joins;
  within = s.within;
  every_node = λ v f h. elim (cases_lt v n) as (λ _. has_number (flat_map (walk es) ps) v ≡ true) [
    | inl less ↦ s.every_node v f less
    | inr not_less ↦ let is : n ≡ v = omega arith in subst (λ w. has_number (flat_map (walk es) ps) w ≡ true) is passed
  ];
  every_rel = s.every_rel;
  fewer = let fewer : n ≤ free + k = s.fewer in omega arith;
  there = each_append _ entries more (each_there n (length es) (suc n) (length es) entries (omega arith) (omega arith) s.there) there;
}

module _ (free n k : ℕ) (es : List Ends) (e : Ends) (ps : List PathPart) (first start count : ℕ) (is : start + count ≡ length es) where
  abbrev before : List PathPart
  before = ps ++ run first start count ∷ []

  abbrev after : List PathPart
  after = ps ++ run first start (count + 1) ∷ []

  module _ (entries : List MapEntry) (s : IsShape free n k es before entries) where
    old_within : AllByRecursion (λ q. AllByRecursion (λ x. x < length es) q.rels) ps
    old_within = each_left (λ q. AllByRecursion (λ x. x < length es) q.rels) ps (run first start count ∷ []) s.within

    run_within : AllByRecursion (λ x. x < length es) (range_with_len start count)
    run_within = (each_right (λ q. AllByRecursion (λ x. x < length es) q.rels) ps (run first start count ∷ []) s.within).0

    -- the node variables of the paths, with the new relationship's right one behind them
    walked : flat_map (walk (es ++ e ∷ [])) after ≡ flat_map (walk es) before ++ e.right ∷ []
    walked =
        flat_map-append (walk (es ++ e ∷ [])) ps (run first start (count + 1) ∷ [])
        ∙ ap₂ (λ l os. l ++ ((first ∷ rights_of os) ++ [])) (paths_kept es e ps old_within) (run_more es e first start count is run_within)
        ∙ ap (λ l. flat_map (walk es) ps ++ ((first ∷ l) ++ [])) (rights_last (path_ends es (run first start count)) e)
        ∙ regroup (flat_map (walk es) ps) (first ∷ rights_of (path_ends es (run first start count)))
        ∙ ap (λ l. l ++ e.right ∷ []) (sym (flat_map-append (walk es) ps (run first start count ∷ [])))
      where
        regroup : (l m : List ℕ) → l ++ ((m ++ e.right ∷ []) ++ []) ≡ (l ++ (m ++ [])) ++ e.right ∷ []
        regroup l m = simp (append-nil, append_assoc)

    pub right_passed : has_number (flat_map (walk (es ++ e ∷ [])) after) e.right ≡ true
    right_passed = ap (λ ns. has_number ns e.right) walked ∙ has_right (flat_map (walk es) before) (e.right ∷ []) e.right (has_first e.right [])

    -- what stood in the paths stands there
    pub still_passed : (v : ℕ) → has_number (flat_map (walk es) before) v ≡ true → has_number (flat_map (walk (es ++ e ∷ [])) after) v ≡ true
    still_passed v h = ap (λ ns. has_number ns v) walked ∙ has_left (flat_map (walk es) before) (e.right ∷ []) v h

    pub end_is : end_of first (path_ends (es ++ e ∷ []) (run first start (count + 1))) ≡ e.right
    end_is = ap (end_of first) (run_more es e first start count is run_within) ∙ end_last first (path_ends es (run first start count)) e

    -- a relationship more at the end of the last path
    pub shape_rel : (more : List MapEntry) → end_of first (path_ends es (run first start count)) ≡ e.left → AllByRecursion (λ e. IsThere n (suc (length es)) e.variable) more
        → IsShape free n k (es ++ e ∷ []) after (entries ++ more)
    shape_rel more ends there = let longer : length (es ++ e ∷ []) ≡ length es + 1 = length-append es (e ∷ []) in record {
      joins = each_append _ ps (run first start (count + 1) ∷ [])
          (joins_kept es e ps old_within (each_left (λ q. linked q.first (path_ends es q) ≡ true) ps (run first start count ∷ []) s.joins)) (
            ap (linked first) (run_more es e first start count is run_within)
                ∙ linked_last first (path_ends es (run first start count)) e (each_right (λ q. linked q.first (path_ends es q) ≡ true) ps (run first start count ∷ []) s.joins).0 ends,
            tt,
          );
      within = each_append _ ps (run first start (count + 1) ∷ [])
          (each_then (λ q. AllByRecursion (λ x. x < length es) q.rels) (λ q. AllByRecursion (λ x. x < length (es ++ e ∷ [])) q.rels)
          (λ q low. each_then (λ x. x < length es) (λ x. x < length (es ++ e ∷ [])) (λ x h. omega arith) q.rels low) ps old_within)
          (each_below start (count + 1) (length (es ++ e ∷ [])) (omega arith), tt);
      every_node = λ v f h. ap (λ ns. has_number ns v) walked ∙ has_left (flat_map (walk es) before) (e.right ∷ []) v (s.every_node v f h);
      every_rel =
          flat_map-append (λ q. q.rels) ps (run first start (count + 1) ∷ [])
          ∙ ap (λ l. flat_map (λ q. q.rels) ps ++ (l ++ [])) (range_more start count)
          ∙ regroup (flat_map (λ q. q.rels) ps) (range_with_len start count) (start + count)
          ∙ ap₂ (λ l x. l ++ x ∷ []) (sym (flat_map-append (λ q. q.rels) ps (run first start count ∷ [])) ∙ s.every_rel) (is ∙ sym (zero-add (length es)))
          ∙ sym (range_more 0 (length es))
          ∙ ap (range_with_len 0) (sym longer);
      fewer = s.fewer;
      there = each_append _ entries more
          (each_there n (length es) n (length (es ++ e ∷ [])) entries (omega arith) (omega arith) s.there)
          (each_there n (suc (length es)) n (length (es ++ e ∷ [])) more (omega arith) (omega arith) there);
    }
      where
        regroup : (l m : List ℕ) (x : ℕ) → l ++ ((m ++ x ∷ []) ++ []) ≡ (l ++ (m ++ [])) ++ x ∷ []
        regroup l m x = simp (append-nil, append_assoc)
