-- A trail whose relationships no later trail can have.
use Rattle.std.proofs.Common.{◌≡◌, inl, inr, ℕ, zero, suc, Bool, true, false, not, ◌&&◌, ◌||◌, cond, nat_eq, Option, Some, None, List, [], ◌∷◌, ◌++◌, map, filter, flat_map, refl, sym, ap, ap₂, ◌∙◌, subst, true≢false}
use Rattle.std.specs.List.{AllByRecursion, list_all, list_any}
use Rattle.std.proofs.lemmas.Bool.{and_from, and_parts}
use Rattle.std.proofs.lemmas.List.Folds.{list_any-append}
use Rattle.gq_base.specs.Plain.{Graph}
use Rattle.gq_base.specs.declared.NodeId.{NodeId}
use Rattle.gq_base.specs.declared.RelId.{RelId}
use Rattle.gq_base.specs.declared.direction.Direction.{Direction}
use Rattle.gq_plan.specs.Allowed.{at_same}
use Rattle.gq_plan.specs.Assignments.{all_rels, same_rel}
use Rattle.gq_plan.specs.Meaning.{Partial, far, found, look, near}
use Rattle.gq_plan.specs.declared.TrailPart.{TrailPart}
use Rattle.gq_plan.proofs.Each.{each_append, each_flat_map, each_kept, each_map, each_of}
use Rattle.gq_plan.proofs.Products.{same_rel_is}
use Rattle.gq_law_ends.specs.Reaching.{ends_of, rows_in}
use Rattle.gq_law_ends.specs.StandFor.{StandFor}
use Rattle.gq_law_trails.specs.Trails.{after_trails, arrivals, taken_in, used_in, walks_from, with_list}
use Rattle.gq_law_ends.specs.Unseen.{UnseenTrailReaches, Unsees, rows_behind}
use Rattle.gq_law_trails.specs.Walks.{end_of, is_of_type, may_follow, pred, walks}
use Rattle.gq_law_ends.proofs.Reaching.{ends_stand, rows_of_each, rows_of_walks}
use Rattle.gq_law_ends.proofs.StandFor.{stands_flat_map}

-- ---- walks see of what is used only what is of their type

abbrev AreAlike : Graph → List ℕ → List RelId → List RelId → Type 0
AreAlike g kind used other = (r : RelId) → is_of_type g kind r ≡ true → list_any (same_rel r) used ≡ list_any (same_rel r) other

may_alike : (g : Graph) (kind : List ℕ) (way : Direction) (at : Option NodeId) (used other : List RelId) → AreAlike g kind used other → (r : RelId) → may_follow g kind way at used r ≡ may_follow g kind way at other r
may_alike g kind way at used other alike r = go (is_of_type g kind r) refl
  where
    go : (b : Bool) → is_of_type g kind r ≡ b → ((is_of_type g kind r && at_same at (near g way r)) && not (list_any (same_rel r) used)) ≡ ((is_of_type g kind r && at_same at (near g way r)) && not (list_any (same_rel r) other))
    go true e = ap (λ c. (is_of_type g kind r && at_same at (near g way r)) && not c) (alike r e)
    go false e = ap (λ c. (c && at_same at (near g way r)) && not (list_any (same_rel r) used)) e ∙ sym (ap (λ c. (c && at_same at (near g way r)) && not (list_any (same_rel r) other)) e)

walks_alike : (g : Graph) (kind : List ℕ) (way : Direction) (low high : ℕ) (at : Option NodeId) (used other : List RelId) → AreAlike g kind used other → walks g kind way low high at used ≡ walks g kind way low high at other
unfolding walks
walks_alike g kind way low zero at used other alike = refl
walks_alike g kind way low (suc high) at used other alike =
    λ i. cond (nat_eq low 0) ([] ∷ []) []
    ++ flat_map (λ r. map (λ l. r ∷ l) (walks_alike g kind way (pred low) high (far g way r) (r ∷ used) (r ∷ other) (λ q e. ap (λ b. same_rel q r || b) (alike q e)) i))
    (filter (λ r. may_alike g kind way at used other alike r i) (all_rels g))

-- ---- so trails do

abbrev SeeAlike : Graph → (ℕ → List RelId) → List (ℕ × List RelId) → List (ℕ × List RelId) → TrailPart → Type 0
SeeAlike g patterns ws vs q = AreAlike g q.kind (used_in patterns ws q.clause) (used_in patterns vs q.clause)

any_used : (patterns : ℕ → List RelId) (c : ℕ) (l : List RelId) (ws : List (ℕ × List RelId)) (clause : ℕ) (r : RelId)
    → list_any (same_rel r) (used_in patterns ((c, l) ∷ ws) clause) ≡ (list_any (same_rel r) (cond (nat_eq c clause) l []) || list_any (same_rel r) (used_in patterns ws clause))
any_used patterns c l ws clause r =
    list_any-append (same_rel r) (cond (nat_eq c clause) l [] ++ taken_in clause ws) (patterns clause)
    ∙ ap (λ b. b || list_any (same_rel r) (patterns clause)) (list_any-append (same_rel r) (cond (nat_eq c clause) l []) (taken_in clause ws))
    ∙ or_three (list_any (same_rel r) (cond (nat_eq c clause) l [])) (list_any (same_rel r) (taken_in clause ws)) (list_any (same_rel r) (patterns clause))
    ∙ ap (λ b. list_any (same_rel r) (cond (nat_eq c clause) l []) || b) (sym (list_any-append (same_rel r) (taken_in clause ws) (patterns clause)))
  where
    or_three : (a b c : Bool) → ((a || b) || c) ≡ (a || (b || c))
    or_three true b c = refl
    or_three false b c = refl

-- after one more walk they see alike too
see_more : (g : Graph) (patterns : ℕ → List RelId) (c : ℕ) (l : List RelId) (ws vs : List (ℕ × List RelId)) (qs : List TrailPart)
    → AllByRecursion (SeeAlike g patterns ws vs) qs → AllByRecursion (SeeAlike g patterns ((c, l) ∷ ws) ((c, l) ∷ vs)) qs
see_more g patterns c l ws vs [] h = tt
see_more g patterns c l ws vs (q ∷ qs) h = (
  (λ r e. any_used patterns c l ws q.clause r ∙ ap (λ b. list_any (same_rel r) (cond (nat_eq c q.clause) l []) || b) (h.0 r e) ∙ sym (any_used patterns c l vs q.clause r)),
  see_more g patterns c l ws vs qs h.1,
)

after_alike : (g : Graph) (patterns : ℕ → List RelId) (qs : List TrailPart) (a : Partial) (ws vs : List (ℕ × List RelId)) → AllByRecursion (SeeAlike g patterns ws vs) qs
    → after_trails g patterns qs a ws ≡ after_trails g patterns qs a vs
unfolding after_trails
after_alike g patterns [] a ws vs h = refl
after_alike g patterns (q ∷ qs) a ws vs h =
    λ i. flat_map (λ l. flat_map (λ b. map (with_list l) (after_alike g patterns qs b ((q.clause, l) ∷ ws) ((q.clause, l) ∷ vs) (see_more g patterns q.clause l ws vs qs h.1) i))
    (arrivals g q a (end_of g q.way (look a.nodes q.from) l)))
    (walks_alike g q.kind q.way q.low q.high (look a.nodes q.from) (used_in patterns ws q.clause) (used_in patterns vs q.clause) h.0 i)

-- ---- a walk of another type is not seen

none_of : (g : Graph) (kind : List ℕ) (r : RelId) (l : List RelId) → ((q : RelId) → is_of_type g kind q ≡ true → same_rel r q ≡ true → ⊥) → list_all (is_of_type g kind) l ≡ true → list_any (same_rel r) l ≡ false
none_of g kind r [] off h = refl
none_of g kind r (q ∷ l) off h =
    let parts = and_parts (is_of_type g kind q) (list_all (is_of_type g kind) l) h in
    go (same_rel r q) refl (off q parts.0) (none_of g kind r l off parts.1)
  where
    go : (b : Bool) → same_rel r q ≡ b → (same_rel r q ≡ true → ⊥) → list_any (same_rel r) l ≡ false → (b || list_any (same_rel r) l) ≡ false
    go true e differs rest = absurd (differs e)
    go false e differs rest = rest

unseen : (g : Graph) (patterns : ℕ → List RelId) (p : TrailPart) (l : List RelId) (ws : List (ℕ × List RelId)) (qs : List TrailPart)
    → list_all (is_of_type g p.kind) l ≡ true → AllByRecursion (Unsees g p) qs → AllByRecursion (SeeAlike g patterns ((p.clause, l) ∷ ws) ws) qs
unseen g patterns p l ws [] typed h = tt
unseen g patterns p l ws (q ∷ qs) typed h = ((λ r e. any_used patterns p.clause l ws q.clause r ∙ ap (λ b. b || list_any (same_rel r) (used_in patterns ws q.clause)) (off r e h.0)), unseen g patterns p l ws qs typed h.1)
  where
    none : (b : Bool) (r : RelId) → list_any (same_rel r) l ≡ false → list_any (same_rel r) (cond b l []) ≡ false
    none true r k = k
    none false r k = refl

    off : (r : RelId) → is_of_type g q.kind r ≡ true → Unsees g p q → list_any (same_rel r) (cond (nat_eq p.clause q.clause) l []) ≡ false
    off r e (inl other) = ap (λ b. list_any (same_rel r) (cond b l [])) other
    off r e (inr other) =
        none (nat_eq p.clause q.clause) r
        (none_of g p.kind r l (λ s t same. true≢false (sym (subst (λ k. is_of_type g q.kind k ≡ true) (sym (same_rel_is r s same)) e) ∙ other s t)) typed)

typed_walks : (g : Graph) (kind : List ℕ) (way : Direction) (low high : ℕ) (at : Option NodeId) (used : List RelId) → AllByRecursion (λ l. list_all (is_of_type g kind) l ≡ true) (walks g kind way low high at used)
unfolding walks
typed_walks g kind way low zero at used = stop (nat_eq low 0)
  where
    stop : (b : Bool) → AllByRecursion (λ l. list_all (is_of_type g kind) l ≡ true) (cond b ([] ∷ []) [])
    stop true = (refl, tt)
    stop false = tt
typed_walks g kind way low (suc high) at used =
    each_append (λ l. list_all (is_of_type g kind) l ≡ true) (cond (nat_eq low 0) ([] ∷ []) []) _ (stop (nat_eq low 0))
    (each_flat_map (λ r. Unit {0} × (may_follow g kind way at used r ≡ true)) (λ l. list_all (is_of_type g kind) l ≡ true)
    (λ r. map (λ l. r ∷ l) (walks g kind way (pred low) high (far g way r) (r ∷ used)))
    (λ r m. each_map (λ l. list_all (is_of_type g kind) l ≡ true) (λ l. list_all (is_of_type g kind) l ≡ true) (λ l. r ∷ l)
    (λ l k. and_from (is_of_type g kind r) (list_all (is_of_type g kind) l) (typed r m.1) k)
    (walks g kind way (pred low) high (far g way r) (r ∷ used)) (typed_walks g kind way (pred low) high (far g way r) (r ∷ used)))
    (filter (may_follow g kind way at used) (all_rels g)) (each_kept (λ r. Unit {0}) (may_follow g kind way at used) (all_rels g) (each_of (λ r. Unit {0}) (λ r. tt) (all_rels g))))
  where
    stop : (b : Bool) → AllByRecursion (λ l. list_all (is_of_type g kind) l ≡ true) (cond b ([] ∷ []) [])
    stop true = (refl, tt)
    stop false = tt

    typed : (r : RelId) → may_follow g kind way at used r ≡ true → is_of_type g kind r ≡ true
    typed r h = (and_parts (is_of_type g kind r) (at_same at (near g way r)) (and_parts (is_of_type g kind r && at_same at (near g way r)) (not (list_any (same_rel r) used)) h).0).0

-- ---- rows

same_flat_map : {X Y : Type 0} (P : X → Type 0) (f h : X → List Y) → ((x : X) → P x → f x ≡ h x) → (xs : List X) → AllByRecursion P xs → flat_map f xs ≡ flat_map h xs
same_flat_map P f h same [] k = refl
same_flat_map P f h same (x ∷ xs) k = ap₂ ◌++◌ (same x k.0) (same_flat_map P f h same xs k.1)

module _ (g : Graph) (patterns : ℕ → List RelId) (p : TrailPart) (ps : List TrailPart) (a : Partial) (ws : List (ℕ × List RelId)) where
  abbrev rows_from : Option NodeId → List Partial
  rows_from o = flat_map (λ b. rows_in (after_trails g patterns ps b ws)) (arrivals g p a o)

  rows_found : (o : Option NodeId) (ns : List NodeId) → rows_from o ++ rows_behind g patterns p ps a ws ns ≡ rows_behind g patterns p ps a ws (found o ++ ns)
  rows_found None ns = refl
  rows_found (Some n) ns = refl

  rows_of_ends : (at : Option NodeId) (ls : List (List RelId)) → flat_map (λ l. rows_from (end_of g p.way at l)) ls ≡ rows_behind g patterns p ps a ws (ends_of g p.way at ls)
  rows_of_ends at [] = refl
  rows_of_ends at (l ∷ ls) = ap (λ rs. rows_from (end_of g p.way at l) ++ rs) (rows_of_ends at ls) ∙ rows_found (end_of g p.way at l) (ends_of g p.way at ls)

pub unseen_reaches : UnseenTrailReaches
unfolding after_trails
unseen_reaches g patterns p ps a ws ns one unsees led =
    subst (StandFor (rows_behind g patterns p ps a ws ns)) (sym whole)
    (stands_flat_map (λ n. flat_map (λ b. rows_in (after_trails g patterns ps b ws)) (arrivals g p a (Some n))) ns (ends_of g p.way from (walks g p.kind p.way 1 p.high from used)) (ends_stand g p.kind p.way p.high from used ns led))
  where
    from : Option NodeId
    from = look a.nodes p.from

    used : List RelId
    used = used_in patterns ws p.clause

    whole : rows_in (after_trails g patterns (p ∷ ps) a ws) ≡ rows_behind g patterns p ps a ws (ends_of g p.way (look a.nodes p.from) (walks g p.kind p.way 1 p.high (look a.nodes p.from) (used_in patterns ws p.clause)))
    whole =
        rows_of_walks (λ l. flat_map (λ b. map (with_list l) (after_trails g patterns ps b ((p.clause, l) ∷ ws))) (arrivals g p a (end_of g p.way (look a.nodes p.from) l))) (walks_from g patterns p a ws)
        ∙ same_flat_map (λ l. list_all (is_of_type g p.kind) l ≡ true)
        (λ l. rows_in (flat_map (λ b. map (with_list l) (after_trails g patterns ps b ((p.clause, l) ∷ ws))) (arrivals g p a (end_of g p.way (look a.nodes p.from) l))))
        (λ l. rows_from g patterns p ps a ws (end_of g p.way (look a.nodes p.from) l))
        (λ l typed. rows_of_each l (λ b. after_trails g patterns ps b ((p.clause, l) ∷ ws)) (arrivals g p a (end_of g p.way (look a.nodes p.from) l))
        ∙ ap (λ f. flat_map f (arrivals g p a (end_of g p.way (look a.nodes p.from) l))) (λ i b. rows_in (after_alike g patterns ps b ((p.clause, l) ∷ ws) ws (unseen g patterns p l ws ps typed unsees) i)))
        (walks_from g patterns p a ws) (typed_walks g p.kind p.way p.low p.high (look a.nodes p.from) (used_in patterns ws p.clause))
        ∙ rows_of_ends g patterns p ps a ws (look a.nodes p.from) (walks_from g patterns p a ws)
        ∙ ap (λ k. rows_behind g patterns p ps a ws (ends_of g p.way (look a.nodes p.from) (walks g p.kind p.way k p.high (look a.nodes p.from) (used_in patterns ws p.clause)))) one
