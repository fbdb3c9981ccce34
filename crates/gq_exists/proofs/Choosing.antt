-- The keys of a chunk where the one shared variable lives in the items of a group: one for each selected position of it.
use Rattle.std.proofs.Common.{◌≡◌, ◌≢◌, ◌∙◌, ap, ap₂, refl, sym, subst, ℕ, ◌+◌, ◌<◌, ◌≤◌, zero, suc, Bool, true, false, cond, ◌||◌, Option, None, Some, List, [], ◌∷◌, ◌++◌, length, map, slice_get, slice_index_or, Result, Ok, Err, arith, append_assoc, append-nil, true≢false}
use Rattle.std.specs.Prelude.{IfSome, MatchOption, flat_map, nat_le, slice_index}
use Rattle.std.specs.List.{list_any}
use Rattle.std.specs.Option.{option_map}
use Rattle.std.proofs.lemmas.Bool.{and_parts, le-leb}
use Rattle.std.proofs.lemmas.List.{map-append}
use Rattle.std.proofs.lemmas.List.Folds.{list_any-append}
use Rattle.std.proofs.lemmas.Option.{slice_get-map}
use Rattle.gq_base.specs.declared.NodeId.{NodeId}
use Rattle.gq_bits.specs.Places.{is_marked}
use Rattle.gq_group.specs.Chunks.{IsChunk, items_in, node_at, node_in}
use Rattle.gq_group.specs.Groups.{IsGroup, choices, from_on, is_current, is_selected, products, selected}
use Rattle.gq_group.specs.Pieces.{items_of}
use Rattle.gq_group.specs.declared.chunk.Chunk.{Chunk}
use Rattle.gq_group.specs.declared.group.Group.{Group}
use Rattle.gq_join.specs.declared.build.JoinRefusal.{JoinRefusal}
use Rattle.gq_plan.proofs.Permuted.{list_any_map}
use Rattle.gq_plan.specs.Keys.{same_nodes}
use Rattle.gq_plan.specs.declared.typed.Typed.{Typed}
use Rattle.gq_exists.specs.declared.gathering.Gathering.{Gathering}
use Rattle.gq_exists.specs.steps.Gathered.{Gathers, IsGathering, TakesOn, key_at, keys_at}
use Rattle.gq_exists.specs.steps.Settled.{IsItem}
use Rattle.gq_exists.proofs.Gathered.{Same, came_none, stops, then}
use Rattle.gq_exists.proofs.Taking.{key_more}

-- ---- one item of products

-- what holds of an item alone holds of some product where it holds of some item, if there are products
module _ (rest : List (List ℕ)) where
  abbrev behind : List ℕ → List (List ℕ)
  behind s = flat_map (λ p. map (λ ps. p ∷ ps) rest) s

  any_here : (h : ℕ → Bool) (p : ℕ) (qs : List (List ℕ)) → qs ≢ [] → list_any (λ ps. h (slice_index ps 0)) (map (λ ps. p ∷ ps) qs) ≡ h p
  any_here h p [] some = absurd (some refl)
  any_here h p (q ∷ []) some = or_no (h p)
    where
      or_no : (b : Bool) → (b || false) ≡ b
      or_no true = refl
      or_no false = refl
  any_here h p (q ∷ r ∷ qs) some = ap (λ b. h p || b) (any_here h p (r ∷ qs) (λ e. absurd (omega (arith, ap length e)))) ∙ or_same (h p)
    where
      or_same : (b : Bool) → (b || b) ≡ b
      or_same true = refl
      or_same false = refl

  any_first : (h : ℕ → Bool) → rest ≢ [] → (s : List ℕ) → list_any (λ ps. h (slice_index ps 0)) (behind s) ≡ list_any h s
  any_first h some [] = refl
  any_first h some (p ∷ s) =
      list_any-append (λ ps. h (slice_index ps 0)) (map (λ ps. p ∷ ps) rest) (behind s)
      ∙ ap₂ ◌||◌ (any_here h p rest some) (any_first h some s)

  any_later : (h : ℕ → Bool) (i : ℕ) (s : List ℕ) → s ≢ [] → list_any (λ ps. h (slice_index ps (suc i))) (behind s) ≡ list_any (λ ps. h (slice_index ps i)) rest
  any_later h i [] some = absurd (some refl)
  any_later h i (p ∷ s) some =
      list_any-append (λ ps. h (slice_index ps (suc i))) (map (λ ps. p ∷ ps) rest) (behind s)
      ∙ ap (λ b. b || list_any (λ ps. h (slice_index ps (suc i))) (behind s)) (list_any_map (λ ps. h (slice_index ps (suc i))) (λ ps. p ∷ ps) rest)
      ∙ more s (any_later h i s)
    where
      here : Bool
      here = list_any (λ ps. h (slice_index ps i)) rest

      same : (b c : Bool) → (b ≡ c) → (c || b) ≡ c
      same b true e = refl
      same b false e = e

      same_no : (b : Bool) → (b || false) ≡ b
      same_no true = refl
      same_no false = refl

      more : (s : List ℕ) → (s ≢ [] → list_any (λ ps. h (slice_index ps (suc i))) (behind s) ≡ here) → (here || list_any (λ ps. h (slice_index ps (suc i))) (behind s)) ≡ here
      more [] f = same_no here
      more (q ∷ s) f = same (list_any (λ ps. h (slice_index ps (suc i))) (behind (q ∷ s))) here (f (λ e. absurd (omega (arith, ap length e))))

behind_none : (s : List ℕ) → flat_map (λ (p : ℕ). map (λ ps. p ∷ ps) []) s ≡ []
behind_none [] = refl
behind_none (p ∷ s) = behind_none s

pub any_of_products : (h : ℕ → Bool) (ss : List (List ℕ)) (i : ℕ) (s : List ℕ) → slice_get ss i ≡ Some s → products ss ≢ [] → list_any (λ ps. h (slice_index ps i)) (products ss) ≡ list_any h s
any_of_products h [] i s at some = absurd (cc at)
any_of_products h (x ∷ ss) zero s at some =
    let same : x ≡ s = cc at in
    any_first (products ss) h (λ e. some (ap (λ rest. flat_map (λ p. map (λ ps. p ∷ ps) rest) x) e ∙ behind_none x)) x ∙ ap (list_any h) same
any_of_products h (x ∷ ss) (suc i) s at some =
    any_later (products ss) h i x (λ e. some (ap (λ l. flat_map (λ p. map (λ ps. p ∷ ps) (products ss)) l) e))
    ∙ any_of_products h ss i s at (λ e. some (ap (λ rest. flat_map (λ p. map (λ ps. p ∷ ps) rest) x) e ∙ behind_none x))

-- ---- the positions of a group

-- those that are still to be taken, the one that stands first
abbrev pub waiting : Group → Option ℕ → List ℕ
waiting g None = []
waiting g (Some p) = p ∷ from_on (suc p) (selected g)

all_on : (ps : List ℕ) → from_on 0 ps ≡ ps
all_on [] = refl
all_on (p ∷ ps) = go (nat_le 0 p) (le-leb 0 p (omega arith)) (all_on ps)
  where
    go : (b : Bool) → b ≡ true → from_on 0 ps ≡ ps → cond b (p ∷ from_on 0 ps) (from_on 0 ps) ≡ p ∷ ps
    go true e more = ap (λ l. p ∷ l) more
    go false e more = absurd (true≢false (sym e))

abbrev Tells : Group → ℕ → Option ℕ → Type 0
Tells g place next = MatchOption next (from_on place (selected g) ≡ []) (λ p. from_on place (selected g) ≡ p ∷ from_on (suc p) (selected g))

waits : (g : Group) (place : ℕ) (next : Option ℕ) → Tells g place next → from_on place (selected g) ≡ waiting g next
waits g place None h = h
waits g place (Some p) h = h

-- the key at a position of a group
abbrev node_key : ℕ → ℕ → List NodeId
node_key table row = record { table = table; row = row } ∷ []

abbrev pub item_key : ℕ → Group → ℕ → List NodeId
item_key table g p = node_key table (slice_index (items_of g.piece) p)

pub taken_item : (table : ℕ) (g : Group) (p row : ℕ) (mid new : Gathering) (r : Result (Unit {0}) JoinRefusal) → row ≡ slice_index (items_of g.piece) p → Gathers (node_key table row ∷ []) mid new r
    → Gathers (item_key table g p ∷ []) mid new r
taken_item table g p row mid new r e h = subst (λ x. Gathers (node_key table x ∷ []) mid new r) e h

pub record Visited (table : ℕ) (g : Group) (old new : Gathering) (next : Option ℕ) : Type 0 where
  pub done : List ℕ
  pub whole : selected g ≡ done ++ waiting g next
  pub there : IfSome next (λ p. is_selected g p ≡ true)
  pub took : TakesOn (map (item_key table g) done) old new

module _ (table : ℕ) (g : Group) (old : Gathering) where
  abbrev k : ℕ → List NodeId
  k = item_key table g

  pub visited_first : IsGathering old → (next : Option ℕ) → Tells g 0 next → IfSome next (λ p. is_selected g p ≡ true) → Visited table g old old next
  visited_first is next h there = record {
    done = [];
    whole = sym (all_on (selected g)) ∙ waits g 0 next h;
    there = there;
    took = came_none old is;
  }

  module _ (mid : Gathering) (p : ℕ) (v : Visited table g old mid (Some p)) where
    abbrev rest : List ℕ
    rest = from_on (suc p) (selected g)

    whole : selected g ≡ (v.done ++ p ∷ []) ++ rest
    whole = v.whole ∙ sym (append_assoc v.done (p ∷ []) rest)

    more : (new : Gathering) (r : Result (Unit {0}) JoinRefusal) → Gathers (k p ∷ []) mid new r → Gathers (map k (v.done ++ p ∷ [])) old new r
    more new r h = subst (λ l. Gathers l old new r) (sym (map-append k v.done (p ∷ []))) (then (map k v.done) (k p ∷ []) old mid new r v.took h)

    pub visited_next : (new : Gathering) (u : Unit {0}) → Gathers (k p ∷ []) mid new (Ok u) → (next : Option ℕ) → Tells g (p + 1) next → IfSome next (λ q. is_selected g q ≡ true) → Visited table g old new next
    visited_next new u h next tells there =
        let one : suc p ≡ p + 1 = omega arith in
        record {
          done = v.done ++ p ∷ [];
          whole = whole ∙ ap (λ l. (v.done ++ p ∷ []) ++ l) (ap (λ n. from_on n (selected g)) one ∙ waits g (p + 1) next tells);
          there = there;
          took = more new (Ok u) h;
        }

    pub visited_stops : (new : Gathering) (e : JoinRefusal) → Gathers (k p ∷ []) mid new (Err e) → Gathers (map k (selected g)) old new (Err e)
    visited_stops new e h =
        subst (λ l. Gathers l old new (Err e)) (sym (map-append k (v.done ++ p ∷ []) rest) ∙ ap (map k) (sym whole))
        (stops (map k (v.done ++ p ∷ [])) (map k rest) old new new e (more new (Err e) h))

  pub visited_all : (new : Gathering) → Visited table g old new None → TakesOn (map k (selected g)) old new
  visited_all new v = subst (λ l. TakesOn (map k l) old new) (sym (v.whole ∙ append-nil v.done)) v.took

-- ---- the chunk

-- what is true of all groups is true of one of them
within_groups : (gs : List Group) (i : ℕ) (g : Group) → slice_get gs i ≡ Some g → i < length gs
within_groups [] i g e = absurd (cc e)
within_groups (h ∷ gs) zero g e = omega arith
within_groups (h ∷ gs) (suc i) g e = let low = within_groups gs i g e in omega (arith, low)

found_group : (gs : List Group) (i : ℕ) (g : Group) → slice_get gs i ≡ Some g → slice_index_or gs i g ≡ g
found_group [] i g e = refl
found_group (h ∷ gs) zero g e = cc e
found_group (h ∷ gs) (suc i) g e = found_group gs i g e

module _ (c : Chunk) (is : IsChunk c) (i : ℕ) where
  pub group_is : (g : Group) → slice_get c.groups.now i ≡ Some g → IsGroup g
  group_is g at = subst IsGroup (found_group c.groups.now i g at) (is.groups i g (within_groups c.groups.now i g at))

-- a selected position of a group
pub position_within : (g : Group) (p : ℕ) → IsGroup g → is_selected g p ≡ true → p < length (items_of g.piece)
position_within g p is e = is.marked p (and_parts (is_current g.current p) (is_marked g.marks p) e).1

pub some_position : (g : Group) (next : Option ℕ) (p : ℕ) → next ≡ Some p → IfSome next (λ q. is_selected g q ≡ true) → is_selected g p ≡ true
some_position g next p e h = subst (λ o. IfSome o (λ q. is_selected g q ≡ true)) e h

module _ (y : Typed) (c : Chunk) (i : ℕ) (g : Group) (wide : 1 ≤ length y.nodes) (home : IsItem c i) (at : slice_get c.groups.now i ≡ Some g) where
  abbrev table : ℕ
  table = slice_index_or y.nodes 0 0

  key_there : (ps : List ℕ) → key_at y 1 c ps ≡ item_key table g (slice_index ps i)
  key_there ps =
      let row : node_at c ps 0 ≡ slice_index (items_of g.piece) (slice_index ps i) =
      ap (node_in c ps) (sym home) ∙ ap (λ o. slice_index (items_in o) (slice_index ps i)) at in
      key_more y c ps 0 table (slice_index (items_of g.piece) (slice_index ps i)) (omega (arith, wide)) refl (sym row)

  -- a key at each selected position of the group
  pub same_items : choices c.groups.now ≢ [] → Same (map (item_key table g) (selected g)) (keys_at y 1 c (choices c.groups.now))
  same_items some q =
      let h : ℕ → Bool = λ p. same_nodes q (item_key table g p) in
      list_any_map (same_nodes q) (item_key table g) (selected g)
      ∙ sym (any_of_products h (map selected c.groups.now) i (selected g) (slice_get-map selected c.groups.now i ∙ ap (option_map selected) at) some)
      ∙ (λ j. list_any (λ ps. same_nodes q (sym (key_there ps) j)) (choices c.groups.now))
      ∙ sym (list_any_map (same_nodes q) (key_at y 1 c) (choices c.groups.now))
