-- Which lists stand at the ends of levels, and what one more makes of them.
use Rattle.std.proofs.Common.{◌≡◌, ◌∙◌, ap, ap₂, refl, sym, subst, ℕ, ◌+◌, ◌-◌, ◌<◌, ◌≤◌, zero, suc, replicate, Bool, true, false, not, cond, ◌&&◌, ◌||◌, ltb, nat_eq, List, [], ◌∷◌, ◌++◌, length, slice_index_or, arith, length-append, append_assoc, append-nil, true≢false}
use Rattle.std.specs.HashSet.{HashSet}
use Rattle.std.specs.List.{AllByRecursion, list_any, position_or_len}
use Rattle.std.proofs.Math.ListN.{get_or-append}
use Rattle.std.proofs.Math.Seq.{get_or-append_seam}
use Rattle.std.proofs.lemmas.Bool.{and_from, and_parts, eq-eqb, le-ltb, lt-ltb, ltb-false, ltb-true}
use Rattle.std.proofs.lemmas.Bool.Decides.{nat_tests}
use Rattle.std.proofs.lemmas.List.{length-map, map-append}
use Rattle.std.proofs.lemmas.List.Folds.{list_any_at, position_or_len_push}
use Rattle.std.proofs.lemmas.List.Sums.{prefix_len_stops}
use Rattle.std.proofs.lemmas.Option.{get_or_from_slice_get, slice_get-get_or, slice_get-map}
use Rattle.std.specs.Option.{option_map}
use Rattle.gq_base.specs.declared.NodeId.{NodeId}
use Rattle.gq_plan.proofs.Each.{each_append, each_then}
use Rattle.gq_plan.proofs.Products.{same_node_is}
use Rattle.gq_plan.specs.Assignments.{same_node}
use Rattle.gq_plan.specs.Keys.{has_key, same_nodes}
use Rattle.gq_exists.specs.contracts.paths.LinkPartialEq as derived
use Rattle.gq_exists.specs.declared.paths.Link.{Link}
use Rattle.gq_exists.specs.steps.Levels.{AreLevels, IsOnce, grown, is_path, keys_from, link, links_of, longer, node_of, place, roots, same_link, with_link}

-- ---- places

-- the test of links is the derived one
same_test : (k l : Link) → (derived.TheImpl.eq-value).it k l ≡ same_link k l
same_test k l = grind (arith, nat_tests)

pub same_tests : (k : Link) (links : List Link) → list_any ((derived.TheImpl.eq-value).it k) links ≡ list_any (same_link k) links
same_tests k links = λ i. list_any (λ l. same_test k l i) links

pub absent : {X : Type 0} (p : X → Bool) (xs : List X) → list_any p xs ≡ false → position_or_len p xs ≡ length xs
absent p [] e = refl
absent p (x ∷ xs) e = go (p x) e (absent p xs)
  where
    go : (b : Bool) → (b || list_any p xs) ≡ false → (list_any p xs ≡ false → position_or_len p xs ≡ length xs) → cond (not b) (1 + position_or_len p xs) 0 ≡ suc (length xs)
    go true e h = absurd (true≢false e)
    go false e h = let k = h e in omega (arith, k)

pub present : {X : Type 0} (p : X → Bool) (xs : List X) → list_any p xs ≡ true → position_or_len p xs < length xs
present p [] e = absurd (true≢false (sym e))
present p (x ∷ xs) e = go (p x) e (present p xs)
  where
    go : (b : Bool) → (b || list_any p xs) ≡ true → (list_any p xs ≡ true → position_or_len p xs < length xs) → cond (not b) (1 + position_or_len p xs) 0 < suc (length xs)
    go true e h = omega arith
    go false e h = let k = h e in omega (arith, k)

pub passes_there : {X : Type 0} (p : X → Bool) (xs : List X) (d : X) → position_or_len p xs < length xs → p (slice_index_or xs (position_or_len p xs) d) ≡ true
passes_there p xs d lt = go (p (slice_index_or xs (position_or_len p xs) d)) (prefix_len_stops (λ x. not (p x)) xs d lt)
  where
    go : (b : Bool) → not b ≡ false → b ≡ true
    go true e = refl
    go false e = absurd (true≢false e)

same_decides : (k l : Link) → same_link k l ≡ true → k ≡ l
same_decides k l e = grind (arith, nat_tests)

same_itself : (k : Link) → same_link k k ≡ true
same_itself k = grind (arith, nat_tests)

there : (links : List Link) (l : Link) → place links l < length links → slice_index_or links (place links l) l ≡ l
there links l lt = sym (same_decides l (slice_index_or links (place links l) l) (passes_there (same_link l) links l lt))

each_at : {X : Type 0} (P : X → Type 0) (xs : List X) (i : ℕ) (d : X) → AllByRecursion P xs → i < length xs → P (slice_index_or xs i d)
each_at P [] i d h lt = absurd (omega (arith, lt))
each_at P (x ∷ xs) zero d h lt = h.0
each_at P (x ∷ xs) (suc i) d h lt = each_at P xs i d h.1 (omega (arith, lt))

-- one more link, which was not there
once_push : (links : List Link) (k : Link) → list_any (same_link k) links ≡ false → IsOnce links → IsOnce (links ++ k ∷ [])
once_push links k new once i d lt = go (ltb i (length links)) refl
  where
    go : (b : Bool) → ltb i (length links) ≡ b → place (links ++ k ∷ []) (slice_index_or (links ++ k ∷ []) i d) ≡ i
    go true e =
        let inside = ltb-true i (length links) e in
        let was = once i d inside in
        let l = slice_index_or links i d in
        ap (place (links ++ k ∷ [])) (get_or-append links (k ∷ []) d i inside) ∙ position_or_len_push (same_link l) links k
        ∙ early (nat_eq (place links l) (length links)) (place links l) (cond (same_link l k) 0 1) refl was inside
      where
        early : (c : Bool) (p m : ℕ) → nat_eq p (length links) ≡ c → p ≡ i → i < length links → cond c (length links + m) p ≡ i
        early true p m h is inside = grind (arith, nat_tests)
        early false p m h is inside = is
    go false e =
        let past = ltb-false i (length links) e in
        let last : i ≡ length links = omega (arith, past, lt, length-append links (k ∷ [])) in
        ap (λ j. place (links ++ k ∷ []) (slice_index_or (links ++ k ∷ []) j d)) last ∙ ap (place (links ++ k ∷ [])) (get_or-append_seam links k [] d)
        ∙ position_or_len_push (same_link k) links k
        ∙ ap (λ c. cond c (length links + cond (same_link k k) 0 1) (place links k)) (eq-eqb _ _ (absent (same_link k) links new))
        ∙ ap (λ c. length links + cond c 0 1) (same_itself k) ∙ (let e : length links + 0 ≡ i = omega (arith, last) in e)

-- ---- lists

abbrev pub Fronts : Type 0
Fronts = List (List NodeId)

abbrev pub at : Fronts → ℕ → List NodeId
at fs i = slice_index_or fs i []

length-longer : (fs : Fronts) (links : List Link) → length (longer fs links) ≡ length links
length-longer fs links = length-map links (λ l. at fs l.front ++ node_of l ∷ [])

at_longer : (fs : Fronts) (links : List Link) (i : ℕ) (d : Link) → i < length links → at (longer fs links) i ≡ at fs (slice_index_or links i d).front ++ node_of (slice_index_or links i d) ∷ []
at_longer fs links i d lt =
    let g = λ (l : Link). at fs l.front ++ node_of l ∷ [] in
    get_or_from_slice_get (longer fs links) i _ [] (slice_get-map g links i ∙ ap (option_map g) (slice_get-get_or links i d lt))

-- the list that a path from a front makes
pub record Ends (fs : Fronts) (levels : List (List Link)) (key : List NodeId) : Type 0 where
  pub number : ℕ
  pub within : number < length (keys_from fs levels)
  pub is : at (keys_from fs levels) number ≡ key

pub ends : (levels : List (List Link)) (fs : Fronts) (f : ℕ) (ns : List NodeId) → AreLevels (length fs) levels → f < length fs → is_path levels f ns ≡ true → Ends fs levels (at fs f ++ ns)
ends [] fs f [] a w e = record { number = f; within = w; is = sym (append-nil (at fs f)) }
ends [] fs f (n ∷ ns) a w e = absurd (true≢false (sym e))
ends (links ∷ levels) fs f [] a w e = absurd (true≢false (sym e))
ends (links ∷ levels) fs f (n ∷ ns) a w e =
    let i = place links (link f n) in
    let parts = and_parts (ltb i (length links)) (is_path levels i ns) e in
    let inside = ltb-true i (length links) parts.0 in
    let long = length-longer fs links in
    let rest = ends levels (longer fs links) i ns (subst (λ m. AreLevels m levels) (sym long) a.2) (omega (arith, inside, long)) parts.1 in
    let stands : at (longer fs links) i ≡ at fs f ++ n ∷ [] = at_longer fs links i (link f n) inside ∙ ap (λ l. at fs l.front ++ node_of l ∷ []) (there links (link f n) inside) in
    record { number = rest.number; within = rest.within; is = rest.is ∙ ap (λ l. l ++ ns) stands ∙ append_assoc (at fs f) (n ∷ []) ns }

-- the path that makes a list
pub record Begins (fs : Fronts) (levels : List (List Link)) (key : List NodeId) : Type 0 where
  pub front : ℕ
  pub nodes : List NodeId
  pub within : front < length fs
  pub is : key ≡ at fs front ++ nodes
  pub path : is_path levels front nodes ≡ true

pub begins : (levels : List (List Link)) (fs : Fronts) (j : ℕ) → AreLevels (length fs) levels → j < length (keys_from fs levels) → Begins fs levels (at (keys_from fs levels) j)
begins [] fs j a w = record { front = j; nodes = []; within = w; is = sym (append-nil (at fs j)); path = refl }
begins (links ∷ levels) fs j a w =
    let d : Link = record { front = 0; table = 0; row = 0 } in
    let long = length-longer fs links in
    let rest = begins levels (longer fs links) j (subst (λ m. AreLevels m levels) (sym long) a.2) w in
    let inside : rest.front < length links = omega (arith, rest.within, long) in
    let l = slice_index_or links rest.front d in
    record {
      front = l.front;
      nodes = node_of l ∷ rest.nodes;
      within = each_at (λ (k : Link). k.front < length fs) links rest.front d a.0 inside;
      is = rest.is ∙ ap (λ k. k ++ rest.nodes) (at_longer fs links rest.front d inside) ∙ append_assoc (at fs l.front) (node_of l ∷ []) rest.nodes;
      path = subst (λ k. (ltb k (length links) && is_path levels k rest.nodes) ≡ true) (sym (a.1 rest.front d inside)) (and_from _ _ (lt-ltb _ _ inside) rest.path);
    }

-- ---- one more list

wider : (m n : ℕ) → m ≤ n → (levels : List (List Link)) → AreLevels m levels → AreLevels n levels
wider m n le [] a = tt
wider m n le (links ∷ levels) a = (each_then (λ (l : Link). l.front < m) (λ (l : Link). l.front < n) (λ l h. omega (arith, h, le)) links a.0, a.1, a.2)

longer_more : (fs more : Fronts) (links : List Link) → AllByRecursion (λ l. l.front < length fs) links → longer (fs ++ more) links ≡ longer fs links
longer_more fs more [] h = refl
longer_more fs more (l ∷ links) h = ap₂ (λ f ls. (f ++ node_of l ∷ []) ∷ ls) (get_or-append fs more [] l.front h.0) (longer_more fs more links h.1)

-- more fronts make no more lists
pub keys_more : (fs more : Fronts) (links : List Link) (levels : List (List Link)) → AreLevels (length fs) (links ∷ levels) → keys_from (fs ++ more) (links ∷ levels) ≡ keys_from fs (links ∷ levels)
keys_more fs more links levels a = ap (λ l. keys_from l levels) (longer_more fs more links a.0)

not_behind : (n : ℕ) (k : Link) (links : List Link) → n ≤ k.front → AllByRecursion (λ l. l.front < n) links → list_any (same_link k) links ≡ false
not_behind n k [] le h = refl
not_behind n k (l ∷ links) le h = go (same_link k l) refl (not_behind n k links le h.1)
  where
    go : (b : Bool) → same_link k l ≡ b → list_any (same_link k) links ≡ false → (b || list_any (same_link k) links) ≡ false
    go true e more = let same = ap (λ (x : Link). x.front) (same_decides k l e) in absurd (omega (arith, same, le, h.0))
    go false e more = more

-- nothing leads on from a front that is new
no_path : (n : ℕ) (links : List Link) (levels : List (List Link)) (ns : List NodeId) → AreLevels n (links ∷ levels) → is_path (links ∷ levels) n ns ≡ false
no_path n links levels [] a = refl
no_path n links levels (k ∷ ns) a =
    let at_end = absent (same_link (link n k)) links (not_behind n (link n k) links (omega arith) a.0) in
    ap (λ b. b && is_path levels (place links (link n k)) ns) (le-ltb (place links (link n k)) (length links) (omega (arith, at_end)))

pub record Grows (fs : Fronts) (levels new : List (List Link)) (key : List NodeId) : Type 0 where
  pub keys : keys_from fs new ≡ keys_from fs levels ++ key ∷ []
  pub are : AreLevels (length fs) new

abbrev pub CanGrow : List (List Link) → Type 0
CanGrow levels =
    (fs : Fronts) (f : ℕ) (ns : List NodeId) → AreLevels (length fs) levels → f < length fs → is_path levels f ns ≡ false → length ns ≡ length levels
    → Grows fs levels (grown levels f ns) (at fs f ++ ns)

module _ (links : List Link) (fs : Fronts) (f : ℕ) (n : NodeId) (w : f < length fs) where
  abbrev k : Link
  k = link f n

  long : length (longer fs links) ≡ length links
  long = length-longer fs links

  -- behind a link that is there
  known : (levels : List (List Link)) → CanGrow levels → (ns : List NodeId) → AreLevels (length fs) (links ∷ levels) → is_path (links ∷ levels) f (n ∷ ns) ≡ false → suc (length ns) ≡ suc (length levels) → list_any (same_link k) links ≡ true
      → Grows fs (links ∷ levels) (links ∷ grown levels (place links k) ns) (at fs f ++ n ∷ ns)
  known levels more ns a none wide e =
      let inside = present (same_link k) links e in
      let stops : is_path levels (place links k) ns ≡ false = sym (ap (λ b. b && is_path levels (place links k) ns) (lt-ltb (place links k) (length links) inside)) ∙ none in
      let rest = more (longer fs links) (place links k) ns (subst (λ m. AreLevels m levels) (sym long) a.2) (omega (arith, inside, long)) stops (omega (arith, wide)) in
      let stands : at (longer fs links) (place links k) ≡ at fs f ++ n ∷ [] = at_longer fs links (place links k) k inside ∙ ap (λ l. at fs l.front ++ node_of l ∷ []) (there links k inside) in
      record {
        keys = rest.keys ∙ ap (λ l. keys_from (longer fs links) levels ++ l ∷ []) (ap (λ l. l ++ ns) stands ∙ append_assoc (at fs f) (n ∷ []) ns);
        are = (a.0, a.1, subst (λ m. AreLevels m (grown levels (place links k) ns)) long rest.are);
      }

  -- behind one that is new
  abbrev longer_one : longer fs (links ++ k ∷ []) ≡ longer fs links ++ (at fs f ++ n ∷ []) ∷ []
  longer_one = map-append (λ (l : Link). at fs l.front ++ node_of l ∷ []) links (k ∷ [])

  many : length (links ++ k ∷ []) ≡ length links + 1
  many = length-append links (k ∷ [])

  new : (levels : List (List Link)) → CanGrow levels → (ns : List NodeId) → AreLevels (length fs) (links ∷ levels) → suc (length ns) ≡ suc (length levels) → list_any (same_link k) links ≡ false
      → Grows fs (links ∷ levels) ((links ++ k ∷ []) ∷ grown levels (place links k) ns) (at fs f ++ n ∷ ns)
  new [] more [] a wide e = record {
    keys = longer_one;
    are = (each_append (λ (l : Link). l.front < length fs) links (k ∷ []) a.0 (w, tt), once_push links k e a.1, tt);
  }
  new [] more (x ∷ ns) a wide e = absurd (omega (arith, wide))
  new (next ∷ levels) more ns a wide e =
      let last = absent (same_link k) links e in
      let fs' = longer fs (links ++ k ∷ []) in
      let long' : length fs' ≡ length links + 1 = length-longer fs (links ++ k ∷ []) ∙ many in
      let rest = more fs' (place links k) ns (subst (λ m. AreLevels m (next ∷ levels)) (sym long') (wider (length links) (length links + 1) (omega arith) (next ∷ levels) a.2)) (omega (arith, last, long'))
      (ap (λ m. is_path (next ∷ levels) m ns) last ∙ no_path (length links) next levels ns a.2) (omega (arith, wide)) in
      let here : at fs' (place links k) ≡ at fs f ++ n ∷ [] =
      ap₂ at longer_one (last ∙ sym long) ∙ get_or-append_seam (longer fs links) (at fs f ++ n ∷ []) [] [] in
      let same : keys_from fs' (next ∷ levels) ≡ keys_from (longer fs links) (next ∷ levels) =
      ap (λ l. keys_from l (next ∷ levels)) longer_one ∙ keys_more (longer fs links) ((at fs f ++ n ∷ []) ∷ []) next levels (subst (λ m. AreLevels m (next ∷ levels)) (sym long) a.2) in
      record {
        keys = rest.keys ∙ ap₂ (λ l x. l ++ x ∷ []) same (ap (λ l. l ++ ns) here ∙ append_assoc (at fs f) (n ∷ []) ns);
        are = (
          each_append (λ (l : Link). l.front < length fs) links (k ∷ []) a.0 (w, tt),
          once_push links k e a.1,
          subst (λ m. AreLevels m (grown (next ∷ levels) (place links k) ns)) (long' ∙ sym many) rest.are,
        );
      }

step : (links : List Link) (levels : List (List Link)) → CanGrow levels → CanGrow (links ∷ levels)
step links levels more fs f [] a w none wide = absurd (omega (arith, wide))
step links levels more fs f (n ∷ ns) a w none wide = go (list_any (same_link (link f n)) links) refl
  where
    go : (b : Bool) → list_any (same_link (link f n)) links ≡ b
        → Grows fs (links ∷ levels) (cond b links (links ++ link f n ∷ []) ∷ grown levels (place links (link f n)) ns) (at fs f ++ n ∷ ns)
    go true e = known links fs f n w levels more ns a none wide e
    go false e = new links fs f n w levels more ns a wide e

pub grows : (levels : List (List Link)) → CanGrow levels
grows [] fs f [] a w none wide = absurd (true≢false none)
grows [] fs f (n ∷ ns) a w none wide = absurd (omega (arith, wide))
grows (links ∷ levels) fs f ns a w none wide = step links levels (grows levels) fs f ns a w none wide

-- ---- from the first front on

pub same_refl : (k : List NodeId) → same_nodes k k ≡ true
same_refl [] = refl
same_refl (n ∷ k) = and_from (same_node n n) (same_nodes k k) (and_from _ _ (eq-eqb n.table n.table refl) (eq-eqb n.row n.row refl)) (same_refl k)

pub same_is : (k l : List NodeId) → same_nodes k l ≡ true → k ≡ l
same_is [] [] e = refl
same_is [] (n ∷ l) e = absurd (true≢false (sym e))
same_is (m ∷ k) [] e = absurd (true≢false (sym e))
same_is (m ∷ k) (n ∷ l) e =
    let parts = and_parts (same_node m n) (same_nodes k l) e in
    ap₂ ◌∷◌ (sym (same_node_is m n parts.0)) (same_is k l parts.1)

abbrev pub all : Bool → List (List Link) → Fronts
all any levels = keys_from (roots any) levels

-- a list is among those that levels make where a path leads to it
pub has_path : (any : Bool) (levels : List (List Link)) (key : List NodeId) → AreLevels (length (roots any)) levels → (any && is_path levels 0 key) ≡ has_key key (all any levels)
has_path any levels key a = go any a (has_key key (all any levels)) refl
  where
    found : (b : Bool) → has_key key (all b levels) ≡ true → AreLevels (length (roots b)) levels → Begins (roots b) levels key
    found b e a =
        let ks = all b levels in
        let inside = present (same_nodes key) ks e in
        let is = same_is key (at ks (position_or_len (same_nodes key) ks)) (passes_there (same_nodes key) ks [] inside) in
        subst (Begins (roots b) levels) (sym is) (begins levels (roots b) (position_or_len (same_nodes key) ks) a inside)

    leads : Begins (roots true) levels key → is_path levels 0 key ≡ true
    leads b =
        let first : b.front ≡ 0 = omega (arith, b.within) in
        let is : key ≡ b.nodes = b.is ∙ ap (λ f. at (roots true) f ++ b.nodes) first in
        ap₂ (is_path levels) (sym first) is ∙ b.path

    go : (b : Bool) → AreLevels (length (roots b)) levels → (c : Bool) → has_key key (all b levels) ≡ c → (b && is_path levels 0 key) ≡ has_key key (all b levels)
    go false a true e = let b = found false e a in absurd (omega (arith, b.within))
    go false a false e = sym e
    go true a true e = leads (found true e a) ∙ sym e
    go true a false e = by (is_path levels 0 key) refl
      where
        by : (c : Bool) → is_path levels 0 key ≡ c → is_path levels 0 key ≡ has_key key (all true levels)
        by false h = h ∙ sym e
        by true h =
            let there = ends levels (roots true) 0 key a (omega arith) h in
            h ∙ sym (list_any_at (same_nodes key) (all true levels) there.number [] there.within (ap (same_nodes key) there.is ∙ same_refl key))

-- where one more is made, it is the last
record Inserted (any : Bool) (levels new : List (List Link)) (key : List NodeId) : Type 0 where
  pub keys : all true new ≡ all any levels ++ key ∷ []
  pub are : AreLevels (length (roots true)) new

inserted : (any : Bool) (levels : List (List Link)) (key : List NodeId) → AreLevels (length (roots any)) levels → length key ≡ length levels → has_key key (all any levels) ≡ false
    → Inserted any levels (grown levels 0 key) key
inserted true levels key a wide none =
    let r = grows levels (roots true) 0 key a (omega arith) (has_path true levels key a ∙ none) wide in
    record { keys = r.keys; are = r.are }
inserted false [] [] a wide none = record { keys = refl; are = tt }
inserted false [] (n ∷ key) a wide none = absurd (omega (arith, wide))
inserted false (links ∷ levels) key a wide none =
    let r = grows (links ∷ levels) (roots true) 0 key (wider 0 1 (omega arith) (links ∷ levels) a) (omega arith) (no_path 0 links levels key a) wide in
    record { keys = r.keys ∙ ap (λ l. l ++ key ∷ []) (keys_more [] ([] ∷ []) links levels a); are = r.are }

-- levels in which nodes lead on stay as they are
known_link : (links : List Link) (k : Link) → place links k < length links → with_link links k ≡ links
known_link links k lt = go (list_any (same_link k) links) refl
  where
    go : (b : Bool) → list_any (same_link k) links ≡ b → cond b links (links ++ k ∷ []) ≡ links
    go true e = refl
    go false e = let at_end = absent (same_link k) links e in absurd (omega (arith, at_end, lt))

grown_known : (levels : List (List Link)) (f : ℕ) (ns : List NodeId) → is_path levels f ns ≡ true → grown levels f ns ≡ levels
grown_known [] f ns e = refl
grown_known (links ∷ levels) f [] e = refl
grown_known (links ∷ levels) f (n ∷ ns) e =
    let i = place links (link f n) in
    let parts = and_parts (ltb i (length links)) (is_path levels i ns) e in
    ap₂ ◌∷◌ (known_link links (link f n) (ltb-true i (length links) parts.0)) (grown_known levels i ns parts.1)

-- a list that is there or not
pub record Inserts (known any : Bool) (levels new : List (List Link)) (key : List NodeId) : Type 0 where
  pub keys : all true new ≡ cond known (all any levels) (all any levels ++ key ∷ [])
  pub are : AreLevels (length (roots true)) new

pub inserts : (any : Bool) (levels : List (List Link)) (key : List NodeId) → AreLevels (length (roots any)) levels → length key ≡ length levels
    → Inserts (has_key key (all any levels)) any levels (grown levels 0 key) key
inserts any levels key a wide = go (has_key key (all any levels)) refl
  where
    go : (known : Bool) → has_key key (all any levels) ≡ known → Inserts known any levels (grown levels 0 key) key
    go true e =
        let both = and_parts any (is_path levels 0 key) (has_path any levels key a ∙ e) in
        let same = grown_known levels 0 key both.1 in
        record {
          keys = ap (all true) same ∙ ap (λ b. all b levels) (sym both.0);
          are = subst (AreLevels (length (roots true))) (sym same) (subst (λ b. AreLevels (length (roots b)) levels) both.0 a);
        }
    go false e = let r = inserted any levels key a wide e in record { keys = r.keys; are = r.are }

-- levels without links make no list
pub none_made : (w : ℕ) → keys_from [] (replicate w []) ≡ []
none_made zero = refl
none_made (suc w) = none_made w

pub none_linked : (w : ℕ) → AreLevels 0 (replicate w [])
none_linked zero = tt
none_linked (suc w) = (tt, (λ i d lt. absurd (omega (arith, lt))), none_linked w)

-- as many as the last level has links
pub as_last : {S : Type 0} (fs : Fronts) (levels : List (HashSet Link S)) (level : HashSet Link S) → 1 ≤ length levels → level ≡ slice_index_or levels (length levels - 1) level → length (keys_from fs (links_of levels)) ≡ length level.keys
as_last fs [] level some is = absurd (omega (arith, some))
as_last fs (l ∷ []) level some is = length-longer fs l.keys ∙ ap (λ (x : HashSet _ _). length x.keys) (sym is)
as_last fs (l ∷ m ∷ levels) level some is =
    as_last (longer fs l.keys) (m ∷ levels) level (omega arith)
    (is ∙ ap (λ n. slice_index_or (l ∷ m ∷ levels) n level) (let e : length (l ∷ m ∷ levels) - 1 ≡ suc (length (m ∷ levels) - 1) = omega arith in e))

pub no_link : (links : List Link) (levels : List (List Link)) (k : Link) (front : ℕ) (n : NodeId) (ns : List NodeId) → k ≡ link front n → false ≡ list_any (same_link k) links → false ≡ is_path (links ∷ levels) front (n ∷ ns)
no_link links levels k front n ns is none =
    let at_end = absent (same_link (link front n)) links (ap (λ l. list_any (same_link l) links) (sym is) ∙ sym none) in
    sym (ap (λ b. b && is_path levels (place links (link front n)) ns) (le-ltb (place links (link front n)) (length links) (omega (arith, at_end))))

pub length-grown : (levels : List (List Link)) (f : ℕ) (ns : List NodeId) → length (grown levels f ns) ≡ length levels
length-grown [] f ns = refl
length-grown (links ∷ levels) f [] = refl
length-grown (links ∷ levels) f (n ∷ ns) = ap suc (length-grown levels (place links (link f n)) ns)
