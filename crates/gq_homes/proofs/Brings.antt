-- A build that is put into the group of its join: what the join brings has its home there, and nothing else moves.
use Rattle.std.proofs.Common.{◌≡◌, ◌⊎◌, inl, inr, ℕ, ◌+◌, ◌-◌, ◌<◌, ◌≤◌, Bool, true, false, not, ◌&&◌, ◌||◌, nat_eq, Option, Some, List, [], ◌∷◌, ◌++◌, filter, length, get_or, refl, sym, ap, ap₂, ◌∙◌, subst, arith, true≢false}
use Rattle.std.specs.Prelude.{slice_index_or}
use Rattle.std.specs.List.{list_all, range_with_len}
use Rattle.std.proofs.lemmas.Bool.{and_parts, or_cases, cases_lt, eqb-true}
use Rattle.std.proofs.lemmas.List.{get_or-append_right, get_or-map, get_or_past, length-append, length-map}
use Rattle.gq_base.specs.Catalogs.{Tables}
use Rattle.gq_group.specs.declared.home.Homes.{Homes}
use Rattle.gq_group.specs.declared.home.NodeHome.TheVariants as node
use Rattle.gq_group.specs.declared.home.RelHome.TheVariants as rel
use Rattle.gq_join.specs.Kept.{Held, place_of}
use Rattle.gq_law_groups.specs.Groups.{makes_group}
use Rattle.gq_plan.proofs.ColumnBounds.{binds_is}
use Rattle.gq_plan.specs.Columns.{binds, brought}
use Rattle.gq_plan.specs.Covers.{after, fits, fits_step, is_joined}
use Rattle.gq_plan.specs.Halves.{runs_step}
use Rattle.gq_plan.specs.Known.{Known, none}
use Rattle.gq_plan.specs.Plans.{Plan, Step, Scan, Extend, Close, Join, Keep, Differ, NoLoop, Single, Meet}
use Rattle.gq_plan.specs.Soundness.{has_number}
use Rattle.gq_plan.specs.declared.typed.Typed.{Typed}
use Rattle.gq_steps.specs.Built.{HasBuild, IsBuildOf}
use Rattle.gq_homes.specs.Homes.{IsColumnOf, column_group, HasKeptColumn, filling_at, kept_of, no_filling, node_home, rel_home}
use Rattle.gq_homes.specs.steps.Housing.{brought_by, fillings_of, not_in, with_build}
use Rattle.gq_steps.specs.Levels.{Run}
use Rattle.gq_homes.specs.declared.homes.Filling.{Filling}
use Rattle.gq_homes.proofs.Brought.{IsNumbered, filter_twice, has_passes, length-numbered, numbered_at, numbered_only, numbered_other, place_is}
use Rattle.gq_steps.proofs.Joined.{IsLow, in_range, is_shared, low_after, low_none}
use Rattle.gq_steps.proofs.Joining.{has, has_kept}

-- ---- when a join fits

module _ (c : Run) (k : Known) (side : Plan) (keys : List ℕ) (fit : fits_step c.graph.catalog c.typed (Join side keys) k ≡ true) where
  join_fits : (fits c.graph.catalog c.typed side none ≡ true) × (is_joined c.typed keys (after side none) k ≡ true)
  unfolding fits
  join_fits = and_parts _ _ fit

  -- what the side plan binds are variables of the alternative
  pub side_low : IsLow c.typed (after side none)
  side_low = low_after c.graph.catalog c.typed side none join_fits.0 (low_none c.typed)

  joined : (list_all (λ v. not ((after side none).nodes v && k.nodes v) || has_number keys v) (range_with_len 0 (length c.typed.nodes)) ≡ true) × (list_all (λ x. not ((after side none).rels x && k.rels x)) (range_with_len 0 (length c.typed.rels)) ≡ true)
  joined = and_parts _ _ (and_parts (list_all (λ v. (after side none).nodes v && k.nodes v) keys) _ join_fits.1).1

  -- a node variable that was known is a key
  pub shared_key : (v : ℕ) → (after side none).nodes v ≡ true → k.nodes v ≡ true → has_number keys v ≡ true
  shared_key v own known =
      let inside = side_low.nodes v own in
      is_shared ((after side none).nodes v) (k.nodes v) (has_number keys v) own known
      (in_range (λ v. not ((after side none).nodes v && k.nodes v) || has_number keys v) 0 (length c.typed.nodes) v joined.0 (omega arith) (omega (arith, inside)))

  -- a relationship variable was not known
  pub unshared_rel : (x : ℕ) → k.rels x ≡ true → (after side none).rels x ≡ false
  unshared_rel x known = go ((after side none).rels x) refl
    where
      go : (b : Bool) → (after side none).rels x ≡ b → b ≡ false
      go false is = refl
      go true own =
          let inside = side_low.rels x own in
          let none_shared : not ((after side none).rels x && k.rels x) ≡ true = in_range (λ x. not ((after side none).rels x && k.rels x)) 0 (length c.typed.rels) x joined.1 (omega arith) (omega (arith, inside)) in
          absurd (true≢false (sym none_shared ∙ ap₂ (λ a b. not (a && b)) own known))

-- ---- what is put there

pub record Brings (y : Typed) (side : Plan) (keys : List ℕ) (i d : ℕ) (fs : List Filling) (h : Homes) (o : Option Held) : Type 0 where
  pub node_count : length (with_build o keys i (length fs) h).nodes ≡ length h.nodes
  pub rel_count : length (with_build o keys i (length fs) h).rels ≡ length h.rels
  pub other_node : (v : ℕ) → ((after side none).nodes v ≡ true → has_number keys v ≡ true) → node_home (with_build o keys i (length fs) h) v ≡ node_home h v
  pub other_rel : (x : ℕ) → (after side none).rels x ≡ false → rel_home (with_build o keys i (length fs) h) x ≡ rel_home h x
  pub node_there : (v : ℕ) → (after side none).nodes v ≡ true → has_number keys v ≡ false → HasKeptColumn (fs ++ fillings_of i d (brought_by keys o)) (with_build o keys i (length fs) h) i v
  pub rel_there : (x : ℕ) → (after side none).rels x ≡ true → rel_home (with_build o keys i (length fs) h) x ≡ rel.Kept i (place_of (filter (after side none).rels (range_with_len 0 (length (with_build o keys i (length fs) h).rels))) x)
  pub column : (v j m : ℕ) → node_home (with_build o keys i (length fs) h) v ≡ node.Column j m → (node_home h v ≡ node.Column j m) ⊎ IsColumnOf (fs ++ fillings_of i d (brought_by keys o)) j m
  pub filling : (m : ℕ) → length fs ≤ m → m < length (fs ++ fillings_of i d (brought_by keys o)) → (v : ℕ) × (filling_at (fs ++ fillings_of i d (brought_by keys o)) m ≡ kept_of i d v) × ((after side none).nodes v ≡ true)
  pub few : length (fs ++ fillings_of i d (brought_by keys o)) ≤ length fs + length (brought y side keys)

module _ (c : Run) (k : Known) (side : Plan) (keys : List ℕ) (fit : fits_step c.graph.catalog c.typed (Join side keys) k ≡ true) (b : Held) (is : IsBuildOf c.graph c.typed side keys b)
    (h : Homes) (nodes : length h.nodes ≡ length c.typed.nodes) (rels : length h.rels ≡ length c.typed.rels) (i d : ℕ) (fs : List Filling) where
  abbrev vs : List ℕ
  vs = not_in keys b.nodes

  abbrev brings_it : ℕ → Bool
  brings_it v = (after side none).nodes v && not (has_number keys v)

  vs_are : vs ≡ filter brings_it (range_with_len 0 (length c.typed.nodes))
  vs_are = ap (not_in keys) is.nodes ∙ filter_twice (after side none).nodes (λ v. not (has_number keys v)) (range_with_len 0 (length c.typed.nodes))

  brought_parts : (v : ℕ) → has vs v ≡ true → ((after side none).nodes v ≡ true) × (not (has_number keys v) ≡ true)
  brought_parts v there = and_parts ((after side none).nodes v) (not (has_number keys v)) (has_passes brings_it (range_with_len 0 (length c.typed.nodes)) v (ap (λ l. has l v) (sym vs_are) ∙ there))

  not_brought : (v : ℕ) → ((after side none).nodes v ≡ true → has_number keys v ≡ true) → has vs v ≡ false
  not_brought v key = go (has vs v) refl
    where
      go : (t : Bool) → has vs v ≡ t → t ≡ false
      go false e = refl
      go true e = let parts = brought_parts v e in absurd (true≢false (sym parts.1 ∙ ap not (key parts.0)))

  is_brought : (v : ℕ) → (after side none).nodes v ≡ true → has_number keys v ≡ false → has vs v ≡ true
  is_brought v own other =
      ap (λ l. has l v) vs_are ∙ has_kept brings_it (length c.typed.nodes) v ((side_low c k side keys fit).nodes v own) ∙ ap₂ (λ a b. a && not b) own other

  long : length (fs ++ fillings_of i d vs) ≡ length fs + length vs
  long = length-append fs (fillings_of i d vs) ∙ ap (λ n. length fs + n) (length-map vs (kept_of i d))

  filling_is : (m : ℕ) → m < length vs → filling_at (fs ++ fillings_of i d vs) (length fs + m) ≡ kept_of i d (get_or vs m 0)
  filling_is m low =
      let e : length fs + m - length fs ≡ m = omega arith in
      get_or-append_right fs (fillings_of i d vs) (length fs) (length fs + m) no_filling refl (omega arith)
      ∙ ap (λ n. slice_index_or (fillings_of i d vs) n no_filling) e ∙ get_or-map (kept_of i d) vs m 0 no_filling low

  abbrev new : Homes
  new = with_build (Some b) keys i (length fs) h

  kept_rel : (x : ℕ) → (after side none).rels x ≡ true → rel_home new x ≡ rel.Kept i (place_of (filter (after side none).rels (range_with_len 0 (length new.rels))) x)
  kept_rel x own =
      let low = (side_low c k side keys fit).rels x own in
      let all : b.rels ≡ filter (after side none).rels (range_with_len 0 (length c.typed.rels)) = is.rels in
      let there : has b.rels x ≡ true = ap (λ l. has l x) all ∙ has_kept (after side none).rels (length c.typed.rels) x low ∙ own in
      let r : IsNumbered (rel.Kept i) rel.Nowhere 0 b.rels new.rels x = numbered_at (rel.Kept i) rel.Nowhere 0 b.rels h.rels x (omega (arith, low, rels)) there in
      let many : length new.rels ≡ length c.typed.rels = length-numbered (rel.Kept i) rel.Nowhere 0 b.rels h.rels ∙ rels in
      let zero_left : 0 + r.place ≡ r.place = omega arith in
      r.home
      ∙ ap (rel.Kept i)
      (zero_left
      ∙ sym (place_is (after side none).rels 0 (length c.typed.rels) r.place (subst (λ l. r.place < length l) all r.low))
      ∙ ap (place_of (filter (after side none).rels (range_with_len 0 (length c.typed.rels)))) (ap (λ l. get_or l r.place 0) (sym all) ∙ r.is)
      ∙ ap (λ n. place_of (filter (after side none).rels (range_with_len 0 n)) x) (sym many))

  brings_some : Brings c.typed side keys i d fs h (Some b)
  brings_some = record {
    node_count = length-numbered (node.Column i) node.Nowhere (length fs) vs h.nodes;
    rel_count = length-numbered (rel.Kept i) rel.Nowhere 0 b.rels h.rels;
    other_node = λ v key. numbered_other (node.Column i) node.Nowhere (length fs) vs h.nodes v (not_brought v key);
    other_rel = λ x free. numbered_other (rel.Kept i) rel.Nowhere 0 b.rels h.rels x (no_rel x free (has b.rels x) refl);
    node_there = node_column;
    rel_there = kept_rel;
    column = λ v j m e. by v j m e (cases_lt v (length h.nodes));
    filling = λ m above inside. (let low : m - length fs < length vs = omega (arith, above, inside, long) in
        let at : length fs + (m - length fs) ≡ m = omega (arith, above) in
        let place : ℕ = m - length fs in
        (get_or vs place 0, ap (filling_at (fs ++ fillings_of i d vs)) (sym at) ∙ filling_is place low, of_side place low));
    few = (let most : length vs ≡ length (brought c.typed side keys) = ap length (vs_are ∙ ap (λ p. filter p (range_with_len 0 (length c.typed.nodes))) (λ t. λ v. same_test v t)) in omega (arith, most, long));
  }
    where
      no_rel : (x : ℕ) → (after side none).rels x ≡ false → (t : Bool) → has b.rels x ≡ t → t ≡ false
      no_rel x free false e = refl
      no_rel x free true e = absurd (true≢false (sym (has_passes (after side none).rels (range_with_len 0 (length c.typed.rels)) x (ap (λ l. has l x) (sym is.rels) ∙ e)) ∙ free))

      node_column : (v : ℕ) → (after side none).nodes v ≡ true → has_number keys v ≡ false → HasKeptColumn (fs ++ fillings_of i d vs) new i v
      node_column v own other =
          let low = (side_low c k side keys fit).nodes v own in
          let r : IsNumbered (node.Column i) node.Nowhere (length fs) vs new.nodes v = numbered_at (node.Column i) node.Nowhere (length fs) vs h.nodes v (omega (arith, low, nodes)) (is_brought v own other) in
          let inside = r.low in
          record {
            column = length fs + r.place;
            depth = d;
            inside = omega (arith, inside, long);
            filling = filling_is r.place inside ∙ ap (kept_of i d) r.is;
            node_is = r.home;
          }

      by : (v j m : ℕ) → node_home new v ≡ node.Column j m → (v < length h.nodes) ⊎ (length h.nodes ≤ v) → (node_home h v ≡ node.Column j m) ⊎ IsColumnOf (fs ++ fillings_of i d vs) j m
      by v j m e (inr past) =
          let many = length-numbered (node.Column i) node.Nowhere (length fs) vs h.nodes in
          let nowhere : node.Nowhere ≡ node.Column j m = sym (get_or_past new.nodes v node.Nowhere (omega (arith, past, many))) ∙ e in
          absurd (cc nowhere)
      by v j m e (inl inside) = go (numbered_only (node.Column i) node.Nowhere (length fs) vs h.nodes v inside)
        where
          go : (get_or new.nodes v node.Nowhere ≡ get_or h.nodes v node.Nowhere) ⊎ IsNumbered (node.Column i) node.Nowhere (length fs) vs new.nodes v → (node_home h v ≡ node.Column j m) ⊎ IsColumnOf (fs ++ fillings_of i d vs) j m
          go (inl same) = inl (sym same ∙ e)
          go (inr r) =
              let column : node.Column i (length fs + r.place) ≡ node.Column j m = sym r.home ∙ e in
              let at : length fs + r.place ≡ m = cc column in
              let low = r.low in
              let here : i ≡ j = cc column in
              inr (record {
                inside = omega (arith, at, low, long);
                group = ap (λ n. column_group (filling_at (fs ++ fillings_of i d vs) n)) (sym at) ∙ ap column_group (filling_is r.place low) ∙ here;
              })

      of_side : (m : ℕ) → m < length vs → (after side none).nodes (get_or vs m 0) ≡ true
      of_side m low = (brought_parts (get_or vs m 0) (has_its vs m low)).0
        where
          has_its : (ws : List ℕ) (m : ℕ) → m < length ws → has ws (get_or ws m 0) ≡ true
          has_its ws m low = Rattle.gq_homes.proofs.Brought.has_own ws m low

      same_test : (v : ℕ) → brings_it v ≡ (binds v side && not (has_number keys v))
      same_test v = ap (λ b. b && not (has_number keys v)) (binds_is v side none ∙ Rattle.gq_homes.proofs.Brought.no_more (binds v side))

-- so does the build that the join has
pub brings : (c : Run) (k : Known) (side : Plan) (keys : List ℕ) → fits_step c.graph.catalog c.typed (Join side keys) k ≡ true → (o : Option Held) → HasBuild c.graph c.typed side keys o
    → (h : Homes) → length h.nodes ≡ length c.typed.nodes → length h.rels ≡ length c.typed.rels → (i d : ℕ) (fs : List Filling) → Brings c.typed side keys i d fs h o
brings c k side keys fit o built h nodes rels i d fs =
    subst (Brings c.typed side keys i d fs h) (sym built.there) (brings_some c k side keys fit built.build built.is h nodes rels i d fs)

-- ---- the keys of a join

-- they are known where it stands
abbrev pub KnowsKeys : Step → Known → Type 0
KnowsKeys (Join side keys) k = (v : ℕ) → has_number keys v ≡ true → k.nodes v ≡ true
KnowsKeys s k = Unit {0}

all_numbers : (p : ℕ → Bool) (ns : List ℕ) (v : ℕ) → list_all p ns ≡ true → has_number ns v ≡ true → p v ≡ true
all_numbers p [] v all h = absurd (true≢false (sym h))
all_numbers p (n ∷ ns) v all h = go (or_cases (nat_eq v n) (has_number ns v) h) (λ more. all_numbers p ns v (and_parts (p n) (list_all p ns) all).1 more)
  where
    go : (nat_eq v n ≡ true) ⊎ (has_number ns v ≡ true) → (has_number ns v ≡ true → p v ≡ true) → p v ≡ true
    go (inl same) rest = ap p (eqb-true v n same) ∙ (and_parts (p n) (list_all p ns) all).0
    go (inr more) rest = rest more

module _ (catalog : Tables) (y : Typed) where
  pub knows_keys : (s : Step) (k : Known) → runs_step catalog y s k ≡ true → KnowsKeys s k
  unfolding fits_step
  knows_keys (Scan v) k fit = tt
  knows_keys (Extend column x from to way) k fit = tt
  knows_keys (Close column x from to way) k fit = tt
  knows_keys (Join side keys) k fit = λ v key.
      (and_parts ((after side none).nodes v) (k.nodes v) (all_numbers (λ v. (after side none).nodes v && k.nodes v) keys v (and_parts _ _ (and_parts _ _ fit).1).0 key)).1
  knows_keys (Keep t) k fit = tt
  knows_keys (Differ p) k fit = tt
  knows_keys (NoLoop x) k fit = tt
  knows_keys (Single x from to way) k fit = tt
  knows_keys (Meet x from to way) k fit = tt

-- a step that makes no group is no join
pub no_keys : (s : Step) (k : Known) → makes_group s ≡ false → KnowsKeys s k
no_keys (Scan v) k none_made = tt
no_keys (Extend column x from to way) k none_made = tt
no_keys (Close column x from to way) k none_made = tt
no_keys (Join side keys) k none_made = absurd (true≢false none_made)
no_keys (Keep t) k none_made = tt
no_keys (Differ p) k none_made = tt
no_keys (NoLoop x) k none_made = tt
no_keys (Single x from to way) k none_made = tt
no_keys (Meet x from to way) k none_made = tt
