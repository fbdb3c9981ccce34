-- The rows at the ends of one trail, one after another.
use Rattle.std.proofs.Common.{◌≡◌, ◌⊎◌, inl, inr, ℕ, zero, suc, ◌<◌, ◌≤◌, Bool, true, false, not, ◌&&◌, ◌||◌, nat_eq, Option, Some, None, List, [], ◌∷◌, ◌++◌, flat_map, length, drop, set, true≢false, refl, sym, ap, ap₂, ◌∙◌, subst, arith}
use Rattle.std.specs.Prelude.{if◌then◌else◌, slice_get}
use Rattle.std.specs.List.{AllByRecursion, list_any}
use Rattle.std.proofs.lemmas.Bool.{and_parts, cases_eq, eq-eqb, ne_eqb}
use Rattle.gq_base.specs.Lists.{all_distinct}
use Rattle.gq_base.specs.Plain.{Graph}
use Rattle.gq_base.specs.Valid.{is_valid}
use Rattle.gq_base.specs.declared.NodeId.{NodeId}
use Rattle.gq_base.specs.declared.RelId.{RelId}
use Rattle.gq_base.specs.declared.direction.Direction.{Direction}
use Rattle.gq_law_ends.specs.Leading.{leads_to}
use Rattle.gq_law_ends.specs.Reaching.{rows_at}
use Rattle.gq_law_trails.specs.Trails.{arrivals, arrive_at, fits_end, taken_in}
use Rattle.gq_law_trails.specs.Walks.{may_follow}
use Rattle.gq_ends.specs.Ends.{OtherEnd}
use Rattle.gq_hops.proofs.Reaching.{spreads_as_led}
use Rattle.gq_hops.specs.Levels.{ends_met}
use Rattle.gq_hops.specs.Reaching.{Reaching}
use Rattle.gq_law_ends.proofs.Leading.{or_parts, or_second}
use Rattle.gq_law_ends.proofs.Reaching.{node_is, node_itself}
use Rattle.gq_law_plans.specs.Bindings.{bound}
use Rattle.gq_plan.specs.Allowed.{at_same}
use Rattle.gq_plan.specs.Assignments.{all_rels, is_node, same_node}
use Rattle.gq_plan.specs.Meaning.{Partial, far, keep_if, look, with_node}
use Rattle.gq_plan.specs.declared.TrailPart.{TrailPart}
use Rattle.gq_plan.specs.declared.TypedRel.{TypedRel}
use Rattle.gq_outer.specs.Rows.{Wide, item_at}
use Rattle.gq_trails.specs.Continued.{ends_from, rows_at_ends}
use Rattle.gq_trails.specs.Trekking.{CanTrek, partial_of, patterns_in}
use Rattle.gq_trails.specs.steps.Chained.{barred_behind}
use Rattle.gq_trails.specs.steps.Ends.{may_end, settled}
use Rattle.gq_trails.specs.steps.Journeys.{binds, bound_at}
use Rattle.gq_trails.specs.steps.Reached.{AreEnds, AreSameEnds, GoesToEnd, HasEnd, IsSeen, IsSeenBefore, before_end, behind_end, left_from}
use Rattle.gq_trails.specs.declared.reached.Ends.{Ends}
use Rattle.gq_trails.proofs.Beginning.{look_items}
use Rattle.gq_trails.proofs.Fitting.{cleared_settled, item_set_other, item_set_same, look_node}
use Rattle.gq_trails.proofs.Going.{settled_length, settled_rels}
use Rattle.gq_trails.proofs.Inside.{far_lies}

-- ---- the first of a list

pub some_first : {X : Type 0} (xs : List X) (x : X) → Some x ≡ slice_get xs 0 → xs ≡ x ∷ drop 1 xs
some_first [] x e = absurd (cc e)
some_first (y ∷ xs) x e = let same : y ≡ x = cc e in ap (λ z. z ∷ xs) same

pub none_first : {X : Type 0} (xs : List X) → None ≡ slice_get xs 0 → xs ≡ []
none_first [] e = refl
none_first (y ∷ xs) e = absurd (cc e)

-- ---- a node

module _ (g : Graph) (p : TrailPart) (a : Partial) (row : Wide) (n : NodeId) (known : p.both ≡ true → item_at row.nodes p.to ≡ look a.nodes p.to) where
  met_at : (may : Bool) → may ≡ may_end g p row n → arrivals g p a (Some n) ≡ keep_if may (if p.both then a else with_node p.to n a)
  met_at may told = go p.both known told
    where
      go : (b : Bool) → (b ≡ true → item_at row.nodes p.to ≡ look a.nodes p.to) → may ≡ (if b then at_same (item_at row.nodes p.to) (Some n) else fits_end g p n)
          → arrive_at b g p a n ≡ keep_if may (if b then a else with_node p.to n a)
      go true same e = ap (λ m. keep_if m a) (sym (e ∙ ap (λ o. at_same o (Some n)) (same refl)))
      go false same e = ap (λ m. keep_if m (with_node p.to n a)) (sym e)

  behind_settled : p.to < length row.nodes → behind_end p (settled p row n) a ≡ (if p.both then a else with_node p.to n a)
  behind_settled within = go p.both
    where
      go : (b : Bool) → (if b then a else bound_at p.to (item_at (if b then row else record row { nodes = set row.nodes p.to (Some n) }).nodes p.to) a) ≡ (if b then a else with_node p.to n a)
      go true = refl
      go false = ap (λ o. bound_at p.to o a) (item_set_same row.nodes p.to (Some n) within)

  -- one more row, or none
  pub row_met : (ns : List NodeId) → p.to < length row.nodes → true ≡ may_end g p row n → rows_at g p a (n ∷ ns) ≡ behind_end p (settled p row n) a ∷ rows_at g p a ns
  row_met ns within told = ap (λ bs. bs ++ rows_at g p a ns) (met_at true told) ∙ ap (λ b. b ∷ rows_at g p a ns) (sym (behind_settled within))

  pub row_missed : (ns : List NodeId) → false ≡ may_end g p row n → rows_at g p a (n ∷ ns) ≡ rows_at g p a ns
  row_missed ns told = ap (λ bs. bs ++ rows_at g p a ns) (met_at false told)

-- where a trail does not bind its other end, the row has it
seen_known : (p : TrailPart) (row : Wide) (a : Partial) → IsSeenBefore p row a → p.both ≡ true → item_at row.nodes p.to ≡ look a.nodes p.to
seen_known p row a seen both = seen p.to (ap (λ b. not b && nat_eq p.to p.to) both)

-- ---- the row

module _ (p : TrailPart) (row : Wide) (n : NodeId) where
  pub before_settled : before_end p (settled p row n) ≡ before_end p row
  before_settled = ap₂ (λ (os : List (Option NodeId)) (rs : List (Option RelId)). record { nodes = os; rels = rs }) (cleared_settled (p ∷ []) row zero n (omega arith)) (settled_rels p row n)

  pub end_settled : (g : Graph) → p.to < length row.nodes → is_node g n ≡ true → HasEnd g p (settled p row n)
  end_settled g within there off = record {
    node = n;
    is = ap (λ b. item_at (if b then row else record row { nodes = set row.nodes p.to (Some n) }).nodes p.to) off ∙ item_set_same row.nodes p.to (Some n) within;
    there = there;
  }

-- what a trail does not bind stands before it
pub item_before : (p : TrailPart) (row : Wide) (v : ℕ) → binds v p ≡ false → item_at (before_end p row).nodes v ≡ item_at row.nodes v
item_before p row v free = go p.both free
  where
    go : (b : Bool) → (not b && nat_eq p.to v) ≡ false → item_at (if b then row.nodes else set row.nodes p.to None) v ≡ item_at row.nodes v
    go true e = refl
    go false e = item_set_other row.nodes p.to v None (λ here. true≢false (sym (eq-eqb p.to v (sym here)) ∙ e))

-- so a row that has the same before it has what was bound
pub seen_stays : (p : TrailPart) (old new : Wide) (a : Partial) → before_end p new ≡ before_end p old → IsSeenBefore p old a → IsSeenBefore p new a
seen_stays p old new a same seen v free =
    sym (item_before p new v free) ∙ ap (λ (r : Wide). item_at r.nodes v) same ∙ item_before p old v free ∙ seen v free

-- ---- the search goes on to a node

module _ (g : Graph) (p : TrailPart) (row new : Wide) (end : NodeId) (owed ns : List NodeId) (first : Some end ≡ slice_get owed 0) (rest : ns ≡ drop 1 owed) (is : new ≡ settled p row end) where
  owed_here : owed ≡ end ∷ ns
  owed_here = some_first owed end first ∙ ap (λ l. end ∷ l) (sym rest)

  low_here : (owed ≡ []) ⊎ (p.to < length row.nodes) → p.to < length row.nodes
  low_here (inl none) = absurd (cc (sym owed_here ∙ none))
  low_here (inr low) = low

  pub next_met : (owed ≡ []) ⊎ (p.to < length row.nodes) → true ≡ may_end g p row end → (a : Partial) → IsSeenBefore p row a
      → rows_at g p a owed ≡ behind_end p new a ∷ rows_at g p a ns
  next_met within told a seen =
      ap (rows_at g p a) owed_here ∙ row_met g p a row end (seen_known p row a seen) ns (low_here within) told
      ∙ ap (λ (r : Wide). behind_end p r a ∷ rows_at g p a ns) (sym is)

  pub next_missed : false ≡ may_end g p row end → (a : Partial) → IsSeenBefore p row a → rows_at g p a owed ≡ rows_at g p a ns
  next_missed told a seen = ap (rows_at g p a) owed_here ∙ row_missed g p a row end (seen_known p row a seen) ns told

  pub next_within : (owed ≡ []) ⊎ (p.to < length row.nodes) → (ns ≡ []) ⊎ (p.to < length new.nodes)
  next_within within = inr (subst (λ k. p.to < k) (sym (ap (λ (r : Wide). length r.nodes) is ∙ settled_length p row end)) (low_here within))

  pub next_before : before_end p new ≡ before_end p row
  next_before = ap (before_end p) is ∙ before_settled p row end

  pub next_fewer : length ns < length owed
  next_fewer = let more = ap length owed_here in omega (arith, more)

  pub next_there : AllByRecursion (λ n. is_node g n ≡ true) owed → (is_node g end ≡ true) × AllByRecursion (λ n. is_node g n ≡ true) ns
  next_there all = let parts = subst (AllByRecursion (λ n. is_node g n ≡ true)) owed_here all in (parts.0, parts.1)

  pub next_end : (owed ≡ []) ⊎ (p.to < length row.nodes) → AllByRecursion (λ n. is_node g n ≡ true) owed → HasEnd g p new
  next_end within all = subst (HasEnd g p) (sym is) (end_settled p row end g (low_here within) (next_there all).0)

-- the trail at its next node, with what is left to reach
module _ {e : Ends} (are : AreEnds e) {n : NodeId} (first : Some n ≡ slice_get e.reacher.owed 0) {r : Reaching} (rest : r ≡ record e.reacher { owed = drop 1 e.reacher.owed })
    {row : Wide} (is : row ≡ settled e.part.now e.row n) {o : OtherEnd} (same : o ≡ e.end) where
  left : r.owed ≡ drop 1 e.reacher.owed
  left = ap (λ (x : Reaching). x.owed) rest

  pub ends_next : AreEnds (record e { reacher = r; row = row; end = o })
  ends_next = record {
    graph = ap (λ (x : Reaching). x.graph) rest ∙ are.graph;
    kind = ap (λ (x : Reaching). x.kind) rest ∙ are.kind;
    way = ap (λ (x : Reaching). x.way) rest ∙ are.way;
    high = ap (λ (x : Reaching). x.high) rest ∙ are.high;
    some = are.some;
    end = same ∙ are.end;
    within = next_within e.graph.now e.part.now e.row row n e.reacher.owed r.owed first left is are.within;
    there = (next_there e.graph.now e.part.now e.row row n e.reacher.owed r.owed first left is are.there).1;
  }

  module _ (old : Ends) (kept : AreSameEnds old e) where
    pub same_next : AreSameEnds old (record e { reacher = r; row = row; end = o })
    same_next = record {
      graph = kept.graph;
      part = kept.part;
      nodes = ap (λ (x : Wide). length x.nodes) is ∙ settled_length e.part.now e.row n ∙ kept.nodes;
      rels = ap (λ (x : Wide). length x.rels) is ∙ ap length (settled_rels e.part.now e.row n) ∙ kept.rels;
    }

    -- by what was owed at first
    module _ (before : before_end old.part.now e.row ≡ before_end old.part.now old.row) (owed : (a : Partial) → IsSeenBefore old.part.now old.row a → left_from old a ≡ left_from e a)
        (fewer : length e.reacher.owed ≤ length old.reacher.owed) where
      pub before_next : before_end old.part.now row ≡ before_end old.part.now old.row
      before_next = subst (λ (q : TrailPart). before_end q row ≡ before_end q e.row) kept.part (next_before e.graph.now e.part.now e.row row n e.reacher.owed r.owed first left is) ∙ before

      seen_next : (a : Partial) → IsSeenBefore old.part.now old.row a → IsSeenBefore e.part.now e.row a
      seen_next a seen = subst (λ (q : TrailPart). IsSeenBefore q e.row a) (sym kept.part) (seen_stays old.part.now old.row e.row a before seen)

      here_may : (may : Bool) → may ≡ may_end e.end.graph e.part.now e.row n → may ≡ may_end e.graph.now e.part.now e.row n
      here_may may told = told ∙ ap (λ (x : OtherEnd). may_end x.graph e.part.now e.row n) are.end

      less : length r.owed < length old.reacher.owed
      less = let one = next_fewer e.graph.now e.part.now e.row row n e.reacher.owed r.owed first left is in omega (arith, one, fewer)

      -- it may end there
      pub goes_next : true ≡ may_end e.end.graph e.part.now e.row n → GoesToEnd old (record e { reacher = r; row = row; end = o }) true
      goes_next may = record {
        before = before_next;
        next = λ _ a seen.
            owed a seen ∙ next_met e.graph.now e.part.now e.row row n e.reacher.owed r.owed first left is are.within (here_may true may) a (seen_next a seen)
            ∙ ap (λ (q : TrailPart). behind_end q row a ∷ rows_at e.graph.now e.part.now a r.owed) kept.part;
        end = λ _. subst (λ (q : TrailPart). HasEnd old.graph.now q row) kept.part (subst (λ (k : Graph). HasEnd k e.part.now row) kept.graph (next_end e.graph.now e.part.now e.row row n e.reacher.owed r.owed first left is are.within are.there));
        fewer = λ _. less;
        none = λ off. absurd (cc off);
        over = λ off. absurd (cc off);
      }

      -- or not
      pub owed_next : false ≡ may_end e.end.graph e.part.now e.row n → (a : Partial) → IsSeenBefore old.part.now old.row a → left_from old a ≡ rows_at e.graph.now e.part.now a r.owed
      owed_next may a seen = owed a seen ∙ next_missed e.graph.now e.part.now e.row row n e.reacher.owed r.owed first left is (here_may false may) a (seen_next a seen)

      pub fewer_next : length r.owed ≤ length old.reacher.owed
      fewer_next = let one = less in omega (arith, one)

-- ---- a node that is known

-- of different nodes one is met at most
one_met : (end : NodeId) (a : Partial) (ns : List NodeId) → all_distinct same_node ns ≡ true → flat_map (λ n. keep_if (same_node end n) a) ns ≡ keep_if (list_any (same_node end) ns) a
one_met end a [] d = refl
one_met end a (n ∷ ns) d =
    let parts = and_parts (not (list_any (same_node n) ns)) (all_distinct same_node ns) d in
    go (same_node end n) refl parts.0 (one_met end a ns parts.1)
  where
    go : (b : Bool) → same_node end n ≡ b → not (list_any (same_node n) ns) ≡ true → flat_map (λ m. keep_if (same_node end m) a) ns ≡ keep_if (list_any (same_node end) ns) a
        → keep_if b a ++ flat_map (λ m. keep_if (same_node end m) a) ns ≡ keep_if (b || list_any (same_node end) ns) a
    go false e apart rest = rest
    go true e apart rest = ap (λ bs. a ∷ bs) (rest ∙ ap (λ b. keep_if b a) (ap (λ m. list_any (same_node m) ns) (node_is end n e) ∙ none (list_any (same_node n) ns) apart))
      where
        none : (b : Bool) → not b ≡ true → b ≡ false
        none true k = absurd (true≢false (sym k))
        none false k = refl

keep_one : (b : Bool) (end : NodeId) (a : Partial) → flat_map (λ n. keep_if (same_node end n) a) (if b then end ∷ [] else []) ≡ keep_if b a
keep_one false end a = refl
keep_one true end a = ap (λ b. keep_if b a ++ []) (node_itself end)

-- where the other end is known, it stands for all nodes if it is one of them
pub one_for_all : (g : Graph) (p : TrailPart) (a : Partial) (end : NodeId) (ns : List NodeId) → p.both ≡ true → look a.nodes p.to ≡ Some end → all_distinct same_node ns ≡ true
    → rows_at g p a (if list_any (same_node end) ns then end ∷ [] else []) ≡ rows_at g p a ns
one_for_all g p a end ns both known distinct =
    same (if list_any (same_node end) ns then end ∷ [] else []) ∙ keep_one (list_any (same_node end) ns) end a ∙ sym (one_met end a ns distinct) ∙ sym (same ns)
  where
    same : (ms : List NodeId) → rows_at g p a ms ≡ flat_map (λ n. keep_if (same_node end n) a) ms
    same ms = λ i. flat_map (λ n. (ap (λ b. arrive_at b g p a n) both ∙ ap (λ o. keep_if (at_same o (Some n)) a) known) i) ms

-- ---- a row from which the trail is searched

none_bound : (bs : List (ℕ × NodeId)) (v : ℕ) → look bs v ≡ None → bound bs v ≡ false
none_bound [] v e = refl
none_bound (b ∷ bs) v e = at (cases_eq b.0 v) (none_bound bs v)
  where
    at : (b.0 ≡ v) ⊎ (b.0 ≡ v → ⊥) → (look bs v ≡ None → bound bs v ≡ false) → (nat_eq v b.0 || bound bs v) ≡ false
    at (inl same) rest = absurd (cc (sym (ap (λ c. if c then Some b.1 else look bs v) (eq-eqb b.0 v same)) ∙ e))
    at (inr other) rest =
        ap (λ c. c || bound bs v) (ne_eqb v b.0 (λ same. other (sym same)))
        ∙ rest (sym (ap (λ c. if c then Some b.1 else look bs v) (ne_eqb b.0 v other)) ∙ e)

-- relationships lead to nodes of a valid graph
any_some : {X : Type 0} (f : X → Bool) (C : Type 0) → ((x : X) → f x ≡ true → C) → (xs : List X) → list_any f xs ≡ true → C
any_some f C found [] h = absurd (true≢false (sym h))
any_some f C found (x ∷ xs) h = go (f x) refl h (any_some f C found xs)
  where
    go : (b : Bool) → f x ≡ b → (b || list_any f xs) ≡ true → (list_any f xs ≡ true → C) → C
    go true e k more = found x e
    go false e k more = more k

leads_inside : (g : Graph) → is_valid g ≡ true → (kind : List ℕ) (way : Direction) (used : List RelId) (high : ℕ) (at : Option NodeId) (n : NodeId)
    → leads_to g kind way used high at n ≡ true → is_node g n ≡ true
unfolding leads_to
leads_inside g valid kind way used zero at n h = absurd (true≢false (sym h))
leads_inside g valid kind way used (suc high) at n h =
    any_some (λ r. may_follow g kind way at used r && (at_same (far g way r) (Some n) || leads_to g kind way used high (far g way r) n)) (is_node g n ≡ true)
    (λ r e. led r (leads_inside g valid kind way used high (far g way r) n) (and_parts (may_follow g kind way at used r) (at_same (far g way r) (Some n) || leads_to g kind way used high (far g way r) n) e).1)
    (all_rels g) h
  where
    led : (r : RelId) → (leads_to g kind way used high (far g way r) n ≡ true → is_node g n ≡ true) → (at_same (far g way r) (Some n) || leads_to g kind way used high (far g way r) n) ≡ true → is_node g n ≡ true
    led r more k = go (far g way r) refl (or_parts (at_same (far g way r) (Some n)) (leads_to g kind way used high (far g way r) n) k)
      where
        go : (o : Option NodeId) → far g way r ≡ o → (at_same (far g way r) (Some n) ≡ true) ⊎ (leads_to g kind way used high (far g way r) n ≡ true) → is_node g n ≡ true
        go o is (inr later) = more later
        go None is (inl here) = absurd (true≢false (sym (sym (ap (λ q. at_same q (Some n)) is) ∙ here)))
        go (Some m) is (inl here) = ap (is_node g) (sym (node_is m n (sym (ap (λ q. at_same q (Some n)) is) ∙ here))) ∙ far_lies g valid way r m is

each_itself : (P : NodeId → Type 0) (ns all : List NodeId) → ((n : NodeId) → list_any (same_node n) all ≡ true → P n) → ((n : NodeId) → list_any (same_node n) ns ≡ true → list_any (same_node n) all ≡ true)
    → AllByRecursion P ns
each_itself P [] all h among = tt
each_itself P (n ∷ ns) all h among = (
  h n (among n (ap (λ b. b || list_any (same_node n) ns) (node_itself n))),
  each_itself P ns all h (λ m e. among m (or_second (same_node m n) (list_any (same_node m) ns) e)),
)

ends_inside : (g : Graph) → is_valid g ≡ true → (kind : List ℕ) (way : Direction) (used : List RelId) (high : ℕ) (start : NodeId) → 1 ≤ high
    → AllByRecursion (λ n. is_node g n ≡ true) (ends_met g kind way used high start)
ends_inside g valid kind way used high start some =
    let led = spreads_as_led g kind way used high start some in
    each_itself (λ n. is_node g n ≡ true) (ends_met g kind way used high start) (ends_met g kind way used high start)
    (λ n h. leads_inside g valid kind way used high (Some start) n (sym (led.all n) ∙ h)) (λ n h. h)

module _ (g : Graph) (p : TrailPart) (barred : ℕ → List RelId) (base : Wide) (r : Reaching) (used : List RelId) (start : NodeId) (can : CanTrek g (p ∷ []) base)
    (graph : r.graph ≡ g) (kind : r.kind ≡ p.kind) (way : r.way ≡ p.way) (high : r.high ≡ p.high) (taken : used ≡ barred p.clause)
    (from : Some start ≡ item_at base.nodes p.from) where
  abbrev all_met : List NodeId
  all_met = ends_met r.graph r.kind r.way used r.high start

  met_here : (a : Partial) → IsSeen base a → ends_met r.graph r.kind r.way used r.high start ≡ ends_from g p (barred p.clause) (look a.nodes p.from)
  met_here a seen =
      (λ i. ends_met (graph i) (kind i) (way i) (taken i) (high i) start)
      ∙ ap (ends_from g p (barred p.clause)) (from ∙ seen p.from)

  -- all nodes are owed that are met
  begun : (owed : List NodeId) → owed ≡ ends_met r.graph r.kind r.way used r.high start → (a : Partial) → IsSeen base a
      → rows_at g p a owed ≡ rows_at_ends g barred p a
  begun owed are a seen = ap (rows_at g p a) (are ∙ met_here a seen)

  -- or the end that is known, if it is one of them
  begun_to : 1 ≤ p.high → (end : NodeId) (owed : List NodeId) → Some end ≡ (if p.both then item_at base.nodes p.to else None)
      → owed ≡ (if list_any (same_node end) (ends_met r.graph r.kind r.way used r.high start) then end ∷ [] else []) → (a : Partial) → IsSeen base a
      → rows_at g p a owed ≡ rows_at_ends g barred p a
  begun_to some end owed known are a seen =
      ap (rows_at g p a) are
      ∙ one_for_all g p a end all_met (both p.both refl known) (sym (seen p.to) ∙ there p.both known) distinct
      ∙ ap (rows_at g p a) (met_here a seen)
    where
      both : (b : Bool) → p.both ≡ b → Some end ≡ (if b then item_at base.nodes p.to else None) → p.both ≡ true
      both true e h = e
      both false e h = absurd (cc h)

      there : (b : Bool) → Some end ≡ (if b then item_at base.nodes p.to else None) → item_at base.nodes p.to ≡ Some end
      there true h = sym h
      there false h = absurd (cc h)

      distinct : all_distinct same_node (ends_met r.graph r.kind r.way used r.high start) ≡ true
      distinct = (spreads_as_led r.graph r.kind r.way used r.high start (subst (λ k. 1 ≤ k) (sym high) some)).distinct

  -- they are nodes of the graph
  begun_there : is_valid g ≡ true → 1 ≤ p.high → (owed : List NodeId) → owed ≡ ends_met r.graph r.kind r.way used r.high start → AllByRecursion (λ n. is_node g n ≡ true) owed
  begun_there valid some owed are =
      subst (AllByRecursion (λ n. is_node g n ≡ true)) (sym (are ∙ (λ i. ends_met (graph i) (kind i) (way i) used (high i) start)))
      (ends_inside g valid p.kind p.way used p.high start some)

  begun_to_there : is_valid g ≡ true → 1 ≤ p.high → (end : NodeId) (owed : List NodeId)
      → owed ≡ (if list_any (same_node end) (ends_met r.graph r.kind r.way used r.high start) then end ∷ [] else []) → AllByRecursion (λ n. is_node g n ≡ true) owed
  begun_to_there valid some end owed are =
      subst (AllByRecursion (λ n. is_node g n ≡ true)) (sym (are ∙ ap (λ l. if list_any (same_node end) l then end ∷ [] else []) (λ i. ends_met (graph i) (kind i) (way i) used (high i) start)))
      (go (list_any (same_node end) all) refl)
    where
      all : List NodeId
      all = ends_met g p.kind p.way used p.high start

      go : (b : Bool) → list_any (same_node end) (ends_met g p.kind p.way used p.high start) ≡ b → AllByRecursion (λ n. is_node g n ≡ true) (if b then end ∷ [] else [])
      go false e = tt
      go true e = (leads_inside g valid p.kind p.way used p.high (Some start) end (sym ((spreads_as_led g p.kind p.way used p.high start some).all end) ∙ e), tt)

  -- the beginning is a node of the graph
  start_there : is_node r.graph start ≡ true
  start_there = ap (λ k. is_node k start) graph ∙ look_node g (partial_of base).nodes p.from start can.nodes (look_items base.nodes p.from ∙ sym from)

-- what is searched anew from a row stays what it was
ends_anew : {e : Ends} → AreEnds e → (r : Reaching) (owed : List NodeId) → r ≡ record e.reacher { owed = owed } → AllByRecursion (λ n. is_node e.graph.now n ≡ true) r.owed
    → (row : Wide) → e.part.now.to < length row.nodes → (stands : Bool) (kept : List RelId) → AreEnds (record e { reacher = r; row = row; stands = stands; taken = kept })
ends_anew are r owed is there row low stands kept = record {
  graph = ap (λ (x : Reaching). x.graph) is ∙ are.graph;
  kind = ap (λ (x : Reaching). x.kind) is ∙ are.kind;
  way = ap (λ (x : Reaching). x.way) is ∙ are.way;
  high = ap (λ (x : Reaching). x.high) is ∙ are.high;
  some = are.some;
  end = are.end;
  within = inr low;
  there = there;
}

-- the trail at a row from which it begins, by what it may not take there
module _ {e : Ends} (are : AreEnds e) (ys : List TypedRel) (ws : List (ℕ × List RelId)) (base : Wide) (can : CanTrek e.graph.now (e.part.now ∷ []) base) {used patterned walked cleared : List RelId}
    (used_is : used ≡ patterned) (patterned_is : patterned ≡ walked ++ patterns_in ys base.rels e.part.now.clause) (walked_is : walked ≡ cleared ++ taken_in e.part.now.clause ws)
    (none : cleared ≡ []) (start : NodeId) (from : Some start ≡ item_at base.nodes e.part.now.from) where
  abbrev barred : ℕ → List RelId
  barred = barred_behind ys ws base.rels

  taken : used ≡ barred e.part.now.clause
  taken =
      used_is ∙ patterned_is
      ∙ ap (λ (l : List RelId). l ++ patterns_in ys base.rels e.part.now.clause) (walked_is ∙ ap (λ (l : List RelId). l ++ taken_in e.part.now.clause ws) none)

  low_in : (row : Wide) → row ≡ base → e.part.now.to < length row.nodes
  low_in row copied = subst (λ (w : Wide). e.part.now.to < length w.nodes) (sym copied) can.ends.0

  pub begins_there : is_node e.reacher.graph start ≡ true
  begins_there = start_there e.graph.now e.part.now barred base e.reacher used start can are.graph are.kind are.way are.high taken from

  -- to each end that is met
  module _ {r : Reaching} (met : r ≡ record e.reacher { owed = ends_met e.reacher.graph e.reacher.kind e.reacher.way used e.reacher.high start }) where
    pub owes_all : (a : Partial) → IsSeen base a → rows_at e.graph.now e.part.now a r.owed ≡ rows_at_ends e.graph.now barred e.part.now a
    owes_all = begun e.graph.now e.part.now barred base e.reacher used start can are.graph are.kind are.way are.high taken from r.owed (ap (λ (x : Reaching). x.owed) met)

    pub ends_to_all : is_valid e.graph.now ≡ true → (row : Wide) → row ≡ base → (stands : Bool) (kept : List RelId) → AreEnds (record e { reacher = r; row = row; stands = stands; taken = kept })
    ends_to_all valid row copied stands kept =
        ends_anew are r (ends_met e.reacher.graph e.reacher.kind e.reacher.way used e.reacher.high start) met
        (begun_there e.graph.now e.part.now barred base e.reacher used start can are.graph are.kind are.way are.high taken from valid are.some r.owed (ap (λ (x : Reaching). x.owed) met)) row (low_in row copied) stands kept

  -- or to the one that is known
  module _ (end : NodeId) (known : Some end ≡ (if e.part.now.both then item_at base.nodes e.part.now.to else None)) {r : Reaching}
      (met : r ≡ record e.reacher { owed = if list_any (same_node end) (ends_met e.reacher.graph e.reacher.kind e.reacher.way used e.reacher.high start) then end ∷ [] else [] }) where
    pub owes_one : (a : Partial) → IsSeen base a → rows_at e.graph.now e.part.now a r.owed ≡ rows_at_ends e.graph.now barred e.part.now a
    owes_one = begun_to e.graph.now e.part.now barred base e.reacher used start can are.graph are.kind are.way are.high taken from are.some end r.owed known (ap (λ (x : Reaching). x.owed) met)

    pub ends_to_one : is_valid e.graph.now ≡ true → (row : Wide) → row ≡ base → (stands : Bool) (kept : List RelId) → AreEnds (record e { reacher = r; row = row; stands = stands; taken = kept })
    ends_to_one valid row copied stands kept =
        ends_anew are r (if list_any (same_node end) (ends_met e.reacher.graph e.reacher.kind e.reacher.way used e.reacher.high start) then end ∷ [] else []) met
        (begun_to_there e.graph.now e.part.now barred base e.reacher used start can are.graph are.kind are.way are.high taken from valid are.some end r.owed (ap (λ (x : Reaching). x.owed) met)) row (low_in row copied) stands kept

-- a trail that can be walked begins where the row has a node
pub starts_somewhere : (g : Graph) (p : TrailPart) (base : Wide) → CanTrek g (p ∷ []) base → None ≡ item_at base.nodes p.from → ⊥
starts_somewhere g p base can none = unbound (partial_of base).nodes can.turns.0 (look_items base.nodes p.from ∙ sym none)
  where
    unbound : (bs : List (ℕ × NodeId)) → bound bs p.from ≡ true → look bs p.from ≡ None → ⊥
    unbound bs known e = true≢false (sym known ∙ none_bound bs p.from e)
