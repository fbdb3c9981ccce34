-- Trails that are gone through by their ends, one after another.
use Rattle.std.proofs.Common.{◌≡◌, ◌⊎◌, inl, inr, ℕ, suc, ◌+◌, ◌<◌, Bool, true, false, not, ◌&&◌, ◌||◌, nat_eq, Option, Some, None, List, [], ◌∷◌, ◌++◌, flat_map, length, set, true≢false, refl, sym, ap, ap₂, ◌∙◌, subst, arith}
use Rattle.std.specs.Prelude.{if◌then◌else◌, is_some, slice_get}
use Rattle.std.specs.List.{AllByRecursion}
use Rattle.std.proofs.lemmas.Bool.{and_from, and_parts, cases_eq, eq-eqb, ne_eqb}
use Rattle.std.proofs.lemmas.List.{length-map, length-set}
use Rattle.gq_base.specs.Plain.{Graph}
use Rattle.gq_base.specs.declared.NodeId.{NodeId}
use Rattle.gq_base.specs.declared.RelId.{RelId}
use Rattle.gq_law_ends.specs.Reaching.{rows_at}
use Rattle.gq_law_plans.specs.Bindings.{bound}
use Rattle.gq_law_plans.proofs.Lookups.{look_some}
use Rattle.gq_plan.specs.Assignments.{is_node}
use Rattle.gq_plan.specs.Meaning.{Partial, look, with_node}
use Rattle.gq_plan.specs.Meaning as meaning
use Rattle.gq_plan.specs.declared.TrailPart.{TrailPart}
use Rattle.gq_outer.specs.Rows.{Wide, item_at, read}
use Rattle.gq_trails.specs.Continued.{rows_at_ends, rows_by_ends}
use Rattle.gq_trails.specs.Trekking.{AreNodes, CanTrek, partial_of, placed_from}
use Rattle.gq_trails.specs.steps.Chained.{AllGoOn, AllSeen, AreKept, AreOfOne, AreUnderWay, HaveGoneOn, IsOneOf, all_stand, owed_by, parts_in, reached_by}
use Rattle.gq_trails.specs.steps.Journeys.{binds, bound_at}
use Rattle.gq_trails.specs.steps.Reached.{AreEnds, AreSameEnds, GoesToEnd, HasEnd, IsSeen, IsSeenBefore, before_end, behind_end, left_from}
use Rattle.gq_trails.specs.declared.reached.Ends.{Ends}
use Rattle.gq_trails.proofs.Arriving.{item_before, seen_stays}
use Rattle.gq_trails.proofs.Beginning.{look_items, look_none}
use Rattle.gq_trails.proofs.Fitting.{cleared_none, in_turn, look_node}

-- ---- what is bound, by items

pub some_bound : {X : Type 0} (bs : List (ℕ × X)) (v : ℕ) (o : Option X) → look bs v ≡ o → bound bs v ≡ is_some o
some_bound bs v None e = at (bound bs v) refl
  where
    at : (b : Bool) → bound bs v ≡ b → bound bs v ≡ false
    at false is = is
    at true is = let some = look_some bs v is in absurd (let lost : None ≡ Some some.0 = sym e ∙ some.1 in cc lost)
some_bound bs v (Some x) e = at (bound bs v) refl
  where
    at : (b : Bool) → bound bs v ≡ b → bound bs v ≡ true
    at true is = is
    at false is = absurd (let lost : None ≡ Some x = sym (look_none bs v is) ∙ e in cc lost)

pub bound_item : {X : Type 0} (os : List (Option X)) (v : ℕ) → bound (placed_from 0 os) v ≡ is_some (item_at os v)
bound_item os v = some_bound (placed_from 0 os) v (item_at os v) (look_items os v)

pub nodes_of_items : (g : Graph) (os : List (Option NodeId)) (first : ℕ) → ((v : ℕ) (n : NodeId) → item_at os v ≡ Some n → is_node g n ≡ true) → AreNodes g (placed_from first os)
nodes_of_items g [] first there = tt
nodes_of_items g (None ∷ os) first there = nodes_of_items g os (first + 1) (λ v n e. there (suc v) n e)
nodes_of_items g (Some m ∷ os) first there = (there 0 m refl, nodes_of_items g os (first + 1) (λ v n e. there (suc v) n e))

-- ---- a row behind an end

module _ (g : Graph) (p : TrailPart) (row : Wide) (end : HasEnd g p row) where
  pub seen_behind : (a : Partial) → IsSeenBefore p row a → IsSeen row (behind_end p row a)
  seen_behind a seen v = go p.both refl (seen v)
    where
      go : (b : Bool) → p.both ≡ b → ((not b && nat_eq p.to v) ≡ false → item_at row.nodes v ≡ look a.nodes v)
          → item_at row.nodes v ≡ look (if b then a else bound_at p.to (item_at row.nodes p.to) a).nodes v
      go true both same = same refl
      go false both same = at (cases_eq p.to v) ∙ sym (ap (λ o. look (bound_at p.to o a).nodes v) (end both).is)
        where
          at : (p.to ≡ v) ⊎ (p.to ≡ v → ⊥) → item_at row.nodes v ≡ look (with_node p.to (end both).node a).nodes v
          at (inl here) = ap (item_at row.nodes) (sym here) ∙ (end both).is ∙ sym (ap (λ b. if b then Some (end both).node else look a.nodes v) (eq-eqb p.to v here))
          at (inr other) = same (ne_eqb p.to v other) ∙ sym (ap (λ b. if b then Some (end both).node else look a.nodes v) (ne_eqb p.to v other))

  node_behind : AreNodes g (partial_of (before_end p row)).nodes → (v : ℕ) (n : NodeId) → item_at row.nodes v ≡ Some n → is_node g n ≡ true
  node_behind nodes v n is = go (binds v p) refl
    where
      go : (b : Bool) → binds v p ≡ b → is_node g n ≡ true
      go false free = look_node g (partial_of (before_end p row)).nodes v n nodes (look_items (before_end p row).nodes v ∙ item_before p row v free ∙ is)
      go true bound_there = at p.both refl bound_there
        where
          at : (b : Bool) → p.both ≡ b → (not b && nat_eq p.to v) ≡ true → is_node g n ≡ true
          at true both e = absurd (true≢false (sym e))
          at false both e = same (cases_eq p.to v)
            where
              same : (p.to ≡ v) ⊎ (p.to ≡ v → ⊥) → is_node g n ≡ true
              same (inl here) =
                  let one : Some (end both).node ≡ Some n = sym (end both).is ∙ ap (item_at row.nodes) here ∙ is in
                  let alike : (end both).node ≡ n = cc one in
                  ap (is_node g) (sym alike) ∙ (end both).there
              same (inr other) = absurd (true≢false (sym e ∙ ne_eqb p.to v other))

  bound_behind : bound (partial_of (before_end p row)).nodes p.to ≡ p.both → (v : ℕ) → (nat_eq v p.to || bound (partial_of (before_end p row)).nodes v) ≡ bound (partial_of row).nodes v
  bound_behind known v = at (cases_eq v p.to)
    where
      here_bound : (b : Bool) → p.both ≡ b → bound (partial_of row).nodes p.to ≡ true
      here_bound true both =
          bound_item row.nodes p.to ∙ sym (ap is_some (item_before p row p.to (ap (λ b. not b && nat_eq p.to p.to) both))) ∙ sym (bound_item (before_end p row).nodes p.to) ∙ known ∙ both
      here_bound false both = bound_item row.nodes p.to ∙ ap is_some (end both).is

      at : (v ≡ p.to) ⊎ (v ≡ p.to → ⊥) → (nat_eq v p.to || bound (partial_of (before_end p row)).nodes v) ≡ bound (partial_of row).nodes v
      at (inl here) = ap (λ b. b || bound (partial_of (before_end p row)).nodes v) (eq-eqb v p.to here) ∙ sym (ap (bound (partial_of row).nodes) here ∙ here_bound p.both refl)
      at (inr other) =
          ap (λ b. b || bound (partial_of (before_end p row)).nodes v) (ne_eqb v p.to other)
          ∙ bound_item (before_end p row).nodes v ∙ ap is_some (item_before p row v (free p.both)) ∙ sym (bound_item row.nodes v)
        where
          free : (b : Bool) → (not b && nat_eq p.to v) ≡ false
          free true = refl
          free false = ne_eqb p.to v (λ same. other (sym same))

  lengths : length (before_end p row).nodes ≡ length row.nodes
  lengths = go p.both
    where
      go : (b : Bool) → length (if b then row.nodes else set row.nodes p.to None) ≡ length row.nodes
      go true = refl
      go false = length-set row.nodes p.to None

  -- the trails that follow can be walked from there
  pub can_next : (ps : List TrailPart) → CanTrek g (p ∷ ps) (before_end p row) → CanTrek g ps row
  can_next ps can = record {
    ends = subst (λ k. AllByRecursion (λ (q : TrailPart). q.to < k) ps) lengths can.ends.1;
    turns = in_turn ps (λ v. nat_eq v p.to || bound (partial_of (before_end p row)).nodes v) (bound (partial_of row).nodes) (bound_behind can.turns.1) can.turns.2;
    nodes = nodes_of_items g row.nodes 0 (node_behind can.nodes);
  }

-- the first of them by itself
pub can_first : (g : Graph) (p : TrailPart) (ps : List TrailPart) (row : Wide) → CanTrek g (p ∷ ps) row → CanTrek g (p ∷ []) row
can_first g p ps row can = record { ends = (can.ends.0, tt); turns = (can.turns.0, can.turns.1, tt); nodes = can.nodes }

-- before it, a row from which it can be walked has what it has
pub before_here : (g : Graph) (p : TrailPart) (ps : List TrailPart) (row : Wide) → CanTrek g (p ∷ ps) row → before_end p row ≡ row
before_here g p ps row can =
    ap (λ (os : List (Option NodeId)). record { nodes = os; rels = row.rels })
    (cleared_none (p ∷ []) (bound (partial_of row).nodes) row.nodes (can.turns.0, can.turns.1, tt) (λ v unknown. sym (look_items row.nodes v) ∙ look_none (partial_of row).nodes v unknown))

-- ---- lists of trails

pub all_by : (g h : Graph) (n k m l : ℕ) (es : List Ends) → g ≡ h → n ≡ k → m ≡ l → AreOfOne g n m es → AreOfOne h k l es
all_by g h n k m l es graph nodes rels all = subst (λ z. AreOfOne h k z es) rels (subst (λ y. AreOfOne h y m es) nodes (subst (λ x. AreOfOne x n m es) graph all))

pub many_alike : (e : Ends) (es : List Ends) (h : Ends) (hs : List Ends) → parts_in (h ∷ hs) ≡ parts_in (e ∷ es) → length hs ≡ length es
many_alike e es h hs same =
    let all : length (parts_in (h ∷ hs)) ≡ length (parts_in (e ∷ es)) = ap length same in
    let news : length (parts_in hs) ≡ length hs = length-map hs (λ (x : Ends). x.part.now) in
    let olds : length (parts_in es) ≡ length es = length-map es (λ (x : Ends). x.part.now) in
    omega (arith, all, news, olds)

pub no_items : (es : List Ends) → length es ≡ 0 → es ≡ []
no_items [] e = refl
no_items (x ∷ es) e = absurd (omega (arith, e))

-- ---- moves

module _ (g : Graph) (barred : List (Option RelId) → ℕ → List RelId) (nodes rels : ℕ) (e : Ends) (es : List Ends) where
  -- they are not begun
  pub not_begun : AreOfOne g nodes rels (e ∷ es) → HaveGoneOn g barred nodes rels false e es e es false
  not_begun all = record {
    kept = record { all = all; parts = refl; before = refl };
    goes = λ os goes on. absurd (cc on);
    begins = λ on. absurd (cc on);
    stand = λ on. absurd (cc on);
    owed = λ os a goes seen. record { seen = λ on. absurd (cc on); next = λ on. absurd (cc on); none = λ _. refl; over = λ _. refl };
  }

  -- at first nothing has changed
  pub first_way : AreOfOne g nodes rels (e ∷ es) → AreUnderWay g barred nodes rels e es e es
  first_way all = record {
    kept = record { all = all; parts = refl; before = refl };
    goes = λ os goes. goes;
    owed = λ os a goes seen. record { seen = seen; same = refl };
  }

  module _ (d f : Ends) (fs : List Ends) (h : Ends) (hs : List Ends) (way : AreUnderWay g barred nodes rels e es d (f ∷ fs)) where
    rest_alike : parts_in (h ∷ hs) ≡ parts_in (f ∷ fs) → (patterns : ℕ → List RelId) (a : Partial)
        → flat_map (rows_by_ends g patterns (parts_in (f ∷ fs))) (left_from d a) ≡ flat_map (rows_by_ends g patterns (parts_in (h ∷ hs))) (left_from d a)
    rest_alike same patterns a = ap (λ l. flat_map (rows_by_ends g patterns l) (left_from d a)) (sym same)

    kept_behind : AreKept g nodes rels f fs h hs → AreKept g nodes rels e es d (h ∷ hs)
    kept_behind kept = record {
      all = (way.kept.all.0, kept.all);
      parts = ap (λ l. d.part.now ∷ l) kept.parts ∙ way.kept.parts;
      before = way.kept.before;
    }

    module _ (found : Bool) (gone : HaveGoneOn g barred nodes rels d.stands f fs h hs found) where
      goes_behind : (os : List (Option RelId)) → AllGoOn g os (e ∷ es) → AllGoOn g os (d ∷ h ∷ hs)
      goes_behind os all =
          let goes = way.goes os all in
          record {
            walks = subst (λ l. CanTrek g (d.part.now ∷ l) (before_end d.part.now d.row)) (sym gone.kept.parts) goes.walks;
            rels = goes.rels;
            more = gone.goes os goes.more;
          }

      seen_on : (os : List (Option RelId)) (a : Partial) → AllGoOn g os (e ∷ es) → AllSeen a (e ∷ es) → AllSeen a (d ∷ h ∷ hs)
      seen_on os a all seen =
          let was = (way.owed os a all seen).seen in
          record { before = was.before; behind = was.behind; more = (gone.owed os (behind_end d.part.now d.row a) (way.goes os all).more was.more).seen }

    -- those that follow go on to the next row
    pub gone_behind : HaveGoneOn g barred nodes rels d.stands f fs h hs true → (begun : Bool) → begun ≡ true → HaveGoneOn g barred nodes rels begun e es d (h ∷ hs) true
    gone_behind gone begun is = subst (λ b. HaveGoneOn g barred nodes rels b e es d (h ∷ hs) true) (sym is) (record {
      kept = kept_behind gone.kept;
      goes = λ os all _. goes_behind true gone os (all refl);
      begins = λ _. refl;
      stand = λ _. and_from d.stands (all_stand (h ∷ hs)) (gone.begins refl) (gone.stand refl);
      owed = λ os a all seen.
          let was = way.owed os a (all refl) (seen refl) in
          let on = gone.begins refl in
          let taken = gone.owed os (behind_end d.part.now d.row a) (way.goes os (all refl)).more was.seen.more in
          record {
            seen = λ _. seen_on true gone os a (all refl) (seen refl);
            next = λ _.
                was.same
                ∙ ap₂ ◌++◌ (taken.next refl) (rest_alike gone.kept.parts (barred os) a);
            none = λ off. absurd (cc off);
            over = λ off. absurd (cc off);
          };
    })

    -- or they owe nothing more
    pub none_behind : HaveGoneOn g barred nodes rels d.stands f fs h hs false → AreUnderWay g barred nodes rels e es d (h ∷ hs)
    none_behind gone = record {
      kept = kept_behind gone.kept;
      goes = goes_behind false gone;
      owed = λ os a all seen.
          let was = way.owed os a all seen in
          let taken = gone.owed os (behind_end d.part.now d.row a) (way.goes os all).more was.seen.more in
          record {
            seen = seen_on false gone os a all seen;
            same = was.same ∙ ap₂ ◌++◌ (taken.none refl ∙ sym (taken.over refl)) (rest_alike gone.kept.parts (barred os) a);
          };
    }

    pub spent_behind : HaveGoneOn g barred nodes rels d.stands f fs h hs false → (os : List (Option RelId)) (a : Partial) → AllGoOn g os (e ∷ es) → AllSeen a (e ∷ es)
        → owed_by g (barred os) a (d ∷ h ∷ hs) ≡ flat_map (rows_by_ends g (barred os) (parts_in (h ∷ hs))) (left_from d a)
    spent_behind gone os a all seen =
        ap (λ l. l ++ flat_map (rows_by_ends g (barred os) (parts_in (h ∷ hs))) (left_from d a))
        ((gone.owed os (behind_end d.part.now d.row a) (way.goes os all).more (way.owed os a all seen).seen.more).over refl)

  -- the trail goes to another end, or to none
  module _ (d : Ends) (fs : List Ends) (new : Ends) (found : Bool) (way : AreUnderWay g barred nodes rels e es d fs) (goes : GoesToEnd d new found) (stands : new.stands ≡ found)
      (ends : AreEnds new) (same : AreSameEnds d new) where
    one_of : IsOneOf g nodes rels new
    one_of = let one = way.kept.all.0 in record { ends = ends; graph = same.graph ∙ one.graph; nodes = same.nodes ∙ one.nodes; rels = same.rels ∙ one.rels }

    rels_stay : new.row.rels ≡ d.row.rels
    rels_stay = ap (λ (r : Wide). r.rels) goes.before

    part_first : d.part.now ≡ e.part.now
    part_first = first way.kept.parts
      where
        first : {X : Type 0} {x y : X} {xs zs : List X} → x ∷ xs ≡ y ∷ zs → x ≡ y
        first h = cc h

    before_new : before_end e.part.now new.row ≡ before_end e.part.now e.row
    before_new = subst (λ (q : TrailPart). before_end q new.row ≡ before_end q d.row) part_first goes.before ∙ way.kept.before

    before_own : before_end new.part.now new.row ≡ before_end d.part.now d.row
    before_own = ap (λ (q : TrailPart). before_end q new.row) same.part ∙ goes.before

    seen_new : (a : Partial) → IsSeenBefore d.part.now d.row a → IsSeenBefore new.part.now new.row a
    seen_new a seen = subst (λ (q : TrailPart). IsSeenBefore q new.row a) (sym same.part) (seen_stays d.part.now d.row new.row a goes.before seen)

    abbrev Spent : Type 0
    Spent = (os : List (Option RelId)) (a : Partial) → AllGoOn g os (e ∷ es) → AllSeen a (e ∷ es)
        → owed_by g (barred os) a (d ∷ fs) ≡ flat_map (rows_by_ends g (barred os) (parts_in fs)) (left_from d a)

    -- to none: nothing is owed
    pub none_left : found ≡ false → Spent → (begun : Bool) → begun ≡ true → HaveGoneOn g barred nodes rels begun e es new fs false
    none_left off spent begun is = subst (λ b. HaveGoneOn g barred nodes rels b e es new fs false) (sym is) (record {
      kept = record {
        all = (one_of, way.kept.all.1);
        parts = ap (λ q. q ∷ parts_in fs) same.part ∙ way.kept.parts;
        before = before_new;
      };
      goes = λ os all _. (let was = way.goes os (all refl) in record {
        walks = subst (λ (q : TrailPart). CanTrek g (q ∷ parts_in fs) (before_end new.part.now new.row)) (sym same.part)
            (subst (λ (r : Wide). CanTrek g (d.part.now ∷ parts_in fs) r) (sym before_own) was.walks);
        rels = rels_stay ∙ was.rels;
        more = λ on. absurd (true≢false (sym on ∙ stands ∙ off));
      });
      begins = λ on. absurd (cc on);
      stand = λ on. absurd (cc on);
      owed = λ os a all seen.
          let was = way.owed os a (all refl) (seen refl) in
          record {
            seen = λ _. record {
              before = seen_new a was.seen.before;
              behind = λ on. absurd (true≢false (sym on ∙ stands ∙ off));
              more = λ on. absurd (true≢false (sym on ∙ stands ∙ off));
            };
            next = λ on. absurd (cc on);
            none = λ _. was.same ∙ spent os a (all refl) (seen refl) ∙ ap (flat_map (rows_by_ends g (barred os) (parts_in fs))) (goes.none off a was.seen.before);
            over = λ _. left_none os a;
          };
    })
      where
        left_none : (os : List (Option RelId)) (a : Partial) → owed_by g (barred os) a (new ∷ fs) ≡ []
        left_none os a =
            ap (λ b. (if b then owed_by g (barred os) (behind_end new.part.now new.row a) fs else []) ++ flat_map (rows_by_ends g (barred os) (parts_in fs)) (left_from new a)) (stands ∙ off)
            ∙ ap (λ ns. flat_map (rows_by_ends g (barred os) (parts_in fs)) (rows_at new.graph.now new.part.now a ns)) (goes.over off)

    -- what of its row the trails that follow may count on
    module _ (on : found ≡ true) where
      end_new : HasEnd g new.part.now new.row
      end_new = subst (λ (k : Graph). HasEnd k new.part.now new.row) (way.kept.all.0).graph (subst (λ (q : TrailPart). HasEnd d.graph.now q new.row) (sym same.part) (goes.end on))

      walks_own : (os : List (Option RelId)) → AllGoOn g os (e ∷ es) → CanTrek g (new.part.now ∷ parts_in fs) (before_end new.part.now new.row)
      walks_own os all =
          subst (λ (q : TrailPart). CanTrek g (q ∷ parts_in fs) (before_end new.part.now new.row)) (sym same.part)
          (subst (λ (r : Wide). CanTrek g (d.part.now ∷ parts_in fs) r) (sym before_own) (way.goes os all).walks)

      pub walks_on : (os : List (Option RelId)) → AllGoOn g os (e ∷ es) → CanTrek g (parts_in fs) new.row
      walks_on os all = can_next g new.part.now new.row end_new (parts_in fs) (walks_own os all)

-- those that follow begin from there
module _ (g : Graph) (barred : List (Option RelId) → ℕ → List RelId) (nodes rels : ℕ) (e : Ends) (es : List Ends) (d f : Ends) (fs : List Ends) (new : Ends) (way : AreUnderWay g barred nodes rels e es d (f ∷ fs))
    (goes : GoesToEnd d new true) (stands : new.stands ≡ true) (ends : AreEnds new) (same : AreSameEnds d new)
    (spent : Spent g barred nodes rels e es d (f ∷ fs) new true way goes stands ends same)
    (h : Ends) (row : h.row ≡ new.row) (fresh : h.stands ≡ false) (fit : AreEnds h) (alike : AreSameEnds f h)
    (owed : (a : Partial) → IsSeen new.row a → left_from h a ≡ rows_at_ends f.graph.now (barred new.row.rels) f.part.now a) where
  part_h : h.part.now ≡ f.part.now
  part_h = alike.part

  parts_h : parts_in (h ∷ fs) ≡ parts_in (f ∷ fs)
  parts_h = ap (λ q. q ∷ parts_in fs) alike.part

  walks_h : (os : List (Option RelId)) → AllGoOn g os (e ∷ es) → CanTrek g (h.part.now ∷ parts_in fs) h.row
  walks_h os all =
      subst (λ (r : Wide). CanTrek g (parts_in (h ∷ fs)) r) (sym row)
      (subst (λ l. CanTrek g l new.row) (sym parts_h) (walks_on g barred nodes rels e es d (f ∷ fs) new true way goes stands ends same refl os all))

  goes_on : (os : List (Option RelId)) → AllGoOn g os (e ∷ es) → AllGoOn g os (new ∷ h ∷ fs)
  goes_on os all = record {
    walks = subst (λ l. CanTrek g (new.part.now ∷ l) (before_end new.part.now new.row)) (sym parts_h) (walks_own g barred nodes rels e es d (f ∷ fs) new true way goes stands ends same refl os all);
    rels = rels_stay g barred nodes rels e es d (f ∷ fs) new true way goes stands ends same ∙ (way.goes os all).rels;
    more = λ _. record {
      walks = subst (λ (r : Wide). CanTrek g (h.part.now ∷ parts_in fs) r) (sym (before_here g h.part.now (parts_in fs) h.row (walks_h os all))) (walks_h os all);
      rels = ap (λ (r : Wide). r.rels) row ∙ rels_stay g barred nodes rels e es d (f ∷ fs) new true way goes stands ends same ∙ (way.goes os all).rels;
      more = λ on. absurd (true≢false (sym on ∙ fresh));
    };
  }

  -- where nothing is bound there, it is not bound
  sees_h : (a : Partial) → IsSeen new.row a → IsSeenBefore h.part.now h.row a
  sees_h a seen v free = ap (λ (r : Wide). item_at r.nodes v) row ∙ seen v

  pub begun_behind : AreUnderWay g barred nodes rels e es new (h ∷ fs)
  begun_behind = record {
    kept = record {
      all = (one_of g barred nodes rels e es d (f ∷ fs) new true way goes stands ends same, (one_h, way.kept.all.1.1));
      parts = ap₂ ◌∷◌ same.part parts_h ∙ way.kept.parts;
      before = before_new g barred nodes rels e es d (f ∷ fs) new true way goes stands ends same;
    };
    goes = goes_on;
    owed = λ os a all seen.
        let was = way.owed os a all seen in
        let behind = seen_behind g new.part.now new.row (end_new g barred nodes rels e es d (f ∷ fs) new true way goes stands ends same refl) a (seen_new g barred nodes rels e es d (f ∷ fs) new true way goes stands ends same a was.seen.before) in
        record {
          seen = record {
            before = seen_new g barred nodes rels e es d (f ∷ fs) new true way goes stands ends same a was.seen.before;
            behind = λ _. behind;
            more = λ _. record { before = sees_h (behind_end new.part.now new.row a) behind; behind = λ on. absurd (true≢false (sym on ∙ fresh)); more = λ on. absurd (true≢false (sym on ∙ fresh)) };
          };
          same = was.same ∙ spent os a all seen ∙ moved os a was.seen.before behind ((way.goes os all).rels);
        };
  }
    where
      one_h : IsOneOf g nodes rels h
      one_h = let one = way.kept.all.1.0 in record { ends = fit; graph = alike.graph ∙ one.graph; nodes = alike.nodes ∙ one.nodes; rels = alike.rels ∙ one.rels }

      moved : (os : List (Option RelId)) (a : Partial) → IsSeenBefore d.part.now d.row a → IsSeen new.row (behind_end new.part.now new.row a) → d.row.rels ≡ os
          → flat_map (rows_by_ends g (barred os) (parts_in (f ∷ fs))) (left_from d a) ≡ owed_by g (barred os) a (new ∷ h ∷ fs)
      moved os a seen behind rels_are =
          ap (flat_map (rows_by_ends g ps (parts_in (f ∷ fs)))) (goes.next refl a seen)
          ∙ ap₂ ◌++◌ first_part rest_part
          ∙ sym (ap (λ b. (if b then owed_by g ps (behind_end new.part.now new.row a) (h ∷ fs) else []) ++ flat_map (rows_by_ends g ps (parts_in (h ∷ fs))) (left_from new a)) stands)
        where
          ps : ℕ → List RelId
          ps = barred os

          own_rels : barred new.row.rels ≡ barred os
          own_rels = ap barred (rels_stay g barred nodes rels e es d (f ∷ fs) new true way goes stands ends same ∙ rels_are)

          left_h : left_from h (behind_end new.part.now new.row a) ≡ rows_at_ends g (barred os) f.part.now (behind_end new.part.now new.row a)
          left_h =
              owed (behind_end new.part.now new.row a) behind
              ∙ ap₂ (λ (k : Graph) (r : ℕ → List RelId). rows_at_ends k r f.part.now (behind_end new.part.now new.row a)) (way.kept.all.1.0).graph own_rels

          first_part : rows_by_ends g (barred os) (parts_in (f ∷ fs)) (behind_end d.part.now new.row a) ≡ owed_by g (barred os) (behind_end new.part.now new.row a) (h ∷ fs)
          first_part =
              ap (λ (q : TrailPart). rows_by_ends g (barred os) (parts_in (f ∷ fs)) (behind_end q new.row a)) (sym same.part)
              ∙ ap (flat_map (rows_by_ends g (barred os) (parts_in fs))) (sym left_h)
              ∙ sym (ap (λ b. (if b then owed_by g (barred os) (behind_end h.part.now h.row (behind_end new.part.now new.row a)) fs else [])
              ++ flat_map (rows_by_ends g (barred os) (parts_in fs)) (left_from h (behind_end new.part.now new.row a))) fresh)

          rest_part : flat_map (rows_by_ends g (barred os) (parts_in (f ∷ fs))) (left_from new a) ≡ flat_map (rows_by_ends g (barred os) (parts_in (h ∷ fs))) (left_from new a)
          rest_part = ap (λ l. flat_map (rows_by_ends g (barred os) l) (left_from new a)) (sym parts_h)

-- ---- the last trail

module _ (g : Graph) (barred : List (Option RelId) → ℕ → List RelId) (nodes rels : ℕ) (e new : Ends) (found : Bool) (all : AreOfOne g nodes rels (e ∷ [])) (goes : GoesToEnd e new found) (stands : new.stands ≡ found)
    (ends : AreEnds new) (same : AreSameEnds e new) where
  alone : (patterns : ℕ → List RelId) (a : Partial) (b : Ends) → owed_by g patterns a (b ∷ []) ≡ left_from b a
  alone patterns a b = go b.stands
    where
      singles : (xs : List Partial) → flat_map (rows_by_ends g patterns []) xs ≡ xs
      singles [] = refl
      singles (x ∷ xs) = ap (λ l. x ∷ l) (singles xs)

      go : (c : Bool) → (if c then [] else []) ++ flat_map (rows_by_ends g patterns []) (left_from b a) ≡ left_from b a
      go true = singles (left_from b a)
      go false = singles (left_from b a)

  pub last_goes : (begun : Bool) → begun ≡ true → HaveGoneOn g barred nodes rels begun e [] new [] found
  last_goes begun is = subst (λ b. HaveGoneOn g barred nodes rels b e [] new [] found) (sym is) (record {
    kept = record {
      all = ((let one = all.0 in record { ends = ends; graph = same.graph ∙ one.graph; nodes = same.nodes ∙ one.nodes; rels = same.rels ∙ one.rels }), tt);
      parts = ap (λ q. q ∷ []) same.part;
      before = goes.before;
    };
    goes = λ os was _. (let old = was refl in record {
      walks = subst (λ (q : TrailPart). CanTrek g (q ∷ []) (before_end new.part.now new.row)) (sym same.part) (subst (λ (r : Wide). CanTrek g (e.part.now ∷ []) r) (sym before_own_last) old.walks);
      rels = ap (λ (r : Wide). r.rels) goes.before ∙ old.rels;
      more = λ _. tt;
    });
    begins = λ _. refl;
    stand = λ on. and_from new.stands true (stands ∙ on) refl;
    owed = λ os a was seen.
        let old = seen refl in
        record {
          seen = λ _. record { before = seen_last a old.before; behind = λ on. behind_last a old.before (sym stands ∙ on); more = λ _. tt };
          next = λ on. alone (barred os) a e ∙ goes.next on a old.before ∙ ap₂ ◌∷◌ (ap (λ (q : TrailPart). behind_end q new.row a) (sym same.part)) (sym (alone (barred os) a new));
          none = λ off. alone (barred os) a e ∙ goes.none off a old.before;
          over = λ off. alone (barred os) a new ∙ ap (rows_at new.graph.now new.part.now a) (goes.over off);
        };
  })
    where
      before_own_last : before_end new.part.now new.row ≡ before_end e.part.now e.row
      before_own_last = ap (λ (q : TrailPart). before_end q new.row) same.part ∙ goes.before

      seen_last : (a : Partial) → IsSeenBefore e.part.now e.row a → IsSeenBefore new.part.now new.row a
      seen_last a seen = subst (λ (q : TrailPart). IsSeenBefore q new.row a) (sym same.part) (seen_stays e.part.now e.row new.row a goes.before seen)

      behind_last : (a : Partial) → IsSeenBefore e.part.now e.row a → found ≡ true → IsSeen new.row (behind_end new.part.now new.row a)
      behind_last a seen on =
          seen_behind e.graph.now new.part.now new.row (subst (λ (q : TrailPart). HasEnd e.graph.now q new.row) (sym same.part) (goes.end on)) a (seen_last a seen)

-- ---- all stand

rels_behind : (p : TrailPart) (row : Wide) (a : Partial) → (behind_end p row a).rels ≡ a.rels
rels_behind p row a = go p.both (item_at row.nodes p.to)
  where
    go : (b : Bool) (o : Option NodeId) → (if b then a else bound_at p.to o a).rels ≡ a.rels
    go true o = refl
    go false None = refl
    go false (Some n) = refl

pub rels_reached : (a : Partial) (es : List Ends) → (reached_by a es).rels ≡ a.rels
rels_reached a [] = refl
rels_reached a (e ∷ es) = rels_reached (behind_end e.part.now e.row a) es ∙ rels_behind e.part.now e.row a

-- the last row has what is bound behind all
pub seen_last : (g : Graph) (os : List (Option RelId)) (a : Partial) (e : Ends) (es : List Ends) → AllGoOn g os (e ∷ es) → AllSeen a (e ∷ es) → all_stand (e ∷ es) ≡ true
    → (x : Ends) → slice_get (e ∷ es) (length es) ≡ Some x → IsSeen x.row (reached_by a (e ∷ es)) × (x.row.rels ≡ os)
seen_last g os a e [] goes seen stand x is =
    let same : e ≡ x = cc is in
    subst (λ (y : Ends). IsSeen y.row (behind_end e.part.now e.row a) × (y.row.rels ≡ os)) same (seen.behind (and_parts e.stands true stand).0, goes.rels)
seen_last g os a e (f ∷ fs) goes seen stand x is =
    let stands = and_parts e.stands (all_stand (f ∷ fs)) stand in
    seen_last g os (behind_end e.part.now e.row a) f fs (goes.more stands.0) (seen.more stands.0) stands.1 x is

pub read_seen : (row : Wide) (a : Partial) → IsSeen row a → ((x : ℕ) → item_at row.rels x ≡ look a.rels x) → read row ≡ meaning.row a
read_seen row a seen rels = λ i. record { nodes = λ v. seen v i; rels = λ x. rels x i }
