-- Trails that are gone through by their ends, behind trails that are walked.
use Rattle.std.proofs.Common.{◌≡◌, ℕ, ◌+◌, ◌<◌, ◌≤◌, ◌||◌, nat_eq, Bool, true, false, Option, Some, None, List, [], ◌∷◌, ◌++◌, flat_map, length, map, true≢false, refl, sym, ap, ap₂, ◌∙◌, subst, append-nil, arith, length-append}
use Rattle.std.specs.Prelude.{if◌then◌else◌, is_some, slice_get, slice_set}
use Rattle.std.specs.List.{AllByRecursion}
use Rattle.std.proofs.lemmas.Grind.{flat_map-append}
use Rattle.gq_base.specs.Plain.{Graph}
use Rattle.gq_base.specs.Valid.{is_valid}
use Rattle.gq_base.specs.declared.NodeId.{NodeId}
use Rattle.gq_base.specs.declared.RelId.{RelId}
use Rattle.gq_law_ends.specs.Reaching.{rows_reached}
use Rattle.gq_law_plans.specs.Bindings.{bound}
use Rattle.gq_law_trails.specs.Trails.{Trailing, after_trails, arrivals, arrive_at, fits_end, used_in, walks_from, with_list}
use Rattle.gq_law_trails.specs.Walks.{end_of}
use Rattle.gq_plan.specs.Allowed.{at_same}
use Rattle.gq_plan.specs.Assignments.{is_node}
use Rattle.gq_plan.specs.Meaning.{Partial, keep_if, look, with_node}
use Rattle.gq_plan.specs.Meaning as meaning
use Rattle.gq_plan.specs.declared.TrailPart.{TrailPart}
use Rattle.gq_plan.specs.declared.TypedRel.{TypedRel}
use Rattle.gq_outer.specs.Rows.{Wide, item_at, read}
use Rattle.gq_trails.specs.Continued.{rows_at_ends, rows_by_ends}
use Rattle.gq_trails.specs.Trekking.{AreInTurn, CanTrek, IsRowOf, Trekking, continuations, partial_of, patterns_from, patterns_in, placed_from}
use Rattle.gq_trails.specs.steps.Chained.{AllGoOn, AllSeen, AreOfOne, AreOnWay, AreSameWays, CanBegin, CanBeginAt, CanGoFrom, HasGone, HaveGoneBehind, HaveGoneFrom, HaveGoneOn, IsBegun, IsChainOf, IsSetOut, TakesNext, all_stand, barred_behind, owed_behind, owed_by, owed_once, parts_in, reached_by, rows_from_walks}
use Rattle.gq_trails.specs.steps.Journeys.{IsFit}
use Rattle.gq_trails.specs.steps.Reached.{AreEnds, AreSameEnds, IsSeen, before_end, behind_end, left_from}
use Rattle.gq_trails.specs.steps.Walked.{walked_of, walks_with}
use Rattle.gq_trails.specs.declared.reached.Ends.{Ends}
use Rattle.gq_trails.proofs.Beginning.{look_items}
use Rattle.gq_trails.proofs.Chaining.{all_by, before_here, bound_item, can_first, nodes_of_items, read_seen, rels_reached, seen_last, some_bound}
use Rattle.gq_trails.proofs.Fitting.{bound_is, fit_next, in_turn, look_node}
use Rattle.gq_trails.proofs.Inside.{end_inside}
use Rattle.gq_trails.proofs.Placed.{IsCons, cons_of}

-- ---- a row that walks reached

-- trails that can be gone through from what walks reached can be from its row
pub can_from : (g : Graph) (nodes : ℕ) (ys : List TypedRel) (qs ps : List TrailPart) (m : Trailing) (row : Wide) → CanGoFrom g nodes ys qs ps m → IsRowOf m row → length row.nodes ≡ nodes
    → CanTrek g ps row
can_from g nodes ys qs ps m row from is long = record {
  ends = subst (λ k. AllByRecursion (λ (p : TrailPart). p.to < k) ps) (sym long) from.ends;
  turns = in_turn ps (bound m.row.nodes) (bound (partial_of row).nodes)
      (λ v. some_bound m.row.nodes v (look m.row.nodes v) refl ∙ ap is_some (sym (is.nodes v)) ∙ sym (bound_item row.nodes v)) from.fit.turns;
  nodes = nodes_of_items g row.nodes 0 (λ v n e. look_node g m.row.nodes v n from.fit.nodes (sym (is.nodes v) ∙ e));
}

-- its patterns are those of what is bound
pub barred_same : (ys : List TypedRel) (ws : List (ℕ × List RelId)) (os : List (Option RelId)) (bs : List (ℕ × RelId)) → ((x : ℕ) → item_at os x ≡ look bs x)
    → barred_behind ys ws os ≡ used_in (patterns_from 0 ys (look bs)) ws
barred_same ys ws os bs same = λ i. used_in (patterns_from 0 ys (λ x. same x i)) ws

left_by : (g h : Graph) (n k : ℕ) (ys : List TypedRel) (qs rs ps zs : List TrailPart) (ms : List Trailing) → g ≡ h → n ≡ k → qs ≡ rs → ps ≡ zs
    → AllByRecursion (CanGoFrom g n ys qs ps) ms → AllByRecursion (CanGoFrom h k ys rs zs) ms
left_by g h n k ys qs rs ps zs ms graph nodes walked ends all =
    subst (λ l. AllByRecursion (CanGoFrom h k ys rs l) ms) ends (subst (λ l. AllByRecursion (CanGoFrom h k ys l ps) ms) walked
    (subst (λ z. AllByRecursion (CanGoFrom h z ys qs ps) ms) nodes (subst (λ z. AllByRecursion (CanGoFrom z n ys qs ps) ms) graph all)))

-- ---- they go on

module _ (ys : List TypedRel) (begun : Bool) (t : Trekking) (es : List Ends) where
  pub first_on : IsChainOf ys begun t es → AreOnWay ys begun t es begun t es
  first_on chain = record { chain = chain; same = record { graph = refl; walked = refl; ends = refl; nodes = refl; rels = refl }; owed = refl }

  module _ (on : Bool) (u : Trekking) (f : Ends) (fs : List Ends) (way : AreOnWay ys begun t es on u (f ∷ fs)) (h : Ends) (hs : List Ends) (found : Bool)
      (gone : HaveGoneOn u.graph (barred_behind ys (walked_of u)) u.nodes u.rels on f fs h hs found) where
    goes_f : on ≡ true → AllGoOn u.graph f.row.rels (f ∷ fs)
    goes_f b = (way.chain.state b).goes

    seen_f : on ≡ true → AllSeen u.reached.row (f ∷ fs)
    seen_f b = (way.chain.state b).seen

    taken : TakesNext u.graph (barred_behind ys (walked_of u) f.row.rels) u.reached.row on (f ∷ fs) (h ∷ hs) found
    taken = gone.owed f.row.rels u.reached.row goes_f seen_f

    same_rels : h.row.rels ≡ f.row.rels
    same_rels = ap (λ (r : Wide). r.rels) gone.kept.before

    chain_h : IsChainOf ys on u (h ∷ hs)
    chain_h = record {
      some = omega arith;
      all = gone.kept.all;
      left = subst (λ l. AllByRecursion (CanGoFrom u.graph u.nodes ys u.parts l) u.owed) (sym gone.kept.parts) way.chain.left;
      state = λ b. (let was = way.chain.state b in record {
        few = was.few;
        stands = was.stands;
        rels = λ x. ap (λ os. item_at os x) same_rels ∙ was.rels x;
        goes = subst (λ os. AllGoOn u.graph os (h ∷ hs)) (sym same_rels) (gone.goes f.row.rels goes_f b);
        seen = taken.seen b;
      });
    }

    same_h : AreSameWays t es u (h ∷ hs)
    same_h = record { graph = way.same.graph; walked = way.same.walked; ends = gone.kept.parts ∙ way.same.ends; nodes = way.same.nodes; rels = way.same.rels }

    rest_h : flat_map (rows_from_walks u.graph ys u.parts (parts_in (f ∷ fs))) u.owed ≡ flat_map (rows_from_walks u.graph ys u.parts (parts_in (h ∷ hs))) u.owed
    rest_h = ap (λ l. flat_map (rows_from_walks u.graph ys u.parts l) u.owed) (sym gone.kept.parts)

    -- to the next row
    pub gone_found : found ≡ true → HaveGoneBehind ys begun t es u (h ∷ hs) true
    gone_found is = record {
      chain = subst (λ b. IsChainOf ys b u (h ∷ hs)) (gone.begins is) chain_h;
      same = same_h;
      stand = λ _. gone.stand is;
      next = λ _.
          way.owed ∙ ap₂ ◌++◌ (taken.next is) rest_h
          ∙ ap₂ (λ b os. reached_by u.reached.row (h ∷ hs) ∷ (owed_once u.graph (barred_behind ys (walked_of u) os) u.reached.row b (h ∷ hs)
          ++ flat_map (rows_from_walks u.graph ys u.parts (parts_in (h ∷ hs))) u.owed)) (gone.begins is) (sym same_rels);
      none = λ off. absurd (cc off);
      over = λ off. absurd (cc off);
    }

    -- or nothing is owed from what was reached last
    none_found : found ≡ false → owed_behind ys begun t es ≡ flat_map (rows_from_walks u.graph ys u.parts (parts_in (h ∷ hs))) u.owed
    none_found off = way.owed ∙ ap₂ ◌++◌ (taken.none off) rest_h

    module _ (off : found ≡ false) (v : Trekking) (graph : v.graph ≡ u.graph) (walked : v.parts ≡ u.parts) (nodes : v.nodes ≡ u.nodes) (rels : v.rels ≡ u.rels) where
      all_v : AreOfOne v.graph v.nodes v.rels (h ∷ hs)
      all_v = all_by u.graph v.graph u.nodes v.nodes u.rels v.rels (h ∷ hs) (sym graph) (sym nodes) (sym rels) gone.kept.all

      same_v : AreSameWays t es v (h ∷ hs)
      same_v = record { graph = graph ∙ way.same.graph; walked = walked ∙ way.same.walked; ends = same_h.ends; nodes = nodes ∙ way.same.nodes; rels = rels ∙ way.same.rels }

      -- nor from what is still to be walked to
      pub gone_out : u.owed ≡ [] → v.owed ≡ [] → HaveGoneBehind ys begun t es v (h ∷ hs) false
      gone_out none over = record {
        chain = record {
          some = omega arith;
          all = all_v;
          left = subst (AllByRecursion (CanGoFrom v.graph v.nodes ys v.parts (parts_in (h ∷ hs)))) (sym over) tt;
          state = λ b. absurd (cc b);
        };
        same = same_v;
        stand = λ b. absurd (cc b);
        next = λ b. absurd (cc b);
        none = λ _. none_found off ∙ ap (flat_map (rows_from_walks u.graph ys u.parts (parts_in (h ∷ hs)))) none;
        over = λ _. ap (flat_map (rows_from_walks v.graph ys v.parts (parts_in (h ∷ hs)))) over;
      }

      -- or they begin from there
      module _ (next : u.owed ≡ v.reached ∷ v.owed) (stands : v.standing ≡ true) (base : Wide) (is : IsRowOf v.reached base) (long : length base.nodes ≡ v.nodes) where
        left_v : AllByRecursion (CanGoFrom v.graph v.nodes ys v.parts (parts_in (h ∷ hs))) (v.reached ∷ v.owed)
        left_v =
            left_by u.graph v.graph u.nodes v.nodes ys u.parts v.parts (parts_in (f ∷ fs)) (parts_in (h ∷ hs)) (v.reached ∷ v.owed) (sym graph) (sym nodes) (sym walked) (sym gone.kept.parts)
            (subst (AllByRecursion (CanGoFrom u.graph u.nodes ys u.parts (parts_in (f ∷ fs)))) next way.chain.left)

        can : CanTrek v.graph (parts_in (h ∷ hs)) base
        can = can_from v.graph v.nodes ys v.parts (parts_in (h ∷ hs)) v.reached base left_v.0 is long

        pub few_there : length v.parts + length ys ≤ 24
        few_there = left_v.0.few

        graph_h : h.graph.now ≡ v.graph
        graph_h = all_v.0.graph

        pub walks_there : CanTrek h.graph.now (h.part.now ∷ []) base
        walks_there = subst (λ (k : Graph). CanTrek k (h.part.now ∷ []) base) (sym graph_h) (can_first v.graph h.part.now (parts_in hs) base can)

        module _ (k : Ends) (row : k.row ≡ base) (fresh : k.stands ≡ false) (fit : AreEnds k) (alike : AreSameEnds h k)
            (owed : (a : Partial) → IsSeen base a → left_from k a ≡ rows_at_ends h.graph.now (barred_behind ys (walked_of v) base.rels) h.part.now a) where
          parts_k : parts_in (k ∷ hs) ≡ parts_in (h ∷ hs)
          parts_k = ap (λ q. q ∷ parts_in hs) alike.part

          before_k : before_end k.part.now k.row ≡ base
          before_k = ap₂ before_end alike.part row ∙ before_here v.graph h.part.now (parts_in hs) base can

          begun_k : IsBegun ys v (k ∷ hs)
          begun_k = record {
            few = few_there;
            stands = stands;
            rels = λ x. ap (λ (r : Wide). item_at r.rels x) row ∙ is.rels x;
            goes = record {
              walks = subst (λ (r : Wide). CanTrek v.graph (k.part.now ∷ parts_in hs) r) (sym before_k) (subst (λ (q : TrailPart). CanTrek v.graph (q ∷ parts_in hs) base) (sym alike.part) can);
              rels = refl;
              more = λ b. absurd (true≢false (sym b ∙ fresh));
            };
            seen = record {
              before = λ x free. ap (λ (r : Wide). item_at r.nodes x) row ∙ is.nodes x;
              behind = λ b. absurd (true≢false (sym b ∙ fresh));
              more = λ b. absurd (true≢false (sym b ∙ fresh));
            };
          }

          chain_k : IsChainOf ys true v (k ∷ hs)
          chain_k = record {
            some = omega arith;
            all = (record { ends = fit; graph = alike.graph ∙ graph_h; nodes = alike.nodes ∙ all_v.0.nodes; rels = alike.rels ∙ all_v.0.rels }, all_v.1);
            left = subst (λ l. AllByRecursion (CanGoFrom v.graph v.nodes ys v.parts l) v.owed) (sym parts_k) left_v.1;
            state = λ _. begun_k;
          }

          barred_there : barred_behind ys (walked_of v) base.rels ≡ used_in (patterns_from 0 ys (look v.reached.row.rels)) (walked_of v)
          barred_there = barred_same ys (walked_of v) base.rels v.reached.row.rels is.rels

          left_k : left_from k v.reached.row ≡ rows_at_ends v.graph (barred_behind ys (walked_of v) k.row.rels) h.part.now v.reached.row
          left_k =
              owed v.reached.row is.nodes
              ∙ ap₂ (λ (g : Graph) os. rows_at_ends g (barred_behind ys (walked_of v) os) h.part.now v.reached.row) graph_h (sym (ap (λ (r : Wide). r.rels) row))

          owed_k : rows_from_walks v.graph ys v.parts (parts_in (h ∷ hs)) v.reached ≡ owed_once v.graph (barred_behind ys (walked_of v) k.row.rels) v.reached.row true (k ∷ hs)
          owed_k =
              ap (λ used. rows_by_ends v.graph used (parts_in (h ∷ hs)) v.reached.row) (sym barred_there ∙ ap (barred_behind ys (walked_of v)) (sym (ap (λ (r : Wide). r.rels) row)))
              ∙ sym (ap (flat_map (rows_by_ends v.graph (barred_behind ys (walked_of v) k.row.rels) (parts_in hs))) left_k)
              ∙ sym (no_more (owed_by v.graph (barred_behind ys (walked_of v) k.row.rels) (behind_end k.part.now k.row v.reached.row) hs) k.stands fresh)
            where
              rest : List Partial
              rest = flat_map (rows_by_ends v.graph (barred_behind ys (walked_of v) k.row.rels) (parts_in hs)) (left_from k v.reached.row)

              no_more : (more : List Partial) (b : Bool) → b ≡ false → (if b then more else []) ++ rest ≡ rest
              no_more more true e = absurd (true≢false e)
              no_more more false e = refl

          pub on_begun : AreOnWay ys begun t es true v (k ∷ hs)
          on_begun = record {
            chain = chain_k;
            same = record { graph = same_v.graph; walked = same_v.walked; ends = parts_k ∙ same_v.ends; nodes = same_v.nodes; rels = same_v.rels };
            owed =
                none_found off ∙ ap (flat_map (rows_from_walks u.graph ys u.parts (parts_in (h ∷ hs)))) next
                ∙ ap₂ (λ (g : Graph) qs. flat_map (rows_from_walks g ys qs (parts_in (h ∷ hs))) (v.reached ∷ v.owed)) (sym graph) (sym walked)
                ∙ ap₂ ◌++◌ owed_k (ap (λ l. flat_map (rows_from_walks v.graph ys v.parts l) v.owed) (sym parts_k));
          }

-- ---- by places

module _ {ys : List TypedRel} {begun : Bool} {t : Trekking} {es : List Ends} {on : Bool} {u : Trekking} {fs : List Ends} (way : AreOnWay ys begun t es on u fs) {hs : List Ends} {found : Bool}
    (gone : HaveGoneFrom u.graph (barred_behind ys (walked_of u)) u.nodes u.rels on 0 fs hs found) where
  f : IsCons fs
  f = cons_of fs way.chain.some

  has : HasGone u.graph (barred_behind ys (walked_of u)) u.nodes u.rels on f.first f.rest hs found
  has = gone.gone f.first f.rest f.is

  way_f : AreOnWay ys begun t es on u (f.first ∷ f.rest)
  way_f = subst (AreOnWay ys begun t es on u) f.is way

  pub found_behind : found ≡ true → HaveGoneBehind ys begun t es u hs true
  found_behind sure = subst (λ l. HaveGoneBehind ys begun t es u l true) (sym has.is) (gone_found ys begun t es on u f.first f.rest way_f has.head has.tail found has.gone sure)

  module _ (off : found ≡ false) (v : Trekking) (graph : v.graph ≡ u.graph) (walked : v.parts ≡ u.parts) (nodes : v.nodes ≡ u.nodes) (rels : v.rels ≡ u.rels) where
    pub out_behind : u.owed ≡ [] → v.owed ≡ [] → HaveGoneBehind ys begun t es v hs false
    out_behind none over = subst (λ l. HaveGoneBehind ys begun t es v l false) (sym has.is) (gone_out ys begun t es on u f.first f.rest way_f has.head has.tail found has.gone off v graph walked nodes rels none over)

    module _ (next : u.owed ≡ v.reached ∷ v.owed) (stands : v.standing ≡ true) (base : Wide) (is : IsRowOf v.reached base) (long : length base.nodes ≡ v.nodes) where
      pub few_set : length v.parts + length ys ≤ 24
      few_set = few_there ys begun t es on u f.first f.rest way_f has.head has.tail found has.gone off v graph walked nodes rels next stands base is long

      pub low_set : 0 < length hs
      low_set = let some = ap length has.is in omega (arith, some)

      pub can_set : length base.rels ≡ v.rels → CanBeginAt 0 hs base
      can_set long_rels e rest at =
          let same : has.head ∷ has.tail ≡ e ∷ rest = sym has.is ∙ at in
          let one : has.head ≡ e = cc same in
          let first = has.gone.kept.all.0 in
          subst (λ (x : Ends). CanBegin x base) one (record {
            ends = first.ends;
            walks = walks_there ys begun t es on u f.first f.rest way_f has.head has.tail found has.gone off v graph walked nodes rels next stands base is long;
            nodes = first.nodes ∙ sym nodes ∙ sym long;
            rels = first.rels ∙ sym rels ∙ sym long_rels;
          })

      pub set_behind : (ks : List Ends) → IsSetOut 0 hs ks base (barred_behind ys (walked_of v) base.rels) → AreOnWay ys begun t es true v ks
      set_behind ks set =
          let one = set.one has.head has.tail has.is in
          let ks_is : ks ≡ set.new ∷ has.tail = set.is ∙ ap (λ l. slice_set l 0 set.new) has.is in
          subst (AreOnWay ys begun t es true v) (sym ks_is)
          (on_begun ys begun t es on u f.first f.rest way_f has.head has.tail found has.gone off v graph walked nodes rels next stands base is long set.new one.row one.stands one.ends one.same one.owed)

-- the row of the last of them has the relationships of what was reached
pub rels_last : (a : Partial) (es : List Ends) (own os : List (Option RelId)) → own ≡ os → ((x : ℕ) → item_at os x ≡ look a.rels x) → (x : ℕ) → item_at own x ≡ look (reached_by a es).rels x
rels_last a es own os same rels x = ap (λ l. item_at l x) same ∙ rels x ∙ sym (ap (λ bs. look bs x) (rels_reached a es))

pub row_last : (ys : List TypedRel) (t : Trekking) (es : List Ends) → IsBegun ys t es → all_stand es ≡ true → (x : Ends) (i : ℕ) → i + 1 ≡ length es → slice_get es i ≡ Some x
    → read x.row ≡ meaning.row (reached_by t.reached.row es)
row_last ys t [] begun stands x i low is = absurd (omega (arith, low))
row_last ys t (e ∷ es) begun stands x i low is =
    let at : length es ≡ i = omega (arith, low) in
    let last = seen_last t.graph e.row.rels t.reached.row e es begun.goes begun.seen stands x (ap (slice_get (e ∷ es)) at ∙ is) in
    read_seen x.row (reached_by t.reached.row (e ∷ es)) last.0 (rels_last t.reached.row (e ∷ es) x.row.rels e.row.rels last.1 begun.rels)

-- ---- they begin

flat_flat : {X Y Z : Type 0} (f : Y → List Z) (h : X → List Y) (xs : List X) → flat_map f (flat_map h xs) ≡ flat_map (λ x. flat_map f (h x)) xs
flat_flat f h [] = refl
flat_flat f h (x ∷ xs) = flat_map-append f (h x) (flat_map h xs) ∙ ap (λ ys. flat_map f (h x) ++ ys) (flat_flat f h xs)

flat_on : {X Y Z : Type 0} (f : Y → List Z) (h : X → Y) (xs : List X) → flat_map f (map h xs) ≡ flat_map (λ x. f (h x)) xs
flat_on f h [] = refl
flat_on f h (x ∷ xs) = ap (λ ys. f (h x) ++ ys) (flat_on f h xs)

-- what is bound where a trail arrives has the relationships that were there
same_arrived : {Y : Type 0} (g : Graph) (q : TrailPart) (a : Partial) (f h : Partial → List Y) → ((b : Partial) → b.rels ≡ a.rels → f b ≡ h b) → (o : Option NodeId)
    → flat_map f (arrivals g q a o) ≡ flat_map h (arrivals g q a o)
same_arrived g q a f h same None = refl
same_arrived g q a f h same (Some n) = at q.both
  where
    kept : (b : Bool) (x : Partial) → x.rels ≡ a.rels → flat_map f (keep_if b x) ≡ flat_map h (keep_if b x)
    kept true x e = ap (λ l. l ++ []) (same x e)
    kept false x e = refl

    at : (b : Bool) → flat_map f (arrive_at b g q a n) ≡ flat_map h (arrive_at b g q a n)
    at true = kept (at_same (look a.nodes q.to) (Some n)) a refl
    at false = kept (fits_end g q n) (with_node q.to n a) refl

-- the rows behind all ways to walk the first trails
module _ (g : Graph) (ys : List TypedRel) (ps : List TrailPart) (rs : List (ℕ × RelId)) where
  abbrev pats : ℕ → List RelId
  pats = patterns_from 0 ys (look rs)

  abbrev from_walks : List TrailPart → List (ℕ × List RelId) → Trailing → List Partial
  from_walks qs ws m = rows_by_ends g (used_in (patterns_from 0 ys (look m.row.rels)) (walks_with qs m.lists ws)) ps m.row

  abbrev by_ends : Partial → List (ℕ × List RelId) → List Partial
  by_ends b ws = rows_by_ends g (used_in (patterns_from 0 ys (look rs)) ws) ps b

  rows_walked : (qs : List TrailPart) (a : Partial) (ws : List (ℕ × List RelId)) → a.rels ≡ rs
      → flat_map (from_walks qs ws) (after_trails g pats qs a ws) ≡ rows_reached g pats by_ends qs a ws
  unfolding after_trails
  rows_walked [] a ws same = append-nil (from_walks [] ws (record { row = a; lists = [] })) ∙ ap (λ (bs : List (ℕ × RelId)). rows_by_ends g (used_in (patterns_from 0 ys (look bs)) ws) ps a) same
  rows_walked (q ∷ qs) a ws same =
      flat_flat (from_walks (q ∷ qs) ws) (λ l. flat_map (λ b. map (with_list l) (after_trails g pats qs b ((q.clause, l) ∷ ws))) (arrivals g q a (end_of g q.way (look a.nodes q.from) l))) (walks_from g pats q a ws)
      ∙ ap (λ (f : List RelId → List Partial). flat_map f (walks_from g pats q a ws)) (λ i l. behind l (λ b e. rows_walked qs b ((q.clause, l) ∷ ws) (e ∙ same)) i)
    where
      behind : (l : List RelId)
          → ((b : Partial) → b.rels ≡ a.rels → flat_map (from_walks qs ((q.clause, l) ∷ ws)) (after_trails g pats qs b ((q.clause, l) ∷ ws)) ≡ rows_reached g pats by_ends qs b ((q.clause, l) ∷ ws))
          → flat_map (from_walks (q ∷ qs) ws) (flat_map (λ b. map (with_list l) (after_trails g pats qs b ((q.clause, l) ∷ ws))) (arrivals g q a (end_of g q.way (look a.nodes q.from) l)))
          ≡ flat_map (λ b. rows_reached g pats by_ends qs b ((q.clause, l) ∷ ws)) (arrivals g q a (end_of g q.way (look a.nodes q.from) l))
      behind l on =
          flat_flat (from_walks (q ∷ qs) ws) (λ b. map (with_list l) (after_trails g pats qs b ((q.clause, l) ∷ ws))) (arrivals g q a (end_of g q.way (look a.nodes q.from) l))
          ∙ same_arrived g q a (λ b. flat_map (from_walks (q ∷ qs) ws) (map (with_list l) (after_trails g pats qs b ((q.clause, l) ∷ ws)))) (λ b. rows_reached g pats by_ends qs b ((q.clause, l) ∷ ws))
          (λ b e. flat_on (from_walks (q ∷ qs) ws) (with_list l) (after_trails g pats qs b ((q.clause, l) ∷ ws)) ∙ on b e)
          (end_of g q.way (look a.nodes q.from) l)

all_joined : {X : Type 0} (P : X → Type 0) (xs ys : List X) → AllByRecursion P xs → AllByRecursion P ys → AllByRecursion P (xs ++ ys)
all_joined P [] ys all more = more
all_joined P (x ∷ xs) ys all more = (all.0, all_joined P xs ys all.1 more)

all_flat : {X Y : Type 0} (P : Y → Type 0) (f : X → List Y) → ((x : X) → AllByRecursion P (f x)) → (xs : List X) → AllByRecursion P (flat_map f xs)
all_flat P f all [] = tt
all_flat P f all (x ∷ xs) = all_joined P (f x) (flat_map f xs) (all x) (all_flat P f all xs)

-- behind the first trails, the others can be walked
module _ (g : Graph) (valid : is_valid g ≡ true) (patterns : ℕ → List RelId) (ps : List TrailPart) where
  abbrev FitsOn : Trailing → Type 0
  FitsOn m = IsFit g ps m.row

  fits_listed : (l : List RelId) (ms : List Trailing) → AllByRecursion FitsOn ms → AllByRecursion FitsOn (map (with_list l) ms)
  fits_listed l [] all = tt
  fits_listed l (m ∷ ms) all = (all.0, fits_listed l ms all.1)

  fits_arrived : (q : TrailPart) (a : Partial) (l : List RelId) (zs : List TrailPart) (f : Partial → List Trailing) → IsFit g (q ∷ zs) a → ((b : Partial) → IsFit g zs b → AllByRecursion FitsOn (f b))
      → AllByRecursion FitsOn (flat_map f (arrivals g q a (end_of g q.way (look a.nodes q.from) l)))
  fits_arrived q a l zs f fit on = at (end_of g q.way (look a.nodes q.from) l) refl
    where
      at : (o : Option NodeId) → end_of g q.way (look a.nodes q.from) l ≡ o → AllByRecursion FitsOn (flat_map f (arrivals g q a (end_of g q.way (look a.nodes q.from) l)))
      at None ends = subst (λ o. AllByRecursion FitsOn (flat_map f (arrivals g q a o))) (sym ends) tt
      at (Some n) ends = subst (λ o. AllByRecursion FitsOn (flat_map f (arrivals g q a o))) (sym ends) (to q.both (subst (IsFit g zs) (bound_is g q a l n ends) (fit_next g q a l n ends zs fit there)))
        where
          there : is_node g n ≡ true
          there = end_inside g valid q.way (look a.nodes q.from) (λ m is. look_node g a.nodes q.from m fit.nodes is) l n ends

          kept : (b : Bool) (x : Partial) → IsFit g zs x → AllByRecursion FitsOn (flat_map f (keep_if b x))
          kept true x e = all_joined FitsOn (f x) [] (on x e) tt
          kept false x e = tt

          to : (b : Bool) → IsFit g zs (if b then a else with_node q.to n a) → AllByRecursion FitsOn (flat_map f (arrive_at b g q a n))
          to true e = kept (at_same (look a.nodes q.to) (Some n)) a e
          to false e = kept (fits_end g q n) (with_node q.to n a) e

  fits_behind : (qs : List TrailPart) (a : Partial) (ws : List (ℕ × List RelId)) → IsFit g (qs ++ ps) a → AllByRecursion FitsOn (after_trails g patterns qs a ws)
  unfolding after_trails
  fits_behind [] a ws fit = (fit, tt)
  fits_behind (q ∷ qs) a ws fit =
      all_flat FitsOn (λ l. flat_map (λ b. map (with_list l) (after_trails g patterns qs b ((q.clause, l) ∷ ws))) (arrivals g q a (end_of g q.way (look a.nodes q.from) l)))
      (λ l. fits_arrived q a l (qs ++ ps) (λ b. map (with_list l) (after_trails g patterns qs b ((q.clause, l) ∷ ws))) fit
      (λ b e. fits_listed l (after_trails g patterns qs b ((q.clause, l) ∷ ws)) (fits_behind qs b ((q.clause, l) ∷ ws) e)))
      (walks_from g patterns q a ws)

can_each : (g : Graph) (nodes : ℕ) (ys : List TypedRel) (qs ps : List TrailPart) → length qs + length ys ≤ 24 → AllByRecursion (λ (p : TrailPart). p.to < nodes) ps → (ms : List Trailing)
    → AllByRecursion (λ (m : Trailing). IsFit g ps m.row) ms → AllByRecursion (CanGoFrom g nodes ys qs ps) ms
can_each g nodes ys qs ps few ends [] all = tt
can_each g nodes ys qs ps few ends (m ∷ ms) all = (record { few = few; ends = ends; fit = all.0 }, can_each g nodes ys qs ps few ends ms all.1)

front_all : {X : Type 0} (P : X → Type 0) (xs ys : List X) → AllByRecursion P (xs ++ ys) → AllByRecursion P xs
front_all P [] ys all = tt
front_all P (x ∷ xs) ys all = (all.0, front_all P xs ys all.1)

back_all : {X : Type 0} (P : X → Type 0) (xs ys : List X) → AllByRecursion P (xs ++ ys) → AllByRecursion P ys
back_all P [] ys all = all
back_all P (x ∷ xs) ys all = back_all P xs ys all.1

front_turns : (qs ps : List TrailPart) (known : ℕ → Bool) → AreInTurn (qs ++ ps) known → AreInTurn qs known
front_turns [] ps known t = tt
front_turns (q ∷ qs) ps known t = (t.0, t.1, front_turns qs ps (λ v. nat_eq v q.to || known v) t.2)

-- from a base row of which all trails can be walked, the first can
pub can_front : (g : Graph) (qs ps : List TrailPart) (base : Wide) → CanTrek g (qs ++ ps) base → CanTrek g qs base
can_front g qs ps base can = record {
  ends = front_all (λ (p : TrailPart). p.to < length base.nodes) qs ps can.ends;
  turns = front_turns qs ps (bound (partial_of base).nodes) can.turns;
  nodes = can.nodes;
}

module _ (ys : List TypedRel) (t u : Trekking) (es : List Ends) (base : Wide) (graph : u.graph ≡ t.graph) (walked : u.parts ≡ t.parts) (nodes : u.nodes ≡ t.nodes) (rels : u.rels ≡ t.rels)
    (can : CanTrek t.graph (t.parts ++ parts_in es) base) (owed : u.owed ≡ continuations t.graph t.parts ys base) where
  -- all rows behind all ways to walk the first are owed
  pub begun_owed : owed_behind ys false u es
      ≡ rows_reached t.graph (patterns_in ys base.rels) (λ b ws. rows_by_ends t.graph (used_in (patterns_in ys base.rels) ws) (parts_in es) b) t.parts (partial_of base) []
  begun_owed =
      (λ i. flat_map (rows_from_walks (graph i) ys (walked i) (parts_in es)) (owed i))
      ∙ (λ i. flat_map (rows_from_walks t.graph ys t.parts (parts_in es)) (after_trails t.graph (patterns_from 0 ys (λ x. sym (look_items base.rels x) i)) t.parts (partial_of base) []))
      ∙ rows_walked t.graph ys (parts_in es) (placed_from 0 base.rels) t.parts (partial_of base) [] refl
      ∙ (λ i. rows_reached t.graph (patterns_from 0 ys (λ x. look_items base.rels x i)) (λ b ws. rows_by_ends t.graph (used_in (patterns_from 0 ys (λ x. look_items base.rels x i)) ws) (parts_in es) b)
      t.parts (partial_of base) [])

  pub begun_chain : is_valid t.graph ≡ true → length base.nodes ≡ t.nodes → length (t.parts ++ parts_in es) + length ys ≤ 24 → 1 ≤ length es → AreOfOne t.graph t.nodes t.rels es → IsChainOf ys false u es
  begun_chain valid long few some all = record {
    some = some;
    all = all_by t.graph u.graph t.nodes u.nodes t.rels u.rels es (sym graph) (sym nodes) (sym rels) all;
    left = subst (AllByRecursion (CanGoFrom u.graph u.nodes ys u.parts (parts_in es))) (sym owed)
        (left_by t.graph u.graph t.nodes u.nodes ys t.parts u.parts (parts_in es) (parts_in es) (continuations t.graph t.parts ys base) (sym graph) (sym nodes) (sym walked) refl
        (can_each t.graph t.nodes ys t.parts (parts_in es) (let all_long = length-append t.parts (parts_in es) in omega (arith, few, all_long))
        (subst (λ k. AllByRecursion (λ (p : TrailPart). p.to < k) (parts_in es)) long (back_all (λ (p : TrailPart). p.to < length base.nodes) t.parts (parts_in es) can.ends))
        (continuations t.graph t.parts ys base)
        (fits_behind t.graph valid (patterns_in ys base.rels) (parts_in es) t.parts (partial_of base) [] (record { turns = can.turns; nodes = can.nodes }))));
    state = λ b. absurd (cc b);
  }
