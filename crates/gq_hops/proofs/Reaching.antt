-- Breadth-first search meets the nodes to which relationships lead, each once.
use Rattle.std.proofs.Common.{◌≡◌, ℕ, zero, suc, ◌+◌, ◌-◌, ◌<◌, ◌≤◌, Bool, true, false, not, ◌&&◌, ◌||◌, Option, Some, None, List, [], ◌∷◌, ◌++◌, take, drop, length, get_or, refl, sym, ap, ap₂, ◌∙◌, subst, arith, true≢false, append_assoc, append-nil}
use Rattle.std.specs.Prelude.{if◌then◌else◌}
use Rattle.std.specs.List.{list_any}
use Rattle.std.proofs.lemmas.List.{take-append-drop}
use Rattle.std.proofs.lemmas.List.Folds.{list_any-append}
use Rattle.gq_base.specs.Lists.{all_distinct}
use Rattle.gq_base.specs.Plain.{Graph}
use Rattle.gq_base.specs.declared.NodeId.{NodeId}
use Rattle.gq_base.specs.declared.RelId.{RelId}
use Rattle.gq_base.specs.declared.direction.Direction.{Direction}
use Rattle.gq_plan.specs.Allowed.{at_same}
use Rattle.gq_plan.specs.Assignments.{all_rels, is_node, same_node, same_rel}
use Rattle.gq_plan.specs.Meaning.{far}
use Rattle.gq_plan.proofs.Each.{each_append}
use Rattle.gq_law_ends.specs.Leading.{leads_to}
use Rattle.gq_law_ends.specs.Levels.{steps_to}
use Rattle.gq_law_ends.specs.Reaching.{AreLedTo}
use Rattle.gq_law_ends.proofs.Levels.{one_leads, one_more_leads}
use Rattle.gq_law_ends.proofs.Reaching.{node_is, node_turn}
use Rattle.gq_marks.proofs.Nodes.{any_pushed, distinct_more, or_none}
use Rattle.gq_hops.specs.Law.{SpreadsAsLed}
use Rattle.gq_hops.specs.Levels.{ends_met, is_met, met_all, spread_each, spread_levels, spread_over, with_end}
use Rattle.gq_hops.specs.declared.follow.Follow.{Follow}
use Rattle.gq_hops.specs.declared.follow.Hop.{Hop}
use Rattle.gq_hops.specs.declared.follow.Frame.{Frame as At}
use Rattle.gq_hops.specs.declared.follow.Met.{Met}
use Rattle.gq_hops.specs.steps.Hops.{IsHop, IsMetNext, left_of}
use Rattle.gq_hops.specs.steps.Sizes.{AreNodes}
use Rattle.gq_marks.specs.Visiting.{with_node}
use Rattle.gq_law_ends.proofs.Leading.{any_filter}

or_first : (a b : Bool) → a ≡ true → (a || b) ≡ true
or_first a b h = ap (λ c. c || b) h

or_second : (a b : Bool) → b ≡ true → (a || b) ≡ true
or_second true b h = refl
or_second false b h = h

or_three : (a b c : Bool) → ((a || b) || c) ≡ (a || (b || c))
or_three true b c = refl
or_three false b c = refl

-- ---- a longer list begins with what was met

pub record Longer (old new : List NodeId) : Type 0 where
  pub more : List NodeId
  pub is : new ≡ old ++ more

pub longer_both : (a b c : List NodeId) → Longer a b → Longer b c → Longer a c
longer_both a b c h k = record { more = h.more ++ k.more; is = k.is ∙ ap (λ l. l ++ k.more) h.is ∙ append_assoc a h.more k.more }

pub longer_same : (a : List NodeId) → Longer a a
longer_same a = record { more = []; is = sym (append-nil a) }

pub there_longer : (n : NodeId) (old new : List NodeId) → Longer old new → list_any (same_node n) old ≡ true → list_any (same_node n) new ≡ true
there_longer n old new l h = ap (list_any (same_node n)) l.is ∙ list_any-append (same_node n) old l.more ∙ or_first (list_any (same_node n) old) (list_any (same_node n) l.more) h

pub drop_at : (xs : List NodeId) (i : ℕ) (d : NodeId) → i < length xs → drop i xs ≡ get_or xs i d ∷ drop (i + 1) xs
drop_at [] i d low = absurd (omega (arith, low))
drop_at (x ∷ xs) zero d low = refl
drop_at (x ∷ xs) (suc i) d low = drop_at xs i d (omega (arith, low)) ∙ ap (λ j. get_or xs i d ∷ drop j (x ∷ xs)) (one_more i)
  where
    one_more : (i : ℕ) → suc (i + 1) ≡ suc i + 1
    one_more i = omega arith

-- ---- what spreading meets

module _ (g : Graph) (kind : List ℕ) (way : Direction) (used : List RelId) where
  abbrev leads : ℕ → NodeId → NodeId → Bool
  leads high at n = leads_to g kind way used high (Some at) n

  abbrev steps : NodeId → NodeId → Bool
  steps at n = steps_to g kind way used (Some at) n

  abbrev met : NodeId → List RelId
  met at = met_all g kind way (Some at)

  abbrev ends_at : NodeId → RelId → Bool
  ends_at j r = not (list_any (same_rel r) used) && at_same (far g way r) (Some j)

  any_with : (j n : NodeId) (ns : List NodeId) (b : Bool) → list_any (same_node n) ns ≡ b → list_any (same_node j) (if b then ns else ns ++ n ∷ []) ≡ (list_any (same_node j) ns || same_node n j)
  any_with j n ns false e = any_pushed j n ns ∙ ap (λ b. list_any (same_node j) ns || b) (node_turn j n)
  any_with j n ns true e = go (same_node n j) refl
    where
      go : (b : Bool) → same_node n j ≡ b → list_any (same_node j) ns ≡ (list_any (same_node j) ns || b)
      go false h = or_none (list_any (same_node j) ns)
      go true h = let k : list_any (same_node j) ns ≡ true = ap (λ i. list_any (same_node i) ns) (sym (node_is n j h)) ∙ e in k ∙ sym (or_first (list_any (same_node j) ns) true k)

  any_ended : (j : NodeId) (ns : List NodeId) (o : Option NodeId) → list_any (same_node j) (with_end ns o) ≡ (list_any (same_node j) ns || at_same o (Some j))
  any_ended j ns None = or_none (list_any (same_node j) ns)
  any_ended j ns (Some n) = any_with j n ns (list_any (same_node n) ns) refl

  any_met : (j : NodeId) (ns : List NodeId) (o : Option NodeId) (u : Bool) → list_any (same_node j) (if u then ns else with_end ns o) ≡ (list_any (same_node j) ns || (not u && at_same o (Some j)))
  any_met j ns o true = or_none (list_any (same_node j) ns)
  any_met j ns o false = any_ended j ns o

  any_over : (j : NodeId) (ns : List NodeId) (rs : List RelId) → list_any (same_node j) (spread_over g way used ns rs) ≡ (list_any (same_node j) ns || list_any (ends_at j) rs)
  any_over j ns [] = or_none (list_any (same_node j) ns)
  any_over j ns (r ∷ rs) =
      any_over j (if list_any (same_rel r) used then ns else with_end ns (far g way r)) rs
      ∙ ap (λ b. b || list_any (ends_at j) rs) (any_met j ns (far g way r) (list_any (same_rel r) used))
      ∙ or_three (list_any (same_node j) ns) (ends_at j r) (list_any (ends_at j) rs)

  and_three : (a b c : Bool) → (a && (b && c)) ≡ ((a && b) && c)
  and_three true b c = refl
  and_three false b c = refl

  -- the relationships that are met at a node are those that may follow, but for the used ones
  steps_are : (at j : NodeId) → list_any (ends_at j) (met at) ≡ steps at j
  steps_are at j =
      any_filter (ends_at j) (is_met g kind way (Some at)) (all_rels g)
      ∙ ap (λ f. list_any f (all_rels g)) (λ i r. and_three (is_met g kind way (Some at) r) (not (list_any (same_rel r) used)) (at_same (far g way r) (Some j)) i)

  any_at : (j : NodeId) (ns : List NodeId) (at : NodeId) → list_any (same_node j) (spread_over g way used ns (met at)) ≡ (list_any (same_node j) ns || steps at j)
  any_at j ns at = any_over j ns (met at) ∙ ap (λ b. list_any (same_node j) ns || b) (steps_are at j)

  any_each : (j : NodeId) (ns ats : List NodeId) → list_any (same_node j) (spread_each g kind way used ns ats) ≡ (list_any (same_node j) ns || list_any (λ m. steps m j) ats)
  any_each j ns [] = or_none (list_any (same_node j) ns)
  any_each j ns (at ∷ ats) =
      any_each j (spread_over g way used ns (met at)) ats
      ∙ ap (λ b. b || list_any (λ m. steps m j) ats) (any_at j ns at)
      ∙ or_three (list_any (same_node j) ns) (steps at j) (list_any (λ m. steps m j) ats)

  distinct_with : (n : NodeId) (ns : List NodeId) (b : Bool) → list_any (same_node n) ns ≡ b → all_distinct same_node ns ≡ true → all_distinct same_node (if b then ns else ns ++ n ∷ []) ≡ true
  distinct_with n ns true e d = d
  distinct_with n ns false e d = distinct_more ns n d e

  distinct_met : (ns : List NodeId) (o : Option NodeId) (u : Bool) → all_distinct same_node ns ≡ true → all_distinct same_node (if u then ns else with_end ns o) ≡ true
  distinct_met ns o true d = d
  distinct_met ns None false d = d
  distinct_met ns (Some n) false d = distinct_with n ns (list_any (same_node n) ns) refl d

  distinct_over : (ns : List NodeId) (rs : List RelId) → all_distinct same_node ns ≡ true → all_distinct same_node (spread_over g way used ns rs) ≡ true
  distinct_over ns [] d = d
  distinct_over ns (r ∷ rs) d = distinct_over (if list_any (same_rel r) used then ns else with_end ns (far g way r)) rs (distinct_met ns (far g way r) (list_any (same_rel r) used) d)

  distinct_each : (ns ats : List NodeId) → all_distinct same_node ns ≡ true → all_distinct same_node (spread_each g kind way used ns ats) ≡ true
  distinct_each ns [] d = d
  distinct_each ns (at ∷ ats) d = distinct_each (spread_over g way used ns (met at)) ats (distinct_over ns (met at) d)

  longer_met : (ns : List NodeId) (o : Option NodeId) (u : Bool) → Longer ns (if u then ns else with_end ns o)
  longer_met ns o true = longer_same ns
  longer_met ns None false = longer_same ns
  longer_met ns (Some n) false = go (list_any (same_node n) ns)
    where
      go : (b : Bool) → Longer ns (if b then ns else ns ++ n ∷ [])
      go true = longer_same ns
      go false = record { more = n ∷ []; is = refl }

  pub longer_over : (ns : List NodeId) (rs : List RelId) → Longer ns (spread_over g way used ns rs)
  longer_over ns [] = longer_same ns
  longer_over ns (r ∷ rs) =
      longer_both ns (if list_any (same_rel r) used then ns else with_end ns (far g way r)) (spread_over g way used (if list_any (same_rel r) used then ns else with_end ns (far g way r)) rs)
      (longer_met ns (far g way r) (list_any (same_rel r) used)) (longer_over (if list_any (same_rel r) used then ns else with_end ns (far g way r)) rs)

  pub longer_each : (ns ats : List NodeId) → Longer ns (spread_each g kind way used ns ats)
  longer_each ns [] = longer_same ns
  longer_each ns (at ∷ ats) =
      longer_both ns (spread_over g way used ns (met at)) (spread_each g kind way used (spread_over g way used ns (met at)) ats)
      (longer_over ns (met at)) (longer_each (spread_over g way used ns (met at)) ats)

  pub longer_levels : (high next : ℕ) (ns : List NodeId) → Longer ns (spread_levels g kind way used high next ns)
  longer_levels zero next ns = longer_same ns
  longer_levels (suc high) next ns =
      let mid = spread_each g kind way used ns (drop next ns) in
      longer_both ns mid (spread_levels g kind way used high (length ns) mid) (longer_each ns (drop next ns)) (longer_levels high (length ns) mid)

  -- ---- levels

  -- where one of so many levels is spread, one less is left
  pub next_levels : (high level next stop : ℕ) (mid new : List NodeId) → level < high → stop ≡ length mid → new ≡ spread_each g kind way used mid (drop next mid)
      → spread_levels g kind way used (high - (level + 1)) stop new ≡ spread_levels g kind way used (high - level) next mid
  next_levels high level next stop mid new low at spread =
      let left : high - level ≡ suc (high - (level + 1)) = omega (arith, low) in
      ap₂ (spread_levels g kind way used (high - (level + 1))) at spread ∙ ap (λ k. spread_levels g kind way used k next mid) (sym left)

  -- these are the nodes to which so many lead, and from the first of them all was tried
  record Frame (high : ℕ) (at : NodeId) (next : ℕ) (ns : List NodeId) : Type 0 where
    pub distinct : all_distinct same_node ns ≡ true
    pub all : (n : NodeId) → list_any (same_node n) ns ≡ leads (suc high) at n
    pub tried : (n : NodeId) → list_any (λ m. steps m n) (take next ns) ≡ true → list_any (same_node n) ns ≡ true

  take_whole : (xs ys : List NodeId) → take (length xs) (xs ++ ys) ≡ xs
  take_whole [] ys = refl
  take_whole (x ∷ xs) ys = ap (λ l. x ∷ l) (take_whole xs ys)

  absorbed : (a t d : Bool) → (t ≡ true → a ≡ true) → (a || d) ≡ (a || (t || d))
  absorbed true t d h = refl
  absorbed false false d h = refl
  absorbed false true d h = absurd (true≢false (sym (h refl)))

  met_whole : (next : ℕ) (ns : List NodeId) (n : NodeId) → (list_any (λ m. steps m n) (take next ns) ≡ true → list_any (same_node n) ns ≡ true)
      → list_any (same_node n) (spread_each g kind way used ns (drop next ns)) ≡ (list_any (same_node n) ns || list_any (λ m. steps m n) ns)
  met_whole next ns n tried =
      any_each n ns (drop next ns)
      ∙ absorbed (list_any (same_node n) ns) (list_any (λ m. steps m n) (take next ns)) (list_any (λ m. steps m n) (drop next ns)) tried
      ∙ ap (λ b. list_any (same_node n) ns || b) (sym (list_any-append (λ m. steps m n) (take next ns) (drop next ns)) ∙ ap (list_any (λ m. steps m n)) (take-append-drop next ns))

  next_level : (high : ℕ) (at : NodeId) (next : ℕ) (ns : List NodeId) → Frame high at next ns → Frame (suc high) at (length ns) (spread_each g kind way used ns (drop next ns))
  next_level high at next ns l =
      let longer = longer_each ns (drop next ns) in
      record {
        distinct = distinct_each ns (drop next ns) l.distinct;
        all = λ n. met_whole next ns n (l.tried n) ∙ sym (one_more_leads g kind way used (suc high) (Some at) ns n (omega arith) l.all);
        tried = λ n h. met_whole next ns n (l.tried n)
            ∙ or_second (list_any (same_node n) ns) (list_any (λ m. steps m n) ns) (ap (list_any (λ m. steps m n)) (sym (ap (take (length ns)) longer.is ∙ take_whole ns longer.more)) ∙ h);
      }

  levels : (more high : ℕ) (at : NodeId) (next : ℕ) (ns : List NodeId) → Frame high at next ns → AreLedTo g kind way used (suc (high + more)) (Some at) (spread_levels g kind way used more next ns)
  levels zero high at next ns l = subst (λ k. AreLedTo g kind way used (suc k) (Some at) ns) (same high) (record { distinct = l.distinct; all = l.all })
    where
      same : (k : ℕ) → k ≡ k + 0
      same k = omega arith
  levels (suc more) high at next ns l =
      subst (λ k. AreLedTo g kind way used (suc k) (Some at) (spread_levels g kind way used more (length ns) (spread_each g kind way used ns (drop next ns)))) (same high more)
      (levels more (suc high) at (length ns) (spread_each g kind way used ns (drop next ns)) (next_level high at next ns l))
    where
      same : (k m : ℕ) → suc k + m ≡ k + suc m
      same k m = omega arith

  first_level : (at : NodeId) → Frame 0 at 0 (spread_over g way used [] (met at))
  first_level at = record {
    distinct = distinct_over [] (met at) refl;
    all = λ n. any_at n [] at ∙ sym (one_leads g kind way used (Some at) n);
    tried = λ n h. absurd (true≢false (sym h));
  }

  pub led_to : (high : ℕ) (at : NodeId) → 1 ≤ high → AreLedTo g kind way used high (Some at) (spread_levels g kind way used (high - 1) 0 (spread_over g way used [] (met at)))
  led_to high at some =
      subst (λ k. AreLedTo g kind way used k (Some at) (spread_levels g kind way used (high - 1) 0 (spread_over g way used [] (met at)))) (same high some)
      (levels (high - 1) 0 at 0 (spread_over g way used [] (met at)) (first_level at))
    where
      same : (k : ℕ) → 1 ≤ k → suc (0 + (k - 1)) ≡ k
      same k h = omega (arith, h)

pub spreads_as_led : SpreadsAsLed
unfolding ends_met
spreads_as_led g kind way used high at some = led_to g kind way used high at some

-- ---- one relationship at a node

-- a relationship that stands at one place is one
pub same_hop : (f : Follow) (m : Met) (h k : Hop) → IsHop f m h → IsHop f m k → h.rel ≡ k.rel
same_hop f m h k a b =
    let row : h.rel.row ≡ k.rel.row = cc (sym a.number ∙ b.number) in
    λ i. record { table = (a.table ∙ sym b.table) i; row = row i }

-- none is used, or one that stands there is asked
pub none_used : (r : RelId) (used : List RelId) → used ≡ [] → false ≡ list_any (same_rel r) used
none_used r used none = ap (list_any (same_rel r)) (sym none)

-- a relationship that is used is passed, and another meets the node to which it leads
over_next : (g : Graph) (way : Direction) (used : List RelId) (ns : List NodeId) (r : RelId) (rs : List RelId) (n : NodeId) → far g way r ≡ Some n
    → spread_over g way used ns (r ∷ rs) ≡ spread_over g way used (if list_any (same_rel r) used then ns else with_node ns n) rs
over_next g way used ns r rs n leads = ap (λ o. spread_over g way used (if list_any (same_rel r) used then ns else with_end ns o) rs) leads

-- what a level meets next is passed where it is used, and else its node is met
pub passed_by : (f : Follow) (used : List RelId) (ns : List NodeId) {old new : At} (m : Met) (next : IsMetNext f old new m)
    → spread_over f.graph.now f.way used (if list_any (same_rel next.hop.rel) used then ns else with_node ns m.node) (left_of f new) ≡ spread_over f.graph.now f.way used ns (left_of f old)
passed_by f used ns {old} {new} m next =
    sym (over_next f.graph.now f.way used ns next.hop.rel (left_of f new) m.node (next.first.leads ∙ ap Some next.is.node))
    ∙ ap (spread_over f.graph.now f.way used ns) (sym next.first.left)

-- one more node of the graph is met, or none
pub nodes_more : (g : Graph) (ns : List NodeId) (n : NodeId) → is_node g n ≡ true → AreNodes g ns → AreNodes g (with_node ns n)
nodes_more g ns n there are = go (list_any (same_node n) ns)
  where
    go : (b : Bool) → AreNodes g (if b then ns else ns ++ n ∷ [])
    go true = are
    go false = each_append (λ m. is_node g m ≡ true) ns (n ∷ []) are (there, tt)

-- ---- a list from a place on

abbrev none_met : List NodeId
none_met = []

one_after : (i : ℕ) → suc i + 1 ≡ suc (i + 1)
one_after i = omega arith

pub drop_more : (n : ℕ) (xs : List NodeId) → drop (n + 1) xs ≡ drop 1 (drop n xs)
drop_more zero xs = refl
drop_more (suc n) [] = ap (λ k. drop k none_met) (one_after n)
drop_more (suc n) (x ∷ xs) = ap (λ k. drop k (x ∷ xs)) (one_after n) ∙ drop_more n xs
