-- Trails that are walked one after another give each assignment with its lists once.
use Rattle.std.proofs.Common.{◌≡◌, ℕ, ◌+◌, Bool, true, false, ◌&&◌, ◌||◌, cond, nat_eq, Option, Some, None, List, [], ◌∷◌, map, flat_map, slice_get, refl, sym, ap, ◌∙◌, add-zero, arith}
use Rattle.gq_base.specs.Plain.{Graph}
use Rattle.gq_base.specs.declared.NodeId.{NodeId}
use Rattle.gq_base.specs.declared.RelId.{RelId}
use Rattle.gq_plan.specs.Allowed.{at_same}
use Rattle.gq_plan.specs.Assignments.{Assignment, same_rel}
use Rattle.gq_plan.specs.Meaning.{Partial, keep_if, look, with_node}
use Rattle.gq_plan.specs.Counts.{bit, hits, total}
use Rattle.gq_plan.proofs.Counts.{total_map, total_flat_map, total_none, total_same, hits_at, hits_and_const, hits_const_and, cond_and}
use Rattle.std.specs.Cmp.Lexicographic.{pointwise}
use Rattle.gq_plan.proofs.Products.{same_list_is, same_rel_is}
use Rattle.gq_law_plans.specs.Bindings.{extends, bound}
use Rattle.gq_law_plans.proofs.Counting.{extends_with_node, node_look}
use Rattle.gq_law_plans.proofs.PlanCounts.{total_same_on}
use Rattle.gq_law_trails.specs.Trails.{after_trails, arrivals, arrive_at, fits_end, used_in, walks_from, with_list}
use Rattle.gq_law_trails.specs.Walks.{end_of, is_walk}
use Rattle.gq_plan.specs.declared.TrailPart.{TrailPart}
use Rattle.gq_law_trails.specs.Met.{AreOrdered, EndBound, TrailsWalkedFromEach, TrailsWalkedOnce, end_met, is_trailed, knows_more, trail_met, trails_met}
use Rattle.gq_law_trails.proofs.Once.{walks_once}

and_none : (b : Bool) → 0 ≡ bit (b && false)
and_none true = refl
and_none false = refl

and_one : (b : Bool) → bit (b && true) + 0 ≡ bit (b && true)
and_one b = add-zero _

swap_in : (e s m : Bool) → (e && (s && m)) ≡ (s && (e && m))
swap_in true s m = refl
swap_in false true m = refl
swap_in false false m = refl

total_keep : (f : Partial → ℕ) (b : Bool) (a : Partial) → total f (keep_if b a) ≡ cond b (f a) 0
total_keep f true a = add-zero _
total_keep f false a = refl

cond_off : (b m : Bool) → cond b (bit (false && m)) 0 ≡ bit (false && m)
cond_off true m = refl
cond_off false m = refl

-- extends E, at the end S, what the end is asked F, and the rest M
both_bits : (e s f m : Bool) → cond s (bit (e && m)) 0 ≡ bit ((e && (s && (true || f))) && m)
both_bits e s f m = grind arith

new_bits : (e s f m : Bool) → cond f (bit ((s && e) && m)) 0 ≡ bit ((e && (s && (false || f))) && m)
new_bits e s f m = grind arith

none_bits : (e m : Bool) → 0 ≡ bit ((e && false) && m)
none_bits true m = refl
none_bits false m = refl

-- extends E, a walk W, its end D, and the rest M
walk_bits : (e w d m : Bool) → cond ((e && d) && m) (bit w) 0 ≡ bit (e && ((w && d) && m))
walk_bits e w d m = grind arith

module _ (g : Graph) (patterns : ℕ → List RelId) (t : Assignment) where
  -- ---- the other end

  module _ (p : TrailPart) (a : Partial) (m : Bool) (f : Partial → ℕ) where
    arrive_both : (n : NodeId) → bound a.nodes p.to ≡ true → f a ≡ bit (extends a t && m)
        → total f (arrive_at true g p a n) ≡ bit ((extends a t && (at_same (slice_get t.nodes p.to) (Some n) && (true || fits_end g p n))) && m)
    arrive_both n there is = total_keep f (at_same (look a.nodes p.to) (Some n)) a ∙ ap (λ k. cond (at_same (look a.nodes p.to) (Some n)) k 0) is ∙ go (extends a t) refl
      where
        go : (e : Bool) → extends a t ≡ e → cond (at_same (look a.nodes p.to) (Some n)) (bit (e && m)) 0 ≡ bit ((e && (at_same (slice_get t.nodes p.to) (Some n) && (true || fits_end g p n))) && m)
        go true h = ap (λ o. cond (at_same o (Some n)) (bit (true && m)) 0) (node_look a t h p.to there) ∙ both_bits true (at_same (slice_get t.nodes p.to) (Some n)) (fits_end g p n) m
        go false h = cond_off (at_same (look a.nodes p.to) (Some n)) m

    arrive_new : (n : NodeId) → f (with_node p.to n a) ≡ bit (extends (with_node p.to n a) t && m)
        → total f (arrive_at false g p a n) ≡ bit ((extends a t && (at_same (slice_get t.nodes p.to) (Some n) && (false || fits_end g p n))) && m)
    arrive_new n is =
        total_keep f (fits_end g p n) (with_node p.to n a)
        ∙ ap (λ k. cond (fits_end g p n) k 0) (is ∙ ap (λ b. bit (b && m)) (extends_with_node p.to n a t))
        ∙ new_bits (extends a t) (at_same (slice_get t.nodes p.to) (Some n)) (fits_end g p n) m

    arrived : (k : ℕ → Bool) → EndBound p.both (bound a.nodes p.to) → ((b : Partial) → ((v : ℕ) → bound b.nodes v ≡ knows_more p.both p.to (bound a.nodes) v) → f b ≡ bit (extends b t && m))
        → (o : Option NodeId) → total f (arrivals g p a o) ≡ bit ((extends a t && end_met g p t o) && m)
    arrived k there is None = none_bits (extends a t) m
    arrived k there is (Some n) = go p.both there is
      where
        go : (c : Bool) → EndBound c (bound a.nodes p.to) → ((b : Partial) → ((v : ℕ) → bound b.nodes v ≡ knows_more c p.to (bound a.nodes) v) → f b ≡ bit (extends b t && m))
            → total f (arrive_at c g p a n) ≡ bit ((extends a t && (at_same (slice_get t.nodes p.to) (Some n) && (c || fits_end g p n))) && m)
        go true there is = arrive_both n there (is a (λ v. refl))
        go false there is = arrive_new n (is (with_node p.to n a) (λ v. refl))

  -- ---- all trails

  abbrev same_lists : List (List RelId) → List (List RelId) → Bool
  same_lists ls ms = pointwise (pointwise same_rel) ls ms

  walked : (ps : List TrailPart) (a : Partial) (ws : List (ℕ × List RelId)) (ls : List (List RelId)) (k : ℕ → Bool) → ((v : ℕ) → bound a.nodes v ≡ k v) → AreOrdered ps k
      → hits (is_trailed t ls) (after_trails g patterns ps a ws) ≡ bit (extends a t && trails_met g patterns ps t ws ls)
  unfolding after_trails
  walked [] a ws [] k same ordered = and_one (extends a t)
  walked [] a ws (l ∷ ls) k same ordered = add-zero _
  walked (p ∷ ps) a ws [] k same ordered =
      total_flat_map (λ m. bit (is_trailed t [] m)) (λ z. flat_map (λ b. map (with_list z) (after_trails g patterns ps b ((p.clause, z) ∷ ws))) (arrivals g p a (end_of g p.way (look a.nodes p.from) z))) (walks_from g patterns p a ws)
      ∙ total_none _
      (λ z. total_flat_map (λ m. bit (is_trailed t [] m)) (λ b. map (with_list z) (after_trails g patterns ps b ((p.clause, z) ∷ ws))) (arrivals g p a (end_of g p.way (look a.nodes p.from) z))
      ∙ total_none _
      (λ b. total_map (λ m. bit (is_trailed t [] m)) (with_list z) (after_trails g patterns ps b ((p.clause, z) ∷ ws))
      ∙ total_none _ (λ m. sym (and_none (extends m.row t))) (after_trails g patterns ps b ((p.clause, z) ∷ ws)))
      (arrivals g p a (end_of g p.way (look a.nodes p.from) z)))
      (walks_from g patterns p a ws)
      ∙ and_none (extends a t)
  walked (p ∷ ps) a ws (l ∷ ls) k same ordered =
      let from : Option NodeId = look a.nodes p.from in
      let used : List RelId = used_in patterns ws p.clause in
      let rest : List RelId → Bool = λ z. trails_met g patterns ps t ((p.clause, z) ∷ ws) ls in
      let meets : List RelId → Bool = λ z. (extends a t && end_met g p t (end_of g p.way from z)) && rest z in
      total_flat_map (λ m. bit (is_trailed t (l ∷ ls) m)) (λ z. flat_map (λ b. map (with_list z) (after_trails g patterns ps b ((p.clause, z) ∷ ws))) (arrivals g p a (end_of g p.way from z))) (walks_from g patterns p a ws)
      ∙ total_same _ (λ z. bit (pointwise same_rel l z && meets z))
      (λ z. total_flat_map (λ m. bit (is_trailed t (l ∷ ls) m)) (λ b. map (with_list z) (after_trails g patterns ps b ((p.clause, z) ∷ ws))) (arrivals g p a (end_of g p.way from z))
      ∙ total_same _ (λ b. cond (pointwise same_rel l z) (hits (is_trailed t ls) (after_trails g patterns ps b ((p.clause, z) ∷ ws))) 0)
      (λ b. total_map (λ m. bit (is_trailed t (l ∷ ls) m)) (with_list z) (after_trails g patterns ps b ((p.clause, z) ∷ ws))
      ∙ total_same _ _ (λ m. ap bit (swap_in (extends m.row t) (pointwise same_rel l z) (same_lists ls m.lists))) (after_trails g patterns ps b ((p.clause, z) ∷ ws))
      ∙ hits_const_and (pointwise same_rel l z) (is_trailed t ls) (after_trails g patterns ps b ((p.clause, z) ∷ ws)))
      (arrivals g p a (end_of g p.way from z))
      ∙ picked z (λ b h. walked ps b ((p.clause, z) ∷ ws) ls (knows_more p.both p.to k) h ordered.2) (pointwise same_rel l z) (end_of g p.way from z))
      (walks_from g patterns p a ws)
      ∙ hits_at (pointwise same_rel l) meets l (same_list_is same_rel same_rel_is l) (walks_from g patterns p a ws)
      ∙ ap (λ n. cond (meets l) n 0) (walks_once g p.kind p.way p.low p.high from used l)
      ∙ at_start (extends a t) refl (rest l)
    where
      more : (c : Bool) (v : ℕ) → knows_more c p.to (bound a.nodes) v ≡ knows_more c p.to k v
      more true v = same v
      more false v = ap (λ d. nat_eq v p.to || d) (same v)

      there : EndBound p.both (bound a.nodes p.to)
      there = go p.both ordered.1
        where
          go : (c : Bool) → EndBound c (k p.to) → EndBound c (bound a.nodes p.to)
          go true h = same p.to ∙ h
          go false h = tt

      counted : List RelId → Partial → ℕ
      counted z b = hits (is_trailed t ls) (after_trails g patterns ps b ((p.clause, z) ∷ ws))

      picked : (z : List RelId) → ((b : Partial) → ((v : ℕ) → bound b.nodes v ≡ knows_more p.both p.to k v) → counted z b ≡ bit (extends b t && trails_met g patterns ps t ((p.clause, z) ∷ ws) ls))
          → (s : Bool) (o : Option NodeId)
          → total (λ b. cond s (counted z b) 0) (arrivals g p a o)
          ≡ bit (s && ((extends a t && end_met g p t o) && trails_met g patterns ps t ((p.clause, z) ∷ ws) ls))
      picked z next true o =
          arrived p a (trails_met g patterns ps t ((p.clause, z) ∷ ws) ls) (counted z) k there (λ b h. next b (λ v. h v ∙ more p.both v)) o
      picked z next false o = total_none _ (λ b. refl) (arrivals g p a o)

      at_start : (e : Bool) → extends a t ≡ e → (m : Bool)
          → cond ((e && end_met g p t (end_of g p.way (look a.nodes p.from) l)) && m) (bit (is_walk g p.kind p.way p.low p.high (look a.nodes p.from) (used_in patterns ws p.clause) l)) 0
          ≡ bit (e && (trail_met g patterns p t ws l && m))
      at_start false h m = refl
      at_start true h m =
          ap (λ o. cond ((true && end_met g p t (end_of g p.way o l)) && m) (bit (is_walk g p.kind p.way p.low p.high o (used_in patterns ws p.clause) l)) 0) (node_look a t h p.from (same p.from ∙ ordered.0))
          ∙ walk_bits true (is_walk g p.kind p.way p.low p.high (slice_get t.nodes p.from) (used_in patterns ws p.clause) l) (end_met g p t (end_of g p.way (slice_get t.nodes p.from) l)) m

pub trails_walked : TrailsWalkedOnce
trails_walked g patterns ps a ws t ls ordered = walked g patterns t ps a ws ls (bound a.nodes) (λ v. refl) ordered

-- ---- from several beginnings

same_met : (e : Bool) (m n : Bool) → (e ≡ true → m ≡ n) → bit (e && m) ≡ bit (e && n)
same_met true m n h = ap bit (h refl)
same_met false m n h = refl

pub trails_from_each : TrailsWalkedFromEach
trails_from_each g patterns ps begins t ls of_t passes are once =
    let met : Bool = trails_met g of_t ps t [] ls in
    total_flat_map (λ m. bit (is_trailed t ls m)) (λ a. after_trails g (patterns a) ps a []) begins
    ∙ total_same_on (λ a. AreOrdered ps (bound a.nodes) × (extends a t ≡ true → patterns a ≡ of_t)) _ (λ a. bit (extends a t && met))
    (λ a h. trails_walked g (patterns a) ps a [] t ls h.0 ∙ same_met (extends a t) (trails_met g (patterns a) ps t [] ls) met (λ e. ap (λ k. trails_met g k ps t [] ls) (h.1 e))) begins are
    ∙ hits_and_const (λ a. extends a t) met begins
    ∙ ap (λ n. cond met n 0) once
    ∙ cond_and passes met
