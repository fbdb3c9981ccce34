use Rattle.std.proofs.Common.{◌≡◌, ℕ, ◌<◌, ◌≤◌, ◌+◌, ◌∷◌, true, false, not, ◌||◌, length, get_or, drop, sym, ap, ◌∙◌, subst, arith}
use Rattle.std.specs.Prelude.{count_by}
use Rattle.std.specs.List.{AllByRecursion, list_any}
use Rattle.std.proofs.Math.ListN.{set}
use Rattle.std.proofs.lemmas.Bool.{and_parts}
use Rattle.std.proofs.lemmas.List.{length-set}
use Rattle.std.proofs.lemmas.List.Sums.{count_by-le-length}
use Rattle.gq_base.specs.Lists.{all_distinct}
use Rattle.gq_base.specs.declared.NodeId.{NodeId as Node}
use Rattle.gq_plan.specs.Assignments.{same_node}
use Rattle.gq_marks.proofs.Nodes.{node_itself}
use Rattle.gq_marks.specs.Insides.{IsVisiting, is_set, visited_in}
use Rattle.gq_marks.specs.Places.{IsWithin, place_in}
use Rattle.gq_marks.specs.declared.visited.Visited.TheInside.{Inside}
use Rattle.gq_marks.proofs.Visits.{distinct_drop, each_drop, node_at, set_less, told_less}
use Rattle.gq_marks.proofs.Places.{place_low}
use Rattle.gq_marks.proofs.visited.Visited.clear.Goals as goal

-- the node at a place among those that were met
record IsAt (m : Inside) (i : ℕ) (n : Node) : Type 0 where
  pub rest : drop i (visited_in m) ≡ n ∷ drop (i + 1) (visited_in m)
  pub within : IsWithin m.sizes.items n
  pub apart : not (list_any (same_node n) (drop (i + 1) (visited_in m))) ≡ true

is_at : (m : Inside) (i : ℕ) (n : Node) → IsVisiting m → i < m.count → n ≡ get_or m.nodes.items i n → IsAt m i n
is_at m i n h low e =
    let most = count_by-le-length is_set m.marks.items in
    let room = h.room in
    let marks = h.marks in
    let count = h.count in
    let long : m.count ≤ length m.nodes.items = omega (arith, most, room, marks, count) in
    let rest : drop i (visited_in m) ≡ n ∷ drop (i + 1) (visited_in m) = node_at m.nodes.items m.count i n low long ∙ ap (λ k. k ∷ drop (i + 1) (visited_in m)) (sym e) in
    record {
      rest = rest;
      within = (subst (AllByRecursion (IsWithin m.sizes.items)) rest (each_drop (IsWithin m.sizes.items) (visited_in m) i h.within)).0;
      apart = (and_parts (not (list_any (same_node n) (drop (i + 1) (visited_in m)))) (all_distinct same_node (drop (i + 1) (visited_in m)))
          (subst (λ xs. all_distinct same_node xs ≡ true) rest (distinct_drop (visited_in m) i h.distinct))).0;
    }

counted : (a b i n : ℕ) → a + 1 ≡ b → b + i ≡ n → a + (i + 1) ≡ n
counted a b i n e f = omega (arith, e, f)

pub loop-at-preserved : goal.loop-at-preserved
loop-at-preserved c =
    let m = c.self.inside in
    let i = c.loop-at.at in
    let n = c.index.result.now in
    let inv = c.loop-at.invariant in
    let h = c.self.invariant in
    let at = is_at m i n h c.loop-at-test.true (c.index.ensures ∙ ap (λ ns. get_or ns i n) inv.nodes) in
    let marks = c.loop-at.self-inside.marks.items in
    let p = place_in m.sizes.items n.table n.row in
    let is : c.place_of-place.result ≡ p = c.place_of-place.ensures.place ∙ ap (λ l. place_in l n.table n.row) (c.deref-in-loop-at.ensures.value ∙ inv.sizes) in
    let low : p < length marks = subst (λ k. p < k) (sym (inv.long ∙ h.marks)) (place_low m.sizes.items n.table n.row at.within) in
    let tell : (j : Node) → IsWithin m.sizes.items j → get_or marks (place_in m.sizes.items j.table j.row) false ≡ list_any (same_node j) (n ∷ drop (i + 1) (visited_in m)) =
    subst (λ xs. (j : Node) → IsWithin m.sizes.items j → get_or marks (place_in m.sizes.items j.table j.row) false ≡ list_any (same_node j) xs) at.rest inv.tell in
    let on : get_or marks p false ≡ true = tell n at.within ∙ ap (λ b. b || list_any (same_node n) (drop (i + 1) (visited_in m))) (node_itself n) in
    let less = set_less marks p low on in
    let count = inv.count in
    let same : set marks c.place_of-place.result false ≡ set marks p false = ap (λ k. set marks k false) is in
    record {
      nodes = inv.nodes;
      sizes = inv.sizes;
      starts = inv.starts;
      long = length-set marks c.place_of-place.result false ∙ inv.long;
      tell = λ j there. ap (λ ms. get_or ms (place_in m.sizes.items j.table j.row) false) same ∙ told_less m.sizes.items marks n (drop (i + 1) (visited_in m)) at.within low at.apart tell j there;
      count = ap (λ ms. count_by is_set ms + (i + 1)) same ∙ counted (count_by is_set (set marks p false)) (count_by is_set marks) i m.count less count;
    }
