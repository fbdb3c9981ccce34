use Rattle.std.proofs.Common.{◌≡◌, ℕ, ◌<◌, ◌+◌, ◌++◌, ◌∷◌, Bool, List, [], true, false, length, get_or, take, sym, ap, ◌∙◌, subst, arith}
use Rattle.std.specs.Prelude.{if◌then◌else◌}
use Rattle.std.specs.List.{AllByRecursion, list_any}
use Rattle.std.specs.Vec.{with_item}
use Rattle.std.proofs.Math.ListN.{set}
use Rattle.std.proofs.lemmas.List.{length-set, take_more_set}
use Rattle.gq_base.specs.Lists.{all_distinct}
use Rattle.gq_base.specs.declared.NodeId.{NodeId as Node}
use Rattle.gq_plan.specs.Assignments.{same_node}
use Rattle.gq_marks.specs.Insides.{IsVisiting, visiting_of, visited_in}
use Rattle.gq_marks.specs.Visiting.{Visiting, with_visit}
use Rattle.gq_marks.specs.Places.{IsWithin, place_in}
use Rattle.gq_marks.specs.declared.visited.Visited.TheInside.{Inside}
use Rattle.gq_marks.proofs.Visits.{each_pushed, room_left, set_more, told_more}
use Rattle.gq_marks.proofs.Places.{place_low}
use Rattle.gq_marks.proofs.Nodes.{distinct_more}
use Rattle.gq_marks.proofs.visited.Visited.visit.Goals as goal

abbrev place : Inside → Node → ℕ
place m n = place_in m.sizes.items n.table n.row

-- a node that was not met
record IsNew (m : Inside) (n : Node) : Type 0 where
  pub within : IsWithin m.sizes.items n
  pub low : place m n < length m.marks.items
  pub off : get_or m.marks.items (place m n) false ≡ false
  pub room : m.count < length m.nodes.items
  pub taken : take (m.count + 1) (set m.nodes.items m.count n) ≡ visited_in m ++ n ∷ []

is_new : (m : Inside) (n : Node) → IsVisiting m → IsWithin m.sizes.items n → get_or m.marks.items (place m n) false ≡ false → IsNew m n
is_new m n h within off =
    let low : place m n < length m.marks.items = subst (λ k. place m n < k) (sym h.marks) (place_low m.sizes.items n.table n.row within) in
    let less = room_left m.marks.items (place m n) low off in
    let room = h.room in
    let marks = h.marks in
    let count = h.count in
    let here : m.count < length m.nodes.items = omega (arith, less, room, marks, count) in
    record { within = within; low = low; off = off; room = here; taken = take_more_set m.nodes.items m.count n here }

off_mark : (ms : List Bool) (n : ℕ) (b : Bool) → b ≡ get_or ms n b → b ≡ false → get_or ms n false ≡ false
off_mark ms n b k h = ap (λ d. get_or ms n d) (sym h) ∙ sym k ∙ h

-- the node of the call is such a one
found : (m : Inside) (old : Visiting) (n : Node) (p : ℕ) (sizes : List ℕ) (b : Bool) → IsVisiting m → visiting_of m ≡ old → IsWithin old.sizes n
    → sizes ≡ m.sizes.items → p ≡ place_in sizes n.table n.row → b ≡ get_or m.marks.items p b → b ≡ false → IsNew m n
found m old n p sizes b h view within same is mark off =
    is_new m n h (subst (λ (s : Visiting). IsWithin s.sizes n) (sym view) within)
    (subst (λ k. get_or m.marks.items k false ≡ false) (is ∙ ap (λ l. place_in l n.table n.row) same) (off_mark m.marks.items p b mark off))

pub index_mut-requires-then-not-index : goal.index_mut-requires-then-not-index
index_mut-requires-then-not-index c =
    let m = c.self.inside in
    subst (λ k. m.count < k) (sym m.nodes.ok.0)
    (found m c.args.self.now c.args.node c.place_of-place.result c.deref-2.result.now c.index.result.now c.self.invariant c.self.view_is c.requires c.deref-2.ensures.value c.place_of-place.ensures.place c.index.ensures c.if-not-index.true).room

pub invariant_of-self : goal.invariant_of-self
invariant_of-self c =
    let m = c.self.inside in
    let n = c.args.node in
    let h = c.self.invariant in
    let new = found m c.args.self.now n c.place_of-place.result c.deref-2.result.now c.index.result.now h c.self.view_is c.requires c.deref-2.ensures.value c.place_of-place.ensures.place c.index.ensures c.if-not-index.true in
    let p = place m n in
    let is : c.place_of-place.result ≡ p = c.place_of-place.ensures.place ∙ ap (λ l. place_in l n.table n.row) c.deref-2.ensures.value in
    let marks = set m.marks.items p true in
    let long : length marks ≡ length m.marks.items = length-set m.marks.items p true in
    subst (λ k. IsVisiting (record { sizes = m.sizes; starts = m.starts; marks = with_item m.marks k true; nodes = with_item m.nodes m.count n; count = m.count + 1 })) (sym is)
    (record {
      starts = h.starts;
      marks = long ∙ h.marks;
      room = length-set m.nodes.items m.count n ∙ h.room;
      few = h.few;
      count = ap (λ k. k + 1) h.count ∙ sym (set_more m.marks.items p new.low new.off);
      tell = subst (λ xs. (j : Node) → IsWithin m.sizes.items j → get_or marks (place_in m.sizes.items j.table j.row) false ≡ list_any (same_node j) xs) (sym new.taken)
          (told_more m.sizes.items m.marks.items (visited_in m) n new.within new.low h.tell);
      distinct = subst (λ xs. all_distinct same_node xs ≡ true) (sym new.taken) (distinct_more (visited_in m) n h.distinct (sym (h.tell n new.within) ∙ new.off));
      within = subst (AllByRecursion (IsWithin m.sizes.items)) (sym new.taken) (each_pushed (IsWithin m.sizes.items) (visited_in m) n h.within new.within);
    })

pub returns-then-not-index : goal.returns-then-not-index
returns-then-not-index c =
    let m = c.self.inside in
    let n = c.args.node in
    let h = c.self.invariant in
    let new = found m c.args.self.now n c.place_of-place.result c.deref-2.result.now c.index.result.now h c.self.view_is c.requires c.deref-2.ensures.value c.place_of-place.ensures.place c.index.ensures c.if-not-index.true in
    let known : list_any (same_node n) (visited_in m) ≡ false = sym (h.tell n new.within) ∙ new.off in
    let nodes : take (m.count + 1) (set m.nodes.items m.count n) ≡ (if list_any (same_node n) (visited_in m) then visited_in m else visited_in m ++ n ∷ []) =
    new.taken ∙ ap (λ b. if b then visited_in m else visited_in m ++ n ∷ []) (sym known) in
    let whole : visiting_of (record { sizes = m.sizes; starts = m.starts; marks = with_item m.marks c.place_of-place.result true; nodes = with_item m.nodes m.count n; count = m.count + 1 }) ≡ with_visit (visiting_of m) n =
    (λ i. record { sizes = m.sizes.items; nodes = nodes i }) in
    whole ∙ ap (λ (s : Visiting). with_visit s n) c.self.view_is
