-- How marks spread, node by node.
use Rattle.std.proofs.Common.{◌≡◌, ℕ, zero, suc, ◌<◌, nat_eq, get_or, length, Bool, true, false, not, ◌&&◌, Some, List, [], ◌∷◌, ◌++◌, refl, sym, ap, ap₂, ◌∙◌, subst, arith, inl, inr}
use Rattle.std.specs.List.{AllByRecursion}
use Rattle.std.proofs.lemmas.Bool.Decides.{nat_tests}
use Rattle.std.proofs.lemmas.List.{append_assoc, append-nil}
use Rattle.gq_base.specs.Directions.{opposite}
use Rattle.gq_base.specs.Plain.{Graph}
use Rattle.gq_base.specs.declared.NodeId.{NodeId}
use Rattle.gq_base.specs.declared.RelId.{RelId}
use Rattle.gq_base.specs.declared.direction.Direction.{Direction}
use Rattle.gq_base.specs.declared.direction.Direction.TheVariants.{Forward, Backward}
use Rattle.gq_law_plans.proofs.Wholes.{node_self}
use Rattle.gq_law_trails.specs.Walks.{is_of_type}
use Rattle.gq_marks.specs.Marking.{IsMore, IsSpread, Marking, is_marked, mark_at}
use Rattle.gq_plan.specs.Allowed.{at_same}
use Rattle.gq_plan.specs.Assignments.{all_rels, is_node}
use Rattle.gq_plan.specs.Meaning.{far, near}
use Rattle.gq_plan.proofs.Each.{each_then}
use Rattle.std.specs.Prelude.{slice_get}
use Rattle.gq_hops.specs.steps.Aims.{AreHit, AreInside, IsHit, IsUnderWay}
use Rattle.gq_hops.specs.Levels.{is_met}
use Rattle.gq_hops.specs.steps.Hops.{IsFirst, IsStart, left_at, left_of}
use Rattle.gq_hops.specs.declared.follow.Follow.{Follow}
use Rattle.gq_hops.specs.declared.follow.Hop.{Hop}
use Rattle.gq_hops.specs.declared.follow.Frame.{Frame}
use Rattle.gq_hops.proofs.Aiming.{at_filter}
use Rattle.gq_hops.proofs.Hopping.{all_met}

each_append : {X : Type 0} (P : X → Type 0) (xs ys : List X) → AllByRecursion P xs → AllByRecursion P ys → AllByRecursion P (xs ++ ys)
each_append P [] ys all more = more
each_append P (x ∷ xs) ys all more = (all.0, each_append P xs ys all.1 more)

-- ---- marks

pub spread_none : (mark : ℕ) (m : Marking) → IsSpread mark m m
spread_none mark m = record {
  rest = refl;
  more = [];
  reached = sym (append-nil m.reached);
  each = tt;
  stays = λ n marked. refl;
  comes = λ n marked was. absurd (let lost : true ≡ false = sym marked ∙ was in cc lost);
}

module _ (mark : ℕ) (few : mark < 255) (a b c : Marking) (one : IsSpread mark a b) (two : IsSpread mark b c) where
  still : (n : NodeId) → is_marked a n ≡ true → is_marked b n ≡ true
  still n marked = ap (λ k. not (nat_eq k 255)) (one.stays n marked) ∙ marked

  is_mark : (n : NodeId) → mark_at b.sheets n ≡ mark → is_marked b n ≡ true
  is_mark n is = let no : nat_eq (mark_at b.sheets n) 255 ≡ false = grind (arith, nat_tests, is, few) in ap not no

  pub spread_then : IsSpread mark a c
  spread_then = record {
    rest = two.rest ∙ one.rest;
    more = one.more ++ two.more;
    reached = two.reached ∙ ap (λ l. l ++ two.more) one.reached ∙ append_assoc a.reached one.more two.more;
    each = each_append (λ n. mark_at c.sheets n ≡ mark) one.more two.more
        (each_then (λ n. mark_at b.sheets n ≡ mark) (λ n. mark_at c.sheets n ≡ mark) (λ n is. two.stays n (is_mark n is) ∙ is) one.more one.each) two.each;
    stays = λ n marked. two.stays n (still n marked) ∙ one.stays n marked;
    comes = λ n marked was. go n marked was (is_marked b n) refl;
  }
    where
      go : (n : NodeId) → is_marked c n ≡ true → is_marked a n ≡ false → (k : Bool) → is_marked b n ≡ k → mark_at c.sheets n ≡ mark
      go n marked was true here = two.stays n here ∙ one.comes n here was
      go n marked was false here = two.comes n marked here

pub inside_more : (g : Graph) (n : NodeId) (old new : List NodeId) → is_node g n ≡ true → AreInside g old → IsMore n old new → AreInside g new
inside_more g n old new node inside (inl same) = subst (AreInside g) (sym same) inside
inside_more g n old new node inside (inr more) = subst (AreInside g) (sym more) (each_append (λ k. is_node g k ≡ true) old (n ∷ []) inside (node, tt))

pub inside_at : (g : Graph) (ns : List NodeId) (i : ℕ) (d : NodeId) → i < length ns → AreInside g ns → is_node g (get_or ns i d) ≡ true
inside_at g [] i d low inside = absurd (omega arith)
inside_at g (n ∷ ns) zero d low inside = inside.0
inside_at g (n ∷ ns) (suc i) d low inside = inside_at g ns i d (omega arith) inside.1

-- ---- the relationships at a node

module _ (f : Follow) (n : NodeId) where
  pub under_start : (m : Marking) (l : Frame) → IsStart n 0 l → IsUnderWay f m n l
  under_start m l start = record {
    done = [];
    all = sym (ap (λ (k : NodeId). left_at f.graph.now f.kind.now f.way k l.table l.place) start.at_is ∙ ap₂ (left_at f.graph.now f.kind.now f.way n) start.table_is start.place_is);
    hit = tt;
  }

  still_hit : (mark : ℕ) (m new : Marking) → IsSpread mark m new → (r : RelId) → IsHit f.graph.now f.way m r → IsHit f.graph.now f.way new r
  still_hit mark m new spread r hit k leads = ap (λ i. not (nat_eq i 255)) (spread.stays k (hit k leads)) ∙ hit k leads

  pub under_next : (mark : ℕ) (m new : Marking) (l next : Frame) (h : Hop) → IsUnderWay f m n l → IsFirst f l next h → IsSpread mark m new → is_marked new h.node ≡ true → IsUnderWay f new n next
  under_next mark m new l next h under first spread marked = record {
    done = under.done ++ h.rel ∷ [];
    all = under.all ∙ ap (λ rs. under.done ++ rs) first.left ∙ sym (append_assoc under.done (h.rel ∷ []) (left_of f next));
    hit = each_append (IsHit f.graph.now f.way new) under.done (h.rel ∷ [])
        (each_then (IsHit f.graph.now f.way m) (IsHit f.graph.now f.way new) (still_hit mark m new spread) under.done under.hit)
        (λ k leads. (let both : Some h.node ≡ Some k = sym first.leads ∙ leads in let same : h.node ≡ k = cc both in subst (λ i. is_marked new i ≡ true) same marked), tt);
  }

  pub under_over : (m : Marking) (l : Frame) → IsUnderWay f m n l → left_of f l ≡ [] → AreHit f m n
  under_over m l under none = subst (AllByRecursion (IsHit f.graph.now f.way m)) (sym (under.all ∙ ap (λ rs. under.done ++ rs) none ∙ append-nil under.done)) under.hit

-- ---- followed the other way

pub near_opposite : (g : Graph) (way : Direction) (r : RelId) → near g (opposite way) r ≡ far g way r
near_opposite g Forward r = refl
near_opposite g Backward r = refl

pub far_opposite : (g : Graph) (way : Direction) (r : RelId) → far g (opposite way) r ≡ near g way r
far_opposite g Forward r = refl
far_opposite g Backward r = refl

pub opposite_twice : (way : Direction) → opposite (opposite way) ≡ way
opposite_twice Forward = refl
opposite_twice Backward = refl

pub hits_are : (f : Follow) (m : Marking) (n : NodeId) → AreHit f m n
    → (k : ℕ) (r : RelId) → slice_get (all_rels f.graph.now) k ≡ Some r → (p : NodeId) → is_of_type f.graph.now f.kind.now r ≡ true
    → near f.graph.now (opposite f.way) r ≡ Some p → far f.graph.now (opposite f.way) r ≡ Some n → is_marked m p ≡ true
hits_are f m n hits k r is p typed comes leads =
    at_filter (IsHit f.graph.now f.way m) (is_met f.graph.now f.kind.now f.way (Some n)) (all_rels f.graph.now)
    (subst (AllByRecursion (IsHit f.graph.now f.way m)) (sym (all_met f.graph.now f.kind.now f.way n)) hits) k r is
    (ap₂ (λ a b. a && b) typed (ap (at_same (Some n)) (sym (far_opposite f.graph.now f.way r) ∙ leads) ∙ node_self n))
    p (sym (near_opposite f.graph.now f.way r) ∙ comes)
