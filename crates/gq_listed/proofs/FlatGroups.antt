-- Variables in flat groups have one node at all choices of a chunk.
use Rattle.std.proofs.Common.{◌≡◌, ◌∙◌, ℕ, zero, suc, ◌+◌, ◌<◌, true, List, [], ◌∷◌, ◌++◌, length, map, take, get_or, Some, refl, sym, ap, subst, arith}
use Rattle.std.specs.Prelude.{nat_eq, slice_get, slice_index_or}
use Rattle.std.specs.List.{range_with_len}
use Rattle.std.proofs.lemmas.Bool.{and_parts}
use Rattle.std.proofs.lemmas.List.{get_or_default, take_more}
use Rattle.std.proofs.lemmas.List.Elements.{All-append, All-cons}
use Rattle.std.proofs.lemmas.Slice.Zip.{AllZip-long, all_zipped_more}
use Rattle.gq_cells.specs.declared.source.Source.{Source}
use Rattle.gq_eval.specs.Asked.{Asked}
use Rattle.std.proofs.lemmas.Bool.Decides.{nat_tests}
use Rattle.gq_base.specs.Plain.{Graph}
use Rattle.gq_base.specs.declared.NodeId.{NodeId}
use Rattle.gq_group.specs.Chunks.{assignment_at, cell_at, group_of, items_in, node_at, node_in, row_in}
use Rattle.gq_group.specs.Groups.{AreSelected, is_current, is_selected}
use Rattle.gq_group.specs.declared.chunk.Chunk.{Chunk}
use Rattle.gq_group.specs.declared.group.Group.{Group}
use Rattle.gq_group.specs.declared.home.NodeHome.{NodeHome}
use Rattle.gq_group.specs.declared.home.NodeHome.TheVariants as node
use Rattle.gq_plan.specs.Rows.{as_read, nodes_of_tables}
use Rattle.gq_plan.specs.declared.typed.Typed.{Typed}
use Rattle.gq_listed.specs.declared.finder.Lead.{Lead}
use Rattle.gq_listed.specs.declared.finder.Lead.TheVariants as lead
use Rattle.gq_listed.specs.declared.finder.Way.{Way}
use Rattle.gq_listed.specs.declared.finder.Way.TheVariants as way
use Rattle.gq_listed.specs.Finding.{HasNumber, IsFinder}
use Rattle.gq_listed.specs.Listed.{AreFinders}
use Rattle.gq_listed.proofs.Finding.{finder_at}
use Rattle.gq_listed.specs.declared.finder.Finder.{Finder}
use Rattle.gq_listed.specs.Flat.{HasOneNode, IsFlat, IsFlatHome, IsFlatWay, IsHeldNumber}
use Rattle.gq_listed.specs.Leads.{AreLed, IsLed}

-- ---- the position of a flat group

same_number : (p k : ℕ) → nat_eq p k ≡ true → p ≡ k
same_number p k e = grind (arith, nat_tests, e)

current_is : (g : Group) (k p : ℕ) → g.current ≡ Some k → is_selected g p ≡ true → p ≡ k
current_is g k p is e = same_number p k (sym (ap (λ o. is_current o p) is) ∙ (and_parts (is_current g.current p) _ e).0)

pub one_position : (gs : List Group) (i : ℕ) (ps qs : List ℕ) → AreSelected gs ps → AreSelected gs qs → IsFlat (slice_get gs i) → get_or ps i 0 ≡ get_or qs i 0
one_position [] i ps qs a b flat = absurd flat
one_position (g ∷ gs) i [] qs a b flat = absurd a
one_position (g ∷ gs) i (p ∷ ps) [] a b flat = absurd b
one_position (g ∷ gs) zero (p ∷ ps) (q ∷ qs) a b flat = current_is g flat.0 p flat.1 a.0 ∙ sym (current_is g flat.0 q flat.1 b.0)
one_position (g ∷ gs) (suc i) (p ∷ ps) (q ∷ qs) a b flat = one_position gs i ps qs a.1 b.1 flat

-- ---- the node of a variable that lives there

pub one_item : (c : Chunk) (i : ℕ) → IsFlat (group_of c i) → IsFlatHome c (node.Item i)
one_item c i flat ps qs a b = ap (λ p. get_or (items_in (group_of c i)) p 0) (one_position c.groups.now i ps qs a b flat)

pub one_cell : (c : Chunk) (i column : ℕ) → IsFlat (group_of c i) → IsFlatHome c (node.Column i column)
one_cell c i column flat ps qs a b = ap (λ p. row_in (cell_at c column p)) (one_position c.groups.now i ps qs a b flat)

pub home_is : {X : Type 0} (xs : List X) (v : ℕ) (d x : X) → slice_get xs v ≡ Some x → slice_index_or xs v d ≡ x
home_is [] v d x e = absurd (let y : ⊥ = cc in y)
home_is (y ∷ ys) zero d x e = cc e
home_is (y ∷ ys) (suc v) d x e = home_is ys v d x e

pub at_home : (c : Chunk) (v : ℕ) (h : NodeHome) → slice_get c.homes.now.nodes v ≡ Some h → IsFlatHome c h → HasOneNode c v
at_home c v h e same ps qs a b = subst (λ x. node_in c ps x ≡ node_in c qs x) (sym (home_is c.homes.now.nodes v node.Nowhere h e)) (same ps qs a b)

-- ---- a number that is found at one choice

node_again : (f h : ℕ → ℕ) (a : ℕ) (tables : List ℕ) (v : ℕ) → f (a + v) ≡ h (a + v)
    → slice_get (nodes_of_tables tables (map f (range_with_len a (length tables)))) v ≡ slice_get (nodes_of_tables tables (map h (range_with_len a (length tables)))) v
node_again f h a [] v e = refl
node_again f h a (t ∷ ts) zero e =
    let here : a + 0 ≡ a = omega arith in
    ap (λ row. let n : NodeId = record { table = t; row = row } in Some n) (subst (λ k. f k ≡ h k) here e)
node_again f h a (t ∷ ts) (suc v) e = let up : a + suc v ≡ a + 1 + v = omega arith in node_again f h (a + 1) ts v (subst (λ k. f k ≡ h k) up e)

pub held_number_is : (g : Graph) (y : Typed) (c : Chunk) (w : Way) (n : ℕ) (qs : List ℕ) → AreSelected c.groups.now qs → IsFlatWay c w → HasNumber g w (as_read y (assignment_at g y c qs)) n → IsHeldNumber g y c w n
held_number_is g y c way.Value n qs b flat h = absurd flat
held_number_is g y c (way.Node r) n qs b flat h = λ ps a.
    let same : 0 + r.variable ≡ r.variable = omega arith in
    record {
      below = h.below;
      is = node_again (node_at c ps) (node_at c qs) 0 y.nodes r.variable (subst (λ k. node_at c ps k ≡ node_at c qs k) (sym same) (flat ps qs a b)) ∙ h.is;
    }
held_number_is g y c (way.Rel r) n qs b flat h = absurd flat

-- ---- finders of a chunk, one after another

-- what stands where there is no finder
abbrev pub no_finder : Finder
no_finder = record { way = way.Value; source = 0; null = 0; lead = lead.Unknown }

-- the finder at a place, with another lead
abbrev pub leading : List Finder → ℕ → Lead → Finder
leading fs i by = record (get_or fs i no_finder) { lead = by }

pub finder_and : (ss : List Source) (asks : List Asked) (fs hs : List Finder) (by : Lead) (i : ℕ) → i < length fs → AreFinders ss asks fs → AreFinders ss (take i asks) hs → AreFinders ss (take (i + 1) asks) (hs ++ leading fs i by ∷ [])
finder_and ss [] [] hs by i lt all before = absurd (omega (arith, lt))
finder_and ss [] (e ∷ fs) hs by i lt all before = absurd all
finder_and ss (a ∷ asks) fs hs by i lt all before =
    let within : i < length (a ∷ asks) = let e = AllZip-long (IsFinder ss) (a ∷ asks) fs all in omega (arith, lt, e) in
    let b : Asked = get_or (a ∷ asks) i a in
    let f : Finder = get_or fs i no_finder in
    let k : IsFinder ss b f = finder_at ss (a ∷ asks) fs i b f all within lt (get_or_default (a ∷ asks) i a b within) (get_or_default fs i no_finder f lt) in
    subst (λ l. AreFinders ss l (hs ++ leading fs i by ∷ [])) (sym (take_more (a ∷ asks) i a within))
    (all_zipped_more (IsFinder ss) (take i (a ∷ asks)) hs b (leading fs i by) before (record { finds = k.finds; none = k.none; nothing = k.nothing }))

pub led_and : (g : Graph) (y : Typed) (c : Chunk) (hs : List Finder) (h : Finder) → AreLed g y c hs → IsLed g y c h → AreLed g y c (hs ++ h ∷ [])
led_and g y c hs h all k = All-append (IsLed g y c) hs (h ∷ []) all (All-cons (IsLed g y c) h [] k (λ i d lt. absurd (omega (arith, lt))))
