-- Nodes to which relationships lead stand for the ends of walks, and the rows at them for the rows of a last trail.
use Rattle.std.proofs.Common.{◌≡◌, Bool, true, false, ◌&&◌, ◌||◌, nat_eq, Option, Some, None, List, [], ◌∷◌, ◌++◌, map, flat_map, refl, sym, ap, ap₂, ◌∙◌, subst}
use Rattle.std.specs.List.{list_any}
use Rattle.std.proofs.lemmas.Bool.{and_from, eq-eqb}
use Rattle.std.proofs.lemmas.List.{map-append}
use Rattle.std.proofs.lemmas.List.Folds.{list_any-append}
use Rattle.gq_base.specs.Plain.{Graph}
use Rattle.gq_base.specs.declared.NodeId.{NodeId}
use Rattle.gq_base.specs.declared.RelId.{RelId}
use Rattle.gq_base.specs.declared.direction.Direction.{Direction}
use Rattle.gq_plan.specs.Allowed.{at_same}
use Rattle.gq_plan.specs.Assignments.{same_node}
use Rattle.gq_plan.specs.Meaning.{Partial, found, look}
use Rattle.gq_plan.specs.declared.TrailPart.{TrailPart}
use Rattle.gq_plan.proofs.Products.{same_node_is}
use Rattle.gq_law_plans.proofs.Lookups.{eqb_swap}
use Rattle.gq_law_ends.specs.Reaching.{EndsStandFor, LastOfTrailsReaches, LastTrailReaches, ends_of, rows_at, rows_in, rows_reached}
use Rattle.gq_law_ends.specs.StandFor.{StandFor}
use Rattle.gq_law_trails.specs.Trails.{Trailing, after_trails, arrivals, used_in, walks_from, with_list}
use Rattle.gq_law_trails.specs.Walks.{end_of, walks}
use Rattle.gq_law_ends.proofs.Leading.{walks_lead}
use Rattle.gq_law_ends.proofs.StandFor.{distinct_stand, stands_append, stands_flat_map, stands_itself}

pub node_is : (m n : NodeId) → same_node m n ≡ true → m ≡ n
node_is m n e = sym (same_node_is m n e)

pub node_itself : (n : NodeId) → same_node n n ≡ true
node_itself n = and_from (nat_eq n.table n.table) (nat_eq n.row n.row) (eq-eqb n.table n.table refl) (eq-eqb n.row n.row refl)

pub node_turn : (m n : NodeId) → same_node m n ≡ same_node n m
node_turn m n = ap₂ ◌&&◌ (eqb_swap m.table n.table) (eqb_swap m.row n.row)

any_found : (n : NodeId) (o : Option NodeId) → list_any (same_node n) (found o) ≡ at_same o (Some n)
any_found n None = refl
any_found n (Some m) = off (same_node n m) ∙ node_turn n m
  where
    off : (b : Bool) → (b || false) ≡ b
    off true = refl
    off false = refl

any_end : (g : Graph) (way : Direction) (at : Option NodeId) (n : NodeId) (ls : List (List RelId))
    → list_any (same_node n) (ends_of g way at ls) ≡ list_any (λ l. at_same (end_of g way at l) (Some n)) ls
any_end g way at n [] = refl
any_end g way at n (l ∷ ls) =
    list_any-append (same_node n) (found (end_of g way at l)) (ends_of g way at ls)
    ∙ ap₂ ◌||◌ (any_found n (end_of g way at l)) (any_end g way at n ls)

pub ends_stand : EndsStandFor
ends_stand g kind way high at used ns led =
    distinct_stand same_node node_is node_itself node_turn ns (ends_of g way at (walks g kind way 1 high at used)) led.distinct
    (λ n. led.all n ∙ sym (walks_lead g kind way high at used n) ∙ sym (any_end g way at n (walks g kind way 1 high at used)))

-- ---- rows

rows_append : (xs ys : List Trailing) → rows_in (xs ++ ys) ≡ rows_in xs ++ rows_in ys
rows_append xs ys = map-append (λ (m : Trailing). m.row) xs ys

rows_arrived : (l : List RelId) (bs : List Partial) → rows_in (flat_map (λ (b : Partial). map (with_list l) (record { row = b; lists = [] } ∷ [])) bs) ≡ bs
rows_arrived l [] = refl
rows_arrived l (b ∷ bs) = ap (λ rs. b ∷ rs) (rows_arrived l bs)

at_found : (g : Graph) (p : TrailPart) (a : Partial) (o : Option NodeId) (ns : List NodeId) → arrivals g p a o ++ rows_at g p a ns ≡ rows_at g p a (found o ++ ns)
at_found g p a None ns = refl
at_found g p a (Some n) ns = refl

rows_walked : (g : Graph) (p : TrailPart) (a : Partial) (at : Option NodeId) (ls : List (List RelId))
    → rows_in (flat_map (λ l. flat_map (λ (b : Partial). map (with_list l) (record { row = b; lists = [] } ∷ [])) (arrivals g p a (end_of g p.way at l))) ls)
    ≡ rows_at g p a (ends_of g p.way at ls)
rows_walked g p a at [] = refl
rows_walked g p a at (l ∷ ls) =
    rows_append (flat_map (λ (b : Partial). map (with_list l) (record { row = b; lists = [] } ∷ [])) (arrivals g p a (end_of g p.way at l))) _
    ∙ ap₂ ◌++◌ (rows_arrived l (arrivals g p a (end_of g p.way at l))) (rows_walked g p a at ls)
    ∙ at_found g p a (end_of g p.way at l) (ends_of g p.way at ls)

pub last_trail : LastTrailReaches
unfolding after_trails
last_trail g patterns p a ws ns one led =
    subst (StandFor (rows_at g p a ns)) (sym whole)
    (stands_flat_map (λ n. arrivals g p a (Some n)) ns (ends_of g p.way from (walks g p.kind p.way 1 p.high from used)) (ends_stand g p.kind p.way p.high from used ns led))
  where
    from : Option NodeId
    from = look a.nodes p.from

    used : List RelId
    used = used_in patterns ws p.clause

    whole : rows_in (after_trails g patterns (p ∷ []) a ws) ≡ rows_at g p a (ends_of g p.way from (walks g p.kind p.way 1 p.high from used))
    whole = rows_walked g p a from (walks_from g patterns p a ws) ∙ ap (λ k. rows_at g p a (ends_of g p.way from (walks g p.kind p.way k p.high from used))) one

-- ---- behind other trails

pub stands_each : {X Y : Type 0} (f h : X → List Y) → ((x : X) → StandFor (f x) (h x)) → (xs : List X) → StandFor (flat_map f xs) (flat_map h xs)
stands_each f h each [] = stands_itself []
stands_each f h each (x ∷ xs) = stands_append (f x) (h x) (flat_map f xs) (flat_map h xs) (each x) (stands_each f h each xs)

same_rows : (l : List RelId) (ms : List Trailing) → rows_in (map (with_list l) ms) ≡ rows_in ms
same_rows l [] = refl
same_rows l (m ∷ ms) = ap (λ rs. m.row ∷ rs) (same_rows l ms)

pub rows_of_each : (l : List RelId) (f : Partial → List Trailing) (bs : List Partial) → rows_in (flat_map (λ b. map (with_list l) (f b)) bs) ≡ flat_map (λ b. rows_in (f b)) bs
rows_of_each l f [] = refl
rows_of_each l f (b ∷ bs) = rows_append (map (with_list l) (f b)) _ ∙ ap₂ ◌++◌ (same_rows l (f b)) (rows_of_each l f bs)

pub rows_of_walks : (f : List RelId → List Trailing) (ls : List (List RelId)) → rows_in (flat_map f ls) ≡ flat_map (λ l. rows_in (f l)) ls
rows_of_walks f [] = refl
rows_of_walks f (l ∷ ls) = rows_append (f l) (flat_map f ls) ∙ ap (λ rs. rows_in (f l) ++ rs) (rows_of_walks f ls)

pub last_of_trails : LastOfTrailsReaches
unfolding after_trails
last_of_trails g patterns [] p ends a ws one led = last_trail g patterns p a ws (ends a ws) one (led a ws)
last_of_trails g patterns (q ∷ qs) p ends a ws one led =
    subst (StandFor (rows_reached g patterns (λ b vs. rows_at g p b (ends b vs)) (q ∷ qs) a ws)) (sym whole)
    (stands_each
    (λ l. flat_map (λ b. rows_reached g patterns (λ b vs. rows_at g p b (ends b vs)) qs b ((q.clause, l) ∷ ws)) (met l))
    (λ l. flat_map (λ b. rows_in (after_trails g patterns (qs ++ p ∷ []) b ((q.clause, l) ∷ ws))) (met l))
    (λ l. stands_each
    (λ b. rows_reached g patterns (λ b vs. rows_at g p b (ends b vs)) qs b ((q.clause, l) ∷ ws))
    (λ b. rows_in (after_trails g patterns (qs ++ p ∷ []) b ((q.clause, l) ∷ ws)))
    (λ b. last_of_trails g patterns qs p ends b ((q.clause, l) ∷ ws) one led) (met l))
    (walks_from g patterns q a ws))
  where
    met : List RelId → List Partial
    met l = arrivals g q a (end_of g q.way (look a.nodes q.from) l)

    whole : rows_in (after_trails g patterns (q ∷ (qs ++ p ∷ [])) a ws)
        ≡ flat_map (λ l. flat_map (λ b. rows_in (after_trails g patterns (qs ++ p ∷ []) b ((q.clause, l) ∷ ws))) (arrivals g q a (end_of g q.way (look a.nodes q.from) l))) (walks_from g patterns q a ws)
    whole =
        rows_of_walks (λ l. flat_map (λ b. map (with_list l) (after_trails g patterns (qs ++ p ∷ []) b ((q.clause, l) ∷ ws))) (arrivals g q a (end_of g q.way (look a.nodes q.from) l))) (walks_from g patterns q a ws)
        ∙ ap (λ f. flat_map f (walks_from g patterns q a ws))
        (λ i l. rows_of_each l (λ b. after_trails g patterns (qs ++ p ∷ []) b ((q.clause, l) ∷ ws)) (arrivals g q a (end_of g q.way (look a.nodes q.from) l)) i)
