-- Lists that grow piece by piece, tuples, and the matches among all assignments.
use Rattle.std.proofs.Common.{◌≡◌, ◌∙◌, ap, refl, sym, ℕ, ◌+◌, Bool, Some, List, [], ◌∷◌, ◌++◌, map, flat_map, filter, length, add-one, zero-add, append_assoc, append-nil}
use Rattle.std.specs.Prelude.{slice_get}
use Rattle.std.specs.List.{range_with_len}
use Rattle.std.proofs.lemmas.Grind.{flat_map-append}
use Rattle.std.proofs.lemmas.List.{map-append}
use Rattle.std.proofs.lemmas.List.Elements.{filter-append}
use Rattle.gq_base.specs.Plain.{Graph}
use Rattle.gq_base.specs.declared.Cell.{Cell}
use Rattle.gq_base.specs.declared.NodeId.{NodeId}
use Rattle.gq_base.specs.declared.PlainRel.{PlainRel}
use Rattle.gq_base.specs.declared.RelId.{RelId}
use Rattle.std.specs.declared.option.Option.{Option}
use Rattle.gq_alternatives.specs.Matches.{is_match, pattern_matches}
use Rattle.gq_plan.specs.Assignments.{assignments, tuples, nodes_of, all_nodes, rels_of, all_rels}
use Rattle.gq_scopes.specs.Patterns.{Pattern}
use Rattle.gq_scopes.proofs.RangeLemmas.{range_more}

-- ---- numbers from 0 on

next_number : (n : ℕ) → range_with_len 0 (n + 1) ≡ range_with_len 0 n ++ n ∷ []
next_number n = range_more 0 n ∙ ap (λ k. range_with_len 0 n ++ k ∷ []) (zero-add n)

-- one more item, made of the next number
pub items_next : {X : Type 0} (f : ℕ → X) (start before after : List X) (n : ℕ) → before ≡ start ++ map f (range_with_len 0 n) → after ≡ before ++ f n ∷ []
    → after ≡ start ++ map f (range_with_len 0 (n + 1))
items_next f start before after n was more =
    more ∙ ap (λ l. l ++ f n ∷ []) was ∙ append_assoc start (map f (range_with_len 0 n)) (f n ∷ [])
    ∙ ap (λ l. start ++ l) (sym (ap (map f) (next_number n) ∙ map-append f (range_with_len 0 n) (n ∷ [])))

-- one more piece, made of the next number
pub pieces_next : {X : Type 0} (f : ℕ → List X) (before after : List X) (n : ℕ) → before ≡ flat_map f (range_with_len 0 n) → after ≡ before ++ f n
    → after ≡ flat_map f (range_with_len 0 (n + 1))
pieces_next f before after n was more =
    more ∙ ap (λ l. l ++ f n) was
    ∙ sym (ap (flat_map f) (next_number n) ∙ flat_map-append f (range_with_len 0 n) (n ∷ []) ∙ ap (λ l. flat_map f (range_with_len 0 n) ++ l) (append-nil (f n)))

pub nodes_of_is : (g : Graph) (table : ℕ) (rows : List (List (Option Cell))) → slice_get g.nodes table ≡ Some rows → nodes_of g table ≡ map (λ row. record { table = table; row = row }) (range_with_len 0 (length rows))
unfolding nodes_of
nodes_of_is g table rows e = rw e refl

pub rels_of_is : (g : Graph) (table : ℕ) (rels : List PlainRel) → slice_get g.rels table ≡ Some rels → rels_of g table ≡ map (λ row. record { table = table; row = row }) (range_with_len 0 (length rels))
unfolding rels_of
rels_of_is g table rels e = rw e refl

-- ---- tuples

pub tuples_of_none : {X : Type 0} (xs : List X) → tuples 0 xs ≡ [] ∷ []
unfolding tuples
tuples_of_none xs = refl

-- the tuples of one item more
pub tuples_more : {X : Type 0} (n : ℕ) (xs : List X) → tuples (n + 1) xs ≡ flat_map (λ x. map (λ l. x ∷ l) (tuples n xs)) xs
unfolding tuples
tuples_more n xs = ap (λ k. tuples k xs) (add-one n)

-- ---- matches

-- what a test keeps of pieces is what it keeps of each piece
filter_flat_map : {X A : Type 0} (p : A → Bool) (f : X → List A) (xs : List X) → filter p (flat_map f xs) ≡ flat_map (λ x. filter p (f x)) xs
filter_flat_map p f [] = refl
filter_flat_map p f (x ∷ xs) = filter-append p (f x) (flat_map f xs) ∙ ap (λ l. filter p (f x) ++ l) (filter_flat_map p f xs)

-- the matches, by their nodes
matches_by_nodes : (g : Graph) (p : Pattern)
    → flat_map (λ ns. filter (is_match g p) (map (λ rs. record { nodes = ns; rels = rs }) (tuples (length p.rels) (all_rels g)))) (tuples (length p.names) (all_nodes g)) ≡ pattern_matches g p
unfolding pattern_matches assignments
matches_by_nodes g p = sym (filter_flat_map (is_match g p) (λ ns. map (λ rs. record { nodes = ns; rels = rs }) (tuples (length p.rels) (all_rels g))) (tuples (length p.names) (all_nodes g)))

-- the same, where the graph, the patterns and the tuples go by other names
pub matches_found : (g h : Graph) (p q : Pattern) (nodes : List (List NodeId)) (rels : List (List RelId)) → h ≡ g → q ≡ p
    → nodes ≡ tuples (length p.names) (all_nodes g) → rels ≡ tuples (length p.rels) (all_rels g)
    → flat_map (λ ns. filter (is_match h q) (map (λ rs. record { nodes = ns; rels = rs }) rels)) nodes ≡ pattern_matches g p
matches_found g h p q nodes rels same_graph same_pattern n r =
    let renamed : flat_map (λ ns. filter (is_match h q) (map (λ rs. record { nodes = ns; rels = rs }) rels)) nodes
    ≡ flat_map (λ ns. filter (is_match g p) (map (λ rs. record { nodes = ns; rels = rs }) (tuples (length p.rels) (all_rels g)))) (tuples (length p.names) (all_nodes g)) =
    λ i. flat_map (λ ns. filter (is_match (same_graph i) (same_pattern i)) (map (λ rs. record { nodes = ns; rels = rs }) (r i))) (n i) in
    renamed ∙ matches_by_nodes g p
