-- Items that are put at variables of a row, the last one first.
use Rattle.std.proofs.Common.{◌≡◌, ◌∙◌, ℕ, zero, suc, ◌+◌, ◌<◌, cond, nat_eq, Option, Some, List, [], ◌∷◌, drop, length, refl, sym, ap, subst, arith}
use Rattle.std.specs.Prelude.{slice_index, slice_set}
use Rattle.std.specs.List.{All}
use Rattle.std.proofs.lemmas.List.Elements.{All-head, All-tail}
use Rattle.gq_base.specs.declared.NodeId.{NodeId}
use Rattle.gq_base.specs.declared.RelId.{RelId}
use Rattle.std.proofs.Math.Dec.{eqb-suc-suc, eqb-suc-zero, eqb-zero-suc}
use Rattle.std.proofs.lemmas.List.{drop_more}
use Rattle.gq_plan.specs.Rows.{nodes_of_tables, rels_of_tables}
use Rattle.gq_plan.specs.declared.typed.TypedRel.{TypedRel}
use Rattle.gq_outer.specs.Clauses.{placed}
use Rattle.gq_outer.specs.Rows.{item_at}

item_set : {X : Type 0} (xs : List (Option X)) (v : ℕ) (x : X) (u : ℕ) → v < length xs → item_at (slice_set xs v (Some x)) u ≡ cond (nat_eq u v) (Some x) (item_at xs u)
item_set [] v x u low = absurd (omega (arith, low))
item_set (y ∷ ys) zero x zero low = refl
item_set (y ∷ ys) zero x (suc u) low = ap (λ b. cond b (Some x) (item_at ys u)) (sym (eqb-suc-zero u))
item_set (y ∷ ys) (suc v) x zero low = ap (λ b. cond b (Some x) (item_at (y ∷ ys) 0)) (sym (eqb-zero-suc v))
item_set (y ∷ ys) (suc v) x (suc u) low = item_set ys v x u (omega (arith, low)) ∙ ap (λ b. cond b (Some x) (item_at ys u)) (sym (eqb-suc-suc u v))

-- one more in front
pub placed_more : {X : Type 0} (xs : List (Option X)) (v : ℕ) (x : X) (vs : List ℕ) (found : List X) (before : ℕ → Option X) → v < length xs → item_at xs ≡ placed vs found before
    → item_at (slice_set xs v (Some x)) ≡ placed (v ∷ vs) (x ∷ found) before
placed_more xs v x vs found before low e = λ i u. (item_set xs v x u low ∙ ap (λ (f : ℕ → Option _). cond (nat_eq u v) (Some x) (f u)) e) i

-- what stands at a place, and behind it
pub nodes_more : (t : ℕ) (ts ns : List ℕ) (place : ℕ) → place < length ns → nodes_of_tables (t ∷ ts) (drop place ns) ≡ record { table = t; row = slice_index ns place } ∷ nodes_of_tables ts (drop (place + 1) ns)
nodes_more t ts ns place low = ap (nodes_of_tables (t ∷ ts)) (drop_more ns place 0 low)

pub rels_more : (r : TypedRel) (rs : List TypedRel) (ns : List ℕ) (place : ℕ) → place < length ns → rels_of_tables (r ∷ rs) (drop place ns) ≡ record { table = r.table; row = slice_index ns place } ∷ rels_of_tables rs (drop (place + 1) ns)
rels_more r rs ns place low = ap (rels_of_tables (r ∷ rs)) (drop_more ns place 0 low)

-- one node in front of those behind it
pub placed_nodes : (xs ys : List (Option NodeId)) (v : ℕ) (vs all : List ℕ) (t : ℕ) (ts tables ns : List ℕ) (place r : ℕ) (before : ℕ → Option NodeId)
    → ys ≡ slice_set xs v (Some (record { table = t; row = r })) → r ≡ slice_index ns place → all ≡ v ∷ vs → tables ≡ t ∷ ts → place < length ns → v < length xs
    → item_at xs ≡ placed vs (nodes_of_tables ts (drop (place + 1) ns)) before
    → item_at ys ≡ placed all (nodes_of_tables tables (drop place ns)) before
placed_nodes xs ys v vs all t ts tables ns place r before is here e f low in_range more =
    let x : NodeId = record { table = t; row = r } in
    let found : List NodeId = nodes_of_tables ts (drop (place + 1) ns) in
    ap item_at is ∙ placed_more xs v x vs found before in_range more
    ∙ ap (λ l. placed l (x ∷ found) before) (sym e)
    ∙ ap (λ l. placed all l before) ((λ i. record { table = t; row = here i } ∷ found) ∙ sym (nodes_more t ts ns place low) ∙ ap (λ l. nodes_of_tables l (drop place ns)) (sym f))

-- the same of a relationship
pub placed_rels : (xs ys : List (Option RelId)) (v : ℕ) (vs all : List ℕ) (t : TypedRel) (ts typed : List TypedRel) (ns : List ℕ) (place r : ℕ) (before : ℕ → Option RelId)
    → ys ≡ slice_set xs v (Some (record { table = t.table; row = r })) → r ≡ slice_index ns place → all ≡ v ∷ vs → typed ≡ t ∷ ts → place < length ns → v < length xs
    → item_at xs ≡ placed vs (rels_of_tables ts (drop (place + 1) ns)) before
    → item_at ys ≡ placed all (rels_of_tables typed (drop place ns)) before
placed_rels xs ys v vs all t ts typed ns place r before is here e f low in_range more =
    let x : RelId = record { table = t.table; row = r } in
    let found : List RelId = rels_of_tables ts (drop (place + 1) ns) in
    ap item_at is ∙ placed_more xs v x vs found before in_range more
    ∙ ap (λ l. placed l (x ∷ found) before) (sym e)
    ∙ ap (λ l. placed all l before) ((λ i. record { table = t.table; row = here i } ∷ found) ∙ sym (rels_more t ts ns place low) ∙ ap (λ l. rels_of_tables l (drop place ns)) (sym f))

-- a variable and those behind it are variables of a row
pub all_head : (n v : ℕ) (vs all : List ℕ) → all ≡ v ∷ vs → All (λ w. w < n) all → v < n
all_head n v vs all e h = All-head (λ w. w < n) v vs (subst (All (λ w. w < n)) e h)

pub all_tail : (n v : ℕ) (vs all : List ℕ) → all ≡ v ∷ vs → All (λ w. w < n) all → All (λ w. w < n) vs
all_tail n v vs all e h = All-tail (λ w. w < n) v vs (subst (All (λ w. w < n)) e h)
