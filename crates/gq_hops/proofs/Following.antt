-- The relationships at a node that a plan follows are those that the stored graph lists there.
use Rattle.std.proofs.Common.{◌≡◌, nat_eq, false, ℕ, zero, suc, ◌+◌, ◌<◌, ◌≤◌, Option, Some, List, [], ◌∷◌, map, filter, length, drop, get_or, slice_get, refl, sym, ap, ap₂, ◌∙◌, arith, inl, inr, ◌⊎◌}
use Rattle.std.specs.List.{range_with_len}
use Rattle.std.proofs.lemmas.Bool.{eq-eqb, ne_eqb, cases_eq}
use Rattle.std.proofs.lemmas.List.{drop_more, drop_all}
use Rattle.std.proofs.lemmas.List.FromFn.{length-range_with_len}
use Rattle.std.proofs.lemmas.Option.{slice_get_within, get_or_from_slice_get}
use Rattle.gq_adj.specs.Adjacent.{targets}
use Rattle.gq_base.specs.Directions.{opposite}
use Rattle.gq_base.specs.Plain.{Graph, rels_at}
use Rattle.gq_base.specs.declared.NodeId.{NodeId}
use Rattle.gq_base.specs.declared.PlainRel.{PlainRel}
use Rattle.gq_base.specs.declared.RelId.{RelId}
use Rattle.gq_base.specs.declared.RelTable.{RelTable}
use Rattle.gq_base.specs.declared.direction.Direction.{Direction}
use Rattle.gq_base.specs.declared.direction.Direction.TheVariants.{Forward, Backward}
use Rattle.gq_plan.specs.Allowed.{at_same}
use Rattle.gq_plan.specs.Assignments.{source, target, source_in, target_in, rels_of}
use Rattle.gq_plan.specs.Meaning.{near, far}
use Rattle.gq_store.proofs.Picking.{picked, pick_some, pick_number, one_length}
use Rattle.gq_store.specs.Neighbours as stored
use Rattle.gq_store.specs.Neighbours.{near_ends, neighbours, numbers}
use Rattle.gq_hops.specs.steps.Hops.{near_table, far_table}

-- a relationship that is followed: its load number, and the row to which it leads
pub record Edge : Type 0 where
  pub number : ℕ
  pub row : ℕ

-- it is the one at a place among those that are followed from a row
pub record IsEdge (g : Graph) (table : ℕ) (to : Direction) (row place : ℕ) (e : Edge) : Type 0 where
  pub number : slice_get (numbers g table to row) place ≡ Some e.number
  pub leads : slice_get (neighbours g table to row) place ≡ Some e.row

pub get_some : {X : Type 0} (xs : List X) (i : ℕ) → i < length xs → (x : X) × (slice_get xs i ≡ Some x)
get_some [] i low = absurd (omega arith)
get_some (x ∷ xs) zero low = (x, refl)
get_some (x ∷ xs) (suc i) low = get_some xs i (omega arith)

-- a relationship of a table, by its load number
abbrev pub rel : ℕ → ℕ → RelId
rel t number = record { table = t; row = number }

abbrev node : ℕ → ℕ → NodeId
node t row = record { table = t; row = row }

ends_at : (way : Direction) (rs : List PlainRel) (k : ℕ) (r : PlainRel) → slice_get rs k ≡ Some r → get_or (map (stored.near_end way) rs) k 0 ≡ stored.near_end way r
ends_at way [] k r e = absurd (cc e)
ends_at way (q ∷ rs) zero r e = let same : q ≡ r = cc in ap (stored.near_end way) same
ends_at way (q ∷ rs) (suc k) r e = ends_at way rs k r e

length-ends : (way : Direction) (rs : List PlainRel) → length (map (stored.near_end way) rs) ≡ length rs
length-ends way [] = refl
length-ends way (r ∷ rs) = ap suc (length-ends way rs)

nat_eq_turn : (m n : ℕ) → nat_eq n m ≡ nat_eq m n
nat_eq_turn m n = go (cases_eq m n)
  where
    go : (m ≡ n) ⊎ (m ≡ n → ⊥) → nat_eq n m ≡ nat_eq m n
    go (inl same) = rw (eq-eqb m n same, eq-eqb n m (sym same)) refl
    go (inr other) = rw (ne_eqb m n other, ne_eqb n m (λ h. other (sym h))) refl

-- those that are met at a node, by what each one is met at
module _ (test : RelId → Option NodeId) (t : ℕ) (n : NodeId) (table : ℕ) (lies : n.table ≡ table) where
  met : (ends : List ℕ) (first : ℕ) → ((i : ℕ) → i < length ends → test (rel t (first + i)) ≡ Some (node table (get_or ends i 0)))
      → filter (λ r. at_same (Some n) (test r)) (map (rel t) (range_with_len first (length ends))) ≡ map (rel t) (targets n.row ends (range_with_len first (length ends)))
  met [] first is = refl
  met (e ∷ ends) first is =
      go (cases_eq n.row e) (met ends (first + 1) (λ i low. let at : first + 1 + i ≡ first + suc i = omega arith in ap (λ k. test (rel t k)) at ∙ is (suc i) (omega arith)))
    where
      here : test (rel t first) ≡ Some (node table e)
      here = let at : first ≡ first + 0 = omega arith in ap (λ k. test (rel t k)) at ∙ is 0 (omega arith)

      go : (n.row ≡ e) ⊎ (n.row ≡ e → ⊥)
          → filter (λ r. at_same (Some n) (test r)) (map (rel t) (range_with_len (first + 1) (length ends))) ≡ map (rel t) (targets n.row ends (range_with_len (first + 1) (length ends)))
          → filter (λ r. at_same (Some n) (test r)) (map (rel t) (range_with_len first (length (e ∷ ends)))) ≡ map (rel t) (targets n.row (e ∷ ends) (range_with_len first (length (e ∷ ends))))
      go (inl same) more = rw (here, eq-eqb n.table table lies, eq-eqb n.row e same, eq-eqb e n.row (sym same)) (ap (λ l. rel t first ∷ l) more)
      go (inr other) more = rw (here, eq-eqb n.table table lies, ne_eqb n.row e other, ne_eqb e n.row (λ h. other (sym h))) more

module _ (g : Graph) (t : ℕ) (k : RelTable) (table_is : slice_get g.catalog.rels t ≡ Some k) where
  -- where a relationship begins and where it ends
  source_is : (number : ℕ) → number < length (rels_at g t) → source g (rel t number) ≡ Some (node k.from (get_or (near_ends g t Forward) number 0))
  unfolding source
  source_is number low =
      let r = get_some (rels_at g t) number low in
      ap₂ source_in table_is r.1 ∙ ap (λ row. Some (node k.from row)) (sym (ends_at Forward (rels_at g t) number r.0 r.1))

  target_is : (number : ℕ) → number < length (rels_at g t) → target g (rel t number) ≡ Some (node k.to (get_or (near_ends g t Backward) number 0))
  unfolding target
  target_is number low =
      let r = get_some (rels_at g t) number low in
      ap₂ target_in table_is r.1 ∙ ap (λ row. Some (node k.to row)) (sym (ends_at Backward (rels_at g t) number r.0 r.1))

  near_is : (way : Direction) (number : ℕ) → number < length (rels_at g t) → near g way (rel t number) ≡ Some (node (near_table way k) (get_or (near_ends g t way) number 0))
  near_is Forward number low = source_is number low
  near_is Backward number low = target_is number low

  far_is : (way : Direction) (number : ℕ) → number < length (rels_at g t) → far g way (rel t number) ≡ Some (node (far_table way k) (get_or (near_ends g t (opposite way)) number 0))
  far_is Forward number low = target_is number low
  far_is Backward number low = source_is number low

  -- those of a table are met at nodes of one table alone
  not_met : (way : Direction) (n : NodeId) → nat_eq (near_table way k) n.table ≡ false → (count first : ℕ) → first + count ≤ length (rels_at g t)
      → filter (λ r. at_same (Some n) (near g way r)) (map (rel t) (range_with_len first count)) ≡ []
  not_met way n other zero first high = refl
  not_met way n other (suc count) first high =
      let here : near g way (rel t first) ≡ Some (node (near_table way k) (get_or (near_ends g t way) first 0)) = near_is way first (omega arith) in
      let apart : nat_eq n.table (near_table way k) ≡ false = nat_eq_turn (near_table way k) n.table ∙ other in
      rw (here, apart) (not_met way n other count (first + 1) (omega arith))

  pub none_met : (way : Direction) (n : NodeId) → nat_eq (near_table way k) n.table ≡ false → filter (λ r. at_same (Some n) (near g way r)) (rels_of g t) ≡ []
  unfolding rels_of
  none_met way n other = not_met way n other (length (rels_at g t)) 0 (omega arith)

  -- the relationships of a table that are met at a node
  pub met_at : (way : Direction) (n : NodeId) → n.table ≡ near_table way k → filter (λ r. at_same (Some n) (near g way r)) (rels_of g t) ≡ map (rel t) (numbers g t way n.row)
  unfolding rels_of
  met_at way n lies =
      let ends : List ℕ = near_ends g t way in
      let many : length (rels_at g t) ≡ length ends = sym (length-ends way (rels_at g t)) in
      ap (λ m. filter (λ r. at_same (Some n) (near g way r)) (map (rel t) (range_with_len 0 m))) many
      ∙ met (near g way) t n (near_table way k) lies ends 0
      (λ i low. let at : 0 + i ≡ i = omega arith in ap (λ j. near g way (rel t j)) at ∙ near_is way i (omega (arith, length-ends way (rels_at g t))))

  both_ends : (way : Direction) → length (near_ends g t (opposite way)) ≡ length (near_ends g t way)
  both_ends way = length-ends (opposite way) (rels_at g t) ∙ sym (length-ends way (rels_at g t))

  pub as_many : (way : Direction) (row : ℕ) → length (numbers g t way row) ≡ length (neighbours g t way row)
  as_many way row = one_length row (near_ends g t way) _ _ (length-range_with_len 0 (length (near_ends g t way))) (both_ends way)

  -- the relationship at a place leads where the stored graph says
  pub hop_leads : (way : Direction) (row place : ℕ) (h : Edge) → IsEdge g t way row place h → far g way (rel t h.number) ≡ Some (node (far_table way k) h.row)
  hop_leads way row place h is =
      let from : List ℕ = near_ends g t way in
      let items : List ℕ = near_ends g t (opposite way) in
      let low : place < length (neighbours g t way row) = slice_get_within (neighbours g t way row) place h.row is.leads in
      let p = picked row from items place (both_ends way) low in
      let number_is : Some h.number ≡ Some p.0 = sym is.number ∙ pick_number row from items place p.0 (both_ends way) low p.1 in
      let row_is : Some h.row ≡ Some (get_or items p.0 0) = sym is.leads ∙ pick_some row from items place p.0 (both_ends way) low p.1 in
      let same_number : h.number ≡ p.0 = cc in
      let same_row : h.row ≡ get_or items p.0 0 = cc in
      let within : p.0 < length from = p.1.within in
      ap (λ j. far g way (rel t j)) same_number ∙ far_is way p.0 (omega (arith, length-ends way (rels_at g t)))
      ∙ ap (λ r. Some (node (far_table way k) r)) (sym same_row)

  pub hop_next : (way : Direction) (row place : ℕ) (h : Edge) → IsEdge g t way row place h → drop place (numbers g t way row) ≡ h.number ∷ drop (place + 1) (numbers g t way row)
  hop_next way row place h is =
      drop_more (numbers g t way row) place 0 (slice_get_within (numbers g t way row) place h.number is.number)
      ∙ ap (λ j. j ∷ drop (place + 1) (numbers g t way row)) (get_or_from_slice_get (numbers g t way row) place h.number 0 is.number)

  pub hop_none : (way : Direction) (row place : ℕ) → length (neighbours g t way row) ≤ place → drop place (numbers g t way row) ≡ []
  hop_none way row place high = drop_all place (numbers g t way row) (omega (arith, as_many way row))
