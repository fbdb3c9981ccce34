-- One answer more: about a place of a piece, a row of a table, a node.
use Rattle.std.proofs.Common.{◌≡◌, ◌≢◌, ◌⊎◌, inl, inr, ◌∙◌, ◌<◌, ◌/◌, ◌%◌, ℕ, zero, suc, Bool, Some, None, List, [], ◌∷◌, ◌++◌, length, set, refl, sym, ap, ap₂, subst, arith}
use Rattle.std.specs.Prelude.{IfSome, slice_get}
use Rattle.std.proofs.lemmas.Bool.{cases_eq}
use Rattle.gq_base.specs.Plain.{Graph}
use Rattle.gq_base.specs.declared.NodeId.{NodeId}
use Rattle.gq_bits.specs.declared.TheConstants.{VECTOR}
use Rattle.gq_law_trails.specs.Trails.{fits_end}
use Rattle.gq_plan.specs.declared.TrailPart.{TrailPart}
use Rattle.gq_ends.specs.declared.answers.PieceAnswers.{PieceAnswers}
use Rattle.gq_ends.specs.declared.answers.TableAnswers.{TableAnswers}
use Rattle.gq_ends.specs.steps.Answers.{AreRight, Tells, at_node, at_place, at_row, in_piece, in_pieces, in_table}

-- ---- lists

get_set_same : {X : Type 0} (xs : List X) (i : ℕ) (y : X) → i < length xs → slice_get (set xs i y) i ≡ Some y
get_set_same [] i y low = absurd (omega arith)
get_set_same (x ∷ xs) zero y low = refl
get_set_same (x ∷ xs) (suc i) y low = get_set_same xs i y (omega arith)

get_set_other : {X : Type 0} (xs : List X) (i j : ℕ) (y : X) → j ≢ i → slice_get (set xs i y) j ≡ slice_get xs j
get_set_other [] i j y other = refl
get_set_other (x ∷ xs) zero zero y other = absurd (other refl)
get_set_other (x ∷ xs) zero (suc j) y other = refl
get_set_other (x ∷ xs) (suc i) zero y other = refl
get_set_other (x ∷ xs) (suc i) (suc j) y other = get_set_other xs i j y (λ same. other (ap suc same))

-- ---- nothing was asked

pub piece_added : (xs : List PieceAnswers) (p : PieceAnswers) → ((place : ℕ) → at_place p place ≡ None) → ((i place : ℕ) → in_piece (slice_get xs i) place ≡ None)
    → (i place : ℕ) → in_piece (slice_get (xs ++ p ∷ []) i) place ≡ None
piece_added [] p none all zero place = none place
piece_added [] p none all (suc i) place = refl
piece_added (x ∷ xs) p none all zero place = all 0 place
piece_added (x ∷ xs) p none all (suc i) place = piece_added xs p none (λ j. all (suc j)) i place

pub table_added : (xs : List TableAnswers) (t : TableAnswers) → ((row : ℕ) → at_row t row ≡ None) → ((i row : ℕ) → in_table (slice_get xs i) row ≡ None)
    → (i row : ℕ) → in_table (slice_get (xs ++ t ∷ []) i) row ≡ None
table_added [] t none all zero row = none row
table_added [] t none all (suc i) row = refl
table_added (x ∷ xs) t none all zero row = all 0 row
table_added (x ∷ xs) t none all (suc i) row = table_added xs t none (λ j. all (suc j)) i row

-- ---- a row

module _ (xs : List PieceAnswers) (old new : PieceAnswers) (row : ℕ) (b : Bool) (here : slice_get xs (row / VECTOR) ≡ Some old) (low : row / VECTOR < length xs) (tells : Tells (at_place old) (at_place new) (row % VECTOR) b) where
  pub row_told : Tells (in_pieces xs) (in_pieces (set xs (row / VECTOR) new)) row b
  row_told k = at (cases_eq (k / VECTOR) (row / VECTOR))
    where
      at : (k / VECTOR ≡ row / VECTOR) ⊎ (k / VECTOR ≡ row / VECTOR → ⊥)
          → (in_pieces (set xs (row / VECTOR) new) k ≡ in_pieces xs k) ⊎ ((k ≡ row) × (in_pieces (set xs (row / VECTOR) new) k ≡ Some b))
      at (inr other) = inl (ap (λ o. in_piece o (k % VECTOR)) (get_set_other xs (row / VECTOR) (k / VECTOR) new other))
      at (inl same) = within (tells (k % VECTOR))
        where
          now : in_pieces (set xs (row / VECTOR) new) k ≡ at_place new (k % VECTOR)
          now = ap (λ o. in_piece o (k % VECTOR)) (ap (slice_get (set xs (row / VECTOR) new)) same ∙ get_set_same xs (row / VECTOR) new low)

          before : in_pieces xs k ≡ at_place old (k % VECTOR)
          before = ap (λ o. in_piece o (k % VECTOR)) (ap (slice_get xs) same ∙ here)

          within : (at_place new (k % VECTOR) ≡ at_place old (k % VECTOR)) ⊎ ((k % VECTOR ≡ row % VECTOR) × (at_place new (k % VECTOR) ≡ Some b))
              → (in_pieces (set xs (row / VECTOR) new) k ≡ in_pieces xs k) ⊎ ((k ≡ row) × (in_pieces (set xs (row / VECTOR) new) k ≡ Some b))
          within (inl stays) = inl (now ∙ stays ∙ sym before)
          within (inr told) = (let place = told.0 in inr (omega (arith, same, place), now ∙ told.1))

-- ---- a node

node_is : (n m : NodeId) → n.table ≡ m.table → n.row ≡ m.row → n ≡ m
node_is n m table row = ap₂ {C = NodeId} (λ t r. record { table = t; row = r }) table row

module _ (xs : List TableAnswers) (old new : TableAnswers) (n : NodeId) (b : Bool) (here : slice_get xs n.table ≡ Some old) (low : n.table < length xs) (tells : Tells (at_row old) (at_row new) n.row b) where
  pub node_told : Tells (at_node xs) (at_node (set xs n.table new)) n b
  node_told m = at (cases_eq m.table n.table)
    where
      at : (m.table ≡ n.table) ⊎ (m.table ≡ n.table → ⊥)
          → (at_node (set xs n.table new) m ≡ at_node xs m) ⊎ ((m ≡ n) × (at_node (set xs n.table new) m ≡ Some b))
      at (inr other) = inl (ap (λ o. in_table o m.row) (get_set_other xs n.table m.table new other))
      at (inl same) = within (tells m.row)
        where
          now : at_node (set xs n.table new) m ≡ at_row new m.row
          now = ap (λ o. in_table o m.row) (ap (slice_get (set xs n.table new)) same ∙ get_set_same xs n.table new low)

          before : at_node xs m ≡ at_row old m.row
          before = ap (λ o. in_table o m.row) (ap (slice_get xs) same ∙ here)

          within : (at_row new m.row ≡ at_row old m.row) ⊎ ((m.row ≡ n.row) × (at_row new m.row ≡ Some b))
              → (at_node (set xs n.table new) m ≡ at_node xs m) ⊎ ((m ≡ n) × (at_node (set xs n.table new) m ≡ Some b))
          within (inl stays) = inl (now ∙ stays ∙ sym before)
          within (inr told) = inr (node_is m n same told.0, now ∙ told.1)

-- ---- right answers

pub right_still : (g : Graph) (p : TrailPart) (old new : List TableAnswers) (n : NodeId) (b : Bool) → AreRight g p old → Tells (at_node old) (at_node new) n b
    → b ≡ fits_end g p n → AreRight g p new
right_still g p old new n b right tells told m = at (tells m)
  where
    at : (at_node new m ≡ at_node old m) ⊎ ((m ≡ n) × (at_node new m ≡ Some b)) → IfSome (at_node new m) (λ c. c ≡ fits_end g p m)
    at (inl stays) = subst (λ o. IfSome o (λ c. c ≡ fits_end g p m)) (sym stays) (right m)
    at (inr here) = subst (λ o. IfSome o (λ c. c ≡ fits_end g p m)) (sym here.1) (told ∙ ap (fits_end g p) (sym here.0))

pub none_right : (g : Graph) (p : TrailPart) (answers : List TableAnswers) → ((n : NodeId) → at_node answers n ≡ None) → AreRight g p answers
none_right g p answers none m = subst (λ o. IfSome o (λ c. c ≡ fits_end g p m)) (sym (none m)) tt
