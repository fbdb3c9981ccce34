-- The rows that the build of a join has for the key that stands, and what they have of the kept variables.
use Rattle.std.proofs.Common.{◌≡◌, ◌∙◌, ℕ, zero, suc, ◌<◌, true, None, Some, List, [], ◌∷◌, length, take, drop, slice_get, sym, ap, subst}
use Rattle.std.specs.Prelude.{slice_index_or}
use Rattle.std.specs.List.{AllByRecursion}
use Rattle.gq_bits.specs.declared.TheConstants.{VECTOR}
use Rattle.gq_group.specs.Pieces.{items_of}
use Rattle.gq_group.specs.declared.piece.Piece.{Piece}
use Rattle.gq_join.specs.Kept.{Held, matches_of, place_of}
use Rattle.gq_plan.specs.Covers.{after}
use Rattle.gq_plan.specs.Halves.{runs_step}
use Rattle.gq_plan.specs.Known.{none}
use Rattle.gq_plan.specs.Plans.{Plan, Join}
use Rattle.gq_plan.specs.declared.assignment.Assignment.{Assignment}
use Rattle.gq_steps.specs.Built.{FitsBuild, HasBuild, IsBuildOf}
use Rattle.gq_pipe.specs.steps.Cells.{CanKeep}
use Rattle.gq_steps.specs.Pieces.{IsPieceOf, list_of, matches_in, part}
use Rattle.gq_steps.specs.Levels.{Run, known, step_at}
use Rattle.gq_steps.specs.Moves.{IsRun}
use Rattle.gq_steps.proofs.Binding.{fits_at}
use Rattle.gq_homes.proofs.Brings.{side_low}
use Rattle.gq_steps.proofs.Joined.{IsLow, build_at}
use Rattle.gq_steps.proofs.Joining.{has, has_kept}
use Rattle.gq_pipe.proofs.Pushing.{place_has}
use Rattle.gq_steps.proofs.Matched.{matches_low}

-- what holds of each number of a list holds of each of a part of it
pub all_part : (P : ℕ → Type 0) (n m : ℕ) (xs : List ℕ) → AllByRecursion P xs → AllByRecursion P (take n (drop m xs))
all_part P n m xs all = taken n (drop m xs) (dropped m xs all)
  where
    taken : (n : ℕ) (xs : List ℕ) → AllByRecursion P xs → AllByRecursion P (take n xs)
    taken zero xs all = tt
    taken (suc n) [] all = tt
    taken (suc n) (x ∷ xs) all = (all.0, taken n xs all.1)

    dropped : (m : ℕ) (xs : List ℕ) → AllByRecursion P xs → AllByRecursion P (drop m xs)
    dropped zero xs all = all
    dropped (suc m) [] all = tt
    dropped (suc m) (x ∷ xs) all = dropped m xs all.1

-- ---- the build of a join

module _ (c : Run) (run : IsRun c) (d : ℕ) (low : d < length c.steps) (side : Plan) (keys : List ℕ) (is : step_at c d ≡ Join side keys) where
  pub build_of : HasBuild c.graph c.typed side keys (slice_index_or c.builds d None)
  build_of = subst (λ s. FitsBuild c.graph c.typed s (slice_index_or c.builds d None)) is (build_at c.graph c.typed c.steps c.builds d run.builds low)

  -- what its side plan binds is kept
  module _ (h : Held) (built : IsBuildOf c.graph c.typed side keys h) where
    side_bound : IsLow c.typed (after side none)
    side_bound = side_low c (known c d) side keys (subst (λ t. runs_step c.graph.catalog c.typed t (known c d) ≡ true) is (fits_at c run d low))

    pub keeps_node : (v : ℕ) → (after side none).nodes v ≡ true → place_of h.nodes v < length h.nodes
    keeps_node v own = (place_has h.nodes v (ap (λ l. has l v) built.nodes ∙ has_kept (after side none).nodes (length c.typed.nodes) v (side_bound.nodes v own) ∙ own)).0

    pub keeps_rel : (x : ℕ) → (after side none).rels x ≡ true → place_of h.rels x < length h.rels
    keeps_rel x own = (place_has h.rels x (ap (λ l. has l x) built.rels ∙ has_kept (after side none).rels (length c.typed.rels) x (side_bound.rels x own) ∙ own)).0

-- the items of a piece of its list are rows of it
pub piece_rows : (c : Run) (d : ℕ) (row : Assignment) (side : Plan) (keys : List ℕ) → step_at c d ≡ Join side keys → (h : Held) → slice_index_or c.builds d None ≡ Some h → (p : Piece) (first : ℕ) → IsPieceOf c d row first p
    → AllByRecursion (λ r. r < length h.rows) (items_of p)
piece_rows c d row side keys is h there p first piece =
    let list : list_of c d row (step_at c d) ≡ matches_of h row = ap (list_of c d row) is ∙ ap (λ o. matches_in o row) there in
    subst (AllByRecursion (λ r. r < length h.rows)) (sym (piece.items_are ∙ ap (λ l. part l first) list))
    (all_part (λ r. r < length h.rows) VECTOR first (matches_of h row) (matches_low h row))

-- so a node variable that is kept has a row at each position
pub row_kept : (h : Held) (v : ℕ) (rows : List ℕ) (p : ℕ) → AllByRecursion (λ r. r < length h.rows) rows → place_of h.nodes v < length h.nodes → CanKeep (Some h) (slice_get rows p) v
row_kept h v [] p all kept = tt
row_kept h v (r ∷ rows) zero all kept = (all.0, kept)
row_kept h v (r ∷ rows) (suc p) all kept = row_kept h v rows p all.1 kept
