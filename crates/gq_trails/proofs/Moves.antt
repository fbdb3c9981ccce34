-- How the moves of trails change what is owed.
use Rattle.std.proofs.Common.{◌≡◌, ℕ, List, [], ◌∷◌, ◌++◌, map, flat_map, refl, ap, ◌∙◌}
use Rattle.std.proofs.lemmas.List.{append-nil}
use Rattle.gq_base.specs.Plain.{Graph}
use Rattle.gq_base.specs.declared.RelId.{RelId}
use Rattle.gq_plan.specs.Meaning.{Partial}
use Rattle.gq_law_trails.specs.Trails.{Trailing, after_trails, walks_from, with_list}
use Rattle.gq_plan.specs.declared.TrailPart.{TrailPart}
use Rattle.gq_trails.specs.steps.Treks.{Frame, Turn, around, met_by, ways_by, wrapped}

module _ (g : Graph) (patterns : ℕ → List RelId) where
  -- a trail's turn comes: its walker owes its walks
  pub starts : (p : TrailPart) (ps : List TrailPart) (a : Partial) (ws : List (ℕ × List RelId))
      → after_trails g patterns (p ∷ ps) a ws ≡ flat_map (ways_by g patterns (record { part = p; later = ps; row = a; walked = ws })) (walks_from g patterns p a ws)
  unfolding after_trails
  starts p ps a ws = refl

  -- its walker goes on, and the walk ends where it may: the next trail's turn comes
  pub arrives : (fs : List Frame) (t : Turn) (l : List RelId) (rest : List (List RelId)) (b : Partial) → met_by g patterns t l ≡ b ∷ []
      → around g patterns fs (flat_map (ways_by g patterns t) (l ∷ rest))
      ≡ around g patterns (record { turn = t; rels = l; owed = rest } ∷ fs) (after_trails g patterns t.later b ((t.part.clause, l) ∷ t.walked))
  unfolding around
  arrives fs t l rest b one =
      ap (λ bs. around g patterns fs (flat_map (λ c. map (with_list l) (after_trails g patterns t.later c ((t.part.clause, l) ∷ t.walked))) bs ++ flat_map (ways_by g patterns t) rest)) one
      ∙ ap (λ ms. around g patterns fs (ms ++ flat_map (ways_by g patterns t) rest)) (append-nil (map (with_list l) (after_trails g patterns t.later b ((t.part.clause, l) ∷ t.walked))))

  -- or it does not
  pub misses : (fs : List Frame) (t : Turn) (l : List RelId) (rest : List (List RelId)) → met_by g patterns t l ≡ []
      → around g patterns fs (flat_map (ways_by g patterns t) (l ∷ rest)) ≡ around g patterns fs (flat_map (ways_by g patterns t) rest)
  misses fs t l rest none =
      ap (λ bs. around g patterns fs (flat_map (λ c. map (with_list l) (after_trails g patterns t.later c ((t.part.clause, l) ∷ t.walked))) bs ++ flat_map (ways_by g patterns t) rest)) none

  -- nothing is owed: it is again the turn of the trail before
  pub goes_back : (f : Frame) (fs : List Frame) → around g patterns (f ∷ fs) [] ≡ around g patterns fs (flat_map (ways_by g patterns f.turn) f.owed)
  unfolding around
  goes_back f fs = refl

  pub ends : around g patterns [] [] ≡ []
  unfolding around
  ends = refl

  -- all trails have walks: the first of what is owed is reached
  pub first_of : (fs : List Frame) (m : Trailing) (ms : List Trailing) → around g patterns fs (m ∷ ms) ≡ wrapped fs m ∷ around g patterns fs ms
  unfolding around wrapped
  first_of [] m ms = refl
  first_of (f ∷ fs) m ms = first_of fs (with_list f.rels m) (map (with_list f.rels) ms ++ flat_map (ways_by g patterns f.turn) f.owed)

  pub reached : (f : Frame) (fs : List Frame) (b : Partial)
      → around g patterns (f ∷ fs) (after_trails g patterns [] b ((f.turn.part.clause, f.rels) ∷ f.turn.walked))
      ≡ wrapped (f ∷ fs) (record { row = b; lists = [] }) ∷ around g patterns fs (flat_map (ways_by g patterns f.turn) f.owed)
  unfolding after_trails around
  reached f fs b = first_of (f ∷ fs) (record { row = b; lists = [] }) []
