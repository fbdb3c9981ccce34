-- Trails are met exactly where each is as it is meant, and all relationships of a clause are different.
use Rattle.std.proofs.Common.{◌≡◌, ℕ, Bool, false, ◌&&◌, List, [], ◌∷◌, refl, ap, ap₂, ◌∙◌, arith}
use Rattle.gq_base.specs.Plain.{Graph}
use Rattle.gq_base.specs.declared.RelId.{RelId}
use Rattle.gq_plan.specs.Assignments.{Assignment}
use Rattle.gq_law_trails.specs.Trails.{used_in}
use Rattle.gq_law_trails.specs.Walks.{are_free}
use Rattle.gq_plan.specs.declared.TrailPart.{TrailPart}
use Rattle.gq_law_trails.specs.Apart.{frees}
use Rattle.gq_law_trails.specs.Asked.{TrailsMetAsMeant, trail_asked, trails_asked}
use Rattle.gq_law_trails.specs.Met.{trail_met, trails_met}
use Rattle.gq_law_trails.proofs.Apart.{frees_distinct}
use Rattle.gq_law_trails.proofs.AsMeant.{trail_meant}

free_last : (r x f e : Bool) → ((r && (x && f)) && e) ≡ (((r && x) && e) && f)
free_last r x f e = grind arith

pairs : (a b c d : Bool) → ((a && b) && (c && d)) ≡ ((a && c) && (b && d))
pairs a b c d = grind arith

and_none : (b : Bool) → false ≡ (false && b)
and_none b = refl

module _ (g : Graph) (patterns : ℕ → List RelId) (t : Assignment) where
  asked_one : (p : TrailPart) (ws : List (ℕ × List RelId)) (l : List RelId) → trail_met g patterns p t ws l ≡ (trail_asked g p t l && are_free (used_in patterns ws p.clause) l)
  asked_one p ws l = trail_meant g patterns p t ws l ∙ free_last _ _ (are_free (used_in patterns ws p.clause) l) _

  asked_all : (ps : List TrailPart) (ws : List (ℕ × List RelId)) (ls : List (List RelId)) → trails_met g patterns ps t ws ls ≡ (trails_asked g ps t ls && frees patterns ps ws ls)
  asked_all [] ws [] = refl
  asked_all [] ws (l ∷ ls) = refl
  asked_all (p ∷ ps) ws [] = refl
  asked_all (p ∷ ps) ws (l ∷ ls) =
      ap₂ ◌&&◌ (asked_one p ws l) (asked_all ps ((p.clause, l) ∷ ws) ls)
      ∙ pairs (trail_asked g p t l) (are_free (used_in patterns ws p.clause) l) (trails_asked g ps t ls) (frees patterns ps ((p.clause, l) ∷ ws) ls)

pub trails_meant : TrailsMetAsMeant
trails_meant g patterns ps t ls e apart =
    asked_all g patterns t ps [] ls ∙ ap (λ b. trails_asked g ps t ls && b) (frees_distinct patterns ps ls e apart)
