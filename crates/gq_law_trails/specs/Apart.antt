-- The law that trails which are free of what is used before them are all different, clause by clause.
use Rattle.std.specs.Prelude.{◌≡◌, ℕ, nat_eq, Bool, true, ◌&&◌, List, [], ◌∷◌, ◌++◌, length, if◌then◌else◌}
use Rattle.std.specs.List.{list_all}
use Rattle.gq_base.specs.Lists.{all_distinct}
use Rattle.gq_base.specs.declared.RelId.{RelId}
use Rattle.gq_plan.specs.Assignments.{same_rel}
use Rattle.gq_law_trails.specs.Trails.{used_in}
use Rattle.gq_law_trails.specs.Walks.{are_free}
use Rattle.gq_plan.specs.declared.TrailPart.{TrailPart}

-- each list is free of what trails before it, and relationship patterns, of its clause have
abbrev pub frees : (ℕ → List RelId) → List TrailPart → List (ℕ × List RelId) → List (List RelId) → Bool
frees patterns [] ws ls = true
frees patterns (p ∷ ps) ws [] = true
frees patterns (p ∷ ps) ws (l ∷ ls) = are_free (used_in patterns ws p.clause) l && frees patterns ps ((p.clause, l) ∷ ws) ls

-- the lists of a clause's trails, one behind another
abbrev pub lists_for : ℕ → List TrailPart → List (List RelId) → List RelId
lists_for clause [] ls = []
lists_for clause (p ∷ ps) [] = []
lists_for clause (p ∷ ps) (l ∷ ls) = (if nat_eq p.clause clause then l else []) ++ lists_for clause ps ls

-- where the relationships of patterns are different in each clause, lists are free, one behind another, exactly where in the clause
-- of each trail all relationships are different
abbrev pub FreesAreDistinct : Type 0
FreesAreDistinct =
    (patterns : ℕ → List RelId) (ps : List TrailPart) (ls : List (List RelId)) → length ps ≡ length ls → ((clause : ℕ) → all_distinct same_rel (patterns clause) ≡ true)
    → frees patterns ps [] ls ≡ list_all (λ (p : TrailPart). all_distinct same_rel (patterns p.clause ++ lists_for p.clause ps ls)) ps
