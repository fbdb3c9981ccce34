-- What is held of optional clauses: what plans of their alternatives make, and where that is too much.
use Rattle.std.specs.Prelude.{◌≡◌, ℕ, ◌<◌, ◌≤◌, ◌⊎◌, true, false, IsPermutation, List, [], ◌∷◌, length}
use Rattle.std.specs.List.{AllZip}
use Rattle.gq_base.specs.Catalogs.{Tables}
use Rattle.gq_base.specs.Plain.{Graph}
use Rattle.gq_join.specs.declared.build.JoinRefusal.{JoinRefusal}
use Rattle.gq_join.specs.declared.build.JoinRefusal.TheVariants as refusal
use Rattle.gq_law_answers.specs.Answered.{meanings}
use Rattle.gq_pipe.specs.Limits.{sides_within}
use Rattle.gq_plan.specs.Assignments.{Assignment}
use Rattle.gq_plan.specs.Covers.{Covers}
use Rattle.gq_plan.specs.Meaning.{meaning}
use Rattle.gq_plan.specs.Plans.{Plan}
use Rattle.gq_plan.specs.declared.bound.OptionalPart.{OptionalPart}
use Rattle.gq_plan.specs.declared.typed.Typed.{Typed}

-- a plan for each alternative of a clause, which covers it
abbrev pub AreCovered : Tables → OptionalPart → List Plan → Type 0
AreCovered catalog part ps = AllZip (Covers catalog) part.alternatives ps

-- for each clause a list of what its plans make, in some order
abbrev pub AreListed : Graph → List OptionalPart → List (List Plan) → List (List Assignment) → Type 0
AreListed g [] [] [] = Unit {0}
AreListed g (part ∷ parts) (ps ∷ pss) (list ∷ lists) =
    IsPermutation list (meanings g part.alternatives ps) × AreListed g parts pss lists
AreListed g parts pss lists = ⊥

-- ---- where that is too much

-- a plan and its side plans each make at most so many assignments
pub record IsFew (g : Graph) (limit : ℕ) (y : Typed) (p : Plan) : Type 0 where
  pub own : length (meaning g y p) ≤ limit
  pub sides : sides_within g y limit p ≡ true

-- the same of a plan for each alternative of each clause
abbrev pub AreFew : Graph → ℕ → List OptionalPart → List (List Plan) → Type 0
AreFew g limit parts pss = AllZip (λ (part : OptionalPart) ps. AllZip (IsFew g limit) part.alternatives ps) parts pss

-- a plan, or a side plan of it, makes more
abbrev pub IsPast : Graph → ℕ → Typed → Plan → Type 0
IsPast g limit y p = (limit < length (meaning g y p)) ⊎ (sides_within g y limit p ≡ false)

-- some of the plans of alternatives does
abbrev pub SomePast : Graph → ℕ → List Typed → List Plan → Type 0
SomePast g limit (y ∷ ys) (p ∷ ps) = IsPast g limit y p ⊎ SomePast g limit ys ps
SomePast g limit ys ps = ⊥

-- some of those of clauses does
abbrev pub SomeClausePast : Graph → ℕ → List OptionalPart → List (List Plan) → Type 0
SomeClausePast g limit (part ∷ parts) (ps ∷ pss) = SomePast g limit part.alternatives ps ⊎ SomeClausePast g limit parts pss
SomeClausePast g limit parts pss = ⊥

-- TooManyRows only where one does; want of memory may come at any time
abbrev pub IsRefusal : Graph → ℕ → List OptionalPart → List (List Plan) → JoinRefusal → Type 0
IsRefusal g limit parts pss (refusal.TooManyRows l) = (l ≡ limit) × SomeClausePast g limit parts pss
IsRefusal g limit parts pss (refusal.Memory why) = Unit {0}
