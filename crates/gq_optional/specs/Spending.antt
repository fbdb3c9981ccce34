-- What the pipelines spend that list the matches of optional clauses (this project's profile).
use Rattle.std.specs.Prelude.{◌≡◌, List, [], ◌∷◌, ◌++◌, flat_map}
use Rattle.std.specs.List.{AllZip}
use Rattle.gq_base.specs.Plain.{Graph}
use Rattle.gq_pipe.specs.Spending.{HasSpentAll, runs_of}
use Rattle.gq_homes.specs.declared.spent.Spent.{Spent}
use Rattle.gq_plan.specs.Plans.{Plan}
use Rattle.gq_plan.specs.declared.bound.OptionalPart.{OptionalPart}
use Rattle.gq_plan.specs.declared.typed.Typed.{Typed}

-- what the pipelines of an alternative spent: those of its plan's side plans, each behind those of its own, and the plan's
pub record Listing : Type 0 where
  pub sides : List Spent
  pub own : Spent

-- the same one after another
abbrev pub spent_on_each : List Listing → List Spent
spent_on_each ls = flat_map (λ (l : Listing). l.sides ++ l.own ∷ []) ls

-- each handed out all that it made
pub record IsListing (g : Graph) (y : Typed) (p : Plan) (l : Listing) : Type 0 where
  pub sides : AllZip (HasSpentAll g y) (runs_of p) l.sides
  pub own : HasSpentAll g y p l.own

-- the same for a plan of each alternative
abbrev pub HasListed : Graph → List Typed → List Plan → List Listing → Type 0
HasListed g [] [] [] = Unit {0}
HasListed g (y ∷ ys) (p ∷ ps) (l ∷ ls) = IsListing g y p l × HasListed g ys ps ls
HasListed g ys ps ls = ⊥

-- the same for each clause
abbrev pub HaveListed : Graph → List OptionalPart → List (List Plan) → List (List Listing) → Type 0
HaveListed g [] [] [] = Unit {0}
HaveListed g (part ∷ parts) (ps ∷ pss) (ls ∷ lss) = HasListed g part.alternatives ps ls × HaveListed g parts pss lss
HaveListed g parts pss lss = ⊥

-- so much was spent, clause by clause and alternative by alternative
pub record HasSpentListed (g : Graph) (parts : List OptionalPart) (pss : List (List Plan)) (spent : List Spent) : Type 0 where
  pub listed : List (List Listing)
  pub each : HaveListed g parts pss listed
  pub all : spent ≡ flat_map spent_on_each listed
