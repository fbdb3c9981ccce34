-- What is held of optional clauses while it is gathered, alternative by alternative and clause by clause.
use Rattle.std.specs.Prelude.{◌≡◌, ℕ, All, IsPermutation, List, [], ◌∷◌, ◌++◌, flat_map, length, map}
use Rattle.std.specs.List.{AllByRecursion, range_with_len}
use Rattle.gq_base.specs.Catalogs.{Tables}
use Rattle.gq_base.specs.Plain.{Graph}
use Rattle.gq_join.specs.declared.build.JoinRefusal.{JoinRefusal}
use Rattle.gq_join.specs.declared.build.JoinRefusal.TheVariants as refusal
use Rattle.gq_homes.specs.declared.spent.Spent.{Spent}
use Rattle.gq_plan.specs.Meaning.{meaning}
use Rattle.gq_plan.specs.Plans.{Plan}
use Rattle.gq_plan.specs.Soundness.{IsSound, has_number}
use Rattle.gq_plan.specs.declared.bound.OptionalPart.{OptionalPart}
use Rattle.gq_plan.specs.declared.typed.Typed.{Typed}
use Rattle.gq_eval.specs.Asked.{asked_of}
use Rattle.gq_optional.specs.Made.{IsPast, SomePast}
use Rattle.gq_optional.specs.Spending.{HaveListed, HasListed, IsListing, Listing, spent_on_each}
use Rattle.gq_optional.specs.declared.clause.Clause.{Clause}
use Rattle.gq_optional.specs.declared.clause.Matches.{Matches}
use Rattle.gq_optional.specs.steps.Listed.{IsSized, matches_in}
use Rattle.gq_optional.specs.steps.Looked.{places_of}

-- ---- one alternative

-- a build of all variables of an alternative, by these keys, holds what a plan makes
pub record IsMatches (g : Graph) (y : Typed) (p : Plan) (keys : List ℕ) (m : Matches) : Type 0 where
  pub typed : m.typed.now ≡ y
  pub nodes : m.build.nodes ≡ range_with_len 0 (length y.nodes)
  pub rels : m.build.rels ≡ range_with_len 0 (length y.rels)
  pub keyed : m.build.keys ≡ keys
  pub sized : AllByRecursion (IsSized (length y.nodes) (length y.rels)) m.build.rows
  pub list : IsPermutation (matches_in m) (meaning g y p)

abbrev pub AreMatches : Graph → List Typed → List Plan → List ℕ → List Matches → Type 0
AreMatches g [] [] keys [] = Unit {0}
AreMatches g (y ∷ ys) (p ∷ ps) keys (m ∷ ms) = IsMatches g y p keys m × AreMatches g ys ps keys ms
AreMatches g ys ps keys ms = ⊥

-- what was spent for it stands behind what was spent before
pub record HasSpentOne (g : Graph) (y : Typed) (p : Plan) (old new : List Spent) : Type 0 where
  pub listing : Listing
  pub is : IsListing g y p listing
  pub all : new ≡ old ++ spent_on_each (listing ∷ [])

pub record HasSpentEach (g : Graph) (ys : List Typed) (ps : List Plan) (old new : List Spent) : Type 0 where
  pub listings : List Listing
  pub are : HasListed g ys ps listings
  pub all : new ≡ old ++ spent_on_each listings

-- the matches of alternatives stand behind those of others
pub record AddsMatches (g : Graph) (ys : List Typed) (ps : List Plan) (keys : List ℕ) (old new : List Matches) : Type 0 where
  pub more : List Matches
  pub are : AreMatches g ys ps keys more
  pub all : new ≡ old ++ more

-- TooManyRows only where a plan, or a side plan of it, makes too much
abbrev pub IsOneRefusal : Graph → ℕ → Typed → Plan → JoinRefusal → Type 0
IsOneRefusal g limit y p (refusal.TooManyRows l) = (l ≡ limit) × IsPast g limit y p
IsOneRefusal g limit y p (refusal.Memory why) = Unit {0}

abbrev pub IsEachRefusal : Graph → ℕ → List Typed → List Plan → JoinRefusal → Type 0
IsEachRefusal g limit ys ps (refusal.TooManyRows l) = (l ≡ limit) × SomePast g limit ys ps
IsEachRefusal g limit ys ps (refusal.Memory why) = Unit {0}

-- ---- one clause

-- a clause shares the variables that are known, holds what plans of its alternatives make, and asks its conjuncts over the graph
pub record IsClauseOf (g : Graph) (known : List ℕ) (part : OptionalPart) (ps : List Plan) (c : Clause) : Type 0 where
  pub is : c.part.now ≡ part
  pub shared : c.shared ≡ map (has_number known) part.nodes
  pub asks : c.conjuncts ≡ asked_of g part.conjuncts
  pub matches : AreMatches g part.alternatives ps (places_of 0 (map (has_number known) part.nodes)) c.matches.items

-- the variables of a clause are known to those behind it
abbrev pub AreClausesOf : Graph → List ℕ → List OptionalPart → List (List Plan) → List Clause → Type 0
AreClausesOf g known [] [] [] = Unit {0}
AreClausesOf g known (part ∷ parts) (ps ∷ pss) (c ∷ cs) = IsClauseOf g known part ps c × AreClausesOf g (known ++ part.nodes) parts pss cs
AreClausesOf g known parts pss cs = ⊥

pub record AddsClauses (g : Graph) (known : List ℕ) (parts : List OptionalPart) (pss : List (List Plan)) (old new : List Clause) : Type 0 where
  pub more : List Clause
  pub are : AreClausesOf g known parts pss more
  pub all : new ≡ old ++ more

pub record HasSpentClauses (g : Graph) (parts : List OptionalPart) (pss : List (List Plan)) (old new : List Spent) : Type 0 where
  pub listed : List (List Listing)
  pub are : HaveListed g parts pss listed
  pub all : new ≡ old ++ flat_map spent_on_each listed

-- the alternatives of a clause are sound, and have its node variables
pub record CanHold (catalog : Tables) (part : OptionalPart) : Type 0 where
  pub sound : All (IsSound catalog) part.alternatives
  pub nodes : All (λ y. length y.nodes ≡ length part.nodes) part.alternatives
