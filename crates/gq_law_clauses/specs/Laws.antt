-- The laws of optional clauses: what plans make of a clause's alternatives are its matches, each once; and what clauses make of a row
-- does not hang on the order in which their matches are listed.
use Rattle.std.specs.Prelude.{ℕ, IsTrue, IsPermutation, List, [], ◌∷◌, map}
use Rattle.std.specs.List.{AllZip}
use Rattle.gq_base.specs.Plain.{Graph}
use Rattle.gq_base.specs.Valid.{is_valid}
use Rattle.gq_bound.specs.Optionals.{AreOptional, IsOptional, clause_matches}
use Rattle.gq_law_answers.specs.Answered.{meanings}
use Rattle.gq_plan.specs.Assignments.{Assignment}
use Rattle.gq_plan.specs.Covers.{Covers}
use Rattle.gq_plan.specs.Marked.{Marked}
use Rattle.gq_plan.specs.Plans.{Plan}
use Rattle.gq_plan.specs.declared.bound.OptionalPart.{OptionalPart}
use Rattle.gq_scopes.specs.Patterns.{Pattern}
use Rattle.gq_ast.specs.declared.Clause.{Clause}
use Rattle.gq_outer.specs.Clauses.{after_clauses}

-- ---- one clause

-- what covering plans make of the alternatives of an optional clause are its matches, each once
abbrev pub ClausePlansMeanMatches : Type 0
ClausePlansMeanMatches =
    (g : Graph) (text : List ℕ) (number : ℕ) (before : Pattern) (c : Clause) (part : OptionalPart) (plans : List Plan)
    → IsTrue (is_valid g) → IsOptional text g.catalog number before c part → AllZip (Covers g.catalog) part.alternatives plans
    → IsPermutation (meanings g part.alternatives plans) (clause_matches g c)

-- ---- all clauses

-- plans that cover the alternatives of a clause
abbrev pub AreCovered : Graph → OptionalPart → List Plan → Type 0
AreCovered g part plans = AllZip (Covers g.catalog) part.alternatives plans

-- what they make, clause by clause
abbrev pub lists_made : Graph → List OptionalPart → List (List Plan) → List (List Assignment)
lists_made g [] plans = []
lists_made g (part ∷ parts) [] = []
lists_made g (part ∷ parts) (plans ∷ rest) = meanings g part.alternatives plans ∷ lists_made g parts rest

-- lists of the same items, one by one, each in an order of its own
abbrev pub AreSameBags : List (List Assignment) → List (List Assignment) → Type 0
AreSameBags mss nss = AllZip (λ (ms ns : List Assignment). IsPermutation ms ns) mss nss

-- what they make are the matches of the clauses
abbrev pub PlansMeanClauses : Type 0
PlansMeanClauses =
    (g : Graph) (text : List ℕ) (number : ℕ) (before : Pattern) (cs : List Clause) (parts : List OptionalPart) (plans : List (List Plan))
    → IsTrue (is_valid g) → AreOptional text g.catalog number before cs parts → AllZip (AreCovered g) parts plans
    → AreSameBags (lists_made g parts plans) (map (clause_matches g) cs)

-- and what clauses make of a row is one bag, in whichever order the matches of each are listed
abbrev pub ClausesAreOfBags : Type 0
ClausesAreOfBags =
    (g : Graph) (known : List ℕ) (parts : List OptionalPart) (mss nss : List (List Assignment)) (m : Marked)
    → AreSameBags mss nss → IsPermutation (after_clauses g known parts mss m) (after_clauses g known parts nss m)
