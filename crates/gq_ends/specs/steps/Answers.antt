-- What was answered of the rows of tables.
use Rattle.std.specs.Prelude.{◌≡◌, ◌⊎◌, ℕ, ◌/◌, ◌%◌, Bool, Option, None, Some, IfSome, List, [], slice_get, if◌then◌else◌}
use Rattle.gq_base.specs.Plain.{Graph}
use Rattle.gq_base.specs.declared.NodeId.{NodeId}
use Rattle.gq_bits.specs.Places.{is_marked}
use Rattle.gq_bits.specs.declared.TheConstants.{VECTOR}
use Rattle.gq_eval.specs.Asked.{Asked, asked_of}
use Rattle.gq_expr.specs.Reading as reading
use Rattle.gq_law_trails.specs.Trails.{fits_end}
use Rattle.gq_plan.specs.Conditions.{passes}
use Rattle.gq_plan.specs.declared.TrailPart.{TrailPart}
use Rattle.gq_ends.specs.Ends.{OtherEnd}
use Rattle.gq_ends.specs.declared.answers.PieceAnswers.{PieceAnswers}
use Rattle.gq_ends.specs.declared.answers.TableAnswers.{TableAnswers}
use Rattle.gq_ends.specs.declared.trail_end.TrailEnd.TheInside.{Inside}

-- the answer at a place, if it was asked about
abbrev pub at_place : PieceAnswers → ℕ → Option Bool
at_place p place = if is_marked p.asked place then Some (is_marked p.passed place) else None

abbrev pub in_piece : Option PieceAnswers → ℕ → Option Bool
in_piece None place = None
in_piece (Some p) place = at_place p place

-- that about a row of a table, whose pieces these are
abbrev pub in_pieces : List PieceAnswers → ℕ → Option Bool
in_pieces pieces row = in_piece (slice_get pieces (row / VECTOR)) (row % VECTOR)

abbrev pub at_row : TableAnswers → ℕ → Option Bool
at_row t row = in_pieces t.pieces.items row

abbrev pub in_table : Option TableAnswers → ℕ → Option Bool
in_table None row = None
in_table (Some t) row = at_row t row

-- that about a node
abbrev pub at_node : List TableAnswers → NodeId → Option Bool
at_node ts n = in_table (slice_get ts n.table) n.row

-- all answers stay but one, which may be new
abbrev pub Tells : {X : Type 0} → (X → Option Bool) → (X → Option Bool) → X → Bool → Type 0
Tells {X} old new x b = (y : X) → (new y ≡ old y) ⊎ ((y ≡ x) × (new y ≡ Some b))

-- ---- what is asked

-- a test is true of a row (what it is called plays no part)
abbrev pub holds : reading.Assignment → Asked → Bool
holds row a = passes a.graph row (record { name = []; expr = a.expr })

abbrev pub tests_of : Graph → TrailPart → List Asked
tests_of g p = asked_of g p.tests

-- the answers are right
abbrev pub AreRight : Graph → TrailPart → List TableAnswers → Type 0
AreRight g p ts = (n : NodeId) → IfSome (at_node ts n) (λ b. b ≡ fits_end g p n)

pub record IsEnd (e : Inside) : Type 0 where
  pub tests : e.tests ≡ tests_of e.graph.now e.part.now
  pub right : AreRight e.graph.now e.part.now e.answers.items

abbrev pub end_of : Inside → OtherEnd
end_of e = record { graph = e.graph.now; part = e.part.now }
