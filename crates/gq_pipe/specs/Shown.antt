-- The groups of a chunk as the plan has them: the form of each and whether it is flat, where its piece begins, and which part of its list
-- that is.
use Rattle.std.specs.Prelude.{◌≡◌, ◌*◌, ℕ, Bool, true, false, Option, Some, None, List, [], map, take, drop, slice_index}
use Rattle.std.specs.List.{AllByRecursion, range_with_len}
use Rattle.gq_base.specs.Plain.{Graph}
use Rattle.gq_base.specs.Valid.{row_count}
use Rattle.gq_bits.specs.declared.TheConstants.{VECTOR}
use Rattle.gq_group.specs.Pieces.{first_of, items_of}
use Rattle.gq_group.specs.declared.group.Group.{Group}
use Rattle.gq_group.specs.declared.piece.Piece.{Piece}
use Rattle.gq_group.specs.declared.piece.Piece.TheVariants as piece
use Rattle.gq_join.specs.Kept.{Held, matches_of}
use Rattle.gq_plan.specs.Plans.{Plan, Step, Scan, Extend, Close, Join}
use Rattle.gq_plan.specs.Rows.{node_table, rel_table}
use Rattle.gq_plan.specs.Shapes.{shape}
use Rattle.gq_plan.specs.declared.assignment.Assignment.{Assignment}
use Rattle.gq_plan.specs.declared.shaping.Form.{Form}
use Rattle.gq_plan.specs.declared.shaping.GroupShape.{GroupShape}
use Rattle.gq_plan.specs.declared.typed.Typed.{Typed}
use Rattle.gq_store.specs.Neighbours.{neighbours}
use Rattle.gq_pipe.specs.Keys.{Maker}
use Rattle.gq_pipe.specs.Progress.{Source}

-- ---- the shape

abbrev pub form_in : Piece → Form
form_in (piece.Span low high) = Form.Span
form_in (piece.List ids first) = Form.List
form_in (piece.Matches rows first) = Form.Matches

-- a flat group has one current position
abbrev pub is_flat : Option ℕ → Bool
is_flat None = false
is_flat (Some position) = true

abbrev pub shape_in : List Group → List GroupShape
shape_in xs = map (λ (x : Group). record { form = form_in x.piece; flat = is_flat x.current }) xs

-- the groups of a chunk are those of the plan's shape
pub record HasShape (y : Typed) (p : Plan) (xs : List Group) : Type 0 where
  pub groups : shape_in xs ≡ shape y p

-- ---- the pieces

-- the whole list of a step that makes a group, in a row: the table's rows, the list of the row's vertex, or the build's rows with the row's key
abbrev pub whole_list : Graph → Typed → Step → Option Held → Assignment → List ℕ
whole_list g y (Scan v) o row = range_with_len 0 (row_count g.nodes (node_table y v))
whole_list g y (Extend column x from to way) o row = neighbours g (rel_table y x) way (slice_index row.nodes from)
whole_list g y (Close column x from to way) o row = neighbours g (rel_table y x) way (slice_index row.nodes from)
whole_list g y (Join side keys) (Some h) row = matches_of h row
whole_list g y s o row = []

-- a piece is a part of the whole list that it has in each of these rows, and ends at the next multiple of VECTOR or where the list ends
pub record IsPieceIn (s : Source) (rows : List Assignment) (x : Group) (m : Maker) : Type 0 where
  pub number : ℕ
  pub begins : first_of x.piece ≡ VECTOR * number
  pub items : AllByRecursion (λ row. items_of x.piece ≡ take VECTOR (drop (first_of x.piece) (whole_list s.graph s.typed m.step m.build row))) rows
