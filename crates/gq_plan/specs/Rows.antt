-- What rows and load numbers stand for: a row is one of its variable's node table, a load number one of its variable's
-- relationship table.
use Rattle.std.specs.Prelude.{ℕ, Option, Some, None, List, [], ◌∷◌, length, replicate, slice_get, slice_index}
use Rattle.gq_base.specs.declared.NodeId.{NodeId}
use Rattle.gq_base.specs.declared.RelId.{RelId}
use Rattle.gq_expr.specs.Reading as reading
use Rattle.gq_plan.specs.Assignments as plain
use Rattle.gq_plan.specs.declared.assignment.Assignment.{Assignment}
use Rattle.gq_plan.specs.declared.typed.Typed.{Typed}
use Rattle.gq_plan.specs.declared.typed.TypedRel.{TypedRel}

-- ---- all variables

-- rows of these node tables, one by one
abbrev pub nodes_of_tables : List ℕ → List ℕ → List NodeId
nodes_of_tables [] rows = []
nodes_of_tables (table ∷ tables) [] = []
nodes_of_tables (table ∷ tables) (row ∷ rows) = record { table = table; row = row } ∷ nodes_of_tables tables rows

-- load numbers of these relationships' tables, one by one
abbrev pub rels_of_tables : List TypedRel → List ℕ → List RelId
rels_of_tables [] numbers = []
rels_of_tables (r ∷ rs) [] = []
rels_of_tables (r ∷ rs) (number ∷ numbers) = record { table = r.table; row = number } ∷ rels_of_tables rs numbers

-- the nodes and the relationships that rows and load numbers are by the tables of an alternative
abbrev pub assigned : Typed → Assignment → plain.Assignment
assigned y row = record { nodes = nodes_of_tables y.nodes row.nodes; rels = rels_of_tables y.rels row.rels }

-- the same, as expressions read it
abbrev pub as_read : Typed → Assignment → reading.Assignment
as_read y row = plain.row_of (assigned y row)

-- row 0 and load number 0 for each variable of an alternative
abbrev pub zero_row : Typed → Assignment
zero_row y = record { nodes = replicate (length y.nodes) 0; rels = replicate (length y.rels) 0 }

-- ---- one variable

abbrev pub table_of : Option TypedRel → ℕ
table_of None = 0
table_of (Some r) = r.table

-- the tables of a node variable and of a relationship variable
abbrev pub node_table : Typed → ℕ → ℕ
node_table y v = slice_index y.nodes v

abbrev pub rel_table : Typed → ℕ → ℕ
rel_table y x = table_of (slice_get y.rels x)

-- the node and the relationship that the variables have
abbrev pub node_at : Typed → Assignment → ℕ → NodeId
node_at y row v = record { table = node_table y v; row = slice_index row.nodes v }

abbrev pub rel_at : Typed → Assignment → ℕ → RelId
rel_at y row x = record { table = rel_table y x; row = slice_index row.rels x }
