-- Where the tables of a graph have the properties that an expression reads.
use Rattle.std.specs.Prelude.{◌≡◌, ℕ, nat_eq, if◌then◌else◌, Option, List, [], ◌++◌, map, flat_map, length, drop}
use Rattle.std.specs.declared.option.Option.TheVariants.{Some, None}
use Rattle.gq_base.specs.Catalogs.{Tables, find_field}
use Rattle.gq_expr.specs.declared.expr.Expr.{Expr}
use Rattle.gq_expr.specs.declared.expr.Tester.{Tester}
use Rattle.gq_expr.specs.declared.expr.Tester.TheVariants as tester
use Rattle.gq_plan.specs.Reads.{Read, reads}
use Rattle.gq_plan.specs.declared.variable.Variable.{Variable}
use Rattle.gq_plan.specs.declared.variable.Variable.TheVariants.{Node as node, Rel as rel}

-- the byte of a place in a table, and of none; a table of a valid graph has at most 64 places
abbrev pub place_byte : Option ℕ → ℕ
place_byte None = 255
place_byte (Some place) = place

abbrev pub byte_place : ℕ → Option ℕ
byte_place byte = if nat_eq byte 255 then None else Some byte

-- the place of a name among the fields of each node table
abbrev pub node_places : Tables → List ℕ → List ℕ
node_places tables name = map (λ t. place_byte (find_field t.fields name)) tables.nodes

-- the place of a name among the fields of each relationship table
abbrev pub rel_places : Tables → List ℕ → List ℕ
rel_places tables name = map (λ t. place_byte (find_field t.fields name)) tables.rels

abbrev pub named_places : Tables → Variable → Option (List ℕ) → List ℕ
named_places tables variable None = []
named_places tables (node n) (Some name) = node_places tables name
named_places tables (rel n) (Some name) = rel_places tables name

-- a variable by itself has no places
abbrev pub read_places : Tables → Read → List ℕ
read_places tables r = named_places tables r.variable r.property

-- the places of each property that an expression reads, from left to right
unfoldable pub expr_places : Tables → Expr → List ℕ
expr_places tables e = flat_map (read_places tables) (reads e)

-- those of a test's operand, if it has one
abbrev pub tester_places : Tables → Tester Expr → List ℕ
tester_places tables tester.IsNull = []
tester_places tables tester.IsNotNull = []
tester_places tables (tester.Member ls) = []
tester_places tables (tester.Text test e) = expr_places tables e

-- what is left of places behind the first of them
abbrev pub past : List ℕ → List ℕ → List ℕ
past first places = drop (length first) places

-- places that begin with these
pub record Leads (first places : List ℕ) : Type 0 where
  pub is : places ≡ first ++ past first places
