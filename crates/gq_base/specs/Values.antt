-- What a value is, apart from where it lies in memory, and how values compare.
use Rattle.std.specs.Prelude.{ℕ, Bool, ℤ, List, [], ◌++◌, Option, Some, None, int_lt}
use Rattle.std.specs.declared.cmp.Ordering.{Ordering}
use Rattle.std.specs.Ordering.{nat_cmp, int_cmp, bool_cmp, is_eq, is_lt, ordering_then}
use Rattle.std.specs.Hash as fed
use Rattle.std.specs.Cmp.Lexicographic.{slice_cmp}
use Rattle.gq_base.specs.declared.value.NodeId.{NodeId}
use Rattle.gq_base.specs.declared.value.RelId.{RelId}
use Rattle.gq_base.specs.declared.value.Value.{Value}
use Rattle.gq_base.specs.declared.value.Value.TheVariants as v
use Rattle.gq_base.specs.declared.literal.Literal.{Literal}
use Rattle.gq_base.specs.declared.literal.Literal.TheVariants as l

-- a value: a text is its bytes
pub data Val : Type 0 where
  null : Val
  flag : Bool → Val
  int : ℤ → Val
  str : List ℕ → Val
  node : NodeId → Val
  rel : RelId → Val

-- the value that a `Value` holds
abbrev pub val : Value → Val
val v.Null = null
val (v.Flag b) = flag b
val (v.Int z) = int z
val (v.Str s) = str s.now
val (v.Node n) = node n
val (v.Rel r) = rel r

-- the value that a literal spells
abbrev pub literal_val : Literal → Val
literal_val l.Null = null
literal_val (l.Flag b) = flag b
literal_val (l.Int z) = int z
literal_val (l.Str t) = str t

-- two nodes or two relationships, by table and then by row
abbrev pub node_cmp : NodeId → NodeId → Ordering
node_cmp m n = ordering_then (nat_cmp m.table n.table) (nat_cmp m.row n.row)

abbrev pub rel_cmp : RelId → RelId → Ordering
rel_cmp m n = ordering_then (nat_cmp m.table n.table) (nat_cmp m.row n.row)

-- the place of a value's kind in the ascending order
abbrev pub kind_rank : Val → ℕ
kind_rank (node n) = 0
kind_rank (rel r) = 1
kind_rank (str s) = 2
kind_rank (flag b) = 3
kind_rank (int z) = 4
kind_rank null = 5

-- the ascending order, in which null comes last
abbrev pub order_vals : Val → Val → Ordering
order_vals (node m) (node n) = node_cmp m n
order_vals (rel m) (rel n) = rel_cmp m n
order_vals (str s) (str t) = slice_cmp nat_cmp s t
order_vals (flag a) (flag b) = bool_cmp a b
order_vals (int x) (int y) = int_cmp x y
order_vals a b = nat_cmp (kind_rank a) (kind_rank b)

-- the order of `<`, which is known only within booleans, integers and texts
abbrev pub less_vals : Val → Val → Option Bool
less_vals (flag a) (flag b) = Some (is_lt (bool_cmp a b))
less_vals (int x) (int y) = Some (int_lt x y)
less_vals (str s) (str t) = Some (is_lt (slice_cmp nat_cmp s t))
less_vals a b = None

-- the equality of `=`, which is not known of null
abbrev pub equal_vals : Val → Val → Option Bool
equal_vals null b = None
equal_vals a null = None
equal_vals a b = Some (is_eq (order_vals a b))

-- what a value feeds a hasher: its kind and then its parts
abbrev pub parts_hash : Val → List (List ℕ)
parts_hash null = []
parts_hash (flag b) = fed.bool b
parts_hash (int z) = fed.i64 z
parts_hash (str s) = fed.str s
parts_hash (node n) = fed.u32 n.table ++ fed.u32 n.row
parts_hash (rel r) = fed.u32 r.table ++ fed.u32 r.row

abbrev pub val_hash : Val → List (List ℕ)
val_hash v = fed.u8 (kind_rank v) ++ parts_hash v
