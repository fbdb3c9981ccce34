-- Relationships that can be followed from the row of a node variable.
use Rattle.std.specs.Prelude.{◌≡◌, ◌<◌, true, length, slice_index}
use Rattle.gq_base.specs.Plain.{Graph}
use Rattle.gq_plan.specs.declared.typed.Typed.{Typed}
use Rattle.gq_store.specs.Neighbours.{is_listed, near_rows}
use Rattle.gq_plan.specs.Rows.{rel_table}
use Rattle.gq_plan.specs.declared.assignment.Assignment.{Assignment}
use Rattle.gq_plan.specs.declared.follow.Follow.{Follow}

-- as many rows and load numbers as the alternative has variables
pub record IsSized (y : Typed) (row : Assignment) : Type 0 where
  pub nodes : length row.nodes ≡ length y.nodes
  pub rels : length row.rels ≡ length y.rels

-- variables of the alternative, of which the first node variable has a row from which the relationship is followed
pub record CanFollow (g : Graph) (y : Typed) (old : Assignment) (f : Follow) : Type 0 where
  pub sized : IsSized y old
  pub rel : f.rel < length y.rels
  pub from : f.from < length y.nodes
  pub to : f.to < length y.nodes
  pub table : rel_table y f.rel < length g.catalog.rels
  pub row : slice_index old.nodes f.from < near_rows g (rel_table y f.rel) f.direction

-- they are followed in a list
pub record CanList (g : Graph) (y : Typed) (old : Assignment) (f : Follow) : Type 0 where
  pub follow : CanFollow g y old f
  pub listed : is_listed g (rel_table y f.rel) f.direction ≡ true
