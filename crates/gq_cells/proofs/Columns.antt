-- The properties of a graph have the cells of its tables.
use Rattle.std.proofs.Common.{◌≡◌, ◌∙◌, Bor, ℕ, None, get_or, length, ap, arith}
use Rattle.gq_base.specs.Plain.{Graph, cell_val}
use Rattle.gq_store.specs.Columns.{Encoded, decoded, node_cells}
use Rattle.gq_store.specs.RelColumns.{rel_cells}
use Rattle.gq_store.proofs.Keeping.{node_cell_of}
use Rattle.gq_store.proofs.Placing.{length-rel_cells, rel_column_at}
use Rattle.gq_cells.specs.Properties.{IsNodeProperty, IsRelProperty}
use Rattle.gq_cells.specs.declared.source.Source.TheVariants as source

module _ (g : Graph) (table property : ℕ) (p : Bor Encoded) where
  pub node_source : decoded p.now ≡ node_cells g table property → IsNodeProperty g table property (source.Property p)
  node_source are = record {
    number = λ row h. (node_cell_of g table property row (decoded p.now) are h).0;
    means = λ row h. ap cell_val (node_cell_of g table property row (decoded p.now) are h).1;
  }

  pub rel_source : decoded p.now ≡ rel_cells g table property → IsRelProperty g table property (source.Property p)
  rel_source are = record {
    number = λ place h. omega (arith, h, length-rel_cells g table property, ap length are);
    means = λ place number h at. ap cell_val (ap (λ l. get_or l place None) are ∙ rel_column_at g table property place number h at);
  }
