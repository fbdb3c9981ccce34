-- What holds of each table that is taken, whatever its file.
use Rattle.std.specs.Prelude.{◌≡◌, true, length}
use Rattle.std.specs.List.{list_all}
use Rattle.gq_base.specs.Valid.{are_fields, fits_fields, has_keys, is_rel, keeps_mult}
use Rattle.gq_base.specs.declared.catalog.Mult.{Mult}
use Rattle.gq_tables.specs.Rels.{KeyTable}
use Rattle.gq_tables.specs.declared.nodes.NodeTableRows.{NodeTableRows}
use Rattle.gq_tables.specs.declared.rels.RelTableRows.{RelTableRows}

-- its properties are distinct, its rows fit them, and its keys are there and distinct
pub record IsNodeTable (table : NodeTableRows) : Type 0 where
  pub fields : are_fields table.fields ≡ true
  pub rows : list_all (fits_fields table.fields) table.rows ≡ true
  pub keys : has_keys table.rows ≡ true

-- its properties are distinct, its relationships fit them and join rows of the tables at its ends,
-- and its multiplicity is kept
pub record IsRelTable (sources targets : KeyTable) (mult : Mult) (table : RelTableRows) : Type 0
  where
    pub fields : are_fields table.fields ≡ true
    pub rels : list_all (is_rel table.fields (length sources.rows) (length targets.rows))
        table.rels ≡ true
    pub kept : keeps_mult mult table.rels ≡ true
