-- A table by its header and by the records behind it.
use Rattle.std.proofs.Common.{◌≡◌, ℕ, ◌+◌, ◌^◌, ◌<◌, ◌≤◌, List, [], ◌∷◌, length, Ok, Err, refl, ap, ◌∙◌, arith}
use Rattle.gq_base.specs.Results.{and_then}
use Rattle.std.specs.declared.option.Option.{Option}
use Rattle.std.specs.declared.option.Option.TheVariants.{Some, None}
use Rattle.gq_base.specs.declared.catalog.Field.{Field}
use Rattle.gq_base.specs.declared.catalog.Mult.{Mult}
use Rattle.gq_base.specs.declared.cell.PlainRel.{PlainRel}
use Rattle.gq_fields.specs.declared.header.FileKind.{FileKind}
use Rattle.gq_fields.specs.declared.header.FileKind.TheVariants as file
use Rattle.gq_tables.proofs.Counts.{few_records}
use Rattle.gq_tables.proofs.HeaderSteps.{few_fields, length-nodes, length-rels}
use Rattle.gq_tables.specs.Cells.{Cells}
use Rattle.gq_tables.specs.steps.Cells.{IsHead}
use Rattle.gq_tables.specs.Nodes.{node_table, take_nodes}
use Rattle.gq_tables.specs.steps.Passes.{add_nodes, ending}
use Rattle.gq_tables.specs.Records.{records_of}
use Rattle.gq_tables.specs.Rels.{KeyTable, rel_table, take_rels}
use Rattle.gq_tables.specs.declared.refusal.TableRefusal.{TableRefusal}

-- the records behind the header have numbers of 32 bits
pub few_left : (kind : FileKind) (fields : List Field) (records rest : List (List (List ℕ))) (bytes : List ℕ) → IsHead kind fields records rest → records ≡ records_of bytes → length bytes < 2 ^ 32 → length rest + 1 < 2 ^ 32
few_left kind fields records rest bytes h is small =
    let all : length records ≡ length (records_of bytes) = ap length is in
    let whole : length records ≡ length (h.header ∷ rest) = ap length h.is in
    omega (arith, few_records bytes)

pub few_names : (kind : FileKind) (fields : List Field) (records rest : List (List (List ℕ))) → IsHead kind fields records rest → length fields ≤ 64
few_names kind fields records rest h = few_fields kind h.header fields h.names

module _ (limit : ℕ) (fields : List Field) (records rest : List (List (List ℕ))) (h : IsHead file.Nodes fields records rest) where
  by_rows : node_table limit records ≡ and_then (take_nodes limit (length fields) fields 2 [] rest) (λ rows. Ok (record { fields = fields; rows = rows }))
  by_rows = rw (h.is, h.names, length-nodes h.header fields h.names) refl

  module _ (rows : List Cells) (stop : Option TableRefusal) (read : take_nodes limit (length fields) fields 2 [] rest ≡ and_then (add_nodes 2 [] rows) (ending stop)) where
    pub key_refused : (e : TableRefusal) → add_nodes 2 [] rows ≡ Err e → node_table limit records ≡ Err e
    key_refused e r = by_rows ∙ rw (read, r) refl

    pub row_refused : (e : TableRefusal) (kept : List Cells) → add_nodes 2 [] rows ≡ Ok kept → stop ≡ Some e → node_table limit records ≡ Err e
    row_refused e kept r s = by_rows ∙ rw (read, r, s) refl

    pub whole_nodes : (kept : List Cells) → add_nodes 2 [] rows ≡ Ok kept → stop ≡ None → node_table limit records ≡ Ok (record { fields = fields; rows = kept })
    whole_nodes kept r s = by_rows ∙ rw (read, r, s) refl

module _ (sources targets : KeyTable) (mult : Mult) (limit : ℕ) (fields : List Field) (records rest : List (List (List ℕ))) (h : IsHead file.Rels fields records rest) where
  by_rels : rel_table sources targets mult limit records ≡ and_then (take_rels sources targets limit (length fields + 2) fields mult 2 [] rest) (λ rels. Ok (record { fields = fields; rels = rels }))
  by_rels = rw (h.is, h.names, length-rels h.header fields h.names) refl

  pub rel_refused : (e : TableRefusal) → take_rels sources targets limit (length fields + 2) fields mult 2 [] rest ≡ Err e → rel_table sources targets mult limit records ≡ Err e
  rel_refused e r = by_rels ∙ rw r refl

  pub whole_rels : (rels : List PlainRel) → take_rels sources targets limit (length fields + 2) fields mult 2 [] rest ≡ Ok rels → rel_table sources targets mult limit records ≡ Ok (record { fields = fields; rels = rels })
  whole_rels rels r = by_rels ∙ rw r refl
