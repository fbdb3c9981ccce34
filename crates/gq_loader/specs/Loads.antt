-- Which graph the files give, or what is refused first (this project's profile). What a manifest
-- names is `manifest_of` its text; what the file of a table gives is `node_table_of` its bytes, or
-- `rel_table_of`.
use Rattle.std.specs.Prelude.{ℕ, ◌+◌, List, [], ◌∷◌, length, replicate, slice_get, slice_set}
use Rattle.gq_base.specs.Results.{and_then}
use Rattle.std.specs.Prelude.{option_map, unwrap_or, Ok}
use Rattle.std.specs.declared.option.Option.{Option}
use Rattle.std.specs.declared.option.Option.TheVariants.{Some, None}
use Rattle.std.specs.declared.result.Result.{Result}
use Rattle.gq_base.specs.Catalogs.{Tables, with_node_fields, with_rel_fields}
use Rattle.gq_base.specs.Plain.{Graph}
use Rattle.gq_base.specs.declared.catalog.Field.{Field}
use Rattle.gq_base.specs.declared.catalog.Kind.{Kind}
use Rattle.gq_base.specs.declared.catalog.Kind.TheVariants as kind
use Rattle.gq_base.specs.declared.catalog.NodeTable.{NodeTable}
use Rattle.gq_base.specs.declared.catalog.RelTable.{RelTable}
use Rattle.gq_io.specs.Outside.{Names}
use Rattle.gq_manifest.specs.Manifests.{manifest_of}
use Rattle.gq_manifest.specs.declared.manifest.Manifest.{Manifest}
use Rattle.gq_manifest.specs.declared.manifest.TableNumber.{TableNumber}
use Rattle.gq_manifest.specs.declared.manifest.TableNumber.TheVariants as table
use Rattle.gq_tables.specs.Nodes.{node_table_of}
use Rattle.gq_tables.specs.Rels.{KeyTable, rel_table_of}
use Rattle.gq_tables.specs.declared.nodes.NodeTableRows.{NodeTableRows}
use Rattle.gq_tables.specs.declared.rels.RelTableRows.{RelTableRows}
use Rattle.gq_tables.specs.declared.refusal.TableRefusal.{TableRefusal}
use Rattle.gq_loader.specs.Files.{file_of}
use Rattle.gq_loader.specs.Limits.{is_short, is_short_manifest}
use Rattle.gq_loader.specs.Refusals.{of_manifest, of_table, refused_as}
use Rattle.gq_loader.specs.declared.limits.Limits.{Limits}
use Rattle.gq_loader.specs.declared.refusal.LoadRefusal.{LoadRefusal}
use Rattle.gq_loader.specs.declared.loading.Beginning.{Beginning}
use Rattle.gq_loader.specs.declared.tables.Loading.{Loading}

-- ---- the graph, table by table

-- the graph of these tables before any file of theirs was read
abbrev pub empty_graph : Tables → Graph
empty_graph tables = record {
  catalog = tables;
  nodes = replicate (length tables.nodes) [];
  rels = replicate (length tables.rels) [];
}

-- the graph in which the node table of this number has the fields and rows that were read
abbrev pub with_nodes : Graph → ℕ → NodeTableRows → Graph
with_nodes graph number read = record {
  catalog =
      record graph.catalog { nodes = with_node_fields number read.fields graph.catalog.nodes };
  nodes = slice_set graph.nodes number read.rows;
  rels = graph.rels;
}

-- the graph in which the relationship table of this number has the fields and relationships that
-- were read
abbrev pub with_rels : Graph → ℕ → RelTableRows → Graph
with_rels graph number read = record {
  catalog = record graph.catalog { rels = with_rel_fields number read.fields graph.catalog.rels };
  nodes = graph.nodes;
  rels = slice_set graph.rels number read.rels;
}

-- the kind of a table's key, its first field; each node table that was read has one
abbrev pub key_kind : List Field → Kind
key_kind [] = kind.Int
key_kind (key ∷ fields) = key.kind

-- the node table of this number, as an end of a relationship table: the kind of its keys, its rows
abbrev pub end_of : Graph → ℕ → KeyTable
end_of graph number = record {
  kind = key_kind
      (unwrap_or (option_map (λ t. t.fields) (slice_get graph.catalog.nodes number)) []);
  rows = unwrap_or (slice_get graph.nodes number) [];
}

-- ---- the files, one after the other

module _ (files : Names) (limits : Limits) where
  -- the file of a table, and the graph that its bytes give
  abbrev pub take_file : Loading → List ℕ → (List ℕ → Result Graph TableRefusal)
      → Result Loading LoadRefusal
  take_file loading file read =
      and_then (file_of files (is_short limits loading.total) file) (λ bytes.
      and_then (refused_as (of_table file) (read bytes)) (λ graph.
      Ok (record { graph = graph; total = loading.total + length bytes })))

  -- a node table
  abbrev pub take_nodes : Loading → ℕ → Option NodeTable → Result Loading LoadRefusal
  take_nodes loading number None = Ok loading
  take_nodes loading number (Some named) =
      take_file loading named.file (λ bytes.
      and_then (node_table_of limits.nodes bytes) (λ read.
      Ok (with_nodes loading.graph number read)))

  -- a relationship table; the node tables at its ends are those of lines before it
  abbrev pub take_rels : Loading → ℕ → Option RelTable → Result Loading LoadRefusal
  take_rels loading number None = Ok loading
  take_rels loading number (Some named) =
      take_file loading named.file (λ bytes.
      and_then (rel_table_of (end_of loading.graph named.from) (end_of loading.graph named.to)
      named.mult limits.rels bytes) (λ read.
      Ok (with_rels loading.graph number read)))

  -- a table of the manifest; each number in the manifest's order is that of a table
  abbrev pub take_table : Loading → TableNumber → Result Loading LoadRefusal
  take_table loading (table.Node number) =
      take_nodes loading number (slice_get loading.graph.catalog.nodes number)
  take_table loading (table.Rel number) =
      take_rels loading number (slice_get loading.graph.catalog.rels number)

  -- the tables in this order, up to the first refusal
  abbrev pub take_tables : Loading → List TableNumber → Result Loading LoadRefusal
  take_tables loading [] = Ok loading
  take_tables loading (next ∷ more) =
      and_then (take_table loading next) (λ after. take_tables after more)

-- what a manifest gives: the graph of its tables, none of which was read, and their order
abbrev pub begun : Manifest → Beginning
begun manifest = record {
  loading = record { graph = empty_graph manifest.catalog; total = 0 };
  order = manifest.order;
}

-- the manifest of this name, all of whose lines are read
abbrev pub beginning_of : List ℕ → Names → Result Beginning LoadRefusal
beginning_of name files =
    and_then (file_of files is_short_manifest name) (λ text.
    and_then (refused_as of_manifest (manifest_of text)) (λ manifest.
    Ok (begun manifest)))

-- the load of the manifest of this name: first the manifest, and then the file of each of its
-- lines, in their order
abbrev pub load_of : List ℕ → Names → Limits → Result Graph LoadRefusal
load_of name files limits =
    and_then (beginning_of name files) (λ beginning.
    and_then (take_tables files limits beginning.loading beginning.order) (λ loading.
    Ok loading.graph))
