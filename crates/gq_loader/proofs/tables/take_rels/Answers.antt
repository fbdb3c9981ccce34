use Rattle.std.proofs.Common.{◌≡◌, ◌≤◌, ◌^◌, Some, sym, ap, subst, ◌∙◌, arith, length}
use Rattle.std.proofs.lemmas.Result.{err_from_is_err_and}
use Rattle.std.specs.Prelude.{slice_get, slice_set}
use Rattle.gq_base.specs.Catalogs.{Tables}
use Rattle.gq_base.specs.Valid.{row_count}
use Rattle.gq_loader.proofs.Keeping.{count_at, ends_stay, ends_there, rels_valid}
use Rattle.gq_loader.proofs.Naming.{named_in, rel_file, rels_keep, stops_table}
use Rattle.gq_loader.specs.steps.Effects.{NamesOnly}
use Rattle.gq_loader.specs.Loads.{end_of}
use Rattle.gq_loader.proofs.tables.take_rels.Goals as goal

pub read_between-requires-clause-from : goal.read_between-requires-clause-from
read_between-requires-clause-from g c =
    let old = c.args.loading.now.graph in
    let t = c.rel_table-table.result.now in
    let is : slice_get old.catalog.rels c.args.number ≡ Some t =
    sym (c.rel_table-table.ensures ∙ ap (λ (k : Tables). slice_get k.rels c.args.number)
    c.catalog.ensures.value) in
    (ends_there old c.args.number t is c.requires.going.ends).0

pub read_between-requires-clause-to : goal.read_between-requires-clause-to
read_between-requires-clause-to g c =
    let old = c.args.loading.now.graph in
    let t = c.rel_table-table.result.now in
    let is : slice_get old.catalog.rels c.args.number ≡ Some t =
    sym (c.rel_table-table.ensures ∙ ap (λ (k : Tables). slice_get k.rels c.args.number)
    c.catalog.ensures.value) in
    (ends_there old c.args.number t is c.requires.going.ends).1

pub returns-in_err-bytes-clause-named : goal.returns-in_err-bytes-clause-named
returns-in_err-bytes-clause-named g c =
    let k = c.args.loading.now.graph.catalog in
    let t = c.rel_table-table.result.now in
    let p = err_from_is_err_and c.from_residual.result c.from_residual.ensures.1 in
    let is : slice_get k.rels c.args.number ≡ Some t =
    sym (c.rel_table-table.ensures ∙ ap (λ (k : Tables). slice_get k.rels c.args.number)
    c.catalog.ensures.value) in
    stops_table k c.read_table_file.result c.from_residual.result c.in_err-bytes.field-0.0
    c.in_err-bytes.was (cc (p.1, p.2))
    (named_in k t.file c.read_table_file.result (rel_file k c.args.number t is)
    (subst (λ file. NamesOnly file c.read_table_file.result) c.as_str-file.ensures.bytes c.read_table_file.ensures.named))

pub returns-clause-valid : goal.returns-clause-valid
returns-clause-valid g c =
    let old = c.args.loading.now.graph in
    let new = c.set_rel_rows.new.self in
    let read = c.in-Ok.read in
    let good = c.in-Ok.ensures in
    let t = c.rel_table-table.result.now in
    let few : length read.rels ≤ 2 ^ 25 = omega (arith, good.few, c.requires.within.rels) in
    let is : slice_get old.catalog.rels c.args.number ≡ Some t =
    sym (c.rel_table-table.ensures ∙ ap (λ (k : Tables). slice_get k.rels c.args.number)
    c.catalog.ensures.value) in
    let sources : length (end_of old t.from).rows ≡ row_count old.nodes t.from =
    count_at (slice_get old.nodes t.from) in
    let targets : length (end_of old t.to).rows ≡ row_count old.nodes t.to =
    count_at (slice_get old.nodes t.to) in
    rels_valid old new c.args.number t read.fields read.rels
    (c.set_rel_rows.ensures.catalog ∙ c.set_rel_fields.ensures.catalog)
    (c.set_rel_rows.ensures.nodes ∙ c.set_rel_fields.ensures.nodes)
    (c.set_rel_rows.ensures.rels ∙ ap (λ l. slice_set l c.args.number read.rels)
    c.set_rel_fields.ensures.rels)
    c.requires.valid is c.requires.going.ends few good.valid.fields
    (rw (sources, targets) at good.valid.rels) good.valid.kept

pub returns-clause-going : goal.returns-clause-going
returns-clause-going g c =
    let old = c.args.loading.now.graph in
    let t = c.rel_table-table.result.now in
    let is : slice_get old.catalog.rels c.args.number ≡ Some t =
    sym (c.rel_table-table.ensures ∙ ap (λ (k : Tables). slice_get k.rels c.args.number)
    c.catalog.ensures.value) in
    let nodes = c.set_rel_rows.ensures.nodes ∙ c.set_rel_fields.ensures.nodes in
    record {
      ends = ends_stay old c.set_rel_rows.new.self c.args.number t c.in-Ok.read.fields
          (c.set_rel_rows.ensures.catalog ∙ c.set_rel_fields.ensures.catalog) nodes is c.requires.going.ends;
      few_rows = rw nodes c.requires.going.few_rows;
      few_bytes = omega (arith, c.in_ok-bytes.ensures.all, c.len.ensures);
    }

pub returns-clause-files : goal.returns-clause-files
returns-clause-files g c =
    rels_keep c.args.loading.now.graph.catalog c.set_rel_rows.new.self.catalog c.args.number c.in-Ok.read.fields
    (c.set_rel_rows.ensures.catalog ∙ c.set_rel_fields.ensures.catalog)
