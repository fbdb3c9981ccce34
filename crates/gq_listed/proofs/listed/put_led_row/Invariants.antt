use Rattle.std.proofs.Common.{◌≡◌, drop, length}
use Rattle.gq_eval.specs.Asked.{answers}
use Rattle.gq_listed.specs.Finding.{Extends}
use Rattle.gq_project.specs.Judged.{values_after}
use Rattle.gq_listed.specs.Leads.{here_at}
use Rattle.gq_listed.specs.Listed.{AreFinders}
use Rattle.gq_listed.proofs.listed.put_led_row.Given as goal

abbrev pub invariant-values : goal.invariant-values
invariant-values l =
    let here = here_at l.spot in
    record {
      after : values_after l.cells.values (answers here (drop (length l.yielded) l.columns)) ≡ values_after l.initial.cells.values (answers here l.columns);
      finders : AreFinders l.cells.sources l.columns l.finders;
      more : Extends l.initial.cells.sources l.cells.sources;
    }
