use Rattle.std.proofs.Common.{◌≡◌, ℕ, ◌<◌, ◌≤◌, true, All, drop, get_or, length, Ok}
use Rattle.gq_base.specs.Valid.{is_valid}
use Rattle.gq_manifest.specs.Manifests.{IsNumberOf}
use Rattle.gq_manifest.specs.declared.manifest.TableNumber.{TableNumber}
use Rattle.gq_loader.specs.steps.Answers.{IsGoing, IsUnread}
use Rattle.gq_loader.specs.steps.Effects.{Reads, told_of}
use Rattle.gq_loader.specs.Limits.{most_bytes}
use Rattle.gq_loader.proofs.Naming.{HaveFiles}
use Rattle.gq_loader.proofs.Rest.{Meant}
use Rattle.gq_loader.proofs.loading.load.Given as goal

abbrev pub invariant-loop-table : goal.invariant-loop-table
invariant-loop-table g l = record {
  going : IsGoing l.limits l.loading;
  numbers : All (IsNumberOf l.loading.graph.catalog) l.table-items;
  valid : is_valid l.loading.graph ≡ true;
  unread : (k : ℕ) (d : TableNumber) → l.table-index ≤ k → k < length l.table-items
      → IsUnread l.loading.graph (get_or l.table-items k d);
  meant : Meant l.manifest l.limits (g.F.Files.held l.fn.files) l.loading
      (drop l.table-index l.table-items);
  files : HaveFiles (g.F.Files.held l.fn.files) l.manifest l.loading.graph.catalog;
  reads : Reads (most_bytes l.limits) (told_of g.F.Files.held g.F.Files.left g.F.Files.faults
      g.F.Files.misses l.fn.files) (told_of g.F.Files.held g.F.Files.left g.F.Files.faults
      g.F.Files.misses l.files) (Ok l.loading);
}
