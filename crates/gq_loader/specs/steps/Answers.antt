-- How a load goes on, part by part: what each leaves behind or is stopped by, and the graph so far.
use Rattle.std.specs.Prelude.{◌≡◌, ◌≢◌, ℕ, ◌<◌, ◌≤◌, All, List, length, slice_get, IfSome, Ok, Err}
use Rattle.std.specs.declared.option.Option.{Option}
use Rattle.std.specs.declared.result.Result.{Result}
use Rattle.gq_base.specs.Catalogs.{Tables}
use Rattle.gq_base.specs.Plain.{Graph}
use Rattle.gq_base.specs.Valid.{row_count}
use Rattle.gq_io.specs.Outside.{Names}
use Rattle.gq_manifest.specs.declared.manifest.TableNumber.{TableNumber}
use Rattle.gq_manifest.specs.declared.manifest.TableNumber.TheVariants as table
use Rattle.gq_tables.specs.declared.refusal.TableStop.{TableStop}
use Rattle.gq_tables.specs.declared.refusal.TableStop.TheVariants as stop
use Rattle.gq_loader.specs.Answers.{Refuses}
use Rattle.gq_loader.specs.Refusals.{of_table}
use Rattle.gq_loader.specs.declared.limits.Limits.{Limits}
use Rattle.gq_loader.specs.declared.refusal.LoadRefusal.{LoadRefusal}
use Rattle.gq_loader.specs.declared.refusal.LoadRefusal.TheVariants as refusal
use Rattle.gq_loader.specs.declared.tables.Loading.{Loading}

-- ---- what is meant

-- where the files are told, `Ok` leaves behind what is meant, and a refusal is the one that is meant
abbrev pub Leaves : {S T : Type 0} → Option Names → (Names → Result S LoadRefusal) → S
    → Result T LoadRefusal → Type 0
Leaves held meant left (Ok done) = IfSome held (λ files. meant files ≡ Ok left)
Leaves held meant left (Err e) = Refuses held meant e

-- what stopped the reading of the file of a table, for a load
abbrev pub stopped_by : List ℕ → TableStop → LoadRefusal
stopped_by file (stop.Refused e) = of_table file e
stopped_by file stop.Memory = refusal.Memory

-- ---- a graph, table by table

-- some of its tables were read: its relationship tables have their ends, and no more was read than
-- may be
pub record IsGoing (limits : Limits) (loading : Loading) : Type 0 where
  pub ends : All (λ t. (t.from < length loading.graph.nodes) × (t.to < length loading.graph.nodes))
      loading.graph.catalog.rels
  pub few_rows : All (λ rows. length rows ≤ limits.nodes) loading.graph.nodes
  pub few_bytes : loading.total ≤ limits.total_bytes

-- the same within any limits, since nothing was read
abbrev pub IsFresh : Loading → Type 0
IsFresh loading = (limits : Limits) → IsGoing limits loading

-- as many tables of each form
pub record AsMany (old new : Tables) : Type 0 where
  pub nodes : length new.nodes ≡ length old.nodes
  pub rels : length new.rels ≡ length old.rels

-- the table of this number, if it is one of nodes, has no rows yet
abbrev pub IsUnread : Graph → TableNumber → Type 0
IsUnread graph (table.Node number) = row_count graph.nodes number ≡ 0
IsUnread graph (table.Rel number) = Unit {0}

-- each node table but the one of this number has the rows that it had
abbrev pub KeepsOthers : TableNumber → Graph → Graph → Type 0
KeepsOthers number old new =
    (other : ℕ) → table.Node other ≢ number → slice_get new.nodes other ≡ slice_get old.nodes other
