-- What the sink of a query holds, and what is known of it.
use Rattle.std.specs.Prelude.{◌≡◌, Bool, true, false, None, []}
use Rattle.std.specs.Option.{is_some}
use Rattle.gq_base.specs.Plain.{Graph}
use Rattle.gq_eval.specs.Asked.{asked_of}
use Rattle.gq_kept.specs.Forms.{HasForm}
use Rattle.gq_kept.specs.Tables.{Held, Table}
use Rattle.gq_kept.specs.declared.form.Form.{Form}
use Rattle.gq_kept.specs.declared.form.Form.TheVariants as form
use Rattle.gq_listed.specs.Listed.{AreFinders, held_in, is_listing}
use Rattle.gq_plan.specs.declared.bound.Bound.{Bound}
use Rattle.gq_project.specs.declared.judging.Question.{Question}
use Rattle.gq_rows.specs.declared.listed_rows.ListedRows.{ListedRows}
use Rattle.gq_rows.specs.declared.sink.Sink.{Sink}
use Rattle.gq_rows.specs.declared.sink.Sink.TheVariants as sink
use Rattle.gq_values.specs.Keeping.{held_of}

-- nothing
abbrev pub no_rows : Held
no_rows = record { columns = []; keys = []; count = 0; classes = []; bar = None }

-- what is held: cells where the rows are listed as they come, else values
abbrev pub held_by : Sink → Held
held_by (sink.Listed rows) = held_in rows.listed
held_by (sink.Kept rows) = held_of rows
held_by (sink.Top top) = held_of top.rows
held_by (sink.Classes rows) = held_of rows

-- a table of what is asked that holds this
abbrev pub table_by : Question → Held → Table
table_by q held = record { bound = q.bound.now; most = q.limit; alternative = None; graph = q.graph.now; held = held; pushed = 0 }

-- which rows count
abbrev pub form_by : Sink → Form
form_by (sink.Listed rows) = rows.form
form_by (sink.Kept rows) = form.All
form_by (sink.Top top) = form.Top top.most
form_by (sink.Classes rows) = form.Classes

abbrev pub is_listed : Sink → Bool
is_listed (sink.Listed rows) = true
is_listed s = false

abbrev pub has_bar : Sink → Bool
has_bar (sink.Top top) = is_some top.rows.bar
has_bar s = false

-- what finds the values of rows that are listed as they come, over a graph
abbrev pub IsDone : Graph → Bound → ListedRows → Type 0
IsDone g b rows = rows.done ≡ true → AreFinders rows.listed.cells.sources (asked_of g b.columns) rows.finders.items

abbrev pub IsReadyBy : Graph → Bound → Sink → Type 0
IsReadyBy g b (sink.Listed rows) = IsDone g b rows
IsReadyBy g b s = Unit {0}

-- it is that of a query over a graph
pub record IsSink (g : Graph) (b : Bound) (s : Sink) : Type 0 where
  pub form : HasForm b (form_by s)
  pub listing : is_listing b ≡ is_listed s
  pub ready : IsReadyBy g b s
