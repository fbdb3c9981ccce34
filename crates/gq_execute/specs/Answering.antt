-- Replies that are permitted to each query that is bound so.
use Rattle.std.specs.Prelude.{◌≡◌, ℕ, Result, Ok, Err, List}
use Rattle.gq_base.specs.Values.{Val}
use Rattle.gq_bound.specs.Binding.{IsBound}
use Rattle.gq_plan.specs.declared.Bound.{Bound}
use Rattle.gq_ast.specs.declared.Query.{Query}
use Rattle.gq_base.specs.Plain.{Graph}
use Rattle.gq_execute.specs.declared.found.Answer.{Answer}
use Rattle.gq_execute.specs.Replies.{Question, Rows, Faulted, TooManyRows, IsPermitted}
use Rattle.gq_execute.specs.declared.refusal.AnswerRefusal.{AnswerRefusal}
use Rattle.gq_execute.specs.declared.refusal.AnswerRefusal.TheVariants as refusal
use Rattle.gq_execute.specs.declared.settings.Settings.{Settings}

-- a query over a graph, under some settings
abbrev pub question : Graph → Query → Bound → Settings → Question
question g query bound settings =
    record { graph = g; query = query; bound = bound; order = settings.order; most = settings.rows }

-- how a query is replied to; want of memory is free
abbrev pub Replies : Question → Result (List (List Val)) AnswerRefusal → Type 0
Replies a (Ok lines) = IsPermitted a (Rows lines)
Replies a (Err (refusal.Fault f)) = IsPermitted a (Faulted f)
Replies a (Err (refusal.TooManyRows most)) = (most ≡ a.most) × IsPermitted a TooManyRows
Replies a (Err (refusal.Memory why)) = Unit {0}

-- the same for each query that is bound so
abbrev pub RepliesToEach : Graph → Bound → Settings → Result (List (List Val)) AnswerRefusal → Type 0
RepliesToEach g bound settings result =
    (query : Query) (text : List ℕ) → IsBound query text g.catalog bound
    → Replies (question g query bound settings) result

-- the lines of an answer
abbrev pub lines_in : Result Answer AnswerRefusal → Result (List (List Val)) AnswerRefusal
lines_in (Ok found) = Ok found.listing.lines
lines_in (Err refused) = Err refused
