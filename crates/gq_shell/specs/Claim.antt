-- The claim of `run`: which status the program answers for its words, the files and its input, and what it writes.
-- It rests on `IsRead` and `IsMisused` (what the words say), `load_of` (which graph the files give) and `load_line` (how a
-- refused load is spelled), `sample_graph` and `questions` (the sample), `statements` (how an input is cut), `IsTooLong`
-- (which inputs are refused), and `IsTurn` (which replies a statement may have, what each is like, and the parameters then).
use Rattle.std.specs.Prelude.{◌≡◌, ◌⊎◌, ℕ, ◌+◌, ◌≤◌, false, List, [], length, Option, Some, Ok, Err, IfSome, IsSome, slice_get, take}
use Rattle.std.specs.Io.KnownBytes.{Appends, Consumes, IsAtEnd, Keeps}
use Rattle.gq_base.specs.Plain.{Graph}
use Rattle.gq_execute.specs.declared.settings.Settings.{Settings}
use Rattle.gq_io.specs.Causes.{Rose}
use Rattle.gq_io.specs.Outside.{AppendsFront, Names}
use Rattle.gq_loader.specs.Limits.{standard}
use Rattle.gq_loader.specs.Loads.{load_of}
use Rattle.gq_loader.specs.Refusals.{IsOfFiles}
use Rattle.gq_loader.specs.declared.refusal.LoadRefusal.{LoadRefusal}
use Rattle.gq_loader.specs.declared.refusal.LoadRefusal.TheVariants as refused
use Rattle.gq_plan.specs.declared.Bound.{Bound}
use Rattle.gq_reply.specs.Replies.{Context, IsAsked, IsTurn, StandBehind}
use Rattle.gq_reply.specs.declared.replier.Extent.TheVariants.{Full, Short}
use Rattle.gq_sample.specs.Questions.{questions}
use Rattle.gq_sample.specs.Sample.{sample_graph}
use Rattle.gq_session.specs.Replies.{Replies}
use Rattle.gq_session.specs.Replies as replies
use Rattle.gq_session.specs.Scanning.{ended_in, start}
use Rattle.gq_session.specs.Whole as session
use Rattle.gq_session.specs.declared.answering.Tone.{Tone}
use Rattle.gq_session.specs.declared.answering.Tone.TheVariants as tone
use Rattle.gq_session.specs.declared.run.Stop.TheVariants as stop
use Rattle.gq_shell.specs.LoadLines.{load_line}
use Rattle.gq_shell.specs.Questions.{IsNumbered}
use Rattle.gq_shell.specs.Statuses.{IsMemory}
use Rattle.gq_shell.specs.declared.status.Status.{Status}
use Rattle.gq_shell.specs.declared.status.Status.TheVariants as status
use Rattle.gq_ast.specs.declared.statement.Query.{Query}
use Rattle.gq_tokens.specs.declared.params.Param.{Param}
use Rattle.gq_arguments.specs.Command.{usage_text}
use Rattle.gq_arguments.specs.Reading.{IsMisused, IsRead}
use Rattle.gq_arguments.specs.declared.meaning.Source.{Source}
use Rattle.gq_arguments.specs.declared.meaning.Source.TheVariants as source
use Rattle.gq_arguments.specs.declared.meaning.Arguments.{Arguments}

-- ---- what each part of the run means

-- the longest statement and the longest input, in bytes
abbrev pub long : ℕ
long = 65536

abbrev pub most : ℕ
most = 1073741824

-- the order of plans and the most rows that the words say
abbrev pub settings_of : Arguments → Settings
settings_of read = record { order = read.order; rows = read.rows }

-- the words name this path of a manifest
abbrev pub IsPath : List ℕ → Source → Type 0
IsPath path (source.Manifest manifest) = manifest.now ≡ path
IsPath path (source.Sample size) = ⊥

-- statements over a loaded graph, and questions over the sample graph
abbrev pub full : Graph → Settings → Context
full graph settings = record { graph = graph; settings = settings; extent = Full }

abbrev pub short : ℕ → Settings → Context
short size settings = record { graph = sample_graph size; settings = settings; extent = Short }

-- the words name a manifest, and this is the first refusal of the files where they are told
pub record IsNotLoaded (words : List (List ℕ)) (held : Option Names) (refusal : LoadRefusal) : Type 0 where
  pub read : Arguments
  pub given : IsRead words read
  pub path : List ℕ
  pub from : IsPath path read.source
  pub of_files : IsOfFiles refusal
  pub told : IfSome held (λ files. load_of path files standard ≡ Err refusal)

-- the words name a manifest, and the input is read, where it is told, over some graph, which is that of the files where they are told
pub record Over (words : List (List ℕ)) (held : Option Names) (left : Option (List ℕ)) (Says : Context → List ℕ → Type 0) : Type 0 where
  pub read : Arguments
  pub given : IsRead words read
  pub path : List ℕ
  pub from : IsPath path read.source
  pub graph : Graph
  pub loads : IfSome held (λ files. load_of path files standard ≡ Ok graph)
  pub says : IfSome left (λ input. Says (full graph (settings_of read)) input)

-- the words ask for the sample graph
pub record OnSample (words : List (List ℕ)) (Says : Context → Type 0) : Type 0 where
  pub read : Arguments
  pub given : IsRead words read
  pub size : ℕ
  pub from : read.source ≡ source.Sample size
  pub says : Says (short size (settings_of read))

-- ---- the whole answers

-- the answers to the questions, from no parameters on
abbrev pub IsQuiz : Context → Tone → List ℕ → Type 0
IsQuiz c t text = (behind : List Param) × Replies (IsNumbered c) [] behind questions t text

-- all statements, from no parameters on, or all questions, were answered: the text is their replies, the worst of which has this tone
abbrev pub Finished : List (List ℕ) → Option Names → Option (List ℕ) → Tone → List ℕ → Type 0
Finished words held left t text = Over words held left (λ c input. session.Permits (IsTurn c) [] long most input (Ok t) text)
    ⊎ OnSample words (λ c. IsQuiz c t text)

-- the status may be answered for these words, files and input, and the text is all that is written then
abbrev pub Permits : List (List ℕ) → Option Names → Option (List ℕ) → Status → List ℕ → Type 0
Permits words held left status.Usage text = IsMisused words × (text ≡ usage_text)
Permits words held left status.NotLoaded text = (refusal : LoadRefusal) × IsNotLoaded words held refusal × (text ≡ load_line refusal)
Permits words held left status.TooLong text = Over words held left (λ c input. session.Permits (IsTurn c) [] long most input (Err stop.TooLong) text)
Permits words held left status.Ended text = Finished words held left tone.Good text
Permits words held left status.Refused text = Finished words held left tone.Refused text
Permits words held left (status.Memory why) text = Finished words held left (tone.Memory why) text
Permits words held left status.ReadFault text = ⊥
Permits words held left status.WriteFault text = ⊥

-- a permitted text was written whole
pub record Wrote (words : List (List ℕ)) (held : Option Names) (left : Option (List ℕ)) (answer : Status) (old new : Option (List ℕ)) : Type 0 where
  pub text : List ℕ
  pub permitted : Permits words held left answer text
  pub moved : Appends old new text

-- a front of a permitted text was written
pub record WroteFront (words : List (List ℕ)) (held : Option Names) (left : Option (List ℕ)) (old new : Option (List ℕ)) : Type 0 where
  pub answer : Status
  pub text : List ℕ
  pub permitted : Permits words held left answer text
  pub moved : AppendsFront old new text

-- ---- one run

-- a count of faults, or of names that were not found, before and after the run
pub record Count : Type 0 where
  pub before : ℕ
  pub now : ℕ

-- what is told when the run begins, and what it leaves
pub record Outside : Type 0 where
  pub held : Option Names
  pub left : Option (List ℕ)
  pub unread : Option (List ℕ)
  pub taken : Option (List ℕ)
  pub took : Option (List ℕ)
  pub files_faults : Count
  pub files_misses : Count
  pub input_faults : Count
  pub out_faults : Count

abbrev pub outside_of : {F I O : Type 0} → (F → Option Names) → (F → ℕ) → (F → ℕ) → F → F → (I → Option (List ℕ)) → (I → ℕ) → I → I → (O → Option (List ℕ)) → (O → ℕ) → O → O → Outside
outside_of held files_faults files_misses files files' left input_faults input input' taken out_faults out out' = record {
  held = held files;
  left = left input;
  unread = left input';
  taken = taken out;
  took = taken out';
  files_faults = record { before = files_faults files; now = files_faults files' };
  files_misses = record { before = files_misses files; now = files_misses files' };
  input_faults = record { before = input_faults input; now = input_faults input' };
  out_faults = record { before = out_faults out; now = out_faults out' };
}

-- nothing was written, and nothing of the input was eaten
abbrev pub DidNothing : Outside → List ℕ → Type 0
DidNothing o eaten = Keeps o.taken o.took × (eaten ≡ [])

-- how much of the input was eaten where all was answered: all of it over the graph of a manifest, nothing over the sample
abbrev pub EatsAll : List (List ℕ) → Outside → List ℕ → Type 0
EatsAll words o eaten =
    (Over words o.held o.left (λ c input. Unit {0}) × IsAtEnd o.unread)
    ⊎ (OnSample words (λ c. Unit {0}) × (eaten ≡ []))

-- how much of the input may be eaten where a front of this answer's text was written: nothing before the usage line and that of
-- a refused load, some over the graph of a manifest, nothing over the sample
abbrev pub EatsFor : List (List ℕ) → Outside → List ℕ → Status → Type 0
EatsFor words o eaten status.Usage = eaten ≡ []
EatsFor words o eaten status.NotLoaded = eaten ≡ []
EatsFor words o eaten answer = Over words o.held o.left (λ c input. Unit {0})
    ⊎ (OnSample words (λ c. Unit {0}) × (eaten ≡ []))

-- the line of the files' first refusal was written; where it is that a file is not there, some name was not found in this run
pub record RefusedLoad (words : List (List ℕ)) (o : Outside) : Type 0 where
  pub refusal : LoadRefusal
  pub permitted : IsNotLoaded words o.held refusal
  pub missed : (name : List ℕ) → refusal ≡ refused.NoFile name → Rose o.files_misses.before o.files_misses.now
  pub moved : Appends o.taken o.took (load_line refusal)

-- the replies to the statements that ended in what was read were written, from no parameters on
abbrev pub AnswersEnded : Context → List ℕ → Option (List ℕ) → Option (List ℕ) → Type 0
AnswersEnded c read old new = (t : Tone) × (behind : List Param) × replies.Wrote (IsTurn c) [] behind (ended_in long most start read) t old new

-- a read failed: in loading, and nothing was done; or in the session, and the statements that ended in what was eaten were answered
abbrev pub FailedToRead : List (List ℕ) → Outside → List ℕ → Type 0
FailedToRead words o eaten =
    (DidNothing o eaten × Rose o.files_faults.before o.files_faults.now)
    ⊎ (Over words o.held (Some eaten) (λ c read. AnswersEnded c read o.taken o.took)
    × Rose o.input_faults.before o.input_faults.now)

-- how a run ended that ate this much of the input: with a whole answer, with a fault by its cause, or for want of memory
-- before the first statement
abbrev pub Ends : List (List ℕ) → Outside → List ℕ → Status → Type 0
Ends words o eaten status.ReadFault = FailedToRead words o eaten
Ends words o eaten status.WriteFault =
    (front : WroteFront words o.held o.left o.taken o.took) × EatsFor words o eaten front.answer
    × Rose o.out_faults.before o.out_faults.now
Ends words o eaten (status.Memory why) = DidNothing o eaten ⊎ (Wrote words o.held o.left (status.Memory why) o.taken o.took × EatsAll words o eaten)
Ends words o eaten status.Ended = Wrote words o.held o.left status.Ended o.taken o.took × EatsAll words o eaten
Ends words o eaten status.Refused = Wrote words o.held o.left status.Refused o.taken o.took × EatsAll words o eaten
Ends words o eaten status.Usage = Wrote words o.held o.left status.Usage o.taken o.took × (eaten ≡ [])
Ends words o eaten status.NotLoaded = RefusedLoad words o × (eaten ≡ [])
Ends words o eaten status.TooLong = Wrote words o.held o.left status.TooLong o.taken o.took

-- the count is what it was
abbrev pub IsStill : Count → Type 0
IsStill count = count.now ≡ count.before

-- the first call that failed ended the run: no other count of faults rose than that of what failed, as the status tells
abbrev pub EndsAtFault : Outside → Status → Type 0
EndsAtFault o status.ReadFault = IsStill o.out_faults × (IsStill o.files_faults ⊎ IsStill o.input_faults)
EndsAtFault o status.WriteFault = IsStill o.files_faults × IsStill o.input_faults
EndsAtFault o answer = IsStill o.files_faults × IsStill o.input_faults × IsStill o.out_faults

-- the same, but that the input is told, and is just what was eaten
abbrev pub with_eaten : Outside → List ℕ → Outside
with_eaten o eaten = record o { left = Some eaten; unread = Some [] }

-- the run: how much of the input it ate, and how it ended, over the input as far as that is told and over an input that is just
-- what was eaten; so what was written follows from what was eaten, also where nothing is told of the input
pub record Runs (words : List (List ℕ)) (outside : Outside) (answer : Status) : Type 0 where
  pub eaten : List ℕ
  pub ate : Consumes outside.left outside.unread eaten
  pub few : length eaten ≤ most + 1
  pub ends : Ends words outside eaten answer
  pub ends_alike : Ends words (with_eaten outside eaten) eaten answer
  pub first : EndsAtFault outside answer

-- ---- the same in short, where all is told and nothing fails

-- the status of a run that answered all statements or questions
abbrev pub IsToTheEnd : Status → Type 0
IsToTheEnd status.Ended = Unit {0}
IsToTheEnd status.Refused = Unit {0}
IsToTheEnd (status.Memory why) = Unit {0}
IsToTheEnd s = ⊥

-- one of these statements, with the parameters that stand behind those before it, asks a query that is answered and has
-- LIMIT, but neither DISTINCT nor ORDER BY. Which of its outcomes are looked at is open, so both rows and a fault may be
-- permitted
pub record AsksOpenQuery (c : Context) (statements : List (List ℕ)) : Type 0 where
  pub place : ℕ
  pub statement : List ℕ
  pub at : slice_get statements place ≡ Some statement
  pub params : List Param
  pub stand : StandBehind c [] (take place statements) params
  pub query : Query
  pub bound : Bound
  pub asked : IsAsked c.graph params statement query bound
  pub limited : IsSome query.limit
  pub all_lines : query.distinct ≡ false
  pub unordered : query.order ≡ []

-- two statuses may be permitted at once: all statements or questions are answered, and one of them may want memory, or
-- a statement asks such a query
pub record AreOpen (words : List (List ℕ)) (files : Names) (input : List ℕ) (one other : Status) : Type 0 where
  pub first : IsToTheEnd one
  pub second : IsToTheEnd other
  pub why : IsMemory one ⊎ IsMemory other ⊎ Over words (Some files) (Some input) (λ c text. AsksOpenQuery c (session.statements text))

-- a permitted text was written whole, and no other status is permitted
pub record IsWhole (words : List (List ℕ)) (files : Names) (input : List ℕ) (answer : Status) (old new : Option (List ℕ)) : Type 0 where
  pub text : List ℕ
  pub permitted : Permits words (Some files) (Some input) answer text
  pub written : Appends old new text
  pub only : (other : Status) (otherwise : List ℕ) → Permits words (Some files) (Some input) other otherwise
      → (other ≡ answer) ⊎ AreOpen words files input other answer

abbrev pub Whole : List (List ℕ) → Outside → Status → Type 0
Whole words outside answer = (files : Names) (input : List ℕ) → outside.held ≡ Some files → outside.left ≡ Some input
    → ¬ (Rose outside.files_faults.before outside.files_faults.now) → ¬ (Rose outside.input_faults.before outside.input_faults.now)
    → ¬ (Rose outside.out_faults.before outside.out_faults.now)
    → (IsMemory answer × Keeps outside.taken outside.took) ⊎ IsWhole words files input answer outside.taken outside.took
