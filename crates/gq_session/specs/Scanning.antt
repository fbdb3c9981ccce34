-- The cut of an input into statements, by a machine over its bytes.
use Rattle.std.specs.Prelude.{ℕ, ◌+◌, List, [], ◌∷◌, ◌++◌, ◌==◌, ◌||◌, length, nat_le, if◌then◌else◌, Bool, true, false}
use Rattle.gq_session.specs.declared.scan.State.{State}
use Rattle.gq_session.specs.declared.scan.State.TheVariants as at

-- the state after a byte in the plain state
abbrev pub from_plain_to : ℕ → State
from_plain_to b = if b == 39 then at.Single else if b == 34 then at.Double else if b == 96 then at.Quoted else if b == 47 then at.Slash else at.Plain

-- the state after a byte
abbrev pub next_state : State → ℕ → State
next_state at.Plain b = from_plain_to b
next_state at.Slash b = if b == 47 then at.Line else if b == 42 then at.Block else from_plain_to b
next_state at.Single b = if b == 39 then at.Plain else if b == 92 then at.SingleEscape else at.Single
next_state at.SingleEscape b = at.Single
next_state at.Double b = if b == 34 then at.Plain else if b == 92 then at.DoubleEscape else at.Double
next_state at.DoubleEscape b = at.Double
next_state at.Quoted b = if b == 96 then at.Plain else at.Quoted
next_state at.Line b = if (b == 10) || (b == 13) then at.Plain else at.Line
next_state at.Block b = if b == 42 then at.BlockStar else at.Block
next_state at.BlockStar b = if b == 47 then at.Plain else if b == 42 then at.BlockStar else at.Block

-- the byte is a `;` outside strings, quoted names and comments
abbrev pub ends : State → ℕ → Bool
ends at.Plain b = b == 59
ends at.Slash b = b == 59
ends _ b = false

-- a place in the input: the bytes after the last end, how many bytes were taken, and whether the limits stopped it
pub record Place : Type 0 where
  pub state : State
  pub rest : List ℕ
  pub count : ℕ
  pub stopped : Bool

abbrev pub start : Place
start = record { state = at.Plain; rest = []; count = 0; stopped = false }

abbrev pub stop : Place → Place
stop p = record { state = p.state; rest = p.rest; count = p.count; stopped = true }

-- the place after a byte, where a statement has at most `long` bytes and the input at most `most`
abbrev pub step : ℕ → ℕ → Place → ℕ → Place
step long most p b =
    if p.stopped then p
    else if nat_le most p.count then stop p
    else if ends p.state b then record { state = at.Plain; rest = []; count = p.count + 1; stopped = false }
    else if nat_le long (length p.rest) then stop p
    else record { state = next_state p.state b; rest = p.rest ++ b ∷ []; count = p.count + 1; stopped = false }

-- the statement that the byte ended, if it ended one
abbrev pub ended_by : ℕ → Place → ℕ → List (List ℕ)
ended_by most p b =
    if p.stopped then []
    else if nat_le most p.count then []
    else if ends p.state b then p.rest ∷ []
    else []

-- the place after a text
abbrev pub place_after : ℕ → ℕ → Place → List ℕ → Place
place_after long most p [] = p
place_after long most p (b ∷ bs) = place_after long most (step long most p b) bs

-- the statements that ended in a text
abbrev pub ended_in : ℕ → ℕ → Place → List ℕ → List (List ℕ)
ended_in long most p [] = []
ended_in long most p (b ∷ bs) = ended_by most p b ++ ended_in long most (step long most p b) bs
