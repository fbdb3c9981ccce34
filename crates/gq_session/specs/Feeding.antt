-- What one byte does to a scanner and its buffer.
use Rattle.std.specs.Prelude.{◌≡◌, ℕ, ◌≤◌, List, [], ◌∷◌, take, length, true, false}
use Rattle.gq_session.specs.Scanning.{Place, step, ended_by}
use Rattle.gq_session.specs.declared.scan.Scan.{Scan}
use Rattle.gq_session.specs.declared.scan.Fed.{Fed}
use Rattle.gq_session.specs.declared.scan.Fed.TheVariants as fed

-- the place that a scanner stands for, with the front of its buffer
abbrev pub scan_of : Scan → List ℕ → Place
scan_of s statement = record { state = s.state; rest = take s.filled statement; count = s.total; stopped = false }

abbrev pub Feeds : ℕ → ℕ → Place → ℕ → Place → List ℕ → Fed → Type 0
Feeds long most p b q statement fed.Kept = (step long most p b ≡ q) × (ended_by most p b ≡ [])
Feeds long most p b q statement (fed.Ended n) = (step long most p b ≡ q) × (ended_by most p b ≡ take n statement ∷ []) × (n ≤ length statement)
Feeds long most p b q statement fed.TooLong = ((step long most p b).stopped ≡ true) × (ended_by most p b ≡ [])
