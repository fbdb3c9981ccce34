-- White space between statements.
use Rattle.std.specs.Prelude.{ℕ, Bool, ◌==◌, ◌||◌}
use Rattle.gq_base.specs.Words.{code}

-- a space, a tab or a line end
abbrev pub is_gap : ℕ → Bool
is_gap b = (b == code " " || b == code "\t") || (b == code "\n" || b == code "\r")
