-- The line of a statement that has no other reply (this project's profile).
use Rattle.std.specs.Prelude.{ℕ, List, ◌++◌, codes}
use Rattle.gq_render.specs.Texts.{line}

-- what went wrong, behind one word
abbrev pub error_line : List ℕ → List ℕ
error_line text = line (codes "error: " ++ text)
