-- Files by name, as two lists: the names, and beside each its bytes (this project's profile).
use Rattle.std.specs.Prelude.{ℕ, List, [], get_or, position, option_map}
use Rattle.std.specs.declared.option.Option.{Option}
use Rattle.std.specs.Str.{bytes_eq}

-- the bytes of the first file of this name
abbrev pub held_of : List (List ℕ) → List (List ℕ) → List ℕ → Option (List ℕ)
held_of names contents name = option_map (λ k. get_or contents k []) (position (λ n. bytes_eq n name) names)
