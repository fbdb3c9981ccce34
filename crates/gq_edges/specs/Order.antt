-- The order of relationships: by source, and then by number.
use Rattle.std.specs.Prelude.{ℕ, ◌*◌, List, length, take}
use Rattle.std.specs.List.{concat, range_with_len}
use Rattle.gq_adj.specs.Adjacent.{lists_of}

-- the numbers of the relationships of each source, where `from` has the source of each number
abbrev pub numbers_of : ℕ → List ℕ → List (List ℕ)
numbers_of vertices from = lists_of vertices from (range_with_len 0 (length from))

-- how many relationships have sources before a page of 128 sources
abbrev pub page_start_of : List (List ℕ) → ℕ → ℕ
page_start_of numbers page = length (concat (take (128 * page) numbers))
