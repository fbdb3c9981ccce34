-- A row that a build has for a key: it is one of the build's rows, and has the key.
use Rattle.std.proofs.Common.{◌≡◌, ℕ, ◌<◌, true, Some, map, length, slice_get, arith}
use Rattle.std.specs.Prelude.{slice_index}
use Rattle.std.specs.List.{range_with_len, AllByRecursion}
use Rattle.gq_join.specs.Kept.{Held, columns, has_key, matches_of, node_in}
use Rattle.gq_plan.specs.declared.assignment.Assignment.{Assignment}
use Rattle.gq_steps.proofs.Joined.{all_pass, filter_low, found_all, range_low}

module _ (h : Held) (row : Assignment) where
  -- all matches are rows of the build
  pub matches_low : AllByRecursion (λ i. i < length h.rows) (matches_of h row)
  matches_low = filter_low (has_key (columns h) (map (slice_index row.nodes) h.keys)) 0 (length h.rows) (range_with_len 0 (length h.rows)) (range_low 0 (length h.rows) (length h.rows) (omega arith))

  module _ (place i : ℕ) (match : slice_get (matches_of h row) place ≡ Some i) where
    pub match_low : i < length h.rows
    match_low = found_all (λ i. i < length h.rows) (matches_of h row) place i matches_low match

    pub match_key : has_key (map (node_in h) h.keys) (map (slice_index row.nodes) h.keys) i ≡ true
    match_key = found_all (λ j. has_key (columns h) (map (slice_index row.nodes) h.keys) j ≡ true) (matches_of h row) place i (all_pass (has_key (columns h) (map (slice_index row.nodes) h.keys)) (range_with_len 0 (length h.rows))) match
