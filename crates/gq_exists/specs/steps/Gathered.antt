-- What gathered keys stand for, and how one call ends.
use Rattle.std.specs.Prelude.{◌≡◌, ◌≤◌, ℕ, Result, Ok, Err, List, ◌++◌, length, map, take}
use Rattle.std.specs.List.{range_with_len}
use Rattle.gq_base.specs.declared.NodeId.{NodeId}
use Rattle.gq_group.specs.Chunks.{node_at}
use Rattle.gq_group.specs.declared.chunk.Chunk.{Chunk}
use Rattle.gq_join.specs.declared.build.JoinRefusal.{JoinRefusal}
use Rattle.gq_join.specs.declared.build.JoinRefusal.TheVariants as refusal
use Rattle.gq_plan.specs.Keys.{has_key}
use Rattle.gq_plan.specs.Rows.{nodes_of_tables}
use Rattle.gq_plan.specs.declared.typed.Typed.{Typed}
use Rattle.gq_exists.specs.Different.{AreDifferent, HasMany}
use Rattle.gq_exists.specs.declared.gathering.Gathering.{Gathering}
use Rattle.gq_exists.specs.declared.keys.Keys.{Keys}
use Rattle.gq_exists.specs.steps.Stored.{AreKeys, IsWide, keys_in}

-- ---- the keys of a chunk

-- the nodes of the first variables at one position of each group
abbrev pub key_at : Typed → ℕ → Chunk → List ℕ → List NodeId
key_at y n c ps = take n (nodes_of_tables y.nodes (map (node_at c ps) (range_with_len 0 (length y.nodes))))

abbrev pub keys_at : Typed → ℕ → Chunk → List (List ℕ) → List (List NodeId)
keys_at y n c pss = map (key_at y n c) pss

-- ---- what stands

-- keys of so many nodes each
pub record IsGathering (g : Gathering) : Type 0 where
  pub are : AreKeys g.keys
  pub wide : IsWide g.width g.keys

-- they are those that came, each once, and not too many
pub record Stands (limit : ℕ) (came : List (List NodeId)) (k : Keys) : Type 0 where
  pub same : (key : List NodeId) → has_key key (keys_in k) ≡ has_key key came
  pub apart : AreDifferent (keys_in k)
  pub few : length (keys_in k) ≤ limit

-- keys came to those that came before
pub record TakesOn (keys : List (List NodeId)) (old new : Gathering) : Type 0 where
  pub is : IsGathering new
  pub width : new.width ≡ old.width
  pub limit : new.limit ≡ old.limit
  pub stands : (came : List (List NodeId)) → Stands old.limit came old.keys → Stands old.limit (came ++ keys) new.keys

-- they came, or they are too many; want of memory is free
abbrev pub Gathers : List (List NodeId) → Gathering → Gathering → Result (Unit {0}) JoinRefusal → Type 0
Gathers keys old new (Ok _) = TakesOn keys old new
Gathers keys old new (Err (refusal.TooManyRows l)) =
    (l ≡ old.limit) × ((came : List (List NodeId)) → Stands old.limit came old.keys → HasMany old.limit (came ++ keys))
Gathers keys old new (Err (refusal.Memory why)) = Unit {0}
