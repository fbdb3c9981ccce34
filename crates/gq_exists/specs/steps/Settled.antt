-- What all choices of a chunk have in common, and where the first variable lives.
use Rattle.std.specs.Prelude.{◌≡◌, ℕ, List, slice_index, slice_index_or}
use Rattle.gq_group.specs.Chunks.{node_at}
use Rattle.gq_group.specs.Groups.{AreSelected}
use Rattle.gq_group.specs.declared.chunk.Chunk.{Chunk}
use Rattle.gq_group.specs.declared.home.NodeHome.TheVariants as node

-- a group stands at one position
abbrev pub IsFlat : Chunk → ℕ → Type 0
IsFlat c i = (ps qs : List ℕ) → AreSelected c.groups.now ps → AreSelected c.groups.now qs → slice_index ps i ≡ slice_index qs i

-- a variable has one node
abbrev pub IsSettled : Chunk → ℕ → Type 0
IsSettled c v = (ps qs : List ℕ) → AreSelected c.groups.now ps → AreSelected c.groups.now qs → node_at c ps v ≡ node_at c qs v

-- the first variable lives in the items of a group
abbrev pub IsItem : Chunk → ℕ → Type 0
IsItem c i = node.Item i ≡ slice_index_or c.homes.now.nodes 0 node.Nowhere
