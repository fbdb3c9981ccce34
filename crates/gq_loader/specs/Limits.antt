-- How much a load may read (this project's profile).
use Rattle.std.specs.Prelude.{ℕ, ◌+◌, ◌^◌, ◌≤◌, max, Bool, ◌&&◌, nat_le}
use Rattle.gq_loader.specs.declared.limits.Limits.{Limits}

-- the bytes of a manifest
abbrev pub most_manifest : ℕ
most_manifest = 2 ^ 20

-- the limits of the format itself
abbrev pub standard : Limits
standard = record { file_bytes = 2 ^ 28; total_bytes = 2 ^ 29; nodes = 2 ^ 24; rels = 2 ^ 25 }

-- no limit is greater than the one of the format
pub record IsWithin (limits : Limits) : Type 0 where
  pub file_bytes : limits.file_bytes ≤ standard.file_bytes
  pub total_bytes : limits.total_bytes ≤ standard.total_bytes
  pub nodes : limits.nodes ≤ standard.nodes
  pub rels : limits.rels ≤ standard.rels

-- a manifest may have so many bytes
abbrev pub is_short_manifest : ℕ → Bool
is_short_manifest length = nat_le length most_manifest

-- the file of a table may have so many bytes: they are no more than one file may have, and with those of the files of tables before it no more than all may have
abbrev pub is_short : Limits → ℕ → ℕ → Bool
is_short limits before length = nat_le length limits.file_bytes && nat_le (before + length) limits.total_bytes

-- the bytes that a file may have, be it a manifest or the file of a table
abbrev pub most_bytes : Limits → ℕ
most_bytes limits = max most_manifest limits.file_bytes
