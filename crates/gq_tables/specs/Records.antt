-- The records that `csv` defines for the bytes of a file.
use Rattle.std.specs.Prelude.{ℕ, List}
use Rattle.csv.specs.Reading.{default_config, records, strip_bom}

-- byte records: fields apart by `,`, quoted by `"`, untrimmed, of any number; no header row; one leading byte order mark is dropped
abbrev pub records_of : List ℕ → List (List (List ℕ))
records_of bytes = records default_config (strip_bom bytes)
