-- The refusals of a load: those of its files, of a line of the manifest, and of the file of a table
-- (this project's profile).
use Rattle.std.specs.Prelude.{ℕ, List, codes, Ok, Err}
use Rattle.std.specs.declared.result.Result.{Result}
use Rattle.gq_manifest.specs.declared.refusal.ManifestRefusal.{ManifestRefusal}
use Rattle.gq_manifest.specs.declared.refusal.ManifestRefusal.TheVariants as manifest
use Rattle.gq_tables.specs.declared.refusal.TableRefusal.{TableRefusal}
use Rattle.gq_tables.specs.declared.refusal.TableRefusal.TheVariants as table
use Rattle.gq_loader.specs.declared.refusal.LoadRefusal.{LoadRefusal}
use Rattle.gq_loader.specs.declared.refusal.LoadRefusal.TheVariants as refusal

abbrev pub name_of : LoadRefusal → List ℕ
name_of (refusal.NoFile name) = codes "NoFile"
name_of (refusal.FileTooLong name) = codes "FileTooLong"
name_of (refusal.BadLine line) = codes "BadLine"
name_of (refusal.LabelRepeated line) = codes "LabelRepeated"
name_of (refusal.TypeRepeated line) = codes "TypeRepeated"
name_of (refusal.NoSuchLabel line) = codes "NoSuchLabel"
name_of (refusal.TooManyTables line) = codes "TooManyTables"
name_of (refusal.BadHeader file) = codes "BadHeader"
name_of (refusal.TooManyProperties file) = codes "TooManyProperties"
name_of (refusal.TooManyRows file) = codes "TooManyRows"
name_of (refusal.FieldCount file number) = codes "FieldCount"
name_of (refusal.BadField file number column) = codes "BadField"
name_of (refusal.NullKey file number) = codes "NullKey"
name_of (refusal.NoSuchNode file number column) = codes "NoSuchNode"
name_of (refusal.KeyRepeated file number) = codes "KeyRepeated"
name_of (refusal.NotSingle file number) = codes "NotSingle"
name_of (refusal.ReadFault name) = codes "ReadFault"
name_of refusal.Memory = codes "Memory"

-- the files are refused: no call of them failed, and there was enough memory
abbrev pub IsOfFiles : LoadRefusal → Type 0
IsOfFiles (refusal.ReadFault name) = ⊥
IsOfFiles refusal.Memory = ⊥
IsOfFiles e = Unit {0}

-- what a manifest is refused for, for a load
abbrev pub of_manifest : ManifestRefusal → LoadRefusal
of_manifest (manifest.BadLine line) = refusal.BadLine line
of_manifest (manifest.LabelRepeated line) = refusal.LabelRepeated line
of_manifest (manifest.TypeRepeated line) = refusal.TypeRepeated line
of_manifest (manifest.NoSuchLabel line) = refusal.NoSuchLabel line
of_manifest (manifest.TooManyTables line) = refusal.TooManyTables line
of_manifest manifest.Memory = refusal.Memory

-- what the file of this name is refused for, for a load
abbrev pub of_table : List ℕ → TableRefusal → LoadRefusal
of_table file table.BadHeader = refusal.BadHeader file
of_table file table.TooManyProperties = refusal.TooManyProperties file
of_table file table.TooManyRows = refusal.TooManyRows file
of_table file (table.FieldCount number) = refusal.FieldCount file number
of_table file (table.BadField number column) = refusal.BadField file number column
of_table file (table.NullKey number) = refusal.NullKey file number
of_table file (table.NoSuchNode number column) = refusal.NoSuchNode file number column
of_table file (table.KeyRepeated number) = refusal.KeyRepeated file number
of_table file (table.NotSingle number) = refusal.NotSingle file number

-- an answer whose refusal is one of a load
abbrev pub refused_as : {A E : Type 0} → (E → LoadRefusal) → Result A E → Result A LoadRefusal
refused_as form (Ok x) = Ok x
refused_as form (Err e) = Err (form e)
