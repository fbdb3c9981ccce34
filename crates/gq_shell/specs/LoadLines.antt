-- The line of each refusal of a load (this project's profile).
use Rattle.std.specs.Prelude.{ℕ, List, [], ◌++◌, codes, decimal}
use Rattle.gq_loader.specs.Refusals.{name_of}
use Rattle.gq_loader.specs.declared.refusal.LoadRefusal.{LoadRefusal}
use Rattle.gq_loader.specs.declared.refusal.LoadRefusal.TheVariants as refusal
use Rattle.gq_render.specs.Texts.{line, name_text}

-- on a line of the manifest
abbrev pub on_line : ℕ → List ℕ
on_line number = line (codes " line " ++ decimal number)

-- in the file of this name, in a record of it, and in a field of that
abbrev pub in_file : List ℕ → List ℕ
in_file name = line (codes " " ++ name_text name)

abbrev pub in_record : List ℕ → ℕ → List ℕ
in_record name number = line (codes " " ++ name_text name ++ codes " record " ++ decimal number)

abbrev pub in_field : List ℕ → ℕ → ℕ → List ℕ
in_field name number column = line (codes " " ++ name_text name ++ codes " record " ++ decimal number ++ codes " column " ++ decimal column)

-- where a refusal is
abbrev pub place_line : LoadRefusal → List ℕ
place_line (refusal.NoFile name) = in_file name
place_line (refusal.FileTooLong name) = in_file name
place_line (refusal.BadLine number) = on_line number
place_line (refusal.LabelRepeated number) = on_line number
place_line (refusal.TypeRepeated number) = on_line number
place_line (refusal.NoSuchLabel number) = on_line number
place_line (refusal.TooManyTables number) = on_line number
place_line (refusal.BadHeader file) = in_file file
place_line (refusal.TooManyProperties file) = in_file file
place_line (refusal.TooManyRows file) = in_file file
place_line (refusal.FieldCount file number) = in_record file number
place_line (refusal.BadField file number column) = in_field file number column
place_line (refusal.NullKey file number) = in_record file number
place_line (refusal.NoSuchNode file number column) = in_field file number column
place_line (refusal.KeyRepeated file number) = in_record file number
place_line (refusal.NotSingle file number) = in_record file number
place_line (refusal.ReadFault name) = in_file name
place_line refusal.Memory = line []

-- the line of a refusal: its name, and where it is
abbrev pub load_line : LoadRefusal → List ℕ
load_line e = codes "load: " ++ name_of e ++ place_line e
