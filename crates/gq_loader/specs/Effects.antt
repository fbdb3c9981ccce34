-- What a load does to the files that it reads (this project's profile).
use Rattle.std.specs.Prelude.{◌≡◌, ◌≢◌, ◌⊎◌, ℕ, ◌+◌, ◌≤◌, List, ◌++◌, length, map, IfSome, IsSome, Ok, Err}
use Rattle.std.specs.List.{Contains}
use Rattle.std.specs.declared.option.Option.{Option}
use Rattle.std.specs.declared.result.Result.{Result}
use Rattle.std.specs.Io.KnownBytes.{Consumes}
use Rattle.gq_io.specs.Causes.{Rose}
use Rattle.gq_base.specs.Catalogs.{Tables}
use Rattle.gq_io.specs.Outside.{Names}
use Rattle.gq_loader.specs.Loads.{beginning_of}
use Rattle.gq_loader.specs.declared.loading.Beginning.{Beginning}
use Rattle.gq_loader.specs.declared.refusal.LoadRefusal.{LoadRefusal}
use Rattle.gq_loader.specs.declared.refusal.LoadRefusal.TheVariants as refusal

-- the count of faults did not fall: it rose where the answer is `ReadFault`, and is as it was after each other answer
pub record ByFault {T : Type 0} (before now : ℕ) (result : Result T LoadRefusal) : Type 0 where
  pub later : before ≤ now
  pub kept : ((name : List ℕ) → result ≢ Err (refusal.ReadFault name)) → now ≡ before
  pub failed : (name : List ℕ) → result ≡ Err (refusal.ReadFault name) → Rose before now

-- the count of misses did not fall, and `NoFile` comes only where it rose
pub record ByMiss {T : Type 0} (before now : ℕ) (result : Result T LoadRefusal) : Type 0 where
  pub later : before ≤ now
  pub missed : (name : List ℕ) → result ≡ Err (refusal.NoFile name) → Rose before now

-- of the file of this name, which is there, at most so many bytes were read
pub record TookAtMost (held : Option Names) (name : List ℕ) (left : Option (List ℕ)) (most : ℕ) : Type 0 where
  pub there : IfSome held (λ files. IsSome (files name))
  pub eaten : List ℕ
  pub few : length eaten ≤ most
  pub took : IfSome held (λ files. Consumes (files name) left eaten)

-- of the file that `FileTooLong` names, at most one byte more than so many was read
abbrev pub ReadsFew : {T : Type 0} → Option Names → Option (List ℕ) → ℕ → Result T LoadRefusal → Type 0
ReadsFew held left most result = (name : List ℕ) → result ≡ Err (refusal.FileTooLong name)
    → TookAtMost held name left (most + 1)

-- the names of the files of all tables
abbrev pub files_of : Tables → List (List ℕ)
files_of tables = map (λ t. t.file) tables.nodes ++ map (λ t. t.file) tables.rels

-- the manifest of this name, which is there and all of whose lines are read, names the file
abbrev pub IsLineFile : Names → List ℕ → List ℕ → Type 0
IsLineFile files manifest name =
    (b : Beginning) × (beginning_of manifest files ≡ Ok b) × Contains (files_of b.loading.graph.catalog) name

-- `ReadFault` names the manifest, or where the files are told, a file that the manifest names
abbrev pub NamesFile : {T : Type 0} → Option Names → List ℕ → Result T LoadRefusal → Type 0
NamesFile held manifest result = (name : List ℕ) → result ≡ Err (refusal.ReadFault name)
    → (name ≡ manifest) ⊎ IfSome held (λ files. IsLineFile files manifest name)
