-- What is told of the files before a part of a load and after it (this project's profile).
use Rattle.std.specs.Prelude.{◌≡◌, ℕ, List, OnOk, Err}
use Rattle.std.specs.List.{Contains}
use Rattle.std.specs.declared.option.Option.{Option}
use Rattle.std.specs.declared.result.Result.{Result}
use Rattle.gq_io.specs.Outside.{Names}
use Rattle.gq_base.specs.Catalogs.{Tables}
use Rattle.gq_loader.specs.Effects.{ByFault, ByMiss, ReadsFew, files_of}
use Rattle.gq_loader.specs.declared.refusal.LoadRefusal.{LoadRefusal}
use Rattle.gq_loader.specs.declared.refusal.LoadRefusal.TheVariants as refusal

-- what is told of the files at one time
pub record Told : Type 0 where
  pub held : Option Names
  pub left : Option (List ℕ)
  pub faults : ℕ
  pub misses : ℕ

abbrev pub told_of : {D : Type 0} → (D → Option Names) → (D → Option (List ℕ)) → (D → ℕ) → (D → ℕ)
    → D → Told
told_of held left faults misses files = record {
  held = held files;
  left = left files;
  faults = faults files;
  misses = misses files;
}

-- what a part of a load does to the files: it changes none, no call failed where it goes on, its
-- faults and misses have their causes, and of a file that it refuses as too long it read no more than
-- shows that
pub record Reads {T : Type 0} (most : ℕ) (old new : Told) (result : Result T LoadRefusal) : Type 0 where
  pub held : new.held ≡ old.held
  pub still : OnOk result (new.faults ≡ old.faults)
  pub faults : ByFault old.faults new.faults result
  pub misses : ByMiss old.misses new.misses result
  pub few : ReadsFew old.held new.left most result

-- `ReadFault` names this file alone
abbrev pub NamesOnly : {T : Type 0} → List ℕ → Result T LoadRefusal → Type 0
NamesOnly file result = (name : List ℕ) → result ≡ Err (refusal.ReadFault name) → name ≡ file

-- `ReadFault` names the file of one of these tables
abbrev pub NamesTable : {T : Type 0} → Tables → Result T LoadRefusal → Type 0
NamesTable tables result = (name : List ℕ) → result ≡ Err (refusal.ReadFault name) → Contains (files_of tables) name
