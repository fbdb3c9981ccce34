-- How the answers of the loader's calls speak of the definition of a load.
use Rattle.std.specs.Prelude.{◌≡◌, IfSome, Ok, Err}
use Rattle.std.specs.declared.option.Option.{Option}
use Rattle.std.specs.declared.result.Result.{Result}
use Rattle.gq_io.specs.Outside.{Names}
use Rattle.gq_loader.specs.declared.refusal.LoadRefusal.{LoadRefusal}
use Rattle.gq_loader.specs.declared.refusal.LoadRefusal.TheVariants as refusal

-- where the files are told, a refusal is the one that is meant; a failed call and want of memory
-- may be answered at any time
abbrev pub Refuses : {T : Type 0} → Option Names → (Names → Result T LoadRefusal) → LoadRefusal
    → Type 0
Refuses held meant (refusal.ReadFault name) = Unit {0}
Refuses held meant refusal.Memory = Unit {0}
Refuses held meant e = IfSome held (λ files. meant files ≡ Err e)

-- where the files are told, the answer is the one that is meant
abbrev pub Answers : {T : Type 0} → Option Names → (Names → Result T LoadRefusal)
    → Result T LoadRefusal → Type 0
Answers held meant (Ok value) = IfSome held (λ files. meant files ≡ Ok value)
Answers held meant (Err e) = Refuses held meant e
