-- How the answers of the calls speak of what is meant.
use Rattle.std.specs.Prelude.{◌≡◌, Ok, Err}
use Rattle.std.specs.declared.result.Result.{Result}
use Rattle.gq_tables.specs.Rels.{KeyTable}
use Rattle.gq_tables.specs.declared.keys.End.{End}
use Rattle.gq_tables.specs.declared.refusal.TableRefusal.{TableRefusal}
use Rattle.gq_tables.specs.declared.refusal.TableStop.{TableStop}
use Rattle.gq_tables.specs.declared.refusal.TableStop.TheVariants as stop

-- the refusal that is meant, or want of memory, which is free
abbrev pub Refuses : {T : Type 0} → Result T TableRefusal → TableStop → Type 0
Refuses meant (stop.Refused refusal) = meant ≡ Err refusal
Refuses meant stop.Memory = Unit {0}

-- the answer is what is meant, or want of memory
abbrev pub Answers : {T : Type 0} → Result T TableRefusal → Result T TableStop → Type 0
Answers meant (Ok value) = meant ≡ Ok value
Answers meant (Err e) = Refuses meant e

-- the node table at an end
abbrev pub seen_end : End → KeyTable
seen_end end = record { kind = end.kind; rows = end.rows.now }
