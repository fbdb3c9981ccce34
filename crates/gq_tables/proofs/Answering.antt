-- Refusals that are passed on.
use Rattle.std.proofs.Common.{◌≡◌, Err}
use Rattle.std.specs.declared.result.Result.{Result}
use Rattle.gq_tables.specs.Answers.{Refuses}
use Rattle.gq_tables.specs.declared.refusal.TableRefusal.{TableRefusal}
use Rattle.gq_tables.specs.declared.refusal.TableStop.{TableStop}
use Rattle.gq_tables.specs.declared.refusal.TableStop.TheVariants as stop

-- where a part is refused the whole is
pub passed_on : {S T : Type 0} (part : Result S TableRefusal) (whole : Result T TableRefusal)
    (e : TableStop) → Refuses part e
    → ((refusal : TableRefusal) → part ≡ Err refusal → whole ≡ Err refusal) → Refuses whole e
passed_on part whole (stop.Refused refusal) h f = f refusal h
passed_on part whole stop.Memory h f = tt
