use Rattle.std.proofs.Common.{◌∙◌, Some, ap, sym}
use Rattle.gq_base.specs.Plain.{cell_val}
use Rattle.gq_base.specs.Values.{str}
use Rattle.gq_tables.proofs.KeyMapSteps.{text_put}
use Rattle.gq_tables.proofs.key_map.KeyMap.insert.Goals as goal

pub returns-in_ok-insert-in-Str-clause-put : goal.returns-in_ok-insert-in-Str-clause-put
returns-in_ok-insert-in-Str-clause-put c =
    let own = ap (λ key. cell_val (Some key)) c.in-Str.is ∙ ap str (sym c.as_str.ensures.bytes) in
    text_put c.args.self.now c.insert-in-Str.new.self c.as_str.result.now c.args.row (cell_val (Some c.args.key.now)) own c.in_ok-insert-in-Str.ensures.updates
