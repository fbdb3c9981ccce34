use Rattle.std.proofs.Common.{◌≡◌, None, Some, get_or, arith, ◌∙◌}
use Rattle.std.proofs.lemmas.Grind.{common_steps}
use Rattle.gq_base.specs.Values.{val}
use Rattle.gq_tables.proofs.SlotSteps.{others_tell, place_tells}
use Rattle.gq_tables.specs.steps.KeyMaps.{row_at}
use Rattle.gq_tables.specs.steps.Slots.{place_of, row_in}
use Rattle.gq_tables.proofs.key_index.KeyIndex.get.Goals as goal

pub returns-in-Some : goal.returns-in-Some
returns-in-Some c =
    let found : place_of c.args.self.now.slots.items (val c.args.key.now) ≡ Some c.in-Some.place = grind (arith, common_steps) in
    let read : c.row_in.result ≡ row_in (get_or c.args.self.now.slots.items c.in-Some.place None) = grind (arith, common_steps) in
    read ∙ place_tells c.args.self.now.slots.items (val c.args.key.now) c.in-Some.place found (row_at c.args.self.now.others) c.args.self.now.spare

pub returns-in-None : goal.returns-in-None
returns-in-None c =
    let taken : place_of c.args.self.now.slots.items (val c.args.key.now) ≡ None = grind (arith, common_steps) in
    c.get.ensures ∙ others_tell c.args.self.now.slots.items (val c.args.key.now) (row_at c.args.self.now.others (val c.args.key.now)) taken
