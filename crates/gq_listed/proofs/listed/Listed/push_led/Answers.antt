use Rattle.gq_listed.proofs.ListedRows.{few, refused, told}
use Rattle.gq_listed.proofs.listed.Listed.push_led.Goals as goal

pub add_led-requires-clause-few : goal.add_led-requires-clause-few
add_led-requires-clause-few c = few c.args.asked.now c.requires.listing c.args.self.now c.requires.stands c.requires.room

pub add_led-requires-clause-keyless : goal.add_led-requires-clause-keyless
add_led-requires-clause-keyless c = c.requires.listing.keyless

pub returns-in-Ok-clause-pushes : goal.returns-in-Ok-clause-pushes
returns-in-Ok-clause-pushes c = told c.args.asked.now c.requires.listing c.args.self.now c.requires.stands c.requires.room c.add_led.new.self _ _ c.more.result c.in-Ok.ensures.adds c.more.ensures

pub returns-in-Err-clause-pushes : goal.returns-in-Err-clause-pushes
returns-in-Err-clause-pushes c = refused c.args.asked.now c.requires.listing c.args.self.now c.requires.stands c.requires.room c.add_led.new.self _ c.in-Err.refusal c.in-Err.ensures.adds
