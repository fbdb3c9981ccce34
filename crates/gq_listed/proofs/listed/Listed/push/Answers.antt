use Rattle.gq_listed.proofs.ListedRows.{few, refused, told}
use Rattle.gq_listed.proofs.listed.Listed.push.Goals as goal

pub add-requires-clause-few : goal.add-requires-clause-few
add-requires-clause-few g c = few c.args.asked.now c.requires.listing c.args.self.now c.requires.stands c.requires.room

pub add-requires-clause-keyless : goal.add-requires-clause-keyless
add-requires-clause-keyless g c = c.requires.listing.keyless

pub returns-in-Ok-clause-pushes : goal.returns-in-Ok-clause-pushes
returns-in-Ok-clause-pushes g c = told c.args.asked.now c.requires.listing c.args.self.now c.requires.stands c.requires.room c.add.new.self _ _ c.more.result c.in-Ok.ensures.adds c.more.ensures

pub returns-in-Err-clause-pushes : goal.returns-in-Err-clause-pushes
returns-in-Err-clause-pushes g c = refused c.args.asked.now c.requires.listing c.args.self.now c.requires.stands c.requires.room c.add.new.self _ c.in-Err.refusal c.in-Err.ensures.adds
