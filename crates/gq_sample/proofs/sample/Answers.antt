use Rattle.std.proofs.Common.{rules}
use Rattle.gq_sample.proofs.Valid.{built_valid}
use Rattle.gq_sample.proofs.sample.Goals as goal

pub build-requires : goal.build-requires
build-requires c = built_valid c.args.size c.requires.least c.requires.most c.set_rel_rows-2.new.self (search rules) (search rules) (search rules)
