use Rattle.std.proofs.Common.{◌∙◌, ap₂, sym}
use Rattle.gq_exists.specs.steps.Levels.{is_path, links_of}
use Rattle.gq_exists.proofs.Fronts.{no_link, same_tests}
use Rattle.gq_exists.proofs.paths.+is_found.Goals as goal

pub returns-in-None : goal.returns-in-None
returns-in-None t c =
    no_link c.in-Some.level.now.keys (links_of c.in-Some.levels.now) c.new.result c.args.front c.in-Some-split_first.node.now c.in-Some-split_first.key.now
    (λ i. record { front = c.new.ensures.front i; table = c.new.ensures.table i; row = c.new.ensures.row i }) (c.in-None.ensures.found ∙ same_tests c.new.result c.in-Some.level.now.keys)
    ∙ sym (ap₂ (λ ls k. is_path (links_of ls) c.args.front k) c.in-Some.ensures.cases.0 c.in-Some-split_first.ensures.cases.0)
