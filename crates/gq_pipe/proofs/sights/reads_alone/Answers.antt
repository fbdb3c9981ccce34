use Rattle.std.proofs.Common.{ap}
use Rattle.gq_plan.specs.Known.{Known}
use Rattle.gq_pipe.proofs.Asking.{alone_is}
use Rattle.gq_pipe.proofs.sights.reads_alone.Goals as goal

pub returns-in-Some : goal.returns-in-Some
returns-in-Some c on =
    alone_is c.args.plan_run.now.typed.now c.args.node c.args.test c.insert.new.self c.none-known.result.rels c.none-known.result.nodes c.in-Some.test.now c.binds_all.result c.insert.ensures
    (ap (λ (k : Known). k.nodes) c.none-known.ensures) (ap (λ (k : Known). k.rels) c.none-known.ensures) c.in-Some.ensures.value c.binds_all.ensures on
