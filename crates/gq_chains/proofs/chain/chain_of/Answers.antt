use Rattle.gq_chains.proofs.Begun.{chain_by}
use Rattle.gq_chains.proofs.chain.chain_of.Goals as goal

pub returns-in-Chain : goal.returns-in-Chain
returns-in-Chain c = chain_by c.args.plan_run.now c.args.group c.requires c.in-Chain.is c.begins.result c.begins.ensures
