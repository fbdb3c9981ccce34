use Rattle.std.proofs.Common.{◌∙◌, sym}
use Rattle.std.proofs.lemmas.Bool.{and_from}
use Rattle.gq_trails.specs.steps.Chained.{all_stand}
use Rattle.gq_trails.proofs.chain.Chain.advance.Goals as goal

pub returns-clause-stands : goal.returns-clause-stands
returns-clause-stands c on = and_from c.go_behind-self.result (all_stand c.go_behind-self.new.ends.items) on (c.go_behind-self.ensures.gone.stand on)

pub returns-clause-chain : goal.returns-clause-chain
returns-clause-chain c =
    let was = c.requires in
    let gone = c.go_behind-self.ensures.gone in
    record { graph = was.graph ∙ sym gone.same.graph; chain = gone.chain; nodes = c.go_behind-self.ensures.nodes ∙ was.nodes ∙ sym gone.same.nodes; rels = c.go_behind-self.ensures.rels ∙ was.rels ∙ sym gone.same.rels }
