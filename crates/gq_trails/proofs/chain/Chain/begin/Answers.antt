use Rattle.std.proofs.Common.{◌≡◌, ◌∙◌, true, sym, subst, arith, length-append}
use Rattle.gq_base.specs.Plain.{Graph}
use Rattle.gq_base.specs.Valid.{is_valid}
use Rattle.gq_trails.specs.steps.Chained.{ends_in, parts_in}
use Rattle.gq_trails.proofs.Behind.{begun_chain, begun_owed, can_front}
use Rattle.gq_trails.proofs.chain.Chain.begin.Goals as goal

pub begin-requires-clause-walks : goal.begin-requires-clause-walks
begin-requires-clause-walks c =
    let s = c.args.self.now in
    can_front s.trails.graph s.trails.parts (parts_in (ends_in s)) c.args.base.now c.requires.walks

pub begin-requires-clause-few : goal.begin-requires-clause-few
begin-requires-clause-few c =
    let s = c.args.self.now in
    let all = length-append s.trails.parts (parts_in (ends_in s)) in
    omega (arith, all, c.requires.few)

pub returns-clause-owed : goal.returns-clause-owed
returns-clause-owed c =
    let s = c.args.self.now in
    let new = c.begin.ensures in
    begun_owed c.args.rels.now s.trails c.begin.new.self (ends_in s) c.args.base.now new.graph new.parts new.nodes new.rels c.requires.walks new.owed

pub returns-clause-chain : goal.returns-clause-chain
returns-clause-chain c =
    let s = c.args.self.now in
    let new = c.begin.ensures in
    let chain = c.requires.chain.chain in
    let valid : is_valid s.trails.graph ≡ true = subst (λ (g : Graph). is_valid g ≡ true) c.requires.chain.graph c.stands_valid.ensures in
    record {
      graph = c.requires.chain.graph ∙ sym new.graph;
      chain = begun_chain c.args.rels.now s.trails c.begin.new.self (ends_in s) c.args.base.now new.graph new.parts new.nodes new.rels c.requires.walks new.owed valid (sym c.requires.nodes) c.requires.few chain.some chain.all;
      nodes = c.requires.chain.nodes ∙ sym new.nodes;
      rels = c.requires.chain.rels ∙ sym new.rels;
    }
