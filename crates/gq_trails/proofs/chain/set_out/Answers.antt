use Rattle.std.proofs.Common.{refl, subst}
use Rattle.gq_trails.specs.steps.Chained.{HasBegun, barred_behind}
use Rattle.gq_trails.specs.steps.Walked.{walked_of}
use Rattle.gq_trails.specs.declared.reached.Ends.{Ends}
use Rattle.gq_trails.proofs.Placed.{can_at, read_at}
use Rattle.gq_trails.proofs.chain.set_out.Goals as goal

pub begin-requires-clause-ends : goal.begin-requires-clause-ends
begin-requires-clause-ends c = (can_at c.args.at c.args.ends.now.items c.index_mut.result.now c.args.base.now c.requires.low c.requires.can c.index_mut.ensures.value).ends

pub begin-requires-clause-walks : goal.begin-requires-clause-walks
begin-requires-clause-walks c = (can_at c.args.at c.args.ends.now.items c.index_mut.result.now c.args.base.now c.requires.low c.requires.can c.index_mut.ensures.value).walks

pub begin-requires-clause-nodes : goal.begin-requires-clause-nodes
begin-requires-clause-nodes c = (can_at c.args.at c.args.ends.now.items c.index_mut.result.now c.args.base.now c.requires.low c.requires.can c.index_mut.ensures.value).nodes

pub begin-requires-clause-rels : goal.begin-requires-clause-rels
begin-requires-clause-rels c = (can_at c.args.at c.args.ends.now.items c.index_mut.result.now c.args.base.now c.requires.low c.requires.can c.index_mut.ensures.value).rels

pub returns : goal.returns
returns c = record {
  new = c.begin.new.self;
  is = refl;
  one = λ e rest is. (let begun = c.begin.ensures in
      subst (λ (x : Ends). HasBegun x c.begin.new.self c.args.base.now (barred_behind c.args.rels.now (walked_of c.args.walked.now) c.args.base.now.rels))
      (read_at c.args.at c.args.ends.now.items c.index_mut.result.now e rest is c.index_mut.ensures.value)
      (record { owed = begun.owed; row = begun.row; stands = begun.stands; ends = begun.ends; same = begun.same }));
}
