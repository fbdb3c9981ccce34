use Rattle.std.proofs.Common.{refl, sym, subst}
use Rattle.gq_trails.specs.steps.Chained.{HasAdvanced}
use Rattle.gq_trails.specs.steps.Reached.{AreEnds}
use Rattle.gq_trails.specs.declared.reached.Ends.{Ends}
use Rattle.gq_trails.proofs.Placed.{cons_at, read_at}
use Rattle.gq_trails.proofs.chain.advance_at.Goals as goal

pub advance-requires : goal.advance-requires
advance-requires c =
    let es = c.args.ends.now.items in
    let here = cons_at c.args.at es c.requires.low in
    subst AreEnds (sym (read_at c.args.at es c.index_mut.result.now here.first here.rest here.is c.index_mut.ensures.value)) (c.requires.ends here.first here.rest here.is)

pub returns : goal.returns
returns c = record {
  new = c.advance.new.self;
  is = refl;
  one = λ e rest is. (let gone = c.advance.ensures in
      subst (λ (x : Ends). HasAdvanced x c.advance.new.self c.advance.result) (read_at c.args.at c.args.ends.now.items c.index_mut.result.now e rest is c.index_mut.ensures.value)
      (record { goes = gone.goes; stands = gone.stands; ends = gone.ends; same = gone.same }));
}
