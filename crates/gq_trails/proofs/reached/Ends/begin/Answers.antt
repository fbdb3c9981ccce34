use Rattle.std.proofs.Common.{◌∙◌, false, sym}
use Rattle.gq_trails.specs.steps.Walked.{walked_of}
use Rattle.gq_trails.proofs.Arriving.{begins_there, ends_to_all, ends_to_one, owes_all, owes_one, starts_somewhere}
use Rattle.gq_trails.proofs.reached.Ends.begin.Goals as goal

pub begin-requires-clause-start : goal.begin-requires-clause-start
begin-requires-clause-start c =
    begins_there c.requires.ends c.args.rels.now (walked_of c.args.walked.now) c.args.base.now c.requires.walks c.as_slice-used.ensures c.take_patterns.ensures.taken c.take.ensures.taken c.clear.ensures
    c.in-Some.start (sym c.in-Some.is ∙ c.node.ensures)

pub returns-in-None-known_end-clause-owed : goal.returns-in-None-known_end-clause-owed
returns-in-None-known_end-clause-owed c =
    owes_all c.requires.ends c.args.rels.now (walked_of c.args.walked.now) c.args.base.now c.requires.walks c.as_slice-used.ensures c.take_patterns.ensures.taken c.take.ensures.taken c.clear.ensures
    c.in-Some.start (sym c.in-Some.is ∙ c.node.ensures) c.begin.ensures

pub returns-in-None-known_end-clause-ends : goal.returns-in-None-known_end-clause-ends
returns-in-None-known_end-clause-ends c =
    ends_to_all c.requires.ends c.args.rels.now (walked_of c.args.walked.now) c.args.base.now c.requires.walks c.as_slice-used.ensures c.take_patterns.ensures.taken c.take.ensures.taken c.clear.ensures
    c.in-Some.start (sym c.in-Some.is ∙ c.node.ensures) c.begin.ensures c.stands_valid.ensures c.copy_from.new.self c.copy_from.ensures false c.take_patterns.new.taken

-- ---- where the other end is known

pub begin_to-requires-clause-start : goal.begin_to-requires-clause-start
begin_to-requires-clause-start c =
    begins_there c.requires.ends c.args.rels.now (walked_of c.args.walked.now) c.args.base.now c.requires.walks c.as_slice-used.ensures c.take_patterns.ensures.taken c.take.ensures.taken c.clear.ensures
    c.in-Some.start (sym c.in-Some.is ∙ c.node.ensures)

pub returns-in-Some-known_end-clause-owed : goal.returns-in-Some-known_end-clause-owed
returns-in-Some-known_end-clause-owed c =
    owes_one c.requires.ends c.args.rels.now (walked_of c.args.walked.now) c.args.base.now c.requires.walks c.as_slice-used.ensures c.take_patterns.ensures.taken c.take.ensures.taken c.clear.ensures
    c.in-Some.start (sym c.in-Some.is ∙ c.node.ensures) c.in-Some-known_end.end (sym c.in-Some-known_end.is ∙ c.known_end.ensures) c.begin_to.ensures

pub returns-in-Some-known_end-clause-ends : goal.returns-in-Some-known_end-clause-ends
returns-in-Some-known_end-clause-ends c =
    ends_to_one c.requires.ends c.args.rels.now (walked_of c.args.walked.now) c.args.base.now c.requires.walks c.as_slice-used.ensures c.take_patterns.ensures.taken c.take.ensures.taken c.clear.ensures
    c.in-Some.start (sym c.in-Some.is ∙ c.node.ensures) c.in-Some-known_end.end (sym c.in-Some-known_end.is ∙ c.known_end.ensures) c.begin_to.ensures c.stands_valid.ensures c.copy_from.new.self c.copy_from.ensures false c.take_patterns.new.taken

-- ---- it begins somewhere

pub returns-in-None-clause-owed : goal.returns-in-None-clause-owed
returns-in-None-clause-owed c = absurd (starts_somewhere c.args.self.now.graph.now c.args.self.now.part.now c.args.base.now c.requires.walks (sym c.in-None.is ∙ c.node.ensures))

pub returns-in-None-clause-ends : goal.returns-in-None-clause-ends
returns-in-None-clause-ends c = absurd (starts_somewhere c.args.self.now.graph.now c.args.self.now.part.now c.args.base.now c.requires.walks (sym c.in-None.is ∙ c.node.ensures))
