use Rattle.gq_session.proofs.Completeness.{complete}
use Rattle.gq_session.proofs.run.session.Goals as goal

pub returns-clause-whole : goal.returns-clause-whole
returns-clause-whole g c = complete _ (g.met.A.Answerer.has_reply c.args.answerer.now) _ _ _ _ _ _ _ c.take_input.ensures.read
