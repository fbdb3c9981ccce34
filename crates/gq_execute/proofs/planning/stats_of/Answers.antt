use Rattle.std.proofs.Common.{length, ap, ◌∙◌}
use Rattle.std.proofs.lemmas.List.FromFn.{length-map-range_with_len}
use Rattle.gq_execute.proofs.planning.stats_of.Goals as goal

pub returns-clause-nodes : goal.returns-clause-nodes
returns-clause-nodes c = ap length c.in_ok-nodes.ensures ∙ length-map-range_with_len _ 0 _

pub returns-clause-rels : goal.returns-clause-rels
returns-clause-rels c = ap length c.in_ok-rels.ensures ∙ length-map-range_with_len _ 0 _
