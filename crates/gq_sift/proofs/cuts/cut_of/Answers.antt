use Rattle.std.proofs.Common.{◌∙◌, sym}
use Rattle.gq_sift.proofs.cuts.cut_of.Goals as goal

pub list_cut-requires-clause-list : goal.list_cut-requires-clause-list
list_cut-requires-clause-list c = sym c.action.ensures ∙ c.in-List.is
