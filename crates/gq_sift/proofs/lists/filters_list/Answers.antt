use Rattle.std.proofs.Common.{inl, inr}
use Rattle.gq_sift.proofs.Cutting.{beside}
use Rattle.gq_sift.proofs.lists.filters_list.Goals as goal

pub returns-in-List : goal.returns-in-List
returns-in-List c = beside _ c.listed.result (inl c.in-List.is) c.listed.ensures

pub returns-in-Pairs : goal.returns-in-Pairs
returns-in-Pairs c = beside _ c.listed-in-Pairs.result (inr c.in-Pairs.is) c.listed-in-Pairs.ensures
