use Rattle.std.proofs.Common.{inl, inr}
use Rattle.gq_chains.proofs.asked.extended.Goals as goal

pub returns-in-List : goal.returns-in-List
returns-in-List c = inl c.in-List.is

pub returns-in-Column : goal.returns-in-Column
returns-in-Column c = inr c.in-Column.is
