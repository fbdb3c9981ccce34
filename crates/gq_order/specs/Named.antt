-- What the orders of plans are called, and whether their plans state costs (this project's profile).
use Rattle.std.specs.Prelude.{ℕ, Bool, true, false, List, codes}
use Rattle.gq_order.specs.declared.named.Order.{Order}
use Rattle.gq_order.specs.declared.named.Order.TheVariants.{Given, Greedy, Least}

abbrev pub name_of : Order → List ℕ
name_of Given = codes "given"
name_of Greedy = codes "greedy"
name_of Least = codes "least"

-- the plans of an order state what each component costs
abbrev pub has_costs : Order → Bool
has_costs Given = false
has_costs Greedy = false
has_costs Least = true
