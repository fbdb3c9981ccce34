-- Values that come behind a bar.
use Rattle.std.specs.Prelude.{◌≡◌, Bool, true, false}
use Rattle.std.specs.declared.cmp.Ordering.TheVariants.{Less}
use Rattle.gq_base.specs.Values.{Val, order_vals}

-- a value comes behind the bar in the ascending order, or in the descending one
abbrev pub IsBehindBar : Bool → Val → Val → Type 0
IsBehindBar true bar v = order_vals v bar ≡ Less
IsBehindBar false bar v = order_vals bar v ≡ Less
