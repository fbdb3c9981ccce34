-- How far a walker, or the trails of a query, have come.
use Rattle.std.specs.Prelude.{Bool, true, false}
use Rattle.gq_hops.specs.declared.state.State.{State}
use Rattle.gq_hops.specs.declared.state.State.TheVariants.{Fresh, Standing, Over}

-- whether it stands at what was reached last
abbrev pub is_standing : State → Bool
is_standing Fresh = false
is_standing Standing = true
is_standing Over = false
