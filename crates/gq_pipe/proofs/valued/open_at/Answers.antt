use Rattle.std.proofs.Common.{◌≡◌, ◌<◌, Some, length, slice_get, refl, arith}
use Rattle.gq_pipe.proofs.Opening.{opened_again, opened_there}
use Rattle.gq_pipe.proofs.Recalling.{item_there}
use Rattle.gq_pipe.proofs.valued.open_at.Goals as goal
use Rattle.gq_pipe.proofs.valued.open_at.Goals.{In-Some-found}

low : (c : In-Some-found) → c.args.depth < length c.args.indexes.now.items
low c = let inside = c.in-Some.ensures.variant.0 refl in omega (arith, inside, c.args.indexes.now.ok.0)

there : (c : In-Some-found) → slice_get c.args.indexes.now.items c.args.depth ≡ Some (Some c.in-Some-found.index)
there c = item_there c.args.indexes.now.items c.args.depth c.in-Some.found.now c.in-Some-found.index (low c) c.in-Some.ensures.value c.in-Some-found.is

pub open-requires : goal.open-requires
open-requires c = (c.requires c.in-Some-found.index (there (goal.at.open-requires c).In-Some-found)).kept

pub returns-in-None-found : goal.returns-in-None-found
returns-in-None-found c = opened_again c.args.indexes.now.items c.args.depth c.in-Some.found.now c.in-Some.ensures.value

pub returns-in-Some-found : goal.returns-in-Some-found
returns-in-Some-found c =
    opened_there c.args.indexes.now.items c.args.depth c.in-Some-found.index c.open.new.self (low (goal.at.returns-in-Some-found c).In-Some-found) (there (goal.at.returns-in-Some-found c).In-Some-found) c.open.ensures
