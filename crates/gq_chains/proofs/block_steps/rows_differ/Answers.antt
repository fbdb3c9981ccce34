use Rattle.std.proofs.Common.{◌+◌, ◌*◌, refl}
use Rattle.std.specs.Prelude.{slice_index}
use Rattle.std.proofs.lemmas.Bool.{eq-eqb, ne_eqb}
use Rattle.gq_chains.proofs.Walking.{apart_read}
use Rattle.gq_chains.proofs.block_steps.rows_differ.Goals as goal

pub returns-then-rows-ends : goal.returns-then-rows-ends
returns-then-rows-ends c =
    rw (apart_read c.args.row.now c.args.rows.now c.args.at c.args.ends c.requires.inside, ne_eqb (slice_index c.args.rows.now (64 * c.args.ends.one + c.args.at)) (slice_index c.args.rows.now (64 * c.args.ends.other + c.args.at)) c.if-rows-ends.true) refl

pub returns-else-rows-ends : goal.returns-else-rows-ends
returns-else-rows-ends c =
    rw (apart_read c.args.row.now c.args.rows.now c.args.at c.args.ends c.requires.inside, eq-eqb (slice_index c.args.rows.now (64 * c.args.ends.one + c.args.at)) (slice_index c.args.rows.now (64 * c.args.ends.other + c.args.at)) c.if-rows-ends.false) refl
