use Rattle.std.proofs.Common.{◌≡◌, length}
use Rattle.gq_tables.proofs.NodeSteps.{gathered, has_room, one_row}
use Rattle.gq_tables.proofs.nodes.read_rows.Goals as goal

pub loop-room-preserved : goal.loop-room-preserved
loop-room-preserved c =
    let next = rw c.if-branch.true at c.in_ok-read_next.ensures.next in
    let is_open = rw c.if-branch.true at c.in_ok-read_next.ensures.is_open in
    let size : c.len.result ≡ length c.loop-room.rows = c.len.ensures in
    let read = rw size at c.in-Ok.ensures in
    (c.in_ok-room-in-Ok.ensures.room, is_open, rw c.in_ok-room-in-Ok.ensures.taken (one_row _ _ _ _ _ _ c.loop-room.invariant.2 _ _ next c.in-Ok.row read (has_room _ _ _ _ _ _ _ read)))

pub returns-clause-reads : goal.returns-clause-reads
returns-clause-reads c = let none = rw c.if-branch.false at c.in_ok-read_next.ensures.next in gathered _ _ _ _ _ _ c.loop-room.invariant.2 none
