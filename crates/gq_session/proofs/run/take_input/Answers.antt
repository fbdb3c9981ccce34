use Rattle.std.proofs.Common.{◌≡◌, ℕ, ◌+◌, ◌-◌, ◌≤◌, ◌<◌, false, List, ◌++◌, length, take, drop, refl, sym, ap, min, arith, length-take}
use Rattle.std.proofs.lemmas.List.{take-append-le}
use Rattle.std.proofs.lemmas.Grind.{common_steps}
use Rattle.gq_session.specs.Feeding.{scan_of}
use Rattle.gq_session.specs.Scanning.{Place, place_after}
use Rattle.gq_session.proofs.Cut.{count-grows}
use Rattle.gq_session.proofs.Going.{done, done-part, further, going-start, read_failed, too_long, write_failed}
use Rattle.gq_session.proofs.run.take_input.Goals as goal

pub pieces-init : goal.pieces-init
pieces-init g c = rw c.new-scan.ensures (record { fits = omega arith; ready = c.requires.ready; going = going-start _ _ _ _ _ _ _ _ })

pub returns-in_default-clause-read : goal.returns-in_default-clause-read
returns-in_default-clause-read g c =
    let read = c.in_default.ensures in
    read_failed _ _ _ _ _ _ _ _ _ _ _ _ _ _ _ (g.O.Sink.taken c.pieces.out) _ _ 0 c.pieces.invariant.going read.bytes read.cause.later read.cause.failed

-- the front of the piece is what was read
front-read : (count : ℕ) (into more : List ℕ) → count ≤ length into → take count (into ++ more) ≡ take count into
front-read count into more h = take-append-le count into more h

few : (count room n : ℕ) (into piece : List ℕ) → count ≤ length into → count ≡ length (take count into) → length into ≡ length (take room piece) → room ≡ min n 4096 → length (take count into) ≤ n
few count room n into piece h is size cut = omega (arith, h, sym is, size, cut, length-take room piece)

pub pieces-preserved : goal.pieces-preserved
pieces-preserved g c =
    let read = c.in-Ok.ensures in
    let took = rw (front-read c.in-Ok.count c.read.new.into (drop c.min-room.result c.pieces.piece) read.bound.0, c.pieces.auto.statement) at c.in-Ok-take_piece.ensures.taken in
    rw c.worse-worst.ensures (record {
      fits = c.in-Ok-take_piece.ensures.fits;
      ready = c.in-Ok-take_piece.ensures.ready;
      going = further _ _ _ _ _ _ _ _ _ _ _ _ _ _ _ _ _ _ _ c.pieces.invariant.going _ (scan_of c.take_piece.new.scan c.take_piece.new.statement) c.in-Ok-take_piece.tone
          (take c.in-Ok.count c.read.new.into) read.bytes.0 read.cause.kept took.still refl (record { place = took.taken.0; wrote = took.taken.1 });
    })

smaller : (long most : ℕ) (p q : Place) (ys : List ℕ) (count : ℕ) → place_after long most p ys ≡ q → (place_after long most p ys).stopped ≡ false → p.count ≤ most → (count ≡ 0 → ⊥) → count ≡ length ys
    → most + 1 - q.count < most + 1 - p.count
smaller long most p q ys count is live small some size = omega (arith, count-grows long most p ys live, ap (λ z. z.count) is, small, some, size)

pub pieces-smaller : goal.pieces-smaller
pieces-smaller g c =
    let read = c.in-Ok.ensures in
    let took = rw (front-read c.in-Ok.count c.read.new.into (drop c.min-room.result c.pieces.piece) read.bound.0, c.pieces.auto.statement) at c.in-Ok-take_piece.ensures.taken in
    smaller _ _ _ _ _ _ took.taken.0 (ap (λ z. z.stopped) took.taken.0) c.pieces.invariant.going.small c.if-count-eq0.false read.bound.1

pub returns-in-Err-Write-clause-read : goal.returns-in-Err-Write-clause-read
returns-in-Err-Write-clause-read g c =
    let read = c.in-Ok.ensures in
    let took = rw (front-read c.in-Ok.count c.read.new.into (drop c.min-room.result c.pieces.piece) read.bound.0, c.pieces.auto.statement, c.in-Err-Write.field-0-is) at c.in-Err-Write.ensures.taken in
    write_failed _ _ _ _ _ _ _ _ _ _ _ _ _ _ _ _ _ _ _ c.pieces.invariant.going _ (take c.in-Ok.count c.read.new.into) read.bytes.0 read.cause.kept took.later (few _ _ _ _ _ read.bound.0 read.bound.1 c.read.auto.into c.min-room.ensures) took.taken.0 took.taken.1

pub returns-in-Err-TooLong-clause-read : goal.returns-in-Err-TooLong-clause-read
returns-in-Err-TooLong-clause-read g c =
    let read = c.in-Ok.ensures in
    let took = rw (front-read c.in-Ok.count c.read.new.into (drop c.min-room.result c.pieces.piece) read.bound.0, c.pieces.auto.statement, c.in-Err-TooLong.field-0-is) at c.in-Err-TooLong.ensures.taken in
    too_long _ _ _ _ _ _ _ _ _ _ _ _ _ _ _ _ _ _ _ c.pieces.invariant.going _ (take c.in-Ok.count c.read.new.into) read.bytes.0 read.cause.kept took.still (few _ _ _ _ _ read.bound.0 read.bound.1 c.read.auto.into c.min-room.ensures) took.taken

pub returns-in-Ok-answer-clause-read : goal.returns-in-Ok-answer-clause-read
returns-in-Ok-answer-clause-read g c =
    let read = rw c.if-count-eq0.true at c.in-Ok.ensures in
    let room = c.min-room.ensures in
    let auto = c.read.auto.into in
    let said = c.in-Ok-answer.ensures in
    rw c.worse.ensures (done _ _ _ _ _ _ _ _ _ _ _ _ _ _ _ _ _ _ _ c.pieces.invariant.going _ c.in-Ok-answer.tone read.bytes.0 (read.bytes.1 refl (grind (arith, common_steps, c.min-room.ensures, c.read.auto.into))) read.cause.kept said.cause.kept said.bytes)

pub returns-in-Err-clause-read : goal.returns-in-Err-clause-read
returns-in-Err-clause-read g c =
    let read = rw c.if-count-eq0.true at c.in-Ok.ensures in
    let said = c.in-Err.ensures in
    done-part _ _ _ _ _ _ _ _ _ _ _ _ _ _ _ _ _ _ _ c.pieces.invariant.going _ read.bytes.0 (read.bytes.1 refl (grind (arith, common_steps, c.min-room.ensures, c.read.auto.into))) read.cause.kept said.cause.later said.bytes said.cause.failed
