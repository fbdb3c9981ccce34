use Rattle.std.proofs.Common.{refl, subst, sym, arith}
use Rattle.gq_exists.specs.steps.Stored.{IsWide}
use Rattle.gq_exists.proofs.Gathered.{many_with, stands_with}
use Rattle.gq_exists.proofs.gathering.Gathering.take.Goals as goal

pub insert-requires-clause-wide : goal.insert-requires-clause-wide
insert-requires-clause-wide c = subst (λ w. IsWide w c.args.self.now.keys) (sym c.requires.wide) c.requires.is.wide

pub returns-then-len-self : goal.returns-then-len-self
returns-then-len-self c =
    let full = c.if-len-self.true in (
      refl,
      λ came s.
          many_with c.args.self.now.limit c.args.key.now came c.args.self.now.keys c.insert.new.self s c.in_ok-insert.ensures.keys (omega (arith, full, c.len.ensures)),
    )

pub returns : goal.returns
returns c =
    let room = c.if-len-self.false in
    record {
      is = record { are = c.in_ok-insert.ensures.are; wide = subst (λ w. IsWide w c.insert.new.self) c.requires.wide c.in_ok-insert.ensures.wide };
      width = refl;
      limit = refl;
      stands = λ came s. stands_with c.args.self.now.limit c.args.key.now came c.args.self.now.keys c.insert.new.self s c.in_ok-insert.ensures.keys (omega (arith, room, c.len.ensures));
    }
