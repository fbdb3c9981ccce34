use Rattle.gq_reply.specs.Replies.{context_of}
use Rattle.gq_reply.proofs.Replying.{profile_broke, profile_then, rows_alone}
use Rattle.gq_reply.proofs.replier.Replier.write_answer.Goals as goal

pub returns-then-not-profiled-clause-bytes : goal.returns-then-not-profiled-clause-bytes
returns-then-not-profiled-clause-bytes g c =
    rows_alone (context_of c.args.self.now) c.args.profiled c.args.bound.now c.args.found.now.spent c.args.found.now.listing.lines _ _ _ c.if-not-profiled.true c.write_rows.ensures.bytes

pub returns-in-Ok-clause-bytes : goal.returns-in-Ok-clause-bytes
returns-in-Ok-clause-bytes g c =
    profile_then (context_of c.args.self.now) c.args.profiled c.args.bound.now c.args.found.now.spent c.args.found.now.listing.lines _ _ _ _ c.if-not-profiled.false c.in-Ok.ensures.bytes
    c.write_rows-in-Ok.ensures.bytes

pub returns-in-Err-clause-bytes : goal.returns-in-Err-clause-bytes
returns-in-Err-clause-bytes g c =
    profile_broke (context_of c.args.self.now) c.args.profiled c.args.bound.now c.args.found.now.spent c.args.found.now.listing.lines _ _ c.if-not-profiled.false c.in-Err.ensures.bytes
