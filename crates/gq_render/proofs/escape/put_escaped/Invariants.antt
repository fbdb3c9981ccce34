use Rattle.std.proofs.Common.{◌≡◌, take, flat_map}
use Rattle.gq_io.specs.Putting.{Put}
use Rattle.gq_render.specs.steps.Escapes.{byte_text}
use Rattle.gq_render.proofs.Runs.{PlainRun}
use Rattle.gq_render.proofs.escape.put_escaped.Given as goal

abbrev pub invariant-loop-at : goal.invariant-loop-at
invariant-loop-at g l = PlainRun (byte_text l.escaping) l.text l.start l.at
    × Put (g.O.Sink.taken l.initial.out) (g.O.Sink.taken l.out) l.initial.batch l.batch (flat_map (byte_text l.escaping) (take l.start l.text))
    × (g.O.Sink.faults l.out ≡ g.O.Sink.faults l.initial.out)
