use Rattle.std.proofs.Common.{refl, sym, subst}
use Rattle.gq_pipe.specs.declared.ahead.Ahead.{Ahead}
use Rattle.gq_pipe.specs.declared.ahead.Ahead.TheVariants.{Far}
use Rattle.gq_pipe.specs.declared.sight.Sight.{Sight}
use Rattle.gq_pipe.specs.steps.Ahead.{IsToldMore}
use Rattle.gq_pipe.proofs.ahead.Ahead.tell.Goals as goal

pub returns-in-Far : goal.returns-in-Far
returns-in-Far c =
    let u : Sight = record { node = c.in-Far.sight.node; later = c.in-Far.sight.later; group = c.in-Far.sight.group; far = c.in-Far.sight.far; mask = c.tell.new.self } in
    subst (λ (t : Ahead). IsToldMore c.args.chosen.now t (Far u)) (sym c.in-Far.is) (
      record {
        node = refl;
        later = refl;
        group = refl;
        far = refl;
        graph = c.tell.ensures.graph;
        table = c.tell.ensures.table;
        direction = c.tell.ensures.direction;
      },
      λ all. c.tell.ensures.reached all,
    )
