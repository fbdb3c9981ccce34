use Rattle.std.proofs.Common.{◌∙◌, ◌∷◌, ◌++◌, [], List, ap, append_assoc, append-nil, arith, get_or, length, refl, sym}
use Rattle.std.proofs.lemmas.Bool.{lt-ltb}
use Rattle.gq_homes.specs.declared.spent.Spent.{Spent}
use Rattle.gq_pipe.proofs.Rooms.{most_rooms, spare_same}
use Rattle.gq_plan.proofs.Binding.{covers_nodes}
use Rattle.gq_plan.proofs.ColumnBounds.{columns_bound}
use Rattle.gq_plan.specs.Plans.{plan_of}
use Rattle.gq_optional.proofs.Holding.{is_matches}
use Rattle.gq_optional.proofs.gathering.list_one.Goals as goal

pub make_builds-requires-clause-room : goal.make_builds-requires-clause-room
make_builds-requires-clause-room c =
    most_rooms c.args.pool.now c.args.typed.now c.args.graph.now.catalog c.requires.sound c.requires.room (plan_of c.args.plan.now) c.requires.covers.fits

pub make_build-requires-clause-room : goal.make_build-requires-clause-room
make_build-requires-clause-room c =
    let few = columns_bound c.args.graph.now.catalog c.args.typed.now (plan_of c.args.plan.now) c.requires.sound c.requires.covers.fits in
    omega (arith, few, c.requires.room, spare_same c.args.pool.now c.make_builds.new.pool c.make_builds.ensures.pool)

pub make_build-requires-clause-keys : goal.make_build-requires-clause-keys
make_build-requires-clause-keys c k d low =
    let y = c.args.typed.now in
    let v = get_or c.args.keys.now k d in
    covers_nodes c.args.graph.now.catalog y v (plan_of c.args.plan.now) c.requires.covers ∙ lt-ltb v (length y.nodes) (c.requires.keys k d low)

pub returns-clause-matches : goal.returns-clause-matches
returns-clause-matches c =
    let made = c.in-Ok-make_build in
    is_matches c.args.graph.now.catalog c.args.graph.now c.args.typed.now (plan_of c.args.plan.now) c.requires.covers c.args.keys.now made.filled.build made.ensures.built made.ensures.sized _ refl refl

pub returns-clause-spent : goal.returns-clause-spent
returns-clause-spent c =
    let old = c.args.spent.now in
    let sides = c.in-Ok.builds.spent in
    let own : List Spent = c.in-Ok-make_build.filled.spent ∷ [] in
    record {
      listing = record { sides = sides; own = c.in-Ok-make_build.filled.spent };
      is = record { sides = c.in-Ok.ensures.spent; own = c.in-Ok-make_build.ensures.spent };
      all = c.in_ok-append.ensures ∙ ap (λ l. (old ++ l) ++ own) c.into_spent.ensures ∙ append_assoc old sides own ∙ ap (λ l. old ++ l) (sym (append-nil (sides ++ own)));
    }
