use Rattle.std.proofs.Common.{ap, ◌∙◌, arith, List, [], ◌∷◌, map}
use Rattle.std.specs.List.{All, AllZip}
use Rattle.std.proofs.lemmas.List.Elements.{All-tail}
use Rattle.gq_base.specs.Catalogs.{Tables}
use Rattle.gq_plan.specs.Columns.{FitsSound}
use Rattle.gq_plan.specs.Covers.{Covers}
use Rattle.gq_plan.specs.Plans.{plan_of}
use Rattle.gq_plan.specs.Soundness.{IsSound}
use Rattle.gq_plan.specs.declared.Plan as code_plan
use Rattle.gq_plan.specs.declared.Typed.{Typed}
use Rattle.gq_reply.specs.Arrows.{trail_arrows}
use Rattle.gq_reply.specs.ReplyTexts.{columns_each}
use Rattle.gq_reply.proofs.replier.Replier.shown_plans.Goals as goal

-- plans that cover sound alternatives fit them
all_fit : (catalog : Tables) (ys : List Typed) (ps : List code_plan.Plan) → All (IsSound catalog) ys → AllZip (Covers catalog) ys (map plan_of ps) → AllZip (λ y p. FitsSound y (plan_of p)) ys ps
all_fit catalog [] [] sound covers = tt
all_fit catalog [] (p ∷ ps) sound covers = absurd covers
all_fit catalog (y ∷ ys) [] sound covers = absurd covers
all_fit catalog (y ∷ ys) (p ∷ ps) sound covers =
    (record { catalog = catalog; sound = sound 0 y (omega arith); fits = covers.0.fits }, all_fit catalog ys ps (All-tail (IsSound catalog) y ys sound) covers.1)

pub column_counts-requires : goal.column_counts-requires
column_counts-requires c =
    rw (c.as_slice-alternatives.ensures, c.as_slice.ensures) (all_fit c.args.self.now.graph.now.catalog c.args.bound.now.alternatives c.in_ok-made.made.plans c.requires.sound c.in_ok-made.ensures.covers)

pub returns : goal.returns
returns c = record {
  are = c.in_ok-made.ensures.plans;
  covers = c.in_ok-made.ensures.covers;
  columns = c.in_ok-columns.ensures ∙ ap (λ ys. columns_each ys c.as_slice.result.now) c.as_slice-alternatives.ensures ∙ ap (λ ps. columns_each c.args.bound.now.alternatives ps) c.as_slice.ensures;
  arrows = c.in_ok-arrows.ensures ∙ ap trail_arrows c.as_slice-2.ensures;
}
