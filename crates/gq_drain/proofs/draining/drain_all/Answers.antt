use Rattle.std.proofs.Common.{◌≡◌, ◌∙◌, List, [], ◌∷◌, Some, ap, length, refl, subst, sym, true≢false}
use Rattle.std.specs.List.{AllByRecursion}
use Rattle.gq_law_plans.specs.Safe.{IsMade}
use Rattle.gq_optional.specs.declared.optionals.RowShape.{RowShape}
use Rattle.gq_plan.specs.declared.Bound.{Bound}
use Rattle.gq_drain.specs.Prepared.{CanWalk, known_by, later_by}
use Rattle.gq_drain.specs.Taking.{IsRunOf, TakesAll}
use Rattle.gq_drain.specs.Becoming.{outcomes_by, owed_by}
use Rattle.gq_drain.specs.declared.prepared.Prepared.{Prepared}
use Rattle.gq_drain.specs.steps.Behind.{behind_rows}
use Rattle.gq_drain.specs.steps.Continued.{ended_by}
use Rattle.gq_drain.specs.steps.Given.{given_by, if_admitted}
use Rattle.gq_drain.specs.steps.Walking.{walked_rows}
use Rattle.gq_drain.specs.Testing.{admitted_by}
use Rattle.gq_drain.proofs.Again.{as_given}
use Rattle.gq_drain.proofs.Alike.{alone_on, plainly_on}
use Rattle.gq_drain.proofs.Ended.{behind_outcomes, walked_outcomes}
use Rattle.gq_drain.proofs.draining.drain_all.Goals as goal

-- where one list is empty unless another is, and is not empty, the other is
other_empty : {X Y : Type 0} (xs : List X) (ys : List Y) → ((xs ≡ [] → ⊥) → ys ≡ []) → (ys ≡ [] → ⊥) → xs ≡ []
other_empty [] ys apart some = refl
other_empty (x ∷ xs) ys apart some = absurd (some (apart (λ e. absurd (cc e))))

pub new-requires-clause-walks : goal.new-requires-clause-walks
new-requires-clause-walks c = subst (λ b. CanWalk b c.args.typed.now) (sym c.requires.prepared.bound) c.requires.walks

pub new-requires-clause-shape_nodes : goal.new-requires-clause-shape_nodes
new-requires-clause-shape_nodes c =
    let is = c.requires.prepared in
    sym (ap (λ (s : RowShape). s.nodes) is.shape) ∙ is.nodes ∙ ap (λ (b : Bound). length b.node_names) (sym is.bound)

pub new-requires-clause-shape_rels : goal.new-requires-clause-shape_rels
new-requires-clause-shape_rels c =
    let is = c.requires.prepared in
    sym (ap (λ (s : RowShape). s.rels) is.shape) ∙ is.rels ∙ ap (λ (b : Bound). length b.rel_names) (sym is.bound)

pub drain-requires-clause-ready : goal.drain-requires-clause-ready
drain-requires-clause-ready c = (
  c.in_ok-walking.ensures.ready,
  record {
    continued = λ _ none. true≢false (sym (c.is_empty.ensures.1 (ap (λ (q : Bound). q.trails) c.requires.prepared.bound ∙ none)) ∙ c.if-not-is_empty.true);
    graph = ap (λ (p : Prepared). p.graph.now) c.in_ok-walking.ensures.prepared ∙ c.requires.prepared.over;
    typed_is = c.in_ok-walking.ensures.typed;
    here = sym c.requires.run.started;
    alternative = c.requires.run.alternative ∙ ap Some c.requires.typed;
  },
)

pub drain-requires-clause-made : goal.drain-requires-clause-made
drain-requires-clause-made c =
    let pipeline = c.args.pipeline.now in
    let y = pipeline.source.typed in
    subst (λ g. AllByRecursion (IsMade g y) (owed_by y pipeline)) (sym c.requires.run.started)
    (subst (λ z. AllByRecursion (IsMade c.args.graph.now z) (owed_by z pipeline)) (sym c.requires.typed) c.requires.made)

pub drain-requires-clause-run : goal.drain-requires-clause-run
drain-requires-clause-run c = subst (λ g. IsRunOf g c.args.table.now c.args.pipeline.now) (sym c.requires.run.started) c.requires.run

pub returns-then-not-is_empty-clause-takes : goal.returns-then-not-is_empty-clause-takes
returns-then-not-is_empty-clause-takes c =
    let p = c.args.prepared.now in
    let is = c.requires.prepared in
    let g = c.args.graph.now in
    let old = c.args.table.now in
    let b = old.bound in
    let pipeline = c.args.pipeline.now in
    let y = pipeline.source.typed in
    let ts = owed_by y pipeline in
    let later = if_admitted (admitted_by p.tests.all) g in
    let some : b.trails ≡ [] → ⊥ = (λ e. absurd (true≢false (sym (c.is_empty.ensures.1 (ap (λ (q : Bound). q.trails) is.bound ∙ e)) ∙ c.if-not-is_empty.true))) in
    let none = other_empty b.optionals b.trails c.requires.apart some in
    let typed = c.in_ok-walking.ensures.typed ∙ sym c.requires.typed in
    let walked = subst (λ os. TakesAll os old c.drain.new.table c.drain.result)
    ((λ i. outcomes_by (ended_by (walked_rows (c.in_ok-walking.ensures.prepared i) (typed i))) (c.requires.run.started i) b y ts)
    ∙ walked_outcomes p y g b (is.asked (λ _ e. some e)) is.over is.bound ts) c.drain.ensures.takes in
    subst (λ os. TakesAll os old c.drain.new.table c.drain.result) (plainly_on (admitted_by p.tests.all) g (known_by p) p.optionals.held.lists b none y ts)
    (as_given g later old c.drain.new.table pipeline c.drain.result c.requires.walks.lengths walked)

pub drain-requires-then-is_empty-clause-ready : goal.drain-requires-then-is_empty-clause-ready
drain-requires-then-is_empty-clause-ready c = c.requires.tested

pub drain-requires-then-is_empty-clause-made : goal.drain-requires-then-is_empty-clause-made
drain-requires-then-is_empty-clause-made c =
    let pipeline = c.args.pipeline.now in
    let y = pipeline.source.typed in
    subst (λ g. AllByRecursion (IsMade g y) (owed_by y pipeline)) (sym c.requires.run.started)
    (subst (λ z. AllByRecursion (IsMade c.args.graph.now z) (owed_by z pipeline)) (sym c.requires.typed) c.requires.made)

pub drain-requires-then-is_empty-clause-run : goal.drain-requires-then-is_empty-clause-run
drain-requires-then-is_empty-clause-run c = subst (λ g. IsRunOf g c.args.table.now c.args.pipeline.now) (sym c.requires.run.started) c.requires.run

pub returns-then-is_empty-clause-takes : goal.returns-then-is_empty-clause-takes
returns-then-is_empty-clause-takes c =
    let p = c.args.prepared.now in
    let g = c.args.graph.now in
    let b = c.args.table.now.bound in
    let y = c.args.pipeline.now.source.typed in
    let ts = owed_by y c.args.pipeline.now in
    let no_trails = ap (λ (q : Bound). q.trails) (sym c.requires.prepared.bound) ∙ c.is_empty.ensures.0 c.if-not-is_empty.false in
    let none = ap (λ (q : Bound). q.optionals) (sym c.requires.prepared.bound) ∙ c.is_empty-2.ensures.0 c.if-is_empty.true in
    subst (λ os. TakesAll os c.args.table.now c.drain-then-is_empty.new.table c.drain-then-is_empty.result)
    ((λ i. outcomes_by (given_by (if_admitted (admitted_by p.tests.all) (c.requires.run.started i))) (c.requires.run.started i) b y ts)
    ∙ alone_on (if_admitted (admitted_by p.tests.all) g) g b no_trails y ts ∙ plainly_on (admitted_by p.tests.all) g (known_by p) p.optionals.held.lists b none y ts) c.drain-then-is_empty.ensures.takes

pub drain-requires-2-clause-ready : goal.drain-requires-2-clause-ready
drain-requires-2-clause-ready c = (
  c.in_ok-behind.ensures.ready,
  record {
    continued = λ none _. true≢false (sym (c.is_empty-2.ensures.1 (ap (λ (q : Bound). q.optionals) c.requires.prepared.bound ∙ none)) ∙ c.if-is_empty.false);
    graph = ap (λ (p : Prepared). p.graph.now) c.in_ok-behind.ensures.prepared ∙ c.requires.prepared.over;
    typed_is = c.in_ok-behind.ensures.typed;
    here = sym c.requires.run.started;
    alternative = c.requires.run.alternative ∙ ap Some c.requires.typed;
  },
)

pub drain-requires-2-clause-made : goal.drain-requires-2-clause-made
drain-requires-2-clause-made c =
    let pipeline = c.args.pipeline.now in
    let y = pipeline.source.typed in
    subst (λ g. AllByRecursion (IsMade g y) (owed_by y pipeline)) (sym c.requires.run.started)
    (subst (λ z. AllByRecursion (IsMade c.args.graph.now z) (owed_by z pipeline)) (sym c.requires.typed) c.requires.made)

pub drain-requires-2-clause-run : goal.drain-requires-2-clause-run
drain-requires-2-clause-run c = subst (λ g. IsRunOf g c.args.table.now c.args.pipeline.now) (sym c.requires.run.started) c.requires.run

pub returns-clause-takes : goal.returns-clause-takes
returns-clause-takes c =
    let p = c.args.prepared.now in
    let is = c.requires.prepared in
    let g = c.args.graph.now in
    let old = c.args.table.now in
    let b = old.bound in
    let y = c.args.pipeline.now.source.typed in
    let ts = owed_by y c.args.pipeline.now in
    let typed = c.in_ok-behind.ensures.typed ∙ sym c.requires.typed in
    let no_trails = ap (λ (q : Bound). q.trails) (sym is.bound) ∙ c.is_empty.ensures.0 c.if-not-is_empty.false in
    let some : b.optionals ≡ [] → ⊥ = (λ none. absurd (true≢false (sym (c.is_empty-2.ensures.1 (ap (λ (q : Bound). q.optionals) is.bound ∙ none)) ∙ c.if-is_empty.false))) in
    subst (λ os. TakesAll os old c.drain-2.new.table c.drain-2.result)
    ((λ i. outcomes_by (ended_by (behind_rows (c.in_ok-behind.ensures.prepared i) (typed i))) (c.requires.run.started i) b y ts)
    ∙ behind_outcomes p y g b (is.asked (λ none _. some none)) is.graph is.parts ts
    ∙ alone_on (later_by g p) g b no_trails y ts) c.drain-2.ensures.takes
