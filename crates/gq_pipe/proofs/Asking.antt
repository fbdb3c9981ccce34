-- Tests that groups ask for, and what one node alone decides.
use Rattle.std.proofs.Common.{◌≡◌, ℕ, zero, suc, ◌+◌, ◌-◌, ◌<◌, ◌≤◌, Bool, true, false, ◌||◌, ◌&&◌, cond, nat_eq, nat_lt, Some, List, [], ◌∷◌, length, take, drop, get_or, slice_get, refl, sym, ap, ap₂, ◌∙◌, arith, inl, inr}
use Rattle.std.specs.Prelude.{vec_len}
use Rattle.std.proofs.lemmas.Bool.{and_parts, lt-ltb}
use Rattle.std.specs.List.{list_all}
use Rattle.std.proofs.lemmas.List.{get_or-drop, get_or-take, length-drop, length-map, length-take}
use Rattle.gq_bits.specs.Places.{is_marked}
use Rattle.gq_law_masks.specs.Alone.{Asks, passes_alone, reads_alone}
use Rattle.gq_law_masks.proofs.Alone.{row_alone}
use Rattle.gq_masks.specs.Masks.{IsPart}
use Rattle.gq_plan.specs.Covers.{test_bound}
use Rattle.gq_plan.specs.Known as known
use Rattle.gq_plan.specs.Known.{Known, known_of, reads_bound, set_of}
use Rattle.gq_plan.specs.Meaning.{holds}
use Rattle.gq_plan.specs.Plans.{Step, Scan, Extend, Close, Join, Keep, Differ, NoLoop, Single, Meet}
use Rattle.gq_plan.specs.declared.assignment.Assignment.{Assignment}
use Rattle.gq_plan.specs.declared.bound.NamedExpr.{NamedExpr}
use Rattle.gq_plan.specs.declared.known.VariableSet.{VariableSet}
use Rattle.gq_plan.specs.declared.typed.Typed.{Typed}
use Rattle.gq_steps.specs.Levels.{Run, step_at}
use Rattle.gq_steps.specs.Moves.{run_of, run_step, steps_in}
use Rattle.gq_pipe.specs.steps.Sights.{may_pass, passes_check}
use Rattle.gq_steps.specs.steps.Outcomes.{passes_at, with_row}
use Rattle.gq_steps.specs.declared.group_steps.GroupSteps.{GroupSteps}
use Rattle.gq_steps.specs.declared.plan_run.PlanRun.{PlanRun}
use Rattle.gq_steps.specs.declared.plan_run.RunStep.{RunStep}

-- a test of steps that reads a node alone, and which a row of this node does not pass
pub record IsRefused (c : Run) (v q : ℕ) (ss : List Step) : Type 0 where
  pub test : ℕ
  pub asks : Asks test ss
  pub alone : reads_alone c.typed v test ≡ true
  pub off : passes_alone c.graph c.typed v test q ≡ false

refused_there : (c : Run) (v q test : ℕ) (ss : List Step) (told : Bool) → reads_alone c.typed v test ≡ told → cond told (passes_alone c.graph c.typed v test q) true ≡ false → IsRefused c v q (Keep test ∷ ss)
refused_there c v q test ss true alone off = record { test = test; asks = inl refl; alone = alone; off = off }
refused_there c v q test ss false alone off = absurd (cc off)

refused_here : (c : Run) (v q : ℕ) (s : Step) (ss : List Step) → passes_check c v q s ≡ false → IsRefused c v q (s ∷ ss)
refused_here c v q (Keep test) ss off = refused_there c v q test ss (reads_alone c.typed v test) refl off
refused_here c v q (Scan w) ss off = absurd (cc off)
refused_here c v q (Extend column x from to way) ss off = absurd (cc off)
refused_here c v q (Close column x from to way) ss off = absurd (cc off)
refused_here c v q (Join side keys) ss off = absurd (cc off)
refused_here c v q (Differ p) ss off = absurd (cc off)
refused_here c v q (NoLoop x) ss off = absurd (cc off)
refused_here c v q (Single x from to way) ss off = absurd (cc off)
refused_here c v q (Meet x from to way) ss off = absurd (cc off)

refused_more : (c : Run) (v q : ℕ) (s : Step) (ss : List Step) → IsRefused c v q ss → IsRefused c v q (s ∷ ss)
refused_more c v q s ss r = record { test = r.test; asks = inr r.asks; alone = r.alone; off = r.off }

refused_one : (c : Run) (v q : ℕ) (s : Step) (ss : List Step) (b : Bool) → passes_check c v q s ≡ b → (b && list_all (passes_check c v q) ss) ≡ false → (list_all (passes_check c v q) ss ≡ false → IsRefused c v q ss) → IsRefused c v q (s ∷ ss)
refused_one c v q s ss true is off more = refused_more c v q s ss (more off)
refused_one c v q s ss false is off more = refused_here c v q s ss is

-- where a row does not pass all tests that read its node alone, one of them refuses it
pub refused_by : (c : Run) (v q : ℕ) (ss : List Step) → list_all (passes_check c v q) ss ≡ false → IsRefused c v q ss
refused_by c v q [] off = absurd (cc off)
refused_by c v q (s ∷ ss) off = refused_one c v q s ss (passes_check c v q s) refl off (refused_by c v q ss)

all_at : (p : Step → Bool) (ss : List Step) (i : ℕ) (d : Step) → i < length ss → list_all p ss ≡ true → p (get_or ss i d) ≡ true
all_at p [] i d low on = absurd (omega (arith, low))
all_at p (s ∷ ss) zero d low on = (and_parts (p s) (list_all p ss) on).0
all_at p (s ∷ ss) (suc i) d low on = all_at p ss i d (omega (arith, low)) (and_parts (p s) (list_all p ss) on).1

-- where a row passes all tests of a group that read its node alone, it passes each step
pub passes_each : (c : Run) (s : GroupSteps) (v q d : ℕ) → s.first < d → d < s.end → s.end ≤ length c.steps → may_pass c s v q ≡ true → passes_check c v q (step_at c d) ≡ true
passes_each c s v q d above below inside on =
    let at : s.first + 1 + (d - (s.first + 1)) ≡ d = omega (arith, above) in
    let tail = length-drop (s.first + 1) c.steps in
    let part = length-take (s.end - (s.first + 1)) (drop (s.first + 1) c.steps) in
    let is : get_or (take (s.end - (s.first + 1)) (drop (s.first + 1) c.steps)) (d - (s.first + 1)) (Keep 0) ≡ get_or c.steps d (Keep 0) =
    get_or-take (s.end - (s.first + 1)) (drop (s.first + 1) c.steps) (d - (s.first + 1)) (Keep 0) (omega (arith, above, below))
    ∙ get_or-drop (s.first + 1) c.steps (d - (s.first + 1)) (Keep 0) ∙ ap (λ n. get_or c.steps n (Keep 0)) at in
    ap (passes_check c v q) (sym is)
    ∙ all_at (passes_check c v q) (take (s.end - (s.first + 1)) (drop (s.first + 1) c.steps)) (d - (s.first + 1)) (Keep 0) (omega (arith, above, below, inside, tail, part)) on

pub steps_many : (p : PlanRun) (n : ℕ) → n ≡ vec_len p.steps → length (run_of p).steps ≡ n
steps_many p n many = omega (arith, many, p.steps.ok.0, length-map p.steps.items run_step)

pub steps_run : (p : PlanRun) (d : ℕ) → d < length (steps_in p) → d < length (run_of p).steps
steps_run p d low = omega (arith, low, length-map p.steps.items run_step, length-map p.steps.items (λ (r : RunStep). r.step.now))

-- all rows of a piece are marked
pub all_part : (P : ℕ → Bool) (low high told end : ℕ) (first : List Bool) → low ≡ told → high ≡ end → ((k : ℕ) → is_marked first k ≡ nat_lt k (high - low)) → IsPart P told end first
all_part P low high told end first from to below = λ k under on. let inside : k < high - low = omega (arith, from, to, under) in below k ∙ lt-ltb k (high - low) inside

-- of marked rows those stay so that a test passes
pub kept_on : (c : Run) (row : Assignment) (v test q : ℕ) (s : Step) (old new : Bool) → v < length c.typed.nodes → v < length row.nodes → s ≡ Keep test → reads_alone c.typed v test ≡ true
    → passes_check c v q s ≡ true → old ≡ true → new ≡ (old && passes_at c.graph c.typed (with_row v q row) test) → new ≡ true
kept_on c row v test q s old new in_y in_row is alone on marked kept =
    let passes : passes_alone c.graph c.typed v test q ≡ true = ap (λ b. cond b (passes_alone c.graph c.typed v test q) true) (sym alone) ∙ ap (passes_check c v q) (sym is) ∙ on in
    kept ∙ ap₂ (λ a b. a && b) marked (row_alone c.graph c.typed v q row in_y in_row test alone ∙ passes)

-- a test of which all is bound where one node is reads that node alone
pub alone_is : (y : Typed) (node test : ℕ) (nodes rels : VariableSet) (none : VariableSet) (found : NamedExpr) (told : Bool) → set_of nodes ≡ (λ v. nat_eq v node || set_of none v) → set_of none ≡ (λ v. false) → set_of rels ≡ (λ x. false)
    → Some found ≡ slice_get y.tests test → told ≡ reads_bound (record { nodes = set_of nodes; rels = set_of rels }) found.expr → told ≡ true → reads_alone y node test ≡ true
alone_is y node test nodes rels none found told own nothing no_rels is says on =
    let first : set_of nodes ≡ (λ v. nat_eq v node || false) = own ∙ (λ i v. nat_eq v node || nothing i v) in
    let bound : Known = record { nodes = set_of nodes; rels = set_of rels } in
    let known_is : record { nodes = set_of nodes; rels = set_of rels } ≡ known.with_node node known.none = (λ i. record { nodes = first i; rels = no_rels i }) in
    ap (holds (test_bound (known.with_node node known.none))) (sym is)
    ∙ sym (ap (λ (k : Known). reads_bound k found.expr) known_is) ∙ sym says ∙ on
