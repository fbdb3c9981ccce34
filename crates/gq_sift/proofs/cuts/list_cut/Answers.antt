use Rattle.std.proofs.Common.{◌≡◌, ◌∙◌, ◌<◌, ℕ, sym, subst}
use Rattle.gq_plan.specs.declared.follow.Follow.{Follow}
use Rattle.gq_steps.specs.Moves.{run_of}
use Rattle.gq_steps.specs.Tests.{IsListTest, RowsDecide}
use Rattle.gq_steps.specs.declared.action.Action.TheVariants as act
use Rattle.gq_sift.proofs.cuts.list_cut.Goals as goal

same_list : (f g : Follow) → act.List f ≡ act.List g → f ≡ g
same_list f g is = cc is

pub returns-then-are_all : goal.returns-then-are_all
returns-then-are_all c = λ f is.
    subst (λ (g : Follow). (d : ℕ) → c.args.first < d → d < c.args.end → RowsDecide (run_of c.args.plan_run.now) d g) (same_list c.args.follow f (sym c.requires.list ∙ is))
    (c.are_all.ensures c.if-are_all.true)

pub returns-then-are_all-2 : goal.returns-then-are_all-2
returns-then-are_all-2 c = λ f is.
    subst (λ (g : Follow). (d : ℕ) → c.args.first < d → d < c.args.end → IsListTest (run_of c.args.plan_run.now) d g) (same_list c.args.follow f (sym c.requires.list ∙ is))
    (c.are_all-2.ensures c.if-are_all-2.true)

pub returns-then-are_placed : goal.returns-then-are_placed
returns-then-are_placed c = c.are_placed.ensures c.if-are_placed.true

pub returns-then-are_chained : goal.returns-then-are_chained
returns-then-are_chained c = c.are_chained.ensures c.if-are_chained.true
