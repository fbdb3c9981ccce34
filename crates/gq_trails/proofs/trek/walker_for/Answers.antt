use Rattle.std.proofs.Common.{◌≡◌, ◌∙◌, sym, subst, true}
use Rattle.std.specs.List.{AllByRecursion}
use Rattle.gq_marks.specs.Marking.{bound_of}
use Rattle.gq_hops.specs.Walking.{Course}
use Rattle.gq_plan.specs.Assignments.{is_node}
use Rattle.gq_trails.proofs.Fitted.{bound_there}
use Rattle.gq_trails.proofs.trek.walker_for.Goals as goal

pub aim_at_each-requires : goal.aim_at_each-requires
aim_at_each-requires c = record {
  ends = subst (λ (k : Course). AllByRecursion (λ n. is_node k.graph n ≡ true) c.as_slice.result.now) (sym c.in_ok-walker-in-Some.ensures.course)
      (subst (AllByRecursion (λ n. is_node c.args.graph.now n ≡ true)) (sym c.as_slice.ensures.value) c.in-Some.ensures.inside);
}

pub returns-in_ok-walker-in-Some : goal.returns-in_ok-walker-in-Some
returns-in_ok-walker-in-Some c = record {
  course = c.aim_at_each.ensures.course ∙ c.in_ok-walker-in-Some.ensures.course;
  fits = λ other n node fits. bound_there c.aim_at_each.new.self.bounds c.in-Some.ends.items n
      (subst (AllByRecursion (λ k. bound_of c.aim_at_each.new.self.bounds k ≡ 0)) c.as_slice.ensures.value c.aim_at_each.ensures.ends) (c.in-Some.ensures.all n node fits);
}
