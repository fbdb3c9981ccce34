use Rattle.std.proofs.Common.{◌≡◌, subst, get_or, true, arith, refl}
use Rattle.gq_pool.specs.declared.VectorPool.TheInside.{Inside}
use Rattle.gq_pool.proofs.Lanes.{none_spare}
use Rattle.gq_pool.proofs.VectorPool.take.Goals as goal

pub returns-clause-none : goal.returns-clause-none
returns-clause-none c = (
  λ e. rw (← c.self.view_is) (none_spare c.self.inside.out.items c.loop-i.i (omega (arith, c.loop-i-test.false, c.len-i-end.ensures, c.self.inside.out.ok.0))
      (λ k h. subst (λ (p : Inside). get_or p.out.items k true ≡ true) c.loop-i.invariant.kept (c.loop-i.invariant.out k h))),
  λ e. refl,
)
