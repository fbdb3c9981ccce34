-- The next group where the first ones stand, with those behind it: their layout, and what is known there.
use Rattle.std.proofs.Common.{◌≡◌, ℕ, zero, suc, ◌+◌, ◌<◌, ◌≤◌, Bool, true, false, List, [], ◌∷◌, ◌++◌, length, drop, refl, sym, ap, ◌∙◌, subst, arith}
use Rattle.std.proofs.lemmas.Bool.{eq-eqb}
use Rattle.std.proofs.lemmas.List.{append_assoc, append-nil}
use Rattle.gq_plan.specs.Covers.{after_step}
use Rattle.gq_plan.specs.Known.{Known}
use Rattle.gq_plan.specs.Meaning.{Partial}
use Rattle.gq_plan.specs.Plans.{Step, Scan, Extend, Close, Join, Keep, Differ, NoLoop, Single, Meet}
use Rattle.gq_plan.specs.declared.assignment.Assignment.{Assignment}
use Rattle.gq_search.specs.Layouts.{Layout}
use Rattle.gq_law_groups.specs.Groups.{AreGroups}
use Rattle.gq_law_groups.specs.Layout.{with_group, known_with, AreFlatEnough}
use Rattle.gq_law_groups.proofs.Ending.{Within, within-all, within-group}
use Rattle.gq_law_groups.proofs.Following.{IsTail, tail_next, known_node}
use Rattle.gq_steps.specs.Groups.{Tiles, group_at, group_in, groups_in}
use Rattle.gq_steps.specs.Levels.{Run, step_at, known}
use Rattle.gq_steps.specs.steps.Lists.{Chain, IsAtStep}
use Rattle.gq_steps.specs.declared.group_steps.GroupSteps.{GroupSteps}
use Rattle.gq_pipe.specs.steps.Told.{BindsNode}

-- what a step binds is known behind it
pub binds_known : (s : Step) (k : Known) (v : ℕ) → BindsNode v s → (after_step s k).nodes v ≡ true
unfolding after_step
binds_known (Scan w) k v is = rw (eq-eqb v w (sym is)) refl
binds_known (Extend column x from to way) k v is = rw (eq-eqb v to (sym is)) refl
binds_known (Close column x from to way) k v is = absurd is
binds_known (Join side keys) k v is = absurd is
binds_known (Keep i) k v is = absurd is
binds_known (Differ p) k v is = absurd is
binds_known (NoLoop x) k v is = absurd is
binds_known (Single x from to way) k v is = absurd is
binds_known (Meet x from to way) k v is = absurd is

-- and so it is further on
pub later_known : (c : Run) (d n v : ℕ) → BindsNode v (step_at c d) → (known c (d + 1 + n)).nodes v ≡ true
unfolding known
later_known c d zero v is =
    let at : suc d ≡ d + 1 + 0 = omega arith in
    subst (λ m. (known c m).nodes v ≡ true) at (binds_known (step_at c d) (known c d) v is)
later_known c d (suc n) v is =
    let at : suc (d + 1 + n) ≡ d + 1 + suc n = omega arith in
    subst (λ m. (known c m).nodes v ≡ true) at (known_node (step_at c (d + 1 + n)) (known c (d + 1 + n)) v (later_known c d n v is))

module _ (c : Run) (rows : ℕ → List Partial) (flat : ℕ → Bool) (row : Assignment) (l : Layout) where
  pub record Reached (i d : ℕ) (ss : List GroupSteps) (k : Known) (p pre : List ℕ) : Type 0 where
    pub s : GroupSteps
    pub rest : List GroupSteps
    pub is : group_at ss (length pre) ≡ s
    pub behind : drop (suc (length pre)) ss ≡ rest
    pub set : Known
    pub bound : Partial
    pub low : d ≤ s.first
    pub some : s.first < s.end
    pub inside : s.end ≤ length c.steps
    pub tail : IsTail c.graph c.typed rows flat l (p ++ pre) (i + length pre) (groups_in c (s ∷ rest)) bound
    pub are : AreGroups c.graph c.typed rows (i + length pre) (groups_in c (s ∷ rest))
    pub enough : AreFlatEnough c.graph.catalog c.typed flat (i + length pre) (groups_in c (s ∷ rest)) set
    pub tiles : Tiles c s.end rest
    pub at : IsAtStep c row s.first set bound
    pub less : (v : ℕ) → k.nodes v ≡ true → set.nodes v ≡ true
    pub early : (q : ℕ) → q < length pre → (group_at ss q).first < s.first
    pub knows : (q v : ℕ) → q < length pre → flat (i + q) ≡ true → BindsNode v (step_at c (group_at ss q).first) → set.nodes v ≡ true

  -- one group more in front
  reached_more : (s : GroupSteps) (ss : List GroupSteps) (i d : ℕ) (k : Known) (p : List ℕ) (m : ℕ) (pre : List ℕ) → s.first ≡ d → s.first < s.end → Reached (i + 1) s.end ss (known_with (flat i) (group_in c.steps s) k) (p ++ m ∷ []) pre
      → Reached i d (s ∷ ss) k p (m ∷ pre)
  reached_more s ss i d k p m pre first_is before_end r =
      let same : i + 1 + length pre ≡ i + suc (length pre) = omega arith in
      let later : s.end ≤ r.s.first = r.low in
      record {
        s = r.s;
        rest = r.rest;
        is = r.is;
        behind = r.behind;
        set = r.set;
        bound = r.bound;
        low = omega (arith, first_is, before_end, later);
        some = r.some;
        inside = r.inside;
        tail = subst (λ q. IsTail c.graph c.typed rows flat l q (i + suc (length pre)) (groups_in c (r.s ∷ r.rest)) r.bound) (append_assoc p (m ∷ []) pre)
            (subst (λ n. IsTail c.graph c.typed rows flat l ((p ++ m ∷ []) ++ pre) n (groups_in c (r.s ∷ r.rest)) r.bound) same r.tail);
        are = subst (λ n. AreGroups c.graph c.typed rows n (groups_in c (r.s ∷ r.rest))) same r.are;
        enough = subst (λ n. AreFlatEnough c.graph.catalog c.typed flat n (groups_in c (r.s ∷ r.rest)) r.set) same r.enough;
        tiles = r.tiles;
        at = r.at;
        less = λ v known. r.less v ((stays (flat i)).nodes v known);
        early = λ q under. earlier q under;
        knows = λ q v under flat_is binds. knows_at q v under flat_is binds;
      }
    where
      stays : (f : Bool) → Within k (known_with f (group_in c.steps s) k)
      stays f = within-group f (group_in c.steps s) k k (record { nodes = λ v i. i; rels = λ x i. i })

      earlier : (q : ℕ) → q < suc (length pre) → (group_at (s ∷ ss) q).first < r.s.first
      earlier zero under = let later : s.end ≤ r.s.first = r.low in omega (arith, before_end, later)
      earlier (suc q) under = r.early q (omega (arith, under))

      flat_known : (f : Bool) → f ≡ true → (v : ℕ) → BindsNode v (step_at c s.first) → (known_with f (group_in c.steps s) k).nodes v ≡ true
      flat_known true is v binds =
          (within-all (group_in c.steps s).checks (after_step (step_at c s.first) k) (after_step (step_at c s.first) k) (record { nodes = λ v i. i; rels = λ x i. i })).nodes v
          (binds_known (step_at c s.first) k v binds)
      flat_known false is v binds = cc

      knows_at : (q v : ℕ) → q < suc (length pre) → flat (i + q) ≡ true → BindsNode v (step_at c (group_at (s ∷ ss) q).first) → r.set.nodes v ≡ true
      knows_at zero v under flat_is binds = let at : i + 0 ≡ i = omega arith in r.less v (flat_known (flat i) (ap flat (sym at) ∙ flat_is) v binds)
      knows_at (suc q) v under flat_is binds = let at : i + 1 + q ≡ i + suc q = omega arith in r.knows q v (omega (arith, under)) (ap flat at ∙ flat_is) binds

  pub reached : (ss : List GroupSteps) (i d : ℕ) (k : Known) (a : Partial) (p pre : List ℕ) → Tiles c d ss → IsTail c.graph c.typed rows flat l p i (groups_in c ss) a → AreGroups c.graph c.typed rows i (groups_in c ss)
      → AreFlatEnough c.graph.catalog c.typed flat i (groups_in c ss) k → length pre < length ss → Chain c rows flat row i d ss k a pre → Reached i d ss k p pre
  unfolding Chain
  reached [] i d k a p pre tiles tail are enough low h = absurd (omega (arith, low))
  reached (s ∷ ss) i d k a p [] tiles tail are enough low h =
      let same : i ≡ i + 0 = omega arith in
      let first_is : s.first ≡ d = tiles.0 in
      record {
        s = s;
        rest = ss;
        is = refl;
        behind = refl;
        set = k;
        bound = a;
        low = omega (arith, first_is);
        some = tiles.1;
        inside = tiles.2;
        tail = subst (λ q. IsTail c.graph c.typed rows flat l q (i + 0) (groups_in c (s ∷ ss)) a) (sym (append-nil p)) (subst (λ n. IsTail c.graph c.typed rows flat l p n (groups_in c (s ∷ ss)) a) same tail);
        are = subst (λ n. AreGroups c.graph c.typed rows n (groups_in c (s ∷ ss))) same are;
        enough = subst (λ n. AreFlatEnough c.graph.catalog c.typed flat n (groups_in c (s ∷ ss)) k) same enough;
        tiles = tiles.3;
        at = subst (λ n. IsAtStep c row n k a) (sym first_is) h;
        less = λ v known. known;
        early = λ q under. absurd (omega (arith, under));
        knows = λ q v under. absurd (omega (arith, under));
      }
  reached (s ∷ ss) i d k a p (m ∷ pre) tiles tail are enough low h =
      reached_more s ss i d k p m pre tiles.0 tiles.1
      (reached ss (i + 1) s.end (known_with (flat i) (group_in c.steps s) k) (with_group c.graph c.typed rows flat i (group_in c.steps s) a m) (p ++ m ∷ []) pre tiles.3
      (tail_next c.graph c.typed rows flat l p i (group_in c.steps s) (groups_in c ss) a m tail) are.2 enough.2 (omega (arith, low)) h.1)
