-- Steps that are looked at by their depth, and what groups are told one after another.
use Rattle.std.proofs.Common.{◌≡◌, ℕ, zero, suc, ◌+◌, ◌<◌, ◌≤◌, ◌⊎◌, inl, inr, Bool, true, false, cond, nat_lt, ◌&&◌, List, [], ◌∷◌, ◌++◌, Option, Some, None, length, slice_get, refl, sym, ap, ◌∙◌, subst, arith}
use Rattle.std.proofs.Math.Nat.{min-le_right}
use Rattle.std.specs.Prelude.{IfSome, slice_index_or, slice_set, vec_len}
use Rattle.std.proofs.lemmas.Bool.{and_parts, le-ltb, lt-ltb}
use Rattle.std.proofs.lemmas.List.{get_or-set_same, length-map, length-set, set-get_or}
use Rattle.std.proofs.lemmas.Option.{slice_get-get_or}
use Rattle.gq_bits.specs.declared.TheConstants.{VECTOR}
use Rattle.gq_base.specs.Directions.{opposite}
use Rattle.gq_plan.specs.Plans.{Extend}
use Rattle.gq_plan.specs.Rows.{rel_table}
use Rattle.gq_masks.specs.Masks.{AreReached, IsPart, next_end}
use Rattle.gq_steps.specs.Moves.{steps_in}
use Rattle.gq_steps.specs.declared.group_steps.GroupSteps.{GroupSteps}
use Rattle.gq_steps.specs.declared.plan_run.PlanRun.{PlanRun}
use Rattle.gq_steps.specs.declared.plan_run.RunStep.{RunStep}
use Rattle.gq_steps.specs.Groups.{group_at}
use Rattle.gq_steps.specs.Levels.{Run, step_at}
use Rattle.gq_plan.specs.declared.follow.Follow.{Follow}
use Rattle.gq_pipe.specs.steps.Told.{BindsNode}
use Rattle.gq_store.specs.Neighbours.{near_rows}
use Rattle.gq_pipe.specs.declared.sight.Sight.{Sight}
use Rattle.gq_pipe.specs.steps.Closings.{IsClosing}
use Rattle.gq_pipe.specs.declared.ahead.Ahead.{Ahead}
use Rattle.gq_pipe.specs.declared.ahead.Ahead.TheVariants.{Near, Far}
use Rattle.gq_pipe.specs.steps.Ahead.{AreAhead, AreNext, ArePut, AreToldMore, AreUntold, IsAhead, IsToldMore, StayAhead}
use Rattle.gq_pipe.specs.steps.Sights.{IsAsSeen, IsLead, IsNext, IsNothing, IsSeen, IsSight, StayOpen, may_pass}

pub steps_long : (p : PlanRun) (d n : ℕ) → n ≡ vec_len p.steps → d < n → d < length (steps_in p)
steps_long p d n many low = omega (arith, many, low, p.steps.ok.0, length-map p.steps.items (λ (r : RunStep). r.step.now))

-- ---- what groups are told

pub none_untold : AreUntold []
none_untold depth t = λ e. absurd (cc e)

pub more_untold : (ts : List (Option Ahead)) → AreUntold ts → AreUntold (ts ++ None ∷ [])
more_untold [] none zero t = λ e. absurd (cc e)
more_untold [] none (suc d) t = λ e. absurd (cc e)
more_untold (x ∷ xs) none zero t = λ e. none zero t e
more_untold (x ∷ xs) none (suc d) t = λ e. more_untold xs (λ k u f. none (suc k) u f) d t e

pub untold_ahead : (c : Run) (ss : List GroupSteps) (ts : List (Option Ahead)) → AreUntold ts → AreAhead c ss ts
untold_ahead c ss ts none depth t e = absurd (none depth t e)

-- one is told something else
pub set_put : (ts : List (Option Ahead)) (depth : ℕ) (next : Option Ahead) → ArePut depth next ts (slice_set ts depth next)
set_put [] depth next d u e = absurd (cc e)
set_put (x ∷ xs) zero next zero u e = (let same : next ≡ Some u = cc e in inr (refl, same))
set_put (x ∷ xs) zero next (suc d) u e = inl e
set_put (x ∷ xs) (suc depth) next zero u e = inl e
set_put (x ∷ xs) (suc depth) next (suc d) u e = deeper (set_put xs depth next d u e)
  where
    deeper : (slice_get xs d ≡ Some (Some u)) ⊎ ((d ≡ depth) × (next ≡ Some u)) → (slice_get xs d ≡ Some (Some u)) ⊎ ((suc d ≡ suc depth) × (next ≡ Some u))
    deeper (inl f) = inl f
    deeper (inr f) = inr (ap suc f.0, f.1)

pub same_put : (ts new : List (Option Ahead)) (depth : ℕ) (next : Option Ahead) → new ≡ ts → ArePut depth next ts new
same_put ts new depth next same d u e = inl (subst (λ l. slice_get l d ≡ Some (Some u)) same e)

pub ahead_put : (c : Run) (ss : List GroupSteps) (old new : List (Option Ahead)) (depth : ℕ) (next : Option Ahead) → AreAhead c ss old → ArePut depth next old new
    → ((t : Ahead) → next ≡ Some t → IsAhead c ss depth t) → AreAhead c ss new
ahead_put c ss old new depth next are put is d u e = by (put d u e)
  where
    by : (slice_get old d ≡ Some (Some u)) ⊎ ((d ≡ depth) × (next ≡ Some u)) → IsAhead c ss d u
    by (inl f) = are d u f
    by (inr f) = subst (λ n. IsAhead c ss n u) (sym f.0) (is u f.1)

-- it stays so where one is told the same again
pub same_again : (ts : List (Option Ahead)) (depth : ℕ) (x y : Option Ahead) → x ≡ slice_index_or ts depth x → y ≡ x → slice_set ts depth y ≡ ts
same_again ts depth x y is same = ap (slice_set ts depth) (same ∙ is) ∙ set-get_or ts depth x

-- or which of the next rows are chosen
pub told_more : (chosen : List Bool) (ts : List (Option Ahead)) (depth : ℕ) (t u : Ahead) → slice_get ts depth ≡ Some (Some t) → IsToldMore chosen t u → AreToldMore chosen depth ts (slice_set ts depth (Some u))
told_more chosen ts depth t u there more d w e = by (set_put ts depth (Some u) d w e)
  where
    by : (slice_get ts d ≡ Some (Some w)) ⊎ ((d ≡ depth) × (Some u ≡ Some w)) → (slice_get ts d ≡ Some (Some w)) ⊎ ((t : Ahead) × (d ≡ depth) × (slice_get ts depth ≡ Some (Some t)) × IsToldMore chosen t w)
    by (inl f) = inl f
    by (inr f) = (let own = f.1 in let same : u ≡ w = cc own in inr (t, f.0, there, subst (IsToldMore chosen t) same more))

pub told_same : (chosen : List Bool) (depth : ℕ) (ts new : List (Option Ahead)) → new ≡ ts → AreToldMore chosen depth ts new
told_same chosen depth ts new same d w e = inl (subst (λ l. slice_get l d ≡ Some (Some w)) same e)

-- the rows of which it is told now, and those of which it was told before
module _ (c : Run) (ss : List GroupSteps) (depth : ℕ) (t u : Sight) (chosen : List Bool) (h : IsSight c ss depth t) (n : IsNext c ss t chosen) (same : IsAsSeen t u)
    (more : (all : ℕ → Bool) → AreReached t.mask all → IsPart all t.mask.told (next_end t.mask) chosen → AreReached u.mask all) where
  blind : (q : ℕ) (b : Bool) → cond b (h.seen.live q) (n.live q) ≡ false → IsNothing c ss t.later t.far q
  blind q true off = h.seen.nothing q off
  blind q false off = n.nothing q off

  early : (q : ℕ) → q < t.mask.told → (may_pass c t.group t.far q && cond (nat_lt q t.mask.told) (h.seen.live q) (n.live q)) ≡ true → (may_pass c t.group t.far q && h.seen.live q) ≡ true
  early q low on = ap (λ b. may_pass c t.group t.far q && cond b (h.seen.live q) (n.live q)) (sym (lt-ltb q t.mask.told low)) ∙ on

  late : (k : ℕ) → (may_pass c t.group t.far (t.mask.told + k) && cond (nat_lt (t.mask.told + k) t.mask.told) (h.seen.live (t.mask.told + k)) (n.live (t.mask.told + k))) ≡ true → (may_pass c t.group t.far (t.mask.told + k) && n.live (t.mask.told + k)) ≡ true
  late k on =
      let behind : t.mask.told ≤ t.mask.told + k = omega arith in
      ap (λ b. may_pass c t.group t.far (t.mask.told + k) && cond b (h.seen.live (t.mask.told + k)) (n.live (t.mask.told + k))) (sym (le-ltb (t.mask.told + k) t.mask.told behind)) ∙ on

  told : IsSight c ss depth (record { node = t.node; later = t.later; group = t.group; far = t.far; mask = u.mask })
  told = record {
    binds = h.binds;
    flat = h.flat;
    behind = h.behind;
    inside = h.inside;
    rel = h.rel;
    way = h.way;
    follows = h.follows;
    group = h.group;
    graph = same.graph ∙ h.graph;
    table = same.table ∙ h.table;
    direction = same.direction ∙ h.direction;
    seen = record {
      far = h.seen.far;
      live = λ q. cond (nat_lt q t.mask.told) (h.seen.live q) (n.live q);
      nothing = λ q off. blind q (nat_lt q t.mask.told) off;
      reached = more (λ q. may_pass c t.group t.far q && cond (nat_lt q t.mask.told) (h.seen.live q) (n.live q))
          (λ q low on. h.seen.reached q low (early q low on))
          (λ k under on. n.part k under (late k on));
    };
  }

  pub sight_more : IsSight c ss depth u
  sight_more =
      let is : record { node = t.node; later = t.later; group = t.group; far = t.far; mask = u.mask } ≡ u =
      (λ i. record { node = (sym same.node) i; later = (sym same.later) i; group = (sym same.group) i; far = (sym same.far) i; mask = u.mask }) in
      subst (IsSight c ss depth) is told

pub stay_told : (c : Run) (chosen : List Bool) (depth : ℕ) (old new : List (Option Ahead)) → AreNext c old depth chosen → AreToldMore chosen depth old new → StayAhead c old new
stay_told c chosen depth old new next more ss are d u e = by (more d u e)
  where
    one : (t w : Ahead) → IsAhead c ss depth t → slice_get old depth ≡ Some (Some t) → IsToldMore chosen t w → IsAhead c ss depth w
    one (Near t) (Near w) h there same = subst (IsClosing c ss depth) (sym same) h
    one (Near t) (Far w) h there none = absurd none
    one (Far t) (Near w) h there none = absurd none
    one (Far t) (Far w) h there told = sight_more c ss depth t w chosen h (next ss are t there) told.0 told.1

    by : (slice_get old d ≡ Some (Some u)) ⊎ ((t : Ahead) × (d ≡ depth) × (slice_get old depth ≡ Some (Some t)) × IsToldMore chosen t u) → IsAhead c ss d u
    by (inl f) = are d u f
    by (inr (t, at, there, told)) = subst (λ n. IsAhead c ss n u) (sym at) (one t u (are depth t there) there told)

pub one_far : (x : Option (Option Ahead)) (t u : Sight) → x ≡ Some (Some (Far t)) → x ≡ Some (Some (Far u)) → t ≡ u
one_far x t u h k = cc (h, k)

-- the rows of which it is told next
pub next_open : (c : Run) (ss : List GroupSteps) (t : Sight) (first new : List Bool) → IsPart (may_pass c t.group t.far) t.mask.told (next_end t.mask) first → StayOpen c ss t first new → IsNext c ss t new
next_open c ss t first new part h = record {
  live = h.live;
  nothing = h.nothing;
  part = λ k under on. (let both = and_parts (may_pass c t.group t.far (t.mask.told + k)) (h.live (t.mask.told + k)) on in
      let few = min-le_right (near_rows t.mask.graph t.mask.table t.mask.direction) (t.mask.told + VECTOR) in
      h.stay k (omega (arith, under, few)) (part k under both.0) both.1);
}

-- all rows stay, or those that another mask has
pub all_stay : (c : Run) (ss : List GroupSteps) (t : Sight) (marks : List Bool) → StayOpen c ss t marks marks
all_stay c ss t marks = record { live = λ q. true; nothing = λ q off. absurd (cc off); stay = λ k low on live. on }

-- of no rows it is told first
pub seen_first : (c : Run) (ss : List GroupSteps) (t : Sight) → t.far < length c.typed.nodes → t.mask.told ≡ 0 → IsSeen c ss t
seen_first c ss t far none = record {
  far = far;
  live = λ q. true;
  nothing = λ q off. absurd (cc off);
  reached = λ q low on. absurd (omega (arith, low, none));
}

-- a group of which a list leads to another node is told so first
pub sight_first : (c : Run) (ss : List GroupSteps) (depth node later : ℕ) (f : Follow) (o : Option Sight)
    → BindsNode node (step_at c (group_at ss depth).first) → (group_at ss depth).flat ≡ true → depth < later → later < length ss → IsLead c (group_at ss later) node f
    → IfSome o (λ t. t.node ≡ f.from) → IfSome o (λ t. t.later ≡ later) → IfSome o (λ t. t.group ≡ group_at ss later) → IfSome o (λ t. t.far ≡ f.to) → IfSome o (λ t. t.far < length c.typed.nodes)
    → IfSome o (λ t. t.mask.graph ≡ c.graph) → IfSome o (λ t. t.mask.table ≡ rel_table c.typed f.rel) → IfSome o (λ t. t.mask.direction ≡ opposite f.direction) → IfSome o (λ t. t.mask.told ≡ 0)
    → IfSome o (IsSight c ss depth)
sight_first c ss depth node later f None binds flat behind inside lead n l x r w g y d none = tt
sight_first c ss depth node later f (Some t) binds flat behind inside lead n l x r w g y d none =
    let own : t.node ≡ node = n ∙ lead.from in
    record {
      binds = subst (λ v. BindsNode v (step_at c (group_at ss depth).first)) (sym own) binds;
      flat = flat;
      behind = subst (λ n. depth < n) (sym l) behind;
      inside = subst (λ n. n < length ss) (sym l) inside;
      rel = f.rel;
      way = f.direction;
      follows = subst (λ q. step_at c (group_at ss q).first ≡ Extend false f.rel t.node t.far f.direction) (sym l)
          (subst (λ v. step_at c (group_at ss later).first ≡ Extend false f.rel v t.far f.direction) (sym n)
          (subst (λ v. step_at c (group_at ss later).first ≡ Extend false f.rel f.from v f.direction) (sym r) lead.follows));
      group = x ∙ ap (group_at ss) (sym l);
      graph = g;
      table = y;
      direction = d;
      seen = seen_first c ss t w none;
    }

pub put_there : (ts : List (Option Ahead)) (depth : ℕ) (x : Option Ahead) → depth < length ts → slice_get (slice_set ts depth x) depth ≡ Some x
put_there ts depth x low = slice_get-get_or (slice_set ts depth x) depth x (omega (arith, low, length-set ts depth x)) ∙ ap Some (get_or-set_same ts depth x x low)

pub told_there : (ts : List (Option Ahead)) (depth : ℕ) (x : Option Ahead) (t : Ahead) → depth < length ts → x ≡ slice_index_or ts depth x → x ≡ Some t → slice_get ts depth ≡ Some (Some t)
told_there ts depth x t low is some = slice_get-get_or ts depth x low ∙ ap Some (sym is ∙ some)

pub told_of : (c : Run) (ss gs : List GroupSteps) (ts : List (Option Ahead)) → gs ≡ ss → AreAhead c gs ts → ∥ AreAhead c ss ts ∥₁
told_of c ss gs ts is are = ∣ subst (λ g. AreAhead c g ts) is are ∣₁
