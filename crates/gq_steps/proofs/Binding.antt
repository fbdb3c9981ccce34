-- What is bound before a step: what steps bind, as rows and load numbers have it.
use Rattle.std.proofs.Common.{◌≡◌, ℕ, zero, suc, ◌+◌, ◌<◌, ◌≤◌, Bool, true, false, ◌||◌, ◌&&◌, cond, nat_eq, Some, None, List, [], ◌∷◌, ◌++◌, length, drop, refl, sym, ap, ap₂, ◌∙◌, subst, inl, inr, ◌⊎◌, arith}
use Rattle.std.specs.Option.{option_or}
use Rattle.std.proofs.lemmas.Bool.{eqb-true, eq-eqb, ne_eqb, cases_eq, and_parts, or_left, or_right}
use Rattle.gq_base.specs.declared.NodeId.{NodeId}
use Rattle.gq_base.specs.declared.RelId.{RelId}
use Rattle.gq_plan.specs.Covers.{after, after_step}
use Rattle.gq_plan.specs.Halves.{runs_step, runs}
use Rattle.gq_plan.specs.Known.{Known, none}
use Rattle.gq_plan.specs.Meaning.{Partial, nothing, with_node, with_rel, with_all, look}
use Rattle.gq_plan.specs.Plans.{Plan, Done, Then, Step, Scan, Extend, Close, Join, Keep, Differ, NoLoop, Single, Meet, steps}
use Rattle.gq_plan.specs.declared.typed.Typed.{Typed}
use Rattle.gq_steps.specs.Given.{given, given_step}
use Rattle.gq_steps.specs.Levels.{Run, step_at, taken, known, before}
use Rattle.gq_steps.specs.Moves.{IsRun, IsAlike}
use Rattle.gq_plan.specs.Rows.{node_table, rel_table, node_at, rel_at}
use Rattle.gq_plan.specs.declared.assignment.Assignment.{Assignment}
use Rattle.std.proofs.lemmas.List.{drop_all, drop_more}

pub swap : (a b : ℕ) → nat_eq a b ≡ nat_eq b a
swap a b = go (cases_eq a b)
  where
    go : (a ≡ b) ⊎ (a ≡ b → ⊥) → nat_eq a b ≡ nat_eq b a
    go (inl e) = eq-eqb a b e ∙ sym (eq-eqb b a (sym e))
    go (inr e) = ne_eqb a b e ∙ sym (ne_eqb b a (λ h. e (sym h)))

-- ---- what a step binds stays bound

pub step_keeps_node : (s : Step) (k : Known) (v : ℕ) → k.nodes v ≡ true → (after_step s k).nodes v ≡ true
unfolding after_step
step_keeps_node (Scan w) k v h = or_right (nat_eq v w) (k.nodes v) h
step_keeps_node (Extend column x from to way) k v h = or_right (nat_eq v to) (k.nodes v) h
step_keeps_node (Close column x from to way) k v h = h
step_keeps_node (Join side keys) k v h = or_right ((after side none).nodes v) (k.nodes v) h
step_keeps_node (Keep i) k v h = h
step_keeps_node (Differ p) k v h = h
step_keeps_node (NoLoop x) k v h = h
step_keeps_node (Single x from to way) k v h = h
step_keeps_node (Meet x from to way) k v h = h

pub step_keeps_rel : (s : Step) (k : Known) (v : ℕ) → k.rels v ≡ true → (after_step s k).rels v ≡ true
unfolding after_step
step_keeps_rel (Scan w) k v h = h
step_keeps_rel (Extend column x from to way) k v h = or_right (nat_eq v x) (k.rels v) h
step_keeps_rel (Close column x from to way) k v h = or_right (nat_eq v x) (k.rels v) h
step_keeps_rel (Join side keys) k v h = or_right ((after side none).rels v) (k.rels v) h
step_keeps_rel (Keep i) k v h = h
step_keeps_rel (Differ p) k v h = h
step_keeps_rel (NoLoop x) k v h = h
step_keeps_rel (Single x from to way) k v h = or_right (nat_eq v x) (k.rels v) h
step_keeps_rel (Meet x from to way) k v h = h

pub alike_before : (s : Step) (k : Known) (old new : Assignment) → IsAlike (after_step s k) old new → IsAlike k old new
alike_before s k old new h = record { nodes = λ v e. h.nodes v (step_keeps_node s k v e); rels = λ x e. h.rels x (step_keeps_rel s k x e) }

-- ---- rows and load numbers that are alike

module _ (y : Typed) (old new : Assignment) where
  pub same_node : (v r q : ℕ) (a : Partial) → r ≡ q → with_node v (record { table = node_table y v; row = r }) a ≡ with_node v (record { table = node_table y v; row = q }) a
  same_node v r q a e = ap (λ r. with_node v (record { table = node_table y v; row = r }) a) e

  pub same_rel : (x r q : ℕ) (a : Partial) → r ≡ q → with_rel x (record { table = rel_table y x; row = r }) a ≡ with_rel x (record { table = rel_table y x; row = q }) a
  same_rel x r q a e = ap (λ r. with_rel x (record { table = rel_table y x; row = r }) a) e

-- ---- what plans bind

mutual
  unfolding after

  pub plan_keeps_node : (p : Plan) (k : Known) (v : ℕ) → k.nodes v ≡ true → (after p k).nodes v ≡ true
  plan_keeps_node Done k v h = h
  plan_keeps_node (Then s p) k v h = plan_keeps_node p (after_step s k) v (step_keeps_node s k v h)

  pub plan_keeps_rel : (p : Plan) (k : Known) (x : ℕ) → k.rels x ≡ true → (after p k).rels x ≡ true
  plan_keeps_rel Done k x h = h
  plan_keeps_rel (Then s p) k x h = plan_keeps_rel p (after_step s k) x (step_keeps_rel s k x h)

module _ (y : Typed) (old new : Assignment) where
  mutual
    unfolding given after

    -- what a plan binds is the same in rows and load numbers that are alike there
    pub given_alike : (p : Plan) (k : Known) (a : Partial) → IsAlike (after p k) old new → given y new p a ≡ given y old p a
    given_alike Done k a h = refl
    given_alike (Then s p) k a h =
        given_alike p (after_step s k) (given_step y new s a) h
        ∙ ap (given y old p) (given_step_alike s k a (record { nodes = λ v e. h.nodes v (plan_keeps_node p (after_step s k) v e); rels = λ x e. h.rels x (plan_keeps_rel p (after_step s k) x e) }))

    given_step_alike : (s : Step) (k : Known) (a : Partial) → IsAlike (after_step s k) old new → given_step y new s a ≡ given_step y old s a
    given_step_alike (Scan v) k a h = same_node y old new v _ _ a (h.nodes v (or_left (nat_eq v v) (k.nodes v) (eq-eqb v v refl)))
    given_step_alike (Extend column x from to way) k a h =
        same_node y old new to _ _ (with_rel x (rel_at y new x) a) (h.nodes to (or_left (nat_eq to to) (k.nodes to) (eq-eqb to to refl)))
        ∙ ap (λ b. with_node to (node_at y old to) b) (same_rel y old new x _ _ a (h.rels x (or_left (nat_eq x x) (k.rels x) (eq-eqb x x refl))))
    given_step_alike (Close column x from to way) k a h = same_rel y old new x _ _ a (h.rels x (or_left (nat_eq x x) (k.rels x) (eq-eqb x x refl)))
    given_step_alike (Join side keys) k a h = ap (λ b. with_all b a) (given_alike side none nothing (record { nodes = λ v e. h.nodes v (or_left ((after side none).nodes v) (k.nodes v) e); rels = λ x e. h.rels x (or_left ((after side none).rels x) (k.rels x) e) }))
    given_step_alike (Keep i) k a h = refl
    given_step_alike (Differ p) k a h = refl
    given_step_alike (NoLoop x) k a h = refl
    given_step_alike (Single x from to way) k a h = same_rel y old new x _ _ a (h.rels x (or_left (nat_eq x x) (k.rels x) (eq-eqb x x refl)))
    given_step_alike (Meet x from to way) k a h = refl

pub taken_given : (y : Typed) (row : Assignment) (s : Step) (a : Partial) → given_step y row s a ≡ taken y row s a
unfolding given
taken_given y row (Scan v) a = refl
taken_given y row (Extend column x from to way) a = refl
taken_given y row (Close column x from to way) a = refl
taken_given y row (Join side keys) a = refl
taken_given y row (Keep i) a = refl
taken_given y row (Differ p) a = refl
taken_given y row (NoLoop x) a = refl
taken_given y row (Single x from to way) a = refl
taken_given y row (Meet x from to way) a = refl

pub taken_alike : (y : Typed) (old new : Assignment) (s : Step) (k : Known) (a : Partial) → IsAlike (after_step s k) old new → taken y new s a ≡ taken y old s a
taken_alike y old new s k a h = sym (taken_given y new s a) ∙ given_step_alike y old new s k a h ∙ taken_given y old s a

module _ (c : Run) (old new : Assignment) where
  pub before_alike : (d : ℕ) → IsAlike (known c d) old new → before c new d ≡ before c old d
  unfolding known before
  before_alike zero h = refl
  before_alike (suc d) h =
      taken_alike c.typed old new (step_at c d) (known c d) (before c new d) h
      ∙ ap (taken c.typed old (step_at c d)) (before_alike d (alike_before (step_at c d) (known c d) old new h))

-- the steps from a depth on
steps_from : (c : Run) (d : ℕ) → d < length c.steps → drop d c.steps ≡ step_at c d ∷ drop (d + 1) c.steps
steps_from c d low = drop_more c.steps d (Keep 0) low

-- ---- what is looked up

look_either : {X : Type 0} (bs cs : List (ℕ × X)) (v : ℕ) → look (bs ++ cs) v ≡ option_or (look bs v) (look cs v)
look_either [] cs v = refl
look_either (b ∷ bs) cs v = go (nat_eq b.0 v) (look_either bs cs v)
  where
    go : (t : Bool) → look (bs ++ cs) v ≡ option_or (look bs v) (look cs v) → cond t (Some b.1) (look (bs ++ cs) v) ≡ option_or (cond t (Some b.1) (look bs v)) (look cs v)
    go true e = refl
    go false e = e

look_append : {X : Type 0} (made : ℕ → X) (one two : ℕ → Bool) (bs cs : List (ℕ × X)) → ((v : ℕ) → look bs v ≡ cond (one v) (Some (made v)) None) → ((v : ℕ) → look cs v ≡ cond (two v) (Some (made v)) None)
    → (v : ℕ) → look (bs ++ cs) v ≡ cond (one v || two v) (Some (made v)) None
look_append made one two bs cs h k v = look_either bs cs v ∙ ap₂ option_or (h v) (k v) ∙ go (one v)
  where
    go : (b : Bool) → option_or (cond b (Some (made v)) None) (cond (two v) (Some (made v)) None) ≡ cond (b || two v) (Some (made v)) None
    go true = refl
    go false = refl

-- an assignment has what is known, as rows and load numbers have it
pub record Looks (y : Typed) (row : Assignment) (k : Known) (a : Partial) : Type 0 where
  pub nodes : (v : ℕ) → look a.nodes v ≡ cond (k.nodes v) (Some (node_at y row v)) None
  pub rels : (x : ℕ) → look a.rels x ≡ cond (k.rels x) (Some (rel_at y row x)) None

module _ (y : Typed) (row : Assignment) where
  one_node : (w : ℕ) (n : NodeId) (known : ℕ → Bool) (bs : List (ℕ × NodeId)) → n ≡ node_at y row w → ((v : ℕ) → look bs v ≡ cond (known v) (Some (node_at y row v)) None)
      → (v : ℕ) → look ((w, n) ∷ bs) v ≡ cond (nat_eq v w || known v) (Some (node_at y row v)) None
  one_node w n known bs is h v = go (nat_eq w v) refl
    where
      go : (b : Bool) → nat_eq w v ≡ b → cond (nat_eq w v) (Some n) (look bs v) ≡ cond (nat_eq v w || known v) (Some (node_at y row v)) None
      go true e = rw (e, swap v w ∙ e) (ap Some (is ∙ ap (node_at y row) (eqb-true w v e)))
      go false e = rw (e, swap v w ∙ e) (h v)

  one_rel : (w : ℕ) (n : RelId) (known : ℕ → Bool) (bs : List (ℕ × RelId)) → n ≡ rel_at y row w → ((v : ℕ) → look bs v ≡ cond (known v) (Some (rel_at y row v)) None)
      → (v : ℕ) → look ((w, n) ∷ bs) v ≡ cond (nat_eq v w || known v) (Some (rel_at y row v)) None
  one_rel w n known bs is h v = go (nat_eq w v) refl
    where
      go : (b : Bool) → nat_eq w v ≡ b → cond (nat_eq w v) (Some n) (look bs v) ≡ cond (nat_eq v w || known v) (Some (rel_at y row v)) None
      go true e = rw (e, swap v w ∙ e) (ap Some (is ∙ ap (rel_at y row) (eqb-true w v e)))
      go false e = rw (e, swap v w ∙ e) (h v)

  mutual
    unfolding given after

    pub looks_given : (p : Plan) (k : Known) (a : Partial) → Looks y row k a → Looks y row (after p k) (given y row p a)
    looks_given Done k a h = h
    looks_given (Then s p) k a h = looks_given p (after_step s k) (given_step y row s a) (looks_step s k a h)

    looks_step : (s : Step) (k : Known) (a : Partial) → Looks y row k a → Looks y row (after_step s k) (given_step y row s a)
    looks_step (Scan v) k a h = record { nodes = one_node v (node_at y row v) k.nodes a.nodes refl h.nodes; rels = h.rels }
    looks_step (Extend column x from to way) k a h = record {
      nodes = one_node to (node_at y row to) k.nodes a.nodes refl h.nodes;
      rels = one_rel x (rel_at y row x) k.rels a.rels refl h.rels;
    }
    looks_step (Close column x from to way) k a h = record { nodes = h.nodes; rels = one_rel x (rel_at y row x) k.rels a.rels refl h.rels }
    looks_step (Join side keys) k a h =
        let b : Partial = given y row side nothing in
        let l : Looks y row (after side none) b = looks_given side none nothing (record { nodes = λ v. refl; rels = λ x. refl }) in
        record {
          nodes = look_append (node_at y row) (after side none).nodes k.nodes b.nodes a.nodes l.nodes h.nodes;
          rels = look_append (rel_at y row) (after side none).rels k.rels b.rels a.rels l.rels h.rels;
        }
    looks_step (Keep i) k a h = h
    looks_step (Differ p) k a h = h
    looks_step (NoLoop x) k a h = h
    looks_step (Single x from to way) k a h = record { nodes = h.nodes; rels = one_rel x (rel_at y row x) k.rels a.rels refl h.rels }
    looks_step (Meet x from to way) k a h = h

  looks_taken : (s : Step) (k : Known) (a : Partial) → Looks y row k a → Looks y row (after_step s k) (taken y row s a)
  looks_taken s k a h = subst (λ b. Looks y row (after_step s k) b) (taken_given y row s a) (looks_step s k a h)

module _ (c : Run) (run : IsRun c) where
  pub looks : (row : Assignment) (d : ℕ) → Looks c.typed row (known c d) (before c row d)
  unfolding known before
  looks row zero = record { nodes = λ v. refl; rels = λ x. refl }
  looks row (suc d) = looks_taken c.typed row (step_at c d) (known c d) (before c row d) (looks row d)

  -- the step at a depth fits what is bound there
  fits_from : (d : ℕ) → d ≤ length c.steps → runs c.graph.catalog c.typed (steps (drop d c.steps)) (known c d) ≡ true
  unfolding known runs
  fits_from zero low = run.fits
  fits_from (suc d) low =
      let k = known c d in
      let s = step_at c d in
      let more : List Step = drop (d + 1) c.steps in
      let split : (runs_step c.graph.catalog c.typed s k && runs c.graph.catalog c.typed (steps more) (after_step s k)) ≡ true =
      ap (λ ss. runs c.graph.catalog c.typed (steps ss) k) (sym (steps_from c d (omega arith))) ∙ fits_from d (omega arith) in
      let next : d + 1 ≡ suc d = omega arith in
      ap (λ n. runs c.graph.catalog c.typed (steps (drop n c.steps)) (after_step s k)) (sym next) ∙ (and_parts _ _ split).1

  pub fits_at : (d : ℕ) → d < length c.steps → runs_step c.graph.catalog c.typed (step_at c d) (known c d) ≡ true
  unfolding runs
  fits_at d low =
      let k = known c d in
      let s = step_at c d in
      let more : List Step = drop (d + 1) c.steps in
      let split : (runs_step c.graph.catalog c.typed s k && runs c.graph.catalog c.typed (steps more) (after_step s k)) ≡ true =
      ap (λ ss. runs c.graph.catalog c.typed (steps ss) k) (sym (steps_from c d low)) ∙ fits_from d (omega arith) in
      (and_parts _ _ split).0

-- ---- all variables

-- what a plan binds is what its steps bind one after another
after_from : (c : Run) (n d : ℕ) → d + n ≡ length c.steps → after (steps (drop d c.steps)) (known c d) ≡ known c (length c.steps)
unfolding after known
after_from c zero d is =
    let all : d ≡ length c.steps = omega arith in
    ap (λ ss. after (steps ss) (known c d)) (drop_all d c.steps (omega arith)) ∙ ap (known c) all
after_from c (suc n) d is =
    let next : d + 1 ≡ suc d = omega arith in
    ap (λ ss. after (steps ss) (known c d)) (steps_from c d (omega arith))
    ∙ ap (λ m. after (steps (drop m c.steps)) (after_step (step_at c d) (known c d))) next
    ∙ after_from c n (suc d) (omega arith)

pub after_all : (c : Run) → after (steps c.steps) none ≡ known c (length c.steps)
unfolding known
after_all c = after_from c (length c.steps) 0 (omega arith)

given_from : (c : Run) (row : Assignment) (n d : ℕ) → d + n ≡ length c.steps → given c.typed row (steps (drop d c.steps)) (before c row d) ≡ before c row (length c.steps)
unfolding given before
given_from c row zero d is =
    let all : d ≡ length c.steps = omega arith in
    ap (λ ss. given c.typed row (steps ss) (before c row d)) (drop_all d c.steps (omega arith)) ∙ ap (before c row) all
given_from c row (suc n) d is =
    let next : d + 1 ≡ suc d = omega arith in
    ap (λ ss. given c.typed row (steps ss) (before c row d)) (steps_from c d (omega arith))
    ∙ ap (λ m. given c.typed row (steps (drop m c.steps)) (given_step c.typed row (step_at c d) (before c row d))) next
    ∙ ap (given c.typed row (steps (drop (suc d) c.steps))) (taken_given c.typed row (step_at c d) (before c row d))
    ∙ given_from c row n (suc d) (omega arith)

-- what a plan binds is what its steps bind one after another, as rows and load numbers have it
pub given_all : (c : Run) (row : Assignment) → given c.typed row (steps c.steps) nothing ≡ before c row (length c.steps)
unfolding before
given_all c row = given_from c row (length c.steps) 0 (omega arith)
