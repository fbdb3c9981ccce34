-- What a plan that fits an alternative binds has room among the variables of a query, and what a side plan brings to a group.
use Rattle.std.proofs.Common.{inl, inr, ◌≡◌, ◌∙◌, ◌<◌, ◌≤◌, ap, ap₂, sym, refl, ℕ, Bool, true, false, not, cond, ◌&&◌, ◌||◌, List, [], ◌∷◌, map, length, slice_get, nat_eq, nat_lt, arith, true≢false}
use Rattle.std.specs.List.{AllByRecursion}
use Rattle.std.proofs.lemmas.Bool.{and_parts, eqb-true, ltb-true, lt-ltb, or_cases}
use Rattle.std.proofs.lemmas.Option.{slice_get_within}
use Rattle.gq_base.specs.Catalogs.{Tables}
use Rattle.gq_base.specs.declared.direction.Direction.{Direction}
use Rattle.gq_plan.proofs.ColumnBounds.{binds_is, eqb_sym}
use Rattle.gq_plan.proofs.Pieces.{holds_some}
use Rattle.gq_plan.specs.Columns.{binds}
use Rattle.gq_plan.specs.Covers.{after, after_step, fits, fits_step, goes, is_joined}
use Rattle.gq_plan.specs.Known.{Known, none}
use Rattle.gq_plan.specs.Meaning.{holds}
use Rattle.gq_plan.specs.Plans.{Plan, Done, Then, Step, Scan, Extend, Close, Join, Keep, Differ, NoLoop, Single, Meet, steps, step_of}
use Rattle.gq_plan.specs.Shapes.{put_all}
use Rattle.gq_plan.specs.Soundness.{has_number, max_variables}
use Rattle.gq_plan.specs.declared.plan.Step as code
use Rattle.gq_plan.specs.declared.typed.Typed.{Typed}
use Rattle.gq_plan.specs.steps.Places.{HasRoom, IsNamed, binds_rel, step_binds_rel}

or_false : (b : Bool) → (b || false) ≡ b
or_false true = refl
or_false false = refl

mutual
  unfolding after after_step binds_rel step_binds_rel

  rels_is : (x : ℕ) (p : Plan) (k : Known) → (after p k).rels x ≡ (binds_rel x p || k.rels x)
  rels_is x Done k = refl
  rels_is x (Then s p) k = rels_is x p (after_step s k) ∙ ap (λ b. binds_rel x p || b) (step_rels_is x s k) ∙ swap (step_binds_rel x s) (binds_rel x p) (k.rels x)
    where
      swap : (a b c : Bool) → (b || (a || c)) ≡ (cond a true b || c)
      swap true true c = refl
      swap true false c = refl
      swap false b c = refl

  step_rels_is : (x : ℕ) (s : Step) (k : Known) → (after_step s k).rels x ≡ (step_binds_rel x s || k.rels x)
  step_rels_is x (Scan n) k = refl
  step_rels_is x (Extend column own from to way) k = ap (λ b. b || k.rels x) (eqb_sym x own)
  step_rels_is x (Close column own from to way) k = ap (λ b. b || k.rels x) (eqb_sym x own)
  step_rels_is x (Join side keys) k = ap (λ b. b || k.rels x) (rels_is x side none ∙ or_false (binds_rel x side))
  step_rels_is x (Keep i) k = refl
  step_rels_is x (Differ q) k = refl
  step_rels_is x (NoLoop own) k = refl
  step_rels_is x (Single own from to way) k = ap (λ b. b || k.rels x) (eqb_sym x own)
  step_rels_is x (Meet own from to way) k = refl

-- ---- what is bound has room

module _ (catalog : Tables) (y : Typed) where
  -- what is known are variables of the alternative
  pub record IsLow (k : Known) : Type 0 where
    pub nodes : (v : ℕ) → k.nodes v ≡ true → v < length y.nodes
    pub rels : (x : ℕ) → k.rels x ≡ true → x < length y.rels

  pub none_low : IsLow none
  none_low = record { nodes = λ v e. absurd (true≢false (sym e)); rels = λ x e. absurd (true≢false (sym e)) }

  -- with one more of them
  more_low : (has : ℕ → Bool) (n w : ℕ) → w < n → ((v : ℕ) → has v ≡ true → v < n) → (v : ℕ) → (nat_eq v w || has v) ≡ true → v < n
  more_low has n w low h v e = elim (or_cases (nat_eq v w) (has v) e) [
    | inl same ↦ omega (arith, eqb-true v w same)
    | inr old ↦ h v old
  ]

  both_low : (has own : ℕ → Bool) (n : ℕ) → ((v : ℕ) → has v ≡ true → v < n) → ((v : ℕ) → own v ≡ true → v < n) → (v : ℕ) → (has v || own v) ≡ true → v < n
  both_low has own n h k v e = elim (or_cases (has v) (own v) e) [
    | inl new ↦ h v new
    | inr old ↦ k v old
  ]

  rel_low : (column : Bool) (x from to : ℕ) (way : Direction) (rest : Bool) → (holds (goes catalog column from to way) (slice_get y.rels x) && rest) ≡ true → x < length y.rels
  rel_low column x from to way rest h =
      let parts = and_parts (holds (goes catalog column from to way) (slice_get y.rels x)) rest h in
      let there = holds_some (goes catalog column from to way) (slice_get y.rels x) parts.0 in
      slice_get_within y.rels x there.0 there.1

  node_low : (v : ℕ) (rest : Bool) → (nat_lt v (length y.nodes) && rest) ≡ true → v < length y.nodes
  node_low v rest h = ltb-true v (length y.nodes) (and_parts (nat_lt v (length y.nodes)) rest h).0

  -- the node to which an extend leads is one of the alternative
  to_low : (column : Bool) (x from to : ℕ) (way : Direction) (k : Known)
      → (holds (goes catalog column from to way) (slice_get y.rels x) && (not (k.rels x) && (k.nodes from && (nat_lt to (length y.nodes) && not (k.nodes to))))) ≡ true
      → to < length y.nodes
  to_low column x from to way k h =
      let first = and_parts (holds (goes catalog column from to way) (slice_get y.rels x)) _ h in
      let second = and_parts (not (k.rels x)) (k.nodes from && (nat_lt to (length y.nodes) && not (k.nodes to))) first.1 in
      let third = and_parts (k.nodes from) (nat_lt to (length y.nodes) && not (k.nodes to)) second.1 in
      node_low to (not (k.nodes to)) third.1

  mutual
    unfolding after after_step fits fits_step

    pub after_low : (p : Plan) (k : Known) → fits catalog y p k ≡ true → IsLow k → IsLow (after p k)
    after_low Done k h low = low
    after_low (Then s p) k h low =
        let parts = and_parts (fits_step catalog y s k) (fits catalog y p (after_step s k)) h in
        after_low p (after_step s k) parts.1 (step_low s k parts.0 low)

    step_low : (s : Step) (k : Known) → fits_step catalog y s k ≡ true → IsLow k → IsLow (after_step s k)
    step_low (Scan v) k h low = record { nodes = more_low k.nodes (length y.nodes) v (node_low v (not (k.nodes v)) h) low.nodes; rels = low.rels }
    step_low (Extend column x from to way) k h low = record {
      nodes = more_low k.nodes (length y.nodes) to (to_low column x from to way k h) low.nodes;
      rels = more_low k.rels (length y.rels) x (rel_low column x from to way _ h) low.rels;
    }
    step_low (Close column x from to way) k h low = record { nodes = low.nodes; rels = more_low k.rels (length y.rels) x (rel_low column x from to way _ h) low.rels }
    step_low (Join side keys) k h low =
        let parts = and_parts (fits catalog y side none) (is_joined y keys (after side none) k) h in
        let own = after_low side none parts.0 none_low in
        record { nodes = both_low (after side none).nodes k.nodes (length y.nodes) own.nodes low.nodes; rels = both_low (after side none).rels k.rels (length y.rels) own.rels low.rels }
    step_low (Keep i) k h low = low
    step_low (Differ q) k h low = low
    step_low (NoLoop x) k h low = low
    step_low (Single x from to way) k h low = absurd (true≢false (sym h))
    step_low (Meet x from to way) k h low = low

  module _ (nodes_fit : length y.nodes ≤ max_variables) (rels_fit : length y.rels ≤ max_variables) where
    step_named : (s : Step) (k : Known) → fits_step catalog y s k ≡ true → IsNamed s
    unfolding fits_step IsNamed
    step_named (Scan v) k h = omega (arith, node_low v (not (k.nodes v)) h)
    step_named (Extend column x from to way) k h = (omega (arith, rel_low column x from to way _ h), omega (arith, to_low column x from to way k h))
    step_named (Close column x from to way) k h = omega (arith, rel_low column x from to way _ h)
    step_named (Join side keys) k h =
        let parts = and_parts (fits catalog y side none) (is_joined y keys (after side none) k) h in
        let own = after_low side none parts.0 none_low in
        record {
          nodes = λ v e. omega (arith, own.nodes v (binds_is v side none ∙ ap (λ b. b || false) e));
          rels = λ x e. omega (arith, own.rels x (rels_is x side none ∙ ap (λ b. b || false) e));
        }
    step_named (Keep i) k h = tt
    step_named (Differ q) k h = tt
    step_named (NoLoop x) k h = tt
    step_named (Single x from to way) k h = absurd (true≢false (sym h))
    step_named (Meet x from to way) k h = tt

    -- so of each step of a plan that fits
    pub all_named : (ss : List code.Step) (k : Known) → fits catalog y (steps (map step_of ss)) k ≡ true → AllByRecursion (λ s. IsNamed (step_of s)) ss
    unfolding fits
    all_named [] k h = tt
    all_named (s ∷ ss) k h =
        let parts = and_parts (fits_step catalog y (step_of s) k) (fits catalog y (steps (map step_of ss)) (after_step (step_of s) k)) h in
        (step_named (step_of s) k parts.0, all_named ss (after_step (step_of s) k) parts.1)

-- ---- what a side plan brings

within : (v : ℕ) (b : Bool) → (b ≡ true → v < max_variables) → (nat_lt v max_variables && b) ≡ b
within v true h = ap (λ b. b && true) (lt-ltb v max_variables (h refl))
within v false h = and_false (nat_lt v max_variables)
  where
    and_false : (b : Bool) → (b && false) ≡ false
    and_false true = refl
    and_false false = refl

brings_nodes : (side : Plan) (keys : List ℕ) → HasRoom side
    → ◌≡◌ {A = ℕ → Bool} (λ v. nat_lt v max_variables && (binds v side && not (has_number keys v))) (λ v. (after side none).nodes v && not (has_number keys v))
brings_nodes side keys room = λ i v. one v i
  where
    one : (v : ℕ) → (nat_lt v max_variables && (binds v side && not (has_number keys v))) ≡ ((after side none).nodes v && not (has_number keys v))
    one v = within v (binds v side && not (has_number keys v)) (λ e. room.nodes v (and_parts (binds v side) (not (has_number keys v)) e).0)
        ∙ ap (λ b. b && not (has_number keys v)) (sym (binds_is v side none ∙ or_false (binds v side)))

brings_rels : (side : Plan) → HasRoom side → ◌≡◌ {A = ℕ → Bool} (λ x. nat_lt x max_variables && binds_rel x side) (after side none).rels
brings_rels side room = λ i x. one x i
  where
    one : (x : ℕ) → (nat_lt x max_variables && binds_rel x side) ≡ (after side none).rels x
    one x = within x (binds_rel x side) (room.rels x) ∙ sym (rels_is x side none ∙ or_false (binds_rel x side))

-- the groups of nodes and of relationships after a join, as the program has put them
pub joined_nodes : (new old before : ℕ → ℕ) (side taken : Plan) (keys given : List ℕ) (group at : ℕ) → HasRoom side → taken ≡ side → given ≡ keys → at ≡ group → before ≡ old
    → new ≡ put_all (λ v. nat_lt v max_variables && (binds v taken && not (has_number given v))) at before
    → new ≡ put_all (λ v. (after side none).nodes v && not (has_number keys v)) group old
joined_nodes new old before side taken keys given group at room s k g o h =
    h
    ∙ ap₂ (λ (q : Plan) (ks : List ℕ). put_all (λ v. nat_lt v max_variables && (binds v q && not (has_number ks v))) at before) s k
    ∙ ap₂ (λ (n : ℕ) (f : ℕ → ℕ). put_all (λ v. nat_lt v max_variables && (binds v side && not (has_number keys v))) n f) g o
    ∙ ap (λ own. put_all own group old) (brings_nodes side keys room)

pub joined_rels : (new old before : ℕ → ℕ) (side taken : Plan) (group at : ℕ) → HasRoom side → taken ≡ side → at ≡ group → before ≡ old
    → new ≡ put_all (λ x. nat_lt x max_variables && binds_rel x taken) at before → new ≡ put_all (after side none).rels group old
joined_rels new old before side taken group at room s g o h =
    h
    ∙ ap (λ (q : Plan). put_all (λ x. nat_lt x max_variables && binds_rel x q) at before) s
    ∙ ap₂ (λ (n : ℕ) (f : ℕ → ℕ). put_all (λ x. nat_lt x max_variables && binds_rel x side) n f) g o
    ∙ ap (λ own. put_all own group old) (brings_rels side room)
