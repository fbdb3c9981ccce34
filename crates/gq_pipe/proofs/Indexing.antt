-- Indexes of groups, one after another, and what they say of the places of a group where the first groups stand.
use Rattle.std.proofs.Common.{◌≡◌, ℕ, zero, suc, ◌+◌, ◌-◌, ◌*◌, ◌^◌, ◌<◌, ◌≤◌, Bool, true, false, ◌&&◌, nat_lt, List, [], ◌∷◌, ◌++◌, Option, Some, length, slice_get, sym, ap, ◌∙◌, subst, arith, inl, inr, ◌⊎◌}
use Rattle.std.specs.Coded.{Coded-set, coded_bool}
use Rattle.std.specs.Prelude.{min, slice_index_or}
use Rattle.std.proofs.Math.Logic.{∥∥₁_elim, ∥∥₁_map}
use Rattle.std.proofs.lemmas.Bool.{cases_lt, le-ltb, lt-ltb, ltb-true}
use Rattle.std.proofs.lemmas.List.{get_or_default}
use Rattle.gq_bits.specs.Places.{is_marked}
use Rattle.gq_bits.specs.declared.TheConstants.{VECTOR}
use Rattle.gq_join.specs.Kept.{place_of}
use Rattle.gq_plan.specs.declared.assignment.Assignment.{Assignment}
use Rattle.gq_chains.specs.Among.{IsAmong}
use Rattle.gq_steps.specs.Groups.{group_at, no_group}
use Rattle.gq_steps.specs.Keeps.{makes_one}
use Rattle.gq_steps.specs.Levels.{Run, before, built_at, step_at}
use Rattle.gq_steps.specs.Matches.{AreMatches}
use Rattle.gq_steps.specs.Tries.{tries}
use Rattle.gq_steps.specs.declared.group_steps.GroupSteps.{GroupSteps}
use Rattle.gq_steps.specs.steps.Lists.{Stands, layout_in}
use Rattle.gq_steps.proofs.Here.{at, group_held, group_range, group_size, keeps_made}
use Rattle.gq_search.specs.Marked.{kept_in}
use Rattle.gq_search.specs.Running.{IsBlank}
use Rattle.gq_pipe.specs.declared.valued.ValueIndex.{ValueIndex}
use Rattle.gq_pipe.specs.steps.Valued.{AreIndexed, AreOpened, IsFoundIn, IsIndexed, IsNotBefore, IsOpened, IsUsable, IsValueJoin, numbers_in}
use Rattle.gq_index.specs.Numbered.{HasRows}
use Rattle.gq_pipe.proofs.ByValue.{below, many, none_found, others, rising}

-- ---- one group after another

pub none_indexed : (c : Run) (ss : List GroupSteps) → AreIndexed c ss []
none_indexed c ss depth t e = absurd (cc e)

pub one_more : {X : Type 0} (P : ℕ → X → Type 0) (xs : List (Option X)) (next : Option X) → ((k : ℕ) (u : X) → slice_get xs k ≡ Some (Some u) → P k u) → ((u : X) → next ≡ Some u → P (length xs) u)
    → (d : ℕ) (t : X) → slice_get (xs ++ next ∷ []) d ≡ Some (Some t) → P d t
one_more P [] next all last zero t e = (let same : next ≡ Some t = cc e in last t same)
one_more P [] next all last (suc d) t e = absurd (cc e)
one_more P (x ∷ xs) next all last zero t e = all 0 t e
one_more P (x ∷ xs) next all last (suc d) t e = one_more (λ k u. P (suc k) u) xs next (λ k u h. all (suc k) u h) (λ u h. last u h) d t e

pub one_indexed : (c : Run) (ss : List GroupSteps) (ts : List (Option ValueIndex)) (next : Option ValueIndex) → AreIndexed c ss ts → ((t : ValueIndex) → next ≡ Some t → IsIndexed c (group_at ss (length ts)) t) → AreIndexed c ss (ts ++ next ∷ [])
one_indexed c ss ts next are is = one_more (λ k t. IsIndexed c (group_at ss k) t) ts next are is

pub indexed_of : (c : Run) (ss gs : List GroupSteps) (ts : List (Option ValueIndex)) → gs ≡ ss → AreIndexed c gs ts → ∥ AreIndexed c ss ts ∥₁
indexed_of c ss gs ts is are = ∣ subst (λ g. AreIndexed c g ts) is are ∣₁

-- ---- indexes that were opened

opened_one : (c : Run) (x : GroupSteps) (t u : ValueIndex) → IsIndexed c x t → (u ≡ t) ⊎ IsOpened t u → IsIndexed c x u
opened_one c x t u is (inl same) = subst (IsIndexed c x) (sym same) is
opened_one c x t u is (inr o) = record {
  join = subst (IsValueJoin c x u.build.now u.own u.asked) (sym o.texts) (subst (λ a. IsValueJoin c x u.build.now u.own a t.texts) (sym o.asked)
      (subst (λ w. IsValueJoin c x u.build.now w t.asked t.texts) (sym o.own) (subst (λ b. IsValueJoin c x b t.own t.asked t.texts) (sym o.build) is.join)));
  places = λ on. subst (λ b. HasRows (numbers_in b u.own) u.places) (sym o.build) (subst (λ w. HasRows (numbers_in t.build.now w) u.places) (sym o.own) (elim (o.places on) [
    | inl old ↦ subst (HasRows (numbers_in t.build.now t.own)) (sym old.1) (is.places old.0)
    | inr new ↦ new
  ]));
}

pub still_indexed : (c : Run) (ss : List GroupSteps) (olds news : List (Option ValueIndex)) → AreOpened olds news → ∥ AreIndexed c ss olds ∥₁ → ∥ AreIndexed c ss news ∥₁
still_indexed c ss olds news opened indexed = ∥∥₁_map indexed (λ are depth u there.
    let one = opened depth u there in
    opened_one c (group_at ss depth) one.0 u (are depth one.0 one.1) one.2)

-- what an index asks before its rows are filled in, as a truth value
abbrev usable : ValueIndex → Bool
usable t = nat_lt (place_of t.build.now.nodes t.own.node) (length t.build.now.nodes)

is_usable : (c : Run) (x : GroupSteps) (t : ValueIndex) → IsIndexed c x t → usable t ≡ true
is_usable c x t is = lt-ltb (place_of t.build.now.nodes t.own.node) (length t.build.now.nodes) is.join.asks.kept

usable_of : (t : ValueIndex) → usable t ≡ true → IsUsable t
usable_of t is = record { kept = ltb-true (place_of t.build.now.nodes t.own.node) (length t.build.now.nodes) is }

pub usable_at : (c : Run) (ss : List GroupSteps) (ts : List (Option ValueIndex)) (depth : ℕ) (t : ValueIndex) → slice_get ts depth ≡ Some (Some t) → ∥ AreIndexed c ss ts ∥₁ → IsUsable t
usable_at c ss ts depth t there indexed = usable_of t (∥∥₁_elim indexed (Coded-set coded_bool _ _) (λ are. is_usable c (group_at ss depth) t (are depth t there)))

-- ---- a group where the first ones stand

module _ (c : Run) (ss : List GroupSteps) (row : Assignment) (ts : List (Option ValueIndex)) (indexed : ∥ AreIndexed c ss ts ∥₁) (depth : ℕ) (inside : depth < length ss) (x : GroupSteps) (found : x ≡ slice_index_or ss depth x)
    (pre : List ℕ) (long : length pre ≡ depth) (st : Stands c ss row pre) (t : ValueIndex) (there : slice_get ts depth ≡ Some (Some t)) (on : t.stands ≡ true)
    (rows : List ℕ) (matched : AreMatches c x.first row rows) where
  group_is : group_at ss depth ≡ x
  group_is = get_or_default ss depth no_group x inside ∙ sym found

  -- it has this index
  own : AreIndexed c ss ts → IsIndexed c x t
  own are = subst (λ s. IsIndexed c s t) group_is (are depth t there)

  abbrev places : ℕ
  places = length (tries c.graph c.typed (built_at c x.first) (step_at c x.first) (before c row x.first))

  -- the marks of a piece
  module _ (piece first count : ℕ) (from : first ≡ VECTOR * piece) (much : count ≡ min (places - VECTOR * piece) VECTOR) (few : first + count < 2 ^ 32) (marks : List Bool) (f : IsFoundIn t rows piece row marks) where
    low_at : (k : ℕ) → is_marked marks k ≡ true → nat_lt k count ≡ true
    low_at k marked = ∥∥₁_elim indexed (Coded-set coded_bool _ _) (λ are.
        lt-ltb k count (below c st.runs x (group_range c ss row depth inside x found pre long st) t (own are) on row (group_held c ss row depth inside x found pre long st) rows matched piece first count from much few marks f k marked))

    pub found_among : IsAmong c x first count row marks
    found_among = record {
      len = f.by.whole;
      below = λ k on. ltb-true k count (low_at k on);
      others = λ k low off. ∥∥₁_elim indexed (Coded-set coded_bool _ _) (λ are.
          others c st.runs x (group_range c ss row depth inside x found pre long st) t (own are) on row (group_held c ss row depth inside x found pre long st) rows matched piece first count from much few marks f k low off);
    }

  -- the pieces that are passed over
  module _ (piece next : ℕ) (few : (layout_in c ss).size pre < 2 ^ 32) (n : IsNotBefore t rows piece row next) where
    low : length pre < length ss
    low = omega (arith, long, inside)

    here_is : (at c ss row pre st low).s ≡ x
    here_is = sym (at c ss row pre st low).is ∙ ap (group_at ss) long ∙ group_is

    keeps_none : AreIndexed c ss ts → (j : ℕ) → VECTOR * piece ≤ j → j < VECTOR * next → j < (layout_in c ss).size pre → (layout_in c ss).keeps pre j ≡ false
    keeps_none are j above below_it within =
        let size = group_size c ss row depth inside x found pre long st in
        sym (keeps_made c ss row pre st low j within) ∙ ap (λ (s : GroupSteps). makes_one c s j row) here_is
        ∙ none_found c st.runs x (group_range c ss row depth inside x found pre long st) t (own are) on row (group_held c ss row depth inside x found pre long st) rows matched n.value n.asked j (omega (arith, within, size)) (omega (arith, within, few))
        (n.by.blank (numbers_in t.build.now t.own) j ((own are).places on)
        (rising c st.runs x (group_range c ss row depth inside x found pre long st) t (own are) on row (group_held c ss row depth inside x found pre long st) rows matched) above below_it
        (let much = many c st.runs x (group_range c ss row depth inside x found pre long st) t (own are) on row (group_held c ss row depth inside x found pre long st) rows matched in omega (arith, within, size, much)))

    pub passed_blank : IsBlank (layout_in c ss) pre piece next
    passed_blank j above below_it = go (cases_lt j ((layout_in c ss).size pre))
      where
        go : (j < (layout_in c ss).size pre) ⊎ ((layout_in c ss).size pre ≤ j) → kept_in (layout_in c ss) pre j ≡ false
        go (inl within) = ap (λ b. b && (layout_in c ss).keeps pre j) (lt-ltb j ((layout_in c ss).size pre) within) ∙ ∥∥₁_elim indexed (Coded-set coded_bool _ _) (λ are. keeps_none are j above below_it within)
        go (inr past) = ap (λ b. b && (layout_in c ss).keeps pre j) (le-ltb j ((layout_in c ss).size pre) past)
