-- An assignment of which each column and each key is sure to have a value has a row.
use Rattle.std.proofs.Common.{◌≡◌, ◌∙◌, ◌-◌, ◌≤◌, true, List, [], ◌∷◌, length, take, drop, get_or, Ok, Err, Some, refl, sym, ap, subst, arith}
use Rattle.std.specs.Prelude.{slice_get}
use Rattle.std.specs.List.{AllByRecursion}
use Rattle.std.specs.Ordering.{is_le, is_lt, ordering_then}
use Rattle.std.specs.declared.cmp.Ordering.{Ordering}
use Rattle.std.specs.declared.cmp.Ordering.TheVariants.{Equal, Greater, Less}
use Rattle.std.proofs.lemmas.List.{take_all}
use Rattle.gq_base.specs.Plain.{Graph}
use Rattle.gq_base.specs.Values.{Val}
use Rattle.gq_eval.specs.Asked.{Asked, answers}
use Rattle.gq_expr.specs.Meaning.{meaning}
use Rattle.gq_expr.specs.Operators.{Outcome}
use Rattle.gq_expr.specs.Reading as reading
use Rattle.gq_expr.specs.Safety.{IsValue}
use Rattle.gq_plan.specs.Outcomes.{key_meanings, meanings_of, outcome_by, then_with, values}
use Rattle.gq_plan.specs.declared.bound.Bound.{Bound}
use Rattle.gq_plan.specs.declared.bound.NamedExpr.{NamedExpr}
use Rattle.gq_plan.specs.declared.bound.SortExpr.{SortExpr}
use Rattle.gq_kept.specs.Answers.{by_direction, first_value, keys_order, other_values}
use Rattle.gq_values.specs.Sure.{AreSure, AreValues, HasSureColumn, HasSureKey, StartsWith}
use Rattle.gq_eval.specs.Judged.{judged_after}
use Rattle.gq_values.specs.Keeping.{ComesBehind, IsBehind, bar_of}
use Rattle.gq_values.specs.declared.held.Rows.{Rows}
use Rattle.gq_eval.specs.declared.judging.Verdict.TheVariants as verdict
use Rattle.gq_project.proofs.Looking.{met}

-- values, of which no outcome is a fault
record Sure (os : List Outcome) : Type 0 where
  all : List Val
  values_are : values os ≡ Ok all
  are : AreValues all os

sure_values : (os : List Outcome) → AllByRecursion IsValue os → Sure os
sure_values [] h = record { all = []; values_are = refl; are = refl }
sure_values (Err e ∷ os) h = absurd h.0
sure_values (Ok v ∷ os) h =
    let rest = sure_values os h.1 in
    record {
      all = v ∷ rest.all;
      values_are = ap (λ r. then_with r (λ vs. Ok (v ∷ vs))) rest.values_are;
      are = ap (λ xs. Ok v ∷ xs) rest.are;
    }

module _ (g : Graph) (here : reading.Assignment) where
  sure_columns : (es : List NamedExpr) → AllByRecursion HasSureColumn es → AllByRecursion IsValue (meanings_of g here es)
  sure_columns [] h = tt
  sure_columns (e ∷ es) h = (h.0 g here, sure_columns es h.1)

  sure_keys : (ss : List SortExpr) → AllByRecursion HasSureKey ss → AllByRecursion IsValue (key_meanings g here ss)
  sure_keys [] h = tt
  sure_keys (s ∷ ss) h = (h.0 g here, sure_keys ss h.1)

  -- where the conjuncts are met, the row that comes behind the bar is known by how the bar compares with its keys
  pub left_behind : (b : Bound) (late : List NamedExpr) (v : Rows) (bar : List Val) (order : Ordering) → AreSure b → verdict.Pass ≡ judged_after verdict.Pass (meanings_of g here late)
      → Some bar ≡ bar_of v
      → ((keys : List Val) → AreValues keys (key_meanings g here b.keys) → order ≡ keys_order b.keys bar keys)
      → is_le order ≡ true → ComesBehind b (outcome_by g b late here) v
  left_behind b late v bar order sure is_met has_bar compares le =
      let cs = sure_values (meanings_of g here b.columns) (sure_columns b.columns sure.0) in
      let ks = sure_values (key_meanings g here b.keys) (sure_keys b.keys sure.1) in
      record {
        row = record { columns = cs.all; keys = ks.all };
        is = met g b late here is_met
            ∙ ap (λ r. Some (then_with r (λ vs. then_with (values (key_meanings g here b.keys)) (λ xs. Ok (record { columns = vs; keys = xs }))))) cs.values_are
            ∙ ap (λ r. Some (then_with r (λ xs. Ok (record { columns = cs.all; keys = xs })))) ks.values_are;
        behind = subst (λ o. IsBehind b o ks.all) has_bar (ap is_le (sym (compares ks.all ks.are)) ∙ le);
      }

-- ---- the first key that differs decides

-- the first of these values, and the others
record AreKeys (v : Val) (os : List Outcome) (keys : List Val) : Type 0 where
  rest : List Val
  whole : keys ≡ v ∷ rest
  are : AreValues rest os

first_is : (v : Val) (os : List Outcome) (keys : List Val) → AreValues keys (Ok v ∷ os) → AreKeys v os keys
first_is v os [] h = cc
first_is v os (k ∷ ks) h = record { rest = ks; whole = cc; are = cc }

-- without keys all are level
pub level_without : (ss : List SortExpr) (bar keys : List Val) → length ss ≡ 0 → Equal ≡ keys_order ss bar keys
level_without [] bar keys e = refl
level_without (s ∷ ss) bar keys e = absurd (omega (arith, e))

module _ (s : SortExpr) (ss : List SortExpr) (bar keys : List Val) (v : Val) (os : List Outcome) where
  -- one that comes before or behind decides
  pub first_decides : (order : Ordering) → (order ≡ Equal → ⊥) → order ≡ by_direction s.down (first_value bar) v → AreValues keys (Ok v ∷ os) → order ≡ keys_order (s ∷ ss) bar keys
  first_decides Less differs e h = let k = first_is v os keys h in subst (λ ks. Less ≡ keys_order (s ∷ ss) bar ks) (sym k.whole) (ap (λ o. ordering_then o (keys_order ss (other_values bar) k.rest)) e)
  first_decides Equal differs e h = absurd (differs refl)
  first_decides Greater differs e h = let k = first_is v os keys h in subst (λ ks. Greater ≡ keys_order (s ∷ ss) bar ks) (sym k.whole) (ap (λ o. ordering_then o (keys_order ss (other_values bar) k.rest)) e)

  -- a level one leaves it to the others
  pub level_goes_on : (order : Ordering) → Equal ≡ by_direction s.down (first_value bar) v → AreValues keys (Ok v ∷ os)
      → ((ks : List Val) → AreValues ks os → order ≡ keys_order ss (other_values bar) ks) → order ≡ keys_order (s ∷ ss) bar keys
  level_goes_on order e h next =
      let k = first_is v os keys h in
      subst (λ ks. order ≡ keys_order (s ∷ ss) bar ks) (sym k.whole) (next k.rest k.are ∙ ap (λ o. ordering_then o (keys_order ss (other_values bar) k.rest)) e)

-- the same of keys where they lie in a list
pub level_at : (here : reading.Assignment) (sorts : List SortExpr) (asks : List Asked) (sort : SortExpr) (ask : Asked) (bar others keys : List Val) (first v : Val) (order : Ordering) → 1 ≤ length sorts → length asks ≡ length sorts
    → sort ≡ get_or sorts 0 sort → ask ≡ get_or asks 0 ask → Ok v ≡ meaning ask.graph here ask.expr → first ≡ first_value bar → others ≡ other_values bar → Equal ≡ by_direction sort.down first v
    → ((ks : List Val) → AreValues ks (answers here (take (length asks - 1) (drop 1 asks))) → order ≡ keys_order (take (length sorts - 1) (drop 1 sorts)) others ks)
    → AreValues keys (answers here asks) → order ≡ keys_order sorts bar keys
level_at here [] asks sort ask bar others keys first v order some same is at key first_of others_of level next are = absurd (omega (arith, some))
level_at here (s ∷ ss) [] sort ask bar others keys first v order some same is at key first_of others_of level next are = absurd (omega (arith, same))
level_at here (s ∷ ss) (a ∷ asks) sort ask bar others keys first v order some same is at key first_of others_of level next are =
    let whole : take (length (s ∷ ss) - 1) ss ≡ ss = take_all (length (s ∷ ss) - 1) ss (omega arith) in
    let behind : take (length (a ∷ asks) - 1) asks ≡ asks = take_all (length (a ∷ asks) - 1) asks (omega arith) in
    level_goes_on s ss bar keys v (answers here asks) order
    (level ∙ ap (λ (q : SortExpr). by_direction q.down first v) is ∙ ap (λ x. by_direction s.down x v) first_of)
    (subst (λ o. AreValues keys (o ∷ answers here asks)) (sym (key ∙ ap (λ (q : Asked). meaning q.graph here q.expr) at)) are)
    (λ ks h. next ks (subst (λ l. AreValues ks (answers here l)) (sym behind) h) ∙ ap (λ l. keys_order l others ks) whole ∙ ap (λ b. keys_order ss b ks) others_of)

-- ---- the first key alone

pub lt_is : (o : Ordering) → is_lt o ≡ true → Less ≡ o
lt_is Less e = refl
lt_is Equal e = cc
lt_is Greater e = cc

keys_from : (ss : List SortExpr) (s : SortExpr) → slice_get ss 0 ≡ Some s → (others : List SortExpr) × (ss ≡ s ∷ others)
keys_from [] s at = absurd (let x : ⊥ = cc in x)
keys_from (t ∷ ss) s at = (ss, cc)

-- a row whose first key comes behind that of the bar
pub starts_behind : (g : Graph) (here : reading.Assignment) (b : Bound) (v : Rows) (bar : List Val) (first : Val) (s : SortExpr) → AreSure b → StartsWith g here b first → slice_get b.keys 0 ≡ Some s → Some bar ≡ bar_of v
    → Less ≡ by_direction s.down (first_value bar) first → ComesBehind b (outcome_by g b [] here) v
starts_behind g here b v bar first s sure k at has_bar less =
    let others = keys_from b.keys k.sort k.first in
    let same : s ≡ k.sort = cc in
    let decides : (keys : List Val) → AreValues keys (key_meanings g here (k.sort ∷ others.0)) → Less ≡ keys_order (k.sort ∷ others.0) bar keys =
    λ keys are.
    first_decides k.sort others.0 bar keys first (key_meanings g here others.0) Less (λ e. cc)
    (less ∙ ap (λ (x : SortExpr). by_direction x.down (first_value bar) first) same)
    (subst (λ o. AreValues keys (o ∷ key_meanings g here others.0)) k.means are) in
    left_behind g here b [] v bar Less sure refl has_bar (subst (λ ks. (keys : List Val) → AreValues keys (key_meanings g here ks) → Less ≡ keys_order ks bar keys) (sym others.1) decides) refl
