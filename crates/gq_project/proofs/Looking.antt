-- What the steps of a look at an assignment tell together.
use Rattle.std.proofs.Common.{◌≡◌, ℕ, true, false, List, [], ◌∷◌, ◌++◌, length, map, Ok, Err, Result, Some, None, refl, sym, ap, ◌∙◌, subst, append_assoc, append-nil, ◌<◌, suc, drop, get_or}
use Rattle.std.specs.Prelude.{slice_get}
use Rattle.std.proofs.Math.Seq.{drop-cons}
use Rattle.std.proofs.lemmas.List.{length-map}
use Rattle.gq_eval.specs.Asked.{Asked, answers}
use Rattle.gq_expr.specs.Meaning.{meaning}
use Rattle.gq_plan.specs.Meaning.{found}
use Rattle.std.specs.List.{list_any}
use Rattle.gq_base.specs.Values.{Val, null, flag, int, str, node, rel, val}
use Rattle.gq_base.specs.declared.Value.{Value}
use Rattle.gq_expr.specs.Operators.{Outcome}
use Rattle.gq_expr.specs.declared.Fault.{Fault}
use Rattle.gq_expr.specs.declared.Fault.TheVariants.{Kind}
use Rattle.gq_base.specs.Plain.{Graph}
use Rattle.gq_expr.specs.Reading as reading
use Rattle.gq_plan.specs.declared.bound.Bound.{Bound}
use Rattle.gq_plan.specs.declared.bound.NamedExpr.{NamedExpr}
use Rattle.gq_plan.specs.Outcomes.{meanings_of, key_meanings, outcome_by, Row, drops, behind_condition, behind_conditions, values, then_with, row_with}
use Rattle.gq_project.specs.Reading.{at_numbers}
use Rattle.gq_project.specs.Judged.{values_after, Kept, Judges, PushesValues}
use Rattle.gq_kept.specs.declared.refusal.RowRefusal.{RowRefusal}
use Rattle.gq_kept.specs.declared.refusal.RowRefusal.TheVariants as refusal
use Rattle.gq_eval.proofs.Verdicts.{stays_dropped}
use Rattle.gq_eval.specs.Judged.{behind, judged_after, one_more}
use Rattle.gq_eval.specs.declared.judging.Verdict.{Verdict}
use Rattle.gq_eval.specs.declared.judging.Verdict.TheVariants as verdict

-- what is said of an outcome that comes behind what was found
abbrev pub found_then : {A : Type 0} → Verdict → Result A Fault → Result A Fault
found_then verdict.Pass later = later
found_then (verdict.Fault f) later = Err f
found_then verdict.Dropped later = later

-- what a look at some conditions tells of all that comes later
abbrev pub Tells : Verdict → List Outcome → Verdict → Type 0
Tells c os verdict.Dropped = list_any drops os ≡ true
Tells c os d = (list_any drops os ≡ false) × ((later : Result Row Fault) → found_then c (behind_conditions os later) ≡ found_then d later)

abbrev IsGoing : Verdict → Type 0
IsGoing verdict.Dropped = ⊥
IsGoing c = Unit {0}

going_behind : (c : Verdict) (f : Fault) → IsGoing c → IsGoing (behind c f)
going_behind verdict.Pass f g = tt
going_behind (verdict.Fault e) f g = tt
going_behind verdict.Dropped f g = g

found_behind : {A : Type 0} (c : Verdict) (f : Fault) (later : Result A Fault) → IsGoing c → found_then c (Err f) ≡ found_then (behind c f) later
found_behind verdict.Pass f later g = refl
found_behind (verdict.Fault e) f later g = refl
found_behind verdict.Dropped f later g = absurd g

dropped : (c : Verdict) (o : Outcome) (os : List Outcome) → drops o ≡ true → Tells c (o ∷ os) (judged_after verdict.Dropped os)
dropped c o os e = subst (Tells c (o ∷ os)) (sym (stays_dropped os)) (rw e refl)

-- a condition that does not drop
pass : (c d : Verdict) (o : Outcome) (os : List Outcome) (e : Verdict) → drops o ≡ false
    → ((later : Result Row Fault) → found_then c (behind_condition o later) ≡ found_then d later) → Tells d os e → Tells c (o ∷ os) e
pass c d o os verdict.Dropped e same t = rw e t
pass c d o os verdict.Pass e same t = (rw e t.0, λ later. same (behind_conditions os later) ∙ t.1 later)
pass c d o os (verdict.Fault f) e same t = (rw e t.0, λ later. same (behind_conditions os later) ∙ t.1 later)

pub checks : (c : Verdict) (os : List Outcome) → IsGoing c → Tells c os (judged_after c os)
checks verdict.Pass [] g = (refl, λ later. refl)
checks (verdict.Fault f) [] g = (refl, λ later. refl)
checks verdict.Dropped [] g = absurd g
checks c (Ok null ∷ os) g = dropped c (Ok null) os refl
checks c (Ok (flag false) ∷ os) g = dropped c (Ok (flag false)) os refl
checks c (Ok (flag true) ∷ os) g = pass c c (Ok (flag true)) os (judged_after c os) refl (λ later. refl) (checks c os g)
checks c (Ok (int z) ∷ os) g = pass c (behind c Kind) (Ok (int z)) os (judged_after (behind c Kind) os) refl (λ later. found_behind c Kind later g) (checks (behind c Kind) os (going_behind c Kind g))
checks c (Ok (str z) ∷ os) g = pass c (behind c Kind) (Ok (str z)) os (judged_after (behind c Kind) os) refl (λ later. found_behind c Kind later g) (checks (behind c Kind) os (going_behind c Kind g))
checks c (Ok (node z) ∷ os) g = pass c (behind c Kind) (Ok (node z)) os (judged_after (behind c Kind) os) refl (λ later. found_behind c Kind later g) (checks (behind c Kind) os (going_behind c Kind g))
checks c (Ok (rel z) ∷ os) g = pass c (behind c Kind) (Ok (rel z)) os (judged_after (behind c Kind) os) refl (λ later. found_behind c Kind later g) (checks (behind c Kind) os (going_behind c Kind g))
checks c (Err f ∷ os) g = pass c (behind c f) (Err f) os (judged_after (behind c f) os) refl (λ later. found_behind c f later g) (checks (behind c f) os (going_behind c f g))

-- values behind others
abbrev front : List Val → Result (List Val) Fault → Result (List Val) Fault
front acc r = then_with r (λ vs. Ok (acc ++ vs))

front_one : (acc : List Val) (v : Val) (r : Result (List Val) Fault) → front (acc ++ v ∷ []) r ≡ front acc (then_with r (λ vs. Ok (v ∷ vs)))
front_one acc v (Ok vs) = ap Ok (append_assoc acc (v ∷ []) vs)
front_one acc v (Err f) = refl

pub after : (acc : List Val) (os : List Outcome) → values_after acc os ≡ front acc (values os)
after acc [] = ap Ok (sym (append-nil acc))
after acc (Ok v ∷ os) = after (acc ++ v ∷ []) os ∙ front_one acc v (values os)
after acc (Err f ∷ os) = refl

-- the values that were appended
pub record Appended (os : List Outcome) (old new : List Val) : Type 0 where
  pub more : List Val
  pub is : values os ≡ Ok more
  pub whole : new ≡ old ++ more
  pub size : length more ≡ length os

abbrev ok_or : {A E : Type 0} → A → Result A E → A
ok_or d (Ok a) = a
ok_or d (Err e) = d

ok_is : {A E : Type 0} (a b : A) → (let r : Result A E = Ok a in r) ≡ Ok b → a ≡ b
ok_is a b h = ap (ok_or a) h

values_length_by : (v : Val) (os : List Outcome) (vs : List Val) (r : Result (List Val) Fault) → values os ≡ r → ((ws : List Val) → values os ≡ Ok ws → length ws ≡ length os)
    → then_with r (λ ws. Ok (v ∷ ws)) ≡ Ok vs → length vs ≡ suc (length os)
values_length_by v os vs (Ok ws) e more h = ap length (sym (ok_is (v ∷ ws) vs h)) ∙ ap suc (more ws e)
values_length_by v os vs (Err f) e more h = cc

values_length : (os : List Outcome) (vs : List Val) → values os ≡ Ok vs → length vs ≡ length os
values_length [] vs h = ap length (sym (ok_is [] vs h))
values_length (Ok v ∷ os) vs h = values_length_by v os vs (values os) refl (λ ws e. values_length os ws e) h
values_length (Err f ∷ os) vs h = cc

appended_by : (os : List Outcome) (old new : List Val) (r : Result (List Val) Fault) → values os ≡ r → front old r ≡ Ok new → Appended os old new
appended_by os old new (Ok vs) e h = record { more = vs; is = e; whole = sym (ok_is (old ++ vs) new h); size = values_length os vs e }
appended_by os old new (Err f) e h = cc

pub appended : (os : List Outcome) (old new : List Val) → values_after old os ≡ Ok new → Appended os old new
appended os old new h = appended_by os old new (values os) refl (sym (after old os) ∙ h)

failed_by : (os : List Outcome) (old : List Val) (f : Fault) (r : Result (List Val) Fault) → values os ≡ r → front old r ≡ Err f → values os ≡ Err f
failed_by os old f (Ok vs) e h = cc
failed_by os old f (Err e') e h = e ∙ h

pub failed : (os : List Outcome) (old : List Val) (f : Fault) → values_after old os ≡ Err f → values os ≡ Err f
failed os old f h = failed_by os old f (values os) refl (sym (after old os) ∙ h)

told : (os : List Outcome) (d : Verdict) → d ≡ judged_after verdict.Pass os → Tells verdict.Pass os d
told os d e = subst (Tells verdict.Pass os) (sym e) (checks verdict.Pass os tt)

module _ (g : Graph) (bound : Bound) (late : List NamedExpr) (row : reading.Assignment) where
  abbrev conditions : List Outcome
  conditions = meanings_of g row late

  pub when_dropped : verdict.Dropped ≡ judged_after verdict.Pass conditions → outcome_by g bound late row ≡ None
  unfolding outcome_by
  when_dropped e = rw (told conditions verdict.Dropped e) refl

  pub when_faulty : (f : Fault) → verdict.Fault f ≡ judged_after verdict.Pass conditions → outcome_by g bound late row ≡ Some (Err f)
  unfolding outcome_by
  when_faulty f e = let t = told conditions (verdict.Fault f) e in rw t.0 (ap Some (t.1 (row_with (meanings_of g row bound.columns) (key_meanings g row bound.keys))))

  pub met : verdict.Pass ≡ judged_after verdict.Pass conditions → outcome_by g bound late row ≡ Some (row_with (meanings_of g row bound.columns) (key_meanings g row bound.keys))
  unfolding outcome_by
  met e = let t = told conditions verdict.Pass e in rw t.0 (ap Some (t.1 (row_with (meanings_of g row bound.columns) (key_meanings g row bound.keys))))

  pub when_column : (f : Fault) (old : List Val) → verdict.Pass ≡ judged_after verdict.Pass conditions → values_after old (meanings_of g row bound.columns) ≡ Err f
      → outcome_by g bound late row ≡ Some (Err f)
  when_column f old e h = met e ∙ ap (λ v. Some (then_with v (λ vs. then_with (values (key_meanings g row bound.keys)) (λ ks. Ok (record { columns = vs; keys = ks }))))) (failed (meanings_of g row bound.columns) old f h)

  pub when_key : (f : Fault) (old new more : List Val) → verdict.Pass ≡ judged_after verdict.Pass conditions → values_after old (meanings_of g row bound.columns) ≡ Ok new
      → values_after more (key_meanings g row bound.keys) ≡ Err f → outcome_by g bound late row ≡ Some (Err f)
  when_key f old new more e h k =
      let a = appended (meanings_of g row bound.columns) old new h in
      met e ∙ ap (λ v. Some (then_with v (λ vs. then_with (values (key_meanings g row bound.keys)) (λ ks. Ok (record { columns = vs; keys = ks }))))) a.is
      ∙ ap (λ v. Some (then_with v (λ ks. Ok (record { columns = a.more; keys = ks })))) (failed (key_meanings g row bound.keys) more f k)

  pub when_kept : (old new old_keys new_keys : List Value) → verdict.Pass ≡ judged_after verdict.Pass conditions → values_after (map val old) (meanings_of g row bound.columns) ≡ Ok (map val new)
      → values_after (map val old_keys) (key_meanings g row bound.keys) ≡ Ok (map val new_keys) → Kept (length bound.columns) (length bound.keys) (outcome_by g bound late row) old new old_keys new_keys
  when_kept old new old_keys new_keys e h k =
      let a = appended (meanings_of g row bound.columns) (map val old) (map val new) h in
      let b = appended (key_meanings g row bound.keys) (map val old_keys) (map val new_keys) k in
      record {
        row = record { columns = a.more; keys = b.more };
        is = met e ∙ ap (λ v. Some (then_with v (λ vs. then_with (values (key_meanings g row bound.keys)) (λ ks. Ok (record { columns = vs; keys = ks }))))) a.is
            ∙ ap (λ v. Some (then_with v (λ ks. Ok (record { columns = a.more; keys = ks })))) b.is;
        columns = a.whole;
        keys = b.whole;
        column_count = a.size ∙ length-map bound.columns _;
        key_count = b.size ∙ length-map bound.keys _;
      }

  pub column_failed : (r : RowRefusal) (old new keys : List Value) → verdict.Pass ≡ judged_after verdict.Pass conditions → PushesValues (meanings_of g row bound.columns) old new (Err r)
      → Judges (length bound.columns) (length bound.keys) (outcome_by g bound late row) old new keys keys (Err r)
  column_failed (refusal.Fault f) old new keys e h = when_column f (map val old) e h
  column_failed (refusal.TooManyRows limit) old new keys e h = absurd h
  column_failed (refusal.Memory why) old new keys e h = tt

  pub key_failed : (r : RowRefusal) (old new old_keys new_keys : List Value) → verdict.Pass ≡ judged_after verdict.Pass conditions → values_after (map val old) (meanings_of g row bound.columns) ≡ Ok (map val new)
      → PushesValues (key_meanings g row bound.keys) old_keys new_keys (Err r) → Judges (length bound.columns) (length bound.keys) (outcome_by g bound late row) old new old_keys new_keys (Err r)
  key_failed (refusal.Fault f) old new old_keys new_keys e h k = when_key f (map val old) (map val new) (map val old_keys) e h k
  key_failed (refusal.TooManyRows limit) old new old_keys new_keys e h k = absurd k
  key_failed (refusal.Memory why) old new old_keys new_keys e h k = tt

-- a condition that drops ends the look
pub stops : (row : reading.Assignment) (conjuncts : List Asked) (a : Asked) (c : Verdict) (i : ℕ) (late : List ℕ) (o : Outcome) → i < length late
    → Some a ≡ slice_get conjuncts (get_or late i 0) → verdict.Dropped ≡ one_more c o → o ≡ meaning a.graph row a.expr
    → judged_after c (answers row (at_numbers conjuncts (drop i late))) ≡ verdict.Dropped
stops row conjuncts a c i late o lt at drops is =
    ap (λ l. judged_after c (answers row (at_numbers conjuncts l))) (drop-cons late i 0 lt)
    ∙ ap (λ x. judged_after c (answers row (found x ++ at_numbers conjuncts (drop (suc i) late)))) (sym at)
    ∙ ap (λ d. judged_after d (answers row (at_numbers conjuncts (drop (suc i) late)))) (ap (one_more c) (sym is) ∙ sym drops)
    ∙ stays_dropped (answers row (at_numbers conjuncts (drop (suc i) late)))
