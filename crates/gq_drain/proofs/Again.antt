-- With DISTINCT outcomes are taken where some were taken that stand for them; so those of all ways to walk trails are where those of
-- fewer rows were.
use Rattle.std.proofs.Common.{◌≡◌, ◌⊎◌, inl, inr, Bool, true, false, not, ◌||◌, cond, None, List, [], ◌∷◌, ◌++◌, map, flat_map, Result, Ok, Err, refl, sym, ap, ◌∙◌, subst, true≢false, append_assoc, append-nil}
use Rattle.std.specs.Prelude.{All, IsPermutation}
use Rattle.std.specs.List.{AllByRecursion, Contains}
use Rattle.std.proofs.lemmas.List.Elements.{Contains-append_right}
use Rattle.std.proofs.lemmas.List.Sorted.{Contains-permutation, IsPermutation-append_left, IsPermutation-trans}
use Rattle.gq_base.specs.Lists.{is_empty}
use Rattle.gq_base.specs.Plain.{Graph}
use Rattle.gq_expr.specs.Reading as reading
use Rattle.gq_expr.specs.declared.Fault.{Fault}
use Rattle.gq_kept.specs.Answers.{most_listed}
use Rattle.gq_kept.specs.Chunks.{Stands}
use Rattle.gq_kept.specs.Tables.{Table, is_full, is_full_table}
use Rattle.gq_law_ends.proofs.Reaching.{stands_each}
use Rattle.gq_law_ends.proofs.StandFor.{each_there, stands_flat_map}
use Rattle.gq_law_ends.specs.Reaching.{rows_in}
use Rattle.gq_law_ends.specs.StandFor.{StandFor}
use Rattle.gq_law_rows.proofs.Again.{stands_again}
use Rattle.gq_law_trails.specs.Trails.{Trailing}
use Rattle.gq_pipe.specs.Rest.{Rest}
use Rattle.gq_plan.specs.Assignments.{Assignment}
use Rattle.gq_plan.specs.Meaning.{Partial, row}
use Rattle.gq_plan.specs.Outcomes.{Row}
use Rattle.gq_plan.specs.declared.Bound.{Bound}
use Rattle.gq_plan.specs.declared.Typed.{Typed}
use Rattle.gq_trails.proofs.Continuing.{rows_are, rows_stand}
use Rattle.gq_trails.specs.Continued.{rows_continued}
use Rattle.gq_trails.specs.Trekking.{HasLength, continuations}
use Rattle.gq_drain.specs.Becoming.{Later, given_on, outcomes_by, outcomes_on, owed_outcomes, wide_of}
use Rattle.gq_drain.specs.Taking.{Cut, Takes, TakesAll}
use Rattle.gq_drain.specs.steps.Continuing.{continued_on}
use Rattle.gq_kept.specs.declared.refusal.RowRefusal.{RowRefusal}
use Rattle.gq_kept.specs.declared.refusal.RowRefusal.TheVariants as refusal

-- ---- outcomes that stand for others

module _ (ps os : List (Result Row Fault)) (old new : Table) (distinct : old.bound.distinct ≡ true) (s : StandFor ps os) where
  parted : (cut : Cut ps) → IsPermutation os (cut.pushed ++ (cut.left ++ s.rest))
  parted cut =
      subst (IsPermutation os) (append_assoc cut.pushed cut.left s.rest)
      (IsPermutation-trans os (ps ++ s.rest) ((cut.pushed ++ cut.left) ++ s.rest) s.bag (IsPermutation-append_left s.rest ps (cut.pushed ++ cut.left) cut.bag))

  abbrev front : Cut ps → Cut os
  front cut = record { pushed = cut.pushed; left = cut.left ++ s.rest; bag = parted cut }

  -- all is looked at, so that the table is never full
  never_full : new.bound ≡ old.bound → is_full_table new ≡ true → ⊥
  never_full same full =
      true≢false
      (sym full ∙ ap (λ (b : Bound). is_full (cond (b.distinct || not (is_empty b.keys)) None (most_listed b)) new.held) same
      ∙ ap (λ d. is_full (cond (d || not (is_empty old.bound.keys)) None (most_listed old.bound)) new.held) distinct)

  -- all were pushed that stand for others: these are taken again
  taken_again : (t : Takes ps old new) → t.cut.left ≡ [] → Takes os old new
  taken_again t none =
      let pushed = t.cut.pushed in
      let all : IsPermutation ps pushed = subst (IsPermutation ps) (ap (λ l. pushed ++ l) none ∙ append-nil pushed) t.cut.bag in
      let again : (before : List (Result Row Fault)) → AllByRecursion (Contains (before ++ pushed)) s.rest =
      (λ before. each_there (Contains (before ++ pushed)) s.rest (λ o h. Contains-append_right before pushed o (Contains-permutation ps pushed o all (s.among o h)))) in
      record {
        cut = record {
          pushed = pushed ++ s.rest;
          left = [];
          bag = subst (IsPermutation os) (ap (λ l. pushed ++ (l ++ s.rest)) none ∙ sym (append-nil (pushed ++ s.rest))) (parted t.cut);
        };
        alike = t.alike;
        stands = λ before h.
            subst (λ l. Stands l new) (append_assoc before pushed s.rest)
            (stands_again new.bound new.most (before ++ pushed) s.rest new.held (ap (λ (b : Bound). b.distinct) t.alike.bound ∙ distinct) (again before) (t.stands before h));
        done = inr refl;
      }

  taken_as : Takes ps old new → Takes os old new
  taken_as t = go t.done
    where
      go : (is_full_table new ≡ true) ⊎ (t.cut.left ≡ []) → Takes os old new
      go (inl full) = absurd (never_full t.alike.bound full)
      go (inr none) = taken_again t none

  all_as : (r : Result (Unit {0}) RowRefusal) → TakesAll ps old new r → TakesAll os old new r
  all_as (Ok u) h = taken_as h
  all_as (Err (refusal.Fault f)) h = record { cut = front h.cut; seen = h.seen }
  all_as (Err (refusal.TooManyRows most)) h = (h.0, record { cut = front h.1.cut; many = h.1.many })
  all_as (Err (refusal.Memory why)) h = tt

-- ---- the outcomes of rows by which trails continue assignments

over_map : {X Y Z : Type 0} (f : Y → List Z) (h : X → Y) (xs : List X) → flat_map f (map h xs) ≡ flat_map (λ x. f (h x)) xs
over_map f h [] = refl
over_map f h (x ∷ xs) = ap (λ l. f (h x) ++ l) (over_map f h xs)

module _ (g : Graph) (later : Later) (b : Bound) (y : Typed) where
  abbrev out : reading.Assignment → List (Result Row Fault)
  out = outcomes_on later g b y

  abbrev ways : Assignment → List Trailing
  ways t = continuations g b.trails y.rels (wide_of t)

  abbrev rows : Bool → Assignment → List Partial
  rows once t = rows_continued once g b.trails y.rels (wide_of t)

  -- those of all ways
  ways_are : (t : Assignment) → flat_map (λ a. out (row a)) (rows_in (ways t)) ≡ given_on later g b y t
  ways_are t = over_map (λ a. out (row a)) (λ (m : Trailing). m.row) (ways t) ∙ sym (over_map out (λ (m : Trailing). row m.row) (ways t))

  one_stands : All HasLength b.trails → (t : Assignment) → StandFor (continued_on later g b y t) (given_on later g b y t)
  one_stands has t =
      subst (StandFor (continued_on later g b y t)) (ways_are t)
      (subst (λ l. StandFor l (flat_map (λ a. out (row a)) (rows_in (ways t)))) (sym (over_map out row (rows b.distinct t)))
      (stands_flat_map (λ a. out (row a)) (rows b.distinct t) (rows_in (ways t)) (rows_stand b.distinct g b.trails y.rels (wide_of t) has)))

  all_stand : All HasLength b.trails → (ts : List Assignment) → StandFor (outcomes_by (continued_on later) g b y ts) (outcomes_by (given_on later) g b y ts)
  all_stand has ts = stands_each (continued_on later g b y) (given_on later g b y) (one_stands has) ts

  -- where rows may count more than once, they are those of all ways
  one_is : false ≡ b.distinct → (t : Assignment) → continued_on later g b y t ≡ given_on later g b y t
  one_is off t =
      over_map out row (rows b.distinct t)
      ∙ ap (λ d. flat_map (λ a. out (row a)) (rows d t)) (sym off)
      ∙ ap (flat_map (λ a. out (row a))) (rows_are g b.trails y.rels (wide_of t)) ∙ ways_are t

  all_are : false ≡ b.distinct → (ts : List Assignment) → outcomes_by (continued_on later) g b y ts ≡ outcomes_by (given_on later) g b y ts
  all_are off ts = λ i. flat_map (λ t. one_is off t i) ts

-- what was taken of the rows is what is taken of all ways
pub as_given : (g : Graph) (later : Later) (old new : Table) (begun : Rest) (r : Result (Unit {0}) RowRefusal) → All HasLength old.bound.trails
    → TakesAll (owed_outcomes (continued_on later) g old begun) old new r → TakesAll (owed_outcomes (given_on later) g old begun) old new r
as_given g later old new begun r has h = go old.bound.distinct refl
  where
    go : (d : Bool) → d ≡ old.bound.distinct → TakesAll (owed_outcomes (given_on later) g old begun) old new r
    go false off = subst (λ os. TakesAll os old new r) (all_are g later old.bound begun.source.typed off _) h
    go true on = all_as _ _ old new (sym on) (all_stand g later old.bound begun.source.typed has _) r h
