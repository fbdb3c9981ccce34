-- What a table has taken of outcomes that are pushed one after another, and what the optional clauses make of a row that is marked.
use Rattle.std.proofs.Common.{◌≡◌, ◌∙◌, ℕ, zero, suc, ◌<◌, ap, refl, sym, subst, arith, true, false, Option, Some, List, [], ◌∷◌, ◌++◌, append_assoc, append-nil, Result, Ok, Err}
use Rattle.std.specs.Prelude.{OnOk}
use Rattle.std.specs.List.{Contains}
use Rattle.gq_base.specs.Plain.{Graph}
use Rattle.gq_expr.specs.Reading as reading
use Rattle.gq_expr.specs.declared.Fault.{Fault}
use Rattle.gq_plan.specs.Assignments.{Assignment}
use Rattle.gq_plan.specs.Marked.{Marked, ending}
use Rattle.gq_plan.specs.Outcomes.{Row}
use Rattle.gq_plan.specs.declared.Bound.{Bound}
use Rattle.gq_plan.specs.declared.bound.OptionalPart.{OptionalPart}
use Rattle.gq_kept.proofs.Chunking.{moved}
use Rattle.gq_kept.proofs.Listings.{full_looked, kept_grows, looked_front, rows_append}
use Rattle.gq_kept.specs.Answers.{cut_of, kept, looked_at, rows_in}
use Rattle.gq_kept.specs.Chunks.{MeetsMany, PushesAll, Stands, TakesWhole}
use Rattle.gq_kept.specs.Tables.{IsSameQuery, Pushes, Table, is_full_table}
use Rattle.gq_kept.specs.declared.refusal.More.{More}
use Rattle.gq_kept.specs.declared.refusal.More.TheVariants as more
use Rattle.gq_kept.specs.declared.refusal.RowRefusal.{RowRefusal}
use Rattle.gq_kept.specs.declared.refusal.RowRefusal.TheVariants as row_refusal
use Rattle.gq_outer.specs.Clauses.{after_clause, after_clauses}
use Rattle.gq_outer.specs.Rows.{Wide, read}
use Rattle.gq_drain.specs.steps.Taken.{Taken}

-- ---- one outcome, and none

pub one_pushed : (o : Result Row Fault) (mid new : Table) (r : Result More RowRefusal) → OnOk r (IsSameQuery mid new) → Pushes (Some o) mid new r → PushesAll (o ∷ []) mid new r
one_pushed o mid new (Ok more.Go) same h = (λ before s. moved mid new same (before ++ o ∷ []) (h.0 before s), h.1)
one_pushed o mid new (Ok more.Enough) same h = (λ before s. moved mid new same (before ++ o ∷ []) (h.0 before s), h.1)
one_pushed o mid new (Err (row_refusal.Fault f)) same h =
    let is : o ≡ Err f = cc (h.0) in
    record { there = subst (λ p. Contains (p ∷ []) (Err f)) (sym is) (0, omega arith, refl); seen = λ before s. h.1 before s }
one_pushed o mid new (Err (row_refusal.TooManyRows l)) same h = (h.0, λ before s. h.1 before s)
one_pushed o mid new (Err (row_refusal.Memory why)) same h = tt

-- a row that is marked, told of the query that was begun with
pub marked_pushed : (g : Graph) (b : Bound) (mid new : Table) (row : Wide) (mark : Option Fault) (m : Marked) (r : Result More RowRefusal) → mid.graph ≡ g → mid.bound ≡ b → read row ≡ m.row → mark ≡ m.mark
    → OnOk r (IsSameQuery mid new) → Pushes (Some (ending mid.graph mid.bound (record { row = read row; mark = mark }))) mid new r → PushesAll (ending g b m ∷ []) mid new r
marked_pushed g b mid new row mark m r graph same row_is mark_is query pushes =
    subst (λ o. PushesAll (o ∷ []) mid new r) (λ i. ending (graph i) (same i) (record { row = row_is i; mark = mark_is i }))
    (one_pushed (ending mid.graph mid.bound (record { row = read row; mark = mark })) mid new r query pushes)

pub none_pushed : (t : Table) → is_full_table t ≡ false → PushesAll [] t t (Ok more.Go)
none_pushed t room = (λ before s. subst (λ l. Stands l t) (sym (append-nil before)) s, room)

-- ---- one after another

full_stands : (t : Table) (front rest : List (Result Row Fault)) → is_full_table t ≡ true → Stands front t → Stands (front ++ rest) t
full_stands t front rest full s = record {
  rows = s.rows;
  looked = full_looked t.bound t.most front t.held s rest full ∙ s.looked;
  few = s.few;
  holds = s.holds;
}

module _ (all : List (Result Row Fault)) (old : Table) where
  pub taken_none : Taken all all old old
  taken_none = record { taken = []; whole = refl; stands = λ before s. subst (λ l. Stands l old) (sym (append-nil before)) s }

  pub taken_all : (new : Table) (left : List (Result Row Fault)) → left ≡ [] → Taken all left old new → TakesWhole all old new
  taken_all new left none came before s =
      subst (λ l. Stands (before ++ l) new) (sym (came.whole ∙ ap (λ l. came.taken ++ l) none ∙ append-nil came.taken)) (came.stands before s)

  module _ (mid : Table) (here os left : List (Result Row Fault)) (next : here ≡ os ++ left) (came : Taken all here old mid) where
    all_is : all ≡ (came.taken ++ os) ++ left
    all_is = came.whole ∙ ap (λ l. came.taken ++ l) next ∙ sym (append_assoc came.taken os left)

    stood : (new : Table) → TakesWhole os mid new → (before : List (Result Row Fault)) → Stands before old → Stands (before ++ (came.taken ++ os)) new
    stood new takes before s = subst (λ l. Stands l new) (append_assoc before came.taken os) (takes (before ++ came.taken) (came.stands before s))

    pub taken_more : (new : Table) → TakesWhole os mid new → Taken all left old new
    taken_more new takes = record { taken = came.taken ++ os; whole = all_is; stands = stood new takes }

    -- the table is full with them
    pub taken_full : (new : Table) → TakesWhole os mid new → is_full_table new ≡ true → TakesWhole all old new
    taken_full new takes full before s =
        subst (λ l. Stands l new) (append_assoc before (came.taken ++ os) left ∙ ap (λ l. before ++ l) (sym all_is))
        (full_stands new (before ++ (came.taken ++ os)) left full (stood new takes before s))

    -- each refusal of them is one of all
    there_all : (f : Fault) → Contains os (Err f) → Contains all (Err f)
    there_all f h = subst (λ l. Contains l (Err f)) (sym all_is) (contains_front (came.taken ++ os) left f (contains_behind came.taken os f h))
      where
        contains_behind : (xs ys : List (Result Row Fault)) (f : Fault) → Contains ys (Err f) → Contains (xs ++ ys) (Err f)
        contains_behind [] ys f h = h
        contains_behind (x ∷ xs) ys f h = let (k, low, at) = contains_behind xs ys f h in (suc k, omega (arith, low), at)

        contains_front : (xs ys : List (Result Row Fault)) (f : Fault) → Contains xs (Err f) → Contains (xs ++ ys) (Err f)
        contains_front [] ys f (k, low, at) = absurd (omega (arith, low))
        contains_front (x ∷ xs) ys f (zero, low, at) = (0, omega arith, at)
        contains_front (x ∷ xs) ys f (suc k, low, at) = let (j, less, there) = contains_front xs ys f (k, omega (arith, low), at) in (suc j, omega (arith, less), there)

    together : (before : List (Result Row Fault)) → ((before ++ came.taken) ++ os) ++ left ≡ before ++ all
    together before =
        ap (λ l. l ++ left) (append_assoc before came.taken os) ∙ append_assoc before (came.taken ++ os) left ∙ ap (λ l. before ++ l) (sym all_is)

    over : IsSameQuery old mid → MeetsMany os mid → MeetsMany all old
    over same past before s =
        let front = (before ++ came.taken) ++ os in
        let less = past (before ++ came.taken) (came.stands before s) in
        let less' = subst (λ m. m < kept mid.bound (rows_in front)) same.most less in
        let less'' = subst (λ q. old.most < kept q (rows_in front)) same.bound less' in
        let grows = kept_grows old.bound (rows_in front) (rows_in left) in
        let at = ap (λ l. kept old.bound l) (sym (rows_append front left) ∙ ap rows_in (together before)) in
        omega (arith, less'', grows, at)

    pub taken_refused : IsSameQuery old mid → (new : Table) (e : RowRefusal) → PushesAll os mid new (Err e) → PushesAll all old new (Err e)
    taken_refused same new (row_refusal.Fault f) h = record {
      there = there_all f h.there;
      seen = λ before s.
          subst (λ l. Contains (looked_at old.bound l) (Err f)) (together before)
          (looked_front (cut_of old.bound) ((before ++ came.taken) ++ os) left (Err f)
          (subst (λ q. Contains (looked_at q ((before ++ came.taken) ++ os)) (Err f)) same.bound (h.seen (before ++ came.taken) (came.stands before s))));
    }
    taken_refused same new (row_refusal.TooManyRows l) h = (h.0 ∙ same.most, over same h.1)
    taken_refused same new (row_refusal.Memory why) h = tt

-- ---- a row that is marked

-- it stays as it is
pub marked_stays : (g : Graph) (known : List ℕ) (parts : List OptionalPart) (mss : List (List Assignment)) (row : reading.Assignment) (f : Fault)
    → after_clauses g known parts mss (record { row = row; mark = Some f }) ≡ record { row = row; mark = Some f } ∷ []
unfolding after_clauses after_clause
marked_stays g known [] mss row f = refl
marked_stays g known (p ∷ ps) [] row f = refl
marked_stays g known (p ∷ ps) (ms ∷ mss) row f = append-nil _ ∙ marked_stays g (known ++ p.nodes) ps mss row f
