-- What a table has taken of a chunk.
use Rattle.std.proofs.Common.{◌≡◌, ◌∙◌, ℕ, suc, ◌+◌, ◌-◌, ◌^◌, min, ◌<◌, ap, refl, sym, subst, arith, Bool, true, false, cond, Option, Some, None, List, [], ◌∷◌, ◌++◌, map, append_assoc, append-nil, Result, Ok, Err}
use Rattle.std.specs.Prelude.{filter}
use Rattle.std.specs.List.{Contains}
use Rattle.std.proofs.lemmas.Grind.{flat_map-append}
use Rattle.std.proofs.lemmas.List.{map-append}
use Rattle.std.proofs.lemmas.List.Elements.{filter-append}
use Rattle.gq_base.specs.Plain.{Graph}
use Rattle.gq_expr.specs.Reading as reading
use Rattle.gq_expr.specs.declared.Fault.{Fault}
use Rattle.gq_group.specs.Choices.{Chosen, IsChoice, Begins, Moves}
use Rattle.gq_group.specs.Chunks.{assignment_at}
use Rattle.gq_group.specs.Groups.{choices, later_choices}
use Rattle.gq_group.specs.declared.chunk.Chunk.{Chunk}
use Rattle.gq_plan.specs.Assignments as plain
use Rattle.gq_plan.specs.Assignments.{row_of}
use Rattle.gq_plan.specs.Meaning.{found}
use Rattle.gq_plan.specs.Outcomes.{Row, late_conjuncts, late_outcomes, outcome_by}
use Rattle.gq_plan.specs.Rows.{assigned}
use Rattle.gq_plan.specs.declared.bound.Bound.{Bound}
use Rattle.gq_plan.specs.declared.typed.Typed.{Typed}
use Rattle.gq_kept.specs.Answers.{cut_of, kept, looked_at, rows_in}
use Rattle.gq_kept.specs.Chunks.{MeetsMany, PushesAll, Stands, TakesWhole, admitted_outcomes, assignments_of, chunk_outcomes, counted}
use Rattle.gq_kept.specs.Tables.{IsFaulty, IsOver, IsSameQuery, Pushes, StandsFor, StandsForSome, Table, Takes, is_full_table, outcome_admitted, outcome_read}
use Rattle.gq_kept.specs.declared.refusal.More.{More}
use Rattle.gq_kept.specs.declared.refusal.More.TheVariants as more
use Rattle.gq_kept.specs.declared.refusal.RowRefusal.{RowRefusal}
use Rattle.gq_kept.specs.declared.refusal.RowRefusal.TheVariants as refusal
use Rattle.gq_kept.specs.steps.Choosing.{Came, choices_left, outcomes_of}
use Rattle.gq_kept.proofs.Listings.{full_looked, kept_grows, looked_front, rows_append}

-- ---- tables

-- what a table stands for, told of another table of the same query
pub moved : (old new : Table) → IsSameQuery old new → (l : List (Result Row Fault)) → StandsFor old.bound old.most l new.held → Stands l new
moved old new same l h = subst (λ m. StandsFor new.bound m l new.held) (sym same.most) (subst (λ q. StandsFor q old.most l new.held) (sym same.bound) h)

-- a full table stands also for what comes behind
full_stands : (t : Table) (front rest : List (Result Row Fault)) → is_full_table t ≡ true → Stands front t → Stands (front ++ rest) t
full_stands t front rest full s = record {
  rows = s.rows;
  looked = full_looked t.bound t.most front t.held s rest full ∙ s.looked;
  few = s.few;
  holds = s.holds;
}

pub same_again : (a b c : Table) → IsSameQuery a b → IsSameQuery b c → IsSameQuery a c
same_again a b c ab bc = record { bound = bc.bound ∙ ab.bound; most = bc.most ∙ ab.most; alternative = bc.alternative ∙ ab.alternative; graph = bc.graph ∙ ab.graph }

pub same_table : (t : Table) → IsSameQuery t t
same_table t = record { bound = refl; most = refl; alternative = refl; graph = refl }

module _ (admitted : reading.Assignment → Bool) (g : Graph) (y : Typed) (c : Chunk) (old : Table) where
  abbrev outs : List (List ℕ) → List (Result Row Fault)
  outs pss = outcomes_of admitted g old.bound y c pss

  -- the outcome of one choice
  abbrev pub one : List ℕ → Option (Result Row Fault)
  one ps = outcome_admitted admitted g old.bound y (row_of (assigned y (assignment_at g y c ps)))

  -- the outcome that is told of another table of the same query
  pub here_is : (b : Bound) (row : plain.Assignment) (ps ps' : List ℕ) → b ≡ old.bound → row ≡ assigned y (assignment_at g y c ps') → ps' ≡ ps → outcome_admitted admitted g b y (row_of row) ≡ one ps
  here_is b row ps ps' same is at =
      ap (λ q. outcome_admitted admitted g q y (row_of row)) same ∙ ap (λ r. outcome_admitted admitted g old.bound y (row_of r)) is ∙ ap one at

  outs_append : (xs ys : List (List ℕ)) → outs (xs ++ ys) ≡ outs xs ++ outs ys
  outs_append xs ys =
      let here : plain.Assignment → Bool = λ t. admitted (row_of t) in
      let rows : List (List ℕ) → List plain.Assignment = λ pss. map (assigned y) (map (assignment_at g y c) pss) in
      ap (λ l. late_outcomes g old.bound y (filter here (map (assigned y) l))) (map-append (assignment_at g y c) xs ys)
      ∙ ap (λ l. late_outcomes g old.bound y (filter here l)) (map-append (assigned y) (map (assignment_at g y c) xs) (map (assignment_at g y c) ys))
      ∙ ap (late_outcomes g old.bound y) (filter-append here (rows xs) (rows ys))
      ∙ flat_map-append (λ t. found (outcome_by g old.bound (late_conjuncts old.bound y) (row_of t))) (filter here (rows xs)) (filter here (rows ys))

  outs_one : (ps : List ℕ) → outs (ps ∷ []) ≡ found (one ps)
  outs_one ps = go (admitted (row_of t))
    where
      t : plain.Assignment
      t = assigned y (assignment_at g y c ps)

      go : (b : Bool) → late_outcomes g old.bound y (cond b (t ∷ []) []) ≡ found (cond b (outcome_read g old.bound y (row_of t)) None)
      go true = append-nil (found (outcome_read g old.bound y (row_of t)))
      go false = refl

  -- the first choice, and how it goes on
  first_left : (told : Bool) (choice : Chosen) → Begins c.groups.now told choice → choices c.groups.now ≡ choices_left c.groups.now told choice
  first_left true choice h = h.all
  first_left false choice h = h

  first_chosen : (told : Bool) (choice : Chosen) → Begins c.groups.now told choice → told ≡ true → IsChoice c.groups.now choice
  first_chosen true choice h e = h.stands
  first_chosen false choice h e = absurd (let no' : false ≡ true = e in cc)

  next_left : (told : Bool) (a b : Chosen) → Moves c.groups.now a told b → later_choices c.groups.now a.positions ≡ choices_left c.groups.now told b
  next_left true a b h = h.next
  next_left false a b h = h

  next_chosen : (told : Bool) (a b : Chosen) → Moves c.groups.now a told b → told ≡ true → IsChoice c.groups.now b
  next_chosen true a b h e = h.stands
  next_chosen false a b h e = absurd (let no' : false ≡ true = e in cc)

  pub came_first : (told : Bool) (choice : Chosen) → Begins c.groups.now told choice → Came admitted g y c old old told choice
  came_first told choice h = record {
    taken = [];
    whole = first_left told choice h;
    chosen = first_chosen told choice h;
    stands = λ before s. subst (λ l. Stands l old) (sym (append-nil before)) s;
  }

  module _ (mid : Table) (choice : Chosen) (came : Came admitted g y c old mid true choice) (same : IsSameQuery old mid) (o : Option (Result Row Fault)) (is : o ≡ one choice.positions) where
    abbrev taken : List (List ℕ)
    taken = came.taken ++ choice.positions ∷ []

    abbrev rest : List (List ℕ)
    rest = later_choices c.groups.now choice.positions

    whole : choices c.groups.now ≡ taken ++ rest
    whole = came.whole ∙ sym (append_assoc came.taken (choice.positions ∷ []) rest)

    all_outs : outs (choices c.groups.now) ≡ outs taken ++ outs rest
    all_outs = ap outs whole ∙ outs_append taken rest

    -- the outcomes that were taken, and that of the choice
    more_taken : (before : List (Result Row Fault)) → (before ++ outs came.taken) ++ found o ≡ before ++ outs taken
    more_taken before =
        append_assoc before (outs came.taken) (found o)
        ∙ ap (λ l. before ++ l) (ap (λ l. outs came.taken ++ l) (ap found is ∙ sym (outs_one choice.positions)) ∙ sym (outs_append came.taken (choice.positions ∷ [])))

    all_taken : (before : List (Result Row Fault)) → ((before ++ outs came.taken) ++ found o) ++ outs rest ≡ before ++ outs (choices c.groups.now)
    all_taken before = ap (λ l. l ++ outs rest) (more_taken before) ∙ append_assoc before (outs taken) (outs rest) ∙ ap (λ l. before ++ l) (sym all_outs)

    -- the outcome went into the table
    stood : (new : Table) → IsSameQuery mid new → Takes o mid new → (before : List (Result Row Fault)) → Stands before old → Stands ((before ++ outs came.taken) ++ found o) new
    stood new also takes before s = moved mid new also ((before ++ outs came.taken) ++ found o) (takes (before ++ outs came.taken) (came.stands before s))

    pub came_next : (new : Table) → IsSameQuery mid new → Takes o mid new → (told : Bool) (after : Chosen) → Moves c.groups.now choice told after → Came admitted g y c old new told after
    came_next new also takes told after moves = record {
      taken = taken;
      whole = whole ∙ ap (λ l. taken ++ l) (next_left told choice after moves);
      chosen = next_chosen told choice after moves;
      stands = λ before s. subst (λ l. Stands l new) (more_taken before) (stood new also takes before s);
    }

    pub came_some : (new : Table) → IsSameQuery mid new → Takes o mid new → StandsForSome mid → StandsForSome new
    came_some new also takes some = (some.0 ++ found o, moved mid new also (some.0 ++ found o) (takes some.0 some.1))

    pub came_full : (new : Table) → IsSameQuery mid new → Takes o mid new → is_full_table new ≡ true → TakesWhole (outs (choices c.groups.now)) old new
    came_full new also takes full before s =
        subst (λ l. Stands l new) (all_taken before)
        (full_stands new ((before ++ outs came.taken) ++ found o) (outs rest) full (stood new also takes before s))

    -- each refusal of the table is one of the chunk
    seen_fault : (f : Fault) → IsFaulty o mid f → (before : List (Result Row Fault)) → Stands before old → Contains (looked_at old.bound (before ++ outs (choices c.groups.now))) (Err f)
    seen_fault f faulty before s =
        subst (λ l. Contains (looked_at old.bound l) (Err f)) (all_taken before)
        (looked_front (cut_of old.bound) ((before ++ outs came.taken) ++ found o) (outs rest) (Err f)
        (subst (λ q. Contains (looked_at q ((before ++ outs came.taken) ++ found o)) (Err f)) same.bound (faulty (before ++ outs came.taken) (came.stands before s))))

    there_fault : (f : Fault) → o ≡ Some (Err f) → Contains (outs (choices c.groups.now)) (Err f)
    there_fault f e =
        let mine : outs (choices c.groups.now) ≡ outs came.taken ++ (Err f ∷ outs rest) =
        all_outs ∙ ap (λ l. l ++ outs rest) (outs_append came.taken (choice.positions ∷ []) ∙ ap (λ l. outs came.taken ++ l) (outs_one choice.positions ∙ ap found (sym is ∙ e)))
        ∙ append_assoc (outs came.taken) (Err f ∷ []) (outs rest) in
        subst (λ l. Contains l (Err f)) (sym mine) (behind (outs came.taken) (outs rest) f)
      where
        behind : (xs ys : List (Result Row Fault)) (f : Fault) → Contains (xs ++ (Err f ∷ ys)) (Err f)
        behind [] ys f = (0, omega arith, refl)
        behind (x ∷ xs) ys f = let (k, low, at) = behind xs ys f in (suc k, omega (arith, low), at)

    over : IsOver o mid → MeetsMany (outs (choices c.groups.now)) old
    over past before s =
        let front = (before ++ outs came.taken) ++ found o in
        let less = past (before ++ outs came.taken) (came.stands before s) in
        let less' = subst (λ m. m < kept mid.bound (rows_in front)) same.most less in
        let less'' = subst (λ q. old.most < kept q (rows_in front)) same.bound less' in
        let grows = kept_grows old.bound (rows_in front) (rows_in (outs rest)) in
        let at = ap (λ l. kept old.bound l) (sym (rows_append front (outs rest)) ∙ ap rows_in (all_taken before)) in
        omega (arith, less'', grows, at)

    pub refused : (new : Table) (e : RowRefusal) → Pushes o mid new (Err e) → PushesAll (outs (choices c.groups.now)) old new (Err e)
    refused new (refusal.Fault f) h = record { there = there_fault f h.0; seen = seen_fault f h.1 }
    refused new (refusal.TooManyRows l) h = (h.0 ∙ same.most, over h.1)
    refused new (refusal.Memory why) h = tt

  pub came_all : (new : Table) (choice : Chosen) → Came admitted g y c old new false choice → TakesWhole (outs (choices c.groups.now)) old new
  came_all new choice came before s = subst (λ pss. Stands (before ++ outs pss) new) (sym (came.whole ∙ append-nil came.taken)) (came.stands before s)

-- a table counts a chunk, and takes what it took
pub counts : (os : List (Result Row Fault)) (old new : Table) (n : ℕ) (answer : Result More RowRefusal) → PushesAll os old new answer → PushesAll os old (record new { pushed = n }) answer
counts os old new n (Ok more.Go) h = h
counts os old new n (Ok more.Enough) h = h
counts os old new n (Err (refusal.Fault f)) h = h
counts os old new n (Err (refusal.TooManyRows l)) h = h
counts os old new n (Err (refusal.Memory why)) h = tt

-- nothing is taken of a chunk without a choice
pub takes_none : (admitted : reading.Assignment → Bool) (g : Graph) (y : Typed) (c : Chunk) (old : Table) → choices c.groups.now ≡ [] → TakesWhole (outcomes_of admitted g old.bound y c (choices c.groups.now)) old old
takes_none admitted g y c old none before s =
    subst (λ pss. Stands (before ++ outcomes_of admitted g old.bound y c pss) old) (sym none) (subst (λ l. Stands l old) (sym (append-nil before)) s)

-- how many chunks are counted
pub counted_none : (n : ℕ) (pss : List (List ℕ)) → pss ≡ [] → n ≡ counted n pss
counted_none n pss e = ap (counted n) (sym e)

pub counted_some : (n : ℕ) (pss : List (List ℕ)) (ps : List ℕ) (rest : List (List ℕ)) → pss ≡ ps ∷ rest → min (n + 1) (2 ^ 64 - 1) ≡ counted n pss
counted_some n pss ps rest e = ap (counted n) (sym e)

-- an assignment that is not admitted leaves a table as it is
pub takes_nothing : (t : Table) → Takes None t t
takes_nothing t outcomes s = subst (λ l. StandsFor t.bound t.most l t.held) (sym (append-nil outcomes)) s

-- where all are admitted, none is left out
pub filter_all : {X : Type 0} (xs : List X) → filter (λ _. true) xs ≡ xs
filter_all [] = refl
filter_all (x ∷ xs) = ap (λ l. x ∷ l) (filter_all xs)

pub all_admitted : (g : Graph) (b : Bound) (o : Option Typed) (c : Chunk) → admitted_outcomes (λ _. true) g b o c ≡ chunk_outcomes g b o c
all_admitted g b None c = refl
all_admitted g b (Some y) c = ap (late_outcomes g b y) (filter_all (assignments_of g y c))
