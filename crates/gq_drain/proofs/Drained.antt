-- What a table has taken, and what a pipeline has spent, when the pipeline's chunks are drained into the table.
use Rattle.std.proofs.Common.{◌≡◌, ◌≢◌, ◌∙◌, ap₂, ◌+◌, ◌-◌, ◌^◌, ◌<◌, ℕ, ap, refl, sym, subst, Bool, true, false, cond, Some, List, [], ◌∷◌, ◌++◌, append_assoc, append-nil, length, map, min, Result, Err, inl, inr, arith, length-append}
use Rattle.std.specs.Prelude.{Option, IsPermutation, filter, flat_map}
use Rattle.std.proofs.lemmas.Grind.{flat_map-append}
use Rattle.std.proofs.lemmas.List.{length-map, map-append}
use Rattle.std.proofs.lemmas.List.Sorted.{All-permutation, IsPermutation-append_left, IsPermutation-append_right, IsPermutation-map, IsPermutation-refl, IsPermutation-sym, IsPermutation-trans, length_permutation}
use Rattle.gq_base.specs.Plain.{Graph}
use Rattle.gq_expr.specs.Reading as reading
use Rattle.gq_expr.specs.declared.Fault.{Fault}
use Rattle.gq_group.specs.Chunks.{IsChunkOf, assignment_at}
use Rattle.gq_group.specs.Groups.{choices}
use Rattle.gq_group.specs.declared.chunk.Chunk.{Chunk}
use Rattle.gq_law_answers.proofs.Made.{plain_late_rows}
use Rattle.gq_law_plans.specs.Safe.{IsMade}
use Rattle.gq_law_plans.proofs.Reordered.{permuted_flat_map}
use Rattle.gq_pipe.specs.Progress.{Source}
use Rattle.gq_pipe.specs.Rest.{Rest}
use Rattle.gq_pipe.specs.Spending.{up_to_most}
use Rattle.gq_plan.specs.Assignments.{Assignment, row_of}
use Rattle.gq_plan.specs.Marked.{Marked, ending, made_of, marked, marks}
use Rattle.gq_plan.specs.Meaning.{Partial, whole}
use Rattle.gq_plan.specs.Rows.{assigned}
use Rattle.gq_plan.specs.Outcomes.{Row, late_conjuncts, late_outcomes, meanings_of}
use Rattle.gq_plan.specs.declared.Bound.{Bound}
use Rattle.gq_plan.specs.declared.NamedExpr.{NamedExpr}
use Rattle.gq_plan.specs.declared.typed.Typed.{Typed}
use Rattle.std.specs.List.{AllByRecursion, Contains}
use Rattle.std.proofs.lemmas.List.Elements.{All-from_recursion, recursion_from_All}
use Rattle.gq_alternatives.proofs.Shapes.{each_left, each_right}
use Rattle.gq_kept.specs.Answers.{kept, looked_at, rows_in}
use Rattle.gq_kept.specs.Chunks as chunks
use Rattle.gq_kept.specs.Chunks.{IsChunkIn, Stands, admitted_outcomes, assignments_of}
use Rattle.gq_kept.specs.Tables.{IsSameQuery, Table, is_full_table}
use Rattle.gq_kept.specs.declared.refusal.More.{More}
use Rattle.gq_kept.specs.declared.refusal.RowRefusal.{RowRefusal}
use Rattle.gq_kept.specs.declared.refusal.RowRefusal.TheVariants as row_refusal
use Rattle.gq_drain.specs.Taking.{Cut, HasRun, IsPlain, MeetsFault, MeetsMany, Takes, TakesAll}
use Rattle.gq_drain.specs.Testing.{Admission}
use Rattle.gq_drain.specs.Becoming.{Becomes, outcomes_by, owed_by}
use Rattle.gq_drain.specs.steps.Given.{given_by, if_admitted}
use Rattle.gq_drain.specs.steps.Pushed.{Counted, Pushed}

-- what is made of the items that pass is made of each, or nothing
pub filtered : {A B : Type 0} (f : A → List B) (p : A → Bool) (xs : List A) → flat_map f (filter p xs) ≡ flat_map (λ x. cond (p x) (f x) []) xs
filtered f p [] = refl
filtered f p (x ∷ xs) = go (p x) (filtered f p xs)
  where
    go : (b : Bool) → flat_map f (filter p xs) ≡ flat_map (λ z. cond (p z) (f z) []) xs → flat_map f (cond b (x ∷ filter p xs) (filter p xs)) ≡ cond b (f x) [] ++ flat_map (λ z. cond (p z) (f z) []) xs
    go true more = ap (λ l. f x ++ l) more
    go false more = more

-- ---- rows that are admitted

module _ (g : Graph) (admitted : reading.Assignment → Bool) (later : Marked → List (Result Row Fault)) where
  abbrev only : Marked → List (Result Row Fault)
  only m = cond (admitted m.row) (later m) []

  -- a row that is left goes on where it is admitted
  admitted_marks : (row : reading.Assignment) (b : Bool) → admitted row ≡ b → (ms : List (Option Fault))
      → flat_map only (map (λ m. record { row = row; mark = m }) ms) ≡ cond b (flat_map later (map (λ m. record { row = row; mark = m }) ms)) []
  admitted_marks row true e [] = refl
  admitted_marks row false e [] = refl
  admitted_marks row true e (m ∷ ms) = ap₂ (λ b l. cond b (later (record { row = row; mark = m })) [] ++ l) e (admitted_marks row true e ms)
  admitted_marks row false e (m ∷ ms) = ap₂ (λ b l. cond b (later (record { row = row; mark = m })) [] ++ l) e (admitted_marks row false e ms)

  admitted_row : (conjuncts : List NamedExpr) (row : reading.Assignment) → flat_map only (marked g conjuncts row) ≡ cond (admitted row) (flat_map later (marked g conjuncts row)) []
  unfolding marked
  admitted_row conjuncts row = admitted_marks row (admitted row) refl (marks (meanings_of g row conjuncts))

  -- so it may be left out first
  admitted_first : (conjuncts : List NamedExpr) (xs : List Assignment) → made_of g conjuncts only xs ≡ made_of g conjuncts later (filter (λ t. admitted (row_of t)) xs)
  admitted_first conjuncts xs =
      (λ i. flat_map (λ (t : Assignment). admitted_row conjuncts (row_of t) i) xs) ∙ sym (filtered (λ t. flat_map later (marked g conjuncts (row_of t))) (λ t. admitted (row_of t)) xs)

-- the late outcomes of those of some assignments that are admitted
late_of_admitted : (admitted : Admission) (g : Graph) (b : Bound) (y : Typed) (ts : List Assignment)
    → late_outcomes g b y (filter (λ t. admitted (row_of t)) ts) ≡ outcomes_by (given_by (if_admitted admitted g)) g b y ts
late_of_admitted admitted g b y ts =
    sym (plain_late_rows g b y (filter (λ t. admitted (row_of t)) ts)) ∙ sym (admitted_first g admitted (λ m. ending g b m ∷ []) (late_conjuncts b y) ts)

-- ---- the outcomes of assignments

module _ (becomes : Becomes) (g : Graph) (b : Bound) (y : Typed) where
  -- of some and of more
  pub outcomes_append : (ts us : List Assignment) → outcomes_by becomes g b y (ts ++ us) ≡ outcomes_by becomes g b y ts ++ outcomes_by becomes g b y us
  outcomes_append ts us = flat_map-append (becomes g b y) ts us

  -- in another order
  pub outcomes_bag : (ts us : List Assignment) → IsPermutation ts us → IsPermutation (outcomes_by becomes g b y ts) (outcomes_by becomes g b y us)
  outcomes_bag ts us bag = permuted_flat_map (becomes g b y) ts us bag

-- of a chunk that is told by another bound query and a table of the same
outcomes_here : (admitted : Admission) (g : Graph) (b : Bound) (y : Typed) (b' : Bound) (o : Option Typed) (c : Chunk) → b' ≡ b → o ≡ Some y
    → admitted_outcomes admitted g b' o c ≡ outcomes_by (given_by (if_admitted admitted g)) g b y (assignments_of g y c)
outcomes_here admitted g b y b' o c same started =
    ap (λ q. admitted_outcomes admitted g q o c) same ∙ ap (λ p. admitted_outcomes admitted g b p c) started ∙ late_of_admitted admitted g b y (assignments_of g y c)

module _ (becomes : Becomes) (g : Graph) (old : Table) (begun : Rest) where
  abbrev b : Bound
  b = old.bound

  abbrev y : Typed
  y = begun.source.typed

  abbrev os : List (Result Row Fault)
  os = outcomes_by becomes g b y (owed_by y begun)

  -- nothing was taken yet
  pub pushed_none : Pushed becomes g old old begun begun
  pushed_none = record {
    taken = [];
    bag = IsPermutation-refl (owed_by y begun);
    stands = λ before h. subst (λ l. Stands l old) (sym (append-nil before)) h;
  }

  module _ (mid : Table) (now after : Rest) (came : Pushed becomes g old mid begun now) (bound : mid.bound ≡ old.bound) (most : mid.most ≡ old.most) (c : Chunk)
      (next : IsPermutation now.owed (after.chunk ++ after.owed)) (chunk_bag : IsPermutation (assignments_of g y c) (map (whole y) after.chunk)) where
    -- the outcomes of the chunk, and the assignments that were taken with it
    abbrev here : List (Result Row Fault)
    here = outcomes_by becomes g b y (assignments_of g y c)

    abbrev taken : List Assignment
    taken = came.taken ++ assignments_of g y c

    -- what is owed is the chunk and what is owed after it
    parted : IsPermutation (owed_by y now) (assignments_of g y c ++ owed_by y after)
    parted =
        IsPermutation-trans _ _ _ (IsPermutation-map (whole y) now.owed (after.chunk ++ after.owed) next)
        (subst (λ l. IsPermutation l (assignments_of g y c ++ owed_by y after)) (sym (map-append (whole y) after.chunk after.owed))
        (IsPermutation-append_left (owed_by y after) (map (whole y) after.chunk) (assignments_of g y c) (IsPermutation-sym _ _ chunk_bag)))

    bag : IsPermutation (owed_by y begun) (taken ++ owed_by y after)
    bag =
        subst (IsPermutation (owed_by y begun)) (sym (append_assoc came.taken (assignments_of g y c) (owed_by y after)))
        (IsPermutation-trans _ _ _ came.bag (IsPermutation-append_right came.taken (owed_by y now) (assignments_of g y c ++ owed_by y after) parted))

    -- the outcomes that were taken, and those of the chunk
    more_taken : (before : List (Result Row Fault)) → (before ++ outcomes_by becomes g b y came.taken) ++ here ≡ before ++ outcomes_by becomes g b y taken
    more_taken before =
        append_assoc before (outcomes_by becomes g b y came.taken) here
        ∙ ap (λ l. before ++ l) (sym (outcomes_append becomes g b y came.taken (assignments_of g y c)))

    abbrev cut_here : Cut os
    cut_here = record {
      pushed = outcomes_by becomes g b y taken;
      left = outcomes_by becomes g b y (owed_by y after);
      bag = subst (IsPermutation os) (outcomes_append becomes g b y taken (owed_by y after)) (outcomes_bag becomes g b y (owed_by y begun) (taken ++ owed_by y after) bag);
    }

    -- the chunk's outcomes went into the table
    pub pushed_more : (new : Table) → chunks.TakesWhole here mid new → Pushed becomes g old new begun after
    pushed_more new takes = record {
      taken = taken;
      bag = bag;
      stands = λ before h. subst (λ l. Stands l new) (more_taken before) (takes (before ++ outcomes_by becomes g b y came.taken) (came.stands before h));
    }

    -- one of them is a fault that is looked at
    met_fault : (f : Fault) → chunks.MeetsFault here mid f → MeetsFault os old f
    met_fault f faulty = record {
      cut = cut_here;
      seen = λ before h.
          subst (λ l. Contains (looked_at old.bound l) (Err f)) (more_taken before)
          (subst (λ q. Contains (looked_at q ((before ++ outcomes_by becomes g b y came.taken) ++ here)) (Err f)) bound (faulty.seen (before ++ outcomes_by becomes g b y came.taken) (came.stands before h)));
    }

    -- too many rows are kept with them
    met_many : chunks.MeetsMany here mid → MeetsMany os old
    met_many over = record {
      cut = cut_here;
      many = λ before h.
          subst (λ l. old.most < kept old.bound (rows_in l)) (more_taken before)
          (subst (λ q. old.most < kept q (rows_in ((before ++ outcomes_by becomes g b y came.taken) ++ here))) bound
          (subst (λ m. m < kept mid.bound (rows_in ((before ++ outcomes_by becomes g b y came.taken) ++ here))) most (over (before ++ outcomes_by becomes g b y came.taken) (came.stands before h))));
    }

    -- so each refusal of the table is one of what was owed
    pub met : (new : Table) (e : RowRefusal) → chunks.PushesAll here mid new (Err e) → TakesAll os old new (Err e)
    met new (row_refusal.Fault f) h = met_fault f h
    met new (row_refusal.TooManyRows l) h = (h.0 ∙ most, met_many h.1)
    met new (row_refusal.Memory why) h = tt

    -- the table is full with them
    pub full_here : (new : Table) → new.bound ≡ mid.bound → new.most ≡ mid.most → chunks.TakesWhole here mid new → is_full_table new ≡ true → Takes os old new
    unfolding pushed_more
    full_here new same_bound same_most takes full = record {
      cut = cut_here;
      alike = record { bound = same_bound ∙ bound; most = same_most ∙ most };
      stands = (pushed_more new takes).stands;
      done = inl full;
    }

  -- nothing is owed any more
  pub all_taken : (new : Table) (now : Rest) → Pushed becomes g old new begun now → new.bound ≡ old.bound → new.most ≡ old.most → now.owed ≡ [] → Takes os old new
  all_taken new now came bound most none =
      let all : IsPermutation (owed_by y begun) came.taken =
      subst (IsPermutation (owed_by y begun)) (ap (λ l. came.taken ++ map (whole y) l) none ∙ append-nil came.taken) came.bag in
      record {
        cut = record {
          pushed = outcomes_by becomes g b y came.taken;
          left = [];
          bag = subst (IsPermutation os) (sym (append-nil (outcomes_by becomes g b y came.taken))) (outcomes_bag becomes g b y (owed_by y begun) came.taken all);
        };
        alike = record { bound = bound; most = most };
        stands = came.stands;
        done = inr refl;
      }

-- ---- a chunk

-- lists that are the same are one bag
pub in_order : (ts us : List Assignment) → ts ≡ us → IsPermutation ts us
in_order ts us same = subst (IsPermutation ts) same (IsPermutation-refl ts)

-- it is one of the alternative that was started
pub chunk_in : (g : Graph) (s : Source) (o : Option Typed) (c : Chunk) → s.graph ≡ g → o ≡ Some s.typed → IsChunkOf s.graph s.typed c → IsChunkIn g o c
chunk_in g s o c graph started h = subst (λ p. IsChunkIn g p c) (sym started) (subst (λ k. IsChunkOf k s.typed c) graph h)

-- what it means, told of the graph and the alternative
pub bag_here : (g : Graph) (y : Typed) (s : Source) (c : Chunk) (here : List Partial) → s.graph ≡ g → s.typed ≡ y → IsPermutation (assignments_of s.graph s.typed c) (map (whole s.typed) here)
    → IsPermutation (assignments_of g y c) (map (whole y) here)
bag_here g y s c here graph typed h =
    subst (λ z. IsPermutation (assignments_of g z c) (map (whole z) here)) typed (subst (λ k. IsPermutation (assignments_of k s.typed c) (map (whole s.typed) here)) graph h)

-- what a table answers to it
pub pushes_here : (admitted : Admission) (g : Graph) (b : Bound) (y : Typed) (mid new : Table) (c : Chunk) (r : Result More RowRefusal) → mid.graph ≡ g → mid.bound ≡ b → mid.alternative ≡ Some y
    → chunks.PushesAdmitted admitted mid.graph c mid new r → chunks.PushesAll (outcomes_by (given_by (if_admitted admitted g)) g b y (assignments_of g y c)) mid new r
pushes_here admitted g b y mid new c r graph same started h =
    subst (λ os. chunks.PushesAll os mid new r) (outcomes_here admitted g b y mid.bound mid.alternative c same started)
    (subst (λ k. chunks.PushesAdmitted admitted k c mid new r) graph h)

-- what a table answers to it, told of the graph, the query and the outcomes that were begun with
pub taken_here : (f h : Becomes) (g : Graph) (b : Bound) (mid new : Table) (c : Chunk) (y : Typed) (r : Result More RowRefusal) → f ≡ h → mid.graph ≡ g → mid.bound ≡ b
    → chunks.PushesAll (outcomes_by f mid.graph mid.bound y (assignments_of mid.graph y c)) mid new r → chunks.PushesAll (outcomes_by h g b y (assignments_of g y c)) mid new r
taken_here f h g b mid new c y r becomes graph same given =
    subst (λ os. chunks.PushesAll os mid new r) (λ i. outcomes_by (becomes i) (graph i) (same i) y (assignments_of (graph i) y c)) given

-- the alternative that was started is one
pub same_alternative : (o : Option Typed) (y z : Typed) → o ≡ Some y → o ≡ Some z → y ≡ z
same_alternative o y z is other = let same : y ≡ z = cc in same

pub made_here : (g k : Graph) (y z : Typed) (o : Option Typed) (c : Chunk) → k ≡ g → o ≡ Some y → AllByRecursion (IsMade g y) (assignments_of g y c) → o ≡ Some z
    → AllByRecursion (IsMade k z) (assignments_of k z c)
made_here g k y z o c graph is made other =
    let same = same_alternative o y z is other in
    subst (λ v. AllByRecursion (IsMade k v) (assignments_of k v c)) same (subst (λ x. AllByRecursion (IsMade x y) (assignments_of x y c)) (sym graph) made)

-- what is so of the table that was begun with is so of one of the same query, and the other way round
pub ready_here : (R : Graph → Bound → Option Typed → Type 0) (old mid : Table) → IsSameQuery old mid → R old.graph old.bound old.alternative → R mid.graph mid.bound mid.alternative
ready_here R old mid s h =
    subst (λ k. R k mid.bound mid.alternative) (sym s.graph) (subst (λ b. R old.graph b mid.alternative) (sym s.bound) (subst (R old.graph old.bound) (sym s.alternative) h))

pub ready_back : (R : Graph → Bound → Option Typed → Type 0) (old mid : Table) → IsSameQuery old mid → R mid.graph mid.bound mid.alternative → R old.graph old.bound old.alternative
ready_back R old mid s h = subst (λ k. R k old.bound old.alternative) s.graph (subst (λ b. R mid.graph b old.alternative) s.bound (subst (R mid.graph mid.bound) s.alternative h))

-- a chunk of it is one of the alternative
pub chunk_of : (g k : Graph) (y : Typed) (o : Option Typed) (c : Chunk) → k ≡ g → o ≡ Some y → IsChunkIn k o c → IsChunkOf g y c
chunk_of g k y o c graph is h = subst (λ x. IsChunkOf x y c) graph (subst (λ p. IsChunkIn k p c) is h)

-- what is so of all assignments that are owed is so of those of the chunk and of those that are owed after it
pub each_parted : (P : Assignment → Type 0) (y : Typed) (now after : Rest) (here : List Assignment) → IsPermutation now.owed (after.chunk ++ after.owed)
    → IsPermutation here (map (whole y) after.chunk) → AllByRecursion P (owed_by y now) → AllByRecursion P here × AllByRecursion P (owed_by y after)
each_parted P y now after here next chunk_bag all =
    let both : AllByRecursion P (map (whole y) after.chunk ++ owed_by y after) =
    subst (AllByRecursion P) (map-append (whole y) after.chunk after.owed)
    (reordered (owed_by y now) (map (whole y) (after.chunk ++ after.owed)) (IsPermutation-map (whole y) now.owed (after.chunk ++ after.owed) next) all) in (
      reordered (map (whole y) after.chunk) here (IsPermutation-sym _ _ chunk_bag) (each_left P (map (whole y) after.chunk) (owed_by y after) both),
      each_right P (map (whole y) after.chunk) (owed_by y after) both,
    )
  where
    reordered : (ts us : List Assignment) → IsPermutation ts us → AllByRecursion P ts → AllByRecursion P us
    reordered ts us same h = recursion_from_All P us (All-permutation P ts us same (All-from_recursion P ts h))

-- less is owed after it
pub less_owed : (old chunk new : List Partial) → IsPermutation old (chunk ++ new) → chunk ≢ [] → length new < length old
less_owed old [] new bag some = absurd (some refl)
less_owed old (a ∷ rest) new bag some = omega (arith, length_permutation _ _ bag, length-append rest new)

-- ---- counts

-- one more of a count that stands still
pub one_counted : (n : ℕ) → min (up_to_most n + 1) (2 ^ 64 - 1) ≡ up_to_most (n + 1)
one_counted n = omega arith

-- a chunk whose meaning is not empty has a choice
chosen : (n : ℕ) (pss : List (List ℕ)) → (pss ≡ [] → ⊥) → chunks.counted n pss ≡ min (n + 1) (2 ^ 64 - 1)
chosen n [] some = absurd (some refl)
chosen n (ps ∷ pss) some = refl

pub counted_here : (old new : ℕ) (pss : List (List ℕ)) → new ≡ chunks.counted old pss → (pss ≡ [] → ⊥) → new ≡ min (old + 1) (2 ^ 64 - 1)
counted_here old new pss is some = is ∙ chosen old pss some

pub has_choice : (g : Graph) (y : Typed) (c : Chunk) (here : List Partial) → IsPermutation (assignments_of g y c) (map (whole y) here) → here ≢ [] → choices c.groups.now ≡ [] → ⊥
has_choice g y c [] bag some none = some refl
has_choice g y c (a ∷ rest) bag some none =
    let empty : assignments_of g y c ≡ [] = ap (λ pss. map (assigned y) (map (assignment_at g y c) pss)) none in
    absurd (omega (arith, length_permutation _ _ bag, ap length empty, length-map (a ∷ rest) (whole y)))

module _ (old : Table) (begun : Rest) where
  -- nothing was handed out yet
  pub counted_none : begun.chunks ≡ 0 → Counted old old begun begun
  counted_none fresh = record {
    count = 0;
    chunks = fresh;
    pushed = λ _ before h. h ∙ (let e : up_to_most before ≡ up_to_most (before + 0) = omega arith in e);
    keys = omega arith;
    most = omega arith;
    none = λ e. refl;
  }

  -- one more chunk
  module _ (mid new : Table) (now after : Rest) (came : Counted old mid begun now) (next : IsPermutation now.owed (after.chunk ++ after.owed)) (some : after.chunk ≢ [])
      (key : now.keys ≡ after.key ∷ after.keys) (chunk : after.chunks ≡ min (now.chunks + 1) (2 ^ 64 - 1)) (count : IsPlain old.bound → new.pushed ≡ min (mid.pushed + 1) (2 ^ 64 - 1)) where
    longer : (more : List Partial) → more ≢ [] → 0 < length more
    longer [] h = absurd (h refl)
    longer (a ∷ rest) h = omega arith

    pub counted_more : Counted old new begun after
    counted_more = record {
      count = came.count + 1;
      chunks = chunk ∙ ap (λ n. min (n + 1) (2 ^ 64 - 1)) came.chunks ∙ one_counted came.count;
      pushed = λ none before h.
          count none ∙ ap (λ n. min (n + 1) (2 ^ 64 - 1)) (came.pushed none before h) ∙ one_counted (before + came.count)
          ∙ (let e : up_to_most (before + came.count + 1) ≡ up_to_most (before + (came.count + 1)) = omega arith in e);
      keys = omega (arith, came.keys, ap length key);
      most = omega (arith, came.most, length_permutation _ _ next, length-append after.chunk after.owed, longer after.chunk some);
      none = λ e. absurd (omega (arith, e));
    }

    -- the table is full with it
    pub run_full : is_full_table new ≡ true → HasRun old new begun after
    unfolding counted_more
    run_full full = record {
      count = came.count + 1;
      chunks = counted_more.chunks;
      pushed = counted_more.pushed;
      keys = inl full;
      most = omega (arith, counted_more.most);
      none = λ e. absurd (omega (arith, e));
    }

  -- nothing is owed any more
  pub run_out : (new : Table) (now after : Rest) → Counted old new begun now → now.owed ≡ [] → now.keys ≡ [] → after.chunks ≡ now.chunks → HasRun old new begun after
  run_out new now after came none no_keys same = record {
    count = came.count;
    chunks = same ∙ came.chunks;
    pushed = came.pushed;
    keys = inr (omega (arith, came.keys, ap length no_keys));
    most = omega (arith, came.most, ap length none);
    none = λ e. sym (came.none e) ∙ none;
  }
