-- Rows whose first key tells that they come behind the bar.
use Rattle.std.proofs.Common.{◌≡◌, ◌<◌, ◌^◌, ℕ, List, [], ◌∷◌, ◌++◌, map, append_assoc, append-nil, length-append, Bool, true, false, cond, Some, None, Option, Ok, refl, sym, subst, ◌∙◌, ap, length, suc, arith}
use Rattle.std.proofs.lemmas.Bool.{false≢true}
use Rattle.std.specs.Prelude.{IfSome, Result, filter, slice_get}
use Rattle.std.specs.List.{AllByRecursion}
use Rattle.std.proofs.lemmas.Grind.{flat_map-append}
use Rattle.std.proofs.lemmas.List.{map-append}
use Rattle.std.proofs.lemmas.List.Elements.{filter-append}
use Rattle.std.specs.declared.cmp.Ordering.TheVariants.{Less}
use Rattle.gq_base.specs.Plain.{Graph}
use Rattle.gq_base.specs.Values.{Val, val}
use Rattle.gq_base.specs.declared.Value.{Value}
use Rattle.gq_cells.specs.Behind.{IsBehindBar}
use Rattle.gq_cells.specs.declared.source.Source.{Source}
use Rattle.gq_eval.specs.Asked.{asked}
use Rattle.gq_expr.specs.Meaning.{meaning}
use Rattle.gq_expr.specs.Reading as reading
use Rattle.gq_expr.specs.declared.Fault.{Fault}
use Rattle.gq_group.specs.Choices.{Chosen, IsChoice, IsUnmarked, Moves}
use Rattle.gq_group.specs.Chunks.{assignment_at}
use Rattle.gq_group.specs.Groups.{AreSelected, later_choices}
use Rattle.gq_group.specs.declared.chunk.Chunk.{Chunk}
use Rattle.gq_group.specs.declared.group.Group.{Group}
use Rattle.gq_kept.proofs.Chunking.{came_next, one, takes_nothing}
use Rattle.gq_kept.specs.Answers.{by_direction}
use Rattle.gq_kept.specs.Chunks.{Stands}
use Rattle.gq_kept.specs.Forms.{HasForm}
use Rattle.gq_kept.specs.Tables.{Held, Pushes, StandsForSome, Table, Takes, is_full_table, outcome_numbered, outcome_read}
use Rattle.gq_kept.specs.declared.form.Form.TheVariants as form
use Rattle.gq_kept.specs.declared.refusal.More.TheVariants as more
use Rattle.gq_kept.specs.steps.Choosing.{Came, choices_left, outcomes_of}
use Rattle.gq_listed.specs.Finding.{IsFinder}
use Rattle.gq_listed.specs.Keys.{FindsSome}
use Rattle.gq_listed.specs.Leads.{IsLed}
use Rattle.gq_listed.specs.Windows.{IsIn}
use Rattle.gq_listed.specs.declared.finder.Finder.{Finder}
use Rattle.gq_plan.specs.Assignments as plain
use Rattle.gq_plan.specs.Assignments.{row_of}
use Rattle.gq_plan.specs.Meaning.{found}
use Rattle.gq_plan.specs.Outcomes.{Row, late_conjuncts, late_outcomes, outcome_by}
use Rattle.gq_plan.specs.Rows.{assigned}
use Rattle.gq_plan.specs.declared.bound.Bound.{Bound}
use Rattle.gq_plan.specs.declared.bound.SortExpr.{SortExpr}
use Rattle.gq_plan.specs.declared.typed.Typed.{Typed}
use Rattle.gq_project.specs.declared.judging.Question.{Question}
use Rattle.gq_values.specs.Bars.{IsFirstBar}
use Rattle.gq_values.specs.Keeping.{PushesBy, held_of}
use Rattle.gq_values.specs.Sure.{AreSure, StartsWith}
use Rattle.gq_values.specs.declared.bar.FirstBar.{FirstBar}
use Rattle.gq_values.specs.declared.held.Rows.{Rows}
use Rattle.gq_rows.specs.steps.Sinks.{table_by}
use Rattle.gq_rows.specs.declared.behind.Past.{Past}
use Rattle.gq_rows.specs.steps.Keyed.{IsLeading, IsLedValue, IsPastBar, PassesOver}
use Rattle.gq_rows.specs.steps.Past.{GoesOn, IsPast, IsTold}
use Rattle.gq_rows.proofs.Insides.{pushed_by, same_by}

-- a row that is passed over is a row that was pushed
pub passed : (q : Question) (n : ℕ) (y : Typed) (here : reading.Assignment) (v : Value) (rows : Rows) → q.limit < 2 ^ 32 → HasForm q.bound.now (form.Top n) → StandsForSome (table_by q (held_of rows)) → is_full_table (table_by q (held_of rows)) ≡ false
    → (AreSure q.bound.now → StartsWith q.graph.now here q.bound.now (val v) → PushesBy (form.Top n) q.bound.now q.limit (outcome_by q.graph.now q.bound.now [] here) rows rows (Ok more.Go))
    → IsLedValue q.graph.now q.bound.now y here v → Pushes (outcome_numbered q.graph.now q.bound.now y.late here) (table_by q (held_of rows)) (table_by q (held_of rows)) (Ok more.Go)
passed q n y here v rows small form_is some room pushes led =
    subst (λ l. Pushes (outcome_numbered q.graph.now q.bound.now l here) (table_by q (held_of rows)) (table_by q (held_of rows)) (Ok more.Go)) (sym led.late)
    (pushed_by q (form.Top n) (held_of rows) small form_is some room (outcome_numbered q.graph.now q.bound.now [] here) (held_of rows) (Ok more.Go) (pushes led.sure led.starts))

module _ (g : Graph) (b : Bound) (y : Typed) (c : Chunk) (ss : List Source) where
  -- what finds the first key, if anything does
  pub leads : (sort : SortExpr) (lead : Option Finder) → AreSure b → y.late ≡ [] → slice_get b.keys 0 ≡ Some sort → IfSome lead (IsFinder ss (asked sort.expr g)) → IfSome lead (IsLed g y c) → IfSome lead (IsLeading g b y c ss)
  leads sort None sure late first finder led = tt
  leads sort (Some f) sure late first finder led = record { sure = sure; late = late; sort = sort; first = first; finder = finder; led = led }

  pub finds_some : (f : Finder) → IsLeading g b y c ss f → FindsSome g ss f
  finds_some f l = (l.sort.expr, l.finder)

  -- the value that it finds
  pub led_value : (here : reading.Assignment) (f : Finder) (value : Option Value) (l : IsLeading g b y c ss f) → IfSome value (λ v. meaning g here l.sort.expr ≡ Ok (val v)) → IfSome value (IsLedValue g b y here)
  led_value here f None l means = tt
  led_value here f (Some v) l means = record { sure = l.sure; late = l.late; starts = record { sort = l.sort; first = l.first; means = means } }

-- ---- the first key of the bar

-- a row whose first key comes behind it is a row that was pushed
pub past_bar : (q : Question) (n : ℕ) (y : Typed) (here : reading.Assignment) (rows : Rows) → q.limit < 2 ^ 32 → HasForm q.bound.now (form.Top n) → StandsForSome (table_by q (held_of rows)) → is_full_table (table_by q (held_of rows)) ≡ false
    → (found : Option FirstBar) → IfSome found (IsFirstBar q.bound.now rows)
    → IfSome found (λ bar. IsPastBar q.graph.now q.bound.now y here bar → Pushes (outcome_numbered q.graph.now q.bound.now y.late here) (table_by q (held_of rows)) (table_by q (held_of rows)) (Ok more.Go))
past_bar q n y here rows small form_is some room None is = tt
past_bar q n y here rows small form_is some room (Some bar) is = λ past.
    subst (λ l. Pushes (outcome_numbered q.graph.now q.bound.now l here) (table_by q (held_of rows)) (table_by q (held_of rows)) (Ok more.Go)) (sym past.late)
    (pushed_by q (form.Top n) (held_of rows) small form_is some room (outcome_numbered q.graph.now q.bound.now [] here) (held_of rows) (Ok more.Go)
    (is q.graph.now here n q.limit past.first past.sure past.starts past.behind))

pub by_bar : (down : Bool) (bar v : Val) → IsBehindBar down bar v → by_direction down bar v ≡ Less
by_bar true bar v h = h
by_bar false bar v h = h

of_bar : (down : Bool) (bar v : Val) → by_direction down bar v ≡ Less → IsBehindBar down bar v
of_bar true bar v h = h
of_bar false bar v h = h

-- ---- choices that are gone past

any_admitted : (b : Bool) (o : Option (Result Row Fault)) (t : Table) → Pushes o t t (Ok more.Go) → Takes (cond b o None) t t
any_admitted true o t h = h.0
any_admitted false o t h = takes_nothing t

pub passed_next : (admitted : reading.Assignment → Bool) (q : Question) (y : Typed) (c : Chunk) (held now : Held) (choice : Chosen)
    → Came admitted q.graph.now y c (table_by q held) (table_by q now) true choice
    → PassesOver q.graph.now q.bound.now y c (table_by q now) choice.positions
    → (told : Bool) (after : Chosen) → Moves c.groups.now choice told after
    → Came admitted q.graph.now y c (table_by q held) (table_by q now) told after
passed_next admitted q y c held now choice came passes told after moves =
    let g = q.graph.now in
    let here = row_of (assigned y (assignment_at g y c choice.positions)) in
    came_next admitted g y c (table_by q held) (table_by q now) choice came (same_by q held now) (one admitted g y c (table_by q held) choice.positions) refl
    (table_by q now) (same_by q now now) (any_admitted (admitted here) (outcome_read g q.bound.now y here) (table_by q now) passes) told after moves

-- where a choice goes on, one stands
pub moved : (gs : List Group) (told : Bool) (a b : Chosen) → Moves gs a told b → told ≡ true → IsChoice gs b
moved gs true a b h e = h.stands
moved gs false a b h e = absurd (false≢true e)

-- and one choice fewer is left
pub left_less : (gs : List Group) (told : Bool) (a b : Chosen) → Moves gs a told b → suc (length (choices_left gs told b)) ≡ length (choices_left gs true a)
left_less gs true a b h = ap (λ l. suc (length l)) (sym h.next)
left_less gs false a b h = ap (λ l. suc (length l)) (sym h)

-- ---- choices that are gone past together

module _ (admitted : reading.Assignment → Bool) (g : Graph) (y : Typed) (c : Chunk) (old : Table) where
  abbrev outs : List (List ℕ) → List (Result Row Fault)
  outs pss = outcomes_of admitted g old.bound y c pss

  abbrev of_one : List ℕ → Option (Result Row Fault)
  of_one ps = one admitted g y c old ps

  outs_append : (xs ys : List (List ℕ)) → outs (xs ++ ys) ≡ outs xs ++ outs ys
  outs_append xs ys =
      let here : plain.Assignment → Bool = λ t. admitted (row_of t) in
      let rows : List (List ℕ) → List plain.Assignment = λ pss. map (assigned y) (map (assignment_at g y c) pss) in
      ap (λ l. late_outcomes g old.bound y (filter here (map (assigned y) l))) (map-append (assignment_at g y c) xs ys)
      ∙ ap (λ l. late_outcomes g old.bound y (filter here l)) (map-append (assigned y) (map (assignment_at g y c) xs) (map (assignment_at g y c) ys))
      ∙ ap (late_outcomes g old.bound y) (filter-append here (rows xs) (rows ys))
      ∙ flat_map-append (λ t. found (outcome_by g old.bound (late_conjuncts old.bound y) (row_of t))) (filter here (rows xs)) (filter here (rows ys))

  outs_one : (ps : List ℕ) → outs (ps ∷ []) ≡ found (of_one ps)
  outs_one ps = go (admitted (row_of t))
    where
      t : plain.Assignment
      t = assigned y (assignment_at g y c ps)

      go : (b : Bool) → late_outcomes g old.bound y (cond b (t ∷ []) []) ≡ found (cond b (outcome_read g old.bound y (row_of t)) None)
      go true = append-nil (found (outcome_read g old.bound y (row_of t)))
      go false = refl

  -- a table that takes each stands for all
  stands_over : (t : Table) (pss : List (List ℕ)) → AllByRecursion (λ ps. Takes (of_one ps) t t) pss → (before : List (Result Row Fault)) → Stands before t → Stands (before ++ outs pss) t
  stands_over t [] each before s = subst (λ l. Stands l t) (sym (append-nil before)) s
  stands_over t (ps ∷ pss) each before s =
      subst (λ l. Stands l t)
      (append_assoc before (found (of_one ps)) (outs pss) ∙ ap (λ l. before ++ l) (ap (λ l. l ++ outs pss) (sym (outs_one ps)) ∙ sym (outs_append (ps ∷ []) pss)))
      (stands_over t pss each.1 (before ++ found (of_one ps)) (each.0 before s))

  came_past : (mid : Table) (choice : Chosen) → Came admitted g y c old mid true choice → (pss : List (List ℕ)) (after : Chosen)
      → later_choices c.groups.now choice.positions ≡ pss ++ (after.positions ∷ later_choices c.groups.now after.positions) → IsChoice c.groups.now after
      → AllByRecursion (λ ps. Takes (of_one ps) mid mid) (choice.positions ∷ pss) → Came admitted g y c old mid true after
  came_past mid choice came pss after next stands each = record {
    taken = came.taken ++ (choice.positions ∷ pss);
    whole = came.whole ∙ ap (λ l. came.taken ++ (choice.positions ∷ l)) next ∙ sym (append_assoc came.taken (choice.positions ∷ pss) (after.positions ∷ later_choices c.groups.now after.positions));
    chosen = λ e. stands;
    stands = λ before s.
        subst (λ l. Stands l mid)
        (append_assoc before (outs came.taken) (outs (choice.positions ∷ pss)) ∙ ap (λ l. before ++ l) (sym (outs_append came.taken (choice.positions ∷ pss))))
        (stands_over mid (choice.positions ∷ pss) each (before ++ outs came.taken) (came.stands before s));
  }

-- at a position that is not left
pub told_passes : (g : Graph) (b : Bound) (y : Typed) (c : Chunk) (t : Table) (p : Past) → IsPast g b y c t p → (ps : List ℕ) → AreSelected c.groups.now ps → IsIn p.window ps → PassesOver g b y c t ps
told_passes g b y c t p past ps selected out =
    let told = past.told in
    let h = told.behind ps selected out in
    past.bar y (row_of (assigned y (assignment_at g y c ps)))
    (record { sure = told.sure; late = told.late; first = h.value; starts = record { sort = told.sort; first = told.first; means = h.means }; behind = by_bar p.bar.down (val p.bar.value) h.value h.behind })

-- a table takes what is admitted of a choice
abbrev TakesHere : (reading.Assignment → Bool) → Question → Typed → Chunk → Held → Held → List ℕ → Type 0
TakesHere admitted q y c held now ps = Takes (one admitted q.graph.now y c (table_by q held) ps) (table_by q now) (table_by q now)

pub passed_on : (admitted : reading.Assignment → Bool) (q : Question) (y : Typed) (c : Chunk) (held now : Held) (choice : Chosen)
    → Came admitted q.graph.now y c (table_by q held) (table_by q now) true choice
    → PassesOver q.graph.now q.bound.now y c (table_by q now) choice.positions
    → (past : Option Past) → IfSome past (IsPast q.graph.now q.bound.now y c (table_by q now))
    → (told : Bool) (after : Chosen) → GoesOn c.groups.now past choice told after
    → Came admitted q.graph.now y c (table_by q held) (table_by q now) told after
passed_on admitted q y c held now choice came passes None is told after goes = passed_next admitted q y c held now choice came passes told after goes
passed_on admitted q y c held now choice came passes (Some p) is false after goes = passed_next admitted q y c held now choice came passes false after goes
passed_on admitted q y c held now choice came passes (Some p) is true after goes =
    came_past admitted q.graph.now y c (table_by q held) (table_by q now) choice came goes.passed after goes.next goes.stands (takes choice.positions passes, each goes.passed goes.unmarked)
  where
    takes : (ps : List ℕ) → PassesOver q.graph.now q.bound.now y c (table_by q now) ps → TakesHere admitted q y c held now ps
    takes ps h =
        let here = row_of (assigned y (assignment_at q.graph.now y c ps)) in
        any_admitted (admitted here) (outcome_read q.graph.now q.bound.now y here) (table_by q now) h

    each : (pss : List (List ℕ)) → AllByRecursion (IsUnmarked c.groups.now p.window.group p.window.left) pss → AllByRecursion (TakesHere admitted q y c held now) pss
    each [] h = tt
    each (ps ∷ pss) h = (takes ps (told_passes q.graph.now q.bound.now y c (table_by q now) p is ps h.0.0 h.0.1), each pss h.1)

pub moved_on : (gs : List Group) (past : Option Past) (told : Bool) (a b : Chosen) → GoesOn gs past a told b → told ≡ true → IsChoice gs b
moved_on gs None told a b h e = moved gs told a b h e
moved_on gs (Some p) true a b h e = h.stands
moved_on gs (Some p) false a b h e = absurd (false≢true e)

pub left_past : (gs : List Group) (past : Option Past) (told : Bool) (a b : Chosen) → GoesOn gs past a told b → length (choices_left gs told b) < length (choices_left gs true a)
left_past gs None told a b h = (let less = left_less gs told a b h in omega (arith, less))
left_past gs (Some p) false a b h = (let less = left_less gs false a b h in omega (arith, less))
left_past gs (Some p) true a b h =
    let many = ap length h.next ∙ length-append h.passed (b.positions ∷ later_choices gs b.positions) in
    omega (arith, many)

-- what is told of a bar is told of one that covers it
pub told_again : (g : Graph) (b : Bound) (y : Typed) (c : Chunk) (p : Past) (bar : FirstBar)
    → ((v : Val) → by_direction p.bar.down (val p.bar.value) v ≡ Less → by_direction bar.down (val bar.value) v ≡ Less)
    → IsTold g b y c p → IsTold g b y c (record p { bar = bar })
told_again g b y c p bar covers told = record {
  sure = told.sure;
  late = told.late;
  sort = told.sort;
  first = told.first;
  behind = λ ps selected out.
      let h = told.behind ps selected out in
      record { value = h.value; means = h.means; behind = of_bar bar.down (val bar.value) h.value (covers h.value (by_bar p.bar.down (val p.bar.value) h.value h.behind)) };
}

one_sort : (s t : SortExpr) → Some s ≡ Some t → s ≡ t
one_sort s t e = cc e

-- the first key is one
pub same_sort : (b : Bound) (s t : SortExpr) → slice_get b.keys 0 ≡ Some s → slice_get b.keys 0 ≡ Some t → s ≡ t
same_sort b s t is at = one_sort s t (sym is ∙ at)

pub told_of : (g : Graph) (b : Bound) (y : Typed) (c : Chunk) (t : Table) (past : Option Past) → IfSome past (IsPast g b y c t) → IfSome past (IsTold g b y c)
told_of g b y c t None is = tt
told_of g b y c t (Some p) is = is.told
