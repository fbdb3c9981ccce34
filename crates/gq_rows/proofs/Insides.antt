-- A sink stands for what it holds.
use Rattle.std.proofs.Common.{◌≡◌, ◌∙◌, ℕ, ◌*◌, ◌^◌, ◌<◌, ◌≤◌, Bool, true, false, not, true≢false, List, [], ◌∷◌, length, map, Result, Ok, Err, None, Option, refl, sym, ap, subst, arith, Vec, Global}
use Rattle.std.specs.Prelude.{◌&&◌, option_map}
use Rattle.std.proofs.Math.Seq.{take-nil}
use Rattle.gq_base.specs.Lists.{is_empty}
use Rattle.gq_base.specs.Plain.{Graph}
use Rattle.gq_base.specs.Values.{Val, val}
use Rattle.gq_base.specs.declared.Value.{Value}
use Rattle.gq_classes.specs.Rows.{AreWide}
use Rattle.gq_expr.specs.declared.Fault.{Fault}
use Rattle.gq_kept.specs.Answers.{by_keys}
use Rattle.gq_kept.specs.Chunks.{PushesAll}
use Rattle.gq_kept.specs.Forms.{Has, HasForm, PushesHeld}
use Rattle.gq_kept.specs.Tables.{Held, HoldsRows, IsSameQuery, Pushes, StandsFor, StandsForSome, Table, is_full_table}
use Rattle.gq_kept.specs.declared.form.Form.{Form}
use Rattle.gq_kept.specs.declared.form.Form.TheVariants as form
use Rattle.gq_kept.specs.declared.refusal.More.{More}
use Rattle.gq_kept.specs.declared.refusal.More.TheVariants as more
use Rattle.gq_kept.specs.declared.refusal.RowRefusal.{RowRefusal}
use Rattle.gq_kept.specs.declared.refusal.RowRefusal.TheVariants as refusal
use Rattle.gq_kept.proofs.Forms.{form_cut, stands_by, stands_for}
use Rattle.gq_kept.proofs.Fronts.{part-none}
use Rattle.gq_kept.proofs.Ranked.{none}
use Rattle.gq_kept.proofs.Standings.{pushes, top-open}
use Rattle.gq_listed.specs.Listed.{IsListing, IsPlain, is_listing}
use Rattle.gq_listed.specs.declared.listed.Asked as question
use Rattle.gq_plan.specs.Outcomes.{Row}
use Rattle.gq_plan.specs.declared.bound.Bound.{Bound}
use Rattle.gq_project.specs.declared.judging.Question.{Question}
use Rattle.gq_values.proofs.ClassRows.{wide-classes}
use Rattle.gq_values.specs.Keeping.{bar_of, held_of}
use Rattle.gq_values.specs.declared.held.Rows.{Rows}
use Rattle.gq_rows.specs.declared.table.RowTable.TheInside.{Inside}
use Rattle.gq_rows.specs.steps.Inner.{table_with}
use Rattle.gq_rows.specs.steps.Sinks.{no_rows, table_by}

-- ---- what is listed as it comes

empty_by : {X : Type 0} (d : Bool) (ks : List X) → (not d && is_empty ks) ≡ true → ks ≡ []
empty_by false [] e = refl
empty_by false (k ∷ ks) e = absurd (none (length ks) e)
empty_by true ks e = absurd (true≢false (sym e))

plain_by : (b : Bound) (f : Form) → HasForm b f → is_listing b ≡ true → IsPlain f
plain_by b form.All h e = tt
plain_by b (form.First n) h e = tt
plain_by b (form.Top n) h e = absurd (true≢false (sym e ∙ rw (h.0, h.1) refl))
plain_by b form.Classes h e = absurd (true≢false (sym e ∙ rw h refl))

pub listing_is : (b : Bound) (f : Form) → is_listing b ≡ true → HasForm b f → (a : question.Asked) → a.bound.now ≡ b → a.form ≡ f → a.limit < 2 ^ 32 → IsListing a
listing_is b f e h a bound form small = record {
  keyless = ap (λ (x : Bound). x.keys) bound ∙ empty_by b.distinct b.keys e;
  form = subst (λ x. HasForm x a.form) (sym bound) (subst (HasForm b) (sym form) h);
  plain = subst IsPlain (sym form) (plain_by b f h e);
  small = small;
}

-- what is held as cells of these values
abbrev pub cells_with : List Val → ℕ → Held
cells_with vs n = record { columns = vs; keys = []; count = n; classes = []; bar = None }

module _ (q : Question) (n : ℕ) (vs ws : List Val) (same : vs ≡ ws) where
  pub stands_with : StandsForSome (table_by q (cells_with vs n)) → StandsForSome (table_by q (cells_with ws n))
  stands_with h = subst (λ xs. StandsForSome (table_by q (cells_with xs n))) same h

  pub room_with : is_full_table (table_by q (cells_with vs n)) ≡ false → is_full_table (table_by q (cells_with ws n)) ≡ false
  room_with h = subst (λ xs. is_full_table (table_by q (cells_with xs n)) ≡ false) same h

  pub pushed_with : (o : Option (Result Row Fault)) (new : Table) (r : Result More RowRefusal) → Pushes o (table_by q (cells_with ws n)) new r → Pushes o (table_by q (cells_with vs n)) new r
  pushed_with o new r h = subst (λ xs. Pushes o (table_by q (cells_with xs n)) new r) (sym same) h

  pub pushed_all_with : (os : List (Result Row Fault)) (new : Table) (r : Result More RowRefusal) → PushesAll os (table_by q (cells_with ws n)) new r → PushesAll os (table_by q (cells_with vs n)) new r
  pushed_all_with os new r h = subst (λ xs. PushesAll os (table_by q (cells_with xs n)) new r) (sym same) h

-- ---- what is held as values

module _ (q : Question) (f : Form) (h : Held) (small : q.limit < 2 ^ 32) (form_is : HasForm q.bound.now f) (some : StandsForSome (table_by q h)) where
  -- a push to what is held is one to the table
  pub pushed_by : is_full_table (table_by q h) ≡ false → (o : Option (Result Row Fault)) (new : Held) (r : Result More RowRefusal) → PushesHeld f q.bound.now q.limit o h new r → Pushes o (table_by q h) (table_by q new) r
  pushed_by room o new r p = pushes q.bound.now f q.limit None q.graph.now 0 small form_is h room some new o r p

  -- what is held by the form
  pub kept_in : (rows : List Row) × Has f q.bound.now q.limit rows h
  kept_in = let s = stands_by q.bound.now f q.limit form_is small some.0 h some.1 in (s.rows, s.keeps)

pub all-ready : (q : Question) (v : Rows) → q.limit < 2 ^ 32 → HasForm q.bound.now form.All → StandsForSome (table_by q (held_of v)) → v.count ≤ 2 * q.limit
all-ready q v small form_is some = let k = kept_in q form.All (held_of v) small form_is some in omega (arith, k.1.0.count, k.1.1)

pub top-ready : (q : Question) (n : ℕ) (v : Rows) → q.limit < 2 ^ 32 → HasForm q.bound.now (form.Top n) → StandsForSome (table_by q (held_of v)) → v.count ≤ 2 * q.limit
top-ready q n v small form_is some = let k = kept_in q (form.Top n) (held_of v) small form_is some in top-open q.bound.now n q.limit k.0 (held_of v) k.1

-- the classes that are held are as wide as a row
pub classes-ready : (q : Question) (v : Rows) → q.limit < 2 ^ 32 → HasForm q.bound.now form.Classes → StandsForSome (table_by q (held_of v)) → AreWide (length q.bound.now.columns) v.seen
classes-ready q v small form_is some = let k = kept_in q form.Classes (held_of v) small form_is some in wide-classes q.bound.now k.0 v k.1.holds

pub classes-few : (q : Question) (v : Rows) → q.limit < 2 ^ 32 → HasForm q.bound.now form.Classes → StandsForSome (table_by q (held_of v)) → v.count ≤ 2 * q.limit
classes-few q v small form_is some = let k = kept_in q form.Classes (held_of v) small form_is some in omega (arith, k.1.holds.count, k.1.few)

-- ---- of a table

module _ (t : Inside) (g : Graph) (old new : Held) where
  -- a table that holds this, of what its query asks, whatever its alternative, its graph and its count
  abbrev asked_with : Held → Table
  asked_with h = record { bound = t.bound.now; most = t.limit; alternative = None; graph = g; held = h; pushed = 0 }

  -- what a sink answers is what the table answers
  pub of_table : (o : Option (Result Row Fault)) (r : Result More RowRefusal) → Pushes o (asked_with old) (asked_with new) r → Pushes o (table_with t old) (table_with t new) r
  of_table o (Ok more.Go) h = h
  of_table o (Ok more.Enough) h = h
  of_table o (Err (refusal.Fault f)) h = h
  of_table o (Err (refusal.TooManyRows l)) h = h
  of_table o (Err (refusal.Memory why)) h = tt

  pub all_of_table : (os : List (Result Row Fault)) (r : Result More RowRefusal) → PushesAll os (asked_with old) (asked_with new) r → PushesAll os (table_with t old) (table_with t new) r
  all_of_table os (Ok more.Go) h = h
  all_of_table os (Ok more.Enough) h = h
  all_of_table os (Err (refusal.Fault f)) h = record { there = h.there; seen = h.seen }
  all_of_table os (Err (refusal.TooManyRows l)) h = h
  all_of_table os (Err (refusal.Memory why)) h = tt

-- tables of what is asked are of one query, whatever they hold
pub same_by : (q : Question) (old new : Held) → IsSameQuery (table_by q old) (table_by q new)
same_by q old new = record { bound = refl; most = refl; alternative = refl; graph = refl }

-- ---- the empty table

holds-none : (c k : ℕ) → HoldsRows c k [] no_rows
holds-none c k = record { columns = refl; keys = refl; count = refl; sized = λ i d lt. absurd (omega (arith, lt)) }

no-has : (b : Bound) (f : Form) (most : ℕ) → Has f b most [] no_rows
no-has b form.All most = (holds-none _ _, omega arith)
no-has b (form.First m) most = (holds-none _ _, omega arith, omega arith)
no-has b (form.Top m) most = record { holds = record { list = []; holds = holds-none _ _; part = part-none (by_keys b) m; short = omega arith; bar = tt }; few = omega arith }
no-has b form.Classes most = record { holds = record { columns = refl; keys = refl; count = refl; sized = λ i d lt. absurd (omega (arith, lt)) }; few = omega arith }

none-looked : (f : Form) → form_cut {X = Result Row Fault} f [] ≡ []
none-looked form.All = refl
none-looked (form.First n) = take-nil n
none-looked (form.Top n) = refl
none-looked form.Classes = refl

pub stands-none : (b : Bound) (f : Form) (most : ℕ) (h : Held) → HasForm b f → most < 2 ^ 32 → h ≡ no_rows → StandsFor b most [] h
stands-none b f most h form_is small e =
    subst (StandsFor b most []) (sym e) (stands_for b f most form_is small [] no_rows (record { rows = []; looked = none-looked f; keeps = no-has b f most }))

pub held-none : (v : Rows) → v.columns.items ≡ [] → v.keys.items ≡ [] → v.count ≡ 0 → v.seen ≡ [] → v.bar ≡ None → held_of v ≡ no_rows
held-none v cs ks n seen bar =
    ap (λ vs. record { columns = map val vs; keys = map val v.keys.items; count = v.count; classes = v.seen; bar = bar_of v }) cs
    ∙ ap (λ vs. record { columns = []; keys = map val vs; count = v.count; classes = v.seen; bar = bar_of v }) ks
    ∙ ap (λ k. record { columns = []; keys = []; count = k; classes = v.seen; bar = bar_of v }) n
    ∙ ap (λ l. record { columns = []; keys = []; count = 0; classes = l; bar = bar_of v }) seen
    ∙ ap (λ (r : Option (Vec Value Global)). record { columns = []; keys = []; count = 0; classes = []; bar = option_map (λ (x : Vec Value Global). map val x.items) r }) bar
