-- With DISTINCT an outcome that stands in a listing may stand there again.
use Rattle.std.proofs.Common.{◌≡◌, ℕ, zero, suc, ◌≤◌, ◌<◌, Bool, true, false, ◌||◌, not, cond, Option, None, List, [], ◌∷◌, ◌++◌, map, length, get_or, Result, Ok, Err, refl, sym, ap, ap₂, ◌∙◌, subst, arith, true≢false}
use Rattle.std.specs.Prelude.{flat_map, if◌then◌else◌}
use Rattle.std.specs.Cmp.{IsEquivalence}
use Rattle.std.specs.List.{All, AllByRecursion, Contains, list_any}
use Rattle.std.proofs.lemmas.Cmp.{eq_by_cmp_equiv, lists_equiv, on_equiv}
use Rattle.std.proofs.lemmas.List.{map-append}
use Rattle.std.proofs.lemmas.List.Folds.{list_any-append}
use Rattle.std.proofs.lemmas.Map.Steps.{list_any_congr}
use Rattle.gq_base.specs.Lists.{is_empty}
use Rattle.gq_base.specs.ValueLaws.{order_vals_total}
use Rattle.gq_expr.specs.declared.Fault.{Fault}
use Rattle.gq_plan.specs.Outcomes.{Row}
use Rattle.gq_plan.specs.declared.bound.Bound.{Bound}
use Rattle.gq_law_rows.specs.Again.{StandsAgain}
use Rattle.gq_kept.specs.Answers.{at_most, classes, classes_behind, first_of, kept, looked_at, most_listed, same_row, with_class}
use Rattle.gq_kept.specs.Tables.{Held, HoldsAs, HoldsClasses, IsSized}
use Rattle.gq_kept.proofs.Classes.{classes_append}

-- ---- what first rows know

same_row_equiv : IsEquivalence same_row
same_row_equiv = on_equiv (λ (r : Row). r.columns) (lists_equiv (eq_by_cmp_equiv order_vals_total))

known_push : (known : Bool) (q r : Row) (seen : List Row) → list_any (same_row r) seen ≡ known
    → list_any (same_row q) (if known then seen else seen ++ r ∷ []) ≡ (list_any (same_row q) seen || same_row q r)
known_push false q r seen e = list_any-append (same_row q) seen (r ∷ []) ∙ ap (λ b. list_any (same_row q) seen || b) (alone (same_row q r))
  where
    alone : (b : Bool) → (b || false) ≡ b
    alone true = refl
    alone false = refl
known_push true q r seen e = go (same_row q r) refl
  where
    off : (b : Bool) → b ≡ (b || false)
    off true = refl
    off false = refl

    go : (b : Bool) → same_row q r ≡ b → list_any (same_row q) seen ≡ (list_any (same_row q) seen || b)
    go true h = let k : list_any (same_row q) seen ≡ true = list_any_congr same_row_equiv q r seen h ∙ e in k ∙ ap (λ b. b || true) (sym k)
    go false h = off (list_any (same_row q) seen)

or_assoc_bits : (a b c : Bool) → ((a || b) || c) ≡ (a || (b || c))
or_assoc_bits true b c = refl
or_assoc_bits false b c = refl

-- a row is known among the first rows where it was known before or is one of the rows
known_behind_all : (q : Row) (seen rows : List Row) → list_any (same_row q) (classes_behind seen rows) ≡ (list_any (same_row q) seen || list_any (same_row q) rows)
known_behind_all q seen [] = off (list_any (same_row q) seen)
  where
    off : (b : Bool) → b ≡ (b || false)
    off true = refl
    off false = refl
known_behind_all q seen (r ∷ rows) =
    known_behind_all q (with_class seen r) rows
    ∙ ap (λ b. b || list_any (same_row q) rows) (known_push (list_any (same_row r) seen) q r seen refl)
    ∙ or_assoc_bits (list_any (same_row q) seen) (same_row q r) (list_any (same_row q) rows)

-- rows that are known change nothing
nothing_new : (seen more : List Row) → AllByRecursion (λ r. list_any (same_row r) seen ≡ true) more → classes_behind seen more ≡ seen
nothing_new seen [] h = refl
nothing_new seen (r ∷ more) h = ap (λ b. classes_behind (if b then seen else seen ++ r ∷ []) more) h.0 ∙ nothing_new seen more h.1

-- ---- outcomes that are rows

abbrev oks : List Row → List (Result Row Fault)
oks rows = map Ok rows

abbrev inside : Row → Result Row Fault → Row
inside x (Ok z) = z
inside x (Err f) = x

abbrev is_row_here : Result Row Fault → Bool
is_row_here (Ok z) = true
is_row_here (Err f) = false

any_at : (r : Row) (rows : List Row) (k : ℕ) (o : Result Row Fault) → k < length (oks rows) → get_or (oks rows) k o ≡ Ok r → list_any (same_row r) rows ≡ true
any_at r [] k o low is = absurd (omega (arith, low))
any_at r (x ∷ rows) zero o low is = ap (λ b. b || list_any (same_row r) rows) (subst (λ z. same_row r z ≡ true) (sym (ap (inside x) is)) (same_row_equiv.refl r))
any_at r (x ∷ rows) (suc k) o low is = second (same_row r x) (list_any (same_row r) rows) (any_at r rows k o (omega (arith, low)) is)
  where
    second : (a b : Bool) → b ≡ true → (a || b) ≡ true
    second true b h = refl
    second false b h = h

-- the rows of outcomes that stand among these rows
record AreRows (rows : List Row) (again : List (Result Row Fault)) : Type 0 where
  pub more : List Row
  pub is : again ≡ oks more
  pub known : AllByRecursion (λ r. list_any (same_row r) rows ≡ true) more

no_fault_at : (f : Fault) (rows : List Row) (k : ℕ) (o : Result Row Fault) → k < length (oks rows) → get_or (oks rows) k o ≡ Err f → ⊥
no_fault_at f [] k o low is = omega (arith, low)
no_fault_at f (x ∷ rows) zero o low is = true≢false (ap is_row_here is)
no_fault_at f (x ∷ rows) (suc k) o low is = no_fault_at f rows k o (omega (arith, low)) is

are_rows : (rows : List Row) (again : List (Result Row Fault)) → AllByRecursion (Contains (oks rows)) again → AreRows rows again
are_rows rows [] h = record { more = []; is = refl; known = tt }
are_rows rows (Ok r ∷ again) h =
    let rest = are_rows rows again h.1 in
    record { more = r ∷ rest.more; is = ap (λ l. Ok r ∷ l) rest.is; known = (any_at r rows h.0.0 (Ok r) h.0.1 h.0.2, rest.known) }
are_rows rows (Err f ∷ again) h = absurd (no_fault_at f rows h.0.0 (Err f) h.0.1 h.0.2)

-- ---- what a table stands for

all_looked : {X : Type 0} (b : Bound) (xs : List X) → b.distinct ≡ true → looked_at b xs ≡ xs
all_looked b xs d = ap (λ c. first_of (cond (c || not (is_empty b.keys)) None (most_listed b)) xs) d

module _ (b : Bound) (d : b.distinct ≡ true) (rows more : List Row) (same : classes (rows ++ more) ≡ classes rows) where
  held_too : (keyless : Bool) (most : Option ℕ) (h : Held) → HoldsAs b.distinct keyless most b rows h → HoldsAs b.distinct keyless most b (rows ++ more) h
  held_too keyless most h k = subst (λ c. HoldsAs c keyless most b (rows ++ more) h) (sym d) (again (subst (λ c. HoldsAs c keyless most b rows h) d k))
    where
      again : HoldsClasses b rows h → HoldsClasses b (rows ++ more) h
      again k = record {
        columns = k.columns ∙ ap (map (λ (r : Row). r.columns)) (sym same);
        keys = k.keys ∙ ap (flat_map (λ (r : Row). r.keys)) (sym same);
        count = k.count ∙ ap length (sym same);
        sized = subst (All (IsSized (length b.columns) (length b.keys))) (sym same) k.sized;
      }

  kept_too : kept b (rows ++ more) ≡ kept b rows
  kept_too = ap (λ c. cond c (length (classes (rows ++ more))) (at_most (most_listed b) (length (rows ++ more)))) d ∙ ap length same
      ∙ ap (λ c. cond c (length (classes rows)) (at_most (most_listed b) (length rows))) (sym d)

pub stands_again : StandsAgain
stands_again b most pushed again h d known s =
    let whole : pushed ≡ map Ok s.rows = sym (all_looked b pushed d) ∙ s.looked in
    let found = are_rows s.rows again (subst (λ l. AllByRecursion (Contains l) again) whole known) in
    let same : classes (s.rows ++ found.more) ≡ classes s.rows =
    classes_append [] s.rows found.more
    ∙ nothing_new (classes s.rows) found.more (kept_known s.rows found.more found.known) in
    record {
      rows = s.rows ++ found.more;
      looked = all_looked b (pushed ++ again) d ∙ ap₂ ◌++◌ whole found.is ∙ sym (map-append Ok s.rows found.more);
      few = subst (λ n. n ≤ most) (sym (kept_too b d s.rows found.more same)) s.few;
      holds = held_too b d s.rows found.more same (is_empty b.keys) (most_listed b) h s.holds;
    }
  where
    kept_known : (rows more : List Row) → AllByRecursion (λ r. list_any (same_row r) rows ≡ true) more → AllByRecursion (λ r. list_any (same_row r) (classes rows) ≡ true) more
    kept_known rows [] k = tt
    kept_known rows (r ∷ more) k = (known_behind_all r [] rows ∙ k.0, kept_known rows more k.1)
