-- A walk from one row to the next: what is owed, and that it stays a walk.
use Rattle.std.proofs.Common.{◌≡◌, ℕ, ◌+◌, ◌-◌, ◌∙◌, Bool, true, false, List, [], ◌∷◌, drop, length, sym, ap, ap₂, subst, refl, arith, Option, None, ◌++◌}
use Rattle.std.specs.Prelude.{Vec}
use Rattle.std.specs.Vec.{with_items}
use Rattle.std.proofs.lemmas.List.{drop-drop, drop_all, length-drop, length-map, with_items_is}
use Rattle.gq_base.specs.Plain.{Graph}
use Rattle.gq_expr.specs.declared.Fault.{Fault}
use Rattle.gq_plan.specs.Marked.{Marked}
use Rattle.gq_outer.specs.Clauses.{unmarked}
use Rattle.gq_outer.specs.Rows.{Wide, read}
use Rattle.gq_optional.specs.Held.{last_rows, rows_behind, rows_owed}
use Rattle.gq_optional.specs.declared.walk.Walk.{Walk}
use Rattle.gq_optional.specs.steps.Walks.{held_by, owed_as, owed_by, row_by, walking_of}
use Rattle.gq_optional.specs.declared.clause_level.ClauseLevel.{ClauseLevel}
use Rattle.gq_optional.specs.steps.Levels.{AreLevels, HasRows, IsAlike, IsLevel, StepsOn, clauses_of, last_mark, last_row, last_wide, made_by_all, still}
use Rattle.gq_optional.proofs.Stepped.{last_alike}
use Rattle.gq_optional.proofs.Walked.{last_is}

-- as many levels as clauses
as_many : (new old : List ClauseLevel) → clauses_of new ≡ clauses_of old → length new ≡ length old
as_many new old e = sym (length-map new (λ (l : ClauseLevel). l.clause.now)) ∙ ap length e ∙ length-map old (λ (l : ClauseLevel). l.clause.now)

-- levels that were worked on stand in their place again, of the same clauses
module _ {Z : Type 0} (v : Vec ClauseLevel Z) (mid new : List ClauseLevel) (same : clauses_of new ≡ clauses_of mid) (taken : mid ≡ v.items) where
  pub put_back : (with_items v new).items ≡ new
  put_back = with_items_is v new (omega (arith, as_many new mid same, ap length taken, v.ok.0))

  pub clauses_put : clauses_of (with_items v new).items ≡ clauses_of v.items
  clauses_put = ap clauses_of put_back ∙ same ∙ ap clauses_of taken

pub levels_moved : (w w' : Wide) (ls ls' : List ClauseLevel) → w ≡ w' → ls ≡ ls' → AreLevels (length w.nodes) (length w.rels) ls → AreLevels (length w'.nodes) (length w'.rels) ls'
levels_moved w w' ls ls' e f all = subst (λ (t : Wide × List ClauseLevel). AreLevels (length t.0.nodes) (length t.0.rels) t.1) (λ i. (e i, f i)) all

-- the row behind all clauses has the variables of that before them
pub row_alike : (base r row : Wide) (ls : List ClauseLevel) → r ≡ base → AreLevels (length r.nodes) (length r.rels) ls → row ≡ last_wide r ls → IsAlike row base
row_alike base r row ls e all f =
    let sized = last_alike (length r.nodes) (length r.rels) r ls refl refl all in
    record {
      nodes = ap (λ (w : Wide). length w.nodes) f ∙ sized.0 ∙ ap (λ (w : Wide). length w.nodes) e;
      rels = ap (λ (w : Wide). length w.rels) f ∙ sized.1 ∙ ap (λ (w : Wide). length w.rels) e;
    }

-- neither a first row nor a further one
pub owed_none : (g : Graph) (base : Wide) (ls : List ClauseLevel) (fresh standing : Bool) → fresh ≡ false → standing ≡ false → owed_as g base ls fresh standing ≡ []
owed_none g base ls fresh standing e f = ap₂ (λ a b. owed_as g base ls a b) e f

module _ (g : Graph) (base : Wide) (ls slice new items : List ClauseLevel) (row : Wide) (mark : Option Fault) (taken : slice ≡ ls) (put : items ≡ new) where
  pub first_owed : (fresh standing : Bool) (r : Wide) → fresh ≡ true → r ≡ base
      → made_by_all g (clauses_of slice) (unmarked (read r)) ≡ last_row (unmarked (read r)) new ∷ still g (read r) new
      → row ≡ last_wide r new → mark ≡ last_mark None new
      → owed_as g base ls fresh standing ≡ record { row = read row; mark = mark } ∷ still g (read base) items
  first_owed fresh standing r begun same e f k =
      ap (λ b. owed_as g base ls b standing) begun
      ∙ ap (λ l. made_by_all g (clauses_of l) (unmarked (read base))) (sym taken)
      ∙ ap (λ w. made_by_all g (clauses_of slice) (unmarked (read w))) (sym same)
      ∙ e
      ∙ ap (λ m. m ∷ still g (read r) new) (last_is r None new ∙ (λ i. record { row = read (sym f i); mark = sym k i }))
      ∙ (λ i. record { row = read row; mark = mark } ∷ still g (read (same i)) (sym put i))

  next_found : StepsOn g (read base) slice true new → row ≡ last_wide base new → mark ≡ last_mark None new
      → still g (read base) ls ≡ record { row = read row; mark = mark } ∷ still g (read base) items
  next_found e f k =
      ap (still g (read base)) (sym taken) ∙ e
      ∙ ap (λ m. m ∷ still g (read base) new) (last_is base None new ∙ (λ i. record { row = read (sym f i); mark = sym k i }))
      ∙ ap (λ l. record { row = read row; mark = mark } ∷ still g (read base) l) (sym put)

  pub next_owed : (fresh standing found : Bool) → fresh ≡ false → standing ≡ true → StepsOn g (read base) slice found new
      → (found ≡ true → row ≡ last_wide base new) → (found ≡ true → mark ≡ last_mark None new) → found ≡ true
      → owed_as g base ls fresh standing ≡ record { row = read row; mark = mark } ∷ owed_as g base items fresh found
  next_owed true standing found e s step f k is = absurd (let x : ⊥ = cc in x)
  next_owed false false found e s step f k is = absurd (let x : ⊥ = cc in x)
  next_owed false true false e s step f k is = absurd (let x : ⊥ = cc in x)
  next_owed false true true e s step f k is = next_found step (f is) (k is)

  pub next_none : (fresh standing found : Bool) → fresh ≡ false → standing ≡ true → StepsOn g (read base) slice found new → found ≡ false
      → owed_as g base ls fresh standing ≡ []
  next_none true standing found e s step is = absurd (let x : ⊥ = cc in x)
  next_none false false found e s step is = absurd (let x : ⊥ = cc in x)
  next_none false true true e s step is = absurd (let x : ⊥ = cc in x)
  next_none false true false e s step is = ap (still g (read base)) (sym taken) ∙ step

pub alike_then : (a b c : Wide) → IsAlike a b → IsAlike b c → IsAlike a c
alike_then a b c e f = record { nodes = e.nodes ∙ f.nodes; rels = e.rels ∙ f.rels }

-- one more level behind others
pub levels_pushed : (n m : ℕ) (ls : List ClauseLevel) (l : ClauseLevel) → AreLevels n m ls → IsLevel l → HasRows l → length l.row.nodes ≡ n → length l.row.rels ≡ m → AreLevels n m (ls ++ l ∷ [])
levels_pushed n m [] l all level rows e f = ((level, rows), (e, f), tt)
levels_pushed n m (k ∷ ls) l all level rows e f = (all.0, all.1, levels_pushed n m ls l all.2 level rows e f)

-- ---- what is owed, as the last of the rows that the clauses make

last_none : (all owed : List Marked) → owed ≡ [] → last_rows (length owed) all ≡ owed
last_none all owed none =
    let whole : length all - length owed ≡ length all = omega (arith, ap length none) in
    ap (λ k. drop k all) whole ∙ drop_all (length all) all (omega arith) ∙ sym none

last_all : (all owed : List Marked) → all ≡ owed → last_rows (length owed) all ≡ owed
last_all all owed same =
    let first : length all - length owed ≡ 0 = omega (arith, ap length same) in
    ap (λ k. drop k all) first ∙ same

-- one was taken
last_next : (all old new : List Marked) (m : Marked) → last_rows (length old) all ≡ old → old ≡ m ∷ new → last_rows (length new) all ≡ new
last_next all old new m last next =
    let long = ap length next in
    let dropped = sym (length-drop (length all - length old) all) ∙ ap length last in
    let one : length all - length new ≡ (length all - length old) + 1 = omega (arith, long, dropped) in
    ap (λ k. drop k all) one ∙ sym (drop-drop 1 (length all - length old) all) ∙ ap (drop 1) (last ∙ next)

pub none_owed : (w : Walk) → owed_by w ≡ [] → rows_owed (walking_of w) ≡ owed_by w
none_owed w none = last_none (rows_behind (held_by w) w.base) (owed_by w) none

pub all_owed : (w new : Walk) (base : Wide) → owed_by new ≡ rows_behind (held_by w) base → held_by new ≡ held_by w → new.base ≡ base → rows_owed (walking_of new) ≡ owed_by new
all_owed w new base owed held same = last_all (rows_behind (held_by new) new.base) (owed_by new) (ap₂ rows_behind held same ∙ sym owed)

pub still_owed : (w new : Walk) (found : Bool) → rows_owed (walking_of w) ≡ owed_by w → held_by new ≡ held_by w → new.base ≡ w.base
    → (found ≡ true → owed_by w ≡ row_by new ∷ owed_by new) → (found ≡ false → owed_by new ≡ []) → rows_owed (walking_of new) ≡ owed_by new
still_owed w new true last held base next over =
    let all = ap₂ rows_behind held base in
    ap (last_rows (length (owed_by new))) all ∙ last_next (rows_behind (held_by w) w.base) (owed_by w) (owed_by new) (row_by new) last (next refl)
still_owed w new false last held base next over = none_owed new (over refl)
