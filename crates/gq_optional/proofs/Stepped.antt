-- The row that comes to a clause, and the row behind all clauses.
use Rattle.std.proofs.Common.{◌≡◌, ◌∙◌, ℕ, zero, suc, ◌+◌, ◌-◌, ◌<◌, ◌≤◌, true, false, List, [], ◌∷◌, ◌++◌, drop, take, get_or, length, flat_map, refl, sym, ap, ap₂, subst, arith, Option}
use Rattle.std.specs.Prelude.{slice_set}
use Rattle.std.proofs.lemmas.List.{drop_more}
use Rattle.gq_base.specs.Plain.{Graph}
use Rattle.gq_expr.specs.Reading as reading
use Rattle.gq_expr.specs.declared.Fault.{Fault}
use Rattle.gq_outer.specs.Clauses.{unmarked}
use Rattle.gq_outer.specs.Rows.{Wide, read}
use Rattle.gq_optional.specs.declared.clause_level.ClauseLevel.{ClauseLevel}
use Rattle.gq_optional.specs.steps.Levels.{AreLevels, HasRows, IsAlike, IsLevel, IsSameClause, StepsOn, clauses_of, last_mark, last_row, last_wide, left_of, made_by_all, now_at, still}
use Rattle.gq_optional.proofs.Walked.{news, stepped_behind, stepped_here}

next : (i : ℕ) → suc i ≡ i + 1
next i = omega arith

came_by : (base : Wide) (ls : List ClauseLevel) (d : ℕ) (x : ClauseLevel) → d < length ls → last_wide base (take (suc d) ls) ≡ (get_or ls d x).row
came_by base [] d x low = absurd (omega (arith, low))
came_by base (l ∷ ls) zero x low = refl
came_by base (l ∷ ls) (suc d) x low = came_by l.row ls d x (omega (arith, low))

-- the row of a clause comes to the one behind it
pub came : (base : Wide) (ls : List ClauseLevel) (d : ℕ) (x : ClauseLevel) → d < length ls → last_wide base (take (d + 1) ls) ≡ (get_or ls d x).row
came base ls d x low = ap (λ k. last_wide base (take k ls)) (sym (next d)) ∙ came_by base ls d x low

pub came_at : (base : Wide) (ls : List ClauseLevel) (d : ℕ) (x : ClauseLevel) → 0 < d → d ≤ length ls → (get_or ls (d - 1) x).row ≡ last_wide base (take d ls)
came_at base ls zero x low inside = absurd (omega (arith, low))
came_at base ls (suc d) x low inside =
    subst (λ k. (get_or ls k x).row ≡ last_wide base (take (suc d) ls)) (let e : d ≡ suc d - 1 = omega arith in e) (sym (came_by base ls d x (omega (arith, inside))))

-- the row behind all clauses, from one of them on
pub through : (base : Wide) (ls : List ClauseLevel) (d : ℕ) (l : ClauseLevel) (rest : List ClauseLevel) → drop d ls ≡ l ∷ rest → last_wide base ls ≡ last_wide l.row rest
through base [] zero l rest e = absurd (omega (arith, ap length e))
through base [] (suc d) l rest e = absurd (omega (arith, ap length e))
through base (y ∷ ys) zero l rest e = ap (last_wide base) e
through base (y ∷ ys) (suc d) l rest e = through y.row ys d l rest e

pub marked_through : (mark : Option Fault) (ls : List ClauseLevel) (d : ℕ) (l : ClauseLevel) (rest : List ClauseLevel) → drop d ls ≡ l ∷ rest → last_mark mark ls ≡ last_mark l.mark rest
marked_through mark [] zero l rest e = absurd (omega (arith, ap length e))
marked_through mark [] (suc d) l rest e = absurd (omega (arith, ap length e))
marked_through mark (y ∷ ys) zero l rest e = ap (last_mark mark) e
marked_through mark (y ∷ ys) (suc d) l rest e = marked_through y.mark ys d l rest e

-- rows behind clauses have the variables of these
pub last_alike : (n m : ℕ) (row : Wide) (ls : List ClauseLevel) → length row.nodes ≡ n → length row.rels ≡ m → AreLevels n m ls → (length (last_wide row ls).nodes ≡ n) × (length (last_wide row ls).rels ≡ m)
last_alike n m row [] e f all = (e, f)
last_alike n m row (l ∷ ls) e f all = last_alike n m l.row ls all.1.0 all.1.1 all.2

-- ---- what is known of those behind a clause

next_by : (n m : ℕ) (ls : List ClauseLevel) (d : ℕ) → AreLevels n m (drop d ls) → AreLevels n m (drop (suc d) ls)
next_by n m [] zero all = all
next_by n m [] (suc d) all = all
next_by n m (l ∷ ls) zero all = all.2
next_by n m (l ∷ ls) (suc d) all = next_by n m ls d all

pub levels_next : (n m : ℕ) (ls : List ClauseLevel) (d : ℕ) → AreLevels n m (drop d ls) → AreLevels n m (drop (d + 1) ls)
levels_next n m ls d all = subst (λ k. AreLevels n m (drop k ls)) (next d) (next_by n m ls d all)

alike_by : (row base : Wide) (ls : List ClauseLevel) (d : ℕ) → d < length ls → AreLevels (length row.nodes) (length row.rels) (drop d ls) → IsAlike row (last_wide base (take (suc d) ls))
alike_by row base [] d low all = absurd (omega (arith, low))
alike_by row base (l ∷ ls) zero low all = record { nodes = sym all.1.0; rels = sym all.1.1 }
alike_by row base (l ∷ ls) (suc d) low all = alike_by row l.row ls d (omega (arith, low)) all

pub alike_next : (row base : Wide) (ls : List ClauseLevel) (d : ℕ) → d < length ls → AreLevels (length row.nodes) (length row.rels) (drop d ls) → IsAlike row (last_wide base (take (d + 1) ls))
alike_next row base ls d low all = subst (λ k. IsAlike row (last_wide base (take k ls))) (next d) (alike_by row base ls d low all)

pub alike_back : (w v row : Wide) → w ≡ v → IsAlike row v → IsAlike w row
alike_back w v row e h = record { nodes = ap (λ (u : Wide). length u.nodes) e ∙ sym h.nodes; rels = ap (λ (u : Wide). length u.rels) e ∙ sym h.rels }

-- ---- lists that are the same up to a place

-- some level, where there is one
pub some_level : (ls : List ClauseLevel) (d : ℕ) → d < length ls → ClauseLevel
some_level [] d low = absurd (omega (arith, low))
some_level (l ∷ ls) d low = l

take_less : (ls : List ClauseLevel) (d : ℕ) → take d (take (suc d) ls) ≡ take d ls
take_less [] zero = refl
take_less [] (suc d) = refl
take_less (l ∷ ls) zero = refl
take_less (l ∷ ls) (suc d) = ap (λ k. l ∷ k) (take_less ls d)

pub kept_less : (old new : List ClauseLevel) (d : ℕ) → take (d + 1) new ≡ take (d + 1) old → take d new ≡ take d old
kept_less old new d e =
    sym (take_less new d) ∙ ap (take d) (subst (λ k. take k new ≡ take k old) (sym (next d)) e) ∙ take_less old d

pub take_set : (ls : List ClauseLevel) (d : ℕ) (l : ClauseLevel) → take d (slice_set ls d l) ≡ take d ls
take_set [] zero l = refl
take_set [] (suc d) l = refl
take_set (y ∷ ys) zero l = refl
take_set (y ∷ ys) (suc d) l = ap (λ k. y ∷ k) (take_set ys d l)

stays_by : (old new : List ClauseLevel) (d : ℕ) (x : ClauseLevel) → d < length old → take (suc d) new ≡ take (suc d) old → drop d new ≡ get_or old d x ∷ drop (suc d) new
stays_by [] new d x low e = absurd (omega (arith, low))
stays_by (y ∷ ys) [] d x low e = absurd (omega (arith, ap length e))
stays_by (y ∷ ys) (z ∷ zs) zero x low e = ap (λ l. l ++ zs) e
stays_by (y ∷ ys) (z ∷ zs) (suc d) x low e = stays_by ys zs d x (omega (arith, low)) (ap (drop 1) e)

same_by : (old new : List ClauseLevel) (d : ℕ) (x : ClauseLevel) → d < length old → take (suc d) new ≡ take (suc d) old → get_or new d x ≡ get_or old d x
same_by [] new d x low e = absurd (omega (arith, low))
same_by (y ∷ ys) [] d x low e = absurd (omega (arith, ap length e))
same_by (y ∷ ys) (z ∷ zs) zero x low e = ap (λ l. get_or l 0 x) e
same_by (y ∷ ys) (z ∷ zs) (suc d) x low e = same_by ys zs d x (omega (arith, low)) (ap (drop 1) e)

long_by : (old new : List ClauseLevel) (d : ℕ) → d < length old → take (suc d) new ≡ take (suc d) old → d < length new
long_by [] new d low e = absurd (omega (arith, low))
long_by (y ∷ ys) [] d low e = absurd (omega (arith, ap length e))
long_by (y ∷ ys) (z ∷ zs) zero low e = omega arith
long_by (y ∷ ys) (z ∷ zs) (suc d) low e = omega (arith, long_by ys zs d (omega (arith, low)) (ap (drop 1) e))

module _ (old new : List ClauseLevel) (d : ℕ) (x : ClauseLevel) (low : d < length old) (kept : take (d + 1) new ≡ take (d + 1) old) where
  abbrev pub here : ClauseLevel
  here = get_or old d x

  kept_suc : take (suc d) new ≡ take (suc d) old
  kept_suc = subst (λ k. take k new ≡ take k old) (sym (next d)) kept

  pub long : d < length new
  long = long_by old new d low kept_suc

  pub same_here : get_or new d x ≡ here
  same_here = same_by old new d x low kept_suc

  -- a clause stays where only those behind it change
  pub stays : drop d new ≡ here ∷ drop (d + 1) new
  stays = stays_by old new d x low kept_suc ∙ ap (λ k. here ∷ drop k new) (next d)

  pub olds_from : drop d old ≡ here ∷ drop (d + 1) old
  olds_from = drop_more old d x low

  pub levels_stay : (n m : ℕ) → AreLevels n m (drop d old) → AreLevels n m (drop (d + 1) new) → AreLevels n m (drop d new)
  levels_stay n m all behind =
      let was = subst (AreLevels n m) olds_from all in
      subst (AreLevels n m) (sym stays) (was.0, was.1, behind)

  pub clauses_stay : clauses_of (drop (d + 1) new) ≡ clauses_of (drop (d + 1) old) → clauses_of (drop d new) ≡ clauses_of (drop d old)
  clauses_stay behind = ap clauses_of stays ∙ (λ i. here.clause.now ∷ behind i) ∙ sym (ap clauses_of olds_from)

  -- a step of those behind it is a step
  pub steps_behind : (g : Graph) (base : Wide) (row : reading.Assignment) → StepsOn g (read (last_wide base (take (d + 1) old))) (drop (d + 1) old) true (drop (d + 1) new)
      → clauses_of (drop (d + 1) new) ≡ clauses_of (drop (d + 1) old) → StepsOn g row (drop d old) true (drop d new)
  steps_behind g base row e same =
      let step = subst (λ (w : Wide). StepsOn g (read w) (drop (d + 1) old) true (drop (d + 1) new)) (came base old d x low) e in
      ap (still g row) olds_from ∙ stepped_behind g row here (drop (d + 1) old) (drop (d + 1) new) step same
      ∙ ap (λ ls. last_row (unmarked row) ls ∷ still g row ls) (sym stays)

  -- the clause has no further row either
  pub steps_none : (g : Graph) (base w row : Wide) → w ≡ row → StepsOn g (read (last_wide base (take (d + 1) old))) (drop (d + 1) old) false (drop (d + 1) new)
      → left_of g (read w) (get_or new d x) ≡ [] → still g (read row) (drop d old) ≡ []
  steps_none g base w row e none left =
      ap (still g (read row)) olds_from
      ∙ ap₂ (λ rs left. rs ++ flat_map (made_by_all g (clauses_of (drop (d + 1) old))) left)
      (subst (λ (v : Wide). still g (read v) (drop (d + 1) old) ≡ []) (came base old d x low) none)
      (subst (λ (t : Wide × ClauseLevel). left_of g (read t.0) t.1 ≡ []) (λ i. (e i, same_here i)) left)

  -- the clause goes on, and those behind it begin anew
  pub steps_here : (g : Graph) (base w row : Wide) (l' : ClauseLevel) (last : List ClauseLevel) → w ≡ row → StepsOn g (read (last_wide base (take (d + 1) old))) (drop (d + 1) old) false (drop (d + 1) new)
      → left_of g (read w) (get_or new d x) ≡ now_at l' ∷ left_of g (read w) l' → drop d last ≡ l' ∷ drop (d + 1) last
      → made_by_all g (clauses_of (drop (d + 1) old)) (now_at l') ≡ last_row (now_at l') (drop (d + 1) last) ∷ still g (read l'.row) (drop (d + 1) last)
      → clauses_of (drop (d + 1) last) ≡ clauses_of (drop (d + 1) old)
      → StepsOn g (read row) (drop d old) true (drop d last)
  steps_here g base w row l' last e none left is behind same =
      ap (still g (read row)) olds_from
      ∙ stepped_here g (read row) here l' (drop (d + 1) old) (drop (d + 1) last)
      (subst (λ (v : Wide). still g (read v) (drop (d + 1) old) ≡ []) (came base old d x low) none)
      (subst (λ (t : Wide × ClauseLevel). left_of g (read t.0) t.1 ≡ now_at l' ∷ left_of g (read t.0) l') (λ i. (e i, same_here i)) left) behind same
      ∙ ap (λ ls. last_row (unmarked (read row)) ls ∷ still g (read row) ls) (sym is)

-- ---- a clause that is changed

module _ (mid new : List ClauseLevel) (d : ℕ) (x l' : ClauseLevel) (low : d < length mid) (kept : take (d + 1) new ≡ take (d + 1) (slice_set mid d l')) where
  pub levels_put : (n m : ℕ) → AreLevels n m (drop d mid) → IsLevel l' → HasRows l' → IsSameClause (get_or mid d x) l' → AreLevels n m (drop (d + 1) new) → AreLevels n m (drop d new)
  levels_put n m all level rows same behind =
      let was = subst (AreLevels n m) (drop_more mid d x low) all in
      subst (AreLevels n m) (sym (news mid new d x l' low kept)) ((level, rows), (same.nodes ∙ was.1.0, same.rels ∙ was.1.1), behind)

-- its row has the same variables
pub sized_put : (n m : ℕ) (mid : List ClauseLevel) (d : ℕ) (x l' : ClauseLevel) → d < length mid → AreLevels n m (drop d mid) → IsSameClause (get_or mid d x) l' → (length l'.row.nodes ≡ n) × (length l'.row.rels ≡ m)
sized_put n m mid d x l' low all same =
    let was = subst (AreLevels n m) (drop_more mid d x low) all in
    (same.nodes ∙ was.1.0, same.rels ∙ was.1.1)

pub levels_sized : (n m : ℕ) (w : Wide) (ls ls' : List ClauseLevel) → length w.nodes ≡ n → length w.rels ≡ m → ls' ≡ ls → AreLevels n m ls → AreLevels (length w.nodes) (length w.rels) ls'
levels_sized n m w ls ls' e f is all = subst (λ (t : ℕ × (ℕ × List ClauseLevel)). AreLevels t.0 t.1.0 t.1.1) (λ i. (sym e i, (sym f i, sym is i))) all
