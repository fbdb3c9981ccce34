-- Rows that clauses make one behind another: the first one, the next one, and what is left behind it.
use Rattle.std.proofs.Common.{◌≡◌, ◌∙◌, ℕ, ◌+◌, ◌<◌, Bool, List, [], ◌∷◌, ◌++◌, drop, take, get_or, filter, flat_map, length, map, refl, sym, ap, subst, arith, Option}
use Rattle.std.specs.Prelude.{slice_set}
use Rattle.std.proofs.lemmas.List.{drop_more}
use Rattle.gq_base.specs.Plain.{Graph}
use Rattle.gq_expr.specs.Reading as reading
use Rattle.gq_expr.specs.declared.Fault.{Fault}
use Rattle.gq_plan.specs.Assignments as plain
use Rattle.gq_plan.specs.Marked.{Marked}
use Rattle.gq_plan.specs.Soundness.{has_number}
use Rattle.gq_outer.specs.Clauses.{after_clause, after_clauses, joined, or_alone, unless_marked, unmarked}
use Rattle.gq_outer.specs.Rows.{Wide, read}
use Rattle.gq_optional.specs.steps.Walks.{AreShared, lists_of, parts_of}
use Rattle.gq_optional.specs.declared.clause.Clause.{Clause}
use Rattle.gq_optional.specs.declared.clause_level.ClauseLevel.{ClauseLevel}
use Rattle.gq_optional.specs.steps.Levels.{AreLevels, HasRows, IsLevel, IsSameClause, clauses_of, last_mark, last_row, last_wide, left_of, made_by, made_by_all, now_at, still}
use Rattle.gq_optional.specs.steps.Listed.{list_of}
use Rattle.gq_optional.specs.steps.Looked.{agrees_by}
use Rattle.gq_optional.proofs.Keyed.{agrees_shared}
use Rattle.gq_optional.proofs.Made.{all_begun}
use Rattle.gq_optional.proofs.Turned.{drop_turned}

-- ---- levels

-- a level, changed, in front of those behind it
pub levels_behind : (n m : ℕ) (l l' : ClauseLevel) (ls' : List ClauseLevel) → IsLevel l' → HasRows l' → IsSameClause l l' → (length l.row.nodes ≡ n) × (length l.row.rels ≡ m)
    → AreLevels (length l'.row.nodes) (length l'.row.rels) ls' → AreLevels n m (l' ∷ ls')
levels_behind n m l l' ls' level rows same wide all =
    let en : length l'.row.nodes ≡ n = same.nodes ∙ wide.0 in
    let em : length l'.row.rels ≡ m = same.rels ∙ wide.1 in
    ((level, rows), (en, em), subst (λ k. AreLevels k m ls') en (subst (λ k. AreLevels (length l'.row.nodes) k ls') em all))

module _ (g : Graph) where
  pub begun_levels : (row : reading.Assignment) (m : Marked) (l l' : ClauseLevel) (ls ls' : List ClauseLevel) → made_by g l.clause.now m ≡ now_at l' ∷ left_of g row l'
      → made_by_all g (clauses_of ls) (now_at l') ≡ last_row (now_at l') ls' ∷ still g (read l'.row) ls' → clauses_of ls' ≡ clauses_of ls
      → made_by_all g (clauses_of (l ∷ ls)) m ≡ last_row m (l' ∷ ls') ∷ still g row (l' ∷ ls')
  begun_levels row m l l' ls ls' e f same =
      all_begun g l.clause.now (clauses_of ls) m (now_at l') (last_row (now_at l') ls') (left_of g row l') (still g (read l'.row) ls') e f
      ∙ ap (λ cs. last_row (now_at l') ls' ∷ (still g (read l'.row) ls' ++ flat_map (made_by_all g cs) (left_of g row l'))) (sym same)

  -- where a row is left, some level stands, so the last row does not hang on what came to them
  pub last_any : (row : reading.Assignment) (m m' : Marked) (old new : List ClauseLevel) (x : Marked) (rest : List Marked) → still g row old ≡ x ∷ rest → clauses_of new ≡ clauses_of old → last_row m new ≡ last_row m' new
  last_any row m m' [] new x rest e same = absurd (omega (arith, ap length e))
  last_any row m m' (o ∷ os) [] x rest e same = absurd (omega (arith, ap length same))
  last_any row m m' (o ∷ os) (l ∷ ls) x rest e same = refl

  pub stepped_behind : (row : reading.Assignment) (l : ClauseLevel) (ls ls' : List ClauseLevel) → still g (read l.row) ls ≡ last_row (unmarked (read l.row)) ls' ∷ still g (read l.row) ls' → clauses_of ls' ≡ clauses_of ls
      → still g row (l ∷ ls) ≡ last_row (unmarked row) (l ∷ ls') ∷ still g row (l ∷ ls')
  stepped_behind row l ls ls' e same =
      ap (λ rs. rs ++ flat_map (made_by_all g (clauses_of ls)) (left_of g row l)) e
      ∙ ap (λ cs. last_row (unmarked (read l.row)) ls' ∷ (still g (read l.row) ls' ++ flat_map (made_by_all g cs) (left_of g row l))) (sym same)
      ∙ ap (λ x. x ∷ (still g (read l.row) ls' ++ flat_map (made_by_all g (clauses_of ls')) (left_of g row l)))
      (last_any (read l.row) (unmarked (read l.row)) (now_at l) ls ls' (last_row (unmarked (read l.row)) ls') (still g (read l.row) ls') e same)

  -- the level itself goes on, and those behind it begin anew
  pub stepped_here : (row : reading.Assignment) (l l' : ClauseLevel) (ls ls' : List ClauseLevel) → still g (read l.row) ls ≡ [] → left_of g row l ≡ now_at l' ∷ left_of g row l'
      → made_by_all g (clauses_of ls) (now_at l') ≡ last_row (now_at l') ls' ∷ still g (read l'.row) ls' → clauses_of ls' ≡ clauses_of ls
      → still g row (l ∷ ls) ≡ last_row (unmarked row) (l' ∷ ls') ∷ still g row (l' ∷ ls')
  stepped_here row l l' ls ls' none e f same =
      ap (λ rs. rs ++ flat_map (made_by_all g (clauses_of ls)) (left_of g row l)) none
      ∙ ap (flat_map (made_by_all g (clauses_of ls))) e
      ∙ ap (λ rs. rs ++ flat_map (made_by_all g (clauses_of ls)) (left_of g row l')) f
      ∙ ap (λ cs. last_row (now_at l') ls' ∷ (still g (read l'.row) ls' ++ flat_map (made_by_all g cs) (left_of g row l'))) (sym same)

  -- ---- what clauses make is what optional clauses mean

  made_after : (known : List ℕ) (c : Clause) (m : Marked) → c.shared ≡ map (has_number known) c.part.now.nodes → made_by g c m ≡ after_clause g known c.part.now (list_of c) m
  unfolding after_clause
  made_after known c m e =
      ap (λ (p : plain.Assignment → Bool). unless_marked m m.mark (or_alone m.row (joined g c.part.now m.row (filter p (list_of c)))))
      (λ i t. (ap (λ bs. agrees_by bs c.part.now.nodes m.row.nodes t.nodes) e ∙ sym (agrees_shared known c.part.now.nodes m.row.nodes t.nodes)) i)

  pub all_after : (known : List ℕ) (cs : List Clause) → AreShared known cs → (m : Marked) → made_by_all g cs m ≡ after_clauses g known (parts_of cs) (lists_of cs) m
  unfolding after_clauses
  all_after known [] h m = refl
  all_after known (c ∷ cs) h m =
      ap (flat_map (made_by_all g cs)) (made_after known c m h.0)
      ∙ ap (λ (f : Marked → List Marked). flat_map f (after_clause g known c.part.now (list_of c) m)) (λ i x. all_after (known ++ c.part.now.nodes) cs h.1 x i)

-- ---- the row that stands

pub last_is : (row : Wide) (mark : Option Fault) (ls : List ClauseLevel) → last_row (record { row = read row; mark = mark }) ls ≡ record { row = read (last_wide row ls); mark = last_mark mark ls }
last_is row mark [] = refl
last_is row mark (l ∷ ls) = last_is l.row l.mark ls

-- ---- by index

-- the same of equal clauses, rows and marks
pub moved_row : (g : Graph) (new : List ClauseLevel) (cs cs' : List Clause) (w w' : Wide) (k k' : Option Fault) → cs ≡ cs' → w ≡ w' → k ≡ k'
    → made_by_all g cs (record { row = read w; mark = k }) ≡ last_row (record { row = read w; mark = k }) new ∷ still g (read w) new
    → made_by_all g cs' (record { row = read w'; mark = k' }) ≡ last_row (record { row = read w'; mark = k' }) new ∷ still g (read w') new
moved_row g new cs cs' w w' k k' a b e h =
    subst (λ (t : List Clause × (Wide × Option Fault)). made_by_all g t.0 (record { row = read t.1.0; mark = t.1.1 }) ≡ last_row (record { row = read t.1.0; mark = t.1.1 }) new ∷ still g (read t.1.0) new)
    (λ i. (a i, (b i, e i))) h

module _ (old new : List ClauseLevel) (d : ℕ) (x l' : ClauseLevel) (low : d < length old) (kept : take (d + 1) new ≡ take (d + 1) (slice_set old d l')) where
  abbrev pub l : ClauseLevel
  l = get_or old d x

  pub news : drop d new ≡ l' ∷ drop (d + 1) new
  news = drop_turned old new d l' low kept

  pub olds : drop d old ≡ l ∷ drop (d + 1) old
  olds = drop_more old d x low

  pub levels_from : (n m : ℕ) → AreLevels n m (drop d old) → IsLevel l' → HasRows l' → IsSameClause l l' → (w : Wide) → w ≡ l'.row → AreLevels (length w.nodes) (length w.rels) (drop (d + 1) new) → AreLevels n m (drop d new)
  levels_from n m all level rows same w e behind =
      let here = subst (AreLevels n m) olds all in
      subst (AreLevels n m) (sym news) (levels_behind n m l l' (drop (d + 1) new) level rows same here.1 (subst (λ (v : Wide). AreLevels (length v.nodes) (length v.rels) (drop (d + 1) new)) e behind))

  pub begins_from : (g : Graph) (row : reading.Assignment) (m : Marked) → made_by g l.clause.now m ≡ now_at l' ∷ left_of g row l'
      → made_by_all g (clauses_of (drop (d + 1) old)) (now_at l') ≡ last_row (now_at l') (drop (d + 1) new) ∷ still g (read l'.row) (drop (d + 1) new)
      → clauses_of (drop (d + 1) new) ≡ clauses_of (drop (d + 1) old)
      → made_by_all g (clauses_of (drop d old)) m ≡ last_row m (drop d new) ∷ still g row (drop d new)
  begins_from g row m e f same =
      ap (λ ls. made_by_all g (clauses_of ls) m) olds ∙ begun_levels g row m l l' (drop (d + 1) old) (drop (d + 1) new) e f same
      ∙ ap (λ ls. last_row m ls ∷ still g row ls) (sym news)

  pub clauses_from : IsSameClause l l' → clauses_of (drop (d + 1) new) ≡ clauses_of (drop (d + 1) old) → clauses_of (drop d new) ≡ clauses_of (drop d old)
  clauses_from same behind = ap clauses_of news ∙ (λ i. same.clause i ∷ behind i) ∙ sym (ap clauses_of olds)
