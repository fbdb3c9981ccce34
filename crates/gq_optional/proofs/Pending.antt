-- What is left of a clause at work, from one alternative to the next and from one match to the next.
use Rattle.std.proofs.Common.{◌≡◌, ◌∙◌, ℕ, ◌+◌, ◌<◌, List, [], ◌∷◌, ◌++◌, map, drop, get_or, length, refl, sym, ap, subst}
use Rattle.std.proofs.lemmas.List.{drop_more}
use Rattle.gq_base.specs.Plain.{Graph}
use Rattle.gq_expr.specs.Reading as reading
use Rattle.gq_plan.specs.Assignments as plain
use Rattle.gq_plan.specs.Marked.{Marked, marks}
use Rattle.gq_plan.specs.Outcomes.{meanings_of}
use Rattle.gq_outer.specs.Clauses.{joined, with_match}
use Rattle.gq_eval.specs.Judged.{marks_of}
use Rattle.gq_outer.specs.Rows.{read}
use Rattle.gq_eval.specs.declared.judging.Verdict.{Verdict}
use Rattle.gq_optional.specs.declared.clause.Clause.{Clause}
use Rattle.gq_optional.specs.declared.clause.Matches.{Matches}
use Rattle.gq_optional.specs.declared.clause_level.Found.{Found}
use Rattle.gq_optional.specs.declared.clause_level.ClauseLevel.{ClauseLevel}
use Rattle.gq_optional.specs.steps.Levels.{AreRowsOf, FindsNext, HasRows, IsSameClause, agreeing_in, left_of, matches_left, pending, pending_of}
use Rattle.gq_optional.specs.steps.Listed.{agreeing, match_at}
use Rattle.gq_optional.proofs.Made.{joined_by}

pub drop_here : {X : Type 0} (xs : List X) (i : ℕ) (x : X) → i < length xs → x ≡ get_or xs i x → drop i xs ≡ x ∷ drop (i + 1) xs
drop_here xs i x low e = drop_more xs i x low ∙ ap (λ y. y ∷ drop (i + 1) xs) (sym e)

-- ---- alternatives

module _ (c : Clause) (row : reading.Assignment) where
  pub pending_none : (ms : List Matches) → ms ≡ [] → pending_of c row ms [] ≡ agreeing_in c row ms
  pending_none ms e = subst (λ l. pending_of c row l [] ≡ agreeing_in c row l) (sym e) refl

  pub pending_some : (ms rest : List Matches) (m : Matches) (rows : List ℕ) → ms ≡ m ∷ rest → map (match_at m) rows ≡ agreeing c.shared c.part.now.nodes row m
      → pending_of c row ms rows ≡ agreeing_in c row ms
  pending_some ms rest m rows e f = subst (λ l. pending_of c row l rows ≡ agreeing_in c row l) (sym e) (ap (λ l. l ++ agreeing_in c row rest) f)

-- ---- matches

abbrev left_by : Graph → Clause → reading.Assignment → ℕ → List ℕ → ℕ → List Marked
left_by g c row at rows next = joined g c.part.now row (pending_of c row (drop at c.matches.items) (drop next rows))

pub same_then : (a b c : ClauseLevel) → IsSameClause a b → IsSameClause b c → IsSameClause a c
same_then a b c e f = record { clause = f.clause ∙ e.clause; nodes = f.nodes ∙ e.nodes; rels = f.rels ∙ e.rels }

pub rows_stay : (mid new : ClauseLevel) → new.clause.now ≡ mid.clause.now → new.at ≡ mid.at → new.rows.now ≡ mid.rows.now → HasRows mid → HasRows new
rows_stay mid new c at rows h = subst (λ (l : Clause × (ℕ × List ℕ)). AreRowsOf (drop l.1.0 l.0.matches.items) l.1.1) (sym (λ i. (c i, (at i, rows i)))) h

module _ (g : Graph) (row : reading.Assignment) where
  -- no alternative is left
  pub over_left : (l : ClauseLevel) → matches_left l ≡ [] → left_of g row l ≡ []
  over_left l e = ap (λ ms. joined g l.clause.now.part.now row (pending_of l.clause.now row ms (drop l.next l.rows.now))) e

  pub found_left : (old mid new : ClauseLevel) (f : Found) → FindsNext row old f mid → mid.clause.now ≡ old.clause.now → new.clause.now ≡ mid.clause.now → new.at ≡ mid.at → new.rows.now ≡ mid.rows.now → new.next ≡ mid.next
      → read new.row ≡ with_match mid.clause.now.part.now.nodes mid.clause.now.part.now.rels row (match_at f.matches.now f.at)
      → (v : Verdict) → marks_of v ≡ marks (meanings_of g (read new.row) new.clause.now.part.now.conjuncts)
      → left_of g row old ≡ map (λ m. record { row = read new.row; mark = m }) (marks_of v) ++ left_of g row new
  found_left old mid new f finds ec en ea er ex is v e =
      let whole : new.clause.now ≡ old.clause.now = en ∙ ec in
      ap (λ l. joined g old.clause.now.part.now row l) finds.next
      ∙ joined_by g old.clause.now.part.now row (read new.row) (match_at f.matches.now f.at) (pending row mid)
      (is ∙ ap (λ (c : Clause). with_match c.part.now.nodes c.part.now.rels row (match_at f.matches.now f.at)) ec) v
      (e ∙ ap (λ (c : Clause). marks (meanings_of g (read new.row) c.part.now.conjuncts)) whole)
      ∙ ap (λ l. map (λ m. record { row = read new.row; mark = m }) (marks_of v) ++ l)
      (ap (λ (c : Clause). joined g c.part.now row (pending row mid)) (sym ec) ∙ sym (λ i. left_by g (en i) row (ea i) (er i) (ex i)))

  -- a look-up begins with all matches that agree
  pub begun_left : (l : ClauseLevel) (c : Clause) (ms : List plain.Assignment) → l.clause.now ≡ c → pending row l ≡ ms → left_of g row l ≡ joined g c.part.now row ms
  begun_left l c ms e f = λ i. joined g (e i).part.now row (f i)
