use Rattle.std.proofs.Common.{◌≡◌, ◌∙◌, ◌+◌, ◌-◌, ◌≤◌, ℕ, zero, suc, min, List, ◌∷◌, length, take, drop, refl, arith, false, sym, ap, subst}
use Rattle.std.specs.List.{range_with_len}
use Rattle.std.proofs.lemmas.List.FromFn.{length-range_with_len}
use Rattle.gq_bits.specs.declared.TheConstants.{VECTOR}
use Rattle.gq_group.specs.declared.piece.Piece.TheVariants as piece
use Rattle.gq_steps.specs.Levels.{step_at}
use Rattle.gq_steps.specs.Moves.{run_of}
use Rattle.gq_steps.specs.Pieces.{list_of, part, HasForm}
use Rattle.gq_steps.specs.declared.action.Action.TheVariants as act
use Rattle.gq_steps.proofs.Acting.{acts, no_other}
use Rattle.gq_steps.proofs.Piecing.{listed_is}
use Rattle.gq_steps.proofs.Trying.{low_step, scan_low, extend_can, extend_goes, close_can, close_goes}
use Rattle.gq_steps.proofs.plan_run.PlanRun.piece.Goals as goal
use Rattle.gq_steps.proofs.plan_run.PlanRun.piece.Goals.{In-Join}

-- a part of a range
drop_range : (a n k : ℕ) → k ≤ n → drop k (range_with_len a n) ≡ range_with_len (a + k) (n - k)
drop_range a n zero h =
    let e : a + 0 ≡ a = omega arith in
    let z : n ≡ n - 0 = omega arith in
    ap (λ b. range_with_len b n) (sym e) ∙ ap (range_with_len (a + 0)) z
drop_range a zero (suc k) h = absurd (omega (arith, h))
drop_range a (suc n) (suc k) h =
    let e : a + 1 + k ≡ a + suc k = omega arith in
    let f : n - k ≡ suc n - suc k = omega arith in
    drop_range (a + 1) n k (omega (arith, h)) ∙ ap (λ b. range_with_len b (n - k)) e ∙ ap (range_with_len (a + suc k)) f

take_range : (a n k : ℕ) → take k (range_with_len a n) ≡ range_with_len a (min k n)
take_range a n zero = let e : min 0 n ≡ 0 = omega arith in ap (range_with_len a) (sym e)
take_range a zero (suc k) = let e : min (suc k) 0 ≡ 0 = omega arith in ap (range_with_len a) (sym e)
take_range a (suc n) (suc k) = let e : min (suc k) (suc n) ≡ suc (min k n) = omega arith in ap (λ l. a ∷ l) (take_range (a + 1) n k) ∙ ap (range_with_len a) (sym e)

part_range : (n first high : ℕ) → first ≤ n → high ≡ first + min VECTOR (n - first) → range_with_len first (high - first) ≡ part (range_with_len 0 n) first
part_range n first high low is =
    let e : high - first ≡ min VECTOR (n - first) = omega (arith, is) in
    let z : 0 + first ≡ first = omega arith in
    ap (range_with_len first) e ∙ ap (λ b. range_with_len b (min VECTOR (n - first))) (sym z) ∙ sym (take_range (0 + first) (n - first) VECTOR) ∙ ap (take VECTOR) (sym (drop_range 0 n first low))

pub row_count-requires-clause-node : goal.row_count-requires-clause-node
row_count-requires-clause-node c = scan_low (run_of c.args.self.now) c.requires.run c.args.group.first (low_step c.args.self.now c.args.group.first c.requires.step) c.args.row.now c.requires.held c.in-Scan.node (acts c.args.self.now c.args.group.first c.args.group.action (act.Scan c.in-Scan.node) c.requires.action c.in-Scan.is)

pub end_of-requires : goal.end_of-requires
end_of-requires c =
    let inside = subst (λ t. c.args.first ≤ length (list_of (run_of c.args.self.now) c.args.group.first c.args.row.now t)) (acts c.args.self.now c.args.group.first c.args.group.action (act.Scan c.in-Scan.node) c.requires.action c.in-Scan.is) c.requires.first in
    omega (arith, inside, c.row_count.ensures, length-range_with_len 0 c.row_count.result, ap (λ n. length (range_with_len 0 n)) c.row_count.ensures)

pub returns-in-Scan : goal.returns-in-Scan
returns-in-Scan c =
    let is = acts c.args.self.now c.args.group.first c.args.group.action (act.Scan c.in-Scan.node) c.requires.action c.in-Scan.is in
    let inside = subst (λ t. c.args.first ≤ length (list_of (run_of c.args.self.now) c.args.group.first c.args.row.now t)) is c.requires.first in
    record {
      form = subst (λ t. HasForm t (piece.Span c.args.first c.end_of.result)) (sym is) tt;
      first_is = refl;
      items_are =
          part_range c.row_count.result c.args.first c.end_of.result
          (omega (arith, inside, c.row_count.ensures, length-range_with_len 0 c.row_count.result, ap (λ n. length (range_with_len 0 n)) c.row_count.ensures))
          c.end_of.ensures
          ∙ ap (λ n. part (range_with_len 0 n) c.args.first) c.row_count.ensures
          ∙ ap (λ t. part (list_of (run_of c.args.self.now) c.args.group.first c.args.row.now t) c.args.first) (sym is);
    }

pub list-requires : goal.list-requires
list-requires c =
    let is = acts c.args.self.now c.args.group.first c.args.group.action (act.List c.in-List.follow) c.requires.action c.in-List.is in
    record {
      follow = extend_can (run_of c.args.self.now) c.requires.run c.args.group.first (low_step c.args.self.now c.args.group.first c.requires.step) c.args.row.now c.requires.held false c.in-List.follow.rel c.in-List.follow.from c.in-List.follow.to c.in-List.follow.direction is;
      listed = listed_is (run_of c.args.self.now) c.in-List.follow.from c.in-List.follow.to c.in-List.follow.rel c.in-List.follow.direction (extend_goes (run_of c.args.self.now) c.requires.run c.args.group.first (low_step c.args.self.now c.args.group.first c.requires.step) c.args.row.now c.requires.held false c.in-List.follow.rel c.in-List.follow.from c.in-List.follow.to c.in-List.follow.direction is);
    }

pub part-requires : goal.part-requires
part-requires c = subst (λ l. c.args.first ≤ length l) (ap (list_of (run_of c.args.self.now) c.args.group.first c.args.row.now) (acts c.args.self.now c.args.group.first c.args.group.action (act.List c.in-List.follow) c.requires.action c.in-List.is) ∙ sym c.list.ensures.value) c.requires.first

pub returns-in-List : goal.returns-in-List
returns-in-List c =
    let is = acts c.args.self.now c.args.group.first c.args.group.action (act.List c.in-List.follow) c.requires.action c.in-List.is in
    record {
      form = subst (λ t. HasForm t (piece.List c.part.result c.args.first)) (sym is) tt;
      first_is = refl;
      items_are = c.part.ensures ∙ ap (λ l. part l c.args.first) (c.list.ensures.value ∙ ap (list_of (run_of c.args.self.now) c.args.group.first c.args.row.now) (sym is));
    }

pub list-requires-in-Close : goal.list-requires-in-Close
list-requires-in-Close c =
    let is = acts c.args.self.now c.args.group.first c.args.group.action (act.Close c.in-Close.follow) c.requires.action c.in-Close.is in
    record {
      follow = close_can (run_of c.args.self.now) c.requires.run c.args.group.first (low_step c.args.self.now c.args.group.first c.requires.step) c.args.row.now c.requires.held false c.in-Close.follow.rel c.in-Close.follow.from c.in-Close.follow.to c.in-Close.follow.direction is;
      listed = listed_is (run_of c.args.self.now) c.in-Close.follow.from c.in-Close.follow.to c.in-Close.follow.rel c.in-Close.follow.direction (close_goes (run_of c.args.self.now) c.requires.run c.args.group.first (low_step c.args.self.now c.args.group.first c.requires.step) c.args.row.now c.requires.held false c.in-Close.follow.rel c.in-Close.follow.from c.in-Close.follow.to c.in-Close.follow.direction is);
    }

pub part-requires-in-Close : goal.part-requires-in-Close
part-requires-in-Close c = subst (λ l. c.args.first ≤ length l) (ap (list_of (run_of c.args.self.now) c.args.group.first c.args.row.now) (acts c.args.self.now c.args.group.first c.args.group.action (act.Close c.in-Close.follow) c.requires.action c.in-Close.is) ∙ sym c.list-in-Close.ensures.value) c.requires.first

pub returns-in-Close : goal.returns-in-Close
returns-in-Close c =
    let is = acts c.args.self.now c.args.group.first c.args.group.action (act.Close c.in-Close.follow) c.requires.action c.in-Close.is in
    record {
      form = subst (λ t. HasForm t (piece.List c.part-in-Close.result c.args.first)) (sym is) tt;
      first_is = refl;
      items_are = c.part-in-Close.ensures ∙ ap (λ l. part l c.args.first) (c.list-in-Close.ensures.value ∙ ap (list_of (run_of c.args.self.now) c.args.group.first c.args.row.now) (sym is));
    }

-- the matches are the whole list
whole : (c : In-Join) → c.args.matches.now ≡ list_of (run_of c.args.self.now) c.args.group.first c.args.row.now (step_at (run_of c.args.self.now) c.args.group.first)
whole c =
    let j = acts c.args.self.now c.args.group.first c.args.group.action act.Join c.requires.action c.in-Join.is in
    c.requires.matches.are j.0 j.1 j.2 ∙ ap (list_of (run_of c.args.self.now) c.args.group.first c.args.row.now) (sym j.2)

pub part-requires-in-Join : goal.part-requires-in-Join
part-requires-in-Join c = subst (λ l. c.args.first ≤ length l) (sym (whole (goal.at.part-requires-in-Join c).In-Join)) c.requires.first

pub returns-in-Join : goal.returns-in-Join
returns-in-Join c = record {
  form = let j = acts c.args.self.now c.args.group.first c.args.group.action act.Join c.requires.action c.in-Join.is in subst (λ t. HasForm t (piece.Matches c.part-in-Join.result c.args.first)) (sym j.2) tt;
  first_is = refl;
  items_are = c.part-in-Join.ensures ∙ ap (λ l. part l c.args.first) (whole (goal.at.returns-in-Join c).In-Join);
}

pub unreachable-requires : goal.unreachable-requires
unreachable-requires c = no_other c.args.self.now c.args.group.first c.args.group.action c.requires.action c.requires.makes c.in_default.not-Scan c.in_default.not-List c.in_default.not-Close c.in_default.not-Join
