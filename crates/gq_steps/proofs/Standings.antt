-- Groups that stand at their numbers: each of them, and what is known alike of two assignments with which they stand.
use Rattle.std.proofs.Common.{◌≡◌, ℕ, zero, suc, ◌+◌, ◌-◌, ◌<◌, ◌≤◌, Bool, true, cond, Some, None, List, [], ◌∷◌, ◌++◌, length, take, drop, refl, sym, ap, ◌∙◌, subst, arith}
use Rattle.std.specs.Prelude.{slice_index, slice_index_or}
use Rattle.std.proofs.lemmas.List.{append_assoc, append-nil, take_all, take-map, take_more, map_push, take-append-drop}
use Rattle.gq_base.specs.declared.NodeId.{NodeId}
use Rattle.gq_plan.specs.Covers.{after_step}
use Rattle.gq_plan.specs.Halves.{runs_step}
use Rattle.gq_plan.specs.Known.{Known, none}
use Rattle.gq_plan.specs.Meaning.{Partial, nothing}
use Rattle.gq_plan.specs.Rows.{node_at}
use Rattle.gq_plan.specs.declared.assignment.Assignment.{Assignment}
use Rattle.gq_law_groups.specs.Layout.{with_group, known_with, AreFlatEnough, ArePlaced}
use Rattle.gq_search.specs.Layouts.{Layout}
use Rattle.gq_search.specs.Running.{cursor_at, keys_of, prefix, IsGroup, Runs}
use Rattle.gq_search.specs.declared.walker.Cursor.{Cursor}
use Rattle.gq_steps.specs.Levels.{Run, step_at, known}
use Rattle.gq_steps.specs.steps.Lists.{flat_in, rows_in, IsAtStep, Chain, Stands, EarlierStand}
use Rattle.gq_steps.specs.Groups.{group_at, group_in, groups_in, Tiles}
use Rattle.gq_steps.specs.Moves.{IsHeld, IsRun}
use Rattle.gq_steps.specs.declared.group_steps.GroupSteps.{GroupSteps}
use Rattle.gq_steps.proofs.Binding.{looks}

-- ---- one group

runs_from : (l : Layout) (pre : List ℕ) (cs : List Cursor) (ms : List (List Bool)) → Runs l pre cs ms → (i : ℕ) → i < length cs
    → IsGroup l (pre ++ keys_of (take i cs)) (cursor_at cs i) (slice_index_or ms i [])
runs_from l pre [] ms r i low = absurd (omega arith)
runs_from l pre (c ∷ cs) [] r i low = absurd r
runs_from l pre (c ∷ cs) (m ∷ ms) r zero low = subst (λ p. IsGroup l p c m) (sym (append-nil pre)) r.0
runs_from l pre (c ∷ cs) (m ∷ ms) r (suc i) low =
    subst (λ p. IsGroup l p (cursor_at cs i) (slice_index_or ms i [])) (append_assoc pre (c.key ∷ []) (keys_of (take i cs)))
    (runs_from l (pre ++ c.key ∷ []) cs ms r.1 i (omega (arith, low)))

-- the group of a number stands
pub group_runs : (l : Layout) (cs : List Cursor) (ms : List (List Bool)) → Runs l [] cs ms → (i : ℕ) → i < length cs
    → IsGroup l (prefix cs i) (cursor_at cs i) (slice_index_or ms i [])
group_runs l cs ms r i low = runs_from l [] cs ms r i low

-- the numbers of one group more
pub prefix_more : (cs : List Cursor) (i : ℕ) → i < length cs → prefix cs (i + 1) ≡ prefix cs i ++ (cursor_at cs i).key ∷ []
prefix_more cs i low = ap keys_of (take_more cs i Rattle.gq_search.specs.Running.no_cursor low) ∙ map_push (λ (c : Cursor). c.key) (take i cs) (cursor_at cs i)

-- ---- the first groups

chain_part : (c : Run) (rows : ℕ → List Partial) (flat : ℕ → Bool) (row : Assignment) (i d : ℕ) (ss : List GroupSteps) (k : Known) (a : Partial) (pre more : List ℕ)
    → Chain c rows flat row i d ss k a (pre ++ more) → Chain c rows flat row i d ss k a pre
unfolding Chain
chain_part c rows flat row i d ss k a [] [] h = h
chain_part c rows flat row i d [] k a [] (n ∷ more) h = absurd h
chain_part c rows flat row i d (s ∷ ss) k a [] (n ∷ more) h = h.0
chain_part c rows flat row i d [] k a (m ∷ pre) more h = absurd h
chain_part c rows flat row i d (s ∷ ss) k a (m ∷ pre) more h =
    (h.0, chain_part c rows flat row (i + 1) s.end ss (known_with (flat i) (group_in c.steps s) k) (with_group c.graph c.typed rows flat i (group_in c.steps s) a m) pre more h.1)

-- the first groups of those that stand do
stands_start : (c : Run) (ss : List GroupSteps) (row : Assignment) (pre : List ℕ) (i : ℕ) → Stands c ss row pre → Stands c ss row (take i pre)
stands_start c ss row pre i s = record {
  runs = s.runs;
  grouped = s.grouped;
  chain = chain_part c (rows_in c ss) (flat_in ss) row 0 0 ss none nothing (take i pre) (drop i pre) (subst (Chain c (rows_in c ss) (flat_in ss) row 0 0 ss none nothing) (sym (take-append-drop i pre)) s.chain);
}

take_less : {X : Type 0} (i n : ℕ) (xs : List X) → i ≤ n → take i (take n xs) ≡ take i xs
take_less zero n xs low = refl
take_less (suc i) zero xs low = absurd (omega (arith, low))
take_less (suc i) (suc n) [] low = refl
take_less (suc i) (suc n) (x ∷ xs) low = ap (λ l. x ∷ l) (take_less i n xs (omega (arith, low)))

-- where the groups but the last one stand, the groups before any one do
pub stands_part : (c : Run) (ss : List GroupSteps) (row : Assignment) (cs : List Cursor) (i : ℕ) → i < length ss → EarlierStand c ss row (keys_of cs) → Stands c ss row (prefix cs i)
stands_part c ss row cs i low s =
    subst (Stands c ss row) (take_less i (length ss - 1) (keys_of cs) (omega (arith, low)) ∙ take-map (λ (c : Cursor). c.key) i cs)
    (stands_start c ss row (take (length ss - 1) (keys_of cs)) i s)

pub stand_early : (c : Run) (ss : List GroupSteps) (row : Assignment) (pre : List ℕ) → Stands c ss row pre → EarlierStand c ss row pre
stand_early c ss row pre s = stands_start c ss row pre (length ss - 1) s

-- numbers of groups but the last one are all of those
pub stands_at : (c : Run) (ss : List GroupSteps) (row : Assignment) (depth : ℕ) → depth < length ss → (pre : List ℕ) → length pre ≡ depth → EarlierStand c ss row pre → Stands c ss row pre
stands_at c ss row depth inside pre long s = subst (Stands c ss row) (take_all (length ss - 1) pre (omega (arith, inside, long))) s

-- ---- two assignments with which the first groups stand

pub record Met (c : Run) (one two : Assignment) (s : GroupSteps) : Type 0 where
  pub set : Known
  pub bound : Partial
  pub fit : runs_step c.graph.catalog c.typed (step_at c s.first) set ≡ true
  pub placed : ArePlaced c.graph.catalog c.typed (group_in c.steps s).checks (after_step (step_at c s.first) set)
  pub old : IsAtStep c one s.first set bound
  pub new : IsAtStep c two s.first set bound

meet : (c : Run) (rows : ℕ → List Partial) (flat : ℕ → Bool) (one two : Assignment) (ss : List GroupSteps) (i d : ℕ) (k : Known) (a : Partial) (pre : List ℕ) → Tiles c d ss
    → AreFlatEnough c.graph.catalog c.typed flat i (groups_in c ss) k → length pre < length ss → Chain c rows flat one i d ss k a pre → Chain c rows flat two i d ss k a pre → Met c one two (group_at ss (length pre))
unfolding Chain
meet c rows flat one two [] i d k a pre tiles enough low h e = absurd (omega (arith, low))
meet c rows flat one two (s ∷ ss) i d k a [] tiles enough low h e =
    let at : s.first ≡ d = tiles.0 in
    record {
      set = k;
      bound = a;
      fit = enough.0;
      placed = enough.1;
      old = subst (λ n. IsAtStep c one n k a) (sym at) h;
      new = subst (λ n. IsAtStep c two n k a) (sym at) e;
    }
meet c rows flat one two (s ∷ ss) i d k a (m ∷ pre) tiles enough low h e =
    meet c rows flat one two ss (i + 1) s.end (known_with (flat i) (group_in c.steps s) k) (with_group c.graph c.typed rows flat i (group_in c.steps s) a m) pre tiles.3 enough.2 (omega (arith, low)) h.1 e.1

pub both_stand : (c : Run) (ss : List GroupSteps) (one two : Assignment) (pre : List ℕ) → length pre < length ss → Stands c ss one pre → Stands c ss two pre → Met c one two (group_at ss (length pre))
both_stand c ss one two pre low h e = meet c (rows_in c ss) (flat_in ss) one two ss 0 0 none nothing pre h.grouped.tiles h.grouped.enough low h.chain e.chain

-- what the next group reads is the same
module _ (c : Run) (run : IsRun c) (one two : Assignment) (s : GroupSteps) (m : Met c one two s) where
  pub same_row : (v : ℕ) → m.set.nodes v ≡ true → (known c s.first).nodes v ≡ true → slice_index one.nodes v ≡ slice_index two.nodes v
  same_row v set known_there =
      let here : Some (node_at c.typed one v) ≡ Some (node_at c.typed two v) =
      sym ((looks c run one s.first).nodes v ∙ ap (λ b. cond b (Some (node_at c.typed one v)) None) known_there)
      ∙ sym (m.old.bound.nodes v set) ∙ m.new.bound.nodes v set
      ∙ (looks c run two s.first).nodes v ∙ ap (λ b. cond b (Some (node_at c.typed two v)) None) known_there in
      row_of_some (node_at c.typed one v) (node_at c.typed two v) here
    where
      row_of_some : (m n : NodeId) → Some m ≡ Some n → m.row ≡ n.row
      row_of_some m n e = let same : m ≡ n = cc e in ap (λ (n : NodeId). n.row) same

-- ---- all groups

last_of : (c : Run) (rows : ℕ → List Partial) (flat : ℕ → Bool) (row : Assignment) (ss : List GroupSteps) (i d : ℕ) (k : Known) (a : Partial) (pre : List ℕ) → Tiles c d ss → length pre ≡ length ss
    → Chain c rows flat row i d ss k a pre → IsHeld c row (known c (length c.steps))
unfolding Chain
last_of c rows flat row [] i d k a [] tiles many h = subst (λ n. IsHeld c row (known c n)) tiles h.held
last_of c rows flat row [] i d k a (m ∷ pre) tiles many h = absurd h
last_of c rows flat row (s ∷ ss) i d k a [] tiles many h = absurd (omega (arith, many))
last_of c rows flat row (s ∷ ss) i d k a (m ∷ pre) tiles many h =
    last_of c rows flat row ss (i + 1) s.end (known_with (flat i) (group_in c.steps s) k) (with_group c.graph c.typed rows flat i (group_in c.steps s) a m) pre tiles.3 (omega (arith, many)) h.1

pub all_held : (c : Run) (ss : List GroupSteps) (row : Assignment) (pre : List ℕ) → length pre ≡ length ss → Stands c ss row pre → IsHeld c row (known c (length c.steps))
all_held c ss row pre many s = last_of c (rows_in c ss) (flat_in ss) row ss 0 0 none nothing pre s.grouped.tiles many s.chain

-- a group's steps are steps of the plan, and lie before those of the next one
pub record IsWithin (c : Run) (s : GroupSteps) : Type 0 where
  pub some : s.first < s.end
  pub inside : s.end ≤ length c.steps

pub tile_at : (c : Run) (d : ℕ) (ss : List GroupSteps) → Tiles c d ss → (i : ℕ) → i < length ss → IsWithin c (group_at ss i)
tile_at c d [] h i low = absurd (omega arith)
tile_at c d (s ∷ ss) h zero low = record { some = h.1; inside = h.2 }
tile_at c d (s ∷ ss) h (suc i) low = tile_at c s.end ss h.3 i (omega (arith, low))
