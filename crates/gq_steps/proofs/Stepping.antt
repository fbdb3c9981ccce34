-- Each kind of step: what it does to rows and load numbers is what the plan's step makes at the place.
use Rattle.std.proofs.Common.{◌≡◌, ◌≢◌, ℕ, zero, suc, ◌+◌, ◌^◌, ◌<◌, ◌≤◌, Bool, true, false, not, ◌&&◌, ◌||◌, nat_eq, Option, Some, None, List, [], ◌∷◌, map, length, drop, get_or, set, slice_get, option_map, refl, sym, ap, ap₂, ◌∙◌, subst, arith, zero-add, inl, inr, ◌⊎◌, true≢false}
use Rattle.std.specs.Prelude.{slice_index, All}
use Rattle.std.specs.List.{list_any, range_with_len}
use Rattle.std.proofs.lemmas.Bool.{eqb-true, eq-eqb, ne_eqb, ltb-true, and_parts, or_cases}
use Rattle.std.proofs.lemmas.List.{drop_more, drop_all, get_or-set_same, get_or-set_other, length-set}
use Rattle.std.proofs.lemmas.List.FromFn.{length-range_with_len, get_or-range_with_len}
use Rattle.std.proofs.lemmas.Option.{slice_get_within, get_or_from_slice_get}
use Rattle.gq_base.specs.Directions.{opposite}
use Rattle.gq_base.specs.Plain.{Graph, rows_at}
use Rattle.gq_base.specs.Valid.{row_count}
use Rattle.gq_base.specs.declared.RelId.{RelId}
use Rattle.gq_base.specs.declared.RelTable.{RelTable}
use Rattle.gq_base.specs.declared.direction.Direction.{Direction}
use Rattle.gq_base.specs.declared.direction.Direction.TheVariants.{Forward, Backward}
use Rattle.gq_plan.specs.Allowed.{at_same}
use Rattle.gq_plan.specs.Assignments.{nodes_of}
use Rattle.gq_plan.specs.Covers.{after_step, fits_step, goes, start_of, end_of}
use Rattle.gq_plan.specs.Halves.{runs_step}
use Rattle.gq_plan.specs.Known as known_by
use Rattle.gq_plan.specs.Known.{Known}
use Rattle.gq_plan.specs.Meaning.{Partial, with_node, with_rel, look, far, arrive, holds, keep_if, rels_from}
use Rattle.gq_plan.specs.Soundness.{EndsFit}
use Rattle.gq_plan.specs.Plans.{Step, Scan, Extend, Close, Single}
use Rattle.gq_plan.specs.declared.typed.Typed.{Typed}
use Rattle.gq_plan.specs.declared.typed.TypedRel.{TypedRel}
use Rattle.gq_store.specs.Neighbours.{near_rows, neighbours, numbers, end_rows}
use Rattle.gq_steps.specs.steps.Hops.{IsHop}
use Rattle.gq_steps.specs.Levels.{Run, step_at, built_at, taken, known, before}
use Rattle.gq_steps.specs.Moves.{IsRun, IsHeld, IsAlike, IsMade, IsMissed, IsPast}
use Rattle.gq_steps.specs.steps.Outcomes.{with_row, with_number}
use Rattle.gq_plan.specs.Rows.{table_of, node_table, rel_table, node_at}
use Rattle.gq_steps.specs.Tries.{tries}
use Rattle.gq_plan.specs.declared.assignment.Assignment.{Assignment}
use Rattle.gq_steps.specs.declared.follow.Hop.{Hop}
use Rattle.gq_steps.proofs.Followed.{near_table, far_table, rel, get_some, hop_leads, hop_next, hop_none, rels_met}

-- ---- what is known is there

pub not_true : (b : Bool) → not b ≡ true → b ≡ false
not_true true h = absurd (true≢false (sym h))
not_true false h = refl

pub holds_some : {X : Type 0} (p : X → Bool) (o : Option X) → holds p o ≡ true → (x : X) × (o ≡ Some x) × (p x ≡ true)
holds_some p None h = absurd (true≢false (sym h))
holds_some p (Some x) h = (x, refl, h)

all_at : {X : Type 0} (P : X → Type 0) (xs : List X) → All P xs → (i : ℕ) (x : X) → slice_get xs i ≡ Some x → P x
all_at P xs h i x e = subst P (get_or_from_slice_get xs i x x e) (h i x (slice_get_within xs i x e))

-- how a relationship variable is followed from a node variable that is bound to another one
pub record Follows (c : Run) (x from to : ℕ) (way : Direction) : Type 0 where
  pub found : TypedRel
  pub table : RelTable
  pub rel_is : slice_get c.typed.rels x ≡ Some found
  pub table_at : slice_get c.graph.catalog.rels found.table ≡ Some table
  pub table_is : slice_get c.graph.catalog.rels (rel_table c.typed x) ≡ Some table
  pub near : slice_get c.typed.nodes from ≡ Some (near_table way table)
  pub far : slice_get c.typed.nodes to ≡ Some (far_table way table)

module _ (c : Run) (run : IsRun c) where
  pub follows : (column : Bool) (x from to : ℕ) (way : Direction) → holds (goes c.graph.catalog column from to way) (slice_get c.typed.rels x) ≡ true → Follows c x from to way
  follows column x from to way h =
      let r = holds_some (goes c.graph.catalog column from to way) (slice_get c.typed.rels x) h in
      let both = and_parts (nat_eq from (start_of way r.0) && nat_eq to (end_of way r.0)) _ r.2 in
      let ends = and_parts (nat_eq from (start_of way r.0)) (nat_eq to (end_of way r.0)) both.0 in
      let fit : EndsFit c.graph.catalog c.typed r.0 = all_at (EndsFit c.graph.catalog c.typed) c.typed.rels run.sound.ends x r.0 r.1 in
      let k = get_some c.graph.catalog.rels r.0.table fit.table in
      let source : slice_get c.typed.nodes r.0.source ≡ Some k.0.from = fit.source ∙ ap (option_map (λ (t : RelTable). t.from)) k.1 in
      let target : slice_get c.typed.nodes r.0.target ≡ Some k.0.to = fit.target ∙ ap (option_map (λ (t : RelTable). t.to)) k.1 in
      record {
        found = r.0;
        table = k.0;
        rel_is = r.1;
        table_at = k.1;
        table_is = ap (λ o. slice_get c.graph.catalog.rels (table_of o)) r.1 ∙ k.1;
        near = ap (slice_get c.typed.nodes) (eqb-true from _ ends.0) ∙ start way r.0 k.0 source target;
        far = ap (slice_get c.typed.nodes) (eqb-true to _ ends.1) ∙ end way r.0 k.0 source target;
      }
    where
      start : (way : Direction) (r : TypedRel) (k : RelTable) → slice_get c.typed.nodes r.source ≡ Some k.from → slice_get c.typed.nodes r.target ≡ Some k.to → slice_get c.typed.nodes (start_of way r) ≡ Some (near_table way k)
      start Forward r k s t = s
      start Backward r k s t = t

      end : (way : Direction) (r : TypedRel) (k : RelTable) → slice_get c.typed.nodes r.source ≡ Some k.from → slice_get c.typed.nodes r.target ≡ Some k.to → slice_get c.typed.nodes (end_of way r) ≡ Some (far_table way k)
      end Forward r k s t = t
      end Backward r k s t = s

  -- ---- rows and load numbers that are written

  module _ (old : Assignment) (k : Known) (held : IsHeld c old k) where
    pub held_node : (v r : ℕ) → k.nodes v ≡ false → v < length c.typed.nodes → r < row_count c.graph.nodes (node_table c.typed v) → IsHeld c (with_row v r old) (known_by.with_node v k)
    held_node v r new low inside = record {
      node_count = length-set old.nodes v r ∙ held.node_count;
      rel_count = held.rel_count;
      nodes = λ w h. (let hw = held.nodes w in elim (or_cases (nat_eq w v) (k.nodes w) h) [ inl e ↦ subst (λ u. u < length c.typed.nodes) (sym (eqb-true w v e)) low | inr e ↦ hw e ]);
      rels = held.rels;
      rows = λ w h. at w (or_cases (nat_eq w v) (k.nodes w) h);
    }
      where
        at : (w : ℕ) → (nat_eq w v ≡ true) ⊎ (k.nodes w ≡ true) → get_or (set old.nodes v r) w 0 < row_count c.graph.nodes (node_table c.typed w)
        at w (inl e) =
            let same : v ≡ w = sym (eqb-true w v e) in
            subst (λ u. get_or (set old.nodes v r) u 0 < row_count c.graph.nodes (node_table c.typed u)) same
            (rw (get_or-set_same old.nodes v r 0 (rw held.node_count low)) inside)
        at w (inr e) =
            let other : w ≢ v = λ same. true≢false (sym e ∙ ap k.nodes same ∙ new) in
            rw (get_or-set_other old.nodes v w r 0 other) (held.rows w e)

    pub held_rel : (x n : ℕ) → x < length c.typed.rels → IsHeld c (with_number x n old) (known_by.with_rel x k)
    held_rel x n low = record {
      node_count = held.node_count;
      rel_count = length-set old.rels x n ∙ held.rel_count;
      nodes = held.nodes;
      rels = λ w h. (let hw = held.rels w in elim (or_cases (nat_eq w x) (k.rels w) h) [ inl e ↦ subst (λ u. u < length c.typed.rels) (sym (eqb-true w x e)) low | inr e ↦ hw e ]);
      rows = held.rows;
    }

    pub alike_node : (v r : ℕ) → k.nodes v ≡ false → IsAlike k old (with_row v r old)
    alike_node v r new = record {
      nodes = λ w e. (let other : w ≢ v = λ same. true≢false (sym e ∙ ap k.nodes same ∙ new) in get_or-set_other old.nodes v w r 0 other);
      rels = λ x e. refl;
    }

    pub alike_rel : (x n : ℕ) → k.rels x ≡ false → IsAlike k old (with_number x n old)
    alike_rel x n new = record {
      nodes = λ w e. refl;
      rels = λ w e. (let other : w ≢ x = λ same. true≢false (sym e ∙ ap k.rels same ∙ new) in get_or-set_other old.rels x w n 0 other);
    }

-- ---- what a step makes, at one place

pub record Makes (c : Run) (built : List Partial) (s : Step) (k : Known) (a : Partial) (place : ℕ) (old new : Assignment) : Type 0 where
  pub held : IsHeld c new (after_step s k)
  pub alike : IsAlike k old new
  pub made : drop place (tries c.graph c.typed built s a) ≡ (taken c.typed new s a ∷ []) ∷ drop (place + 1) (tries c.graph c.typed built s a)

module _ (c : Run) (d : ℕ) (s : Step) (is : step_at c d ≡ s) (place : ℕ) (old : Assignment) where
  pub is_made : (new : Assignment) → Makes c (built_at c d) s (known c d) (before c old d) place old new → place + 1 < 2 ^ 32 → IsMade c d place old new
  unfolding known
  is_made new h few =
      let m : Makes c (built_at c d) (step_at c d) (known c d) (before c old d) place old new = subst (λ t. Makes c (built_at c d) t (known c d) (before c old d) place old new) (sym is) h in
      record { held = m.held; alike = m.alike; made = m.made; few = few }

  pub is_missed : (new : Assignment) → new ≡ old → drop place (tries c.graph c.typed (built_at c d) s (before c old d)) ≡ [] ∷ drop (place + 1) (tries c.graph c.typed (built_at c d) s (before c old d)) → place + 1 < 2 ^ 32 → IsMissed c d place old new
  is_missed new same h few = record {
    same = same;
    missed = subst (λ t. drop place (tries c.graph c.typed (built_at c d) t (before c old d)) ≡ [] ∷ drop (place + 1) (tries c.graph c.typed (built_at c d) t (before c old d))) (sym is) h;
    few = few;
  }

  pub is_past : (new : Assignment) → new ≡ old → drop place (tries c.graph c.typed (built_at c d) s (before c old d)) ≡ [] → IsPast c d place old new
  is_past new same h = record { same = same; past = subst (λ t. drop place (tries c.graph c.typed (built_at c d) t (before c old d)) ≡ []) (sym is) h }

drop_map : {X Y : Type 0} (f : X → Y) (n : ℕ) (xs : List X) → drop n (map f xs) ≡ map f (drop n xs)
drop_map f zero xs = refl
drop_map f (suc n) [] = refl
drop_map f (suc n) (x ∷ xs) = drop_map f n xs

-- ---- a scan

rows_same : (g : Graph) (t : ℕ) → row_count g.nodes t ≡ length (rows_at g t)
rows_same g t = go (slice_get g.nodes t) refl
  where
    go : (o : Option _) → slice_get g.nodes t ≡ o → row_count g.nodes t ≡ length (rows_at g t)
    go None e = rw e refl
    go (Some rows) e = rw e refl

module _ (g : Graph) (y : Typed) (v : ℕ) (low : v < length y.nodes) (a : Partial) where
  abbrev pub lists : ℕ → List Partial
  lists r = with_node v (record { table = node_table y v; row = r }) a ∷ []

  pub scans : (built : List Partial) → tries g y built (Scan v) a ≡ map lists (range_with_len 0 (row_count g.nodes (node_table y v)))
  unfolding tries nodes_of
  scans built =
      let t = get_some y.nodes v low in
      let same : t.0 ≡ node_table y v = sym (get_or_from_slice_get y.nodes v t.0 0 t.1) in
      let listed : (table : ℕ) → map (λ n. with_node v n a ∷ []) (nodes_of g table) ≡ map (λ r. with_node v (record { table = table; row = r }) a ∷ []) (range_with_len 0 (row_count g.nodes table)) =
      λ table. map_map (λ n. with_node v n a ∷ []) (λ r. record { table = table; row = r }) (range_with_len 0 (length (rows_at g table)))
      ∙ ap (λ m. map (λ r. with_node v (record { table = table; row = r }) a ∷ []) (range_with_len 0 m)) (sym (rows_same g table)) in
      rw t.1 (listed t.0 ∙ ap (λ table. map (λ r. with_node v (record { table = table; row = r }) a ∷ []) (range_with_len 0 (row_count g.nodes table))) same)
    where
      map_map : {X Y Z : Type 0} (f : Y → Z) (h : X → Y) (xs : List X) → map f (map h xs) ≡ map (λ x. f (h x)) xs
      map_map f h [] = refl
      map_map f h (x ∷ xs) = ap (λ l. f (h x) ∷ l) (map_map f h xs)

  abbrev rows : List ℕ
  rows = range_with_len 0 (row_count g.nodes (node_table y v))

  scan_here : (built : List Partial) (place : ℕ) → place < row_count g.nodes (node_table y v) → drop place (tries g y built (Scan v) a) ≡ lists place ∷ drop (place + 1) (tries g y built (Scan v) a)
  scan_here built place inside =
      let many : length rows ≡ row_count g.nodes (node_table y v) = length-range_with_len 0 (row_count g.nodes (node_table y v)) in
      let at : get_or rows place 0 ≡ place = get_or-range_with_len 0 (row_count g.nodes (node_table y v)) place 0 inside ∙ zero-add place in
      ap (drop place) (scans built) ∙ drop_map lists place rows
      ∙ ap (map lists) (drop_more rows place 0 (omega arith) ∙ ap (λ r. r ∷ drop (place + 1) rows) at)
      ∙ ap (λ l. lists place ∷ l) (sym (drop_map lists (place + 1) rows) ∙ ap (drop (place + 1)) (sym (scans built)))

  scan_past : (built : List Partial) (place : ℕ) → row_count g.nodes (node_table y v) ≤ place → drop place (tries g y built (Scan v) a) ≡ []
  scan_past built place high =
      let many : length rows ≡ row_count g.nodes (node_table y v) = length-range_with_len 0 (row_count g.nodes (node_table y v)) in
      ap (drop place) (scans built) ∙ drop_map lists place rows ∙ ap (map lists) (drop_all place rows (omega arith))

module _ (c : Run) (run : IsRun c) (old : Assignment) (k : Known) (held : IsHeld c old k) (a : Partial) (v place : ℕ) (fit : runs_step c.graph.catalog c.typed (Scan v) k ≡ true) where
  pub scan_parts : (v < length c.typed.nodes) × (k.nodes v ≡ false)
  unfolding fits_step
  scan_parts = let parts = and_parts _ _ fit in (ltb-true _ _ parts.0, not_true _ parts.1)

  pub scan_makes : (built : List Partial) → place < row_count c.graph.nodes (node_table c.typed v) → Makes c built (Scan v) k a place old (with_row v place old)
  unfolding after_step
  scan_makes built inside =
      let low : v < length c.typed.nodes = scan_parts.0 in
      let many : length old.nodes ≡ length c.typed.nodes = held.node_count in
      record {
        held = held_node c run old k held v place scan_parts.1 low inside;
        alike = alike_node c run old k held v place scan_parts.1;
        made = scan_here c.graph c.typed v low a built place inside
            ∙ ap (λ r. lists c.graph c.typed v low a r ∷ drop (place + 1) (tries c.graph c.typed built (Scan v) a)) (sym (get_or-set_same old.nodes v place 0 (omega arith)));
      }

  pub scan_makes_none : (built : List Partial) → row_count c.graph.nodes (node_table c.typed v) ≤ place → drop place (tries c.graph c.typed built (Scan v) a) ≡ []
  scan_makes_none built high = scan_past c.graph c.typed v scan_parts.0 a built place high

-- ---- a relationship

module _ (c : Run) (run : IsRun c) (x from to : ℕ) (way : Direction) (f : Follows c x from to way) where
  abbrev pub table : ℕ
  table = rel_table c.typed x

  pub near_rows_are : near_rows c.graph table way ≡ row_count c.graph.nodes (node_table c.typed from)
  near_rows_are = ap (end_rows c.graph.nodes way) f.table_is ∙ go way f.table ∙ ap (row_count c.graph.nodes) (sym (get_or_from_slice_get c.typed.nodes from _ 0 f.near))
    where
      go : (way : Direction) (k : RelTable) → end_rows c.graph.nodes way (Some k) ≡ row_count c.graph.nodes (near_table way k)
      go Forward k = refl
      go Backward k = refl

  far_rows_are : near_rows c.graph table (opposite way) ≡ row_count c.graph.nodes (node_table c.typed to)
  far_rows_are = ap (end_rows c.graph.nodes (opposite way)) f.table_is ∙ go way f.table ∙ ap (row_count c.graph.nodes) (sym (get_or_from_slice_get c.typed.nodes to _ 0 f.far))
    where
      go : (way : Direction) (k : RelTable) → end_rows c.graph.nodes (opposite way) (Some k) ≡ row_count c.graph.nodes (far_table way k)
      go Forward k = refl
      go Backward k = refl

  leads : (row place : ℕ) (h : Hop) → IsHop c.graph table way row place h → far c.graph way (rel table h.number) ≡ Some (record { table = node_table c.typed to; row = h.row })
  leads row place h is =
      hop_leads c.graph table f.table f.table_is way row place h is
      ∙ ap (λ t. Some (record { table = t; row = h.row })) (sym (get_or_from_slice_get c.typed.nodes to _ 0 f.far))

  module _ (old : Assignment) (a : Partial) (looked : look a.nodes from ≡ Some (node_at c.typed old from)) where
    abbrev pub met : List ℕ
    met = numbers c.graph table way (slice_index old.nodes from)

    pub met_is : rels_from c.graph c.typed x way (look a.nodes from) ≡ map (rel table) met
    met_is =
        let same : f.found.table ≡ table = sym (ap table_of f.rel_is) in
        ap (rels_from c.graph c.typed x way) looked
        ∙ rels_met c.graph c.typed x f.found f.table way (node_at c.typed old from) f.rel_is f.table_at (get_or_from_slice_get c.typed.nodes from _ 0 f.near)
        ∙ ap (λ t. map (rel t) (numbers c.graph t way (slice_index old.nodes from))) same

    module _ (F : RelId → List Partial) where
      through : (n : ℕ) → drop n (map F (rels_from c.graph c.typed x way (look a.nodes from))) ≡ map F (map (rel table) (drop n met))
      through n = ap (λ l. drop n (map F l)) met_is ∙ drop_map F n (map (rel table) met) ∙ ap (map F) (drop_map (rel table) n met)

      hop_here : (place : ℕ) (h : Hop) → IsHop c.graph table way (slice_index old.nodes from) place h
          → drop place (map F (rels_from c.graph c.typed x way (look a.nodes from))) ≡ F (rel table h.number) ∷ drop (place + 1) (map F (rels_from c.graph c.typed x way (look a.nodes from)))
      hop_here place h is =
          through place ∙ ap (λ l. map F (map (rel table) l)) (hop_next c.graph table f.table f.table_is way (slice_index old.nodes from) place h is)
          ∙ ap (λ l. F (rel table h.number) ∷ l) (sym (through (place + 1)))

      hop_past : (place : ℕ) → length (neighbours c.graph table way (slice_index old.nodes from)) ≤ place → drop place (map F (rels_from c.graph c.typed x way (look a.nodes from))) ≡ []
      hop_past place high = through place ∙ ap (λ l. map F (map (rel table) l)) (hop_none c.graph table f.table f.table_is way (slice_index old.nodes from) place high)

    -- a relationship that binds a node variable

    extend_here : (built : List Partial) (column : Bool) (place : ℕ) (h : Hop) → IsHop c.graph table way (slice_index old.nodes from) place h
        → drop place (tries c.graph c.typed built (Extend column x from to way) a)
        ≡ (with_node to (record { table = node_table c.typed to; row = h.row }) (with_rel x (rel table h.number) a) ∷ []) ∷ drop (place + 1) (tries c.graph c.typed built (Extend column x from to way) a)
    unfolding tries
    extend_here built column place h is =
        hop_here (λ r. arrive to (far c.graph way r) (with_rel x r a)) place h is
        ∙ ap (λ o. arrive to o (with_rel x (rel table h.number) a) ∷ drop (place + 1) (map (λ r. arrive to (far c.graph way r) (with_rel x r a)) (rels_from c.graph c.typed x way (look a.nodes from))))
        (leads (slice_index old.nodes from) place h is)

    pub extend_past : (built : List Partial) (column : Bool) (place : ℕ) → length (neighbours c.graph table way (slice_index old.nodes from)) ≤ place → drop place (tries c.graph c.typed built (Extend column x from to way) a) ≡ []
    unfolding tries
    extend_past built column place high = hop_past (λ r. arrive to (far c.graph way r) (with_rel x r a)) place high

    pub extend_makes : (built : List Partial) (column : Bool) (k : Known) → IsHeld c old k → k.rels x ≡ false → k.nodes to ≡ false → (place : ℕ) (h : Hop) → IsHop c.graph table way (slice_index old.nodes from) place h
        → Makes c built (Extend column x from to way) k a place old (with_number x h.number (with_row to h.row old))
    unfolding after_step
    extend_makes built column k held new_rel new_node place h is =
        let low : to < length c.typed.nodes = slice_get_within c.typed.nodes to _ f.far in
        let rel_low : x < length c.typed.rels = slice_get_within c.typed.rels x _ f.rel_is in
        let many : length old.nodes ≡ length c.typed.nodes = held.node_count in
        let many_rels : length old.rels ≡ length c.typed.rels = held.rel_count in
        let inside : h.row < row_count c.graph.nodes (node_table c.typed to) = rw (← far_rows_are) is.inside in
        record {
          held = held_node c run (with_number x h.number old) (known_by.with_rel x k) (held_rel c run old k held x h.number rel_low) to h.row new_node low inside;
          alike = record { nodes = (alike_node c run old k held to h.row new_node).nodes; rels = (alike_rel c run old k held x h.number new_rel).rels };
          made = extend_here built column place h is
              ∙ ap₂ (λ r n. (with_node to (record { table = node_table c.typed to; row = r }) (with_rel x (rel table n) a) ∷ []) ∷ drop (place + 1) (tries c.graph c.typed built (Extend column x from to way) a))
              (sym (get_or-set_same old.nodes to h.row 0 (omega arith))) (sym (get_or-set_same old.rels x h.number 0 (omega arith)));
        }

    -- a relationship to a node that is bound

    module _ (there : look a.nodes to ≡ Some (node_at c.typed old to)) where
      close_here : (built : List Partial) (column : Bool) (place : ℕ) (h : Hop) → IsHop c.graph table way (slice_index old.nodes from) place h
          → drop place (tries c.graph c.typed built (Close column x from to way) a)
          ≡ keep_if (nat_eq (slice_index old.nodes to) h.row) (with_rel x (rel table h.number) a) ∷ drop (place + 1) (tries c.graph c.typed built (Close column x from to way) a)
      unfolding tries
      close_here built column place h is =
          hop_here (λ r. keep_if (at_same (look a.nodes to) (far c.graph way r)) (with_rel x r a)) place h is
          ∙ ap (λ b. keep_if b (with_rel x (rel table h.number) a) ∷ drop (place + 1) (map (λ r. keep_if (at_same (look a.nodes to) (far c.graph way r)) (with_rel x r a)) (rels_from c.graph c.typed x way (look a.nodes from))))
          (ap₂ at_same there (leads (slice_index old.nodes from) place h is)
          ∙ ap (λ b. b && nat_eq (slice_index old.nodes to) h.row) (eq-eqb (node_table c.typed to) (node_table c.typed to) refl))

      pub close_makes : (built : List Partial) (column : Bool) (k : Known) → IsHeld c old k → k.rels x ≡ false → (place : ℕ) (h : Hop) → IsHop c.graph table way (slice_index old.nodes from) place h
          → h.row ≡ slice_index old.nodes to → Makes c built (Close column x from to way) k a place old (with_number x h.number old)
      unfolding after_step
      close_makes built column k held new_rel place h is meets =
          let rel_low : x < length c.typed.rels = slice_get_within c.typed.rels x _ f.rel_is in
          let many_rels : length old.rels ≡ length c.typed.rels = held.rel_count in
          record {
            held = held_rel c run old k held x h.number rel_low;
            alike = alike_rel c run old k held x h.number new_rel;
            made = close_here built column place h is
                ∙ ap₂ (λ b n. keep_if b (with_rel x (rel table n) a) ∷ drop (place + 1) (tries c.graph c.typed built (Close column x from to way) a))
                (eq-eqb (slice_index old.nodes to) h.row (sym meets)) (sym (get_or-set_same old.rels x h.number 0 (omega arith)));
          }

      pub close_misses : (built : List Partial) (column : Bool) (place : ℕ) (h : Hop) → IsHop c.graph table way (slice_index old.nodes from) place h → h.row ≢ slice_index old.nodes to
          → drop place (tries c.graph c.typed built (Close column x from to way) a) ≡ [] ∷ drop (place + 1) (tries c.graph c.typed built (Close column x from to way) a)
      close_misses built column place h is other =
          close_here built column place h is
          ∙ ap (λ b. keep_if b (with_rel x (rel table h.number) a) ∷ drop (place + 1) (tries c.graph c.typed built (Close column x from to way) a)) (ne_eqb (slice_index old.nodes to) h.row (λ e. other (sym e)))

    pub close_past : (built : List Partial) (column : Bool) (place : ℕ) → length (neighbours c.graph table way (slice_index old.nodes from)) ≤ place → drop place (tries c.graph c.typed built (Close column x from to way) a) ≡ []
    unfolding tries
    close_past built column place high = hop_past (λ r. keep_if (at_same (look a.nodes to) (far c.graph way r)) (with_rel x r a)) place high

    -- a relationship, wherever it leads

    pub single_makes : (built : List Partial) (k : Known) → IsHeld c old k → k.rels x ≡ false → (place : ℕ) (h : Hop) → IsHop c.graph table way (slice_index old.nodes from) place h
        → Makes c built (Single x from to way) k a place old (with_number x h.number old)
    unfolding after_step tries
    single_makes built k held new_rel place h is =
        let rel_low : x < length c.typed.rels = slice_get_within c.typed.rels x _ f.rel_is in
        let many_rels : length old.rels ≡ length c.typed.rels = held.rel_count in
        record {
          held = held_rel c run old k held x h.number rel_low;
          alike = alike_rel c run old k held x h.number new_rel;
          made = hop_here (λ r. with_rel x r a ∷ []) place h is
              ∙ ap (λ n. (with_rel x (rel table n) a ∷ []) ∷ drop (place + 1) (tries c.graph c.typed built (Single x from to way) a))
              (sym (get_or-set_same old.rels x h.number 0 (omega arith)));
        }

    pub single_past : (built : List Partial) (place : ℕ) → length (neighbours c.graph table way (slice_index old.nodes from)) ≤ place → drop place (tries c.graph c.typed built (Single x from to way) a) ≡ []
    unfolding tries
    single_past built place high = hop_past (λ r. with_rel x r a ∷ []) place high

    -- whether the one relationship leads to the node that is bound

    module _ (there : look a.nodes to ≡ Some (node_at c.typed old to)) (few : length (rels_from c.graph c.typed x way (look a.nodes from)) ≤ 1) where
      abbrev leads_there : RelId → Bool
      leads_there r = at_same (look a.nodes to) (far c.graph way r)

      pub meets_none : length (neighbours c.graph table way (slice_index old.nodes from)) ≤ 0 → list_any leads_there (rels_from c.graph c.typed x way (look a.nodes from)) ≡ false
      meets_none high = ap (list_any leads_there) (none_left (rels_from c.graph c.typed x way (look a.nodes from)) (hop_past (λ r. with_rel x r a ∷ []) 0 high))
        where
          none_left : (rs : List RelId) → map (λ r. with_rel x r a ∷ []) rs ≡ [] → rs ≡ []
          none_left [] e = refl
          none_left (r ∷ rs) e = absurd (cc e)

      pub meets_one : (h : Hop) → IsHop c.graph table way (slice_index old.nodes from) 0 h → list_any leads_there (rels_from c.graph c.typed x way (look a.nodes from)) ≡ nat_eq (slice_index old.nodes to) h.row
      meets_one h is = go (rels_from c.graph c.typed x way (look a.nodes from)) few met_is_here
          ∙ ap₂ at_same there (leads (slice_index old.nodes from) 0 h is)
          ∙ ap (λ b. b && nat_eq (slice_index old.nodes to) h.row) (eq-eqb (node_table c.typed to) (node_table c.typed to) refl)
        where
          met_is_here : rels_from c.graph c.typed x way (look a.nodes from) ≡ rel table h.number ∷ map (rel table) (drop 1 met)
          met_is_here = met_is ∙ ap (map (rel table)) (hop_next c.graph table f.table f.table_is way (slice_index old.nodes from) 0 h is)

          go : (rs : List RelId) → length rs ≤ 1 → rs ≡ rel table h.number ∷ map (rel table) (drop 1 met) → list_any leads_there rs ≡ leads_there (rel table h.number)
          go [] low e = absurd (cc e)
          go (r ∷ []) low e = or-none (leads_there r) ∙ ap leads_there (cc e)
            where
              or-none : (b : Bool) → (b || false) ≡ b
              or-none true = refl
              or-none false = refl
          go (r ∷ q ∷ rs) low e = absurd (omega (arith, low))
