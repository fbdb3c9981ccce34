-- What is done at places one after another is done at all of them.
use Rattle.std.proofs.Common.{◌≡◌, ◌≢◌, ◌⊎◌, inl, inr, ℕ, zero, suc, ◌+◌, ◌*◌, ◌<◌, ◌≤◌, ◌==◌, ◌||◌, Bool, true, false, not, None, List, [], ◌∷◌, length, map, get_or, set, refl, sym, ap, ap₂, ◌∙◌, subst, arith}
use Rattle.std.specs.Prelude.{slice_get, slice_index, slice_set}
use Rattle.std.specs.List.{range_with_len}
use Rattle.std.proofs.lemmas.Bool.{cases_eq}
use Rattle.std.proofs.lemmas.List.{ext_get_or, get_or-set_other, get_or-set_same, length-map, length-set}
use Rattle.std.proofs.lemmas.List.FromFn.{get_or-map-range_with_len, length-range_with_len}
use Rattle.gq_bits.specs.Places.{is_marked}
use Rattle.gq_plan.specs.declared.assignment.Assignment.{Assignment}
use Rattle.gq_chains.specs.declared.block_steps.Ends.{Ends}
use Rattle.gq_chains.specs.steps.Parting.{AreInside, ends_apart}
use Rattle.gq_chains.specs.steps.Blocks.{Doing, IsPut, IsWalked, place_row}

-- ---- the rows at one place

abbrev nodes_at : Assignment → List ℕ → ℕ → List ℕ
nodes_at row rows j = map (λ v. slice_index rows (64 * v + j)) (range_with_len 0 (length row.nodes))

pub many_nodes : (row : Assignment) (rows : List ℕ) (j : ℕ) → length (nodes_at row rows j) ≡ length row.nodes
many_nodes row rows j = length-map (range_with_len 0 (length row.nodes)) (λ v. slice_index rows (64 * v + j)) ∙ length-range_with_len 0 (length row.nodes)

pub node_there : (row : Assignment) (rows : List ℕ) (j v : ℕ) → v < length row.nodes → slice_index (nodes_at row rows j) v ≡ slice_index rows (64 * v + j)
node_there row rows j v low = get_or-map-range_with_len (λ n. slice_index rows (64 * n + j)) 0 (length row.nodes) v v 0 low (omega arith)

-- they are those of an assignment whose rows stand there
pub spread_is : (row : Assignment) (rows : List ℕ) (j : ℕ) → ((v : ℕ) → v < length row.nodes → slice_index rows (64 * v + j) ≡ slice_index row.nodes v) → place_row row rows j ≡ row
spread_is row rows j there =
    ap (λ (ns : List ℕ). record { nodes = ns; rels = row.rels })
    (ext_get_or 0 (nodes_at row rows j) row.nodes (many_nodes row rows j) (λ v low. let inside : v < length row.nodes = omega (arith, low, many_nodes row rows j) in node_there row rows j v inside ∙ there v inside))

-- a row that is written at one place is written there alone
pub written_here : (row : Assignment) (rows : List ℕ) (j v r : ℕ) → j < 64 → v < length row.nodes → 64 * v + j < length rows → place_row row (slice_set rows (64 * v + j) r) j ≡ record { nodes = slice_set (nodes_at row rows j) v r; rels = row.rels }
written_here row rows j v r low known inside =
    ap (λ (ns : List ℕ). record { nodes = ns; rels = row.rels })
    (ext_get_or 0 (nodes_at row (slice_set rows (64 * v + j) r) j) (slice_set (nodes_at row rows j) v r)
    (many_nodes row (slice_set rows (64 * v + j) r) j ∙ sym (length-set (nodes_at row rows j) v r ∙ many_nodes row rows j))
    (λ w below. at w (omega (arith, below, many_nodes row (slice_set rows (64 * v + j) r) j)) (cases_eq w v)))
  where
    at : (w : ℕ) → w < length row.nodes → (w ≡ v) ⊎ (w ≡ v → ⊥) → slice_index (nodes_at row (slice_set rows (64 * v + j) r) j) w ≡ slice_index (slice_set (nodes_at row rows j) v r) w
    at w below (inl same) =
        node_there row (slice_set rows (64 * v + j) r) j w below
        ∙ ap (λ n. slice_index (slice_set rows (64 * v + j) r) (64 * n + j)) same ∙ get_or-set_same rows (64 * v + j) r 0 inside
        ∙ sym (ap (slice_index (slice_set (nodes_at row rows j) v r)) same ∙ get_or-set_same (nodes_at row rows j) v r 0 (omega (arith, known, many_nodes row rows j)))
    at w below (inr other) =
        node_there row (slice_set rows (64 * v + j) r) j w below
        ∙ get_or-set_other rows (64 * v + j) (64 * w + j) r 0 (λ e. other (omega (arith, e)))
        ∙ sym (get_or-set_other (nodes_at row rows j) v w r 0 other ∙ node_there row rows j w below)

pub written_there : (row : Assignment) (rows : List ℕ) (i j v r : ℕ) → i < 64 → j < 64 → i ≢ j → place_row row (slice_set rows (64 * v + j) r) i ≡ place_row row rows i
written_there row rows i j v r low inside other =
    ap (λ (ns : List ℕ). record { nodes = ns; rels = row.rels })
    (ext_get_or 0 (nodes_at row (slice_set rows (64 * v + j) r) i) (nodes_at row rows i) (many_nodes row (slice_set rows (64 * v + j) r) i ∙ sym (many_nodes row rows i))
    (λ w below. at w (omega (arith, below, many_nodes row (slice_set rows (64 * v + j) r) i))))
  where
    at : (w : ℕ) → w < length row.nodes → slice_index (nodes_at row (slice_set rows (64 * v + j) r) i) w ≡ slice_index (nodes_at row rows i) w
    at w below =
        node_there row (slice_set rows (64 * v + j) r) i w below
        ∙ get_or-set_other rows (64 * v + j) (64 * w + i) r 0 (λ e. other (omega (arith, e, low, inside)))
        ∙ sym (node_there row rows i w below)

-- the rows at the ends of two relationships
pub apart_read : (row : Assignment) (rows : List ℕ) (j : ℕ) (e : Ends) → AreInside row e → ends_apart (place_row row rows j) e
    ≡ (not (slice_index rows (64 * e.one + j) == slice_index rows (64 * e.other + j)) || not (slice_index rows (64 * e.first + j) == slice_index rows (64 * e.second + j)))
apart_read row rows j e inside =
    ap₂ (λ a b. not (a == b) || not (slice_index (nodes_at row rows j) e.first == slice_index (nodes_at row rows j) e.second)) (node_there row rows j e.one inside.one) (node_there row rows j e.other inside.other)
    ∙ ap₂ (λ a b. not (slice_index rows (64 * e.one + j) == slice_index rows (64 * e.other + j)) || not (a == b)) (node_there row rows j e.first inside.first) (node_there row rows j e.second inside.second)

-- ---- what is done at one place

set_off : (marks : List Bool) (k : ℕ) → get_or (set marks k false) k false ≡ false
set_off [] k = refl
set_off (b ∷ bs) zero = refl
set_off (b ∷ bs) (suc k) = set_off bs k

pub none_past : (xs : List ℕ) → slice_get xs 0 ≡ None → length xs ≤ 0
none_past [] e = omega arith
none_past (x ∷ xs) e = absurd (cc e)

module _ (does : Doing) (row : Assignment) (offset j : ℕ) (rows : List ℕ) (marks : List Bool) (low : j < 64) (on : is_marked marks (offset + j) ≡ true) where
  -- a row is written, and the place stays
  pub put_written : (v r : ℕ) → v < length row.nodes → length row.nodes ≤ 24 → length rows ≡ 1536 → does j (place_row row rows j) true (record { nodes = slice_set (nodes_at row rows j) v r; rels = row.rels }) → IsPut does row offset j rows (slice_set rows (64 * v + j) r) marks marks
  put_written v r known few long did = record {
    len = length-set rows (64 * v + j) r;
    told = λ was. subst (λ b. does j (place_row row rows j) b (place_row row (slice_set rows (64 * v + j) r) j)) (sym on)
        (subst (λ (a : Assignment). does j (place_row row rows j) true a) (sym (written_here row rows j v r low known (omega (arith, known, few, long, low)))) did);
    off = λ none. none;
    same = λ i inside other. written_there row rows i j v r inside low other;
    others = λ k other. refl;
  }

  -- nothing is written, and the place goes
  pub put_dropped : does j (place_row row rows j) false (place_row row rows j) → IsPut does row offset j rows rows marks (slice_set marks (offset + j) false)
  put_dropped did = record {
    len = refl;
    told = λ was. subst (λ b. does j (place_row row rows j) b (place_row row rows j)) (sym (set_off marks (offset + j))) did;
    off = λ none. set_off marks (offset + j);
    same = λ i inside other. refl;
    others = λ k other. get_or-set_other marks (offset + j) k false false other;
  }

-- ---- one place after another

module _ (does : Doing) (row : Assignment) (offset : ℕ) (rows : List ℕ) (marks : List Bool) where
  pub walked_none : IsWalked does row offset 0 rows rows marks marks
  walked_none = record {
    len = refl;
    told = λ j low inside on. absurd (omega (arith, low));
    off = λ j inside none. none;
    outside = λ k out. refl;
    rest = λ j high inside. (refl, refl);
  }

  pub walked_next : (n : ℕ) (mid_rows new_rows : List ℕ) (mid new : List Bool) → n < 64 → IsWalked does row offset n rows mid_rows marks mid → IsPut does row offset n mid_rows new_rows mid new → IsWalked does row offset (n + 1) rows new_rows marks new
  walked_next n mid_rows new_rows mid new low w p = record {
    len = p.len ∙ w.len;
    told = λ j below inside on. told_at j below inside on (cases_eq j n);
    off = λ j inside none. off_at j inside none (cases_eq j n);
    outside = λ k out. p.others k (out_of k out) ∙ w.outside k out;
    rest = λ j high inside. (
      p.same j inside (λ e. omega (arith, high, e)) ∙ (w.rest j (omega (arith, high)) inside).0,
      p.others (offset + j) (λ e. omega (arith, high, e)) ∙ (w.rest j (omega (arith, high)) inside).1,
    );
  }
    where
      out_of : (k : ℕ) → (k < offset) ⊎ (offset + 64 ≤ k) → k ≢ offset + n
      out_of k (inl h) e = omega (arith, h, e)
      out_of k (inr h) e = omega (arith, h, e, low)

      told_at : (j : ℕ) → j < n + 1 → j < 64 → is_marked marks (offset + j) ≡ true → (j ≡ n) ⊎ (j ≡ n → ⊥) → does j (place_row row rows j) (is_marked new (offset + j)) (place_row row new_rows j)
      told_at j below inside on (inl same) =
          subst (λ k. does k (place_row row rows k) (is_marked new (offset + k)) (place_row row new_rows k)) (sym same)
          (let r = w.rest n (omega arith) low in
          let on_here : is_marked mid (offset + n) ≡ true = r.1 ∙ ap (λ i. is_marked marks (offset + i)) (sym same) ∙ on in
          subst (λ (a : Assignment). does n a (is_marked new (offset + n)) (place_row row new_rows n)) r.0 (p.told on_here))
      told_at j below inside on (inr other) =
          subst (λ b. does j (place_row row rows j) b (place_row row new_rows j)) (sym (p.others (offset + j) (λ e. other (omega (arith, e)))))
          (subst (λ (a : Assignment). does j (place_row row rows j) (is_marked mid (offset + j)) a) (sym (p.same j inside other)) (w.told j (omega (arith, below, other)) inside on))

      off_at : (j : ℕ) → j < 64 → is_marked marks (offset + j) ≡ false → (j ≡ n) ⊎ (j ≡ n → ⊥) → is_marked new (offset + j) ≡ false
      off_at j inside none (inl same) =
          subst (λ i. is_marked new (offset + i) ≡ false) (sym same) (p.off (ap (λ i. is_marked mid (offset + i)) (sym same) ∙ w.off j inside none))
      off_at j inside none (inr other) = p.others (offset + j) (λ e. other (omega (arith, e))) ∙ w.off j inside none

-- what is done of all places, and then a second thing
module _ (one other both : Doing) (row : Assignment) (offset : ℕ) (rows mid_rows new_rows : List ℕ) (marks mid new : List Bool) where
  pub walked_then : ((j : ℕ) → j < 64 → one j (place_row row rows j) true (place_row row mid_rows j) → other j (place_row row mid_rows j) (is_marked new (offset + j)) (place_row row new_rows j) → both j (place_row row rows j) (is_marked new (offset + j)) (place_row row new_rows j))
      → ((j : ℕ) → j < 64 → one j (place_row row rows j) false (place_row row mid_rows j) → both j (place_row row rows j) false (place_row row new_rows j))
      → IsWalked one row offset 64 rows mid_rows marks mid → IsWalked other row offset 64 mid_rows new_rows mid new → IsWalked both row offset 64 rows new_rows marks new
  walked_then kept dropped w v = record {
    len = v.len ∙ w.len;
    told = λ j low inside on. told_at j inside (is_marked mid (offset + j)) refl (w.told j low inside on);
    off = λ j inside none. v.off j inside (w.off j inside none);
    outside = λ k out. v.outside k out ∙ w.outside k out;
    rest = λ j high inside. absurd (omega (arith, high, inside));
  }
    where
      told_at : (j : ℕ) → j < 64 → (b : Bool) → is_marked mid (offset + j) ≡ b → one j (place_row row rows j) (is_marked mid (offset + j)) (place_row row mid_rows j) → both j (place_row row rows j) (is_marked new (offset + j)) (place_row row new_rows j)
      told_at j inside true is h = kept j inside (subst (λ b. one j (place_row row rows j) b (place_row row mid_rows j)) is h) (v.told j inside inside is)
      told_at j inside false is h =
          subst (λ b. both j (place_row row rows j) b (place_row row new_rows j)) (sym (v.off j inside is))
          (dropped j inside (subst (λ b. one j (place_row row rows j) b (place_row row mid_rows j)) is h))

-- what is done is another thing too
pub walked_as : (one both : Doing) (row : Assignment) (offset : ℕ) (rows new_rows : List ℕ) (marks new : List Bool)
    → ((j : ℕ) → j < 64 → one j (place_row row rows j) (is_marked new (offset + j)) (place_row row new_rows j) → both j (place_row row rows j) (is_marked new (offset + j)) (place_row row new_rows j))
    → IsWalked one row offset 64 rows new_rows marks new → IsWalked both row offset 64 rows new_rows marks new
walked_as one both row offset rows new_rows marks new too w = record {
  len = w.len;
  told = λ j low inside on. too j inside (w.told j low inside on);
  off = w.off;
  outside = w.outside;
  rest = λ j high inside. absurd (omega (arith, high, inside));
}
