-- Positions at which a key comes behind a bar.
use Rattle.std.proofs.Common.{◌≡◌, ◌∙◌, ℕ, ◌+◌, ◌-◌, ◌*◌, ◌/◌, ◌%◌, ◌<◌, ◌≤◌, List, Bool, true, false, not, cond, None, Some, length, refl, sym, ap, subst, arith, inl, inr}
use Rattle.std.specs.Int.{bit_at}
use Rattle.std.specs.Prelude.{◌&&◌, ◌==◌, nat_lt, slice_get, slice_index}
use Rattle.std.proofs.lemmas.Bool.{and_parts, cases_eq, eq-eqb, false≢true, ne_eqb}
use Rattle.std.proofs.lemmas.List.FromFn.{length-range_with_len, get_or-range_with_len}
use Rattle.gq_base.specs.Plain.{Graph}
use Rattle.gq_base.specs.Values.{Val}
use Rattle.gq_bits.specs.declared.TheConstants.{VECTOR}
use Rattle.gq_bits.specs.Places.{allows, is_marked}
use Rattle.gq_cells.specs.Behind.{IsBehindBar}
use Rattle.gq_cells.specs.Numbers.{IsNumber, number_val}
use Rattle.gq_cells.specs.declared.source.Source.{Source}
use Rattle.gq_eval.specs.Asked.{asked}
use Rattle.gq_expr.specs.Reading as reading
use Rattle.gq_expr.specs.declared.expr.Expr.{Expr}
use Rattle.gq_group.specs.Chunks.{IsChunk, group_of, items_in, node_in}
use Rattle.gq_group.specs.Groups.{AreSelected, is_current}
use Rattle.gq_group.specs.Pieces.{items_of}
use Rattle.gq_group.specs.declared.chunk.Chunk.{Chunk}
use Rattle.gq_group.specs.declared.group.Group.{Group}
use Rattle.gq_group.specs.declared.home.NodeHome.TheVariants as home
use Rattle.gq_group.specs.declared.piece.Piece.{Piece}
use Rattle.gq_group.specs.declared.piece.Piece.TheVariants as piece
use Rattle.gq_listed.proofs.Finding.{number_fits, number_means}
use Rattle.gq_listed.proofs.Leading.{standing}
use Rattle.gq_listed.specs.Finding.{FindsBy, HasNode, IsFinder}
use Rattle.gq_listed.specs.Keys.{FindsSome}
use Rattle.gq_listed.specs.Windows.{IsKeyBehind, IsTaken, IsTold}
use Rattle.gq_listed.specs.declared.finder.Finder.{Finder}
use Rattle.gq_listed.specs.declared.finder.Range.{Range}
use Rattle.gq_listed.specs.declared.finder.Way.TheVariants as way

-- the item at a position of rows that follow one another
pub span_item : (c : Chunk) (ps : List ℕ) (i : ℕ) (g : Group) (low high : ℕ) → IsChunk c → AreSelected c.groups.now ps → group_of c i ≡ Some g → g.piece ≡ piece.Span low high → node_in c ps (home.Item i) ≡ low + slice_index ps i
span_item c ps i g low high ok selected at is =
    let s = standing c ps i g ok selected at in
    let inside = subst (λ (p : Piece). slice_index ps i < length (items_of p)) is s.low in
    let many = length-range_with_len low (high - low) in
    ap (λ o. slice_index (items_in o) (slice_index ps i)) at ∙ ap (λ (p : Piece). slice_index (items_of p) (slice_index ps i)) is
    ∙ get_or-range_with_len low (high - low) (slice_index ps i) 0 (omega (arith, inside, many))

-- a position of such rows is one of a piece
pub record IsSpanned (ps : List ℕ) (i low high : ℕ) : Type 0 where
  pub within : i < length ps
  pub inside : low + slice_index ps i < high
  pub few : slice_index ps i < VECTOR

pub spanned : (c : Chunk) (ps : List ℕ) (i : ℕ) (g : Group) (low high : ℕ) → IsChunk c → AreSelected c.groups.now ps → group_of c i ≡ Some g → g.piece ≡ piece.Span low high → IsSpanned ps i low high
spanned c ps i g low high ok selected at is =
    let s = standing c ps i g ok selected at in
    let here = s.low in
    let many : length (items_of g.piece) ≡ high - low = ap (λ (p : Piece). length (items_of p)) is ∙ length-range_with_len low (high - low) in
    let few = s.piece.few in
    record { within = s.within; inside = omega (arith, here, many); few = omega (arith, here, few) }

-- what is marked in the group is left at the start
pub none_in : (c : Chunk) (ps : List ℕ) (i : ℕ) (g : Group) (left : List Bool) → IsChunk c → AreSelected c.groups.now ps → group_of c i ≡ Some g
    → ((k : ℕ) → k < VECTOR → is_marked g.marks k ≡ true → is_marked left k ≡ true) → is_marked left (slice_index ps i) ≡ false → ⊥
none_in c ps i g left ok selected at kept out =
    let s = standing c ps i g ok selected at in
    let here = s.low in
    let few = s.piece.few in
    let p = slice_index ps i in
    false≢true (sym out ∙ kept p (omega (arith, here, few)) (and_parts (is_current g.current p) (is_marked g.marks p) s.selected).1)

-- an assignment in which the variable has a row
with_node : Range → ℕ → reading.Assignment
with_node r row = record { nodes = λ v. Some (record { table = r.table; row = row }); rels = λ x. None }

-- each row below the count has a number
pub span_fits : (g : Graph) (ss : List Source) (f : Finder) (r : Range) → FindsSome g ss f → f.way ≡ way.Node r → (row : ℕ) → row < r.count → IsNumber (slice_get ss f.source) row
unfolding with_node
span_fits g ss f r finds is row low =
    let (e, finder) = finds in
    number_fits g ss f.source e (way.Node r) (subst (FindsBy g ss f.source e) is finder.finds) (with_node r row) row (record { below = low; is = refl })

-- what the row of the variable tells of the key
pub key_behind : (g : Graph) (ss : List Source) (f : Finder) (r : Range) (key : Expr) (bar : Val) (down : Bool) → f.way ≡ way.Node r → IsFinder ss (asked key g) f → (here : reading.Assignment) (row : ℕ) → row < r.count → HasNode (way.Node r) here row
    → IsBehindBar down bar (number_val (slice_get ss f.source) row) → IsKeyBehind g here key down bar
key_behind g ss f r key bar down is finder here row low has behind = record {
  value = number_val (slice_get ss f.source) row;
  means = number_means g ss f.source key (way.Node r) (subst (FindsBy g ss f.source key) is finder.finds) here row (record { below = low; is = has });
  behind = behind;
}

-- ---- positions that are not left any more

pub either_way : {X : Type 0} (b : Bool) → (b ≡ false → X) → (b ≡ true → X) → X
either_way false f t = f refl
either_way true f t = t refl

left_before : (a b : Bool) → (a && b) ≡ false → a ≡ true → b ≡ false
left_before true b e is = e
left_before false b e is = absurd (false≢true is)

behind_of : (a b : Bool) → a ≡ true → (a && not b) ≡ false → b ≡ true
behind_of true true is e = refl
behind_of true false is e = absurd (false≢true (sym e))
behind_of false b is e = absurd (false≢true is)

-- a word of the marks that are ahead keeps out what is behind there
out_of_word : (index word mask : ℕ) (behind ahead : List Bool) (k : ℕ) → 64 * word + 64 ≤ VECTOR
    → ((j : ℕ) → is_marked ahead j ≡ (nat_lt j VECTOR && not (is_marked behind j)))
    → ((i : ℕ) → i < 64 → (bit_at mask i == 1) ≡ is_marked ahead (64 * word + i))
    → allows (index + word) mask k ≡ false → IsTaken (64 * index) behind k
out_of_word index word mask behind ahead k few is bits out = elim (cases_eq (k / 64) (index + word)) [
  | inl same ↦
      let low : k % 64 < 64 = omega arith in
      let off : (bit_at mask (k % 64) == 1) ≡ false = sym (ap (λ t. cond t (bit_at mask (k % 64) == 1) true) (eq-eqb (k / 64) (index + word) same)) ∙ out in
      let far = 64 * word + k % 64 in
      let there : nat_lt far VECTOR ≡ true = below far (omega (arith, low, few)) in
      record { far = far; at = omega (arith, same); marked = behind_of (nat_lt far VECTOR) (is_marked behind far) there (sym (is far) ∙ sym (bits (k % 64) low) ∙ off) }
  | inr other ↦ absurd (false≢true (sym out ∙ ap (λ t. cond t (bit_at mask (k % 64) == 1) true) (ne_eqb (k / 64) (index + word) other)))
]
  where
    below : (j : ℕ) → j < VECTOR → nat_lt j VECTOR ≡ true
    below j low = grind arith

module _ (index : ℕ) (old mid behind all ahead : List Bool) (one : ℕ)
    (first : (j : ℕ) → is_marked all j ≡ nat_lt j VECTOR)
    (rest : (j : ℕ) → is_marked ahead j ≡ (is_marked all j && not (is_marked behind j)))
    (word : (i : ℕ) → i < 64 → (bit_at one i == 1) ≡ is_marked ahead (64 * 0 + i))
    (kept : (k : ℕ) → is_marked mid k ≡ (is_marked old k && allows index one k)) where
  ahead_is : (j : ℕ) → is_marked ahead j ≡ (nat_lt j VECTOR && not (is_marked behind j))
  ahead_is j = rest j ∙ ap (λ b. b && not (is_marked behind j)) (first j)

  pub told_one : (k : ℕ) → is_marked mid k ≡ false → IsTold old (64 * index) behind k
  told_one k out = λ was.
      let no = left_before (is_marked old k) (allows index one k) (sym (kept k) ∙ out) was in
      out_of_word index 0 one behind ahead k (omega arith) ahead_is word (subst (λ i. allows i one k ≡ false) (omega arith) no)

  pub told_two : (new : List Bool) (two : ℕ) → ((i : ℕ) → i < 64 → (bit_at two i == 1) ≡ is_marked ahead (64 * 1 + i))
      → ((k : ℕ) → is_marked new k ≡ (is_marked mid k && allows (index + 1) two k)) → (k : ℕ) → is_marked new k ≡ false → IsTold old (64 * index) behind k
  told_two new two more also k out = go (is_marked mid k) refl
    where
      go : (b : Bool) → is_marked mid k ≡ b → IsTold old (64 * index) behind k
      go false is = told_one k is
      go true is = λ was. out_of_word index 1 two behind ahead k (omega arith) ahead_is more (left_before (is_marked mid k) (allows (index + 1) two k) (sym (also k) ∙ out) is)
