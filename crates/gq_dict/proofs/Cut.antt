-- Texts that stand side by side: where each of them begins, and one more behind the others.
use Rattle.std.proofs.Common.{◌≡◌, ℕ, zero, suc, ◌+◌, ◌-◌, ◌<◌, ◌≤◌, List, [], ◌∷◌, ◌++◌, length, get_or, take, drop, map, refl, sym, ap, ◌∙◌, subst, arith, below_more, length-append}
use Rattle.std.specs.Prelude.{slice_range}
use Rattle.std.specs.List.{concat, range_with_len}
use Rattle.std.specs.Str.{IsUtf8}
use Rattle.std.proofs.lemmas.List.Folds.{concat-append}
use Rattle.std.proofs.lemmas.List.{append-nil, drop-append-le, take-append-le, drop_at, ext_get_or, get_or_append_left, get_or_default, get_or_push, length-drop, length-take-le, length_push, take_all, take_more}
use Rattle.std.proofs.lemmas.List.FromFn.{get_or-map-range_with_len, length-map-range_with_len, map-range_with_len_more}
use Rattle.gq_dict.specs.Texts.{start_of, text_at}
use Rattle.gq_dict.specs.steps.Cut.{IsCut, text_in, texts_in}

-- a text begins where the one before it ends
pub start_behind : (ends : List ℕ) (place : ℕ) → ¬ (place ≡ 0) → get_or ends (place - 1) 0 ≡ get_or (0 ∷ ends) place 0
start_behind ends zero some = absurd (some refl)
start_behind ends (suc place) some = let before : suc place - 1 ≡ place = omega arith in ap (λ k. get_or ends k 0) before

pub length_texts_in : (bytes ends : List ℕ) → length (texts_in bytes ends) ≡ length ends
length_texts_in bytes ends = length-map-range_with_len (text_in bytes ends) 0 (length ends)

pub text_there : (bytes ends : List ℕ) (place : ℕ) → place < length ends → text_at (texts_in bytes ends) place ≡ text_in bytes ends place
text_there bytes ends place h = get_or-map-range_with_len (text_in bytes ends) 0 (length ends) place place [] h (omega arith)

-- it does not end before it begins
pub ordered_at : (bytes ends : List ℕ) (place d : ℕ) → IsCut bytes ends → place < length ends → get_or (0 ∷ ends) place 0 ≤ get_or ends place d
ordered_at bytes ends place d cut h = omega (arith, cut.ordered place h, get_or_default ends place 0 d h)

-- what a text at a place is read by
pub ruleset reading = (length_texts_in, text_there, ordered_at)

-- ---- all texts, one behind the other

-- the front of a list, and the part behind it, are a longer front
front_and_part : (bytes : List ℕ) (start end : ℕ) → start ≤ end → take start bytes ++ slice_range bytes start end ≡ take end bytes
front_and_part bytes zero end le = ap (λ n. take n bytes) back
  where
    back : end - 0 ≡ end
    back = omega arith
front_and_part [] (suc start) zero le = absurd (omega (arith, le))
front_and_part [] (suc start) (suc end) le = take_all (suc end - suc start) [] (omega arith)
front_and_part (b ∷ bytes) (suc start) zero le = absurd (omega (arith, le))
front_and_part (b ∷ bytes) (suc start) (suc end) le =
    let less : suc end - suc start ≡ end - start = omega arith in
    ap (λ n. b ∷ take start bytes ++ take n (drop start bytes)) less
    ∙ ap (λ l. b ∷ l) (front_and_part bytes start end (omega (arith, le)))

-- the first texts are the bytes before the next one
first_texts : (bytes ends : List ℕ) → IsCut bytes ends → (n : ℕ) → n ≤ length ends → concat (take n (texts_in bytes ends)) ≡ take (get_or (0 ∷ ends) n 0) bytes
first_texts bytes ends cut zero h = refl
first_texts bytes ends cut (suc n) h =
    let low : n < length ends = omega (arith, h) in
    let up : suc n ≡ n + 1 = omega arith in
    let texts = texts_in bytes ends in
    let one = take_more texts n [] (omega (arith, low, length_texts_in bytes ends)) in
    ap (λ k. concat (take k texts)) up ∙ ap concat one
    ∙ concat-append (take n texts) (text_at texts n ∷ [])
    ∙ ap (λ t. concat (take n texts) ++ t) (append-nil (text_at texts n) ∙ text_there bytes ends n low)
    ∙ ap (λ l. l ++ text_in bytes ends n) (first_texts bytes ends cut n (omega (arith, low)))
    ∙ front_and_part bytes (get_or (0 ∷ ends) n 0) (get_or ends n 0) (cut.ordered n low)

pub concat_texts : (bytes ends : List ℕ) → IsCut bytes ends → concat (texts_in bytes ends) ≡ bytes
concat_texts bytes ends cut =
    let texts = texts_in bytes ends in
    ap concat (sym (take_all (length ends) texts (omega (arith, length_texts_in bytes ends))))
    ∙ first_texts bytes ends cut (length ends) (omega arith) ∙ ap (λ n. take n bytes) cut.full ∙ take_all (length bytes) bytes (omega arith)

-- a text does not begin behind the bytes
start_within : (bytes ends : List ℕ) → IsCut bytes ends → (n : ℕ) → n ≤ length ends → get_or (0 ∷ ends) n 0 ≤ length bytes
start_within bytes ends cut zero h = omega arith
start_within bytes ends cut (suc n) h = cut.within n (omega (arith, h))

pub start_there : (bytes ends : List ℕ) → IsCut bytes ends → (n : ℕ) → n ≤ length ends → get_or (0 ∷ ends) n 0 ≡ start_of (texts_in bytes ends) n
start_there bytes ends cut n h =
    sym (ap length (first_texts bytes ends cut n h) ∙ length-take-le (get_or (0 ∷ ends) n 0) bytes (start_within bytes ends cut n h))

-- a part of a list is one of the list when it has grown
part_kept : (bytes more : List ℕ) (start end : ℕ) → start ≤ end → end ≤ length bytes → slice_range (bytes ++ more) start end ≡ slice_range bytes start end
part_kept bytes more start end le within =
    ap (take (end - start)) (drop-append-le start bytes more (omega arith))
    ∙ take-append-le (end - start) (drop start bytes) more (omega (arith, length-drop start bytes))

-- what was appended is the part behind the list
part_behind : (bytes more : List ℕ) → slice_range (bytes ++ more) (length bytes) (length (bytes ++ more)) ≡ more
part_behind bytes more =
    ap (take (length (bytes ++ more) - length bytes)) (drop_at bytes more (length bytes) refl)
    ∙ take_all (length (bytes ++ more) - length bytes) more (omega (arith, length-append bytes more))

-- one more text behind the others
module _ (bytes ends text : List ℕ) (cut : IsCut bytes ends) where
  abbrev all : List ℕ
  all = bytes ++ text

  abbrev cuts : List ℕ
  cuts = ends ++ length all ∷ []

  start_kept : (place : ℕ) → place ≤ length ends → get_or (0 ∷ cuts) place 0 ≡ get_or (0 ∷ ends) place 0
  start_kept place h = get_or_append_left (0 ∷ ends) (length all ∷ []) 0 place (omega (arith, h))

  end_kept : (place : ℕ) → place < length ends → get_or cuts place 0 ≡ get_or ends place 0
  end_kept place h = get_or_append_left ends (length all ∷ []) 0 place h

  last_start : get_or (0 ∷ cuts) (length ends) 0 ≡ length bytes
  last_start = start_kept (length ends) (omega arith) ∙ cut.full

  last_end : get_or cuts (length ends) 0 ≡ length all
  last_end = get_or_push ends (length all) 0 (length ends) refl

  text_kept : (place : ℕ) → place < length ends → text_in all cuts place ≡ text_in bytes ends place
  text_kept place h =
      ap (λ start. slice_range all start (get_or cuts place 0)) (start_kept place (omega (arith, h)))
      ∙ ap (slice_range all (get_or (0 ∷ ends) place 0)) (end_kept place h)
      ∙ part_kept bytes text (get_or (0 ∷ ends) place 0) (get_or ends place 0) (cut.ordered place h) (cut.within place h)

  last_text : text_in all cuts (length ends) ≡ text
  last_text =
      ap (λ start. slice_range all start (get_or cuts (length ends) 0)) last_start
      ∙ ap (slice_range all (length bytes)) last_end
      ∙ part_behind bytes text

  pub texts_push : texts_in all cuts ≡ texts_in bytes ends ++ text ∷ []
  texts_push =
      ap (λ n. map (text_in all cuts) (range_with_len 0 n)) (length_push ends (length all))
      ∙ map-range_with_len_more (text_in all cuts) 0 (length ends) (length ends) (omega arith)
      ∙ ap (λ t. map (text_in all cuts) (range_with_len 0 (length ends)) ++ t ∷ []) last_text
      ∙ ap (λ texts. texts ++ text ∷ []) others
    where
      size : length (map (text_in all cuts) (range_with_len 0 (length ends))) ≡ length ends
      size = length-map-range_with_len (text_in all cuts) 0 (length ends)

      others : map (text_in all cuts) (range_with_len 0 (length ends)) ≡ texts_in bytes ends
      others = ext_get_or [] _ _ (size ∙ sym (length_texts_in bytes ends))
          (λ i h. let low : i < length ends = omega (arith, h, size) in
          get_or-map-range_with_len (text_in all cuts) 0 (length ends) i i [] low (omega arith) ∙ text_kept i low ∙ sym (text_there bytes ends i low))

  -- what holds of each text before and of the last holds of each
  each : (P : ℕ → Type 0) → ((k : ℕ) → k < length ends → P k) → P (length ends) → (k : ℕ) → k < length cuts → P k
  each P others last k h = below_more _ _ others last k (omega (arith, h, length_push ends (length all)))

  pub cut_push : IsUtf8 text → IsCut all cuts
  cut_push utf8 = record {
    ordered = each (λ k. get_or (0 ∷ cuts) k 0 ≤ get_or cuts k 0) (λ k h. omega (arith, start_kept k (omega (arith, h)), end_kept k h, cut.ordered k h)) (omega (arith, last_start, last_end, length-append bytes text));
    within = each (λ k. get_or cuts k 0 ≤ length all) (λ k h. omega (arith, end_kept k h, cut.within k h, length-append bytes text)) (omega (arith, last_end));
    full = (let size : length cuts ≡ suc (length ends) = omega (arith, length_push ends (length all)) in ap (λ n. get_or (0 ∷ cuts) n 0) size ∙ last_end);
    utf8 = each (λ k. IsUtf8 (text_in all cuts k)) (λ k h. subst IsUtf8 (sym (text_kept k h)) (cut.utf8 k h)) (subst IsUtf8 (sym last_text) utf8);
  }
