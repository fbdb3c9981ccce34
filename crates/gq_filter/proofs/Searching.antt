-- A search over the bytes of all texts finds the texts that have a part.
use Rattle.std.proofs.Common.{◌≡◌, ◌∙◌, inl, inr, ℕ, zero, suc, ◌+◌, ◌-◌, ◌<◌, ◌≤◌, List, [], ◌∷◌, ◌++◌, Bool, true, false, Some, None, length, take, drop, get_or, refl, sym, ap, arith}
use Rattle.std.specs.Prelude.{slice_range, slice_set}
use Rattle.std.specs.List.{concat}
use Rattle.std.proofs.lemmas.Bool.{cases_eq, cases_lt}
use Rattle.std.proofs.lemmas.List.{append-nil, drop-drop, drop_at, get_or-drop, get_or-set_other, get_or-set_same, get_or-take, get_or_append_left, length-append, length-drop, length-take-le, take_more}
use Rattle.std.proofs.lemmas.List.Folds.{concat-append}
use Rattle.memchr.specs.Find.{FindsNeedle, OccursAt}
use Rattle.gq_bits.specs.Places.{is_marked}
use Rattle.gq_bits.specs.declared.TheConstants.{VECTOR}
use Rattle.gq_dict.specs.Texts.{start_of, text_at}
use Rattle.gq_expr.proofs.Occurs.{found_is}
use Rattle.gq_expr.specs.Operators.{occurs}

-- ---- where texts begin that stand one behind the other

start_behind : (t : List ℕ) (ts : List (List ℕ)) (code : ℕ) → start_of (t ∷ ts) (suc code) ≡ length t + start_of ts code
start_behind t ts code = length-append t (concat (take code ts))

pub starts_rise : (d : List (List ℕ)) (a b : ℕ) → a ≤ b → start_of d a ≤ start_of d b
starts_rise d zero b h = omega arith
starts_rise d (suc a) zero h = absurd (omega (arith, h))
starts_rise [] (suc a) (suc b) h = omega arith
starts_rise (t ∷ ts) (suc a) (suc b) h = omega (arith, start_behind t ts a, start_behind t ts b, starts_rise ts a b (omega (arith, h)))

-- no text begins behind the bytes
pub start_within : (d : List (List ℕ)) (code : ℕ) → start_of d code ≤ length (concat d)
start_within d zero = omega arith
start_within [] (suc code) = omega arith
start_within (t ∷ ts) (suc code) = omega (arith, start_behind t ts code, start_within ts code, length-append t (concat ts))

-- a text stands between where it begins and where the next one does
start_next : (d : List (List ℕ)) (code : ℕ) → code < length d → start_of d (code + 1) ≡ start_of d code + length (text_at d code)
start_next d code h =
    ap (λ ts. length (concat ts)) (take_more d code [] h)
    ∙ ap length (concat-append (take code d) (text_at d code ∷ []) ∙ ap (λ t. concat (take code d) ++ t) (append-nil (text_at d code)))
    ∙ length-append (concat (take code d)) (text_at d code)

from_start : (d : List (List ℕ)) (code : ℕ) → code < length d → drop (start_of d code) (concat d) ≡ text_at d code ++ concat (drop (suc code) d)
from_start [] code h = absurd (omega (arith, h))
from_start (t ∷ ts) zero h = refl
from_start (t ∷ ts) (suc code) h =
    ap (λ n. drop n (t ++ concat ts)) (start_behind t ts code)
    ∙ sym (drop-drop (start_of ts code) (length t) (t ++ concat ts))
    ∙ ap (drop (start_of ts code)) (drop_at t (concat ts) (length t) refl)
    ∙ from_start ts code (omega (arith, h))

byte_of : (d : List (List ℕ)) (code j : ℕ) → code < length d → j < length (text_at d code) → get_or (concat d) (start_of d code + j) 0 ≡ get_or (text_at d code) j 0
byte_of d code j h low =
    sym (get_or-drop (start_of d code) (concat d) j 0)
    ∙ ap (λ l. get_or l j 0) (from_start d code h)
    ∙ get_or_append_left (text_at d code) (concat (drop (suc code) d)) 0 j low

-- the code of the text that has a byte is below the last one
pub below_last : (d : List (List ℕ)) (code high place : ℕ) → code ≤ high → start_of d code ≤ place → place < start_of d high → code < high
below_last d code high place le begun within = elim (cases_eq code high) [
  | inl is ↦ absurd (omega (arith, begun, within, ap (start_of d) is))
  | inr other ↦ omega (arith, le, other)
]

-- ---- a part of a list

module _ (bytes : List ℕ) (from end : ℕ) (part : List ℕ) (ordered : from ≤ end) (inside : end ≤ length bytes) where
  part_length : length (slice_range bytes from end) ≡ end - from
  part_length = length-take-le (end - from) (drop from bytes) (omega (arith, length-drop from bytes, inside))

  part_byte : (j : ℕ) → j < end - from → get_or (slice_range bytes from end) j 0 ≡ get_or bytes (from + j) 0
  part_byte j low = get_or-take (end - from) (drop from bytes) j 0 low ∙ get_or-drop from bytes j 0

  in_part : (p : ℕ) → from ≤ p → p + length part ≤ end → OccursAt bytes part p → OccursAt (slice_range bytes from end) part (p - from)
  in_part p low high h = record {
    fits = omega (arith, part_length, low, high);
    reads = λ j less.
        let place : from + (p - from + j) ≡ p + j = omega (arith, low) in
        part_byte (p - from + j) (omega (arith, low, high, less)) ∙ ap (λ i. get_or bytes i 0) place ∙ h.reads j less;
  }

  of_part : (k : ℕ) → OccursAt (slice_range bytes from end) part k → OccursAt bytes part (from + k)
  of_part k h = record {
    fits = omega (arith, part_length, h.fits, ordered, inside);
    reads = λ j less.
        let place : from + k + j ≡ from + (k + j) = omega arith in
        ap (λ i. get_or bytes i 0) place ∙ sym (part_byte (k + j) (omega (arith, part_length, h.fits, less))) ∙ h.reads j less;
  }

-- ---- a part in a text

-- a part stands in the text of a code, at a place of all bytes
pub record IsIn (d : List (List ℕ)) (part : List ℕ) (code p : ℕ) : Type 0 where
  pub low : start_of d code ≤ p
  pub fits : p + length part ≤ start_of d (code + 1)
  pub there : OccursAt (concat d) part p

to_bytes : (d : List (List ℕ)) (part : List ℕ) (code k : ℕ) → code < length d → OccursAt (text_at d code) part k → IsIn d part code (start_of d code + k)
to_bytes d part code k h at = record {
  low = omega arith;
  fits = omega (arith, at.fits, start_next d code h);
  there = record {
    fits = omega (arith, at.fits, start_next d code h, start_within d (code + 1));
    reads = λ j less.
        let place : start_of d code + k + j ≡ start_of d code + (k + j) = omega arith in
        ap (λ i. get_or (concat d) i 0) place ∙ byte_of d code (k + j) h (omega (arith, at.fits, less)) ∙ at.reads j less;
  };
}

to_text : (d : List (List ℕ)) (part : List ℕ) (code p : ℕ) → code < length d → IsIn d part code p → OccursAt (text_at d code) part (p - start_of d code)
to_text d part code p h at = record {
  fits = omega (arith, at.low, at.fits, start_next d code h);
  reads = λ j less.
      let place : start_of d code + (p - start_of d code + j) ≡ p + j = omega (arith, at.low) in
      sym (byte_of d code (p - start_of d code + j) h (omega (arith, at.low, at.fits, start_next d code h, less)))
      ∙ ap (λ i. get_or (concat d) i 0) place ∙ at.there.reads j less;
}

has_none : (d : List (List ℕ)) (part : List ℕ) (code : ℕ) → code < length d → ((p : ℕ) → IsIn d part code p → ⊥) → occurs (text_at d code) part ≡ false
has_none d part code h none =
    sym (found_is (text_at d code) part None (λ k low high at. none (start_of d code + k) (to_bytes d part code k h at)))

has_first : (d : List (List ℕ)) (part : List ℕ) (code hit : ℕ) → code < length d → IsIn d part code hit → ((p : ℕ) → p < hit → IsIn d part code p → ⊥) → occurs (text_at d code) part ≡ true
has_first d part code hit h at before =
    sym (found_is (text_at d code) part (Some (hit - start_of d code)) (
      record {
        low = omega arith;
        high = omega (arith, at.low, at.fits, start_next d code h);
        before = λ k low high here. before (start_of d code + k) (omega (arith, high, at.low)) (to_bytes d part code k h here);
      },
      to_text d part code hit h at,
    ))

-- ---- the search

module _ (d : List (List ℕ)) (part : List ℕ) (low high : ℕ) where
  -- a search has come to a place: of the texts before a code it is told whether they have the part, and those from it on do not have it before the place
  pub record IsSearched (code from : ℕ) (marks : List Bool) : Type 0 where
    pub whole : length marks ≡ VECTOR
    pub first : low ≤ code
    pub last : code ≤ high
    pub begun : start_of d code ≤ from
    pub within : from ≤ start_of d high
    pub done : (k : ℕ) → low + k < code → is_marked marks k ≡ occurs (text_at d (low + k)) part
    pub later : (k : ℕ) → code ≤ low + k → is_marked marks k ≡ false
    pub passed : (c p : ℕ) → code ≤ c → c < high → p < from → IsIn d part c p → ⊥

  pub none_searched : (marks : List Bool) → low ≤ high → length marks ≡ VECTOR → ((k : ℕ) → is_marked marks k ≡ false) → IsSearched low (start_of d low) marks
  none_searched marks ordered whole none = record {
    whole = whole;
    first = omega arith;
    last = ordered;
    begun = omega arith;
    within = starts_rise d low high ordered;
    done = λ k less. absurd (omega (arith, less));
    later = λ k le. none k;
    passed = λ c p le below less at. absurd (omega (arith, less, at.low, starts_rise d low c le));
  }

  module _ (inside : high ≤ length d) (some : 0 < length part) (code from : ℕ) (marks : List Bool) (s : IsSearched code from marks) where
    -- what a search of the rest passed over
    abbrev Clear : ℕ → Type 0
    Clear hit = (c p : ℕ) → code ≤ c → c < high → p < hit → IsIn d part c p → ⊥

    in_rest : (c p : ℕ) → c < high → from ≤ p → IsIn d part c p → OccursAt (slice_range (concat d) from (start_of d high)) part (p - from)
    in_rest c p below le at =
        in_part (concat d) from (start_of d high) part s.within (start_within d high) p le (omega (arith, at.fits, starts_rise d (c + 1) high (omega (arith, below)))) at.there

    clear : (hit : ℕ) → ((k : ℕ) → k < hit - from → OccursAt (slice_range (concat d) from (start_of d high)) part k → ⊥) → Clear hit
    clear hit none c p le below less at = elim (cases_lt p from) [
      | inl early ↦ s.passed c p le below early at
      | inr late ↦ none (p - from) (omega (arith, less, late)) (in_rest c p below late at)
    ]

    -- the texts from the code on that lie before a place do not have the part
    done_to : (hit at : ℕ) → Clear hit → at ≤ high → start_of d at ≤ hit → (k : ℕ) → low + k < at → is_marked marks k ≡ occurs (text_at d (low + k)) part
    done_to hit at none bound begins k less = elim (cases_lt (low + k) code) [
      | inl early ↦ s.done k early
      | inr late ↦
          s.later k late
          ∙ sym (has_none d part (low + k) (omega (arith, less, bound, inside))
          (λ p here. none (low + k) p late (omega (arith, less, bound)) (omega (arith, here.fits, some, begins, starts_rise d (low + k + 1) at (omega (arith, less)))) here))
    ]

    -- nothing was found in the rest
    pub all_searched : FindsNeedle (slice_range (concat d) from (start_of d high)) part 0 None → (k : ℕ) → k < high - low → is_marked marks k ≡ occurs (text_at d (low + k)) part
    all_searched none k less =
        done_to (start_of d high) high (clear (start_of d high) (λ j below at. none j (omega arith) (omega (arith, at.fits)) at)) (omega arith) (omega arith) k (omega (arith, less))

    -- there is no rest
    pub none_left : (from < start_of d high → ⊥) → (k : ℕ) → k < high - low → is_marked marks k ≡ occurs (text_at d (low + k)) part
    none_left end k less =
        done_to (start_of d high) high (clear (start_of d high) (λ j below at. absurd (end (omega (arith, below))))) (omega arith) (omega arith) k (omega (arith, less))

    -- a place was found
    module _ (place : ℕ) (found : FindsNeedle (slice_range (concat d) from (start_of d high)) part 0 (Some place)) where
      abbrev hit : ℕ
      hit = from + place

      before_hit : Clear hit
      before_hit = clear hit (λ k less at. found.0.before k (omega arith) (omega (arith, less)) at)

      at_hit : OccursAt (concat d) part hit
      at_hit = of_part (concat d) from (start_of d high) part s.within (start_within d high) place found.1

      pub hit_within : hit < start_of d high
      hit_within = omega (arith, found.1.fits, some, s.within, part_length (concat d) from (start_of d high) part s.within (start_within d high))

      module _ (at : ℕ) (from_code : code ≤ at) (below : at < high) (begins : start_of d at ≤ hit) (ends : hit < start_of d (at + 1)) where
        -- the text that it begins in has the part
        pub hit_marked : (new : List Bool) → high - low ≤ VECTOR → length part ≤ start_of d (at + 1) - hit → new ≡ slice_set marks (at - low) true → length new ≡ VECTOR → IsSearched (at + 1) (start_of d (at + 1)) new
        hit_marked new few fits written whole = record {
          whole = whole;
          first = omega (arith, s.first, from_code);
          last = omega (arith, below);
          begun = omega arith;
          within = starts_rise d (at + 1) high (omega (arith, below));
          done = λ k less. ap (λ m. is_marked m k) written ∙ elim (cases_eq k (at - low)) [
            | inl same ↦
                (let here : low + k ≡ at = omega (arith, same, s.first, from_code) in
                ap (is_marked (slice_set marks (at - low) true)) same
                ∙ get_or-set_same marks (at - low) true false (omega (arith, s.whole, few, below, s.first, from_code))
                ∙ sym (has_first d part at hit (omega (arith, below, inside)) has (λ p less here. before_hit at p from_code below less here))
                ∙ ap (λ c. occurs (text_at d c) part) (sym here))
            | inr other ↦ get_or-set_other marks (at - low) k true false other ∙ done_to hit at before_hit (omega (arith, below)) begins k (omega (arith, less, other, s.first, from_code))
          ];
          later = λ k le. ap (λ m. is_marked m k) written ∙ get_or-set_other marks (at - low) k true false (λ same. omega (arith, same, le, s.first, from_code)) ∙ s.later k (omega (arith, le, from_code));
          passed = λ c p le less early here. absurd (omega (arith, early, here.low, starts_rise d (at + 1) c le));
        }
          where
            has : IsIn d part at hit
            has = record { low = begins; fits = omega (arith, fits, ends); there = at_hit }

        -- it ends in another text: none is left in the one that it begins in
        pub hit_passed : (length part ≤ start_of d (at + 1) - hit → ⊥) → IsSearched (at + 1) (start_of d (at + 1)) marks
        hit_passed over = record {
          whole = s.whole;
          first = omega (arith, s.first, from_code);
          last = omega (arith, below);
          begun = omega arith;
          within = starts_rise d (at + 1) high (omega (arith, below));
          done = λ k less. elim (cases_eq (low + k) at) [
            | inl same ↦
                s.later k (omega (arith, same, from_code))
                ∙ sym (has_none d part at (omega (arith, below, inside)) has_not)
                ∙ ap (λ c. occurs (text_at d c) part) (sym same)
            | inr other ↦ done_to hit at before_hit (omega (arith, below)) begins k (omega (arith, less, other))
          ];
          later = λ k le. s.later k (omega (arith, le, from_code));
          passed = λ c p le less early here. absurd (omega (arith, early, here.low, starts_rise d (at + 1) c le));
        }
          where
            has_not : (p : ℕ) → IsIn d part at p → ⊥
            has_not p here = elim (cases_lt p hit) [
              | inl before ↦ before_hit at p from_code below before here
              | inr late ↦ over (omega (arith, late, here.fits))
            ]
