use Rattle.std.proofs.Common.{◌≡◌, ℕ, zero, suc, ◌<◌, ◌||◌, List, [], ◌∷◌, length, get_or, drop, map, refl, sym, ◌∙◌, ap, arith, add-one}
use Rattle.std.specs.Str.{str_eq_ignore_ascii_case}
use Rattle.gq_tokens.specs.Words.{Name, is_among}
use Rattle.gq_tokens.proofs.words.is_among.Goals as goal

-- whether the words from a place on have it: the first of them, or those behind it
from_place : {X : Type 0} (f : X → Name) (w : Name) (xs : List X) (i : ℕ) (d : X) → i < length xs
    → is_among w (drop i (map f xs)) ≡ (str_eq_ignore_ascii_case w (f (get_or xs i d)) || is_among w (drop (suc i) (map f xs)))
from_place f w [] i d h = absurd (omega arith)
from_place f w (x ∷ xs) zero d h = refl
from_place f w (x ∷ xs) (suc i) d h = from_place f w xs i d (omega arith)

pub returns-then-same_word : goal.returns-then-same_word
returns-then-same_word c =
    let here = from_place (λ w. w.now) c.args.word.now c.args.words.now c.loop-other.other-index (record { ref_ptr = (0, 0); now = [] }) c.loop-other-test.true in
    let is = sym c.same_word.ensures ∙ c.if-same_word.true in
    sym (ap (λ b. b || is_among c.args.word.now (drop (suc c.loop-other.other-index) (map (λ w. w.now) c.args.words.now))) is) ∙ sym here ∙ c.loop-other.invariant

pub loop-other-preserved : goal.loop-other-preserved
loop-other-preserved c =
    let here = from_place (λ w. w.now) c.args.word.now c.args.words.now c.loop-other.other-index (record { ref_ptr = (0, 0); now = [] }) c.loop-other-test.true in
    let is = sym c.same_word.ensures ∙ c.if-same_word.false in
    rw add-one (sym (here ∙ ap (λ b. b || is_among c.args.word.now (drop (suc c.loop-other.other-index) (map (λ w. w.now) c.args.words.now))) is) ∙ c.loop-other.invariant)
