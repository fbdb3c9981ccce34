-- Codes of texts of one dictionary in another one.
use Rattle.std.proofs.Common.{◌≡◌, ℕ, ℤ, pos, ◌<◌, cond, Option, Some, None, List, length, sym, ap, ◌∙◌, subst, inl, inr, true≢false}
use Rattle.std.proofs.lemmas.Bool.{cases_order, lt-ltb}
use Rattle.gq_dict.specs.Texts.{IsAscending, comes_before, text_at}
use Rattle.gq_dict.proofs.Order.{before_itself}
use Rattle.gq_same_texts.specs.Same.{Dicts, IsCellOf, Turns}
use Rattle.gq_same_texts.specs.steps.Codes.{IsCodeIn, cell_in, code_in}

-- ---- one code

-- no two codes have one text
distinct : (dict : List (List ℕ)) → IsAscending dict → (i j : ℕ) → i < length dict → j < length dict → text_at dict i ≡ text_at dict j → i ≡ j
distinct dict up i j hi hj same = elim (cases_order i j) [
  | inl is ↦ is
  | inr (inl low) ↦ absurd (true≢false (sym (up i j low hj) ∙ ap (comes_before (text_at dict i)) (sym same) ∙ before_itself (text_at dict i)))
  | inr (inr high) ↦ absurd (true≢false (sym (up j i high hi) ∙ ap (comes_before (text_at dict j)) same ∙ before_itself (text_at dict j)))
]

-- ---- one cell

code_there : (count code : ℕ) → code < count → code_in count (Some (pos code)) ≡ Some code
code_there count code low = ap (λ b. cond b (Some code) None) (lt-ltb code count low)

-- a text's cell has this code
code_at : (d : Dicts) (cell : Option ℤ) (text : List ℕ) (o : Option ℕ) (at : IsCellOf d.from text cell) → o ≡ code_in (length d.from) cell → o ≡ Some at.code.code
code_at d cell text o at found = found ∙ ap (code_in (length d.from)) (at.known ∙ ap Some at.code.is) ∙ code_there (length d.from) at.code.code at.code.within

pub turns_past : (d : Dicts) (cell : Option ℤ) (o : Option ℕ) → o ≡ code_in (length d.from) cell → o ≡ None → Turns d cell None
turns_past d cell o found past text own at to = (let there = code_at d cell text o at found in absurd (cc (sym past ∙ there)))

-- the same text in the other dictionary
own_is : (dict : List (List ℕ)) (text : List ℕ) (own : Option ℤ) (o : Option ℕ) → IsCodeIn dict text o → IsCellOf dict text own → cell_in o ≡ own
own_is dict text own None none to = (let k = to.code in absurd (none k.code k.within k.text_is))
own_is dict text own (Some code) found to =
    let k = to.code in
    let same : code ≡ k.code = distinct dict to.ascending code k.code found.0 k.within (found.1 ∙ sym k.text_is) in
    ap (λ n. Some (pos n)) same ∙ ap Some (sym k.is) ∙ sym to.known

pub turns_code : (d : Dicts) (cell : Option ℤ) (o p : Option ℕ) (code : ℕ) → o ≡ code_in (length d.from) cell → o ≡ Some code → IsCodeIn d.to (text_at d.from code) p → Turns d cell (cell_in p)
turns_code d cell o p code found is coded text own at to =
    let one : code ≡ at.code.code = (let both : Some code ≡ Some at.code.code = sym is ∙ code_at d cell text o at found in cc both) in
    own_is d.to text own p (subst (λ t. IsCodeIn d.to t p) (ap (text_at d.from) one ∙ at.code.text_is) coded) to
