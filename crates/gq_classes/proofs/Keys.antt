-- Keys tell their fronts and values apart.
use Rattle.std.proofs.Common.{◌≡◌, ◌∙◌, ap, sym, ℕ, ◌<◌, Bool, true, Some, List, [], length, slice_get, slice_index_or, arith}
use Rattle.std.proofs.lemmas.Bool.Decides.{nat_tests}
use Rattle.std.proofs.lemmas.Option.{slice_get-get_or}
use Rattle.gq_base.specs.Values.{str}
use Rattle.gq_classes.specs.declared.key.Key.{Key}
use Rattle.gq_classes.specs.contracts.key.KeyPartialEq as derived
use Rattle.gq_classes.specs.steps.Levels.{AreTexts, HasText, front_of, key_val, text_val}

-- the test of keys decides
abbrev pub same_key : Key → Key → Bool
same_key = (derived.TheImpl.eq-value).it

pub same_decides : (k j : Key) → same_key k j ≡ true → k ≡ j
same_decides k j e = grind (arith, nat_tests)

pub same_itself : (k : Key) → same_key k k ≡ true
same_itself k = grind (arith, nat_tests)

-- a text has one number
one_text : (texts : List (List ℕ)) → AreTexts texts → (n m : ℕ) → n < length texts → m < length texts → text_val (slice_get texts n) ≡ text_val (slice_get texts m) → n ≡ m
one_text texts once n m a b e =
    let p = slice_get-get_or texts n [] a in
    let q = slice_get-get_or texts m [] b in
    let is : str (slice_index_or texts n []) ≡ str (slice_index_or texts m []) = sym (ap text_val p) ∙ e ∙ ap text_val q in
    once n m (slice_index_or texts m []) (p ∙ ap Some (let text : slice_index_or texts n [] ≡ slice_index_or texts m [] = cc in text)) q

-- a text is no null
pub text_there : (texts : List (List ℕ)) (n : ℕ) → n < length texts → text_val (slice_get texts n) ≡ str (slice_index_or texts n [])
text_there texts n a = ap text_val (slice_get-get_or texts n [] a)

pub same_keys : (texts : List (List ℕ)) → AreTexts texts → (k j : Key) → HasText (length texts) k → HasText (length texts) j → front_of k ≡ front_of j → key_val texts k ≡ key_val texts j → k ≡ j
same_keys texts once k j a b f v = grind (arith, one_text, text_there, once)
