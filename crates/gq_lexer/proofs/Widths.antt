-- How many bytes the front of a text takes.
use Rattle.std.proofs.Common.{◌≡◌, ℕ, ◌+◌, ◌<◌, ◌≤◌, List, [], ◌∷◌, ◌++◌, length, take, drop, get_or, sym, ap, ◌∙◌, append-nil, arith, length-append, length-take-le}
use Rattle.std.specs.Char.{encode_utf8}
use Rattle.std.specs.Str.{chars, encode_utf8_all, IsUtf8}
use Rattle.std.proofs.Math.Seq.{take-add}
use Rattle.std.proofs.lemmas.List.{take_more, take-append-drop}
use Rattle.std.proofs.lemmas.Str.{encodes-append, encodes-chars, length-le-encodes}
use Rattle.gq_lexer.specs.Tokens.{width}

-- the bytes of two pieces
pub width_append : (xs ys : List ℕ) → width (xs ++ ys) ≡ width xs + width ys
width_append xs ys = ap length (encodes-append xs ys) ∙ length-append (encode_utf8_all xs) (encode_utf8_all ys)

width_one : (c : ℕ) → width (c ∷ []) ≡ length (encode_utf8 c)
width_one c = ap length (append-nil (encode_utf8 c))

-- one more character
pub width_next : (cs : List ℕ) (at c : ℕ) → at < length cs → c ≡ get_or cs at c → width (take (at + 1) cs) ≡ width (take at cs) + length (encode_utf8 c)
width_next cs at c h is = ap width (take_more cs at c h) ∙ width_append (take at cs) (get_or cs at c ∷ []) ∙ ap (λ w. width (take at cs) + w) (ap (λ d. width (d ∷ [])) (sym is) ∙ width_one c)

-- the front is no longer than the whole
pub width_front : (cs : List ℕ) (at : ℕ) → width (take at cs) ≤ width cs
width_front cs at = omega (arith, sym (width_append (take at cs) (drop at cs)) ∙ ap width (take-append-drop at cs))

-- so many characters behind the front
pub width_behind : (cs rest : List ℕ) (place size at w : ℕ) → rest ≡ drop place cs → at ≡ width (take place cs) → w ≡ width (take size rest) → at + w ≡ width (take (place + size) cs)
width_behind cs rest place size at w e e1 e2 =
    let whole = ap width (take-add place size cs) ∙ width_append (take place cs) (take size (drop place cs)) in
    let same : w ≡ width (take size (drop place cs)) = e2 ∙ ap (λ r. width (take size r)) e in
    omega (arith, whole, same, e1)

-- the characters of a text take its bytes
pub width-chars : (text : List ℕ) → IsUtf8 text → width (chars text) ≡ length text
width-chars text u = ap length (encodes-chars text u)

-- a front that is not empty takes a byte
pub width_some : (cs : List ℕ) (size : ℕ) → 0 < size → size ≤ length cs → 0 < width (take size cs)
width_some cs size h within = omega (arith, length-le-encodes (take size cs), length-take-le size cs within)
