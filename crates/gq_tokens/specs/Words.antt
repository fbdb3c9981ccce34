-- What single tokens stand for (openCypher 9, where this project's profile does not say otherwise).
use Prim.Native.String.{String}
use Rattle.std.specs.Prelude.{ℕ, ◌^◌, Bool, true, false, nat_lt, not, if◌then◌else◌, ◌||◌, List, [], ◌∷◌, Option, Some, None, codes}
use Rattle.std.proofs.Math.IntN.{ℤ, pos, neg_ℤ}
use Rattle.std.specs.Option.{option_map, option_or}
use Rattle.std.specs.Str.{str_eq_ignore_ascii_case}
use denote.Enum.Bare.{sameb}
use Rattle.gq_base.specs.declared.literal.Literal.{Literal}
use Rattle.gq_base.specs.declared.literal.Literal.TheVariants as literal
use Rattle.gq_lexer.specs.contracts.token.Sign.{the_type}
use Rattle.gq_lexer.specs.declared.token.Sign.{Sign}
use Rattle.gq_lexer.specs.declared.token.Sign.TheVariants as sign
use Rattle.gq_lexer.specs.declared.token.Token.{Token}
use Rattle.gq_lexer.specs.declared.token.TokenKind.{TokenKind}
use Rattle.gq_lexer.specs.declared.token.TokenKind.TheVariants as kind
use Rattle.gq_base.specs.declared.operator.ArithOp.{ArithOp}
use Rattle.gq_base.specs.declared.operator.ArithOp.TheVariants as arith
use Rattle.gq_base.specs.declared.operator.CompareOp.{CompareOp}
use Rattle.gq_base.specs.declared.operator.CompareOp.TheVariants as compare
use Rattle.gq_base.specs.declared.operator.TextTest.{TextTest}
use Rattle.gq_base.specs.declared.operator.TextTest.TheVariants as text
use Rattle.gq_tokens.specs.declared.opening.TestWord.{TestWord}
use Rattle.gq_tokens.specs.declared.opening.TestWord.TheVariants as test
use Rattle.gq_tokens.specs.declared.opening.Tip.{Tip}

-- the bytes of a name
abbrev pub Name : Type 0
Name = List ℕ

-- a value where a test holds
abbrev pub when : {A : Type 0} → Bool → A → Option A
when b x = if b then Some x else None

-- ---- signs

-- `==` of signs
unfoldable pub same_sign : Sign → Sign → Bool
same_sign = sameb the_type

abbrev pub is_sign : Sign → TokenKind → Bool
is_sign s (kind.Sign u) = same_sign u s
is_sign s _ = false

-- this sign
abbrev pub sign_is : Sign → Token → Option (Unit {0})
sign_is s t = when (is_sign s t.kind) tt

-- = <> < <= > >=
abbrev pub comparison_of : TokenKind → Option CompareOp
comparison_of (kind.Sign sign.Equal) = Some compare.Equal
comparison_of (kind.Sign sign.NotEqual) = Some compare.NotEqual
comparison_of (kind.Sign sign.Less) = Some compare.Less
comparison_of (kind.Sign sign.LessEqual) = Some compare.LessEqual
comparison_of (kind.Sign sign.Greater) = Some compare.Greater
comparison_of (kind.Sign sign.GreaterEqual) = Some compare.GreaterEqual
comparison_of _ = None

abbrev pub comparison : Token → Option CompareOp
comparison t = comparison_of t.kind

-- + -
abbrev pub addition_of : TokenKind → Option ArithOp
addition_of (kind.Sign sign.Plus) = Some arith.Add
addition_of (kind.Sign sign.Minus) = Some arith.Subtract
addition_of _ = None

abbrev pub addition : Token → Option ArithOp
addition t = addition_of t.kind

-- * / %
abbrev pub multiplication_of : TokenKind → Option ArithOp
multiplication_of (kind.Sign sign.Star) = Some arith.Multiply
multiplication_of (kind.Sign sign.Slash) = Some arith.Divide
multiplication_of (kind.Sign sign.Percent) = Some arith.Remainder
multiplication_of _ = None

abbrev pub multiplication : Token → Option ArithOp
multiplication t = multiplication_of t.kind

abbrev pub tip_of : TokenKind → ℕ → Option Tip
tip_of (kind.Sign sign.Less) at = Some (record { left = true; at = at })
tip_of (kind.Sign sign.Minus) at = Some (record { left = false; at = at })
tip_of _ at = None

-- the first sign of a relationship: `<` or `-`
abbrev pub tip : Token → Option Tip
tip t = tip_of t.kind t.span.start

-- ---- words

-- the reserved words, which are no names unless they stand in backquotes
abbrev pub reserved_words : List Name
reserved_words =
    codes "MATCH" ∷ codes "OPTIONAL" ∷ codes "WHERE" ∷ codes "RETURN" ∷ codes "DISTINCT" ∷ codes "ORDER" ∷ codes "BY" ∷ codes "ASC" ∷ codes "ASCENDING" ∷ codes "DESC"
    ∷ codes "DESCENDING" ∷ codes "SKIP" ∷ codes "LIMIT" ∷ codes "AS" ∷ codes "AND" ∷ codes "OR" ∷ codes "XOR" ∷ codes "NOT" ∷ codes "IN" ∷ codes "IS" ∷ codes "NULL" ∷ codes "TRUE"
    ∷ codes "FALSE" ∷ codes "STARTS" ∷ codes "ENDS" ∷ codes "WITH" ∷ codes "CONTAINS" ∷ codes "EXISTS" ∷ []

-- one of these words, in any ASCII case
abbrev pub is_among : Name → List Name → Bool
is_among w [] = false
is_among w (other ∷ words) = str_eq_ignore_ascii_case w other || is_among w words

-- reserved, in any ASCII case
unfoldable pub is_reserved : Name → Bool
is_reserved w = is_among w reserved_words

abbrev pub is_word : Name → TokenKind → Bool
is_word w (kind.Word written) = str_eq_ignore_ascii_case written w
is_word w _ = false

-- this word, in any ASCII case
abbrev pub word_is : Name → Token → Option (Unit {0})
word_is w t = when (is_word w t.kind) tt

abbrev pub called_of : TokenKind → Option Name
called_of (kind.Word w) = Some w
called_of (kind.Quoted w) = Some w
called_of _ = None

-- any word, or a name in backquotes
abbrev pub called : Token → Option Name
called t = called_of t.kind

abbrev pub name_of : TokenKind → Option Name
name_of (kind.Word w) = when (not (is_reserved w)) w
name_of (kind.Quoted w) = Some w
name_of _ = None

-- a word that is not reserved, or a name in backquotes
abbrev pub name : Token → Option Name
name t = name_of t.kind

abbrev pub test_word_of : TokenKind → Option TestWord
test_word_of (kind.Word w) =
    let is = λ (written : String). str_eq_ignore_ascii_case w (codes written) in
    option_or (when (is "IS") test.Is) (option_or (when (is "IN") test.In) (option_or (when (is "STARTS") (test.Text text.Starts)) (option_or (when (is "ENDS") (test.Text text.Ends)) (when (is "CONTAINS") (test.Text text.Contains)))))
test_word_of _ = None

-- IS IN STARTS ENDS CONTAINS, in any ASCII case
abbrev pub test_word : Token → Option TestWord
test_word t = test_word_of t.kind

-- STARTS WITH and ENDS WITH, but CONTAINS without WITH
abbrev pub has_with : TextTest → Bool
has_with text.Starts = true
has_with text.Ends = true
has_with text.Contains = false

abbrev pub direction_of : TokenKind → Option Bool
direction_of (kind.Word w) =
    let is = λ (written : String). str_eq_ignore_ascii_case w (codes written) in
    option_or (when (is "ASC") false) (option_or (when (is "ASCENDING") false) (option_or (when (is "DESC") true) (when (is "DESCENDING") true)))
direction_of _ = None

-- ASC ASCENDING DESC DESCENDING, in any ASCII case: whether the order is from the greatest to the least
abbrev pub direction : Token → Option Bool
direction t = direction_of t.kind

-- ---- values

abbrev pub number_of : TokenKind → Option ℕ
number_of (kind.Int n) = Some n
number_of _ = None

-- an integer as it stands
abbrev pub number : Token → Option ℕ
number t = number_of t.kind

abbrev pub is_big : TokenKind → Bool
is_big kind.Big = true
is_big _ = false

-- 9223372036854775808, which is an integer of 64 signed bits only behind a minus sign
abbrev pub big : Token → Option (Unit {0})
big t = when (is_big t.kind) tt

-- TRUE FALSE NULL, in any ASCII case
abbrev pub word_value : Name → Option Literal
word_value w = option_or (when (str_eq_ignore_ascii_case w (codes "TRUE")) (literal.Flag true)) (option_or (when (str_eq_ignore_ascii_case w (codes "FALSE")) (literal.Flag false)) (when (str_eq_ignore_ascii_case w (codes "NULL")) literal.Null))

-- an integer of 64 signed bits
abbrev pub int_value : ℕ → Option ℤ
int_value n = when (nat_lt n (2 ^ 63)) (pos n)

abbrev pub plain_of : TokenKind → Option Literal
plain_of (kind.Int n) = option_map literal.Int (int_value n)
plain_of (kind.Str s) = Some (literal.Str s)
plain_of (kind.Word w) = word_value w
plain_of _ = None

-- a literal of one token: an integer of 64 signed bits, a string, TRUE, FALSE or NULL
abbrev pub plain : Token → Option Literal
plain t = plain_of t.kind

abbrev pub negative_of : TokenKind → Option Literal
negative_of (kind.Int n) = option_map (λ z. literal.Int (neg_ℤ z)) (int_value n)
negative_of kind.Big = Some (literal.Int (neg_ℤ (pos (2 ^ 63))))
negative_of _ = None

-- the integer behind a minus sign, negated
abbrev pub negative : Token → Option Literal
negative t = negative_of t.kind
