-- Each question that is asked of the sample graph has ORDER BY, so none leaves open which of its outcomes are looked at.
use Rattle.std.proofs.Common.{◌≡◌, ℕ, zero, suc, Bool, true, false, List, [], ◌∷◌, Some, Ok, Err, refl, sym, ap, ◌∙◌, subst}
use Rattle.std.specs.Prelude.{if◌then◌else◌, not, slice_get}
use Rattle.std.specs.Str.{IsAscii, chars}
use Rattle.std.specs.Str.Lossy.{utf8_valid_len}
use Rattle.std.proofs.Math.Dec.{ltb}
use Rattle.std.proofs.lemmas.Bool.{ltb-true}
use Rattle.std.proofs.lemmas.Str.{IsUtf8-from_ascii, chars-IsAscii, is_utf8-from_IsUtf8}
use Rattle.std.proofs.lemmas.Str.Ascii.{IsAscii-cons, IsAscii-nil}
use Rattle.gq_base.specs.Lists.{is_empty}
use Rattle.gq_base.specs.declared.literal.Literal.{Literal}
use Rattle.gq_ast.specs.declared.statement.Query.{Query}
use Rattle.gq_ast.specs.declared.statement.Sort.{Sort}
use Rattle.gq_ast.specs.declared.statement.Statement.{Statement}
use Rattle.gq_ast.specs.declared.statement.Statement.TheVariants as tree
use Rattle.gq_lexer.specs.Runs as runs
use Rattle.gq_lexer.specs.Tokens.{Lexed, lexed, lexed_from}
use Rattle.gq_lexer.specs.declared.token.Token.{Token}
use Rattle.gq_reply.specs.Replies.{asked_by}
use Rattle.gq_sample.specs.Questions.{questions}
use Rattle.gq_syntax.proofs.Productions.{spelled_read}
use Rattle.gq_syntax.specs.Outcomes.{SpelledText}
use Rattle.gq_syntax.specs.steps.Parsers as p
use Rattle.gq_tokens.specs.Literals as literals
use Rattle.gq_tokens.specs.Parameters.{values_of}
use Rattle.gq_tokens.specs.Readers as readers
use Rattle.gq_tokens.specs.Readers.{Done, Verdict}
use Rattle.gq_tokens.specs.Words as words
use Rattle.gq_tokens.specs.Words.{Name}
use Rattle.gq_tokens.specs.declared.params.Param.{Param}
use Rattle.gq_tokens.specs.steps.Constructs as constructs

-- a query, or one behind `:profile`, that has sort items was read
abbrev has_order : Verdict Statement → Bool
has_order (Done (tree.Query q)) = not (is_empty q.order)
has_order (Done (tree.Profile q)) = not (is_empty q.order)
has_order v = false

abbrev tokens_in : Lexed → List Token
tokens_in (Ok tokens) = tokens
tokens_in (Err at) = []

-- each byte is of ASCII
abbrev are_small : List ℕ → Bool
are_small [] = true
are_small (c ∷ cs) = if ltb c 128 then are_small cs else false

small : (c : ℕ) (cs : List ℕ) (b : Bool) → ltb c 128 ≡ b → (are_small cs ≡ true → IsAscii cs) → (if b then are_small cs else false) ≡ true → IsAscii (c ∷ cs)
small c cs true is ascii more = IsAscii-cons c cs (ltb-true c 128 is) (ascii more)
small c cs false is ascii more = cc more

small-ascii : (text : List ℕ) → are_small text ≡ true → IsAscii text
small-ascii [] h = IsAscii-nil
small-ascii (c ∷ cs) h = small c cs (ltb c 128) refl (small-ascii cs) h

-- a text of ASCII is lexed as its bytes are
plain : (text : List ℕ) → are_small text ≡ true → lexed text ≡ lexed_from 0 text
unfolding lexed
plain text h =
    let ascii = small-ascii text h in
    ap (λ b. if b then lexed_from 0 (chars text) else Err (utf8_valid_len text)) (is_utf8-from_IsUtf8 text (IsUtf8-from_ascii text ascii))
    ∙ ap (lexed_from 0) (chars-IsAscii text ascii)

module _ (values : Name → Literal) where
  abbrev IsOrdered : List ℕ → Type 0
  IsOrdered text = (are_small text ≡ true) × (has_order (p.whole values 64 (tokens_in (lexed_from 0 text))).0 ≡ true)

  abbrev AreOrdered : List (List ℕ) → Type 0
  AreOrdered [] = Unit {0}
  AreOrdered (text ∷ texts) = IsOrdered text × AreOrdered texts

  -- by computation
  are_ordered : AreOrdered questions
  unfolding runs.run lexed_from lexed literals.literal literals.literals literals.list readers.many_from readers.many words.same_sign words.is_reserved constructs.nest p.labels p.kind p.more_kinds p.kinds p.range_from p.range_of p.pointed p.led p.trail p.ended p.value p.entry p.entries p.map p.node p.closed p.typed p.bracketed p.lined p.rel_by p.hop p.hops p.path p.arguments p.passed p.named p.grouped p.existing p.atom p.negated p.operand p.signed p.multiplied p.multiplications p.product p.added p.additions p.sum p.tested p.testers p.tests p.compared p.comparisons p.compare p.negation p.ands p.and p.xors p.xor p.ors p.or p.inside p.count p.paths p.clause p.item p.some_items p.more_items p.items p.returns p.sort p.sorts p.order p.some_clauses p.clauses p.optional p.optionals p.query p.param p.command p.statement_of p.whole lib.Utf8.encode
  are_ordered = ((refl, refl), ((refl, refl), ((refl, refl), ((refl, refl), ((refl, refl), ((refl, refl), tt))))))

  ordered_at : (texts : List (List ℕ)) (place : ℕ) (text : List ℕ) → AreOrdered texts → slice_get texts place ≡ Some text → IsOrdered text
  ordered_at [] place text all at = cc at
  ordered_at (t ∷ ts) zero text all at = let same : t ≡ text = cc at in subst IsOrdered same all.0
  ordered_at (t ∷ ts) (suc place) text all at = ordered_at ts place text all.1 at

  -- a question is spelled by no query without ORDER BY
  pub no_open : (place : ℕ) (text : List ℕ) → slice_get questions place ≡ Some text → (params : List Param) → values_of params ≡ values → (profiled : Bool) (query : Query)
      → SpelledText text params (asked_by profiled query) → query.order ≡ [] → ⊥
  no_open place text at params same profiled query spelled none =
      let read = spelled_read (values_of params) 64 spelled.tokens (asked_by profiled query) spelled.spelled in
      let ordered = ordered_at questions place text are_ordered at in
      let tokens : tokens_in (lexed_from 0 text) ≡ spelled.tokens = ap tokens_in (sym (plain text ordered.0) ∙ spelled.lexes) in
      let is : has_order (Done (asked_by profiled query)) ≡ true =
      ap (λ o. has_order o.0) (sym read) ∙ ap (λ v. has_order (p.whole v 64 spelled.tokens).0) same ∙ ap (λ ts. has_order (p.whole values 64 ts).0) (sym tokens) ∙ ordered.1 in
      go profiled is
    where
      go : (b : Bool) → has_order (Done (asked_by b query)) ≡ true → ⊥
      go false is = let e : not (is_empty {A = Sort} []) ≡ true = ap (λ l. not (is_empty l)) (sym none) ∙ is in cc e
      go true is = let e : not (is_empty {A = Sort} []) ≡ true = ap (λ l. not (is_empty l)) (sym none) ∙ is in cc e
