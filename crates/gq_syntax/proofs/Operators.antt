-- The readers of operators and their operands meet their relations.
use Rattle.std.proofs.Common.{◌≡◌, ℕ, Bool, true, List, ◌++◌, Option}
use Rattle.gq_lexer.specs.declared.token.Token.{Token}
use Rattle.gq_tokens.specs.Readers.{Reader, into, many}
use Rattle.gq_tokens.proofs.Classes.{Takes}
use Rattle.gq_tokens.proofs.Meets.{Meets, meets-into, meets-many, meets-spanned, meets-then}
use Rattle.gq_tokens.proofs.Runs.{Rel}
use Rattle.gq_tokens.proofs.Sets.{apart}
use Rattle.gq_syntax.specs.Grammar.{Chain, Terms}
use Rattle.gq_syntax.specs.steps.Parsers.{tailed}
use Rattle.gq_syntax.specs.Trees.{Node, chain_made, made, tail_made, term}
use Rattle.gq_ast.specs.declared.expression.Ast.{Ast}
use Rattle.gq_ast.specs.declared.expression.Term.{Term}

-- operand { op operand }, with the operands of an operator in one list
pub meets-chain : {same : Bool} {op : Token → Option (Unit {0})} {G : List ℕ} → Takes op G
    → (node : List Ast → Node) {p p2 : Reader Ast} {P PMore : Rel Ast} {first after : List ℕ}
    → Meets same p p2 P PMore first (G ++ after) → apart G after ≡ true
    → Meets same (tailed (chain_made node) p (many op (λ _. p)))
    (tailed (chain_made node) p2 (many op (λ _. p2)))
    (Chain op node P) (Chain op node PMore) first after
meets-chain takes node h e =
    meets-spanned made
    (meets-then h (λ x. meets-into (chain_made node x) (meets-many takes (λ _. h) e)))

-- operand { op operand }, with each operator beside the operand at its right
pub meets-terms : {O : Type 0} {same : Bool} {op : Token → Option O} {G : List ℕ} → Takes op G
    → (node : Ast → List (Term O Ast) → Node) {p p2 : Reader Ast} {P PMore : Rel Ast}
    {first after : List ℕ} → Meets same p p2 P PMore first (G ++ after) → apart G after ≡ true
    → Meets same (tailed (tail_made node) p (many op (λ o. into (term o) p)))
    (tailed (tail_made node) p2 (many op (λ o. into (term o) p2)))
    (Terms op node P) (Terms op node PMore) first after
meets-terms takes node h e =
    meets-spanned made
    (meets-then h (λ x. meets-into (tail_made node x)
    (meets-many takes (λ o. meets-into (term o) h) e)))
