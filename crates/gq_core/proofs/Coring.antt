-- What a core is made of, by what is read.
use Rattle.std.proofs.Common.{◌≡◌, ◌∙◌, ℕ, List, length, refl, sym, ap, ap₂, Result, Ok, Err, IfOk}
use Rattle.gq_core.specs.Cored.{IsCore}
use Rattle.gq_core.specs.declared.cored.Core.{Core}
use Rattle.gq_core.specs.steps.Cored.{IsCoreOf}
use Rattle.gq_law_cuts.specs.Cuts.{core_first, core_of, core_size, cored_of, numbered_in, trailed_of}
use Rattle.gq_law_cuts.specs.Shaped.{core_pattern_of}
use Rattle.gq_law_reaches.specs.Core.{core_nodes}
use Rattle.gq_law_reaches.specs.Reaches.{Trailed}
use Rattle.gq_scopes.specs.Patterns.{Pattern}
use Rattle.gq_ast.specs.declared.Clause.{Clause}

size_is : (clauses : List Clause) → core_size clauses ≡ length (core_nodes (trailed_of clauses))
unfolding core_size
size_is clauses = refl

pub cored_is : (clauses : List Clause) → cored_of clauses ≡ numbered_in (core_first (trailed_of clauses)) (trailed_of clauses)
unfolding cored_of
cored_is clauses = refl

module _ {Q O P : Type 0} (first : Q → O) (size : Q → ℕ) (number : O → Q → Q) (narrow : ℕ → Q → P) (t : Q) (s : ℕ) (w : Q) (few : s ≡ size t) (numbered : w ≡ number (first t) t) where
  first_is : (q : Q) (o : O) → q ≡ t → o ≡ first q → o ≡ first t
  first_is q o read e = e ∙ ap first read

  few_is : (q : Q) (k : ℕ) → q ≡ t → k ≡ size q → k ≡ s
  few_is q k read e = e ∙ ap size read ∙ sym few

  whole_is : (q : Q) (o : O) (v : Q) → q ≡ t → o ≡ first q → v ≡ number o q → v ≡ w
  whole_is q o v read f e = e ∙ ap₂ number (first_is q o read f) read ∙ sym numbered

  narrow_is : (q : Q) (o : O) (k : ℕ) (v : Q) (p : P) → q ≡ t → o ≡ first q → k ≡ size q → v ≡ number o q → p ≡ narrow k v → p ≡ narrow s w
  narrow_is q o k v p read f n e h = h ∙ ap₂ narrow (few_is q k read n) (whole_is q o v read f e)

abbrev size_of : Trailed → ℕ
size_of q = length (core_nodes q)

abbrev narrowed : ℕ → Trailed → Pattern
narrowed k q = core_of k q.pattern

module _ (clauses : List Clause) (q : Trailed) (read : q ≡ trailed_of clauses) where
  order_is : (o : List ℕ) → o ≡ core_first q → o ≡ core_first (trailed_of clauses)
  order_is o e = first_is core_first size_of numbered_in narrowed (trailed_of clauses) (core_size clauses) (cored_of clauses) (size_is clauses) (cored_is clauses) q o read e

  nodes_are : (k : ℕ) → k ≡ length (core_nodes q) → k ≡ core_size clauses
  nodes_are k e = few_is core_first size_of numbered_in narrowed (trailed_of clauses) (core_size clauses) (cored_of clauses) (size_is clauses) (cored_is clauses) q k read e

  cored : (o : List ℕ) (v : Trailed) → o ≡ core_first q → v ≡ numbered_in o q → v ≡ cored_of clauses
  cored o v f e = whole_is core_first size_of numbered_in narrowed (trailed_of clauses) (core_size clauses) (cored_of clauses) (size_is clauses) (cored_is clauses) q o v read f e

  pattern_is : (o : List ℕ) (k : ℕ) (v : Trailed) (p : Pattern) → o ≡ core_first q → k ≡ length (core_nodes q) → v ≡ numbered_in o q → p ≡ core_of k v.pattern → p ≡ core_pattern_of clauses
  pattern_is o k v p f n e h = narrow_is core_first size_of numbered_in narrowed (trailed_of clauses) (core_size clauses) (cored_of clauses) (size_is clauses) (cored_is clauses) q o k v p read f n e h

  are_cored : (core : Core) → IsCoreOf q core → IsCore clauses core
  are_cored core h = record {
    order = order_is core.order h.order;
    nodes = nodes_are core.nodes h.nodes;
    whole = cored core.order core.whole h.order h.whole;
    pattern = pattern_is core.order core.nodes core.whole core.pattern h.order h.nodes h.whole h.pattern;
  }

  pub if_cored : {E : Type 0} (r : Result Core E) → IfOk r (IsCoreOf q) → IfOk r (IsCore clauses)
  if_cored (Ok core) h = are_cored core h
  if_cored (Err e) h = tt
