-- A trail of a query that a text spells has no name.
use Rattle.std.proofs.Common.{◌≡◌, ℕ, Bool, true, false, List, [], ◌∷◌, inl, inr, Option, Some, None, refl, sym, subst, codes, true≢false}
use Rattle.std.specs.List.{AllByRecursion}
use Rattle.gq_base.specs.declared.literal.Literal.{Literal}
use Rattle.gq_bound.proofs.Unnamed.{ClauseUnnamed, HopUnnamed, IsUnnamed, PathUnnamed}
use Rattle.gq_lexer.specs.declared.token.Sign.TheVariants as sign
use Rattle.gq_lexer.specs.declared.token.Token.{Token}
use Rattle.gq_syntax.specs.Grammar as g
use Rattle.gq_syntax.specs.Outcomes.{SpelledText}
use Rattle.gq_syntax.specs.Spans.{SpelledQuery}
use Rattle.gq_syntax.specs.Trees.{clause, hop, path, query, rel_part, trail_part}
use Rattle.gq_ast.specs.declared.statement.Entry.{Entry}
use Rattle.gq_ast.specs.declared.statement.Query.{Query}
use Rattle.gq_ast.specs.declared.statement.Statement.{Statement}
use Rattle.gq_ast.specs.declared.statement.Statement.TheVariants as statement
use Rattle.gq_tokens.specs.Parameters.{values_of}
use Rattle.gq_tokens.specs.Relations.{Fork, Into, Listed, Many, Maybe, Must, Nothing, Pure, Then}
use Rattle.gq_tokens.specs.Words.{Name, called, name, number, sign_is, tip, word_is}
use Rattle.gq_tokens.specs.declared.opening.Tip.{Tip}
use Rattle.gq_tokens.specs.declared.params.Param.{Param}

-- ---- what R spells has a property

record Gives {A : Type 0} (R : List Token → A → Type 0) (G : A → Type 0) : Type 0 where
  gives : (ts : List Token) (x : A) → R ts x → G x

give-pure : {A : Type 0} (G : A → Type 0) (x : A) → G x → Gives (Pure x) G
give-pure G x h = record { gives = λ ts y r. subst G (sym r.1) h }

give-nothing : {A : Type 0} (G : A → Type 0) → Gives Nothing G
give-nothing G = record { gives = λ ts x r. absurd r }

give-then : {A B : Type 0} {R : List Token → A → Type 0} {S : A → List Token → B → Type 0} {G : A → Type 0} {H : B → Type 0} → Gives R G → ((x : A) → G x → Gives (S x) H) → Gives (Then R S) H
give-then h k = record { gives = λ ts y r. (k r.2 (h.gives r.0 r.2 r.4)).gives r.1 y r.5 }

give-into : {A B : Type 0} {R : List Token → A → Type 0} {G : A → Type 0} (H : B → Type 0) (make : A → B) → Gives R G → ((x : A) → G x → H (make x)) → Gives (Into make R) H
give-into H make h k = give-then h (λ x w. give-pure H (make x) (k x w))

give-fork : {T B : Type 0} {P : T → List Token → B → Type 0} {Q : List Token → B → Type 0} {G : B → Type 0} (f : Token → Option T) → ((s : T) → Gives (P s) G) → Gives Q G → Gives (Fork f P Q) G
give-fork {P = P} {Q = Q} {G = G} f h k = record { gives = go } where
  go : (ts : List Token) → (y : _) → Fork f P Q ts y → G y
  go ts y (inl r) = (h r.1).gives r.2 y r.5
  go ts y (inr r) = k.gives ts y r

give-must : {T B : Type 0} {P : T → List Token → B → Type 0} {G : B → Type 0} (f : Token → Option T) → ((s : T) → Gives (P s) G) → Gives (Must f P) G
give-must {G = G} f h = give-fork f h (give-nothing G)

give-many : {T B : Type 0} {P : T → List Token → B → Type 0} {G : B → Type 0} (f : Token → Option T) → ((s : T) → Gives (P s) G) → Gives (Many f P) (AllByRecursion G)
give-many {P = P} {G = G} f h = record { gives = go } where
  go : (ts : List Token) (xs : List _) → Many f P ts xs → AllByRecursion G xs
  go ts [] r = tt
  go ts (x ∷ xs) r = ((h r.1).gives r.2 x r.6, go r.3 xs r.7)

give-listed : {B : Type 0} {P : List Token → B → Type 0} {G : B → Type 0} → Gives P G → Gives (Listed P) (AllByRecursion G)
give-listed {G = G} h =
    give-then h (λ x w. give-into (AllByRecursion G) (λ xs. x ∷ xs) (give-many (sign_is sign.Comma) (λ _. h)) (λ xs k. (w, k)))

give-any : {A : Type 0} {R : List Token → A → Type 0} → Gives R (λ x. Unit {0})
give-any = record { gives = λ ts x r. tt }

-- ---- relationships, paths and clauses

give-ended : (t : Tip) (n : Option Name) (kinds : List Name) (entries : List Entry) → Gives (g.Ended t n kinds entries) IsUnnamed
give-ended t n kinds entries =
    give-must (sign_is sign.Minus) (λ _. give-into IsUnnamed (rel_part t n kinds entries) (give-any {R = g.Pointed t.left}) (λ way u e. absurd (true≢false (sym e))))

module _ (values : Name → Literal) where
  give-closed : (t : Tip) (n : Option Name) (kinds : List Name) → Gives (g.Closed values t n kinds) IsUnnamed
  give-closed t n kinds = give-then (give-any {R = g.Map values}) (λ entries u. give-must (sign_is sign.RightBracket) (λ _. give-ended t n kinds entries))

  give-trail : (t : Tip) (kind : Name) → Gives (g.Trail t kind) IsUnnamed
  give-trail t kind =
      give-then (give-any {R = g.SpelledRange}) (λ range u. give-must (sign_is sign.RightBracket) (λ _. give-must (sign_is sign.Minus)
      (λ _. give-into IsUnnamed (trail_part t kind range) (give-any {R = g.Led t.left}) (λ way u e. refl))))

  give-typed : (trails : Bool) (t : Tip) (kind : Name) → Gives (g.Typed values trails t kind) IsUnnamed
  give-typed true t kind = give-fork (sign_is sign.Star) (λ _. give-trail t kind) (give-then (give-any {R = g.MoreKinds kind}) (λ kinds u. give-closed t None kinds))
  give-typed false t kind = give-then (give-any {R = g.MoreKinds kind}) (λ kinds u. give-closed t None kinds)

  give-bracketed : (trails : Bool) (t : Tip) → Gives (g.Bracketed values trails t) IsUnnamed
  give-bracketed trails t =
      give-fork name (λ n. give-then (give-any {R = g.Kinds}) (λ kinds u. give-closed t (Some n) kinds))
      (give-fork (sign_is sign.Colon) (λ _. give-must called (give-typed trails t)) (give-closed t None []))

  give-lined : (trails : Bool) (t : Tip) → Gives (g.Lined values trails t) IsUnnamed
  give-lined trails t = give-fork (sign_is sign.LeftBracket) (λ _. give-bracketed trails t) (give-ended t None [] [])

  give-rel : (trails left : Bool) (t : Tip) → Gives (g.SpelledRel values trails left t) IsUnnamed
  give-rel trails true t = give-must (sign_is sign.Minus) (λ _. give-lined trails t)
  give-rel trails false t = give-lined trails t

  give-path : (trails : Bool) → Gives (g.SpelledPath values trails) PathUnnamed
  give-path trails =
      give-then (give-any {R = g.SpelledNode values}) (λ first u. give-into PathUnnamed (path first)
      (give-many {G = HopUnnamed} tip (λ t. give-then (give-rel trails t.left t) (λ rel v. give-into HopUnnamed (hop rel) (give-any {R = g.SpelledNode values}) (λ node u. v))))
      (λ hops v. v))

  module _ (depth : ℕ) where
    give-clause : Gives (g.SpelledClause values depth) ClauseUnnamed
    give-clause =
        give-then (give-listed (give-path true)) (λ paths w. give-into ClauseUnnamed (clause paths)
        (give-any {R = Maybe (word_is (codes "WHERE")) (λ _. g.Expr values depth)}) (λ filter u. w))

    give-clauses : Gives (g.Clauses values depth) (AllByRecursion ClauseUnnamed)
    give-clauses =
        give-must (word_is (codes "MATCH")) (λ _. give-then give-clause (λ c w. give-into (AllByRecursion ClauseUnnamed) (λ cs. c ∷ cs)
        (give-many (word_is (codes "MATCH")) (λ _. give-clause)) (λ cs v. (w, v))))

    abbrev Unnamed : Query → Type 0
    Unnamed q = AllByRecursion ClauseUnnamed q.clauses

    give-query : Gives (g.SpelledQuery values depth) Unnamed
    give-query =
        give-then give-clauses (λ clauses w. give-then (give-any {R = g.Optionals values depth}) (λ optionals o. give-then (give-any {R = g.Returns values depth}) (λ c v.
        give-then (give-any {R = g.Order values depth}) (λ order u. give-then (give-any {R = Maybe (word_is (codes "SKIP")) (λ _. Must number Pure)}) (λ skip x.
        give-into Unnamed (query clauses optionals c order skip) (give-any {R = Maybe (word_is (codes "LIMIT")) (λ _. Must number Pure)}) (λ limit y. w))))))

    abbrev Holds : Statement → Type 0
    Holds (statement.Query q) = Unnamed q
    Holds statement.Schema = Unit {0}
    Holds (statement.Plan q) = Unnamed q
    Holds (statement.Profile q) = Unnamed q
    Holds (statement.Param n l) = Unit {0}

    give-statement : Gives (g.SpelledStatement values depth) Holds
    give-statement =
        give-fork (sign_is sign.Colon)
        (λ _. give-fork (word_is (codes "SCHEMA")) (λ _. give-pure Holds statement.Schema tt)
        (give-fork (word_is (codes "PLAN")) (λ _. give-into Holds statement.Plan give-query (λ q w. w)) (give-fork (word_is (codes "PROFILE")) (λ _. give-into Holds statement.Profile give-query (λ q w. w))
        (give-must (word_is (codes "PARAM")) (λ _. give-must called (λ n. give-into Holds (statement.Param n) (give-any {R = g.SpelledLiteral values}) (λ l u. tt)))))))
        (give-into Holds statement.Query give-query (λ q w. w))

module _ (text : List ℕ) where
  spelled_unnamed : (params : List Param) (s : Statement) (h : SpelledText text params s) → Holds (values_of params) 64 s
  spelled_unnamed params s h = (give-statement (values_of params) 64).gives h.tokens s h.spelled

  -- no trail of a query that a text spells has a name
  pub all_unnamed : (q : Query) → SpelledQuery text q → AllByRecursion ClauseUnnamed q.clauses
  all_unnamed q (params, inl h) = spelled_unnamed params (statement.Query q) h
  all_unnamed q (params, inr (inl h)) = spelled_unnamed params (statement.Plan q) h
  all_unnamed q (params, inr (inr h)) = spelled_unnamed params (statement.Profile q) h
