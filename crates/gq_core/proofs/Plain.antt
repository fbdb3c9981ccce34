-- Where a search for trails finds none, no relationship is one.
use Rattle.std.proofs.Common.{◌≡◌, Bool, true, false, Option, Some, None, List, [], ◌∷◌, refl, ◌||◌, true≢false}
use Rattle.std.specs.List.{AllByRecursion, list_any}
use Rattle.std.specs.Prelude.{is_some}
use Rattle.gq_law_cuts.specs.Plain.{HaveNoTrail}
use Rattle.gq_ast.specs.declared.Clause.{Clause}
use Rattle.gq_ast.specs.declared.Hop.{Hop}
use Rattle.gq_ast.specs.declared.Path.{Path}
use Rattle.gq_core.specs.Cored.{has_trail, is_trail, path_has_trail}

none_found : {X : Type 0} (p : X → Bool) (Q : X → Type 0) → ((x : X) → p x ≡ false → Q x) → (xs : List X) → list_any p xs ≡ false → AllByRecursion Q xs
none_found p Q step [] h = tt
none_found p Q step (x ∷ xs) h = go (p x) refl h (none_found p Q step xs)
  where
    go : (b : Bool) → p x ≡ b → (b || list_any p xs) ≡ false → (list_any p xs ≡ false → AllByRecursion Q xs) → AllByRecursion Q (x ∷ xs)
    go true e h rest = absurd (true≢false h)
    go false e h rest = (step x e, rest h)

none_is : {X : Type 0} (o : Option X) → is_some o ≡ false → o ≡ None
none_is None h = refl
none_is (Some x) h = absurd (true≢false h)

pub no_trail : (clauses : List Clause) → has_trail clauses ≡ false → HaveNoTrail clauses
no_trail clauses h =
    none_found (λ (c : Clause). list_any path_has_trail c.paths) (λ (c : Clause). AllByRecursion (λ (path : Path). AllByRecursion (λ (h : Hop). h.rel.trail ≡ None) path.hops) c.paths)
    (λ c cs. none_found path_has_trail (λ (path : Path). AllByRecursion (λ (h : Hop). h.rel.trail ≡ None) path.hops)
    (λ path hs. none_found is_trail (λ (h : Hop). h.rel.trail ≡ None) (λ hop none. none_is hop.rel.trail none) path.hops hs) c.paths cs)
    clauses h
