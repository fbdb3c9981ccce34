-- Finders of columns' values, where sources are added.
use Rattle.std.proofs.Common.{◌≡◌, ◌∙◌, ◌<◌, ℕ, zero, suc, List, [], ◌∷◌, ◌++◌, length, min, take, drop, get_or, Some, Ok, refl, sym, ap, subst, arith, ◌+◌}
use Rattle.std.specs.Prelude.{slice_get}
use Rattle.std.proofs.lemmas.List.{drop_all, drop_more, map-append, take_more}
use Rattle.std.proofs.lemmas.List.Elements.{All-cons}
use Rattle.std.proofs.lemmas.Slice.Zip.{AllZip-long, all_zipped_more}
use Rattle.gq_base.specs.Plain.{Graph}
use Rattle.gq_base.specs.Values.{Val}
use Rattle.gq_cells.specs.Numbers.{IsNumber, number_val, source_val}
use Rattle.gq_cells.specs.declared.source.Source.{Source}
use Rattle.gq_eval.specs.Asked.{Asked, answers, asked, asked_of}
use Rattle.gq_expr.specs.Meaning.{meaning}
use Rattle.gq_expr.specs.Operators.{Outcome}
use Rattle.gq_expr.specs.Reading as reading
use Rattle.gq_expr.specs.declared.expr.Expr.{Expr}
use Rattle.gq_plan.specs.Outcomes.{then_with}
use Rattle.gq_plan.specs.declared.bound.NamedExpr.{NamedExpr}
use Rattle.gq_listed.specs.Finding.{Extends, Finds, FindsBy, HasNumber, IsFinder, PutsColumn}
use Rattle.gq_project.specs.Judged.{values_after}
use Rattle.gq_listed.specs.Listed.{AreFinders, AreOver}
use Rattle.gq_listed.specs.declared.finder.Finder.{Finder}
use Rattle.gq_listed.specs.declared.finder.Way.{Way}
use Rattle.gq_listed.specs.declared.finder.Way.TheVariants as way

-- ---- sources that are added

found_more : (old more : List Source) (place : ℕ) (s : Source) → slice_get old place ≡ Some s → slice_get (old ++ more) place ≡ Some s
found_more [] more place s h = absurd (let x : ⊥ = cc in x)
found_more (t ∷ ts) more zero s h = h
found_more (t ∷ ts) more (suc place) s h = found_more ts more place s h

pub extends : (old new : List Source) (more : List Source) → new ≡ old ++ more → Extends old new
extends old new more e place s h = subst (λ ss. slice_get ss place ≡ Some s) (sym e) (found_more old more place s h)

pub at_end : (old new : List Source) (s : Source) → new ≡ old ++ s ∷ [] → slice_get new (length old) ≡ Some s
at_end old new s e = subst (λ ss. slice_get ss (length old) ≡ Some s) (sym e) (last old)
  where
    last : (ss : List Source) → slice_get (ss ++ s ∷ []) (length ss) ≡ Some s
    last [] = refl
    last (t ∷ ts) = last ts

pub extends_again : (a b c : List Source) → Extends a b → Extends b c → Extends a c
extends_again a b c ab bc place s h = bc place s (ab place s h)

pub extends_self : (a : List Source) → Extends a a
extends_self a place s h = h

-- ---- a number that is found

pub number_fits : (g : Graph) (ss : List Source) (place : ℕ) (e : Expr) (w : Way) → FindsBy g ss place e w → (here : reading.Assignment) (n : ℕ) → HasNumber g w here n → IsNumber (slice_get ss place) n
number_fits g ss place e way.Value h here n has = absurd has
number_fits g ss place e (way.Node r) h here n has = subst (λ o. IsNumber o n) (sym h.at) (h.number here n has)
number_fits g ss place e (way.Rel r) h here n has = subst (λ o. IsNumber o n) (sym h.at) (h.number here n has)

pub number_means : (g : Graph) (ss : List Source) (place : ℕ) (e : Expr) (w : Way) → FindsBy g ss place e w → (here : reading.Assignment) (n : ℕ) → HasNumber g w here n → meaning g here e ≡ Ok (number_val (slice_get ss place) n)
number_means g ss place e way.Value h here n has = absurd has
number_means g ss place e (way.Node r) h here n has = h.means here n has ∙ ap (λ o. Ok (number_val o n)) (sym h.at)
number_means g ss place e (way.Rel r) h here n has = h.means here n has ∙ ap (λ o. Ok (number_val o n)) (sym h.at)

-- ---- finders stay

module _ (old new : List Source) (more : Extends old new) where
  stays_by : (g : Graph) (place : ℕ) (e : Expr) (w : Way) → FindsBy g old place e w → FindsBy g new place e w
  stays_by g place e way.Value h = tt
  stays_by g place e (way.Node r) h = record { source = h.source; at = more place h.source h.at; number = h.number; means = h.means }
  stays_by g place e (way.Rel r) h = record { source = h.source; at = more place h.source h.at; number = h.number; means = h.means }

  stays : (a : Asked) (f : Finder) → IsFinder old a f → IsFinder new a f
  stays a f h = record { finds = stays_by a.graph f.source a.expr f.way h.finds; none = more f.null _ h.none; nothing = h.nothing }

  pub stay : (asks : List Asked) (fs : List Finder) → AreFinders old asks fs → AreFinders new asks fs
  stay [] [] h = tt
  stay [] (f ∷ fs) h = absurd h
  stay (a ∷ asks) [] h = absurd h
  stay (a ∷ asks) (f ∷ fs) h = (stays a f h.0, stay asks fs h.1)

  -- the finder of one more column
  pub stay_and : (g : Graph) (cs : List NamedExpr) (d : NamedExpr) (i : ℕ) (fs : List Finder) (f : Finder) → i < length cs → AreFinders old (asked_of g (take i cs)) fs → IsFinder new (asked (get_or cs i d).expr g) f
      → AreFinders new (asked_of g (take (i + 1) cs)) (fs ++ f ∷ [])
  stay_and g cs d i fs f lt h k =
      subst (λ asks. AreFinders new asks (fs ++ f ∷ [])) (sym (ap (asked_of g) (take_more cs i d lt) ∙ map-append (λ (c : NamedExpr). asked c.expr g) (take i cs) (get_or cs i d ∷ [])))
      (all_zipped_more (IsFinder new) (asked_of g (take i cs)) fs (asked (get_or cs i d).expr g) f (stay (asked_of g (take i cs)) fs h) k)

-- what finds the values of the column at a place
pub finder_at : (ss : List Source) (asks : List Asked) (fs : List Finder) (i : ℕ) (a : Asked) (f : Finder) → AreFinders ss asks fs → i < length asks → i < length fs → a ≡ get_or asks i a → f ≡ get_or fs i f → IsFinder ss a f
finder_at ss [] fs i a f h first second here there = absurd (omega (arith, first))
finder_at ss (b ∷ asks) [] i a f h first second here there = absurd (omega (arith, second))
finder_at ss (b ∷ asks) (e ∷ fs) zero a f h first second here there = subst (λ x. IsFinder ss x f) (sym here) (subst (IsFinder ss b) (sym there) h.0)
finder_at ss (b ∷ asks) (e ∷ fs) (suc i) a f h first second here there = finder_at ss asks fs i a f h.1 (omega (arith, first)) (omega (arith, second)) here there

-- ---- the values of a row, one after another

module _ (here : reading.Assignment) (asks : List Asked) (a d : Asked) (i : ℕ) (lt : i < length asks) (is : a ≡ get_or asks i d) (acc new : List Val) where
  abbrev rest : List Outcome
  rest = answers here (drop (i + 1) asks)

  left : values_after acc (answers here (drop i asks)) ≡ then_with (meaning a.graph here a.expr) (λ v. values_after (acc ++ v ∷ []) rest)
  left =
      ap (λ l. values_after acc (answers here l)) (drop_more asks i d lt)
      ∙ ap (λ (x : Asked). values_after acc (meaning x.graph here x.expr ∷ rest)) (sym is)

  pub put : PutsColumn (meaning a.graph here a.expr) acc new (Ok tt) → values_after new rest ≡ values_after acc (answers here (drop i asks))
  put p = ap (λ vs. values_after vs rest) p.2 ∙ sym (left ∙ ap (λ o. then_with o (λ v. values_after (acc ++ v ∷ []) rest)) p.1)

-- behind the last column all values stand
pub put_all : (here : reading.Assignment) (ss : List Source) (asks : List Asked) (fs : List Finder) (n : ℕ) (acc : List Val) → AreFinders ss asks fs → n ≡ min (length asks) (length fs) → values_after acc (answers here (drop n asks)) ≡ Ok acc
put_all here ss asks fs n acc h is = ap (λ l. values_after acc (answers here l)) (drop_all n asks (let e = AllZip-long (IsFinder ss) asks fs h in omega (arith, is, e)))

-- ---- the finders of an alternative

module _ (g : Graph) (old new : List Source) (s : Source) (is : new ≡ old ++ s ∷ []) (e : Expr) where
  pub finds : (Has : reading.Assignment → ℕ → Type 0) (place : ℕ) → place ≡ length old → ((here : reading.Assignment) (n : ℕ) → Has here n → IsNumber (Some s) n)
      → ((here : reading.Assignment) (n : ℕ) → Has here n → meaning g here e ≡ Ok (source_val s n)) → Finds g new place e Has
  finds Has place at number means = record { source = s; at = ap (slice_get new) at ∙ at_end old new s is; number = number; means = means }

-- ---- the graph of all columns

pub all_over : (g : Graph) (cs : List NamedExpr) → AreOver g (asked_of g cs)
all_over g [] = λ k d lt. absurd (omega (arith, lt))
all_over g (c ∷ cs) = All-cons (λ (a : Asked). a.graph ≡ g) (asked c.expr g) (asked_of g cs) refl (all_over g cs)
