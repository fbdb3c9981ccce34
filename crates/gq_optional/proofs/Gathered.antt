-- What is gathered of one alternative or clause, and of those behind it, and what is spent for it.
use Rattle.std.proofs.Common.{◌≡◌, ◌∙◌, ℕ, List, [], ◌∷◌, ◌++◌, Result, Ok, Err, ap, append_assoc, append-nil, flat_map, subst}
use Rattle.std.specs.Prelude.{OnOk}
use Rattle.gq_base.specs.Plain.{Graph}
use Rattle.gq_homes.specs.declared.spent.Spent.{Spent}
use Rattle.gq_plan.specs.Plans.{Plan}
use Rattle.gq_plan.specs.declared.bound.OptionalPart.{OptionalPart}
use Rattle.gq_plan.specs.declared.typed.Typed.{Typed}
use Rattle.gq_optional.specs.Spending.{spent_on_each}
use Rattle.gq_optional.specs.declared.clause.Clause.{Clause}
use Rattle.gq_optional.specs.declared.clause.Matches.{Matches}
use Rattle.gq_optional.specs.steps.Making.{AddsClauses, AddsMatches, AreClausesOf, HasSpentClauses, HasSpentEach, HasSpentOne, IsClauseOf, IsMatches}

pub on_ok : {X E P Q : Type 0} (r : Result X E) → (P → Q) → OnOk r P → OnOk r Q
on_ok (Ok x) f p = f p
on_ok (Err e) f p = tt

module _ (g : Graph) (y : Typed) (p : Plan) (ys : List Typed) (ps : List Plan) where
  pub adds_more : (keys : List ℕ) (m : Matches) (old mid new : List Matches) → IsMatches g y p keys m → mid ≡ old ++ m ∷ [] → AddsMatches g ys ps keys mid new → AddsMatches g (y ∷ ys) (p ∷ ps) keys old new
  adds_more keys m old mid new is pushed a = record {
    more = m ∷ a.more;
    are = (is, a.are);
    all = a.all ∙ ap (λ l. l ++ a.more) pushed ∙ append_assoc old (m ∷ []) a.more;
  }

  pub spends_more : (old mid new : List Spent) → HasSpentOne g y p old mid → HasSpentEach g ys ps mid new → HasSpentEach g (y ∷ ys) (p ∷ ps) old new
  spends_more old mid new o e = record {
    listings = o.listing ∷ e.listings;
    are = (o.is, e.are);
    all = e.all ∙ ap (λ l. l ++ spent_on_each e.listings) o.all ∙ append_assoc old (spent_on_each (o.listing ∷ [])) (spent_on_each e.listings)
        ∙ ap (λ l. old ++ (l ++ spent_on_each e.listings)) (append-nil (o.listing.sides ++ o.listing.own ∷ []));
  }

module _ (g : Graph) (part : OptionalPart) (ps : List Plan) (parts : List OptionalPart) (pss : List (List Plan)) where
  pub adds_clause : (known after : List ℕ) (c : Clause) (old mid new : List Clause) → IsClauseOf g known part ps c → after ≡ known ++ part.nodes → mid ≡ old ++ c ∷ [] → AddsClauses g after parts pss mid new
      → AddsClauses g known (part ∷ parts) (ps ∷ pss) old new
  adds_clause known after c old mid new is e pushed a = record {
    more = c ∷ a.more;
    are = (is, subst (λ k. AreClausesOf g k parts pss a.more) e a.are);
    all = a.all ∙ ap (λ l. l ++ a.more) pushed ∙ append_assoc old (c ∷ []) a.more;
  }

  pub spends_clause : (old mid new : List Spent) → HasSpentEach g part.alternatives ps old mid → HasSpentClauses g parts pss mid new → HasSpentClauses g (part ∷ parts) (ps ∷ pss) old new
  spends_clause old mid new o e = record {
    listed = o.listings ∷ e.listed;
    are = (o.are, e.are);
    all = e.all ∙ ap (λ l. l ++ flat_map spent_on_each e.listed) o.all ∙ append_assoc old (spent_on_each o.listings) (flat_map spent_on_each e.listed);
  }
