-- A match agrees with a row where it has the row's key; and what is listed of several lists of matches is listed of each of them.
use Rattle.std.proofs.Common.{◌≡◌, ℕ, Bool, true, false, not, ◌&&◌, ◌||◌, cond, Option, Some, None, List, [], ◌∷◌, ◌++◌, filter, flat_map, length, refl, ap, ◌∙◌, arith}
use Rattle.std.proofs.Math.Bool.{and-false}
use Rattle.std.proofs.lemmas.Grind.{flat_map-append}
use Rattle.gq_base.specs.Plain.{Graph}
use Rattle.gq_base.specs.declared.NodeId.{NodeId}
use Rattle.gq_expr.specs.Reading as reading
use Rattle.gq_plan.specs.Allowed.{at_same}
use Rattle.gq_plan.specs.Assignments.{Assignment, same_node}
use Rattle.gq_plan.specs.Marked.{marked}
use Rattle.gq_plan.specs.Soundness.{has_number}
use Rattle.gq_outer.specs.Shared.{asked_nodes, are_asked, shared_nodes, with_node}
use Rattle.gq_outer.specs.Clauses.{agrees, agrees_at, continuations, with_match}
use Rattle.gq_plan.specs.declared.bound.OptionalPart.{OptionalPart}

key_step : (o : Option NodeId) (n : NodeId) (k : Option (List NodeId)) (ns : List NodeId) → (at_same o (Some n) && are_asked k ns) ≡ are_asked (with_node o k) (n ∷ ns)
key_step None n k ns = refl
key_step (Some m) n None ns = and-false (same_node m n)
key_step (Some m) n (Some ks) ns = refl

pub agrees_by_key : (known vs : List ℕ) (row : ℕ → Option NodeId) (ns : List NodeId) → length ns ≡ length vs
    → agrees_at known vs row ns ≡ are_asked (asked_nodes known vs row) (shared_nodes known vs ns)
agrees_by_key known [] row [] e = refl
agrees_by_key known [] row (n ∷ ns) e = absurd (omega arith)
agrees_by_key known (v ∷ vs) row [] e = absurd (omega arith)
agrees_by_key known (v ∷ vs) row (n ∷ ns) e = go (has_number known v) (agrees_by_key known vs row ns (omega arith))
  where
    go : (b : Bool) → agrees_at known vs row ns ≡ are_asked (asked_nodes known vs row) (shared_nodes known vs ns)
        → ((not b || at_same (row v) (Some n)) && agrees_at known vs row ns)
        ≡ are_asked (cond b (with_node (row v) (asked_nodes known vs row)) (asked_nodes known vs row)) (cond b (n ∷ shared_nodes known vs ns) (shared_nodes known vs ns))
    go true more = ap (λ b. at_same (row v) (Some n) && b) more ∙ key_step (row v) n (asked_nodes known vs row) (shared_nodes known vs ns)
    go false more = more

filter_append : {A : Type 0} (p : A → Bool) (xs ys : List A) → filter p (xs ++ ys) ≡ filter p xs ++ filter p ys
filter_append p [] ys = refl
filter_append {A} p (x ∷ xs) ys = go (p x) (filter_append p xs ys)
  where
    go : (b : Bool) → filter p (xs ++ ys) ≡ filter p xs ++ filter p ys
        → cond b (x ∷ filter p (xs ++ ys)) (filter p (xs ++ ys)) ≡ cond b (x ∷ filter p xs) (filter p xs) ++ filter p ys
    go true e = ap (λ l. x ∷ l) e
    go false e = e

pub continued_together : {A : Type 0} (g : Graph) (known : List ℕ) (part : OptionalPart) (f : A → List Assignment) (ys : List A) (row : reading.Assignment)
    → continuations g known part (flat_map f ys) row ≡ flat_map (λ y. continuations g known part (f y) row) ys
continued_together g known part f [] row = refl
continued_together {A} g known part f (y ∷ ys) row =
    ap (flat_map (λ t. marked g part.conjuncts (with_match part.nodes part.rels row t))) (filter_append (agrees known part.nodes row) (f y) (flat_map f ys))
    ∙ flat_map-append (λ t. marked g part.conjuncts (with_match part.nodes part.rels row t)) (filter (agrees known part.nodes row) (f y)) (filter (agrees known part.nodes row) (flat_map f ys))
    ∙ ap (λ l. continuations g known part (f y) row ++ l) (continued_together g known part f ys row)
