-- A match is a match of the core, with the labels and map entries of the other node variables.
use Rattle.std.proofs.Common.{◌≡◌, ℕ, zero, suc, ◌<◌, Bool, true, false, not, ◌&&◌, cond, nat_lt, Option, Some, None, List, [], ◌∷◌, filter, take, slice_get, refl, sym, ap, ap₂, ◌∙◌, arith}
use Rattle.std.specs.List.{AllByRecursion, list_all}
use Rattle.std.proofs.lemmas.Bool.{ltb-true}
use Rattle.gq_base.specs.Plain.{Graph}
use Rattle.gq_base.specs.Values.{Val, equal_vals, literal_val}
use Rattle.gq_base.specs.declared.NodeId.{NodeId}
use Rattle.gq_base.specs.declared.RelId.{RelId}
use Rattle.gq_expr.specs.Reading.{property_at, node_property}
use Rattle.gq_alternatives.specs.Matches.{entry_holds, has_type, joins, labels_at, node_holds, pair_holds, pairs_from, rels_hold, value_of}
use Rattle.gq_plan.specs.Assignments.{Assignment}
use Rattle.gq_plan.specs.declared.Variable.TheVariants.{Node as node, Rel as rel}
use Rattle.gq_plan.specs.declared.Variable.{Variable}
use Rattle.gq_scopes.specs.Patterns.{MapEntry, Name, NodePattern, RelPattern}
use Rattle.gq_law_reaches.specs.Continued.{MatchesPart}
use Rattle.gq_law_reaches.specs.Core.{core_part, is_core_entry, outer_match}

module _ {X : Type 0} where
  parted : (f c : X → Bool) (xs : List X) → list_all f xs ≡ (list_all f (filter c xs) && list_all f (filter (λ x. not (c x)) xs))
  parted f c [] = refl
  parted f c (x ∷ xs) = go (c x) (parted f c xs)
    where
      assoc : (a b d : Bool) → (a && (b && d)) ≡ ((a && b) && d)
      assoc true b d = refl
      assoc false b d = refl

      turn : (a b d : Bool) → (a && (b && d)) ≡ (b && (a && d))
      turn a b d = grind arith

      go : (b : Bool) → list_all f xs ≡ (list_all f (filter c xs) && list_all f (filter (λ x. not (c x)) xs))
          → (f x && list_all f xs) ≡ (list_all f (cond b (x ∷ filter c xs) (filter c xs)) && list_all f (cond (not b) (x ∷ filter (λ x. not (c x)) xs) (filter (λ x. not (c x)) xs)))
      go true more = ap (λ d. f x && d) more ∙ assoc (f x) (list_all f (filter c xs)) (list_all f (filter (λ x. not (c x)) xs))
      go false more = ap (λ d. f x && d) more ∙ turn (f x) (list_all f (filter c xs)) (list_all f (filter (λ x. not (c x)) xs))

  kept_same : (f h c : X → Bool) → ((x : X) → c x ≡ true → f x ≡ h x) → (xs : List X) → list_all f (filter c xs) ≡ list_all h (filter c xs)
  kept_same f h c same [] = refl
  kept_same f h c same (x ∷ xs) = go (c x) refl (kept_same f h c same xs)
    where
      go : (b : Bool) → c x ≡ b → list_all f (filter c xs) ≡ list_all h (filter c xs) → list_all f (cond b (x ∷ filter c xs) (filter c xs)) ≡ list_all h (cond b (x ∷ filter c xs) (filter c xs))
      go true e more = ap₂ ◌&&◌ (same x e) more
      go false e more = more

  take_low : (k : ℕ) (xs : List X) (v : ℕ) → v < k → slice_get (take k xs) v ≡ slice_get xs v
  take_low zero xs v low = absurd (omega arith)
  take_low (suc k) [] v low = refl
  take_low (suc k) (x ∷ xs) zero low = refl
  take_low (suc k) (x ∷ xs) (suc v) low = take_low k xs v (omega arith)

abbrev is_true : Option Bool → Bool
is_true None = false
is_true (Some b) = b

module _ (g : Graph) (k : ℕ) (t : Assignment) where
  label_same : (n : NodePattern) → nat_lt n.variable k ≡ true → node_holds g (core_part k t) n ≡ node_holds g t n
  label_same n low = ap (labels_at g.catalog n.part.labels) (take_low k t.nodes n.variable (ltb-true n.variable k low))

  value_same : (v : Variable) (name : Name) (e : MapEntry) → e.variable ≡ v → is_core_entry k e ≡ true → value_of g (core_part k t) v name ≡ value_of g t v name
  value_same (node v) name e is low =
      let below : nat_lt v k ≡ true = sym (ap (λ (w : Variable). is_core_entry k (record e { variable = w })) is) ∙ low in
      ap (λ o. property_at (node_property g) o name) (take_low k t.nodes v (ltb-true v k below))
  value_same (rel x) name e is low = refl

  entry_same : (e : MapEntry) → is_core_entry k e ≡ true → entry_holds g (core_part k t) e ≡ entry_holds g t e
  entry_same e low = ap (λ (x : Val). is_true (equal_vals x (literal_val e.entry.value))) (value_same e.variable e.entry.key e refl low)

  rels_same : (ps : List RelPattern) (rs : List RelId) → AllByRecursion (λ (r : RelPattern). (r.left < k) × (r.right < k)) ps → rels_hold g (core_part k t) ps rs ≡ rels_hold g t ps rs
  rels_same [] [] h = refl
  rels_same [] (r ∷ rs) h = refl
  rels_same (p ∷ ps) [] h = refl
  rels_same (p ∷ ps) (r ∷ rs) h =
      ap₂ ◌&&◌
      (ap₂ (λ (a b : Option NodeId). has_type g.catalog p.part.kinds r.table && joins g p.part.arrow a b r) (take_low k t.nodes p.left h.0.0) (take_low k t.nodes p.right h.0.1))
      (rels_same ps rs h.1)

regroup : (a a' r e e' d : Bool) → (((a && a') && r) && ((e && e') && d)) ≡ (((a && r) && (e && d)) && (a' && e'))
regroup false a' r e e' d = refl
regroup true false r e e' d = sym (none ((true && r) && (e && d)))
  where
    none : (b : Bool) → (b && false) ≡ false
    none true = refl
    none false = refl
regroup true true false e e' d = refl
regroup true true true false e' d = refl
regroup true true true true true true = refl
regroup true true true true true false = refl
regroup true true true true false true = refl
regroup true true true true false false = refl

pub matches_part : MatchesPart
matches_part g k p t low =
    let inner : NodePattern → Bool = λ n. nat_lt n.variable k in
    let core : Assignment = core_part k t in
    ap₂ (λ (a e : Bool). (a && rels_hold g t p.rels t.rels) && (e && list_all (pair_holds t) (pairs_from 0 p.rels)))
    (parted (node_holds g t) inner p.nodes ∙ ap (λ b. b && list_all (node_holds g t) (filter (λ (n : NodePattern). not (inner n)) p.nodes)) (sym (kept_same (node_holds g core) (node_holds g t) inner (label_same g k t) p.nodes)))
    (parted (entry_holds g t) (is_core_entry k) p.entries ∙ ap (λ b. b && list_all (entry_holds g t) (filter (λ (e : MapEntry). not (is_core_entry k e)) p.entries)) (sym (kept_same (entry_holds g core) (entry_holds g t) (is_core_entry k) (entry_same g k t) p.entries)))
    ∙ regroup (list_all (node_holds g core) (filter inner p.nodes)) (list_all (node_holds g t) (filter (λ (n : NodePattern). not (inner n)) p.nodes)) (rels_hold g t p.rels t.rels)
    (list_all (entry_holds g core) (filter (is_core_entry k) p.entries)) (list_all (entry_holds g t) (filter (λ (e : MapEntry). not (is_core_entry k e)) p.entries)) (list_all (pair_holds t) (pairs_from 0 p.rels))
    ∙ ap (λ b. ((list_all (node_holds g core) (filter inner p.nodes) && b) && (list_all (entry_holds g core) (filter (is_core_entry k) p.entries) && list_all (pair_holds t) (pairs_from 0 p.rels))) && outer_match g k p t)
    (sym (rels_same g k t p.rels t.rels low))
