-- What a trail asks of the node that it binds.
use Rattle.std.proofs.Common.{◌≡◌, ℕ, Bool, true, false, ◌&&◌, cond, nat_eq, Some, None, List, [], ◌∷◌, ◌++◌, map, filter, flat_map, slice_get, refl, sym, ap, ap₂, ◌∙◌}
use Rattle.std.specs.List.{list_all}
use Rattle.std.proofs.lemmas.Bool.{eqb-true, eq-eqb}
use Rattle.gq_base.specs.Catalogs.{has_label}
use Rattle.gq_base.specs.Plain.{Graph}
use Rattle.gq_base.specs.Values.{Val, equal_vals, literal_val}
use Rattle.gq_base.specs.declared.NodeId.{NodeId}
use Rattle.gq_alternatives.specs.Matches.{entry_holds, labels_at, node_holds}
use Rattle.gq_expr.specs.Reading as reading
use Rattle.gq_expr.specs.Reading.{node_property, property_at, rel_property}
use Rattle.gq_plan.specs.Assignments.{Assignment}
use Rattle.gq_plan.specs.Conditions.{passes}
use Rattle.gq_plan.specs.Meaning.{nothing, row, with_node}
use Rattle.gq_plan.specs.declared.variable.Variable.TheVariants.{Node as node, Rel as rel}
use Rattle.gq_plan.specs.declared.variable.Variable.{Variable}
use Rattle.gq_scopes.specs.Patterns.{MapEntry, Name, NodePattern}
use Rattle.gq_law_trails.specs.Trails.{fits_end}
use Rattle.gq_law_reaches.specs.Turned.{AreTests, EndFitsAsMatched, is_so, value_in}
use Rattle.gq_law_reaches.proofs.Held.{all_append}
use Rattle.gq_plan.specs.declared.NamedExpr.{NamedExpr}

-- ---- labels

module _ (g : Graph) (t : Assignment) (v : ℕ) (n : NodeId) (there : slice_get t.nodes v ≡ Some n) where
  abbrev has : Name → Bool
  has = has_label (slice_get g.catalog.nodes n.table)

  labels_are : (ms : List NodePattern)
      → list_all has (flat_map (λ (m : NodePattern). cond (nat_eq m.variable v) m.part.labels []) ms) ≡ list_all (node_holds g t) (filter (λ (m : NodePattern). nat_eq m.variable v) ms)
  labels_are [] = refl
  labels_are (m ∷ ms) = go (nat_eq m.variable v) refl (labels_are ms)
    where
      rest : List Name
      rest = flat_map (λ (k : NodePattern). cond (nat_eq k.variable v) k.part.labels []) ms

      others : List NodePattern
      others = filter (λ (k : NodePattern). nat_eq k.variable v) ms

      go : (b : Bool) → nat_eq m.variable v ≡ b → list_all has rest ≡ list_all (node_holds g t) others
          → list_all has (cond b m.part.labels [] ++ rest) ≡ list_all (node_holds g t) (cond b (m ∷ others) others)
      go false e more = more
      go true e more =
          all_append has m.part.labels rest
          ∙ ap₂ ◌&&◌ (ap (labels_at g.catalog m.part.labels) (sym there ∙ ap (slice_get t.nodes) (sym (eqb-true m.variable v e)))) more

-- ---- map entries

module _ (g : Graph) (test : MapEntry → NamedExpr) (tests : AreTests test) (t : Assignment) (v : ℕ) (n : NodeId) (has : slice_get t.nodes v ≡ Some n) where
  abbrev alone : reading.Assignment
  alone = row (with_node v n nothing)

  entry_passes : (e : MapEntry) → passes g alone (test e) ≡ is_so (equal_vals (value_in g alone e.variable e.entry.key) (literal_val e.entry.value))
  entry_passes e = tests g alone e

  -- the variable has the same node there
  abbrev is_at : Variable → Bool
  is_at (node w) = nat_eq w v
  is_at (rel x) = false

  abbrev value_at : Variable → Name → Val
  value_at (node w) name = property_at (node_property g) (slice_get t.nodes w) name
  value_at (rel x) name = property_at (rel_property g) (slice_get t.rels x) name

  same_value : (w : Variable) (name : Name) → is_at w ≡ true → value_in g alone w name ≡ value_at w name
  same_value (node w) name e =
      let same : w ≡ v = eqb-true w v e in
      ap (λ b. property_at (node_property g) (cond b (Some n) None) name) (eq-eqb v w (sym same))
      ∙ ap (λ o. property_at (node_property g) o name) (sym has ∙ ap (slice_get t.nodes) (sym same))
  same_value (rel x) name e = absurd (cc e)

  one_entry : (e : MapEntry) → is_at e.variable ≡ true → passes g alone (test e) ≡ entry_holds g t e
  one_entry e at = entry_passes e ∙ ap (λ x. is_so (equal_vals x (literal_val e.entry.value))) (same_value e.variable e.entry.key at) ∙ whole e.variable refl
    where
      whole : (w : Variable) → e.variable ≡ w → is_so (equal_vals (value_at e.variable e.entry.key) (literal_val e.entry.value)) ≡ entry_holds g t e
      whole (node w) is = rw is refl
      whole (rel x) is = rw is refl

  entries_are : (es : List MapEntry) → list_all (passes g alone) (map test (filter (λ (e : MapEntry). is_at e.variable) es)) ≡ list_all (entry_holds g t) (filter (λ (e : MapEntry). is_at e.variable) es)
  entries_are [] = refl
  entries_are (e ∷ es) = go (is_at e.variable) refl (entries_are es)
    where
      others : List MapEntry
      others = filter (λ (d : MapEntry). is_at d.variable) es

      go : (b : Bool) → is_at e.variable ≡ b → list_all (passes g alone) (map test others) ≡ list_all (entry_holds g t) others
          → list_all (passes g alone) (map test (cond b (e ∷ others) others)) ≡ list_all (entry_holds g t) (cond b (e ∷ others) others)
      go false at more = more
      go true at more = ap₂ ◌&&◌ (one_entry e at) more

pub end_fits_as_matched : EndFitsAsMatched
unfolding fits_end
end_fits_as_matched g test p q t n are labels tests has =
    ap₂ ◌&&◌ (ap (list_all (has_label (slice_get g.catalog.nodes n.table))) labels ∙ labels_are g t q.to n has p.nodes)
    (ap (list_all (passes g (row (with_node q.to n nothing)))) tests ∙ entries_are g test are t q.to n has p.entries)
