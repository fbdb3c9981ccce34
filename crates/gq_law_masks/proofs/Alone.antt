-- A test that reads one node variable alone is as true of each assignment as of one with that variable's node alone.
use Rattle.std.proofs.Common.{◌≡◌, ℕ, ◌<◌, Bool, true, false, ◌||◌, nat_eq, cond, Option, Some, None, List, length, set, slice_get, refl, sym, ap, ◌∙◌, arith}
use Rattle.std.specs.Prelude.{slice_index, slice_set}
use Rattle.std.proofs.lemmas.Bool.{eq-eqb, eqb-true}
use Rattle.std.proofs.lemmas.List.{length-set, get_or-set_same}
use Rattle.std.proofs.lemmas.Option.{slice_get-get_or}
use Rattle.gq_base.specs.Plain.{Graph}
use Rattle.gq_base.specs.declared.NodeId.{NodeId}
use Rattle.gq_plan.proofs.Rows.{node_read}
use Rattle.gq_plan.proofs.Values.{values_agree}
use Rattle.gq_plan.specs.Conditions.{passes}
use Rattle.gq_plan.specs.Covers.{test_bound}
use Rattle.gq_plan.specs.Known as known
use Rattle.gq_plan.specs.Meaning.{Partial, nothing, look, holds, row, with_node}
use Rattle.gq_plan.specs.Rows.{as_read, node_table}
use Rattle.gq_plan.specs.declared.assignment.Assignment.{Assignment}
use Rattle.gq_plan.specs.declared.bound.NamedExpr.{NamedExpr}
use Rattle.gq_plan.specs.declared.typed.Typed.{Typed}
use Rattle.gq_law_masks.specs.Alone.{reads_alone, passes_alone, Refuses}

only : (v w : ℕ) → (nat_eq w v || false) ≡ true → w ≡ v
only v w h = go (nat_eq w v) refl h
  where
    go : (b : Bool) → nat_eq w v ≡ b → (b || false) ≡ true → w ≡ v
    go true e h = eqb-true w v e
    go false e h = cc h

module _ (g : Graph) (y : Typed) (v q : ℕ) where
  abbrev node : NodeId
  node = record { table = node_table y v; row = q }

  abbrev alone : Partial
  alone = with_node v (record { table = node_table y v; row = q }) nothing

  found : look alone.nodes v ≡ Some node
  found = ap (λ b. cond b (Some node) None) (eq-eqb v v refl)

  same : (e : Partial) → look e.nodes v ≡ Some (record { table = node_table y v; row = q }) → (o : Option NamedExpr) → holds (test_bound (known.with_node v known.none)) o ≡ true → holds (passes g (row e)) o ≡ holds (passes g (row alone)) o
  same e there None fit = refl
  same e there (Some test) fit =
      rw (values_agree g (row e) (row alone) (known.with_node v known.none) (λ w h. (let is : w ≡ v = only v w h in ap (look e.nodes) is ∙ there ∙ sym (ap (look alone.nodes) is ∙ found))) (λ x h. cc h) test.expr fit) refl

  -- what it refuses of the node alone it refuses of every assignment with that node
  pub alone_refuses : (test : ℕ) → reads_alone y v test ≡ true → passes_alone g y v test q ≡ false → Refuses g y test v (record { table = node_table y v; row = q })
  alone_refuses test fit off = λ e there. same e there (slice_get y.tests test) fit ∙ off

  module _ (old : Assignment) (low : v < length y.nodes) (long : v < length old.nodes) where
    abbrev new : Assignment
    new = record { nodes = slice_set old.nodes v q; rels = old.rels }

    read : (as_read y new).nodes v ≡ Some node
    read =
        let table : slice_get y.nodes v ≡ Some (node_table y v) = slice_get-get_or y.nodes v _ low in
        let row_is : slice_get (slice_set old.nodes v q) v ≡ Some q = slice_get-get_or (slice_set old.nodes v q) v _ (omega (arith, long, length-set old.nodes v q)) ∙ ap Some (get_or-set_same old.nodes v q 0 long) in
        node_read y new v ∙ rw (table, row_is) refl

    same_row : (o : Option NamedExpr) → holds (test_bound (known.with_node v known.none)) o ≡ true → holds (passes g (as_read y new)) o ≡ holds (passes g (row alone)) o
    same_row None fit = refl
    same_row (Some test) fit =
        rw (values_agree g (as_read y new) (row alone) (known.with_node v known.none) (λ w h. (let is : w ≡ v = only v w h in ap (as_read y new).nodes is ∙ read ∙ sym (ap (look alone.nodes) is ∙ found))) (λ x h. cc h) test.expr fit) refl

    -- it is as true of rows with that row for the variable
    pub row_alone : (test : ℕ) → reads_alone y v test ≡ true → holds (passes g (as_read y (record { nodes = slice_set old.nodes v q; rels = old.rels }))) (slice_get y.tests test) ≡ passes_alone g y v test q
    row_alone test fit = same_row (slice_get y.tests test) fit
