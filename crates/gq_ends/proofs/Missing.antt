-- A comparison of a property that a table does not have is true of none of its nodes.
use Rattle.std.proofs.Common.{◌≡◌, ◌∙◌, ℕ, Bool, true, false, Option, Some, None, Ok, Err, List, [], ◌∷◌, map, true≢false, refl, sym, ap}
use Rattle.std.specs.Prelude.{if◌then◌else◌, slice_get}
use Rattle.std.specs.List.{Contains, list_all}
use Rattle.std.proofs.lemmas.Bool.{and_parts, eq-eqb}
use Rattle.gq_base.specs.Catalogs.{find_field, has_label}
use Rattle.gq_base.specs.Plain.{Graph, cell_at, cell_val}
use Rattle.gq_base.specs.Results.{and_then}
use Rattle.gq_base.specs.Truth.{and3, not3}
use Rattle.gq_base.specs.Values.{Val, null, flag, int, str, node, rel, less_vals}
use Rattle.gq_base.specs.declared.NodeTable.{NodeTable}
use Rattle.gq_base.specs.declared.operator.CompareOp.{CompareOp}
use Rattle.gq_base.specs.declared.operator.CompareOp.TheVariants as compare
use Rattle.gq_expr.specs.Meaning.{compare_chain, meaning}
use Rattle.gq_expr.specs.Operators.{Outcome, compare_vals}
use Rattle.gq_expr.specs.Reading as reading
use Rattle.gq_expr.specs.declared.expr.Expr.{Expr}
use Rattle.gq_expr.specs.declared.expr.Expr.TheVariants.{Compare, NodeProperty}
use Rattle.gq_expr.specs.declared.expr.Operand.{Operand}
use Rattle.gq_expr.specs.steps.Parts.{operand_with}
use Rattle.gq_expr.proofs.Equations.{meaning_Compare, meaning_NodeProperty}
use Rattle.gq_law_trails.specs.Trails.{fits_end}
use Rattle.gq_plan.specs.Conditions.{passes}
use Rattle.gq_plan.specs.Meaning as meanings
use Rattle.gq_plan.specs.declared.TrailPart.{TrailPart}
use Rattle.gq_plan.specs.declared.bound.NamedExpr.{NamedExpr}
use Rattle.gq_store.specs.Cells.{node_fields, node_fields_of}
use Rattle.gq_store.proofs.Validity.{all-at}
use Rattle.gq_ends.specs.steps.Missing.{Compares, NoneFits, NonePasses}

-- ---- what is compared

pub compares_of : (e first : Expr) (terms : List (Operand CompareOp Expr)) (variable n : ℕ) (name : List ℕ) → e ≡ Compare first terms → first ≡ NodeProperty n name → n ≡ variable
    → (terms ≡ [] → ⊥) → Compares e variable name
compares_of e first [] variable n name is at here some = absurd (some refl)
compares_of e first (t ∷ ts) variable n name is at here some = record {
  term = t;
  terms = ts;
  is = is ∙ ap (λ f. Compare f (t ∷ ts)) (at ∙ ap (λ m. NodeProperty m name) here);
}

-- ---- null compares with nothing

less_null : (b : Val) → less_vals b null ≡ None
less_null null = refl
less_null (flag x) = refl
less_null (int x) = refl
less_null (str s) = refl
less_null (node n) = refl
less_null (rel r) = refl

-- so a comparison of null with anything is not true
null_not_true : (op : CompareOp) (b : Val) → compare_vals op null b ≡ Some true → ⊥
null_not_true compare.Equal b e = absurd (cc e)
null_not_true compare.NotEqual b e = absurd (cc e)
null_not_true compare.Less b e = absurd (cc e)
null_not_true compare.LessEqual b e = absurd (cc (sym (ap not3 (less_null b)) ∙ e))
null_not_true compare.Greater b e = absurd (cc (sym (less_null b) ∙ e))
null_not_true compare.GreaterEqual b e = absurd (cc e)

both_true : (p q : Option Bool) → and3 p q ≡ Some true → (p ≡ Some true) × (q ≡ Some true)
both_true None None e = absurd (cc e)
both_true None (Some true) e = absurd (cc e)
both_true None (Some false) e = absurd (cc e)
both_true (Some true) None e = absurd (cc e)
both_true (Some true) (Some true) e = (refl, refl)
both_true (Some true) (Some false) e = absurd (cc e)
both_true (Some false) q e = absurd (cc e)

-- a chain that is not true so far never is
never_true : (acc : Option Bool) (a : Val) (ts : List (Operand CompareOp Outcome)) → (acc ≡ Some true → ⊥) → compare_chain acc a ts ≡ Ok (flag true) → ⊥
never_true None a [] not e = absurd (cc e)
never_true (Some true) a [] not e = not refl
never_true (Some false) a [] not e = absurd (cc e)
never_true acc a (t ∷ ts) not e = go t.expr (λ b. never_true (and3 acc (compare_vals t.op a b)) b ts (λ both. not (both_true acc (compare_vals t.op a b) both).0)) e
  where
    go : (o : Outcome) → ((b : Val) → compare_chain (and3 acc (compare_vals t.op a b)) b ts ≡ Ok (flag true) → ⊥)
        → and_then o (λ b. compare_chain (and3 acc (compare_vals t.op a b)) b ts) ≡ Ok (flag true) → ⊥
    go (Err f) more k = absurd (cc k)
    go (Ok b) more k = more b k

chain_from_null : (t : Operand CompareOp Outcome) (ts : List (Operand CompareOp Outcome)) → compare_chain (Some true) null (t ∷ ts) ≡ Ok (flag true) → ⊥
chain_from_null t ts e = go t.expr e
  where
    go : (o : Outcome) → and_then o (λ b. compare_chain (and3 (Some true) (compare_vals t.op null b)) b ts) ≡ Ok (flag true) → ⊥
    go (Err f) k = absurd (cc k)
    go (Ok b) k = never_true (and3 (Some true) (compare_vals t.op null b)) b ts (λ both. null_not_true t.op b (both_true (Some true) (compare_vals t.op null b) both).1) k

-- ---- a property that is not there

property_missing : (g : Graph) (table row : ℕ) (name : List ℕ) → find_field (node_fields g table) name ≡ None → reading.node_property g (record { table = table; row = row }) name ≡ null
property_missing g table row name none = go (slice_get g.catalog.nodes table) none (reading.get_in (slice_get g.nodes table) row)
  where
    go : (t : Option NodeTable) → find_field (node_fields_of t) name ≡ None → (cells : Option (List (Option _))) → cell_val (reading.node_cell name t cells) ≡ null
    go None e cells = refl
    go (Some t) e None = refl
    go (Some t) e (Some cells) = ap (λ place. cell_val (cell_at cells place)) e

module _ (g : Graph) (variable table row : ℕ) where
  abbrev here : reading.Assignment
  here = meanings.row (meanings.with_node variable (record { table = table; row = row }) meanings.nothing)

  node_here : here.nodes variable ≡ Some (record { table = table; row = row })
  node_here = ap (λ b. if b then Some (record { table = table; row = row }) else None) (eq-eqb variable variable refl)

  true_of : (o : Outcome) (asked : NamedExpr) → meaning g here asked.expr ≡ o → passes g here asked ≡ true → o ≡ Ok (flag true)
  true_of (Ok (flag true)) asked e told = refl
  true_of (Ok (flag false)) asked e told = absurd (true≢false (sym told ∙ rw e refl))
  true_of (Ok null) asked e told = absurd (true≢false (sym told ∙ rw e refl))
  true_of (Ok (int x)) asked e told = absurd (true≢false (sym told ∙ rw e refl))
  true_of (Ok (str s)) asked e told = absurd (true≢false (sym told ∙ rw e refl))
  true_of (Ok (node n)) asked e told = absurd (true≢false (sym told ∙ rw e refl))
  true_of (Ok (rel r)) asked e told = absurd (true≢false (sym told ∙ rw e refl))
  true_of (Err f) asked e told = absurd (true≢false (sym told ∙ rw e refl))

  pub missing_fails : (asked : NamedExpr) (name : List ℕ) → Compares asked.expr variable name → find_field (node_fields g table) name ≡ None → passes g here asked ≡ true → ⊥
  missing_fails asked name c none told =
      chain_from_null (operand_with (meaning g here) c.term) (map (operand_with (meaning g here)) c.terms)
      (sym means ∙ true_of (meaning g here asked.expr) asked refl told)
    where
      null_here : reading.property_at (reading.node_property g) (here.nodes variable) name ≡ null
      null_here = ap (λ o. reading.property_at (reading.node_property g) o name) node_here ∙ property_missing g table row name none

      means : meaning g here asked.expr ≡ compare_chain (Some true) null (operand_with (meaning g here) c.term ∷ map (operand_with (meaning g here)) c.terms)
      means =
          ap (meaning g here) c.is
          ∙ meaning_Compare g here _ (c.term ∷ c.terms)
          ∙ ap (λ o. and_then o (λ a. compare_chain (Some true) a (map (operand_with (meaning g here)) (c.term ∷ c.terms)))) (meaning_NodeProperty g here variable name)
          ∙ ap (λ a. compare_chain (Some true) a (map (operand_with (meaning g here)) (c.term ∷ c.terms))) null_here

-- ---- so no node of the table is as a trail asks

pub none_is_fit : (g : Graph) (p : TrailPart) (table : ℕ) (asked : NamedExpr) → Contains p.tests asked → NonePasses g p.to table asked → NoneFits g p table
unfolding fits_end
none_is_fit g p table asked has none row fits =
    let here = meanings.row (meanings.with_node p.to (record { table = table; row = row }) meanings.nothing) in
    let all = (and_parts (list_all (has_label (slice_get g.catalog.nodes table)) p.labels) (list_all (passes g here) p.tests) fits).1 in
    none row (ap (passes g here) (sym has.2) ∙ all-at (passes g here) p.tests has.0 asked all has.1)
