-- Nodes that are added, rows after rows and table after table.
use Rattle.std.proofs.Common.{◌≡◌, ℕ, ◌+◌, ◌<◌, ◌≤◌, true, List, [], ◌∷◌, ◌++◌, Option, Some, None, length, refl, ap, subst, sym, arith, inl, inr}
use Rattle.std.specs.Prelude.{◌&&◌, All, nat_le, slice_get}
use Rattle.std.specs.List.{Contains}
use Rattle.std.proofs.lemmas.Bool.{and_parts, cases_lt}
use Rattle.std.proofs.lemmas.Bool.Decides.{nat_tests}
use Rattle.std.proofs.lemmas.List.Elements.{Contains-append_left, Contains-push}
use Rattle.std.proofs.lemmas.Option.{slice_get_past}
use Rattle.gq_base.specs.Lists.{all_zip}
use Rattle.gq_base.specs.Plain.{Graph, all_of, rows_at, rows_of}
use Rattle.gq_base.specs.Valid.{are_nodes, are_rels, is_valid, most_tables, row_count}
use Rattle.gq_base.specs.declared.NodeId.{NodeId}
use Rattle.gq_base.specs.declared.cell.Cell.{Cell}
use Rattle.gq_law_trails.specs.Trails.{fits_end}
use Rattle.gq_plan.specs.Assignments.{is_node}
use Rattle.gq_plan.specs.declared.TrailPart.{TrailPart}
use Rattle.gq_plan.proofs.Each.{each_append}
use Rattle.gq_store.proofs.Validity.{zip-length}
use Rattle.gq_ends.specs.Ends.{AreEnds}
use Rattle.gq_ends.specs.declared.end_test.EndTest.{EndTest}
use Rattle.gq_ends.specs.steps.Adding.{HasRows, HasTable, HaveTables}
use Rattle.gq_ends.specs.steps.Tests.{HoldAll, IsNeeded}

-- ---- rows as nodes

rows_same : (g : Graph) (table : ℕ) → row_count g.nodes table ≡ length (rows_at g table)
rows_same g table = go (slice_get g.nodes table)
  where
    go : (o : Option (List (List (Option Cell)))) → length (rows_of o) ≡ length (all_of o)
    go None = refl
    go (Some rows) = refl

node_at : (g : Graph) (table row : ℕ) → row < row_count g.nodes table → is_node g (record { table = table; row = row }) ≡ true
node_at g table row low =
    let same = rows_same g table in
    let less : row < length (rows_at g table) = omega (arith, low, same) in
    grind (arith, nat_tests, less)

row_within : (g : Graph) (n : NodeId) → is_node g n ≡ true → n.row < row_count g.nodes n.table
row_within g n node =
    let same = rows_same g n.table in
    let less : n.row < length (rows_at g n.table) = grind (arith, nat_tests, node) in
    omega (arith, less, same)

table_within : (g : Graph) → is_valid g ≡ true → (n : NodeId) → is_node g n ≡ true → n.table < length g.catalog.nodes
table_within g valid n node = elim (cases_lt n.table (length g.nodes)) [
  | inl low ↦ (let same = zip-length are_nodes g.catalog.nodes g.nodes zipped in omega (arith, low, same))
  | inr past ↦ absurd (
      let none : length (rows_at g n.table) ≡ 0 = ap (λ (o : Option (List (List (Option Cell)))). length (all_of o)) (slice_get_past g.nodes n.table past) in
      let less : n.row < length (rows_at g n.table) = grind (arith, nat_tests, node) in
      omega (arith, none, less))
]
  where
    few : nat_le (length g.catalog.nodes) most_tables && nat_le (length g.catalog.rels) most_tables && all_zip are_nodes g.catalog.nodes g.nodes ≡ true
    few = (and_parts (nat_le (length g.catalog.nodes) most_tables && nat_le (length g.catalog.rels) most_tables && all_zip are_nodes g.catalog.nodes g.nodes) (all_zip (are_rels g.nodes) g.catalog.rels g.rels) valid).0

    zipped : all_zip are_nodes g.catalog.nodes g.nodes ≡ true
    zipped = (and_parts (nat_le (length g.catalog.nodes) most_tables && nat_le (length g.catalog.rels) most_tables) (all_zip are_nodes g.catalog.nodes g.nodes) few).1

-- ---- rows

pub none_added : (ts : List EndTest) (table low : ℕ) (ns : List NodeId) → HasRows ts table low low ns ns
none_added ts table low ns = record {
  still = λ n has. has;
  rows = λ row least less all. absurd (omega (arith, least, less));
  inside = λ g few inside. inside;
}

module _ (ts : List EndTest) (table low at : ℕ) (old mid : List NodeId) (h : HasRows ts table low at old mid) where
  pub one_added : HasRows ts table low (at + 1) old (mid ++ record { table = table; row = at } ∷ [])
  one_added = record {
    still = λ n has. Contains-append_left mid (record { table = table; row = at } ∷ []) n (h.still n has);
    rows = λ row least less all. elim (cases_lt row at) [
      | inl below ↦ Contains-append_left mid (record { table = table; row = at } ∷ []) (record { table = table; row = row }) (h.rows row least below all)
      | inr high ↦
          let here : at ≡ row = omega (arith, less, high) in
          subst (λ r. Contains (mid ++ record { table = table; row = at } ∷ []) (record { table = table; row = r })) here (Contains-push mid (record { table = table; row = at }))
    ];
    inside = λ g few inside.
        each_append (λ (n : NodeId). is_node g n ≡ true) mid (record { table = table; row = at } ∷ []) (h.inside g (omega (arith, few)) inside) (node_at g table at (omega (arith, few)), tt);
  }

  pub some_passed : (next : ℕ) → at ≤ next → ((row : ℕ) → at ≤ row → row < next → HoldAll ts row → ⊥) → HasRows ts table low next old mid
  some_passed next most fail = record {
    still = h.still;
    rows = λ row least less all. elim (cases_lt row at) [
      | inl below ↦ h.rows row least below all
      | inr high ↦ absurd (fail row high less all)
    ];
    inside = λ g few inside. h.inside g (omega (arith, few, most)) inside;
  }

pub both_added : (ts : List EndTest) (table low mid high : ℕ) (old now new : List NodeId) → mid ≤ high
    → HasRows ts table low mid old now → HasRows ts table mid high now new → HasRows ts table low high old new
both_added ts table low mid high old now new ordered one two = record {
  still = λ n has. two.still n (one.still n has);
  rows = λ row least less all. elim (cases_lt row mid) [
    | inl below ↦ two.still (record { table = table; row = row }) (one.rows row least below all)
    | inr past ↦ two.rows row past less all
  ];
  inside = λ g few inside. two.inside g few (one.inside g (omega (arith, few, ordered)) inside);
}

-- ---- tables

module _ (g : Graph) (p : TrailPart) (table : ℕ) where
  pub table_added : (ts : List EndTest) (count : ℕ) (old new : List NodeId) → count ≡ row_count g.nodes table → All (IsNeeded g p table) ts → HasRows ts table 0 count old new → HasTable g p table old new
  table_added ts count old new same needed h = record {
    still = h.still;
    rows = λ row low fits. h.rows row (omega arith) (omega (arith, low, same)) (λ k d less. (needed k d less).true_there row low fits);
    inside = λ inside. h.inside g (omega (arith, same)) inside;
  }

  pub table_passed : (ns : List NodeId) → ((row : ℕ) → fits_end g p (record { table = table; row = row }) ≡ true → ⊥) → HasTable g p table ns ns
  table_passed ns fails = record {
    still = λ n has. has;
    rows = λ row low fits. absurd (fails row fits);
    inside = λ inside. inside;
  }

  pub tables_next : (old new : List NodeId) → HaveTables g p table old → HasTable g p table old new → HaveTables g p (table + 1) new
  tables_next old new have h = record {
    inside = h.inside have.inside;
    all = λ n less node fits. elim (cases_lt n.table table) [
      | inl below ↦ h.still n (have.all n below node fits)
      | inr high ↦
          let here : n.table ≡ table = omega (arith, less, high) in
          subst (λ k. Contains new (record { table = k; row = n.row })) (sym here)
          (h.rows n.row (subst (λ k. n.row < row_count g.nodes k) here (row_within g n node)) (subst (λ k. fits_end g p (record { table = k; row = n.row }) ≡ true) here fits))
    ];
  }

pub ends_found : (g : Graph) (p : TrailPart) (count : ℕ) (ns : List NodeId) → is_valid g ≡ true → length g.catalog.nodes ≤ count → HaveTables g p count ns → AreEnds g p ns
ends_found g p count ns valid most have = record {
  inside = have.inside;
  all = λ n node fits. have.all n (let low = table_within g valid n node in omega (arith, low, most)) node fits;
}
