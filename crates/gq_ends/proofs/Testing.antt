-- What a column tells of the tests of a trail's other end.
use Rattle.std.proofs.Common.{◌≡◌, ◌∙◌, ◌<◌, Bor, ℕ, ℤ, zero, suc, true, List, [], ◌∷◌, Option, Some, None, length, refl, sym, ap, subst}
use Rattle.std.specs.Prelude.{if◌then◌else◌, slice_get}
use Rattle.std.specs.List.{Contains, list_all}
use Rattle.std.proofs.lemmas.Bool.{and_parts, eq-eqb}
use Rattle.gq_base.specs.Catalogs.{has_label}
use Rattle.gq_base.specs.Plain.{Graph}
use Rattle.gq_base.specs.Valid.{row_count}
use Rattle.gq_column.specs.Cells.{cell_at}
use Rattle.gq_expr.specs.Reading.{Assignment, node_property, property_at}
use Rattle.gq_filter.specs.Cells.{IsInLane}
use Rattle.gq_filter.specs.Deciding.{Decides}
use Rattle.gq_filter.specs.Feeds.{IsNodeFeed}
use Rattle.gq_filter.specs.LaneTests.{holds}
use Rattle.gq_filter.specs.Sources.{AreLanes, AreSources, property_of, value_of}
use Rattle.gq_filter.specs.declared.lane_test.LaneTest.{LaneTest}
use Rattle.gq_filter.specs.declared.source.Feed.{Feed}
use Rattle.gq_filter.proofs.Deciding.{kept_by}
use Rattle.gq_law_trails.specs.Trails.{fits_end}
use Rattle.gq_plan.specs.Conditions.{passes}
use Rattle.gq_plan.specs.Meaning as meaning
use Rattle.gq_plan.specs.declared.TrailPart.{TrailPart}
use Rattle.gq_plan.specs.declared.bound.NamedExpr.{NamedExpr}
use Rattle.gq_plan.specs.declared.variable.Variable.TheVariants as variables
use Rattle.gq_store.proofs.Validity.{all-at}
use Rattle.gq_ends.specs.steps.Tests.{IsNeeded, row_cell}

one_is : {X : Type 0} (x y : X) → Some x ≡ Some y → x ≡ y
one_is x y e = cc e

-- one source of lanes
only : (source : Feed) (lane : ℕ) (s : Feed) → slice_get (source ∷ []) lane ≡ Some s → source ≡ s
only source zero s is = one_is source s is
only source (suc lane) s is = absurd (cc is)

-- where a variable has a node of a table, the lane of a feed has the value of the node's property, by its row
node_lane : (g : Graph) (variable table row : ℕ) (name : List ℕ) (feed : Feed) (at : Assignment) → IsNodeFeed g variable table name feed →
    at.nodes variable ≡ Some (record { table = table; row = row }) → row < row_count g.nodes table →
    IsInLane feed.property.now.kind feed.property.now.dict (value_of g at feed) (cell_at feed.property.now.column row)
node_lane g variable table row name feed at feeds is h =
    let value : value_of g at feed ≡ node_property g (record { table = table; row = row }) name =
    ap (λ v. property_of g at v feed.name.now) feeds.variable_is ∙ ap (property_of g at (variables.Node variable)) feeds.name_is ∙ ap (λ o. property_at (node_property g) o name) is in
    subst (λ v. IsInLane feed.property.now.kind feed.property.now.dict v (cell_at feed.property.now.column row)) (sym value) (feeds.cells row h)

module _ (g : Graph) (p : TrailPart) (table : ℕ) (name : List ℕ) (feed : Feed) (feeds : IsNodeFeed g p.to table name feed) where
  pub source_of : AreSources (feed ∷ [])
  source_of = record {
    ascending = λ lane s is. rw (← only feed lane s is) feeds.dict_is.ascending;
    one_dict = λ i j s t here there same. ap (λ (k : Feed). k.property.now.dict) (sym (only feed i s here) ∙ only feed j t there);
  }

  -- the row in which the other end is tested
  abbrev end_row : ℕ → Assignment
  end_row r = meaning.row (meaning.with_node p.to (record { table = table; row = r }) meaning.nothing)

  node_there : (r : ℕ) → (end_row r).nodes p.to ≡ Some (record { table = table; row = r })
  node_there r = ap (λ b. if b then Some (record { table = table; row = r }) else None) (eq-eqb p.to p.to refl)

  lanes_are : (r : ℕ) → r < row_count g.nodes table → AreLanes g (end_row r) (feed ∷ []) (row_cell feed.property.now.column r)
  lanes_are r low zero s is =
      subst (λ (t : Feed). IsInLane t.property.now.kind t.property.now.dict (value_of g (end_row r) t) (row_cell feed.property.now.column r 0)) (one_is feed s is)
      (node_lane g p.to table r name feed (end_row r) feeds (node_there r) low)
  lanes_are r low (suc lane) s is = absurd (cc is)

  module _ (asked : NamedExpr) (has : Contains p.tests asked) where
    passes_there : (r : ℕ) → fits_end g p (record { table = table; row = r }) ≡ true → passes g (end_row r) asked ≡ true
    unfolding fits_end
    passes_there r fits =
        let all = (and_parts (list_all (has_label (slice_get g.catalog.nodes table)) p.labels) (list_all (passes g (end_row r)) p.tests) fits).1 in
        ap (passes g (end_row r)) (sym has.2) ∙ all-at (passes g (end_row r)) p.tests has.0 asked all has.1

    -- where a column decides a test, what it says is needed
    pub needed : (test : LaneTest) (column : Bor (List (Option ℤ))) → column.now ≡ feed.property.now.column → Decides true (feed ∷ []) asked.expr test → IsNeeded g p table (record { column = column; test = test })
    needed test column is decides = record {
      rows = ap length is ∙ feeds.rows;
      true_there = λ r low fits.
          subst (λ cells. holds (row_cell cells r) test ≡ true) (sym is) (kept_by (feed ∷ []) asked test g (end_row r) (row_cell feed.property.now.column r) decides (lanes_are r low) ∙ passes_there r fits);
    }
