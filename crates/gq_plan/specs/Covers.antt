-- When a plan fits a typed alternative, and when it covers it.
use Rattle.std.specs.Prelude.{ℕ, nat_eq, nat_lt, Bool, true, false, not, ◌&&◌, ◌||◌, IsTrue, IsPermutation, List, [], ◌∷◌, ◌++◌, map, filter, length, slice_get}
use Rattle.std.specs.List.{range_with_len, list_all}
use Rattle.gq_base.specs.Catalogs.{Tables}
use Rattle.gq_base.specs.Valid.{is_single}
use Rattle.gq_base.specs.declared.direction.Direction.{Direction}
use Rattle.gq_base.specs.declared.direction.Direction.TheVariants.{Forward, Backward}
use Rattle.gq_plan.specs.Meaning.{holds}
use Rattle.gq_plan.specs.Known.{Known, none, with_node, with_rel, with_both, reads_bound}
use Rattle.gq_plan.specs.Soundness.{has_number}
use Rattle.gq_plan.specs.Plans.{Plan, Done, Then, Step, Scan, Extend, Close, Join, Keep, Differ, NoLoop, Single, Meet}
use Rattle.gq_plan.specs.declared.bound.NamedExpr.{NamedExpr}
use Rattle.gq_plan.specs.declared.demand.Demand.{Demand}
use Rattle.gq_plan.specs.declared.demand.Demand.TheVariants.{InTable, Joins, Passes, Differs, IsNoLoop}
use Rattle.gq_plan.specs.declared.typed.RelPair.{RelPair}
use Rattle.gq_plan.specs.declared.typed.Typed.{Typed}
use Rattle.gq_plan.specs.declared.typed.TypedRel.{TypedRel}

-- ---- what is bound

unfoldable mutual
  -- what is bound after a plan, or a step, that stands where so much is bound
  pub after : Plan → Known → Known
  after Done k = k
  after (Then s p) k = after p (after_step s k)

  pub after_step : Step → Known → Known
  after_step (Scan v) k = with_node v k
  after_step (Extend column x from to direction) k = with_node to (with_rel x k)
  after_step (Close column x from to direction) k = with_rel x k
  after_step (Join side keys) k = with_both (after side none) k
  after_step (Single x from to direction) k = with_rel x k
  after_step s k = k

-- ---- what fits

-- the node variable from which a relationship is followed, and the one to which it leads
abbrev pub start_of : Direction → TypedRel → ℕ
start_of Forward r = r.source
start_of Backward r = r.target

abbrev pub end_of : Direction → TypedRel → ℕ
end_of Forward r = r.target
end_of Backward r = r.source

abbrev pub agrees : Bool → Bool → Bool
agrees true b = b
agrees false b = not b

-- a node variable of the alternative that is not bound yet
abbrev pub is_new : Typed → Known → ℕ → Bool
is_new y k v = nat_lt v (length y.nodes) && not (k.nodes v)

-- a relationship goes so from one node variable to another, by a column exactly where its table is
-- single in the direction
abbrev pub goes : Tables → Bool → ℕ → ℕ → Direction → TypedRel → Bool
goes catalog column from to direction r =
    (nat_eq from (start_of direction r) && nat_eq to (end_of direction r))
    && holds (λ table. agrees column (is_single table.mult direction)) (slice_get catalog.rels r.table)

-- all that a test reads is bound
abbrev pub test_bound : Known → NamedExpr → Bool
test_bound k test = reads_bound k test.expr

-- both relationships of a pair are bound
abbrev pub pair_bound : Known → RelPair → Bool
pair_bound k p = k.rels p.first && k.rels p.second

-- the loops of a relationship are left out, and it and both its ends are bound
abbrev pub loop_bound : Known → ℕ → TypedRel → Bool
loop_bound k x r = r.no_loop && (k.rels x && (k.nodes r.source && k.nodes r.target))

-- a side plan is joined on keys that both plans bind, and binds nothing else that is bound
abbrev pub is_joined : Typed → List ℕ → Known → Known → Bool
is_joined y keys side k =
    list_all (λ v. side.nodes v && k.nodes v) keys
    && (list_all (λ v. not (side.nodes v && k.nodes v) || has_number keys v) (range_with_len 0 (length y.nodes))
    && list_all (λ x. not (side.rels x && k.rels x)) (range_with_len 0 (length y.rels)))

-- a relationship that is not bound yet leads from a bound node variable to a new one, or to a bound one
abbrev pub fits_extend : Tables → Typed → Bool → ℕ → ℕ → ℕ → Direction → Known → Bool
fits_extend catalog y column x from to direction k =
    holds (goes catalog column from to direction) (slice_get y.rels x)
    && (not (k.rels x) && (k.nodes from && is_new y k to))

abbrev pub fits_close : Tables → Typed → Bool → ℕ → ℕ → ℕ → Direction → Known → Bool
fits_close catalog y column x from to direction k =
    holds (goes catalog column from to direction) (slice_get y.rels x)
    && (not (k.rels x) && (k.nodes from && k.nodes to))

module _ (catalog : Tables) (y : Typed) where
  unfoldable mutual
    -- each step names what the alternative has, uses what is bound where it stands, and binds what is not bound yet
    pub fits : Plan → Known → Bool
    fits Done k = true
    fits (Then s p) k = fits_step s k && fits p (after_step s k)

    pub fits_step : Step → Known → Bool
    fits_step (Scan v) k = is_new y k v
    fits_step (Extend column x from to direction) k = fits_extend catalog y column x from to direction k
    fits_step (Close column x from to direction) k = fits_close catalog y column x from to direction k
    fits_step (Join side keys) k = fits side none && is_joined y keys (after side none) k
    fits_step (Keep i) k = holds (test_bound k) (slice_get y.tests i)
    fits_step (Differ p) k = holds (pair_bound k) (slice_get y.pairs p)
    fits_step (NoLoop x) k = holds (loop_bound k x) (slice_get y.rels x)
    fits_step s k = false

-- ---- what is covered

abbrev pub leaves_loops_out : TypedRel → Bool
leaves_loops_out r = r.no_loop

-- what an alternative demands: a node of each node variable's table, a relationship of each relationship variable's
-- table between its ends, each test true, the relationships of each pair different, and no loop where those are left out
unfoldable pub demands : Typed → List Demand
demands y =
    map InTable (range_with_len 0 (length y.nodes))
    ++ map Joins (range_with_len 0 (length y.rels))
    ++ map Passes (range_with_len 0 (length y.tests))
    ++ map Differs (range_with_len 0 (length y.pairs))
    ++ map IsNoLoop (filter (λ x. holds leaves_loops_out (slice_get y.rels x)) (range_with_len 0 (length y.rels)))

-- a node variable that is a key, which the plan that joins has bound itself
abbrev pub is_key : List ℕ → Demand → Bool
is_key keys (InTable v) = has_number keys v
is_key keys d = false

unfoldable mutual
  -- the demands that a plan meets, side plans included
  pub placed : Plan → List Demand
  placed Done = []
  placed (Then s p) = placed_step s ++ placed p

  pub placed_step : Step → List Demand
  placed_step (Scan v) = InTable v ∷ []
  placed_step (Extend column x from to direction) = Joins x ∷ InTable to ∷ []
  placed_step (Close column x from to direction) = Joins x ∷ []
  placed_step (Join side keys) = filter (λ d. not (is_key keys d)) (placed side)
  placed_step (Keep i) = Passes i ∷ []
  placed_step (Differ p) = Differs p ∷ []
  placed_step (NoLoop x) = IsNoLoop x ∷ []
  placed_step (Single x from to direction) = Joins x ∷ []
  placed_step (Meet x from to direction) = []

-- a plan fits an alternative by itself
abbrev pub Fits : Tables → Typed → Plan → Type 0
Fits catalog y p = IsTrue (fits catalog y p none)

-- it fits, and meets each demand once: it binds every variable, once each but for keys, and has each relationship, test,
-- pair and loop exclusion exactly once
pub record Covers (catalog : Tables) (y : Typed) (p : Plan) : Type 0 where
  pub fits : Fits catalog y p
  pub once : IsPermutation (placed p) (demands y)
