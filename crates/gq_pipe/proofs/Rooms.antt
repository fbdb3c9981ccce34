-- A pool has room for the side plans of a plan.
use Rattle.std.proofs.Common.{◌≡◌, ◌∙◌, ℕ, zero, suc, ◌<◌, ◌≤◌, not, true, List, [], ◌∷◌, ◌++◌, count_by, get_or, length, map, ap, subst, sym, arith}
use Rattle.std.specs.List.{AllByRecursion}
use Rattle.std.proofs.lemmas.Bool.{and_parts}
use Rattle.gq_base.specs.Catalogs.{Tables}
use Rattle.gq_plan.proofs.ColumnBounds.{columns_bound}
use Rattle.gq_plan.proofs.StepEquations.{join_is, plan_is}
use Rattle.gq_plan.specs.Columns.{columns_of}
use Rattle.gq_plan.specs.Covers.{after, after_step, fits, fits_step, Fits, is_joined}
use Rattle.gq_plan.specs.Known.{Known, none}
use Rattle.gq_plan.specs.Plans.{Plan, Step, Done, Then, Scan, Extend, Close, Join, Keep, Differ, NoLoop, Single, Meet, plan_of, step_of, steps}
use Rattle.gq_plan.specs.Soundness.{IsSound}
use Rattle.gq_plan.specs.declared.plan.Plan as code_plan
use Rattle.gq_plan.specs.declared.plan.Step as code
use Rattle.gq_plan.specs.declared.typed.Typed.{Typed}
use Rattle.gq_pipe.specs.Rooms.{HasRoomForEach}
use Rattle.gq_pipe.specs.Spending.{runs_of, step_runs}
use Rattle.gq_pipe.specs.steps.Built.{JoinHasRoom}
use Rattle.gq_pool.specs.Pool.{Pool, spare_of}

-- pools of which the same slots are out have the same number of free ones
pub spare_same : (p q : Pool) → q.out ≡ p.out → spare_of q ≡ spare_of p
spare_same p q same = ap (count_by (λ out. not out)) same

module _ {X : Type 0} (P : X → Type 0) where
  all_front : (xs ys : List X) → AllByRecursion P (xs ++ ys) → AllByRecursion P xs
  all_front [] ys all = tt
  all_front (x ∷ xs) ys all = (all.0, all_front xs ys all.1)

  all_behind : (xs ys : List X) → AllByRecursion P (xs ++ ys) → AllByRecursion P ys
  all_behind [] ys all = all
  all_behind (x ∷ xs) ys all = all_behind xs ys all.1

  all_both : (xs ys : List X) → AllByRecursion P xs → AllByRecursion P ys → AllByRecursion P (xs ++ ys)
  all_both [] ys front behind = behind
  all_both (x ∷ xs) ys front behind = (front.0, all_both xs ys front.1 behind)

room_same : (p q : Pool) (y : Typed) (sides : List Plan) → q.out ≡ p.out → HasRoomForEach p y sides → HasRoomForEach q y sides
room_same p q y [] same room = tt
room_same p q y (side ∷ sides) same room = (let spare = spare_same p q same in omega (arith, spare, room.0), room_same p q y sides same room.1)

pub joins_room_same : (p q : Pool) (y : Typed) (s : code.Step) → q.out ≡ p.out → JoinHasRoom p y s → JoinHasRoom q y s
joins_room_same p q y s same room = record {
  sides = λ r z keys e here. room_same p q y (runs_of (plan_of z)) same (room.sides r z keys e here);
  own = λ r z keys e here. let spare = spare_same p q same in omega (arith, spare, room.own r z keys e here);
}

module _ (p : Pool) (y : Typed) where
  abbrev Room : Plan → Type 0
  Room side = columns_of y side ≤ spare_of p

  step_room : (xs : List code.Step) (i : ℕ) (x : code.Step) → HasRoomForEach p y (runs_of (steps (map step_of xs))) → i < length xs → x ≡ get_or xs i x
      → HasRoomForEach p y (step_runs (step_of x))
  unfolding runs_of
  step_room [] i x room low is = absurd (omega arith)
  step_room (z ∷ zs) zero x room low is =
      subst (λ s. HasRoomForEach p y (step_runs (step_of s))) (sym is) (all_front Room (step_runs (step_of z)) (runs_of (steps (map step_of zs))) room)
  step_room (z ∷ zs) (suc i) x room low is =
      step_room zs i x (all_behind Room (step_runs (step_of z)) (runs_of (steps (map step_of zs))) room) (omega arith) is

  joined : (side : Plan) (keys : List ℕ) → HasRoomForEach p y (step_runs (Join side keys)) → HasRoomForEach p y (runs_of side) × (columns_of y side ≤ spare_of p)
  unfolding runs_of
  joined side keys room = (all_front Room (runs_of side) (side ∷ []) room, (all_behind Room (runs_of side) (side ∷ []) room).0)

  join_room : (s : code.Step) (q : code_plan.Plan) (keys : List ℕ) → s ≡ code.Join q keys → HasRoomForEach p y (step_runs (step_of s))
      → HasRoomForEach p y (runs_of (plan_of q)) × (columns_of y (plan_of q) ≤ spare_of p)
  join_room s q keys is room = joined (plan_of q) keys (subst (λ t. HasRoomForEach p y (step_runs t)) (ap step_of is ∙ join_is q keys) room)

  -- room for each join of a plan
  pub plan_rooms : (q : code_plan.Plan) (xs : List code.Step) → xs ≡ q.steps → HasRoomForEach p y (runs_of (plan_of q)) → (i : ℕ) (x : code.Step) → i < length xs → x ≡ get_or xs i x
      → JoinHasRoom p y x
  plan_rooms q xs is room i x low here =
      let own = step_room xs i x (subst (λ ss. HasRoomForEach p y (runs_of (steps (map step_of ss)))) (sym is) (subst (λ r. HasRoomForEach p y (runs_of r)) (plan_is q) room)) low here in
      record {
        sides = λ r z keys e same. subst (λ t. HasRoomForEach p y (runs_of (plan_of t))) (sym same) (join_room x r keys e own).0;
        own = λ r z keys e same. subst (λ t. columns_of y (plan_of t) ≤ spare_of p) (sym same) (join_room x r keys e own).1;
      }

  -- 112 free slots are room for the side plans of each plan that fits
  module _ (catalog : Tables) (sound : IsSound catalog y) (most : 112 ≤ spare_of p) where
    mutual
      unfolding fits runs_of

      rooms_of : (q : Plan) (k : Known) → fits catalog y q k ≡ true → HasRoomForEach p y (runs_of q)
      rooms_of Done k fit = tt
      rooms_of (Then s q) k fit =
          let parts = and_parts (fits_step catalog y s k) (fits catalog y q (after_step s k)) fit in
          all_both Room (step_runs s) (runs_of q) (rooms_at s k parts.0) (rooms_of q (after_step s k) parts.1)

      rooms_at : (s : Step) (k : Known) → fits_step catalog y s k ≡ true → HasRoomForEach p y (step_runs s)
      rooms_at (Scan v) k fit = tt
      rooms_at (Extend column x from to direction) k fit = tt
      rooms_at (Close column x from to direction) k fit = tt
      rooms_at (Join side keys) k fit =
          let own = (and_parts (fits catalog y side none) (is_joined y keys (after side none) k) fit).0 in
          all_both Room (runs_of side) (side ∷ []) (rooms_of side none own) ((let few = columns_bound catalog y side sound own in omega (arith, few, most)), tt)
      rooms_at (Keep i) k fit = tt
      rooms_at (Differ i) k fit = tt
      rooms_at (NoLoop x) k fit = tt
      rooms_at (Single x from to direction) k fit = tt
      rooms_at (Meet x from to direction) k fit = tt

    pub most_rooms : (q : Plan) → Fits catalog y q → HasRoomForEach p y (runs_of q)
    most_rooms q fit = rooms_of q none fit
