-- The builds of a plan's joins have rows that stand for what the side plans mean; and with them a pipeline that hands out all has a chunk
-- for each different key.
use Rattle.std.proofs.Common.{◌≡◌, ◌∙◌, ℕ, suc, ◌+◌, ◌<◌, Bool, true, false, cond, Option, List, [], ◌∷◌, filter, length, ap, sym, subst, arith}
use Rattle.std.specs.Prelude.{IsPermutation}
use Rattle.gq_base.specs.Plain.{Graph}
use Rattle.gq_homes.specs.declared.spent.Spent.{Spent}
use Rattle.gq_join.specs.Kept.{Held}
use Rattle.gq_law_groups.specs.Groups.{HasRows, makes_group}
use Rattle.gq_plan.specs.Columns.{steps_of}
use Rattle.gq_plan.specs.Meaning.{mean, nothing}
use Rattle.gq_plan.specs.Plans.{Plan, Done, Then, Step, Scan, Extend, Close, Join, Keep, Differ, NoLoop, Single, Meet}
use Rattle.gq_plan.specs.declared.typed.Typed.{Typed}
use Rattle.gq_steps.specs.Built.{AreBuilds, FitsBuild}
use Rattle.gq_steps.specs.Levels.{built_of}
use Rattle.gq_pipe.specs.Keys.{AreRows, Maker, build_rows, key_count, maker_at, makers_of, rows_of}
use Rattle.gq_pipe.specs.Spending.{HasOneEach, up_to_most}

has_rows : (g : Graph) (y : Typed) (s : Step) (o : Option Held) → FitsBuild g y s o → HasRows g y (built_of y s o) s
has_rows g y (Scan v) o h = tt
has_rows g y (Extend column x from to way) o h = tt
has_rows g y (Close column x from to way) o h = tt
has_rows g y (Join side keys) o h = subst (λ o. IsPermutation (built_of y (Join side keys) o) (mean g y side nothing)) (sym h.there) h.is.made
has_rows g y (Keep i) o h = tt
has_rows g y (Differ p) o h = tt
has_rows g y (NoLoop x) o h = tt
has_rows g y (Single x from to way) o h = tt
has_rows g y (Meet x from to way) o h = tt

module _ (g : Graph) (y : Typed) (all : List Maker) where
  -- among steps that stand behind others
  rows_on : (p : Plan) (os : List (Option Held)) (i : ℕ) → AreBuilds g y p os
      → ((j : ℕ) → j < length (makers_of (steps_of p) os) → maker_at all (i + j) ≡ maker_at (makers_of (steps_of p) os) j)
      → AreRows g y (build_rows y all) i (filter makes_group (steps_of p))
  rows_on Done os i h same = tt
  rows_on (Then s p) [] i h same = absurd h
  rows_on (Then s p) (o ∷ os) i h same = go (λ k each. rows_on p os k h.1 each) (makes_group s) same
    where
      here : Maker
      here = record { step = s; build = o }

      later : List Maker
      later = makers_of (steps_of p) os

      go : ((k : ℕ) → ((j : ℕ) → j < length later → maker_at all (k + j) ≡ maker_at later j) → AreRows g y (build_rows y all) k (filter makes_group (steps_of p)))
          → (b : Bool) → ((j : ℕ) → j < length (cond b (here ∷ later) later) → maker_at all (i + j) ≡ maker_at (cond b (here ∷ later) later) j)
          → AreRows g y (build_rows y all) i (cond b (s ∷ filter makes_group (steps_of p)) (filter makes_group (steps_of p)))
      go rest true each =
          let at : i ≡ i + 0 = omega arith in
          let is : maker_at all i ≡ here = ap (maker_at all) at ∙ each 0 (omega arith) in (
            subst (λ (m : Maker). HasRows g y (built_of y m.step m.build) s) (sym is) (has_rows g y s o h.0),
            rest (i + 1) (λ j low. let next : i + 1 + j ≡ i + suc j = omega arith in ap (maker_at all) next ∙ each (suc j) (omega (arith, low))),
          )
      go rest false each = rest i each

pub rows_are : (g : Graph) (y : Typed) (p : Plan) (os : List (Option Held)) → AreBuilds g y p os → AreRows g y (rows_of y p os) 0 (filter makes_group (steps_of p))
rows_are g y p os are = rows_on g y (makers_of (steps_of p) os) p os 0 are (λ j low. let same : 0 + j ≡ j = omega arith in ap (maker_at (makers_of (steps_of p) os)) same)

-- where so many chunks are handed out as there are different keys
one_each : (g : Graph) (y : Typed) (p : Plan) (os : List (Option Held)) (s : Spent) → AreBuilds g y p os → s.chunks ≡ up_to_most (key_count g y (rows_of y p os) p) → HasOneEach g y p s
one_each g y p os s are chunks = record { rows = rows_of y p os; are = rows_are g y p os are; chunks = chunks }

-- the same of as many chunks as keys are owed at the start
pub each_told : (g : Graph) (y : Typed) (p : Plan) (os : List (Option Held)) → AreBuilds g y p os → (ks : List (List ℕ)) → length ks ≡ key_count g y (rows_of y p os) p
    → (s : Spent) → s.chunks ≡ up_to_most (length ks) → HasOneEach g y p s
each_told g y p os are ks keys s chunks = one_each g y p os s are (chunks ∙ ap up_to_most keys)
