-- How much a search has before it: each move makes it less.
use Rattle.std.proofs.Common.{◌≡◌, ℕ, zero, suc, ◌+◌, ◌-◌, ◌<◌, ◌≤◌, Option, Some, List, [], ◌∷◌, ◌++◌, refl, sym, ap, ap₂, ◌∙◌, arith, inl, inr, ◌⊎◌}
use Rattle.std.proofs.lemmas.Bool.{cases_lt}
use Rattle.gq_base.specs.declared.NodeId.{NodeId}
use Rattle.gq_base.specs.declared.RelId.{RelId}
use Rattle.gq_plan.specs.Meaning.{far}
use Rattle.gq_hops.specs.Walking.{Course}
use Rattle.gq_hops.specs.Levels.{met_all}
use Rattle.gq_hops.specs.steps.Searches.{Run, left_in, level_at}
use Rattle.gq_hops.specs.declared.follow.Frame.{Frame}
use Rattle.gq_hops.proofs.Owing.{AreSameLevels, fresh_left}
use Rattle.gq_hops.proofs.Hopping.{all_met}

abbrev pub each : (RelId → ℕ) → List RelId → ℕ
each w [] = 0
each w (r ∷ rs) = w r + each w rs

-- of all walks from a node
unfoldable pub node_weight : Course → ℕ → Option NodeId → ℕ
node_weight k zero at = 1
node_weight k (suc h) at = suc (each (λ r. suc (node_weight k h (far k.graph k.way r))) (met_all k.graph k.kind k.way at))

-- of those that begin with one of these relationships
unfoldable pub level_weight : Course → ℕ → List RelId → ℕ
level_weight k zero rs = 0
level_weight k (suc h) rs = each (λ r. suc (node_weight k h (far k.graph k.way r))) rs

unfoldable pub weight : Run → List Frame → ℕ → ℕ
weight c levels zero = 0
weight c levels (suc n) = suc (level_weight c.course (c.course.high - n) (left_in c.course (level_at levels n))) + weight c levels n

node_is : (k : Course) (h : ℕ) (at : NodeId) → node_weight k h (Some at) ≡ suc (level_weight k h (fresh_left k at))
unfolding node_weight level_weight
node_is k zero at = refl
node_is k (suc h) at = ap (λ rs. suc (each (λ r. suc (node_weight k h (far k.graph k.way r))) rs)) (all_met k.graph k.kind k.way at)

first_weight : (k : Course) (high h : ℕ) (r : RelId) (rs : List RelId) → high ≡ suc h → level_weight k high (r ∷ rs) ≡ suc (node_weight k h (far k.graph k.way r)) + level_weight k high rs
unfolding level_weight
first_weight k high h r rs e = rw e refl

no_weight : (k : Course) (high : ℕ) (rs : List RelId) → high ≡ 0 → level_weight k high rs ≡ 0
unfolding level_weight
no_weight k high rs e = rw e refl

weight_alike : (c : Run) (levels others : List Frame) (n : ℕ) → AreSameLevels others levels n → weight c others n ≡ weight c levels n
unfolding weight
weight_alike c levels others zero alike = refl
weight_alike c levels others (suc n) alike =
    ap₂ (λ l m. suc (level_weight c.course (c.course.high - n) (left_in c.course l)) + m) (alike n (omega arith)) (weight_alike c levels others n (λ i low. alike i (omega arith)))

pub back_less : (c : Run) (levels : List Frame) (d : ℕ) → weight c levels d < weight c levels (suc d)
unfolding weight
back_less c levels d = omega arith

each_append : (w : RelId → ℕ) (over rs : List RelId) → each w (over ++ rs) ≡ each w over + each w rs
each_append w [] rs =
    let same : each w rs ≡ 0 + each w rs = omega arith in
    same
each_append w (r ∷ over) rs =
    let more : each w (over ++ rs) ≡ each w over + each w rs = each_append w over rs in
    let all : w r + each w (over ++ rs) ≡ (w r + each w over) + each w rs = omega (arith, more) in
    all

level_less : (k : Course) (high : ℕ) (over rs : List RelId) → level_weight k high rs ≤ level_weight k high (over ++ rs)
unfolding level_weight
level_less k zero over rs = omega arith
level_less k (suc h) over rs =
    let w : RelId → ℕ = λ r. suc (node_weight k h (far k.graph k.way r)) in
    let less : each w rs ≤ each w (over ++ rs) = omega (arith, each_append w over rs) in
    less

-- of what is left some is passed over
pub pass_less : (c : Run) (levels others : List Frame) (d : ℕ) (over : List RelId) → left_in c.course (level_at levels d) ≡ over ++ left_in c.course (level_at others d) → AreSameLevels others levels d
    → weight c others (suc d) ≤ weight c levels (suc d)
unfolding weight
pass_less c levels others d over left alike =
    let less = level_less c.course (c.course.high - d) over (left_in c.course (level_at others d)) in
    let here = ap (level_weight c.course (c.course.high - d)) left in
    omega (arith, less, here, weight_alike c levels others d alike)

module _ (c : Run) (levels others : List Frame) (d : ℕ) (r : RelId) (low : d < c.course.high)
    (first : left_in c.course (level_at levels d) ≡ r ∷ left_in c.course (level_at others d)) (alike : AreSameLevels others levels d) where
  abbrev h : ℕ
  h = c.course.high - suc d

  one_more : c.course.high - d ≡ suc h
  one_more = omega (arith, low)

  abbrev rest : ℕ
  rest = level_weight c.course (c.course.high - d) (left_in c.course (level_at others d))

  before : weight c levels (suc d) ≡ suc (suc (node_weight c.course h (far c.course.graph c.course.way r)) + rest) + weight c others d
  unfolding weight
  before =
      ap₂ (λ m n. suc m + n)
      (ap (level_weight c.course (c.course.high - d)) first ∙ first_weight c.course (c.course.high - d) h r (left_in c.course (level_at others d)) one_more)
      (sym (weight_alike c levels others d alike))

  now : weight c others (suc d) ≡ suc rest + weight c others d
  unfolding weight
  now = refl

  pub skip_less : weight c others (suc d) < weight c levels (suc d)
  skip_less = omega (arith, before, now)

  module _ (node : NodeId) (leads : far c.course.graph c.course.way r ≡ Some node) (next : suc d < c.course.high → left_in c.course (level_at others (suc d)) ≡ fresh_left c.course node) where
    below : level_weight c.course h (left_in c.course (level_at others (suc d))) ≡ level_weight c.course h (fresh_left c.course node)
    below = go (cases_lt (suc d) c.course.high)
      where
        go : (suc d < c.course.high) ⊎ (c.course.high ≤ suc d) → level_weight c.course h (left_in c.course (level_at others (suc d))) ≡ level_weight c.course h (fresh_left c.course node)
        go (inl more) = ap (level_weight c.course h) (next more)
        go (inr high) =
            let none : h ≡ 0 = omega arith in
            no_weight c.course h (left_in c.course (level_at others (suc d))) none ∙ sym (no_weight c.course h (fresh_left c.course node) none)

    deeper : weight c others (suc (suc d)) ≡ suc (level_weight c.course h (left_in c.course (level_at others (suc d)))) + weight c others (suc d)
    unfolding weight
    deeper = refl

    node_at : node_weight c.course h (far c.course.graph c.course.way r) ≡ suc (level_weight c.course h (fresh_left c.course node))
    node_at = ap (node_weight c.course h) leads ∙ node_is c.course h node

    pub down_less : weight c others (suc (suc d)) < weight c levels (suc d)
    down_less = omega (arith, before, now, below, deeper, node_at)
