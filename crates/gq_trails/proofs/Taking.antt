-- What trails before have walked, taken one after another.
use Rattle.std.proofs.Common.{◌≡◌, ◌≢◌, ℕ, suc, ◌+◌, ◌-◌, ◌<◌, nat_eq, List, [], ◌++◌, append_assoc, sym, ap, ◌∙◌, arith}
use Rattle.std.specs.Prelude.{if◌then◌else◌}
use Rattle.std.proofs.lemmas.Bool.{eq-eqb, ne_eqb}
use Rattle.std.proofs.lemmas.List.{append-nil}
use Rattle.gq_base.specs.declared.RelId.{RelId}
use Rattle.gq_law_trails.specs.Trails.{taken_in}
use Rattle.gq_plan.specs.declared.TrailPart.{TrailPart}
use Rattle.gq_hops.specs.Walking.{Walking}
use Rattle.gq_trails.specs.steps.Journeys.{part_at, walk_at, walked_at}

module _ (parts : List TrailPart) (ws : List Walking) (clause depth back : ℕ) (low : back < depth) (taken all : List RelId)
    (before : taken ++ taken_in clause (walked_at parts ws (depth - back)) ≡ all) where
  abbrev at : ℕ
  at = depth - 1 - back

  abbrev rest : List RelId
  rest = taken_in clause (walked_at parts ws (depth - (back + 1)))

  one_more : taken_in clause (walked_at parts ws (depth - back)) ≡ (if nat_eq (part_at parts (depth - 1 - back)).clause clause then (walk_at ws (depth - 1 - back)).rels else []) ++ taken_in clause (walked_at parts ws (depth - (back + 1)))
  unfolding walked_at
  one_more =
      let one : depth - back ≡ suc at = omega (arith, low) in
      let same : at ≡ depth - (back + 1) = omega (arith, low) in
      ap (λ n. taken_in clause (walked_at parts ws n)) one
      ∙ ap (λ n. (if nat_eq (part_at parts at).clause clause then (walk_at ws at).rels else []) ++ taken_in clause (walked_at parts ws n)) same

  pub took : (part_at parts (depth - 1 - back)).clause ≡ clause → (new rels : List RelId) → new ≡ taken ++ rels → rels ≡ (walk_at ws (depth - 1 - back)).rels
      → new ++ taken_in clause (walked_at parts ws (depth - (back + 1))) ≡ all
  took is new rels more same =
      ap (λ l. l ++ rest) (more ∙ ap (λ l. taken ++ l) same)
      ∙ append_assoc taken (walk_at ws at).rels rest
      ∙ ap (λ l. taken ++ l) (sym (one_more ∙ ap (λ b. (if b then (walk_at ws at).rels else []) ++ rest) (eq-eqb (part_at parts at).clause clause is)))
      ∙ before

  pub passed : (part_at parts (depth - 1 - back)).clause ≢ clause → (new : List RelId) → new ≡ taken → new ++ taken_in clause (walked_at parts ws (depth - (back + 1))) ≡ all
  passed other new same =
      ap (λ l. l ++ rest) same
      ∙ ap (λ l. taken ++ l) (sym (one_more ∙ ap (λ b. (if b then (walk_at ws at).rels else []) ++ rest) (ne_eqb (part_at parts at).clause clause other)))
      ∙ before

pub all_taken : (parts : List TrailPart) (ws : List Walking) (clause left : ℕ) (taken all : List RelId) → left ≡ 0 → taken ++ taken_in clause (walked_at parts ws left) ≡ all → taken ≡ all
unfolding walked_at
all_taken parts ws clause left taken all none is = sym (append-nil taken) ∙ ap (λ n. taken ++ taken_in clause (walked_at parts ws n)) (sym none) ∙ is
