-- A step that made something of its first place stands with the first relationship there.
use Rattle.std.proofs.Common.{◌≡◌, ℕ, ◌<◌, Option, Some, None, List, [], ◌∷◌, map, drop, length, slice_get, refl, sym, ap, ◌∙◌}
use Rattle.std.specs.Prelude.{slice_index}
use Rattle.gq_base.specs.declared.NodeId.{NodeId}
use Rattle.gq_base.specs.declared.RelId.{RelId}
use Rattle.gq_plan.specs.Meaning.{Partial, arrive, far, with_node, with_rel}
use Rattle.gq_plan.specs.Rows.{node_at, node_table, rel_at, rel_table}
use Rattle.gq_plan.specs.declared.assignment.Assignment.{Assignment}
use Rattle.gq_plan.specs.declared.follow.Follow.{Follow}
use Rattle.gq_chains.specs.steps.Extends.{Extends}
use Rattle.gq_chains.proofs.Sourced.{IsFirst}
use Rattle.gq_steps.specs.Levels.{Run, before, built_at, known, step_at, taken}
use Rattle.gq_steps.specs.Moves.{IsHeld, IsMade, IsRun}
use Rattle.gq_steps.specs.Tries.{tries}
use Rattle.gq_steps.proofs.Followed.{rel}
use Rattle.gq_steps.proofs.Stepping.{Follows, follows, met, met_is}
use Rattle.gq_steps.proofs.Trying.{extend_goes, extend_parts, found}

-- what was bound last
abbrev rel_in : List (ℕ × RelId) → RelId
rel_in [] = rel 0 0
rel_in (b ∷ bs) = b.1

abbrev node_in : List (ℕ × NodeId) → NodeId
node_in [] = record { table = 0; row = 0 }
node_in (b ∷ bs) = b.1

-- what a relationship variable has is the first relationship of the row from which it is followed
abbrev pub HasFirst : Run → Follow → Assignment → Type 0
HasFirst c f row =
    IsFirst c.graph (rel_table c.typed f.rel) f.direction (slice_index row.nodes f.from) (node_table c.typed f.to) (slice_index row.nodes f.to) (slice_index row.rels f.rel)

module _ (c : Run) (run : IsRun c) (d : ℕ) (low : d < length c.steps) (row : Assignment) (held : IsHeld c row (known c d)) (f : Follow) (ext : Extends c d f) where
  abbrev a : Partial
  a = before c row d

  abbrev table : ℕ
  table = rel_table c.typed f.rel

  extends : Follows c f.rel f.from f.to f.direction
  extends = follows c run ext.0 f.rel f.from f.to f.direction (extend_goes c run d low row held ext.0 f.rel f.from f.to f.direction ext.1)

  abbrev numbers_there : List ℕ
  numbers_there = met c run f.rel f.from f.to f.direction extends row a (found c run d low row held f.from (extend_parts c run d low row held ext.0 f.rel f.from f.to f.direction ext.1).1)

  -- what is made of a relationship
  abbrev made_of : RelId → List Partial
  made_of r = arrive f.to (far c.graph f.direction r) (with_rel f.rel r a)

  -- the assignment with what the step binds
  abbrev bound : Partial
  bound = with_node f.to (node_at c.typed row f.to) (with_rel f.rel (rel_at c.typed row f.rel) a)

  tries_are : tries c.graph c.typed (built_at c d) (step_at c d) a ≡ map made_of (map (rel table) numbers_there)
  unfolding tries
  tries_are =
      ap (λ s. tries c.graph c.typed (built_at c d) s a) ext.1
      ∙ ap (map made_of) (met_is c run f.rel f.from f.to f.direction extends row a (found c run d low row held f.from (extend_parts c run d low row held ext.0 f.rel f.from f.to f.direction ext.1).1))

  taken_is : taken c.typed row (step_at c d) a ≡ bound
  taken_is = ap (λ s. taken c.typed row s a) ext.1

  -- where it leads, if what is made of it is what is bound
  leads : (r : RelId) (o : Option NodeId) → far c.graph f.direction r ≡ o → arrive f.to o (with_rel f.rel r a) ≡ bound ∷ [] → (r ≡ rel_at c.typed row f.rel) × (o ≡ Some (node_at c.typed row f.to))
  leads r None is e = absurd (cc e)
  leads r (Some n) is e =
      let same : with_node f.to n (with_rel f.rel r a) ≡ bound = cc e in
      (ap (λ (b : Partial). rel_in b.rels) same, ap (λ (b : Partial). Some (node_in b.nodes)) same)

  first : (ns : List ℕ) (rest : List (List Partial)) → numbers_there ≡ ns → map made_of (map (rel table) ns) ≡ (bound ∷ []) ∷ rest → HasFirst c f row
  first [] rest is e = absurd (cc e)
  first (n ∷ ns) rest is e =
      let here : made_of (rel table n) ≡ bound ∷ [] = cc e in
      let both = leads (rel table n) (far c.graph f.direction (rel table n)) refl here in
      let same : n ≡ slice_index row.rels f.rel = ap (λ (r : RelId). r.row) both.0 in
      record {
        at = ap (λ l. slice_get l 0) is ∙ ap Some same;
        far = ap (λ k. far c.graph f.direction (rel table k)) (sym same) ∙ both.1;
      }

  pub made_first : IsMade c d 0 row row → HasFirst c f row
  made_first m =
      first numbers_there (drop 1 (tries c.graph c.typed (built_at c d) (step_at c d) a)) refl
      (sym tries_are ∙ m.made ∙ ap (λ (b : Partial). (b ∷ []) ∷ drop 1 (tries c.graph c.typed (built_at c d) (step_at c d) a)) taken_is)
