-- The matches of a join stay while places are tried.
use Rattle.std.proofs.Common.{◌≡◌, ℕ, Bool, true, ◌&&◌, List, [], ◌∷◌, refl, ap, ap₂, ◌⊎◌, inl, inr, ◌<◌, None, length, sym, ◌∙◌, subst, arith, true≢false}
use Rattle.std.specs.Prelude.{slice_index, slice_index_or}
use Rattle.std.specs.List.{list_all}
use Rattle.std.proofs.lemmas.Bool.{and_parts, cases_eq}
use Rattle.gq_base.specs.Catalogs.{Tables}
use Rattle.gq_join.specs.Kept.{values_of, matches}
use Rattle.gq_plan.specs.Covers.{after, fits_step}
use Rattle.gq_plan.specs.Halves.{runs_step}
use Rattle.gq_plan.specs.Known.{Known, none}
use Rattle.gq_plan.specs.Plans.{Plan, Join}
use Rattle.gq_plan.specs.declared.typed.Typed.{Typed}
use Rattle.gq_steps.specs.Pieces.{matches_in}
use Rattle.gq_plan.specs.declared.assignment.Assignment.{Assignment}
use Rattle.gq_law_groups.specs.Groups.{makes_group}
use Rattle.gq_steps.specs.Built.{HasBuild}
use Rattle.gq_steps.specs.Keeps.{IsRange}
use Rattle.gq_steps.specs.Levels.{Run, step_at, known}
use Rattle.gq_steps.specs.Matches.{AreMatches}
use Rattle.gq_steps.specs.Moves.{IsRun, IsHeld, IsAlike}
use Rattle.gq_steps.specs.declared.group_steps.GroupSteps.{GroupSteps}
use Rattle.gq_steps.proofs.Binding.{fits_at}
use Rattle.gq_steps.proofs.Going.{IsGoing}
use Rattle.gq_steps.proofs.Joined.{build}

-- numbers that agree at keys which are known twice
pub same_values : (a k m : ℕ → Bool) (vs xs ys : List ℕ) → list_all (λ v. a v && k v) vs ≡ true → list_all (λ v. a v && m v) vs ≡ true → ((v : ℕ) → k v ≡ true → m v ≡ true → slice_index xs v ≡ slice_index ys v) → values_of vs xs ≡ values_of vs ys
same_values a k m [] xs ys h e same = refl
same_values a k m (v ∷ vs) xs ys h e same =
    let hs = and_parts (a v && k v) (list_all (λ v. a v && k v) vs) h in
    let es = and_parts (a v && m v) (list_all (λ v. a v && m v) vs) e in
    ap₂ (λ (x : ℕ) (l : List ℕ). x ∷ l) (same v (and_parts (a v) (k v) hs.0).1 (and_parts (a v) (m v) es.0).1) (same_values a k m vs xs ys hs.1 es.1 same)

-- the keys of a join are known where it fits
pub join_reads : (catalog : Tables) (y : Typed) (k : Known) (side : Plan) (keys : List ℕ) → runs_step catalog y (Join side keys) k ≡ true → list_all (λ v. (after side none).nodes v && k.nodes v) keys ≡ true
unfolding fits_step
join_reads catalog y k side keys fit = (and_parts _ _ (and_parts _ _ fit).1).0

-- they stay where what is bound before the step does
pub same_matches : (c : Run) → IsRun c → (d : ℕ) → d < length c.steps → (old new : Assignment) → IsHeld c old (known c d) → IsAlike (known c d) old new → (ms : List ℕ) → AreMatches c d old ms → AreMatches c d new ms
same_matches c run d low old new held alike ms m = record { few = m.few; are = λ side keys is. m.are side keys is ∙ same side keys is }
  where
    same : (side : Plan) (keys : List ℕ) → step_at c d ≡ Join side keys → matches_in (slice_index_or c.builds d None) old ≡ matches_in (slice_index_or c.builds d None) new
    same side keys is =
        let b : HasBuild c.graph c.typed side keys (slice_index_or c.builds d None) = build c run d low old held side keys is in
        let reads = join_reads c.graph.catalog c.typed (known c d) side keys (subst (λ t. runs_step c.graph.catalog c.typed t (known c d) ≡ true) is (fits_at c run d low)) in
        let values : values_of b.build.keys old.nodes ≡ values_of b.build.keys new.nodes =
        ap (λ ks. values_of ks old.nodes) b.is.key_list
        ∙ same_values (after side none).nodes (known c d).nodes (known c d).nodes keys old.nodes new.nodes reads reads (λ v one two. sym (alike.nodes v one))
        ∙ ap (λ ks. values_of ks new.nodes) (sym b.is.key_list) in
        ap (λ o. matches_in o old) b.there ∙ ap (matches b.build) values ∙ sym (ap (λ o. matches_in o new) b.there)

-- behind the step that makes a group no step of it is a join
pub going_matches : (c : Run) (group : GroupSteps) → IsRange c group → (place : ℕ) (old : Assignment) (d : ℕ) (row : Assignment) → IsGoing c group place old d row → d < group.end → (ms : List ℕ) → AreMatches c group.first old ms → AreMatches c d row ms
going_matches c group range place old d row g below ms m = go (cases_eq d group.first)
  where
    go : (d ≡ group.first) ⊎ (d ≡ group.first → ⊥) → AreMatches c d row ms
    go (inl e) = subst (λ n. AreMatches c n row ms) (sym e) (subst (λ (r : Assignment). AreMatches c group.first r ms) (sym (g.start e)) m)
    go (inr other) =
        let low = g.low in
        record { few = m.few; are = λ side keys is. absurd (true≢false (sym (ap makes_group is) ∙ range.tests d (omega (arith, low, other)) below)) }
