-- The keys of a plan's assignments are those of the walks of its groups.
use Rattle.std.proofs.Common.{◌≡◌, ℕ, Bool, true, false, cond, List, [], ◌∷◌, ◌++◌, filter, length, map, refl, sym, ap, ◌∙◌, subst, true≢false}
use Rattle.std.specs.List.{AllByRecursion}
use Rattle.gq_law_groups.specs.Groups.{makes_group, cut_from, plan_of, decode}
use Rattle.gq_law_groups.specs.Keys.{IsAs, key_in, makers}
use Rattle.gq_law_groups.specs.Layout.{layout_of}
use Rattle.gq_law_groups.specs.Order.{AreCut}
use Rattle.gq_law_groups.proofs.Cutting.{cut_is, cut_cut}
use Rattle.gq_law_groups.proofs.Keyed.{keys_of_rest}
use Rattle.gq_plan.specs.Arranged.{flags_of}
use Rattle.gq_plan.specs.Columns.{steps_of}
use Rattle.gq_plan.specs.Covers.{after}
use Rattle.gq_plan.specs.Halves.{Runs}
use Rattle.gq_plan.specs.Known.{none}
use Rattle.gq_plan.specs.Meaning.{nothing}
use Rattle.gq_plan.specs.Plans.{Plan, Done, Then, Step}
use Rattle.gq_search.specs.Different.{AreKeysOf}
use Rattle.gq_search.specs.Layouts.{walks, owed_walks, owed_keys}
use Rattle.gq_arrange.specs.Keys.{led, KeysOfPlans}
use Rattle.gq_arrange.specs.Law.{begins, flag, groups_of, led_order, IsArranged}
use Rattle.gq_arrange.proofs.Led.{arranged_plans}

-- the steps that make the groups of a plan are its steps that make groups
makers_cut : (s : Step) (ks : List Step) (p : Plan) → makers (cut_from s ks p) ≡ s ∷ filter makes_group (steps_of p)
makers_cut s ks Done = refl
makers_cut s ks (Then t p) = elim (makes_group t) as (λ b. makers (cond b (record { binds = s; checks = ks } ∷ cut_from t [] p) (cut_from s (ks ++ t ∷ []) p)) ≡ s ∷ cond b (t ∷ filter makes_group (steps_of p)) (filter makes_group (steps_of p))) [
  | true ↦ ap (λ l. s ∷ l) (makers_cut t [] p)
  | false ↦ makers_cut s (ks ++ t ∷ []) p
]

makers_are : (q : Plan) → begins q ≡ true → makers (groups_of q) ≡ filter makes_group (steps_of q)
makers_are Done h = absurd (true≢false (sym h))
makers_are (Then s p) h = makers_cut s [] p ∙ sym (ap (λ b. cond b (s ∷ filter makes_group (steps_of p)) (filter makes_group (steps_of p))) h)

groups_are : (q : Plan) → begins q ≡ true → plan_of (groups_of q) ≡ q
groups_are Done h = absurd (true≢false (sym h))
groups_are (Then s p) h = cut_is s [] p

groups_cut : (q : Plan) → begins q ≡ true → AreCut (groups_of q)
groups_cut Done h = absurd (true≢false (sym h))
groups_cut (Then s p) h = cut_cut s [] p h tt

-- the law
pub keys_of_plans : KeysOfPlans
keys_of_plans g y p rows means spot real sound fit some have as_means =
    subst (λ ss. AreKeysOf (owed_keys (layout_of g y rows flat gs) (length gs) spot) (map (key_in g y rows flat 0 ss) (map means (owed_walks (layout_of g y rows flat gs) (length gs) spot))))
    (makers_are q is.begins ∙ is.makers)
    (keys_of_rest g y rows flat gs means spot real sound (subst (Runs g.catalog y) (sym (groups_are q is.begins)) is.runs) (groups_cut q is.begins) have is.enough
    (subst (λ z. AllByRecursion (λ w. IsAs (after z none) (decode g y rows 0 gs nothing w) (means w)) (walks (layout_of g y rows flat gs) (length gs) [])) (sym (groups_are q is.begins)) as_means))
  where
    q : Plan
    q = led y p

    gs : List Rattle.gq_law_groups.specs.Groups.Group
    gs = groups_of (led y p)

    flat : ℕ → Bool
    flat = flag (flags_of y p)

    is : IsArranged g.catalog y p (led_order y p) (flags_of y p)
    is = arranged_plans g.catalog y p fit some
