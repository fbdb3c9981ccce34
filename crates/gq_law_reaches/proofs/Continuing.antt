-- Trails continue the core's matches as they are meant.
use Rattle.std.proofs.Common.{◌≡◌, ℕ, suc, ◌&&◌, List, [], ◌∷◌, length, refl, ap, ap₂, ◌∙◌, arith}
use Rattle.gq_base.specs.declared.RelId.{RelId}
use Rattle.gq_alternatives.specs.Matches.{is_match}
use Rattle.gq_plan.specs.Counts.{bit}
use Rattle.gq_law_trails.specs.Real.{is_real}
use Rattle.gq_scopes.specs.Patterns.{Pattern, MapEntry}
use Rattle.gq_law_reaches.proofs.Meant.{core_meant}
use Rattle.gq_law_reaches.specs.Core.{core_part, core_pattern, parts_from}
use Rattle.gq_law_reaches.specs.Reaches.{TrailPattern, rels_in}
use Rattle.gq_law_reaches.specs.Turned.{CoreContinuedAsTrails, turned_all}
use Rattle.gq_law_reaches.proofs.Held.{trails_asked_as_held}
use Rattle.gq_law_reaches.proofs.Turning.{turned_differ}
use Rattle.gq_plan.specs.declared.NamedExpr.{NamedExpr}

as_many : (test : MapEntry → NamedExpr) (p : Pattern) (known : List ℕ) (ts : List TrailPattern) (ls : List (List RelId)) → length ts ≡ length ls → length (parts_from test p known ts) ≡ length (turned_all (parts_from test p known ts) ls)
as_many test p known [] ls e = refl
as_many test p known (t ∷ ts) [] e = absurd (omega arith)
as_many test p known (t ∷ ts) (l ∷ ls) e = ap suc (as_many test p (t.left ∷ t.right ∷ known) ts ls (omega arith))

pub core_as_trails : CoreContinuedAsTrails
core_as_trails g test k p known ts t ls low nodes rels lists ordered =
    core_meant g k p (parts_from test p known ts) t (turned_all (parts_from test p known ts) ls) low nodes rels (as_many test p known ts ls lists) ordered
    ∙ ap₂ (λ asked apart. bit ((is_real g (core_part k t) && is_match g (core_pattern k p) (core_part k t)) && (asked && apart)))
    (trails_asked_as_held g test p known ts t ls lists) (turned_differ test p known ts (λ c. rels_in c p.rels t.rels) ls)
