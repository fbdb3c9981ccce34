-- The other ends of trails.
use Rattle.std.proofs.Common.{◌≡◌, ℕ, ◌<◌, List, get_or, length, ap, ◌∙◌}
use Rattle.std.proofs.lemmas.List.{get_or-map}
use Rattle.gq_base.specs.Plain.{Graph}
use Rattle.gq_ends.specs.Ends.{OtherEnd, other_end}
use Rattle.gq_plan.specs.declared.TrailPart.{TrailPart}
use Rattle.gq_trails.specs.steps.Ends.{AreEndsOf}
use Rattle.gq_trails.specs.steps.Journeys.{no_part, part_at}

-- that of the trail at a depth
pub end_at : (g : Graph) (parts : List TrailPart) (ends : List OtherEnd) (n : ℕ) (d : OtherEnd) → n < length parts → AreEndsOf g parts ends
    → get_or ends n d ≡ other_end g (part_at parts n)
end_at g parts ends n d low are = ap (λ l. get_or l n d) are ∙ get_or-map (other_end g) parts n no_part d low
