-- Trails continue the core's matches to the matches of the query.
use Rattle.std.proofs.Common.{◌≡◌, Bool, ◌&&◌, List, ◌++◌, sym, ap, ◌∙◌, arith}
use Rattle.std.specs.List.{list_all}
use Rattle.gq_base.specs.Lists.{all_distinct}
use Rattle.gq_alternatives.specs.Matches.{is_match}
use Rattle.gq_law_trails.specs.Real.{is_real}
use Rattle.gq_plan.specs.Counts.{bit}
use Rattle.gq_plan.specs.Assignments.{is_rel, same_rel}
use Rattle.gq_plan.specs.declared.TrailPart.{TrailPart}
use Rattle.gq_law_reaches.proofs.Outer.{matches_part}
use Rattle.gq_law_reaches.specs.Core.{core_part, core_pattern, parts_from}
use Rattle.gq_law_reaches.specs.Reaches.{TrailPattern, lists_in, rels_in, trails_hold}
use Rattle.gq_law_reaches.specs.Turned.{CoreContinuedAsReaches, ends_fit}
use Rattle.gq_law_reaches.proofs.Continuing.{core_as_trails}
use Rattle.gq_law_reaches.proofs.Outside.{ends_are_outer}

regrouped : (r m l h e d : Bool) → ((r && m) && (((l && h) && e) && d)) ≡ ((r && l) && ((m && e) && (h && d)))
regrouped r m l h e d = grind arith

pub core_as_reaches : CoreContinuedAsReaches
core_as_reaches g test k q known t ls low nodes rels lists ordered tests binding inside =
    let parts : List TrailPart = parts_from test q.pattern known q.trails in
    let real : Bool = is_real g (core_part k t) in
    let core : Bool = is_match g (core_pattern k q.pattern) (core_part k t) in
    let listed : Bool = list_all (list_all (is_rel g)) ls in
    let held : Bool = trails_hold g t q.trails ls in
    let apart : Bool = list_all (λ (w : TrailPattern). all_distinct same_rel (rels_in w.clause q.pattern.rels t.rels ++ lists_in w.clause q.trails ls)) q.trails in
    core_as_trails g test k q.pattern known q.trails t ls low nodes rels lists ordered
    ∙ ap bit
    (regrouped real core listed held (ends_fit g t parts) apart
    ∙ ap (λ e. (real && listed) && ((core && e) && (held && apart))) (ends_are_outer g test k q.pattern t parts tests binding)
    ∙ ap (λ m. (real && listed) && (m && (held && apart))) (sym (matches_part g k q.pattern t inside)))
