-- The matches of a query's core, continued by its trails, are the matches of the query.
use Rattle.std.proofs.Common.{◌≡◌, ℕ, ◌<◌, Bool, true, false, ◌&&◌, nat_lt, length, refl, sym, ap, ◌∙◌, subst, arith}
use Rattle.std.specs.List.{AllByRecursion, list_all, list_any}
use Rattle.std.proofs.lemmas.Bool.{and_parts}
use Rattle.gq_plan.specs.Counts.{bit}
use Rattle.gq_plan.specs.Assignments.{is_rel}
use Rattle.gq_plan.specs.declared.Variable.TheVariants.{Node as node}
use Rattle.gq_alternatives.specs.Matches.{is_match}
use Rattle.gq_scopes.specs.Patterns.{MapEntry, NodePattern}
use Rattle.gq_law_trails.specs.Real.{is_real}
use Rattle.gq_plan.specs.declared.TrailPart.{TrailPart}
use Rattle.gq_law_reaches.specs.Core.{core_nodes, core_part, trail_parts}
use Rattle.gq_law_reaches.specs.Cores.{AreReached, CoresContinuedToReaches}
use Rattle.gq_law_reaches.specs.Reaches.{TrailPattern, differ_in, is_reach, trails_hold}
use Rattle.gq_law_reaches.specs.Turned.{binds}
use Rattle.gq_law_reaches.proofs.Orders.{binding_from, binds_from, core_reaches, ends_from, ordered_from}
use Rattle.gq_law_reaches.proofs.Reached.{core_as_reaches}
use Rattle.gq_law_reaches.proofs.Reals.{real_whole}

where_so : (a b l m : Bool) → (m ≡ true → a ≡ b) → bit ((a && l) && m) ≡ bit ((b && l) && m)
where_so a b l true h = ap (λ c. bit ((c && l) && true)) (h refl)
where_so a b l false h = grind arith

pub cores_to_reaches : CoresContinuedToReaches
cores_to_reaches g test k q t ls valid tests cored nodes rels lists =
    core_as_reaches g test k q (core_nodes q) t ls cored.within nodes rels lists
    (ordered_from test q.pattern q.trails (core_nodes q) (λ v. nat_lt v k) (λ v. sym (cored.core v)) reached)
    tests
    (record {
      binding = binding_from test q.pattern q.trails (core_nodes q) k (λ v e. sym (cored.core v) ∙ e);
      ends = subst (λ n. AllByRecursion (λ (p : TrailPart). p.to < n) (trail_parts test q)) (sym nodes) (ends_from test q.pattern q.trails (core_nodes q) (length q.pattern.names) cored.ends);
      all = all;
      nodes = subst (λ n. AllByRecursion (λ (m : NodePattern). m.variable < n) q.pattern.nodes) (sym nodes) cored.nodes;
      entries = subst (λ n. AllByRecursion (λ (e : MapEntry). (v : ℕ) → e.variable ≡ node v → v < n) q.pattern.entries) (sym nodes) cored.entries;
    })
    cored.rels
    ∙ where_so (is_real g (core_part k t)) (is_real g t) (list_all (list_all (is_rel g)) ls) (is_reach g q (record { base = t; trails = ls }))
    (λ is. real_whole g test k q.pattern (core_nodes q) q.trails t ls valid lists cored.some all
    (and_parts (trails_hold g t q.trails ls) (list_all (λ (p : TrailPattern). differ_in q (record { base = t; trails = ls }) p.clause) q.trails)
    (and_parts (is_match g q.pattern t) (trails_hold g t q.trails ls && list_all (λ (p : TrailPattern). differ_in q (record { base = t; trails = ls }) p.clause) q.trails) is).1).0)
  where
    reached : AreReached (core_nodes q) q.trails
    reached = core_reaches q cored.ends

    all : (v : ℕ) → nat_lt v k ≡ false → v < length t.nodes → list_any (binds v) (trail_parts test q) ≡ true
    all v out low = binds_from test q.pattern q.trails (core_nodes q) v reached (cored.core v ∙ out) (cored.outside v out (subst (λ n. v < n) nodes low))
