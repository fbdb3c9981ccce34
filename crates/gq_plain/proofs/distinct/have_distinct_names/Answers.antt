use Rattle.std.proofs.Common.{◌∙◌, ap, cond, sym, true}
use Rattle.std.specs.BTreeSet.{contains}
use Rattle.std.specs.Cmp.Lexicographic.{slice_cmp}
use Rattle.std.specs.Ordering.{nat_cmp}
use Rattle.std.proofs.lemmas.Map.Text.{is_eq-slice_cmp}
use Rattle.gq_base.proofs.ListLaws.{not_not, not_yet}
use Rattle.gq_plain.proofs.DistinctSteps.{named_once, named_twice}
use Rattle.gq_plain.proofs.distinct.have_distinct_names.Goals as goal

pub returns-then-not-is_new : goal.returns-then-not-is_new
returns-then-not-is_new c =
    let there = not_not _ (sym c.if-not-is_new.true ∙ c.in_ok-is_new.ensures.added) in
    sym (named_twice _ _ _ c.loop-field.invariant c.loop-field-test.true c.field-item.result c.field-item.is c.as_str.result c.as_str.ensures.bytes there)

pub loop-field-preserved : goal.loop-field-preserved
loop-field-preserved c =
    let absent = not_yet _ (sym c.if-not-is_new.false ∙ c.in_ok-is_new.ensures.added) in
    named_once _ _ _ c.loop-field.invariant c.loop-field-test.true c.field-item.result c.field-item.is c.as_str.result c.as_str.ensures.bytes _ absent
    (λ v. c.in_ok-is_new.ensures.updates.0 v
    ∙ ap (λ b. cond b true (contains (λ x y. slice_cmp nat_cmp x.now y.now) c.loop-field.names v)) (is_eq-slice_cmp c.as_str.result.now v.now))
