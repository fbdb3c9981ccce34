use Rattle.std.proofs.Common.{◌≡◌, ◌∙◌, sym, ap, subst, ℕ, List, [], ◌∷◌, ◌++◌, cond, true, false, OnOk}
use Rattle.std.specs.BTreeSet.{contains}
use Rattle.std.specs.Cmp.Lexicographic.{slice_cmp}
use Rattle.std.specs.Ordering.{nat_cmp}
use Rattle.std.specs.Str.{bytes_eq}
use Rattle.std.specs.List.{list_any}
use Rattle.std.proofs.lemmas.Map.Text.{is_eq-slice_cmp}
use Rattle.gq_plan.specs.Reads.{Read, property, with_read, same_read}
use Rattle.gq_plan.specs.steps.Reads.{has_name}
use Rattle.gq_plan.proofs.NameLemmas.{no_read, not_there, still_apart}
use Rattle.gq_plan.proofs.reads.PropertyReads.add.Goals as goal

pub invariant_of-self-then-is_new : goal.invariant_of-self-then-is_new
invariant_of-self-then-is_new c = still_apart _ _ _ _ c.args.variable c.args.name.now c.self.invariant
    (λ n. c.in-Ok.ensures.updates.0 n
    ∙ ap (λ b. cond b true (contains (λ x y. slice_cmp nat_cmp x.now y.now) c.self.inside.names n)) (is_eq-slice_cmp c.as_str.result.now n.now)
    ∙ ap (λ (m : List ℕ). cond (bytes_eq m n.now) true (contains (λ x y. slice_cmp nat_cmp x.now y.now) c.self.inside.names n)) c.as_str.ensures.bytes)
    c.push.result c.push.ensures.pushed c.push.ensures.kept

pub returns-then-is_new : goal.returns-then-is_new
returns-then-is_new c =
    let read : Read = property c.args.variable c.args.name.now in
    let absent = not_there _ (sym c.in-Ok.ensures.added ∙ c.if-is_new.true) in
    let unread : list_any (λ q. same_read q read) c.self.inside.reads ≡ false =
    no_read c.args.variable c.args.name.now c.self.inside.reads (ap (λ (m : List ℕ). list_any (has_name m) c.self.inside.reads) (sym c.as_str.ensures.bytes) ∙ c.self.invariant c.as_str.result absent) in
    subst (λ rs. OnOk c.push.result (c.push.new.self ≡ rs))
    (sym (ap (λ b. cond b c.self.inside.reads (c.self.inside.reads ++ read ∷ [])) unread) ∙ ap (λ rs. with_read rs read) c.self.view_is)
    c.push.ensures.pushed

pub invariant_of-self-3 : goal.invariant_of-self-3
invariant_of-self-3 c = still_apart _ _ _ _ c.args.variable c.args.name.now c.self.invariant
    (λ n. c.in-Ok.ensures.updates.0 n
    ∙ ap (λ b. cond b true (contains (λ x y. slice_cmp nat_cmp x.now y.now) c.self.inside.names n)) (is_eq-slice_cmp c.as_str.result.now n.now)
    ∙ ap (λ (m : List ℕ). cond (bytes_eq m n.now) true (contains (λ x y. slice_cmp nat_cmp x.now y.now) c.self.inside.names n)) c.as_str.ensures.bytes)
    c.push-2.result c.push-2.ensures.pushed c.push-2.ensures.kept
