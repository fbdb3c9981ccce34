use Rattle.std.proofs.Common.{◌≡◌, ◌∙◌, ℕ, zero, suc, length, get_or, replicate, refl, sym, ap, subst, arith}
use Rattle.std.proofs.lemmas.List.{length-replicate}
use Rattle.gq_group.specs.declared.home.NodeHome.TheVariants as node
use Rattle.gq_group.specs.declared.home.RelHome.TheVariants as rel
use Rattle.gq_steps.specs.Moves.{run_of}
use Rattle.gq_homes.proofs.Homing.{Starts, starts_none, starts_here, starts_next, starts_all}
use Rattle.gq_homes.proofs.homes.find_homes.Goals as goal

all_same : {X : Type 0} (n i : ℕ) (x : X) → get_or (replicate n x) i x ≡ x
all_same zero i x = refl
all_same (suc n) zero x = refl
all_same (suc n) (suc i) x = all_same n i x

pub loop-number-init : goal.loop-number-init
loop-number-init c =
    let nodes = c.from_vec.ensures ∙ c.in_ok-nodes.ensures.items_if_clones_equal (λ y e. e) in
    let rels = c.from_vec-2.ensures ∙ c.in_ok-rels.ensures.items_if_clones_equal (λ y e. e) in
    subst (λ fs. Starts (run_of c.args.plan_run.now) c.args.groups.now 0 fs (record { nodes = c.from_vec.result; rels = c.from_vec-2.result })) (sym c.new.ensures.items)
    (starts_none (run_of c.args.plan_run.now) c.args.groups.now (record { nodes = c.from_vec.result; rels = c.from_vec-2.result }) c.requires.tiles
    (ap length nodes ∙ length-replicate _ _ ∙ c.len.ensures)
    (ap length rels ∙ length-replicate _ _ ∙ c.len-2.ensures)
    (λ v. ap (λ l. get_or l v node.Nowhere) nodes ∙ all_same _ v node.Nowhere)
    (λ x. ap (λ l. get_or l x rel.Nowhere) rels ∙ all_same _ x rel.Nowhere))

pub house_group-requires-clause-homes : goal.house_group-requires-clause-homes
house_group-requires-clause-homes c =
    starts_here (run_of c.args.plan_run.now) c.args.groups.now c.loop-number.number c.loop-number.housing.fillings.items c.loop-number.housing.homes c.loop-number-test.true c.loop-number.invariant

pub loop-number-preserved : goal.loop-number-preserved
loop-number-preserved c =
    starts_next (run_of c.args.plan_run.now) c.requires.run c.args.groups.now c.loop-number.number c.house_group.new.housing.fillings.items c.house_group.new.housing.homes c.requires.tiles c.loop-number-test.true c.in_ok-house_group.ensures

pub returns : goal.returns
returns c = starts_all (run_of c.args.plan_run.now) c.args.groups.now c.loop-number.number c.loop-number.housing.fillings.items c.loop-number.housing.homes (let over = c.loop-number-test.false in omega (arith, over)) c.loop-number.invariant
