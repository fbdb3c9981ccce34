use Rattle.std.proofs.Common.{◌∙◌, length, refl, sym, ap, subst, arith}
use Rattle.gq_trails.specs.steps.Chained.{AllGoOn, rels_first}
use Rattle.gq_trails.proofs.Behind.{can_set, few_set, first_on, found_behind, low_set, out_behind, set_behind}
use Rattle.gq_trails.proofs.chain.go_behind.Goals as goal

pub rows-init : goal.rows-init
rows-init c = record { way = first_on c.args.rels.now c.args.begun c.args.trails.now c.args.ends.now.items c.requires.chain; nodes = refl; rels = refl }

pub go_on-requires-clause-low : goal.go_on-requires-clause-low
go_on-requires-clause-low c = let some = c.rows.invariant.way.chain.some in omega (arith, some)

pub go_on-requires-clause-few : goal.go_on-requires-clause-few
go_on-requires-clause-few c b = (c.rows.invariant.way.chain.state b).few

pub go_on-requires-clause-stands : goal.go_on-requires-clause-stands
go_on-requires-clause-stands c b = (c.rows.invariant.way.chain.state b).stands

pub go_on-requires-clause-all : goal.go_on-requires-clause-all
go_on-requires-clause-all c = c.rows.invariant.way.chain.all

pub go_on-requires-clause-goes : goal.go_on-requires-clause-goes
go_on-requires-clause-goes c b e rest is = subst (λ l. AllGoOn c.rows.trails.graph (rels_first l) l) is (c.rows.invariant.way.chain.state b).goes

pub go_on-requires-clause-nodes : goal.go_on-requires-clause-nodes
go_on-requires-clause-nodes c = c.rows.invariant.nodes ∙ c.requires.nodes ∙ sym c.rows.invariant.way.same.nodes

pub go_on-requires-clause-rels : goal.go_on-requires-clause-rels
go_on-requires-clause-rels c = c.rows.invariant.rels ∙ c.requires.rels ∙ sym c.rows.invariant.way.same.rels

pub returns-then-go_on-clause-gone : goal.returns-then-go_on-clause-gone
returns-then-go_on-clause-gone c = found_behind c.rows.invariant.way c.go_on.ensures.gone c.if-go_on.true

pub returns-then-not-advance-clause-gone : goal.returns-then-not-advance-clause-gone
returns-then-not-advance-clause-gone c =
    let gone = c.advance.ensures in
    let end = c.if-not-advance.true in
    out_behind c.rows.invariant.way c.go_on.ensures.gone c.if-go_on.false c.advance.new.self gone.graph gone.parts gone.nodes gone.rels (gone.none end) (gone.over end)

pub base-requires : goal.base-requires
base-requires c = c.advance.ensures.stands c.if-not-advance.false

-- ---- they begin where the walks went on to

pub set_out-requires-clause-low : goal.set_out-requires-clause-low
set_out-requires-clause-low c =
    let gone = c.advance.ensures in
    let more = c.if-not-advance.false in
    low_set c.rows.invariant.way c.go_on.ensures.gone c.if-go_on.false c.advance.new.self gone.graph gone.parts gone.nodes gone.rels (gone.next more) (gone.stands more)
    c.base.result.now c.base.ensures.row c.base.ensures.nodes

pub set_out-requires-clause-can : goal.set_out-requires-clause-can
set_out-requires-clause-can c =
    let gone = c.advance.ensures in
    let more = c.if-not-advance.false in
    can_set c.rows.invariant.way c.go_on.ensures.gone c.if-go_on.false c.advance.new.self gone.graph gone.parts gone.nodes gone.rels (gone.next more) (gone.stands more)
    c.base.result.now c.base.ensures.row c.base.ensures.nodes c.base.ensures.rels

pub set_out-requires-clause-few : goal.set_out-requires-clause-few
set_out-requires-clause-few c =
    let gone = c.advance.ensures in
    let more = c.if-not-advance.false in
    few_set c.rows.invariant.way c.go_on.ensures.gone c.if-go_on.false c.advance.new.self gone.graph gone.parts gone.nodes gone.rels (gone.next more) (gone.stands more)
    c.base.result.now c.base.ensures.row c.base.ensures.nodes

pub set_out-requires-clause-stands : goal.set_out-requires-clause-stands
set_out-requires-clause-stands c = c.advance.ensures.stands c.if-not-advance.false

pub rows-preserved : goal.rows-preserved
rows-preserved c =
    let gone = c.advance.ensures in
    let more = c.if-not-advance.false in
    record {
      way = set_behind c.rows.invariant.way c.go_on.ensures.gone c.if-go_on.false c.advance.new.self gone.graph gone.parts gone.nodes gone.rels (gone.next more) (gone.stands more)
          c.base.result.now c.base.ensures.row c.base.ensures.nodes c.set_out.new.ends.items c.set_out.ensures;
      nodes = c.go_on.ensures.nodes ∙ c.rows.invariant.nodes;
      rels = c.go_on.ensures.rels ∙ c.rows.invariant.rels;
    }

pub rows-smaller : goal.rows-smaller
rows-smaller c =
    let more = ap length (c.advance.ensures.next c.if-not-advance.false) in
    omega (arith, more)
