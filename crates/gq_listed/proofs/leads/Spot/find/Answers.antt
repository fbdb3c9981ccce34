use Rattle.std.proofs.Common.{subst}
use Rattle.gq_group.specs.declared.home.NodeHome.TheVariants as home
use Rattle.gq_listed.specs.Leads.{IsLedBy, here_at}
use Rattle.gq_listed.proofs.Leading.{item_stands, node_is}
use Rattle.gq_listed.proofs.leads.Spot.find.Goals as goal

pub item-requires-clause-group : goal.item-requires-clause-group
item-requires-clause-group c =
    let s = c.args.self.now in
    let w = c.args.finder.now.way in
    let led = subst (IsLedBy s.graph.now s.typed.now s.chunk.now w) c.in-Item.is c.requires.led in
    item_stands s.chunk.now w c.in-Item.group c.requires.spot.chunk.chunk led.1

pub returns-in-Item : goal.returns-in-Item
returns-in-Item c =
    let s = c.args.self.now in
    let w = c.args.finder.now.way in
    let led = subst (IsLedBy s.graph.now s.typed.now s.chunk.now w) c.in-Item.is c.requires.led in
    c.found_within.ensures s.graph.now (here_at s) (node_is s.graph.now s.typed.now s.chunk.now s.positions.now w (home.Item c.in-Item.group) c.item.result led.0 led.1 c.item.ensures)

pub returns-in-Held : goal.returns-in-Held
returns-in-Held c =
    let s = c.args.self.now in
    subst (IsLedBy s.graph.now s.typed.now s.chunk.now c.args.finder.now.way) c.in-Held.is c.requires.led s.positions.now c.requires.spot.selected

pub find_home-requires-clause-table : goal.find_home-requires-clause-table
find_home-requires-clause-table c =
    let s = c.args.self.now in
    subst (IsLedBy s.graph.now s.typed.now s.chunk.now c.args.finder.now.way) c.in-Home.is c.requires.led

pub find_edge-requires-clause-table : goal.find_edge-requires-clause-table
find_edge-requires-clause-table c =
    let s = c.args.self.now in
    subst (IsLedBy s.graph.now s.typed.now s.chunk.now c.args.finder.now.way) c.in-Edge.is c.requires.led
