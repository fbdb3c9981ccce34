use Rattle.std.proofs.Common.{◌∙◌, sym, ap, arith}
use Rattle.std.specs.Prelude.{slice_get}
use Rattle.std.proofs.lemmas.Bool.Decides.{nat_tests}
use Rattle.gq_hops.proofs.Hopping.{near_past, near_followed, near_unfollowed, row_within, within}
use Rattle.gq_hops.proofs.follow.near_of.Goals as goal

pub near_at-requires-clause-within : goal.near_at-requires-clause-within
near_at-requires-clause-within c =
    let f = c.args.follow.now in
    within f.graph.now f.kind.now f.way c.args.at c.args.table c.in-Some.followed (ap (λ l. slice_get l c.args.table) (sym c.requires.tables) ∙ sym c.table_at.ensures ∙ c.in-Some.is)

pub near_at-requires-clause-row : goal.near_at-requires-clause-row
near_at-requires-clause-row c =
    let f = c.args.follow.now in
    let same = c.if-followed-at.true in
    row_within f.graph.now f.kind.now f.way c.args.at c.args.table c.in-Some.followed (ap (λ l. slice_get l c.args.table) (sym c.requires.tables) ∙ sym c.table_at.ensures ∙ c.in-Some.is) (grind (arith, nat_tests, same)) c.requires.node

pub returns-in-None : goal.returns-in-None
returns-in-None c =
    let f = c.args.follow.now in
    near_past f.graph.now f.kind.now f.way c.args.at c.args.table (ap (λ l. slice_get l c.args.table) (sym c.requires.tables) ∙ sym c.table_at.ensures ∙ c.in-None.is)

pub returns-then-followed-at : goal.returns-then-followed-at
returns-then-followed-at c =
    let f = c.args.follow.now in
    let same = c.if-followed-at.true in
    near_followed f.graph.now f.kind.now f.way c.args.at c.args.table c.in-Some.followed (ap (λ l. slice_get l c.args.table) (sym c.requires.tables) ∙ sym c.table_at.ensures ∙ c.in-Some.is) (grind (arith, nat_tests, same))
    c.near_at.result c.near_at.ensures.rows c.near_at.ensures.few c.near_at.ensures.ends

pub returns-else-followed-at : goal.returns-else-followed-at
returns-else-followed-at c =
    let f = c.args.follow.now in
    let other = c.if-followed-at.false in
    near_unfollowed f.graph.now f.kind.now f.way c.args.at c.args.table c.in-Some.followed (ap (λ l. slice_get l c.args.table) (sym c.requires.tables) ∙ sym c.table_at.ensures ∙ c.in-Some.is) (grind (arith, nat_tests, other))
