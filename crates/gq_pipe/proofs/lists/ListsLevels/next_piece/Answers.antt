use Rattle.std.proofs.Common.{◌+◌, List, Option, length, sym, subst, arith}
use Rattle.std.proofs.lemmas.List.{get_or_default}
use Rattle.gq_steps.specs.Groups.{group_at, no_group}
use Rattle.gq_steps.specs.Moves.{run_of}
use Rattle.gq_steps.proofs.Here.{group_size}
use Rattle.gq_steps.proofs.Standings.{stands_at}
use Rattle.gq_pipe.specs.declared.valued.ValueIndex.{ValueIndex}
use Rattle.gq_pipe.specs.steps.Valued.{AreIndexed}
use Rattle.gq_pipe.proofs.Indexing.{passed_blank}
use Rattle.gq_pipe.proofs.Matching.{group_matches}
use Rattle.gq_pipe.proofs.lists.ListsLevels.next_piece.Goals as goal

pub returns-in-Some-clause-later : goal.returns-in-Some-clause-later
returns-in-Some-clause-later c = c.next_piece.ensures.later

pub returns-in-Some-clause-blank : goal.returns-in-Some-clause-blank
returns-in-Some-clause-blank c = λ pre long st.
    let found = get_or_default c.args.self.now.groups.items c.args.depth no_group (group_at c.args.self.now.groups.items c.args.depth) c.requires.inside in
    let asked = group_size (run_of c.args.self.now.plan_run) c.args.self.now.groups.items c.args.self.now.row c.args.depth c.requires.inside (group_at c.args.self.now.groups.items c.args.depth) found c.requires.opened.0 c.requires.opened.1
    (stands_at (run_of c.args.self.now.plan_run) c.args.self.now.groups.items c.args.self.now.row c.args.depth c.requires.inside c.requires.opened.0 c.requires.opened.1 c.requires.opened.2.stand) in
    let own = group_size (run_of c.args.self.now.plan_run) c.args.self.now.groups.items c.args.self.now.row c.args.depth c.requires.inside (group_at c.args.self.now.groups.items c.args.depth) found pre long
    (stands_at (run_of c.args.self.now.plan_run) c.args.self.now.groups.items c.args.self.now.row c.args.depth c.requires.inside pre long st.stand) in
    let matched = group_matches (run_of c.args.self.now.plan_run) c.args.self.now.groups.items c.args.self.now.row c.args.depth c.requires.inside (group_at c.args.self.now.groups.items c.args.depth) found c.args.self.now.matches.items (length pre + 1) (omega (arith, long)) st.matches c.index-matches.result.now c.index-matches.ensures in
    let told = c.requires.opened.3 in
    let fits = c.ranges.size.fits in
    passed_blank (run_of c.args.self.now.plan_run) c.args.self.now.groups.items c.args.self.now.row c.as_slice.result.now
    (subst (λ (ts : List (Option ValueIndex)). ∥ AreIndexed (run_of c.args.self.now.plan_run) c.args.self.now.groups.items ts ∥₁) (sym c.as_slice.ensures.value) c.args.self.now.indexed)
    c.args.depth c.requires.inside (group_at c.args.self.now.groups.items c.args.depth) found pre long
    (stands_at (run_of c.args.self.now.plan_run) c.args.self.now.groups.items c.args.self.now.row c.args.depth c.requires.inside pre long st.stand) c.in-Some.index.now c.in-Some.ensures.there c.in-Some.ensures.stands
    c.index-matches.result.now.now matched c.args.piece c.next_piece.result (omega (arith, fits, told, asked, own)) c.next_piece.ensures
