use Rattle.std.proofs.Common.{◌≡◌, ◌∙◌, ◌+◌, List, length, sym, ap, subst, arith}
use Rattle.std.proofs.lemmas.List.Sorted.{IsPermutation-map}
use Rattle.gq_plan.specs.Meaning.{meaning, whole}
use Rattle.gq_homes.specs.Cuts.{IsCutTo}
use Rattle.gq_homes.specs.Homes.{AreHomes}
use Rattle.gq_law_groups.specs.Order.{AreCut}
use Rattle.gq_steps.specs.Groups.{Tiles, groups_in}
use Rattle.gq_steps.specs.Moves.{run_of}
use Rattle.gq_steps.proofs.Here.{told_at}
use Rattle.gq_steps.proofs.Trying.{as_many_steps}
use Rattle.gq_pipe.specs.steps.Recalled.{AreTold}
use Rattle.gq_pipe.specs.steps.Search.{has_chunk, rest_of}
use Rattle.gq_pipe.specs.declared.pipeline.Pipeline.TheInside.{Inside}
use Rattle.gq_steps.specs.declared.group_steps.GroupSteps.{GroupSteps}
use Rattle.gq_pipe.proofs.Resting.{chunk_first, none_standing, rest_keys, search_first, stands_first}
use Rattle.gq_pipe.proofs.Starting.{columns_held, count_given, first_run, given_run, grouped_run, owed_start, run, runs_plan}
use Rattle.gq_pipe.proofs.Slots.{taken_back}
use Rattle.gq_pool.specs.Pool.{Pool, spare_of}
use Rattle.gq_pool.specs.Slots.{all_freed}
use Rattle.gq_pipe.proofs.Indexing.{indexed_of}
use Rattle.gq_pipe.proofs.Recalling.{remembered_of}
use Rattle.gq_pipe.proofs.Telling.{told_of}
use Rattle.gq_pipe.proofs.pipeline.begin.Goals as goal
use Rattle.gq_pipe.proofs.pipeline.begin.Goals.{In_ok-groups}

pub cut_groups-requires-clause-run : goal.cut_groups-requires-clause-run
cut_groups-requires-clause-run c =
    run c.args.plan_run c.args.plan.now c.args.lent.now c.args.arrangement.now.order c.args.arrangement.now.flat c.requires.started

pub cut_groups-requires-clause-begins : goal.cut_groups-requires-clause-begins
cut_groups-requires-clause-begins c = λ some.
    first_run c.args.plan_run c.args.plan.now c.args.lent.now c.args.arrangement.now.order c.args.arrangement.now.flat c.requires.started (omega (arith, some, as_many_steps c.args.plan_run))

-- the groups are cut from what runs
cut : (c : In_ok-groups) → IsCutTo (run_of c.args.plan_run) c.args.arrangement.now.flat c.in_ok-groups.groups.items (length (run_of c.args.plan_run).steps)
cut c = subst (λ flat. IsCutTo (run_of c.args.plan_run) flat c.in_ok-groups.groups.items (length (run_of c.args.plan_run).steps)) c.as_slice-flat.ensures c.in_ok-groups.ensures

pub owes_some-owes-requires : goal.owes_some-owes-requires
owes_some-owes-requires c =
    run c.args.plan_run c.args.plan.now c.args.lent.now c.args.arrangement.now.order c.args.arrangement.now.flat c.requires.started

pub find_homes-requires-clause-run : goal.find_homes-requires-clause-run
find_homes-requires-clause-run c =
    run c.args.plan_run c.args.plan.now c.args.lent.now c.args.arrangement.now.order c.args.arrangement.now.flat c.requires.started

pub find_homes-requires-clause-tiles : goal.find_homes-requires-clause-tiles
find_homes-requires-clause-tiles c =
    let k = c.args.plan_run in
    subst (Tiles (run_of k) 0) (sym c.as_slice.ensures.value)
    (grouped_run k c.args.plan.now c.args.lent.now c.args.arrangement.now.order c.args.arrangement.now.flat c.requires.started
    c.in_ok-groups.groups.items (cut (goal.at.find_homes-requires-clause-tiles c).In_ok-groups)).tiles

pub find_homes-requires-clause-cut : goal.find_homes-requires-clause-cut
find_homes-requires-clause-cut c =
    let k = c.args.plan_run in
    subst (λ gs. AreCut (groups_in (run_of k) gs)) (sym c.as_slice.ensures.value)
    (grouped_run k c.args.plan.now c.args.lent.now c.args.arrangement.now.order c.args.arrangement.now.flat c.requires.started
    c.in_ok-groups.groups.items (cut (goal.at.find_homes-requires-clause-cut c).In_ok-groups)).cut

pub aheads-aheads-requires : goal.aheads-aheads-requires
aheads-aheads-requires c =
    run c.args.plan_run c.args.plan.now c.args.lent.now c.args.arrangement.now.order c.args.arrangement.now.flat c.requires.started

pub value_indexes-indexes-requires : goal.value_indexes-indexes-requires
value_indexes-indexes-requires c =
    run c.args.plan_run c.args.plan.now c.args.lent.now c.args.arrangement.now.order c.args.arrangement.now.flat c.requires.started

pub remembered-remembered-requires-clause-run : goal.remembered-remembered-requires-clause-run
remembered-remembered-requires-clause-run c =
    run c.args.plan_run c.args.plan.now c.args.lent.now c.args.arrangement.now.order c.args.arrangement.now.flat c.requires.started

pub remembered-remembered-requires-clause-told : goal.remembered-remembered-requires-clause-told
remembered-remembered-requires-clause-told c =
    let k = c.args.plan_run in
    subst (AreTold (run_of k)) (sym c.as_slice-4.ensures.value)
    (told_at (run_of k) c.in_ok-groups.groups.items
    (grouped_run k c.args.plan.now c.args.lent.now c.args.arrangement.now.order c.args.arrangement.now.flat c.requires.started
    c.in_ok-groups.groups.items (cut (goal.at.remembered-remembered-requires-clause-told c).In_ok-groups)))

pub invariant_of-result : goal.invariant_of-result
invariant_of-result c =
    let k = c.args.plan_run in
    record { told = told_of (run_of k) c.in_ok-groups.groups.items c.as_slice-2.result.now c.aheads-aheads.result.items c.as_slice-2.ensures.value c.aheads-aheads.ensures; indexed = indexed_of (run_of k) c.in_ok-groups.groups.items c.as_slice-3.result.now c.value_indexes-indexes.result.items c.as_slice-3.ensures.value c.value_indexes-indexes.ensures; recalls = remembered_of (run_of k) c.in_ok-groups.groups.items c.as_slice-4.result.now c.remembered-remembered.result.items c.as_slice-4.ensures.value c.remembered-remembered.ensures }

pub invariant_of-result-2 : goal.invariant_of-result-2
invariant_of-result-2 c =
    let every = cut (goal.at.invariant_of-result-2 c).In_ok-groups in
    let k = c.args.plan_run in
    let p = c.args.plan.now in
    let os = c.args.lent.now in
    let order = c.args.arrangement.now.order in
    let flat = c.args.arrangement.now.flat in
    let gs = c.in_ok-groups.groups.items in
    let s = c.requires.started in
    let told = c.take_many-taken.ensures.answer.1 (omega (arith, c.requires.room, c.columns-held.ensures.value)) in
    let many = c.take_many-taken.ensures.count told in
    let begun : Inside = record { lists = record { plan_run = k; groups = c.in_ok-groups.groups; matches = c.in_ok-matches.matches; row = c.in_ok-row.row; aheads = c.aheads-aheads.result; indexes = c.value_indexes-indexes.result; remembered = c.remembered-remembered.result; told = c.result-1.given.0; indexed = c.result-1.given.1.0; recalls = c.result-1.given.1.1.0 }; walker = c.in_ok-walker.walker; lent = c.args.lent; housing = c.in_ok-housing.housing; groups = c.in_ok-chunk_groups.chunk_groups; slots = c.take_many-taken.new.list; columns = c.columns-held.result; chunks = 0 } in
    let homes = subst (λ (gs : List GroupSteps). AreHomes (run_of k) gs (length gs) (length (run_of k).steps) c.in_ok-housing.housing.fillings.items c.in_ok-housing.housing.homes) c.as_slice.ensures.value c.in_ok-housing.ensures in
    search_first begun (runs_plan k p os order flat s) (given_run k p os order flat s gs every) many
    (let few = columns_held k p os order flat s gs (length gs) c.in_ok-housing.housing.fillings.items c.in_ok-housing.housing.homes c.columns-held.result c.columns-held.ensures.value homes in omega (arith, few, many))
    (chunk_first begun c.owes_some-owes.result c.in_ok-walker.ensures.state (let low = c.if-len.false in omega (arith, low, c.len.ensures, c.in_ok-groups.groups.ok.0))
    (c.in_ok-chunk_groups.ensures ∙ c.len-group_count.ensures ∙ c.in_ok-groups.groups.ok.0) homes)
    c.owes_some-owes.result c.in_ok-walker.ensures.state
    (c.in_ok-walker.ensures.cursors ∙ c.len-group_count.ensures ∙ c.in_ok-groups.groups.ok.0)
    (c.in_ok-walker.ensures.marks ∙ c.len-group_count.ensures ∙ c.in_ok-groups.groups.ok.0)
    (stands_first (run_of k) gs c.in_ok-row.row (run k p os order flat s) (grouped_run k p os order flat s gs every) c.in_ok-row.ensures.nodes c.in_ok-row.ensures.rels)
    (c.in_ok-matches.ensures ∙ c.len-group_count.ensures ∙ c.in_ok-groups.groups.ok.0)

pub returns-clause-owed : goal.returns-clause-owed
returns-clause-owed c =
    let k = c.args.plan_run in
    owed_start k c.args.plan.now c.args.lent.now c.args.arrangement.now.order c.args.arrangement.now.flat c.requires.started
    c.in_ok-groups.groups.items (cut (goal.at.returns-clause-owed c).In_ok-groups)
    c.owes_some-owes.result c.in_ok-row.row c.in_ok-walker.walker.cursors.items c.in_ok-walker.walker.state c.len-group_count.result c.in_ok-walker.ensures.state (c.len-group_count.ensures ∙ c.in_ok-groups.groups.ok.0) c.owes_some-owes.ensures

pub returns-clause-meaning : goal.returns-clause-meaning
unfolding meaning
returns-clause-meaning c =
    let k = c.args.plan_run in
    IsPermutation-map (whole c.args.plan_run.typed.now) _ _
    (owed_start k c.args.plan.now c.args.lent.now c.args.arrangement.now.order c.args.arrangement.now.flat c.requires.started
    c.in_ok-groups.groups.items (cut (goal.at.returns-clause-meaning c).In_ok-groups)
    c.owes_some-owes.result c.in_ok-row.row c.in_ok-walker.walker.cursors.items c.in_ok-walker.walker.state c.len-group_count.result c.in_ok-walker.ensures.state (c.len-group_count.ensures ∙ c.in_ok-groups.groups.ok.0) c.owes_some-owes.ensures)

pub returns-clause-keys : goal.returns-clause-keys
returns-clause-keys c =
    let k = c.args.plan_run in
    let begun : Inside = record { lists = record { plan_run = k; groups = c.in_ok-groups.groups; matches = c.in_ok-matches.matches; row = c.in_ok-row.row; aheads = c.aheads-aheads.result; indexes = c.value_indexes-indexes.result; remembered = c.remembered-remembered.result; told = told_of (run_of k) c.in_ok-groups.groups.items c.as_slice-2.result.now c.aheads-aheads.result.items c.as_slice-2.ensures.value c.aheads-aheads.ensures; indexed = indexed_of (run_of k) c.in_ok-groups.groups.items c.as_slice-3.result.now c.value_indexes-indexes.result.items c.as_slice-3.ensures.value c.value_indexes-indexes.ensures; recalls = remembered_of (run_of k) c.in_ok-groups.groups.items c.as_slice-4.result.now c.remembered-remembered.result.items c.as_slice-4.ensures.value c.remembered-remembered.ensures }; walker = c.in_ok-walker.walker; lent = c.args.lent; housing = c.in_ok-housing.housing; groups = c.in_ok-chunk_groups.chunk_groups; slots = c.take_many-taken.new.list; columns = c.columns-held.result; chunks = 0 } in
    rest_keys begun
    (given_run k c.args.plan.now c.args.lent.now c.args.arrangement.now.order c.args.arrangement.now.flat c.requires.started
    c.in_ok-groups.groups.items (cut (goal.at.returns-clause-keys c).In_ok-groups))

pub returns-clause-count : goal.returns-clause-count
returns-clause-count c =
    let k = c.args.plan_run in
    let begun : Inside = record { lists = record { plan_run = k; groups = c.in_ok-groups.groups; matches = c.in_ok-matches.matches; row = c.in_ok-row.row; aheads = c.aheads-aheads.result; indexes = c.value_indexes-indexes.result; remembered = c.remembered-remembered.result; told = told_of (run_of k) c.in_ok-groups.groups.items c.as_slice-2.result.now c.aheads-aheads.result.items c.as_slice-2.ensures.value c.aheads-aheads.ensures; indexed = indexed_of (run_of k) c.in_ok-groups.groups.items c.as_slice-3.result.now c.value_indexes-indexes.result.items c.as_slice-3.ensures.value c.value_indexes-indexes.ensures; recalls = remembered_of (run_of k) c.in_ok-groups.groups.items c.as_slice-4.result.now c.remembered-remembered.result.items c.as_slice-4.ensures.value c.remembered-remembered.ensures }; walker = c.in_ok-walker.walker; lent = c.args.lent; housing = c.in_ok-housing.housing; groups = c.in_ok-chunk_groups.chunk_groups; slots = c.take_many-taken.new.list; columns = c.columns-held.result; chunks = 0 } in
    let s = c.requires.started in
    let p = c.args.plan.now in
    let os = c.args.lent.now in
    let order = c.args.arrangement.now.order in
    let flat = c.args.arrangement.now.flat in
    let gs = c.in_ok-groups.groups.items in
    count_given k p os order flat s os (rest_of begun).keys (rest_of begun).owed
    (owed_start k p os order flat s gs (cut (goal.at.returns-clause-count c).In_ok-groups)
    c.owes_some-owes.result c.in_ok-row.row c.in_ok-walker.walker.cursors.items c.in_ok-walker.walker.state c.len-group_count.result c.in_ok-walker.ensures.state (c.len-group_count.ensures ∙ c.in_ok-groups.groups.ok.0) c.owes_some-owes.ensures)
    (rest_keys begun (given_run k p os order flat s gs (cut (goal.at.returns-clause-count c).In_ok-groups)))

pub returns-clause-fresh : goal.returns-clause-fresh
returns-clause-fresh c = ap has_chunk c.in_ok-walker.ensures.state ∙ none_standing c.owes_some-owes.result

pub returns-clause-source : goal.returns-clause-source
returns-clause-source c = ap (λ ss. record { graph = c.args.plan_run.graph.now; typed = c.args.plan_run.typed.now; steps = ss; builds = c.args.lent.now }) c.requires.started.plan

pub returns-clause-back : goal.returns-clause-back
returns-clause-back c =
    let taken = c.take_many-taken.ensures in
    let told = taken.answer.1 (omega (arith, c.requires.room, c.columns-held.ensures.value)) in
    let slots = c.take_many-taken.new.list.numbers in
    subst (λ (q : Pool). (all_freed q slots).out ≡ c.args.pool.now.out) (sym (taken.takes told))
    (taken_back c.args.pool.now slots (subst (λ (q : Pool). spare_of q + length slots ≡ spare_of c.args.pool.now) (taken.takes told) (omega (arith, taken.count told, taken.spare told))))
