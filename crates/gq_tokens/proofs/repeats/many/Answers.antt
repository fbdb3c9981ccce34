use Rattle.std.proofs.Common.{rules}
use Rattle.std.proofs.lemmas.Result.{err_from_is_err_and}
use Rattle.gq_tokens.specs.Readers.{many}
use Rattle.gq_tokens.proofs.Loops.{all_read, item_fails, item_read, none_read, starts}
use Rattle.gq_tokens.proofs.repeats.many.Goals as goal

pub loop-turn-init : goal.loop-turn-init
loop-turn-init g c = λ read items.
    starts (g.L.Lead.test c.args.lead) read c.args.tokens.now c.new-found.result _
    c.new-found.ensures (search rules)

pub returns-in_default : goal.returns-in_default
returns-in_default g c = λ read items.
    let f = g.L.Lead.test c.args.lead in
    none_read f read c.loop-turn.tokens c.loop-turn.found _ c.loop-turn._turn
    (many f read c.args.tokens.now) (c.loop-turn.invariant read items) c.loop-turn-test.true
    c.take.new.tokens c.in_default.ensures.taken c.in_default.ensures.left

pub returns-in_err-next : goal.returns-in_err-next
returns-in_err-next g c = λ read items.
    let f = g.L.Lead.test c.args.lead in
    let e = err_from_is_err_and c.from_residual.result c.from_residual.ensures.1 in
    rw (e.1, e.2) (item_fails f read c.loop-turn.tokens c.loop-turn.found _ c.loop-turn._turn
    (many f read c.args.tokens.now) (c.loop-turn.invariant read items) c.loop-turn-test.true
    c.in-Some.opening c.take.new.tokens c.in-Some.ensures.taken c.in-Some.ensures.left
    c.in_err-next.field-0.0 c.item.new.arg2 (items _ _ _ _ c.in_err-next.ensures))

pub loop-turn-preserved : goal.loop-turn-preserved
loop-turn-preserved g c = λ read items.
    let f = g.L.Lead.test c.args.lead in
    item_read f read c.loop-turn.tokens c.loop-turn.found _ c.loop-turn._turn
    (many f read c.args.tokens.now) (c.loop-turn.invariant read items) c.loop-turn-test.true
    c.in-Some.opening c.take.new.tokens c.in-Some.ensures.taken c.in-Some.ensures.left
    c.in_ok-next.next c.item.new.arg2 c.push.new.self (items _ _ _ _ c.in_ok-next.ensures)
    c.in_ok-push.ensures.pushed

pub returns : goal.returns
returns g c = λ read items.
    let f = g.L.Lead.test c.args.lead in
    all_read f read c.loop-turn.tokens c.loop-turn.found _ c.loop-turn._turn
    (many f read c.args.tokens.now) (c.loop-turn.invariant read items) c.loop-turn-test.false
