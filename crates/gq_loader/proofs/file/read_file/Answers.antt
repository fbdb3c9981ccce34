use Rattle.std.proofs.Common.{refl}
use Rattle.std.proofs.lemmas.Result.{err_from_is_err_and}
use Rattle.gq_loader.specs.steps.Effects.{told_of}
use Rattle.gq_loader.proofs.Effecting.{choice_failed, file_read, not_there, untouched}
use Rattle.gq_loader.proofs.file.read_file.Goals as goal

pub returns-in_err-named-clause-reads : goal.returns-in_err-named-clause-reads
returns-in_err-named-clause-reads g c =
    let p = err_from_is_err_and c.from_residual.result c.from_residual.ensures.1 in
    untouched _ _ _ (cc (p.1, p.2))

pub returns-in_default-clause-reads : goal.returns-in_default-clause-reads
returns-in_default-clause-reads g c = let s = c.in_default.ensures in choice_failed _ _ _ _ s.held s.cause.later s.cause.failed s.miss.later

pub returns-then-not-found-clause-reads : goal.returns-then-not-found-clause-reads
returns-then-not-found-clause-reads g c =
    let s = rw c.if-not-found.true at c.in-Ok.ensures in
    not_there _ _ _ _ s.held s.cause.kept s.miss.later s.miss.missed

pub returns-in-Ok-Whole-clause-reads : goal.returns-in-Ok-Whole-clause-reads
returns-in-Ok-Whole-clause-reads g c =
    let s = rw c.if-not-found.false at c.in-Ok.ensures in
    let r = c.read_chosen.ensures in
    file_read _ c.args.name.now _ (told_of g.F.Files.held g.F.Files.left g.F.Files.faults g.F.Files.misses c.select.new.self) _ c.read_chosen.result _ s.held s.cause.kept s.miss.later s.chosen
    r.held r.cause r.misses r.read (λ n e. cc) (λ e. cc) (λ n e. cc) (λ n e. cc)

pub returns-in-Ok-TooLong-clause-reads : goal.returns-in-Ok-TooLong-clause-reads
returns-in-Ok-TooLong-clause-reads g c =
    let s = rw c.if-not-found.false at c.in-Ok.ensures in
    let r = c.read_chosen.ensures in
    file_read _ c.args.name.now _ (told_of g.F.Files.held g.F.Files.left g.F.Files.faults g.F.Files.misses c.select.new.self) _ c.read_chosen.result _ s.held s.cause.kept s.miss.later s.chosen
    r.held r.cause r.misses r.read (λ n e. cc) (λ e. cc) (λ n e. cc) (λ n e. cc (c.in_ok-named.ensures, e))

pub returns-in-Err-Failed-clause-reads : goal.returns-in-Err-Failed-clause-reads
returns-in-Err-Failed-clause-reads g c =
    let s = rw c.if-not-found.false at c.in-Ok.ensures in
    let r = c.read_chosen.ensures in
    file_read _ c.args.name.now _ (told_of g.F.Files.held g.F.Files.left g.F.Files.faults g.F.Files.misses c.select.new.self) _ c.read_chosen.result _ s.held s.cause.kept s.miss.later s.chosen
    r.held r.cause r.misses r.read (λ n e. cc) (λ e. (_, refl)) (λ n e. cc) (λ n e. cc)

pub returns-in-Err-Memory-clause-reads : goal.returns-in-Err-Memory-clause-reads
returns-in-Err-Memory-clause-reads g c =
    let s = rw c.if-not-found.false at c.in-Ok.ensures in
    let r = c.read_chosen.ensures in
    file_read _ c.args.name.now _ (told_of g.F.Files.held g.F.Files.left g.F.Files.faults g.F.Files.misses c.select.new.self) _ c.read_chosen.result _ s.held s.cause.kept s.miss.later s.chosen
    r.held r.cause r.misses r.read (λ n e. cc) (λ e. cc) (λ n e. cc) (λ n e. cc)
