use Rattle.std.proofs.Common.{All, subst, sym}
use Rattle.std.proofs.lemmas.Result.{err_from_is_err_and}
use Rattle.gq_binder.proofs.Checked.{accepted, parts_whole, refused_last}
use Rattle.gq_bound.proofs.OwnBound.{core_whole}
use Rattle.gq_bound.proofs.TestLemmas.{IsWholeTest}
use Rattle.gq_bound.specs.declared.parts.QueryParts.{QueryParts}
use Rattle.gq_syntax.proofs.Whole.{spelled_stands}
use Rattle.gq_binder.proofs.bound.bind_cored.Goals as goal

pub check_last-requires : goal.check_last-requires
check_last-requires c =
    subst (λ (ps : QueryParts). All (IsWholeTest c.args.text.now) ps.exists) (sym c.requires.parts)
    (parts_whole c.args.text.now c.args.query.now (spelled_stands c.args.text.now c.args.query.now c.requires.spelled))

pub returns-in_err-all : goal.returns-in_err-all
returns-in_err-all c =
    let p = err_from_is_err_and c.from_residual.result c.from_residual.ensures.1 in
    rw (p.1, p.2) (refused_last c.args.query.now c.args.text.now c.args.catalog.now c.args.parts.now c.requires.parts c.requires.passed c.args.core.now c.requires.core c.in_err-all.field-0.0 c.in_err-all.ensures.passed)

pub bound_by-requires-clause-whole : goal.bound_by-requires-clause-whole
bound_by-requires-clause-whole c =
    core_whole c.args.text.now c.args.query.now c.args.core.now (spelled_stands c.args.text.now c.args.query.now c.requires.spelled) c.requires.core

pub returns : goal.returns
returns c =
    rw c.in_ok-bound_by.ensures
    (accepted c.args.query.now c.args.text.now c.args.catalog.now c.args.parts.now c.requires.parts c.requires.passed c.args.core.now c.requires.core
    c.in_ok-all.all.choices c.requires.spelled c.in_ok-all.ensures.passed c.in_ok-all.ensures.choices)
