use Rattle.std.proofs.Common.{◌+◌, ◌++◌, drop, flat_map, ap, ◌∙◌, List, ℕ, ◌≡◌, ◌<◌, length, take, get_or}
use Rattle.gq_base.proofs.ListFacts.{flat_map_next, flat_map_split}
use Rattle.gq_plan.specs.declared.bound.NamedExpr.{NamedExpr}
use Rattle.gq_render.specs.Texts.{after_tab, name_text}
use Rattle.gq_render.proofs.Sequence.{next_broke, put_then}
use Rattle.gq_render.proofs.listing.put_other_names.Goals as goal

abbrev piece : NamedExpr → List ℕ
piece column = after_tab (name_text column.name)

next : (columns : List NamedExpr) (at : ℕ) (column : NamedExpr) (name : List ℕ) → at < length columns → column ≡ get_or columns at column → name ≡ column.name
    → flat_map piece (take at columns) ++ after_tab (name_text name) ≡ flat_map piece (take (at + 1) columns)
next columns at column name h is same = ap (λ n. flat_map piece (take at columns) ++ after_tab (name_text n)) same ∙ flat_map_next piece columns at column column h is

pub returns-in_err-put_next_name-clause-bytes : goal.returns-in_err-put_next_name-clause-bytes
returns-in_err-put_next_name-clause-bytes g c =
    let rest = flat_map piece (drop (c.loop-column.column-index + 1) c.args.columns.now) in
    next_broke _ _ _ _ _ _ _ _ _ _ rest _ _ _ _ c.loop-column.invariant.0 c.put_next_name.ensures.bytes c.in_err-put_next_name.was c.from_residual.ensures.1
    (ap (λ l. l ++ rest) (next c.args.columns.now _ _ _ c.loop-column-test.true c.column-item.is c.as_str.ensures.bytes) ∙ flat_map_split piece c.args.columns.now (c.loop-column.column-index + 1))

pub loop-column-preserved : goal.loop-column-preserved
loop-column-preserved g c = (
  put_then _ _ _ _ _ _ _ _ _ c.loop-column.invariant.0 c.in_ok-put_next_name.ensures.bytes (next c.args.columns.now _ _ _ c.loop-column-test.true c.column-item.is c.as_str.ensures.bytes),
  c.in_ok-put_next_name.ensures.cause.kept ∙ c.loop-column.invariant.1,
)
