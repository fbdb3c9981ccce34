use Rattle.std.proofs.Common.{◌++◌, List, ℕ, ap, flat_map, ◌∙◌}
use Rattle.gq_plan.specs.declared.bound.NamedExpr.{NamedExpr}
use Rattle.gq_render.specs.Texts.{after_tab, name_text}
use Rattle.gq_render.proofs.Sequence.{first_broke, puts_then}
use Rattle.gq_render.proofs.Tabs.{first_text, others}
use Rattle.gq_render.proofs.listing.put_names.Goals as goal

abbrev behind : List NamedExpr → List ℕ
behind columns = flat_map (λ c. after_tab (name_text c.name)) (others columns)

pub returns-in_err-put_name-clause-bytes : goal.returns-in_err-put_name-clause-bytes
returns-in_err-put_name-clause-bytes g c =
    first_broke _ _ _ _ _ _ _ (behind c.args.columns.now) _ _ _ _ c.put_name.ensures.bytes c.in_err-put_name.was c.from_residual.ensures.1
    (ap (λ n. name_text n ++ behind c.args.columns.now) c.as_str.ensures.bytes ∙ first_text name_text (λ c. c.name) c.args.columns.now _ _ c.in-len1-up.len_at_least c.first-item.is)

pub returns-clause-bytes : goal.returns-clause-bytes
returns-clause-bytes g c =
    puts_then _ _ _ _ _ _ _ _ _ _ c.in_ok-put_name.ensures.bytes c.put_other_names.ensures.bytes
    (ap (λ n. name_text n ++ behind c.args.columns.now) c.as_str.ensures.bytes ∙ first_text name_text (λ c. c.name) c.args.columns.now _ _ c.in-len1-up.len_at_least c.first-item.is)
