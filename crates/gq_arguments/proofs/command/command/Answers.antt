use Rattle.std.proofs.Common.{ap, ap₂, codes, ◌≡◌, ◌∙◌}
use Rattle.std.specs.Prelude.{pos}
use Rattle.std.proofs.lemmas.Result.{IfOk-weaker}
use Rattle.clap.specs.Words.{app_of, new_app, with_rule}
use Rattle.clap.specs.declared.builder.value_parser.ValueParser.TheVariants as vp
use Rattle.gq_arguments.specs.Command.{option_rule}
use Rattle.gq_arguments.proofs.Parts.{no_help, no_version, without_help, without_version}
use Rattle.gq_arguments.proofs.command.command.Goals as goal

pub returns : goal.returns
returns c =
    let count : c.range-count.result ≡ vp.Signed (pos 1) (pos 1000000) = rw (c.value_parser.ensures, c.new.ensures.start, c.new.ensures.end) at c.range-count.ensures in
    let limit : c.range-limit.result ≡ vp.Signed (pos 1) (pos 16777216) = rw (c.value_parser-2.ensures, c.new-2.ensures.start, c.new-2.ensures.end) at c.range-limit.ensures in
    let bare : app_of c.disable_version_flag.result ≡ without_version (without_help (new_app (codes "graphq"))) =
    no_version _ _ c.disable_version_flag.ensures ∙ ap without_version (no_help _ _ c.disable_help_flag.ensures ∙ ap without_help c.new-3.ensures.app) in
    let one = c.in_ok-arg.ensures.shape c.option.ensures.local ∙ ap₂ with_rule bare c.option.ensures.rule in
    let two = c.in_ok-arg-2.ensures.shape c.option-2.ensures.local ∙ ap₂ with_rule one (c.option-2.ensures.rule ∙ ap (option_rule (codes "sample")) count) in
    let three = c.in_ok-arg-3.ensures.shape c.option-3.ensures.local ∙ ap₂ with_rule two c.option-3.ensures.rule in
    let last = c.option-4.ensures.rule ∙ ap (option_rule (codes "rows")) limit in
    IfOk-weaker c.arg-4.result _ _ (λ d h. h.shape c.option-4.ensures.local ∙ ap₂ with_rule three last) c.arg-4.ensures
