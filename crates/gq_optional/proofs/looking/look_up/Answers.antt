use Rattle.std.proofs.Common.{◌∙◌, ap, length, map, refl, sym, arith}
use Rattle.gq_optional.specs.steps.Listed.{match_at}
use Rattle.gq_optional.specs.steps.Looked.{asked_rows}
use Rattle.gq_outer.specs.Rows.{read}
use Rattle.gq_optional.proofs.Keyed.{length_places, looked, looked_none}
use Rattle.gq_optional.proofs.looking.look_up.Goals as goal

pub returns-then-not-read_key-clause-value : goal.returns-then-not-read_key-clause-value
returns-then-not-read_key-clause-value c =
    let row = read c.args.row.now in
    sym (looked_none c.args.shared.now c.args.nodes.now c.args.matches.now c.requires.whole row
    (ap (λ l. asked_rows c.args.shared.now c.args.nodes.now l row.nodes) (sym c.as_slice.ensures) ∙ c.if-not-read_key.ensures.no refl))

pub matches-requires : goal.matches-requires
matches-requires c = omega (arith, c.read_key.ensures.count, c.requires.key, ap length c.requires.whole.keys, length_places 0 c.args.shared.now)

pub returns-clause-value : goal.returns-clause-value
returns-clause-value c =
    let row = read c.args.row.now in
    ap (map (match_at c.args.matches.now)) c.matches.ensures.value
    ∙ looked c.args.shared.now c.args.nodes.now c.args.matches.now c.requires.whole row c.read_key.new.key
    (ap (λ l. asked_rows c.args.shared.now c.args.nodes.now l row.nodes) (sym c.as_slice.ensures) ∙ c.if-not-read_key.ensures.yes refl)
