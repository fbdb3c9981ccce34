use Rattle.std.proofs.Common.{rules, tests}
use Rattle.std.proofs.lemmas.Iterator.Consumers.{YieldsList-from_filter, map_from_collect}
use Rattle.std.proofs.lemmas.Iterator.Splits.{YieldsList-from_slice_split}
use Rattle.gq_manifest.specs.Lines.{is_blank, is_some_word}
use Rattle.gq_manifest.proofs.cut.words_of.Goals as goal

pub returns : goal.returns
returns c =
    let same = c.filter.ensures.source in
    map_from_collect _ c.collect.ensures.ran
    (YieldsList-from_filter {s = c.filter.result} _ is_some_word
    (YieldsList-from_slice_split {s = c.filter.result.iter} _ is_blank c.args.line.now (cc (same, c.split.ensures.rest)) (cc (same, c.split.ensures.done)) (cc (same, c.split.ensures.closure)) (λ x r q k. search (rules, tests)))
    c.filter.ensures.closure (λ x r q k. search (rules, tests)))
