use Rattle.gq_classes.proofs.Growing.{told}
use Rattle.gq_classes.proofs.level.Level.number.Goals as goal

pub returns : goal.returns
returns c =
    let s = c.in_ok-number.ensures.stored in
    told _ _ _ _ _ _ _ c.in_ok-key.key c.new.ensures.texts c.in_ok-key.ensures.key c.in_ok-number.ensures.keys s.0 s.1 s.2 c.insert_full.ensures.unique
