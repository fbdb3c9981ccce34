use Rattle.gq_classes.proofs.Growing.{text_there, texts_grow}
use Rattle.gq_classes.proofs.key.number_of.Goals as goal

pub returns-clause-texts : goal.returns-clause-texts
returns-clause-texts c = texts_grow _ _ _ c.args.text c.in_ok-number.ensures.keys c.insert_full.ensures.unique

pub returns-clause-number : goal.returns-clause-number
returns-clause-number c = let s = c.in_ok-number.ensures.stored in text_there c.insert_full.new.self.keys _ c.args.text s.0 s.1 s.2
