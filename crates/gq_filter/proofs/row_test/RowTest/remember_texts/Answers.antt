use Rattle.gq_filter.proofs.Codes.{all_codes, known_none}
use Rattle.gq_filter.proofs.row_test.RowTest.remember_texts.Goals as goal

pub invariant_of-self : goal.invariant_of-self
invariant_of-self c =
    let i = c.self.inside in
    let n = c.code_count-count.result in
    let known = known_none i.text n c.in-Ok.tried.known (all_codes i.text n c.code_count-count.ensures) c.in-Ok.ensures in
    (c.self.invariant.0, c.self.invariant.1, c.self.invariant.2, c.self.invariant.3, c.self.invariant.4, known, c.self.invariant.6)
