use Rattle.gq_rows.proofs.Passing.{past_bar}
use Rattle.gq_rows.proofs.top_rows.TopRows.first_bar.Goals as goal

pub returns : goal.returns
returns c = λ y here.
    past_bar c.args.question.now c.args.self.now.most y here c.args.self.now.rows c.requires.small c.requires.form c.requires.stands c.requires.room c.first_bar.result c.first_bar.ensures
