use Rattle.gq_kept.specs.declared.form.Form.TheVariants.{Top}
use Rattle.gq_values.specs.Keeping.{held_of}
use Rattle.gq_rows.proofs.Insides.{pushed_by, top-ready}
use Rattle.gq_rows.proofs.top_rows.TopRows.push.Goals as goal

pub push_top-requires-clause-open : goal.push_top-requires-clause-open
push_top-requires-clause-open t c = top-ready c.args.question.now c.args.self.now.most c.args.self.now.rows c.requires.small c.requires.form c.requires.stands

pub returns-clause-pushes : goal.returns-clause-pushes
returns-clause-pushes t c =
    pushed_by c.args.question.now (Top c.args.self.now.most) (held_of c.args.self.now.rows) c.requires.small c.requires.form c.requires.stands c.requires.room _ (held_of c.push_top.new.self) c.push_top.result c.push_top.ensures
