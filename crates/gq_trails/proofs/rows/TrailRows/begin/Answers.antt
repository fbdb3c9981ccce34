use Rattle.std.proofs.Common.{◌≡◌, ◌∙◌, length, sym, ap, subst}
use Rattle.gq_law_ends.specs.Reaching.{rows_in}
use Rattle.gq_trails.specs.Continued.{Continuing, rows_continued, walked_count}
use Rattle.gq_trails.specs.steps.Chained.{IsWay, continuing_by, continuing_of, ends_in, parts_in}
use Rattle.gq_trails.proofs.Continuing.{reached_rows, walked_rows}
use Rattle.gq_trails.proofs.rows.TrailRows.begin.Goals as goal
use Rattle.gq_trails.proofs.rows.TrailRows.begin.Goals.{in-Walked, in-Reached}

pub returns-clause-owed : goal.returns-clause-owed
returns-clause-owed c = elim c.match-self.branch [
  | in-Walked w ↦
      let once = c.self.inside.once in
      let t = w.in-Walked.trails in
      let all : walked_count once t.parts ≡ length t.parts = subst (IsWay once) w.in-Walked.is c.self.invariant in
      ap (λ s. (continuing_of s).owed) w.self-inside-is ∙ ap rows_in w.begin.ensures.owed
      ∙ sym (walked_rows once t.graph t.parts c.args.rels.now c.args.base.now all)
      ∙ ap (λ (m : Continuing). rows_continued m.once m.graph m.parts c.args.rels.now c.args.base.now) (ap (continuing_by once) (sym w.in-Walked.is) ∙ c.self.view_is)
  | in-Reached w ↦
      let once = c.self.inside.once in
      let chain = w.in-Reached.chain in
      let on = subst (IsWay once) w.in-Reached.is c.self.invariant in
      ap (λ s. (continuing_of s).owed) w.self-inside-is ∙ w.begin-in-Reached.ensures.owed
      ∙ sym (reached_rows once chain.trails.graph chain.trails.parts (parts_in (ends_in chain)) c.args.rels.now c.args.base.now on.1)
      ∙ ap (λ (m : Continuing). rows_continued m.once m.graph m.parts c.args.rels.now c.args.base.now) (ap (continuing_by once) (sym w.in-Reached.is) ∙ c.self.view_is)
]
