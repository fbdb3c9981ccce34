use Rattle.std.proofs.Common.{◌∙◌, ◌++◌, ◌∷◌, [], ap}
use Rattle.std.proofs.lemmas.List.{map-append}
use Rattle.gq_exists.specs.steps.Rows.{blocks_of, marked_at}
use Rattle.gq_exists.proofs.Marked.{table_more}
use Rattle.gq_exists.proofs.rows.reach_table.Goals as goal

pub tables-preserved : goal.tables-preserved
tables-preserved c = λ n. ap (λ l. marked_at (blocks_of l) n) c.in_ok-push.ensures.items ∙ ap (λ l. marked_at l n) (map-append (λ v. v.items) c.tables.tables.items (c.new.result ∷ [])) ∙ ap (λ v. marked_at (blocks_of c.tables.tables.items ++ v ∷ []) n) c.new.ensures.items ∙ table_more (blocks_of c.tables.tables.items) n ∙ c.tables.invariant n
