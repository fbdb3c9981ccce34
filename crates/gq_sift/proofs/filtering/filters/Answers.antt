use Rattle.gq_sift.proofs.Cutting.{beside}
use Rattle.gq_sift.proofs.filtering.filters.Goals as goal

pub returns-in-Rows : goal.returns-in-Rows
returns-in-Rows c = beside _ c.scanned.result c.in-Rows.is c.scanned.ensures
