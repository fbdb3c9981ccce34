-- Clauses whose conjuncts are asked over a graph.
use Rattle.std.proofs.Common.{◌≡◌, ◌∙◌, ℕ, ◌+◌, ◌<◌, List, ◌∷◌, drop, get_or, length, sym, ap, subst}
use Rattle.std.proofs.lemmas.List.{drop_more}
use Rattle.gq_base.specs.Plain.{Graph}
use Rattle.gq_eval.proofs.Meanings.{answers_are}
use Rattle.gq_eval.specs.Asked.{Asked, answers}
use Rattle.gq_expr.specs.Reading as reading
use Rattle.gq_plan.specs.Marked.{marks}
use Rattle.gq_plan.specs.Outcomes.{meanings_of}
use Rattle.gq_optional.specs.steps.Asking.{AllAsk, Asks}
use Rattle.gq_optional.specs.declared.clause.Clause.{Clause}
use Rattle.gq_optional.specs.declared.clause_level.ClauseLevel.{ClauseLevel}
use Rattle.gq_optional.specs.steps.Levels.{clauses_of}

-- ---- what conjuncts say of a row

pub judged_by : (g : Graph) (row : reading.Assignment) (c : Clause) (all : List Asked) → all ≡ c.conjuncts → Asks g c → marks (answers row all) ≡ marks (meanings_of g row c.part.now.conjuncts)
judged_by g row c all is asks = ap (λ l. marks (answers row l)) (is ∙ asks) ∙ ap marks (answers_are g row c.part.now.conjuncts)

pub asks_same : (g : Graph) (c d : Clause) → d ≡ c → Asks g c → Asks g d
asks_same g c d same asks = subst (Asks g) (sym same) asks

-- ---- clauses one behind another

pub all_same : (g : Graph) (cs ds : List Clause) → ds ≡ cs → AllAsk g cs → AllAsk g ds
all_same g cs ds same all = subst (AllAsk g) (sym same) all

module _ (g : Graph) (ls : List ClauseLevel) (d : ℕ) (x : ClauseLevel) (low : d < length ls) (all : AllAsk g (clauses_of (drop d ls))) where
  parted : AllAsk g (clauses_of (get_or ls d x ∷ drop (d + 1) ls))
  parted = subst (λ (l : List ClauseLevel). AllAsk g (clauses_of l)) (drop_more ls d x low) all

  pub ask_here : Asks g (get_or ls d x).clause.now
  ask_here = parted.0

  pub ask_behind : AllAsk g (clauses_of (drop (d + 1) ls))
  ask_behind = parted.1
