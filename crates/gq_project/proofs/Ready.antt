-- What columns, keys and conjuncts mean that are made ready.
use Rattle.std.proofs.Common.{◌≡◌, ◌∙◌, ℕ, List, length, ap}
use Rattle.std.proofs.lemmas.List.{length-map}
use Rattle.std.proofs.lemmas.Simd.{map-map}
use Rattle.gq_base.specs.Plain.{Graph}
use Rattle.gq_eval.specs.Asked.{Asked, answers, asked, asked_of}
use Rattle.gq_expr.specs.Meaning.{meaning}
use Rattle.gq_eval.proofs.Meanings.{answers_are, numbered_are}
use Rattle.gq_expr.specs.Reading as reading
use Rattle.gq_plan.specs.Outcomes.{key_meanings, meanings_of}
use Rattle.gq_plan.specs.declared.bound.NamedExpr.{NamedExpr}
use Rattle.gq_plan.specs.declared.bound.SortExpr.{SortExpr}
use Rattle.gq_kept.specs.Tables.{numbered}
use Rattle.gq_project.specs.Reading.{asked_keys, at_numbers}

module _ (g : Graph) (here : reading.Assignment) where
  pub columns_mean : (cs : List NamedExpr) (asks : List Asked) → asks ≡ asked_of g cs → answers here asks ≡ meanings_of g here cs
  columns_mean cs asks is = ap (answers here) is ∙ answers_are g here cs

  pub keys_mean : (ks : List SortExpr) (asks : List Asked) → asks ≡ asked_keys g ks → answers here asks ≡ key_meanings g here ks
  keys_mean ks asks is = ap (answers here) is ∙ map-map (λ (a : Asked). meaning a.graph here a.expr) (λ (k : SortExpr). asked k.expr g) ks

  -- the conjuncts that are left
  pub late_mean : (cs : List NamedExpr) (asks : List Asked) (is : List ℕ) → asks ≡ asked_of g cs → answers here (at_numbers asks is) ≡ meanings_of g here (numbered cs is)
  late_mean cs asks is same = ap (λ l. answers here (at_numbers l is)) same ∙ numbered_are g here cs is

pub keys_long : (g : Graph) (ks : List SortExpr) (asks : List Asked) → asks ≡ asked_keys g ks → length asks ≡ length ks
keys_long g ks asks is = ap length is ∙ length-map ks (λ (k : SortExpr). asked k.expr g)
