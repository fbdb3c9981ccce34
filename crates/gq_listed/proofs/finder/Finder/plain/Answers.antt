use Rattle.std.proofs.Common.{◌≡◌, ◌∙◌, ap, sym, None, Ok, Some}
use Rattle.gq_cells.specs.Numbers.{numbered_rel}
use Rattle.gq_expr.proofs.Equations.{meaning_Node, meaning_Rel}
use Rattle.gq_expr.specs.Meaning.{meaning}
use Rattle.gq_expr.specs.Reading.{node_val, rel_val}
use Rattle.gq_listed.proofs.Finding.{extends, finds}
use Rattle.gq_listed.proofs.finder.Finder.plain.Goals as goal

some_none : {X : Type 0} {x : X} → Some x ≡ None → ⊥
some_none e = cc e

pub returns-in-Some-clause-finds : goal.returns-in-Some-clause-finds
returns-in-Some-clause-finds c =
    let g = c.args.graph.now in
    record {
      finds = finds g _ _ _ c.in_ok-source-in-Node.ensures.sources _ _ _ c.in_ok-source-in-Node.ensures.place (λ here n h. tt)
          (λ here n h. ap (meaning g here) c.in-Node.is ∙ meaning_Node g here _ ∙ ap (λ o. Ok (node_val o)) h.is);
      none = extends _ _ _ c.in_ok-source-in-Node.ensures.sources _ _ c.requires;
      nothing = λ here h. ap (meaning g here) c.in-Node.is ∙ meaning_Node g here _ ∙ ap (λ o. Ok (node_val o)) h;
    }

pub returns-in-Some-clause-more : goal.returns-in-Some-clause-more
returns-in-Some-clause-more c = extends _ _ _ c.in_ok-source-in-Node.ensures.sources

pub returns-in-Some-rel_table-clause-finds : goal.returns-in-Some-rel_table-clause-finds
returns-in-Some-rel_table-clause-finds c =
    let g = c.args.graph.now in
    record {
      finds = finds g _ _ _ c.in_ok-source-in-Rel.ensures.sources _ _ _ c.in_ok-source-in-Rel.ensures.place
          (λ here n h. record { within = c.in-Some-rel_table.ensures; there = λ none. some_none (sym h.placed.at ∙ none) })
          (λ here n h. ap (meaning g here) c.in-Rel.is ∙ meaning_Rel g here _ ∙ ap (λ o. Ok (rel_val o)) h.placed.is ∙ ap (λ o. Ok (numbered_rel c.in-Some-rel_table.table o)) (sym h.placed.at));
      none = extends _ _ _ c.in_ok-source-in-Rel.ensures.sources _ _ c.requires;
      nothing = λ here h. ap (meaning g here) c.in-Rel.is ∙ meaning_Rel g here _ ∙ ap (λ o. Ok (rel_val o)) h;
    }

pub returns-in-Some-rel_table-clause-more : goal.returns-in-Some-rel_table-clause-more
returns-in-Some-rel_table-clause-more c = extends _ _ _ c.in_ok-source-in-Rel.ensures.sources

pub returns-clause-finds : goal.returns-clause-finds
returns-clause-finds c = c.of_value.ensures c.args.cells.now.sources _ c.requires
