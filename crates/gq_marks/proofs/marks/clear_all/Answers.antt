use Rattle.std.proofs.Common.{◌≡◌, ◌∙◌, ◌+◌, List, ℕ, get_or, Some, sym, ap, subst, arith}
use Rattle.std.specs.Prelude.{slice_get}
use Rattle.std.proofs.lemmas.Option.{slice_get-get_or}
use Rattle.gq_base.specs.declared.NodeId.{NodeId as Node}
use Rattle.gq_marks.specs.steps.{AreAhead, has_place}
use Rattle.gq_marks.proofs.Placing.{ahead_none, ahead_past, ahead_set}
use Rattle.gq_marks.proofs.marks.clear_all.Goals as goal
use Rattle.gq_marks.proofs.marks.clear_all.Goals.{then-has_place, else-has_place}

pub nodes-preserved : goal.nodes-preserved
nodes-preserved c =
    let nodes : List Node = c.args.nodes.now in
    let sheets : List (List ℕ) = c.nodes.sheets.items in
    let at : ℕ = c.nodes.place in
    let none : Node = record { table = 0; row = 0 } in
    let here : slice_get nodes at ≡ Some (get_or nodes at none) = slice_get-get_or nodes at none (omega (arith, c.nodes-test.true)) in
    let told : c.has_place.result ≡ has_place sheets (get_or nodes at none) = c.has_place.ensures ∙ ap (λ (l : List (List ℕ)). has_place l (get_or nodes at none)) c.deref.ensures.value in
    record {
      most = omega (arith, c.nodes-test.true, c.nodes.invariant.most);
      ahead = elim c.if-has_place.branch [
        | then-has_place w ↦
            subst (λ (l : List (List ℕ)). AreAhead l nodes (at + 1)) (sym (ap (λ v. v.items) w.sheets-is ∙ w.set_mark.ensures))
            (ahead_set sheets nodes at c.nodes.invariant.ahead (get_or nodes at none) here (sym told ∙ w.if-has_place.true))
        | else-has_place w ↦
            subst (λ (l : List (List ℕ)). AreAhead l nodes (at + 1)) (sym (ap (λ v. v.items) w.sheets-is))
            (ahead_past sheets nodes at c.nodes.invariant.ahead (get_or nodes at none) here (sym told ∙ w.if-has_place.false))
      ];
    }

pub returns : goal.returns
returns c = ahead_none c.nodes.sheets.items c.args.nodes.now c.nodes.place c.nodes.invariant.ahead (omega (arith, c.nodes-test.false))
