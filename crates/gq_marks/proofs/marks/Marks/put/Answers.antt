use Rattle.std.proofs.Common.{◌≡◌, ◌∙◌, ℕ, ◌+◌, ◌<◌, ◌∷◌, ◌++◌, [], List, length, set, take, true, sym, ap, ap₂, subst, arith, inr}
use Rattle.std.proofs.lemmas.List.{length-set, take_more_set}
use Rattle.gq_base.specs.declared.NodeId.{NodeId as Node}
use Rattle.gq_marks.specs.Marking.{AreKnown, IsSpread, Marking, mark_at}
use Rattle.gq_marks.specs.steps.{has_place, marking_of, with_mark}
use Rattle.gq_marks.proofs.Placing.{put_known, put_spread}
use Rattle.gq_marks.proofs.marks.Marks.put.Goals as goal

pub invariant_of-self : goal.invariant_of-self
invariant_of-self c =
    let i = c.self.inside in
    let m = marking_of i in
    let node = c.args.node in
    let mark = c.args.mark in
    let none : mark_at i.sheets.items node ≡ 255 = ap (λ (l : List (List ℕ)). mark_at l node) (sym c.deref.ensures.value) ∙ sym c.mark_in.ensures ∙ c.if-mark_in.false in
    let place : has_place i.sheets.items node ≡ true = ap (λ (l : List (List ℕ)). has_place l node) (sym c.deref-else-len-self.ensures.value) ∙ sym c.has_place.ensures ∙ c.if-not-has_place.false in
    let low : i.count < length i.reached.items = omega (arith, c.if-len-self.false, c.len.ensures) in
    let reached : take (i.count + 1) (set i.reached.items i.count node) ≡ take i.count i.reached.items ++ node ∷ [] = take_more_set i.reached.items i.count node low in
    let eq : record { sheets = c.set_mark.new.sheets.items; rest = i.rest; reached = take (i.count + 1) (set i.reached.items i.count node) } ≡ record { sheets = with_mark i.sheets.items node mark; rest = i.rest; reached = take i.count i.reached.items ++ node ∷ [] }
    = ap₂ (λ (s : List (List ℕ)) (r : List Node). record { sheets = s; rest = i.rest; reached = r }) c.set_mark.ensures reached in
    record {
      few = let many = length-set i.reached.items i.count node in omega (arith, low, many);
      known = subst AreKnown (sym eq) (put_known m node mark c.requires none place c.self.invariant.known);
    }

pub returns-clause-spread : goal.returns-clause-spread
returns-clause-spread c =
    let i = c.self.inside in
    let m = marking_of i in
    let node = c.args.node in
    let mark = c.args.mark in
    let none : mark_at i.sheets.items node ≡ 255 = ap (λ (l : List (List ℕ)). mark_at l node) (sym c.deref.ensures.value) ∙ sym c.mark_in.ensures ∙ c.if-mark_in.false in
    let place : has_place i.sheets.items node ≡ true = ap (λ (l : List (List ℕ)). has_place l node) (sym c.deref-else-len-self.ensures.value) ∙ sym c.has_place.ensures ∙ c.if-not-has_place.false in
    let low : i.count < length i.reached.items = omega (arith, c.if-len-self.false, c.len.ensures) in
    let reached : take (i.count + 1) (set i.reached.items i.count node) ≡ take i.count i.reached.items ++ node ∷ [] = take_more_set i.reached.items i.count node low in
    let eq : record { sheets = c.set_mark.new.sheets.items; rest = i.rest; reached = take (i.count + 1) (set i.reached.items i.count node) } ≡ record { sheets = with_mark i.sheets.items node mark; rest = i.rest; reached = take i.count i.reached.items ++ node ∷ [] }
    = ap₂ (λ (s : List (List ℕ)) (r : List Node). record { sheets = s; rest = i.rest; reached = r }) c.set_mark.ensures reached in
    subst (λ (k : Marking). IsSpread mark k (record { sheets = c.set_mark.new.sheets.items; rest = i.rest; reached = take (i.count + 1) (set i.reached.items i.count node) })) c.self.view_is
    (subst (λ (k : Marking). IsSpread mark m k) (sym eq) (put_spread m node mark c.requires none place))

pub returns-clause-reached : goal.returns-clause-reached
returns-clause-reached c =
    let i = c.self.inside in
    let node : Node = c.args.node in
    let low : i.count < length i.reached.items = omega (arith, c.if-len-self.false, c.len.ensures) in
    inr (take_more_set i.reached.items i.count node low ∙ ap (λ (k : Marking). k.reached ++ node ∷ []) c.self.view_is)
