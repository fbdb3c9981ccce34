use Rattle.std.proofs.Common.{◌≡◌, ◌∙◌, ℕ, ◌+◌, ◌<◌, true, false, not, cond, List, [], ◌∷◌, ◌++◌, length, take, get_or, refl, sym, ap, subst}
use Rattle.std.proofs.lemmas.List.{append_assoc, length-append, length-map, length-set, map-append, take_more}
use Rattle.std.proofs.lemmas.List.Elements.{filter-append}
use Rattle.gq_group.specs.declared.home.NodeHome.TheVariants.{Column, Nowhere}
use Rattle.gq_plan.specs.Soundness.{has_number}
use Rattle.gq_homes.specs.Homes.{kept_of}
use Rattle.gq_homes.specs.steps.Housing.{fillings_of, not_in, set_numbered, with_node_home}
use Rattle.gq_homes.specs.declared.homes.Housing.{Housing}
use Rattle.gq_homes.proofs.Brought.{numbered_push}
use Rattle.gq_homes.proofs.homes.house_nodes.Goals as goal
use Rattle.gq_homes.proofs.homes.house_nodes.Goals.{then-not-has_number+in_ok-add_column, else-not-has_number}

-- the node variables among some that are no keys have their columns
record IsAdded (i d : ℕ) (old : Housing) (vs : List ℕ) (new : Housing) : Type 0 where
  many : length new.homes.nodes ≡ length old.homes.nodes
  homes : new.homes ≡ record { nodes = set_numbered (Column i) (length old.fillings.items) vs old.homes.nodes; rels = old.homes.rels }
  fillings : new.fillings.items ≡ old.fillings.items ++ fillings_of i d vs

next : (keys vs : List ℕ) (k : ℕ) → k < length vs → not_in keys (take (k + 1) vs) ≡ not_in keys (take k vs) ++ cond (not (has_number keys (get_or vs k 0))) (get_or vs k 0 ∷ []) []
next keys vs k low = ap (not_in keys) (take_more vs k 0 low) ∙ filter-append (λ v. not (has_number keys v)) (take k vs) (get_or vs k 0 ∷ [])

skipped : (keys vs : List ℕ) (k : ℕ) → k < length vs → has_number keys (get_or vs k 0) ≡ true → not_in keys (take (k + 1) vs) ≡ not_in keys (take k vs)
skipped keys vs k low is = next keys vs k low ∙ ap (λ b. not_in keys (take k vs) ++ cond (not b) (get_or vs k 0 ∷ []) []) is ∙ none (not_in keys (take k vs))
  where
    none : (l : List ℕ) → l ++ [] ≡ l
    none [] = refl
    none (x ∷ l) = ap (λ l. x ∷ l) (none l)

taken : (keys vs : List ℕ) (k : ℕ) → k < length vs → has_number keys (get_or vs k 0) ≡ false → not_in keys (take (k + 1) vs) ≡ not_in keys (take k vs) ++ get_or vs k 0 ∷ []
taken keys vs k low is = next keys vs k low ∙ ap (λ b. not_in keys (take k vs) ++ cond (not b) (get_or vs k 0 ∷ []) []) is

add : (i d : ℕ) (old mid new : Housing) (vs : List ℕ) (v : ℕ) → IsAdded i d old vs mid → new.homes ≡ with_node_home v (Column i (length mid.fillings.items)) mid.homes → new.fillings.items ≡ mid.fillings.items ++ kept_of i d v ∷ []
    → IsAdded i d old (vs ++ v ∷ []) new
add i d old mid new vs v is homes fillings =
    let long : length mid.fillings.items ≡ length old.fillings.items + length vs = ap length is.fillings ∙ length-append old.fillings.items (fillings_of i d vs) ∙ ap (λ n. length old.fillings.items + n) (length-map vs (kept_of i d)) in
    record {
      many = ap (λ h. length h.nodes) homes ∙ length-set mid.homes.nodes v (Column i (length mid.fillings.items)) ∙ is.many;
      homes = homes
          ∙ ap (with_node_home v (Column i (length mid.fillings.items))) is.homes
          ∙ ap (λ n. with_node_home v (Column i n) (record { nodes = set_numbered (Column i) (length old.fillings.items) vs old.homes.nodes; rels = old.homes.rels })) long
          ∙ ap (λ l. record { nodes = l; rels = old.homes.rels }) (sym (numbered_push (Column i) Nowhere (length old.fillings.items) vs v old.homes.nodes));
      fillings = fillings ∙ ap (λ l. l ++ kept_of i d v ∷ []) is.fillings ∙ append_assoc old.fillings.items (fillings_of i d vs) (kept_of i d v ∷ [])
          ∙ ap (λ l. old.fillings.items ++ l) (sym (map-append (kept_of i d) vs (v ∷ [])));
    }

pub loop-node-preserved : goal.loop-node-preserved
loop-node-preserved c =
    let keys : List ℕ = c.args.keys.now in
    let vs : List ℕ = c.nodes-node-items.result.now in
    let k : ℕ = c.loop-node.node-index in
    let i : ℕ = c.args.spot.group in
    let d : ℕ = c.args.spot.depth in
    let low : k < length vs = c.loop-node-test.true in
    let old = c.loop-node.invariant in
    let was : IsAdded i d c.args.housing.now (not_in keys (take k vs)) c.loop-node.housing = record { many = old.many; homes = old.homes; fillings = old.fillings } in
    let is : IsAdded i d c.args.housing.now (not_in keys (take (k + 1) vs)) c.if-not-has_number.housing = elim c.if-not-has_number.branch [
      | then-not-has_number+in_ok-add_column w ↦ subst (IsAdded i d c.args.housing.now (not_in keys (take (k + 1) vs))) (sym w.housing-is)
          (subst (λ l. IsAdded i d c.args.housing.now l w.add_column.new.housing) (sym (taken keys vs k low (sym c.has_number.ensures ∙ w.if-not-has_number.true)))
          (add i d c.args.housing.now c.loop-node.housing w.add_column.new.housing (not_in keys (take k vs)) (get_or vs k 0) was w.in_ok-add_column.ensures.homes
          (w.in_ok-add_column.ensures.fillings ∙ ap (λ f. c.loop-node.housing.fillings.items ++ f ∷ []) w.kept.ensures)))
      | else-not-has_number w ↦ subst (IsAdded i d c.args.housing.now (not_in keys (take (k + 1) vs))) (sym w.housing-is)
          (subst (λ l. IsAdded i d c.args.housing.now l c.loop-node.housing) (sym (skipped keys vs k low (sym c.has_number.ensures ∙ w.if-not-has_number.false))) was)
    ] in
    record { items = old.items; many = is.many; homes = is.homes; fillings = is.fillings }
