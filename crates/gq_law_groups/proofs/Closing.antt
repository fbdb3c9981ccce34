-- A list that is closed at a node is not closed there where it is followed from a node that no relationship of it comes from.
use Rattle.std.proofs.Common.{◌≡◌, ℕ, ◌+◌, Bool, true, false, cond, nat_eq, Option, Some, None, List, [], ◌∷◌, ◌++◌, map, filter, flat_map, refl, sym, ap, ◌∙◌, subst}
use Rattle.std.specs.List.{AllByRecursion}
use Rattle.std.proofs.lemmas.Bool.{and_parts, eqb-true, eq-eqb}
use Rattle.gq_base.specs.Plain.{Graph}
use Rattle.gq_base.specs.declared.NodeId.{NodeId}
use Rattle.gq_base.specs.declared.RelId.{RelId}
use Rattle.gq_base.specs.declared.direction.Direction.{Direction}
use Rattle.gq_plan.specs.Known.{Known}
use Rattle.gq_plan.specs.Allowed.{at_same}
use Rattle.gq_plan.specs.Assignments.{same_node}
use Rattle.gq_plan.specs.Meaning.{Partial, look, near, far, with_rel, rels_for, rels_from, step}
use Rattle.gq_plan.specs.Plans.{Close}
use Rattle.gq_plan.specs.declared.typed.Typed.{Typed}
use Rattle.gq_law_groups.specs.Groups.{Group, own, reaches, follow, raw, kept}
use Rattle.gq_law_groups.proofs.Ending.{AllEnd, EndsAt}

-- of the relationships of a variable, followed in a direction, those that lead to a selected node come from a marked one
abbrev pub Marks : Graph → Typed → ℕ → Direction → (NodeId → Bool) → (NodeId → Bool) → Type 0
Marks g y x way selected marked =
    AllByRecursion (λ r. (m : NodeId) → far g way r ≡ Some m → selected m ≡ true → (n : NodeId) → near g way r ≡ Some n → marked n ≡ true) (rels_for g y x)

-- two nodes that are one
same-is : (m n : NodeId) → same_node m n ≡ true → m ≡ n
same-is m n h =
    let both = and_parts (nat_eq m.table n.table) (nat_eq m.row n.row) h in
    let table : m.table ≡ n.table = eqb-true m.table n.table both.0 in
    let row : m.row ≡ n.row = eqb-true m.row n.row both.1 in
    λ i. record { table = table i; row = row i }

module _ (g : Graph) (way : Direction) (selected marked : NodeId → Bool) where
  -- what is said of a relationship that leads to a selected node
  abbrev pub Leads : RelId → Type 0
  Leads r = (m : NodeId) → far g way r ≡ Some m → selected m ≡ true → (n : NodeId) → near g way r ≡ Some n → marked n ≡ true

  -- of the relationships at a node that is not marked none leads to a selected node
  pub blind : (n : NodeId) → marked n ≡ false → (r : RelId) → Leads r → at_same (Some n) (near g way r) ≡ true → (m : NodeId) → far g way r ≡ Some m → selected m ≡ false
  blind n off r all at m is = by (near g way r) refl at (selected m) refl
    where
      by : (o : Option NodeId) → near g way r ≡ o → at_same (Some n) o ≡ true → (s : Bool) → selected m ≡ s → selected m ≡ false
      by None e h s f = cc
      by (Some n') e h false f = f
      by (Some n') e h true f =
          let one : n ≡ n' = same-is n n' h in
          let on : marked n' ≡ true = all m is f n' e in
          let there : marked n ≡ true = ap marked one ∙ on in
          cc (there, off)

module _ (g : Graph) (y : Typed) (rows : ℕ → List Partial) (selected marked : NodeId → Bool) (i : ℕ) (b : Group) (gs : List Group) (k : Known) (a : Partial) (x from to : ℕ) (way : Direction) where
  module _ (n t : NodeId) (off : marked n ≡ false) (on : selected t ≡ true) (is : b.binds ≡ Close false x from to way) where
    closed : (e : Partial) → look e.nodes to ≡ Some t → (rs : List RelId) → AllByRecursion (Leads g way selected marked) rs →
        AllEnd g y rows (i + 1) gs (flat_map (kept g y b) (map (λ r. with_rel x r e) (filter (λ r. at_same (Some n) (near g way r)) rs)))
    closed e there [] all = tt
    closed e there (r ∷ rs) all = by (at_same (Some n) (near g way r)) refl (closed e there rs all.1)
      where
        apart : (o : Option NodeId) → far g way r ≡ o → at_same (Some n) (near g way r) ≡ true → at_same (Some t) o ≡ false
        apart None f h = refl
        apart (Some m) f h = other (same_node t m) refl
          where
            other : (c : Bool) → same_node t m ≡ c → same_node t m ≡ false
            other false z = z
            other true z = (let off_m : selected m ≡ false = blind g way selected marked n off r all.0 h m f in let on_m : selected m ≡ true = ap selected (sym (same-is t m z)) ∙ on in cc (off_m, on_m))

        own-is : own g y b.binds (with_rel x r e) ≡ at_same (Some t) (far g way r)
        own-is = ap (λ s. own g y s (with_rel x r e)) is ∙ ap (λ c. reaches g y way (look e.nodes to) (cond c (Some r) (look e.rels x))) (eq-eqb x x refl) ∙ ap (λ o. at_same o (far g way r)) there

        none : at_same (Some n) (near g way r) ≡ true → kept g y b (with_rel x r e) ≡ []
        none h = ap (λ c. cond c (follow g y b.checks (with_rel x r e)) []) (own-is ∙ apart (far g way r) refl h)

        by : (c : Bool) → at_same (Some n) (near g way r) ≡ c → AllEnd g y rows (i + 1) gs (flat_map (kept g y b) (map (λ r. with_rel x r e) (filter (λ r. at_same (Some n) (near g way r)) rs))) →
            AllEnd g y rows (i + 1) gs (flat_map (kept g y b) (map (λ r. with_rel x r e) (cond c (r ∷ filter (λ r. at_same (Some n) (near g way r)) rs) (filter (λ r. at_same (Some n) (near g way r)) rs))))
        by false h rest = rest
        by true h rest = subst (λ l. AllEnd g y rows (i + 1) gs (l ++ flat_map (kept g y b) (map (λ r. with_rel x r e) (filter (λ r. at_same (Some n) (near g way r)) rs)))) (sym (none h)) rest

-- from a node that is not marked there is nothing that leads to a selected one
pub closes_end : (g : Graph) (y : Typed) (rows : ℕ → List Partial) (selected marked : NodeId → Bool) (i : ℕ) (b : Group) (gs : List Group) (k : Known) (a : Partial) (x from to : ℕ) (way : Direction) (n t : NodeId)
    → b.binds ≡ Close false x from to way → Marks g y x way selected marked
    → k.nodes from ≡ true → look a.nodes from ≡ Some n → marked n ≡ false → k.nodes to ≡ true → look a.nodes to ≡ Some t → selected t ≡ true
    → EndsAt g y rows i b gs k a
unfolding step
closes_end g y rows selected marked i b gs k a x from to way n t is marks known here off known_to here_to on e as_a =
    let there : look e.nodes from ≡ Some n = sym (as_a.nodes from known) ∙ here in
    let there_to : look e.nodes to ≡ Some t = sym (as_a.nodes to known_to) ∙ here_to in
    subst (λ s. AllEnd g y rows (i + 1) gs (flat_map (kept g y b) (raw g y (rows i) s e))) (sym is)
    (subst (λ o. AllEnd g y rows (i + 1) gs (flat_map (kept g y b) (map (λ r. with_rel x r e) (rels_from g y x way o)))) (sym there)
    (closed g y rows selected marked i b gs k a x from to way n t off on is e there_to (rels_for g y x) marks))
