-- Where a list leads to no node of which its group leaves something, the group makes nothing: from a node that none of the list's relationships
-- comes from that lead to such a node.
use Rattle.std.proofs.Common.{◌≡◌, ℕ, ◌+◌, Bool, true, false, cond, Option, Some, None, List, [], ◌∷◌, ◌++◌, filter, flat_map, refl, sym, ap, ◌∙◌, subst, inl, inr}
use Rattle.std.specs.List.{AllByRecursion}
use Rattle.std.proofs.lemmas.Bool.{eq-eqb}
use Rattle.std.proofs.lemmas.List.Concat.{flat_map-append}
use Rattle.gq_base.specs.Plain.{Graph}
use Rattle.gq_base.specs.declared.NodeId.{NodeId}
use Rattle.gq_base.specs.declared.RelId.{RelId}
use Rattle.gq_base.specs.declared.direction.Direction.{Direction}
use Rattle.gq_plan.specs.Allowed.{at_same}
use Rattle.gq_plan.specs.Covers.{after_step}
use Rattle.gq_plan.specs.Known.{Known}
use Rattle.gq_plan.specs.Meaning.{Partial, look, near, far, with_node, with_rel, arrive, rels_for, rels_from, keep_if, mean, step}
use Rattle.gq_plan.specs.Plans.{Step, Extend}
use Rattle.gq_plan.specs.declared.typed.Typed.{Typed}
use Rattle.gq_law_groups.specs.Groups.{Group, follow, own, raw, kept}
use Rattle.gq_law_groups.specs.Layout.{ArePlaced}
use Rattle.gq_law_groups.proofs.Alike.{AreAlike, step_keeps}
use Rattle.gq_law_groups.proofs.Closing.{Leads, Marks, blind}
use Rattle.gq_law_groups.proofs.Ending.{AllEnd, EndsAt}
use Rattle.gq_law_groups.proofs.Following.{known_node, kept_keeps}
use Rattle.gq_law_masks.specs.Alone.{Asks, Refuses}
use Rattle.gq_law_masks.specs.Nothing.{LeavesNothing, MakeNothing}

-- ---- lists

module _ (g : Graph) (y : Typed) (rows : ℕ → List Partial) (selected marked : NodeId → Bool) (i : ℕ) (b : Group) (gs : List Group) (k : Known) (a : Partial) (x from to : ℕ) (way : Direction) where
  end-joined : (us vs : List Partial) → AllEnd g y rows (i + 1) gs us → AllEnd g y rows (i + 1) gs vs → AllEnd g y rows (i + 1) gs (us ++ vs)
  end-joined [] vs m n = n
  end-joined (u ∷ us) vs m n = (m.0, end-joined us vs m.1 n)

  module _ (n : NodeId) (off : marked n ≡ false) (ends : (e : Partial) (m : NodeId) → look e.nodes to ≡ Some m → selected m ≡ false → AllEnd g y rows (i + 1) gs (kept g y b e)) where
    followed : (e : Partial) (rs : List RelId) → AllByRecursion (Leads g way selected marked) rs →
        AllEnd g y rows (i + 1) gs (flat_map (kept g y b) (flat_map (λ r. arrive to (far g way r) (with_rel x r e)) (filter (λ r. at_same (Some n) (near g way r)) rs)))
    followed e [] all = tt
    followed e (r ∷ rs) all = by (at_same (Some n) (near g way r)) refl (followed e rs all.1)
      where
        arrived : (o : Option NodeId) → far g way r ≡ o → at_same (Some n) (near g way r) ≡ true → AllEnd g y rows (i + 1) gs (flat_map (kept g y b) (arrive to o (with_rel x r e)))
        arrived None f h = tt
        arrived (Some m) f h =
            end-joined (kept g y b (with_node to m (with_rel x r e))) []
            (ends (with_node to m (with_rel x r e)) m (ap (λ c. cond c (Some m) (look e.nodes to)) (eq-eqb to to refl)) (blind g way selected marked n off r all.0 h m f)) tt

        by : (c : Bool) → at_same (Some n) (near g way r) ≡ c → AllEnd g y rows (i + 1) gs (flat_map (kept g y b) (flat_map (λ r. arrive to (far g way r) (with_rel x r e)) (filter (λ r. at_same (Some n) (near g way r)) rs))) →
            AllEnd g y rows (i + 1) gs (flat_map (kept g y b) (flat_map (λ r. arrive to (far g way r) (with_rel x r e)) (cond c (r ∷ filter (λ r. at_same (Some n) (near g way r)) rs) (filter (λ r. at_same (Some n) (near g way r)) rs))))
        by false h rest = rest
        by true h rest =
            subst (AllEnd g y rows (i + 1) gs) (sym (flat_map-append (kept g y b) (arrive to (far g way r) (with_rel x r e)) (flat_map (λ r. arrive to (far g way r) (with_rel x r e)) (filter (λ r. at_same (Some n) (near g way r)) rs))))
            (end-joined _ _ (arrived (far g way r) refl h) rest)

-- from a node that is not marked a list leads to no node of which something is left
pub lists_end : (g : Graph) (y : Typed) (rows : ℕ → List Partial) (selected marked : NodeId → Bool) (i : ℕ) (b : Group) (gs : List Group) (k : Known) (a : Partial) (x from to : ℕ) (way : Direction) (n : NodeId)
    → b.binds ≡ Extend false x from to way → Marks g y x way selected marked
    → k.nodes from ≡ true → look a.nodes from ≡ Some n → marked n ≡ false
    → ((e : Partial) (m : NodeId) → look e.nodes to ≡ Some m → selected m ≡ false → AllEnd g y rows (i + 1) gs (kept g y b e))
    → EndsAt g y rows i b gs k a
unfolding step
lists_end g y rows selected marked i b gs k a x from to way n is marks known here off ends e as_a =
    let there : look e.nodes from ≡ Some n = sym (as_a.nodes from known) ∙ here in
    subst (λ s. AllEnd g y rows (i + 1) gs (flat_map (kept g y b) (raw g y (rows i) s e))) (sym is)
    (subst (λ o. AllEnd g y rows (i + 1) gs (flat_map (kept g y b) (flat_map (λ r. arrive to (far g way r) (with_rel x r e)) (rels_from g y x way o)))) (sym there)
    (followed g y rows selected marked i b gs k a x from to way n off ends e (rels_for g y x) marks))

-- ---- tests

module _ (g : Graph) (y : Typed) (test v : ℕ) (n : NodeId) (off : Refuses g y test v n) where
  none-of : (F : Partial → List Partial) (es : List Partial) → AllByRecursion (λ e. F e ≡ []) es → flat_map F es ≡ []
  none-of F [] h = refl
  none-of F (e ∷ es) h = ap (λ l. l ++ flat_map F es) h.0 ∙ none-of F es h.1

  follow-none : (ss : List Step) (k : Known) (e : Partial) → ArePlaced g.catalog y ss k → k.nodes v ≡ true → Asks test ss → look e.nodes v ≡ Some n → follow g y ss e ≡ []
  unfolding mean step
  follow-none [] k e placed known asks there = absurd asks
  follow-none (s ∷ ss) k e placed known (inl is) there =
      subst (λ t. flat_map (follow g y ss) (step g y t e) ≡ []) (sym is) (ap (λ b. flat_map (follow g y ss) (keep_if b e)) (off e there))
  follow-none (s ∷ ss) k e placed known (inr asks) there =
      none-of (follow g y ss) (step g y s e) (each (step g y s e) (step_keeps g g.catalog y s k e placed.0 placed.1)
      (λ d same. follow-none ss (after_step s k) d placed.2 (known_node s k v known) asks (sym (same.nodes v known) ∙ there)))
    where
      each : (ds : List Partial) → AllByRecursion (AreAlike k e) ds → ((d : Partial) → AreAlike k e d → follow g y ss d ≡ []) → AllByRecursion (λ d. follow g y ss d ≡ []) ds
      each [] all f = tt
      each (d ∷ ds) all f = (f d all.0, each ds all.1 f)

-- a group leaves nothing of a place whose node one of its tests refuses
pub refused_end : (g : Graph) (y : Typed) (rows : ℕ → List Partial) (i : ℕ) (b : Group) (gs : List Group) (k : Known) (test v : ℕ) (n : NodeId)
    → ArePlaced g.catalog y b.checks (after_step b.binds k) → (after_step b.binds k).nodes v ≡ true
    → Asks test b.checks → Refuses g y test v n → LeavesNothing g y rows i b gs v n
refused_end g y rows i b gs k test v n placed known asks off = λ e there. subst (AllEnd g y rows (i + 1) gs) (sym (go e there (own g y b.binds e))) tt
  where
    go : (e : Partial) → look e.nodes v ≡ Some n → (c : Bool) → cond c (follow g y b.checks e) [] ≡ []
    go e there true = follow-none g y test v n off b.checks (after_step b.binds k) e placed known asks there
    go e there false = refl

-- nor of one whose node the groups behind it make nothing of
pub behind_end : (g : Graph) (y : Typed) (rows : ℕ → List Partial) (i : ℕ) (b : Group) (gs : List Group) (k : Known) (v : ℕ) (n : NodeId)
    → ArePlaced g.catalog y b.checks (after_step b.binds k) → (after_step b.binds k).nodes v ≡ true
    → MakeNothing g y rows (i + 1) gs v n → LeavesNothing g y rows i b gs v n
behind_end g y rows i b gs k v n placed known none = λ e there. each e there (kept g y b e) (kept_keeps g y (rows i) b k e placed)
  where
    each : (e : Partial) → look e.nodes v ≡ Some n → (ds : List Partial) → AllByRecursion (AreAlike (after_step b.binds k) e) ds → AllEnd g y rows (i + 1) gs ds
    each e there [] all = tt
    each e there (d ∷ ds) all = (none d (sym (all.0.nodes v known) ∙ there), each e there ds all.1)
