-- Clauses that hold what plans of their alternatives make: what they list, and that a walk can go over them.
use Rattle.std.proofs.Common.{◌≡◌, ◌∙◌, ℕ, ◌+◌, ◌<◌, ◌≤◌, Bool, true, false, List, [], ◌∷◌, ◌++◌, flat_map, length, map, ap, refl, sym, subst, arith}
use Rattle.std.specs.Prelude.{All, IsPermutation}
use Rattle.std.specs.List.{AllByRecursion, range_with_len}
use Rattle.std.proofs.lemmas.List.{length-map}
use Rattle.std.proofs.lemmas.List.Elements.{All-from_recursion, recursion_from_All}
use Rattle.std.proofs.lemmas.List.Sorted.{IsPermutation-append, IsPermutation-refl}
use Rattle.gq_base.specs.Catalogs.{Tables}
use Rattle.gq_base.specs.Plain.{Graph}
use Rattle.gq_plan.specs.Meaning.{meaning}
use Rattle.gq_plan.specs.Plans.{Plan}
use Rattle.gq_plan.specs.Soundness.{IsSound, has_number}
use Rattle.gq_plan.specs.declared.bound.OptionalPart.{OptionalPart}
use Rattle.gq_plan.specs.declared.typed.Typed.{Typed}
use Rattle.gq_outer.specs.Placed.{IsPlaced}
use Rattle.gq_eval.specs.Asked.{asked_of}
use Rattle.gq_optional.specs.steps.Asking.{AllAsk}
use Rattle.gq_optional.specs.Made.{AreListed}
use Rattle.gq_law_answers.specs.Answered.{meanings}
use Rattle.gq_optional.specs.steps.Walks.{AreShared, lists_of, parts_of}
use Rattle.gq_optional.specs.declared.clause.Clause.{Clause}
use Rattle.gq_optional.specs.declared.clause.Matches.{Matches}
use Rattle.gq_optional.specs.steps.Listed.{IsClause, IsSized, IsWhole, matches_in}
use Rattle.gq_optional.specs.steps.Looked.{places_of}
use Rattle.gq_optional.specs.steps.Making.{AreClausesOf, AreMatches, CanHold, IsClauseOf, IsMatches}

-- ---- keys

places_low : (bs : List Bool) (at n : ℕ) → at + length bs ≤ n → AllByRecursion (λ v. v < n) (places_of at bs)
places_low [] at n few = tt
places_low (true ∷ bs) at n few = (omega (arith, few), places_low bs (at + 1) n (omega (arith, few)))
places_low (false ∷ bs) at n few = places_low bs (at + 1) n (omega (arith, few))

-- the keys of a clause are variables of each of its alternatives
pub keys_low : (known nodes : List ℕ) (ys : List Typed) (shared : List Bool) (keys : List ℕ) → shared ≡ map (has_number known) nodes → keys ≡ places_of 0 shared
    → All (λ y. length y.nodes ≡ length nodes) ys → All (λ y. All (λ v. v < length y.nodes) keys) ys
keys_low known nodes ys shared keys e f same =
    All-from_recursion (λ y. All (λ v. v < length y.nodes) keys) ys (go ys (recursion_from_All (λ (y : Typed). length y.nodes ≡ length nodes) ys same))
  where
    long : length shared ≡ length nodes
    long = ap length e ∙ length-map nodes (has_number known)

    go : (ys : List Typed) → AllByRecursion (λ (y : Typed). length y.nodes ≡ length nodes) ys → AllByRecursion (λ (y : Typed). All (λ v. v < length y.nodes) keys) ys
    go [] all = tt
    go (y ∷ ys) all =
        (subst (All (λ v. v < length y.nodes)) (sym f) (All-from_recursion (λ v. v < length y.nodes) (places_of 0 shared) (places_low shared 0 (length y.nodes) (omega (arith, long, all.0)))), go ys all.1)

-- ---- what is listed

pub matches_made : (g : Graph) (ys : List Typed) (ps : List Plan) (keys : List ℕ) (ms : List Matches) → AreMatches g ys ps keys ms → IsPermutation (flat_map matches_in ms) (meanings g ys ps)
matches_made g [] [] keys [] h = IsPermutation-refl []
matches_made g [] [] keys (m ∷ ms) h = absurd h
matches_made g [] (p ∷ ps) keys ms h = absurd h
matches_made g (y ∷ ys) [] keys ms h = absurd h
matches_made g (y ∷ ys) (p ∷ ps) keys [] h = absurd h
matches_made g (y ∷ ys) (p ∷ ps) keys (m ∷ ms) h =
    IsPermutation-append (matches_in m) (meaning g y p) (flat_map matches_in ms) (meanings g ys ps) h.0.list (matches_made g ys ps keys ms h.1)

module _ (g : Graph) where
  pub clauses_listed : (known : List ℕ) (parts : List OptionalPart) (pss : List (List Plan)) (cs : List Clause) → AreClausesOf g known parts pss cs → AreListed g parts pss (lists_of cs)
  clauses_listed known [] [] [] h = tt
  clauses_listed known [] [] (c ∷ cs) h = absurd h
  clauses_listed known [] (ps ∷ pss) cs h = absurd h
  clauses_listed known (part ∷ parts) [] cs h = absurd h
  clauses_listed known (part ∷ parts) (ps ∷ pss) [] h = absurd h
  clauses_listed known (part ∷ parts) (ps ∷ pss) (c ∷ cs) h =
      (matches_made g part.alternatives ps _ c.matches.items h.0.matches, clauses_listed (known ++ part.nodes) parts pss cs h.1)

  pub clauses_parts : (known : List ℕ) (parts : List OptionalPart) (pss : List (List Plan)) (cs : List Clause) → AreClausesOf g known parts pss cs → parts_of cs ≡ parts
  clauses_parts known [] [] [] h = refl
  clauses_parts known [] [] (c ∷ cs) h = absurd h
  clauses_parts known [] (ps ∷ pss) cs h = absurd h
  clauses_parts known (part ∷ parts) [] cs h = absurd h
  clauses_parts known (part ∷ parts) (ps ∷ pss) [] h = absurd h
  clauses_parts known (part ∷ parts) (ps ∷ pss) (c ∷ cs) h = λ i. h.0.is i ∷ clauses_parts (known ++ part.nodes) parts pss cs h.1 i

  pub clauses_shared : (known : List ℕ) (parts : List OptionalPart) (pss : List (List Plan)) (cs : List Clause) → AreClausesOf g known parts pss cs → AreShared known cs
  clauses_shared known [] [] [] h = tt
  clauses_shared known [] [] (c ∷ cs) h = absurd h
  clauses_shared known [] (ps ∷ pss) cs h = absurd h
  clauses_shared known (part ∷ parts) [] cs h = absurd h
  clauses_shared known (part ∷ parts) (ps ∷ pss) [] h = absurd h
  clauses_shared known (part ∷ parts) (ps ∷ pss) (c ∷ cs) h = (
    h.0.shared ∙ ap (λ (p : OptionalPart). map (has_number known) p.nodes) (sym h.0.is),
    subst (λ (p : OptionalPart). AreShared (known ++ p.nodes) cs) (sym h.0.is) (clauses_shared (known ++ part.nodes) parts pss cs h.1),
  )

  pub clauses_ask : (known : List ℕ) (parts : List OptionalPart) (pss : List (List Plan)) (cs : List Clause) → AreClausesOf g known parts pss cs → AllAsk g cs
  clauses_ask known [] [] [] h = tt
  clauses_ask known [] [] (c ∷ cs) h = absurd h
  clauses_ask known [] (ps ∷ pss) cs h = absurd h
  clauses_ask known (part ∷ parts) [] cs h = absurd h
  clauses_ask known (part ∷ parts) (ps ∷ pss) [] h = absurd h
  clauses_ask known (part ∷ parts) (ps ∷ pss) (c ∷ cs) h =
      (h.0.asks ∙ ap (λ (p : OptionalPart). asked_of g p.conjuncts) (sym h.0.is), clauses_ask (known ++ part.nodes) parts pss cs h.1)

  -- ---- what can be gone over

  module _ (n m : ℕ) (catalog : Tables) where
    each_whole : (seats : List ℕ) (shared : List Bool) (ys : List Typed) (ps : List Plan) (ms : List Matches) → length shared ≡ length seats
        → AllByRecursion (λ (y : Typed). length y.nodes ≡ length seats) ys → AllByRecursion (IsSound catalog) ys → AreMatches g ys ps (places_of 0 shared) ms → AllByRecursion (IsWhole shared seats) ms
    each_whole seats shared [] [] [] long same sound h = tt
    each_whole seats shared [] [] (k ∷ ms) long same sound h = absurd h
    each_whole seats shared [] (p ∷ ps) ms long same sound h = absurd h
    each_whole seats shared (y ∷ ys) [] ms long same sound h = absurd h
    each_whole seats shared (y ∷ ys) (p ∷ ps) [] long same sound h = absurd h
    each_whole seats shared (y ∷ ys) (p ∷ ps) (k ∷ ms) long same sound h =
        (whole, each_whole seats shared ys ps ms long same.1 sound.1 h.1)
      where
        is : IsMatches g y p (places_of 0 shared) k
        is = h.0

        typed : k.typed.now ≡ y
        typed = is.typed

        few : length y.nodes ≤ 24
        few = sound.0.nodes_fit

        few_rels : length y.rels ≤ 24
        few_rels = sound.0.rels_fit

        rels_same : length k.typed.now.rels ≡ length y.rels
        rels_same = ap (λ (z : Typed). length z.rels) typed

        whole : IsWhole shared seats k
        whole = record {
          wide = long;
          few_nodes = omega (arith, few, same.0);
          few_rels = omega (arith, few_rels, rels_same);
          tables = ap (λ (z : Typed). length z.nodes) typed ∙ same.0;
          nodes = is.nodes ∙ ap (λ k. range_with_len 0 k) same.0;
          rels = is.rels ∙ ap (λ k. range_with_len 0 k) (sym rels_same);
          keys = is.keyed;
          sized = subst (λ (t : ℕ × ℕ). AllByRecursion (IsSized t.0 t.1) k.build.rows) (λ i. (same.0 i, sym rels_same i)) is.sized;
        }

    clause_is : (known : List ℕ) (part : OptionalPart) (ps : List Plan) (c : Clause) → IsPlaced n m catalog part → IsClauseOf g known part ps c → IsClause n m c
    clause_is known part ps c placed is = record {
      whole = subst (λ (t : OptionalPart × List Bool). All (IsWhole t.1 t.0.nodes) c.matches.items) (λ i. (sym is.is i, sym is.shared i)) (All-from_recursion (IsWhole shared part.nodes) c.matches.items wholes);
      nodes_in = subst (λ (p : OptionalPart). All (λ v. v < n) p.nodes) (sym is.is) placed.nodes_there;
      rels_in = subst (λ (p : OptionalPart). All (λ x. x < m) p.rels) (sym is.is) placed.rels_there;
    }
      where
        shared : List Bool
        shared = map (has_number known) part.nodes

        wholes : AllByRecursion (IsWhole shared part.nodes) c.matches.items
        wholes = each_whole part.nodes shared part.alternatives ps c.matches.items (length-map part.nodes (has_number known))
            (recursion_from_All (λ (y : Typed). length y.nodes ≡ length part.nodes) part.alternatives placed.nodes) (recursion_from_All (IsSound catalog) part.alternatives placed.sound) is.matches

    pub clauses_are : (known : List ℕ) (parts : List OptionalPart) (pss : List (List Plan)) (cs : List Clause) → AllByRecursion (IsPlaced n m catalog) parts → AreClausesOf g known parts pss cs
        → AllByRecursion (IsClause n m) cs
    clauses_are known [] [] [] placed h = tt
    clauses_are known [] [] (c ∷ cs) placed h = absurd h
    clauses_are known [] (ps ∷ pss) cs placed h = absurd h
    clauses_are known (part ∷ parts) [] cs placed h = absurd h
    clauses_are known (part ∷ parts) (ps ∷ pss) [] placed h = absurd h
    clauses_are known (part ∷ parts) (ps ∷ pss) (c ∷ cs) placed h =
        (clause_is known part ps c placed.0 h.0, clauses_are (known ++ part.nodes) parts pss cs placed.1 h.1)

    -- clauses whose variables are placed can be held
    pub can_hold : (parts : List OptionalPart) → AllByRecursion (IsPlaced n m catalog) parts → AllByRecursion (CanHold catalog) parts
    can_hold [] placed = tt
    can_hold (part ∷ parts) placed = (record { sound = placed.0.sound; nodes = placed.0.nodes }, can_hold parts placed.1)
