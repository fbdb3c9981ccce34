-- What a walk stands for as the plan binds it is bound alike as the steps bind it, so it has the same key.
use Rattle.std.proofs.Common.{◌≡◌, ℕ, ◌+◌, ◌<◌, ◌≤◌, arith, length, Bool, true, false, cond, nat_eq, Option, Some, None, List, [], ◌∷◌, map, filter, refl, sym, ap, ap₂, ◌∙◌, subst}
use Rattle.std.specs.Prelude.{IsPermutation}
use Rattle.std.specs.List.{AllByRecursion}
use Rattle.std.specs.Set.{distinct_count}
use Rattle.std.proofs.lemmas.Bool.{eqb-true}
use Rattle.std.proofs.lemmas.List.{length-map, get_or-map}
use Rattle.std.proofs.lemmas.List.Elements.{All-from_recursion, recursion_from_All}
use Rattle.std.proofs.lemmas.List.Sorted.{IsPermutation-map, IsPermutation-sym, All-permutation, list_any-IsPermutation}
use Rattle.gq_arrange.specs.Keys.{plan_key}
use Rattle.gq_base.specs.Plain.{Graph}
use Rattle.gq_base.specs.Valid.{is_valid}
use Rattle.gq_join.specs.Kept.{Held}
use Rattle.gq_law_groups.specs.Groups.{Group, makes_group, plan_of, decode}
use Rattle.gq_law_groups.specs.Keys.{IsAs, key_in, makers, place_in}
use Rattle.gq_law_groups.specs.Layout.{AreFlatEnough}
use Rattle.gq_law_groups.proofs.Keyed.{keys_of_assignments}
use Rattle.gq_law_groups.proofs.Halved.{owns_runs}
use Rattle.gq_law_plans.proofs.Counting.{known_by}
use Rattle.gq_law_plans.proofs.Lookups.{look_some}
use Rattle.gq_law_plans.proofs.Owning.{Owns, owns_nothing}
use Rattle.gq_plan.specs.Arranged.{flags_of}
use Rattle.gq_plan.specs.Columns.{steps_of}
use Rattle.gq_plan.specs.Covers.{after}
use Rattle.gq_plan.specs.Halves.{Runs}
use Rattle.gq_plan.specs.Known.{Known, none}
use Rattle.gq_plan.specs.Meaning.{Partial, nothing, look, mean}
use Rattle.gq_plan.specs.Plans.{Plan, Step, steps}
use Rattle.gq_plan.specs.Rows.{node_at, rel_at}
use Rattle.gq_plan.specs.Soundness.{IsSound}
use Rattle.gq_plan.specs.declared.typed.Typed.{Typed}
use Rattle.gq_search.specs.Different.{AreKeysOf, same_key}
use Rattle.gq_search.specs.Layouts.{number_of, walks, key_of}
use Rattle.gq_search.proofs.Different.{keys_counted}
use Rattle.gq_pipe.specs.Keys.{Maker, no_maker, makers_of, build_rows}
use Rattle.gq_steps.specs.declared.group_steps.GroupSteps.{GroupSteps}
use Rattle.gq_homes.specs.Cuts.{IsCutTo, flag, groups_of}
use Rattle.gq_pipe.specs.steps.Given.{bound_by, rows_of}
use Rattle.gq_steps.specs.Levels.{Run, step_at, built_of}
use Rattle.gq_steps.specs.Groups.{no_group, group_at, group_in, groups_in}
use Rattle.gq_steps.specs.steps.Lists.{flat_in, layout_in, rows_in}
use Rattle.gq_steps.specs.Moves.{IsRun}
use Rattle.gq_pipe.specs.steps.Search.{maker_in}
use Rattle.gq_steps.proofs.Binding.{Looks, looks_given}
use Rattle.gq_homes.proofs.Cutting.{tiles_plan}
use Rattle.gq_pipe.proofs.Makers.{made_steps}
use Rattle.gq_pipe.proofs.Rebinding.{AreRead, AreTabled, own_read, tabled_runs}
use Rattle.gq_pipe.proofs.Resting.{both, grouped, have_rows, owed_mean}

read-look : {X : Type 0} (f : ℕ → X) (bs : List (ℕ × X)) → AllByRecursion (λ (b : ℕ × X). f b.0 ≡ b.1) bs → (v : ℕ) (x : X) → look bs v ≡ Some x → f v ≡ x
read-look f [] all v x e = absurd (cc e)
read-look f (b ∷ bs) all v x e = go (nat_eq b.0 v) refl e (read-look f bs all.1 v x)
  where
    go : (c : Bool) → nat_eq b.0 v ≡ c → cond c (Some b.1) (look bs v) ≡ Some x → (look bs v ≡ Some x → f v ≡ x) → f v ≡ x
    go true is e more = ap f (sym (eqb-true b.0 v is)) ∙ all.0 ∙ cc e
    go false is e more = more e

module _ (y : Typed) (p : Plan) (e : Partial) (owns : Owns y e) (tabled : AreTabled y e) (same : known_by e ≡ after p none) where
  looks : Looks y (rows_of y e) (after p none) (bound_by y p e)
  looks = looks_given y (rows_of y e) p none nothing (record { nodes = λ v. refl; rels = λ x. refl })

  read : AreRead y (rows_of y e) e
  read = own_read y e owns tabled

  pub bound_as : IsAs (after p none) e (bound_by y p e)
  bound_as = record {
    nodes = λ v h. (let n = look_some e.nodes v (ap (λ (k : Known). k.nodes v) same ∙ h) in
        n.1 ∙ ap Some (sym (read-look (node_at y (rows_of y e)) e.nodes read.nodes v n.0 n.1)) ∙ sym (looks.nodes v ∙ ap (λ b. cond b (Some (node_at y (rows_of y e) v)) None) h));
    rels = λ x h. (let r = look_some e.rels x (ap (λ (k : Known). k.rels x) same ∙ h) in
        r.1 ∙ ap Some (sym (read-look (rel_at y (rows_of y e)) e.rels read.rels x r.0 r.1)) ∙ sym (looks.rels x ∙ ap (λ b. cond b (Some (rel_at y (rows_of y e) x)) None) h));
  }

-- of all that a plan q means, which binds what p binds
pub mean_as : (g : Graph) (y : Typed) (p q : Plan) → is_valid g ≡ true → IsSound g.catalog y → Runs g.catalog y q → after p none ≡ after q none → AllByRecursion (λ e. IsAs (after q none) e (bound_by y p e)) (mean g y q nothing)
mean_as g y p q valid sound fit same = go (mean g y q nothing) (owns_runs g y q nothing (owns_nothing y) fit) (tabled_runs g y valid sound q none nothing fit (record { nodes = tt; rels = tt }))
  where
    go : (es : List Partial) → AllByRecursion (λ e. Owns y e × (known_by e ≡ after q none)) es → AllByRecursion (AreTabled y) es → AllByRecursion (λ e. IsAs (after q none) e (bound_by y p e)) es
    go [] owns tabled = tt
    go (e ∷ es) owns tabled = (subst (λ k. IsAs k e (bound_by y p e)) same (bound_as y p e owns.0.0 tabled.0 (owns.0.1 ∙ sym same)), go es owns.1 tabled.1)

unmapped : {X : Type 0} (P : Partial → Type 0) (f : X → Partial) (xs : List X) → AllByRecursion P (map f xs) → AllByRecursion (λ x. P (f x)) xs
unmapped P f [] h = tt
unmapped P f (x ∷ xs) h = (h.0, unmapped P f xs h.1)

-- so of all walks that mean the plan q
pub walks_as : (g : Graph) (y : Typed) (p q : Plan) (decoded : List ℕ → Partial) (ws : List (List ℕ)) → is_valid g ≡ true → IsSound g.catalog y → Runs g.catalog y q → after p none ≡ after q none
    → IsPermutation (map decoded ws) (mean g y q nothing) → AllByRecursion (λ w. IsAs (after q none) (decoded w) (bound_by y p (decoded w))) ws
walks_as g y p q decoded ws valid sound fit same bag =
    unmapped (λ e. IsAs (after q none) e (bound_by y p e)) decoded ws
    (recursion_from_All (λ e. IsAs (after q none) e (bound_by y p e)) (map decoded ws) (All-permutation (λ e. IsAs (after q none) e (bound_by y p e)) (mean g y q nothing) (map decoded ws) (IsPermutation-sym _ _ bag)
    (All-from_recursion (λ e. IsAs (after q none) e (bound_by y p e)) (mean g y q nothing) (mean_as g y p q valid sound fit same))))

-- ---- keys

-- keys read the rows and the flags of the groups that there are, and no others
key_same : (g : Graph) (y : Typed) (rows more : ℕ → List Partial) (f h : ℕ → Bool) (i : ℕ) (ss : List Step) (e : Partial)
    → ((j : ℕ) → i ≤ j → j < i + length ss → rows j ≡ more j) → ((j : ℕ) → i ≤ j → j < i + length ss → f j ≡ h j) → key_in g y rows f i ss e ≡ key_in g y more h i ss e
key_same g y rows more f h i [] e same flags = refl
key_same g y rows more f h i (s ∷ ss) e same flags =
    ap₂ ◌∷◌ (ap₂ (λ b r. number_of b (place_in g y r s e)) (flags i (omega arith) (omega arith)) (same i (omega arith) (omega arith)))
    (key_same g y rows more f h (i + 1) ss e (λ j low high. same j (omega (arith, low)) (omega (arith, high))) (λ j low high. flags j (omega (arith, low)) (omega (arith, high))))

-- where all of a plan is owed, its different keys are as many as those of what it means
pub counted_keys : (g : Graph) (y : Typed) (p : Plan) (rows : ℕ → List Partial) (ks : List (List ℕ)) (owed : List Partial) → IsPermutation owed (mean g y p nothing) → AreKeysOf ks (map (plan_key g y rows p) owed)
    → length ks ≡ distinct_count same_key (map (plan_key g y rows p) (mean g y p nothing))
counted_keys g y p rows ks owed bag are =
    keys_counted ks (map (plan_key g y rows p) (mean g y p nothing))
    (record { rises = are.rises; same = λ q. are.same q ∙ list_any-IsPermutation (same_key q) (map (plan_key g y rows p) owed) (map (plan_key g y rows p) (mean g y p nothing)) (IsPermutation-map (plan_key g y rows p) owed (mean g y p nothing) bag) })

-- ---- a run

module _ (c : Run) (run : IsRun c) (flat : List Bool) (ss : List GroupSteps) (cut : IsCutTo c flat ss (length c.steps)) (enough : AreFlatEnough c.graph.catalog c.typed (flag flat) 0 (groups_of (steps c.steps)) none)
    (p : Plan) (same : after p none ≡ after (steps c.steps) none) (os : List (Option Held)) (made : makers_of (steps_of p) os ≡ map (maker_in c) ss) (each : length os ≡ length (steps_of p)) (told : flat ≡ flags_of c.typed p) where
  abbrev decoded : List ℕ → Partial
  decoded w = decode c.graph c.typed (rows_in c ss) 0 (groups_in c ss) nothing w

  abbrev asked : List ℕ → Partial
  asked w = bound_by c.typed p (decode c.graph c.typed (rows_in c ss) 0 (groups_in c ss) nothing w)

  whole : plan_of (groups_in c ss) ≡ steps c.steps
  whole = tiles_plan c.steps 0 ss cut.tiles

  many : length (groups_in c ss) ≡ length ss
  many = length-map ss (group_in c.steps)

  walks_asked : AllByRecursion (λ w. IsAs (after (plan_of (groups_in c ss)) none) (decoded w) (asked w)) (walks (layout_in c ss) (length (groups_in c ss)) [])
  walks_asked =
      subst (λ q. AllByRecursion (λ w. IsAs (after q none) (decoded w) (asked w)) (walks (layout_in c ss) (length (groups_in c ss)) [])) (sym whole)
      (walks_as c.graph c.typed p (steps c.steps) decoded (walks (layout_in c ss) (length (groups_in c ss)) []) run.valid run.sound run.fits same
      (subst (λ n. IsPermutation (map decoded (walks (layout_in c ss) n [])) (mean c.graph c.typed (steps c.steps) nothing)) (sym many) (owed_mean c run flat ss cut enough)))

  -- the plan's own key is that of the groups that run
  made_are : filter makes_group (steps_of p) ≡ makers (groups_in c ss)
  made_are = sym (made_steps (steps_of p) os each) ∙ ap (map (λ (m : Maker). m.step)) made ∙ here ss
    where
      here : (ts : List GroupSteps) → map (λ (m : Maker). m.step) (map (maker_in c) ts) ≡ makers (groups_in c ts)
      here [] = refl
      here (t ∷ ts) = ap (λ l. step_at c t.first ∷ l) (here ts)

  own_rows : (j : ℕ) → j < length ss → build_rows c.typed (makers_of (steps_of p) os) j ≡ rows_in c ss j
  own_rows j low = ap (λ ms. build_rows c.typed ms j) made ∙ ap (λ (m : Maker). built_of c.typed m.step m.build) (get_or-map (maker_in c) ss j no_group no_maker low)

  own_key : (e : Partial) → plan_key c.graph c.typed (build_rows c.typed (makers_of (steps_of p) os)) p e ≡ key_in c.graph c.typed (rows_in c ss) (flat_in ss) 0 (makers (groups_in c ss)) e
  own_key e =
      ap (λ ks. key_in c.graph c.typed (build_rows c.typed (makers_of (steps_of p) os)) (flag (flags_of c.typed p)) 0 ks e) made_are
      ∙ key_same c.graph c.typed (build_rows c.typed (makers_of (steps_of p) os)) (rows_in c ss) (flag (flags_of c.typed p)) (flat_in ss) 0 (makers (groups_in c ss)) e
      (λ j low high. own_rows j (omega (arith, high, many, long)))
      (λ j low high. ap (λ l. flag l j) (sym told) ∙ sym (cut.flags j (omega (arith, high, many, long))))
    where
      long : length (makers (groups_in c ss)) ≡ length (groups_in c ss)
      long = length-map (groups_in c ss) (λ (b : Group). b.binds)

  -- each walk has the key of what it stands for, as the plan p binds it
  pub keyed : AllByRecursion (λ w. plan_key c.graph c.typed (build_rows c.typed (makers_of (steps_of p) os)) p (asked w) ≡ key_of (layout_in c ss) [] w) (walks (layout_in c ss) (length ss) [])
  keyed =
      subst (λ n. AllByRecursion (λ w. plan_key c.graph c.typed (build_rows c.typed (makers_of (steps_of p) os)) p (asked w) ≡ key_of (layout_in c ss) [] w) (walks (layout_in c ss) n [])) many
      (both (λ w. IsAs (after (plan_of (groups_in c ss)) none) (decoded w) (asked w))
      (λ w. (e : Partial) → IsAs (after (plan_of (groups_in c ss)) none) (decoded w) e → key_in c.graph c.typed (rows_in c ss) (flat_in ss) 0 (makers (groups_in c ss)) e ≡ key_of (layout_in c ss) [] w)
      (λ w. plan_key c.graph c.typed (build_rows c.typed (makers_of (steps_of p) os)) p (asked w) ≡ key_of (layout_in c ss) [] w)
      (λ w as_asked law. own_key (asked w) ∙ law (asked w) as_asked) (walks (layout_in c ss) (length (groups_in c ss)) []) walks_asked
      (keys_of_assignments c.graph c.typed (rows_in c ss) (flat_in ss) (groups_in c ss) run.valid run.sound (subst (Runs c.graph.catalog c.typed) (sym whole) run.fits) cut.cut
      (have_rows c run ss ss 0 0 (λ k low. let e : 0 + k ≡ k = omega arith in ap (group_at ss) e) (grouped c run flat ss cut enough).tiles)
      (grouped c run flat ss cut enough).enough))
