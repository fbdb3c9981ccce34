-- What a step that makes no group makes, place by place, is what it makes.
use Rattle.std.proofs.Common.{◌≡◌, Bool, true, false, cond, List, [], ◌∷◌, ◌++◌, map, filter, flat_map, refl, sym, ap, ◌∙◌, true≢false}
use Rattle.std.proofs.lemmas.Grind.{flat_map-append}
use Rattle.std.proofs.lemmas.List.{append-nil}
use Rattle.gq_base.specs.Plain.{Graph}
use Rattle.gq_plan.specs.Allowed.{at_same}
use Rattle.gq_plan.specs.Meaning.{Partial, with_rel, look, far, arrive, keep_if, step, rels_from}
use Rattle.gq_plan.specs.Plans.{Step, Scan, Extend, Close, Join, Keep, Differ, NoLoop, Single, Meet}
use Rattle.gq_plan.specs.declared.typed.Typed.{Typed}
use Rattle.gq_steps.specs.Tries.{tries}
use Rattle.gq_law_groups.specs.Groups.{makes_group}

-- ---- one step, place by place

through : {X A B : Type 0} (f : A → List B) (h : X → List A) (xs : List X) → flat_map (flat_map f) (map h xs) ≡ flat_map f (flat_map h xs)
through f h [] = refl
through f h (x ∷ xs) = ap (λ l. flat_map f (h x) ++ l) (through f h xs) ∙ sym (flat_map-append f (h x) (flat_map h xs))

kept_each : {X : Type 0} (p : X → Bool) (w : X → Partial) (xs : List X) → flat_map (λ x. keep_if (p x) (w x)) xs ≡ map w (filter p xs)
kept_each p w [] = refl
kept_each p w (x ∷ xs) = ap (λ l. keep_if (p x) (w x) ++ l) (kept_each p w xs) ∙ go (p x)
  where
    go : (b : Bool) → keep_if b (w x) ++ map w (filter p xs) ≡ map w (cond b (x ∷ filter p xs) (filter p xs))
    go true = refl
    go false = refl

pub all_tries : {B : Type 0} (g : Graph) (y : Typed) (rows : List Partial) (f : Partial → List B) (s : Step) (a : Partial) → makes_group s ≡ false → flat_map (flat_map f) (tries g y rows s a) ≡ flat_map f (step g y s a)
unfolding tries step
all_tries g y rows f (Scan v) a h = absurd (true≢false h)
all_tries g y rows f (Extend column x from to way) a h = through f (λ r. arrive to (far g way r) (with_rel x r a)) (rels_from g y x way (look a.nodes from))
all_tries g y rows f (Close column x from to way) a h =
    through f (λ r. keep_if (at_same (look a.nodes to) (far g way r)) (with_rel x r a)) (rels_from g y x way (look a.nodes from))
    ∙ ap (flat_map f) (kept_each (λ r. at_same (look a.nodes to) (far g way r)) (λ r. with_rel x r a) (rels_from g y x way (look a.nodes from)))
all_tries g y rows f (Join side keys) a h = absurd (true≢false h)
all_tries g y rows f (Keep i) a h = append-nil (flat_map f (step g y (Keep i) a))
all_tries g y rows f (Differ p) a h = append-nil (flat_map f (step g y (Differ p) a))
all_tries g y rows f (NoLoop x) a h = append-nil (flat_map f (step g y (NoLoop x) a))
all_tries g y rows f (Single x from to way) a h =
    through f (λ r. with_rel x r a ∷ []) (rels_from g y x way (look a.nodes from)) ∙ ap (flat_map f) (one_each (λ r. with_rel x r a) (rels_from g y x way (look a.nodes from)))
  where
    one_each : {X : Type 0} (w : X → Partial) (xs : List X) → flat_map (λ x. w x ∷ []) xs ≡ map w xs
    one_each w [] = refl
    one_each w (x ∷ xs) = ap (λ l. w x ∷ l) (one_each w xs)
all_tries g y rows f (Meet x from to way) a h = append-nil (flat_map f (step g y (Meet x from to way) a))
