-- What a plan binds it binds in one way: a look-up finds each binding, and what is bound is a variable of the alternative.
use Rattle.std.proofs.Common.{◌≡◌, ℕ, ◌<◌, Bool, true, false, not, ◌&&◌, ◌||◌, nat_eq, nat_lt, Option, Some, None, List, ◌∷◌, ◌++◌, length, slice_get, inl, inr, refl, sym, ap, ◌∙◌, subst, zero-add, true≢false}
use Rattle.std.specs.List.{range_with_len, AllByRecursion, list_all}
use Rattle.std.proofs.lemmas.Bool.{eqb-true, ltb-true, and_parts, or_cases, not-true}
use Rattle.std.proofs.lemmas.Option.{slice_get_within}
use Rattle.gq_base.specs.Plain.{Graph}
use Rattle.gq_base.specs.declared.NodeId.{NodeId}
use Rattle.gq_base.specs.declared.RelId.{RelId}
use Rattle.gq_base.specs.declared.direction.Direction.{Direction}
use Rattle.gq_plan.specs.Allowed.{at_same}
use Rattle.gq_plan.specs.Covers.{after, after_step, fits, fits_step, is_joined, is_new, goes}
use Rattle.gq_plan.specs.Known as known
use Rattle.gq_plan.specs.Known.{Known, none}
use Rattle.gq_plan.specs.Meaning.{Partial, nothing, with_node, with_rel, with_all, look, far, nodes_for, arrive, agree, holds, keep_if, mean, step}
use Rattle.gq_plan.specs.Soundness.{has_number}
use Rattle.gq_plan.specs.Plans.{Plan, Done, Then, Step, Scan, Extend, Close, Join, Keep, Differ, NoLoop, Single, Meet}
use Rattle.gq_plan.specs.declared.typed.Typed.{Typed}
use Rattle.gq_plan.proofs.Each.{each_of, each_map, each_flat_map, each_kept}
use Rattle.gq_law_plans.proofs.Counting.{known_by, known_by_all, at_same_is}
use Rattle.gq_plan.proofs.Pieces.{holds_some}
use Rattle.gq_law_plans.specs.Bindings.{bound}
use Rattle.gq_law_plans.proofs.Lookups.{bound_append, Found, found_bind, found_join}
use Rattle.gq_plan.proofs.Permuted.{range_all, all_numbers}

pub agree_look : (ks : List ℕ) (a b : Partial) → agree ks a b ≡ true → (v : ℕ) → has_number ks v ≡ true → look a.nodes v ≡ look b.nodes v
agree_look ks a b h v k = at_same_is (look a.nodes v) (look b.nodes v) (all_numbers (λ w. at_same (look a.nodes w) (look b.nodes w)) ks h v k)

not_both : (a b : Bool) → not (a && b) ≡ true → a ≡ true → b ≡ true → ⊥
not_both true true h j k = true≢false (sym h)
not_both true false h j k = true≢false (sym k)
not_both false b h j k = true≢false (sym j)

if_both : (a b c : Bool) → (not (a && b) || c) ≡ true → a ≡ true → b ≡ true → c ≡ true
if_both true true c h j k = h
if_both true false c h j k = absurd (true≢false (sym k))
if_both false b c h j k = absurd (true≢false (sym j))

pub record Owns (y : Typed) (a : Partial) : Type 0 where
  pub nodes : Found a.nodes a.nodes
  pub rels : Found a.rels a.rels
  pub nodes_low : (v : ℕ) → bound a.nodes v ≡ true → v < length y.nodes
  pub rels_low : (x : ℕ) → bound a.rels x ≡ true → x < length y.rels

pub owns_nothing : (y : Typed) → Owns y nothing
owns_nothing y = record { nodes = tt; rels = tt; nodes_low = λ v h. absurd (true≢false (sym h)); rels_low = λ v h. absurd (true≢false (sym h)) }

module _ (g : Graph) (y : Typed) where
  one_more : {X : Type 0} (v n : ℕ) (x : X) (bs : List (ℕ × X)) → v < n → ((w : ℕ) → bound bs w ≡ true → w < n) → (w : ℕ) → bound ((v, x) ∷ bs) w ≡ true → w < n
  one_more v n x bs low rest w h =
      let more = rest w in
      elim (or_cases (nat_eq w v) (bound bs w) h) [ inl e ↦ subst (λ u. u < n) (sym (eqb-true w v e)) low | inr e ↦ more e ]

  owns_node : (v : ℕ) (n : NodeId) (a : Partial) → is_new y (known_by a) v ≡ true → Owns y a → Owns y (with_node v n a)
  owns_node v n a new h =
      let parts = and_parts (nat_lt v (length y.nodes)) (not (bound a.nodes v)) new in
      record {
        nodes = found_bind v n a.nodes (not-true (bound a.nodes v) parts.1) h.nodes;
        rels = h.rels;
        nodes_low = one_more v (length y.nodes) n a.nodes (ltb-true v _ parts.0) h.nodes_low;
        rels_low = h.rels_low;
      }

  owns_rel : (x : ℕ) (r : RelId) (a : Partial) → x < length y.rels → not (bound a.rels x) ≡ true → Owns y a → Owns y (with_rel x r a)
  owns_rel x r a low new h = record {
    nodes = h.nodes;
    rels = found_bind x r a.rels (not-true (bound a.rels x) new) h.rels;
    nodes_low = h.nodes_low;
    rels_low = one_more x (length y.rels) r a.rels low h.rels_low;
  }

  both_low : {X : Type 0} (n : ℕ) (bs cs : List (ℕ × X)) → ((w : ℕ) → bound bs w ≡ true → w < n) → ((w : ℕ) → bound cs w ≡ true → w < n) → (w : ℕ) → bound (bs ++ cs) w ≡ true → w < n
  both_low n bs cs h k w e =
      let hw = h w in
      let kw = k w in
      elim (or_cases (bound bs w) (bound cs w) (sym (bound_append bs cs w) ∙ e)) [ inl i ↦ hw i | inr i ↦ kw i ]

  owns_all : (ks : List ℕ) (a b : Partial) → Owns y a → Owns y b → agree ks a b ≡ true → is_joined y ks (known_by b) (known_by a) ≡ true → Owns y (with_all b a)
  owns_all ks a b h k e joined =
      let parts = and_parts (list_all (λ v. bound b.nodes v && bound a.nodes v) ks) _ joined in
      let shared = and_parts (list_all (λ v. not (bound b.nodes v && bound a.nodes v) || has_number ks v) (range_with_len 0 (length y.nodes))) (list_all (λ x. not (bound b.rels x && bound a.rels x)) (range_with_len 0 (length y.rels))) parts.1 in
      record {
        nodes = found_join b.nodes a.nodes
            (λ v i j. sym (agree_look ks a b e v (if_both (bound b.nodes v) (bound a.nodes v) (has_number ks v)
            (ap (λ u. not (bound b.nodes u && bound a.nodes u) || has_number ks u) (sym (zero-add v)) ∙ range_all (λ v. not (bound b.nodes v && bound a.nodes v) || has_number ks v) 0 (length y.nodes) shared.0 v (h.nodes_low v j)) i j)))
            k.nodes h.nodes;
        rels = found_join b.rels a.rels
            (λ x i j. absurd (not_both (bound b.rels x) (bound a.rels x)
            (ap (λ u. not (bound b.rels u && bound a.rels u)) (sym (zero-add x)) ∙ range_all (λ x. not (bound b.rels x && bound a.rels x)) 0 (length y.rels) shared.1 x (h.rels_low x j)) i j))
            k.rels h.rels;
        nodes_low = both_low (length y.nodes) b.nodes a.nodes k.nodes_low h.nodes_low;
        rels_low = both_low (length y.rels) b.rels a.rels k.rels_low h.rels_low;
      }

  abbrev Made : Known → Partial → Type 0
  Made k e = Owns y e × (known_by e ≡ k)

  kept_made : (a : Partial) (b : Bool) → Owns y a → AllByRecursion (Made (known_by a)) (keep_if b a)
  kept_made a true h = ((h, refl), tt)
  kept_made a false h = tt

  arrives_made : (to : ℕ) (o : Option NodeId) (b : Partial) → is_new y (known_by b) to ≡ true → Owns y b → AllByRecursion (Made (known.with_node to (known_by b))) (arrive to o b)
  arrives_made to None b new h = tt
  arrives_made to (Some n) b new h = ((owns_node to n b new h, refl), tt)

  goes_low : (column : Bool) (x from to : ℕ) (way : Direction) → holds (goes g.catalog column from to way) (slice_get y.rels x) ≡ true → x < length y.rels
  goes_low column x from to way h = let r = holds_some (goes g.catalog column from to way) (slice_get y.rels x) h in slice_get_within y.rels x r.0 r.1

  mutual
    unfolding mean step after after_step fits fits_step

    pub owns_mean : (p : Plan) (a : Partial) → Owns y a → fits g.catalog y p (known_by a) ≡ true → AllByRecursion (λ e. Owns y e × (known_by e ≡ after p (known_by a))) (mean g y p a)
    owns_mean Done a h fit = ((h, refl), tt)
    owns_mean (Then s p) a h fit =
        let parts = and_parts (fits_step g.catalog y s (known_by a)) (fits g.catalog y p (after_step s (known_by a))) fit in
        each_flat_map (Made (after_step s (known_by a))) (Made (after p (after_step s (known_by a)))) (mean g y p)
        (λ e k. subst (λ z. AllByRecursion (Made (after p z)) (mean g y p e)) k.1 (owns_mean p e k.0 (subst (λ z. fits g.catalog y p z ≡ true) (sym k.1) parts.1)))
        (step g y s a) (owns_step s a h parts.0)

    pub owns_step : (s : Step) (a : Partial) → Owns y a → fits_step g.catalog y s (known_by a) ≡ true → AllByRecursion (λ e. Owns y e × (known_by e ≡ after_step s (known_by a))) (step g y s a)
    owns_step (Scan v) a h fit =
        each_map (λ n. Unit {0}) (Made (known.with_node v (known_by a))) (λ n. with_node v n a) (λ n _. (owns_node v n a fit h, refl)) (nodes_for g y v) (each_of _ (λ n. tt) _)
    owns_step (Extend column x from to way) a h fit =
        let parts = and_parts (holds (goes g.catalog column from to way) (slice_get y.rels x)) _ fit in
        let new = and_parts (not (bound a.rels x)) _ parts.1 in
        let ends = and_parts (bound a.nodes from) (is_new y (known_by a) to) new.1 in
        each_flat_map (λ r. Unit {0}) (Made (known.with_node to (known.with_rel x (known_by a)))) (λ r. arrive to (far g way r) (with_rel x r a))
        (λ r _. arrives_made to (far g way r) (with_rel x r a) ends.1 (owns_rel x r a (goes_low column x from to way parts.0) new.0 h)) _ (each_of _ (λ n. tt) _)
    owns_step (Close column x from to way) a h fit =
        let parts = and_parts (holds (goes g.catalog column from to way) (slice_get y.rels x)) _ fit in
        let new = and_parts (not (bound a.rels x)) _ parts.1 in
        each_map (λ r. Unit {0}) (Made (known.with_rel x (known_by a))) (λ r. with_rel x r a) (λ r _. (owns_rel x r a (goes_low column x from to way parts.0) new.0 h, refl)) _ (each_of _ (λ n. tt) _)
    owns_step (Join side ks) a h fit =
        let parts = and_parts (fits g.catalog y side none) (is_joined y ks (after side none) (known_by a)) fit in
        each_map (λ b. Made (after side none) b × (agree ks a b ≡ true)) (Made (known.with_both (after side none) (known_by a))) (λ b. with_all b a)
        (λ b k. (owns_all ks a b h k.0.0 k.1 (subst (λ z. is_joined y ks z (known_by a) ≡ true) (sym k.0.1) parts.1), known_by_all b a ∙ ap (λ z. known.with_both z (known_by a)) k.0.1))
        _ (each_kept (Made (after side none)) (agree ks a) (mean g y side nothing) (owns_mean side nothing (owns_nothing y) parts.0))
    owns_step (Keep i) a h fit = kept_made a _ h
    owns_step (Differ p) a h fit = kept_made a _ h
    owns_step (NoLoop x) a h fit = kept_made a _ h
    owns_step (Single x from to way) a h fit = absurd (true≢false (sym fit))
    owns_step (Meet x from to way) a h fit = absurd (true≢false (sym fit))
