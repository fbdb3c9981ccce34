-- Lists of nodes by a row that may miss some of them.
use Rattle.std.proofs.Common.{◌≡◌, ◌∙◌, ap, ap₂, refl, sym, ℕ, Bool, false, ◌&&◌, ◌||◌, ltb, Option, Some, None, List, [], ◌∷◌, length, map, arith, inl, inr}
use Rattle.std.specs.Prelude.{◌⊎◌}
use Rattle.std.specs.Cmp.Lexicographic.{pointwise}
use Rattle.std.specs.List.{list_any}
use Rattle.std.proofs.lemmas.Bool.{and_right, le-ltb}
use Rattle.gq_base.specs.declared.NodeId.{NodeId}
use Rattle.gq_plan.specs.Allowed.{at_same}
use Rattle.gq_plan.specs.Assignments.{same_node}
use Rattle.gq_plan.specs.Keys.{same_nodes}
use Rattle.gq_exists.specs.declared.paths.Link.{Link}
use Rattle.gq_exists.specs.steps.Levels.{AreLevels, is_path, is_path_at, link, place, roots, same_link}
use Rattle.gq_exists.proofs.Fronts.{absent, all, has_path}

-- the nodes are these
abbrev Are : List (Option NodeId) → List NodeId → Bool
Are os key = pointwise at_same os (map Some key)

-- one of them is missing, so they are none, and lead nowhere
record Misses (os : List (Option NodeId)) : Type 0 where
  pub none : (key : List NodeId) → Are os key ≡ false
  pub no_path : (levels : List (List Link)) (front : ℕ) → is_path_at levels front os ≡ false

behind : (n : NodeId) (os : List (Option NodeId)) → Misses os → Misses (Some n ∷ os)
behind n os m = record { none = none; no_path = no_path }
  where
    none : (key : List NodeId) → Are (Some n ∷ os) key ≡ false
    none [] = refl
    none (k ∷ key) = and_right (same_node n k) (Are os key) (m.none key)

    no_path : (levels : List (List Link)) (front : ℕ) → is_path_at levels front (Some n ∷ os) ≡ false
    no_path [] front = refl
    no_path (l ∷ levels) front = and_right (ltb (place l (link front n)) (length l)) (is_path_at levels (place l (link front n)) os) (m.no_path levels (place l (link front n)))

misses : (os : List (Option NodeId)) → Misses (None ∷ os)
misses os = record { none = none; no_path = no_path }
  where
    none : (key : List NodeId) → Are (None ∷ os) key ≡ false
    none [] = refl
    none (k ∷ key) = refl

    no_path : (levels : List (List Link)) (front : ℕ) → is_path_at levels front (None ∷ os) ≡ false
    no_path [] front = refl
    no_path (l ∷ levels) front = refl

-- all are there, or one is missing
given : (os : List (Option NodeId)) → ((key : List NodeId) × (os ≡ map Some key)) ⊎ Misses os
given [] = inl ([], refl)
given (None ∷ os) = inr (misses os)
given (Some n ∷ os) = go (given os)
  where
    go : ((key : List NodeId) × (os ≡ map Some key)) ⊎ Misses os → ((key : List NodeId) × (Some n ∷ os ≡ map Some key)) ⊎ Misses (Some n ∷ os)
    go (inl (key, e)) = inl (n ∷ key, ap (λ l. Some n ∷ l) e)
    go (inr m) = inr (behind n os m)

-- ---- where all are there

are_same : (key k : List NodeId) → Are (map Some key) k ≡ same_nodes key k
are_same [] [] = refl
are_same [] (n ∷ k) = refl
are_same (m ∷ key) [] = refl
are_same (m ∷ key) (n ∷ k) = ap (λ b. same_node m n && b) (are_same key k)

path_there : (levels : List (List Link)) (front : ℕ) (key : List NodeId) → is_path_at levels front (map Some key) ≡ is_path levels front key
path_there [] front [] = refl
path_there [] front (n ∷ key) = refl
path_there (l ∷ levels) front [] = refl
path_there (l ∷ levels) front (n ∷ key) = ap (λ b. ltb (place l (link front n)) (length l) && b) (path_there levels (place l (link front n)) key)

none_any : {X : Type 0} (p : X → Bool) → ((x : X) → p x ≡ false) → (xs : List X) → list_any p xs ≡ false
none_any p h [] = refl
none_any p h (x ∷ xs) = ap₂ (λ a b. a || b) (h x) (none_any p h xs)

-- the nodes are one of the lists that levels make where they lead to it
pub has_path_at : (any : Bool) (levels : List (List Link)) (os : List (Option NodeId)) → AreLevels (length (roots any)) levels
    → (any && is_path_at levels 0 os) ≡ list_any (λ k. pointwise at_same os (map Some k)) (all any levels)
has_path_at any levels os a = go (given os)
  where
    go : ((key : List NodeId) × (os ≡ map Some key)) ⊎ Misses os → (any && is_path_at levels 0 os) ≡ list_any (λ k. pointwise at_same os (map Some k)) (all any levels)
    go (inl (key, e)) =
        ap (λ l. any && is_path_at levels 0 l) e ∙ ap (λ b. any && b) (path_there levels 0 key) ∙ has_path any levels key a
        ∙ (λ i. list_any (λ k. sym (ap (λ l. Are l k) e ∙ are_same key k) i) (all any levels))
    go (inr m) = and_right any (is_path_at levels 0 os) (m.no_path levels 0) ∙ sym (none_any (Are os) m.none (all any levels))

-- no list goes on where a link is not there
pub no_link_at : (links : List Link) (levels : List (List Link)) (k : Link) (front : ℕ) (n : NodeId) (os : List (Option NodeId)) → k ≡ link front n → false ≡ list_any (same_link k) links
    → false ≡ is_path_at (links ∷ levels) front (Some n ∷ os)
no_link_at links levels k front n os is none =
    let at_end = absent (same_link (link front n)) links (ap (λ l. list_any (same_link l) links) (sym is) ∙ sym none) in
    sym (ap (λ b. b && is_path_at levels (place links (link front n)) os) (le-ltb (place links (link front n)) (length links) (omega (arith, at_end))))
