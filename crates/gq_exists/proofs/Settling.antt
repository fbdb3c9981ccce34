-- Where all choices of a chunk have the same key, the first of them is as good as all.
use Rattle.std.proofs.Common.{◌≡◌, ◌∙◌, ap, ap₂, refl, sym, subst, ℕ, ◌+◌, ◌<◌, ◌≤◌, zero, suc, Bool, true, false, ◌||◌, Option, None, Some, List, [], ◌∷◌, ◌++◌, length, map, slice_get, slice_index_or, Result, arith, true≢false}
use Rattle.std.specs.Prelude.{is_some, slice_index}
use Rattle.std.specs.List.{AllByRecursion}
use Rattle.std.specs.Option.{unwrap_or}
use Rattle.std.proofs.lemmas.Bool.{and_parts, eqb-true}
use Rattle.gq_base.specs.declared.NodeId.{NodeId}
use Rattle.gq_group.specs.Chunks.{node_at, node_in}
use Rattle.gq_group.specs.Groups.{AreSelected, choices, is_current, is_selected, later_choices}
use Rattle.gq_group.specs.declared.chunk.Chunk.{Chunk}
use Rattle.gq_group.specs.declared.group.Group.{Group}
use Rattle.gq_group.specs.declared.home.Homes.{Homes}
use Rattle.gq_group.specs.declared.home.NodeHome.{NodeHome}
use Rattle.gq_group.specs.declared.home.NodeHome.TheVariants as node
use Rattle.gq_join.specs.declared.build.JoinRefusal.{JoinRefusal}
use Rattle.gq_pipe.proofs.Filling.{found_or}
use Rattle.gq_pipe.proofs.Products.{all_selected}
use Rattle.gq_plan.specs.Keys.{has_key, same_nodes}
use Rattle.gq_plan.specs.declared.typed.Typed.{Typed}
use Rattle.gq_exists.specs.declared.gathering.Gathering.{Gathering}
use Rattle.gq_exists.specs.steps.Gathered.{Gathers, key_at, keys_at}
use Rattle.gq_exists.specs.steps.Settled.{IsFlat, IsSettled}
use Rattle.gq_exists.proofs.Gathered.{Same, alike}
use Rattle.gq_exists.proofs.Taking.{key_more}

-- ---- groups and variables

selected_at : (i : ℕ) (gs : List Group) (ps : List ℕ) (g : Group) → AreSelected gs ps → slice_get gs i ≡ Some g → is_selected g (slice_index ps i) ≡ true
selected_at i [] ps g h is = absurd (cc is)
selected_at i (x ∷ gs) [] g h is = absurd h
selected_at zero (x ∷ gs) (p ∷ ps) g h is = let same : x ≡ g = cc is in subst (λ y. is_selected y p ≡ true) same h.0
selected_at (suc i) (x ∷ gs) (p ∷ ps) g h is = selected_at i gs ps g h.1 is

-- the selected positions of a group with a current one are that
at_current : (g : Group) (at p : ℕ) → g.current ≡ Some at → is_selected g p ≡ true → p ≡ at
at_current g at p e h =
    let here = (and_parts (is_current g.current p) _ h).0 in
    eqb-true p at (ap (λ o. is_current o p) (sym e) ∙ here)

all_current : (g : Group) (o : Option ℕ) → g.current ≡ o → is_some o ≡ true → (p q : ℕ) → is_selected g p ≡ true → is_selected g q ≡ true → p ≡ q
all_current g None e some p q a b = absurd (true≢false (sym some))
all_current g (Some at) e some p q a b = at_current g at p e a ∙ sym (at_current g at q e b)

pub flat : (c : Chunk) (i : ℕ) (g : Group) → slice_get c.groups.now i ≡ Some g → is_some g.current ≡ true → IsFlat c i
flat c i g there some ps qs a b =
    all_current g g.current refl some (slice_index ps i) (slice_index qs i) (selected_at i c.groups.now ps g a there) (selected_at i c.groups.now qs g b there)

-- where a variable lives, told by the homes that a chunk hands out
pub found_at : (c : Chunk) (hs : Homes) → hs ≡ c.homes.now → (v : ℕ) (o : Option NodeHome) → o ≡ slice_get hs.nodes v → unwrap_or o node.Nowhere ≡ slice_index_or c.homes.now.nodes v node.Nowhere
found_at c hs same v o e = found_or c.homes.now.nodes v node.Nowhere o (e ∙ ap (λ (h : Homes). slice_get h.nodes v) same)

-- what a variable has by its home
pub settled : (c : Chunk) (v : ℕ) (h : NodeHome) → h ≡ slice_index_or c.homes.now.nodes v node.Nowhere
    → ((ps qs : List ℕ) → AreSelected c.groups.now ps → AreSelected c.groups.now qs → node_in c ps h ≡ node_in c qs h) → IsSettled c v
settled c v h e same ps qs a b = ap (node_in c ps) (sym e) ∙ same ps qs a b ∙ ap (node_in c qs) e

-- ---- keys

suc_is : (n : ℕ) → n + 1 ≡ suc n
suc_is n = omega arith

pub same_key : (y : Typed) (c : Chunk) (ps qs : List ℕ) → AreSelected c.groups.now ps → AreSelected c.groups.now qs → (n : ℕ) → n ≤ length y.nodes → ((v : ℕ) → v < n → IsSettled c v)
    → key_at y n c ps ≡ key_at y n c qs
same_key y c ps qs a b zero le all = refl
same_key y c ps qs a b (suc n) le all =
    let t = slice_index_or y.nodes n 0 in
    let one : (rs : List ℕ) → key_at y (suc n) c rs ≡ key_at y n c rs ++ record { table = t; row = node_at c rs n } ∷ [] =
    λ rs. ap (λ m. key_at y m c rs) (sym (suc_is n)) ∙ key_more y c rs n t (node_at c rs n) (omega (arith, le)) refl refl in
    one ps
    ∙ ap₂ (λ k r. k ++ record { table = t; row = r } ∷ []) (same_key y c ps qs a b n (omega (arith, le)) (λ v lt. all v (omega (arith, lt)))) (all n (omega arith) ps qs a b)
    ∙ sym (one qs)

module _ (P : List ℕ → Type 0) (f : List ℕ → List NodeId) (k : List NodeId) (same : (ps : List ℕ) → P ps → f ps ≡ k) where
  none_more : (q : List NodeId) (pss : List (List ℕ)) → AllByRecursion P pss → same_nodes q k ≡ false → false ≡ has_key q (map f pss)
  none_more q [] all e = refl
  none_more q (ps ∷ pss) all e = none_more q pss all.1 e ∙ ap (λ b. b || has_key q (map f pss)) (sym (ap (same_nodes q) (same ps all.0) ∙ e))

  once : (pss : List (List ℕ)) → AllByRecursion P pss → Same (k ∷ []) (k ∷ map f pss)
  once pss all q = go (same_nodes q k) refl
    where
      go : (b : Bool) → same_nodes q k ≡ b → (b || false) ≡ (b || has_key q (map f pss))
      go true e = refl
      go false e = none_more q pss all e

-- the key of the first choice is that of all
pub first_alone : (y : Typed) (c : Chunk) (old new : Gathering) (r : Result (Unit {0}) JoinRefusal) → old.width ≤ length y.nodes → ((v : ℕ) → v < old.width → IsSettled c v)
    → (ps here : List ℕ) → here ≡ ps → choices c.groups.now ≡ ps ∷ later_choices c.groups.now ps → Gathers (key_at y old.width c here ∷ []) old new r → Gathers (keys_at y old.width c (choices c.groups.now)) old new r
first_alone y c old new r le all ps here is first h =
    let gs = c.groups.now in
    let later = later_choices gs ps in
    let w = old.width in
    let selected = subst (AllByRecursion (AreSelected gs)) first (all_selected gs) in
    let same = once (AreSelected gs) (key_at y w c) (key_at y w c ps) (λ qs b. same_key y c qs ps b selected.0 w le all) later selected.1 in
    subst (λ l. Gathers (keys_at y w c l) old new r) (sym first)
    (alike (key_at y w c ps ∷ []) (keys_at y w c (ps ∷ later)) old new r same (subst (λ l. Gathers (key_at y w c l ∷ []) old new r) is h))
