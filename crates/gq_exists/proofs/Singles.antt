-- Lists of one node each.
use Rattle.std.proofs.Common.{◌≡◌, ◌∙◌, ap, ap₂, refl, sym, ℕ, Bool, true, false, cond, ◌&&◌, ◌||◌, Option, Some, None, List, [], ◌∷◌, ◌++◌, length, map, arith}
use Rattle.std.specs.Prelude.{◌==◌}
use Rattle.std.specs.Cmp.Lexicographic.{pointwise}
use Rattle.std.specs.List.{list_any}
use Rattle.std.proofs.lemmas.Bool.{eqb-false, eqb-true}
use Rattle.std.proofs.lemmas.List.{map-append}
use Rattle.gq_base.specs.declared.NodeId.{NodeId}
use Rattle.gq_plan.specs.Allowed.{at_same}
use Rattle.gq_plan.specs.Assignments.{same_node}
use Rattle.gq_plan.specs.Keys.{has_key, same_nodes}
use Rattle.gq_exists.specs.steps.Levels.{with_key}
use Rattle.gq_exists.specs.steps.Rows.{singles, with_node}

-- ---- tests that are of the one node, or of none

alone : (b : Bool) → (b && true) ≡ b
alone true = refl
alone false = refl

never : (b : Bool) → (b && false) ≡ false
never true = refl
never false = refl

module _ (p : List NodeId → Bool) where
  any_single : (q : NodeId → Bool) → ((m : NodeId) → p (m ∷ []) ≡ q m) → (nodes : List NodeId) → list_any p (singles nodes) ≡ list_any q nodes
  any_single q h [] = refl
  any_single q h (m ∷ nodes) = ap₂ ◌||◌ (h m) (any_single q h nodes)

  any_none : ((m : NodeId) → p (m ∷ []) ≡ false) → (nodes : List NodeId) → list_any p (singles nodes) ≡ false
  any_none h [] = refl
  any_none h (m ∷ nodes) = ap₂ ◌||◌ (h m) (any_none h nodes)

-- ---- lists among them

pub has_one : (n : NodeId) (nodes : List NodeId) → has_key (n ∷ []) (singles nodes) ≡ list_any (same_node n) nodes
has_one n nodes = any_single (same_nodes (n ∷ [])) (same_node n) (λ m. alone (same_node n m)) nodes

pub has_none : (key nodes : List NodeId) → length key ≡ 0 → has_key key (singles nodes) ≡ false
has_none [] nodes z = any_none (same_nodes []) (λ m. refl) nodes
has_none (n ∷ key) nodes z = absurd (omega (arith, z))

pub has_more : (n m : NodeId) (ns : List NodeId) (nodes : List NodeId) → has_key (n ∷ m ∷ ns) (singles nodes) ≡ false
has_more n m ns nodes = any_none (same_nodes (n ∷ m ∷ ns)) (λ x. never (same_node n x)) nodes

pub has_front : (key : List NodeId) (n : NodeId) (others nodes : List NodeId) → key ≡ n ∷ others → (length others == 0) ≡ true → has_key key (singles nodes) ≡ list_any (same_node n) nodes
has_front key n [] nodes e z = ap (λ k. has_key k (singles nodes)) e ∙ has_one n nodes
has_front key n (m ∷ others) nodes e z = let none = eqb-true (length (m ∷ others)) 0 z in absurd (omega (arith, none))

pub has_long : (key : List NodeId) (n : NodeId) (others nodes : List NodeId) → key ≡ n ∷ others → (length others == 0) ≡ false → has_key key (singles nodes) ≡ false
has_long key n [] nodes e z = absurd (eqb-false 0 0 z refl)
has_long key n (m ∷ others) nodes e z = ap (λ k. has_key k (singles nodes)) e ∙ has_more n m others nodes

-- ---- rows that stand on them

abbrev pub Stands : List (Option NodeId) → List NodeId → Bool
Stands os nodes = list_any (λ k. pointwise at_same os (map Some k)) (singles nodes)

pub stands_one : (n : NodeId) (nodes : List NodeId) → Stands (Some n ∷ []) nodes ≡ list_any (same_node n) nodes
stands_one n nodes = any_single (λ k. pointwise at_same (Some n ∷ []) (map Some k)) (same_node n) (λ m. alone (same_node n m)) nodes

pub stands_missing : (nodes : List NodeId) → Stands (None ∷ []) nodes ≡ false
stands_missing nodes = any_none (λ k. pointwise at_same (None ∷ []) (map Some k)) (λ m. refl) nodes

pub stands_none : (vs : List ℕ) (rows : ℕ → Option NodeId) (nodes : List NodeId) → length vs ≡ 0 → Stands (map rows vs) nodes ≡ false
stands_none [] rows nodes z = any_none (λ k. pointwise at_same [] (map Some k)) (λ m. refl) nodes
stands_none (v ∷ vs) rows nodes z = absurd (omega (arith, z))

pub stands_more : (o p : Option NodeId) (os : List (Option NodeId)) (nodes : List NodeId) → Stands (o ∷ p ∷ os) nodes ≡ false
stands_more o p os nodes = any_none (λ k. pointwise at_same (o ∷ p ∷ os) (map Some k)) (λ m. never (at_same o (Some m))) nodes

module _ (vs : List ℕ) (v : ℕ) (others : List ℕ) (rows : ℕ → Option NodeId) (nodes : List NodeId) (is : vs ≡ v ∷ others) where
  pub stands_at : (length others == 0) ≡ true → (o : Option NodeId) → o ≡ rows v → Stands (map rows vs) nodes ≡ Stands (o ∷ []) nodes
  stands_at z o e = ap (λ l. Stands (map rows l) nodes) is ∙ go others z ∙ ap (λ x. Stands (x ∷ []) nodes) (sym e)
    where
      go : (ws : List ℕ) → (length ws == 0) ≡ true → Stands (map rows (v ∷ ws)) nodes ≡ Stands (rows v ∷ []) nodes
      go [] z = refl
      go (w ∷ ws) z = let none = eqb-true (length (w ∷ ws)) 0 z in absurd (omega (arith, none))

  pub stands_long : (length others == 0) ≡ false → Stands (map rows vs) nodes ≡ false
  stands_long z = ap (λ l. Stands (map rows l) nodes) is ∙ go others z
    where
      go : (ws : List ℕ) → (length ws == 0) ≡ false → Stands (map rows (v ∷ ws)) nodes ≡ false
      go [] z = absurd (eqb-false 0 0 z refl)
      go (w ∷ ws) z = stands_more (rows v) (rows w) (map rows ws) nodes

-- ---- one more

pub with_single : (nodes : List NodeId) (n : NodeId) → singles (with_node nodes n) ≡ with_key (singles nodes) (n ∷ [])
with_single nodes n =
    go (list_any (same_node n) nodes) ∙ ap (λ b. cond b (singles nodes) (singles nodes ++ (n ∷ []) ∷ [])) (sym (has_one n nodes))
  where
    go : (b : Bool) → singles (cond b nodes (nodes ++ n ∷ [])) ≡ cond b (singles nodes) (singles nodes ++ (n ∷ []) ∷ [])
    go true = refl
    go false = map-append (λ m. m ∷ []) nodes (n ∷ [])

pub one_front : (rest key : List NodeId) (n : NodeId) → key ≡ n ∷ rest → length key ≡ 1 → key ≡ n ∷ []
one_front [] key n is e = is
one_front (m ∷ rest) key n is e = absurd (omega (arith, e, ap length is))
