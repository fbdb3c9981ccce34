-- Where trails hold in a valid graph, their ends are nodes of it; so all nodes are, where those of the core are.
use Rattle.std.proofs.Common.{◌≡◌, ℕ, zero, suc, ◌<◌, ◌≤◌, Bool, true, false, not, ◌&&◌, cond, nat_eq, nat_le, nat_lt, Some, List, [], ◌∷◌, drop, take, length, slice_get, refl, sym, ap, ap₂, ◌∙◌, arith}
use Rattle.std.specs.List.{AllByRecursion, list_all, list_any}
use Rattle.std.proofs.lemmas.Bool.{and_parts, eqb-true}
use Rattle.std.proofs.lemmas.Bool.Decides.{nat_tests}
use Rattle.gq_base.specs.Plain.{Graph}
use Rattle.gq_base.specs.Valid.{is_valid}
use Rattle.gq_base.specs.declared.NodeId.{NodeId}
use Rattle.gq_base.specs.declared.RelId.{RelId}
use Rattle.gq_alternatives.specs.Matches.{has_type}
use Rattle.gq_plan.specs.Assignments.{Assignment, is_node, is_rel}
use Rattle.gq_plan.specs.Soundness.{has_number}
use Rattle.gq_scopes.specs.Patterns.{Pattern, MapEntry}
use Rattle.gq_law_trails.specs.Real.{is_real}
use Rattle.gq_law_trails.specs.Walks.{chained}
use Rattle.gq_plan.specs.declared.TrailPart.{TrailPart}
use Rattle.gq_law_reaches.specs.Core.{core_part, part_of, parts_from}
use Rattle.gq_law_reaches.specs.Reaches.{TrailPattern, end_of, start_of, trail_holds, trails_hold}
use Rattle.gq_law_reaches.specs.Turned.{binds}
use Rattle.gq_law_reaches.proofs.Lying.{chains_lie_in}
use Rattle.gq_law_reaches.proofs.Outside.{found}
use Rattle.gq_plan.specs.declared.NamedExpr.{NamedExpr}

module _ (g : Graph) (test : MapEntry → NamedExpr) (p : Pattern) (t : Assignment) (valid : is_valid g ≡ true) where
  abbrev IsIn : TrailPart → Type 0
  IsIn q = (n : NodeId) → slice_get t.nodes q.to ≡ Some n → is_node g n ≡ true

  chain_of : (w : TrailPattern) (l : List RelId) → trail_holds g t w l ≡ true → (nat_le w.low (length l) ≡ true) × (chained g (slice_get t.nodes (start_of w)) l (slice_get t.nodes (end_of w)) ≡ true)
  chain_of w l held =
      let asked = and_parts (nat_le w.low (length l) && nat_le (length l) w.high) (list_all (λ (r : RelId). has_type g.catalog (w.kind ∷ []) r.table) l && chained g (slice_get t.nodes (start_of w)) l (slice_get t.nodes (end_of w))) held in (
        (and_parts (nat_le w.low (length l)) (nat_le (length l) w.high) asked.0).0,
        (and_parts (list_all (λ (r : RelId). has_type g.catalog (w.kind ∷ []) r.table) l) (chained g (slice_get t.nodes (start_of w)) l (slice_get t.nodes (end_of w))) asked.1).1,
      )

  many : (low n : ℕ) → 1 ≤ low → nat_le low n ≡ true → 1 ≤ n
  many low n some least = let at_least : low ≤ n = grind (arith, nat_tests, least) in omega (arith, some, at_least)

  one_end : (from forward : Bool) (w : TrailPattern)
      → ((n : NodeId) → (slice_get t.nodes (cond forward w.left w.right) ≡ Some n → is_node g n ≡ true) × (slice_get t.nodes (cond forward w.right w.left) ≡ Some n → is_node g n ≡ true))
      → (n : NodeId) → slice_get t.nodes (cond from w.right w.left) ≡ Some n → is_node g n ≡ true
  one_end true true w h n e = (h n).1 e
  one_end true false w h n e = (h n).0 e
  one_end false true w h n e = (h n).0 e
  one_end false false w h n e = (h n).1 e

  end_in : (left right : Bool) (w : TrailPattern) (l : List RelId) → 1 ≤ w.low → trail_holds g t w l ≡ true → IsIn (part_of test p left right w)
  end_in left right w l some held =
      let chain = chain_of w l held in
      one_end left w.forward w (λ n. chains_lie_in g (slice_get t.nodes (start_of w)) (slice_get t.nodes (end_of w)) l n valid (many w.low (length l) some chain.0) chain.1)

  ends_in : (known : List ℕ) (ws : List TrailPattern) (ls : List (List RelId)) → length ws ≡ length ls → AllByRecursion (λ (w : TrailPattern). 1 ≤ w.low) ws → trails_hold g t ws ls ≡ true
      → AllByRecursion IsIn (parts_from test p known ws)
  ends_in known [] ls e some held = tt
  ends_in known (w ∷ ws) [] e some held = absurd (omega arith)
  ends_in known (w ∷ ws) (l ∷ ls) e some held =
      let both = and_parts (trail_holds g t w l) (trails_hold g t ws ls) held in
      (end_in (has_number known w.left) (has_number known w.right) w l some.0 both.0, ends_in (w.left ∷ w.right ∷ known) ws ls (omega arith) some.1 both.1)

  -- a variable that a part binds has a node of the graph
  bound_in : (parts : List TrailPart) → AllByRecursion IsIn parts → (v : ℕ) → list_any (binds v) parts ≡ true → (n : NodeId) → slice_get t.nodes v ≡ Some n → is_node g n ≡ true
  bound_in parts all v binding n e =
      let q = found IsIn (binds v) parts all binding in
      q.1.0 n (ap (slice_get t.nodes) (eqb-true q.0.to v (and_parts (not q.0.both) (nat_eq q.0.to v) q.1.1).1) ∙ e)

behind_pass : {X : Type 0} (f : X → Bool) (xs : List X) (k : ℕ) → ((v : ℕ) → k ≤ v → (x : X) → slice_get xs v ≡ Some x → f x ≡ true) → list_all f (drop k xs) ≡ true
behind_pass f [] zero h = refl
behind_pass f [] (suc k) h = refl
behind_pass f (x ∷ xs) zero h = ap₂ ◌&&◌ (h 0 (omega arith) x refl) (behind_pass f xs zero (λ v low y e. h (suc v) (omega arith) y e))
behind_pass f (x ∷ xs) (suc k) h = behind_pass f xs k (λ v high y e. h (suc v) (omega arith) y e)

parted_pass : {X : Type 0} (f : X → Bool) (xs : List X) (k : ℕ) → list_all f (drop k xs) ≡ true → list_all f (take k xs) ≡ list_all f xs
parted_pass f [] zero h = refl
parted_pass f [] (suc k) h = refl
parted_pass f (x ∷ xs) zero h = sym h
parted_pass f (x ∷ xs) (suc k) h = ap (λ b. f x && b) (parted_pass f xs k h)

within_is : {X : Type 0} (xs : List X) (v : ℕ) (x : X) → slice_get xs v ≡ Some x → v < length xs
within_is [] v x e = absurd (cc e)
within_is (y ∷ xs) zero x e = omega arith
within_is (y ∷ xs) (suc v) x e = let low : v < length xs = within_is xs v x e in omega arith

pub real_whole : (g : Graph) (test : MapEntry → NamedExpr) (k : ℕ) (p : Pattern) (known : List ℕ) (ws : List TrailPattern) (t : Assignment) (ls : List (List RelId))
    → is_valid g ≡ true → length ws ≡ length ls → AllByRecursion (λ (w : TrailPattern). 1 ≤ w.low) ws
    → ((v : ℕ) → nat_lt v k ≡ false → v < length t.nodes → list_any (binds v) (parts_from test p known ws) ≡ true)
    → trails_hold g t ws ls ≡ true → is_real g (core_part k t) ≡ is_real g t
real_whole g test k p known ws t ls valid lists some all held =
    ap (λ b. b && list_all (is_rel g) t.rels)
    (parted_pass (is_node g) t.nodes k
    (behind_pass (is_node g) t.nodes k
    (λ v high n e.
    let out : nat_lt v k ≡ false = grind (arith, nat_tests, high) in
    bound_in g test p t valid (parts_from test p known ws) (ends_in g test p t valid known ws ls lists some held) v (all v out (within_is t.nodes v n e)) n e)))
