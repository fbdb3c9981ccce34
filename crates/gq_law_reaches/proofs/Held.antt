-- What the parts of trails ask of turned lists is what the trails hold of the lists.
use Rattle.std.proofs.Common.{◌≡◌, ℕ, Bool, true, false, ◌&&◌, ◌||◌, cond, nat_eq, nat_le, Option, Some, None, List, [], ◌∷◌, ◌++◌, length, reverse, slice_get, refl, ap, ap₂, ◌∙◌, arith}
use Rattle.std.specs.List.{list_all}
use Rattle.std.specs.Cmp.Lexicographic.{pointwise}
use Rattle.std.proofs.lemmas.List.{length-reverse, reverse-append, reverse-reverse}
use Rattle.gq_base.specs.Plain.{Graph}
use Rattle.gq_base.specs.declared.RelId.{RelId}
use Rattle.gq_base.specs.declared.RelTable.{RelTable}
use Rattle.gq_base.specs.declared.direction.Direction.{Direction}
use Rattle.gq_base.specs.declared.direction.Direction.TheVariants.{Forward, Backward}
use Rattle.gq_alternatives.specs.Matches.{has_type}
use Rattle.gq_plan.specs.Assignments.{Assignment, is_rel}
use Rattle.gq_plan.specs.Soundness.{has_number}
use Rattle.gq_scopes.specs.Patterns.{Name, Pattern, MapEntry}
use Rattle.gq_law_trails.specs.Walks.{chained, is_of_type}
use Rattle.gq_plan.specs.declared.TrailPart.{TrailPart}
use Rattle.gq_law_trails.specs.Asked.{trail_asked, trails_asked}
use Rattle.gq_law_trails.specs.Met.{begun_at, end_fits, ended_at, turned}
use Rattle.gq_law_reaches.specs.Core.{part_of, parts_from, way_of}
use Rattle.gq_law_reaches.specs.Reaches.{TrailPattern, trail_holds, trails_hold}
use Rattle.gq_law_reaches.specs.Turned.{TrailsAskedAsHeld, ends_fit, turned_all}
use Rattle.gq_plan.specs.declared.NamedExpr.{NamedExpr}

pub all_append : {A : Type 0} (f : A → Bool) (xs ys : List A) → list_all f (xs ++ ys) ≡ (list_all f xs && list_all f ys)
all_append f [] ys = refl
all_append f (x ∷ xs) ys = ap (λ b. f x && b) (all_append f xs ys) ∙ assoc (f x) (list_all f xs) (list_all f ys)
  where
    assoc : (a b c : Bool) → (a && (b && c)) ≡ ((a && b) && c)
    assoc true b c = refl
    assoc false b c = refl

all_reverse : {A : Type 0} (f : A → Bool) (xs : List A) → list_all f (reverse xs) ≡ list_all f xs
all_reverse f [] = refl
all_reverse f (x ∷ xs) = ap (list_all f) (reverse-append (x ∷ []) xs) ∙ all_append f (reverse xs) (x ∷ []) ∙ ap (λ b. b && (f x && true)) (all_reverse f xs) ∙ turn (list_all f xs) (f x)
  where
    turn : (a b : Bool) → (a && (b && true)) ≡ (b && a)
    turn a b = grind arith

turned_all_pass : (f : RelId → Bool) (way : Direction) (l : List RelId) → list_all f (turned way l) ≡ list_all f l
turned_all_pass f Forward l = refl
turned_all_pass f Backward l = all_reverse f l

turned_length : (way : Direction) (l : List RelId) → length (turned way l) ≡ length l
turned_length Forward l = refl
turned_length Backward l = length-reverse l

turned_twice : (way : Direction) (l : List RelId) → turned way (turned way l) ≡ l
turned_twice Forward l = refl
turned_twice Backward l = reverse-reverse l

all_same : {A : Type 0} (f h : A → Bool) → ((x : A) → f x ≡ h x) → (xs : List A) → list_all f xs ≡ list_all h xs
all_same f h same [] = refl
all_same f h same (x ∷ xs) = ap₂ ◌&&◌ (same x) (all_same f h same xs)

type_is : (g : Graph) (kind : Name) (r : RelId) → is_of_type g kind r ≡ has_type g.catalog (kind ∷ []) r.table
type_is g kind r = go (slice_get g.catalog.rels r.table) refl
  where
    plain : (b : Bool) → b ≡ (b || false)
    plain true = refl
    plain false = refl

    go : (o : Option RelTable) → slice_get g.catalog.rels r.table ≡ o → is_of_type g kind r ≡ has_type g.catalog (kind ∷ []) r.table
    go None e = rw e refl
    go (Some k) e = rw e (plain (pointwise nat_eq k.name kind))

module _ (g : Graph) (test : MapEntry → NamedExpr) (p : Pattern) (t : Assignment) where
  ends_are : (left right forward : Bool) (a b : ℕ) (l : List RelId)
      → chained g (begun_at (way_of left forward) (slice_get t.nodes (cond left a b)) (slice_get t.nodes (cond left b a))) l (ended_at (way_of left forward) (slice_get t.nodes (cond left a b)) (slice_get t.nodes (cond left b a)))
      ≡ chained g (slice_get t.nodes (cond forward a b)) l (slice_get t.nodes (cond forward b a))
  ends_are true right true a b l = refl
  ends_are true right false a b l = refl
  ends_are false right true a b l = refl
  ends_are false right false a b l = refl

  asked_as_held : (left right : Bool) (w : TrailPattern) (l : List RelId)
      → trail_asked g (part_of test p left right w) t (turned (way_of left w.forward) l)
      ≡ ((list_all (is_rel g) l && trail_holds g t w l) && end_fits g (part_of test p left right w) (slice_get t.nodes (part_of test p left right w).to))
  asked_as_held left right w l =
      let q : TrailPart = part_of test p left right w in
      ap₂ (λ real many. (real && (((nat_le w.low many && nat_le many w.high)) && (list_all (is_of_type g w.kind) (turned q.way l) && chained g (begun_at q.way (slice_get t.nodes q.from) (slice_get t.nodes q.to)) (turned q.way (turned q.way l)) (ended_at q.way (slice_get t.nodes q.from) (slice_get t.nodes q.to))))) && end_fits g q (slice_get t.nodes q.to))
      (turned_all_pass (is_rel g) q.way l) (turned_length q.way l)
      ∙ ap₂ (λ typed chain. (list_all (is_rel g) l && ((nat_le w.low (length l) && nat_le (length l) w.high) && (typed && chain))) && end_fits g q (slice_get t.nodes q.to))
      (turned_all_pass (is_of_type g w.kind) q.way l ∙ all_same (is_of_type g w.kind) (λ (r : RelId). has_type g.catalog (w.kind ∷ []) r.table) (type_is g w.kind) l)
      (ap (λ m. chained g (begun_at q.way (slice_get t.nodes q.from) (slice_get t.nodes q.to)) m (ended_at q.way (slice_get t.nodes q.from) (slice_get t.nodes q.to))) (turned_twice q.way l)
      ∙ ends_are left right w.forward w.left w.right l)

  regrouped : (a b c d e f : Bool) → (((a && b) && c) && ((d && e) && f)) ≡ (((a && d) && (b && e)) && (c && f))
  regrouped a b c d e f = grind arith

  all_asked : (known : List ℕ) (ts : List TrailPattern) (ls : List (List RelId)) → length ts ≡ length ls
      → trails_asked g (parts_from test p known ts) t (turned_all (parts_from test p known ts) ls)
      ≡ ((list_all (list_all (is_rel g)) ls && trails_hold g t ts ls) && ends_fit g t (parts_from test p known ts))
  all_asked known [] [] e = refl
  all_asked known [] (l ∷ ls) e = absurd (omega arith)
  all_asked known (w ∷ ts) [] e = absurd (omega arith)
  all_asked known (w ∷ ts) (l ∷ ls) e =
      let q : TrailPart = part_of test p (has_number known w.left) (has_number known w.right) w in
      ap₂ ◌&&◌ (asked_as_held (has_number known w.left) (has_number known w.right) w l) (all_asked (w.left ∷ w.right ∷ known) ts ls (omega arith))
      ∙ regrouped (list_all (is_rel g) l) (trail_holds g t w l) (end_fits g q (slice_get t.nodes q.to)) (list_all (list_all (is_rel g)) ls) (trails_hold g t ts ls) (ends_fit g t (parts_from test p (w.left ∷ w.right ∷ known) ts))

pub trails_asked_as_held : TrailsAskedAsHeld
trails_asked_as_held g test p known ts t ls e = all_asked g test p t known ts ls e
