-- A list is not closed between two nodes where no relationship leads from the one to the other.
use Rattle.std.proofs.Common.{◌≡◌, ℕ, zero, suc, ◌<◌, Bool, true, false, cond, eqb, Some, List, [], ◌∷◌, map, length, get_or, slice_get, refl, sym, ap, ap₂, ◌∙◌, subst, arith, inl, inr}
use Rattle.std.proofs.lemmas.Bool.{eq-eqb, eqb-true, or_right}
use Rattle.gq_adj.specs.Adjacent.{targets}
use Rattle.gq_base.specs.Directions.{opposite}
use Rattle.gq_base.specs.Plain.{Graph, rels_at}
use Rattle.gq_base.specs.declared.NodeId.{NodeId}
use Rattle.gq_base.specs.declared.PlainRel.{PlainRel}
use Rattle.gq_base.specs.declared.RelTable.{RelTable}
use Rattle.gq_base.specs.declared.direction.Direction.{Direction}
use Rattle.gq_base.specs.declared.direction.Direction.TheVariants.{Forward, Backward}
use Rattle.gq_near.specs.Rows.{stands_in}
use Rattle.gq_plan.specs.Assignments.{source, target, source_in, target_in, rels_of}
use Rattle.gq_plan.specs.Known.{Known}
use Rattle.gq_plan.specs.Meaning.{Partial, look, near, far}
use Rattle.gq_plan.specs.declared.typed.Typed.{Typed}
use Rattle.gq_plan.specs.declared.typed.TypedRel.{TypedRel}
use Rattle.gq_store.specs.Neighbours.{near_end, near_ends, neighbours}
use Rattle.gq_law_groups.specs.Groups.{Group}
use Rattle.gq_law_groups.proofs.Closing.{Marks, closes_end}
use Rattle.gq_law_groups.proofs.Ending.{EndsAt}
use Rattle.gq_pipe.specs.steps.Told.{Closes}
use Rattle.gq_plan.specs.declared.follow.Follow.{Follow}
use Rattle.gq_law_masks.proofs.Masking.{all-range, get-some}

-- the item of a pair stands among the targets of its vertex
stands-target : (fs ts : List ℕ) (i : ℕ) → i < length fs → length fs ≡ length ts → stands_in (targets (get_or fs i 0) fs ts) (get_or ts i 0) ≡ true
stands-target [] ts i low long = absurd (omega arith)
stands-target (f ∷ fs) [] i low long = absurd (omega arith)
stands-target (f ∷ fs) (t ∷ ts) zero low long = rw (eq-eqb f f refl, eq-eqb t t refl) refl
stands-target (f ∷ fs) (t ∷ ts) (suc i) low long = go (eqb f (get_or fs i 0)) (stands-target fs ts i (omega arith) (omega arith))
  where
    go : (b : Bool) → stands_in (targets (get_or fs i 0) fs ts) (get_or ts i 0) ≡ true →
        stands_in (cond b (t ∷ targets (get_or fs i 0) fs ts) (targets (get_or fs i 0) fs ts)) (get_or ts i 0) ≡ true
    go true h = or_right (eqb t (get_or ts i 0)) (stands_in (targets (get_or fs i 0) fs ts) (get_or ts i 0)) h
    go false h = h

length-ends : (way : Direction) (rs : List PlainRel) → length (map (near_end way) rs) ≡ length rs
length-ends way [] = refl
length-ends way (r ∷ rs) = ap suc (length-ends way rs)

ends-at : (way : Direction) (rs : List PlainRel) (k : ℕ) (r : PlainRel) → slice_get rs k ≡ Some r → get_or (map (near_end way) rs) k 0 ≡ near_end way r
ends-at way [] k r e = absurd (cc e)
ends-at way (q ∷ rs) zero r e = let same : q ≡ r = cc in ap (near_end way) same
ends-at way (q ∷ rs) (suc k) r e = ends-at way rs k r e

module _ (g : Graph) (t : ℕ) (table : RelTable) (table_is : slice_get g.catalog.rels t ≡ Some table) (number : ℕ) (p : PlainRel) (there : slice_get (rels_at g t) number ≡ Some p) where
  source-is : (n : NodeId) → source g (record { table = t; row = number }) ≡ Some n → get_or (near_ends g t Forward) number 0 ≡ n.row
  unfolding source
  source-is n h =
      let found : source_in (Some table) (Some p) ≡ Some n = ap₂ source_in (sym table_is) (sym there) ∙ h in
      let same : record { table = table.from; row = p.source } ≡ n = cc found in
      ends-at Forward (rels_at g t) number p there ∙ ap (λ (m : NodeId). m.row) same

  target-is : (n : NodeId) → target g (record { table = t; row = number }) ≡ Some n → get_or (near_ends g t Backward) number 0 ≡ n.row
  unfolding target
  target-is n h =
      let found : target_in (Some table) (Some p) ≡ Some n = ap₂ target_in (sym table_is) (sym there) ∙ h in
      let same : record { table = table.to; row = p.target } ≡ n = cc found in
      ends-at Backward (rels_at g t) number p there ∙ ap (λ (m : NodeId). m.row) same

  -- the target of a relationship stands in the list of its source, and the source in that of the target
  forward : (m n : NodeId) → target g (record { table = t; row = number }) ≡ Some m → source g (record { table = t; row = number }) ≡ Some n → number < length (rels_at g t) →
      stands_in (neighbours g t Forward n.row) m.row ≡ true
  forward m n f h low =
      subst (λ v. stands_in (targets v (near_ends g t Forward) (near_ends g t Backward)) m.row ≡ true) (source-is n h)
      (subst (λ w. stands_in (targets (get_or (near_ends g t Forward) number 0) (near_ends g t Forward) (near_ends g t Backward)) w ≡ true) (target-is m f)
      (stands-target (near_ends g t Forward) (near_ends g t Backward) number (omega (arith, low, length-ends Forward (rels_at g t))) (length-ends Forward (rels_at g t) ∙ sym (length-ends Backward (rels_at g t)))))

  backward : (m n : NodeId) → target g (record { table = t; row = number }) ≡ Some m → source g (record { table = t; row = number }) ≡ Some n → number < length (rels_at g t) →
      stands_in (neighbours g t Backward m.row) n.row ≡ true
  backward m n f h low =
      subst (λ v. stands_in (targets v (near_ends g t Backward) (near_ends g t Forward)) n.row ≡ true) (target-is m f)
      (subst (λ w. stands_in (targets (get_or (near_ends g t Backward) number 0) (near_ends g t Backward) (near_ends g t Forward)) w ≡ true) (source-is n h)
      (stands-target (near_ends g t Backward) (near_ends g t Forward) number (omega (arith, low, length-ends Backward (rels_at g t))) (length-ends Backward (rels_at g t) ∙ sym (length-ends Forward (rels_at g t)))))

  -- the far row of a relationship stands in the list of its near row
  leads : (way : Direction) (m n : NodeId) → far g way (record { table = t; row = number }) ≡ Some m → near g way (record { table = t; row = number }) ≡ Some n → number < length (rels_at g t) →
      stands_in (neighbours g t way n.row) m.row ≡ true
  leads Forward m n f h low = forward m n f h low
  leads Backward m n f h low = backward n m h f low

  -- and the near row in that of the far row, the other way round
  returns : (way : Direction) (m n : NodeId) → far g (opposite way) (record { table = t; row = number }) ≡ Some m → near g (opposite way) (record { table = t; row = number }) ≡ Some n → number < length (rels_at g t) →
      stands_in (neighbours g t way m.row) n.row ≡ true
  returns Forward m n f h low = forward n m h f low
  returns Backward m n f h low = backward m n f h low

module _ (g : Graph) (y : Typed) (x : ℕ) (r : TypedRel) (t : RelTable) (is : slice_get y.rels x ≡ Some r) (table_is : slice_get g.catalog.rels r.table ≡ Some t) where
  marks-of : (way : Direction) (selected marked : NodeId → Bool)
      → ((number : ℕ) (p : PlainRel) → number < length (rels_at g r.table) → slice_get (rels_at g r.table) number ≡ Some p → (m : NodeId) → far g way (record { table = r.table; row = number }) ≡ Some m → selected m ≡ true → (n : NodeId) → near g way (record { table = r.table; row = number }) ≡ Some n → marked n ≡ true)
      → Marks g y x way selected marked
  unfolding rels_of
  marks-of way selected marked each =
      rw is (all-range (λ q. (m : NodeId) → far g way q ≡ Some m → selected m ≡ true → (n : NodeId) → near g way q ≡ Some n → marked n ≡ true) (λ row. record { table = r.table; row = row }) 0 (length (rels_at g r.table))
      (λ i low. (let inside : i < length (rels_at g r.table) = omega (arith, low) in
      let p = get-some (rels_at g r.table) i inside in
      each i p.0 inside p.1)))

  -- followed from the first node, it does not lead to the second
  marks-to : (way : Direction) (own : ℕ) → Marks g y x way (λ q. eqb q.row own) (λ q. stands_in (neighbours g r.table way q.row) own)
  marks-to way own =
      marks-of way (λ q. eqb q.row own) (λ q. stands_in (neighbours g r.table way q.row) own)
      (λ number p low there m f on n h. subst (λ v. stands_in (neighbours g r.table way n.row) v ≡ true) (eqb-true m.row own on) (leads g r.table t table_is number p there way m n f h low))

  -- followed from the second node, the other way round, it does not lead to the first
  marks-back : (way : Direction) (other : ℕ) → Marks g y x (opposite way) (λ q. eqb q.row other) (λ q. stands_in (neighbours g r.table way other) q.row)
  marks-back way other =
      marks-of (opposite way) (λ q. eqb q.row other) (λ q. stands_in (neighbours g r.table way other) q.row)
      (λ number p low there m f on n h. subst (λ v. stands_in (neighbours g r.table way v) n.row ≡ true) (eqb-true m.row other on) (returns g r.table t table_is number p there way m n f h low))

-- of a place whose node's row is no neighbour of the other one's row, a group that closes between them makes nothing
pub lacking : (g : Graph) (y : Typed) (rows : ℕ → List Partial) (i : ℕ) (b : Group) (gs : List Group) (k : Known) (a : Partial) (f : Follow) (r : TypedRel) (t : RelTable) (n m : NodeId)
    → slice_get y.rels f.rel ≡ Some r → slice_get g.catalog.rels r.table ≡ Some t → Closes f b.binds
    → k.nodes f.from ≡ true → look a.nodes f.from ≡ Some n → k.nodes f.to ≡ true → look a.nodes f.to ≡ Some m
    → stands_in (neighbours g r.table f.direction n.row) m.row ≡ false → EndsAt g y rows i b gs k a
lacking g y rows i b gs k a f r t n m is table_is (inl binds) from here to there off =
    closes_end g y rows (λ q. eqb q.row m.row) (λ q. stands_in (neighbours g r.table f.direction q.row) m.row) i b gs k a f.rel f.from f.to f.direction n m binds
    (marks-to g y f.rel r t is table_is f.direction m.row) from here off to there (eq-eqb m.row m.row refl)
lacking g y rows i b gs k a f r t n m is table_is (inr binds) from here to there off =
    closes_end g y rows (λ q. eqb q.row n.row) (λ q. stands_in (neighbours g r.table f.direction n.row) q.row) i b gs k a f.rel f.to f.from (opposite f.direction) m n binds
    (marks-back g y f.rel r t is table_is f.direction n.row) to there off from here (eq-eqb n.row n.row refl)
