-- The ends of a valid graph's relationships are nodes of it.
use Rattle.std.proofs.Common.{◌≡◌, ℕ, zero, suc, ◌<◌, Bool, true, nat_lt, Option, Some, None, List, [], ◌∷◌, length, slice_get, IsTrue, refl, sym, ap, ◌∙◌, arith, true≢false}
use Rattle.std.specs.List.{list_all}
use Rattle.std.proofs.lemmas.Bool.{ltb-true, and_parts}
use Rattle.gq_base.specs.Lists.{all_zip}
use Rattle.gq_base.specs.Plain.{Graph, rels_at, rows_at}
use Rattle.gq_base.specs.Valid as valid
use Rattle.gq_base.specs.declared.PlainRel.{PlainRel}
use Rattle.gq_base.specs.declared.RelId.{RelId}
use Rattle.gq_base.specs.declared.RelTable.{RelTable}
use Rattle.gq_plan.specs.Assignments.{is_rel}
use Rattle.gq_plan.proofs.Pieces.{some_at}

pub zip_at : {A B : Type 0} (p : A → B → Bool) (xs : List A) (ys : List B) → all_zip p xs ys ≡ true → (i : ℕ) (y : B) → slice_get ys i ≡ Some y → (x : A) × (slice_get xs i ≡ Some x) × (p x y ≡ true)
zip_at p [] [] h i y e = absurd (cc e)
zip_at p [] (z ∷ ys) h i y e = absurd (true≢false (sym h))
zip_at p (x ∷ xs) [] h i y e = absurd (cc e)
zip_at p (x ∷ xs) (z ∷ ys) h zero y e = let same : z ≡ y = cc in (x, refl, ap (p x) (sym same) ∙ (and_parts (p x z) (all_zip p xs ys) h).0)
zip_at p (x ∷ xs) (z ∷ ys) h (suc i) y e = zip_at p xs ys (and_parts (p x z) (all_zip p xs ys) h).1 i y e

pub all_get : {X : Type 0} (p : X → Bool) (xs : List X) → list_all p xs ≡ true → (i : ℕ) (x : X) → slice_get xs i ≡ Some x → p x ≡ true
all_get p [] h i x e = absurd (cc e)
all_get p (z ∷ xs) h zero x e = let same : z ≡ x = cc in ap p (sym same) ∙ (and_parts (p z) (list_all p xs) h).0
all_get p (z ∷ xs) h (suc i) x e = all_get p xs (and_parts (p z) (list_all p xs) h).1 i x e

-- a relationship of a graph, with its table, and its ends in theirs
pub record HasEnds (g : Graph) (r : RelId) : Type 0 where
  pub table : RelTable
  pub rel : PlainRel
  pub table_is : slice_get g.catalog.rels r.table ≡ Some table
  pub rel_is : slice_get (rels_at g r.table) r.row ≡ Some rel
  pub source : IsTrue (nat_lt rel.source (length (rows_at g table.from)))
  pub target : IsTrue (nat_lt rel.target (length (rows_at g table.to)))

-- where a table's relationships are listed
rels_listed : (g : Graph) (k : ℕ) (o : Option (List PlainRel)) → slice_get g.rels k ≡ o → (i : ℕ) → i < length (rels_at g k) → (rs : List PlainRel) × (slice_get g.rels k ≡ Some rs) × (rels_at g k ≡ rs)
rels_listed g k None e i low = let none : rels_at g k ≡ [] = rw e refl in let empty : length (rels_at g k) ≡ 0 = ap length none in absurd (omega arith)
rels_listed g k (Some rs) e i low = (rs, e, rw e refl)

rows_same : (g : Graph) (k : ℕ) → valid.row_count g.nodes k ≡ length (rows_at g k)
rows_same g k = go (slice_get g.nodes k) refl
  where
    go : (o : Option _) → slice_get g.nodes k ≡ o → valid.row_count g.nodes k ≡ length (rows_at g k)
    go None e = rw e refl
    go (Some rows) e = rw e refl

-- each relationship of a valid graph has its ends
pub ends_of : (g : Graph) → IsTrue (valid.is_valid g) → (r : RelId) → is_rel g r ≡ true → HasEnds g r
ends_of g h r real =
    let all = (and_parts _ _ h).1 in
    let low : r.row < length (rels_at g r.table) = ltb-true _ _ real in
    let rels = rels_listed g r.table (slice_get g.rels r.table) refl r.row low in
    let table = zip_at (valid.are_rels g.nodes) g.catalog.rels g.rels all r.table rels.0 rels.1 in
    let rel = some_at (rels_at g r.table) r.row low in
    let within = all_get (valid.is_rel table.0.fields (valid.row_count g.nodes table.0.from) (valid.row_count g.nodes table.0.to)) rels.0 (and_parts _ _ (and_parts _ _ table.2).0).1 r.row rel.0
    (ap (λ l. slice_get l r.row) (sym rels.2) ∙ rel.1) in
    let ends = and_parts _ _ (and_parts _ _ within).0 in
    record {
      table = table.0;
      rel = rel.0;
      table_is = table.1;
      rel_is = rel.1;
      source = ap (nat_lt rel.0.source) (sym (rows_same g table.0.from)) ∙ ends.0;
      target = ap (nat_lt rel.0.target) (sym (rows_same g table.0.to)) ∙ ends.1;
    }
