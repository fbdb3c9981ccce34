-- The conditions of a match, as the code looks at them.
use Rattle.std.proofs.Common.{◌≡◌, ap, refl, ℕ, ◌≤◌, Bool, false, Some, None, List, [], ◌∷◌, length, arith}
use Rattle.std.specs.Cmp.Lexicographic.{pointwise}
use Rattle.std.specs.Prelude.{Option, nat_eq, ◌&&◌, slice_get}
use Rattle.std.specs.List.{list_any}
use Rattle.std.proofs.lemmas.Option.{slice_get_past}
use Rattle.gq_base.specs.Catalogs.{Tables}
use Rattle.gq_base.specs.Lists.{all_zip}
use Rattle.gq_base.specs.Plain.{Graph}
use Rattle.gq_base.specs.declared.RelId.{RelId}
use Rattle.gq_base.specs.declared.RelTable.{RelTable}
use Rattle.gq_alternatives.specs.Matches.{has_type, rel_holds, rels_hold}
use Rattle.gq_plan.specs.Assignments.{Assignment}
use Rattle.gq_scopes.specs.Patterns.{Name, RelPattern}

none_of : {X : Type 0} (xs : List X) → list_any (λ x. false) xs ≡ false
none_of [] = refl
none_of (x ∷ xs) = none_of xs

-- whether a table, if it is there, has a name
abbrev is_typed : Option RelTable → Name → Bool
is_typed None name = false
is_typed (Some table) name = pointwise nat_eq table.name name

none_typed : (table : Option RelTable) (names : List Name) → table ≡ None → list_any (is_typed table) names ≡ false
none_typed None names e = none_of names
none_typed (Some table) names e = cc e

-- a table that is not there has no type
pub no_such_type : (catalog : Tables) (kinds : List Name) (table : ℕ) → length catalog.rels ≤ table → 1 ≤ length kinds → has_type catalog kinds table ≡ false
no_such_type catalog [] table past some = absurd (omega arith)
no_such_type catalog (k ∷ ks) table past some = none_typed (slice_get catalog.rels table) (k ∷ ks) (slice_get_past catalog.rels table past)

-- patterns and relationships are tested side by side
pub rels_hold_zip : (g : Graph) (t : Assignment) (ps : List RelPattern) (rs : List RelId) → rels_hold g t ps rs ≡ all_zip (rel_holds g t) ps rs
rels_hold_zip g t [] [] = refl
rels_hold_zip g t [] (r ∷ rs) = refl
rels_hold_zip g t (p ∷ ps) [] = refl
rels_hold_zip g t (p ∷ ps) (r ∷ rs) = ap (λ b. rel_holds g t p r && b) (rels_hold_zip g t ps rs)
