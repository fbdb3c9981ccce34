-- What a header that was read says of the records behind it.
use Rattle.std.proofs.Common.{◌≡◌, ℕ, ◌+◌, ◌≤◌, Bool, true, false, List, [], ◌∷◌, length, Some, None, refl, sym, ap, arith, ◌∙◌}
use Rattle.std.specs.Prelude.{if◌then◌else◌, nat_le}
use Rattle.std.specs.Option.{option_and_then}
use Rattle.std.specs.declared.option.Option.{Option}
use Rattle.std.proofs.lemmas.Bool.Decides.{nat_tests}
use Rattle.gq_base.specs.declared.catalog.Field.{Field}
use Rattle.gq_fields.specs.Fields.{field_of}
use Rattle.gq_base.specs.Valid.{are_fields, most_properties, same_name}
use Rattle.gq_fields.specs.Headers.{are_ends, distinct_fields, form_of, has_key, header_of, named, properties_of, too_many, with_key, within_limit}
use Rattle.gq_base.specs.Lists.{all_distinct, each, with_first}
use Rattle.gq_fields.specs.declared.header.FileKind.{FileKind}
use Rattle.gq_fields.specs.declared.header.FileKind.TheVariants as file

-- ---- widths

pub first_some : {A : Type 0} (a : Option A) (o : Option (List A)) (ys : List A) → with_first a o ≡ Some ys → (x : A) × (xs : List A) × (o ≡ Some xs) × (ys ≡ x ∷ xs) × (a ≡ Some x)
first_some (Some x) (Some xs) ys e = (x, xs, refl, sym (cc e), refl)
first_some (Some x) None ys e = cc
first_some None o ys e = cc

length-each : {A B : Type 0} (f : A → Option B) (xs : List A) (ys : List B) → each f xs ≡ Some ys → length xs ≡ length ys
length-each f [] ys e = let none : [] ≡ ys = cc e in ap length none
length-each f (x ∷ xs) ys e =
    let p = first_some (f x) (each f xs) ys e in
    let more = length-each f xs p.1 p.2 in
    let same : length ys ≡ length (p.0 ∷ p.1) = ap length p.3 in
    omega arith

some_if : {A : Type 0} (b : Bool) (x y : A) → (if b then Some x else None) ≡ Some y → x ≡ y
some_if true x y e = cc e
some_if false x y e = cc e

distinct_some : (o : Option (List Field)) (fields : List Field) → distinct_fields o ≡ Some fields → o ≡ Some fields
distinct_some None fields e = cc e
distinct_some (Some xs) fields e = ap Some (some_if (all_distinct same_name xs) xs fields e)

key_some : (o : Option (List Field)) (fields : List Field) → with_key o ≡ Some fields → o ≡ Some fields
key_some None fields e = cc e
key_some (Some xs) fields e = ap Some (some_if (has_key xs) xs fields e)

length-properties : (texts : List (List ℕ)) (fields : List Field) → properties_of texts ≡ Some fields → length texts ≡ length fields
length-properties texts fields e = length-each field_of texts fields (distinct_some (each field_of texts) fields e)

limited : (b : Bool) (xs fields : List Field) → nat_le (length xs) most_properties ≡ b → (if b then named xs else too_many) ≡ named fields → (xs ≡ fields) × (length fields ≤ most_properties)
limited true xs fields t e = let same : xs ≡ fields = cc e in let size = ap length same in (same, grind (arith, nat_tests, t, size))
limited false xs fields t e = cc e

within : (o : Option (List Field)) (fields : List Field) → within_limit o ≡ named fields → (o ≡ Some fields) × (length fields ≤ most_properties)
within None fields e = cc e
within (Some xs) fields e = let p = limited (nat_le (length xs) most_properties) xs fields refl e in (ap Some p.0, p.1)

pub few_fields : (kind : FileKind) (texts : List (List ℕ)) (fields : List Field) → header_of kind texts ≡ named fields → length fields ≤ 64
few_fields kind texts fields e = (within (form_of kind texts) fields e).1

pub length-nodes : (texts : List (List ℕ)) (fields : List Field) → header_of file.Nodes texts ≡ named fields → length texts ≡ length fields
length-nodes texts fields e = length-properties texts fields (key_some (properties_of texts) fields (within (form_of file.Nodes texts) fields e).0)

behind_ends : (b : Bool) (texts : List (List ℕ)) (fields : List Field) → option_and_then properties_of (if b then Some texts else None) ≡ Some fields → properties_of texts ≡ Some fields
behind_ends true texts fields e = e
behind_ends false texts fields e = cc e

length-form : (texts : List (List ℕ)) (fields : List Field) → form_of file.Rels texts ≡ Some fields → length texts ≡ length fields + 2
length-form [] fields e = cc
length-form (from ∷ []) fields e = cc
length-form (from ∷ to ∷ texts) fields e = let same = length-properties texts fields (behind_ends (are_ends from to) texts fields e) in omega arith

pub length-rels : (texts : List (List ℕ)) (fields : List Field) → header_of file.Rels texts ≡ named fields → length texts ≡ length fields + 2
length-rels texts fields e = length-form texts fields (within (form_of file.Rels texts) fields e).0

-- ---- names

distinct_names : (b : Bool) (xs fields : List Field) → all_distinct same_name xs ≡ b → (if b then Some xs else None) ≡ Some fields → all_distinct same_name fields ≡ true
distinct_names true xs fields t e = let same : xs ≡ fields = cc e in ap (all_distinct same_name) (sym same) ∙ t
distinct_names false xs fields t e = cc e

some_distinct : (o : Option (List Field)) (fields : List Field) → distinct_fields o ≡ Some fields → all_distinct same_name fields ≡ true
some_distinct None fields e = cc e
some_distinct (Some xs) fields e = distinct_names (all_distinct same_name xs) xs fields refl e

distinct_form : (kind : FileKind) (texts : List (List ℕ)) (fields : List Field) → form_of kind texts ≡ Some fields → all_distinct same_name fields ≡ true
distinct_form file.Nodes texts fields e = some_distinct (each field_of texts) fields (key_some (properties_of texts) fields e)
distinct_form file.Rels [] fields e = cc
distinct_form file.Rels (from ∷ []) fields e = cc
distinct_form file.Rels (from ∷ to ∷ texts) fields e = some_distinct (each field_of texts) fields (behind_ends (are_ends from to) texts fields e)

few_enough : (n : ℕ) → n ≤ most_properties → nat_le n most_properties ≡ true
few_enough n h = grind (arith, nat_tests)

pub good_fields : (kind : FileKind) (texts : List (List ℕ)) (fields : List Field) → header_of kind texts ≡ named fields → are_fields fields ≡ true
good_fields kind texts fields e = let form = within (form_of kind texts) fields e in rw (few_enough (length fields) form.1, distinct_form kind texts fields form.0) refl
