-- The fields of a header, and their names, on their way.
use Rattle.std.proofs.Common.{◌≡◌, ℕ, ◌+◌, ◌<◌, ◌≤◌, Bool, true, false, cond, List, [], ◌∷◌, ◌++◌, length, take, drop, get_or, Some, None, Bor, refl, sym, ap, ◌∙◌, append-nil}
use Rattle.std.specs.Prelude.{◌||◌}
use Rattle.std.specs.List.{list_any}
use Rattle.std.specs.Str.{bytes_eq}
use Rattle.std.proofs.lemmas.List.{drop_all, drop_more, take-append-drop, take_all, take_more}
use Rattle.gq_base.specs.declared.catalog.Field.{Field}
use Rattle.gq_base.proofs.ListLaws.{any-snoc, distinct-more, prepend, prepend-first, prepend-nil, repeated}
use Rattle.gq_fields.specs.Fields.{field_of}
use Rattle.gq_base.specs.Valid.{same_name}
use Rattle.gq_base.specs.Lists.{all_distinct, each}

-- the fields before this place were read, and those of the texts from there on follow them
pub record Reading (texts : List (List ℕ)) (at : ℕ) (fields : List Field) : Type 0 where
  pub given : each field_of texts ≡ prepend fields (each field_of (drop at texts))

pub unread : (texts : List (List ℕ)) → Reading texts 0 []
unread texts = record { given = prepend-nil (each field_of texts) }

module _ (texts : List (List ℕ)) (at : ℕ) (fields : List Field) (h : Reading texts at fields) where
  pub all_read : length texts ≤ at → each field_of texts ≡ Some fields
  all_read e = let none : drop at texts ≡ [] = drop_all at texts e in rw (h.given, none, append-nil fields) refl

  module _ (more : at < length texts) (text : List ℕ) (is : text ≡ get_or texts at text) where
    rest : drop at texts ≡ text ∷ drop (at + 1) texts
    rest = drop_more texts at text more ∙ ap (λ t. t ∷ drop (at + 1) texts) (sym is)

    pub no_field : field_of text ≡ None → each field_of texts ≡ None
    no_field e = rw (h.given, rest, e) refl

    pub one_field : (field : Field) → field_of text ≡ Some field → Reading texts (at + 1) (fields ++ field ∷ [])
    one_field field e = record { given = h.given ∙ rw (rest, e) (prepend-first fields field (each field_of (drop (at + 1) texts))) }

-- a name is that of one of these fields
abbrev pub has_name : List Field → List ℕ → Bool
has_name fields name = list_any (λ f. bytes_eq f.name name) fields

-- the names before this place are distinct, and a set has just them
pub record Named (fields : List Field) (at : ℕ) (in_set : Bor (List ℕ) → Bool) : Type 0 where
  pub distinct : all_distinct same_name (take at fields) ≡ true
  pub same : (v : Bor (List ℕ)) → in_set v ≡ has_name (take at fields) v.now

joined : (a b : Bool) → cond a true b ≡ (b || (a || false))
joined true true = refl
joined true false = refl
joined false true = refl
joined false false = refl

pub unnamed : (fields : List Field) (in_set : Bor (List ℕ) → Bool) → ((v : Bor (List ℕ)) → in_set v ≡ false) → Named fields 0 in_set
unnamed fields in_set none = record { distinct = refl; same = none }

module _ (fields : List Field) (at : ℕ) (in_set : Bor (List ℕ) → Bool) (h : Named fields at in_set) where
  pub all_named : length fields ≤ at → all_distinct same_name fields ≡ true
  all_named e = ap (all_distinct same_name) (sym (take_all at fields e)) ∙ h.distinct

  module _ (more : at < length fields) (field : Field) (is : field ≡ get_or fields at field) (name : Bor (List ℕ)) (has : name.now ≡ field.name) where
    pub named_twice : in_set name ≡ true → all_distinct same_name fields ≡ false
    named_twice e =
        let there : has_name (take at fields) field.name ≡ true = ap (has_name (take at fields)) (sym has) ∙ sym (h.same name) ∙ e in
        let whole : fields ≡ take at fields ++ field ∷ drop (at + 1) fields =
        sym (take-append-drop at fields) ∙ ap (λ r. take at fields ++ r) (drop_more fields at field more ∙ ap (λ f. f ∷ drop (at + 1) fields) (sym is)) in
        ap (all_distinct same_name) whole ∙ repeated same_name (take at fields) (drop (at + 1) fields) field there

    pub named_once : (now : Bor (List ℕ) → Bool) → in_set name ≡ false → ((v : Bor (List ℕ)) → now v ≡ cond (bytes_eq name.now v.now) true (in_set v)) → Named fields (at + 1) now
    named_once now e adds =
        let next : take (at + 1) fields ≡ take at fields ++ field ∷ [] = take_more fields at field more ∙ ap (λ f. take at fields ++ f ∷ []) (sym is) in
        let fresh : has_name (take at fields) field.name ≡ false = ap (has_name (take at fields)) (sym has) ∙ sym (h.same name) ∙ e in
        record {
          distinct = ap (all_distinct same_name) next ∙ distinct-more same_name (take at fields) field h.distinct fresh;
          same = λ v. adds v ∙ ap (λ n. cond (bytes_eq n v.now) true (in_set v)) has ∙ ap (λ b. cond (bytes_eq field.name v.now) true b) (h.same v)
              ∙ joined (bytes_eq field.name v.now) (has_name (take at fields) v.now)
              ∙ sym (any-snoc (λ f. bytes_eq f.name v.now) (take at fields) field)
              ∙ ap (λ l. has_name l v.now) (sym next);
        }
