-- Distinct items on their way, beside a set of what they are told apart by.
use Rattle.std.proofs.Common.{◌≡◌, ℕ, ◌+◌, ◌<◌, ◌≤◌, Bool, true, false, cond, List, [], ◌∷◌, ◌++◌, length, map, take, drop, get_or, Some, None, Bor, refl, sym, ap, ◌∙◌, append-nil, arith, inl, inr, replicate, set}
use Rattle.std.specs.Prelude.{◌==◌, ◌||◌, All}
use Rattle.std.specs.declared.option.Option.{Option}
use Rattle.std.specs.List.{list_any}
use Rattle.std.specs.Str.{bytes_eq}
use Rattle.std.proofs.lemmas.Bool.{cases_lt}
use Rattle.std.proofs.lemmas.Bool.Decides.{nat_tests}
use Rattle.std.proofs.lemmas.Grind.{common_steps}
use Rattle.std.proofs.lemmas.List.{drop_all, drop_more, get_or_past, get_or-replicate, get_or-set_other, get_or-set_same, length-replicate, length-set, map-append, take-append-drop, take_all, take_more}
use Rattle.gq_base.proofs.ListLaws.{any-snoc, distinct-more, prepend, prepend-first, prepend-nil, repeated}
use Rattle.gq_base.specs.Lists.{all_distinct, each, with_first}
use Rattle.gq_base.specs.Valid.{are_unique, has_keys, key_of, same_key, same_name}
use Rattle.gq_base.specs.Values.{Val, val}
use Rattle.gq_base.specs.declared.catalog.Field.{Field}
use Rattle.gq_base.specs.declared.cell.Cell.{Cell}
use Rattle.gq_base.specs.declared.cell.PlainRel.{PlainRel}
use Rattle.gq_base.specs.declared.value.Value.{Value}
use Rattle.gq_plain.specs.steps.Ends.{row_at}
use Rattle.gq_plain.specs.declared.distinct.End.{End}

-- ---- items of any kind

-- these items are distinct, and the set has what each of them is told apart by
pub record Apart {X K : Type 0} (same : X → X → Bool) (hits : X → K → Bool) (xs : List X) (in_set : K → Bool) : Type 0 where
  pub distinct : all_distinct same xs ≡ true
  pub marked : (k : K) → in_set k ≡ list_any (λ x. hits x k) xs

joined : (a b : Bool) → cond a true b ≡ (b || (a || false))
joined true true = refl
joined true false = refl
joined false true = refl
joined false false = refl

module _ {X K : Type 0} (same : X → X → Bool) (hits : X → K → Bool) where
  no_items : (in_set : K → Bool) → ((k : K) → in_set k ≡ false) → Apart same hits [] in_set
  no_items in_set none = record { distinct = refl; marked = none }

  module _ (xs : List X) (in_set : K → Bool) (h : Apart same hits xs in_set) (x : X) (key : K) (is : (y : X) → hits y key ≡ same y x) where
    found : in_set key ≡ list_any (λ y. same y x) xs
    found = h.marked key ∙ ap (λ (p : X → Bool). list_any p xs) (λ i y. is y i)

    twice : (ys : List X) → in_set key ≡ true → all_distinct same (xs ++ x ∷ ys) ≡ false
    twice ys e = repeated same xs ys x (sym found ∙ e)

    once : (now : K → Bool) → in_set key ≡ false → ((k : K) → now k ≡ cond (hits x k) true (in_set k)) → Apart same hits (xs ++ x ∷ []) now
    once now e adds = record {
      distinct = distinct-more same xs x h.distinct (sym found ∙ e);
      marked = λ k. adds k ∙ ap (λ b. cond (hits x k) true b) (h.marked k) ∙ joined (hits x k) (list_any (λ y. hits y k) xs) ∙ sym (any-snoc (λ y. hits y k) xs x);
    }

split_at : {X : Type 0} (xs : List X) (at : ℕ) (x : X) → at < length xs → x ≡ get_or xs at x → xs ≡ take at xs ++ x ∷ drop (at + 1) xs
split_at xs at x more is = sym (take-append-drop at xs) ∙ ap (λ r. take at xs ++ r) (drop_more xs at x more ∙ ap (λ y. y ∷ drop (at + 1) xs) (sym is))

take_next : {X : Type 0} (xs : List X) (at : ℕ) (x : X) → at < length xs → x ≡ get_or xs at x → take (at + 1) xs ≡ take at xs ++ x ∷ []
take_next xs at x more is = take_more xs at x more ∙ ap (λ y. take at xs ++ y ∷ []) (sym is)

-- ---- names of fields

abbrev pub is_name : Field → Bor (List ℕ) → Bool
is_name field name = bytes_eq field.name name.now

-- the names before this place are distinct, and the set has just them
pub record Named (fields : List Field) (at : ℕ) (in_set : Bor (List ℕ) → Bool) : Type 0 where
  pub names : Apart same_name is_name (take at fields) in_set

pub unnamed : (fields : List Field) (in_set : Bor (List ℕ) → Bool) → ((v : Bor (List ℕ)) → in_set v ≡ false) → Named fields 0 in_set
unnamed fields in_set none = record { names = no_items same_name is_name in_set none }

module _ (fields : List Field) (at : ℕ) (in_set : Bor (List ℕ) → Bool) (h : Named fields at in_set) where
  pub all_named : length fields ≤ at → all_distinct same_name fields ≡ true
  all_named e = ap (all_distinct same_name) (sym (take_all at fields e)) ∙ h.names.distinct

  module _ (more : at < length fields) (field : Field) (is : field ≡ get_or fields at field) (name : Bor (List ℕ)) (has : name.now ≡ field.name) where
    hits_same : (f : Field) → is_name f name ≡ same_name f field
    hits_same f = ap (λ n. bytes_eq f.name n) has

    pub named_twice : in_set name ≡ true → all_distinct same_name fields ≡ false
    named_twice e = ap (all_distinct same_name) (split_at fields at field more is)
        ∙ twice same_name is_name (take at fields) in_set h.names field name hits_same (drop (at + 1) fields) e

    pub named_once : (now : Bor (List ℕ) → Bool) → in_set name ≡ false → ((v : Bor (List ℕ)) → now v ≡ cond (bytes_eq name.now v.now) true (in_set v)) → Named fields (at + 1) now
    named_once now e adds = record {
      names = rw (take_next fields at field more is) (once same_name is_name (take at fields) in_set h.names field name hits_same now e
          (λ v. adds v ∙ ap (λ n. cond (bytes_eq n v.now) true (in_set v)) has));
    }

-- ---- rows at an end

abbrev pub same_row : ℕ → ℕ → Bool
same_row a b = a == b

-- the rows at an end of the relationships before this place are distinct, and the set has just them
pub record Ended (end : End) (rels : List PlainRel) (at : ℕ) (in_set : ℕ → Bool) : Type 0 where
  pub rows : Apart same_row same_row (map (row_at end) (take at rels)) in_set

pub unended : (end : End) (rels : List PlainRel) (in_set : ℕ → Bool) → ((v : ℕ) → in_set v ≡ false) → Ended end rels 0 in_set
unended end rels in_set none = record { rows = no_items same_row same_row in_set none }

module _ (end : End) (rels : List PlainRel) (at : ℕ) (in_set : ℕ → Bool) (h : Ended end rels at in_set) where
  pub all_ended : length rels ≤ at → all_distinct same_row (map (row_at end) rels) ≡ true
  all_ended e = ap (λ l. all_distinct same_row (map (row_at end) l)) (sym (take_all at rels e)) ∙ h.rows.distinct

  module _ (more : at < length rels) (rel : PlainRel) (is : rel ≡ get_or rels at rel) (row : ℕ) (has : row ≡ row_at end rel) where
    pub ended_twice : in_set row ≡ true → all_distinct same_row (map (row_at end) rels) ≡ false
    ended_twice e = ap (λ l. all_distinct same_row (map (row_at end) l)) (split_at rels at rel more is)
        ∙ ap (all_distinct same_row) (map-append (row_at end) (take at rels) (rel ∷ drop (at + 1) rels))
        ∙ ap (λ r. all_distinct same_row (map (row_at end) (take at rels) ++ r ∷ map (row_at end) (drop (at + 1) rels))) (sym has)
        ∙ twice same_row same_row (map (row_at end) (take at rels)) in_set h.rows row row (λ y. refl) (map (row_at end) (drop (at + 1) rels)) e

    next_rows : map (row_at end) (take (at + 1) rels) ≡ map (row_at end) (take at rels) ++ row ∷ []
    next_rows = ap (map (row_at end)) (take_next rels at rel more is) ∙ map-append (row_at end) (take at rels) (rel ∷ [])
        ∙ ap (λ r. map (row_at end) (take at rels) ++ r ∷ []) (sym has)

    pub ended_once : (now : ℕ → Bool) → in_set row ≡ false → ((v : ℕ) → now v ≡ cond (row == v) true (in_set v)) → Ended end rels (at + 1) now
    ended_once now e adds = record {
      rows = rw next_rows (once same_row same_row (map (row_at end) (take at rels)) in_set h.rows row row (λ y. refl) now e adds);
    }

-- a mark for each of so many rows tells which of them stand at an end of the relationships before this place
pub record Marked (end : End) (rels : List PlainRel) (count at : ℕ) (marks : List Bool) : Type 0 where
  pub size : length marks ≡ count
  pub told : Ended end rels at (λ row. get_or marks row false)

none_marked : (count row : ℕ) → get_or (replicate count false) row false ≡ false
none_marked count row = elim (cases_lt row count) [
  | inl less ↦ get_or-replicate count row false false less
  | inr more ↦ get_or_past (replicate count false) row false (omega (arith, length-replicate count false))
]

one_marked : (marks : List Bool) (row k : ℕ) → row < length marks → get_or (set marks row true) k false ≡ cond (row == k) true (get_or marks k false)
one_marked marks row k less = grind (arith, nat_tests, common_steps, get_or-set_same marks row true false less, get_or-set_other marks row k true false)

pub unmarked : (end : End) (rels : List PlainRel) (count : ℕ) → Marked end rels count 0 (replicate count false)
unmarked end rels count = record { size = length-replicate count false; told = unended end rels (λ row. get_or (replicate count false) row false) (none_marked count) }

module _ (end : End) (rels : List PlainRel) (count at : ℕ) (marks : List Bool) (h : Marked end rels count at marks) where
  pub all_marked : length rels ≤ at → all_distinct same_row (map (row_at end) rels) ≡ true
  all_marked e = all_ended end rels at _ h.told e

  module _ (more : at < length rels) (rel : PlainRel) (is : rel ≡ get_or rels at rel) (row : ℕ) (has : row ≡ row_at end rel) where
    pub row_within : All (λ rel. row_at end rel < count) rels → row < length marks
    row_within within = let size = h.size in let less = within at rel more in
        let same : row ≡ row_at end (get_or rels at rel) = has ∙ ap (row_at end) is in omega arith

    pub marked_twice : get_or marks row false ≡ true → all_distinct same_row (map (row_at end) rels) ≡ false
    marked_twice e = ended_twice end rels at _ h.told more rel is row has e

    pub marked_once : row < length marks → get_or marks row false ≡ false → Marked end rels count (at + 1) (set marks row true)
    marked_once less e = record {
      size = length-set marks row true ∙ h.size;
      told = ended_once end rels at _ h.told more rel is row has (λ k. get_or (set marks row true) k false) e (λ k. one_marked marks row k less);
    }

-- ---- keys of rows

abbrev pub is_key : Val → Value → Bool
is_key key value = same_key key (val value)

-- the rows before this place have distinct keys, and the set has just them
pub record Keyed (rows : List (List (Option Cell))) (at : ℕ) (in_set : Value → Bool) : Type 0 where
  pub keys : List Val
  pub given : each key_of rows ≡ prepend keys (each key_of (drop at rows))
  pub apart : Apart same_key is_key keys in_set

no_list : (keys : List Val) (o : Option (List Val)) → are_unique (prepend keys (with_first None o)) ≡ false
no_list keys o = refl

unique_or_none : (keys : List Val) (key : Val) (o : Option (List Val)) → ((ys : List Val) → all_distinct same_key (keys ++ key ∷ ys) ≡ false) → are_unique (prepend keys (with_first (Some key) o)) ≡ false
unique_or_none keys key None none = refl
unique_or_none keys key (Some others) none = none others

pub unkeyed : (rows : List (List (Option Cell))) (in_set : Value → Bool) → ((v : Value) → in_set v ≡ false) → Keyed rows 0 in_set
unkeyed rows in_set none = record { keys = []; given = prepend-nil (each key_of rows); apart = no_items same_key is_key in_set none }

module _ (rows : List (List (Option Cell))) (at : ℕ) (in_set : Value → Bool) (h : Keyed rows at in_set) where
  pub all_keyed : length rows ≤ at → has_keys rows ≡ true
  all_keyed e = let none : drop at rows ≡ [] = drop_all at rows e in rw (h.given, none, append-nil h.keys) h.apart.distinct

  module _ (more : at < length rows) (row : List (Option Cell)) (is : row ≡ get_or rows at row) where
    rest : drop at rows ≡ row ∷ drop (at + 1) rows
    rest = drop_more rows at row more ∙ ap (λ r. r ∷ drop (at + 1) rows) (sym is)

    pub no_key : key_of row ≡ None → has_keys rows ≡ false
    no_key e = rw (h.given, rest, e) (no_list h.keys (each key_of (drop (at + 1) rows)))

    module _ (key : Value) (has : key_of row ≡ Some (val key)) where
      pub keyed_twice : in_set key ≡ true → has_keys rows ≡ false
      keyed_twice e = rw (h.given, rest, has) (unique_or_none h.keys (val key) (each key_of (drop (at + 1) rows))
          (λ ys. twice same_key is_key h.keys in_set h.apart (val key) key (λ y. refl) ys e))

      pub keyed_once : (now : Value → Bool) → in_set key ≡ false → ((v : Value) → now v ≡ cond (same_key (val key) (val v)) true (in_set v)) → Keyed rows (at + 1) now
      keyed_once now e adds = record {
        keys = h.keys ++ val key ∷ [];
        given = h.given ∙ rw (rest, has) (prepend-first h.keys (val key) (each key_of (drop (at + 1) rows)));
        apart = once same_key is_key h.keys in_set h.apart (val key) key (λ y. refl) now e adds;
      }
