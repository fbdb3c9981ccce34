-- What narrowing by one relationship pattern drops stands in no choice that agrees.
use Rattle.std.proofs.Common.{rules, ◌≡◌, ℕ, zero, suc, ◌+◌, ◌<◌, arith, Bool, true, false, ◌&&◌, ◌||◌, nat_eq, Option, Some, None, List, [], ◌∷◌, ◌++◌, map, filter, length, get_or, slice_get, slice_set, refl, sym, ap, ap₂, ◌∙◌, zero-add}
use Rattle.std.specs.List.{list_all}
use Rattle.std.specs.Option.{option_map}
use Rattle.std.proofs.Math.Bool.{or-true, or-false}
use Rattle.std.proofs.lemmas.Bool.{and_parts, eqb-true, eqb-false}
use Rattle.std.proofs.lemmas.Option.{slice_get_within}
use Rattle.std.proofs.lemmas.List.{get_or-set_same, get_or-set_other}
use Rattle.gq_base.specs.Catalogs.{Tables}
use Rattle.gq_plan.proofs.Each.{each_of}
use Rattle.gq_alternatives.specs.Alternatives.{Reading}
use Rattle.gq_choices.specs.steps.Branching.{unknown}
use Rattle.gq_choices.specs.steps.Narrowing.{ends_in, has, is_in, restricting, those_of, with_number}
use Rattle.gq_alternatives.specs.Candidates.{Step}
use Rattle.gq_choices.specs.steps.Searching.{agreeing, standing, stands, stands_at, supports}
use Rattle.gq_choices.proofs.Narrowed.{kept, standing_agree, supported, supported_agree}
use Rattle.gq_alternatives.proofs.Searches.{filter_both, filter_same}
use Rattle.gq_scopes.specs.Patterns.{RelPattern}

-- ---- sets of tables

-- a place without a mark is as no place
pub has_more : (marks : List Bool) → has (marks ++ false ∷ []) ≡ has marks
has_more marks = λ i t. go marks t i
  where
    go : (xs : List Bool) (t : ℕ) → get_or (xs ++ false ∷ []) t false ≡ get_or xs t false
    go [] zero = refl
    go [] (suc t) = refl
    go (x ∷ xs) zero = refl
    go (x ∷ xs) (suc t) = go xs t

pub has_set : (marks : List Bool) (table : ℕ) → table < length marks → has (slice_set marks table true) ≡ with_number table (has marks)
has_set marks table low = λ i t. go t (nat_eq table t) refl i
  where
    go : (t : ℕ) (b : Bool) → nat_eq table t ≡ b → get_or (slice_set marks table true) t false ≡ (get_or marks t false || nat_eq table t)
    go t true e =
        ap (λ n. get_or (slice_set marks table true) n false) (sym (eqb-true table t e)) ∙ get_or-set_same marks table true false low
        ∙ sym (or-true (get_or marks t false)) ∙ ap (λ b. get_or marks t false || b) (sym e)
    go t false e =
        get_or-set_other marks table t true false (λ q. eqb-false table t e (sym q)) ∙ sym (or-false (get_or marks t false))
        ∙ ap (λ b. get_or marks t false || b) (sym e)

-- the lists of tables, with that of one variable
pub set_restricts : (set : ℕ → Bool) (v : ℕ) (lists : List (List ℕ)) (ts : List ℕ) → slice_get lists v ≡ Some ts → slice_set lists v (filter set ts) ≡ restricting set v lists
unfolding restricting
set_restricts set v [] ts e = refl
set_restricts set zero (x ∷ xs) ts e = ap (λ l. l ∷ xs) (search rules)
set_restricts set (suc v) (x ∷ xs) ts e = ap (λ l. x ∷ l) (set_restricts set v xs ts e)

pub past_restricts : (set : ℕ → Bool) (v : ℕ) (lists : List (List ℕ)) → slice_get lists v ≡ None → lists ≡ restricting set v lists
unfolding restricting
past_restricts set v [] e = refl
past_restricts set zero (x ∷ xs) e = absurd (search rules)
past_restricts set (suc v) (x ∷ xs) e = ap (λ l. x ∷ l) (past_restricts set v xs e)

pub restricted_unknown : (set : ℕ → Bool) (v : ℕ) (lists : List (List ℕ)) → unknown (restricting set v lists) ≡ unknown lists
unfolding restricting
restricted_unknown set v [] = refl
restricted_unknown set zero (x ∷ xs) = refl
restricted_unknown set (suc v) (x ∷ xs) = ap (λ l. None ∷ l) (restricted_unknown set v xs)

-- ---- a set that holds all that is wanted may be asked first

filter_first : (set fit : ℕ → Bool) → ((t : ℕ) → fit t ≡ true → set t ≡ true) → (ts : List ℕ) → filter fit (filter set ts) ≡ filter fit ts
filter_first set fit holds ts =
    sym (filter_both set fit ts)
    ∙ filter_same (λ t. set t && fit t) fit ts (each_of (λ t. (set t && fit t) ≡ fit t) (λ t. go (set t) (fit t) (holds t)) ts)
  where
    go : (a b : Bool) → (b ≡ true → a ≡ true) → (a && b) ≡ b
    go true b h = refl
    go false false h = refl
    go false true h = h refl

kept_first : (fit : ℕ → ℕ → Bool) (set : ℕ → Bool) (w v : ℕ) (lists : List (List ℕ)) → ((t : ℕ) → fit (w + v) t ≡ true → set t ≡ true)
    → kept fit w (restricting set v lists) ≡ kept fit w lists
unfolding restricting
kept_first fit set w v [] holds = refl
kept_first fit set w zero (ts ∷ tss) holds =
    let here : w + 0 ≡ w = omega arith in
    ap (λ l. l ∷ kept fit (suc w) tss) (filter_first set (fit w) (λ t h. holds t (ap (λ n. fit n t) here ∙ h)) ts)
kept_first fit set w (suc v) (ts ∷ tss) holds =
    let there : suc w + v ≡ w + suc v = omega arith in
    ap (λ l. filter (fit w) ts ∷ l) (kept_first fit set (suc w) v tss (λ t h. holds t (ap (λ n. fit n t) (sym there) ∙ h)))

-- ---- readings

is_in_stands : (tables : Option (List ℕ)) (o : Option ℕ) → is_in (those_of tables) o ≡ stands_at tables o
is_in_stands None None = refl
is_in_stands None (Some t) = refl
is_in_stands (Some ts) None = refl
is_in_stands (Some ts) (Some t) = refl

module _ (catalog : Tables) (lists : List (List ℕ)) where
  pub ends_stand : (p : RelPattern) → ends_in catalog (those_of (slice_get lists p.left)) (those_of (slice_get lists p.right)) ≡ stands catalog lists p
  ends_stand p = λ i c. go c c.reversed i
    where
      go : (c : Reading) (b : Bool) → ends_in catalog (those_of (slice_get lists p.left)) (those_of (slice_get lists p.right)) (record c { reversed = b }) ≡ stands catalog lists p (record c { reversed = b })
      go c false =
          ap₂ (λ a b. a && b) (is_in_stands (slice_get lists p.left) (option_map (λ k. k.from) (slice_get catalog.rels c.table)))
          (is_in_stands (slice_get lists p.right) (option_map (λ k. k.to) (slice_get catalog.rels c.table)))
      go c true =
          ap₂ (λ a b. a && b) (is_in_stands (slice_get lists p.right) (option_map (λ k. k.from) (slice_get catalog.rels c.table)))
          (is_in_stands (slice_get lists p.left) (option_map (λ k. k.to) (slice_get catalog.rels c.table)))

  standing_twice : (s : Step) → standing catalog lists (standing catalog lists s) ≡ standing catalog lists s
  standing_twice s =
      ap (λ rs. record { pattern = s.pattern; readings = rs })
      (sym (filter_both (stands catalog lists s.pattern) (stands catalog lists s.pattern) s.readings)
      ∙ filter_same (λ c. stands catalog lists s.pattern c && stands catalog lists s.pattern c) (stands catalog lists s.pattern) s.readings
      (each_of (λ c. (stands catalog lists s.pattern c && stands catalog lists s.pattern c) ≡ stands catalog lists s.pattern c) (λ c. go (stands catalog lists s.pattern c)) s.readings))
    where
      go : (a : Bool) → (a && a) ≡ a
      go true = refl
      go false = refl

  one_standing : (at : ℕ) (ss : List Step) (s : Step) → slice_get ss at ≡ Some s → map (standing catalog lists) (slice_set ss at (standing catalog lists s)) ≡ map (standing catalog lists) ss
  one_standing at [] s e = refl
  one_standing zero (x ∷ ss) s e = ap (λ z. z ∷ map (standing catalog lists) ss) (standing_twice s ∙ ap (standing catalog lists) (search rules))
  one_standing (suc at) (x ∷ ss) s e = ap (λ l. standing catalog lists x ∷ l) (one_standing at ss s e)

  -- the readings of one pattern that stand are enough
  pub one_standing_agree : (at : ℕ) (ss : List Step) (s : Step) → slice_get ss at ≡ Some s → agreeing catalog (slice_set ss at (standing catalog lists s)) lists ≡ agreeing catalog ss lists
  one_standing_agree at ss s e =
      sym (standing_agree catalog lists (slice_set ss at (standing catalog lists s))) ∙ ap (λ z. agreeing catalog z lists) (one_standing at ss s e)
      ∙ standing_agree catalog lists ss

-- ---- tables

all_at : (q : Step → Bool) (at : ℕ) (ss : List Step) (s : Step) → at < length ss → list_all q (slice_set ss at s) ≡ true → q s ≡ true
all_at q at [] s low h = absurd (omega arith)
all_at q zero (x ∷ ss) s low h = (and_parts (q s) (list_all q ss) h).0
all_at q (suc at) (x ∷ ss) s low h = all_at q at ss s (omega arith) (and_parts (q x) (list_all q (slice_set ss at s)) h).1

module _ (catalog : Tables) where
  -- the tables of one variable that one pattern supports are enough
  pub one_supported_agree : (at : ℕ) (ss : List Step) (s : Step) (v : ℕ) (lists : List (List ℕ)) → at < length ss
      → agreeing catalog (slice_set ss at s) (restricting (λ t. supports catalog v t s) v lists) ≡ agreeing catalog (slice_set ss at s) lists
  one_supported_agree at ss s v lists low =
      let now : List Step = slice_set ss at s in
      let set : ℕ → Bool = λ t. supports catalog v t s in
      sym (supported_agree catalog now (restricting set v lists))
      ∙ ap (agreeing catalog now) (kept_first (supported catalog now) set 0 v lists (λ t h. all_at (supports catalog v t) at ss s low (ap (λ n. supported catalog now n t) (sym (zero-add v)) ∙ h)))
      ∙ supported_agree catalog now lists

  -- the readings of one pattern that stand, and the tables at two node variables that these support, are enough
  pub narrowed_agree : (at : ℕ) (ss now : List Step) (s n : Step) (v w : ℕ) (lists one two : List (List ℕ)) (left right : ℕ → Bool) → slice_get ss at ≡ Some s
      → n ≡ standing catalog lists s → now ≡ slice_set ss at n → left ≡ (λ t. supports catalog v t n) → right ≡ (λ t. supports catalog w t n)
      → one ≡ restricting left v lists → two ≡ restricting right w one → agreeing catalog now two ≡ agreeing catalog ss lists
  narrowed_agree at ss now s n v w lists one two left right e n_is now_is left_is right_is one_is two_is =
      let low : at < length ss = slice_get_within ss at s e in
      let narrow : List (List ℕ) = restricting (λ t. supports catalog v t n) v lists in
      ap₂ (agreeing catalog) now_is
      (two_is ∙ ap₂ (λ (f : ℕ → Bool) (l : List (List ℕ)). restricting f w l) right_is (one_is ∙ ap (λ (f : ℕ → Bool). restricting f v lists) left_is))
      ∙ one_supported_agree at ss n w narrow low ∙ one_supported_agree at ss n v lists low
      ∙ ap (λ z. agreeing catalog (slice_set ss at z) lists) n_is ∙ one_standing_agree catalog lists at ss s e
