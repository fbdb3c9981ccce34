-- A name that no read has, beside a set of names.
use Rattle.std.proofs.Common.{◌≡◌, ◌∙◌, ap, sym, refl, ℕ, Bool, true, false, not, cond, ◌&&◌, ◌||◌, List, [], ◌∷◌, ◌++◌, Bor}
use Rattle.gq_plan.specs.declared.variable.Variable.{Variable}
use Rattle.std.specs.Prelude.{Result, Ok, Err, OnOk, OnErr}
use Rattle.std.specs.List.{list_any}
use Rattle.std.specs.Str.{bytes_eq}
use Rattle.std.proofs.lemmas.Bool.{true≢false}
use Rattle.std.proofs.lemmas.List.Folds.{list_any-append}
use Rattle.gq_plan.specs.Reads.{Read, property, same_read, same_variable}
use Rattle.gq_plan.specs.steps.Reads.{has_name}

none : (a b l m : Bool) → (b || l) ≡ false → (l ≡ false → m ≡ false) → ((a && b) || m) ≡ false
none true false l m e h = h e
none false false l m e h = h e
none a true l m e h = elim (true≢false e) [ ]

-- where no read has a name, no read is of a property of this name
pub no_read : (v : Variable) (name : List ℕ) (rs : List Read) → list_any (has_name name) rs ≡ false → list_any (λ q. same_read q (property v name)) rs ≡ false
no_read v name [] e = refl
no_read v name (r ∷ rs) e = none (same_variable r.variable v) (has_name name r) (list_any (has_name name) rs) (list_any (λ q. same_read q (property v name)) rs) e (no_read v name rs)

pub not_there : (b : Bool) → not b ≡ true → b ≡ false
not_there false e = refl
not_there true e = sym e

parts : (b c : Bool) → cond b true c ≡ false → (b ≡ false) × (c ≡ false)
parts true c e = elim (true≢false e) [ ]
parts false c e = (refl, e)

-- a set that lacks the names which no read has, with one more name and its read
module _ (before after : Bor (List ℕ) → Bool) (old new : List Read) (v : Variable) (name : List ℕ) (h : (n : Bor (List ℕ)) → before n ≡ false → list_any (has_name n.now) old ≡ false) (k : (n : Bor (List ℕ)) → after n ≡ cond (bytes_eq name n.now) true (before n)) where
  pub still_apart : {T E : Type 0} (r : Result T E) → OnOk r (new ≡ old ++ property v name ∷ []) → OnErr r (new ≡ old) → (n : Bor (List ℕ)) → after n ≡ false → list_any (has_name n.now) new ≡ false
  still_apart (Ok x) pushed kept n e =
      let both = parts (bytes_eq name n.now) (before n) (sym (k n) ∙ e) in
      ap (list_any (has_name n.now)) pushed ∙ list_any-append (has_name n.now) old (property v name ∷ [])
      ∙ ap (λ b. b || (bytes_eq name n.now || false)) (h n both.1) ∙ ap (λ b. b || false) both.0
  still_apart (Err x) pushed kept n e = ap (list_any (has_name n.now)) kept ∙ h n (parts (bytes_eq name n.now) (before n) (sym (k n) ∙ e)).1
