-- The other ends of trails, together, are as the patterns outside the core ask.
use Rattle.std.proofs.Common.{◌≡◌, ℕ, zero, suc, ◌<◌, Bool, true, false, not, ◌&&◌, ◌||◌, cond, nat_eq, nat_lt, Some, List, [], ◌∷◌, filter, length, slice_get, refl, sym, ap, ◌∙◌, arith}
use Rattle.std.specs.List.{AllByRecursion, list_all, list_any}
use Rattle.std.proofs.lemmas.Bool.{and_from, and_parts, eqb-true, eq-eqb}
use Rattle.gq_base.specs.Plain.{Graph}
use Rattle.gq_alternatives.specs.Matches.{entry_holds, node_holds}
use Rattle.gq_law_plans.proofs.Wholes.{bool_iff}
use Rattle.gq_plan.proofs.Each.{each_then}
use Rattle.gq_plan.specs.Assignments.{Assignment}
use Rattle.gq_plan.specs.declared.variable.Variable.TheVariants.{Node as node, Rel as rel}
use Rattle.gq_plan.specs.declared.variable.Variable.{Variable}
use Rattle.gq_scopes.specs.Patterns.{MapEntry, NodePattern, Pattern}
use Rattle.gq_law_trails.specs.Trails.{fits_end}
use Rattle.gq_plan.specs.declared.TrailPart.{TrailPart}
use Rattle.gq_law_trails.specs.Met.{end_fits}
use Rattle.gq_law_reaches.specs.Core.{entries_at, is_core_entry, outer_match}
use Rattle.gq_law_reaches.specs.Turned.{AreBinding, AreTests, EndsAreOuter, IsBinding, binds, ends_fit}
use Rattle.gq_law_reaches.proofs.Ends.{end_fits_as_matched}
use Rattle.gq_plan.specs.declared.NamedExpr.{NamedExpr}
use Rattle.gq_law_trails.proofs.Apart.{all_each, each_all}

module _ {X : Type 0} where
  pass_kept : (f c : X → Bool) (xs : List X) → list_all f (filter c xs) ≡ true → AllByRecursion (λ x. c x ≡ true → f x ≡ true) xs
  pass_kept f c [] h = tt
  pass_kept f c (x ∷ xs) h = (here (c x) refl h, pass_kept f c xs (rest (c x) h))
    where
      here : (b : Bool) → c x ≡ b → list_all f (cond b (x ∷ filter c xs) (filter c xs)) ≡ true → c x ≡ true → f x ≡ true
      here true e h at = (and_parts (f x) (list_all f (filter c xs)) h).0
      here false e h at = let lost : true ≡ false = sym at ∙ e in absurd (cc lost)

      rest : (b : Bool) → list_all f (cond b (x ∷ filter c xs) (filter c xs)) ≡ true → list_all f (filter c xs) ≡ true
      rest true h = (and_parts (f x) (list_all f (filter c xs)) h).1
      rest false h = h

  kept_pass : (f c : X → Bool) (xs : List X) → AllByRecursion (λ x. c x ≡ true → f x ≡ true) xs → list_all f (filter c xs) ≡ true
  kept_pass f c [] h = refl
  kept_pass f c (x ∷ xs) h = go (c x) refl (kept_pass f c xs h.1)
    where
      go : (b : Bool) → c x ≡ b → list_all f (filter c xs) ≡ true → list_all f (cond b (x ∷ filter c xs) (filter c xs)) ≡ true
      go true e more = and_from (f x) (list_all f (filter c xs)) (h.0 e) more
      go false e more = more

  -- what passes of more passes of fewer
  narrower : (f c d : X → Bool) → ((x : X) → d x ≡ true → c x ≡ true) → (xs : List X) → list_all f (filter c xs) ≡ true → list_all f (filter d xs) ≡ true
  narrower f c d less xs h = kept_pass f d xs (each_then (λ x. c x ≡ true → f x ≡ true) (λ x. d x ≡ true → f x ≡ true) (λ x is at. is (less x at)) xs (pass_kept f c xs h))

  -- what holds of all items for each number holds of each item for its own
  own : (P : ℕ → X → Type 0) (Q : ℕ → Type 0) (xs : List X) → ((v : ℕ) → Q v → AllByRecursion (P v) xs) → AllByRecursion (λ x. (v : ℕ) → Q v → P v x) xs
  own P Q [] h = tt
  own P Q (x ∷ xs) h = ((λ v is. (h v is).0), own P Q xs (λ v is. (h v is).1))

  each_both : (P Q : X → Type 0) (xs : List X) → AllByRecursion P xs → AllByRecursion Q xs → AllByRecursion (λ x. P x × Q x) xs
  each_both P Q [] h k = tt
  each_both P Q (x ∷ xs) h k = ((h.0, k.0), each_both P Q xs h.1 k.1)

  pub found : (R : X → Type 0) (test : X → Bool) (xs : List X) → AllByRecursion R xs → list_any test xs ≡ true → (x : X) × (R x × (test x ≡ true))
  found R test [] h e = absurd (cc e)
  found R test (x ∷ xs) h e = go (test x) refl (λ later. found R test xs h.1 later)
    where
      go : (b : Bool) → test x ≡ b → (list_any test xs ≡ true → (y : X) × (R y × (test y ≡ true))) → (y : X) × (R y × (test y ≡ true))
      go true is more = (x, (h.0, is))
      go false is more = more (ap (λ b. b || list_any test xs) (sym is) ∙ e)

at_low : {X : Type 0} (xs : List X) (i : ℕ) → i < length xs → (x : X) × (slice_get xs i ≡ Some x)
at_low [] i low = absurd (omega arith)
at_low (x ∷ xs) zero low = (x, refl)
at_low (x ∷ xs) (suc i) low = at_low xs i (omega arith)

not_true : (b : Bool) → not b ≡ true → b ≡ false
not_true true e = absurd (cc e)
not_true false e = refl

module _ (g : Graph) (test : MapEntry → NamedExpr) (k : ℕ) (p : Pattern) (t : Assignment) (parts : List TrailPart) (tests : AreTests test) (are : AreBinding test k p t parts) where
  abbrev is_out : NodePattern → Bool
  is_out m = not (nat_lt m.variable k)

  abbrev is_at : ℕ → Variable → Bool
  is_at v (node w) = nat_eq w v
  is_at v (rel x) = false

  abbrev asked_at : ℕ → Bool
  asked_at v = list_all (node_holds g t) (filter (λ (m : NodePattern). nat_eq m.variable v) p.nodes) && list_all (entry_holds g t) (entries_at p v)

  fits_so : (q : TrailPart) → IsBinding test k p q → q.to < length t.nodes → q.both ≡ false → end_fits g q (slice_get t.nodes q.to) ≡ asked_at q.to
  fits_so q is low free =
      let n = at_low t.nodes q.to low in
      let b = is free in
      ap (end_fits g q) n.1 ∙ ap (λ c. c || fits_end g q n.0) free ∙ end_fits_as_matched g test p q t n.0 tests b.1 b.2 n.1

  fits_both : (q : TrailPart) → q.to < length t.nodes → q.both ≡ true → end_fits g q (slice_get t.nodes q.to) ≡ true
  fits_both q low met = let n = at_low t.nodes q.to low in ap (end_fits g q) n.1 ∙ ap (λ c. c || fits_end g q n.0) met

  abbrev IsOut : ℕ → Type 0
  IsOut v = (nat_lt v k ≡ false) × (v < length t.nodes)

  -- ---- where the ends fit

  at_each : ends_fit g t parts ≡ true → (v : ℕ) → nat_lt v k ≡ false → v < length t.nodes → asked_at v ≡ true
  at_each h v out low =
      let q = found (λ (q : TrailPart). (IsBinding test k p q × (q.to < length t.nodes)) × (end_fits g q (slice_get t.nodes q.to) ≡ true)) (binds v) parts
      (each_both (λ (q : TrailPart). IsBinding test k p q × (q.to < length t.nodes)) (λ (q : TrailPart). end_fits g q (slice_get t.nodes q.to) ≡ true) parts
      (each_both (IsBinding test k p) (λ (q : TrailPart). q.to < length t.nodes) parts are.binding are.ends)
      (all_each (λ (q : TrailPart). end_fits g q (slice_get t.nodes q.to)) parts h)) (are.all v out low) in
      let test = and_parts (not q.0.both) (nat_eq q.0.to v) q.1.1 in
      ap asked_at (sym (eqb-true q.0.to v test.1)) ∙ sym (fits_so q.0 q.1.0.0.0 q.1.0.0.1 (not_true q.0.both test.0)) ∙ q.1.0.1

  out_labels : ends_fit g t parts ≡ true → list_all (node_holds g t) (filter is_out p.nodes) ≡ true
  out_labels h = kept_pass (node_holds g t) is_out p.nodes
      (each_then (λ (m : NodePattern). ((v : ℕ) → IsOut v → nat_eq m.variable v ≡ true → node_holds g t m ≡ true) × (m.variable < length t.nodes)) (λ (m : NodePattern). is_out m ≡ true → node_holds g t m ≡ true)
      (λ m is out. is.0 m.variable (not_true (nat_lt m.variable k) out, is.1) (eq-eqb m.variable m.variable refl)) p.nodes
      (each_both (λ (m : NodePattern). (v : ℕ) → IsOut v → nat_eq m.variable v ≡ true → node_holds g t m ≡ true) (λ (m : NodePattern). m.variable < length t.nodes) p.nodes
      (own (λ v (m : NodePattern). nat_eq m.variable v ≡ true → node_holds g t m ≡ true) IsOut p.nodes
      (λ v out. pass_kept (node_holds g t) (λ (m : NodePattern). nat_eq m.variable v) p.nodes (and_parts (list_all (node_holds g t) (filter (λ (m : NodePattern). nat_eq m.variable v) p.nodes)) (list_all (entry_holds g t) (entries_at p v)) (at_each h v out.0 out.1)).0))
      are.nodes))

  entry_out : (e : MapEntry) → ((v : ℕ) → IsOut v → is_at v e.variable ≡ true → entry_holds g t e ≡ true) → ((v : ℕ) → e.variable ≡ node v → v < length t.nodes)
      → (w : Variable) → e.variable ≡ w → not (is_core_entry k e) ≡ true → entry_holds g t e ≡ true
  entry_out e is low (node v) same out =
      let below : not (nat_lt v k) ≡ true = ap (λ (w : Variable). not (is_core_entry k (record e { variable = w }))) (sym same) ∙ out in
      is v (not_true (nat_lt v k) below, low v same) (ap (is_at v) same ∙ eq-eqb v v refl)
  entry_out e is low (rel x) same out =
      let lost : false ≡ true = ap (λ (w : Variable). not (is_core_entry k (record e { variable = w }))) (sym same) ∙ out in absurd (cc lost)

  out_entries : ends_fit g t parts ≡ true → list_all (entry_holds g t) (filter (λ (e : MapEntry). not (is_core_entry k e)) p.entries) ≡ true
  out_entries h = kept_pass (entry_holds g t) (λ (e : MapEntry). not (is_core_entry k e)) p.entries
      (each_then (λ (e : MapEntry). ((v : ℕ) → IsOut v → is_at v e.variable ≡ true → entry_holds g t e ≡ true) × ((v : ℕ) → e.variable ≡ node v → v < length t.nodes)) (λ (e : MapEntry). not (is_core_entry k e) ≡ true → entry_holds g t e ≡ true)
      (λ e is out. entry_out e is.0 is.1 e.variable refl out) p.entries
      (each_both (λ (e : MapEntry). (v : ℕ) → IsOut v → is_at v e.variable ≡ true → entry_holds g t e ≡ true) (λ (e : MapEntry). (v : ℕ) → e.variable ≡ node v → v < length t.nodes) p.entries
      (own (λ v (e : MapEntry). is_at v e.variable ≡ true → entry_holds g t e ≡ true) IsOut p.entries
      (λ v out. pass_kept (entry_holds g t) (λ (e : MapEntry). is_at v e.variable) p.entries (and_parts (list_all (node_holds g t) (filter (λ (m : NodePattern). nat_eq m.variable v) p.nodes)) (list_all (entry_holds g t) (entries_at p v)) (at_each h v out.0 out.1)).1))
      are.entries))

  -- ---- where the patterns outside hold

  label_less : (v : ℕ) → nat_lt v k ≡ false → (m : NodePattern) → nat_eq m.variable v ≡ true → is_out m ≡ true
  label_less v out m at = ap (λ n. not (nat_lt n k)) (eqb-true m.variable v at) ∙ ap not out

  entry_less : (v : ℕ) → nat_lt v k ≡ false → (e : MapEntry) (w : Variable) → e.variable ≡ w → is_at v e.variable ≡ true → not (is_core_entry k e) ≡ true
  entry_less v out e (node w) same at =
      let here : nat_eq w v ≡ true = ap (is_at v) (sym same) ∙ at in
      ap (λ (x : Variable). not (is_core_entry k (record e { variable = x }))) same ∙ ap (λ n. not (nat_lt n k)) (eqb-true w v here) ∙ ap not out
  entry_less v out e (rel x) same at = let lost : false ≡ true = ap (is_at v) (sym same) ∙ at in absurd (cc lost)

  asked_so : outer_match g k p t ≡ true → (v : ℕ) → nat_lt v k ≡ false → asked_at v ≡ true
  asked_so h v out =
      let both = and_parts (list_all (node_holds g t) (filter is_out p.nodes)) (list_all (entry_holds g t) (filter (λ (e : MapEntry). not (is_core_entry k e)) p.entries)) h in
      and_from (list_all (node_holds g t) (filter (λ (m : NodePattern). nat_eq m.variable v) p.nodes)) (list_all (entry_holds g t) (entries_at p v))
      (narrower (node_holds g t) is_out (λ (m : NodePattern). nat_eq m.variable v) (label_less v out) p.nodes both.0)
      (narrower (entry_holds g t) (λ (e : MapEntry). not (is_core_entry k e)) (λ (e : MapEntry). is_at v e.variable) (λ e at. entry_less v out e e.variable refl at) p.entries both.1)

  one_fits : outer_match g k p t ≡ true → (q : TrailPart) → IsBinding test k p q → q.to < length t.nodes → (b : Bool) → q.both ≡ b → end_fits g q (slice_get t.nodes q.to) ≡ true
  one_fits h q is low true met = fits_both q low met
  one_fits h q is low false free = fits_so q is low free ∙ asked_so h q.to (is free).0

  all_fit : outer_match g k p t ≡ true → ends_fit g t parts ≡ true
  all_fit h = each_all (λ (q : TrailPart). end_fits g q (slice_get t.nodes q.to)) parts
      (each_then (λ (q : TrailPart). IsBinding test k p q × (q.to < length t.nodes)) (λ (q : TrailPart). end_fits g q (slice_get t.nodes q.to) ≡ true)
      (λ q is. one_fits h q is.0 is.1 q.both refl) parts
      (each_both (IsBinding test k p) (λ (q : TrailPart). q.to < length t.nodes) parts are.binding are.ends))

pub ends_are_outer : EndsAreOuter
ends_are_outer g test k p t parts tests are =
    bool_iff (ends_fit g t parts) (outer_match g k p t)
    (λ h. and_from (list_all (node_holds g t) (filter (λ (m : NodePattern). not (nat_lt m.variable k)) p.nodes)) (list_all (entry_holds g t) (filter (λ (e : MapEntry). not (is_core_entry k e)) p.entries))
    (out_labels g test k p t parts tests are h) (out_entries g test k p t parts tests are h))
    (all_fit g test k p t parts tests are)
