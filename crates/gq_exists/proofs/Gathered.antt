-- Keys that come one after another: what is gathered of them, and where they are too many.
use Rattle.std.proofs.Common.{◌≡◌, ◌∙◌, ap, refl, sym, subst, ℕ, ◌<◌, ◌≤◌, Bool, true, false, cond, ◌||◌, List, [], ◌∷◌, ◌++◌, length, Result, Ok, Err, append_assoc, append-nil, true≢false}
use Rattle.std.specs.Prelude.{OnOk}
use Rattle.std.specs.List.{AllByRecursion}
use Rattle.std.proofs.lemmas.List.Folds.{list_any-append}
use Rattle.gq_base.specs.declared.NodeId.{NodeId}
use Rattle.gq_join.specs.declared.build.JoinRefusal.{JoinRefusal}
use Rattle.gq_join.specs.declared.build.JoinRefusal.TheVariants as refusal
use Rattle.gq_plan.proofs.Each.{each_append, each_then}
use Rattle.gq_plan.specs.Keys.{has_key, same_nodes}
use Rattle.gq_exists.specs.Different.{AreDifferent, HasMany}
use Rattle.gq_exists.specs.declared.gathering.Gathering.{Gathering}
use Rattle.gq_exists.specs.declared.keys.Keys.{Keys}
use Rattle.gq_exists.specs.steps.Gathered.{Gathers, IsGathering, Stands, TakesOn}
use Rattle.gq_exists.specs.steps.Levels.{with_key}
use Rattle.gq_exists.specs.steps.Stored.{keys_in}
use Rattle.gq_exists.proofs.Fronts.{same_is, same_refl}

abbrev pub AllKeys : Type 0
AllKeys = List (List NodeId)

-- the same keys
abbrev pub Same : AllKeys → AllKeys → Type 0
Same xs ys = (key : List NodeId) → has_key key xs ≡ has_key key ys

-- each key is among others
abbrev pub Within : AllKeys → AllKeys → Type 0
Within xs ys = (key : List NodeId) → has_key key xs ≡ true → has_key key ys ≡ true

pub or_left : (a b : Bool) → a ≡ true → (a || b) ≡ true
or_left a b e = ap (λ c. c || b) e

pub or_right : (a b : Bool) → b ≡ true → (a || b) ≡ true
or_right true b e = refl
or_right false b e = e

-- what follows from a fact on success does on success
pub on_ok : {U E A B : Type 0} (r : Result U E) → (A → B) → OnOk r A → OnOk r B
on_ok (Ok u) f a = f a
on_ok (Err e) f a = a

-- ---- keys apart

pub all_among : (ks all : AllKeys) → Within ks all → AllByRecursion (λ k. has_key k all ≡ true) ks
all_among [] all h = tt
all_among (k ∷ ks) all h = (h k (or_left (same_nodes k k) (has_key k ks) (same_refl k)), all_among ks all (λ l e. h l (or_right (same_nodes l k) (has_key l ks) e)))

pub none_same : (key : List NodeId) (ks : AllKeys) → has_key key ks ≡ false → AllByRecursion (λ l. same_nodes key l ≡ false) ks
none_same key [] e = tt
none_same key (k ∷ ks) e = go (same_nodes key k) refl e (none_same key ks)
  where
    go : (b : Bool) → same_nodes key k ≡ b → (b || has_key key ks) ≡ false → (has_key key ks ≡ false → AllByRecursion (λ l. same_nodes key l ≡ false) ks)
        → (same_nodes key k ≡ false) × AllByRecursion (λ l. same_nodes key l ≡ false) ks
    go true h e more = absurd (true≢false e)
    go false h e more = (h, more e)

turned : (k l : List NodeId) → same_nodes k l ≡ false → same_nodes l k ≡ false
turned k l e = go (same_nodes l k) refl
  where
    go : (b : Bool) → same_nodes l k ≡ b → same_nodes l k ≡ false
    go false h = h
    go true h = absurd (true≢false (sym (ap (same_nodes k) (same_is l k h) ∙ same_refl k) ∙ e))

pub apart_push : (ks : AllKeys) (key : List NodeId) → AreDifferent ks → AllByRecursion (λ l. same_nodes key l ≡ false) ks → AreDifferent (ks ++ key ∷ [])
apart_push [] key a h = (tt, tt)
apart_push (k ∷ ks) key a h = (each_append (λ l. same_nodes k l ≡ false) ks (key ∷ []) a.0 (turned key k h.0, tt), apart_push ks key a.1 h.1)

-- ---- one key

module _ (limit : ℕ) (key : List NodeId) (came : AllKeys) (k new : Keys) (s : Stands limit came k) (is : keys_in new ≡ with_key (keys_in k) key) where
  abbrev old : AllKeys
  old = keys_in k

  with_one : (q : List NodeId) → has_key q (came ++ key ∷ []) ≡ (has_key q old || (same_nodes q key || false))
  with_one q = list_any-append (same_nodes q) came (key ∷ []) ∙ ap (λ b. b || (same_nodes q key || false)) (sym (s.same q))

  same_with : (q : List NodeId) → has_key q (keys_in new) ≡ has_key q (came ++ key ∷ [])
  same_with q = ap (has_key q) is ∙ go (has_key key old) refl (same_nodes q key) refl ∙ sym (with_one q)
    where
      as_false : (b : Bool) → b ≡ (b || (false || false))
      as_false true = refl
      as_false false = refl

      go : (known : Bool) → has_key key old ≡ known → (b : Bool) → same_nodes q key ≡ b → has_key q (cond known old (old ++ key ∷ [])) ≡ (has_key q old || (b || false))
      go true there true e =
          let yes : has_key q old ≡ true = ap (λ x. has_key x old) (same_is q key e) ∙ there in
          yes ∙ sym (or_left (has_key q old) (true || false) yes)
      go true there false e = as_false (has_key q old)
      go false none b e = list_any-append (same_nodes q) old (key ∷ []) ∙ ap (λ c. has_key q old || (c || false)) e

  apart_with : AreDifferent (keys_in new)
  apart_with = subst AreDifferent (sym is) (go (has_key key old) refl)
    where
      go : (known : Bool) → has_key key old ≡ known → AreDifferent (cond known old (old ++ key ∷ []))
      go true there = s.apart
      go false none = apart_push old key s.apart (none_same key old none)

  pub stands_with : length (keys_in new) ≤ limit → Stands limit (came ++ key ∷ []) new
  stands_with few = record { same = same_with; apart = apart_with; few = few }

  pub many_with : limit < length (keys_in new) → HasMany limit (came ++ key ∷ [])
  many_with many = record {
    some = keys_in new;
    apart = apart_with;
    among = all_among (keys_in new) (came ++ key ∷ []) (λ q e. sym (same_with q) ∙ e);
    many = many;
  }

-- ---- more keys

pub same_behind : (came xs ys : AllKeys) → Same xs ys → Same (came ++ xs) (came ++ ys)
same_behind came xs ys h q = list_any-append (same_nodes q) came xs ∙ ap (λ b. has_key q came || b) (h q) ∙ sym (list_any-append (same_nodes q) came ys)

pub many_more : (limit : ℕ) (xs ys : AllKeys) → Within xs ys → HasMany limit xs → HasMany limit ys
many_more limit xs ys h m = record {
  some = m.some;
  apart = m.apart;
  among = each_then (λ k. has_key k xs ≡ true) (λ k. has_key k ys ≡ true) (λ k e. h k e) m.some m.among;
  many = m.many;
}

pub came_none : (a : Gathering) → IsGathering a → TakesOn [] a a
came_none a is = record {
  is = is;
  width = refl;
  limit = refl;
  stands = λ came h. subst (λ l. Stands a.limit l a.keys) (sym (append-nil came)) h;
}

pub then : (xs ys : AllKeys) (a b c : Gathering) (r : Result (Unit {0}) JoinRefusal) → TakesOn xs a b → Gathers ys b c r → Gathers (xs ++ ys) a c r
then xs ys a b c (Ok u) m n = record {
  is = n.is;
  width = n.width ∙ m.width;
  limit = n.limit ∙ m.limit;
  stands = λ came h.
      subst (λ l. Stands a.limit l c.keys) (append_assoc came xs ys)
      (subst (λ k. Stands k ((came ++ xs) ++ ys) c.keys) m.limit (n.stands (came ++ xs) (subst (λ k. Stands k (came ++ xs) b.keys) (sym m.limit) (m.stands came h))));
}
then xs ys a b c (Err (refusal.TooManyRows l)) m n = (
  n.0 ∙ m.limit,
  λ came h.
      subst (HasMany a.limit) (append_assoc came xs ys)
      (subst (λ k. HasMany k ((came ++ xs) ++ ys)) m.limit (n.1 (came ++ xs) (subst (λ k. Stands k (came ++ xs) b.keys) (sym m.limit) (m.stands came h)))),
)
then xs ys a b c (Err (refusal.Memory why)) m n = tt

pub alike : (xs ys : AllKeys) (a b : Gathering) (r : Result (Unit {0}) JoinRefusal) → Same xs ys → Gathers xs a b r → Gathers ys a b r
alike xs ys a b (Ok u) h m = record {
  is = m.is;
  width = m.width;
  limit = m.limit;
  stands = λ came s. (let t = m.stands came s in record { same = λ q. t.same q ∙ same_behind came xs ys h q; apart = t.apart; few = t.few });
}
alike xs ys a b (Err (refusal.TooManyRows l)) h m = (
  m.0,
  λ came s. many_more a.limit (came ++ xs) (came ++ ys) (λ q e. sym (same_behind came xs ys h q) ∙ e) (m.1 came s),
)
alike xs ys a b (Err (refusal.Memory why)) h m = tt

pub stops : (xs ys : AllKeys) (a b c : Gathering) (e : JoinRefusal) → Gathers xs a b (Err e) → Gathers (xs ++ ys) a c (Err e)
stops xs ys a b c (refusal.TooManyRows l) m = (
  m.0,
  λ came s.
      many_more a.limit (came ++ xs) (came ++ (xs ++ ys))
      (λ q e. ap (has_key q) (sym (append_assoc came xs ys)) ∙ list_any-append (same_nodes q) (came ++ xs) ys ∙ or_left (has_key q (came ++ xs)) (has_key q ys) e) (m.1 came s),
)
stops xs ys a b c (refusal.Memory why) m = tt
