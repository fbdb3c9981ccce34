-- Texts and keys with one more, where it was not there.
use Rattle.std.proofs.Common.{◌≡◌, ◌∙◌, ap, refl, sym, ℕ, Bool, true, false, Some, List, [], ◌∷◌, ◌++◌, map, length, slice_get, append-nil, inl, inr, nat_eq, if◌then◌else◌}
use Rattle.std.specs.Prelude.{◌⊎◌}
use Rattle.std.specs.Borrow.{Bor}
use Rattle.std.specs.Cmp.Lexicographic.{pointwise, bytes_decides}
use Rattle.std.specs.List.{IsDistinct, list_any}
use Rattle.std.specs.Option.{option_map}
use Rattle.std.proofs.lemmas.Option.{slice_get-map}
use Rattle.std.proofs.lemmas.List.{map-append}
use Rattle.gq_base.specs.Values.{Val}
use Rattle.gq_classes.specs.declared.key.Key.{Key}
use Rattle.gq_classes.specs.steps.Levels.{AreTexts, Grows, HasText, IsKeyOf, IsOnce, Numbered, front_of, key_val}
use Rattle.gq_classes.proofs.Keys.{same_decides, same_itself, same_key}
use Rattle.gq_classes.proofs.Once.{once, source}

abbrev Text : Type 0
Text = Bor (List ℕ)

abbrev same_text : Text → Text → Bool
same_text a b = pointwise nat_eq a.now b.now

itself : (s : List ℕ) → pointwise nat_eq s s ≡ true
itself s = (bytes_decides s s).1 refl

abbrev now_of : List Text → List (List ℕ)
now_of ts = map (λ (t : Text). t.now) ts

texts_once : (ts : List Text) → IsDistinct same_text ts → AreTexts (now_of ts)
texts_once ts h i j s a b =
    let k = source (λ (t : Text). t.now) ts i s a in
    let l = source (λ (t : Text). t.now) ts j s b in
    once (λ (t : Text). t.now) (pointwise nat_eq) itself ts h i j k.0 l.0 k.1 l.1 (k.2 ∙ sym l.2)

pub texts_grow : (b : Bool) (old new : List Text) (text : Text) → new ≡ (if b then old else old ++ text ∷ []) → IsDistinct same_text new → Grows (now_of old) (now_of new)
texts_grow true old new text e h = record { more = []; is = ap now_of e ∙ sym (append-nil (now_of old)); once = λ o. texts_once new h }
texts_grow false old new text e h = record { more = text.now ∷ []; is = ap now_of e ∙ map-append (λ (t : Text). t.now) old (text ∷ []); once = λ o. texts_once new h }

-- and the text stands where the insertion told
pub text_there : (new : List Text) (n : ℕ) (text stored : Text) → slice_get new n ≡ Some stored → same_text text stored ≡ true → slice_get (now_of new) n ≡ Some text.now
text_there new n text stored e same = slice_get_now new n stored e ∙ ap Some (sym ((bytes_decides text.now stored.now).0 same))
  where
    slice_get_now : (ts : List Text) (i : ℕ) (t : Text) → slice_get ts i ≡ Some t → slice_get (now_of ts) i ≡ Some t.now
    slice_get_now ts i t e = slice_get-map (λ (u : Text). u.now) ts i ∙ ap (option_map (λ (u : Text). u.now)) e

-- ---- keys

key_once : (keys : List Key) → IsDistinct same_key keys → IsOnce keys
key_once keys h i j k a b = once (λ x. x) same_key same_itself keys h i j k k a b refl

last_at : {X : Type 0} (xs : List X) (x : X) → slice_get (xs ++ x ∷ []) (length xs) ≡ Some x
last_at [] x = refl
last_at (y ∷ ys) x = last_at ys x

-- a key that was told before
pub told_again : (texts : List (List ℕ)) (front : ℕ) (value : Val) (keys : List Key) (n : ℕ) (k : Key) → slice_get keys n ≡ Some k → front_of k ≡ front → key_val texts k ≡ value → Numbered texts texts front value keys keys n
told_again texts front value keys n k at f v = record {
  grows = record { more = []; is = sym (append-nil texts); once = λ o. o };
  key = k;
  at = at;
  behind = f;
  is = v;
  keys = inl refl;
  once = λ o. o;
}

-- a key that was inserted
pub told : (old new : List (List ℕ)) (front : ℕ) (value : Val) (before after : List Key) (n : ℕ) (key : Key) → Grows old new → IsKeyOf new front value key
    → after ≡ (if list_any (same_key key) before then before else before ++ key ∷ []) → (stored : Key) → slice_get after n ≡ Some stored → same_key key stored ≡ true → IsDistinct same_key after
    → Numbered old new front value before after n
told old new front value before after n key grows k e stored at same distinct = record {
  grows = grows;
  key = key;
  at = here;
  behind = k.behind;
  is = k.is;
  keys = by (list_any (same_key key) before) e;
  once = λ o. key_once after distinct;
}
  where
    here : slice_get after n ≡ Some key
    here = at ∙ ap Some (sym (same_decides key stored same))

    by : (b : Bool) → after ≡ (if b then before else before ++ key ∷ []) → (after ≡ before) ⊎ ((after ≡ before ++ key ∷ []) × (n ≡ length before) × HasText (length new) key)
    by true is = inl is
    by false is = inr (is, key_once after distinct n (length before) key here (ap (λ l. slice_get l (length before)) is ∙ last_at before key), k.text)
