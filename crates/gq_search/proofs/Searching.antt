-- The search of an advance, over plain lists of cursors and marks.
use Rattle.std.proofs.Common.{◌≡◌, ℕ, ◌+◌, ◌-◌, ◌/◌, ◌^◌, ◌<◌, ◌≤◌, Bool, true, false, List, [], ◌∷◌, ◌++◌, length, get_or, set, take, refl, sym, ap, ◌∙◌, subst, arith}
use Rattle.std.proofs.lemmas.List.{take_more, take_more_set, take-set, length-set, get_or-set_same, take_all, length-take-le, map_push}
use Rattle.gq_bits.specs.declared.TheConstants.{VECTOR}
use Rattle.gq_search.specs.declared.walker.Cursor.{Cursor}
use Rattle.gq_search.specs.Layouts.{numbers_in, Layout, below, piece_of, count, live, owed_keys, Before, At}
use Rattle.gq_search.specs.Marked.{IsMarkedAt}
use Rattle.gq_search.specs.Running.{cursor_at, no_cursor, keys_of, prefix, IsGroup, Runs, IsOpened, WithMarks, stands_at}
use Rattle.gq_search.proofs.Odometer.{open_keys, open_keys-start, open_keys-push, open_keys-found, open_keys-skip, open_keys-pop, open_keys-done, filter-later, after, after-open, left, left-push, left-skip, left-pop}
use Rattle.gq_search.proofs.Runs.{runs-push, runs-split, runs-keys, length-keys}

-- what the search keeps
pub record Search (l : Layout) (n : ℕ) (owed : List (List ℕ)) (cs : List Cursor) (ms : List (List Bool)) (depth next : ℕ) : Type 0 where
  pub opened : IsOpened l n cs ms depth next
  pub rest : open_keys l n [] (keys_of (take depth cs)) next ≡ owed

pub skipped : (l : Layout) (n : ℕ) (owed : List (List ℕ)) (cs : List Cursor) (ms new : List (List Bool)) (depth next : ℕ) → Search l n owed cs ms depth next → WithMarks l cs ms depth next new →
    next < count l (keys_of (take depth cs)) → below l (n - (depth + 1)) (keys_of (take depth cs)) next ≡ [] → Search l n owed cs new depth (next + 1)
skipped l n owed cs ms new depth next s m h dead =
    let o = s.opened in
    record {
      opened = record {
        groups = o.groups;
        marks = m.len ∙ o.marks;
        inside = o.inside;
        runs = subst (Runs l [] (take depth cs)) (sym m.before) o.runs;
        size_is = o.size_is;
        few = o.few;
        cached = λ flat mid. (let same : next / VECTOR ≡ (next + 1) / VECTOR = omega arith in
            subst (λ p. IsMarkedAt l (keys_of (take depth cs)) p (get_or new depth [])) same
            (subst (λ b. IsMarkedAt l (keys_of (take depth cs)) (piece_of b next) (get_or new depth [])) flat m.marked));
      };
      rest = sym (open_keys-skip l n (n - (depth + 1)) [] (keys_of (take depth cs)) next (omega (arith, length-keys cs depth (omega (arith, o.inside, o.groups)), o.inside)) h dead) ∙ s.rest;
    }

pub skipped-less : (l : Layout) (n : ℕ) (owed : List (List ℕ)) (cs : List Cursor) (ms : List (List Bool)) (depth next : ℕ) → Search l n owed cs ms depth next → next < count l (keys_of (take depth cs)) →
    left l n [] (keys_of (take depth cs)) (next + 1) < left l n [] (keys_of (take depth cs)) next
skipped-less l n owed cs ms depth next s h =
    left-skip l n [] (keys_of (take depth cs)) next (omega (arith, length-keys cs depth (omega (arith, s.opened.inside)), s.opened.inside, s.opened.groups)) h

pub keys-stood : (cs : List Cursor) (depth next : ℕ) → depth < length cs → keys_of (take (depth + 1) (set cs depth (stands_at cs depth next))) ≡ keys_of (take depth cs) ++ next ∷ []
keys-stood cs depth next h = ap keys_of (take_more_set cs depth (stands_at cs depth next) h) ∙ map_push (λ (c : Cursor). c.key) (take depth cs) (stands_at cs depth next)

pub stood : (l : Layout) (n : ℕ) (owed : List (List ℕ)) (cs : List Cursor) (ms new : List (List Bool)) (depth next : ℕ) → Search l n owed cs ms depth next → WithMarks l cs ms depth next new →
    next < count l (keys_of (take depth cs)) → live l (keys_of (take depth cs)) next ≡ true →
    Runs l [] (take (depth + 1) (set cs depth (stands_at cs depth next))) (take (depth + 1) new)
stood l n owed cs ms new depth next s m h alive =
    let o = s.opened in
    let c : Cursor = stands_at cs depth next in
    let group : IsGroup l (keys_of (take depth cs)) (stands_at cs depth next) (get_or new depth []) = record {
      size_is = o.size_is;
      few = o.few;
      key_in = h;
      alive = alive;
      marked = m.marked;
    } in
    subst (λ r. Runs l [] r (take (depth + 1) new)) (sym (take_more_set cs depth (stands_at cs depth next) (omega (arith, o.inside, o.groups))))
    (subst (Runs l [] (take depth cs ++ stands_at cs depth next ∷ [])) (ap (λ r. r ++ get_or new depth [] ∷ []) (sym m.before) ∙ sym (take_more new depth [] (omega (arith, o.inside, o.groups, o.marks, m.len))))
    (runs-push l [] (take depth cs) (take depth ms) (stands_at cs depth next) (get_or new depth []) o.runs group))

-- a group is opened on its list
pub opens : (l : Layout) (n : ℕ) (cs : List Cursor) (ms : List (List Bool)) (k : ℕ) (d : Cursor) → length cs ≡ n → length ms ≡ n → k < n
    → Runs l [] (take k cs) (take k ms) → d.size ≡ l.size (prefix cs k) → d.size < 2 ^ 32 → IsOpened l n (set cs k d) ms k 0
opens l n cs ms k d groups marks inside runs size few =
    let front : take k (set cs k d) ≡ take k cs = take-set cs k d in
    let here : cursor_at (set cs k d) k ≡ d = get_or-set_same cs k d no_cursor (omega (arith, groups, inside)) in
    record {
      groups = length-set cs k d ∙ groups;
      marks = marks;
      inside = inside;
      runs = subst (λ r. Runs l [] r (take k ms)) (sym front) runs;
      size_is = ap (λ (c : Cursor). c.size) here ∙ size ∙ ap (λ r. l.size (keys_of r)) (sym front);
      few = subst (λ (c : Cursor). c.size < 2 ^ 32) (sym here) few;
      cached = λ flat mid. absurd (mid refl);
    }

pub descended : (l : Layout) (n : ℕ) (owed : List (List ℕ)) (cs : List Cursor) (ms new : List (List Bool)) (depth next : ℕ) (d : Cursor) → Search l n owed cs ms depth next → WithMarks l cs ms depth next new →
    next < count l (keys_of (take depth cs)) → live l (keys_of (take depth cs)) next ≡ true → depth + 1 < length cs →
    d.size ≡ l.size (keys_of (take depth cs) ++ next ∷ []) → d.size < 2 ^ 32 →
    Search l n owed (set (set cs depth (stands_at cs depth next)) (depth + 1) d) new (depth + 1) 0
descended l n owed cs ms new depth next d s m h alive room size few =
    let o = s.opened in
    let cs1 : List Cursor = set cs depth (stands_at cs depth next) in
    let len : length (set cs depth (stands_at cs depth next)) ≡ length cs = length-set cs depth (stands_at cs depth next) in
    let keys_are : keys_of (take (depth + 1) (set (set cs depth (stands_at cs depth next)) (depth + 1) d)) ≡ keys_of (take depth cs) ++ next ∷ [] =
    ap keys_of (take-set (set cs depth (stands_at cs depth next)) (depth + 1) d) ∙ keys-stood cs depth next (omega (arith, o.inside, o.groups)) in
    record {
      opened = opens l n (set cs depth (stands_at cs depth next)) new (depth + 1) d (len ∙ o.groups) (m.len ∙ o.marks) (omega (arith, o.groups)) (stood l n owed cs ms new depth next s m h alive) (size ∙ ap l.size (sym (keys-stood cs depth next (omega (arith, o.inside, o.groups))))) few;
      rest = ap (λ ks. open_keys l n [] ks 0) keys_are
          ∙ sym (open_keys-push l n [] (keys_of (take depth cs)) next (omega (arith, length-keys cs depth (omega (arith, o.inside)), o.groups)) h alive) ∙ s.rest;
    }

pub descended-less : (l : Layout) (n : ℕ) (owed : List (List ℕ)) (cs : List Cursor) (ms : List (List Bool)) (depth next : ℕ) (d : Cursor) → Search l n owed cs ms depth next →
    next < count l (keys_of (take depth cs)) → depth + 1 < length cs →
    left l n [] (keys_of (take (depth + 1) (set (set cs depth (stands_at cs depth next)) (depth + 1) d))) 0 < left l n [] (keys_of (take depth cs)) next
descended-less l n owed cs ms depth next d s h room =
    let keys_are : keys_of (take (depth + 1) (set (set cs depth (stands_at cs depth next)) (depth + 1) d)) ≡ keys_of (take depth cs) ++ next ∷ [] =
    ap keys_of (take-set (set cs depth (stands_at cs depth next)) (depth + 1) d) ∙ keys-stood cs depth next (omega (arith, s.opened.inside, s.opened.groups)) in
    subst (λ ks. left l n [] ks 0 < left l n [] (keys_of (take depth cs)) next) (sym keys_are)
    (left-push l n [] (keys_of (take depth cs)) next (omega (arith, length-keys cs depth (omega (arith, s.opened.inside)), s.opened.groups)) h)

-- the group before moves on
pub keys-split : (cs : List Cursor) (depth : ℕ) → depth < length cs → keys_of (take (depth + 1) cs) ≡ keys_of (take depth cs) ++ (cursor_at cs depth).key ∷ []
keys-split cs depth h = ap keys_of (take_more cs depth no_cursor h) ∙ map_push (λ (c : Cursor). c.key) (take depth cs) (cursor_at cs depth)

pub opened-back : (l : Layout) (n : ℕ) (cs : List Cursor) (ms : List (List Bool)) (depth : ℕ) → length cs ≡ n → length ms ≡ n → depth < length cs →
    Runs l [] (take (depth + 1) cs) (take (depth + 1) ms) → IsOpened l n cs ms depth ((cursor_at cs depth).key + 1)
opened-back l n cs ms depth groups marks inside runs =
    let parts = runs-split l [] (take depth cs) (take depth ms) (cursor_at cs depth) (get_or ms depth [])
    (length-take-le depth cs (omega arith) ∙ sym (length-take-le depth ms (omega arith)))
    (subst (λ r. Runs l [] r (take depth ms ++ get_or ms depth [] ∷ [])) (take_more cs depth no_cursor inside)
    (subst (Runs l [] (take (depth + 1) cs)) (take_more ms depth [] (omega arith)) runs)) in
    let group : IsGroup l (keys_of (take depth cs)) (cursor_at cs depth) (get_or ms depth []) = parts.1 in
    let key : ℕ = (cursor_at cs depth).key in
    record {
      groups = groups;
      marks = marks;
      inside = omega (arith, inside, groups);
      runs = parts.0;
      size_is = group.size_is;
      few = group.few;
      cached = λ flat mid. (let same : key / VECTOR ≡ (key + 1) / VECTOR = omega arith in
          subst (λ p. IsMarkedAt l (keys_of (take depth cs)) p (get_or ms depth [])) same
          (subst (λ b. IsMarkedAt l (keys_of (take depth cs)) (piece_of b key) (get_or ms depth [])) flat group.marked));
    }

pub went-back : (l : Layout) (n : ℕ) (owed : List (List ℕ)) (cs : List Cursor) (ms : List (List Bool)) (depth next : ℕ) → Search l n owed cs ms (depth + 1) next →
    count l (keys_of (take (depth + 1) cs)) ≤ next → Search l n owed cs ms depth ((cursor_at cs depth).key + 1)
went-back l n owed cs ms depth next s done =
    let o = s.opened in
    let h : depth < length cs = omega (arith, o.inside) in
    let split : keys_of (take (depth + 1) cs) ≡ keys_of (take depth cs) ++ (cursor_at cs depth).key ∷ [] = keys-split cs depth h in
    record {
      opened = opened-back l n cs ms depth o.groups o.marks h o.runs;
      rest = sym (open_keys-pop l n [] (keys_of (take depth cs)) (cursor_at cs depth).key next (omega (arith, length-keys cs depth (omega arith), o.groups)) (subst (λ ks. count l ks ≤ next) split done))
          ∙ ap (λ ks. open_keys l n [] ks next) (sym split) ∙ s.rest;
    }

pub went-back-less : (l : Layout) (n : ℕ) (owed : List (List ℕ)) (cs : List Cursor) (ms : List (List Bool)) (depth next : ℕ) → Search l n owed cs ms (depth + 1) next →
    count l (keys_of (take (depth + 1) cs)) ≤ next →
    left l n [] (keys_of (take depth cs)) ((cursor_at cs depth).key + 1) < left l n [] (keys_of (take (depth + 1) cs)) next
went-back-less l n owed cs ms depth next s done =
    let o = s.opened in
    let h : depth < length cs = omega (arith, o.inside) in
    let split : keys_of (take (depth + 1) cs) ≡ keys_of (take depth cs) ++ (cursor_at cs depth).key ∷ [] = keys-split cs depth h in
    subst (λ ks. left l n [] (keys_of (take depth cs)) ((cursor_at cs depth).key + 1) < left l n [] ks next) (sym split)
    (left-pop l n [] (keys_of (take depth cs)) (cursor_at cs depth).key next (omega (arith, length-keys cs depth (omega arith), o.groups, o.inside)) (subst (λ ks. count l ks ≤ next) split done))

pub all-done : (l : Layout) (n : ℕ) (owed : List (List ℕ)) (cs : List Cursor) (ms : List (List Bool)) (next : ℕ) → Search l n owed cs ms 0 next → count l [] ≤ next → owed ≡ []
all-done l n owed cs ms next s h = sym s.rest ∙ open_keys-done l n next h

-- what is owed after the key at which all groups stand
pub standing-rest : (l : Layout) (n : ℕ) (cs : List Cursor) (ms : List (List Bool)) (depth : ℕ) → Runs l [] cs ms → depth + 1 ≡ length cs → length cs ≡ n →
    open_keys l n [] (keys_of (take depth cs)) ((cursor_at cs depth).key + 1) ≡ owed_keys l n (At (keys_of cs))
standing-rest l n cs ms depth runs last groups =
    let split : keys_of cs ≡ keys_of (take depth cs) ++ (cursor_at cs depth).key ∷ [] =
    ap keys_of (sym (take_all (depth + 1) cs (omega arith))) ∙ keys-split cs depth (omega arith) in
    sym (after-open l n [] (keys_of (take depth cs)) (cursor_at cs depth).key (omega (arith, length-keys cs depth (omega arith))))
    ∙ ap (after l n []) (sym split)
    ∙ sym (filter-later l n [] (keys_of cs) (runs-keys l [] cs ms runs))

-- the search begins
pub from-standing : (l : Layout) (n : ℕ) (cs : List Cursor) (ms : List (List Bool)) (depth : ℕ) → length cs ≡ n → length ms ≡ n → depth + 1 ≡ length cs → Runs l [] cs ms →
    Search l n (owed_keys l n (At (keys_of cs))) cs ms depth ((cursor_at cs depth).key + 1)
from-standing l n cs ms depth groups marks last runs =
    let all_cs : take (depth + 1) cs ≡ cs = take_all (depth + 1) cs (omega arith) in
    let all_ms : take (depth + 1) ms ≡ ms = take_all (depth + 1) ms (omega arith) in
    record {
      opened = opened-back l n cs ms depth groups marks (omega (arith, last, groups))
          (subst (λ r. Runs l [] r (take (depth + 1) ms)) (sym all_cs) (subst (Runs l [] cs) (sym all_ms) runs));
      rest = standing-rest l n cs ms depth runs last groups;
    }

pub from-fresh : (l : Layout) (n : ℕ) (cs : List Cursor) (ms : List (List Bool)) (d : Cursor) → length cs ≡ n → length ms ≡ n → 0 < length cs →
    d.size ≡ l.size [] → d.size < 2 ^ 32 → Search l n (owed_keys l n Before) (set cs 0 d) ms 0 0
from-fresh l n cs ms d groups marks some size few = record {
  opened = opens l n cs ms 0 d groups marks (omega (arith, groups, some)) tt size few;
  rest = open_keys-start l n (omega arith);
}

-- the last group got its number: one key
pub found : (l : Layout) (n : ℕ) (owed : List (List ℕ)) (cs : List Cursor) (ms new : List (List Bool)) (depth next : ℕ) → Search l n owed cs ms depth next → WithMarks l cs ms depth next new →
    next < count l (keys_of (take depth cs)) → live l (keys_of (take depth cs)) next ≡ true → depth + 1 ≡ length cs →
    Runs l [] (set cs depth (stands_at cs depth next)) new × (owed ≡ keys_of (set cs depth (stands_at cs depth next)) ∷ owed_keys l n (At (keys_of (set cs depth (stands_at cs depth next)))))
found l n owed cs ms new depth next s m h alive last =
    let o = s.opened in
    let cs1 : List Cursor = set cs depth (stands_at cs depth next) in
    let len : length (set cs depth (stands_at cs depth next)) ≡ length cs = length-set cs depth (stands_at cs depth next) in
    let runs : Runs l [] (set cs depth (stands_at cs depth next)) new =
    subst (λ r. Runs l [] r new) (take_all (depth + 1) (set cs depth (stands_at cs depth next)) (omega (arith, len)))
    (subst (Runs l [] (take (depth + 1) (set cs depth (stands_at cs depth next)))) (take_all (depth + 1) new (omega (arith, m.len, o.marks, o.groups))) (stood l n owed cs ms new depth next s m h alive)) in
    let keys_are : keys_of (set cs depth (stands_at cs depth next)) ≡ keys_of (take depth cs) ++ next ∷ [] =
    ap keys_of (sym (take_all (depth + 1) (set cs depth (stands_at cs depth next)) (omega (arith, len)))) ∙ keys-stood cs depth next (omega (arith, o.inside, o.groups)) in
    let here : (cursor_at (set cs depth (stands_at cs depth next)) depth).key ≡ next = ap (λ (c : Cursor). c.key) (get_or-set_same cs depth (stands_at cs depth next) no_cursor (omega (arith, o.inside, o.groups))) in
    let front : take depth (set cs depth (stands_at cs depth next)) ≡ take depth cs = take-set cs depth (stands_at cs depth next) in
    let next_rest : open_keys l n [] (keys_of (take depth cs)) (next + 1) ≡ owed_keys l n (At (keys_of (set cs depth (stands_at cs depth next)))) =
    ap (λ k. open_keys l n [] (keys_of (take depth cs)) (k + 1)) (sym here)
    ∙ ap (λ r. open_keys l n [] (keys_of r) ((cursor_at (set cs depth (stands_at cs depth next)) depth).key + 1)) (sym front)
    ∙ standing-rest l n (set cs depth (stands_at cs depth next)) new depth runs (omega (arith, len)) (len ∙ o.groups) in (
      runs,
      sym s.rest ∙ open_keys-found l n [] (keys_of (take depth cs)) next (omega (arith, length-keys cs depth (omega (arith, o.inside)), o.groups)) h alive
          ∙ ap (λ r. (keys_of (take depth cs) ++ next ∷ []) ∷ r) next_rest ∙ ap (λ k. k ∷ owed_keys l n (At (keys_of (set cs depth (stands_at cs depth next))))) (sym keys_are),
    )

numbers_in-le : (flat : Bool) (n : ℕ) → numbers_in flat n ≤ n
numbers_in-le true n = omega arith
numbers_in-le false n = omega arith

-- a number of a group that stands fits 32 bits with its next one
pub key-small : (l : Layout) (n : ℕ) (cs : List Cursor) (ms : List (List Bool)) (depth : ℕ) → length cs ≡ length ms → depth < length cs →
    Runs l [] (take (depth + 1) cs) (take (depth + 1) ms) → (cursor_at cs depth).key + 1 < 2 ^ 32
key-small l n cs ms depth groups inside runs =
    let parts = runs-split l [] (take depth cs) (take depth ms) (cursor_at cs depth) (get_or ms depth [])
    (length-take-le depth cs (omega arith) ∙ sym (length-take-le depth ms (omega arith)))
    (subst (λ r. Runs l [] r (take depth ms ++ get_or ms depth [] ∷ [])) (take_more cs depth no_cursor inside)
    (subst (Runs l [] (take (depth + 1) cs)) (take_more ms depth [] (omega arith)) runs)) in
    let group : IsGroup l (keys_of (take depth cs)) (cursor_at cs depth) (get_or ms depth []) = parts.1 in
    omega (arith, group.key_in, numbers_in-le (l.flat (keys_of (take depth cs))) (l.size (keys_of (take depth cs))), group.few)

pub next-small : (l : Layout) (n : ℕ) (owed : List (List ℕ)) (cs : List Cursor) (ms : List (List Bool)) (depth next : ℕ) → Search l n owed cs ms depth next → next < count l (keys_of (take depth cs)) → next + 1 < 2 ^ 32
next-small l n owed cs ms depth next s h =
    omega (arith, h, numbers_in-le (l.flat (keys_of (take depth cs))) (l.size (keys_of (take depth cs))), s.opened.few)
