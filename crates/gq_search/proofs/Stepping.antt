-- The moves of an advance, with what the levels have.
use Rattle.std.proofs.Common.{◌≡◌, ◌≢◌, ℕ, zero, suc, ◌+◌, ◌-◌, ◌/◌, ◌%◌, ◌^◌, ◌<◌, ◌≤◌, Bool, true, false, cond, List, [], ◌∷◌, ◌++◌, length, get_or, set, take, refl, sym, ap, ◌∙◌, subst, arith}
use Rattle.std.proofs.lemmas.List.{take-set, take_all}
use Rattle.std.proofs.lemmas.Bool.{false≢true}
use Rattle.gq_bits.specs.declared.TheConstants.{VECTOR}
use Rattle.gq_search.specs.declared.walker.Cursor.{Cursor}
use Rattle.gq_search.specs.declared.walker.State.{State}
use Rattle.gq_search.specs.declared.walker.State.TheVariants.{Fresh, Standing}
use Rattle.gq_search.specs.Layouts.{Layout, below, numbers_in, piece_of, count, keys, live, owed_keys, Before, At}
use Rattle.gq_search.specs.Marked.{IsMarkedAt}
use Rattle.gq_search.specs.Running.{Machine, cursor_at, keys_of, prefix, Runs, IsReady, IsAt, Opens, Passes, WithMarks, stands_at, IsSound, keys_owed}
use Rattle.gq_search.proofs.Odometer.{left}
use Rattle.gq_search.proofs.Runs.{live-flat}
use Rattle.gq_search.proofs.Searching.{Search, key-small, keys-stood, keys-split, skipped, skipped-less, descended, descended-less, went-back, went-back-less, from-standing, from-fresh}

-- what a look found
pub record Looked (l : Layout) (n : ℕ) (open_at : List ℕ → Type 0) (cut_at : List ℕ → ℕ → Type 0) (cs : List Cursor) (ms : List (List Bool)) (depth next : ℕ) (new : List (List Bool)) (told : Bool) : Type 0 where
  pub marks : WithMarks l cs ms depth next new
  pub at : IsAt l open_at cut_at (prefix cs depth) next
  pub inside : next < count l (prefix cs depth)
  pub is_live : told ≡ true → live l (prefix cs depth) next ≡ true
  pub none : told ≡ false → below l (n - (depth + 1)) (prefix cs depth) next ≡ []

-- the search goes on there, and less of it is left; `m` and `k` are the layout and the groups that the levels tell now
pub record After (l m : Layout) (n k : ℕ) (owed : List (List ℕ)) (open_at : List ℕ → Type 0) (cut_at : List ℕ → ℕ → Type 0) (bound : ℕ) (cs : List Cursor) (ms : List (List Bool)) (depth next : ℕ) : Type 0 where
  pub ready : IsReady m k open_at cut_at cs ms depth next
  pub search : Search l n owed cs ms depth next
  pub less : left l n [] (prefix cs depth) next < bound

module _ (l : Layout) (n : ℕ) (owed : List (List ℕ)) (open_at : List ℕ → Type 0) (cut_at : List ℕ → ℕ → Type 0) where
  pub after_as : (m : Layout) (k bound : ℕ) (cs new : List Cursor) (ms : List (List Bool)) (depth next : ℕ) → m ≡ l → k ≡ n → new ≡ cs → After l l n n owed open_at cut_at bound cs ms depth next → After l m n k owed open_at cut_at bound new ms depth next
  after_as m k bound cs new ms depth next e f h a =
      subst (λ x. After l x n k owed open_at cut_at bound new ms depth next) (sym e)
      (subst (λ x. After l l n x owed open_at cut_at bound new ms depth next) (sym f) (subst (λ x. After l l n n owed open_at cut_at bound x ms depth next) (sym h) a))

  pub skip : (cs : List Cursor) (ms new : List (List Bool)) (depth next : ℕ) → Search l n owed cs ms depth next → Looked l n open_at cut_at cs ms depth next new false
      → After l l n n owed open_at cut_at (left l n [] (prefix cs depth) next) cs new depth (next + 1)
  skip cs ms new depth next s k =
      let more : Search l n owed cs new depth (next + 1) = skipped l n owed cs ms new depth next s k.marks k.inside (k.none refl) in
      record {
        ready = record {
          search = more.opened;
          opens = k.at.opens;
          cuts = λ flat mid. (let same : next / VECTOR ≡ (next + 1) / VECTOR = omega arith in
              subst (cut_at (prefix cs depth)) same (subst (λ b. cut_at (prefix cs depth) (piece_of b next)) flat k.at.cuts));
        };
        search = more;
        less = skipped-less l n owed cs ms depth next s k.inside;
      }

  -- no number between is live
  pub pass : (cs : List Cursor) (ms new : List (List Bool)) (depth next to : ℕ) → Search l n owed cs ms depth next → Looked l n open_at cut_at cs ms depth next new false → Passes l (prefix cs depth) (get_or new depth []) next to
      → After l l n n owed open_at cut_at (left l n [] (prefix cs depth) next) cs new depth to
  pass cs ms new depth next to s k p =
      let later = p.later in
      let at : next + 1 + (to - (next + 1)) ≡ to = omega (arith, later) in
      subst (λ m. After l l n n owed open_at cut_at (left l n [] (prefix cs depth) next) cs new depth m) at (go (to - (next + 1)) (omega (arith, later)))
    where
      looked : (j : ℕ) → next < j → j < to → Looked l n open_at cut_at cs new depth j new false
      looked j above below =
          let flat : l.flat (prefix cs depth) ≡ true = p.flat (omega (arith, above, below)) in
          let same : piece_of (l.flat (prefix cs depth)) next ≡ piece_of (l.flat (prefix cs depth)) j =
          ap (λ b. piece_of b next) flat ∙ sym (p.piece j above below) ∙ ap (λ b. piece_of b j) (sym flat) in
          let marked : IsMarkedAt l (prefix cs depth) (piece_of (l.flat (prefix cs depth)) j) (get_or new depth []) = subst (λ q. IsMarkedAt l (prefix cs depth) q (get_or new depth [])) same k.marks.marked in
          let within = p.within in
          let inside : j < count l (prefix cs depth) = omega (arith, below, within) in
          record {
            marks = record { len = refl; before = refl; marked = marked };
            at = record { opens = k.at.opens; cuts = subst (cut_at (prefix cs depth)) same k.at.cuts };
            inside = inside;
            is_live = λ t. absurd (false≢true t);
            none = λ _. ap (λ b. cond b (keys l (n - (depth + 1)) (prefix cs depth ++ j ∷ [])) []) (
                sym (live-flat l (prefix cs depth) j (get_or new depth []) flat (subst (λ b. j < numbers_in b (l.size (prefix cs depth))) flat inside) (subst (λ b. IsMarkedAt l (prefix cs depth) (piece_of b j) (get_or new depth [])) flat marked))
                ∙ p.blank j above below);
          }

      go : (more : ℕ) → next + 1 + more ≤ to → After l l n n owed open_at cut_at (left l n [] (prefix cs depth) next) cs new depth (next + 1 + more)
      go zero h =
          let at : next + 1 ≡ next + 1 + 0 = omega arith in
          subst (λ m. After l l n n owed open_at cut_at (left l n [] (prefix cs depth) next) cs new depth m) at (skip cs ms new depth next s k)
      go (suc more) h =
          let a = go more (omega (arith, h)) in
          let one = skip cs new new depth (next + 1 + more) a.search (looked (next + 1 + more) (omega arith) (omega (arith, h))) in
          let at : next + 1 + more + 1 ≡ next + 1 + suc more = omega arith in
          subst (λ m. After l l n n owed open_at cut_at (left l n [] (prefix cs depth) next) cs new depth m) at
          (record { ready = one.ready; search = one.search; less = (let far = one.less in let near = a.less in omega (arith, far, near)) })

  pub down : (cs r new : List Cursor) (ms ns : List (List Bool)) (depth next : ℕ) (old_at : List ℕ → Type 0) (old_cut : List ℕ → ℕ → Type 0) → Search l n owed cs ms depth next → Looked l n old_at old_cut cs ms depth next ns true
      → r ≡ set cs depth (stands_at cs depth next) → Opens l (prefix r (depth + 1)) r (depth + 1) new → open_at (prefix r (depth + 1)) → depth + 1 < length cs
      → After l l n n owed open_at cut_at (left l n [] (prefix cs depth) next) new ns (depth + 1) 0
  down cs r new ms ns depth next old_at old_cut s k stood o opened room =
      let at : prefix r (depth + 1) ≡ prefix cs depth ++ next ∷ [] = ap (λ x. prefix x (depth + 1)) stood ∙ keys-stood cs depth next (omega (arith, room)) in
      let is : new ≡ set (set cs depth (stands_at cs depth next)) (depth + 1) o.cursor = o.cursors ∙ ap (λ x. set x (depth + 1) o.cursor) stood in
      let more : Search l n owed (set (set cs depth (stands_at cs depth next)) (depth + 1) o.cursor) ns (depth + 1) 0 =
      descended l n owed cs ms ns depth next o.cursor s k.marks k.inside (k.is_live refl) room (o.size ∙ ap l.size at) o.few in
      let here : Search l n owed new ns (depth + 1) 0 = subst (λ x. Search l n owed x ns (depth + 1) 0) (sym is) more in
      record {
        ready = record {
          search = here.opened;
          opens = subst open_at (ap keys_of (sym (ap (take (depth + 1)) o.cursors ∙ take-set r (depth + 1) o.cursor))) opened;
          cuts = λ flat mid. absurd (mid refl);
        };
        search = here;
        less = subst (λ x. left l n [] (prefix x (depth + 1)) 0 < left l n [] (prefix cs depth) next) (sym is) (descended-less l n owed cs ms depth next o.cursor s k.inside room);
      }

  module _ (stands : List ℕ → Type 0) (goes_on : (pre : List ℕ) (k : ℕ) → stands (pre ++ k ∷ []) → open_at pre) (keeps_piece : (pre : List ℕ) (k : ℕ) → stands (pre ++ k ∷ []) → cut_at pre (piece_of (l.flat pre) k)) where
    -- the levels where a group that stands goes on
    pub cuts_again : (pre : List ℕ) (key : ℕ) → stands (pre ++ key ∷ []) → l.flat pre ≡ true → (key + 1) % VECTOR ≢ 0 → cut_at pre ((key + 1) / VECTOR)
    cuts_again pre key st flat mid =
        let same : key / VECTOR ≡ (key + 1) / VECTOR = omega arith in
        subst (cut_at pre) same (subst (λ b. cut_at pre (piece_of b key)) flat (keeps_piece pre key st))

    pub back : (cs : List Cursor) (ms : List (List Bool)) (depth next : ℕ) → Search l n owed cs ms (depth + 1) next → count l (prefix cs (depth + 1)) ≤ next → stands (prefix cs (depth + 1))
        → After l l n n owed open_at cut_at (left l n [] (prefix cs (depth + 1)) next) cs ms depth ((cursor_at cs depth).key + 1)
    back cs ms depth next s done st =
        let split : prefix cs (depth + 1) ≡ prefix cs depth ++ (cursor_at cs depth).key ∷ [] = keys-split cs depth (omega (arith, s.opened.inside, s.opened.groups)) in
        let st' : stands (prefix cs depth ++ (cursor_at cs depth).key ∷ []) = subst stands split st in
        let more : Search l n owed cs ms depth ((cursor_at cs depth).key + 1) = went-back l n owed cs ms depth next s done in
        record {
          ready = record { search = more.opened; opens = goes_on (prefix cs depth) (cursor_at cs depth).key st'; cuts = cuts_again (prefix cs depth) (cursor_at cs depth).key st' };
          search = more;
          less = went-back-less l n owed cs ms depth next s done;
        }

-- the search begins
module _ (l : Layout) (n : ℕ) (open_at : List ℕ → Type 0) (cut_at : List ℕ → ℕ → Type 0) where
  pub begins_fresh : (old : Machine) (new : List Cursor) → 0 < n → IsSound l n old → old.state ≡ Fresh → Opens l [] old.cursors 0 new → open_at []
      → (bound : ℕ) → left l n [] [] 0 < bound → After l l n n (keys_owed l n old) open_at cut_at bound new old.marks 0 0
  begins_fresh old new some sound fresh o opened bound less =
      let first : Search l n (owed_keys l n Before) (set old.cursors 0 o.cursor) old.marks 0 0 = from-fresh l n old.cursors old.marks o.cursor sound.groups sound.marks (omega (arith, sound.groups, some)) o.size o.few in
      let owed : keys_owed l n old ≡ owed_keys l n Before = ap (λ (s : State). keys_owed l n (record { cursors = old.cursors; marks = old.marks; state = s })) fresh in
      let here : Search l n (keys_owed l n old) new old.marks 0 0 = subst (λ x. Search l n (keys_owed l n old) x old.marks 0 0) (sym o.cursors) (subst (λ w. Search l n w (set old.cursors 0 o.cursor) old.marks 0 0) (sym owed) first) in
      record { ready = record { search = here.opened; opens = opened; cuts = λ flat mid. absurd (mid refl) }; search = here; less = less }

  pub begins_standing : (stands : List ℕ → Type 0) (goes_on : (pre : List ℕ) (k : ℕ) → stands (pre ++ k ∷ []) → open_at pre) (keeps_piece : (pre : List ℕ) (k : ℕ) → stands (pre ++ k ∷ []) → cut_at pre (piece_of (l.flat pre) k))
      (old : Machine) (depth bound : ℕ) → IsSound l n old → old.state ≡ Standing → depth + 1 ≡ length old.cursors → stands (keys_of old.cursors)
      → left l n [] (prefix old.cursors depth) ((cursor_at old.cursors depth).key + 1) < bound → After l l n n (keys_owed l n old) open_at cut_at bound old.cursors old.marks depth ((cursor_at old.cursors depth).key + 1)
  begins_standing stands goes_on keeps_piece old depth bound sound standing last st less =
      let first : Search l n (owed_keys l n (At (keys_of old.cursors))) old.cursors old.marks depth ((cursor_at old.cursors depth).key + 1) = from-standing l n old.cursors old.marks depth sound.groups sound.marks last (sound.standing standing) in
      let owed : keys_owed l n old ≡ owed_keys l n (At (keys_of old.cursors)) = ap (λ (s : State). keys_owed l n (record { cursors = old.cursors; marks = old.marks; state = s })) standing in
      let here : Search l n (keys_owed l n old) old.cursors old.marks depth ((cursor_at old.cursors depth).key + 1) = subst (λ w. Search l n w old.cursors old.marks depth ((cursor_at old.cursors depth).key + 1)) (sym owed) first in
      let split : keys_of old.cursors ≡ prefix old.cursors depth ++ (cursor_at old.cursors depth).key ∷ [] =
      ap keys_of (sym (take_all (depth + 1) old.cursors (omega (arith, last)))) ∙ keys-split old.cursors depth (omega (arith, last)) in
      let st' : stands (prefix old.cursors depth ++ (cursor_at old.cursors depth).key ∷ []) = subst stands split st in
      record {
        ready = record { search = here.opened; opens = goes_on (prefix old.cursors depth) (cursor_at old.cursors depth).key st'; cuts = cuts_again l n (keys_owed l n old) open_at cut_at stands goes_on keeps_piece (prefix old.cursors depth) (cursor_at old.cursors depth).key st' };
        search = here;
        less = less;
      }

-- the number of the last group that stands fits 32 bits with its next one
pub last_small : (l : Layout) (n : ℕ) (m : Machine) (d : ℕ) → IsSound l n m → m.state ≡ Standing → d + 1 ≡ length m.cursors → (cursor_at m.cursors d).key + 1 < 2 ^ 32
last_small l n m d s standing last =
    key-small l n m.cursors m.marks d (s.groups ∙ sym s.marks) (omega (arith, last))
    (subst (λ r. Runs l [] r (take (d + 1) m.marks)) (sym (take_all (d + 1) m.cursors (omega (arith, last))))
    (subst (Runs l [] m.cursors) (sym (take_all (d + 1) m.marks (omega (arith, last, s.groups, s.marks)))) (s.standing standing)))
