-- Trails that are gone through by their ends, by their places in a list.
use Rattle.std.proofs.Common.{◌≡◌, ◌∙◌, ℕ, zero, suc, ◌+◌, ◌<◌, ◌≤◌, Bool, true, false, Option, List, [], ◌∷◌, drop, get_or, length, set, take, refl, sym, ap, ap₂, subst, arith}
use Rattle.gq_base.specs.Plain.{Graph}
use Rattle.gq_base.specs.declared.RelId.{RelId}
use Rattle.gq_outer.specs.Rows.{Wide, item_at}
use Rattle.gq_trails.specs.Continued.{rows_at_ends}
use Rattle.gq_trails.specs.Trekking.{CanTrek}
use Rattle.gq_trails.specs.steps.Chained.{AllGoOn, AreOfOne, AreUnderWay, AreUnderWayFrom, CanBegin, CanBeginAt, GoFrom, HasAdvanced, HasGone, HasWay, HaveGoneFrom, HaveGoneOn, IsAdvanced, IsAsLongAt, IsOneOf, IsSetOut, StandsAt, parts_in}
use Rattle.gq_trails.specs.steps.Reached.{AreEnds, GoesToEnd}
use Rattle.gq_trails.specs.declared.reached.Ends.{Ends}
use Rattle.gq_trails.proofs.Chaining.{begun_behind, can_first, first_way, gone_behind, last_goes, many_alike, no_items, none_behind, none_left, not_begun, spent_behind, walks_on}

-- ---- lists

pub record IsCons (es : List Ends) : Type 0 where
  pub first : Ends
  pub rest : List Ends
  pub is : es ≡ first ∷ rest

pub cons_of : (es : List Ends) → 1 ≤ length es → IsCons es
cons_of [] some = absurd (omega (arith, some))
cons_of (e ∷ es) some = record { first = e; rest = es; is = refl }

pub cons_at : (at : ℕ) (es : List Ends) → at < length es → IsCons (drop at es)
cons_at at [] low = absurd (omega (arith, low))
cons_at zero (e ∷ es) low = record { first = e; rest = es; is = refl }
cons_at (suc at) (e ∷ es) low = cons_at at es (omega (arith, low))

first_is : {X : Type 0} {x y : X} {xs ys : List X} → x ∷ xs ≡ y ∷ ys → x ≡ y
first_is h = cc h

rest_is : {X : Type 0} {x y : X} {xs ys : List X} → x ∷ xs ≡ y ∷ ys → xs ≡ ys
rest_is h = cc h

pub low_at : (at : ℕ) (es : List Ends) (d : Ends) (r : List Ends) → drop at es ≡ d ∷ r → at < length es
low_at zero [] d r is = absurd (cc is)
low_at zero (e ∷ es) d r is = omega arith
low_at (suc at) [] d r is = absurd (cc is)
low_at (suc at) (e ∷ es) d r is = let low = low_at at es d r is in omega (arith, low)

pub drop_more : (at : ℕ) (es : List Ends) (d : Ends) (r : List Ends) → drop at es ≡ d ∷ r → drop (suc at) es ≡ r
drop_more zero [] d r is = absurd (cc is)
drop_more zero (e ∷ es) d r is = rest_is is
drop_more (suc at) [] d r is = absurd (cc is)
drop_more (suc at) (e ∷ es) d r is = drop_more at es d r is

drop_long : (at : ℕ) (es : List Ends) (d : Ends) (r : List Ends) → drop at es ≡ d ∷ r → length es ≡ at + suc (length r)
drop_long zero [] d r is = absurd (cc is)
drop_long zero (e ∷ es) d r is = let rest = ap length (rest_is is) in omega (arith, rest)
drop_long (suc at) [] d r is = absurd (cc is)
drop_long (suc at) (e ∷ es) d r is = let long = drop_long at es d r is in omega (arith, long)

take_less : (at : ℕ) (ws xs : List Ends) → take (suc at) ws ≡ take (suc at) xs → take at ws ≡ take at xs
take_less zero ws xs same = refl
take_less (suc at) [] [] same = refl
take_less (suc at) [] (x ∷ xs) same = absurd (cc same)
take_less (suc at) (w ∷ ws) [] same = absurd (cc same)
take_less (suc at) (w ∷ ws) (x ∷ xs) same = ap₂ ◌∷◌ (first_is same) (take_less at ws xs (rest_is same))

keeps_head : (at : ℕ) (ws xs : List Ends) (d : Ends) (r : List Ends) → drop at xs ≡ d ∷ r → take (suc at) ws ≡ take (suc at) xs → drop at ws ≡ d ∷ drop (suc at) ws
keeps_head zero ws [] d r is same = absurd (cc is)
keeps_head zero [] (x ∷ xs) d r is same = absurd (cc same)
keeps_head zero (w ∷ ws) (x ∷ xs) d r is same = ap (λ z. z ∷ ws) (first_is same ∙ first_is is)
keeps_head (suc at) ws [] d r is same = absurd (cc is)
keeps_head (suc at) [] (x ∷ xs) d r is same = absurd (cc same)
keeps_head (suc at) (w ∷ ws) (x ∷ xs) d r is same = keeps_head at ws xs d r is (rest_is same)

set_drop : (at : ℕ) (es : List Ends) (d : Ends) (r : List Ends) (y : Ends) → drop at es ≡ d ∷ r → drop at (set es at y) ≡ y ∷ r
set_drop zero [] d r y is = absurd (cc is)
set_drop zero (e ∷ es) d r y is = ap (λ l. y ∷ l) (rest_is is)
set_drop (suc at) [] d r y is = absurd (cc is)
set_drop (suc at) (e ∷ es) d r y is = set_drop at es d r y is

set_front : (at : ℕ) (es : List Ends) (y : Ends) → take at (set es at y) ≡ take at es
set_front at [] y = refl
set_front zero (e ∷ es) y = refl
set_front (suc at) (e ∷ es) y = ap (λ l. e ∷ l) (set_front at es y)

set_next : (at : ℕ) (es : List Ends) (d f : Ends) (r : List Ends) (y : Ends) → drop at es ≡ d ∷ f ∷ r → drop at (set es (suc at) y) ≡ d ∷ y ∷ r
set_next zero [] d f r y is = absurd (cc is)
set_next zero (e ∷ []) d f r y is = absurd (let lost : [] ≡ f ∷ r = rest_is is in cc lost)
set_next zero (e ∷ z ∷ es) d f r y is = ap₂ (λ (x : Ends) l. x ∷ y ∷ l) (first_is is) (rest_is (rest_is is))
set_next (suc at) [] d f r y is = absurd (cc is)
set_next (suc at) (e ∷ es) d f r y is = set_next at es d f r y is

set_before : (at : ℕ) (es : List Ends) (y : Ends) → take at (set es (suc at) y) ≡ take at es
set_before at [] y = refl
set_before zero (e ∷ es) y = refl
set_before (suc at) (e ∷ es) y = ap (λ l. e ∷ l) (set_before at es y)

-- an item that is read or written by its place
pub read_at : (at : ℕ) (es : List Ends) (x d : Ends) (r : List Ends) → drop at es ≡ d ∷ r → x ≡ get_or es at x → x ≡ d
read_at zero [] x d r is told = absurd (cc is)
read_at zero (e ∷ es) x d r is told = told ∙ first_is is
read_at (suc at) [] x d r is told = absurd (cc is)
read_at (suc at) (e ∷ es) x d r is told = read_at at es x d r is told

-- so what is true of the trail at a place is true of what is read there
pub can_at : (at : ℕ) (es : List Ends) (x : Ends) (base : Wide) → at < length es → CanBeginAt at es base → x ≡ get_or es at x → CanBegin x base
can_at at es x base low can told =
    let here = cons_at at es low in
    subst (λ (e : Ends). CanBegin e base) (sym (read_at at es x here.first here.rest here.is told)) (can here.first here.rest here.is)

pub long_at : (at : ℕ) (es : List Ends) (x : Ends) (row : Wide) → at < length es → IsAsLongAt at es row → x ≡ get_or es at x
    → (length row.nodes ≡ length x.row.nodes) × (length row.rels ≡ length x.row.rels)
long_at at es x row low long told =
    let here = cons_at at es low in
    subst (λ (e : Ends). (length row.nodes ≡ length e.row.nodes) × (length row.rels ≡ length e.row.rels)) (sym (read_at at es x here.first here.rest here.is told))
    (long here.first here.rest here.is)

-- how many ends the first of some trails owes
abbrev pub ends_left : List Ends → ℕ
ends_left [] = 0
ends_left (e ∷ es) = length e.reacher.owed

abbrev rels_head : List Ends → List (Option RelId)
rels_head [] = []
rels_head (e ∷ es) = e.row.rels

-- ---- moves

module _ (g : Graph) (barred : List (Option RelId) → ℕ → List RelId) (nodes rels : ℕ) (at : ℕ) (es : List Ends) (all : AreOfOne g nodes rels (drop at es)) where
  all_from : (e : Ends) (rest : List Ends) → drop at es ≡ e ∷ rest → AreOfOne g nodes rels (e ∷ rest)
  all_from e rest is = subst (AreOfOne g nodes rels) is all

  -- they are not begun
  pub not_begun_from : HaveGoneFrom g barred nodes rels false at es es false
  not_begun_from = record { front = refl; gone = λ e rest is. record { head = e; tail = rest; is = is; gone = not_begun g barred nodes rels e rest (all_from e rest is) } }

  -- the last of them
  pub last_from : (hs : List Ends) (found begun : Bool) → begun ≡ true → at + 1 ≡ length es → IsAdvanced at es hs found → HaveGoneFrom g barred nodes rels begun at es hs found
  last_from hs found begun on last gone = record {
    front = ap (take at) gone.is ∙ set_front at es gone.new;
    gone = λ e rest is. (let long = drop_long at es e rest is in
        let none : rest ≡ [] = no_items rest (omega (arith, long, last)) in
        let one = gone.one e rest is in
        record {
          head = gone.new;
          tail = [];
          is = ap (drop at) gone.is ∙ set_drop at es e rest gone.new is ∙ ap (λ l. gone.new ∷ l) none;
          gone = subst (λ l. HaveGoneOn g barred nodes rels begun e l gone.new [] found) (sym none)
              (last_goes g barred nodes rels e gone.new found (subst (λ l. AreOfOne g nodes rels (e ∷ l)) none (all_from e rest is)) one.goes one.stands one.ends one.same begun on);
        });
  }

  -- at first nothing has changed
  pub first_from : at + 1 < length es → AreUnderWayFrom g barred nodes rels at es es
  first_from more = record {
    front = refl;
    way = λ e rest is. (let long = drop_long at es e rest is in
        let next = cons_of rest (omega (arith, long, more)) in
        record {
          head = e;
          next = next.first;
          tail = next.rest;
          is = is ∙ ap (λ l. e ∷ l) next.is;
          way = subst (AreUnderWay g barred nodes rels e rest e) next.is (first_way g barred nodes rels e rest (all_from e rest is));
        });
  }

-- those that follow go on
module _ {g : Graph} {barred : List (Option RelId) → ℕ → List RelId} {nodes rels at : ℕ} {es xs : List Ends} (way : AreUnderWayFrom g barred nodes rels at es xs) where
  -- there is one that follows
  pub more_low : at < length es → at + 1 < length xs
  more_low low =
      let here = cons_at at es low in
      let w = way.way here.first here.rest here.is in
      let long = drop_long at xs w.head (w.next ∷ w.tail) w.is in
      omega (arith, long)

  pub more_long : at < length es → length xs ≡ length es
  more_long low =
      let here = cons_at at es low in
      let w = way.way here.first here.rest here.is in
      let long = drop_long at xs w.head (w.next ∷ w.tail) w.is in
      let was = drop_long at es here.first here.rest here.is in
      let same = many_alike here.first here.rest w.head (w.next ∷ w.tail) w.way.kept.parts in
      omega (arith, long, was, same)

  pub more_all : at < length es → AreOfOne g nodes rels (drop (at + 1) xs)
  more_all low =
      let here = cons_at at es low in
      let w = way.way here.first here.rest here.is in
      let one : at + 1 ≡ suc at = omega arith in
      subst (λ k. AreOfOne g nodes rels (drop k xs)) (sym one) (subst (AreOfOne g nodes rels) (sym (drop_more at xs w.head (w.next ∷ w.tail) w.is)) w.way.kept.all.1)

  pub more_goes : {entered : Bool} → StandsAt at xs entered → at < length es → GoFrom g es at → entered ≡ true → GoFrom g xs (at + 1)
  more_goes told low goes on f fs is =
      let here = cons_at at es low in
      let w = way.way here.first here.rest here.is in
      let one : at + 1 ≡ suc at = omega arith in
      let same : f ∷ fs ≡ w.next ∷ w.tail = sym is ∙ ap (λ k. drop k xs) one ∙ drop_more at xs w.head (w.next ∷ w.tail) w.is in
      let gone = w.way.goes here.first.row.rels (goes here.first here.rest here.is) in
      let behind = gone.more (sym (told w.head (w.next ∷ w.tail) w.is) ∙ on) in
      subst (λ l. AllGoOn g (rels_head l) l) (sym same) (subst (λ os. AllGoOn g os (w.next ∷ w.tail)) (sym behind.rels) behind)

  module _ {entered : Bool} (told : StandsAt at xs entered) {ws : List Ends} {found : Bool} (gone : HaveGoneFrom g barred nodes rels entered (at + 1) xs ws found) where
    one_more : at + 1 ≡ suc at
    one_more = omega arith

    front_ws : take at ws ≡ take at es
    front_ws = take_less at ws xs (subst (λ k. take k ws ≡ take k xs) one_more gone.front) ∙ way.front

    module _ (e : Ends) (rest : List Ends) (is : drop at es ≡ e ∷ rest) where
      w : HasWay g barred nodes rels e rest (drop at xs)
      w = way.way e rest is

      inner : HasGone g barred nodes rels entered w.next w.tail (drop (at + 1) ws) found
      inner = gone.gone w.next w.tail (ap (λ k. drop k xs) one_more ∙ drop_more at xs w.head (w.next ∷ w.tail) w.is)

      came : HaveGoneOn g barred nodes rels w.head.stands w.next w.tail inner.head inner.tail found
      came = subst (λ b. HaveGoneOn g barred nodes rels b w.next w.tail inner.head inner.tail found) (told w.head (w.next ∷ w.tail) w.is) inner.gone

      drop_ws : drop at ws ≡ w.head ∷ inner.head ∷ inner.tail
      drop_ws =
          keeps_head at ws xs w.head (w.next ∷ w.tail) w.is (subst (λ k. take k ws ≡ take k xs) one_more gone.front)
          ∙ ap (λ l. w.head ∷ l) (ap (λ k. drop k ws) (sym one_more) ∙ inner.is)

    -- to the next row
    pub found_from : found ≡ true → (begun : Bool) → begun ≡ true → HaveGoneFrom g barred nodes rels begun at es ws true
    found_from sure begun on = record {
      front = front_ws;
      gone = λ e rest is. record {
        head = (w e rest is).head;
        tail = (inner e rest is).head ∷ (inner e rest is).tail;
        is = drop_ws e rest is;
        gone = gone_behind g barred nodes rels e rest (w e rest is).head (w e rest is).next (w e rest is).tail (inner e rest is).head (inner e rest is).tail (w e rest is).way
            (subst (HaveGoneOn g barred nodes rels (w e rest is).head.stands (w e rest is).next (w e rest is).tail (inner e rest is).head (inner e rest is).tail) sure (came e rest is)) begun on;
      };
    }

    module _ (off : found ≡ false) where
      none_came : (e : Ends) (rest : List Ends) (is : drop at es ≡ e ∷ rest)
          → HaveGoneOn g barred nodes rels (w e rest is).head.stands (w e rest is).next (w e rest is).tail (inner e rest is).head (inner e rest is).tail false
      none_came e rest is = subst (HaveGoneOn g barred nodes rels (w e rest is).head.stands (w e rest is).next (w e rest is).tail (inner e rest is).head (inner e rest is).tail) off (came e rest is)

      -- the one before them may go on
      pub low_ws : at < length es → at < length ws
      low_ws low = let here = cons_at at es low in low_at at ws _ _ (drop_ws here.first here.rest here.is)

      way_ws : (e : Ends) (rest : List Ends) (is : drop at es ≡ e ∷ rest) → AreUnderWay g barred nodes rels e rest (w e rest is).head ((inner e rest is).head ∷ (inner e rest is).tail)
      way_ws e rest is = none_behind g barred nodes rels e rest (w e rest is).head (w e rest is).next (w e rest is).tail (inner e rest is).head (inner e rest is).tail (w e rest is).way (none_came e rest is)

      pub ends_ws : at < length es → (d : Ends) (r : List Ends) → drop at ws ≡ d ∷ r → AreEnds d
      ends_ws low d r here_is =
          let here = cons_at at es low in
          let same = first_is (sym (drop_ws here.first here.rest here.is) ∙ here_is) in
          subst AreEnds same (way_ws here.first here.rest here.is).kept.all.0.ends

      module _ {hs : List Ends} {further : Bool} (gone_to : IsAdvanced at ws hs further) where
        one_to : (e : Ends) (rest : List Ends) (is : drop at es ≡ e ∷ rest) → HasAdvanced (w e rest is).head gone_to.new further
        one_to e rest is = gone_to.one (w e rest is).head ((inner e rest is).head ∷ (inner e rest is).tail) (drop_ws e rest is)

        drop_hs : (e : Ends) (rest : List Ends) (is : drop at es ≡ e ∷ rest) → drop at hs ≡ gone_to.new ∷ (inner e rest is).head ∷ (inner e rest is).tail
        drop_hs e rest is = ap (drop at) gone_to.is ∙ set_drop at ws (w e rest is).head ((inner e rest is).head ∷ (inner e rest is).tail) gone_to.new (drop_ws e rest is)

        front_hs : take at hs ≡ take at es
        front_hs = ap (take at) gone_to.is ∙ set_front at ws gone_to.new ∙ front_ws

        -- nothing is owed
        pub none_from : further ≡ false → (begun : Bool) → begun ≡ true → HaveGoneFrom g barred nodes rels begun at es hs false
        none_from end begun on = record {
          front = front_hs;
          gone = λ e rest is. (let one = one_to e rest is in record {
            head = gone_to.new;
            tail = (inner e rest is).head ∷ (inner e rest is).tail;
            is = drop_hs e rest is;
            gone = none_left g barred nodes rels e rest (w e rest is).head ((inner e rest is).head ∷ (inner e rest is).tail) gone_to.new further (way_ws e rest is) one.goes one.stands one.ends one.same end
                (spent_behind g barred nodes rels e rest (w e rest is).head (w e rest is).next (w e rest is).tail (inner e rest is).head (inner e rest is).tail (w e rest is).way (none_came e rest is)) begun on;
          });
        }

        module _ (more : further ≡ true) (low : at < length es) (goes : GoFrom g es at) where
          pub low_hs : at + 1 < length hs
          low_hs =
              let here = cons_at at es low in
              let long = drop_long at hs gone_to.new ((inner here.first here.rest here.is).head ∷ (inner here.first here.rest here.is).tail) (drop_hs here.first here.rest here.is) in
              omega (arith, long)

          pub low_row : at < length hs
          low_row = let more_there = low_hs in omega (arith, more_there)

          pub long_row : (row : Wide) → length row.nodes ≡ nodes → length row.rels ≡ rels → (d : Ends) (r : List Ends) → drop at hs ≡ d ∷ r
              → (length row.nodes ≡ length d.row.nodes) × (length row.rels ≡ length d.row.rels)
          long_row row long_nodes long_rels d r here_is =
              let here = cons_at at es low in
              let same = first_is (sym (drop_hs here.first here.rest here.is) ∙ here_is) in
              let one = one_to here.first here.rest here.is in
              let first = (way_ws here.first here.rest here.is).kept.all.0 in (
                long_nodes ∙ sym (sym (ap (λ (x : Ends). length x.row.nodes) same) ∙ one.same.nodes ∙ first.nodes),
                long_rels ∙ sym (sym (ap (λ (x : Ends). length x.row.rels) same) ∙ one.same.rels ∙ first.rels),
              )

          module _ (row : Wide) (row_is : (d : Ends) (r : List Ends) → drop at hs ≡ d ∷ r → row ≡ d.row) where
            row_new : (e : Ends) (rest : List Ends) (is : drop at es ≡ e ∷ rest) → row ≡ gone_to.new.row
            row_new e rest is = row_is gone_to.new ((inner e rest is).head ∷ (inner e rest is).tail) (drop_hs e rest is)

            pub can_from_here : CanBeginAt (at + 1) hs row
            can_from_here f fs f_is =
                let here = cons_at at es low in
                let e = here.first in
                let rest = here.rest in
                let is = here.is in
                let same = first_is (sym (drop_more at hs gone_to.new ((inner e rest is).head ∷ (inner e rest is).tail) (drop_hs e rest is)) ∙ ap (λ k. drop k hs) (sym one_more) ∙ f_is) in
                let one = one_to e rest is in
                let h : IsOneOf g nodes rels (inner e rest is).head = (way_ws e rest is).kept.all.1.0 in
                let d : IsOneOf g nodes rels (w e rest is).head = (way_ws e rest is).kept.all.0 in
                let row_at = row_new e rest is in
                let walks = walks_on g barred nodes rels e rest (w e rest is).head ((inner e rest is).head ∷ (inner e rest is).tail) gone_to.new further (way_ws e rest is) one.goes one.stands one.ends one.same more e.row.rels (goes e rest is) in
                subst (λ (x : Ends). CanBegin x row) same (record {
                  ends = h.ends;
                  walks = subst (λ (k : Graph). CanTrek k ((inner e rest is).head.part.now ∷ []) row) (sym h.graph)
                      (subst (λ (r : Wide). CanTrek g ((inner e rest is).head.part.now ∷ []) r) (sym row_at) (can_first g (inner e rest is).head.part.now (parts_in (inner e rest is).tail) gone_to.new.row walks));
                  nodes = h.nodes ∙ sym (ap (λ (r : Wide). length r.nodes) row_at ∙ one.same.nodes ∙ d.nodes);
                  rels = h.rels ∙ sym (ap (λ (r : Wide). length r.rels) row_at ∙ one.same.rels ∙ d.rels);
                })

            pub begun_from : (ks : List Ends) → IsSetOut (at + 1) hs ks row (barred row.rels) → AreUnderWayFrom g barred nodes rels at es ks
            begun_from ks set_out = record {
              front = ap (take at) ks_is ∙ set_before at hs set_out.new ∙ front_hs;
              way = λ e rest is. (let one = one_to e rest is in
                  let h = (inner e rest is).head in
                  let fs = (inner e rest is).tail in
                  let begun = set_out.one h fs (ap (λ k. drop k hs) one_more ∙ drop_more at hs gone_to.new (h ∷ fs) (drop_hs e rest is)) in
                  let row_at = row_new e rest is in
                  record {
                    head = gone_to.new;
                    next = set_out.new;
                    tail = fs;
                    is = ap (drop at) ks_is ∙ set_next at hs gone_to.new h fs set_out.new (drop_hs e rest is);
                    way = begun_behind g barred nodes rels e rest (w e rest is).head h fs gone_to.new (way_ws e rest is) (subst (GoesToEnd (w e rest is).head gone_to.new) more one.goes) (one.stands ∙ more) one.ends one.same
                        (spent_behind g barred nodes rels e rest (w e rest is).head (w e rest is).next (w e rest is).tail h fs (w e rest is).way (none_came e rest is))
                        set_out.new (begun.row ∙ row_at) begun.stands begun.ends begun.same
                        (λ a seen. begun.owed a (λ v. ap (λ (r : Wide). item_at r.nodes v) row_at ∙ seen v) ∙ ap (λ (r : Wide). rows_at_ends h.graph.now (barred r.rels) h.part.now a) row_at);
                  });
            }
              where
                ks_is : ks ≡ set hs (suc at) set_out.new
                ks_is = set_out.is ∙ ap (λ k. set hs k set_out.new) one_more

            pub fewer_ks : (ks : List Ends) → IsSetOut (at + 1) hs ks row (barred row.rels) → ends_left (drop at ks) < ends_left (drop at xs)
            fewer_ks ks set_out =
                let here = cons_at at es low in
                let e = here.first in
                let rest = here.rest in
                let is = here.is in
                let less = (one_to e rest is).goes.fewer more in
                let new = ap ends_left (ap (drop at) (set_out.is ∙ ap (λ k. set hs k set_out.new) one_more) ∙ set_next at hs gone_to.new (inner e rest is).head (inner e rest is).tail set_out.new (drop_hs e rest is)) in
                let old = ap ends_left (w e rest is).is in
                omega (arith, less, new, old)
