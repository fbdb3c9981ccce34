-- Each step of answering a query leads on, or to a reply that is permitted.
use Rattle.std.proofs.Common.{◌≡◌, ℕ, zero, suc, ◌+◌, ◌<◌, ◌≤◌, get_or, Bool, true, false, Some, List, [], ◌∷◌, ◌++◌, length, take, drop, slice_get, Result, Err, inl, inr, refl, sym, ap, ap₂, ◌∙◌, append-nil, subst, arith, true≢false}
use Rattle.std.specs.Prelude.{◌⊎◌, ◌||◌, flat_map}
use Rattle.std.specs.List.{AllZip, fold}
use Rattle.std.proofs.lemmas.Grind.{flat_map-append}
use Rattle.gq_pipe.specs.Spending.{up_to_most}
use Rattle.gq_homes.specs.declared.spent.Spent.{Spent}
use Rattle.std.proofs.lemmas.List.{take-append-drop}
use Rattle.std.proofs.lemmas.List.Sorted.{IsPermutation-sym}
use Rattle.gq_base.specs.Values.{Val}
use Rattle.gq_expr.specs.declared.Fault.{Fault}
use Rattle.gq_plan.specs.Meaning.{meaning}
use Rattle.gq_plan.specs.Outcomes.{Row}
use Rattle.gq_plan.specs.declared.Typed.{Typed}
use Rattle.gq_kept.specs.Answers.{Answers, cut_of}
use Rattle.gq_base.specs.Plain.{Graph}
use Rattle.gq_plan.specs.declared.Bound.{Bound}
use Rattle.gq_kept.specs.Tables.{StandsFor, StandsForSome, Table, is_full, is_full_table}
use Rattle.gq_order.specs.declared.named.Order.{Order}
use Rattle.gq_execute.specs.declared.settings.Settings.{Settings}
use Rattle.gq_execute.specs.Answering.{Replies}
use Rattle.gq_execute.specs.steps.Answering.{AreParted, Came, MakeOutcomes, Drains, IsFresh, Reached, Runs, Spends, SpendsTurn}
use Rattle.gq_execute.specs.Replies.{Question, IsPermitted, Rows, TooManyRows, has_heavy_clause, has_heavy_test, has_large_part, has_turn}
use Rattle.gq_execute.specs.Spending.{AreSpent, IsSpentOn, IsSpentOnClause, IsTurn, Turn, clauses_made, own_chunks, tests_made, with_turns}
use Rattle.gq_drain.specs.Taking.{IsPlain, MeetsMany, Takes}
use Rattle.gq_optional.specs.Spending.{Listing, spent_on_each}
use Rattle.gq_kept.specs.Chunks.{Stands}
use Rattle.gq_drain.specs.Becoming.{Becomes, outcomes_by}
use Rattle.gq_execute.specs.declared.refusal.AnswerRefusal.{AnswerRefusal}
use Rattle.gq_execute.specs.declared.refusal.AnswerRefusal.TheVariants as refusal
use Rattle.gq_execute.proofs.Replying.{reached_start, reached_next, reached_more, fault_permitted, many_permitted, rows_permitted, heavy_permitted, rows_of, turn_comes, turned_all}

-- what a table stands for, told of the question
told : (a : Question) (t : Table) (os : List (Result Row Fault)) → t.bound ≡ a.bound → t.most ≡ a.most → StandsFor a.bound a.most os t.held → Stands os t
told a t os bound most h = subst (λ m. StandsFor t.bound m os t.held) (sym most) (subst (λ b. StandsFor b a.most os t.held) (sym bound) h)

asked : (a : Question) (t : Table) (os : List (Result Row Fault)) → t.bound ≡ a.bound → t.most ≡ a.most → Stands os t → StandsFor a.bound a.most os t.held
asked a t os bound most h = subst (λ m. StandsFor a.bound m os t.held) most (subst (λ b. StandsFor b t.most os t.held) bound h)

full_told : (a : Question) (t : Table) (v : Bool) → t.bound ≡ a.bound → is_full_table t ≡ v → is_full (cut_of a.bound) t.held ≡ v
full_told a t v bound h = ap (λ b. is_full (cut_of b) t.held) (sym bound) ∙ h

pub came_start : (a : Question) (t : Table) → t.bound ≡ a.bound → t.most ≡ a.most → StandsFor a.bound a.most [] t.held → Came a [] t
came_start a t bound most stands = record { pushed = []; left = []; at = reached_start a; bound = bound; most = most; stands = stands; done = inr refl }

nothing_left : (a : Question) (begun : List Typed) (t : Table) (came : Came a begun t) → is_full_table t ≡ false → came.left ≡ []
nothing_left a begun t came room = go came.done
  where
    go : (is_full_table t ≡ true) ⊎ (came.left ≡ []) → came.left ≡ []
    go (inl full) = absurd (true≢false (sym full ∙ room))
    go (inr none) = none

split_at : (ys : List Typed) (k : ℕ) (y : Typed) → slice_get ys k ≡ Some y → ys ≡ take k ys ++ (y ∷ drop (suc k) ys)
split_at [] k y e = absurd (cc e)
split_at (z ∷ ys) zero y e = let same : z ≡ y = cc in ap (λ x. x ∷ ys) same
split_at (z ∷ ys) (suc k) y e = ap (λ l. z ∷ l) (split_at ys k y e)

take_at : (ys : List Typed) (k : ℕ) (y : Typed) → slice_get ys k ≡ Some y → take (suc k) ys ≡ take k ys ++ y ∷ []
take_at [] k y e = absurd (cc e)
take_at (z ∷ ys) zero y e = let same : z ≡ y = cc in ap (λ x. x ∷ []) same
take_at (z ∷ ys) (suc k) y e = ap (λ l. z ∷ l) (take_at ys k y e)

-- ---- the turn of an alternative

module _ (a : Question) (parted : AreParted a) (becomes : Becomes) (makes : MakeOutcomes a becomes) (k : ℕ) (y : Typed) (old : Table) (here : slice_get a.bound.alternatives k ≡ Some y)
    (came : Came a (take k a.bound.alternatives) old) (room : is_full_table old ≡ false) where
  abbrev begun : List Typed
  begun = take (suc k) a.bound.alternatives

  abbrev later : List Typed
  later = drop (suc k) a.bound.alternatives

  reached : Reached a (take k a.bound.alternatives) came.pushed []
  reached = subst (Reached a (take k a.bound.alternatives) came.pushed) (nothing_left a (take k a.bound.alternatives) old came room) came.at

  -- its turn comes, since there is room
  has_come : has_turn (cut_of a.bound) (rows_of a (take k a.bound.alternatives)) ≡ true
  has_come =
      turn_comes a parted (take k a.bound.alternatives) (y ∷ later) came.pushed [] (split_at a.bound.alternatives k y here) reached old.held came.stands
      (full_told a old false came.bound room) refl

  -- the alternative is begun: the outcomes of its plan are left
  started : (Meets : List (Result Row Fault) → Type 0) (run : Runs becomes a.graph a.bound a.order old.most y Meets) → Reached a begun came.pushed (outcomes_by becomes a.graph a.bound y (meaning a.graph y run.plan))
  started Meets run =
      let light : has_large_part a.graph a.order a.most y ≡ false = ap (λ m. has_large_part a.graph a.order m y) (sym came.most) ∙ run.light in
      subst (λ ys. Reached a ys came.pushed (outcomes_by becomes a.graph a.bound y (meaning a.graph y run.plan))) (sym (take_at a.bound.alternatives k y here))
      (reached_next a (take k a.bound.alternatives) came.pushed y _ (IsPermutation-sym _ _ (makes k y here run.plan run.covers)) light has_come reached)

  stood : Stands came.pushed old
  stood = told a old came.pushed came.bound came.most came.stands

  -- its outcomes went into the table
  pub turn_came : (new : Table) → Runs becomes a.graph a.bound a.order old.most y (λ os. Takes os old new) → Came a begun new
  turn_came new run =
      let t = run.meets in
      let bound : new.bound ≡ a.bound = t.alike.bound ∙ came.bound in
      let most : new.most ≡ a.most = t.alike.most ∙ came.most in
      record {
        pushed = came.pushed ++ t.cut.pushed;
        left = t.cut.left;
        at = reached_more a begun came.pushed _ t.cut.pushed t.cut.left t.cut.bag (started _ run);
        bound = bound;
        most = most;
        stands = asked a new _ bound most (t.stands came.pushed stood);
        done = t.done;
      }

  -- or stopped it
  pub turn_stopped : (new : Table) (e : AnswerRefusal) → Drains becomes a.graph a.bound a.order y old new (Err e) → Replies a (Err e)
  turn_stopped new (refusal.Fault f) run =
      let t = run.meets in
      fault_permitted a parted begun later (came.pushed ++ t.cut.pushed) t.cut.left (sym (take-append-drop (suc k) a.bound.alternatives))
      (reached_more a begun came.pushed _ t.cut.pushed t.cut.left t.cut.bag (started _ run)) f (rw (← came.bound) (t.seen came.pushed stood))
  turn_stopped new (refusal.TooManyRows most) (is, why) = (is ∙ came.most, many why)
    where
      many : (has_large_part a.graph a.order old.most y ≡ true) ⊎ Runs becomes a.graph a.bound a.order old.most y (λ os. MeetsMany os old) → IsPermitted a TooManyRows
      many (inl heavy) =
          heavy_permitted a parted (take k a.bound.alternatives) later y came.pushed old.held (split_at a.bound.alternatives k y here) reached came.stands
          (full_told a old false came.bound room) (ap (λ m. has_large_part a.graph a.order m y) (sym came.most) ∙ heavy)
      many (inr run) =
          let t = run.meets in
          many_permitted a parted begun later (came.pushed ++ t.cut.pushed) t.cut.left (sym (take-append-drop (suc k) a.bound.alternatives))
          (reached_more a begun came.pushed _ t.cut.pushed t.cut.left t.cut.bag (started _ run)) (rw (← came.bound, ← came.most) (t.many came.pushed stood))
  turn_stopped new (refusal.Memory why) h = tt

-- ---- the end

past : (ys : List Typed) (k : ℕ) → length ys ≤ k → drop k ys ≡ []
past [] zero h = refl
past [] (suc k) h = refl
past (z ∷ ys) zero h = absurd (omega arith)
past (z ∷ ys) (suc k) h = past ys k (omega arith)

-- the table is finished, once it is full or all alternatives were begun
module _ (a : Question) (parted : AreParted a) (k : ℕ) (t : Table) (came : Came a (take k a.bound.alternatives) t) (end : (is_full_table t ≡ true) ⊎ (length a.bound.alternatives ≤ k)) where
  done : (is_full_table t ≡ true) ⊎ (length a.bound.alternatives ≤ k) → (is_full_table t ≡ true) ⊎ (came.left ≡ [])
      → (is_full (cut_of a.bound) t.held ≡ true) ⊎ ((came.left ≡ []) × (drop k a.bound.alternatives ≡ []))
  done (inl full) left = inl (full_told a t true came.bound full)
  done (inr all) (inl full) = inl (full_told a t true came.bound full)
  done (inr all) (inr none) = inr (none, past a.bound.alternatives k all)

  -- its lines are permitted
  pub finished : (lines : List (List Val)) → ((os : List (Result Row Fault)) → Stands os t → Answers t.bound os lines) → (has_heavy_test a || has_heavy_clause a) ≡ false → IsPermitted a (Rows lines)
  finished lines answers light =
      rows_permitted a parted (take k a.bound.alternatives) (drop k a.bound.alternatives) came.pushed came.left (sym (take-append-drop k a.bound.alternatives)) came.at t.held lines came.stands (done end came.done)
      (rw (← came.bound) (answers came.pushed (told a t came.pushed came.bound came.most came.stands))) light

  -- and just the alternatives whose turn comes were begun
  turns_taken : with_turns a 0 a.bound.alternatives ≡ take k a.bound.alternatives
  turns_taken =
      turned_all a parted (take k a.bound.alternatives) (drop k a.bound.alternatives) came.pushed came.left (sym (take-append-drop k a.bound.alternatives)) came.at t.held came.stands (done end came.done)

  -- so what was spent in their turns, and before them on tests and optional clauses, is what all pipelines spent
  pub spent_all : (tested : List (List Spent)) (listed : List (List Listing)) (own spent : List Spent) (pushed : ℕ) → pushed ≡ t.pushed
      → Spends a.graph a.bound a.order (take k a.bound.alternatives) t own → AllZip (IsSpentOn a.graph a.order) (tests_made a) tested
      → AllZip (IsSpentOnClause a.graph a.order) (clauses_made a) listed → spent ≡ flat_map (λ s. s) tested ++ (flat_map spent_on_each listed ++ own) → AreSpent a spent pushed
  spent_all tested listed own spent pushed same spends on_tests on_clauses all = record {
    tested = tested;
    on_tests = on_tests;
    listed = listed;
    on_clauses = on_clauses;
    turns = spends.turns;
    each = subst (λ ys. AllZip (IsTurn a.graph a.bound a.order) ys spends.turns) (sym turns_taken) spends.each;
    all = all ∙ ap (λ l. flat_map (λ s. s) tested ++ (flat_map spent_on_each listed ++ l)) spends.all;
    chunks = λ none. same ∙ spends.chunks none;
  }

-- an empty table stands for no outcomes
pub fresh_stands : (b : Bound) (settings : Settings) (t : Table) → IsFresh b settings t → Stands [] t
fresh_stands b settings t fresh =
    subst (λ m. StandsFor t.bound m [] t.held) (sym fresh.most) (subst (λ q. StandsFor q settings.rows [] t.held) (sym fresh.bound) fresh.none)

-- what a table stands for when an alternative went into it
pub taken_more : (becomes : Becomes) (g : Graph) (b : Bound) (order : Order) (y : Typed) (old new : Table) → StandsForSome old → Runs becomes g b order old.most y (λ os. Takes os old new) → StandsForSome new
taken_more becomes g b order y old new some run = (some.0 ++ run.meets.cut.pushed, run.meets.stands some.0 some.1)

-- the alternative of a number
pub item_at : {X : Type 0} (ys : List X) (k : ℕ) (y : X) → k < length ys → y ≡ get_or ys k y → slice_get ys k ≡ Some y
item_at [] k y lt e = absurd (omega (arith, lt))
item_at (z ∷ ys) zero y lt e = ap Some (sym e)
item_at (z ∷ ys) (suc k) y lt e = item_at ys k y (omega (arith, lt)) e

-- a turn was taken
pub turn_taken : (a : Question) → AreParted a → (becomes : Becomes) → MakeOutcomes a becomes → (k : ℕ) (y : Typed) (old new : Table) → slice_get a.bound.alternatives k ≡ Some y → Came a (take k a.bound.alternatives) old → is_full_table old ≡ false
    → Runs becomes a.graph old.bound a.order old.most y (λ os. Takes os old new) → Came a (take (k + 1) a.bound.alternatives) new
turn_taken a parted becomes makes k y old new here came room run =
    let same : suc k ≡ k + 1 = omega arith in
    subst (λ n. Came a (take n a.bound.alternatives) new) same
    (turn_came a parted becomes makes k y old here came room new (subst (λ b. Runs becomes a.graph b a.order old.most y (λ os. Takes os old new)) came.bound run))

-- or it was stopped
pub turn_ended : (a : Question) → AreParted a → (becomes : Becomes) → MakeOutcomes a becomes → (k : ℕ) (y : Typed) (old new : Table) → slice_get a.bound.alternatives k ≡ Some y → Came a (take k a.bound.alternatives) old → is_full_table old ≡ false
    → (e : AnswerRefusal) → Drains becomes a.graph old.bound a.order y old new (Err e) → Replies a (Err e)
turn_ended a parted becomes makes k y old new here came room e h =
    turn_stopped a parted becomes makes k y old here came room new e (subst (λ b. Drains becomes a.graph b a.order y old new (Err e)) came.bound h)

-- ---- what was spent

-- in no turn
pub spends_none : (g : Graph) (b : Bound) (settings : Settings) (t : Table) → IsFresh b settings t → Spends g b settings.order [] t []
spends_none g b settings t fresh = record { turns = []; each = tt; all = refl; chunks = λ none. fresh.pushed }

zip_more : {X Y : Type 0} (R : X → Y → Type 0) (xs : List X) (ys : List Y) (x : X) (y : Y) → AllZip R xs ys → R x y → AllZip R (xs ++ x ∷ []) (ys ++ y ∷ [])
zip_more R [] [] x y zip here = (here, tt)
zip_more R [] (z ∷ ys) x y zip here = absurd zip
zip_more R (z ∷ xs) [] x y zip here = absurd zip
zip_more R (z ∷ xs) (w ∷ ys) x y zip here = (zip.0, zip_more R xs ys x y zip.1 here)

chunks_more : (before : ℕ) (turns : List Turn) (t : Turn)
    → fold (λ a (u : Turn). a + u.own.chunks) before (turns ++ t ∷ []) ≡ fold (λ a (u : Turn). a + u.own.chunks) before turns + t.own.chunks
chunks_more before [] t = refl
chunks_more before (u ∷ turns) t = chunks_more (before + u.own.chunks) turns t

-- in one turn more
pub spends_more : (g : Graph) (b : Bound) (order : Order) (ys : List Typed) (k : ℕ) (y : Typed) (old new : Table) (spent more : List Spent) → slice_get ys k ≡ Some y → old.bound ≡ b
    → Spends g b order (take k ys) old spent → SpendsTurn g order y old new more → Spends g b order (take (k + 1) ys) new (spent ++ more)
spends_more g b order ys k y old new spent more here same spends turn =
    let next : suc k ≡ k + 1 = omega arith in
    record {
      turns = spends.turns ++ turn.turn ∷ [];
      each =
          subst (λ l. AllZip (IsTurn g b order) l (spends.turns ++ turn.turn ∷ [])) (sym (take_at ys k y here) ∙ ap (λ n. take n ys) next)
          (zip_more (IsTurn g b order) (take k ys) spends.turns y turn.turn spends.each (subst (λ q. IsTurn g q order y turn.turn) same turn.is));
      all =
          ap₂ (λ l m. l ++ m) spends.all (turn.all ∙ sym (append-nil _))
          ∙ sym (flat_map-append (λ (t : Turn). t.sides ++ t.own ∷ []) spends.turns (turn.turn ∷ []));
      chunks = λ plain. turn.chunks (subst IsPlain (sym same) plain) (own_chunks spends.turns) (spends.chunks plain) ∙ ap up_to_most (sym (chunks_more 0 spends.turns turn.turn));
    }
