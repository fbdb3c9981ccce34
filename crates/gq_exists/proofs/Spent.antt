-- What pipelines spend that run for keys.
use Rattle.std.proofs.Common.{◌≡◌, ◌≢◌, ◌∙◌, ap, refl, sym, subst, ℕ, zero, suc, ◌+◌, ◌-◌, ◌^◌, ◌<◌, min, Bool, true, false, ◌&&◌, nat_eq, List, [], ◌∷◌, ◌++◌, length, map, arith, length-append, append_assoc, append-nil, true≢false}
use Rattle.std.specs.Prelude.{IsPermutation}
use Rattle.std.proofs.lemmas.Bool.Decides.{nat_tests}
use Rattle.std.proofs.lemmas.List.{length-map}
use Rattle.std.proofs.lemmas.List.Sorted.{length_permutation}
use Rattle.gq_base.specs.Plain.{Graph}
use Rattle.gq_pipe.specs.Rest.{Rest}
use Rattle.gq_pipe.specs.Spending.{HasOneEach, HasSpentAll, up_to_most}
use Rattle.gq_homes.specs.declared.spent.Spent.{Spent}
use Rattle.gq_plan.specs.Assignments as plain
use Rattle.gq_plan.specs.Columns.{columns_of}
use Rattle.gq_plan.specs.Keys.{has_key, key_of}
use Rattle.gq_plan.specs.Meaning.{meaning, whole}
use Rattle.gq_plan.specs.Plans.{Plan, plan_of}
use Rattle.gq_plan.specs.declared.plan.Plan as code
use Rattle.gq_plan.specs.declared.typed.Typed.{Typed}
use Rattle.std.specs.HashSet.{HashSet}
use Rattle.gq_exists.specs.Spending.{GoesOn, HasSpentEach, HasSpentFor, one_chunk}
use Rattle.gq_exists.specs.declared.gathering.Gathering.{Gathering}
use Rattle.gq_exists.specs.declared.paths.Link.{Link}
use Rattle.gq_exists.specs.steps.Gathered.{IsGathering, TakesOn}
use Rattle.gq_exists.specs.declared.keys.Keys.{Keys}
use Rattle.gq_exists.specs.declared.keys.Keys.TheVariants as keys
use Rattle.gq_exists.specs.steps.Levels.{keys_from, links_of, roots}
use Rattle.gq_exists.specs.steps.Stored.{IsWide, keys_in}
use Rattle.gq_exists.specs.steps.Running.{Counted, Ended, HasRun, HasSpentMore, HasSpentOne, SpendsEach, is_full_at, made_keys, one_of}
use Rattle.gq_exists.proofs.Filling.{begun, zero_has}

-- ---- chunks

one_counted : (n : ℕ) → min (up_to_most n + 1) (2 ^ 64 - 1) ≡ up_to_most (n + 1)
one_counted n = omega arith

longer : {X : Type 0} (xs : List X) → xs ≢ [] → 0 < length xs
longer [] h = absurd (h refl)
longer (x ∷ xs) h = omega arith

one_some : {X : Type 0} (xs : List X) → 0 < length xs → 1 ≡ one_of xs
one_some [] h = absurd (omega (arith, h))
one_some (x ∷ xs) h = refl

none_left : {X : Type 0} (xs : List X) → length xs ≡ 0 → xs ≡ []
none_left [] h = refl
none_left (x ∷ xs) h = absurd (omega (arith, h))

pub counted_none : (begun : Rest) → begun.chunks ≡ 0 → Counted begun begun
counted_none begun fresh = record { count = 0; chunks = fresh; keys = omega arith; most = omega arith; none = λ e. refl }

module _ (begun now after : Rest) (came : Counted begun now) where
  -- one more chunk
  module _ (next : IsPermutation now.owed (after.chunk ++ after.owed)) (some : after.chunk ≢ []) (key : now.keys ≡ after.key ∷ after.keys)
      (chunk : after.chunks ≡ min (now.chunks + 1) (2 ^ 64 - 1)) where
    pub counted_more : Counted begun after
    counted_more = record {
      count = came.count + 1;
      chunks = chunk ∙ ap (λ n. min (n + 1) (2 ^ 64 - 1)) came.chunks ∙ one_counted came.count;
      keys = omega (arith, came.keys, ap length key);
      most = omega (arith, came.most, length_permutation _ _ next, length-append after.chunk after.owed, longer after.chunk some);
      none = λ e. absurd (omega (arith, e));
    }

    -- it is the first, and no other is wanted
    pub run_first : (width : ℕ) → width ≡ 0 → now.chunks ≡ 0 → HasRun width begun after
    run_first width zero_wide none = record {
      first = λ e. chunk ∙ ap (λ n. min (n + 1) (2 ^ 64 - 1)) none
          ∙ one_some begun.owed (omega (arith, came.most, length_permutation _ _ next, length-append after.chunk after.owed, longer after.chunk some));
      all = λ wide. absurd (wide zero_wide);
    }

  -- nothing is owed any more
  pub run_out : (width : ℕ) → (width ≡ 0 → now.chunks ≡ 0) → now.owed ≡ [] → now.keys ≡ [] → after.chunks ≡ now.chunks → HasRun width begun after
  run_out width fresh none no_keys same = record {
    first = λ e. (let zero_count : came.count ≡ 0 = omega (arith, fresh e, came.chunks) in same ∙ fresh e ∙ sym (ap one_of (sym (came.none zero_count) ∙ none)));
    all = λ wide. record {
      count = came.count;
      chunks = same ∙ came.chunks;
      keys = omega (arith, came.keys, ap length no_keys);
      most = omega (arith, came.most, ap length none);
      none = λ e. sym (came.none e) ∙ none;
    };
  }

-- ---- a plan

one_same : {X : Type 0} (xs : List X) (ms : List plain.Assignment) → length xs ≡ length ms → one_of xs ≡ one_chunk ms
one_same [] [] e = refl
one_same [] (m ∷ ms) e = absurd (omega (arith, e))
one_same (x ∷ xs) [] e = absurd (omega (arith, e))
one_same (x ∷ xs) (m ∷ ms) e = refl

module _ (g : Graph) (y : Typed) (p : Plan) (begun now : Rest) (own : Spent) (owed : IsPermutation (map (whole y) begun.owed) (meaning g y p))
    (each : (s : Spent) → s.chunks ≡ up_to_most (length begun.keys) → HasOneEach g y p s) (columns : begun.columns ≡ columns_of y p) (same : now.columns ≡ begun.columns) (has_chunks : own.chunks ≡ now.chunks)
    (has_columns : own.columns ≡ now.columns) where
  long : length begun.owed ≡ length (meaning g y p)
  long = omega (arith, length_permutation _ _ owed, length-map begun.owed (whole y))

  ended : Ended begun now → HasSpentAll g y p own
  ended run = record {
    spent = record {
      columns = has_columns ∙ same ∙ columns;
      most = omega (arith, has_chunks, run.chunks, run.most, long);
      none = λ e. none_left (meaning g y p) (omega (arith, long, ap length (run.none (omega (arith, has_chunks, run.chunks, e)))));
    };
    one_each = each own (has_chunks ∙ run.chunks ∙ ap up_to_most run.keys);
  }

  own_spent : (width : ℕ) → HasRun width begun now → HasSpentFor width g y p own
  own_spent zero run = (has_columns ∙ same ∙ columns, has_chunks ∙ run.first refl ∙ one_same begun.owed (meaning g y p) long)
  own_spent (suc n) run = ended (run.all (λ e. omega (arith, e)))

  -- it stands behind the others
  pub one_spent : (width : ℕ) → HasRun width begun now → (old new : List Spent) → new ≡ old ++ own ∷ [] → HasSpentOne width g y p old new
  one_spent width run old new all = record { own = own; all = all; is = own_spent width run }

-- ---- alternatives

no_levels : {S : Type 0} (any : Bool) (levels : List (HashSet Link S)) → length levels ≡ 0 → keys_from (roots any) (links_of levels) ≡ roots any
no_levels any [] e = refl
no_levels any (l ∷ levels) e = absurd (omega (arith, e))

has_root : (any : Bool) → has_key [] (roots any) ≡ any
has_root true = refl
has_root false = refl

abbrev some_rows : List plain.Assignment → Bool
some_rows [] = false
some_rows (m ∷ ms) = true

has_some : (n : ℕ) → n ≡ 0 → (ms : List plain.Assignment) → has_key [] (map (key_of n) ms) ≡ some_rows ms
has_some n z [] = refl
has_some n z (m ∷ ms) = zero_has n z (m ∷ ms) (λ e. absurd (omega (arith, ap length e))) [] refl

-- where keys have no nodes and that without any is not among them there are none
no_keys : (w : ℕ) (k : Keys) → IsWide w k → w ≡ 0 → has_key [] (keys_in k) ≡ false → keys_in k ≡ []
no_keys w (keys.Rows r) wide z none = absurd (omega (arith, wide, z))
no_keys w (keys.Paths p) wide z none =
    let is = no_levels p.any p.levels.items (sym wide ∙ z) in
    is ∙ ap roots (sym (has_root p.any) ∙ ap (has_key []) (sym is) ∙ none)

-- where keys have no nodes and none came, one stands behind a plan that makes something
stands_now : (g : Graph) (y : Typed) (p : code.Plan) (old mid : Gathering) → IsGathering old → old.width ≡ 0 → has_key [] (keys_in old.keys) ≡ false → TakesOn (made_keys g y old.width p) old mid
    → has_key [] (keys_in mid.keys) ≡ some_rows (meaning g y (plan_of p))
stands_now g y p old mid is z none took =
    let here = took.stands [] (begun old (no_keys old.width old.keys is.wide z none)) in
    here.same [] ∙ has_some old.width z (meaning g y (plan_of p))

not_zero : (w : ℕ) → nat_eq (suc w) 0 ≡ false
not_zero w = grind (arith, nat_tests)

full_false : (w : ℕ) (any : Bool) → (nat_eq w 0 && any) ≡ false → w ≡ 0 → any ≡ false
full_false zero any e z = e
full_false (suc w) any e z = absurd (omega (arith, z))

module _ (g : Graph) (y : Typed) (p : code.Plan) (ys : List Typed) (ps : List code.Plan) (old mid : Gathering) (is : IsGathering old) (room : is_full_at old ≡ false)
    (took : TakesOn (made_keys g y old.width p) old mid) where
  goes_on : (w : ℕ) (any : Bool) (ms : List plain.Assignment) (more : List Spent) → (w ≡ 0 → any ≡ some_rows ms) → SpendsEach (nat_eq w 0 && any) w g ys (map plan_of ps) more
      → GoesOn w ms (HasSpentEach w g ys (map plan_of ps) more) more
  goes_on zero true [] more h e = absurd (true≢false (h refl))
  goes_on zero false [] more h e = e
  goes_on zero true (m ∷ ms) more h e = e
  goes_on zero false (m ∷ ms) more h e = absurd (true≢false (sym (h refl)))
  goes_on (suc w) any ms more h e = subst (λ b. SpendsEach (b && any) (suc w) g ys (map plan_of ps) more) (not_zero w) e

  -- the pipelines of the others stand behind that of the first
  pub each_spent : (before between after : List Spent) → HasSpentOne old.width g y (plan_of p) before between → HasSpentMore (is_full_at mid) mid.width g ys (map plan_of ps) between after
      → HasSpentMore (is_full_at old) old.width g (y ∷ ys) (plan_of p ∷ map plan_of ps) before after
  each_spent before between after one more = record {
    more = one.own ∷ more.more;
    all = more.all ∙ ap (λ l. l ++ more.more) one.all ∙ append_assoc before (one.own ∷ []) more.more;
    each =
        subst (λ b. SpendsEach b old.width g (y ∷ ys) (plan_of p ∷ map plan_of ps) (one.own ∷ more.more)) (sym room) (
          one.is,
          goes_on old.width (has_key [] (keys_in mid.keys)) (meaning g y (plan_of p)) more.more
              (λ z. stands_now g y p old mid is z (full_false old.width (has_key [] (keys_in old.keys)) room z) took)
              (subst (λ w. SpendsEach (nat_eq w 0 && has_key [] (keys_in mid.keys)) w g ys (map plan_of ps) more.more) took.width more.each),
        );
  }

-- no pipeline ran
pub none_spent : (full : Bool) (width : ℕ) (g : Graph) (ys : List Typed) (ps : List Plan) (spent : List Spent) → SpendsEach full width g ys ps [] → HasSpentMore full width g ys ps spent spent
none_spent full width g ys ps spent e = record { more = []; all = sym (append-nil spent); each = e }

pub no_alternatives : (full : Bool) (width : ℕ) (g : Graph) (ys : List Typed) (ps : List Plan) → ys ≡ [] → SpendsEach full width g ys ps []
no_alternatives true width g ys ps e = refl
no_alternatives false width g [] ps e = refl
no_alternatives false width g (y ∷ ys) ps e = absurd (omega (arith, ap length e))

pub no_plans : (full : Bool) (width : ℕ) (g : Graph) (ys : List Typed) (ps : List Plan) → ps ≡ [] → SpendsEach full width g ys ps []
no_plans true width g ys ps e = refl
no_plans false width g [] ps e = refl
no_plans false width g (y ∷ ys) [] e = refl
no_plans false width g (y ∷ ys) (p ∷ ps) e = absurd (omega (arith, ap length e))

pub full_none : (full : Bool) (width : ℕ) (g : Graph) (ys : List Typed) (ps : List Plan) → full ≡ true → SpendsEach full width g ys ps []
full_none true width g ys ps e = refl
full_none false width g ys ps e = absurd (true≢false (sym e))
