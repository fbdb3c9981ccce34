-- The way of a row through levels.
use Rattle.std.proofs.Common.{◌≡◌, ◌∙◌, ap, ap₂, refl, sym, subst, ℕ, ◌≤◌, Some, Result, Ok, Err, List, [], ◌∷◌, ◌++◌, length, slice_get, slice_index_or, inl, inr, arith, length-append, append-nil, append_assoc, ◌≢◌}
use Rattle.std.specs.Prelude.{◌⊎◌}
use Rattle.std.specs.Option.{option_map}
use Rattle.std.specs.Result.{IsErr}
use Rattle.std.specs.List.{AllByRecursion}
use Rattle.std.proofs.lemmas.List.{map-append}
use Rattle.std.proofs.lemmas.Option.{slice_get-map, slice_get-get_or, get_or_from_slice_get, slice_get_within}
use Rattle.gq_base.specs.Values.{Val}
use Rattle.gq_base.specs.declared.memory.Memory.{Memory}
use Rattle.gq_classes.specs.declared.key.Key.{Key}
use Rattle.gq_classes.specs.steps.Levels.{AreLevels, Arrives, CanLead, Found, Grows, HasText, IsWithin, Leads, Numbered, front_of, key_val, longer, rows_from}
use Rattle.gq_classes.proofs.Paths.{Rows, Texts, length-longer, longer_fronts, longer_texts, more_levels, more_within, rows_texts}

-- a key behind others
within_more : (m n : ℕ) (keys : List Key) (k : Key) → AllByRecursion (IsWithin m n) keys → IsWithin m n k → AllByRecursion (IsWithin m n) (keys ++ k ∷ [])
within_more m n [] k h w = (w, tt)
within_more m n (x ∷ xs) k (h, hs) w = (h, within_more m n xs k hs w)

pub growing : (old new : Texts) → Grows old new → length old ≤ length new
growing old new g = omega (arith, ap length g.is, length-append old g.more)

pub both_grow : (a b c : Texts) → Grows a b → Grows b c → Grows a c
both_grow a b c g h = record {
  more = g.more ++ h.more;
  is = h.is ∙ ap (λ l. l ++ h.more) g.is ∙ append_assoc a g.more h.more;
  once = λ o. h.once (g.once o);
}

pub no_levels : (l : List (List Key)) → length l ≡ 0 → l ≡ []
no_levels [] e = refl
no_levels (k ∷ ks) e = absurd (omega (arith, e))

pub no_values : (l : List Val) → length l ≡ 0 → l ≡ []
no_values [] e = refl
no_values (w ∷ ws) e = absurd (omega (arith, e))

-- one level
module _ (t t' : Texts) (fronts : Rows) (front : ℕ) (v : Val) (keys keys' : List Key) (n : ℕ) (N : Numbered t t' front v keys keys' n) (ls : List (List Key))
    (row : List Val) (c : CanLead t fronts (keys ∷ ls) front (v ∷ row)) where
  grown : length t ≤ length t'
  grown = growing t t' N.grows

  within : AllByRecursion (IsWithin (length t') (length fronts)) keys'
  within = by N.keys
    where
      before : AllByRecursion (IsWithin (length t') (length fronts)) keys
      before = more_within (length t) (length fronts) (length t') (length fronts) grown (omega arith) keys c.levels.0

      by : (keys' ≡ keys) ⊎ ((keys' ≡ keys ++ N.key ∷ []) × (n ≡ length keys) × HasText (length t') N.key) → AllByRecursion (IsWithin (length t') (length fronts)) keys'
      by (inl e) = subst (AllByRecursion (IsWithin (length t') (length fronts))) (sym e) before
      by (inr (e, at, text)) =
          subst (AllByRecursion (IsWithin (length t') (length fronts))) (sym e)
          (within_more (length t') (length fronts) keys N.key before (omega (arith, N.behind, c.within), text))

  longer_keys : length keys ≤ length keys'
  longer_keys = by N.keys
    where
      by : (keys' ≡ keys) ⊎ ((keys' ≡ keys ++ N.key ∷ []) × (n ≡ length keys) × HasText (length t') N.key) → length keys ≤ length keys'
      by (inl e) = omega (arith, ap length e)
      by (inr (e, at, text)) = omega (arith, ap length e, length-append keys (N.key ∷ []))

  abbrev fronts' : Rows
  fronts' = longer t' fronts keys'

  size : length fronts' ≡ length keys'
  size = length-longer t' fronts keys'

  -- the levels behind it
  can : CanLead t' fronts' ls n row
  can = record {
    levels = subst (λ k. AreLevels (length t') k ls) (sym size) (more_levels (length t) (length keys) (length t') (length keys') grown longer_keys ls c.levels.2);
    within = omega (arith, size, slice_get_within keys' n N.key N.at);
    depth = omega (arith, c.depth);
  }

  -- the front that it leads to
  there : slice_index_or fronts' n [] ≡ slice_index_or fronts front [] ++ v ∷ []
  there =
      get_or_from_slice_get fronts' n (slice_index_or fronts (front_of N.key) [] ++ key_val t' N.key ∷ []) []
      (slice_get-map (λ k. slice_index_or fronts (front_of k) [] ++ key_val t' k ∷ []) keys' n ∙ ap (option_map (λ k. slice_index_or fronts (front_of k) [] ++ key_val t' k ∷ [])) N.at)
      ∙ ap₂ (λ f w. slice_index_or fronts f [] ++ w ∷ []) N.behind N.is

  whole : slice_index_or fronts' n [] ++ row ≡ slice_index_or fronts front [] ++ v ∷ row
  whole = ap (λ l. l ++ row) there ∙ append_assoc (slice_index_or fronts front []) (v ∷ []) row

  -- the rows before, by the texts of now
  rows : rows_from t' (longer t' fronts keys) ls ≡ rows_from t fronts (keys ∷ ls)
  rows = ap (λ l. rows_from l (longer l fronts keys) ls) N.grows.is ∙ rows_texts t N.grows.more fronts (keys ∷ ls) c.levels

  -- those behind more levels are the same
  same_rows : ls ≢ [] → rows_from t' fronts' ls ≡ rows_from t fronts (keys ∷ ls)
  same_rows some = by N.keys
    where
      add : (l : List (List Key)) → l ≢ [] → AreLevels (length t) (length keys) l → rows_from t' (longer t' fronts keys ++ longer t' fronts (N.key ∷ [])) l ≡ rows_from t' (longer t' fronts keys) l
      add [] not h = absurd (not refl)
      add (k ∷ ks) not h =
          ap (λ fs. rows_from t' fs ks)
          (longer_fronts t' (longer t' fronts keys) (longer t' fronts (N.key ∷ [])) (length t) k (subst (λ m. AllByRecursion (IsWithin (length t) m) k) (sym (length-longer t' fronts keys)) h.0))

      by : (keys' ≡ keys) ⊎ ((keys' ≡ keys ++ N.key ∷ []) × (n ≡ length keys) × HasText (length t') N.key) → rows_from t' fronts' ls ≡ rows_from t fronts (keys ∷ ls)
      by (inl e) = ap (λ k. rows_from t' (longer t' fronts k) ls) e ∙ rows
      by (inr (e, at, text)) =
          ap (λ k. rows_from t' (longer t' fronts k) ls) e
          ∙ ap (λ fs. rows_from t' fs ls) (map-append (λ k. slice_index_or fronts (front_of k) [] ++ key_val t' k ∷ []) keys (N.key ∷ []))
          ∙ add ls some c.levels.2 ∙ rows

  module _ (t'' : Texts) (ls' : List (List Key)) (a : Arrives t' t'' fronts' ls ls') where
    arrives : Arrives t t'' fronts (keys ∷ ls) (keys' ∷ ls')
    arrives = record {
      grows = both_grow t t' t'' N.grows a.grows;
      levels = (
        more_within (length t') (length fronts) (length t'') (length fronts) (growing t' t'' a.grows) (omega arith) keys' within,
        N.once c.levels.1,
        subst (λ k. AreLevels (length t'') k ls') size a.levels,
      );
      depth = omega (arith, a.depth);
    }

    later : rows_from t'' fronts (keys' ∷ ls') ≡ rows_from t'' fronts' ls'
    later = ap (λ l. rows_from t'' l ls') (ap (λ x. longer x fronts keys') a.grows.is ∙ longer_texts t' a.grows.more fronts (length fronts) keys' within)

    -- a row that was found behind more levels
    found_behind : ls ≢ [] → (m : ℕ) → Found (rows_from t' fronts' ls) (rows_from t'' fronts' ls') (slice_index_or fronts' n [] ++ row) m
        → Found (rows_from t fronts (keys ∷ ls)) (rows_from t'' fronts (keys' ∷ ls')) (slice_index_or fronts front [] ++ v ∷ row) m
    found_behind some m f = record {
      at = ap (λ l. slice_get l m) later ∙ f.at ∙ ap Some whole;
      is = by f.is;
    }
      where
        by : (rows_from t'' fronts' ls' ≡ rows_from t' fronts' ls) ⊎ ((rows_from t'' fronts' ls' ≡ rows_from t' fronts' ls ++ (slice_index_or fronts' n [] ++ row) ∷ []) × (m ≡ length (rows_from t' fronts' ls)))
            → (rows_from t'' fronts (keys' ∷ ls') ≡ rows_from t fronts (keys ∷ ls)) ⊎ ((rows_from t'' fronts (keys' ∷ ls') ≡ rows_from t fronts (keys ∷ ls) ++ (slice_index_or fronts front [] ++ v ∷ row) ∷ []) × (m ≡ length (rows_from t fronts (keys ∷ ls))))
        by (inl e) = inl (later ∙ e ∙ same_rows some)
        by (inr (e, at)) = inr (later ∙ e ∙ ap₂ (λ l r. l ++ r ∷ []) (same_rows some) whole, at ∙ ap length (same_rows some))

    -- a row that ends behind this level
    found_last : ls ≡ [] → (m : ℕ) → m ≡ n → slice_get (rows_from t'' fronts' ls') m ≡ Some (slice_index_or fronts' n [] ++ row)
        → Found (rows_from t fronts (keys ∷ ls)) (rows_from t'' fronts (keys' ∷ ls')) (slice_index_or fronts front [] ++ v ∷ row) m
    found_last none m is at = record {
      at = ap (λ l. slice_get l m) later ∙ at ∙ ap Some whole;
      is = by N.keys;
    }
      where
        now : rows_from t'' fronts (keys' ∷ ls') ≡ fronts'
        now = later ∙ ap (rows_from t'' fronts') (no_levels ls' (a.depth ∙ ap length none))

        before : longer t' fronts keys ≡ rows_from t fronts (keys ∷ ls)
        before = ap (rows_from t' (longer t' fronts keys)) (sym none) ∙ rows

        last : slice_index_or fronts (front_of N.key) [] ++ key_val t' N.key ∷ [] ≡ slice_index_or fronts front [] ++ v ∷ row
        last =
            ap₂ (λ f w. slice_index_or fronts f [] ++ w ∷ []) N.behind N.is
            ∙ ap (λ r. slice_index_or fronts front [] ++ v ∷ r) (sym (no_values row (omega (arith, c.depth, ap length none))))

        by : (keys' ≡ keys) ⊎ ((keys' ≡ keys ++ N.key ∷ []) × (n ≡ length keys) × HasText (length t') N.key)
            → (rows_from t'' fronts (keys' ∷ ls') ≡ rows_from t fronts (keys ∷ ls)) ⊎ ((rows_from t'' fronts (keys' ∷ ls') ≡ rows_from t fronts (keys ∷ ls) ++ (slice_index_or fronts front [] ++ v ∷ row) ∷ []) × (m ≡ length (rows_from t fronts (keys ∷ ls))))
        by (inl e) = inl (now ∙ ap (longer t' fronts) e ∙ before)
        by (inr (e, place, text)) = inr (
          now ∙ ap (longer t' fronts) e ∙ map-append (λ k. slice_index_or fronts (front_of k) [] ++ key_val t' k ∷ []) keys (N.key ∷ []) ∙ ap₂ (λ l r. l ++ r ∷ []) before last,
          is ∙ place ∙ sym (length-longer t' fronts keys) ∙ ap length before,
        )

  some_level : {K : Type 0} (k : K) (ks : List K) → k ∷ ks ≡ [] → ⊥
  some_level k ks e = cc

  pub goes_on : (t'' : Texts) (ls' : List (List Key)) (r : Result ℕ Memory) → (CanLead t' fronts' ls n row → Leads t' t'' fronts' ls ls' n row r) → Leads t t'' fronts (keys ∷ ls) (keys' ∷ ls') front (v ∷ row) r
  goes_on t'' ls' (Ok m) f =
      let g = f can in
      (arrives t'' ls' g.0, λ e. absurd (some_level keys ls e), by ls refl g)
    where
      by : (l : List (List Key)) → ls ≡ l → Leads t' t'' fronts' ls ls' n row (Ok m) → Found (rows_from t fronts (keys ∷ ls)) (rows_from t'' fronts (keys' ∷ ls')) (slice_index_or fronts front [] ++ v ∷ row) m
      by [] e g = found_last t'' ls' g.0 e m (g.1 e) g.2.at
      by (k ∷ ks) e g = found_behind t'' ls' g.0 (λ none. some_level k ks (sym e ∙ none)) m g.2
  goes_on t'' ls' (Err x) f =
      let g = f can in
      (arrives t'' ls' g.0, some_level keys ls, later t'' ls' g.0 ∙ g.2 ∙ same_rows g.1)

-- want of memory at the first level
pub stops : (t t' : Texts) (fronts : Rows) (front : ℕ) (keys keys' : List Key) (ls : List (List Key)) (row : List Val) (x : Memory) → Grows t t' → keys' ≡ keys → CanLead t fronts (keys ∷ ls) front row
    → Leads t t' fronts (keys ∷ ls) (keys' ∷ ls) front row (Err x)
stops t t' fronts front keys keys' ls row x g e c =
    let same : keys' ∷ ls ≡ keys ∷ ls = ap (λ k. k ∷ ls) e in
    let grown = growing t t' g in (
      record {
        grows = g;
        levels = subst (AreLevels (length t') (length fronts)) (sym same) (more_levels (length t) (length fronts) (length t') (length fronts) grown (omega arith) (keys ∷ ls) c.levels);
        depth = ap length same;
      },
      λ none. cc,
      ap (rows_from t' fronts) same ∙ ap (λ l. rows_from l fronts (keys ∷ ls)) g.is ∙ rows_texts t g.more fronts (keys ∷ ls) c.levels,
    )

-- the end of a row
pub ends : (t : Texts) (fronts : Rows) (ls : List (List Key)) (front : ℕ) (row : List Val) → ls ≡ [] → CanLead t fronts ls front row → Leads t t fronts ls ls front row (Ok front)
ends t fronts ls front row none c = (
  record { grows = record { more = []; is = sym (append-nil t); once = λ o. o }; levels = c.levels; depth = refl },
  λ e. refl,
  record { at = there; is = inl refl },
)
  where
    there : slice_get (rows_from t fronts ls) front ≡ Some (slice_index_or fronts front [] ++ row)
    there =
        ap (λ l. slice_get (rows_from t fronts l) front) none ∙ slice_get-get_or fronts front [] c.within
        ∙ ap Some (sym (append-nil (slice_index_or fronts front []))) ∙ ap (λ r. Some (slice_index_or fronts front [] ++ r)) (sym (no_values row (omega (arith, c.depth, ap length none))))

-- ---- the same of whatever begins so

pub goes_on_from : (t t' t'' : Texts) (before keys' : _) (front : ℕ) (v : Val) (keys : List Key) (n : ℕ) (ls ls' : List (List Key)) (rest row : List Val) (r : Result ℕ Memory)
    → before ≡ keys ∷ ls → row ≡ v ∷ rest → Numbered t t' front v keys keys' n
    → ((fronts : Rows) → CanLead t' fronts ls n rest → Leads t' t'' fronts ls ls' n rest r)
    → (fronts : Rows) → CanLead t fronts before front row → Leads t t'' fronts before (keys' ∷ ls') front row r
goes_on_from t t' t'' before keys' front v keys n ls ls' rest row r e e' N f fronts =
    subst (λ b. CanLead t fronts b front row → Leads t t'' fronts b (keys' ∷ ls') front row r) (sym e)
    (subst (λ w. CanLead t fronts (keys ∷ ls) front w → Leads t t'' fronts (keys ∷ ls) (keys' ∷ ls') front w r) (sym e')
    (λ c. goes_on t t' fronts front v keys keys' n N ls rest c t'' ls' r (f (longer t' fronts keys'))))

pub stops_from : (t t' : Texts) (before : _) (front : ℕ) (keys keys' : List Key) (ls : List (List Key)) (row : List Val) (r : Result ℕ Memory)
    → before ≡ keys ∷ ls → Grows t t' × (keys' ≡ keys) → IsErr r → (fronts : Rows) → CanLead t fronts before front row → Leads t t' fronts before (keys' ∷ ls) front row r
stops_from t t' before front keys keys' ls row (Ok n) e g err fronts c = absurd (let no : ⊥ = cc in no)
stops_from t t' before front keys keys' ls row (Err x) e g err fronts c =
    subst (λ b. CanLead t fronts b front row → Leads t t' fronts b (keys' ∷ ls) front row (Err x)) (sym e)
    (stops t t' fronts front keys keys' ls row x g.0 g.1) c
