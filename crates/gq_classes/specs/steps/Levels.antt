-- Rows by levels: a level numbers, in the order of its keys, the fronts of rows that have one value more than those before it.
use Rattle.std.specs.Prelude.{Vec, ◌≡◌, ℕ, ◌<◌, ◌⊎◌, Option, Some, None, Result, Ok, Err, List, [], ◌∷◌, ◌++◌, length, map, slice_get, slice_index_or, replicate, ◌≢◌}
use Rattle.std.specs.Borrow.{Bor}
use Rattle.std.specs.Global.{Global}
use Rattle.std.specs.HashSet.{HashSet}
use Rattle.std.specs.List.{AllByRecursion}
use Rattle.gq_base.specs.Values.{Val, null, flag, int, str, node, rel}
use Rattle.gq_base.specs.declared.memory.Memory.{Memory}
use Rattle.gq_classes.specs.declared.key.Key.{Key}
use Rattle.gq_classes.specs.declared.key.Key.TheVariants as key
use Rattle.gq_classes.specs.declared.level.Level.{Level}

-- ---- keys

-- the texts of a set, in order
abbrev pub texts_of : {S : Type 0} → HashSet (Bor (List ℕ)) S → List (List ℕ)
texts_of texts = map (λ (text : Bor (List ℕ)). text.now) texts.keys

-- the number of the front behind which the value of a key stands
abbrev pub front_of : Key → ℕ
front_of (key.Null front) = front
front_of (key.Flag front b) = front
front_of (key.Int front z) = front
front_of (key.Text front n) = front
front_of (key.Node front table row) = front
front_of (key.Rel front table row) = front

abbrev pub text_val : Option (List ℕ) → Val
text_val None = null
text_val (Some s) = str s

-- the value of a key
abbrev pub key_val : List (List ℕ) → Key → Val
key_val texts (key.Null front) = null
key_val texts (key.Flag front b) = flag b
key_val texts (key.Int front z) = int z
key_val texts (key.Text front n) = text_val (slice_get texts n)
key_val texts (key.Node front table row) = node (record { table = table; row = row })
key_val texts (key.Rel front table row) = rel (record { table = table; row = row })

-- the number of a text is one of theirs
abbrev pub HasText : ℕ → Key → Type 0
HasText texts (key.Text front n) = n < texts
HasText texts k = Unit {0}

-- the key of a value behind a front
pub record IsKeyOf (texts : List (List ℕ)) (front : ℕ) (value : Val) (k : Key) : Type 0 where
  pub behind : front_of k ≡ front
  pub is : key_val texts k ≡ value
  pub text : HasText (length texts) k

-- ---- fronts

-- the fronts with one value more each
abbrev pub longer : List (List ℕ) → List (List Val) → List Key → List (List Val)
longer texts fronts keys = map (λ k. slice_index_or fronts (front_of k) [] ++ key_val texts k ∷ []) keys

-- the rows that levels make of fronts
abbrev pub rows_from : List (List ℕ) → List (List Val) → List (List Key) → List (List Val)
rows_from texts fronts [] = fronts
rows_from texts fronts (keys ∷ levels) = rows_from texts (longer texts fronts keys) levels

-- the keys of levels
abbrev pub keys_of : List Level → List (List Key)
keys_of levels = map (λ (level : Level). level.keys.keys) levels

-- the keys of lists
abbrev pub lists_of : List (Vec Key Global) → List (List Key)
lists_of lists = map (λ (list : Vec Key Global). list.items) lists

-- a key with a front and a text that are there
abbrev pub IsWithin : ℕ → ℕ → Key → Type 0
IsWithin texts fronts k = (front_of k < fronts) × HasText texts k

abbrev pub IsOnce : List Key → Type 0
IsOnce keys = (i j : ℕ) (k : Key) → slice_get keys i ≡ Some k → slice_get keys j ≡ Some k → i ≡ j

-- each level has the keys of fronts of the level before, each once
abbrev pub AreLevels : ℕ → ℕ → List (List Key) → Type 0
AreLevels texts fronts [] = Unit {0}
AreLevels texts fronts (keys ∷ levels) = AllByRecursion (IsWithin texts fronts) keys × IsOnce keys × AreLevels texts (length keys) levels

-- each text is there once
abbrev pub AreTexts : List (List ℕ) → Type 0
AreTexts texts = (i j : ℕ) (s : List ℕ) → slice_get texts i ≡ Some s → slice_get texts j ≡ Some s → i ≡ j

-- ---- what calls tell

-- the text of a number
abbrev pub IsTextOf : List (List ℕ) → List ℕ → ℕ → Type 0
IsTextOf texts text n = slice_get texts n ≡ Some text

-- more texts, behind those that were there
pub record Grows (old new : List (List ℕ)) : Type 0 where
  pub more : List (List ℕ)
  pub is : new ≡ old ++ more
  pub once : AreTexts old → AreTexts new

-- the number of a value behind a front among the keys of a level, which are one more where it was not there
pub record Numbered (old new : List (List ℕ)) (front : ℕ) (value : Val) (before after : List Key) (n : ℕ) : Type 0 where
  pub grows : Grows old new
  pub key : Key
  pub at : slice_get after n ≡ Some key
  pub behind : front_of key ≡ front
  pub is : key_val new key ≡ value
  pub keys : (after ≡ before) ⊎ ((after ≡ before ++ key ∷ []) × (n ≡ length before) × HasText (length new) key)
  pub once : IsOnce before → IsOnce after

abbrev pub Numbers : List (List ℕ) → List (List ℕ) → ℕ → Val → List Key → List Key → Result ℕ Memory → Type 0
Numbers old new front value before after (Ok n) = Numbered old new front value before after n
Numbers old new front value before after (Err e) = Grows old new × (after ≡ before)

-- the one front without values
abbrev pub empty_row : List (List Val)
empty_row = [] ∷ []

-- more texts and keys, with all that was there
pub record Arrives (old new : List (List ℕ)) (fronts : List (List Val)) (before after : List (List Key)) : Type 0 where
  pub grows : Grows old new
  pub levels : AreLevels (length new) (length fronts) after
  pub depth : length after ≡ length before

-- a row has a number among rows, which are one more where it was not there
pub record Found (rows later : List (List Val)) (row : List Val) (n : ℕ) : Type 0 where
  pub at : slice_get later n ≡ Some row
  pub is : (later ≡ rows) ⊎ ((later ≡ rows ++ row ∷ []) × (n ≡ length rows))

-- the way of a row through levels, from the number of a front on
abbrev pub Leads : List (List ℕ) → List (List ℕ) → List (List Val) → List (List Key) → List (List Key) → ℕ → List Val → Result ℕ Memory → Type 0
Leads old new fronts before after front row (Ok n) =
    Arrives old new fronts before after × (before ≡ [] → n ≡ front)
    × Found (rows_from old fronts before) (rows_from new fronts after) (slice_index_or fronts front [] ++ row) n
Leads old new fronts before after front row (Err e) =
    Arrives old new fronts before after × (before ≡ [] → ⊥) × (rows_from new fronts after ≡ rows_from old fronts before)

-- the levels of a front, and as many as the values of a row
pub record CanLead (texts : List (List ℕ)) (fronts : List (List Val)) (before : List (List Key)) (front : ℕ) (row : List Val) : Type 0 where
  pub levels : AreLevels (length texts) (length fronts) before
  pub within : front < length fronts
  pub depth : length before ≡ length row

-- so many levels: those that were there, or others without keys
abbrev pub Fits : ℕ → List Level → List Level → ℕ → ℕ → Result (Unit {0}) Memory → Type 0
Fits width old new count later (Ok _) =
    (length new ≡ width) × (((new ≡ old) × (later ≡ count)) ⊎ ((length old ≢ width) × (keys_of new ≡ replicate width []) × (later ≡ 0)))
Fits width old new count later (Err e) = (new ≡ old) × (later ≡ count)
