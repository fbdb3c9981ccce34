-- Records that are read together, on their way.
use Rattle.std.proofs.Common.{◌≡◌, ◌∙◌, ℕ, ◌+◌, ◌<◌, Bool, List, [], ◌∷◌, ◌++◌, length, get_or, suc, zero, take, drop, true, false, refl, sym, ap, ◌≤◌, add-one, append-nil, inl, inr, length-append, length-drop, arith}
use Rattle.gq_base.specs.Results.{and_then}
use Rattle.std.specs.Prelude.{All, Err, if◌then◌else◌, nat_eq, option_map, slice_set}
use Rattle.std.specs.Option.{ok_or}
use Rattle.std.specs.declared.option.Option.{Option}
use Rattle.std.specs.declared.option.Option.TheVariants.{Some, None}
use Rattle.std.proofs.lemmas.Option.{none-some}
use Rattle.std.proofs.Math.Seq.{drop-cons}
use Rattle.std.proofs.lemmas.List.{get_or-set_same, length-map, length-set, length-take, take-set, take_all}
use Rattle.std.proofs.lemmas.Bool.{cases_eq}
use Rattle.std.proofs.lemmas.Bool.Decides.{nat_tests}
use Rattle.std.proofs.lemmas.List.Elements.{All-more}
use Rattle.csv.specs.Records.{fields_of}
use Rattle.gq_base.specs.Plain.{cell_val}
use Rattle.gq_base.specs.Values.{Val}
use Rattle.gq_base.specs.declared.cell.Cell.{Cell}
use Rattle.gq_fields.specs.Fields.{cell_of}
use Rattle.gq_tables.specs.steps.Batches.{IsEnd, spelled, texts_of}
use Rattle.gq_tables.specs.Keys.{find_key}
use Rattle.gq_tables.specs.Rels.{KeyTable, find_end}
use Rattle.gq_tables.specs.declared.batch.FoundEnd.TheVariants.{Missing}
use Rattle.gq_tables.specs.declared.batch.PendingRel.{PendingRel}
use Rattle.gq_tables.specs.declared.refusal.TableRefusal.TheVariants as refusal

-- the record at a place, and those behind it
pub records-drop : (batch : List PendingRel) (at : ℕ) (pending : PendingRel) (left : List (List (List ℕ))) → at < length batch → pending ≡ get_or batch at pending
    → texts_of (drop at batch) ++ left ≡ fields_of pending.texts ∷ (texts_of (drop (at + 1) batch) ++ left)
records-drop batch at pending left less is =
    ap (λ l. texts_of l ++ left) (drop-cons batch at pending less) ∙ rw (add-one at, ← is) refl

-- a record whose texts stay in its place
pub texts-set : (batch : List PendingRel) (at : ℕ) (pending other : PendingRel) → at < length batch → fields_of pending.texts ≡ fields_of (get_or batch at other).texts
    → texts_of (slice_set batch at pending) ≡ texts_of batch
texts-set [] at pending other less same = absurd (omega arith)
texts-set (p ∷ batch) zero pending other less same = ap (λ t. t ∷ texts_of batch) same
texts-set (p ∷ batch) (suc at) pending other less same = ap (λ l. fields_of p.texts ∷ l) (texts-set batch at pending other (omega arith) same)

-- what is true of the first records is true of one more that is written
pub each-take : (P : PendingRel → Type 0) (batch : List PendingRel) (at : ℕ) (pending : PendingRel) → at < length batch → P pending
    → All P (take at batch) → All P (take (at + 1) (slice_set batch at pending))
each-take P batch at pending less has before =
    let within : at < length (slice_set batch at pending) = rw (length-set batch at pending) less in
    All-more P (slice_set batch at pending) at pending within (rw (take-set batch at pending) before) (rw (get_or-set_same batch at pending pending less) has)

-- a key that no row has is missing, in whichever record and column its text stands
pub missing : (table : KeyTable) (text : List ℕ) (key : Val) → spelled table.kind text ≡ Some key → None ≡ find_key table.rows key → IsEnd table text Missing
missing table text key is none number column = go (cell_of table.kind text) is
  where
    go : (found : Option (Option Cell)) → option_map cell_val found ≡ Some key
        → Err (refusal.NoSuchNode number column) ≡ and_then (ok_or found (refusal.BadField number column)) (λ cell. ok_or (find_end table.rows cell) (refusal.NoSuchNode number column))
    go None e = absurd (none-some key e)
    go (Some None) e = refl
    go (Some (Some cell)) e =
        let same : cell_val (Some cell) ≡ key = cc e in
        let no : find_key table.rows (cell_val (Some cell)) ≡ None = ap (find_key table.rows) same ∙ sym none in
        rw no refl

-- the records that are left, where there may be more
abbrev pub unread : Bool → List (List (List ℕ)) → List (List (List ℕ))
unread more left = if more then left else []

-- a test that answers true tells of as many records as there are places
pub all_read : (count size : ℕ) → nat_eq count size ≡ true → count ≡ size
all_read count size e = grind (arith, nat_tests, e)

-- the records of a batch, and those behind it
pub records-fill : (batch : List PendingRel) (count : ℕ) (all left : List (List (List ℕ))) → (count ≡ length batch → all ≡ texts_of batch ++ left)
    → (count < length batch → all ≡ texts_of (take count batch)) → count ≤ length batch → all ≡ texts_of (take count batch) ++ unread (nat_eq count (length batch)) left
records-fill batch count all left full last within = elim (cases_eq count (length batch)) as (λ _. all ≡ texts_of (take count batch) ++ unread (nat_eq count (length batch)) left) [
  | inl same ↦
      let test : nat_eq count (length batch) ≡ true = grind (arith, nat_tests, same) in
      let whole : take count batch ≡ batch = take_all count batch (omega arith) in
      full same ∙ rw (whole, test) refl
  | inr apart ↦
      let test : nat_eq count (length batch) ≡ false = grind (arith, nat_tests, apart) in
      last (omega arith) ∙ rw (test, append-nil) refl
]

-- how many records there were
pub length-records : (batch : List PendingRel) (all left : List (List (List ℕ))) → all ≡ texts_of batch ++ left → length all ≡ length batch + length left
length-records batch all left e = ap length e ∙ length-append (texts_of batch) left ∙ ap (λ n. n + length left) (length-map batch (λ p. fields_of p.texts))

-- a slice that has some places has some after its first were written
pub room-behind : (written batch : List PendingRel) (count : ℕ) → length written ≡ length (take count batch) → count ≤ length batch → 0 < length batch → 0 < length (written ++ drop count batch)
room-behind written batch count size within some = omega (arith, length-append written (drop count batch), length-drop count batch, length-take count batch)
