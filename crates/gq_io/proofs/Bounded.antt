-- A read up to a limit, piece after piece.
use Rattle.std.proofs.Common.{◌≡◌, ℕ, ◌+◌, ◌-◌, ◌≤◌, List, ◌++◌, length, take, drop, sym, ap, ◌∙◌, arith}
use Rattle.std.specs.declared.option.Option.{Option}
use Rattle.std.specs.Io.KnownBytes.{Consumes}
use Rattle.std.proofs.Math.Seq.{take-append-add}
use Rattle.std.proofs.lemmas.List.{take_at, take-append-le}
use Rattle.std.proofs.lemmas.Grind.{common_steps}
use borrow.Rule.Slice.PartMut.{put_mid, post_of}
use Rattle.gq_io.proofs.Moved.{Consumes-both}

-- the filled front of the buffer is what was consumed, and the buffer has at most one byte more than the limit
pub record Going (most : ℕ) (old left : Option (List ℕ)) (bytes : List ℕ) (filled : ℕ) : Type 0 where
  pub within : filled ≤ length bytes
  pub few : length bytes ≤ most + 1
  pub took : Consumes old left (take filled bytes)

-- a buffer that was written from a place on keeps its length
length-written : (s into : List ℕ) (at : ℕ) → at ≤ length s → length into ≡ length s - at → length (put_mid at (length s - at) s into) ≡ length s
length-written s into at h e = grind (arith, common_steps, h, e)

-- its front is the old one and the front of what was written
take-written : (s into : List ℕ) (at n k : ℕ) → at ≤ length s → n ≤ length into → take (at + n) (put_mid at k s into) ≡ take at s ++ take n into
take-written s into at n k h m =
    let size : length (take at s) ≡ at = grind (arith, common_steps, h) in
    ap (λ l. take (l + n) (put_mid at k s into)) (sym size) ∙ take-append-add (take at s) (into ++ post_of at k s) n ∙ ap (λ l. take at s ++ l) (take-append-le n into (post_of at k s) m)

-- `count` more bytes were read behind the filled ones of a buffer s, and the vector holds that buffer again
pub read_more : (most : ℕ) (old left next : Option (List ℕ)) (bytes s into items : List ℕ) (filled count len : ℕ) → Going most old left bytes filled
    → take filled s ≡ take filled bytes → filled ≤ length s → length s ≤ most + 1 → length s ≡ len → length into ≡ length (take (length s - filled) (drop filled s))
    → count ≤ length into → Consumes left next (take count into)
    → let buffer = put_mid filled (length s - filled) s into in Going most old next (take len (buffer ++ drop (length buffer) items)) (filled + count)
read_more most old left next bytes s into items filled count len going same within few whole room fits took =
    let size : length into ≡ length s - filled = grind (arith, common_steps, within, room) in
    let buffer = put_mid filled (length s - filled) s into in
    let kept : take len (buffer ++ drop (length buffer) items) ≡ buffer = take_at buffer (drop (length buffer) items) len (length-written s into filled within size ∙ whole) in
    rw kept record {
      within = omega (arith, length-written s into filled within size);
      few = omega (arith, length-written s into filled within size);
      took = rw (take-written s into filled count (length s - filled) within fits, same) (Consumes-both old left next (take filled bytes) (take count into) going.took took);
    }
