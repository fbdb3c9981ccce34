-- A list in which an element is written as it was is the same, and so is its Vec.
use mathlib.Core.HLevel.{is_prop→PathP}
use Rattle.std.proofs.Common.{◌≡◌, ◌∙◌, ℕ, List, Vec, length, set, sym, ap}
use Rattle.std.proofs.Math.Nat.{ℕ_set}
use Rattle.std.proofs.lemmas.List.{length-set, set-get_or}
use Rattle.std.specs.Prelude.{slice_index_or}
use Rattle.std.specs.Vec.{with_item}

pub set_still : {X : Type 0} (xs : List X) (i : ℕ) (found written : X) → found ≡ slice_index_or xs i found → written ≡ found → set xs i written ≡ xs
set_still xs i found written is same = ap (set xs i) (same ∙ is) ∙ set-get_or xs i found

pub still : {X Z : Type 0} (v : Vec X Z) (i : ℕ) (found written : X) → found ≡ slice_index_or v.items i found → written ≡ found → with_item v i written ≡ v
still v i found written is same =
    let e = set_still v.items i found written is same in
    λ k. record {
      ptr = v.ptr;
      len = v.len;
      cap = v.cap;
      alloc = v.alloc;
      items = e k;
      ok = (is_prop→PathP (λ j. v.len ≡ length (e j)) (λ j. ℕ_set v.len (length (e j))) (v.ok.0 ∙ sym (length-set v.items i written)) v.ok.0 k, v.ok.1);
      small = v.small;
    }
