-- What comes behind a bar comes behind one that stands before it.
use Rattle.std.proofs.Common.{◌≡◌, ◌∙◌, Bool, true, false, not, refl, sym}
use Rattle.std.proofs.Math.Bool.{beq}
use Rattle.std.proofs.lemmas.Bool.{false≢true}
use Rattle.std.proofs.lemmas.Cmp.{back_total}
use Rattle.std.specs.Cmp.{IsTotalOrder}
use Rattle.std.specs.Ordering.{is_le}
use Rattle.std.specs.declared.cmp.Ordering.{Ordering}
use Rattle.std.specs.declared.cmp.Ordering.TheVariants.{Less, Equal, Greater}
use Rattle.gq_base.specs.ValueLaws.{order_vals_total}
use Rattle.gq_base.specs.Values.{Val}
use Rattle.gq_kept.specs.Answers.{by_direction}

total : (down : Bool) → IsTotalOrder (by_direction down)
total true = back_total order_vals_total
total false = order_vals_total

pub behind_too : (down : Bool) (a b v : Val) → is_le (by_direction down a b) ≡ true → by_direction down b v ≡ Less → by_direction down a v ≡ Less
behind_too down a b v le less = go (by_direction down a b) refl le
  where
    go : (o : Ordering) → by_direction down a b ≡ o → is_le o ≡ true → by_direction down a v ≡ Less
    go Less is e = (total down).trans a b v is less
    go Equal is e = (total down).congr a b v is ∙ less
    go Greater is e = absurd (false≢true e)

pub one_way : (a b : Bool) → not (beq a b) ≡ false → b ≡ a
one_way true true e = refl
one_way true false e = absurd (false≢true (sym e))
one_way false true e = absurd (false≢true (sym e))
one_way false false e = refl
