-- No two orders are called the same.
use Rattle.std.proofs.Common.{◌≡◌, ◌≢◌, ◌∙◌, ℕ, List, [], ◌∷◌, codes, refl, sym, ap, arith}
use Rattle.gq_order.specs.Named.{name_of}
use Rattle.gq_order.specs.declared.named.Order.{Order}
use Rattle.gq_order.specs.declared.named.Order.TheVariants.{Given, Greedy, Least}

-- names that begin otherwise are not the same
abbrev front : List ℕ → ℕ
front [] = 0
front (x ∷ xs) = x

other_front : (xs ys : List ℕ) (m n : ℕ) → front xs ≡ m → front ys ≡ n → m ≢ n → xs ≡ ys → ⊥
other_front xs ys m n first second other same = other (sym first ∙ ap front same ∙ second)

pub one_name : (x y : Order) → name_of x ≡ name_of y → x ≡ y
one_name Given Given is = refl
one_name Given Greedy is = let no : codes "given" ≡ codes "greedy" = is in absurd (cc no)
one_name Given Least is = absurd (other_front (codes "given") (codes "least") 103 108 refl refl (omega arith) is)
one_name Greedy Given is = let no : codes "greedy" ≡ codes "given" = is in absurd (cc no)
one_name Greedy Greedy is = refl
one_name Greedy Least is = absurd (other_front (codes "greedy") (codes "least") 103 108 refl refl (omega arith) is)
one_name Least Given is = absurd (other_front (codes "least") (codes "given") 108 103 refl refl (omega arith) is)
one_name Least Greedy is = absurd (other_front (codes "least") (codes "greedy") 108 103 refl refl (omega arith) is)
one_name Least Least is = refl
