-- The order of values is total, and sameness is its equality.
use Rattle.std.specs.Prelude.{◌≡◌, refl, ℕ, Bool, true, false, ℤ, pos, List, []}
use Rattle.std.proofs.Common.{sym, ap, subst, ◌∙◌, arith}
use Rattle.std.proofs.lemmas.Int.{ints}
use Rattle.std.specs.declared.cmp.Ordering.{Ordering}
use Rattle.std.specs.declared.cmp.Ordering.TheVariants.{Less, Equal, Greater}
use Rattle.std.specs.Ordering.{nat_cmp, int_cmp, bool_cmp, is_eq, ordering_then, on, then_cmp}
use Rattle.std.specs.Cmp.{IsTotalOrder, nat_cmp_total, int_cmp_total, bool_cmp_total, on_total, then_total}
use Rattle.std.specs.Cmp.Lexicographic.{slice_cmp, nat_list_cmp_total, same_text, texts_ties}
use Rattle.gq_base.specs.declared.value.NodeId.{NodeId}
use Rattle.gq_base.specs.declared.value.RelId.{RelId}
use Rattle.gq_base.specs.Values.{Val, null, flag, int, str, node, rel, kind_rank, order_vals}

abbrev table_of : Val → ℕ
table_of (node n) = n.table
table_of (rel r) = r.table
table_of v = 0

abbrev place_of : Val → ℕ
place_of (node n) = n.row
place_of (rel r) = r.row
place_of v = 0

abbrev text_of : Val → List ℕ
text_of (str s) = s
text_of v = []

abbrev flag_of : Val → Bool
flag_of (flag b) = b
flag_of v = false

abbrev int_of : Val → ℤ
int_of (int z) = z
int_of v = pos 0

-- the same order, part by part
abbrev by_parts : Val → Val → Ordering
by_parts = then_cmp (on kind_rank nat_cmp) (then_cmp (on table_of nat_cmp) (then_cmp (on place_of nat_cmp)
    (then_cmp (on text_of (slice_cmp nat_cmp)) (then_cmp (on flag_of bool_cmp) (on int_of int_cmp)))))

by_parts_total : IsTotalOrder by_parts
by_parts_total = then_total (on_total kind_rank nat_cmp_total) (then_total (on_total table_of nat_cmp_total) (then_total (on_total place_of nat_cmp_total)
    (then_total (on_total text_of nat_list_cmp_total) (then_total (on_total flag_of bool_cmp_total) (on_total int_of int_cmp_total)))))

nothing_after : (o : Ordering) → o ≡ ordering_then o Equal
nothing_after Less = refl
nothing_after Equal = refl
nothing_after Greater = refl

agrees : (a b : Val) → order_vals a b ≡ by_parts a b
agrees null null = refl
agrees null (flag y) = refl
agrees null (int y) = refl
agrees null (str y) = refl
agrees null (node y) = refl
agrees null (rel y) = refl
agrees (flag x) null = refl
agrees (flag x) (flag y) = nothing_after (bool_cmp x y)
agrees (flag x) (int y) = refl
agrees (flag x) (str y) = refl
agrees (flag x) (node y) = refl
agrees (flag x) (rel y) = refl
agrees (int x) null = refl
agrees (int x) (flag y) = refl
agrees (int x) (int y) = refl
agrees (int x) (str y) = refl
agrees (int x) (node y) = refl
agrees (int x) (rel y) = refl
agrees (str x) null = refl
agrees (str x) (flag y) = refl
agrees (str x) (int y) = refl
agrees (str x) (str y) = nothing_after (slice_cmp nat_cmp x y)
agrees (str x) (node y) = refl
agrees (str x) (rel y) = refl
agrees (node x) null = refl
agrees (node x) (flag y) = refl
agrees (node x) (int y) = refl
agrees (node x) (str y) = refl
agrees (node x) (node y) = ap (λ o. ordering_then (nat_cmp x.table y.table) o) (nothing_after (nat_cmp x.row y.row))
agrees (node x) (rel y) = refl
agrees (rel x) null = refl
agrees (rel x) (flag y) = refl
agrees (rel x) (int y) = refl
agrees (rel x) (str y) = refl
agrees (rel x) (node y) = refl
agrees (rel x) (rel y) = ap (λ o. ordering_then (nat_cmp x.table y.table) o) (nothing_after (nat_cmp x.row y.row))

pub order_vals_total : IsTotalOrder order_vals
order_vals_total = subst IsTotalOrder (λ i a b. sym (agrees a b) i) by_parts_total

same_nat : (m n : ℕ) → is_eq (nat_cmp m n) ≡ true → m ≡ n
same_nat m n h = grind arith

same_int : (m n : ℤ) → is_eq (int_cmp m n) ≡ true → m ≡ n
same_int m n h = grind (arith, ints)

same_flag : (a b : Bool) → is_eq (bool_cmp a b) ≡ true → a ≡ b
same_flag true true h = refl
same_flag true false h = cc
same_flag false true h = cc
same_flag false false h = refl

same_str : (s t : List ℕ) → is_eq (slice_cmp nat_cmp s t) ≡ true → s ≡ t
same_str s t h = same_text s t (sym (texts_ties s t ∙ h))

first_same : (o p : Ordering) → is_eq (ordering_then o p) ≡ true → is_eq o ≡ true
first_same Less p h = h
first_same Equal p h = refl
first_same Greater p h = h

then_same : (o p : Ordering) → is_eq (ordering_then o p) ≡ true → is_eq p ≡ true
then_same Less p h = cc
then_same Equal p h = h
then_same Greater p h = cc

same_node : (m n : NodeId) → is_eq (ordering_then (nat_cmp m.table n.table) (nat_cmp m.row n.row)) ≡ true → m ≡ n
same_node m n h = λ i. record {
  table = same_nat m.table n.table (first_same (nat_cmp m.table n.table) (nat_cmp m.row n.row) h) i;
  row = same_nat m.row n.row (then_same (nat_cmp m.table n.table) (nat_cmp m.row n.row) h) i;
}

same_rel : (m n : RelId) → is_eq (ordering_then (nat_cmp m.table n.table) (nat_cmp m.row n.row)) ≡ true → m ≡ n
same_rel m n h = λ i. record {
  table = same_nat m.table n.table (first_same (nat_cmp m.table n.table) (nat_cmp m.row n.row) h) i;
  row = same_nat m.row n.row (then_same (nat_cmp m.table n.table) (nat_cmp m.row n.row) h) i;
}

-- two values of which neither comes before the other are one value
pub same_val : (a b : Val) → is_eq (order_vals a b) ≡ true → a ≡ b
same_val null null h = refl
same_val null (flag y) h = cc
same_val null (int y) h = cc
same_val null (str y) h = cc
same_val null (node y) h = cc
same_val null (rel y) h = cc
same_val (flag x) null h = cc
same_val (flag x) (flag y) h = ap flag (same_flag x y h)
same_val (flag x) (int y) h = cc
same_val (flag x) (str y) h = cc
same_val (flag x) (node y) h = cc
same_val (flag x) (rel y) h = cc
same_val (int x) null h = cc
same_val (int x) (flag y) h = cc
same_val (int x) (int y) h = ap int (same_int x y h)
same_val (int x) (str y) h = cc
same_val (int x) (node y) h = cc
same_val (int x) (rel y) h = cc
same_val (str x) null h = cc
same_val (str x) (flag y) h = cc
same_val (str x) (int y) h = cc
same_val (str x) (str y) h = ap str (same_str x y h)
same_val (str x) (node y) h = cc
same_val (str x) (rel y) h = cc
same_val (node x) null h = cc
same_val (node x) (flag y) h = cc
same_val (node x) (int y) h = cc
same_val (node x) (str y) h = cc
same_val (node x) (node y) h = ap node (same_node x y h)
same_val (node x) (rel y) h = cc
same_val (rel x) null h = cc
same_val (rel x) (flag y) h = cc
same_val (rel x) (int y) h = cc
same_val (rel x) (str y) h = cc
same_val (rel x) (node y) h = cc
same_val (rel x) (rel y) h = ap rel (same_rel x y h)
