-- The builds of a plan tell whether a part is too large.
use Rattle.std.proofs.Common.{◌≡◌, ℕ, Bool, true, false, not, ◌&&◌, ◌||◌, List, [], ◌∷◌, length, map, IsTrue, refl, sym, ap, ap₂, ◌∙◌, arith, Err, inl}
use Rattle.std.proofs.lemmas.Bool.{not-true, not-false}
use Rattle.std.specs.Prelude.{nat_lt, nat_le}
use Rattle.std.specs.List.{AllZip, list_all, list_any}
use Rattle.std.proofs.lemmas.List.{length-map}
use Rattle.std.proofs.lemmas.Bool.Decides.{nat_tests}
use Rattle.gq_base.specs.Plain.{Graph}
use Rattle.gq_base.specs.Valid.{is_valid}
use Rattle.gq_law_plans.proofs.Sides.{given_counts, greedy_counts}
use Rattle.gq_join.specs.declared.build.JoinRefusal.{JoinRefusal}
use Rattle.gq_join.specs.declared.build.JoinRefusal.TheVariants as join
use Rattle.gq_pipe.proofs.Making.{within_sides}
use Rattle.gq_pipe.specs.Limits.{IsSidesRefusal, sides_within}
use Rattle.gq_plan.specs.declared.Bound.{Bound}
use Rattle.gq_kept.specs.Tables.{Table}
use Rattle.gq_execute.specs.Refusals.{of_join}
use Rattle.gq_plan.specs.Flat.{is_flat}
use Rattle.gq_plan.specs.Meaning.{mean, meaning, nothing}
use Rattle.gq_plan.specs.Parts.{IsSide, Part, part_assignments, sides}
use Rattle.gq_plan.specs.Soundness.{IsSound}
use Rattle.gq_plan.specs.Plans.{Plan}
use Rattle.gq_plan.specs.declared.Typed.{Typed}
use Rattle.gq_execute.specs.steps.Answering.{Drains}
use Rattle.gq_drain.specs.Becoming.{Becomes}
use Rattle.gq_execute.specs.Replies.{has_large_part, parts_by}
use Rattle.gq_order.specs.declared.named.Order.{Order}
use Rattle.gq_order.specs.declared.named.Order.TheVariants as order

-- ---- large parts

length_meaning : (g : Graph) (y : Typed) (s : Plan) → length (meaning g y s) ≡ length (mean g y s nothing)
unfolding meaning
length_meaning g y s = length-map (mean g y s nothing) _

not_large : (most n : ℕ) → nat_le n most ≡ not (nat_lt most n)
not_large most n = go (nat_lt most n) refl
  where
    go : (b : Bool) → nat_lt most n ≡ b → nat_le n most ≡ not b
    go true e = grind (arith, nat_tests, e)
    go false e = grind (arith, nat_tests, e)

none_large : (most : ℕ) (ns : List ℕ) → list_all (λ n. nat_le n most) ns ≡ not (list_any (nat_lt most) ns)
none_large most [] = refl
none_large most (n ∷ ns) = ap₂ ◌&&◌ (not_large most n) (none_large most ns) ∙ both (nat_lt most n) (list_any (nat_lt most) ns)
  where
    both : (b c : Bool) → (not b && not c) ≡ not (b || c)
    both true c = refl
    both false c = refl

module _ (g : Graph) (by : Order) (y : Typed) (most : ℕ) where
  -- none of some plans makes too many assignments
  abbrev few : List Plan → Bool
  few ss = list_all (λ s. nat_le (length (meaning g y s)) most) ss

  counted : (ss : List Plan) → few ss ≡ list_all (λ n. nat_le n most) (map (λ s. length (mean g y s nothing)) ss)
  counted [] = refl
  counted (s ∷ ss) = ap₂ (λ n b. nat_le n most && b) (length_meaning g y s) (counted ss)

  any_counted : (ps : List Part) → list_any (nat_lt most) (map (λ p. length (part_assignments g y p)) ps) ≡ list_any (λ p. nat_lt most (length (part_assignments g y p))) ps
  any_counted [] = refl
  any_counted (p ∷ ps) = ap (λ b. nat_lt most (length (part_assignments g y p)) || b) (any_counted ps)

  counts : (o : Order) (ss : List Plan) → IsTrue (is_valid g) → IsSound g.catalog y → AllZip (IsSide g.catalog y) (parts_by o y) ss
      → map (λ s. length (mean g y s nothing)) ss ≡ map (λ p. length (part_assignments g y p)) (parts_by o y)
  counts order.Given ss real sound are = given_counts g y real sound ss are
  counts order.Greedy ss real sound are = greedy_counts g y real sound ss are
  counts order.Least ss real sound are = greedy_counts g y real sound ss are

  -- the side plans of a plan tell whether a part is too large, where each makes one part
  pub sides_tell : (p : Plan) → IsTrue (is_valid g) → IsSound g.catalog y → AllZip (IsSide g.catalog y) (parts_by by y) (sides p) → list_all is_flat (sides p) ≡ true
      → sides_within g y most p ≡ not (has_large_part g by most y)
  unfolding has_large_part
  sides_tell p real sound are flat =
      within_sides g y most p flat ∙ counted (sides p) ∙ ap (list_all (λ n. nat_le n most)) (counts by (sides p) real sound are)
      ∙ none_large most (map (λ q. length (part_assignments g y q)) (parts_by by y)) ∙ ap not (any_counted (parts_by by y))

  pub sides_light : (p : Plan) → IsTrue (is_valid g) → IsSound g.catalog y → AllZip (IsSide g.catalog y) (parts_by by y) (sides p) → list_all is_flat (sides p) ≡ true
      → sides_within g y most p ≡ true → has_large_part g by most y ≡ false
  sides_light p real sound are flat few = not-true (has_large_part g by most y) (sym (sides_tell p real sound are flat) ∙ few)

  pub sides_heavy : (p : Plan) → IsTrue (is_valid g) → IsSound g.catalog y → AllZip (IsSide g.catalog y) (parts_by by y) (sides p) → list_all is_flat (sides p) ≡ true
      → sides_within g y most p ≡ false → has_large_part g by most y ≡ true
  sides_heavy p real sound are flat many = not-false (has_large_part g by most y) (sym (sides_tell p real sound are flat) ∙ many)

-- a part is too large where the builds of a plan are refused for their rows
pub sides_refused : (becomes : Becomes) (g : Graph) (by : Order) (y : Typed) (b : Bound) (old new : Table) (p : Plan) → IsTrue (is_valid g) → IsSound g.catalog y → AllZip (IsSide g.catalog y) (parts_by by y) (sides p)
    → list_all is_flat (sides p) ≡ true → {most : ℕ} → most ≡ old.most → (e : JoinRefusal) → IsSidesRefusal g y most p e → Drains becomes g b by y old new (Err (of_join e))
sides_refused becomes g by y b old new p real sound are flat {most = most} same (join.TooManyRows l) h =
    (h.0 ∙ same, inl (ap (λ m. has_large_part g by m y) (sym same) ∙ sides_heavy g by y most p real sound are flat h.1))
sides_refused becomes g by y b old new p real sound are flat same (join.Memory why) h = tt
