-- Places that are tried one after another, and those of a piece that the layout keeps.
use Rattle.std.proofs.Common.{◌≡◌, ◌≢◌, ◌⊎◌, inl, inr, ℕ, ◌+◌, ◌<◌, ◌≤◌, Bool, true, false, ◌&&◌, nat_lt, List, [], flat_map, length, get_or, refl, sym, ap, ◌∙◌, arith}
use Rattle.std.specs.Prelude.{slice_index_or, slice_set}
use Rattle.std.proofs.lemmas.Bool.{cases_eq, cases_lt, le-ltb, lt-ltb}
use Rattle.std.proofs.lemmas.List.{get_or-set_same, get_or-set_other, length-set}
use Rattle.gq_bits.specs.declared.TheConstants.{VECTOR}
use Rattle.gq_plan.specs.declared.assignment.Assignment.{Assignment}
use Rattle.gq_search.specs.Layouts.{has_one}
use Rattle.gq_chains.specs.Among.{IsAmong}
use Rattle.gq_steps.specs.Keeps.{made_at, made_by, makes_one, IsSifted, IsTriedAt}
use Rattle.gq_chains.specs.steps.Judged.{IsJudged}
use Rattle.gq_steps.specs.Levels.{Run, step_at, built_at, known}
use Rattle.gq_steps.specs.Moves.{IsHeld, IsAlike}
use Rattle.gq_steps.specs.Tries.{tries}
use Rattle.gq_steps.specs.declared.group_steps.GroupSteps.{GroupSteps}
use Rattle.gq_steps.proofs.Binding.{before_alike}

-- what was tried is judged
pub judged : (c : Run) (group : GroupSteps) (place : ℕ) (old : Assignment) (told : Bool) (new : Assignment) → IsTriedAt c group place old told new → IsJudged c group place old told new
judged c group place old true new t = record { held = t.held; alike = t.alike; answer = sym (ap has_one t.answer.made) }
judged c group place old false new t = record { held = t.held; alike = t.alike; answer = sym (ap has_one t.answer) }

module _ (c : Run) (group : GroupSteps) (first count : ℕ) (old : Assignment) where
  abbrev make : ℕ → Bool
  make j = makes_one c group (first + j) old

  -- the places before one were tried, and of the others the marked ones can be made something of
  pub record IsSifting (n : ℕ) (row : Assignment) (marks : List Bool) : Type 0 where
    pub held : IsHeld c row (known c group.first)
    pub alike : IsAlike (known c group.first) old row
    pub len : length marks ≡ VECTOR
    pub done : (j : ℕ) → j < n → j < VECTOR → slice_index_or marks j false ≡ (nat_lt j count && make j)
    pub below : (j : ℕ) → n ≤ j → slice_index_or marks j false ≡ true → j < count
    pub others : (j : ℕ) → n ≤ j → j < count → slice_index_or marks j false ≡ false → make j ≡ false

  pub sifting_from : (marks : List Bool) → IsHeld c old (known c group.first) → IsAmong c group first count old marks → IsSifting 0 old marks
  sifting_from marks held among = record {
    held = held;
    alike = record { nodes = λ v e. refl; rels = λ x e. refl };
    len = among.len;
    done = λ j low high. absurd (omega (arith, low));
    below = λ j low on. among.below j on;
    others = λ j low inside off. among.others j inside off;
  }

  module _ (n : ℕ) (row : Assignment) (marks : List Bool) (s : IsSifting n row marks) (low : n < count) (few : count ≤ VECTOR) where
    same_made : made_at c group (first + n) row ≡ made_at c group (first + n) old
    same_made = ap (λ a. flat_map (made_by c (group.first + 1) group.end) (get_or (tries c.graph c.typed (built_at c group.first) (step_at c group.first) a) (first + n) [])) (before_alike c old row group.first s.alike)

    on_true : slice_index_or marks n false ≡ true → make n ≡ true → slice_index_or marks n false ≡ (nat_lt n count && make n)
    on_true on made = on ∙ sym (ap (λ b. b && make n) (lt-ltb n count low) ∙ made)

    both_alike : (new : Assignment) → IsAlike (known c group.first) row new → IsAlike (known c group.first) old new
    both_alike new h = record { nodes = λ v e. h.nodes v e ∙ s.alike.nodes v e; rels = λ x e. h.rels x e ∙ s.alike.rels x e }

    pub sifting_kept : slice_index_or marks n false ≡ true → (new : Assignment) → IsJudged c group (first + n) row true new → IsSifting (n + 1) new marks
    sifting_kept on new t =
        let made : make n ≡ true = ap has_one (sym same_made) ∙ sym t.answer in
        record {
          held = t.held;
          alike = both_alike new t.alike;
          len = s.len;
          done = λ j below high. done_at made j below high (cases_eq j n);
          below = λ j above on. s.below j (omega (arith, above)) on;
          others = λ j above inside off. s.others j (omega (arith, above)) inside off;
        }
      where
        done_at : make n ≡ true → (j : ℕ) → j < n + 1 → j < VECTOR → (j ≡ n) ⊎ (j ≡ n → ⊥) → slice_index_or marks j false ≡ (nat_lt j count && make j)
        done_at made j below high (inl e) = ap (λ i. slice_index_or marks i false) e ∙ on_true on made ∙ sym (ap (λ i. nat_lt i count && make i) e)
        done_at made j below high (inr e) = s.done j (omega (arith, below, e)) high

    pub sifting_dropped : (new : Assignment) → IsJudged c group (first + n) row false new → IsSifting (n + 1) new (slice_set marks n false)
    sifting_dropped new t =
        let made : make n ≡ false = ap has_one (sym same_made) ∙ sym t.answer in
        let long = s.len in
        record {
          held = t.held;
          alike = both_alike new t.alike;
          len = length-set marks n false ∙ s.len;
          done = λ j below high. done_at made j below high (cases_eq j n);
          below = λ j above on. s.below j (omega (arith, above)) (sym (unset j above) ∙ on);
          others = λ j above inside off. s.others j (omega (arith, above)) inside (sym (unset j above) ∙ off);
        }
      where
        unset : (j : ℕ) → n + 1 ≤ j → slice_index_or (slice_set marks n false) j false ≡ slice_index_or marks j false
        unset j above = (let other : j ≢ n = λ e. (omega (arith, above, e)) in get_or-set_other marks n j false false other)

        and_false : (b : Bool) → false ≡ (b && false)
        and_false true = refl
        and_false false = refl

        done_at : make n ≡ false → (j : ℕ) → j < n + 1 → j < VECTOR → (j ≡ n) ⊎ (j ≡ n → ⊥) → slice_index_or (slice_set marks n false) j false ≡ (nat_lt j count && make j)
        done_at made j below high (inl e) =
            (let long = s.len in ap (λ i. slice_index_or (slice_set marks n false) i false) e ∙ get_or-set_same marks n false false (omega (arith, low, few, long))
            ∙ and_false (nat_lt j count) ∙ ap (λ b. nat_lt j count && b) (sym (ap make e ∙ made)))
        done_at made j below high (inr e) = get_or-set_other marks n j false false e ∙ s.done j (omega (arith, below, e)) high

  -- the places before one were tried, and those up to another one are not marked
  pub sifting_passed : (n m : ℕ) (row : Assignment) (marks : List Bool) → IsSifting n row marks → n ≤ m → ((j : ℕ) → n ≤ j → j < m → slice_index_or marks j false ≡ false) → IsSifting m row marks
  sifting_passed n m row marks s low off = record {
    held = s.held;
    alike = s.alike;
    len = s.len;
    done = λ j below high. at j below high (cases_lt j n);
    below = λ j above on. s.below j (omega (arith, above, low)) on;
    others = λ j above inside not_on. s.others j (omega (arith, above, low)) inside not_on;
  }
    where
      dropped : (j : ℕ) → n ≤ j → slice_index_or marks j false ≡ false → (j < count) ⊎ (count ≤ j) → false ≡ (nat_lt j count && make j)
      dropped j above none (inl inside) = sym (ap (λ b. b && make j) (lt-ltb j count inside) ∙ s.others j above inside none)
      dropped j above none (inr past) = sym (ap (λ b. b && make j) (le-ltb j count past))

      at : (j : ℕ) → j < m → j < VECTOR → (j < n) ⊎ (n ≤ j) → slice_index_or marks j false ≡ (nat_lt j count && make j)
      at j below high (inl h) = s.done j h high
      at j below high (inr h) = (let none = off j h below in none ∙ dropped j h none (cases_lt j count))

  pub sifted : (n : ℕ) (row : Assignment) (marks : List Bool) → IsSifting n row marks → count ≤ n → IsSifted c group first count old row marks
  sifted n row marks s all = record {
    held = s.held;
    alike = s.alike;
    len = s.len;
    each = λ j high. at j high (cases_lt j n);
  }
    where
      out : (j : ℕ) → count ≤ j → nat_lt j count ≡ false
      out j h = le-ltb j count h

      off : (j : ℕ) → n ≤ j → (b : Bool) → slice_index_or marks j false ≡ b → slice_index_or marks j false ≡ false
      off j h false e = e
      off j h true e = (let low = s.below j h e in absurd (omega (arith, low, h, all)))

      at : (j : ℕ) → j < VECTOR → (j < n) ⊎ (n ≤ j) → slice_index_or marks j false ≡ (nat_lt j count && make j)
      at j high (inl h) = s.done j h high
      at j high (inr h) = off j h (slice_index_or marks j false) refl ∙ sym (ap (λ b. b && make j) (out j (omega (arith, h, all))))
