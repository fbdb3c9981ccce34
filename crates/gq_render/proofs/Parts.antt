-- Texts of the lines from one on, part by part.
use Rattle.std.proofs.Common.{◌≡◌, ℕ, ◌+◌, ◌-◌, ◌<◌, ◌≤◌, List, [], ◌++◌, length, take, drop, get_or, flat_map, refl, sym, ap, ◌∙◌, arith}
use Rattle.std.proofs.lemmas.Grind.{flat_map-append}
use Rattle.std.proofs.lemmas.List.{get_or-drop, length-drop, take-take}
use Rattle.gq_base.proofs.ListFacts.{flat_map_next, flat_map_split, take-add}

module _ {X A : Type 0} (f : List X → List A) (lines : List (List X)) where
  -- the texts of the lines from one on to another one, and that of this one
  pub next_part : (first row : ℕ) → first ≤ row → row < length lines → flat_map f (take (row - first) (drop first lines)) ++ f (get_or lines row []) ≡ flat_map f (take (row + 1 - first) (drop first lines))
  next_part first row some lt =
      flat_map_next f (drop first lines) (row - first) [] (get_or lines row []) (omega (arith, lt, some, length-drop first lines))
      (ap (λ i. get_or lines i []) (let e : row ≡ first + (row - first) = omega (arith, some) in e) ∙ sym (get_or-drop first lines (row - first) []))
      ∙ ap (λ n. flat_map f (take n (drop first lines))) (let e : row - first + 1 ≡ row + 1 - first = omega (arith, some) in e)

  -- the texts of some lines of a part, and those of the others
  pub part_rest : (first few many : ℕ) → few ≤ many → flat_map f (take few (drop first lines)) ++ flat_map f (drop few (take many (drop first lines))) ≡ flat_map f (take many (drop first lines))
  part_rest first few many h =
      ap (λ l. flat_map f l ++ flat_map f (drop few (take many (drop first lines)))) (sym (take-take few many (drop first lines) h))
      ∙ flat_map_split f (take many (drop first lines)) few

  -- the texts of the first lines, and those of the next ones
  pub parts : (first end : ℕ) → first ≤ end → flat_map f (take first lines) ++ flat_map f (take (end - first) (drop first lines)) ≡ flat_map f (take end lines)
  parts first end h =
      sym (flat_map-append f (take first lines) (take (end - first) (drop first lines)))
      ∙ ap (flat_map f) (sym (take-add first (end - first) lines))
      ∙ ap (λ n. flat_map f (take n lines)) (let e : first + (end - first) ≡ end = omega (arith, h) in e)

  -- the texts of the first lines, those of the next ones, and all others
  pub parts_rest : (first end : ℕ) → first ≤ end → (flat_map f (take first lines) ++ flat_map f (take (end - first) (drop first lines))) ++ flat_map f (drop end lines) ≡ flat_map f lines
  parts_rest first end h = ap (λ l. l ++ flat_map f (drop end lines)) (parts first end h) ∙ flat_map_split f lines end
