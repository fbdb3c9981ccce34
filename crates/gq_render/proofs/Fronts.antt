-- The text of a row by its front and the rest.
use Rattle.std.proofs.Common.{◌≡◌, ℕ, zero, suc, ◌+◌, ◌-◌, ◌<◌, ◌≤◌, List, [], ◌∷◌, ◌++◌, length, length-append, get_or, take, drop, map, flat_map, codes, refl, sym, ap, ◌∙◌, append_assoc, arith, inl, inr}
use Rattle.std.proofs.Math.ListN.{set}
use Rattle.std.proofs.Math.Seq.{take-append_seam}
use Rattle.std.proofs.lemmas.Bool.{cases_lt}
use Rattle.std.proofs.lemmas.Grind.{flat_map-append}
use Rattle.std.proofs.lemmas.List.Concat.{flat_map-cons}
use Rattle.std.proofs.lemmas.List.{get_or-set_same, get_or-set_other, take-take}
use Rattle.gq_base.proofs.ListFacts.{flat_map_next, take-add}
use Rattle.gq_base.specs.Plain.{Graph}
use Rattle.gq_base.specs.Values.{Val, null}
use Rattle.gq_render.specs.steps.Fronts.{AreStarts, IsCut, IsFront, IsShared, before_tab, front_text}
use Rattle.gq_render.specs.Listings.{row_text, value_text}
use Rattle.gq_render.specs.Texts.{after_tab, tabbed}
use Rattle.gq_render.specs.declared.front.Front.{Front}

module _ (g : Graph) where
  abbrev piece : Val → List ℕ
  piece value = before_tab (value_text g value)

  tabbed_front : (line : List Val) (held : ℕ) → held ≤ length line - 1 → front_text g (take held line) ++ tabbed (map (value_text g) (drop held line)) ≡ tabbed (map (value_text g) line)
  tabbed_front line zero h = refl
  tabbed_front [] (suc held) h = absurd (omega arith)
  tabbed_front (v ∷ []) (suc held) h = absurd (omega arith)
  tabbed_front (v ∷ w ∷ ws) (suc held) h =
      let f = value_text g in
      let vs = w ∷ ws in
      ap (λ l. l ++ tabbed (map f (drop held vs))) (flat_map-cons piece v (take held vs))
      ∙ append_assoc (piece v) (front_text g (take held vs)) (tabbed (map f (drop held vs)))
      ∙ ap (λ l. piece v ++ l) (tabbed_front vs held (omega arith))
      ∙ append_assoc (f v) (codes "\t") (tabbed (map f vs))
      ∙ ap (λ l. f v ++ l) (sym (append_assoc (codes "\t") (f w) (flat_map after_tab (map f ws))) ∙ sym (flat_map-cons after_tab (f w) (map f ws)))

  -- the front of a row, and the line of the values behind it
  pub row_front : (line : List Val) (front : Front) (text : List ℕ) → IsFront g line front → text ≡ front.text → text ++ row_text g (drop front.held line) ≡ row_text g line
  row_front line front text h is =
      ap (λ l. l ++ row_text g (drop front.held line)) (is ∙ h.text)
      ∙ sym (append_assoc (front_text g (take front.held line)) (tabbed (map (value_text g) (drop front.held line))) (codes "\n"))
      ∙ ap (λ l. l ++ codes "\n") (tabbed_front line front.held h.few)

  -- the text of the first values of a front, and that of the others
  split : (line : List Val) (k held : ℕ) → k ≤ held → front_text g (take held line) ≡ front_text g (take k line) ++ front_text g (take (held - k) (drop k line))
  split line k held le =
      ap (λ n. front_text g (take n line)) (let e : held ≡ k + (held - k) = omega (arith, le) in e)
      ∙ ap (front_text g) (take-add k (held - k) line)
      ∙ flat_map-append piece (take k line) (take (held - k) (drop k line))

  pub front_starts : (line : List Val) (front : Front) → IsFront g line front → AreStarts front
  front_starts line front h k lt =
      let parts = ap length (h.text ∙ split line k front.held (omega (arith, lt))) ∙ length-append (front_text g (take k line)) (front_text g (take (front.held - k) (drop k line))) in
      omega (arith, h.starts k lt, parts)

  -- a front of no columns
  pub front_none : (line : List Val) (front : Front) → front.held ≡ 0 → front.text ≡ [] → IsFront g line front
  front_none line front none empty = record {
    few = omega (arith, none);
    room = omega (arith, none);
    text = empty ∙ ap (λ n. front_text g (take n line)) (sym none);
    starts = λ k lt. absurd (omega (arith, lt, none));
  }

  -- one more column
  pub front_more : (line : List Val) (old new : Front) (value : Val) → IsFront g line old → old.held < length line - 1 → old.held < 16 → old.held < length old.starts → value ≡ get_or line old.held null
      → new.held ≡ old.held + 1 → new.starts ≡ set old.starts old.held (length old.text) → new.text ≡ old.text ++ before_tab (value_text g value) → IsFront g line new
  front_more line old new value h few room size is held starts text = record {
    few = omega (arith, few, held);
    room = omega (arith, room, held);
    text = text ∙ ap (λ l. l ++ piece value) h.text ∙ flat_map_next piece line old.held null value (omega (arith, few)) is ∙ ap (λ n. front_text g (take n line)) (sym held);
    starts = λ k lt. ap (λ l. get_or l k 0) starts ∙ start k (omega (arith, lt, held));
  }
    where
      start : (k : ℕ) → k < old.held + 1 → get_or (set old.starts old.held (length old.text)) k 0 ≡ length (front_text g (take k line))
      start k lt = elim (cases_lt k old.held) [
        | inl less ↦ get_or-set_other old.starts old.held k (length old.text) 0 (omega (arith, less)) ∙ h.starts k less
        | inr more ↦
            let e : k ≡ old.held = omega (arith, lt, more) in
            ap (λ n. get_or (set old.starts old.held (length old.text)) n 0) e ∙ get_or-set_same old.starts old.held (length old.text) 0 size ∙ ap length h.text ∙ ap (λ n. length (front_text g (take n line))) (sym e)
      ]

  -- a front that was cut
  pub front_cut : (line : List Val) (count : ℕ) (old new : Front) → IsFront g line old → IsCut count old new → IsFront g line new
  front_cut line count old new h cut = record {
    few = omega (arith, h.few, cut.held);
    room = omega (arith, h.room, cut.held);
    text = text;
    starts = λ k lt. ap (λ l. get_or l k 0) cut.starts ∙ h.starts k (omega (arith, lt, cut.held));
  }
    where
      text : new.text ≡ front_text g (take new.held line)
      text = elim (cases_lt count old.held) [
        | inl less ↦
            let e : count ≡ new.held = omega (arith, less, cut.held) in
            let first = front_text g (take count line) in
            let others = front_text g (take (old.held - count) (drop count line)) in
            cut.text less ∙ ap (λ n. take n old.text) (h.starts count less) ∙ ap (take (length first)) (h.text ∙ split line count old.held (omega (arith, less)))
            ∙ take-append_seam first others ∙ ap (λ n. front_text g (take n line)) e
        | inr more ↦
            let e : old.held ≡ new.held = omega (arith, more, cut.held) in
            cut.whole more ∙ h.text ∙ ap (λ n. front_text g (take n line)) e
      ]

  -- the front of a row is one of the next row, where it has no more than both have in common
  pub front_next : (line next : List Val) (count : ℕ) (front : Front) → IsFront g line front → front.held ≤ count → IsShared line next count → IsFront g next front
  front_next line next count front h within shared = record {
    few = omega (arith, within, shared.fits);
    room = h.room;
    text = h.text ∙ ap (front_text g) (same front.held within);
    starts = λ k lt. h.starts k lt ∙ ap (λ l. length (front_text g l)) (same k (omega (arith, lt, within)));
  }
    where
      same : (k : ℕ) → k ≤ count → take k line ≡ take k next
      same k le = sym (take-take k count line le) ∙ ap (take k) shared.same ∙ take-take k count next le

  -- a front beside which only other fields changed
  pub front_same : (line : List Val) (old new : Front) → IsFront g line old → new.held ≡ old.held → new.text ≡ old.text → new.starts ≡ old.starts → IsFront g line new
  front_same line old new h held text starts = record {
    few = omega (arith, h.few, held);
    room = omega (arith, h.room, held);
    text = text ∙ h.text ∙ ap (λ n. front_text g (take n line)) (sym held);
    starts = λ k lt. ap (λ l. get_or l k 0) starts ∙ h.starts k (omega (arith, lt, held));
  }

  -- a front of no columns is one of each row
  pub front_any : (line next : List Val) (front : Front) → IsFront g line front → front.held ≡ 0 → IsFront g next front
  front_any line next front h none = front_none next front none (h.text ∙ ap (λ n. front_text g (take n line)) none)
