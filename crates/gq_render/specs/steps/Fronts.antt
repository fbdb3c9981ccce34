-- The text of the first values of a row, each with a tab behind it.
use Rattle.std.specs.Prelude.{ℕ, ◌≡◌, ◌<◌, ◌≤◌, ◌-◌, List, ◌++◌, length, take, min, flat_map, get_or, codes}
use Rattle.gq_base.specs.Plain.{Graph}
use Rattle.gq_base.specs.Values.{Val}
use Rattle.gq_render.specs.Listings.{value_text}
use Rattle.gq_render.specs.declared.front.Front.{Front}

-- a text with a tab behind it
abbrev pub before_tab : List ℕ → List ℕ
before_tab text = text ++ codes "\t"

abbrev pub front_text : Graph → List Val → List ℕ
front_text g values = flat_map (λ value. before_tab (value_text g value)) values

-- the front of a row: its first values without the last one, and where the text of each begins
pub record IsFront (g : Graph) (line : List Val) (front : Front) : Type 0 where
  pub few : front.held ≤ length line - 1
  pub room : front.held ≤ 16
  pub text : front.text ≡ front_text g (take front.held line)
  pub starts : (k : ℕ) → k < front.held → get_or front.starts k 0 ≡ length (front_text g (take k line))

-- each text begins within the whole one
abbrev pub AreStarts : Front → Type 0
AreStarts front = (k : ℕ) → k < front.held → get_or front.starts k 0 ≤ length front.text

-- a front was cut to so many columns, where it had more
pub record IsCut (count : ℕ) (old new : Front) : Type 0 where
  pub held : new.held ≡ min count old.held
  pub starts : new.starts ≡ old.starts
  pub text : count < old.held → new.text ≡ take (get_or old.starts count 0) old.text
  pub whole : old.held ≤ count → new.text ≡ old.text

-- two rows have so many first values in common, which fit a front of each
pub record IsShared (line next : List Val) (count : ℕ) : Type 0 where
  pub few : count ≤ length line - 1
  pub fits : count ≤ length next - 1
  pub room : count ≤ 16
  pub same : take count line ≡ take count next
