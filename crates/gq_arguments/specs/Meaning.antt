-- What the values of the options say (this project's profile).
use Rattle.std.specs.Prelude.{◌≡◌, ℕ, ◌≤◌, List, codes}
use Rattle.std.specs.declared.option.Option.{Option}
use Rattle.std.specs.declared.option.Option.TheVariants.{Some, None}
use Rattle.std.specs.Str.Parse.{IsNumeral, digits_value, without_leading_plus}
use Rattle.clap.specs.Words.{Row, Text, first_of}
use Rattle.gq_arguments.specs.declared.meaning.Source.{Source}
use Rattle.gq_arguments.specs.declared.meaning.Source.TheVariants.{Manifest, Sample}
use Rattle.gq_arguments.specs.declared.meaning.Arguments.{Arguments}
use Rattle.gq_order.specs.Named.{name_of}
use Rattle.gq_order.specs.declared.named.Order.{Order}
use Rattle.gq_order.specs.declared.named.Order.TheVariants.{Greedy}

-- the text is the numeral of a number from `low` to `high`, where a plus sign may lead
pub record IsNumber (low high : ℕ) (text : Text) (n : ℕ) : Type 0 where
  pub numeral : IsNumeral 10 (without_leading_plus text)
  pub value : n ≡ digits_value 10 (without_leading_plus text)
  pub least : low ≤ n
  pub most : n ≤ high

-- exactly one of the manifest's path and the sample's size is given, and it is this source
abbrev pub IsSource : Option Text → Option Text → Source → Type 0
IsSource (Some path) None (Manifest manifest) = manifest.now ≡ path
IsSource None (Some text) (Sample size) = IsNumber 1 1000000 text size
IsSource _ _ _ = ⊥

-- the order is the named one, or greedy where none is given
abbrev pub IsOrder : Option Text → Order → Type 0
IsOrder None order = order ≡ Greedy
IsOrder (Some name) order = name ≡ name_of order

-- the number of rows is the given one, or 4,194,304 where none is given
abbrev pub IsRows : Option Text → ℕ → Type 0
IsRows None rows = rows ≡ 4194304
IsRows (Some text) rows = IsNumber 1 16777216 text rows

-- the arguments are these, by what `clap` found for each option
pub record Means (found : List Row) (arguments : Arguments) : Type 0 where
  pub source : IsSource (first_of (codes "manifest") found) (first_of (codes "sample") found) arguments.source
  pub order : IsOrder (first_of (codes "order") found) arguments.order
  pub rows : IsRows (first_of (codes "rows") found) arguments.rows
