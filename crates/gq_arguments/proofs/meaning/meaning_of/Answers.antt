use Rattle.std.proofs.Common.{◌≡◌, ◌∙◌}
use Rattle.std.specs.Prelude.{option_map}
use Rattle.std.specs.declared.option.Option.{Option}
use Rattle.std.specs.Borrow.{Bor}
use Rattle.clap.specs.Words.{Text, first_of, first_value, found_of, rows_of}
use Rattle.clap.specs.declared.parser.matches.ArgMatches.{ArgMatches}
use Rattle.clap.proofs.WalkLemmas.{first_value-rows}
use Rattle.gq_arguments.proofs.meaning.meaning_of.Goals as goal

-- the text that was found for an option
found : (m : ArgMatches) (id : Text) (o : Option (Bor Text)) → option_map (λ s. s.now) o ≡ first_value (found_of m) id
    → option_map (λ s. s.now) o ≡ first_of id (rows_of (found_of m))
found m id o h = h ∙ first_value-rows (found_of m) id

pub returns-in_default-clause-none : goal.returns-in_default-clause-none
returns-in_default-clause-none c = λ words means.
    (rw (found _ _ _ c.get_str.ensures, found _ _ _ c.get_str-2.ensures) at c.in_default.ensures.none) words.source means.source

pub returns-in_default-order_of-clause-none : goal.returns-in_default-order_of-clause-none
returns-in_default-order_of-clause-none c = λ words means.
    (rw (found _ _ _ c.get_str-3.ensures) at c.in_default-order_of.ensures.none) words.order means.order

pub returns-in_default-most_rows-clause-none : goal.returns-in_default-most_rows-clause-none
returns-in_default-most_rows-clause-none c = λ words means.
    (rw (found _ _ _ c.get_str-4.ensures) at c.in_default-most_rows.ensures.none) words.rows means.rows

pub returns-clause-some : goal.returns-clause-some
returns-clause-some c = record {
  source = rw (found _ _ _ c.get_str.ensures, found _ _ _ c.get_str-2.ensures) at c.in-Some.ensures.some;
  order = rw (found _ _ _ c.get_str-3.ensures) at c.in-Some-order_of.ensures.some;
  rows = rw (found _ _ _ c.get_str-4.ensures) at c.in-Some-most_rows.ensures.some;
}
