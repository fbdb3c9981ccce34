use Rattle.std.proofs.Common.{◌≡◌, ◌<◌, ◌^◌, drop}
use Rattle.std.specs.Str.{all_ascii_digits}
use Rattle.gq_fields.proofs.FieldLaws.{read_on}
use Rattle.gq_fields.proofs.field.read_digits.Given as goal

-- what is read so far goes on with the digits that are left
abbrev pub invariant-loop-digit : goal.invariant-loop-digit
invariant-loop-digit l =
    (read_on l.number (drop l.digit-index l.digits) ≡ read_on 0 l.digits)
    × (all_ascii_digits (drop l.digit-index l.digits) ≡ all_ascii_digits l.digits)
    × (l.number < 10 ^ l.digit-index)
