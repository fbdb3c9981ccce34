use Rattle.std.proofs.Common.{◌≡◌, ◌+◌, ◌-◌, ◌≤◌, ◌++◌, length, drop, string_bytes}
use Rattle.std.specs.Str.{encode_utf8_all}
use Rattle.gq_lexer.specs.Runs.{run}
use Rattle.gq_lexer.proofs.run.spell.Given as goal

abbrev pub invariant-pieces : goal.invariant-pieces
invariant-pieces l = record {
  within : l.size ≤ length l.rest;
  size : (run l.form l.rest).size ≡ l.size + (run l.form (drop l.size l.rest)).size;
  text : encode_utf8_all (run l.form l.rest).values ≡ string_bytes l.text ++ encode_utf8_all (run l.form (drop l.size l.rest)).values;
}

abbrev pub decreases-pieces : goal.decreases-pieces
decreases-pieces l = length l.rest - l.size
