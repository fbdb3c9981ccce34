-- Which rows the tests of paths of a query admit, each told by the keys of its path's matches.
use Rattle.std.specs.Prelude.{Bool, not, List, if◌then◌else◌}
use Rattle.std.specs.List.{list_all}
use Rattle.gq_exists.specs.Made.{some_stand_on}
use Rattle.gq_expr.specs.Reading as reading
use Rattle.gq_drain.specs.declared.testing.Test.{Test}

-- the rows that are admitted
abbrev pub Admission : Type 0
Admission = reading.Assignment → Bool

-- a row passes a test: it stands on a key of the path, or on none where that is wanted
abbrev pub passes_test : Test → reading.Assignment → Bool
passes_test t row =
    let found = some_stand_on t.part.now.nodes row t.keys.keys in
    if t.part.now.wanted then found else not found

abbrev pub admitted_by : List Test → Admission
admitted_by tests = λ row. list_all (λ t. passes_test t row) tests
