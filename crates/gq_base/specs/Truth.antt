-- Kleene's three-valued logic (openCypher 9): true, false and null, which is None.
use Rattle.std.specs.Prelude.{Bool, true, false, not, Option, Some, None}

-- false where one side is false, else null where one side is null
abbrev pub and3 : Option Bool → Option Bool → Option Bool
and3 (Some false) q = Some false
and3 p (Some false) = Some false
and3 (Some true) (Some true) = Some true
and3 p q = None

-- true where one side is true, else null where one side is null
abbrev pub or3 : Option Bool → Option Bool → Option Bool
or3 (Some true) q = Some true
or3 p (Some true) = Some true
or3 (Some false) (Some false) = Some false
or3 p q = None

-- null where one side is null, else whether the sides differ
abbrev pub xor3 : Option Bool → Option Bool → Option Bool
xor3 (Some true) (Some b) = Some (not b)
xor3 (Some false) (Some b) = Some b
xor3 p q = None

-- null of null
abbrev pub not3 : Option Bool → Option Bool
not3 None = None
not3 (Some b) = Some (not b)
