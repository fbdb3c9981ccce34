-- How a text writes a byte.
use Rattle.std.specs.Prelude.{ℕ, List}
use Rattle.gq_render.specs.declared.escape.Escaping.{Escaping}
use Rattle.gq_render.specs.declared.escape.Escaping.TheVariants.{Name, Quoted}
use Rattle.gq_render.specs.Texts.{name_byte, quoted_byte}

-- a byte of a text that is escaped so
abbrev pub byte_text : Escaping → ℕ → List ℕ
byte_text Name b = name_byte b
byte_text Quoted b = quoted_byte b
