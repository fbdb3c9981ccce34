-- Texts made of pieces.
use Rattle.std.specs.Prelude.{ℕ, List, [], ◌∷◌, ◌++◌, codes, decimal, flat_map}
use Rattle.std.specs.List.{range_with_len}
use Rattle.gq_render.specs.Texts.{name_text}
use Rattle.gq_render.specs.Types.{type_text}
use Rattle.gq_render.specs.declared.pieces.Piece.{Piece}
use Rattle.gq_render.specs.declared.pieces.Piece.TheVariants.{Plain, Name, Number, RelType, Indent}

-- texts one after another
abbrev pub joined : List (List ℕ) → List ℕ
joined [] = []
joined (text ∷ texts) = text ++ joined texts

-- two spaces for each level
abbrev pub indent : ℕ → List ℕ
indent level = flat_map (λ _. codes "  ") (range_with_len 0 level)

-- the text of a piece of a line
abbrev pub piece_text : Piece → List ℕ
piece_text (Plain text) = text.now
piece_text (Name name) = name_text name.now
piece_text (Number n) = decimal n
piece_text (RelType catalog table) = type_text catalog.now.rels table
piece_text (Indent level) = indent level
