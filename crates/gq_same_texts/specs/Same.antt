-- Properties of two nodes that a condition asks to be one text, and texts in two dictionaries.
use Rattle.std.specs.Prelude.{ℕ, ℤ, ◌≡◌, List, Option, Some}
use Rattle.gq_dict.specs.Texts.{IsAscending}
use Rattle.gq_filter.specs.Equal.{node_cell}
use Rattle.gq_plan.specs.declared.assignment.Assignment.{Assignment}
use Rattle.gq_store.specs.Columns.{IsCode}
use Rattle.gq_same_texts.specs.declared.asked.EqualTexts.{EqualTexts}
use Rattle.gq_same_texts.specs.declared.asked.TextColumn.{TextColumn}

-- a cell is known, and the code of a text in a dictionary; its texts ascend, so that no other code is one of that text
pub record IsCellOf (dict : List (List ℕ)) (text : List ℕ) (cell : Option ℤ) : Type 0 where
  pub ascending : IsAscending dict
  pub value : ℤ
  pub known : cell ≡ Some value
  pub code : IsCode dict text value

-- the cell of a column in a row of variables is the code of a text
abbrev pub HasText : TextColumn → Assignment → List ℕ → Type 0
HasText c row text = IsCellOf c.dict.now text (node_cell c.cells row)

-- both variables have one text in a row of variables
abbrev pub HaveOneText : EqualTexts → Assignment → Type 0
HaveOneText e row = (text : List ℕ) × HasText e.left row text × HasText e.right row text

pub record Dicts : Type 0 where
  pub from : List (List ℕ)
  pub to : List (List ℕ)

-- what the cell of a text in one dictionary is in the other one, if that has the text
abbrev pub Turns : Dicts → Option ℤ → Option ℤ → Type 0
Turns d cell turned = (text : List ℕ) (own : Option ℤ) → IsCellOf d.from text cell → IsCellOf d.to text own → turned ≡ own
