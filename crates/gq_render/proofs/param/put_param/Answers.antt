use Rattle.std.proofs.Common.{◌≡◌, ℕ, List, [], ◌++◌, codes, refl, sym, ◌∙◌, append_assoc}
use Rattle.gq_base.specs.Values.{Val, literal_val}
use Rattle.gq_render.specs.Texts.{name_text, param_line, property_text}
use Rattle.gq_render.proofs.Sequence.{first_broke, next_broke, put_then, puts_then}
use Rattle.gq_render.proofs.param.put_param.Goals as goal

-- the line by its parts, of which the last one or two are left
module _ (name : List ℕ) (value : Val) where
  abbrev front : List ℕ
  front = codes "param " ++ (name_text name ++ (codes " " ++ []))

  left_one : (front ++ property_text value) ++ codes "\n" ≡ param_line name value
  left_one = refl

  left_two : front ++ (property_text value ++ codes "\n") ≡ param_line name value
  left_two = sym (append_assoc front (property_text value) (codes "\n")) ∙ left_one

pub returns-in_err-put_pieces-clause-bytes : goal.returns-in_err-put_pieces-clause-bytes
returns-in_err-put_pieces-clause-bytes g c =
    let value = literal_val c.args.value.now in
    first_broke _ _ _ _ _ _ _ (property_text value ++ codes "\n") _ _ _ _ c.put_pieces.ensures.bytes c.in_err-put_pieces.was c.from_residual.ensures.1
    (left_two c.args.name.now value)

pub returns-in_err-put_property-clause-bytes : goal.returns-in_err-put_property-clause-bytes
returns-in_err-put_property-clause-bytes g c =
    let value = literal_val c.args.value.now in
    next_broke _ _ _ _ _ _ _ _ _ _ (codes "\n") _ _ _ _ c.in_ok-put_pieces.ensures.bytes (rw c.value.ensures at c.put_property.ensures.bytes) c.in_err-put_property.was c.from_residual-in_err-put_property.ensures.1
    (left_one c.args.name.now value)

pub returns-clause-bytes : goal.returns-clause-bytes
returns-clause-bytes g c =
    let all = put_then _ _ _ _ _ _ _ _ _ c.in_ok-put_pieces.ensures.bytes (rw c.value.ensures at c.in_ok-put_property.ensures.bytes) refl in
    puts_then _ _ _ _ _ _ _ _ _ _ all c.put.ensures.bytes (left_one c.args.name.now (literal_val c.args.value.now))
