-- The rows of a node table on their way: first without regard to their keys, then key by key.
use Rattle.std.proofs.Common.{◌≡◌, ℕ, ◌+◌, ◌≤◌, Bool, true, false, List, [], ◌∷◌, ◌++◌, length, Some, None, Ok, Err, refl, sym, ap, ◌∙◌, append_assoc, append-nil, arith, length-append}
use Rattle.gq_base.proofs.ResultLaws.{then_ok, then_itself, then_same, then_then}
use Rattle.gq_base.specs.Results.{and_then}
use Rattle.std.specs.Prelude.{if◌then◌else◌, nat_le}
use Rattle.std.specs.declared.result.Result.{Result}
use Rattle.std.proofs.lemmas.Bool.Decides.{nat_tests}
use Rattle.gq_base.specs.declared.catalog.Field.{Field}
use Rattle.gq_tables.specs.Cells.{Cells}
use Rattle.gq_tables.specs.Nodes.{add_node, is_taken, node_of, read_node, take_nodes}
use Rattle.gq_tables.specs.steps.Passes.{add_nodes, ending}
use Rattle.gq_base.specs.Valid.{key_of}
use Rattle.gq_tables.specs.declared.refusal.TableRefusal.{TableRefusal}
use Rattle.gq_tables.specs.declared.refusal.TableRefusal.TheVariants as refusal

-- ---- rows that are added one after the other

added : (b : Bool) (e : TableRefusal) (x y : List Cells) → (if b then Err e else Ok x) ≡ Ok y → x ≡ y
added true e x y h = cc h
added false e x y h = cc h

-- where none is refused, the rows follow those before them
pub all_added : (number : ℕ) (before rows all : List Cells) → add_nodes number before rows ≡ Ok all → all ≡ before ++ rows
all_added number before [] all e = let same : before ≡ all = cc e in sym same ∙ sym (append-nil before)
all_added number before (row ∷ more) all e =
    let step = then_ok (add_node number before row) (λ a. add_nodes (number + 1) a more) all e in
    let one : before ++ row ∷ [] ≡ step.0 = added (is_taken before (key_of row)) (refusal.KeyRepeated number) (before ++ row ∷ []) step.0 step.1 in
    all_added (number + 1) step.0 more all step.2 ∙ ap (λ a. a ++ more) (sym one) ∙ append_assoc before (row ∷ []) more

next_added : (r : Result (List Cells) TableRefusal) (number : ℕ) (x : Cells) (rows : List Cells) (row : Cells)
    → ((all : List Cells) → add_nodes (number + 1) all (rows ++ row ∷ []) ≡ and_then (add_nodes (number + 1) all rows) (λ a. add_node (number + 1 + length rows) a row))
    → and_then r (λ all. add_nodes (number + 1) all (rows ++ row ∷ [])) ≡ and_then (and_then r (λ all. add_nodes (number + 1) all rows)) (λ a. add_node (number + length (x ∷ rows)) a row)
next_added (Err e) number x rows row more = refl
next_added (Ok all) number x rows row more =
    let same : number + length (x ∷ rows) ≡ number + 1 + length rows = omega arith in
    rw same (more all)

-- one row more at the end
last_added : (number : ℕ) (before rows : List Cells) (row : Cells) → add_nodes number before (rows ++ row ∷ []) ≡ and_then (add_nodes number before rows) (λ all. add_node (number + length rows) all row)
last_added number before [] row = let same : number + length {A = Cells} [] ≡ number = omega arith in rw same (then_itself (add_node number before row))
last_added number before (x ∷ rows) row = next_added (add_node number before x) number x rows row (λ all. last_added (number + 1) all rows row)

-- ---- records that are read one after the other

known : {B : Type 0} (b : Bool) (e : TableRefusal) (x : List Cells) (f : List Cells → Result B TableRefusal)
    → and_then (if b then Err e else Ok x) f ≡ and_then (if b then Err e else Ok x) (λ _. f x)
known true e x f = refl
known false e x f = refl

module _ (limit width : ℕ) (fields : List Field) where
  -- these rows were read, and the records that are left follow them, where no key is repeated
  pub record Gathering (all left : List (List (List ℕ))) (rows : List Cells) : Type 0 where
    pub few : length rows ≤ limit
    pub size : length all ≡ length rows + length left
    pub given : take_nodes limit width fields 2 [] all ≡ and_then (add_nodes 2 [] rows) (λ _. take_nodes limit width fields (length rows + 2) rows left)

  pub ungathered : (all : List (List (List ℕ))) → Gathering all all []
  ungathered all = record { few = omega arith; size = omega arith; given = refl }

  module _ (all left : List (List (List ℕ))) (rows : List Cells) (h : Gathering all left rows) where
    pub gathered : left ≡ [] → take_nodes limit width fields 2 [] all ≡ and_then (add_nodes 2 [] rows) (ending None)
    gathered e = h.given ∙ rw e (then_same (add_nodes 2 [] rows) (λ _. Ok rows) (ending None) (λ x k. ap Ok (sym (all_added 2 [] rows x k))))

    module _ (texts : List (List ℕ)) (rest : List (List (List ℕ))) (next : left ≡ texts ∷ rest) where
      pub room : length rows + 1 ≤ length all
      room = let some : length left ≡ length (texts ∷ rest) = ap length next in omega (arith, h.size)

      pub stopped : (e : TableRefusal) → read_node limit width fields (length rows + 2) (length rows) texts ≡ Err e
          → take_nodes limit width fields 2 [] all ≡ and_then (add_nodes 2 [] rows) (ending (Some e))
      stopped e r = h.given ∙ rw (next, r) (then_same (add_nodes 2 [] rows) (λ _. Err e) (ending (Some e)) (λ x k. refl))

      module _ (row : Cells) (r : read_node limit width fields (length rows + 2) (length rows) texts ≡ Ok row) where
        after : take_nodes limit width fields (length rows + 2) rows (texts ∷ rest) ≡ and_then (add_node (length rows + 2) rows row) (λ more. take_nodes limit width fields (length rows + 2 + 1) more rest)
        after = rw r refl

        before_next : (x : List Cells) → add_nodes 2 [] rows ≡ Ok x → take_nodes limit width fields (length rows + 2) rows (texts ∷ rest)
            ≡ and_then (add_node (2 + length rows) x row) (λ _. take_nodes limit width fields (length (rows ++ row ∷ []) + 2) (rows ++ row ∷ []) rest)
        before_next x k =
            let longer : length (rows ++ row ∷ []) ≡ length rows + 1 = length-append rows (row ∷ []) in
            let same : 2 + length rows ≡ length rows + 2 = omega arith in
            let number : length (rows ++ row ∷ []) + 2 ≡ length rows + 2 + 1 = omega (arith, longer) in
            rw (all_added 2 [] rows x k, same, number)
            (after ∙ known (is_taken rows (key_of row)) (refusal.KeyRepeated (length rows + 2)) (rows ++ row ∷ []) (λ more. take_nodes limit width fields (length rows + 2 + 1) more rest))

        pub one_row : length rows + 1 ≤ limit → Gathering all rest (rows ++ row ∷ [])
        one_row fits =
            let some : length left ≡ length (texts ∷ rest) = ap length next in
            let longer : length (rows ++ row ∷ []) ≡ length rows + 1 = length-append rows (row ∷ []) in
            let end = take_nodes limit width fields (length (rows ++ row ∷ []) + 2) (rows ++ row ∷ []) rest in
            record {
              few = omega (arith, longer);
              size = omega (arith, h.size, longer);
              given = h.given ∙ rw next (then_same (add_nodes 2 [] rows) (λ _. take_nodes limit width fields (length rows + 2) rows (texts ∷ rest)) (λ x. and_then (add_node (2 + length rows) x row) (λ _. end)) before_next)
                  ∙ sym (then_then (add_nodes 2 [] rows) (λ x. add_node (2 + length rows) x row) (λ _. end))
                  ∙ sym (ap (λ o. and_then o (λ _. end)) (last_added 2 [] rows row));
            }

  within_limit : (b : Bool) (count : ℕ) (e : TableRefusal) (r : Result (List (List ℕ)) TableRefusal) (next : List (List ℕ) → Result Cells TableRefusal) (row : Cells)
      → nat_le limit count ≡ b → and_then (if b then Err e else r) next ≡ Ok row → count + 1 ≤ limit
  within_limit true count e r next row t h = cc h
  within_limit false count e r next row t h = grind (arith, nat_tests, t)

  -- a row is read only where there is room for it
  pub has_room : (number count : ℕ) (texts : List (List ℕ)) (row : Cells) → read_node limit width fields number count texts ≡ Ok row → count + 1 ≤ limit
  has_room number count texts row e = within_limit (nat_le limit count) count refusal.TooManyRows _ (node_of number fields) row refl e
