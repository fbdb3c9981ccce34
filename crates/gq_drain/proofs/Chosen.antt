-- The assignments of a chunk, one choice after another, and the outcomes of each.
use Rattle.std.proofs.Common.{◌≡◌, ◌∙◌, ℕ, ap, subst, true, false, Bool, List, [], ◌∷◌, flat_map, map, Result}
use Rattle.std.specs.List.{AllByRecursion}
use Rattle.gq_base.specs.Plain.{Graph}
use Rattle.gq_expr.specs.declared.Fault.{Fault}
use Rattle.gq_group.specs.Choices.{Begins, Chosen, IsChoice, Moves}
use Rattle.gq_group.specs.Chunks.{assignment_at}
use Rattle.gq_group.specs.Groups.{choices, later_choices}
use Rattle.gq_group.specs.declared.chunk.Chunk.{Chunk}
use Rattle.gq_group.specs.declared.group.Group.{Group}
use Rattle.gq_plan.specs.Assignments.{Assignment}
use Rattle.gq_plan.specs.Marked.{Marked, ending}
use Rattle.gq_plan.specs.Outcomes.{Row}
use Rattle.gq_plan.specs.Rows.{assigned}
use Rattle.gq_plan.specs.declared.Bound.{Bound}
use Rattle.gq_plan.specs.declared.typed.Typed.{Typed}
use Rattle.gq_kept.specs.Chunks.{PushesAll}
use Rattle.gq_kept.specs.Tables.{Table}
use Rattle.gq_kept.specs.declared.refusal.More.{More}
use Rattle.gq_kept.specs.declared.refusal.RowRefusal.{RowRefusal}

-- the choices that are left, the one that stands first
abbrev pub choices_left : List Group → Bool → Chosen → List (List ℕ)
choices_left gs true c = c.positions ∷ later_choices gs c.positions
choices_left gs false c = []

-- the assignments of some choices, and their outcomes
abbrev pub outs : (Assignment → List (Result Row Fault)) → Graph → Typed → Chunk → List (List ℕ) → List (Result Row Fault)
outs becomes g y c pss = flat_map becomes (map (assigned y) (map (assignment_at g y c) pss))

-- the first choice, and how it goes on
pub first_left : (gs : List Group) (told : Bool) (choice : Chosen) → Begins gs told choice → choices gs ≡ choices_left gs told choice
first_left gs true choice h = h.all
first_left gs false choice h = h

pub first_chosen : (gs : List Group) (told : Bool) (choice : Chosen) → Begins gs told choice → told ≡ true → IsChoice gs choice
first_chosen gs true choice h e = h.stands
first_chosen gs false choice h e = absurd (let no : false ≡ true = e in cc)

pub next_left : (gs : List Group) (told : Bool) (a b : Chosen) → Moves gs a told b → later_choices gs a.positions ≡ choices_left gs told b
next_left gs true a b h = h.next
next_left gs false a b h = h

pub next_chosen : (gs : List Group) (told : Bool) (a b : Chosen) → Moves gs a told b → told ≡ true → IsChoice gs b
next_chosen gs true a b h e = h.stands
next_chosen gs false a b h e = absurd (let no : false ≡ true = e in cc)

-- what is so of items that are made in two steps is so of what they are made of
pub each_made_of : {A B C : Type 0} (P : C → Type 0) (f : B → C) (h : A → B) (xs : List A) → AllByRecursion P (map f (map h xs)) → AllByRecursion (λ x. P (f (h x))) xs
each_made_of P f h [] all = tt
each_made_of P f h (x ∷ xs) all = (all.0, each_made_of P f h xs all.1)

-- what a table answers to the rows by which an assignment is continued, told of the graph and the query that were begun with
pub owed_pushed : (rows : Assignment → List Marked) (g : Graph) (b : Bound) (mid new : Table) (owed : List Marked) (t u : Assignment) (r : Result More RowRefusal) → mid.graph ≡ g → mid.bound ≡ b
    → owed ≡ rows t → t ≡ u → PushesAll (map (ending mid.graph mid.bound) owed) mid new r → PushesAll (map (ending g b) (rows u)) mid new r
owed_pushed rows g b mid new owed t u r graph same is at h =
    subst (λ os. PushesAll os mid new r) (λ i. map (ending (graph i) (same i)) ((is ∙ ap rows at) i)) h
