use Rattle.std.proofs.Common.{◌≡◌, None, Some, get_or, refl, sym, subst, arith, ◌∙◌}
use Rattle.std.specs.Prelude.{IfOk}
use Rattle.std.proofs.lemmas.Grind.{common_steps}
use Rattle.gq_base.specs.Plain.{cell_val}
use Rattle.gq_tables.proofs.SlotSteps.{others_tell, place_tells, put_after, put_there, spare_after, spare_there}
use Rattle.gq_tables.specs.steps.KeyMaps.{row_at}
use Rattle.gq_tables.specs.steps.Slots.{place_of, row_in}
use Rattle.gq_tables.proofs.key_index.KeyIndex.insert.Goals as goal

pub invariant_of-self-clause-spare : goal.invariant_of-self-clause-spare
invariant_of-self-clause-spare c =
    let taken : place_of c.args.self.now.slots.items (cell_val (Some c.args.key.now)) ≡ None = sym (rw (c.as_slice.ensures.value, c.value-value.ensures) at c.in_default.ensures.place) in
    spare_after c.args.self.now.slots.items (cell_val (Some c.args.key.now)) c.args.row taken (row_at c.args.self.now.others) (row_at c.insert.new.self)
    c.args.self.now.spare c.insert.result c.insert.ensures.put c.insert.ensures.err

pub returns-in_default-clause-put : goal.returns-in_default-clause-put
returns-in_default-clause-put c =
    let taken : place_of c.args.self.now.slots.items (cell_val (Some c.args.key.now)) ≡ None = sym (rw (c.as_slice.ensures.value, c.value-value.ensures) at c.in_default.ensures.place) in
    put_after c.args.self.now.slots.items (cell_val (Some c.args.key.now)) c.args.row taken (row_at c.args.self.now.others) (row_at c.insert.new.self) c.insert.result c.insert.ensures.put

pub returns-in_default-clause-before : goal.returns-in_default-clause-before
returns-in_default-clause-before c =
    let taken : place_of c.args.self.now.slots.items (cell_val (Some c.args.key.now)) ≡ None = sym (rw (c.as_slice.ensures.value, c.value-value.ensures) at c.in_default.ensures.place) in
    subst (λ o. IfOk c.insert.result (λ before. before ≡ o))
    (others_tell c.args.self.now.slots.items (cell_val (Some c.args.key.now)) (row_at c.args.self.now.others (cell_val (Some c.args.key.now))) taken) c.insert.ensures.before

pub returns-clause-before : goal.returns-clause-before
returns-clause-before c =
    let found : place_of c.args.self.now.slots.items (cell_val (Some c.args.key.now)) ≡ Some c.in-Some.place = sym (rw (c.as_slice.ensures.value, c.value-value.ensures) at c.in-Some.ensures.place) in
    let read : c.row_in-before.result ≡ row_in (get_or c.args.self.now.slots.items c.in-Some.place None) = grind (arith, common_steps) in
    read ∙ place_tells c.args.self.now.slots.items (cell_val (Some c.args.key.now)) c.in-Some.place found (row_at c.args.self.now.others) c.args.self.now.spare

pub returns-clause-put : goal.returns-clause-put
returns-clause-put c =
    let found : place_of c.args.self.now.slots.items (cell_val (Some c.args.key.now)) ≡ Some c.in-Some.place = sym (rw (c.as_slice.ensures.value, c.value-value.ensures) at c.in-Some.ensures.place) in
    λ v. put_there c.args.self.now.slots.items (cell_val (Some c.args.key.now)) c.in-Some.place found (record { key = c.value-value.result; row = c.args.row })
    c.value-value.ensures c.args.row refl v (row_at c.args.self.now.others v)

pub invariant_of-self-2-clause-spare : goal.invariant_of-self-2-clause-spare
invariant_of-self-2-clause-spare c =
    let found : place_of c.args.self.now.slots.items (cell_val (Some c.args.key.now)) ≡ Some c.in-Some.place = sym (rw (c.as_slice.ensures.value, c.value-value.ensures) at c.in-Some.ensures.place) in
    spare_there c.args.self.now.slots.items (cell_val (Some c.args.key.now)) c.in-Some.place found (record { key = c.value-value.result; row = c.args.row })
    c.value-value.ensures (row_at c.args.self.now.others) c.args.self.now.spare
