use Rattle.std.proofs.Common.{◌∙◌, ◌-◌, length, take, ◌∷◌, ◌++◌, [], append-nil, append_assoc, ap, ap₂, map, refl, sym}
use Rattle.std.specs.Prelude.{slice_get, slice_index_or}
use Rattle.std.proofs.lemmas.List.{map-append}
use Rattle.std.proofs.lemmas.Option.{slice_get_past, slice_get_read}
use Rattle.gq_base.specs.Values.{val}
use Rattle.gq_classes.specs.steps.Levels.{empty_row, front_of, key_val, lists_of, rows_from, texts_of}
use Rattle.gq_classes.proofs.Reading.{no_row, row_read}
use Rattle.gq_classes.proofs.classes.+append_row.Goals as goal

pub returns-in_default-get : goal.returns-in_default-get
returns-in_default-get t c =
    sym (ap (λ r. map val c.args.values.now.items ++ r) (no_row _ empty_row c.args.levels.now c.level-item.result c.in-len1-up.len_at_least c.level-item.is c.args.number
    (ap (λ l. slice_get l c.args.number) (sym c.deref.ensures.value) ∙ slice_get_past c.deref.result.now c.args.number c.in_default-get.ensures.lookup.3)) ∙ append-nil (map val c.args.values.now.items))

pub returns : goal.returns
returns t c =
    let old = map val c.args.values.now.items in
    let read = row_read _ empty_row c.args.levels.now c.level-item.result c.in-len1-up.len_at_least c.level-item.is c.args.number c.in-Some.key.now (ap (λ l. slice_get l c.args.number) (sym c.deref.ensures.value) ∙ slice_get_read c.deref.result.now (length c.deref.result.now) c.args.number c.in-Some.key.now refl c.in-Some.ensures.lookup.3.0 c.in-Some.ensures.lookup.1) in
    ap (map val) c.in_ok-push.ensures.items ∙ map-append val c.append_row.new.values.items (c.value.result ∷ [])
    ∙ ap₂ (λ l v. l ++ v ∷ []) (c.in_ok-append_row.ensures ∙ ap (λ n. old ++ slice_index_or (rows_from (texts_of c.args.texts.now) empty_row (lists_of (take (length c.args.levels.now - 1) c.args.levels.now))) n []) c.front.ensures) c.value.ensures
    ∙ append_assoc old (slice_index_or (rows_from (texts_of c.args.texts.now) empty_row (lists_of (take (length c.args.levels.now - 1) c.args.levels.now))) (front_of c.in-Some.key.now) []) (key_val (texts_of c.args.texts.now) c.in-Some.key.now ∷ []) ∙ ap (λ r. old ++ r) (sym read)
