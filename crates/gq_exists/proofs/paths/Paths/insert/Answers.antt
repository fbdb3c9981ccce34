use Rattle.std.proofs.Common.{◌≡◌, ◌∙◌, true, ap, subst, sym, arith, length}
use Rattle.std.proofs.lemmas.List.{length-map, with_items_is}
use Rattle.gq_exists.specs.steps.Levels.{AreLevels, grown, keys_from, links_of, roots}
use Rattle.gq_exists.proofs.Fronts.{inserts, length-grown}
use Rattle.gq_exists.proofs.paths.Paths.insert.Goals as goal

pub returns-clause-keys : goal.returns-clause-keys
returns-clause-keys c =
    let old = c.args.self.now in
    let new = c.insert_behind.new.levels in
    let levels = c.in_ok-insert_behind.ensures in
    let slice = c.as_mut_slice.ensures.value in
    let long : length new ≡ old.levels.len =
    omega (arith, length-map new (λ l. l.keys), ap length levels, length-grown (links_of c.as_mut_slice.result.now) 0 c.args.key.now, length-map c.as_mut_slice.result.now (λ l. l.keys), ap length slice, old.levels.ok.0) in
    let made = inserts old.any (links_of old.levels.items) c.args.key.now c.requires.are (c.requires.wide ∙ sym (length-map old.levels.items (λ l. l.keys))) in
    ap (λ l. keys_from (roots true) (links_of l)) (with_items_is old.levels new long) ∙ ap (keys_from (roots true)) levels
    ∙ ap (λ l. keys_from (roots true) (grown (links_of l) 0 c.args.key.now)) slice ∙ made.keys

pub returns-clause-are : goal.returns-clause-are
returns-clause-are c =
    let old = c.args.self.now in
    let new = c.insert_behind.new.levels in
    let levels = c.in_ok-insert_behind.ensures in
    let slice = c.as_mut_slice.ensures.value in
    let long : length new ≡ old.levels.len =
    omega (arith, length-map new (λ l. l.keys), ap length levels, length-grown (links_of c.as_mut_slice.result.now) 0 c.args.key.now, length-map c.as_mut_slice.result.now (λ l. l.keys), ap length slice, old.levels.ok.0) in
    let made = inserts old.any (links_of old.levels.items) c.args.key.now c.requires.are (c.requires.wide ∙ sym (length-map old.levels.items (λ l. l.keys))) in
    subst (AreLevels 1) (sym (ap links_of (with_items_is old.levels new long) ∙ levels ∙ ap (λ l. grown (links_of l) 0 c.args.key.now) slice)) made.are
