use Rattle.std.proofs.Common.{◌≡◌, ◌∙◌, sym, ap, arith, cond, true, false, ◌++◌, ◌∷◌, []}
use Rattle.std.specs.Prelude.{is_some, Option, Some, List, length}
use Rattle.std.specs.BTreeMap.{get}
use Rattle.std.specs.Cmp.Lexicographic.{slice_cmp}
use Rattle.std.specs.Ordering.{nat_cmp, is_eq}
use Rattle.std.specs.Str.{bytes_eq}
use Rattle.std.proofs.lemmas.Grind.{common_steps}
use Rattle.std.proofs.lemmas.Map.Text.{is_eq-slice_cmp}
use Rattle.gq_scopes.specs.Patterns.{Name, find_name}
use Rattle.gq_scopes.proofs.NamingLemmas.{with_known, with_new}
use Rattle.gq_scopes.proofs.naming.Names.push_name.Goals as goal

pub invariant_of-self : goal.invariant_of-self
invariant_of-self c =
    let there : is_some (get (slice_cmp nat_cmp) c.self.inside.places c.args.name.now) ≡ true = sym c.contains_key.ensures ∙ c.if-contains_key.true in
    λ q. grind (arith, common_steps, c.self.invariant q, with_known _ _ c.self.invariant c.args.name.now there q, c.push_item.ensures.pushed, c.push_item.ensures.kept)

pub invariant_of-self-in-Ok : goal.invariant_of-self-in-Ok
invariant_of-self-in-Ok c =
    let absent : is_some (get (slice_cmp nat_cmp) c.self.inside.places c.args.name.now) ≡ false = sym c.contains_key.ensures ∙ c.if-contains_key.false in
    λ q. c.in-Ok.ensures.updates.0 q
    ∙ ap (λ (k : Name). cond (is_eq (slice_cmp nat_cmp k q)) (Some c.len-place.result) (get (slice_cmp nat_cmp) c.self.inside.places q)) c.in_ok-key.ensures
    ∙ ap (λ b. cond b (Some c.len-place.result) (get (slice_cmp nat_cmp) c.self.inside.places q)) (is_eq-slice_cmp c.args.name.now q)
    ∙ ap (λ n. cond (bytes_eq c.args.name.now q) (Some n) (get (slice_cmp nat_cmp) c.self.inside.places q)) c.len-place.ensures
    ∙ ap (λ (l : List (Option Name)). cond (bytes_eq c.args.name.now q) (Some (length l)) (get (slice_cmp nat_cmp) c.self.inside.places q)) (sym c.self.view_is)
    ∙ with_new _ _ c.self.invariant c.args.name.now absent q
    ∙ ap (λ (n : Name). find_name (c.self.inside.list.items ++ Some n ∷ []) q) (sym c.in_ok-item.ensures)
    ∙ ap (λ l. find_name l q) (sym c.in_ok-push_item.ensures.pushed)
