use Rattle.std.proofs.Common.{◌≡◌, ℕ, List, Option, Some, Bor, false, map, length, refl, sym, ap, ◌∙◌, subst, arith, inl, inr}
use Rattle.gq_base.specs.Valid.{is_of_kind}
use Rattle.gq_base.specs.declared.catalog.Kind.{Kind}
use Rattle.gq_base.specs.declared.cell.Cell.{Cell}
use Rattle.gq_base.specs.declared.cell.Cell.TheVariants as cell
use Rattle.gq_store.proofs.Coding.{no_texts}
use Rattle.gq_store.proofs.property.texts_of.Goals as goal

pub returns-in-Int : goal.returns-in-Int
returns-in-Int c =
    let other : (s : List ℕ) → is_of_kind c.args.kind (Some (cell.Str s)) ≡ false =
    elim c.in-Int.is [
      | inl int ↦ subst (λ (k : Kind). (s : List ℕ) → is_of_kind k (Some (cell.Str s)) ≡ false) (sym int) (λ s. refl)
      | inr flag ↦ subst (λ (k : Kind). (s : List ℕ) → is_of_kind k (Some (cell.Str s)) ≡ false) (sym flag) (λ s. refl)
    ] in
    record {
      value = ap (map (λ (text : Bor (List ℕ)). text.now)) c.new.ensures.items ∙ sym (no_texts c.args.kind (map (λ (cell : Bor (Option Cell)). cell.now) c.args.cells.now) other c.requires);
      few = omega (arith, ap length c.new.ensures.items);
    }
