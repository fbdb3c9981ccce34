use Rattle.std.proofs.Common.{◌≡◌, ◌∙◌, ◌+◌, ℕ, zero, suc, nat_eq, Bool, true, false, ◌||◌, length, List, [], ◌∷◌, Some, ◌≤◌, refl, sym, ap, subst, arith}
use Rattle.std.proofs.lemmas.Bool.{eq-eqb}
use Rattle.std.specs.Prelude.{slice_get}
use Rattle.gq_hops.specs.declared.follow.Follow.{Follow}
use Rattle.gq_hops.specs.declared.follow.Followed.{Followed}
use Rattle.gq_hops.specs.steps.Hops.{AreTables, is_far, tables_in}
use Rattle.gq_hops.specs.steps.Nears.{rows_in}
use Rattle.gq_hops.proofs.Hopping.{met_far, met_few, met_left, met_place, met_row, met_some, met_there, met_within, none_left, past, slice_get_none}
use Rattle.gq_hops.proofs.follow.met_here.Goals as goal

in_tables : (f : Follow) (i : ℕ) (e : Followed) → AreTables f → slice_get f.tables.items i ≡ Some e → slice_get (tables_in f.graph.now f.kind.now f.way) i ≡ Some e
in_tables f i e are found = ap (λ es. slice_get es i) (sym are) ∙ found

far_there : (es : List Followed) (i : ℕ) (e : Followed) → slice_get es i ≡ Some e → is_far es e.far ≡ true
far_there [] i e is = absurd (cc is)
far_there (x ∷ es) zero e is = let same : x ≡ e = cc is in ap (λ (y : Followed). nat_eq y.far e.far || is_far es e.far) same ∙ ap (λ b. b || is_far es e.far) (eq-eqb e.far e.far refl)
far_there (x ∷ es) (suc i) e is = later (nat_eq x.far e.far) (is_far es e.far) (far_there es i e is)
  where
    later : (a b : Bool) → b ≡ true → (a || b) ≡ true
    later true b h = refl
    later false b h = h

pub returns-in-None : goal.returns-in-None
returns-in-None c =
    let f = c.args.follow.now in
    let l = c.args.level.now in
    let low : length (tables_in f.graph.now f.kind.now f.way) ≤ l.table = subst (λ es. length es ≤ l.table) c.requires.tables (slice_get_none f.tables.items l.table (sym c.table_at.ensures ∙ c.in-None.is)) in
    none_left f.graph.now f.kind.now f.way l.at l.table l.place low ∙ sym (none_left f.graph.now f.kind.now f.way l.at (l.table + 1) 0 (omega (arith, low)))

pub returns-in-None-get : goal.returns-in-None-get
returns-in-None-get c =
    let f = c.args.follow.now in
    let l = c.args.level.now in
    let e = c.in-Some.followed in
    past f.graph.now f.kind.now f.way l.at l.table l.place (rows_in l.near) c.requires.level.near.rows (sym c.get.ensures ∙ c.in-None-get.is) e (in_tables f l.table e c.requires.tables (sym c.table_at.ensures ∙ c.in-Some.is))

pub returns-in-Some-get : goal.returns-in-Some-get
returns-in-Some-get c =
    let f = c.args.follow.now in
    let g = f.graph.now in
    let kind = f.kind.now in
    let way = f.way in
    let l = c.args.level.now in
    let e = c.in-Some.followed in
    let row = c.in-Some-get.row in
    let found = in_tables f l.table e c.requires.tables (sym c.table_at.ensures ∙ c.in-Some.is) in
    let here = sym c.get.ensures ∙ c.in-Some-get.is in
    let level = c.requires.level in
    let some = met_some g kind way l level e found row here in
    let few = met_few g kind way l level e found row here in
    record {
      next = record {
        hop = record { rel = record { table = e.table; row = some.0 }; node = record { table = e.far; row = row } };
        is = record { number = some.1; table = refl; node = refl };
        site = record { far = far_there f.tables.items l.table e (sym c.table_at.ensures ∙ c.in-Some.is); within = met_within g kind way l level e found row here; near = met_row g kind way l level e found row here; leads = met_place g kind way l level e found row here };
        first = record {
          level = record { node = level.node; near = level.near };
          left = met_left g kind way l level e found row here some.0 some.1;
          leads = met_far g kind way l level e found row here some.0 some.1;
          there = met_there g kind way l level e found row here some.0 some.1;
        };
      };
      few = omega (arith, few);
    }
