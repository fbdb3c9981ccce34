use Rattle.std.proofs.Common.{◌≡◌, ◌≢◌, ◌<◌, set, [], ◌/◌, ◌%◌, ℕ, List, length, get_or, true, false, Bool, sym, ap, ◌∙◌, subst, refl, arith}
use Rattle.std.proofs.lemmas.List.{get_or_read_under}
use Rattle.gq_search.specs.Layouts.{Layout, numbers_in, piece_of, live, count}
use Rattle.gq_search.specs.Marked.{IsMarkedAt}
use Rattle.gq_search.specs.Running.{prefix, has_mark}
use Rattle.gq_search.proofs.Runs.{length-keys, live-flat, live-piece}
use Rattle.gq_search.proofs.walker.Walker.keeps.Goals as goal
use Rattle.gq_search.proofs.walker.Walker.keeps.Goals.{then-flat, else-flat, then-not-flat, else-not-flat+else-next-eq0}
use Rattle.gq_search.specs.declared.walker.Walker.{Walker}
use Rattle.std.proofs.lemmas.List.{get_or-set_same, length-set}
use Rattle.gq_bits.specs.declared.TheConstants.{VECTOR}

lives : (l : Layout) (pre : List ℕ) (next : ℕ) (m : List Bool) (flat told : Bool) → flat ≡ l.flat pre → next < count l pre → IsMarkedAt l pre (piece_of (l.flat pre) next) m
    → (flat ≡ true → told ≡ get_or m (next % VECTOR) false) → (flat ≡ false → told ≡ has_mark m) → told ≡ live l pre next
lives l pre next m true told f inside marked on off =
    on refl ∙ live-flat l pre next m (sym f) (subst (λ b. next < numbers_in b (l.size pre)) (sym f) inside) (subst (λ b. IsMarkedAt l pre (piece_of b next) m) (sym f) marked)
lives l pre next m false told f inside marked on off =
    off refl ∙ live-piece l pre next m (sym f) (subst (λ b. IsMarkedAt l pre (piece_of b next) m) (sym f) marked)

-- marks that were cut, and marks that stayed
cut_marks : (l : Layout) (pre : List ℕ) (next piece depth : ℕ) (flat : Bool) (ms new : List (List Bool)) (m : List Bool) → depth < length ms → flat ≡ l.flat pre → piece ≡ piece_of flat next → IsMarkedAt l pre piece m → new ≡ set ms depth m
    → (depth < length new) × IsMarkedAt l pre (piece_of (l.flat pre) next) (get_or new depth [])
cut_marks l pre next piece depth flat ms new m inside f p marked is = (
  omega (arith, inside, ap length is, length-set ms depth m),
  subst (IsMarkedAt l pre (piece_of (l.flat pre) next)) (sym (get_or-set_same ms depth m [] inside) ∙ ap (λ x. get_or x depth []) (sym is)) (subst (λ q. IsMarkedAt l pre q m) (p ∙ ap (λ b. piece_of b next) f) marked),
)

kept_marks : (l : Layout) (pre : List ℕ) (next depth : ℕ) (flat : Bool) (ms new : List (List Bool)) → depth < length ms → flat ≡ l.flat pre → flat ≡ true → next % VECTOR ≢ 0
    → (l.flat pre ≡ true → next % VECTOR ≢ 0 → IsMarkedAt l pre (next / VECTOR) (get_or ms depth [])) → new ≡ ms → (depth < length new) × IsMarkedAt l pre (piece_of (l.flat pre) next) (get_or new depth [])
kept_marks l pre next depth flat ms new inside f on mid cached is =
    let is_flat : l.flat pre ≡ true = sym f ∙ on in
    (omega (arith, inside, ap length is), subst (λ x. IsMarkedAt l pre (piece_of (l.flat pre) next) (get_or x depth [])) (sym is) (subst (λ b. IsMarkedAt l pre (piece_of b next) (get_or ms depth [])) (sym is_flat) (cached is_flat mid)))

pub returns-clause-live : goal.returns-clause-live
returns-clause-live g c =
    let l : Layout = g.L.Levels.layout c.args.levels.now in
    let pre : List ℕ = prefix c.args.self.now.cursors.items c.args.depth in
    let o = c.requires.ready.search in
    let flat_is : c.is_flat-flat.result ≡ (g.L.Levels.layout c.args.levels.now).flat (prefix c.args.self.now.cursors.items c.args.depth) =
    c.is_flat-flat.ensures (prefix c.args.self.now.cursors.items c.args.depth) (length-keys c.args.self.now.cursors.items c.args.depth (omega (arith, o.inside, o.groups))) in
    let piece_is : c.if-flat.piece ≡ piece_of c.is_flat-flat.result c.args.next = elim c.if-flat.branch [
      | then-flat w ↦ w.piece-is ∙ ap (λ b. piece_of b c.args.next) (sym w.if-flat.true)
      | else-flat w ↦ w.piece-is ∙ ap (λ b. piece_of b c.args.next) (sym w.if-flat.false)
    ] in
    let long : c.args.depth < length c.args.self.now.marks.items = omega (arith, o.inside, o.marks) in
    let marks : (c.args.depth < length c.if-not-flat.self.marks.items) × IsMarkedAt (g.L.Levels.layout c.args.levels.now) (prefix c.args.self.now.cursors.items c.args.depth) (piece_of ((g.L.Levels.layout c.args.levels.now).flat (prefix c.args.self.now.cursors.items c.args.depth)) c.args.next) (get_or c.if-not-flat.self.marks.items c.args.depth []) =
    elim c.if-not-flat.branch [
      | then-not-flat w ↦ cut_marks (g.L.Levels.layout c.args.levels.now) (prefix c.args.self.now.cursors.items c.args.depth) c.args.next c.if-flat.piece c.args.depth c.is_flat-flat.result c.args.self.now.marks.items c.if-not-flat.self.marks.items w.cut.new.marks long flat_is piece_is
          (w.cut.ensures.marks (prefix c.args.self.now.cursors.items c.args.depth) (length-keys c.args.self.now.cursors.items c.args.depth (omega (arith, o.inside, o.groups))) c.requires.ready.opens)
          (ap (λ (s : Walker). s.marks.items) w.self-is)
      | else-not-flat+else-next-eq0 w ↦ kept_marks (g.L.Levels.layout c.args.levels.now) (prefix c.args.self.now.cursors.items c.args.depth) c.args.next c.args.depth c.is_flat-flat.result c.args.self.now.marks.items c.if-not-flat.self.marks.items long flat_is w.if-not-flat.false w.if-next-eq0.false o.cached
          (ap (λ (s : Walker). s.marks.items) w.self-is)
    ] in
    let is = get_or_read_under c.if-not-flat.self.marks.items c.args.depth _ c.index-2.result.now [] c.index-2.ensures (omega (arith, marks.0, c.if-not-flat.self.marks.ok.0)) c.if-not-flat.self.marks.ok.0 in
    lives (g.L.Levels.layout c.args.levels.now) (prefix c.args.self.now.cursors.items c.args.depth) c.args.next c.index-2.result.now c.is_flat-flat.result c.is_live.result flat_is c.requires.inside
    (subst (IsMarkedAt (g.L.Levels.layout c.args.levels.now) (prefix c.args.self.now.cursors.items c.args.depth) (piece_of ((g.L.Levels.layout c.args.levels.now).flat (prefix c.args.self.now.cursors.items c.args.depth)) c.args.next)) (sym is) marks.1)
    c.is_live.ensures.at c.is_live.ensures.any
