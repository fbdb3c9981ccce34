use Rattle.std.proofs.Common.{◌≡◌, ◌≤◌, ◌+◌, ◌*◌, ℕ, List, [], get_or, true, false, Bool, sym, ◌∙◌, subst, arith, true≢false}
use Rattle.std.proofs.lemmas.List.{get_or_read_under}
use Rattle.gq_bits.specs.declared.TheConstants.{VECTOR}
use Rattle.gq_search.specs.Layouts.{Layout, piece_of, live, IsPlace}
use Rattle.gq_search.specs.Marked.{IsMarkedAt}
use Rattle.gq_search.specs.Running.{prefix}
use Rattle.gq_search.proofs.Runs.{live-piece, any-none, flat-place, piece-place}
use Rattle.gq_search.proofs.walker.Walker.place.Goals as goal

none-live : (l : Layout) (pre : List ℕ) (k : ℕ) (m : List Bool) → l.flat pre ≡ false → IsMarkedAt l pre (piece_of (l.flat pre) k) m → live l pre k ≡ true → ((i : ℕ) → 0 ≤ i → get_or m i false ≡ false) → ⊥
none-live l pre k m f marked alive none =
    true≢false (sym alive ∙ sym (live-piece l pre k m f (subst (λ b. IsMarkedAt l pre (piece_of b k) m) f marked)) ∙ any-none m (λ i. none i (omega arith)))

pub unreachable-requires : goal.unreachable-requires
unreachable-requires g c =
    let is = get_or_read_under c.args.self.now.marks.items c.args.depth _ c.index.result.now [] c.index.ensures (omega (arith, c.requires.inside, c.args.self.now.marks.ok.0)) c.args.self.now.marks.ok.0 in
    none-live (g.L.Levels.layout c.args.levels.now) (prefix c.args.self.now.cursors.items c.args.depth) c.args.next c.index.result.now
    (sym (c.is_flat.ensures (prefix c.args.self.now.cursors.items c.args.depth) c.requires.len) ∙ c.if-is_flat.false)
    (subst (IsMarkedAt (g.L.Levels.layout c.args.levels.now) (prefix c.args.self.now.cursors.items c.args.depth) _) (sym is) c.requires.marked) c.requires.live
    c.in-None.ensures.found

pub returns-then-is_flat : goal.returns-then-is_flat
returns-then-is_flat g c =
    flat-place (g.L.Levels.layout c.args.levels.now) (prefix c.args.self.now.cursors.items c.args.depth) c.args.next
    (sym (c.is_flat.ensures (prefix c.args.self.now.cursors.items c.args.depth) c.requires.len) ∙ c.if-is_flat.true) c.requires.number c.requires.live

-- the place in the piece
placed : (g : _) (c : goal.In-Some g) → IsPlace (g.L.Levels.layout c.args.levels.now) (prefix c.args.self.now.cursors.items c.args.depth) c.args.next (c.args.next * VECTOR + c.in-Some.offset)
placed g c =
    let is = get_or_read_under c.args.self.now.marks.items c.args.depth _ c.index.result.now [] c.index.ensures (omega (arith, c.requires.inside, c.args.self.now.marks.ok.0)) c.args.self.now.marks.ok.0 in
    piece-place (g.L.Levels.layout c.args.levels.now) (prefix c.args.self.now.cursors.items c.args.depth) c.args.next c.in-Some.offset c.index.result.now
    (sym (c.is_flat.ensures (prefix c.args.self.now.cursors.items c.args.depth) c.requires.len) ∙ c.if-is_flat.false)
    (subst (IsMarkedAt (g.L.Levels.layout c.args.levels.now) (prefix c.args.self.now.cursors.items c.args.depth) _) (sym is) c.requires.marked)
    c.in-Some.ensures.found.1

pub overflow_mul-result : goal.overflow_mul-result
overflow_mul-result g c = omega (arith, (placed g c).inside, c.requires.size)

pub overflow_add-result : goal.overflow_add-result
overflow_add-result g c = omega (arith, (placed g c).inside, c.requires.size)

pub returns : goal.returns
returns g c = placed g c
