use Rattle.std.proofs.Common.{◌≡◌, ◌<◌, ◌≤◌, ◌+◌, ◌-◌, ◌++◌, ◌∷◌, ℕ, List, [], true, false, length, get_or, set, take, refl, sym, ap, ◌∙◌, subst, arith, true≢false}
use Rattle.std.proofs.lemmas.Bool.{false≢true}
use Rattle.std.proofs.lemmas.List.{get_or_read_under, length-set, take_all}
use Rattle.gq_search.specs.declared.walker.Cursor.{Cursor}
use Rattle.gq_search.specs.declared.walker.State.TheVariants.{Standing, Done}
use Rattle.gq_search.specs.declared.walker.State.{State}
use Rattle.gq_search.specs.declared.walker.Walker.{Walker}
use Rattle.gq_search.specs.Layouts.{Layout, count, piece_of}
use Rattle.gq_search.specs.Running.{Machine, Runs, keys_of, keys_owed, prefix, cursor_at, no_cursor, stands_at, stands_by, Opens, IsReady, Jumps, Passes, WithMarks}
use Rattle.gq_search.proofs.Jumping.{jump}
use Rattle.gq_search.proofs.Odometer.{left}
use Rattle.gq_search.proofs.Searching.{Search, key-small, keys-stood, all-done}
use Rattle.gq_search.proofs.Stepping.{Looked, After, after_as, pass, down, back, begins_fresh, begins_standing, last_small}
use Rattle.gq_search.proofs.Taking.{ends, moves_alone, moves_on, some_groups, stands_alone}
use Rattle.gq_search.proofs.walker.Walker.advance.Goals as goal
use Rattle.gq_search.proofs.walker.Walker.advance.Goals.{in-Fresh, in-Standing}

-- what is said of five values holds of five equal ones
all_moved : {A B : Type 0} (P : A → B → Walker → ℕ → ℕ → Type 0) (a a' : A) (b b' : B) (s s' : Walker) (d d' n n' : ℕ) → a' ≡ a → b' ≡ b → s' ≡ s → d' ≡ d → n' ≡ n → P a b s d n → P a' b' s' d' n'
all_moved P a a' b b' s s' d d' n n' e f h k m p =
    subst (λ x. P x b' s' d' n') (sym e) (subst (λ x. P a x s' d' n') (sym f) (subst (λ x. P a b x d' n') (sym h) (subst (λ x. P a b s x n') (sym k) (subst (λ x. P a b s d x) (sym m) p))))

pub returns-then-groups-eq0-clause-stands : goal.returns-then-groups-eq0-clause-stands
returns-then-groups-eq0-clause-stands g c =
    stands_alone (g.L.Levels.stands c.args.levels.now c.args.lent.now) c.args.self.now.state c.step_alone.new.self.state c.step_alone.result c.args.self.now.cursors.items c.step_alone.new.self.cursors.items
    (omega (arith, c.if-groups-eq0.true, c.len-groups.ensures, c.args.self.now.cursors.ok.0)) c.step_alone.ensures.cursors c.step_alone.ensures.step c.requires.stands

pub returns-then-groups-eq0-clause-moves : goal.returns-then-groups-eq0-clause-moves
returns-then-groups-eq0-clause-moves g c =
    moves_alone (g.L.Levels.layout c.args.levels.now) (g.L.Levels.groups c.args.levels.now) (record { cursors = c.args.self.now.cursors.items; marks = c.args.self.now.marks.items; state = c.args.self.now.state })
    (record { cursors = c.step_alone.new.self.cursors.items; marks = c.step_alone.new.self.marks.items; state = c.step_alone.new.self.state }) c.step_alone.result
    (omega (arith, c.if-groups-eq0.true, c.len-groups.ensures, c.requires.sound.groups, c.args.self.now.cursors.ok.0)) c.requires.sound c.step_alone.ensures.cursors c.step_alone.ensures.marks c.step_alone.ensures.step

pub overflow_add-next : goal.overflow_add-next
overflow_add-next g c =
    let s = c.requires.sound in
    let last : c.len-groups.result - 1 + 1 ≡ length c.args.self.now.cursors.items = omega (arith, c.len-groups.ensures, s.groups, some_groups c.len-groups.result c.if-groups-eq0.false, c.args.self.now.cursors.ok.0) in
    let is = get_or_read_under c.args.self.now.cursors.items (c.len-groups.result - 1) _ c.index.result.now no_cursor c.index.ensures (omega (arith, last, c.args.self.now.cursors.ok.0)) c.args.self.now.cursors.ok.0 in
    omega (arith, ap (λ (x : Cursor). x.key) is, last_small (g.L.Levels.layout c.args.levels.now) (g.L.Levels.groups c.args.levels.now) (record { cursors = c.args.self.now.cursors.items; marks = c.args.self.now.marks.items; state = c.args.self.now.state }) (c.len-groups.result - 1) s c.in-Standing.is last)

pub search-init : goal.search-init
search-init g c =
    let s = c.requires.sound in
    let old : Machine = record { cursors = c.args.self.now.cursors.items; marks = c.args.self.now.marks.items; state = c.args.self.now.state } in
    let l : Layout = g.L.Levels.layout c.args.levels.now in
    elim c.match-self.branch [
      | in-Fresh w ↦
          (let first = begins_fresh (g.L.Levels.layout c.args.levels.now) (g.L.Levels.groups c.args.levels.now) (g.L.Levels.opened w.open.new.levels w.open.new.lent) (g.L.Levels.cut_at w.open.new.levels w.open.new.lent)
          (record { cursors = c.args.self.now.cursors.items; marks = c.args.self.now.marks.items; state = c.args.self.now.state }) w.open.new.self.cursors.items (omega (arith, c.len-groups.ensures, s.groups, some_groups c.len-groups.result c.if-groups-eq0.false, c.args.self.now.cursors.ok.0)) s w.in-Fresh.is w.open.ensures.cursors w.open.ensures.opened
          (left (g.L.Levels.layout c.args.levels.now) (g.L.Levels.groups c.args.levels.now) [] [] 0 + 1) (omega arith) in
          let a = after_as (g.L.Levels.layout c.args.levels.now) (g.L.Levels.groups c.args.levels.now) _ (g.L.Levels.opened w.open.new.levels w.open.new.lent) (g.L.Levels.cut_at w.open.new.levels w.open.new.lent)
          (g.L.Levels.layout w.open.new.levels) (g.L.Levels.groups w.open.new.levels) _ w.open.new.self.cursors.items w.open.new.self.cursors.items w.open.new.self.marks.items 0 0 w.open.ensures.layout w.open.ensures.groups refl
          (subst (λ x. After (g.L.Levels.layout c.args.levels.now) (g.L.Levels.layout c.args.levels.now) (g.L.Levels.groups c.args.levels.now) (g.L.Levels.groups c.args.levels.now) (keys_owed (g.L.Levels.layout c.args.levels.now) (g.L.Levels.groups c.args.levels.now) (record { cursors = c.args.self.now.cursors.items; marks = c.args.self.now.marks.items; state = c.args.self.now.state })) (g.L.Levels.opened w.open.new.levels w.open.new.lent) (g.L.Levels.cut_at w.open.new.levels w.open.new.lent) (left (g.L.Levels.layout c.args.levels.now) (g.L.Levels.groups c.args.levels.now) [] [] 0 + 1) w.open.new.self.cursors.items x 0 0) (sym w.open.ensures.marks) first) in
          let both = all_moved (λ x y (t : Walker) d n. IsReady (g.L.Levels.layout x) (g.L.Levels.groups x) (g.L.Levels.opened x y) (g.L.Levels.cut_at x y) t.cursors.items t.marks.items d n
          × Search (g.L.Levels.layout c.args.levels.now) (g.L.Levels.groups c.args.levels.now) (keys_owed (g.L.Levels.layout c.args.levels.now) (g.L.Levels.groups c.args.levels.now) (record { cursors = c.args.self.now.cursors.items; marks = c.args.self.now.marks.items; state = c.args.self.now.state })) t.cursors.items t.marks.items d n)
          w.open.new.levels c.match-self.levels w.open.new.lent c.match-self.lent w.open.new.self c.match-self.self 0 c.match-self.depth 0 c.match-self.next w.levels-is w.lent-is w.self-is w.depth-is w.next-is (a.ready, a.search) in
          record {
            count = omega (arith, c.len-groups.ensures, s.groups, both.1.opened.groups, c.args.self.now.cursors.ok.0);
            groups = ap (λ x. g.L.Levels.groups x) w.levels-is ∙ w.open.ensures.groups;
            layout = ap (λ x. g.L.Levels.layout x) w.levels-is ∙ w.open.ensures.layout;
            frame = ap (λ x. g.L.Levels.frame x) w.lent-is ∙ w.open.ensures.frame;
            kept = ap (λ x. g.L.Levels.kept x) w.levels-is ∙ w.open.ensures.kept;
            ready = both.0;
            search = both.1;
          })
      | in-Standing w ↦
          (let d : ℕ = c.len-groups.result - 1 in
          let last : c.len-groups.result - 1 + 1 ≡ length c.args.self.now.cursors.items = omega (arith, c.len-groups.ensures, s.groups, some_groups c.len-groups.result c.if-groups-eq0.false, c.args.self.now.cursors.ok.0) in
          let is = get_or_read_under c.args.self.now.cursors.items (c.len-groups.result - 1) _ w.index.result.now no_cursor w.index.ensures (omega (arith, last, c.args.self.now.cursors.ok.0)) c.args.self.now.cursors.ok.0 in
          let stands : g.L.Levels.stands c.args.levels.now c.args.lent.now (keys_of c.args.self.now.cursors.items) =
          subst (λ (t : State). stands_by t c.args.self.now.cursors.items (g.L.Levels.stands c.args.levels.now c.args.lent.now)) w.in-Standing.is c.requires.stands in
          let first = begins_standing (g.L.Levels.layout c.args.levels.now) (g.L.Levels.groups c.args.levels.now) (g.L.Levels.opened c.args.levels.now c.args.lent.now) (g.L.Levels.cut_at c.args.levels.now c.args.lent.now)
          (g.L.Levels.stands c.args.levels.now c.args.lent.now) (λ pre k. g.met.L.Levels.goes_on c.args.levels.now c.args.lent.now pre k) (λ pre k. g.met.L.Levels.keeps_piece c.args.levels.now c.args.lent.now pre k)
          (record { cursors = c.args.self.now.cursors.items; marks = c.args.self.now.marks.items; state = c.args.self.now.state }) (c.len-groups.result - 1)
          (left (g.L.Levels.layout c.args.levels.now) (g.L.Levels.groups c.args.levels.now) [] (prefix c.args.self.now.cursors.items (c.len-groups.result - 1)) ((cursor_at c.args.self.now.cursors.items (c.len-groups.result - 1)).key + 1) + 1)
          s w.in-Standing.is last stands (omega arith) in
          let both = all_moved (λ x y (t : Walker) d n. IsReady (g.L.Levels.layout x) (g.L.Levels.groups x) (g.L.Levels.opened x y) (g.L.Levels.cut_at x y) t.cursors.items t.marks.items d n
          × Search (g.L.Levels.layout c.args.levels.now) (g.L.Levels.groups c.args.levels.now) (keys_owed (g.L.Levels.layout c.args.levels.now) (g.L.Levels.groups c.args.levels.now) (record { cursors = c.args.self.now.cursors.items; marks = c.args.self.now.marks.items; state = c.args.self.now.state })) t.cursors.items t.marks.items d n)
          c.args.levels.now c.match-self.levels c.args.lent.now c.match-self.lent c.args.self.now c.match-self.self (c.len-groups.result - 1) c.match-self.depth ((cursor_at c.args.self.now.cursors.items (c.len-groups.result - 1)).key + 1) c.match-self.next
          w.levels-is w.lent-is w.self-is w.depth-is (w.next-is ∙ ap (λ (x : Cursor). x.key + 1) is) (first.ready, first.search) in
          record {
            count = omega (arith, c.len-groups.ensures, s.groups, both.1.opened.groups, c.args.self.now.cursors.ok.0);
            groups = ap (λ x. g.L.Levels.groups x) w.levels-is;
            layout = ap (λ x. g.L.Levels.layout x) w.levels-is;
            frame = ap (λ x. g.L.Levels.frame x) w.lent-is;
            kept = ap (λ x. g.L.Levels.kept x) w.levels-is;
            ready = both.0;
            search = both.1;
          })
    ]

pub returns-then-depth-groups-clause-stands : goal.returns-then-depth-groups-clause-stands
returns-then-depth-groups-clause-stands g c =
    let full : c.search.depth + 1 ≡ length c.search.self.cursors.items = omega (arith, c.if-depth-groups.true, c.search.invariant.count) in
    let is : c.stand.new.self.cursors.items ≡ set c.search.self.cursors.items c.search.depth (stands_at c.search.self.cursors.items c.search.depth c.search.next) =
    c.stand.ensures.cursors ∙ ap (λ x. set x c.search.depth (stands_at x c.search.depth c.search.next)) c.look.ensures.cursors in
    let keys : keys_of c.stand.new.self.cursors.items ≡ prefix c.look.new.self.cursors.items c.search.depth ++ c.search.next ∷ [] =
    ap keys_of (is ∙ sym (take_all (c.search.depth + 1) _ (omega (arith, full, length-set c.search.self.cursors.items c.search.depth (stands_at c.search.self.cursors.items c.search.depth c.search.next)))))
    ∙ keys-stood c.search.self.cursors.items c.search.depth c.search.next (omega (arith, full)) ∙ ap (λ x. prefix x c.search.depth ++ c.search.next ∷ []) (sym c.look.ensures.cursors) in
    subst (g.L.Levels.stands c.stand.new.levels c.stand.new.lent) (sym keys) c.stand.ensures.stands

pub returns-then-depth-groups-clause-moves : goal.returns-then-depth-groups-clause-moves
returns-then-depth-groups-clause-moves g c =
    let i = c.search.invariant in
    let old : Machine = record { cursors = c.args.self.now.cursors.items; marks = c.args.self.now.marks.items; state = c.args.self.now.state } in
    let new : Machine = record { cursors = c.stand.new.self.cursors.items; marks = c.stand.new.self.marks.items; state = Standing } in
    let k = subst (λ n. Looked (g.L.Levels.layout c.args.levels.now) n (g.L.Levels.opened c.look.new.levels c.look.new.lent) (g.L.Levels.cut_at c.look.new.levels c.look.new.lent) c.search.self.cursors.items c.search.self.marks.items c.search.depth c.search.next c.look.new.self.marks.items true) i.groups
    (subst (λ x. Looked x (g.L.Levels.groups c.search.levels) (g.L.Levels.opened c.look.new.levels c.look.new.lent) (g.L.Levels.cut_at c.look.new.levels c.look.new.lent) c.search.self.cursors.items c.search.self.marks.items c.search.depth c.search.next c.look.new.self.marks.items true) i.layout
    (record { marks = c.look.ensures.marks; at = c.look.ensures.at; inside = subst (λ m. c.search.next < m) c.numbers.ensures c.if-next-numbers.true; is_live = λ _. c.look.ensures.live c.if-look.true; none = λ t. absurd (true≢false t) })) in
    moves_on (g.L.Levels.layout c.args.levels.now) (g.L.Levels.groups c.args.levels.now) (record { cursors = c.args.self.now.cursors.items; marks = c.args.self.now.marks.items; state = c.args.self.now.state })
    (record { cursors = c.stand.new.self.cursors.items; marks = c.stand.new.self.marks.items; state = Standing }) c.search.self.cursors.items c.search.self.marks.items c.search.depth c.search.next i.search
    (subst (WithMarks (g.L.Levels.layout c.args.levels.now) c.search.self.cursors.items c.search.self.marks.items c.search.depth c.search.next) (sym c.stand.ensures.marks) k.marks) k.inside (k.is_live refl) (omega (arith, c.if-depth-groups.true, i.count))
    (c.stand.ensures.cursors ∙ ap (λ x. set x c.search.depth (stands_at x c.search.depth c.search.next)) c.look.ensures.cursors) refl

-- the next group is opened
deeper : (g : _) (c : goal.After-open-then-look g) → After (g.L.Levels.layout c.args.levels.now) (g.L.Levels.layout c.open-then-look.new.levels) (g.L.Levels.groups c.args.levels.now) (g.L.Levels.groups c.open-then-look.new.levels)
    (keys_owed (g.L.Levels.layout c.args.levels.now) (g.L.Levels.groups c.args.levels.now) (record { cursors = c.args.self.now.cursors.items; marks = c.args.self.now.marks.items; state = c.args.self.now.state }))
    (g.L.Levels.opened c.open-then-look.new.levels c.open-then-look.new.lent) (g.L.Levels.cut_at c.open-then-look.new.levels c.open-then-look.new.lent)
    (left (g.L.Levels.layout c.args.levels.now) (g.L.Levels.groups c.args.levels.now) [] (prefix c.search.self.cursors.items c.search.depth) c.search.next)
    c.open-then-look.new.self.cursors.items c.open-then-look.new.self.marks.items (c.search.depth + 1) 0
deeper g c =
    let i = c.search.invariant in
    let k = subst (λ n. Looked (g.L.Levels.layout c.args.levels.now) n (g.L.Levels.opened c.look.new.levels c.look.new.lent) (g.L.Levels.cut_at c.look.new.levels c.look.new.lent) c.search.self.cursors.items c.search.self.marks.items c.search.depth c.search.next c.open-then-look.new.self.marks.items true) i.groups
    (subst (λ x. Looked x (g.L.Levels.groups c.search.levels) (g.L.Levels.opened c.look.new.levels c.look.new.lent) (g.L.Levels.cut_at c.look.new.levels c.look.new.lent) c.search.self.cursors.items c.search.self.marks.items c.search.depth c.search.next c.open-then-look.new.self.marks.items true) i.layout
    (subst (λ x. Looked (g.L.Levels.layout c.search.levels) (g.L.Levels.groups c.search.levels) (g.L.Levels.opened c.look.new.levels c.look.new.lent) (g.L.Levels.cut_at c.look.new.levels c.look.new.lent) c.search.self.cursors.items c.search.self.marks.items c.search.depth c.search.next x true) (sym (c.open-then-look.ensures.marks ∙ c.stand.ensures.marks))
    (record { marks = c.look.ensures.marks; at = c.look.ensures.at; inside = subst (λ m. c.search.next < m) c.numbers.ensures c.if-next-numbers.true; is_live = λ _. c.look.ensures.live c.if-look.true; none = λ t. absurd (true≢false t) }))) in
    let layout : g.L.Levels.layout c.stand.new.levels ≡ g.L.Levels.layout c.args.levels.now = c.stand.ensures.layout ∙ c.look.ensures.layout ∙ i.layout in
    let groups : g.L.Levels.groups c.stand.new.levels ≡ g.L.Levels.groups c.args.levels.now = c.stand.ensures.groups ∙ c.look.ensures.groups ∙ i.groups in
    after_as (g.L.Levels.layout c.args.levels.now) (g.L.Levels.groups c.args.levels.now) _ (g.L.Levels.opened c.open-then-look.new.levels c.open-then-look.new.lent) (g.L.Levels.cut_at c.open-then-look.new.levels c.open-then-look.new.lent)
    (g.L.Levels.layout c.open-then-look.new.levels) (g.L.Levels.groups c.open-then-look.new.levels) _ c.open-then-look.new.self.cursors.items c.open-then-look.new.self.cursors.items c.open-then-look.new.self.marks.items (c.search.depth + 1) 0
    (c.open-then-look.ensures.layout ∙ layout) (c.open-then-look.ensures.groups ∙ groups) refl
    (down (g.L.Levels.layout c.args.levels.now) (g.L.Levels.groups c.args.levels.now) _ (g.L.Levels.opened c.open-then-look.new.levels c.open-then-look.new.lent) (g.L.Levels.cut_at c.open-then-look.new.levels c.open-then-look.new.lent)
    c.search.self.cursors.items c.stand.new.self.cursors.items c.open-then-look.new.self.cursors.items c.search.self.marks.items c.open-then-look.new.self.marks.items c.search.depth c.search.next
    (g.L.Levels.opened c.look.new.levels c.look.new.lent) (g.L.Levels.cut_at c.look.new.levels c.look.new.lent) i.search k
    (c.stand.ensures.cursors ∙ ap (λ x. set x c.search.depth (stands_at x c.search.depth c.search.next)) c.look.ensures.cursors)
    (subst (λ x. Opens x (prefix c.stand.new.self.cursors.items (c.search.depth + 1)) c.stand.new.self.cursors.items (c.search.depth + 1) c.open-then-look.new.self.cursors.items) layout c.open-then-look.ensures.cursors)
    c.open-then-look.ensures.opened (omega (arith, c.if-depth-groups.false, i.count, i.search.opened.inside, i.search.opened.groups)))

pub search-smaller-then-look : goal.search-smaller-then-look
search-smaller-then-look g c = (deeper g c).less

pub search-preserved-then-look : goal.search-preserved-then-look
search-preserved-then-look g c =
    let i = c.search.invariant in
    let a = deeper g c in
    record {
      count = omega (arith, i.count, i.search.opened.groups, a.search.opened.groups);
      groups = c.open-then-look.ensures.groups ∙ c.stand.ensures.groups ∙ c.look.ensures.groups ∙ i.groups;
      layout = c.open-then-look.ensures.layout ∙ c.stand.ensures.layout ∙ c.look.ensures.layout ∙ i.layout;
      frame = c.open-then-look.ensures.frame ∙ c.stand.ensures.frame ∙ c.look.ensures.frame ∙ i.frame;
      kept = c.open-then-look.ensures.kept ∙ c.stand.ensures.kept ∙ c.look.ensures.kept ∙ i.kept;
      ready = a.ready;
      search = a.search;
    }

pub search-smaller-else-look : goal.search-smaller-else-look
search-smaller-else-look g c =
    let i = c.search.invariant in
    let k = subst (λ n. Looked (g.L.Levels.layout c.args.levels.now) n (g.L.Levels.opened c.look.new.levels c.look.new.lent) (g.L.Levels.cut_at c.look.new.levels c.look.new.lent) c.search.self.cursors.items c.search.self.marks.items c.search.depth c.search.next c.look.new.self.marks.items false) i.groups
    (subst (λ x. Looked x (g.L.Levels.groups c.search.levels) (g.L.Levels.opened c.look.new.levels c.look.new.lent) (g.L.Levels.cut_at c.look.new.levels c.look.new.lent) c.search.self.cursors.items c.search.self.marks.items c.search.depth c.search.next c.look.new.self.marks.items false) i.layout
    (record { marks = c.look.ensures.marks; at = c.look.ensures.at; inside = subst (λ m. c.search.next < m) c.numbers.ensures c.if-next-numbers.true; is_live = λ t. absurd (false≢true t); none = λ _. c.look.ensures.none c.if-look.false })) in
    let passes = subst (λ x. Passes x (prefix c.search.self.cursors.items c.search.depth) (get_or c.look.new.self.marks.items c.search.depth []) c.search.next c.after-next.result) (c.look.ensures.layout ∙ i.layout)
    (subst (λ x. Passes (g.L.Levels.layout c.look.new.levels) (prefix x c.search.depth) (get_or c.look.new.self.marks.items c.search.depth []) c.search.next c.after-next.result) c.look.ensures.cursors c.after-next.ensures) in
    (after_as (g.L.Levels.layout c.args.levels.now) (g.L.Levels.groups c.args.levels.now) _ (g.L.Levels.opened c.look.new.levels c.look.new.lent) (g.L.Levels.cut_at c.look.new.levels c.look.new.lent)
    (g.L.Levels.layout c.look.new.levels) (g.L.Levels.groups c.look.new.levels) _ c.search.self.cursors.items c.look.new.self.cursors.items c.look.new.self.marks.items c.search.depth c.after-next.result (c.look.ensures.layout ∙ i.layout) (c.look.ensures.groups ∙ i.groups) c.look.ensures.cursors
    (pass (g.L.Levels.layout c.args.levels.now) (g.L.Levels.groups c.args.levels.now) _ (g.L.Levels.opened c.look.new.levels c.look.new.lent) (g.L.Levels.cut_at c.look.new.levels c.look.new.lent) c.search.self.cursors.items c.search.self.marks.items c.look.new.self.marks.items c.search.depth c.search.next c.after-next.result i.search k passes)).less

pub search-preserved-else-look : goal.search-preserved-else-look
search-preserved-else-look g c =
    let i = c.search.invariant in
    let k = subst (λ n. Looked (g.L.Levels.layout c.args.levels.now) n (g.L.Levels.opened c.look.new.levels c.look.new.lent) (g.L.Levels.cut_at c.look.new.levels c.look.new.lent) c.search.self.cursors.items c.search.self.marks.items c.search.depth c.search.next c.look.new.self.marks.items false) i.groups
    (subst (λ x. Looked x (g.L.Levels.groups c.search.levels) (g.L.Levels.opened c.look.new.levels c.look.new.lent) (g.L.Levels.cut_at c.look.new.levels c.look.new.lent) c.search.self.cursors.items c.search.self.marks.items c.search.depth c.search.next c.look.new.self.marks.items false) i.layout
    (record { marks = c.look.ensures.marks; at = c.look.ensures.at; inside = subst (λ m. c.search.next < m) c.numbers.ensures c.if-next-numbers.true; is_live = λ t. absurd (false≢true t); none = λ _. c.look.ensures.none c.if-look.false })) in
    let passes = subst (λ x. Passes x (prefix c.search.self.cursors.items c.search.depth) (get_or c.look.new.self.marks.items c.search.depth []) c.search.next c.after-next.result) (c.look.ensures.layout ∙ i.layout)
    (subst (λ x. Passes (g.L.Levels.layout c.look.new.levels) (prefix x c.search.depth) (get_or c.look.new.self.marks.items c.search.depth []) c.search.next c.after-next.result) c.look.ensures.cursors c.after-next.ensures) in
    let a = after_as (g.L.Levels.layout c.args.levels.now) (g.L.Levels.groups c.args.levels.now) _ (g.L.Levels.opened c.look.new.levels c.look.new.lent) (g.L.Levels.cut_at c.look.new.levels c.look.new.lent)
    (g.L.Levels.layout c.look.new.levels) (g.L.Levels.groups c.look.new.levels) _ c.search.self.cursors.items c.look.new.self.cursors.items c.look.new.self.marks.items c.search.depth c.after-next.result (c.look.ensures.layout ∙ i.layout) (c.look.ensures.groups ∙ i.groups) c.look.ensures.cursors
    (pass (g.L.Levels.layout c.args.levels.now) (g.L.Levels.groups c.args.levels.now) _ (g.L.Levels.opened c.look.new.levels c.look.new.lent) (g.L.Levels.cut_at c.look.new.levels c.look.new.lent) c.search.self.cursors.items c.search.self.marks.items c.look.new.self.marks.items c.search.depth c.search.next c.after-next.result i.search k passes) in
    record {
      count = i.count ∙ ap length (sym c.look.ensures.cursors);
      groups = c.look.ensures.groups ∙ i.groups;
      layout = c.look.ensures.layout ∙ i.layout;
      frame = c.look.ensures.frame ∙ i.frame;
      kept = c.look.ensures.kept ∙ i.kept;
      ready = a.ready;
      search = a.search;
    }

pub returns-then-depth-eq0-clause-moves : goal.returns-then-depth-eq0-clause-moves
returns-then-depth-eq0-clause-moves g c =
    let i = c.search.invariant in
    let many : c.numbers.result ≡ count (g.L.Levels.layout c.args.levels.now) [] =
    c.numbers.ensures ∙ ap (λ x. count x (prefix c.search.self.cursors.items c.search.depth)) i.layout ∙ ap (λ d. count (g.L.Levels.layout c.args.levels.now) (prefix c.search.self.cursors.items d)) c.if-depth-eq0.true in
    let none = all-done (g.L.Levels.layout c.args.levels.now) (g.L.Levels.groups c.args.levels.now) (keys_owed (g.L.Levels.layout c.args.levels.now) (g.L.Levels.groups c.args.levels.now) (record { cursors = c.args.self.now.cursors.items; marks = c.args.self.now.marks.items; state = c.args.self.now.state })) c.search.self.cursors.items c.search.self.marks.items c.search.next
    (subst (λ d. Search (g.L.Levels.layout c.args.levels.now) (g.L.Levels.groups c.args.levels.now) (keys_owed (g.L.Levels.layout c.args.levels.now) (g.L.Levels.groups c.args.levels.now) (record { cursors = c.args.self.now.cursors.items; marks = c.args.self.now.marks.items; state = c.args.self.now.state })) c.search.self.cursors.items c.search.self.marks.items d c.search.next) c.if-depth-eq0.true i.search)
    (subst (λ m. m ≤ c.search.next) many c.if-next-numbers.false) in
    ends (g.L.Levels.layout c.args.levels.now) (g.L.Levels.groups c.args.levels.now) (record { cursors = c.args.self.now.cursors.items; marks = c.args.self.now.marks.items; state = c.args.self.now.state })
    (record { cursors = c.search.self.cursors.items; marks = c.search.self.marks.items; state = Done }) i.search.opened.groups i.search.opened.marks none refl

pub overflow_add-next-else-depth-eq0 : goal.overflow_add-next-else-depth-eq0
overflow_add-next-else-depth-eq0 g c =
    let i = c.search.invariant in
    let o = i.search.opened in
    let at : c.search.depth - 1 + 1 ≡ c.search.depth = omega (arith, c.if-depth-eq0.false) in
    let is = get_or_read_under c.search.self.cursors.items (c.search.depth - 1) _ c.index-else-depth-eq0.result.now no_cursor c.index-else-depth-eq0.ensures (omega (arith, c.if-depth-eq0.false, o.inside, o.groups, c.search.self.cursors.ok.0)) c.search.self.cursors.ok.0 in
    omega (
      arith,
      ap (λ (x : Cursor). x.key) is,
      key-small (g.L.Levels.layout c.args.levels.now) (g.L.Levels.groups c.args.levels.now) c.search.self.cursors.items c.search.self.marks.items (c.search.depth - 1) (o.groups ∙ sym o.marks) (omega (arith, o.inside, o.groups))
          (subst (λ n. Runs (g.L.Levels.layout c.args.levels.now) [] (take n c.search.self.cursors.items) (take n c.search.self.marks.items)) (sym at) o.runs),
    )

-- the group before goes on
before : (g : _) (c : goal.After-index-else-depth-eq0 g) → After (g.L.Levels.layout c.args.levels.now) (g.L.Levels.layout c.search.levels) (g.L.Levels.groups c.args.levels.now) (g.L.Levels.groups c.search.levels)
    (keys_owed (g.L.Levels.layout c.args.levels.now) (g.L.Levels.groups c.args.levels.now) (record { cursors = c.args.self.now.cursors.items; marks = c.args.self.now.marks.items; state = c.args.self.now.state }))
    (g.L.Levels.opened c.search.levels c.search.lent) (g.L.Levels.cut_at c.search.levels c.search.lent)
    (left (g.L.Levels.layout c.args.levels.now) (g.L.Levels.groups c.args.levels.now) [] (prefix c.search.self.cursors.items c.search.depth) c.search.next)
    c.search.self.cursors.items c.search.self.marks.items (c.search.depth - 1) (c.index-else-depth-eq0.result.now.key + 1)
before g c =
    let i = c.search.invariant in
    let o = i.search.opened in
    let l : Layout = g.L.Levels.layout c.args.levels.now in
    let at : c.search.depth - 1 + 1 ≡ c.search.depth = omega (arith, c.if-depth-eq0.false) in
    let is = get_or_read_under c.search.self.cursors.items (c.search.depth - 1) _ c.index-else-depth-eq0.result.now no_cursor c.index-else-depth-eq0.ensures (omega (arith, c.if-depth-eq0.false, o.inside, o.groups, c.search.self.cursors.ok.0)) c.search.self.cursors.ok.0 in
    let many : c.numbers.result ≡ count (g.L.Levels.layout c.args.levels.now) (prefix c.search.self.cursors.items (c.search.depth - 1 + 1)) =
    c.numbers.ensures ∙ ap (λ x. count x (prefix c.search.self.cursors.items c.search.depth)) i.layout ∙ ap (λ d. count (g.L.Levels.layout c.args.levels.now) (prefix c.search.self.cursors.items d)) (sym at) in
    let stands : g.L.Levels.stands c.search.levels c.search.lent (prefix c.search.self.cursors.items (c.search.depth - 1 + 1)) =
    subst (λ d. g.L.Levels.stands c.search.levels c.search.lent (prefix c.search.self.cursors.items d)) (sym at) (g.met.L.Levels.still_stands c.search.levels c.search.lent (prefix c.search.self.cursors.items c.search.depth) i.ready.opens) in
    let moved = back (g.L.Levels.layout c.args.levels.now) (g.L.Levels.groups c.args.levels.now)
    (keys_owed (g.L.Levels.layout c.args.levels.now) (g.L.Levels.groups c.args.levels.now) (record { cursors = c.args.self.now.cursors.items; marks = c.args.self.now.marks.items; state = c.args.self.now.state }))
    (g.L.Levels.opened c.search.levels c.search.lent) (g.L.Levels.cut_at c.search.levels c.search.lent) (g.L.Levels.stands c.search.levels c.search.lent)
    (λ pre k. g.met.L.Levels.goes_on c.search.levels c.search.lent pre k)
    (subst (λ (x : Layout). (pre : List ℕ) (k : ℕ) → g.L.Levels.stands c.search.levels c.search.lent (pre ++ k ∷ []) → g.L.Levels.cut_at c.search.levels c.search.lent pre (piece_of (x.flat pre) k)) i.layout
    (λ pre k. g.met.L.Levels.keeps_piece c.search.levels c.search.lent pre k))
    c.search.self.cursors.items c.search.self.marks.items (c.search.depth - 1) c.search.next
    (subst (λ n. Search (g.L.Levels.layout c.args.levels.now) (g.L.Levels.groups c.args.levels.now) (keys_owed (g.L.Levels.layout c.args.levels.now) (g.L.Levels.groups c.args.levels.now) (record { cursors = c.args.self.now.cursors.items; marks = c.args.self.now.marks.items; state = c.args.self.now.state })) c.search.self.cursors.items c.search.self.marks.items n c.search.next) (sym at) i.search)
    (subst (λ m. m ≤ c.search.next) many c.if-next-numbers.false) stands in
    subst (λ (x : Cursor). After (g.L.Levels.layout c.args.levels.now) (g.L.Levels.layout c.search.levels) (g.L.Levels.groups c.args.levels.now) (g.L.Levels.groups c.search.levels) (keys_owed (g.L.Levels.layout c.args.levels.now) (g.L.Levels.groups c.args.levels.now) (record { cursors = c.args.self.now.cursors.items; marks = c.args.self.now.marks.items; state = c.args.self.now.state })) (g.L.Levels.opened c.search.levels c.search.lent) (g.L.Levels.cut_at c.search.levels c.search.lent)
    (left (g.L.Levels.layout c.args.levels.now) (g.L.Levels.groups c.args.levels.now) [] (prefix c.search.self.cursors.items c.search.depth) c.search.next) c.search.self.cursors.items c.search.self.marks.items (c.search.depth - 1) (x.key + 1)) (sym is)
    (subst (λ d. After (g.L.Levels.layout c.args.levels.now) (g.L.Levels.layout c.search.levels) (g.L.Levels.groups c.args.levels.now) (g.L.Levels.groups c.search.levels) (keys_owed (g.L.Levels.layout c.args.levels.now) (g.L.Levels.groups c.args.levels.now) (record { cursors = c.args.self.now.cursors.items; marks = c.args.self.now.marks.items; state = c.args.self.now.state })) (g.L.Levels.opened c.search.levels c.search.lent) (g.L.Levels.cut_at c.search.levels c.search.lent)
    (left (g.L.Levels.layout c.args.levels.now) (g.L.Levels.groups c.args.levels.now) [] (prefix c.search.self.cursors.items d) c.search.next) c.search.self.cursors.items c.search.self.marks.items (c.search.depth - 1) ((cursor_at c.search.self.cursors.items (c.search.depth - 1)).key + 1)) at
    (after_as (g.L.Levels.layout c.args.levels.now) (g.L.Levels.groups c.args.levels.now) _ (g.L.Levels.opened c.search.levels c.search.lent) (g.L.Levels.cut_at c.search.levels c.search.lent)
    (g.L.Levels.layout c.search.levels) (g.L.Levels.groups c.search.levels) _ c.search.self.cursors.items c.search.self.cursors.items c.search.self.marks.items (c.search.depth - 1) ((cursor_at c.search.self.cursors.items (c.search.depth - 1)).key + 1) i.layout i.groups refl moved))

pub search-smaller : goal.search-smaller
search-smaller g c = (before g c).less

pub search-preserved : goal.search-preserved
search-preserved g c =
    let i = c.search.invariant in
    record {
      count = i.count;
      groups = i.groups;
      layout = i.layout;
      frame = i.frame;
      kept = i.kept;
      ready = (before g c).ready;
      search = (before g c).search;
    }

-- what the levels pass over
pub search-smaller-then-next-ahead : goal.search-smaller-then-next-ahead
search-smaller-then-next-ahead g c =
    let i = c.search.invariant in
    let a = after_as (g.L.Levels.layout c.args.levels.now) (g.L.Levels.groups c.args.levels.now) _ (g.L.Levels.opened c.search.levels c.search.lent) (g.L.Levels.cut_at c.search.levels c.search.lent)
    (g.L.Levels.layout c.search.levels) (g.L.Levels.groups c.search.levels) _ c.search.self.cursors.items c.search.self.cursors.items c.search.self.marks.items c.search.depth c.ahead-ahead.result i.layout i.groups refl
    (jump (g.L.Levels.layout c.args.levels.now) (g.L.Levels.groups c.args.levels.now) _ (g.L.Levels.opened c.search.levels c.search.lent) (g.L.Levels.cut_at c.search.levels c.search.lent)
    c.search.self.cursors.items c.search.self.marks.items c.search.depth c.search.next c.ahead-ahead.result i.search i.ready.opens
    (subst (λ x. Jumps x (prefix c.search.self.cursors.items c.search.depth) c.search.next c.ahead-ahead.result) i.layout c.ahead-ahead.ensures) c.if-next-ahead.true) in
    a.less

pub search-preserved-then-next-ahead : goal.search-preserved-then-next-ahead
search-preserved-then-next-ahead g c =
    let i = c.search.invariant in
    let a = after_as (g.L.Levels.layout c.args.levels.now) (g.L.Levels.groups c.args.levels.now) _ (g.L.Levels.opened c.search.levels c.search.lent) (g.L.Levels.cut_at c.search.levels c.search.lent)
    (g.L.Levels.layout c.search.levels) (g.L.Levels.groups c.search.levels) _ c.search.self.cursors.items c.search.self.cursors.items c.search.self.marks.items c.search.depth c.ahead-ahead.result i.layout i.groups refl
    (jump (g.L.Levels.layout c.args.levels.now) (g.L.Levels.groups c.args.levels.now) _ (g.L.Levels.opened c.search.levels c.search.lent) (g.L.Levels.cut_at c.search.levels c.search.lent)
    c.search.self.cursors.items c.search.self.marks.items c.search.depth c.search.next c.ahead-ahead.result i.search i.ready.opens
    (subst (λ x. Jumps x (prefix c.search.self.cursors.items c.search.depth) c.search.next c.ahead-ahead.result) i.layout c.ahead-ahead.ensures) c.if-next-ahead.true) in
    record {
      count = i.count;
      groups = i.groups;
      layout = i.layout;
      frame = i.frame;
      kept = i.kept;
      ready = a.ready;
      search = a.search;
    }
