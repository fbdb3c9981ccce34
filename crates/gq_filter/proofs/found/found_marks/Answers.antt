use Rattle.std.proofs.Common.{◌≡◌, ◌∙◌, ◌≤◌, ◌+◌, ◌-◌, ℕ, List, Option, None, Some, length, sym, ap, subst, arith}
use Rattle.std.specs.Prelude.{slice_range}
use Rattle.std.specs.List.{concat}
use Rattle.std.proofs.lemmas.Bool.{le-ltb}
use Rattle.memchr.specs.Find.{FindsNeedle}
use Rattle.gq_dict.specs.Texts.{start_of}
use Rattle.gq_filter.proofs.Searching.{IsSearched, all_searched, hit_marked, hit_passed, none_left, none_searched, start_within}
use Rattle.gq_filter.proofs.found.found_marks.Goals as goal
use Rattle.gq_filter.proofs.found.found_marks.Goals.{then-needle-start, else-needle-start}

-- what is found in the part of the bytes that is searched
part_of : (d : List (List ℕ)) (high : ℕ) (bytes part : List ℕ) (from end : ℕ) (found : Option ℕ) → bytes ≡ concat d → end ≡ start_of d high
    → FindsNeedle (slice_range bytes from end) part 0 found → FindsNeedle (slice_range (concat d) from (start_of d high)) part 0 found
part_of d high bytes part from end found all to is =
    subst (λ e. FindsNeedle (slice_range (concat d) from e) part 0 found) to (subst (λ bs. FindsNeedle (slice_range bs from end) part 0 found) all is)

pub loop-from-init : goal.loop-from-init
loop-from-init c =
    let d = c.args.dict.now in
    let part = c.args.part.now in
    subst (λ from. IsSearched d part c.args.low c.args.high c.args.low from c.first-marks.result) (sym c.start-from.ensures)
    (none_searched d part c.args.low c.args.high c.first-marks.result c.requires.ordered c.first-marks.ensures.whole (λ k. c.first-marks.ensures.below k ∙ le-ltb k 0 (omega arith)))

pub slice_bounds-find-end : goal.slice_bounds-find-end
slice_bounds-find-end c =
    let d = c.args.dict.now in
    subst (λ end. end ≤ length c.bytes-bytes.result.now) (sym c.start-end.ensures)
    (subst (λ bytes. start_of d c.args.high ≤ length bytes) (sym c.bytes-bytes.ensures) (start_within d c.args.high))

pub returns-in_default : goal.returns-in_default
returns-in_default c =
    let d = c.args.dict.now in
    let part = c.args.part.now in
    let s = c.loop-from in
    all_searched d part c.args.low c.args.high c.requires.inside c.requires.part s.code s.from s.marks s.invariant
    (part_of d c.args.high c.bytes-bytes.result.now part s.from c.start-end.result None c.bytes-bytes.ensures c.start-end.ensures c.in_default.ensures)

pub loop-from-preserved : goal.loop-from-preserved
loop-from-preserved c =
    let d = c.args.dict.now in
    let part = c.args.part.now in
    let s = c.loop-from in
    let at = c.code_at-code.result in
    let found = part_of d c.args.high c.bytes-bytes.result.now part s.from c.start-end.result (Some c.in-Some.place) c.bytes-bytes.ensures c.start-end.ensures c.in-Some.ensures in
    subst (λ from. IsSearched d part c.args.low c.args.high (at + 1) from c.if-needle-start.marks) (sym c.start-from-in-loop-from.ensures)
    (elim c.if-needle-start.branch [
      | then-needle-start w ↦
          (let fits : length part ≤ start_of d (at + 1) - (s.from + c.in-Some.place) = omega (arith, w.if-needle-start.true, ap length c.needle.ensures, c.start.ensures) in
          subst (IsSearched d part c.args.low c.args.high (at + 1) (start_of d (at + 1))) (sym w.marks-is)
          (hit_marked d part c.args.low c.args.high c.requires.inside c.requires.part s.code s.from s.marks s.invariant c.in-Some.place found at
          c.code_at-code.ensures.from c.code_at-code.ensures.high c.code_at-code.ensures.begins c.code_at-code.ensures.ends
          w.set.new.self c.requires.few fits w.set.ensures.written w.set.ensures.whole))
      | else-needle-start w ↦
          subst (IsSearched d part c.args.low c.args.high (at + 1) (start_of d (at + 1))) (sym w.marks-is)
          (hit_passed d part c.args.low c.args.high c.requires.inside c.requires.part s.code s.from s.marks s.invariant c.in-Some.place found at
          c.code_at-code.ensures.from c.code_at-code.ensures.high c.code_at-code.ensures.begins c.code_at-code.ensures.ends
          (λ fits. omega (arith, fits, w.if-needle-start.false, ap length c.needle.ensures, c.start.ensures)))
    ])

pub returns : goal.returns
returns c =
    let d = c.args.dict.now in
    let part = c.args.part.now in
    let s = c.loop-from in
    none_left d part c.args.low c.args.high c.requires.inside c.requires.part s.code s.from s.marks s.invariant
    (λ less. omega (arith, less, c.loop-from-test.false, c.start-end.ensures))
