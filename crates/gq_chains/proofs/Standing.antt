-- Sixty-four places that stand before a step of a chain.
use Rattle.std.proofs.Common.{◌≡◌, inl, inr, ℕ, ◌+◌, ◌<◌, ◌≤◌, ◌&&◌, Bool, true, false, Some, None, List, All, length, refl, sym, ap, ◌∙◌, subst, true≢false, arith}
use Rattle.std.specs.Prelude.{MatchBool, option_map, slice_get}
use Rattle.std.proofs.lemmas.Option.{get_or_from_slice_get, slice_get_within}
use Rattle.gq_base.specs.declared.RelTable.{RelTable}
use Rattle.gq_bits.specs.Places.{is_marked}
use Rattle.gq_plan.specs.Soundness.{EndsFit, IsPair}
use Rattle.gq_plan.specs.declared.assignment.Assignment.{Assignment}
use Rattle.gq_plan.specs.declared.follow.Follow.{Follow}
use Rattle.gq_chains.specs.declared.chain.Beginning.TheVariants as begin
use Rattle.gq_chains.specs.steps.Blocks.{IsWalked, place_row}
use Rattle.gq_chains.specs.steps.Chains.{Begins, HasBegun}
use Rattle.gq_chains.specs.steps.Ends.{HasEnds, HasPair, ends_differ, source_of, target_of}
use Rattle.gq_chains.specs.steps.Extends.{Extends}
use Rattle.gq_chains.proofs.Extending.{extends_as}
use Rattle.gq_chains.proofs.Reached.{IsReached, all_reached, apart_kept, apart_missed, begun, column_past, column_reached, follows_no_pair, not_begun, tests_no_pair}
use Rattle.gq_chains.proofs.Walking.{walked_as, walked_then}
use Rattle.gq_steps.specs.Keeps.{IsRange, makes_one}
use Rattle.gq_steps.specs.Levels.{Run, known, step_at}
use Rattle.gq_steps.specs.Moves.{IsHeld, IsRun}
use Rattle.gq_steps.specs.Reaching.{Reaches}
use Rattle.gq_steps.specs.Tests.{GoesOn, IsEndsTest, follow_of, pair_of, test_of}
use Rattle.gq_steps.specs.declared.group_steps.GroupSteps.{GroupSteps}
use Rattle.gq_steps.proofs.Followed.{get_some}

-- the steps before one make something of a place that is marked, and nothing of one that was
abbrev pub Stands : Run → GroupSteps → ℕ → Assignment → ℕ → ℕ → Assignment → Bool → Assignment → Type 0
Stands c group base row d j old told new = MatchBool told (IsReached c group (base + j) row d new) (makes_one c group (base + j) row ≡ false)

pub record IsStanding (c : Run) (group : GroupSteps) (base offset : ℕ) (row : Assignment) (d : ℕ) (rows : List ℕ) (marks new : List Bool) : Type 0 where
  pub start : List ℕ
  pub spread : (j : ℕ) → j < 64 → place_row row start j ≡ row
  pub walked : IsWalked (Stands c group base row d) row offset 64 start rows marks new

all_at : {X : Type 0} (P : X → Type 0) (xs : List X) → All P xs → (i : ℕ) (x : X) → slice_get xs i ≡ Some x → P x
all_at P xs h i x e = subst P (get_or_from_slice_get xs i x x e) (h i x (slice_get_within xs i x e))

module _ (c : Run) (run : IsRun c) (row : Assignment) (many : length row.nodes ≡ length c.typed.nodes) where
  sound_ends : (x : ℕ) → x < length c.typed.rels → HasEnds c.typed row x
  sound_ends x low =
      let r = get_some c.typed.rels x low in
      let fit : EndsFit c.graph.catalog c.typed r.0 = all_at (EndsFit c.graph.catalog c.typed) c.typed.rels run.sound.ends x r.0 r.1 in
      let k = get_some c.graph.catalog.rels r.0.table fit.table in
      let source : r.0.source < length c.typed.nodes = slice_get_within c.typed.nodes r.0.source k.0.from (fit.source ∙ ap (option_map (λ (t : RelTable). t.from)) k.1) in
      let target : r.0.target < length c.typed.nodes = slice_get_within c.typed.nodes r.0.target k.0.to (fit.target ∙ ap (option_map (λ (t : RelTable). t.to)) k.1) in
      record {
        rel = low;
        source = subst (λ n. n < length row.nodes) (sym (ap source_of r.1)) (omega (arith, source, many));
        target = subst (λ n. n < length row.nodes) (sym (ap target_of r.1)) (omega (arith, target, many));
      }

  pub pair_there : (first d : ℕ) → GoesOn c first d → (p : ℕ) → pair_of (step_at c d) ≡ Some p → HasPair c.typed row p
  pair_there first d (inl f) p is = absurd (follows_no_pair (step_at c d) f.0 p f.1 is)
  pair_there first d (inr (inl test)) p is = absurd (tests_no_pair (step_at c d) test.test p test.is is)
  pair_there first d (inr (inr test)) p is =
      let same : test.number ≡ p = cc (test.is, is) in
      let two : IsPair c.typed test.pair = all_at (IsPair c.typed) c.typed.pairs run.sound.pairs test.number test.pair test.there in
      let ascends = two.ascends in
      let within = two.within in
      subst (HasPair c.typed row) same
      (record { pair = test.pair; there = test.there; ends = record { one = sound_ends test.pair.first (omega (arith, ascends, within)); other = sound_ends test.pair.second within } })

module _ (c : Run) (run : IsRun c) (group : GroupSteps) (range : IsRange c group) (base offset : ℕ) (row : Assignment) (held : IsHeld c row (known c group.first)) where
  stands_begun : (node : ℕ) → Begins c group.first (begin.Rows node) → (j : ℕ) (old : Assignment) → old ≡ row → (told : Bool) (new : Assignment) → HasBegun c (begin.Rows node) (base + j) old told new → Stands c group base row (group.first + 1) j old told new
  stands_begun node begins j old same true new h = begun c run group range (base + j) row held (begin.Rows node) begins true new (subst (λ o. HasBegun c (begin.Rows node) (base + j) o true new) same h) refl
  stands_begun node begins j old same false new h = sym (not_begun c run group range (base + j) row held (begin.Rows node) begins false new (subst (λ o. HasBegun c (begin.Rows node) (base + j) o false new) same h) refl).answer

  pub first_standing : (node : ℕ) → Begins c group.first (begin.Rows node) → (start rows : List ℕ) (marks new : List Bool) → ((j : ℕ) → j < 64 → place_row row start j ≡ row)
      → IsWalked (λ j old told now. HasBegun c (begin.Rows node) (base + j) old told now) row offset 64 start rows marks new → IsStanding c group base offset row (group.first + 1) rows marks new
  first_standing node begins start rows marks new spread w = record {
    start = start;
    spread = spread;
    walked = walked_as (λ j old told now. HasBegun c (begin.Rows node) (base + j) old told now) (Stands c group base row (group.first + 1)) row offset start rows marks new
        (λ j low h. stands_begun node begins j (place_row row start j) (spread j low) (is_marked new (offset + j)) (place_row row rows j) h) w;
  }

  -- what stands is reached where it is marked
  pub standing_reached : (d : ℕ) (rows : List ℕ) (marks new : List Bool) → IsStanding c group base offset row d rows marks new → (j : ℕ) → j < 64 → is_marked new (offset + j) ≡ true → IsReached c group (base + j) row d (place_row row rows j)
  standing_reached d rows marks new s j low on = go (is_marked marks (offset + j)) refl
    where
      go : (b : Bool) → is_marked marks (offset + j) ≡ b → IsReached c group (base + j) row d (place_row row rows j)
      go true was = subst (λ b. Stands c group base row d j (place_row row s.start j) b (place_row row rows j)) on (s.walked.told j low low was)
      go false was = absurd (true≢false (sym on ∙ s.walked.off j low was))

  module _ (d : ℕ) (above : group.first < d) (below : d < group.end) where
    stands_followed : (f : Follow) → Extends c d f → (j : ℕ) (old mid : Assignment) → IsReached c group (base + j) row d mid → (told : Bool) (new : Assignment) → Reaches c.graph c.typed f 0 mid told new → Stands c group base row (d + 1) j old told new
    stands_followed f ext j old mid r true new h = column_reached c run group range (base + j) row held d mid r above below f ext new h
    stands_followed f ext j old mid r false new h = sym (column_past c run group range (base + j) row held d mid r above below f ext new h).answer

    stands_apart : (test : IsEndsTest c group.first d) → (j : ℕ) (old mid : Assignment) → IsReached c group (base + j) row d mid → (told : Bool) (new : Assignment) → (new ≡ mid) × (told ≡ ends_differ c.typed mid test.number) → Stands c group base row (d + 1) j old told new
    stands_apart test j old mid r true new h = apart_kept c run group range (base + j) row held d mid r above below test h.1 new h.0
    stands_apart test j old mid r false new h = sym (apart_missed c run group range (base + j) row held d mid r above below test h.1 new h.0).answer

    module _ (rows new_rows : List ℕ) (marks mid new : List Bool) (s : IsStanding c group base offset row d rows marks mid) where
      abbrev Follows : Type 0
      Follows = (f : Follow) → follow_of (step_at c d) ≡ Some f → IsWalked (λ j old told now. Reaches c.graph c.typed f 0 old told now) row offset 64 rows new_rows mid new

      abbrev Pairs : Type 0
      Pairs = (p : ℕ) → pair_of (step_at c d) ≡ Some p → IsWalked (λ j old told now. (now ≡ old) × (told ≡ ends_differ c.typed old p)) row offset 64 rows new_rows mid new

      pub next_standing : GoesOn c group.first d → test_of (step_at c d) ≡ None → Follows → Pairs → IsStanding c group base offset row (d + 1) new_rows marks new
      next_standing (inl f) none follows pairs = record {
        start = s.start;
        spread = s.spread;
        walked = walked_then (Stands c group base row d) (λ j old told now. Reaches c.graph c.typed f.0 0 old told now) (Stands c group base row (d + 1)) row offset s.start rows new_rows marks mid new
            (λ j low r h. stands_followed f.0 (extends_as c d f.0 f.1) j (place_row row s.start j) (place_row row rows j) r (is_marked new (offset + j)) (place_row row new_rows j) h)
            (λ j low h. h) s.walked (follows f.0 f.1);
      }
      next_standing (inr (inl test)) none follows pairs = absurd (let no : None ≡ Some test.test = sym none ∙ test.is in cc no)
      next_standing (inr (inr test)) none follows pairs = record {
        start = s.start;
        spread = s.spread;
        walked = walked_then (Stands c group base row d) (λ j old told now. (now ≡ old) × (told ≡ ends_differ c.typed old test.number)) (Stands c group base row (d + 1)) row offset s.start rows new_rows marks mid new
            (λ j low r h. stands_apart test j (place_row row s.start j) (place_row row rows j) r (is_marked new (offset + j)) (place_row row new_rows j) h)
            (λ j low h. h) s.walked (pairs test.number test.is);
      }

  -- behind the last step
  pub standing_kept : (d : ℕ) (rows : List ℕ) (marks new : List Bool) → IsStanding c group base offset row d rows marks new → group.end ≤ d → (j : ℕ) → j < 64 → is_marked new (offset + j) ≡ (is_marked marks (offset + j) && makes_one c group (base + j) row)
  standing_kept d rows marks new s high j low = go (is_marked marks (offset + j)) refl
    where
      by : (b : Bool) → is_marked new (offset + j) ≡ b → Stands c group base row d j (place_row row s.start j) b (place_row row rows j) → is_marked new (offset + j) ≡ makes_one c group (base + j) row
      by true is r = is ∙ (all_reached c run group range (base + j) row held d (place_row row rows j) r high).answer
      by false is none = is ∙ sym none

      go : (b : Bool) → is_marked marks (offset + j) ≡ b → is_marked new (offset + j) ≡ (is_marked marks (offset + j) && makes_one c group (base + j) row)
      go true was = by (is_marked new (offset + j)) refl (s.walked.told j low low was) ∙ sym (ap (λ b. b && makes_one c group (base + j) row) was)
      go false was = s.walked.off j low was ∙ sym (ap (λ b. b && makes_one c group (base + j) row) was)
