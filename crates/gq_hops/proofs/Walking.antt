-- What is known where a walker stands at a walk.
use Rattle.std.proofs.Common.{◌≡◌, ◌≤◌, ◌∙◌, true, List, [], length, take, sym, ap, arith}
use Rattle.std.proofs.lemmas.List.{append-nil, length-map, length-take}
use Rattle.gq_base.specs.declared.RelId.{RelId}
use Rattle.gq_hops.specs.States.{is_standing}
use Rattle.gq_hops.specs.Walking.{Walking}
use Rattle.gq_hops.specs.steps.Inner.{IsAt, IsReady, IsSought, walking_of}
use Rattle.gq_hops.specs.steps.Hops.{rel_of}
use Rattle.gq_hops.specs.steps.Searches.{Run, rels_in, run_of}
use Rattle.gq_hops.specs.declared.search.Search.{Search}
use Rattle.gq_hops.specs.declared.state.State.{State}
use Rattle.gq_hops.specs.declared.state.State.TheVariants.{Fresh, Standing, Over}
use Rattle.gq_hops.specs.declared.walker.Walker.TheInside.{Inside}
use Rattle.gq_hops.proofs.Owing.{onto_is}

stands : (st : State) (c : Run) (s : Search) → IsSought st c s → is_standing st ≡ true → IsAt c s
stands Fresh c s h e = absurd (cc e)
stands Standing c s h e = h
stands Over c s h e = absurd (cc e)

module _ (w : Inside) (m : Walking) (view : walking_of w ≡ m) (ready : IsReady w) (standing : m.standing ≡ true) where
  pub at_walk : IsAt (run_of w.run) w.search
  at_walk = stands w.state (run_of w.run) w.search ready.sought (ap (λ (n : Walking). n.standing) view ∙ standing)

  abbrev rels : List RelId
  rels = rels_in (run_of w.run) w.search

  inside : w.search.depth ≤ length rels
  inside =
      let many = length-map w.search.mets.items (rel_of w.run.follow.graph.now w.run.follow.way) in
      omega (arith, at_walk.open_at.depth, at_walk.open_at.high, at_walk.open_at.room.mets, many)

  pub rels_are : take w.search.depth (rels_in (run_of w.run) w.search) ≡ m.rels
  rels_are = sym (append-nil (take w.search.depth rels)) ∙ sym (onto_is rels w.search.depth inside []) ∙ ap (λ (n : Walking). n.rels) view

  pub count_is : length m.rels ≡ w.search.depth
  count_is = omega (arith, length-take w.search.depth rels, ap length rels_are, inside)
