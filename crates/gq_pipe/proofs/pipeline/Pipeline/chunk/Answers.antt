use Rattle.std.proofs.Common.{◌≡◌, ◌∙◌, true, map, refl, sym, subst}
use Rattle.std.specs.List.{AllZip}
use Rattle.gq_group.specs.Chunks.{IsChunkOf, chunk_meaning}
use Rattle.gq_plan.specs.Meaning.{nothing, whole}
use Rattle.gq_plan.specs.Rows.{assigned}
use Rattle.gq_pipe.specs.Bound.{binds_all}
use Rattle.gq_pipe.specs.Keys.{makers_in}
use Rattle.gq_steps.specs.Given.{given}
use Rattle.gq_pipe.specs.Progress.{plan_in}
use Rattle.gq_pipe.specs.Rest.{Rest}
use Rattle.gq_pipe.specs.Serving.{Serves}
use Rattle.gq_pipe.specs.Shown.{HasShape, IsPieceIn}
use Rattle.gq_pipe.proofs.Chunked.{chunk_is, binds_is, pieces_are, shape_is, whole_is}
use Rattle.gq_pipe.proofs.pipeline.Pipeline.chunk.Goals as goal

pub chunk_of-requires : goal.chunk_of-requires
chunk_of-requires c =
    (chunk_is c.self.inside c.self.invariant
    (subst (λ (r : Rest). r.standing ≡ true) (sym c.self.view_is) c.requires.standing)
    _ c.as_slice-groups.ensures.value refl c.as_slice.ensures
    (subst (λ (r : Rest). Serves r c.args.pool.now) (sym c.self.view_is) c.requires.serves)).chunk

pub returns-clause-chunk : goal.returns-clause-chunk
returns-clause-chunk c =
    subst (λ (r : Rest). IsChunkOf r.source.graph r.source.typed c.chunk_of.result) c.self.view_is
    (chunk_is c.self.inside c.self.invariant
    (subst (λ (r : Rest). r.standing ≡ true) (sym c.self.view_is) c.requires.standing)
    c.chunk_of.result (c.chunk_of.ensures.groups ∙ c.as_slice-groups.ensures.value) c.chunk_of.ensures.homes (c.chunk_of.ensures.slots ∙ c.as_slice.ensures)
    (subst (λ (r : Rest). Serves r c.chunk_of.result.pool.now) (sym c.self.view_is) (subst (Serves c.args.self.now) (sym c.chunk_of.ensures.pool) c.requires.serves)))

pub returns-clause-binds : goal.returns-clause-binds
returns-clause-binds c =
    subst (λ (r : Rest). map (λ row. given r.source.typed row (plan_in r.source) nothing) (chunk_meaning r.source.graph r.source.typed c.chunk_of.result) ≡ r.chunk) c.self.view_is
    (binds_is c.self.inside c.self.invariant
    (subst (λ (r : Rest). r.standing ≡ true) (sym c.self.view_is) c.requires.standing)
    c.chunk_of.result (c.chunk_of.ensures.groups ∙ c.as_slice-groups.ensures.value) c.chunk_of.ensures.homes (c.chunk_of.ensures.slots ∙ c.as_slice.ensures)
    (subst (λ (r : Rest). Serves r c.chunk_of.result.pool.now) (sym c.self.view_is) (subst (Serves c.args.self.now) (sym c.chunk_of.ensures.pool) c.requires.serves)))

pub returns-clause-whole : goal.returns-clause-whole
returns-clause-whole c =
    subst (λ (r : Rest). binds_all r.source.typed (plan_in r.source) ≡ true → map (assigned r.source.typed) (chunk_meaning r.source.graph r.source.typed c.chunk_of.result) ≡ map (whole r.source.typed) r.chunk) c.self.view_is
    (whole_is c.self.inside c.self.invariant
    (subst (λ (r : Rest). r.standing ≡ true) (sym c.self.view_is) c.requires.standing)
    c.chunk_of.result (c.chunk_of.ensures.groups ∙ c.as_slice-groups.ensures.value) c.chunk_of.ensures.homes (c.chunk_of.ensures.slots ∙ c.as_slice.ensures)
    (subst (λ (r : Rest). Serves r c.chunk_of.result.pool.now) (sym c.self.view_is) (subst (Serves c.args.self.now) (sym c.chunk_of.ensures.pool) c.requires.serves)))

pub returns-clause-shape : goal.returns-clause-shape
returns-clause-shape c =
    subst (λ (r : Rest). HasShape r.source.typed (plan_in r.source) c.chunk_of.result.groups.now) c.self.view_is
    (shape_is c.self.inside c.self.invariant
    (subst (λ (r : Rest). r.standing ≡ true) (sym c.self.view_is) c.requires.standing)
    c.chunk_of.result (c.chunk_of.ensures.groups ∙ c.as_slice-groups.ensures.value) c.chunk_of.ensures.homes (c.chunk_of.ensures.slots ∙ c.as_slice.ensures)
    (subst (λ (r : Rest). Serves r c.chunk_of.result.pool.now) (sym c.self.view_is) (subst (Serves c.args.self.now) (sym c.chunk_of.ensures.pool) c.requires.serves)))

pub returns-clause-pieces : goal.returns-clause-pieces
returns-clause-pieces c =
    subst (λ (r : Rest). AllZip (IsPieceIn r.source (chunk_meaning r.source.graph r.source.typed c.chunk_of.result)) c.chunk_of.result.groups.now (makers_in r.source)) c.self.view_is
    (pieces_are c.self.inside c.self.invariant
    (subst (λ (r : Rest). r.standing ≡ true) (sym c.self.view_is) c.requires.standing)
    c.chunk_of.result (c.chunk_of.ensures.groups ∙ c.as_slice-groups.ensures.value) c.chunk_of.ensures.homes (c.chunk_of.ensures.slots ∙ c.as_slice.ensures)
    (subst (λ (r : Rest). Serves r c.chunk_of.result.pool.now) (sym c.self.view_is) (subst (Serves c.args.self.now) (sym c.chunk_of.ensures.pool) c.requires.serves)))
