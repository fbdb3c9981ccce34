-- A query that is bound can be answered.
use Rattle.std.proofs.Common.{ℕ, List}
use Rattle.gq_ast.specs.declared.Query.{Query}
use Rattle.gq_base.specs.Catalogs.{Tables}
use Rattle.gq_bound.specs.Binding.{IsBound}
use Rattle.gq_execute.specs.Ready.{IsReady}
use Rattle.gq_plan.specs.declared.Bound.{Bound}
use Rattle.gq_reply.proofs.Replying.{begun, nodes_fit, rels_fit, tests_begin, tests_sound}
use Rattle.gq_reply.proofs.Walkable.{trail_count, trail_ends, trail_lengths, trail_turns, trails_apart}

pub ready : (query : Query) (text : List ℕ) (catalog : Tables) (bound : Bound) → IsBound query text catalog bound → IsReady catalog bound
ready query text catalog bound is = record {
  sound = is.sound;
  begins = begun query text catalog bound is;
  tests_sound = tests_sound query text catalog bound is;
  tests_begin = tests_begin query text catalog bound is;
  placed = is.placed;
  nodes = nodes_fit query text catalog bound is;
  rels = rels_fit query text catalog bound is;
  trails = trail_lengths query text catalog bound is;
  ends = trail_ends query text catalog bound is;
  turns = trail_turns query text catalog bound is;
  few = trail_count query text catalog bound is;
  apart = trails_apart query text catalog bound is;
}
