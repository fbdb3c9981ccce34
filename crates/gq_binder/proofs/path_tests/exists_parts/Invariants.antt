use Rattle.std.proofs.Common.{◌≡◌, drop, take}
use Rattle.std.specs.Prelude.{filter_map}
use Rattle.gq_bound.specs.Refusals.{alternatives_in, over_limit, paths_of}
use Rattle.gq_bound.specs.declared.refusal.BindRefusal.TheVariants as refusal
use Rattle.gq_bound.specs.steps.Parts.{exists_part}
use Rattle.gq_binder.proofs.path_tests.exists_parts.Given as goal

abbrev pub invariant-loop-test : goal.invariant-loop-test
invariant-loop-test l = record {
  few : over_limit l.read.left (alternatives_in l.catalog (paths_of (drop l.test-index l.tests))) refusal.TooManyAlternatives
      ≡ over_limit l.most (alternatives_in l.catalog (paths_of l.tests)) refusal.TooManyAlternatives;
  parts : l.read.parts ≡ filter_map (exists_part l.text l.catalog) (take l.test-index l.tests);
}
