use Rattle.std.proofs.Common.{ap, refl, true, false, ◌≡◌, ◌∙◌, List, [], inl, inr, sym, subst}
use Rattle.std.specs.Prelude.{◌≢◌}
use Rattle.clap.specs.Words.{App, Text, app_of, fault_of, is_simple, is_simple_and_free, matches_of}
use Rattle.clap.specs.declared.error.kind.ErrorKind.TheVariants.{OutOfMemory}
use Rattle.gq_arguments.specs.Command.{the_command}
use Rattle.gq_arguments.specs.Meaning.{Means}
use Rattle.gq_arguments.specs.Reading.{IsMisused, IsRead}
use Rattle.gq_arguments.specs.declared.meaning.Arguments.{Arguments}
use Rattle.gq_arguments.proofs.Parts.{some_fault}
use Rattle.gq_arguments.proofs.reading.read_arguments.Goals as goal

simple : (app : App) → app ≡ the_command → is_simple app ≡ true
simple app is = ap is_simple is ∙ refl

free : (app : App) → app ≡ the_command → is_simple_and_free app ≡ true
free app is = ap is_simple_and_free is ∙ refl

module _ (app : App) (words : List Text) (is : app ≡ the_command) where
  read_so : (read : Arguments) → fault_of app words ≡ [] → Means (matches_of app words) read → IsRead words read
  read_so read taken means = record {
    taken = subst (λ a. fault_of a words ≡ []) is taken;
    means = subst (λ a. Means (matches_of a words) read) is means;
  }

  no_meaning : ((read : Arguments) → ¬ (Means (matches_of app words) read)) → IsMisused words
  no_meaning none = inr (subst (λ a. (read : Arguments) → ¬ (Means (matches_of a words) read)) is none)

  no_matches : fault_of app words ≢ [] → IsMisused words
  no_matches some = inl (subst (λ a. fault_of a words ≢ []) is some)

pub returns-in-Some : goal.returns-in-Some
returns-in-Some c =
    let the = c.in-Ok.ensures in
    let e = c.in-Ok-try_get_matches_from.ensures in
    read_so (app_of c.in-Ok.command) _ the _ (e.kinds (free _ the)) (rw (e.matches (simple _ the)).0 at c.in-Some.ensures.some)

pub returns-in-Ok-try_get_matches_from : goal.returns-in-Ok-try_get_matches_from
returns-in-Ok-try_get_matches_from c =
    let the = c.in-Ok.ensures in
    let e = c.in-Ok-try_get_matches_from.ensures in
    no_meaning (app_of c.in-Ok.command) _ the (rw (e.matches (simple _ the)).0 at c.in-None.ensures.none)

pub returns : goal.returns
returns c =
    let the = c.in-Ok.ensures in
    no_matches (app_of c.in-Ok.command) _ the (some_fault _ _ (c.in-Err.ensures.kinds (free _ the))
    (λ memory. let kind : c.kind.result ≡ OutOfMemory = c.kind.ensures ∙ memory in let same : false ≡ true = sym c.if-eq.false ∙ rw kind at c.eq.ensures in cc same))
