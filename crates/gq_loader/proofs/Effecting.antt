-- What the parts of a load do to the files, one after the other.
use Rattle.std.proofs.Common.{◌≡◌, ◌≢◌, ℕ, ◌+◌, ◌≤◌, List, Ok, Err, true, refl, subst, ◌∙◌, arith}
use Rattle.std.specs.Prelude.{OnOk}
use Rattle.std.specs.declared.option.Option.{Option}
use Rattle.std.specs.declared.result.Result.{Result}
use Rattle.std.specs.Io.KnownBytes.{Consumes}
use Rattle.std.proofs.lemmas.Option.{IfSome_then}
use Rattle.gq_io.specs.Causes.{Rose}
use Rattle.gq_io.specs.Outside.{Names, Selects}
use Rattle.gq_io.specs.Reading.{FailsByFault, ReadsWithin}
use Rattle.gq_io.specs.declared.reading.ReadFile.{ReadFile}
use Rattle.gq_io.specs.declared.reading.ReadStop.{ReadStop}
use Rattle.gq_io.specs.declared.reading.ReadStop.TheVariants as read_stop
use Rattle.gq_io.proofs.Counts.{Rose-later, Rose-since}
use Rattle.gq_loader.specs.Effects.{ByFault, ReadsFew, TookAtMost}
use Rattle.gq_loader.specs.steps.Effects.{Reads, Told}
use Rattle.gq_loader.specs.declared.refusal.LoadRefusal.{LoadRefusal}
use Rattle.gq_loader.specs.declared.refusal.LoadRefusal.TheVariants as refusal

-- a part that goes on had no fault
still_of : {T : Type 0} (P : Type 0) (r : Result T LoadRefusal)
    → (((n : List ℕ) → r ≢ Err (refusal.ReadFault n)) → P) → OnOk r P
still_of P (Ok value) kept = kept (λ n e. cc e)
still_of P (Err e) kept = tt

-- ---- one file

-- no file was touched
pub untouched : {T : Type 0} (most : ℕ) (at : Told) (r : Result T LoadRefusal) → r ≡ Err refusal.Memory
    → Reads most at at r
untouched most at r is = record {
  held = refl;
  still = still_of (at.faults ≡ at.faults) r (λ none. refl);
  faults = record { later = omega arith; kept = λ none. refl; failed = λ n e. cc (is, e) };
  misses = record { later = omega arith; missed = λ n e. cc (is, e) };
  few = λ n e. cc (is, e);
}

-- the choice of a file failed
pub choice_failed : {T : Type 0} (most : ℕ) (name : List ℕ) (old new : Told) → new.held ≡ old.held
    → old.faults ≤ new.faults → Rose old.faults new.faults → old.misses ≤ new.misses
    → Reads {T = T} most old new (Err (refusal.ReadFault name))
choice_failed most name old new held faults rose misses = record {
  held = held;
  still = tt;
  faults = record { later = faults; kept = λ other. absurd (other name refl); failed = λ n e. rose };
  misses = record { later = misses; missed = λ n e. cc e };
  few = λ n e. cc e;
}

-- there is no file of this name
pub not_there : {T : Type 0} (most : ℕ) (name : List ℕ) (old new : Told) → new.held ≡ old.held
    → new.faults ≡ old.faults → old.misses ≤ new.misses → Rose old.misses new.misses
    → Reads {T = T} most old new (Err (refusal.NoFile name))
not_there most name old new held same misses rose = record {
  held = held;
  still = tt;
  faults = record { later = omega (arith, same); kept = λ other. same; failed = λ n e. cc e };
  misses = record { later = misses; missed = λ n e. rose };
  few = λ n e. cc e;
}

-- a file was chosen and read
pub file_read : {T : Type 0} (most : ℕ) (name : List ℕ) (old mid new : Told)
    (read : Result ReadFile ReadStop) (r : Result T LoadRefusal)
    → mid.held ≡ old.held → mid.faults ≡ old.faults → old.misses ≤ mid.misses
    → Selects old.held name mid.left true
    → new.held ≡ mid.held → FailsByFault mid.faults new.faults read → mid.misses ≤ new.misses
    → ReadsWithin most mid.left new.left read
    → ((n : List ℕ) → r ≡ Err (refusal.ReadFault n) → read ≡ Err read_stop.Failed)
    → (read ≡ Err read_stop.Failed → (n : List ℕ) × (r ≡ Err (refusal.ReadFault n)))
    → ((n : List ℕ) → r ≢ Err (refusal.NoFile n))
    → ((n : List ℕ) → r ≡ Err (refusal.FileTooLong n) → name ≡ n) → Reads most old new r
file_read most name old mid new read r held still misses chosen
    same fails later within only fault other this = record {
      held = same ∙ held;
      still = still_of (new.faults ≡ old.faults) r
          (λ none. fails.kept (λ e. let (n, is) = fault e in none n is) ∙ still);
      faults = record {
        later = omega (arith, still, fails.later);
        kept = λ none. fails.kept (λ e. let (n, is) = fault e in none n is) ∙ still;
        failed = λ n e. Rose-since old.faults mid.faults new.faults still (fails.failed (only n e));
      };
      misses = record { later = omega arith; missed = λ n e. absurd (other n e) };
      few = λ n e. subst (λ m. TookAtMost old.held m new.left (most + 1)) (this n e) (record {
        there = IfSome_then old.held chosen (λ files is. is.0);
        eaten = within.eaten;
        few = within.few;
        took = IfSome_then old.held chosen
            (λ files is. subst (λ l. Consumes l new.left within.eaten) is.1 within.took);
      });
    }

-- ---- one part after another

-- a part is followed by another
pub then_reads : {S T : Type 0} (most : ℕ) (a b c : Told) (done : S) (r : Result T LoadRefusal)
    → Reads {T = S} most a b (Ok done) → Reads most b c r → Reads most a c r
then_reads most a b c done r p s = record {
  held = s.held ∙ p.held;
  still = still_of (c.faults ≡ a.faults) r (λ none. s.faults.kept none ∙ p.still);
  faults = record {
    later = omega (arith, p.faults.later, s.faults.later);
    kept = λ none. s.faults.kept none ∙ p.still;
    failed = λ n e. Rose-later _ _ _ p.faults.later (s.faults.failed n e);
  };
  misses = record {
    later = omega (arith, p.misses.later, s.misses.later);
    missed = λ n e. Rose-later _ _ _ p.misses.later (s.misses.missed n e);
  };
  few = λ n e. subst (λ h. TookAtMost h n c.left (most + 1)) p.held (s.few n e);
}

-- a part is followed by what reads no file
pub then_answers : {S T : Type 0} (most : ℕ) (a b : Told) (q : Result S LoadRefusal)
    (r : Result T LoadRefusal) → Reads most a b q
    → ((n : List ℕ) → q ≡ Err (refusal.ReadFault n) → r ≡ Err (refusal.ReadFault n))
    → ((n : List ℕ) → r ≡ Err (refusal.ReadFault n) → q ≡ Err (refusal.ReadFault n))
    → ((n : List ℕ) → r ≡ Err (refusal.NoFile n) → q ≡ Err (refusal.NoFile n))
    → ((n : List ℕ) → r ≡ Err (refusal.FileTooLong n) → q ≡ Err (refusal.FileTooLong n))
    → Reads most a b r
then_answers most a b q r p stops fault miss long = record {
  held = p.held;
  still = still_of (b.faults ≡ a.faults) r (λ none. p.faults.kept (λ n e. none n (stops n e)));
  faults = record {
    later = p.faults.later;
    kept = λ none. p.faults.kept (λ n e. none n (stops n e));
    failed = λ n e. p.faults.failed n (fault n e);
  };
  misses = record { later = p.misses.later; missed = λ n e. p.misses.missed n (miss n e) };
  few = λ n e. p.few n (long n e);
}

-- a part that reads less than it might
pub reads_less : {T : Type 0} (some most : ℕ) (a b : Told) (r : Result T LoadRefusal) → some ≤ most
    → Reads some a b r → Reads most a b r
reads_less some most a b r less p = record {
  held = p.held;
  still = p.still;
  faults = p.faults;
  misses = p.misses;
  few = λ n e. let k = p.few n e in record {
    there = k.there;
    eaten = k.eaten;
    few = omega (arith, k.few);
    took = k.took;
  };
}

-- what stopped a part stops the whole
pub stops_reads : {S T : Type 0} (most : ℕ) (a b : Told) (part : Result S LoadRefusal)
    (whole : Result T LoadRefusal) (why : LoadRefusal) → part ≡ Err why → whole ≡ Err why
    → Reads most a b part → Reads most a b whole
stops_reads most a b part whole why was is p = then_answers most a b part whole p
    (λ n e. cc (was, is, e)) (λ n e. cc (was, is, e)) (λ n e. cc (was, is, e))
    (λ n e. cc (was, is, e))

pub stops_few : {S T : Type 0} (held : Option Names) (left : Option (List ℕ)) (most : ℕ)
    (part : Result S LoadRefusal) (whole : Result T LoadRefusal) (why : LoadRefusal) → part ≡ Err why
    → whole ≡ Err why → ReadsFew held left most part → ReadsFew held left most whole
stops_few held left most part whole why was is few = λ n e. few n (cc (was, is, e))

pub stops_fault : {S T : Type 0} (before now : ℕ) (part : Result S LoadRefusal) (whole : Result T LoadRefusal)
    (why : LoadRefusal) → part ≡ Err why → whole ≡ Err why → ByFault before now part → ByFault before now whole
stops_fault before now part whole why was is fault = record {
  later = fault.later;
  kept = λ none. fault.kept (λ n e. none n (cc (was, is, e)));
  failed = λ n e. fault.failed n (cc (was, is, e));
}
