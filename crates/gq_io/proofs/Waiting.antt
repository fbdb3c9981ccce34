-- Texts put into a batch one after another.
use Rattle.std.proofs.Common.{ℕ, List, [], ◌++◌, refl, sym, ap, ◌∙◌, append_assoc, append-nil, subst, Result, Ok, Err}
use Rattle.std.specs.declared.option.Option.{Option}
use Rattle.std.specs.Io.KnownBytes.{Appends}
use Rattle.gq_io.specs.Outside.{AppendsFront, Writes}
use Rattle.gq_io.specs.Putting.{Put, Puts, Flushes}
use Rattle.gq_io.proofs.Moved.{Appends-both, Appends-none, front_after, front_longer}

-- a text that only waits
pub put-kept : (a : Option (List ℕ)) (waited text : List ℕ) → Put a a waited (waited ++ text) text
put-kept a waited text = record { moved = []; took = Appends-none a; whole = refl }

-- one text, and then another
pub put-both : (a b c : Option (List ℕ)) (u v w x y : List ℕ) → Put a b u v x → Put b c v w y → Put a c u w (x ++ y)
put-both a b c u v w x y p q = record {
  moved = p.moved ++ q.moved;
  took = Appends-both a b c p.moved q.moved p.took q.took;
  whole = sym (append_assoc u x y) ∙ ap (λ l. l ++ y) p.whole ∙ append_assoc p.moved v y ∙ ap (λ l. p.moved ++ l) q.whole ∙ sym (append_assoc p.moved q.moved w);
}

-- one text, and then a failure
pub put-broke : (a b c : Option (List ℕ)) (u v x y : List ℕ) → Put a b u v x → AppendsFront b c (v ++ y) → AppendsFront a c (u ++ (x ++ y))
put-broke a b c u v x y p q =
    subst (AppendsFront a c) (sym (sym (append_assoc u x y) ∙ ap (λ l. l ++ y) p.whole ∙ append_assoc p.moved v y)) (front_after a b c p.moved (v ++ y) p.took q)

-- one text, and then another that was put or broke off
pub put-puts : {T E : Type 0} (a b c : Option (List ℕ)) (u v w x y : List ℕ) (r : Result T E) → Put a b u v x → Puts b c v w y r → Puts a c u w (x ++ y) r
put-puts a b c u v w x y (Ok _) p q = put-both a b c u v w x y p q
put-puts a b c u v w x y (Err _) p q = put-broke a b c u v x y p q

-- the first of two texts broke off
pub broke-first : (a b : Option (List ℕ)) (u x y : List ℕ) → AppendsFront a b (u ++ x) → AppendsFront a b (u ++ (x ++ y))
broke-first a b u x y p = subst (AppendsFront a b) (append_assoc u x y) (front_longer a b (u ++ x) y p)

-- what had waited was taken
pub flushed : (a b : Option (List ℕ)) (u : List ℕ) → Appends a b u → Put a b u [] []
flushed a b u p = record { moved = u; took = p; whole = refl }

-- what had waited was taken, and then a text
pub flushed-text : (a b c : Option (List ℕ)) (u text : List ℕ) → Appends a b u → Appends b c text → Put a c u [] text
flushed-text a b c u text p q = record { moved = u ++ text; took = Appends-both a b c u text p q; whole = sym (append-nil _) }

-- what had waited was taken, and then a text was written or broke off
pub flushed-writes : {T E : Type 0} (a b c : Option (List ℕ)) (u text : List ℕ) (r : Result T E) → Appends a b u → Writes b c text r → Puts a c u [] text r
flushed-writes a b c u text (Ok _) p q = flushed-text a b c u text p q
flushed-writes a b c u text (Err _) p q = front_after a b c u text p q

-- what was put is what was taken, where nothing had waited and nothing waits
pub whole-text : (a b : Option (List ℕ)) (text : List ℕ) → Put a b [] [] text → Appends a b text
whole-text a b text p = subst (Appends a b) (sym (p.whole ∙ append-nil p.moved)) p.took

-- all that was put into an empty batch was flushed, or broke off
pub put-flushes : {T E : Type 0} (a b c : Option (List ℕ)) (v w text : List ℕ) (r : Result T E) → Put a b [] v text → Flushes b c v w r → Writes a c text r
put-flushes a b c v w text (Ok _) p q = subst (Appends a c) (sym p.whole) (Appends-both a b c p.moved v p.took q.0)
put-flushes a b c v w text (Err _) p q = subst (AppendsFront a c) (sym p.whole) (front_after a b c p.moved v p.took q)
