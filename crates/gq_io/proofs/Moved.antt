-- Told bytes over several reads and writes.
use Rattle.std.proofs.Common.{◌≡◌, ℕ, ◌+◌, List, [], ◌++◌, take, drop, None, Some, refl, sym, ap, ◌∙◌, append_assoc, append-nil}
use Rattle.std.specs.declared.option.Option.{Option}
use Rattle.std.specs.Io.KnownBytes.{Appends, Consumes, Keeps, IsAtEnd}
use Rattle.std.proofs.Math.Seq.{take-add}
use Rattle.std.proofs.lemmas.List.{take-append-drop}
use Rattle.gq_io.specs.Outside.{AppendsFront}

pub Keeps-same : (a : Option (List ℕ)) → Keeps a a
Keeps-same None = tt
Keeps-same (Some x) = refl

pub Keeps-both : (a b c : Option (List ℕ)) → Keeps a b → Keeps b c → Keeps a c
Keeps-both None b c p q = tt
Keeps-both (Some x) None c p q = absurd p
Keeps-both (Some x) (Some y) None p q = absurd q
Keeps-both (Some x) (Some y) (Some z) p q = q ∙ p

-- ---- what a sink took

pub Appends-none : (a : Option (List ℕ)) → Appends a a []
Appends-none None = tt
Appends-none (Some x) = sym (append-nil x)

pub Appends-both : (a b c : Option (List ℕ)) (x y : List ℕ) → Appends a b x → Appends b c y → Appends a c (x ++ y)
Appends-both None b c x y p q = tt
Appends-both (Some k) None c x y p q = absurd p
Appends-both (Some k) (Some l) None x y p q = absurd q
Appends-both (Some k) (Some l) (Some m) x y p q = q ∙ ap (λ z. z ++ y) p ∙ append_assoc k x y

pub Appends-kept : (a b c : Option (List ℕ)) (text : List ℕ) → Appends a b text → Keeps b c → Appends a c text
Appends-kept None b c text p q = tt
Appends-kept (Some x) None c text p q = absurd p
Appends-kept (Some x) (Some y) None text p q = absurd q
Appends-kept (Some x) (Some y) (Some z) text p q = q ∙ p

-- the first n bytes of a text, and then m more
pub Appends-more : (a b c : Option (List ℕ)) (text : List ℕ) (n m : ℕ) → Appends a b (take n text) → Appends b c (take m (drop n text)) → Appends a c (take (n + m) text)
Appends-more a b c text n m p q = rw (take-add n m text) (Appends-both a b c (take n text) (take m (drop n text)) p q)

-- the front of a text, by its first n bytes
pub front_of : (a b : Option (List ℕ)) (text : List ℕ) (n : ℕ) → Appends a b (take n text) → AppendsFront a b text
front_of a b text n p = record { front = take n text; rest = drop n text; whole = sym (take-append-drop n text); moved = p }

-- a whole text is a front of itself
pub front_whole : (a b : Option (List ℕ)) (text : List ℕ) → Appends a b text → AppendsFront a b text
front_whole a b text p = record { front = text; rest = []; whole = sym (append-nil text); moved = p }

-- nothing is a front of each text
pub front_none : (a : Option (List ℕ)) (text : List ℕ) → AppendsFront a a text
front_none a text = record { front = []; rest = text; whole = refl; moved = Appends-none a }

-- a text, and then the front of another
pub front_after : (a b c : Option (List ℕ)) (x y : List ℕ) → Appends a b x → AppendsFront b c y → AppendsFront a c (x ++ y)
front_after a b c x y p q = record {
  front = x ++ q.front;
  rest = q.rest;
  whole = ap (λ l. x ++ l) q.whole ∙ sym (append_assoc x q.front q.rest);
  moved = Appends-both a b c x q.front p q.moved;
}

-- the front of a text is the front of a longer one
pub front_longer : (a b : Option (List ℕ)) (x y : List ℕ) → AppendsFront a b x → AppendsFront a b (x ++ y)
front_longer a b x y p = record { front = p.front; rest = p.rest ++ y; whole = ap (λ l. l ++ y) p.whole ∙ append_assoc p.front p.rest y; moved = p.moved }

-- ---- what a source gave

pub Consumes-none : (a : Option (List ℕ)) → Consumes a a []
Consumes-none None = tt
Consumes-none (Some x) = refl

pub Consumes-both : (a b c : Option (List ℕ)) (x y : List ℕ) → Consumes a b x → Consumes b c y → Consumes a c (x ++ y)
Consumes-both None b c x y p q = tt
Consumes-both (Some k) None c x y p q = absurd p
Consumes-both (Some k) (Some l) None x y p q = absurd q
Consumes-both (Some k) (Some l) (Some m) x y p q = p ∙ ap (λ z. x ++ z) q ∙ sym (append_assoc x y m)

pub Consumes-kept : (a b c : Option (List ℕ)) (x : List ℕ) → Consumes a b x → Keeps b c → Consumes a c x
Consumes-kept None b c x p q = tt
Consumes-kept (Some k) None c x p q = absurd p
Consumes-kept (Some k) (Some l) None x p q = absurd q
Consumes-kept (Some k) (Some l) (Some m) x p q = p ∙ ap (λ z. x ++ z) (sym q)

-- what was consumed up to the end is all that there was
pub Consumes-whole : (all x : List ℕ) (b : Option (List ℕ)) → Consumes (Some all) b x → IsAtEnd b → all ≡ x
Consumes-whole all x None p q = absurd p
Consumes-whole all x (Some y) p q = p ∙ ap (λ z. x ++ z) q ∙ append-nil x
