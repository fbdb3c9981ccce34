-- Replies after replies.
use Rattle.std.proofs.Common.{◌≡◌, ℕ, List, [], ◌∷◌, ◌++◌, refl, sym, ap, ◌∙◌, append_assoc, append-nil, subst}
use Rattle.std.specs.declared.option.Option.{Option}
use Rattle.std.specs.Io.KnownBytes.{Appends}
use Rattle.gq_io.specs.Outside.{AppendsFront}
use Rattle.gq_io.proofs.Moved.{Appends-both, Appends-none, front_after}
use Rattle.gq_session.specs.Tones.{worse}
use Rattle.gq_session.specs.Replies.{Replies, Rule, Wrote, WroteFront}
use Rattle.gq_session.specs.declared.answering.Tone.{Tone}
use Rattle.gq_session.specs.declared.answering.Tone.TheVariants as tone

worse-good : (t : Tone) → t ≡ worse t tone.Good
worse-good tone.Good = refl
worse-good tone.Refused = refl
worse-good (tone.Memory why) = refl

worse_assoc : (a b c : Tone) → worse (worse a b) c ≡ worse a (worse b c)
worse_assoc tone.Good b c = refl
worse_assoc (tone.Memory why) b c = refl
worse_assoc tone.Refused tone.Good tone.Good = refl
worse_assoc tone.Refused tone.Good tone.Refused = refl
worse_assoc tone.Refused tone.Good (tone.Memory why) = refl
worse_assoc tone.Refused (tone.Memory why) c = refl
worse_assoc tone.Refused tone.Refused tone.Good = refl
worse_assoc tone.Refused tone.Refused tone.Refused = refl
worse_assoc tone.Refused tone.Refused (tone.Memory why) = refl

pub replies-append : {S : Type 0} (answers : Rule S) (before mid after : S) (xs ys : List (List ℕ)) (t u : Tone) (x y : List ℕ)
    → Replies answers before mid xs t x → Replies answers mid after ys u y → Replies answers before after (xs ++ ys) (worse t u) (x ++ y)
replies-append answers before mid after [] ys t u x y (p, q, same) r = rw (p, q) (subst (λ s. Replies answers s after ys u y) same r)
replies-append answers before mid after (s ∷ xs) ys t u x y (v, w, reply, more, next, is, rest, worst, whole) r = (
  v,
  worse w u,
  reply,
  more ++ y,
  next,
  is,
  replies-append answers next mid after xs ys w u more y rest r,
  ap (λ z. worse z u) worst ∙ worse_assoc v w u,
  ap (λ l. l ++ y) whole ∙ append_assoc reply more y,
)

pub replies-one : {S : Type 0} (answers : Rule S) (before after : S) (s : List ℕ) (t : Tone) (x : List ℕ) → answers before s t x after → Replies answers before after (s ∷ []) t x
replies-one answers before after s t x h = (t, tone.Good, x, [], after, h, (refl, refl, refl), worse-good t, sym (append-nil x))

pub wrote-none : {S : Type 0} (answers : Rule S) (before : S) (a : Option (List ℕ)) → Wrote answers before before [] tone.Good a a
wrote-none answers before a = record { text = []; replies = (refl, refl, refl); moved = Appends-none a }

pub wrote-one : {S : Type 0} (answers : Rule S) (before after : S) (s : List ℕ) (t : Tone) (a b : Option (List ℕ))
    → (text : List ℕ) × answers before s t text after × Appends a b text → Wrote answers before after (s ∷ []) t a b
wrote-one answers before after s t a b (text, h, moved) = record { text = text; replies = replies-one answers before after s t text h; moved = moved }

pub front-one : {S : Type 0} (answers : Rule S) (before : S) (s : List ℕ) (a b : Option (List ℕ))
    → (t : Tone) × (text : List ℕ) × (after : S) × answers before s t text after × AppendsFront a b text → WroteFront answers before (s ∷ []) a b
front-one answers before s a b (t, text, after, h, moved) =
    record { after = after; tone = t; text = text; replies = replies-one answers before after s t text h; moved = moved }

pub wrote-more : {S : Type 0} (answers : Rule S) (before mid after : S) (xs ys : List (List ℕ)) (t u : Tone) (a b c : Option (List ℕ))
    → Wrote answers before mid xs t a b → Wrote answers mid after ys u b c → Wrote answers before after (xs ++ ys) (worse t u) a c
wrote-more answers before mid after xs ys t u a b c p q = record {
  text = p.text ++ q.text;
  replies = replies-append answers before mid after xs ys t u p.text q.text p.replies q.replies;
  moved = Appends-both a b c p.text q.text p.moved q.moved;
}

pub front-more : {S : Type 0} (answers : Rule S) (before mid : S) (xs ys : List (List ℕ)) (t : Tone) (a b c : Option (List ℕ))
    → Wrote answers before mid xs t a b → WroteFront answers mid ys b c → WroteFront answers before (xs ++ ys) a c
front-more answers before mid xs ys t a b c p q = record {
  after = q.after;
  tone = worse t q.tone;
  text = p.text ++ q.text;
  replies = replies-append answers before mid q.after xs ys t q.tone p.text q.text p.replies q.replies;
  moved = front_after a b c p.text q.text p.moved q.moved;
}
