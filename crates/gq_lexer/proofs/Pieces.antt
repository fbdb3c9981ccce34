-- A run is its first piece and the run behind it.
use Rattle.std.proofs.Common.{◌≡◌, ℕ, zero, suc, ◌+◌, ◌-◌, ◌<◌, List, [], ◌∷◌, ◌++◌, drop, refl, sym, ap, ◌∙◌, append_assoc, append-nil, arith, Some, None}
use Rattle.std.specs.Str.{encode_utf8_all}
use Rattle.std.specs.Char.{encode_utf8}
use Rattle.std.proofs.lemmas.List.{drop-drop}
use Rattle.gq_lexer.specs.declared.run.RunForm.{RunForm}
use Rattle.gq_lexer.specs.declared.run.Piece.{Piece}
use Rattle.gq_lexer.specs.Runs.{goes_on, longer, piece, run, run_behind}

skipped : (f : RunForm) (left : ℕ) (cs : List ℕ) → run_behind f left cs ≡ run_behind f 0 (drop left cs)
skipped f zero cs = refl
skipped f (suc left) [] = refl
skipped f (suc left) (c ∷ cs) = skipped f left cs

pub drop_one : (size c : ℕ) (cs : List ℕ) → 0 < size → drop (size - 1) cs ≡ drop size (c ∷ cs)
drop_one zero c cs h = absurd (omega arith)
drop_one (suc size) c cs h = ap (λ n. drop n cs) (omega arith)

-- where a piece stands, the run is that piece and the run behind it
pub run_more : (f : RunForm) (cs : List ℕ) (p : Piece) → Some p ≡ piece f cs → 0 < p.size → run f cs ≡ longer p (run f (drop p.size cs))
unfolding run
run_more f [] p is h = cc
run_more f (c ∷ cs) p is h =
    ap (λ o. goes_on o (λ q. run_behind f (q.size - 1) cs)) (sym is) ∙ ap (longer p) (skipped f (p.size - 1) cs ∙ ap (run_behind f 0) (drop_one p.size c cs h))

-- and where none stands, it is empty
pub run_ends : (f : RunForm) (cs : List ℕ) → None ≡ piece f cs → run f cs ≡ record { values = []; size = 0 }
unfolding run
run_ends f [] is = refl
run_ends f (c ∷ cs) is = ap (λ o. goes_on o (λ q. run_behind f (q.size - 1) cs)) (sym is)

behind : (f : RunForm) (rest front : List ℕ) (size : ℕ) (p : Piece) → front ≡ drop size rest → Some p ≡ piece f front → 0 < p.size → run f (drop size rest) ≡ longer p (run f (drop (size + p.size) rest))
behind f rest front size p e is h =
    ap (run f) (sym e) ∙ run_more f front p is h ∙ ap (λ cs. longer p (run f cs)) (ap (drop p.size) e ∙ drop-drop p.size size rest)

-- the size, where a piece was read behind the first `size` characters
pub size_next : (f : RunForm) (rest front : List ℕ) (size : ℕ) (p : Piece) → front ≡ drop size rest → Some p ≡ piece f front → 0 < p.size
    → (run f rest).size ≡ size + (run f (drop size rest)).size → (run f rest).size ≡ size + p.size + (run f (drop (size + p.size) rest)).size
size_next f rest front size p e is h so_far = so_far ∙ ap (λ r. size + r.size) (behind f rest front size p e is h) ∙ omega arith

-- and the text
pub text_next : (f : RunForm) (rest front : List ℕ) (size : ℕ) (p : Piece) (text new : List ℕ) → front ≡ drop size rest → Some p ≡ piece f front → 0 < p.size
    → encode_utf8_all (run f rest).values ≡ text ++ encode_utf8_all (run f (drop size rest)).values → new ≡ text ++ encode_utf8 p.value
    → encode_utf8_all (run f rest).values ≡ new ++ encode_utf8_all (run f (drop (size + p.size) rest)).values
text_next f rest front size p text new e is h so_far pushed =
    let more = encode_utf8_all (run f (drop (size + p.size) rest)).values in
    so_far ∙ ap (λ r. text ++ encode_utf8_all r.values) (behind f rest front size p e is h) ∙ sym (append_assoc text (encode_utf8 p.value) more) ∙ ap (λ l. l ++ more) (sym pushed)

-- where no piece was read, that was all
pub size_last : (f : RunForm) (rest front : List ℕ) (size : ℕ) → front ≡ drop size rest → None ≡ piece f front → (run f rest).size ≡ size + (run f (drop size rest)).size → size ≡ (run f rest).size
size_last f rest front size e is so_far = sym (so_far ∙ ap (λ r. size + r.size) (ap (run f) (sym e) ∙ run_ends f front is) ∙ omega arith)

pub text_last : (f : RunForm) (rest front : List ℕ) (size : ℕ) (text : List ℕ) → front ≡ drop size rest → None ≡ piece f front
    → encode_utf8_all (run f rest).values ≡ text ++ encode_utf8_all (run f (drop size rest)).values → text ≡ encode_utf8_all (run f rest).values
text_last f rest front size text e is so_far =
    sym (so_far ∙ ap (λ r. text ++ encode_utf8_all r.values) (ap (run f) (sym e) ∙ run_ends f front is) ∙ append-nil text)
