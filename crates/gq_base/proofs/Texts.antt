-- Bytes that are a text, and bytes that are none.
use Rattle.std.proofs.Common.{◌≡◌, ℕ, Bool, true, false, List, Some, None, refl}
use Rattle.std.specs.Prelude.{if◌then◌else◌}
use Rattle.std.specs.Str.{IsUtf8, is_utf8}
use Rattle.std.proofs.lemmas.Str.{IsUtf8-from_is_utf8, is_utf8-from_IsUtf8}
use Rattle.gq_base.specs.Words.{text_of}

pub text_of-text : (bytes : List ℕ) → IsUtf8 bytes → text_of bytes ≡ Some bytes
text_of-text bytes h = rw (is_utf8-from_IsUtf8 bytes h) refl

not_utf8 : (bytes : List ℕ) (b : Bool) → is_utf8 bytes ≡ b → (IsUtf8 bytes → ⊥) → is_utf8 bytes ≡ false
not_utf8 bytes true e none = absurd (none (IsUtf8-from_is_utf8 bytes e))
not_utf8 bytes false e none = e

pub text_of-none : (bytes : List ℕ) → (IsUtf8 bytes → ⊥) → text_of bytes ≡ None
text_of-none bytes none = rw (not_utf8 bytes (is_utf8 bytes) refl none) refl

some_test : (b : Bool) (bytes text : List ℕ) → Some text ≡ (if b then Some bytes else None) → (text ≡ bytes) × (b ≡ true)
some_test true bytes text e = (cc e, refl)
some_test false bytes text e = cc e

-- a text that was read is the bytes
pub text_of-same : (bytes text : List ℕ) → Some text ≡ text_of bytes → text ≡ bytes
text_of-same bytes text e = (some_test (is_utf8 bytes) bytes text e).0
