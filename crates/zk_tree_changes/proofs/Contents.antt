-- The words of contents.
use Rattle.std.proofs.Common.{◌≡◌, ℕ, Bool, true, false, List, None, refl}
use Rattle.std.proofs.lemmas.Str.{IsUtf8-from_is_utf8, is_utf8-from_IsUtf8}
use Rattle.std.specs.Str.{IsUtf8, is_utf8}
use Rattle.zk_tree_changes.specs.Words.{content_word, word_of}

pub utf8_word : (bytes : List ℕ) → IsUtf8 bytes → content_word bytes ≡ word_of bytes
utf8_word bytes h = rw (is_utf8-from_IsUtf8 bytes h) refl

word_for : (bytes : List ℕ) (b : Bool) → is_utf8 bytes ≡ b → ¬ (IsUtf8 bytes) → content_word bytes ≡ None
word_for bytes true e h = absurd (h (IsUtf8-from_is_utf8 bytes e))
word_for bytes false e h = rw e refl

pub no_word : (bytes : List ℕ) → ¬ (IsUtf8 bytes) → content_word bytes ≡ None
no_word bytes h = word_for bytes (is_utf8 bytes) refl h
