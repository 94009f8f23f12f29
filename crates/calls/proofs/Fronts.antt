-- An operation by way of lists of words: what is loaded from bytes, and that just what was written is stored.
use mathlib.Core.Path.{◌≡◌, refl, sym, ap, ◌∙◌}
use mathlib.Core.List.{List}
use Prim.Native.Nat.{ℕ, ◌/◌, min}
use native.Mathlib.Omega.{arith}
use lib.ListN.{length, take}
use lib.Seq.{sets, length-sets, length-take-le}
use Rattle.words.specs.Bytes.{words_of, bytes_of}
use Rattle.outcomes.specs.Outcome.{Outcome, accepted, refused, written, after}

-- What `load` took of some bytes.
pub loaded-length : (bytes words : List ℕ) {count : ℕ} {words' : List ℕ} → count ≡ min (length bytes / 4) (length words) → words' ≡ sets words 0 (words_of bytes)
    → count ≡ length (take count words')
loaded-length bytes words {count} {words'} n w = sym (length-take-le count words' (omega (arith, ap length w ∙ length-sets words 0 (words_of bytes))))

-- What an outcome writes, as bytes.
pub bytes_after : {A R : Type 0} (output : A → List ℕ) (o : Outcome A R) (bytes : List ℕ) → sets bytes 0 (bytes_of (written output o)) ≡ after (λ a. bytes_of (output a)) o bytes
unfolding bytes_of
bytes_after output (accepted result) bytes = refl
bytes_after output (refused refusal) bytes = refl
