-- What is read of the file and of standard input.
--
-- The kit's contract of a read bounds the count of bytes and has no model of the file or the stream: it says neither which
-- bytes were read nor whether more follow. So nothing can be said here of the bytes of the file, and of standard input only
-- that the demands in the list are those of some text; that the file is `room.bin`, and that both are read as far as they
-- go, is seen in `main.rt`.
use Rattle.std.specs.Prelude.{◌≡◌, List, ℕ, take}
use Rattle.demands.specs.Text.{demands_of}
use Rattle.demands.specs.Reading.{HeldReading, fed}

-- The most bytes of the file that are read.
abbrev pub most_bytes : ℕ
most_bytes = 32768

-- A reading after one more piece of the text, which may be empty.
pub record FedPiece (before after : HeldReading) : Type 0 where
  pub piece : List ℕ
  pub is : after ≡ fed before piece

-- A text was read: its demands are the first words of the list, so many.
pub record ReadText (list : List ℕ) (count : ℕ) : Type 0 where
  pub text : List ℕ
  pub is : take count list ≡ demands_of text
