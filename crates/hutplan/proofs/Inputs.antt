-- What is read: pieces, one after the other, make up one text.
use mathlib.Core.Path.{◌≡◌, sym, ap, ◌∙◌}
use mathlib.Core.List.{List, [], ◌++◌}
use Prim.Native.Nat.{ℕ, ◌≤◌}
use native.Mathlib.Omega.{arith}
use lib.ListN.{length}
use lib.Seq.{length-take-le}
use Rattle.io.specs.Counts.{IsPrefixLen}
use Rattle.demands.specs.Text.{most_lines}
use Rattle.demands.specs.Reading.{HeldReading, held_reading, with, empty_line, fed, finished, held_count}
use Rattle.demands.proofs.Promises.{fed-append, text_whole}
use Rattle.hutplan.specs.Input.{FedPiece, ReadText}

-- No piece, and one more.
pub fed_none : {h g : HeldReading} → h ≡ g → FedPiece g h
unfolding fed
fed_none e = record { piece = []; is = e }

pub fed_more : {a b c : HeldReading} (piece : List ℕ) → FedPiece a b → c ≡ fed b piece → FedPiece a c
fed_more {a} piece p e =
    record {
      piece = p.piece ++ piece;
      is = e ∙ ap (λ (h : HeldReading). fed h piece) p.is ∙ sym (fed-append a p.piece piece);
    }

-- At the end the front of the list has the text's demands.
pub read-text : (before after : List ℕ) {h : HeldReading} {count : ℕ} → most_lines ≤ length before
    → FedPiece (held_reading (with 0 empty_line) before) h
    → after ≡ (finished h).list → count ≡ held_count (finished h) → ReadText after count × IsPrefixLen count after
read-text before after {h} {count} long p l e =
    let text = p.piece in
    let read = ap finished p.is in
    let list = l ∙ ap (λ (g : HeldReading). g.list) read in
    let counted = e ∙ ap held_count read in
    let within : count ≤ length after = rw l (omega arith) in (
      record { text = text; is = rw (list, counted) (text_whole before text long) },
      (within, sym (length-take-le count after within)),
    )
