-- What a reading promises: however a text is cut into pieces, the list gets the text's demands.
use mathlib.Core.Path.{◌≡◌, refl, sym, ap, ◌∙◌}
use mathlib.Core.Bool.{Bool, true, false, cond}
use mathlib.Core.List.{List, [], ◌∷◌, ◌++◌, map, append_assoc, append-nil}
use Prim.Native.Nat.{ℕ, ◌+◌, ◌<◌, ◌≤◌, min}
use native.Mathlib.Nat.{zero-add}
use native.Mathlib.Omega.{arith}
use borrow.Author.Tests.{leb-true, ltb-true, ltb-false}
use lib.Dec.{eqb, ltb}
use lib.ListN.{length, take, set, length-append, length-take}
use lib.Seq.{sets, length-sets, take-nil, take_all, take-take, take-length, take-append-le}
use Rattle.figures.proofs.Stores.{sets-append, sets-take, take-sets}
use Rattle.demands.specs.Text.{most_lines, newline, before, lines, demand_of, demands_of}
use Rattle.demands.specs.Reading.{HeldReading, held_reading, with, empty_line, extended, has_byte, line_demand, space, closed, fed_byte, fed, fed_pieces, finished, held_count}
use Rattle.demands.specs.Promises.{joined, ReadsDemands}
use Rattle.demands.specs.declared.DemandLine.{DemandLine}
use Rattle.demands.proofs.Bytes.{closed_stores, closed_full}
use Rattle.demands.proofs.Lines.{extended_by, extended_by_append, line_demand_whole, has_byte_some, before_all, before_all_ended, before_all_append, before_all_last}

-- ---- pieces

pub fed-append : (h : HeldReading) (s t : List ℕ) → fed h (s ++ t) ≡ fed (fed h s) t
unfolding fed
fed-append h [] t = refl
fed-append h (byte ∷ s) t = fed-append (fed_byte h byte) s t

-- Pieces that are read one after the other are the text that they make up.
pub fed_pieces-joined : (h : HeldReading) (pieces : List (List ℕ)) → fed_pieces h pieces ≡ fed h (joined pieces)
unfolding fed_pieces joined fed
fed_pieces-joined h [] = refl
fed_pieces-joined h (piece ∷ rest) = fed_pieces-joined (fed h piece) rest ∙ sym (fed-append h piece (joined rest))

-- ---- what has been read

-- The reading and its list, once lines of some demands have ended and a line is open; `most` go into the list.
abbrev standing : List ℕ → ℕ → List ℕ → DemandLine → HeldReading
standing list most demands line = held_reading (with (min (length demands) most) line) (sets list 0 (take most demands))

abbrev reached : List ℕ → List ℕ → DemandLine → HeldReading
reached list demands line = standing list (space list) demands line

-- A line that ends is one demand more.
closed_adds : (list demands : List ℕ) (line : DemandLine)
    → closed (reached list demands line) ≡ reached list (demands ++ (line_demand line ∷ [])) empty_line
closed_adds list demands line = go (ltb (length demands) (space list)) refl
  where
    d : ℕ
    d = line_demand line

    filled : List ℕ
    filled = sets list 0 (take (space list) demands)

    same : space filled ≡ space list
    same = rw (length-sets list 0 (take (space list) demands))

    go : (test : Bool) → ltb (length demands) (space list) ≡ test
        → closed (reached list demands line) ≡ reached list (demands ++ (d ∷ [])) empty_line
    go true e =
        let h : length demands < space list = ltb-true _ _ e in
        let count : min (length demands) (space list) ≡ length demands = omega arith in
        let more : min (length (demands ++ (d ∷ []))) (space list) ≡ length demands + 1 = omega (arith, length-append demands (d ∷ [])) in
        let all : take (space list) demands ≡ demands = take_all (space list) demands (omega arith) in
        let next : take (space list) (demands ++ (d ∷ [])) ≡ demands ++ (d ∷ []) =
        take_all (space list) (demands ++ (d ∷ [])) (omega (arith, length-append demands (d ∷ []))) in
        let stored : sets list 0 (demands ++ (d ∷ [])) ≡ set (sets list 0 demands) (length demands) d =
        rw zero-add at (sets-append list 0 demands (d ∷ [])) in
        closed_stores (with (min (length demands) (space list)) line) filled (omega (arith, same))
        ∙ rw (more, next, stored, all, count)
    go false e =
        let h : space list ≤ length demands = ltb-false _ _ e in
        let count : min (length demands) (space list) ≡ space list = omega arith in
        let more : min (length (demands ++ (d ∷ []))) (space list) ≡ space list = omega (arith, length-append demands (d ∷ [])) in
        closed_full (with (min (length demands) (space list)) line) filled (omega (arith, same))
        ∙ rw (more, count, take-append-le (space list) demands (d ∷ []) h)

-- The rest of a text, read to its end, where a line is open that has some bytes.
finished-fed : (list text demands line : List ℕ)
    → finished (fed (reached list demands (extended_by empty_line line)) text)
    ≡ reached list (demands ++ map demand_of (before_all line (lines text))) empty_line
unfolding fed finished lines extended_by before_all
finished-fed list [] demands [] = rw append-nil
finished-fed list [] demands (byte ∷ line) =
    rw (has_byte_some empty_line byte line, before_all_last byte line, ← line_demand_whole (byte ∷ line))
    (closed_adds list demands (extended_by empty_line (byte ∷ line)))
finished-fed list (byte ∷ text) demands line =
    go (eqb byte newline)
    (finished-fed list text (demands ++ (demand_of line ∷ [])) []) (finished-fed list text demands (line ++ (byte ∷ [])))
  where
    now : DemandLine
    now = extended_by empty_line line

    after : Bool → HeldReading
    after test = cond test (closed (reached list demands now)) (reached list demands (extended now byte))

    go : (test : Bool)
        → finished (fed (reached list (demands ++ (demand_of line ∷ [])) empty_line) text)
        ≡ reached list ((demands ++ (demand_of line ∷ [])) ++ map demand_of (lines text)) empty_line
        → finished (fed (reached list demands (extended_by empty_line (line ++ (byte ∷ [])))) text)
        ≡ reached list (demands ++ map demand_of (before_all (line ++ (byte ∷ [])) (lines text))) empty_line
        → finished (fed (after test) text)
        ≡ reached list (demands ++ map demand_of (before_all line (cond test ([] ∷ lines text) (before byte (lines text))))) empty_line
    go true ended further =
        rw (
          closed_adds list demands now,
          line_demand_whole line,
          before_all_ended line (lines text),
          ← append_assoc demands (demand_of line ∷ []) (map demand_of (lines text)),
        ) ended
    go false ended further = rw (← before_all_append line byte (lines text), ← extended_by_append empty_line line byte) further

-- A text, read from its start to its end.
abbrev read_whole : List ℕ → List ℕ → HeldReading
read_whole list text = finished (fed (held_reading (with 0 empty_line) list) text)

read_whole_is : (list text : List ℕ) → read_whole list text ≡ reached list (map demand_of (lines text)) empty_line
unfolding extended_by before_all
read_whole_is list text =
    let none : min 0 (space list) ≡ 0 = omega arith in
    let start : reached list [] empty_line ≡ held_reading (with 0 empty_line) list = rw (none, take-nil (space list)) in
    rw (← start) (finished-fed list text [] [])

-- ---- enough

-- Two readings with the same count and the same list.
pub record Alike (h g : HeldReading) : Type 0 where
  pub list : h.list ≡ g.list
  pub count : h.reading.count ≡ g.reading.count

alike : (h g k : HeldReading) → Alike h g → Alike g k → Alike h k
alike h g k p q = record { list = p.list ∙ q.list; count = p.count ∙ q.count }

-- Once 513 lines are read, neither a line's end nor a byte nor the text's end changes count or list.
closed_enough : (h : HeldReading) → most_lines ≤ h.reading.count → Alike (closed h) h
closed_enough h full =
    let is = closed_full h.reading h.list (omega arith) in
    record { list = ap (λ (g : HeldReading). g.list) is; count = ap (λ (g : HeldReading). g.reading.count) is }

fed_byte_enough : (h : HeldReading) (byte : ℕ) → most_lines ≤ h.reading.count → Alike (fed_byte h byte) h
unfolding fed_byte
fed_byte_enough h byte full = go (eqb byte newline)
  where
    go : (test : Bool)
        → Alike (cond test (closed h) (held_reading (with h.reading.count (extended h.reading.line byte)) h.list)) h
    go true = closed_enough h full
    go false = record { list = refl; count = refl }

fed_enough : (h : HeldReading) (piece : List ℕ) → most_lines ≤ h.reading.count → Alike (fed h piece) h
unfolding fed
fed_enough h [] full = record { list = refl; count = refl }
fed_enough h (byte ∷ piece) full =
    let one = fed_byte_enough h byte full in
    let still : most_lines ≤ (fed_byte h byte).reading.count = rw one.count full in
    alike _ _ _ (fed_enough (fed_byte h byte) piece still) one

finished_enough : (h : HeldReading) → most_lines ≤ h.reading.count → Alike (finished h) h
unfolding finished
finished_enough h full = go (has_byte h.reading.line)
  where
    go : (test : Bool) → Alike (cond test (closed h) h) h
    go true = closed_enough h full
    go false = record { list = refl; count = refl }

-- ---- the promises

pub length-demands_of : (text : List ℕ) → length (demands_of text) ≤ most_lines
unfolding demands_of
length-demands_of text = omega (arith, length-take most_lines (map demand_of (lines text)))

-- No more than 513 demands go into a list, and no more than it has words.
sets-space : (list demands : List ℕ) → sets list 0 (take (space list) demands) ≡ sets list 0 (take most_lines demands)
sets-space list demands =
    ap (sets list 0) (sym (take-take (space list) most_lines demands (omega arith)))
    ∙ sets-take (space list) list (take most_lines demands) (omega (arith, length-take most_lines demands))

-- What the list then is, and the count.
module _ (list text : List ℕ) where
  text_list : (read_whole list text).list ≡ sets list 0 (demands_of text)
  unfolding demands_of
  text_list = ap (λ (h : HeldReading). h.list) (read_whole_is list text) ∙ sets-space list (map demand_of (lines text))

  text_count : held_count (read_whole list text) ≡ min (length (demands_of text)) (length list)
  unfolding demands_of
  text_count = ap held_count (read_whole_is list text) ∙ counted (map demand_of (lines text))
    where
      counted : (demands : List ℕ)
          → min (min (length demands) (space list)) (length (sets list 0 (take (space list) demands)))
          ≡ min (length (take most_lines demands)) (length list)
      counted demands = omega (arith, length-sets list 0 (take (space list) demands), length-take most_lines demands)

  pub text_whole : most_lines ≤ length list → take (held_count (read_whole list text)) (read_whole list text).list ≡ demands_of text
  text_whole long =
      let few = length-demands_of text in
      let count : held_count (read_whole list text) ≡ length (demands_of text) = omega (arith, text_count) in
      rw (count, text_list)
      (take-sets (length (demands_of text)) list (demands_of text) (omega arith) (omega arith) ∙ take-length (demands_of text))

pub reads_demands : ReadsDemands
reads_demands =
    record {
      list = λ list pieces. rw (joined_is list pieces) (text_list list (joined pieces));
      count = λ list pieces. rw (joined_is list pieces) (text_count list (joined pieces));
      whole = λ list pieces. rw (joined_is list pieces) (text_whole list (joined pieces));
      enough = λ h piece full. still h piece (leb-true most_lines h.reading.count full);
    }
  where
    joined_is : (list : List ℕ) (pieces : List (List ℕ))
        → fed_pieces (held_reading (with 0 empty_line) list) pieces ≡ fed (held_reading (with 0 empty_line) list) (joined pieces)
    joined_is list pieces = fed_pieces-joined (held_reading (with 0 empty_line) list) pieces

    still : (h : HeldReading) (piece : List ℕ) → most_lines ≤ h.reading.count
        → ((finished (fed h piece)).list ≡ h.list) × (held_count (finished (fed h piece)) ≡ held_count h)
    still h piece full =
        let read = fed_enough h piece full in
        let end = finished_enough (fed h piece) (rw read.count full) in
        let all = alike _ _ _ end read in
        (all.list, rw (all.count, all.list))
