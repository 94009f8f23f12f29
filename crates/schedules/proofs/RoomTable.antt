-- The table of a schedule is a good room table: all that rests on the definitions of `rooms` stands here.
use mathlib.Core.Path.{◌≡◌, refl, ap, ◌∙◌}
use mathlib.Core.Bool.{Bool, true, false, cond}
use mathlib.Core.List.{List, [], ◌∷◌, map}
use Prim.Native.Nat.{ℕ, zero, suc, ◌≤◌}
use native.Mathlib.Omega.{arith}
use lib.ListN.{length, get_or, length-map}
use lib.Dec.{leb}
use Rattle.numbers.specs.Sheet.{bytes_of}
use Rattle.figures.specs.Figures.{total}
use Rattle.rooms.specs.Table.{most_nodes, form_of, table}
use Rattle.rooms.specs.Limits.{lows, node_at, checked}
use Rattle.rooms.specs.Outcome.{writing}
use Rattle.rooms.proofs.Reach.{next_is_length}
use Rattle.rooms.specs.Words.{NodeInRange}
use Rattle.rooms.proofs.Tables.{Chain, RoomFits, Reads, table_reads}
use Rattle.outcomes.specs.Outcome.{accepted}
use Rattle.outcomes.proofs.Outcomes.{fitting_whole}
use Rattle.rooms.specs.declared.SheetRefusal.TheVariants.{OutputTooShort}
use Rattle.rooms.proofs.Outcomes.{writing_good}
use Rattle.rooms.proofs.Promises.{refusal_nine}
use Rattle.schedules.specs.Text.{line, good, bad}
use Rattle.schedules.specs.Schedule.{rating, Judgement, judged, whole, onto, lines_from, node_of, room_of, table_of}
use Rattle.schedules.specs.Written.{LinesPass, none, more}
use Rattle.schedules.proofs.LineLaws.{range_is, rating_most, passed_is}
use Rattle.schedules.specs.declared.Entry.{Entry}

-- ---- Entries that pass

-- The entries of a text pass.
pub entries_pass : (most : ℕ) (text : List ℕ) (place at : ℕ) → LinesPass place (lines_from most text place at).entries
unfolding lines_from
entries_pass zero text place at = none
entries_pass (suc most) text place at = go (leb (length text) at) (judged place (line text at)) refl (λ next. entries_pass most text (suc place) next)
  where
    go : (t : Bool) (j : Judgement) → judged place (line text at) ≡ j → ((next : ℕ) → LinesPass (suc place) (lines_from most text (suc place) next).entries)
        → LinesPass place (cond t (record { entries = []; ending = whole }) (onto j (λ next. lines_from most text (suc place) next))).entries
    go true j e further = none
    go false (good x next) e further = let p = passed_is place (line text at) x next e in more p.size p.range (further next)
    go false (bad q) e further = none

-- ---- The room

-- The nodes of entries that pass are in range; an entry at a place has a number that is one more.
nodes-fit : {place : ℕ} {entries : List Entry} → LinesPass place entries → Chain (NodeInRange false) (λ own _. suc own) (suc place) (map node_of entries)
unfolding Chain
nodes-fit none = tt
nodes-fit (more {place} {e} s t p) =
    (record { parent = omega (arith, (range_is place e t).parent); rating = omega (arith, rating_most place e s t); percent = refl }, nodes-fit p)

-- ---- The table

module _ (entries : List Entry) (p : LinesPass 0 entries) (some : 1 ≤ length entries) (few : length entries ≤ most_nodes) where
  room_fits : RoomFits 1 (room_of entries)
  unfolding form_of Chain
  room_fits =
      let count : length (map node_of entries) ≡ length entries = length-map entries node_of in
      record {
        first = omega arith;
        newest = omega arith;
        scaled = refl;
        some_nodes = omega arith;
        few_nodes = omega arith;
        nodes = nodes-fit p;
        few_servers = omega arith;
        servers = tt;
      }

  -- No cord hangs anywhere, so no limit is passed.
  pub table-checked : checked (table_of entries) 0 ≡ good (room_of entries) (length (table_of entries))
  unfolding lows total
  table-checked =
      let w = table_of entries in
      let read : Reads table w 0 (room_of entries) [] = table_reads 1 (room_of entries) room_fits in
      let e = refusal_nine.passed w (room_of entries) read.next read.is (λ n h. omega arith) in
      e ∙ ap (good (room_of entries)) (next_is_length w (room_of entries) read.next e)

  pub table-written : (bytes : ℕ) → length (bytes_of (table_of entries)) ≤ bytes → writing (table_of entries) bytes ≡ accepted (bytes_of (table_of entries))
  table-written bytes h = writing_good (table_of entries) bytes table-checked ∙ fitting_whole OutputTooShort (bytes_of (table_of entries)) bytes h

-- The parent and the rating of the node at a place are those of the entry there.
pub node-of : (entries : List Entry) (place : ℕ)
    → ((node_at (room_of entries) place).parent ≡ (get_or entries place (record { parent = 0; amperes = 0; volts = 0 })).parent)
    × ((node_at (room_of entries) place).rating ≡ rating (get_or entries place (record { parent = 0; amperes = 0; volts = 0 })))
node-of [] place = (refl, refl)
node-of (e ∷ rest) zero = (refl, refl)
node-of (e ∷ rest) (suc place) = node-of rest place
