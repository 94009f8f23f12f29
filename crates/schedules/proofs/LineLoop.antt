-- The loop of `read_lines`: the lines in front of `at` are stored; those from there on complete the answer and the list.
use mathlib.Core.Path.{◌≡◌, refl, ap, ◌∙◌}
use mathlib.Core.List.{List, [], ◌∷◌}
use Prim.Native.Nat.{ℕ, zero, suc, ◌+◌, ◌-◌, ◌*◌, ◌≤◌, ◌<◌}
use native.Mathlib.Omega.{arith}
use native.Mathlib.Numerals.{add-one}
use lib.ListN.{length, set, length-set}
use lib.Seq.{sets}
use Rattle.std.proofs.Common.{Ok, Err}
use borrow.Author.Tests.{le-leb, lt-leb}
use Rattle.rooms.specs.Table.{most_nodes}
use Rattle.schedules.specs.Text.{line}
use Rattle.schedules.specs.Text.{good, bad}
use Rattle.schedules.specs.Schedule.{rating, Judgement, judged, whole, onto, lines_from, lines_of}
use Rattle.schedules.specs.Nodes.{entry_words}
use Rattle.schedules.specs.Told.{counted, told_lines}
use Rattle.schedules.proofs.LineLaws.{Passed, passed_is, range_is, rating_most}
use Rattle.schedules.specs.declared.Entry.{Entry}
use Rattle.schedules.specs.declared.ScheduleRefusal.{ScheduleRefusal}

-- The lines of a text from a place on, one by one.
pub lines_from-end : (most : ℕ) (text : List ℕ) (place at : ℕ) → length text ≤ at → lines_from most text place at ≡ record { entries = []; ending = whole }
unfolding lines_from
lines_from-end zero text place at h = refl
lines_from-end (suc most) text place at h = rw (le-leb (length text) at h)

pub lines_from_some : (most : ℕ) (text : List ℕ) (place at : ℕ) → at < length text
    → lines_from (suc most) text place at ≡ onto (judged place (line text at)) (λ next. lines_from most text (suc place) next)
unfolding lines_from
lines_from_some most text place at h = rw (lt-leb (length text) at h)

-- A node's two words, stored one after the other, and then those of the nodes after it.
node_stored : (words : List ℕ) (index next : ℕ) (e : Entry) (rest : List Entry) → next ≡ suc index
    → sets (set (set words index e.parent) next (rating e)) (suc (suc index)) (entry_words rest) ≡ sets words index (entry_words (e ∷ rest))
unfolding entry_words
node_stored words index next e rest n = rw n refl

pub record ReadingLines (text words₀ words : List ℕ) (at count : ℕ) : Type 0 where
  pub few : count ≤ most_nodes
  pub size : length words ≡ length words₀
  pub answered : counted (count + length (lines_from (suc most_nodes - count) text count at).entries) (lines_from (suc most_nodes - count) text count at).ending
      ≡ told_lines (lines_of text)
  pub stored : sets words (2 + 2 * count) (entry_words (lines_from (suc most_nodes - count) text count at).entries)
      ≡ sets words₀ 2 (entry_words (lines_of text).entries)

pub begin : (text words : List ℕ) → ReadingLines text words words 0 0
begin text words =
    record {
      few = omega arith;
      size = refl;
      answered = ap (λ (n : ℕ). counted n (lines_of text).ending) (omega arith);
      stored = refl;
    }

module _ (text words₀ words : List ℕ) (at count : ℕ) (inv : ReadingLines text words₀ words at count) where
  pub end : length text ≤ at → (Ok count ≡ told_lines (lines_of text)) × (words ≡ sets words₀ 2 (entry_words (lines_of text).entries))
  unfolding entry_words
  end h =
      let e = lines_from-end (suc most_nodes - count) text count at h in
      (ap (λ (n : ℕ). Ok n) (omega arith) ∙ (rw e at inv.answered), rw e at inv.stored)

  module _ (h : at < length text) where
    -- The next line, followed by those after it.
    rest : (j : Judgement) → judged count (line text at) ≡ j
        → lines_from (suc most_nodes - count) text count at ≡ onto j (λ next. lines_from (most_nodes - count) text (suc count) next)
    rest j e =
        let l : suc most_nodes - count ≡ suc (most_nodes - count) = omega (arith, inv.few) in
        rw (l, ← e) (lines_from_some (most_nodes - count) text count at h)

    pub stop : {refusal : ScheduleRefusal} → judged count (line text at) ≡ bad refusal
        → (Err refusal ≡ told_lines (lines_of text)) × (words ≡ sets words₀ 2 (entry_words (lines_of text).entries))
    unfolding entry_words
    stop {refusal = refusal} q =
        let e = rest (bad refusal) q in
        (rw e at inv.answered, rw e at inv.stored)

    module _ {entry : Entry} {next : ℕ} (j : judged count (line text at) ≡ good entry next) where
      passed : Passed count (line text at) entry next
      passed = passed_is count (line text at) entry next j

      -- A line that passes is none past the 512th, and its rating fits.
      pub few_lines : count < most_nodes
      few_lines = (range_is count entry passed.range).few

      pub rating_fits : rating entry ≤ 2880000
      rating_fits = rating_most count entry passed.size passed.range

      pub again : ReadingLines text words₀ (set (set words (2 + 2 * count) entry.parent) (2 + 2 * count + 1) (rating entry)) next (count + 1)
      unfolding entry_words
      again =
          let e = rest (good entry next) j in
          let after = lines_from (most_nodes - count) text (suc count) next in
          let left : suc most_nodes - suc count ≡ most_nodes - count = omega (arith, few_lines) in
          let k : suc count + length after.entries ≡ count + suc (length after.entries) = omega arith in
          let i : 2 + 2 * suc count ≡ suc (suc (2 + 2 * count)) = omega arith in
          let n : 2 + 2 * count + 1 ≡ suc (2 + 2 * count) = omega arith in
          let one = set words (2 + 2 * count) entry.parent in
          rw (add-one count)
          (record {
            few = few_lines;
            size = length-set one (2 + 2 * count + 1) (rating entry) ∙ length-set words (2 + 2 * count) entry.parent ∙ inv.size;
            answered = rw (left, k) (rw e at inv.answered);
            stored = rw (left, i) (node_stored words (2 + 2 * count) (2 + 2 * count + 1) entry after.entries n ∙ (rw e at inv.stored));
          })
