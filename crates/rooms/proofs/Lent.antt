-- How long a list must be that is lent to Read or Write: one word more than `most_words`, which a table may have, decides every
-- table. A caller whose own buffers may be of any length may lend such lists in their place.
use mathlib.Core.Path.{◌≡◌, refl, sym, ap, ◌∙◌}
use mathlib.Core.List.{List}
use Prim.Native.Nat.{ℕ, suc, ◌≤◌, min}
use native.Mathlib.Omega.{arith}
use lib.ListN.{length, take}
use lib.Seq.{sets, length-sets, length-take-le, take_all}
use Rattle.outcomes.specs.Outcome.{accepted, fitting}
use Rattle.outcomes.proofs.Outcomes.{fitting_fits}
use Rattle.outcomes.proofs.Parts.{accepted_went}
use Rattle.numbers.specs.Sheet.{SheetEnding, whole, sheet_of, bytes_of}
use Rattle.numbers.specs.Sheet as sheet
use Rattle.rooms.specs.Part.{Step, good, bad}
use Rattle.rooms.specs.Table.{Room, most_words}
use Rattle.rooms.specs.Limits.{checked}
use Rattle.rooms.specs.declared.SheetRefusal.TheVariants.{OutputTooShort}
use Rattle.std.specs.Prelude.{Ok}
use Rattle.rooms.specs.Outcome.{answer_of, if_good, read_words, reading, reading_first, writing}
use Rattle.rooms.proofs.Reach.{prefix_decides, length_small}
use Rattle.rooms.proofs.Outcomes.{accepted_told, accepted_is, front-sets, front_size}

-- A table that is cut comes to the same, if it is cut no shorter than decides its check.
table-cut : (output : List ℕ → List ℕ) (table : List ℕ) (entries k : ℕ) → suc most_words ≤ k
    → if_good (checked (take k table) 0) (output (take k table)) entries ≡ if_good (checked table 0) (output table) entries
table-cut output table entries k h = rw (prefix_decides table k h) (go (checked table 0) refl)
  where
    go : (s : Step Room) → checked table 0 ≡ s → if_good s (output (take k table)) entries ≡ if_good s (output table) entries
    go (good r j) e = rw (take_all k table (omega (arith, length_small table r j e)))
    go (bad q) e = refl

-- ---- Read

module _ (bytes : List ℕ) (entries : ℕ) where
  abbrev words : List ℕ
  words = (sheet_of bytes).words

  -- Read by way of a list is Read, if the list takes what decides.
  pub reading-first : (taken : ℕ) → suc most_words ≤ taken → reading_first taken bytes entries ≡ reading bytes entries
  unfolding reading reading_first
  reading-first taken h = ending (sheet_of bytes).ending
    where
      ending : (e : SheetEnding) → read_words (take taken words) e entries ≡ read_words words e entries
      ending whole = table-cut (λ l. l) words entries taken h
      ending (sheet.refused fault place) = refl

  -- What is read fits the output,
  pub reading_fits : {written : List ℕ} → reading bytes entries ≡ accepted written → length written ≤ entries
  unfolding reading
  reading_fits {written = written} e = ending (sheet_of bytes).ending e
    where
      ending : (end : SheetEnding) → read_words words end entries ≡ accepted written → length written ≤ entries
      ending whole e =
          let went = accepted_went (λ q. q) (λ room. fitting OutputTooShort words entries) (checked words 0) e in
          fitting_fits OutputTooShort words entries went.is
      ending (sheet.refused fault place) e = let z : ◌≡◌ {A = ℕ} 0 1 = cc in absurd (omega arith)

  -- and stands at the front of the list by way of which it is read.
  pub record Stands (list list' : List ℕ) (count : ℕ) : Type 0 where
    pub fits : count ≤ length list'
    pub counted : length (take count list') ≡ count
    pub is : reading_first (length list) bytes entries ≡ accepted (take count list')

  first_is : (taken : ℕ) {output : List ℕ} → reading_first taken bytes entries ≡ accepted output → take taken words ≡ output
  unfolding reading_first
  first_is taken {output = output} e = ending (sheet_of bytes).ending e
    where
      ending : (end : SheetEnding) → read_words (take taken words) end entries ≡ accepted output → take taken words ≡ output
      ending whole e = (accepted_is (checked (take taken words) 0) (take taken words) entries e).1
      ending (sheet.refused fault place) e = let z : ◌≡◌ {A = ℕ} 0 1 = cc in absurd (omega arith)

  pub first_stands : (list : List ℕ) {list' : List ℕ} {count : ℕ} → Ok count ≡ answer_of (reading_first (length list) bytes entries)
      → list' ≡ sets list 0 words → Stands list list' count
  first_stands list {list' = list'} {count = count} d s =
      let o = accepted_told _ d in
      let first : take (length list) words ≡ o.output = first_is (length list) o.is in
      let n : count ≡ min (length words) (length list) = sym (front_size list words refl ∙ ap length first ∙ o.counted) in
      let fits : count ≤ length list' = omega (arith, n, ap length s ∙ length-sets list 0 words) in
      record {
        fits = fits;
        counted = length-take-le count list' fits;
        is = o.is ∙ ap accepted (sym (rw s (front-sets list words n) ∙ first));
      }

-- ---- Write

-- Write comes to the same of a table that is cut, if it is cut no shorter than decides its check.
pub writing-cut : (table : List ℕ) (entries k : ℕ) → suc most_words ≤ k → writing (take k table) entries ≡ writing table entries
unfolding writing
writing-cut table entries k h = table-cut bytes_of table entries k h
