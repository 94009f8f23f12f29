-- The loops over a whole sheet: of `decode_sheet`, `put_all` and `total_size`.
use mathlib.Core.Path.{◌≡◌, refl, sym, ap, ◌∙◌}
use mathlib.Core.List.{List, [], ◌∷◌, ◌++◌}
use Prim.Native.Nat.{ℕ, zero, suc, ◌+◌, ◌-◌, ◌*◌, ◌≤◌, ◌<◌}
use native.Mathlib.Omega.{arith}
use native.Mathlib.Numerals.{add-one}
use lib.ListN.{length, get_or, take, drop, set, length-append, length-drop, length-set, drop_of_length-le}
use lib.Seq.{sets, length-sets, drop-drop}
use Rattle.std.proofs.lemmas.List.{get_or-take, length-take-le}
use Rattle.numbers.specs.Number.{Front, good, bad, number, decoded, form}
use Rattle.numbers.specs.Sheet.{whole, onto, sheet_from, sheet_of, answer, judged, bytes_of}
use Rattle.figures.specs.Bounds.{AllBelow}
use Rattle.std.specs.Prelude.{Result, Ok, Err}
use Rattle.numbers.specs.declared.BadNumber.{BadNumber}
use Rattle.numbers.proofs.NumberLaws.{Good, number_good, 1≤length_form, length_form≤4}
use Rattle.figures.proofs.Bounds.{drop_below}
use Rattle.figures.proofs.Stores.{sets-append}
use Rattle.numbers.proofs.SheetLaws.{sheet_from-end, sheet_from_some, bytes_of-drop}

-- ---- `decode_sheet`: the numbers in front of `at` are stored; those from there on complete the answer and the list

-- Two figures that are told are told apart.
pub ok_parts : {E : Type 0} {a b a' b' : ℕ} → ◌≡◌ {A = Result (ℕ × ℕ) E} (Ok (a, b)) (Ok (a', b')) → (a ≡ a') × (b ≡ b')
ok_parts {a = a} {b = b} {a' = a'} {b' = b'} e =
    let p : (a, b) ≡ (a', b') = cc in
    (ap (λ (x : ℕ × ℕ). x.0) p, ap (λ (x : ℕ × ℕ). x.1) p)

-- What an answer of `decode` says of the bytes.
decoded_good : (at value next : ℕ) (f : Front) → Ok (value, next) ≡ decoded at f → (f ≡ good value (next - at)) × (at ≤ next)
decoded_good at value next (good v size) e =
    let both = ok_parts e in
    let ev : value ≡ v = both.0 in
    let en : next ≡ at + size = both.1 in
    let d : size ≡ next - at = omega arith in
    (rw (ev, d), omega arith)
decoded_good at value next (bad fault) e = let z : ◌≡◌ {A = ℕ} 0 1 = cc in absurd (omega arith)

decoded_bad : (at : ℕ) (why : BadNumber) (f : Front) → Err why ≡ decoded at f → (f ≡ bad why.fault) × (why.place ≡ at)
decoded_bad at why (good v size) e = let z : ◌≡◌ {A = ℕ} 0 1 = cc in absurd (omega arith)
decoded_bad at why (bad g) e =
    let w : why ≡ record { fault = g; place = at } = cc in
    rw w (refl, refl)

pub record ReadingSheet (sheet words₀ words : List ℕ) (at count : ℕ) : Type 0 where
  pub bytes : AllBelow 256 sheet
  pub fuel : ℕ
  pub enough : length sheet ≤ at + fuel
  pub within : at ≤ length sheet
  pub counted : count ≤ at
  pub size : length words ≡ length words₀
  pub answered : answer (count + length (sheet_from fuel at (drop at sheet)).words) (sheet_from fuel at (drop at sheet)).ending ≡ judged (sheet_of sheet)
  pub stored : sets words count (sheet_from fuel at (drop at sheet)).words ≡ sets words₀ 0 (sheet_of sheet).words

pub reading_begin : (sheet words : List ℕ) → AllBelow 256 sheet → ReadingSheet sheet words words 0 0
reading_begin sheet words all =
    record {
      bytes = all;
      fuel = length sheet;
      enough = omega arith;
      within = omega arith;
      counted = omega arith;
      size = refl;
      answered = ap (λ (n : ℕ). answer n (sheet_of sheet).ending) (omega arith);
      stored = refl;
    }

module _ (sheet words₀ words : List ℕ) (at count : ℕ) (inv : ReadingSheet sheet words₀ words at count) where
  pub reading-end : length sheet ≤ at → (Ok count ≡ judged (sheet_of sheet)) × (words ≡ sets words₀ 0 (sheet_of sheet).words)
  reading-end h =
      let e : sheet_from inv.fuel at (drop at sheet) ≡ record { words = []; ending = whole } = rw (drop_of_length-le sheet h) (sheet_from-end inv.fuel at) in
      (ap (λ (n : ℕ). Ok n) (omega arith) ∙ (rw e at inv.answered), rw e at inv.stored)

  module _ (h : at < length sheet) where
    -- What the bytes from `at` on hold is what stands there, and then what follows that. There is fuel for it.
    rest : (f : Front) → number (drop at sheet) ≡ f → (fuel : ℕ) → length sheet ≤ at + fuel
        → sheet_from fuel at (drop at sheet) ≡ onto at f (λ size. sheet_from (fuel - 1) (at + size) (drop (at + size) sheet))
    rest f e zero enough = absurd (omega arith)
    rest f e (suc fuel) enough =
        let l : suc fuel - 1 ≡ fuel = omega arith in
        rw (← e, l) (sheet_from_some fuel at (drop at sheet) (omega (arith, length-drop at sheet)) ∙ simp drop-drop)

    pub reading_stop : (why : BadNumber) → Err why ≡ decoded at (number (drop at sheet))
        → (Err why ≡ judged (sheet_of sheet)) × (words ≡ sets words₀ 0 (sheet_of sheet).words)
    reading_stop why d =
        let b = decoded_bad at why (number (drop at sheet)) d in
        let e = rest (bad why.fault) b.0 inv.fuel inv.enough in
        (ap (λ (p : ℕ). Err (record { fault = why.fault; place = p })) b.1 ∙ (rw e at inv.answered), rw e at inv.stored)

    module _ (value next : ℕ) (d : Ok (value, next) ≡ decoded at (number (drop at sheet))) where
      is-good : Good 4 (drop at sheet) value (next - at)
      is-good = number_good (drop at sheet) value (next - at) (drop_below 256 sheet at inv.bytes) (decoded_good at value next (number (drop at sheet)) d).0

      pub reading_falls : length sheet - next < length sheet - at
      reading_falls = omega (arith, is-good.some)

      pub reading_again : (words' : List ℕ) → words' ≡ set words count value → ReadingSheet sheet words₀ words' next (count + 1)
      reading_again words' w =
          let b = decoded_good at value next (number (drop at sheet)) d in
          let n : at + (next - at) ≡ next = omega arith in
          let e = rw n at (rest (good value (next - at)) b.0 inv.fuel inv.enough) in
          let after = sheet_from (inv.fuel - 1) next (drop next sheet) in
          let k : count + 1 + length after.words ≡ count + suc (length after.words) = omega arith in
          rw w
          (record {
            bytes = inv.bytes;
            fuel = inv.fuel - 1;
            enough = omega (arith, inv.enough, is-good.some);
            within = omega (arith, is-good.within, length-drop at sheet);
            counted = omega (arith, inv.counted, is-good.some);
            size = rw length-set inv.size;
            answered = rw k (rw e at inv.answered);
            stored = rw add-one (rw e at inv.stored);
          })

-- ---- `put_all`: the words in front of `index` are written; those from there on complete the sheet

pub record Writing (words sheet₀ sheet : List ℕ) (index at : ℕ) : Type 0 where
  pub within : index ≤ length words
  pub end : at + length (bytes_of (drop index words)) ≡ length (bytes_of words)
  pub size : length sheet ≡ length sheet₀
  pub same : sets sheet at (bytes_of (drop index words)) ≡ sets sheet₀ 0 (bytes_of words)

pub writing_begin : (words sheet : List ℕ) → Writing words sheet sheet 0 0
writing_begin words sheet = record { within = omega arith; end = omega arith; size = refl; same = refl }

-- Where there is no word, nothing is written.
pub none_written : (words sheet : List ℕ) → length words ≡ 0 → (0 ≡ length (bytes_of words)) × (sheet ≡ sets sheet 0 (bytes_of words))
unfolding bytes_of
none_written [] sheet e = (refl, refl)
none_written (w ∷ words) sheet e = absurd (omega arith)

-- The words in front of the last: one of them, and the end of them.
module _ (words : List ℕ) {index : ℕ} where
  pub front_word : index < length (take (length words - 1) words) → (index + 1 < length words) × (get_or (take (length words - 1) words) index 0 ≡ get_or words index 0)
  front_word h =
      let l = length-take-le (length words - 1) words (omega arith) in
      (omega arith, get_or-take (length words - 1) words index 0 (omega arith))

  pub front_end : (length words ≡ 0 → ⊥) → index ≤ length (take (length words - 1) words) → length (take (length words - 1) words) ≤ index
      → (index ≡ length words - 1) × (index < length words)
  front_end some h k =
      let l = length-take-le (length words - 1) words (omega arith) in
      (omega arith, omega arith)

-- The length of the words' bytes from an index on.
length-bytes_of-drop : (words : List ℕ) (index : ℕ) → index < length words
    → length (bytes_of (drop index words)) ≡ length (form (get_or words index 0)) + length (bytes_of (drop (suc index) words))
length-bytes_of-drop words index h = rw (bytes_of-drop words index h) (length-append (form (get_or words index 0)) (bytes_of (drop (suc index) words)))

module _ (words sheet₀ sheet : List ℕ) (index at : ℕ) (inv : Writing words sheet₀ sheet index at) where
  pub writing-end : length words ≤ index → (at ≡ length (bytes_of words)) × (sheet ≡ sets sheet₀ 0 (bytes_of words))
  unfolding bytes_of
  writing-end h =
      let none = drop_of_length-le words h in
      let end = rw none at inv.end in
      (omega arith, rw none at inv.same)

  module _ (h : index < length words) where
    pub writing_fits : length (bytes_of words) ≤ length sheet₀ → at + length (form (get_or words index 0)) ≤ length sheet
    writing_fits f = omega (arith, inv.end, inv.size, length-bytes_of-drop words index h)

    -- What follows the word completes the sheet, also over a byte too much.
    pub writing_again : (sheet' : List ℕ) (at' : ℕ) → at' ≡ at + length (form (get_or words index 0)) → length sheet' ≡ length sheet
        → sets sheet' at' (bytes_of (drop (suc index) words)) ≡ sets sheet at (form (get_or words index 0) ++ bytes_of (drop (suc index) words))
        → Writing words sheet₀ sheet' (index + 1) at'
    writing_again sheet' at' a l s =
        rw add-one
        (record {
          within = h;
          end = omega (arith, inv.end, length-bytes_of-drop words index h);
          size = l ∙ inv.size;
          same = s ∙ (rw (bytes_of-drop words index h) at inv.same);
        })

  -- A byte at least follows every word but the last.
  module _ (h : index + 1 < length words) where
    pub writing_more : 0 < length (bytes_of (drop (suc index) words))
    writing_more = omega (arith, length-bytes_of-drop words (suc index) (omega arith), 1≤length_form (get_or words (suc index) 0))

    pub writing_fits_more : length (bytes_of words) ≤ length sheet₀ → at + length (form (get_or words index 0)) < length sheet
    writing_fits_more f = omega (arith, inv.end, inv.size, length-bytes_of-drop words index (omega arith), writing_more)

-- The last word completes the sheet.
pub writing_last : (words sheet₀ sheet : List ℕ) (index at : ℕ) → Writing words sheet₀ sheet index at → index < length words → length words ≤ index + 1
    → (sheet' : List ℕ) (at' : ℕ) → at' ≡ at + length (form (get_or words index 0)) → sheet' ≡ sets sheet at (form (get_or words index 0))
    → (at' ≡ length (bytes_of words)) × (sheet' ≡ sets sheet₀ 0 (bytes_of words))
writing_last words sheet₀ sheet index at inv h last sheet' at' a s =
    let after = bytes_of (drop (suc index) words) in
    let w = form (get_or words index 0) in
    writing-end words sheet₀ sheet' (index + 1) at'
    (writing_again words sheet₀ sheet index at inv h sheet' at' a (rw s (length-sets sheet at w)) (rw (a, s) (sym (sets-append sheet at w after))))
    last

-- ---- `total_size`: the words in front of `index` have `total` bytes

pub record Sizing (words : List ℕ) (total index : ℕ) : Type 0 where
  pub within : index ≤ length words
  pub small : total ≤ 4 * index
  pub same : total + length (bytes_of (drop index words)) ≡ length (bytes_of words)

pub sizing_begin : (words : List ℕ) → Sizing words 0 0
sizing_begin words = record { within = omega arith; small = omega arith; same = omega arith }

module _ (words : List ℕ) (total index : ℕ) (inv : Sizing words total index) where
  pub sizing_again : (size : ℕ) → index < length words → size ≡ length (form (get_or words index 0)) → Sizing words (total + size) (index + 1)
  sizing_again size h e =
      record {
        within = omega arith;
        small = omega (arith, inv.small, length_form≤4 (get_or words index 0));
        same = rw add-one (omega (arith, inv.same, length-bytes_of-drop words index h));
      }

  pub sizing_end : length words ≤ index → total ≡ length (bytes_of words)
  unfolding bytes_of
  sizing_end h =
      let s = rw (drop_of_length-le words h) at inv.same in
      omega arith
