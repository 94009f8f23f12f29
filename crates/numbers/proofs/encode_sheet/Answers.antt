-- `encode_sheet` meets its contract: nothing is written before all words have forms and fit, by their count or by their sizes.
use mathlib.Core.Path.{refl, ap, ◌∙◌}
use native.Mathlib.Omega.{arith}
use Rattle.std.proofs.Common.{length, ◌≤◌}
use Rattle.numbers.specs.Sheet.{bytes_of}
use Rattle.std.specs.Prelude.{ℕ, Ok, Err}
use Rattle.numbers.specs.declared.Unwritten.TheVariants.{TooLarge, TooShort}
use Rattle.numbers.proofs.SheetLaws.{length-bytes_of≤, forms_below, written_large, written_short, written_whole}
use Rattle.numbers.proofs.encode_sheet.Goals as goal
use Rattle.numbers.proofs.encode_sheet.Goals.{then-sheet-words+else-sheet-needed, else-sheet-words}

pub returns-in-Some : goal.returns-in-Some
returns-in-Some c =
    let found = c.in-Some.ensures.found in
    record {
      result = ap (λ (k : ℕ). Err (TooLarge k)) found.0 ∙ written_large _ _ (omega (arith, found));
      sheet = refl;
    }

pub returns-then-sheet-needed : goal.returns-then-sheet-needed
returns-then-sheet-needed c =
    record {
      result = ap (λ (k : ℕ). Err (TooShort k)) c.total_size-needed.ensures.result ∙ written_short _ _ (omega (arith, c.in_default.ensures.found)) (omega arith);
      sheet = refl;
    }

pub put_all-requires-clause-values : goal.put_all-requires-clause-values
put_all-requires-clause-values c = forms_below c.args.words.now (omega (arith, c.in_default.ensures.found))

pub put_all-requires-clause-space : goal.put_all-requires-clause-space
put_all-requires-clause-space c = elim c.if-sheet-words.branch [
  | then-sheet-words+else-sheet-needed w ↦ omega (arith, w.total_size-needed.ensures.result)
  | else-sheet-words w ↦ omega (arith, length-bytes_of≤ c.args.words.now)
]

pub returns-clause-result : goal.returns-clause-result
returns-clause-result c =
    let fits : length (bytes_of c.args.words.now) ≤ length c.args.sheet.now = elim c.if-sheet-words.branch [
      | then-sheet-words+else-sheet-needed w ↦ omega (arith, w.total_size-needed.ensures.result)
      | else-sheet-words w ↦ omega (arith, length-bytes_of≤ c.args.words.now)
    ] in
    ap (λ (k : ℕ). Ok k) c.put_all.ensures.count ∙ written_whole c.args.words.now _ (omega (arith, c.in_default.ensures.found)) fits
