-- `lowest_marked` meets its contract: a root with a mark is the first, or there is none.
use mathlib.Core.Path.{refl}
use mathlib.Core.Bool.{Bool, ◌&&◌}
use Prim.Native.Nat.{ℕ, zero-le}
use native.Mathlib.Omega.{arith}
use lib.Dec.{eqb, ltb}
use lib.ListN.{length}
use borrow.Author.Tests.{eq-eqb, lt-ltb}
use Rattle.std.specs.Prelude.{None, Some}
use Rattle.figures.specs.Figures.{at}
use Rattle.judge_totals.proofs.Searching.{is_first}
use Rattle.judge_totals.proofs.lowest_marked.Goals as goal

pub returns-then-marks-n-gt0-clause-result : goal.returns-then-marks-n-gt0-clause-result
returns-then-marks-n-gt0-clause-result c =
    let test : ℕ → Bool = λ n. eqb (at c.args.parents.now n) 0 && ltb 0 (at c.args.marks.now n) in
    is_first test (length c.args.parents.now) (Some c.loop-n.n)
    (record {
      from = zero-le;
      within = omega arith;
      holds = rw (eq-eqb _ _ c.if-parent-eq0.true, lt-ltb _ _ c.if-marks-n-gt0.true) refl;
      before = c.loop-n.invariant;
    })

pub returns-clause-result : goal.returns-clause-result
returns-clause-result c =
    let test : ℕ → Bool = λ n. eqb (at c.args.parents.now n) 0 && ltb 0 (at c.args.marks.now n) in
    is_first test (length c.args.parents.now) None (λ m a b. c.loop-n.invariant m a (omega arith))
