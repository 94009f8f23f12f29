-- `decode_bytes` meets its contract: each return is one case of the definition, from the bytes read so far (`DecodeLoop`).
use Rattle.std.proofs.Common.{◌≡◌, ℕ, ◌+◌, ◌-◌, ◌*◌, ◌^◌, ◌≤◌, ◌<◌, arith}
use Rattle.numbers.proofs.DecodeLoop.{empty, single, begin, exhausted, ended, fits, not_shortest, last, again}
use Rattle.numbers.proofs.decode_bytes.Goals as goal
use Rattle.numbers.proofs.decode_bytes.Goals.{After-from-byte}

pub returns-then-sheet-at : goal.returns-then-sheet-at
returns-then-sheet-at c = record { result = empty _ _ c.if-sheet-at.true }

pub returns-then-first-lt128 : goal.returns-then-first-lt128
returns-then-first-lt128 c = record { result = single _ _ _ c.from-first.ensures c.if-sheet-at.false c.if-first-lt128.true }

pub loop-next-init : goal.loop-next-init
loop-next-init c =
    let l : 3 ≡ c.args.at + 4 - (c.args.at + 1) = omega arith in
    rw l at (begin _ _ _ c.from-first.ensures c.if-sheet-at.false c.if-first-lt128.false (rw c.from-first.ensures (c.type_inv.sheet c.args.at).fits))

-- A byte is left to be read.
some_left : (c : After-from-byte) → 0 < c.args.at + 4 - c.loop-next.next
some_left c = omega arith

-- What a byte's group can make fits.
groups : (c : After-from-byte) (group : ℕ) → group < 128 → (c.loop-next.value + c.loop-next.unit * group < 2 ^ 28) × (c.loop-next.unit * 128 ≤ 2 ^ 28)
groups c group h = fits _ _ _ _ _ _ (some_left c) c.loop-next.invariant group h

pub returns-then-sheet-next : goal.returns-then-sheet-next
returns-then-sheet-next c = record { result = ended _ _ _ _ _ _ (omega arith) c.loop-next.invariant c.if-sheet-next.true }

pub returns-then-byte-eq0 : goal.returns-then-byte-eq0
returns-then-byte-eq0 c =
    let s = (goal.at.returns-then-byte-eq0 c).After-from-byte in
    record { result = not_shortest _ _ _ _ _ _ c.from-byte.ensures c.if-sheet-next.false _ (some_left s) c.loop-next.invariant c.if-byte-eq0.true }

pub overflow_mul-result : goal.overflow_mul-result
overflow_mul-result c = omega (arith, groups (goal.at.overflow_mul-result c).After-from-byte c.from-byte.result c.if-byte-lt128.true)

pub overflow_add-result-then-byte-lt128 : goal.overflow_add-result-then-byte-lt128
overflow_add-result-then-byte-lt128 c = omega (arith, groups (goal.at.overflow_add-result-then-byte-lt128 c).After-from-byte c.from-byte.result c.if-byte-lt128.true)

pub returns-then-byte-lt128 : goal.returns-then-byte-lt128
returns-then-byte-lt128 c =
    let s = (goal.at.returns-then-byte-lt128 c).After-from-byte in
    record { result = last _ _ _ _ _ _ c.from-byte.ensures c.if-sheet-next.false _ (some_left s) c.loop-next.invariant c.if-byte-eq0.false c.if-byte-lt128.true }

pub overflow_mul-value : goal.overflow_mul-value
overflow_mul-value c = omega (arith, groups (goal.at.overflow_mul-value c).After-from-byte (c.from-byte.result - 128) (omega arith))

pub overflow_add-value : goal.overflow_add-value
overflow_add-value c = omega (arith, groups (goal.at.overflow_add-value c).After-from-byte (c.from-byte.result - 128) (omega arith))

pub overflow_mul-unit : goal.overflow_mul-unit
overflow_mul-unit c = omega (arith, groups (goal.at.overflow_mul-unit c).After-from-byte 0 (omega arith))

pub loop-next-preserved : goal.loop-next-preserved
loop-next-preserved c =
    let s = (goal.at.loop-next-preserved c).After-from-byte in
    let l : c.args.at + 4 - c.loop-next.next - 1 ≡ c.args.at + 4 - (c.loop-next.next + 1) = omega arith in
    rw l at (again _ _ _ _ _ _ c.from-byte.ensures c.if-sheet-next.false _ (some_left s) c.loop-next.invariant c.if-byte-lt128.false (rw c.from-byte.ensures (c.type_inv.sheet c.loop-next.next).fits))

pub returns : goal.returns
returns c = record { result = exhausted _ _ _ _ _ _ (omega arith) c.loop-next.invariant }
