-- What is promised of every split. Statements only; proofs/Promises.antt proves each: `SplitWhole` as `split_whole`, and so on.
use Rattle.std.specs.Prelude.{◌≡◌, List, ℕ, ◌*◌, ◌^◌, ◌≤◌, ◌<◌}
use Rattle.figures.specs.Figures.{at, sum_of}
use Rattle.splits.specs.Split.{split}
use Rattle.splits.specs.Ways.{split_in}

-- The split gives away all of its amount where some weight is above 0.
abbrev pub SplitWhole : Type 0
SplitWhole = (amount : ℕ) (weights : List ℕ) → 0 < sum_of weights → sum_of (split amount weights) ≡ amount

-- It gives no child more than its weight where the amount is at most their sum.
abbrev pub SplitWithin : Type 0
SplitWithin =
    (amount : ℕ) (weights : List ℕ) → amount ≤ sum_of weights → (k : ℕ) → at (split amount weights) k ≤ at weights k

-- Request A.4: where the amount and the total weight are both below 65,536, the split made in numbers of 32 bits has the parts
-- of the split, for every such amount and weights.
abbrev pub ShortWaySplits : Type 0
ShortWaySplits = (amount : ℕ) (weights : List ℕ) → amount < 65536 → sum_of weights < 65536 → split_in 32 amount weights ≡ split amount weights

-- And so has the one made in numbers of 64 bits, wherever the products fit in these.
abbrev pub LongWaySplits : Type 0
LongWaySplits = (amount : ℕ) (weights : List ℕ) → amount * sum_of weights < 2 ^ 64 → split_in 64 amount weights ≡ split amount weights
