-- One child served: what the code's contract asks and leaves. The lists have a figure a node: the weights of the children
-- served so far, and the watts dealt to them.
use Rattle.std.specs.Prelude.{◌≡◌, List, ℕ, ◌+◌, ◌*◌, ◌/◌, ◌^◌, ◌≤◌, ◌<◌, length, set}
use Rattle.figures.specs.Figures.{at}
use Rattle.splits.specs.Split.{part}

-- A child of some weight may be served by the node at place p, which has an amount for children of weights that sum to `whole`.
-- The amount may be above that sum.
pub record MayServe (amount whole weight p : ℕ) (before dealt : List ℕ) : Type 0 where
  pub before_has : p < length before
  pub dealt_has : p < length dealt
  pub room : at before p + weight ≤ whole
  pub fits : amount * whole < 2 ^ 64
  pub dealt_is : at dealt p ≡ amount * at before p / whole

-- It was served: its part, and the lists after it.
pub record HasServed (amount whole weight p : ℕ) (before dealt : List ℕ) (watts : ℕ) (before' dealt' : List ℕ) : Type 0 where
  pub watts_are : watts ≡ part amount whole (at before p) weight
  pub before_is : before' ≡ set before p (at before p + weight)
  pub dealt_is : dealt' ≡ set dealt p (amount * (at before p + weight) / whole)
