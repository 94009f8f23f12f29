-- Judge (request A.9): what is wrong with a given list of grants, one a cord, by the first deal's wants. Each kind of failure is looked
-- for in the whole room before the next.
use Rattle.std.specs.Prelude.{Bool, cond, ◌&&◌, List, ℕ, zero, suc, eqb, ltb, length}
use Rattle.figures.specs.Figures.{at}
use Rattle.rooms.specs.Table.{Room, highest_rank, room_cords}
use Rattle.rooms.specs.Limits.{limit, node_at, parent_of}
use Rattle.rooms.specs.Lists.{lows_of}
use Rattle.deals.specs.Wants.{first_wants}
use Rattle.deals.specs.SecondDeal.{first_grants}
use Rattle.deals.specs.Ways.{watts_beneath, from_rank}
use Rattle.deals.specs.declared.Verdict.{Verdict}
use Rattle.deals.specs.declared.Verdict.TheVariants.{Passes, BelowLow, AboveWant, OverLimit, Short}
use Rattle.rooms.specs.Trees.{sum_beneath}

-- ---- Failures

-- The cord at place c has less than its low.
abbrev pub below_low : Room → List ℕ → ℕ → Bool
below_low r grants c = ltb (at grants c) (at (lows_of r) c)

-- It has more than its want of the first deal.
abbrev pub above_want : Room → List ℕ → List ℕ → ℕ → Bool
above_want r demands grants c = ltb (at (first_wants r demands) c) (at grants c)

-- The grants beneath the node at place n sum to more than its limit.
abbrev pub over_limit : Room → List ℕ → ℕ → Bool
over_limit r grants n = ltb (limit (node_at r n)) (watts_beneath r n (at grants))

-- The total of a rank and above, beneath the root at place n, is less than by the first deal. (That is the greatest possible:
-- `FirstGreatest`.)
abbrev pub short_at : Room → List ℕ → List ℕ → ℕ → ℕ → Bool
short_at r demands grants n rank = ltb (watts_beneath r n (from_rank r rank grants)) (watts_beneath r n (from_rank r rank (first_grants r demands)))

-- The highest number, up to k, of which a test holds; 0 if there is none.
unfoldable pub highest : (ℕ → Bool) → ℕ → ℕ
highest test zero = 0
highest test (suc k) = cond (test (suc k)) (suc k) (highest test k)

-- The highest rank at which it is short, and whether the node at place n is a root that is short at some rank.
unfoldable pub short_rank : Room → List ℕ → List ℕ → ℕ → ℕ
unfolding highest sum_beneath first_grants
short_rank r demands grants n = highest (short_at r demands grants n) highest_rank

abbrev pub short_root : Room → List ℕ → List ℕ → ℕ → Bool
short_root r demands grants n = eqb (parent_of r n) 0 && ltb 0 (short_rank r demands grants n)

-- ---- The verdict

-- The verdict on the first place, of so many from n on, of which a test holds; another verdict if there is none.
unfoldable pub at_first : ℕ → ℕ → (ℕ → Bool) → (ℕ → Verdict) → Verdict → Verdict
at_first zero n test verdict otherwise = otherwise
at_first (suc count) n test verdict otherwise = cond (test n) (verdict n) (at_first count (suc n) test verdict otherwise)

-- The verdict: the lowest cord below its low; or the lowest above its want; or the lowest node whose limit is passed; or the lowest root
-- that is short, with its highest such rank. A cord is named by its place, from 0, and a node by its number, from 1.
unfoldable pub verdict : Room → List ℕ → List ℕ → Verdict
unfolding at_first sum_beneath first_wants short_rank lows_of
verdict r demands grants =
    at_first (room_cords r) 0 (below_low r grants) BelowLow
    (at_first (room_cords r) 0 (above_want r demands grants) AboveWant
    (at_first (length r.nodes) 0 (over_limit r grants) (λ n. OverLimit (suc n))
    (at_first (length r.nodes) 0 (short_root r demands grants) (λ n. Short (suc n) (short_rank r demands grants n))
    Passes)))

-- ---- Numbers

-- A verdict's number, the cord, node or root that it names, and the rank. What a verdict does not name is 0.
abbrev pub verdict_number : Verdict → ℕ
verdict_number Passes = 0
verdict_number (BelowLow cord) = 1
verdict_number (AboveWant cord) = 2
verdict_number (OverLimit node) = 3
verdict_number (Short root rank) = 4

abbrev pub verdict_names : Verdict → ℕ
verdict_names Passes = 0
verdict_names (BelowLow cord) = cord
verdict_names (AboveWant cord) = cord
verdict_names (OverLimit node) = node
verdict_names (Short root rank) = root

abbrev pub verdict_rank : Verdict → ℕ
verdict_rank Passes = 0
verdict_rank (BelowLow cord) = 0
verdict_rank (AboveWant cord) = 0
verdict_rank (OverLimit node) = 0
verdict_rank (Short root rank) = rank
