-- What a share carries of a load, over any scale.
use Prim.Native.Nat.{ℕ, suc, ◌+◌, ◌*◌, ◌-◌, ◌≤◌, ◌<◌}
use native.Mathlib.Nat.{mul-le-mul_left, mul-le-mul_right, div-lt_iff_lt-mul, mul_comm}
use native.Mathlib.Omega.{arith}
use Rattle.rooms.specs.Table.{Node}
use Rattle.rooms.specs.Limits.{limit, carried}

-- A cord carries no more than its grant where its share of the load is within the scale's of the grant.
pub carried_le : (scale share load grant : ℕ) → 0 < scale → share * load ≤ scale * grant → carried scale share load ≤ grant
carried_le scale share load grant h q =
    let a : share * load + (scale - 1) < suc grant * scale = omega (arith, mul_comm scale grant) in
    let b : carried scale share load < suc grant = (div-lt_iff_lt-mul h).1 a in
    omega arith

-- A share of at most the scale carries no more than the load.
pub carried_most : (scale share load : ℕ) → 0 < scale → share ≤ scale → carried scale share load ≤ load
carried_most scale share load h q = carried_le scale share load load h (mul-le-mul_right load q)

-- ---- A node's limit

-- A node may carry no more than its rating.
pub limit_le : (n : Node) → n.percent ≤ 100 → limit n ≤ n.rating
limit_le n h =
    let a : n.rating * n.percent ≤ n.rating * 100 = mul-le-mul_left n.rating h in
    omega arith
