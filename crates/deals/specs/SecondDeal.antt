-- The second deal: usable, used, stranded and freed watts after the first, the wants of the second, and the answer.
use Rattle.std.specs.Prelude.{Bool, cond, ◌&&◌, List, ℕ, zero, suc, ◌-◌, ◌*◌, ◌/◌, min, eqb, ltb, length}
use Rattle.figures.specs.Figures.{total, figures_from, figures, at, sum_of}
use Rattle.rooms.specs.Table.{Room, room_cords}
use Rattle.rooms.specs.Cords.{cords_from, cord_at}
use Rattle.deals.specs.Wants.{needs, first_wants}
use Rattle.rooms.specs.Lists.{carried_by, lows_of}
use Rattle.deals.specs.Metrics.{Deal, deal_of}
use Rattle.deals.specs.Dealing.{granted}

-- The least of a start and of the figures, at the places below k, of which a test holds.
unfoldable pub least_over : ℕ → (ℕ → Bool) → (ℕ → ℕ) → ℕ → ℕ
least_over zero test figure start = start
least_over (suc k) test figure start =
    let before = least_over k test figure start in
    cond (test k) (min before (figure k)) before

-- ---- After a deal with given grants

-- Whether the cord at place c is one of the server at place v, with share above 0.
abbrev pub loaded : Room → ℕ → ℕ → Bool
loaded r v c = eqb (cord_at r c).server v && ltb 0 (cord_at r c).share

-- The load at which a cord carries its grant: floor(scale × grant / share).
abbrev pub load_of : Room → List ℕ → ℕ → ℕ
load_of r grants c = r.scale * at grants c / (cord_at r c).share

-- The usable watts of each server: its need, or the least of those loads of its cords with a share, if that is less.
unfoldable pub usable : Room → List ℕ → List ℕ → List ℕ
unfolding figures_from least_over cords_from
usable r need grants = figures (length r.servers) (λ v. least_over (room_cords r) (loaded r v) (load_of r grants) (at need v))

-- The stranded watts of each cord: grant − used.
unfoldable pub stranded : Room → List ℕ → List ℕ → List ℕ
unfolding figures_from
stranded r grants used = figures (room_cords r) (λ c. at grants c - at used c)

-- The next deal's wants: used watts where some are stranded, and the want as it was where none are.
unfoldable pub wants_after : Room → List ℕ → List ℕ → List ℕ → List ℕ
unfolding figures_from stranded
wants_after r wants grants used =
    let stranded = stranded r grants used in
    figures (room_cords r) (λ c. cond (ltb 0 (at stranded c)) (at used c) (at wants c))

-- ---- The two deals of a room with given demands

-- The first deal, in which each cord starts from its low, and its grants.
unfoldable pub first_deal : Room → List ℕ → Deal
unfolding deal_of lows_of first_wants
first_deal r demands = deal_of r (lows_of r) (first_wants r demands)

unfoldable pub first_grants : Room → List ℕ → List ℕ
unfolding first_deal granted
first_grants r demands = granted (first_deal r demands)

-- The usable watts of each server after the first deal, and the used watts of each cord: ceil(share × usable / scale).
unfoldable pub first_usable : Room → List ℕ → List ℕ
unfolding needs usable first_grants
first_usable r demands = usable r (needs r demands) (first_grants r demands)

unfoldable pub first_used : Room → List ℕ → List ℕ
unfolding carried_by first_usable
first_used r demands = carried_by r (first_usable r demands)

-- Freed: the stranded watts of all cords after the first deal, summed.
unfoldable pub freed : Room → List ℕ → ℕ
unfolding stranded first_grants first_used total
freed r demands = sum_of (stranded r (first_grants r demands) (first_used r demands))

-- The wants of the second deal.
unfoldable pub second_wants : Room → List ℕ → List ℕ
unfolding wants_after first_wants first_grants first_used
second_wants r demands = wants_after r (first_wants r demands) (first_grants r demands) (first_used r demands)

-- The second deal, in which each cord starts from its used watts (`Dealing.antt` says how that deals), and its grants: the answer.
unfoldable pub second_deal : Room → List ℕ → Deal
unfolding deal_of first_used second_wants
second_deal r demands = deal_of r (first_used r demands) (second_wants r demands)

unfoldable pub second_grants : Room → List ℕ → List ℕ
unfolding second_deal granted
second_grants r demands = granted (second_deal r demands)

-- The cap of each server: its usable watts by the second grants.
unfoldable pub caps : Room → List ℕ → List ℕ
unfolding needs usable second_grants
caps r demands = usable r (needs r demands) (second_grants r demands)
