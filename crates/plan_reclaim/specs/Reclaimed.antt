-- After a deal: shares, servers and grants by the places of cords, needs and usable watts by those of servers. What the contracts of
-- `reclaim` cite, of the cords' rows.
use Rattle.std.specs.Prelude.{◌≡◌, cond, ◌&&◌, List, ℕ, ◌-◌, ◌*◌, ◌/◌, ◌≤◌, ◌<◌, eqb, ltb, length}
use Rattle.rooms.specs.Table.{IsScale, most_cords, most_watts}
use Rattle.figures.specs.Figures.{figures, at, sum_of}
use Rattle.rooms.specs.Rows.{cord_row_at, carried_from}
use Rattle.rooms.specs.declared.lists.CordRow.{CordRow}
use Rattle.deals.specs.SecondDeal.{least_over}

-- What the cords' rows must be, in a room of such a scale, with watts for each server: its need, or what it can use.
pub record ServerLists (scale : ℕ) (cords : List CordRow) (watts : List ℕ) (grant_count : ℕ) : Type 0 where
  pub scaled : IsScale scale
  pub few : length cords ≤ most_cords
  pub grants_size : grant_count ≡ length cords
  pub within : (c : ℕ) → c < length cords → (cord_row_at cords c).server < length watts
  pub parts : (c : ℕ) → c < length cords → (cord_row_at cords c).share ≤ scale
  pub most : (v : ℕ) → v < length watts → at watts v ≤ most_watts

-- The usable watts of the server at place v by its cords that stand before place c: the least of its need and, over those with
-- share above 0, of the loads at which they carry their grants.
abbrev pub usable_before : ℕ → List ℕ → List ℕ → List ℕ → List ℕ → ℕ → ℕ → ℕ
usable_before scale shares servers needs grants c v =
    least_over c (λ h. eqb (at servers h) v && ltb 0 (at shares h)) (λ h. scale * at grants h / at shares h) (at needs v)

-- The usable watts of each server, and the used and the stranded watts of each cord.
abbrev pub usable_from : ℕ → List ℕ → List ℕ → List ℕ → List ℕ → List ℕ
usable_from scale shares servers needs grants = figures (length needs) (usable_before scale shares servers needs grants (length shares))

abbrev pub used_from : ℕ → List ℕ → List ℕ → List ℕ → List ℕ
used_from = carried_from

abbrev pub stranded_from : List ℕ → List ℕ → List ℕ
stranded_from used grants = figures (length used) (λ c. at grants c - at used c)

-- The watts freed.
abbrev pub freed_from : ℕ → List ℕ → List ℕ → List ℕ → List ℕ → ℕ
freed_from scale shares servers usable grants = sum_of (stranded_from (used_from scale shares servers usable) grants)

-- The wants of the next deal.
abbrev pub wants_from : List ℕ → List ℕ → List ℕ → List ℕ
wants_from used grants wants = figures (length used) (λ c. cond (ltb 0 (at (stranded_from used grants) c)) (at used c) (at wants c))
