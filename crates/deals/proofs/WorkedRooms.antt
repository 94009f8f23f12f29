-- Plans worked by hand, computed from the definitions: a changed definition fails here first.
-- (The starred rooms are proved as a group in hutplan/proofs/WorkedRooms.antt.)
use mathlib.Core.Path.{◌≡◌, refl}
use mathlib.Core.Bool.{cond}
use mathlib.Core.List.{List, [], ◌∷◌}
use Prim.Native.Nat.{ℕ}
use lib.Dec.{ltb}
use Rattle.rooms.specs.Part.{follow, word, ensure, end, many}
use Rattle.figures.specs.Figures.{total}
use Rattle.rooms.specs.Table.{form_of, percent, node, cord, range, load, server, table}
use Rattle.rooms.specs.Trees.{beneath}
use Rattle.rooms.specs.Limits.{server_lows, lows, first_node, overloaded}
use Rattle.outcomes.specs.Outcome.{Outcome, accepted, refused}
use Rattle.deals.specs.Plan.{PlanOutcome, count, lengths_of, plan, plan_list_number}
use Rattle.deals.specs.declared.Lengths.{Lengths}
use Rattle.deals.specs.declared.PlanList.{PlanList}
use Rattle.deals.specs.declared.PlanList.TheVariants.{Grants, Caps, Headroom, Held}
use Rattle.deals.specs.declared.PlanRefusal.{PlanRefusal}
use Rattle.deals.specs.declared.PlanRefusal.TheVariants.{DemandCount, DemandTooLarge, ListTooShort}

-- Lists just long enough for so many cords and servers.
abbrev exact : (cords servers : ℕ) → Lengths
exact cords servers = lengths_of (count cords servers)

-- Those before a list just long enough for room H, the list and those behind it of so many entries.
abbrev short_from : PlanList → ℕ → Lengths
short_from list n = lengths_of (λ other. cond (ltb (plan_list_number other) (plan_list_number list)) (count 3 2 other) n)

-- What a plan comes to: its freed watts, grants, caps, headroom and nodes that hold cords, or its refusal.
abbrev pub Figures : Type 0
Figures = Outcome (ℕ × List ℕ × List ℕ × List ℕ × List ℕ) PlanRefusal

abbrev pub figures_of : PlanOutcome → Figures
figures_of (accepted plan) = accepted (plan.freed, plan.grants, plan.caps, plan.headroom, plan.held)
figures_of (refused refusal) = refused refusal

abbrev pub planned : (freed : ℕ) (grants caps headroom held : List ℕ) → Figures
planned freed grants caps headroom held = accepted (freed, grants, caps, headroom, held)

-- Room H, by the rating of its second node.
abbrev table_h_with : ℕ → List ℕ
table_h_with rating = 1 ∷ 2 ∷ 0 ∷ 150 ∷ 0 ∷ rating ∷ 2 ∷ 1 ∷ 100 ∷ 400 ∷ 2 ∷ 1 ∷ 500 ∷ 2 ∷ 500 ∷ 1 ∷ 100 ∷ 400 ∷ 1 ∷ 2 ∷ 1000 ∷ []

abbrev table_h : List ℕ
table_h = table_h_with 500

-- Its plan whole, in which each root holds a cord, and the cord that wants no more than it uses has its want; and room H turned back by
-- 10 to 15.
room_h : (figures_of (plan table_h (400 ∷ 400 ∷ []) (exact 3 2)) ≡ planned 13 (120 ∷ 120 ∷ 280 ∷ []) (240 ∷ 280 ∷ []) (0 ∷ 0 ∷ 0 ∷ []) (1 ∷ 0 ∷ 2 ∷ []))
    × (plan table_h (400 ∷ []) (short_from Grants 0) ≡ refused (DemandCount 2))
    × (plan table_h (400 ∷ 16777216 ∷ []) (short_from Grants 0) ≡ refused (DemandTooLarge 1))
    × (plan table_h (400 ∷ 400 ∷ []) (short_from Grants 2) ≡ refused (ListTooShort Grants 3))
    × (plan table_h (400 ∷ 400 ∷ []) (short_from Caps 1) ≡ refused (ListTooShort Caps 2))
    × (plan table_h (400 ∷ 400 ∷ []) (short_from Headroom 2) ≡ refused (ListTooShort Headroom 3))
    × (plan table_h (400 ∷ 400 ∷ []) (short_from Held 2) ≡ refused (ListTooShort Held 3))
unfolding plan
    follow word ensure end many total form_of percent node cord range load server table
    beneath server_lows lows first_node overloaded
room_h = (refl, refl, refl, refl, refl, refl, refl)

-- A root with 150 W over a node with 100 W and a cord. What hangs on the node wants 1,000 W, the cord wants 100; no cord has a low.
abbrev table_n : List ℕ
table_n = 1 ∷ 2 ∷ 0 ∷ 188 ∷ 1 ∷ 125 ∷ 2 ∷ 1 ∷ 0 ∷ 1000 ∷ 1 ∷ 2 ∷ 1000 ∷ 1 ∷ 0 ∷ 100 ∷ 1 ∷ 1 ∷ 1000 ∷ []

-- Under a root with 1 W, a child node beside a cord, each wanting 1.
abbrev table_o : List ℕ
table_o = 1 ∷ 2 ∷ 0 ∷ 2 ∷ 1 ∷ 2 ∷ 2 ∷ 1 ∷ 0 ∷ 1 ∷ 1 ∷ 2 ∷ 1000 ∷ 1 ∷ 0 ∷ 1 ∷ 1 ∷ 1 ∷ 1000 ∷ []

-- Room S, by the rating of its root.
abbrev table_s_with : ℕ → List ℕ
table_s_with rating =
    1 ∷ 3 ∷ 0 ∷ rating ∷ 1 ∷ 938 ∷ 1 ∷ 938 ∷ 4 ∷ 2 ∷ 270 ∷ 500 ∷ 1 ∷ 2 ∷ 1000 ∷ 1 ∷ 270 ∷ 500 ∷ 1 ∷ 2 ∷ 1000
    ∷ 1 ∷ 270 ∷ 500 ∷ 1 ∷ 3 ∷ 1000 ∷ 1 ∷ 270 ∷ 500 ∷ 1 ∷ 3 ∷ 1000 ∷ []

abbrev table_s : List ℕ
table_s = table_s_with 1550

-- A root with 120 W over a node with 80 W and a cord, and a root with 20 W that holds one of a server's two cords down.
abbrev table_p : List ℕ
table_p =
    1 ∷ 3 ∷ 0 ∷ 150 ∷ 1 ∷ 100 ∷ 0 ∷ 25 ∷ 3 ∷ 1 ∷ 0 ∷ 100 ∷ 2 ∷ 3 ∷ 500 ∷ 2 ∷ 500 ∷ 1 ∷ 0 ∷ 100 ∷ 1 ∷ 2 ∷ 1000
    ∷ 1 ∷ 0 ∷ 60 ∷ 1 ∷ 1 ∷ 1000 ∷ []

-- The first grants are 20, 22, 46 and 52. The used watts, 2 W less, are passed on through the node before those 2 W are split.
-- (No headroom: both roots ask for all of their limits.)
through_nodes : figures_of (plan table_p (100 ∷ 100 ∷ 60 ∷ []) (exact 4 3))
    ≡ planned 2 (20 ∷ 20 ∷ 47 ∷ 53 ∷ []) (40 ∷ 47 ∷ 53 ∷ []) (0 ∷ 0 ∷ 0 ∷ 0 ∷ []) (3 ∷ 0 ∷ 1 ∷ 1 ∷ [])
unfolding plan
    follow word ensure end many total form_of percent node cord range load server table
    beneath server_lows lows first_node overloaded
through_nodes = refl

-- What programs that nearly get there get wrong: weights that are excesses; child nodes before cords; and a rank that counts
-- across breakers.
near_misses : (figures_of (plan table_n (1000 ∷ 100 ∷ []) (exact 2 2)) ≡ planned 0 (75 ∷ 75 ∷ []) (75 ∷ 75 ∷ []) (0 ∷ 0 ∷ []) (1 ∷ 1 ∷ []))
    × (figures_of (plan table_o (1 ∷ 1 ∷ []) (exact 2 2)) ≡ planned 0 (0 ∷ 1 ∷ []) (0 ∷ 1 ∷ []) (0 ∷ 0 ∷ []) (1 ∷ 0 ∷ []))
    × (figures_of (plan table_s (430 ∷ 430 ∷ 430 ∷ 430 ∷ []) (exact 4 4))
    ≡ planned 0 (430 ∷ 270 ∷ 270 ∷ 270 ∷ []) (430 ∷ 270 ∷ 270 ∷ 270 ∷ []) (0 ∷ 0 ∷ 0 ∷ 0 ∷ []) (0 ∷ 1 ∷ 1 ∷ 1 ∷ []))
unfolding plan
    follow word ensure end many total form_of percent node cord range load server table
    beneath server_lows lows first_node overloaded
near_misses = (refl, refl, refl)

-- ---- Headroom

-- (None in the rooms above, where each root asks for all of its limit.) What is left, split by ceilings less Requests; by the second
-- wants, of which cord 2's is less; where the first deal's Requests would leave node 1 none; through the nodes of room S, and none there where
-- all servers demand more; and none to its first node where that is granted its whole limit.
lends : (figures_of (plan table_h (100 ∷ 100 ∷ []) (exact 3 2)) ≡ planned 0 (50 ∷ 50 ∷ 100 ∷ []) (100 ∷ 100 ∷ []) (70 ∷ 83 ∷ 167 ∷ []) (0 ∷ 0 ∷ 0 ∷ []))
    × (figures_of (plan (table_h_with 1000) (400 ∷ 400 ∷ []) (exact 3 2)) ≡ planned 80 (120 ∷ 120 ∷ 400 ∷ []) (240 ∷ 400 ∷ []) (0 ∷ 80 ∷ 0 ∷ []) (1 ∷ 0 ∷ 0 ∷ []))
    × (figures_of (plan (table_h_with 188) (400 ∷ 400 ∷ []) (exact 3 2)) ≡ planned 70 (50 ∷ 50 ∷ 100 ∷ []) (100 ∷ 100 ∷ []) (70 ∷ 0 ∷ 0 ∷ []) (0 ∷ 2 ∷ 2 ∷ []))
    × (figures_of (plan (table_s_with 1750) (430 ∷ 270 ∷ 300 ∷ 330 ∷ []) (exact 4 4))
    ≡ planned 0 (430 ∷ 270 ∷ 300 ∷ 330 ∷ []) (430 ∷ 270 ∷ 300 ∷ 330 ∷ []) (4 ∷ 16 ∷ 27 ∷ 23 ∷ []) (0 ∷ 0 ∷ 0 ∷ 0 ∷ []))
    × (figures_of (plan (table_s_with 1750) (430 ∷ 430 ∷ 430 ∷ 430 ∷ []) (exact 4 4))
    ≡ planned 0 (430 ∷ 300 ∷ 335 ∷ 335 ∷ []) (430 ∷ 300 ∷ 335 ∷ 335 ∷ []) (0 ∷ 0 ∷ 0 ∷ 0 ∷ []) (0 ∷ 1 ∷ 1 ∷ 1 ∷ []))
    × (figures_of (plan (table_s_with 2000) (430 ∷ 430 ∷ 300 ∷ 330 ∷ []) (exact 4 4))
    ≡ planned 0 (430 ∷ 320 ∷ 300 ∷ 330 ∷ []) (430 ∷ 320 ∷ 300 ∷ 330 ∷ []) (0 ∷ 0 ∷ 64 ∷ 56 ∷ []) (0 ∷ 2 ∷ 0 ∷ 0 ∷ []))
unfolding plan
    follow word ensure end many total form_of percent node cord range load server table
    beneath server_lows lows first_node overloaded
lends = (refl, refl, refl, refl, refl, refl)

-- ---- Held cords

-- A root with 100 W over a node with 50 W. On the node hang a cord of rank 3, which wants 60 W, and one of rank 1, which wants 10 and has
-- the low 5; on the root one of rank 2, which wants 80, and one of rank 3, which wants 5.
abbrev table_b : List ℕ
table_b =
    1 ∷ 2 ∷ 0 ∷ 125 ∷ 1 ∷ 63 ∷ 4 ∷ 3 ∷ 0 ∷ 60 ∷ 1 ∷ 2 ∷ 1000 ∷ 1 ∷ 5 ∷ 10 ∷ 1 ∷ 2 ∷ 1000
    ∷ 2 ∷ 0 ∷ 80 ∷ 1 ∷ 1 ∷ 1000 ∷ 3 ∷ 0 ∷ 5 ∷ 1 ∷ 1 ∷ 1000 ∷ []

-- A root with 80 W over a node with 60 W over a node with 12 W. On the lowest node hang a cord of rank 2, which wants 40 W and has the low
-- 10, and one of rank 1, which wants 9 and has the low 2 (the table's last); on the node above it one of rank 3, which wants 100; on the
-- root one of rank 1, which wants 50 and has the low 5.
abbrev table_t : List ℕ
table_t =
    1 ∷ 3 ∷ 0 ∷ 100 ∷ 1 ∷ 75 ∷ 2 ∷ 15 ∷ 4 ∷ 2 ∷ 10 ∷ 40 ∷ 1 ∷ 3 ∷ 1000 ∷ 3 ∷ 0 ∷ 100 ∷ 1 ∷ 2 ∷ 1000
    ∷ 1 ∷ 5 ∷ 50 ∷ 1 ∷ 1 ∷ 1000 ∷ 1 ∷ 2 ∷ 9 ∷ 1 ∷ 3 ∷ 1000 ∷ []

-- In room S the root comes before the nodes that are cut too, unless it is not cut itself. In the third room the node is cut at rank 3,
-- where the root is not, and at rank 1; the root at rank 2 alone. So the cord of rank 3 is held by the node, which the root's cut at a
-- lower rank does not change, and that of rank 1 by the root, though its own rank is cut at the node alone. In the last the lowest node
-- is cut at ranks 2 and 1, the node above it at rank 3 alone, and the root at rank 1 alone: the cord of rank 2 is held by the middle one.
holds : (figures_of (plan (table_s_with 1625) (430 ∷ 430 ∷ 430 ∷ 430 ∷ []) (exact 4 4))
    ≡ planned 0 (430 ∷ 281 ∷ 294 ∷ 295 ∷ []) (430 ∷ 281 ∷ 294 ∷ 295 ∷ []) (0 ∷ 0 ∷ 0 ∷ 0 ∷ []) (0 ∷ 1 ∷ 1 ∷ 1 ∷ []))
    × (figures_of (plan (table_s_with 2000) (430 ∷ 430 ∷ 430 ∷ 430 ∷ []) (exact 4 4))
    ≡ planned 0 (430 ∷ 320 ∷ 375 ∷ 375 ∷ []) (430 ∷ 320 ∷ 375 ∷ 375 ∷ []) (0 ∷ 0 ∷ 0 ∷ 0 ∷ []) (0 ∷ 2 ∷ 3 ∷ 3 ∷ []))
    × (figures_of (plan table_b (60 ∷ 10 ∷ 80 ∷ 5 ∷ []) (exact 4 4))
    ≡ planned 0 (45 ∷ 5 ∷ 45 ∷ 5 ∷ []) (45 ∷ 5 ∷ 45 ∷ 5 ∷ []) (0 ∷ 0 ∷ 0 ∷ 0 ∷ []) (2 ∷ 1 ∷ 1 ∷ 0 ∷ []))
    × (figures_of (plan table_t (40 ∷ 100 ∷ 50 ∷ 9 ∷ []) (exact 4 4))
    ≡ planned 0 (10 ∷ 48 ∷ 20 ∷ 2 ∷ []) (10 ∷ 48 ∷ 20 ∷ 2 ∷ []) (0 ∷ 0 ∷ 0 ∷ 0 ∷ []) (2 ∷ 2 ∷ 1 ∷ 1 ∷ []))
unfolding plan
    follow word ensure end many total form_of percent node cord range load server table
    beneath server_lows lows first_node overloaded
holds = (refl, refl, refl, refl)
