-- The starred rooms of document 01, which has their figures by hand: one check of all, which the definitions compute. And room H with
-- demands that leave headroom (request A.1), and a room each of versions 2 and 3 (requests A.3 and A.11).
use mathlib.Core.Path.{◌≡◌, refl, ap, ◌∙◌}
use mathlib.Core.List.{List, [], ◌∷◌, ◌++◌}
use Prim.Native.Nat.{ℕ}
use native.Mathlib.Omega.{arith}
use lib.ListN.{length}
use lib.Seq.{sets}
use Rattle.numbers.specs.Number.{number, later}
use Rattle.numbers.specs.Sheet.{sheet_from}
use Rattle.rooms.specs.Part.{Step, good, bad, follow, word, ensure, end, many}
use Rattle.figures.specs.Figures.{total}
use Rattle.figures.specs.Bounds.{first_not_below}
use Rattle.rooms.specs.Table.{Room, form_of, percent, node, cord, range, load, server, table}
use Rattle.rooms.specs.Trees.{beneath}
use Rattle.rooms.specs.Limits.{server_lows, lows, first_node, overloaded, checked}
use Rattle.rooms.specs.Outcome.{SheetOutcome, reading, answer_of, sheet_number, sheet_figure}
use Rattle.deals.specs.SecondDeal.{first_grants, first_usable}
use Rattle.outcomes.specs.Outcome.{after}
use Rattle.outcomes.specs.Outcome as outcomes
use Rattle.outcomes.proofs.Outcomes.{unless_pass}
use Rattle.deals.specs.Plan.{PlanOutcome, plan_of, output, Lists, lent, most_lent, plan}
use Rattle.deals.specs.Plan as plan
use Rattle.deals.specs.declared.Lengths.{Lengths}
use Rattle.deals.specs.declared.PlanList.{PlanList}
use Rattle.std.proofs.Common.{Ok}
use Rattle.deals.proofs.Plans.{count_none, output-length, lists-passed, plan_room_is, plan_good_table}
use Rattle.deals.proofs.WorkedRooms.{figures_of, planned}
use Rattle.demands.specs.Text.{before, lines, are_digits, number_after, demand_of, demands_of}
use Rattle.print.specs.Line.{numeral, freed_line, server_line, cord_line, refused_line}
use Rattle.print.specs.Print.{lines_from, server_print, servers_print, print_of}
use Rattle.hutplan.specs.Printed.{table_text, sheet_text, printed}

-- Room H's 28 bytes, with those of node 2's rating given.
abbrev sheet_h : ℕ → ℕ → List ℕ
sheet_h low high =
    0x01 ∷ 0x02 ∷ 0x00 ∷ 0x96 ∷ 0x01 ∷ 0x00 ∷ low ∷ high ∷ 0x02 ∷ 0x01 ∷ 0x64 ∷ 0x90 ∷ 0x03 ∷ 0x02
    ∷ 0x01 ∷ 0xF4 ∷ 0x03 ∷ 0x02 ∷ 0xF4 ∷ 0x03 ∷ 0x01 ∷ 0x64 ∷ 0x90 ∷ 0x03 ∷ 0x01 ∷ 0x02 ∷ 0xE8 ∷ 0x07 ∷ []

-- Its words, with node 2's rating given.
abbrev table_h : ℕ → List ℕ
table_h rating = 1 ∷ 2 ∷ 0 ∷ 150 ∷ 0 ∷ rating ∷ 2 ∷ 1 ∷ 100 ∷ 400 ∷ 2 ∷ 1 ∷ 500 ∷ 2 ∷ 500 ∷ 1 ∷ 100 ∷ 400 ∷ 1 ∷ 2 ∷ 1000 ∷ []

-- The texts of the demands 400 and 400 and of 100 and 100, a line each.
abbrev twice400 : List ℕ
twice400 = 52 ∷ 48 ∷ 48 ∷ 10 ∷ 52 ∷ 48 ∷ 48 ∷ 10 ∷ []

abbrev twice100 : List ℕ
twice100 = 49 ∷ 48 ∷ 48 ∷ 10 ∷ 49 ∷ 48 ∷ 48 ∷ 10 ∷ []

-- What `hutplan` prints of the first, each line as its bytes: `freed 13`, `server 1 cap 240`,
-- `cord 1 node 1 grant 120 headroom 0 held 1`, `cord 2 node 2 grant 120 headroom 0 held 0`, `server 2 cap 280`,
-- `cord 1 node 2 grant 280 headroom 0 held 2`. (The last two figures are by hand, by requests A.1 and A.5: node 1 asks for 120 W of 200,
-- node 2 for 400 of 120 + 400, and both so for all of their limits; cord 2 has the 120 W that it wants.)
abbrev print400 : List ℕ
print400 =
    (102 ∷ 114 ∷ 101 ∷ 101 ∷ 100 ∷ 32 ∷ 49 ∷ 51 ∷ 10 ∷ [])
    ++ (115 ∷ 101 ∷ 114 ∷ 118 ∷ 101 ∷ 114 ∷ 32 ∷ 49 ∷ 32 ∷ 99 ∷ 97 ∷ 112 ∷ 32 ∷ 50 ∷ 52 ∷ 48 ∷ 10 ∷ [])
    ++ (99 ∷ 111 ∷ 114 ∷ 100 ∷ 32 ∷ 49 ∷ 32 ∷ 110 ∷ 111 ∷ 100 ∷ 101 ∷ 32 ∷ 49 ∷ 32
    ∷ 103 ∷ 114 ∷ 97 ∷ 110 ∷ 116 ∷ 32 ∷ 49 ∷ 50 ∷ 48 ∷ 32
    ∷ 104 ∷ 101 ∷ 97 ∷ 100 ∷ 114 ∷ 111 ∷ 111 ∷ 109 ∷ 32 ∷ 48 ∷ 32
    ∷ 104 ∷ 101 ∷ 108 ∷ 100 ∷ 32 ∷ 49 ∷ 10 ∷ [])
    ++ (99 ∷ 111 ∷ 114 ∷ 100 ∷ 32 ∷ 50 ∷ 32 ∷ 110 ∷ 111 ∷ 100 ∷ 101 ∷ 32 ∷ 50 ∷ 32
    ∷ 103 ∷ 114 ∷ 97 ∷ 110 ∷ 116 ∷ 32 ∷ 49 ∷ 50 ∷ 48 ∷ 32
    ∷ 104 ∷ 101 ∷ 97 ∷ 100 ∷ 114 ∷ 111 ∷ 111 ∷ 109 ∷ 32 ∷ 48 ∷ 32
    ∷ 104 ∷ 101 ∷ 108 ∷ 100 ∷ 32 ∷ 48 ∷ 10 ∷ [])
    ++ (115 ∷ 101 ∷ 114 ∷ 118 ∷ 101 ∷ 114 ∷ 32 ∷ 50 ∷ 32 ∷ 99 ∷ 97 ∷ 112 ∷ 32 ∷ 50 ∷ 56 ∷ 48 ∷ 10 ∷ [])
    ++ (99 ∷ 111 ∷ 114 ∷ 100 ∷ 32 ∷ 49 ∷ 32 ∷ 110 ∷ 111 ∷ 100 ∷ 101 ∷ 32 ∷ 50 ∷ 32
    ∷ 103 ∷ 114 ∷ 97 ∷ 110 ∷ 116 ∷ 32 ∷ 50 ∷ 56 ∷ 48 ∷ 32
    ∷ 104 ∷ 101 ∷ 97 ∷ 100 ∷ 114 ∷ 111 ∷ 111 ∷ 109 ∷ 32 ∷ 48 ∷ 32
    ∷ 104 ∷ 101 ∷ 108 ∷ 100 ∷ 32 ∷ 50 ∷ 10 ∷ [])

-- And of the second: `freed 0`, `server 1 cap 100`, `cord 1 node 1 grant 50 headroom 70 held 0`,
-- `cord 2 node 2 grant 50 headroom 83 held 0`, `server 2 cap 100`, `cord 1 node 2 grant 100 headroom 167 held 0`.
abbrev print100 : List ℕ
print100 =
    (102 ∷ 114 ∷ 101 ∷ 101 ∷ 100 ∷ 32 ∷ 48 ∷ 10 ∷ [])
    ++ (115 ∷ 101 ∷ 114 ∷ 118 ∷ 101 ∷ 114 ∷ 32 ∷ 49 ∷ 32 ∷ 99 ∷ 97 ∷ 112 ∷ 32 ∷ 49 ∷ 48 ∷ 48 ∷ 10 ∷ [])
    ++ (99 ∷ 111 ∷ 114 ∷ 100 ∷ 32 ∷ 49 ∷ 32 ∷ 110 ∷ 111 ∷ 100 ∷ 101 ∷ 32 ∷ 49 ∷ 32
    ∷ 103 ∷ 114 ∷ 97 ∷ 110 ∷ 116 ∷ 32 ∷ 53 ∷ 48 ∷ 32
    ∷ 104 ∷ 101 ∷ 97 ∷ 100 ∷ 114 ∷ 111 ∷ 111 ∷ 109 ∷ 32 ∷ 55 ∷ 48 ∷ 32
    ∷ 104 ∷ 101 ∷ 108 ∷ 100 ∷ 32 ∷ 48 ∷ 10 ∷ [])
    ++ (99 ∷ 111 ∷ 114 ∷ 100 ∷ 32 ∷ 50 ∷ 32 ∷ 110 ∷ 111 ∷ 100 ∷ 101 ∷ 32 ∷ 50 ∷ 32
    ∷ 103 ∷ 114 ∷ 97 ∷ 110 ∷ 116 ∷ 32 ∷ 53 ∷ 48 ∷ 32
    ∷ 104 ∷ 101 ∷ 97 ∷ 100 ∷ 114 ∷ 111 ∷ 111 ∷ 109 ∷ 32 ∷ 56 ∷ 51 ∷ 32
    ∷ 104 ∷ 101 ∷ 108 ∷ 100 ∷ 32 ∷ 48 ∷ 10 ∷ [])
    ++ (115 ∷ 101 ∷ 114 ∷ 118 ∷ 101 ∷ 114 ∷ 32 ∷ 50 ∷ 32 ∷ 99 ∷ 97 ∷ 112 ∷ 32 ∷ 49 ∷ 48 ∷ 48 ∷ 10 ∷ [])
    ++ (99 ∷ 111 ∷ 114 ∷ 100 ∷ 32 ∷ 49 ∷ 32 ∷ 110 ∷ 111 ∷ 100 ∷ 101 ∷ 32 ∷ 50 ∷ 32
    ∷ 103 ∷ 114 ∷ 97 ∷ 110 ∷ 116 ∷ 32 ∷ 49 ∷ 48 ∷ 48 ∷ 32
    ∷ 104 ∷ 101 ∷ 97 ∷ 100 ∷ 114 ∷ 111 ∷ 111 ∷ 109 ∷ 32 ∷ 49 ∷ 54 ∷ 55 ∷ 32
    ∷ 104 ∷ 101 ∷ 108 ∷ 100 ∷ 32 ∷ 48 ∷ 10 ∷ [])

-- `refused 9 at 2`.
abbrev nine_at_two : List ℕ
nine_at_two = 114 ∷ 101 ∷ 102 ∷ 117 ∷ 115 ∷ 101 ∷ 100 ∷ 32 ∷ 57 ∷ 32 ∷ 97 ∷ 116 ∷ 32 ∷ 50 ∷ 10 ∷ []

-- Room S, with a root of the rating given, and its demands.
abbrev table_s : ℕ → List ℕ
table_s rating =
    1 ∷ 3 ∷ 0 ∷ rating ∷ 1 ∷ 938 ∷ 1 ∷ 938 ∷ 4 ∷ 2 ∷ 270 ∷ 500 ∷ 1 ∷ 2 ∷ 1000 ∷ 1 ∷ 270 ∷ 500 ∷ 1 ∷ 2 ∷ 1000
    ∷ 1 ∷ 270 ∷ 500 ∷ 1 ∷ 3 ∷ 1000 ∷ 1 ∷ 270 ∷ 500 ∷ 1 ∷ 3 ∷ 1000 ∷ []

abbrev demands_s : List ℕ
demands_s = 430 ∷ 430 ∷ 430 ∷ 430 ∷ []

-- One node of 100 W, and no servers.
abbrev no_servers : List ℕ
no_servers = 1 ∷ 1 ∷ 0 ∷ 100 ∷ 0 ∷ []

-- Figures of the room that a table gives.
abbrev of_room : Step Room → (Room → List ℕ) → List ℕ
of_room (good r end) figure = figure r
of_room (bad refusal) figure = []

-- The number and the place of the answer to Read.
abbrev numbered : SheetOutcome → ℕ × ℕ
numbered outcome = (sheet_number (answer_of outcome), sheet_figure (answer_of outcome))

-- The grants of a plan; none if it is refused.
abbrev grants_of : PlanOutcome → List ℕ
grants_of (outcomes.accepted answer) = answer.grants
grants_of (outcomes.refused refusal) = []

-- The starred items, in their order.
pub record Starred : Type 0 where
  pub words_h : reading (sheet_h 0xF4 0x03) 21 ≡ outcomes.accepted (table_h 500)
  pub count_h : length (table_h 500) ≡ 21
  pub first_grants_h : of_room (checked (table_h 500) 0) (λ r. first_grants r (400 ∷ 400 ∷ [])) ≡ 120 ∷ 133 ∷ 267 ∷ []
  pub first_usable_h : of_room (checked (table_h 500) 0) (λ r. first_usable r (400 ∷ 400 ∷ [])) ≡ 240 ∷ 267 ∷ []
  pub print_h : printed (sheet_h 0xF4 0x03) twice400 ≡ print400
  pub rated188 : reading (sheet_h 0xBC 0x01) 21 ≡ outcomes.accepted (table_h 188)
  pub rated187 : numbered (reading (sheet_h 0xBB 0x01) 21) ≡ (9, 2)
  pub print187 : printed (sheet_h 0xBB 0x01) twice400 ≡ nine_at_two
  pub root1550 : grants_of (plan (table_s 1550) demands_s most_lent) ≡ 430 ∷ 270 ∷ 270 ∷ 270 ∷ []
  pub root1625 : grants_of (plan (table_s 1625) demands_s most_lent) ≡ 430 ∷ 281 ∷ 294 ∷ 295 ∷ []
  pub byte80 : numbered (reading (0x80 ∷ []) 1) ≡ (3, 0)
  pub bytes018000 : numbered (reading (0x01 ∷ 0x80 ∷ 0x00 ∷ []) 3) ≡ (2, 1)
  pub bytes80808080 : numbered (reading (0x80 ∷ 0x80 ∷ 0x80 ∷ 0x80 ∷ []) 4) ≡ (1, 0)
  pub no_servers_freed : (given : Lists) → plan.answer_of (plan no_servers [] (lent given)) ≡ Ok 0
  pub no_servers_lists : (given : Lists) (list : PlanList) → after (output list) (plan no_servers [] (lent given)) (given list) ≡ given list

-- The room without servers, and its plan, whatever the lengths of the lists.
abbrev unserved : Room
unserved = record { scale = 1000; nodes = record { parent = 0; rating = 100; percent = 80 } ∷ []; servers = [] }

unserved_checked : checked no_servers 0 ≡ good unserved 5
unfolding checked follow word ensure end many total form_of percent node cord range load server table beneath server_lows lows first_node overloaded
unserved_checked = refl

unserved_planned : (lengths : Lengths) → plan no_servers [] lengths ≡ outcomes.accepted (plan_of unserved [])
unfolding first_not_below total
unserved_planned lengths =
    plan_good_table no_servers [] lengths unserved 5 unserved_checked
    ∙ plan_room_is unserved [] lengths
    ∙ unless_pass _ _ (plan_of unserved []) refl
    ∙ unless_pass _ _ (plan_of unserved []) refl
    ∙ lists-passed (plan_of unserved []) 0 0 lengths (λ list. omega (arith, count_none list))

-- What is written of no entries changes nothing.
none_written : (list out : List ℕ) → length out ≡ 0 → sets list 0 out ≡ list
none_written list [] e = refl
none_written list (x ∷ out) e = absurd (omega arith)

pub starred : Starred
unfolding printed sheet_text table_text reading number later sheet_from
    follow word ensure end many total form_of percent node cord range load server table beneath server_lows lows first_node overloaded
    demands_of lines before demand_of are_digits number_after plan first_grants first_usable
    print_of servers_print server_print lines_from freed_line server_line cord_line refused_line numeral
starred =
    record {
      words_h = refl;
      count_h = refl;
      first_grants_h = refl;
      first_usable_h = refl;
      print_h = refl;
      rated188 = refl;
      rated187 = refl;
      print187 = refl;
      root1550 = refl;
      root1625 = refl;
      byte80 = refl;
      bytes018000 = refl;
      bytes80808080 = refl;
      no_servers_freed = λ given. ap plan.answer_of (unserved_planned (lent given));
      no_servers_lists = λ given list. ap (λ (o : PlanOutcome). after (output list) o (given list)) (unserved_planned (lent given))
          ∙ none_written (given list) (output list (plan_of unserved [])) (output-length unserved [] list ∙ count_none list);
    }

-- Room H with demands 100 and 100, by hand: node 1 has 120 − 50 = 70 W to lend, and node 2 400 − 150 = 250, which it splits by
-- 200 − 50 and 400 − 100.
pub headroom_printed : printed (sheet_h 0xF4 0x03) twice100 ≡ print100
unfolding printed sheet_text table_text reading number later sheet_from
    follow word ensure end many total form_of percent node cord range load server table beneath server_lows lows first_node overloaded
    demands_of lines before demand_of are_digits number_after plan
    print_of servers_print server_print lines_from freed_line server_line cord_line numeral
headroom_printed = refl

-- A room of version 2, by hand: a root of 150 W at 100 percent over a node of 100 W at 80, limits 150 and 80. Server 1 has two cords on
-- the node, with shares 400 and 600; server 2 a cord on the root with all of its load, and one on the node with a share of 0. All lows are
-- 0, and the wants 80, 120, 100 and 0. The root splits 150 by 80 and 100, the node 66 by 80, 120 and 0: first grants 26, 40, 84, 0. Server
-- 1 can use the lesser of 65 and 66, so that 1 W is freed, and the second cord wants 39. The root passes on 65 and 84 and splits 1 by 15
-- and 16. It has asked for all of its limit, so that nothing is lent, and holds the two cords that want more.
abbrev table_two : List ℕ
table_two =
    2 ∷ 2 ∷ 0 ∷ 150 ∷ 100 ∷ 1 ∷ 100 ∷ 80 ∷ 2 ∷ 1 ∷ 0 ∷ 200 ∷ 2 ∷ 2 ∷ 400 ∷ 2 ∷ 600
    ∷ 1 ∷ 0 ∷ 100 ∷ 2 ∷ 1 ∷ 1000 ∷ 2 ∷ 0 ∷ []

-- And one of version 3: a node of 450 W at 80 percent, limit 360, with both cords of a server of 100 to 400 W that wants 300, by shares
-- of 3,333 and 6,667. Lows 34 and 67, wants 100 and 201, which are granted, and ceilings 134 and 267: the node's ceiling is its limit, and
-- its 59 W are split by 34 and 66.
abbrev table_three : List ℕ
table_three = 3 ∷ 1 ∷ 0 ∷ 450 ∷ 80 ∷ 1 ∷ 1 ∷ 100 ∷ 400 ∷ 2 ∷ 1 ∷ 3333 ∷ 1 ∷ 6667 ∷ []

pub versions : (figures_of (plan table_two (200 ∷ 100 ∷ []) most_lent) ≡ planned 1 (26 ∷ 39 ∷ 85 ∷ 0 ∷ []) (65 ∷ 85 ∷ []) (0 ∷ 0 ∷ 0 ∷ 0 ∷ []) (1 ∷ 0 ∷ 1 ∷ 0 ∷ []))
    × (figures_of (plan table_three (300 ∷ []) most_lent) ≡ planned 0 (100 ∷ 201 ∷ []) (300 ∷ []) (20 ∷ 39 ∷ []) (0 ∷ 0 ∷ []))
unfolding plan
    follow word ensure end many total form_of percent node cord range load server table beneath server_lows lows first_node overloaded
versions = (refl, refl)
