-- The outcomes of a plan: what an accepted plan says, and how long its lists are. What holds of each list by its own reason holds of any.
use mathlib.Core.Path.{◌≡◌, refl, sym, ap, subst, ◌∙◌}
use mathlib.Core.Bool.{Bool, true, false, not, true≢false}
use mathlib.Core.List.{List, [], ◌∷◌, map}
use mathlib.Core.Logic.Iff
use mathlib.Core.Logic.{◌↔◌}
use Prim.Native.Nat.{ℕ, ◌≤◌}
use native.Mathlib.Omega.{arith}
use lib.Dec.{eqb}
use lib.ListN.{length}
use borrow.Author.Tests.{eqb-true, ltb-false, le-ltb}
use Rattle.outcomes.specs.Outcome.{Outcome, accepted, refused, unless}
use Rattle.outcomes.proofs.Parts.{accepted_went}
use Rattle.outcomes.proofs.Outcomes.{unless_pass, unless-back, unless_either, unless_none, unless_is}
use Rattle.rooms.specs.Part.{Step, good, bad, Good}
use Rattle.rooms.specs.Table.{Room, room_cords}
use Rattle.rooms.specs.Limits.{checked}
use Rattle.rooms.specs.Promises.{Overloaded}
use Rattle.rooms.specs.declared.SheetRefusal.{SheetRefusal}
use Rattle.rooms.specs.declared.SheetRefusal.TheVariants.{LowsAboveLimit}
use Rattle.rooms.proofs.All.{All}
use Rattle.rooms.proofs.Overloaded.{checked_nine, nine_lows}
use Rattle.figures.specs.Figures.{figures}
use Rattle.rooms.specs.Lists.{nodes_of}
use Rattle.deals.specs.Metrics.{deal_from, deal_of}
use Rattle.deals.specs.Dealing.{granted}
use Rattle.deals.specs.SecondDeal.{usable, second_deal, second_grants, caps}
use Rattle.deals.specs.Headroom.{headroom_over, headroom}
use Rattle.deals.specs.Held.{held_over, held}
use Rattle.deals.specs.Plan.{Plan, plan_of, PlanOutcome, all_lists, output, count, count_in, entries, list_too_short, list_reasons, reasons, plan_room, plan_step, plan, answer_of, plan_list_number, plan_number}
use Rattle.deals.specs.Promises.{IsNine}
use Rattle.deals.specs.declared.Lengths.{Lengths}
use Rattle.deals.specs.declared.PlanList.{PlanList}
use Rattle.deals.specs.declared.PlanList.TheVariants.{Grants, Caps, Headroom, Held}
use Rattle.deals.specs.declared.PlanRefusal.{PlanRefusal}
use Rattle.deals.specs.declared.PlanRefusal.TheVariants.{Table, ListTooShort}
use Rattle.figures.proofs.Lists.{figures-length}
use Rattle.deals.proofs.RoomDeals.{nodes_of-length}

-- ---- The lists by their names

pub each : (P : PlanList → Type 0) → P Grants → P Caps → P Headroom → P Held → (list : PlanList) → P list
each P grants caps headroom held Grants = grants
each P grants caps headroom held Caps = caps
each P grants caps headroom held Headroom = headroom
each P grants caps headroom held Held = held

-- What holds of all of them in their order.
any_of : (P : PlanList → Type 0) → All P all_lists → (list : PlanList) → P list
unfolding All
any_of P all = each P all.0 all.1.0 all.1.1.0 all.1.1.1.0

-- Of no cords and no servers there are no entries.
pub count_none : (list : PlanList) → count 0 0 list ≡ 0
count_none = each _ refl refl refl refl

-- A list that is too short is told by another number than 9.
list_not_nine : (list : PlanList) → plan_list_number list ≡ 9 → ⊥
list_not_nine = each _ (λ e. omega arith) (λ e. omega arith) (λ e. omega arith) (λ e. omega arith)

-- ---- The lengths of the answer's lists

-- A deal of a room has as many cords as the list of their nodes.
cords-length : (r : Room) (g : ℕ → ℕ) → length (figures (length (nodes_of r)) g) ≡ room_cords r
cords-length r g = figures-length (length (nodes_of r)) g ∙ nodes_of-length r

pub second_grants-length : (r : Room) (demands : List ℕ) → length (second_grants r demands) ≡ room_cords r
unfolding second_grants second_deal deal_of deal_from granted
second_grants-length r demands = cords-length r _

pub headroom-length : (r : Room) (demands : List ℕ) → length (headroom r demands) ≡ room_cords r
unfolding headroom second_deal deal_of deal_from headroom_over
headroom-length r demands = cords-length r _

pub held-length : (r : Room) (demands : List ℕ) → length (held r demands) ≡ room_cords r
unfolding held second_deal deal_of deal_from held_over
held-length r demands = cords-length r _

pub caps-length : (r : Room) (demands : List ℕ) → length (caps r demands) ≡ length r.servers
unfolding caps usable
caps-length r demands = figures-length (length r.servers) _

pub output-length : (r : Room) (demands : List ℕ) (list : PlanList) → length (output list (plan_of r demands)) ≡ count_in r list
output-length r demands = each _ (second_grants-length r demands) (caps-length r demands) (headroom-length r demands) (held-length r demands)

-- ---- The reasons that lists give

module _ {A : Type 0} (result : A) (cords servers : ℕ) (lengths : Lengths) where
  -- All lists, or some, are long enough.
  abbrev Long : PlanList → Type 0
  Long list = count cords servers list ≤ entries lengths list

  abbrev told : List PlanList → Outcome A PlanRefusal
  told names = unless (map (list_too_short cords servers lengths) names) result

  some_long : (names : List PlanList) {given : A} → told names ≡ accepted given → All Long names
  unfolding All
  some_long [] e = tt
  some_long (list ∷ rest) e =
      let passed = unless-back _ _ result e in
      (ltb-false (entries lengths list) (count cords servers list) passed.0, some_long rest passed.1)

  some_passed : ((list : PlanList) → Long list) → (names : List PlanList) → told names ≡ accepted result
  some_passed long [] = unless_none result
  some_passed long (list ∷ rest) =
      unless_pass _ _ result (le-ltb (entries lengths list) (count cords servers list) (long list)) ∙ some_passed long rest

  some_either : (P : Outcome A PlanRefusal → Type 0) → ((list : PlanList) (place : ℕ) → P (refused (ListTooShort list place))) → P (accepted result)
      → (names : List PlanList) → P (told names)
  some_either P short whole [] = subst P (sym (unless_none result)) whole
  some_either P short whole (list ∷ rest) =
      unless_either (list_too_short cords servers lengths list) _ result P (λ _. short list (count cords servers list)) (λ _. some_either P short whole rest)

  -- Lists that give no reason to refuse are long enough, and those that are long enough give none.
  pub lists-long : {given : A} → unless (list_reasons cords servers lengths) result ≡ accepted given → (list : PlanList) → Long list
  lists-long e = any_of Long (some_long all_lists e)

  pub lists-passed : ((list : PlanList) → Long list) → unless (list_reasons cords servers lengths) result ≡ accepted result
  lists-passed long = some_passed long all_lists

  -- What holds wherever a list is too short, and where the result is accepted, holds.
  pub lists_either : (P : Outcome A PlanRefusal → Type 0) → ((list : PlanList) (place : ℕ) → P (refused (ListTooShort list place)))
      → P (accepted result) → P (unless (list_reasons cords servers lengths) result)
  lists_either P short whole = some_either P short whole all_lists

-- ---- The table

pub plan_room_is : (r : Room) (demands : List ℕ) (lengths : Lengths) → plan_room r demands lengths ≡ unless (reasons r demands lengths) (plan_of r demands)
unfolding plan_room
plan_room_is r demands lengths = refl

pub plan_bad_table : (table demands : List ℕ) (lengths : Lengths) (refusal : SheetRefusal) → checked table 0 ≡ bad refusal
    → plan table demands lengths ≡ refused (Table refusal)
unfolding plan
plan_bad_table table demands lengths refusal e = ap (λ (s : Step Room). plan_step s demands lengths) e

pub plan_good_table : (table demands : List ℕ) (lengths : Lengths) (r : Room) (end : ℕ) → checked table 0 ≡ good r end
    → plan table demands lengths ≡ plan_room r demands lengths
unfolding plan
plan_good_table table demands lengths r end e = ap (λ (s : Step Room). plan_step s demands lengths) e

-- An accepted plan has a good table.
pub plan_good : (table demands : List ℕ) (lengths : Lengths) (answer : Plan) → plan table demands lengths ≡ accepted answer → Good (checked table 0)
unfolding plan
plan_good table demands lengths answer e = (accepted_went Table (λ room. plan_room room demands lengths) (checked table 0) e).good_step

-- ---- What an accepted plan says

-- A list has the entries that what is written to it needs.
pub record Fits (written : List ℕ) (needed entries : ℕ) : Type 0 where
  pub count : length written ≡ needed
  pub within : needed ≤ entries

-- An accepted plan is that of its room, which has as many servers as there are demands, and fits its lists.
pub record Planning (r : Room) (demands : List ℕ) (lengths : Lengths) (answer : Plan) : Type 0 where
  pub is : answer ≡ plan_of r demands
  pub demand_count : length demands ≡ length r.servers
  pub fits : (list : PlanList) → Fits (output list answer) (count_in r list) (entries lengths list)

pub plan_room_accepted : (r : Room) (demands : List ℕ) (lengths : Lengths) (answer : Plan) → plan_room r demands lengths ≡ accepted answer
    → Planning r demands lengths answer
plan_room_accepted r demands lengths answer e =
    let all = sym (plan_room_is r demands lengths) ∙ e in
    let is = unless_is _ (plan_of r demands) answer all in
    let same = unless-back _ _ (plan_of r demands) all in
    let small = unless-back _ _ (plan_of r demands) same.1 in
    let long = lists-long (plan_of r demands) (room_cords r) (length r.servers) lengths small.1 in
    record {
      is = is;
      demand_count = not_differs (length demands) (length r.servers) same.0;
      fits = λ list. record { count = ap (λ (p : Plan). length (output list p)) is ∙ output-length r demands list; within = long list };
    }
  where
    not_differs : (a b : ℕ) → not (eqb a b) ≡ false → a ≡ b
    not_differs a b e = go (eqb a b) refl e
      where
        go : (t : Bool) → eqb a b ≡ t → not t ≡ false → a ≡ b
        go true q d = eqb-true a b q
        go false q d = absurd (true≢false d)

-- ---- Refusal 9

-- The number of an outcome is not 9.
record NotNine (o : PlanOutcome) : Type 0 where
  other : plan_number (answer_of o) ≡ 9 → ⊥

-- The plan of a good room is accepted, or refused by 10 and on.
room_other : (r : Room) (demands : List ℕ) (lengths : Lengths) → NotNine (plan_room r demands lengths)
room_other r demands lengths =
    subst NotNine (sym (plan_room_is r demands lengths))
    (unless_either _ _ (plan_of r demands) NotNine (λ _. record { other = λ e. omega arith }) (λ _.
    unless_either _ _ (plan_of r demands) NotNine (λ _. record { other = λ e. omega arith }) (λ _.
    lists_either (plan_of r demands) (room_cords r) (length r.servers) lengths NotNine
    (λ list place. record { other = list_not_nine list }) (record { other = λ e. omega arith }))))

step_nine : (s : Step Room) (demands : List ℕ) (lengths : Lengths) (n : ℕ) → IsNine (answer_of (plan_step s demands lengths)) n ↔ (s ≡ bad (LowsAboveLimit n))
step_nine (good r end) demands lengths n =
    (λ a. absurd ((room_other r demands lengths).other a.0), λ e. absurd (let z : ◌≡◌ {A = ℕ} 0 1 = cc in omega arith))
step_nine (bad refusal) demands lengths n = (
  λ a. ap bad (nine_lows refusal n a.0 a.1),
  λ e. let q : refusal ≡ LowsAboveLimit n = cc in rw q (refl, refl),
)

pub plan_nine : (table demands : List ℕ) (lengths : Lengths) (n : ℕ) → IsNine (answer_of (plan table demands lengths)) n ↔ Overloaded table n
unfolding plan
plan_nine table demands lengths n = Iff.trans (step_nine (checked table 0) demands lengths n) (checked_nine table n)
