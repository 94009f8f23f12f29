-- What an accepted plan writes.
use mathlib.Core.Path.{◌≡◌, sym, ◌∙◌}
use mathlib.Core.List.{List}
use Prim.Native.Nat.{ℕ}
use Rattle.outcomes.specs.Outcome.{accepted}
use Rattle.rooms.specs.Part.{good}
use Rattle.rooms.specs.Table.{Room}
use Rattle.rooms.specs.Limits.{checked}
use Rattle.deals.specs.Plan.{Plan, plan}
use Rattle.deals.specs.declared.Lengths.{Lengths}
use Rattle.deals.proofs.Plans.{plan_good, plan_good_table, Planning, plan_room_accepted}

-- An accepted plan has a room, and its lists fit.
pub record Written (table demands : List ℕ) (lengths : Lengths) (answer : Plan) : Type 0 where
  pub room : Room
  pub end : ℕ
  pub is_room : checked table 0 ≡ good room end
  pub planning : Planning room demands lengths answer

pub plan-written : (table demands : List ℕ) (lengths : Lengths) {answer : Plan} → plan table demands lengths ≡ accepted answer → Written table demands lengths answer
plan-written table demands lengths {answer} e =
    let g = plan_good table demands lengths answer e in
    record {
      room = g.value;
      end = g.next;
      is_room = g.is;
      planning = plan_room_accepted g.value demands lengths answer (sym (plan_good_table table demands lengths g.value g.next g.is) ∙ e);
    }
