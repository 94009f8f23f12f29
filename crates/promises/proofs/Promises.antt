-- Every promise, by its proof in the crate of its operation.
use Rattle.splits.proofs.Promises as splits
use Rattle.rooms.proofs.Promises as rooms
use Rattle.deals.proofs.Promises as deals
use Rattle.deals.proofs.Versions as versions
use Rattle.deals.proofs.Judged as judged
use Rattle.join.proofs.Promises as join
use Rattle.part.proofs.Promises as part
use Rattle.control.proofs.Promises as control
use Rattle.control_all.proofs.Promises as control_all
use Rattle.schedules.proofs.Promises as schedules
use Rattle.sender.proofs.Promises as sender
use Rattle.promises.specs.Promises.{Promises}

pub promises : Promises
promises = record {
  table_reads_back = rooms.table_reads_back;
  sheet_writes_back = rooms.sheet_writes_back;
  first_by_excess = deals.first_by_excess;
  answer_of_both_deals = deals.answer_of_both_deals;
  first_kept = deals.first_kept;
  second_kept = deals.second_kept;
  first_greatest = deals.first_greatest;
  second_greatest = deals.second_greatest;
  settled_from_rank = deals.settled_from_rank;
  refusal_nine = rooms.refusal_nine;
  plan-refusal_nine = deals.refusal_nine;
  headroom-within_limits = deals.headroom-within_limits;
  headroom-within_ceilings = deals.headroom-within_ceilings;
  headroom_all_lent = deals.headroom_all_lent;
  second_passes_first = deals.second_passes_first;
  caps_keep_usable = deals.caps_keep_usable;
  grants_keep_used = deals.grants_keep_used;
  eighty_throughout = versions.eighty_throughout;
  short_way_splits = splits.short_way_splits;
  long_way_splits = splits.long_way_splits;
  held_named = deals.held_named;
  held_none = deals.held_none;
  held_nearest = deals.held_nearest;
  least_error = control.least_error;
  mark_decides = control.mark_decides;
  none_working_keeps_cap = control.none_working_keeps_cap;
  range_stays = control.range_stays;
  cap_in_range = control.cap_in_range;
  zero_error_keeps_cap = control.zero_error_keeps_cap;
  step_refusals = control.refusals;
  refused_unchanged = control.refused_unchanged;
  each_as_single = control_all.each_as_single;
  refusal_eighteen = control_all.refusal_eighteen;
  join_gives_room = join.join_gives_room;
  join_plans_both = join.join_plans_both;
  first_grants_join = join.first_grants_join;
  judged_exactly = judged.judged_exactly;
  first_grants_pass = judged.first_grants_pass;
  joined_parts = part.joined_parts;
  parts_are_good = part.parts_are_good;
  part_gives_parts = part.part_gives_parts;
  parts_joined = part.parts_joined;
  part_plans_both = part.part_plans_both;
  plan_of_parts = part.plan_of_parts;
  used_granted = deals.used_granted;
  usable_in_range = deals.usable_in_range;
  caps_in_range = deals.caps_in_range;
  shares-tenfold = versions.shares-tenfold;
  sizes_rise = schedules.sizes_rise;
  sizes_are_the_table = schedules.sizes_are_the_table;
  schedule_answered_exactly = schedules.answered_exactly;
  accepted_is_written = schedules.accepted_is_written;
  written_is_read = schedules.written_is_read;
  schedule_gives_room = schedules.schedule_gives_room;
  send_answered_exactly = sender.answered_exactly;
  period_kept = sender.period_kept;
  each_within = sender.each_within;
}
