-- Every claim that documents 01 and 02 ask for, in their order: the one place to look for them. A field is a statement, which stands with
-- the words that it needs in specs/Promises.antt of the crate that it is named with; proofs/Promises.antt has the proof of each, so that
-- none can be missing. A promise that is added stands in the crate of its operation, and gets a field here and a row in README.
--
-- Not here, because they are no statements about definitions: that every operation ends and stays in the memory that it is lent (proved of
-- every function), that its answer and lists are those defined (its contract), and the starred rooms (computed: proofs/WorkedRooms.antt of
-- rooms and of hutplan). Of the print: `PrintsRoom` and `PrintsInput` of the programs' crates.
use Rattle.splits.specs.Promises as splits
use Rattle.rooms.specs.Promises as rooms
use Rattle.deals.specs.Promises as deals
use Rattle.join.specs.Promises as join
use Rattle.part.specs.Promises as part
use Rattle.control.specs.Promises as control
use Rattle.control_all.specs.Promises as control_all
use Rattle.schedules.specs.Promises as schedules
use Rattle.sender.specs.Promises as sender

pub record Promises : Type 0 where
  -- ---- Document 01

  -- Demand 2: a written sheet reads back as its table, and a sheet that was read is written back, byte for byte.
  pub table_reads_back : rooms.TableReadsBack
  pub sheet_writes_back : rooms.SheetWritesBack
  -- "Dealing": the first deal in the document's own words, by excesses.
  pub first_by_excess : deals.FirstByExcess
  -- "Second deal": the answer is that of both deals.
  pub answer_of_both_deals : deals.AnswerOfBothDeals
  -- Demand 3, of each deal: every cord from low to want, every breaker within its limit.
  pub first_kept : deals.FirstKept
  pub second_kept : deals.SecondKept
  -- Demand 3, of each deal: no other way of dealing a tree gives its cords of rank r and above more.
  pub first_greatest : deals.FirstGreatest
  pub second_greatest : deals.SecondGreatest
  -- Demand 3: lower ranks' demands change nothing at a rank and above.
  pub settled_from_rank : deals.SettledFromRank
  -- Demand 3: refusal 9 exactly where the lows exceed a limit, at the lowest such node: of Read and Write, and of Plan.
  pub refusal_nine : rooms.RefusalNine
  pub plan-refusal_nine : deals.RefusalNine
  -- ---- Document 02

  -- A.1: grants and headroom beneath a node pass no limit.
  pub headroom-within_limits : deals.HeadroomWithinLimits
  -- A.1: a cord's grant and headroom pass no ceiling.
  pub headroom-within_ceilings : deals.HeadroomWithinCeilings
  -- A.1: a root lends all that it has.
  pub headroom_all_lent : deals.HeadroomAllLent
  -- A.2: the second deal in the request's own words.
  pub second_passes_first : deals.SecondPassesFirst
  -- A.2: no cap falls below what its server could use, and no grant below what was used.
  pub caps_keep_usable : deals.CapsKeepUsable
  pub grants_keep_used : deals.GrantsKeepUsed
  -- A.3: equal plans of version 1 and of version 2 with 80 throughout.
  pub eighty_throughout : deals.EightyThroughout
  -- A.4: the short way of a split gives its parts, for every short amount and weights.
  pub short_way_splits : splits.ShortWaySplits
  -- A.4: so does the long one.
  pub long_way_splits : splits.LongWaySplits
  -- A.5: the node that is named holds the cord down.
  pub held_named : deals.HeldNamed
  -- A.5: none is named for a cord with its want.
  pub held_none : deals.HeldNone
  -- A.5: which node it is.
  pub held_nearest : deals.HeldNearest
  -- A.6: the error is the least of the working cords', and the first of equals.
  pub least_error : control.LeastError
  -- A.6: the mark alone says which cords work.
  pub mark_decides : control.MarkDecides
  -- A.6: a step with no working cord keeps the whole controller.
  pub none_working_keeps_cap : control.NoneWorkingKeepsCap
  -- A.6: a step keeps k and the range, and its new cap is in it.
  pub range_stays : control.RangeStays
  pub cap_in_range : control.CapInRange
  -- A.6: where the error is zero, the cap stays.
  pub zero_error_keeps_cap : control.ZeroErrorKeepsCap
  -- A.6: 16 and 17 exactly where they are due; a refused step changes nothing.
  pub step_refusals : control.Refusals
  pub refused_unchanged : control.RefusedUnchanged
  -- A.7: each controller is left as its single step leaves it.
  pub each_as_single : control_all.EachAsSingle
  -- A.7: 18 exactly where the lists do not fit, before any is stepped.
  pub refusal_eighteen : control_all.RefusalEighteen
  -- A.8: the joined table passes every check, as the room of both.
  pub join_gives_room : join.JoinGivesRoom
  -- A.8: its plan has the first's lists followed by the second's, and tells the refusals of demands.
  pub join_plans_both : join.JoinPlansBoth
  -- A.8: so do the first deal's grants.
  pub first_grants_join : join.FirstGrantsJoin
  -- A.9: each verdict exactly where what it says is so.
  pub judged_exactly : deals.JudgedExactly
  -- A.9: our own first grants pass.
  pub first_grants_pass : deals.FirstGrantsPass
  -- A.10: a joined room, parted at its first half's counts, gives both halves.
  pub joined_parts : part.JoinedParts
  -- A.10: both parts of a good room pass every check, and joined they are the whole.
  pub parts_are_good : part.PartsAreGood
  -- A.10, of the operation: the parts that it gives pass every check, and joined are the table, word for word.
  pub part_gives_parts : part.PartGivesParts
  -- A.10, of the operation: a joined table, parted at its first half's counts, gives both tables.
  pub parts_joined : part.PartsJoined
  -- A.10: the plans of the parts are the parts of the plan: theirs make up a plan of the whole, and every plan of the whole is made up so.
  pub part_plans_both : part.PartPlansBoth
  pub plan_of_parts : part.PlanOfParts
  -- A.11, over the scale: used is never above the grant.
  pub used_granted : deals.UsedGranted
  -- A.11: usable is never below the server's least, and so no cap is.
  pub usable_in_range : deals.UsableInRange
  pub caps_in_range : deals.CapsInRange
  -- A.11: equal plans with every share tenfold.
  pub shares-tenfold : deals.SharesTenfold
  -- A.12: the sizes rise, and amperes are a size exactly where they stand among them.
  pub sizes_rise : schedules.SizesRise
  pub sizes_are_the_table : schedules.SizesAreTheTable
  -- A.12: each answer exactly where the text is due it.
  pub schedule_answered_exactly : schedules.AnsweredExactly
  -- A.12: what is accepted is just what lines in decimal make up.
  pub accepted_is_written : schedules.AcceptedIsWritten
  pub written_is_read : schedules.WrittenIsRead
  -- A.12: it gives a room that passes every check, with a node for each line.
  pub schedule_gives_room : schedules.ScheduleGivesRoom
  -- A.13: each answer exactly where it is due.
  pub send_answered_exactly : sender.AnsweredExactly
  -- A.13: a period names the next servers, none twice.
  pub period_kept : sender.PeriodKept
  -- A.13: every server is named within ceil(count / m) periods.
  pub each_within : sender.EachWithin
