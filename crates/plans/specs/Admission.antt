-- What the checks of Plan come to, once a room is loaded: its lists may still be too short. The contract of `plan` rests on
-- deals/specs/Plan.antt: only private functions, and those that lead to it, cite this.
use Rattle.std.specs.Prelude.{Result, Ok, Err}
use Rattle.outcomes.specs.Outcome.{Outcome, accepted, refused, unless}
use Rattle.deals.specs.Plan.{list_reasons}
use Rattle.deals.specs.declared.Lengths.{Lengths}
use Rattle.deals.specs.declared.PlanRefusal.{PlanRefusal}
use Rattle.layout.specs.Outcome.{refusal_of}
use Rattle.layout.specs.declared.room.Counts.{Counts}
use Rattle.layout.specs.declared.room.LoadRefusal.{LoadRefusal}

-- What is admitted of what was loaded: the room's counts, or a refusal.
unfoldable pub admitting : Result Counts LoadRefusal → Lengths → Outcome Counts PlanRefusal
unfolding unless
admitting (Ok counts) lengths = unless (list_reasons counts.cords counts.servers lengths) counts
admitting (Err refusal) lengths = refused (refusal_of refusal)

-- The answer to it.
abbrev pub admission : Outcome Counts PlanRefusal → Result Counts PlanRefusal
admission (accepted counts) = Ok counts
admission (refused refusal) = Err refusal
