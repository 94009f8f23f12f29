-- Plan in the code's terms: what its checks come to, in their order, and what it leaves in its lists.
use mathlib.Core.Path.{◌≡◌, refl, sym, ap, ap₂, ◌∙◌}
use mathlib.Core.Bool.{Bool, true, false, not}
use mathlib.Core.List.{List, [], ◌∷◌, ◌++◌}
use Prim.Native.Nat.{ℕ, ◌≤◌, ◌<◌}
use native.Mathlib.Omega.{arith}
use lib.Dec.{eqb, ltb}
use lib.ListN.{length, take, drop}
use lib.Seq.{sets, length-sets, take_all}
use borrow.Author.Tests.{lt-ltb, le-ltb}
use Rattle.outcomes.specs.Outcome.{Outcome, accepted, refused, Reason, too_short, unless}
use Rattle.outcomes.proofs.Outcomes.{accepted≢refused, accepted_is, unless_stop, unless_pass, unless-back, unless_none, unless_is}
use Rattle.figures.proofs.Lists.{figures-length}
use Rattle.figures.proofs.Stores.{sets-front, take-sets, drop-sets}
use Rattle.rooms.specs.Part.{Step, good, bad}
use Rattle.rooms.specs.Table.{Room, room_cords}
use Rattle.rooms.specs.Limits.{checked}
use Rattle.rooms.specs.declared.lists.CordRow.{CordRow}
use Rattle.rooms.proofs.Accepted.{Accepted}
use Rattle.deals.specs.Wants.{needs}
use Rattle.deals.specs.Plan.{Plan, plan_of, output, count, entries, Lists, PlanReason, first_too_large, count_differs, demand_too_large, list_reasons, reasons, plan}
use Rattle.deals.specs.declared.Lengths.{Lengths}
use Rattle.deals.specs.declared.PlanList.{PlanList}
use Rattle.deals.specs.declared.PlanRefusal.{PlanRefusal}
use Rattle.deals.specs.declared.PlanRefusal.TheVariants.{DemandCount, DemandTooLarge, ListTooShort}
use Rattle.std.specs.Prelude.{Result, Ok, Err}
use Rattle.deals.proofs.RoomHeadroom.{ceilings_count}
use Rattle.deals.proofs.Plans.{lists-long, plan_room_is, plan_bad_table, plan_good_table}
use Rattle.layout.specs.Outcome.{LoadOutcome, loading, counts_of, loaded_of, refusal_of}
use Rattle.layout.specs.Room.{RoomLoaded}
use Rattle.layout.specs.declared.room.Counts.{Counts}
use Rattle.layout.specs.declared.room.LoadRefusal.{LoadRefusal}
use Rattle.layout.proofs.Loads.{loading_good, loading_bad, RoomFound, outcome_found}
use Rattle.plan_rooms.specs.Planning.{PlanGiven}
use Rattle.plans.specs.Admission.{admitting, admission}
use Rattle.plans.specs.Done.{plan_in, PlanDone}

-- ---- The checks behind the loading, in their order

module _ (loaded : Result Counts LoadRefusal) (lengths : Lengths) where
  -- These reasons to refuse are left, and decide.
  pub record Left (counts : Counts) (rest : List PlanReason) : Type 0 where
    pub is : admitting loaded lengths ≡ unless rest counts

  -- A refusal of the loading stands.
  pub loading-told : {q : LoadRefusal} → loaded ≡ Err q → Err (refusal_of q) ≡ admission (admitting loaded lengths)
  unfolding admitting
  loading-told e = rw e refl

  -- Of a room that is loaded all reasons are left.
  pub loading-passed : {counts : Counts} → loaded ≡ Ok counts → Left counts (list_reasons counts.cords counts.servers lengths)
  unfolding admitting
  loading-passed e = record { is = ap (λ (l : Result Counts LoadRefusal). admitting l lengths) e }

  -- A list is too short, and that is told; or it is not, and the others are left.
  module _ {counts : Counts} {list : PlanList} {entries needed : ℕ} {rest : List PlanReason} (left : Left counts (too_short (ListTooShort list) entries needed ∷ rest)) where
    pub short_told : entries < needed → Err (ListTooShort list needed) ≡ admission (admitting loaded lengths)
    short_told h = rw (left.is ∙ unless_stop (too_short (ListTooShort list) entries needed) rest counts (lt-ltb entries needed h)) refl

    pub list_passed : needed ≤ entries → Left counts rest
    list_passed h = record { is = left.is ∙ unless_pass (too_short (ListTooShort list) entries needed) rest counts (le-ltb entries needed h) }

  -- No reason is left.
  pub all_passed : {counts : Counts} → Left counts [] → Ok counts ≡ admission (admitting loaded lengths)
  all_passed {counts} left = rw (left.is ∙ unless_none counts) refl

-- ---- Plan, by what was loaded and admitted

-- What reasons come to, they come to whatever is to be accepted.
module _ {A B R : Type 0} (a : A) (b : B) where
  other_accepted : (reasons : List (Reason R)) {given : A} → unless reasons a ≡ accepted given → unless reasons b ≡ accepted b
  other_accepted [] e = unless_none b
  other_accepted (reason ∷ rest) e =
      let u = unless-back reason rest a e in
      unless_pass reason rest b u.0 ∙ other_accepted rest u.1

  other_refused : (reasons : List (Reason R)) {q : R} → unless reasons a ≡ refused q → unless reasons b ≡ refused q
  other_refused [] e = absurd (accepted≢refused (sym (unless_none a) ∙ e))
  other_refused (reason ∷ rest) {q} e = go reason.holds refl (λ h. other_refused rest h)
    where
      go : (t : Bool) → reason.holds ≡ t → (unless rest a ≡ refused q → unless rest b ≡ refused q) → unless (reason ∷ rest) b ≡ refused q
      go true h others =
          let same : ◌≡◌ {A = Outcome A R} (refused reason.refusal) (refused q) = sym (unless_stop reason rest a h) ∙ e in
          let is : reason.refusal ≡ q = cc in
          unless_stop reason rest b h ∙ ap refused is
      go false h others = unless_pass reason rest b h ∙ others (sym (unless_pass reason rest a h) ∙ e)

-- Plan, where a room is loaded: the other reasons decide. Where it is not, its refusal stands.
module _ (table demands : List ℕ) (lengths : Lengths) where
  room_planned : {r : Room} → loading table demands ≡ accepted r → plan table demands lengths ≡ unless (list_reasons (room_cords r) (length r.servers) lengths) (plan_of r demands)
  room_planned {r} e =
      let f = outcome_found table demands e in
      let is : checked table 0 ≡ good r f.end = f.is ∙ ap (λ (x : Room). good x f.end) (accepted_is (sym f.accepts ∙ e)) in
      let first = unless-back _ _ r (sym (loading_good table demands is) ∙ e) in
      let second = unless-back _ _ r first.1 in
      plan_good_table table demands lengths r f.end is
      ∙ plan_room_is r demands lengths
      ∙ unless_pass (count_differs DemandCount r demands) _ (plan_of r demands) first.0
      ∙ unless_pass (demand_too_large DemandTooLarge demands) _ (plan_of r demands) second.0

  refusal_planned : {q : LoadRefusal} → loading table demands ≡ refused q → plan table demands lengths ≡ refused (refusal_of q)
  refusal_planned {q} e = go (checked table 0) refl
    where
      same : {p : LoadRefusal} → loading table demands ≡ refused p → p ≡ q
      same d = let h : ◌≡◌ {A = LoadOutcome} (refused _) (refused q) = sym d ∙ e in cc

      in_room : (r : Room) (end : ℕ) → checked table 0 ≡ good r end → (count large : Bool) → not (eqb (length demands) (length r.servers)) ≡ count
          → ltb (first_too_large demands) (length demands) ≡ large → unless (reasons r demands lengths) (plan_of r demands) ≡ refused (refusal_of q)
      in_room r end is true large c l =
          unless_stop (count_differs DemandCount r demands) _ (plan_of r demands) c ∙ ap (λ (p : LoadRefusal). refused (refusal_of p)) (same (loading_good table demands is ∙ unless_stop _ _ r c))
      in_room r end is false true c l =
          unless_pass (count_differs DemandCount r demands) _ (plan_of r demands) c
          ∙ unless_stop (demand_too_large DemandTooLarge demands) _ (plan_of r demands) l
          ∙ ap (λ (p : LoadRefusal). refused (refusal_of p)) (same (loading_good table demands is ∙ unless_pass _ _ r c ∙ unless_stop _ _ r l))
      in_room r end is false false c l =
          absurd (accepted≢refused (sym (loading_good table demands is ∙ unless_pass _ _ r c ∙ unless_pass _ _ r l ∙ unless_none r) ∙ e))

      go : (s : Step Room) → checked table 0 ≡ s → plan table demands lengths ≡ refused (refusal_of q)
      go (good r end) is =
          plan_good_table table demands lengths r end is ∙ plan_room_is r demands lengths ∙ in_room r end is _ _ refl refl
      go (bad p) is = plan_bad_table table demands lengths p is ∙ ap (λ (p : LoadRefusal). refused (refusal_of p)) (same (loading_bad table demands is))

-- ---- What is admitted

-- A room is found, the plan is that of the room, and every list has space for it.
pub record Admitted (table demands : List ℕ) (lengths : Lengths) (counts : Counts) : Type 0 where
  pub room_found : RoomFound table demands counts
  pub is : plan table demands lengths ≡ accepted (plan_of room_found.room demands)
  pub long : (list : PlanList) → count counts.cords counts.servers list ≤ entries lengths list

module _ (table demands : List ℕ) (lengths : Lengths) {loaded : Result Counts LoadRefusal} (l : loaded ≡ loaded_of (loading table demands)) where
  -- What the checks behind the loading come to.
  by_room : {r : Room} → loading table demands ≡ accepted r → admitting loaded lengths ≡ unless (list_reasons (room_cords r) (length r.servers) lengths) (counts_of r)
  unfolding admitting
  by_room e = ap (λ (x : Result Counts LoadRefusal). admitting x lengths) (l ∙ ap loaded_of e)

  by_refusal : {q : LoadRefusal} → loading table demands ≡ refused q → admitting loaded lengths ≡ refused (refusal_of q)
  unfolding admitting
  by_refusal e = ap (λ (x : Result Counts LoadRefusal). admitting x lengths) (l ∙ ap loaded_of e)

  pub admitted_good : {counts : Counts} → Ok counts ≡ admission (admitting loaded lengths) → Admitted table demands lengths counts
  admitted_good {counts} d = go (loading table demands) refl (admitting loaded lengths) refl d
    where
      go : (o : LoadOutcome) → loading table demands ≡ o → (a : Outcome Counts PlanRefusal) → admitting loaded lengths ≡ a → Ok counts ≡ admission a
          → Admitted table demands lengths counts
      go o is (refused q) u told = absurd (cc)
      go (refused q) is (accepted given) u told = absurd (accepted≢refused (sym u ∙ by_refusal is))
      go (accepted r) is (accepted given) u told =
          let all = sym (by_room is) ∙ u in
          let counted : counts ≡ counts_of r = (let t : counts ≡ given = cc in t) ∙ unless_is (list_reasons (room_cords r) (length r.servers) lengths) (counts_of r) given all in
          let f = outcome_found table demands is in
          rw counted
          (record {
            room_found = f;
            is = room_planned table demands lengths is
                ∙ other_accepted (counts_of r) (plan_of r demands) (list_reasons (room_cords r) (length r.servers) lengths) all
                ∙ ap (λ (x : Room). accepted (plan_of x demands)) (accepted_is (sym is ∙ f.accepts));
            long = lists-long (counts_of r) (room_cords r) (length r.servers) lengths all;
          })

  -- What is not admitted, Plan refuses.
  pub admitted_refused : {q : PlanRefusal} → Err q ≡ admission (admitting loaded lengths) → plan table demands lengths ≡ refused q
  admitted_refused {q} d = go (loading table demands) refl (admitting loaded lengths) refl d
    where
      go : (o : LoadOutcome) → loading table demands ≡ o → (a : Outcome Counts PlanRefusal) → admitting loaded lengths ≡ a → Err q ≡ admission a
          → plan table demands lengths ≡ refused q
      go o is (accepted given) u told = absurd (cc)
      go (accepted r) is (refused p) u told =
          let same : p ≡ q = cc in
          room_planned table demands lengths is ∙ other_refused (counts_of r) (plan_of r demands) (list_reasons (room_cords r) (length r.servers) lengths) (sym (by_room is) ∙ u) ∙ ap refused same
      go (refused x) is (refused p) u told =
          let same : refusal_of x ≡ q = (let h : ◌≡◌ {A = Outcome Counts PlanRefusal} (refused (refusal_of x)) (refused p) = sym (by_refusal is) ∙ u in let t : p ≡ q = cc in cc) in
          refusal_planned table demands lengths is ∙ ap refused same

-- What `plan_loaded` asks of a room's lists.
pub plan-given : {table demands : List ℕ} {lengths : Lengths} {counts : Counts} (a : Admitted table demands lengths counts)
    {parents spare : List ℕ} {cords : List CordRow} {lows wants headroom caps : List ℕ}
    → RoomLoaded a.room_found.room demands parents spare cords lows wants headroom caps
    → PlanGiven table demands a.room_found.room counts parents spare cords lows wants headroom caps
plan-given a lists = let f = a.room_found in record { end = f.end; is = f.is; counted = f.counted; loaded = lists }

-- ---- Lists that are copied before they are planned in

module _ {r : Room} {demands : List ℕ} (parents spare : List ℕ) (cords : List CordRow) (lows wants ceilings needed : List ℕ)
    (ok : Accepted r) (lists : RoomLoaded r demands parents spare cords lows wants ceilings needed) where
  pub ceilings_size : length (take (room_cords r) ceilings) ≡ room_cords r
  ceilings_size = ap length lists.cords_are.ceilings_are ∙ ceilings_count r ok demands

  pub needs_size : length (take (length r.servers) needed) ≡ length r.servers
  unfolding needs
  needs_size = ap length lists.cords_are.needs_are ∙ figures-length (length r.servers) _

  -- The ceilings and the needs stand at the fronts of the lists that they were copied to.
  pub copied_loaded : {k v : ℕ} (headroom caps headroom' caps' : List ℕ) → k ≡ room_cords r → v ≡ length r.servers → k ≤ length headroom → v ≤ length caps
      → headroom' ≡ sets headroom 0 (take k ceilings) → caps' ≡ sets caps 0 (take v needed)
      → RoomLoaded r demands parents spare cords lows wants headroom' caps'
  copied_loaded headroom caps headroom' caps' k v hk hv eh ec =
      rw (copied ceilings headroom k hk ceilings_size eh, copied needed caps v hv needs_size ec) lists
    where
      copied : {n m : ℕ} (from list : List ℕ) {list' : List ℕ} → n ≡ m → n ≤ length list → length (take m from) ≡ m → list' ≡ sets list 0 (take n from)
          → take m list' ≡ take m from
      copied {n} {m} from list is h size e =
          ap (take m) (e ∙ ap (λ (x : ℕ). sets list 0 (take x from)) is)
          ∙ take-sets m list (take m from) (omega (arith, is)) (omega (arith, size))
          ∙ take_all m (take m from) (omega (arith, size))

-- A list that is stored to twice, as much each time.
pub stored_again : (list first second : List ℕ) {list' list'' : List ℕ} → length first ≡ length second → list' ≡ sets list 0 first → list'' ≡ sets list' 0 second
    → list'' ≡ sets list 0 second
stored_again list first second {list'} same e f =
    f ∙ ap (λ (x : List ℕ). sets x 0 second) e
    ∙ sets-front (sets list 0 first) second
    ∙ ap₂ (λ (n : ℕ) (rest : List ℕ). take n second ++ rest) (length-sets list 0 first)
    (ap (λ (n : ℕ). drop n (sets list 0 first)) (sym same) ∙ drop-sets list first ∙ ap (λ (n : ℕ). drop n list) same)
    ∙ sym (sets-front list second)

-- ---- What is told, and what is left in the lists

module _ (table demands : List ℕ) (lent : Lists) where
  -- Refused, a list is as it was.
  pub refused_done : {q : PlanRefusal} → plan_in table demands lent ≡ refused q → PlanDone table demands lent (Err q) lent
  refused_done e = record { answer_is = rw e refl; lists_are = λ list. rw e refl }

  -- Accepted, it has what the plan has for it at its front.
  pub accepted_done : {plan : Plan} {watts : ℕ} {left : Lists} → plan_in table demands lent ≡ accepted plan → watts ≡ plan.freed
      → ((list : PlanList) → left list ≡ sets (lent list) 0 (output list plan)) → PlanDone table demands lent (Ok watts) left
  accepted_done e freed stored = record { answer_is = rw (e, freed) refl; lists_are = λ list. rw e (stored list) }
