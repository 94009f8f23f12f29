-- What the call of Plan returns and leaves, from what the functions that it calls ensure.
use mathlib.Core.Path.{◌≡◌, refl, sym, ap, ap₂, ◌∙◌}
use mathlib.Core.List.{List, [], ◌∷◌}
use Prim.Native.Nat.{ℕ, ◌/◌, ◌≤◌, ◌<◌}
use native.Mathlib.Omega.{arith}
use lib.ListN.{length, take}
use lib.Seq.{sets, length-sets, take_all}
use Rattle.words.specs.Bytes.{bytes_of}
use Rattle.figures.proofs.Stores.{take-sets}
use Rattle.calls.specs.Call.{answered, told_numbers}
use Rattle.calls.proofs.Calls.{call_short, call_done}
use Rattle.calls.proofs.Fronts.{bytes_after}
use Rattle.outcomes.specs.Outcome.{accepted, refused, written, after}
use Rattle.deals.specs.Plan.{Plan, PlanOutcome, output, count, entries, Lists, plan, answer_of, plan_number, plan_figure, plan_refusal_number, plan_refusal_place}
use Rattle.deals.specs.declared.Lengths.{Lengths}
use Rattle.std.specs.Prelude.{Result, Ok, Err}
use Rattle.deals.specs.declared.PlanRefusal.{PlanRefusal}
use Rattle.deals.specs.declared.PlanList.{PlanList}
use Rattle.deals.proofs.Lent.{plan-written}
use Rattle.rooms.specs.Table.{Room, room_cords}
use Rattle.layout.specs.declared.room.Counts.{Counts}
use Rattle.layout.proofs.Loads.{servers-count, cords-count}
use Rattle.plan_rooms.specs.Planning.{PlanLeft}
use Rattle.deals.proofs.Plans.{output-length}
use Rattle.plans.proofs.PlanCall.{Admitted}
use Rattle.plan_bytes.specs.Call.{numbers_of, PlannedCall}
use Rattle.plan_bytes.specs.Figures.{Front, freed_of, FiguresLeft}
use Rattle.plan_bytes.specs.declared.PlannedFigures.{PlannedFigures}

-- ---- A plan in lists of words

-- What is stored at the front of a list stands there.
front_stored : {n : ℕ} (list out : List ℕ) {list' : List ℕ} → list' ≡ sets list 0 out → n ≡ length out → n ≤ length list → Front n list' out
front_stored {n} list out is size h = record {
  few = omega (arith, ap length is ∙ length-sets list 0 out);
  is = ap (take n) is ∙ take-sets n list out h (omega (arith, size)) ∙ take_all n out (omega (arith, size));
}

-- Accepted, the lists have the plan's at their fronts, so many as the room's counts say.
module _ {table demands : List ℕ} {lengths : Lengths} {counts : Counts} (a : Admitted table demands lengths counts) where
  abbrev room : Room
  room = a.room_found.room

  pub figures_accepted : {freed : ℕ} (lent lent' : Lists) → PlanLeft room demands freed lent lent'
      → ((list : PlanList) → count counts.cords counts.servers list ≤ length (lent list))
      → FiguresLeft (plan table demands lengths) (Ok (record { freed = freed; cords = counts.cords; servers = counts.servers })) lent'
  figures_accepted lent lent' left long =
      let counted : (list : PlanList) → count counts.cords counts.servers list ≡ count (room_cords room) (length room.servers) list =
      λ list. ap₂ (λ (cords servers : ℕ). count cords servers list) (cords-count a.room_found) (servers-count a.room_found) in
      rw a.is
      (record {
        answer_is = ap Ok left.freed_is;
        lists_are = λ list. front_stored (lent list) _ (left.lists_are list) (counted list ∙ sym (output-length room demands list)) (long list);
      })

-- Refused, nothing is said of the lists.
pub figures_refused : (outcome : PlanOutcome) {q : PlanRefusal} → outcome ≡ refused q → (words : Lists) → FiguresLeft outcome (Err q) words
figures_refused outcome e words = record { answer_is = sym (ap answer_of e); lists_are = tt }

-- ---- Its lists in bytes

-- What an outcome writes to a list fits the list.
module _ (table demands : List ℕ) (lengths : Lengths) where
  pub output-fitting : (list : PlanList) → length (written (output list) (plan table demands lengths)) ≤ entries lengths list
  output-fitting list = go (plan table demands lengths) refl
    where
      go : (o : PlanOutcome) → plan table demands lengths ≡ o → length (written (output list) o) ≤ entries lengths list
      go (accepted p) e = let fits = (plan-written table demands lengths e).planning.fits list in omega (arith, fits.count, fits.within)
      go (refused q) e = omega arith

-- Just what is written is stored.
pub list_stored : (output : Plan → List ℕ) (o : PlanOutcome) (bytes : List ℕ) {n : ℕ} {list bytes' : List ℕ} → Front n list (written output o)
    → length (written output o) ≤ length bytes / 4 → bytes' ≡ sets bytes 0 (bytes_of (take (length bytes / 4) (take n list)))
    → bytes' ≡ after (λ p. bytes_of (output p)) o bytes
list_stored output o bytes f fits b =
    b
    ∙ ap (λ (l : List ℕ). sets bytes 0 (bytes_of l)) (ap (take (length bytes / 4)) f.is ∙ take_all (length bytes / 4) (written output o) fits)
    ∙ bytes_after output o bytes

-- ---- The call

-- Where the answer's buffer is too short, nothing is changed.
pub plan_short : (outcome : PlanOutcome) (lent : Lists) (answer : List ℕ) → length answer < 16 → PlannedCall outcome lent answer 0 lent answer
plan_short outcome lent answer h = call_short _ answer _ (omega arith) (record { lists-after = λ list. refl })

-- Refused, an outcome leaves every list as it was.
pub nothing_stored : (outcome : PlanOutcome) (lent : Lists) (q : PlanRefusal) → Err q ≡ answer_of outcome
    → (list : PlanList) → lent list ≡ after (λ p. bytes_of (output list p)) outcome (lent list)
nothing_stored (accepted p) lent q e list = absurd (cc)
nothing_stored (refused p) lent q e list = refl

-- Where it is long enough, it has the answer, and the lists are those after the outcome.
module _ (outcome : PlanOutcome) (lent : Lists) (answer : List ℕ) (long : 16 ≤ length answer) where
  numbers_told : (planned : Result PlannedFigures PlanRefusal) → freed_of planned ≡ answer_of outcome
      → told_numbers (λ (p : PlannedFigures). p.freed ∷ []) plan_refusal_number plan_refusal_place planned ≡ numbers_of outcome
  numbers_told planned is = same planned ∙ ap (λ (r : Result ℕ PlanRefusal). plan_number r ∷ plan_figure r ∷ []) is
    where
      same : (p : Result PlannedFigures PlanRefusal) → told_numbers (λ (p : PlannedFigures). p.freed ∷ []) plan_refusal_number plan_refusal_place p
          ≡ plan_number (freed_of p) ∷ plan_figure (freed_of p) ∷ []
      same (Ok figures) = refl
      same (Err refusal) = refl

  pub plan_done : (planned : Result PlannedFigures PlanRefusal) {lent' : Lists} {answer' : List ℕ} → freed_of planned ≡ answer_of outcome
      → ((list : PlanList) → lent' list ≡ after (λ p. bytes_of (output list p)) outcome (lent list))
      → answer' ≡ answered 2 (told_numbers (λ (p : PlannedFigures). p.freed ∷ []) plan_refusal_number plan_refusal_place planned) answer
      → PlannedCall outcome lent answer 1 lent' answer'
  plan_done planned is stored a = call_done _ answer _ long (record { lists-after = stored }) (a ∙ ap (λ (l : List ℕ). answered 2 l answer) (numbers_told planned is))
