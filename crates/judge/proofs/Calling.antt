-- What the C call of Judge returns and leaves, from what the functions that it calls ensure.
use mathlib.Core.Path.{◌≡◌, refl, sym, ap, ap₂, ◌∙◌}
use mathlib.Core.Bool.{Bool, true, false}
use mathlib.Core.List.{List}
use Prim.Native.Nat.{ℕ, suc, ◌/◌, ◌≤◌, ◌<◌, min}
use native.Mathlib.Omega.{arith}
use borrow.Author.Tests.{eqb-true, eqb-false, ne_eqb}
use lib.Dec.{eqb}
use lib.ListN.{length, take}
use lib.Seq.{sets, take_all}
use Rattle.outcomes.specs.Outcome.{accepted, refused, unless}
use Rattle.outcomes.proofs.Outcomes.{accepted_is}
use Rattle.words.specs.Bytes.{words_of}
use Rattle.words.proofs.Bytes.{take-loaded}
use Rattle.calls.specs.Call.{answered}
use Rattle.calls.proofs.Calls.{call_done}
use Rattle.rooms.specs.Table.{Room, most_servers, most_cords, most_words, room_cords}
use Rattle.layout.specs.Outcome.{LoadOutcome, loading}
use Rattle.layout.specs.declared.room.LoadRefusal.{LoadRefusal}
use Rattle.layout.proofs.Loads.{count_cut, bytes_loading, bytes_demands, outcome_found, found_accepted}
use Rattle.judge.specs.Outcome.{JudgeOutcome, judge_loaded, judging, answer_of}
use Rattle.judge.specs.Call.{judged_numbers, JudgeCall}

-- ---- Grants that are cut

module _ (r : Room) where
  -- Where the grants are not one a cord, they are refused whatever they are.
  grants_refused : (demands grants others : List ℕ) → (length grants ≡ room_cords r → ⊥) → (length others ≡ room_cords r → ⊥)
      → judge_loaded (accepted r) demands grants ≡ judge_loaded (accepted r) demands others
  unfolding judge_loaded unless
  grants_refused demands grants others n m = rw (ne_eqb (length grants) (room_cords r) n, ne_eqb (length others) (room_cords r) m) refl

  -- Grants that are cut after one more than there are cords get the same.
  grants_cut : (demands grants : List ℕ) (k : ℕ) → room_cords r < k → judge_loaded (accepted r) demands (take k grants) ≡ judge_loaded (accepted r) demands grants
  grants_cut demands grants k h = go (eqb (length grants) (room_cords r)) refl
    where
      go : (t : Bool) → eqb (length grants) (room_cords r) ≡ t → judge_loaded (accepted r) demands (take k grants) ≡ judge_loaded (accepted r) demands grants
      go true e = ap (judge_loaded (accepted r) demands) (take_all k grants (omega (arith, eqb-true (length grants) (room_cords r) e)))
      go false e =
          let differs = eqb-false (length grants) (room_cords r) e in
          grants_refused demands (take k grants) grants (count_cut grants (room_cords r) k h differs) differs

-- What is refused before is refused whatever the demands and the grants are.
load_refused : (q : LoadRefusal) (demands grants demands' grants' : List ℕ) → judge_loaded (refused q) demands grants ≡ judge_loaded (refused q) demands' grants'
unfolding judge_loaded
load_refused q demands grants demands' grants' = refl

-- ---- The call

-- The first words of each list are loaded, and decide.
module _ (table words demands figures grants watts answer : List ℕ) (w : suc most_words ≤ length words) (f : suc most_servers ≤ length figures) (k : suc most_cords ≤ length watts)
    {wn fn kn : ℕ} {words' figures' watts' : List ℕ}
    (wn_is : wn ≡ min (length table / 4) (length words)) (words_are : words' ≡ sets words 0 (words_of table))
    (fn_is : fn ≡ min (length demands / 4) (length figures)) (figures_are : figures' ≡ sets figures 0 (words_of demands))
    (kn_is : kn ≡ min (length grants / 4) (length watts)) (watts_are : watts' ≡ sets watts 0 (words_of grants)) where
  by_load : (o : LoadOutcome) → loading (words_of table) (words_of demands) ≡ o
      → judge_loaded o (take fn figures') (take kn watts') ≡ judge_loaded o (words_of demands) (words_of grants)
  by_load (refused q) e = load_refused q _ _ _ _
  by_load (accepted r) e =
      let found = outcome_found (words_of table) (words_of demands) e in
      let same : found.room ≡ r = accepted_is (sym found.accepts ∙ e) in
      ap₂ (judge_loaded (accepted r))
      (bytes_demands table demands words figures w f wn_is words_are fn_is figures_are r e) (take-loaded (length watts) kn grants watts watts' refl kn_is watts_are)
      ∙ grants_cut r (words_of demands) (words_of grants) (length watts) (omega (arith, (found_accepted found).few_cords, ap room_cords same, k))

  loaded : judging (take wn words') (take fn figures') (take kn watts') ≡ judging (words_of table) (words_of demands) (words_of grants)
  unfolding judging
  loaded =
      ap (λ (o : LoadOutcome). judge_loaded o (take fn figures') (take kn watts')) (bytes_loading table demands words figures w f wn_is words_are fn_is figures_are)
      ∙ by_load (loading (words_of table) (words_of demands)) refl

  pub call_told : {numbers : List ℕ} {answer' : List ℕ} → 32 ≤ length answer
      → numbers ≡ judged_numbers (answer_of (judging (take wn words') (take fn figures') (take kn watts')))
      → answer' ≡ answered 4 numbers answer → JudgeCall table demands grants answer 1 answer'
  call_told h t a = call_done _ answer _ h tt (a ∙ ap (λ (l : List ℕ). answered 4 l answer) (t ∙ ap (λ (o : JudgeOutcome). judged_numbers (answer_of o)) loaded))
