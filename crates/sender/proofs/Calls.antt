-- What the C call of Send returns and leaves, from what the functions that it calls ensure.
use mathlib.Core.Path.{◌≡◌, refl, sym, ap, ◌∙◌}
use mathlib.Core.List.{List, ◌++◌}
use Prim.Native.Nat.{ℕ, ◌/◌, ◌≤◌}
use native.Mathlib.Omega.{arith}
use lib.ListN.{length, take, drop}
use lib.Seq.{sets, length-take-le, length_front, take_all, take-append_seam}
use Rattle.words.specs.Bytes.{bytes_of}
use Rattle.outcomes.specs.Outcome.{refused}
use Rattle.calls.specs.Call.{answered}
use Rattle.calls.proofs.Calls.{call_done}
use Rattle.sender.specs.Period.{servers_from, named_count}
use Rattle.sender.specs.Outcome.{sending, answer_of}
use Rattle.sender.specs.Call.{sent_numbers, SendCall}
use Rattle.sender.specs.declared.SendRefusal.{SendRefusal}
use Rattle.sender.proofs.Periods.{length-servers_from}
use Rattle.sender.proofs.Outcomes.{Told}

-- ---- the list

-- A list whose front was named is as long as it was.
pub named_fits : (count position : ℕ) (words : List ℕ) {named : ℕ} {front : List ℕ} → named ≤ length words → front ≡ servers_from count position (length (take named words))
    → named ≤ length (front ++ drop named words)
named_fits count position words {named = named} {front = front} h f =
    omega (arith, length_front words front named (ap length f ∙ length-servers_from count position (length (take named words))))

-- ---- the call

module _ (count position m : ℕ) (list answer : List ℕ) {answer' : List ℕ} (long : 24 ≤ length answer)
    (a : answer' ≡ answered 3 (sent_numbers (answer_of (sending count position m (length list / 4)))) answer) where
  pub call_refused : {q : SendRefusal} → sending count position m (length list / 4) ≡ refused q → SendCall count position m list answer 1 list answer'
  call_refused e = call_done _ answer _ (omega arith) (rw e) a

  -- The servers named, at the front of a list of words, are stored.
  pub call_accepted : (words : List ℕ) {named : ℕ} {front list' : List ℕ} → Told count position m (length list / 4) named → named ≤ length words
      → front ≡ servers_from count position (length (take named words))
      → list' ≡ sets list 0 (bytes_of (take (length list / 4) (take named (front ++ drop named words)))) → SendCall count position m list answer 1 list' answer'
  call_accepted words {named = named} {front = front} t w f l =
      let names = servers_from count position (named_count count m) in
      let same : front ≡ names = f ∙ ap (servers_from count position) (length-take-le named words w ∙ t.counted) in
      let size : named ≡ length names = t.counted ∙ sym (length-servers_from count position (named_count count m)) in
      let taken : take named (front ++ drop named words) ≡ names = rw (same, size) (take-append_seam names (drop (length names) words)) in
      let all = take_all (length list / 4) names (omega (arith, t.fits)) in
      call_done _ answer _ (omega arith) (l ∙ rw (taken, all, t.is) refl) a
