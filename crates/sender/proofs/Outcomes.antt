-- The outcomes of Send in the code's terms: one law for each answer, and what each says of the input.
use mathlib.Core.Path.{◌≡◌, refl, sym, ap, ◌∙◌}
use mathlib.Core.Bool.{Bool, true, false, not, ◌&&◌, false≢true}
use mathlib.Core.List.{List, ◌++◌}
use Prim.Native.Nat.{ℕ, ◌≤◌, ◌<◌}
use native.Mathlib.Nat.{suc-ne-zero}
use native.Mathlib.Omega.{arith}
use borrow.Author.Tests.{ltb-true, ltb-false, leb-true, eqb-true, eqb-false, lt-ltb, le-ltb, le-leb, eq-eqb, ne_eqb}
use lib.Dec.{eqb, leb, ltb}
use lib.ListN.{length, take, drop}
use lib.Seq.{length-take-le, take_all}
use Rattle.outcomes.specs.Outcome.{accepted, refused, unless, after}
use Rattle.figures.proofs.Stores.{sets-front}
use Rattle.sender.specs.Period.{servers_from, position_after, period, named_count}
use Rattle.sender.specs.Outcome.{most_servers, SendOutcome, in_range, sending, answer_of}
use Rattle.sender.specs.Promises.{InRange}
use Rattle.sender.specs.declared.Sent.{Sent}
use Rattle.std.specs.Prelude.{Ok, Err}
use Rattle.sender.specs.declared.SendRefusal.{SendRefusal}
use Rattle.sender.specs.declared.SendRefusal.TheVariants.{NoMessages, PositionOutOfRange, ListTooShort}
use Rattle.sender.proofs.Periods.{length-servers_from}

-- ---- position and count

module _ (count position : ℕ) where
  -- The test that is computed is true exactly in range.
  pub in_range_true : InRange count position → in_range count position ≡ true
  in_range_true h = rw (lt-ltb position count h.below, le-leb 1 count h.some, le-leb count most_servers h.most)

  pub in_range_is : in_range count position ≡ true → InRange count position
  in_range_is e = go (ltb position count) (leb 1 count) (leb count most_servers) refl refl refl e
    where
      go : (a b c : Bool) → ltb position count ≡ a → leb 1 count ≡ b → leb count most_servers ≡ c → (a && (b && c)) ≡ true → InRange count position
      go true true true p q r e = record { below = ltb-true position count p; some = leb-true 1 count q; most = leb-true count most_servers r }
      go true true false p q r e = absurd (false≢true e)
      go true false c p q r e = absurd (false≢true e)
      go false b c p q r e = absurd (false≢true e)

  pub inside_is : not (in_range count position) ≡ false → InRange count position
  inside_is e = in_range_is (go (in_range count position) e)
    where
      go : (b : Bool) → not b ≡ false → b ≡ true
      go true e = refl
      go false e = absurd (false≢true (sym e))

-- ---- one law for each answer

module _ (count position m space : ℕ) where
  abbrev outcome : SendOutcome
  outcome = sending count position m space

  abbrev many : ℕ
  many = named_count count m

  pub sending_no_messages : m ≡ 0 → outcome ≡ refused NoMessages
  unfolding sending unless
  sending_no_messages e = rw (eq-eqb m 0 e)

  module _ (some : 1 ≤ m) where
    not_zero : eqb m 0 ≡ false
    not_zero = ne_eqb m 0 (λ e. omega arith)

    pub sending_out_of_range : not (in_range count position) ≡ true → outcome ≡ refused PositionOutOfRange
    unfolding sending unless
    sending_out_of_range e = rw (not_zero, e)

    module _ (inside : not (in_range count position) ≡ false) where
      pub sending_short : space < many → outcome ≡ refused (ListTooShort many)
      unfolding sending unless
      sending_short h = rw (not_zero, inside, lt-ltb space many h)

      pub sending_whole : many ≤ space → outcome ≡ accepted (period count position m)
      unfolding sending unless
      sending_whole h = rw (not_zero, inside, le-ltb space many h)

      -- The answers that follow, where so many are to be named.
      module _ {named : ℕ} (is : named ≡ many) where
        pub answer_short : space < named → Err (ListTooShort named) ≡ answer_of outcome
        answer_short h = ap (λ (n : ℕ). Err (ListTooShort n)) is ∙ sym (ap answer_of (sending_short (omega arith)))

        pub answer_whole : {next : ℕ} → named ≤ space → next ≡ position_after count position named → Ok (record { named = named; next = next }) ≡ answer_of outcome
        answer_whole h e =
            let size = length-servers_from count position many in
            let after = e ∙ ap (position_after count position) is in
            cc (ap answer_of (sending_whole (omega arith)))

  -- ---- what an outcome says of the input

  pub data Reason : Type 0 where
    no_messages : outcome ≡ refused NoMessages → m ≡ 0 → Reason
    out_of_range : outcome ≡ refused PositionOutOfRange → 1 ≤ m → (InRange count position → ⊥) → Reason
    short : outcome ≡ refused (ListTooShort many) → 1 ≤ m → InRange count position → space < many → Reason
    whole : outcome ≡ accepted (period count position m) → 1 ≤ m → InRange count position → many ≤ space → Reason

  pub reason : Reason
  reason = go (eqb m 0) (in_range count position) (ltb space many) refl refl refl
    where
      some : eqb m 0 ≡ false → 1 ≤ m
      some e = omega (arith, eqb-false m 0 e)

      go : (a b c : Bool) → eqb m 0 ≡ a → in_range count position ≡ b → ltb space many ≡ c → Reason
      go true b c p q r = let e = eqb-true m 0 p in no_messages (sending_no_messages e) e
      go false false c p q r = out_of_range (sending_out_of_range (some p) (ap not q)) (some p) (λ h. false≢true (sym q ∙ in_range_true count position h))
      go false true true p q r =
          let h = ltb-true space many r in
          short (sending_short (some p) (ap not q) h) (some p) (in_range_is count position q) h
      go false true false p q r =
          let h = ltb-false space many r in
          whole (sending_whole (some p) (ap not q) h) (some p) (in_range_is count position q) h

  -- ---- what an answer tells

  pub refused_told : {q : SendRefusal} → Err q ≡ answer_of outcome → outcome ≡ refused q
  refused_told {q = q} e = go outcome refl e
    where
      go : (o : SendOutcome) → outcome ≡ o → Err q ≡ answer_of o → outcome ≡ refused q
      go (accepted p) is d = absurd (suc-ne-zero 0 (cc))
      go (refused r) is d = let z : r ≡ q = cc in is ∙ ap refused z

  -- What acceptance tells, where so many servers are named.
  pub record Told (named : ℕ) : Type 0 where
    pub inside : InRange count position
    pub counted : named ≡ many
    pub fits : named ≤ space
    pub is : outcome ≡ accepted (period count position m)

  pub accepted_told : {sent : Sent} → Ok sent ≡ answer_of outcome → Told sent.named
  accepted_told {sent = sent} d = go reason
    where
      never : {q : SendRefusal} → outcome ≡ refused q → Told sent.named
      never is = absurd (suc-ne-zero 0 (cc (ap answer_of is)))

      go : Reason → Told sent.named
      go (no_messages is h) = never is
      go (out_of_range is h k) = never is
      go (short is h k l) = never is
      go (whole is h k l) =
          let size : length (servers_from count position many) ≡ sent.named = cc (ap answer_of is) in
          let counted : sent.named ≡ many = sym size ∙ length-servers_from count position many in
          record { inside = k; counted = counted; fits = omega arith; is = is }

  -- Servers named at the front of a list that has space for them are what the outcome leaves there.
  pub named_done : (list : List ℕ) {named : ℕ} {front : List ℕ} → space ≡ length list → Told named → front ≡ servers_from count position (length (take named list))
      → front ++ drop named list ≡ after (λ p. p.named) outcome list
  named_done list {named = named} {front = front} e told f =
      let names = servers_from count position many in
      let size : length names ≡ named = length-servers_from count position many ∙ sym told.counted in
      let same : front ≡ names = f ∙ ap (servers_from count position) (length-take-le named list (omega (arith, told.fits)) ∙ told.counted) in
      let all : take (length list) names ≡ names = take_all (length list) names (omega (arith, told.fits)) in
      rw (told.is, sets-front, all, size, same) refl
