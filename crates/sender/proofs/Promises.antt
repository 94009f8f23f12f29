-- The promises of `sender`, proved.
use mathlib.Core.Path.{◌≡◌, refl, sym, ap, ◌∙◌}
use mathlib.Core.Bool.{Bool, true, false, not}
use mathlib.Core.List.Memᴰ
use mathlib.Core.List.{List, ◌++◌, Memᴰ, flatten}
use mathlib.Core.Logic.{◌↔◌}
use Prim.Native.Nat.{ℕ, zero, suc, ◌+◌, ◌-◌, ◌*◌, ◌≤◌, ◌<◌}
use native.Mathlib.Nat.{suc-ne-zero, zero-mul, suc-mul, mul-le-mul_right, one-mul, le-div_iff_mul-le, lt-div-mul-add}
use native.Mathlib.Omega.{arith}
use borrow.Author.Tests.{ltb-true, ltb-false}
use lib.Dec.{ltb}
use lib.ListN.{length, get_or}
use Rattle.sender.specs.Period.{following, servers_from, position_after, named_count, period}
use Rattle.outcomes.specs.Outcome.{refused}
use Rattle.sender.specs.Outcome.{SendOutcome, in_range, sending, answer_of, sent_number, sent_figure, sent_position}
use Rattle.sender.specs.Promises.{InRange, Tells, AnsweredExactly, Kept, PeriodKept, run, ceil_div, EachWithin}
use Rattle.sender.specs.declared.SendRefusal.{SendRefusal}
use Rattle.sender.proofs.Periods.{position_after_add, position_after_suc, position_after_below, position_after_once, reached, length-servers_from, get_or-servers_from, mem_servers_from}
use Rattle.sender.proofs.Outcomes.{in_range_true, in_range_is, sending_no_messages, sending_out_of_range, sending_short, sending_whole, Reason, no_messages, out_of_range, short, whole, reason}

-- ---- Answers

module _ (count position m space : ℕ) where
  abbrev outcome : SendOutcome
  outcome = sending count position m space

  abbrev many : ℕ
  many = named_count count m

  -- The outcome's number and figure, where it is known.
  numbered : {o : SendOutcome} → outcome ≡ o → sent_number (answer_of outcome) ≡ sent_number (answer_of o)
  numbered is = ap (λ (x : SendOutcome). sent_number (answer_of x)) is

  tells : {o : SendOutcome} → outcome ≡ o → Tells outcome (sent_number (answer_of o)) (sent_figure (answer_of o))
  tells is = (numbered is, ap (λ (x : SendOutcome). sent_figure (answer_of x)) is)

  -- What is in range is not out of range.
  inside : InRange count position → not (in_range count position) ≡ false
  inside h = ap not (in_range_true count position h)

  tells_27 : Tells outcome 27 0 ↔ (m ≡ 0)
  tells_27 = (λ t. go t (reason count position m space), λ h. tells (sending_no_messages count position m space h))
    where
      go : Tells outcome 27 0 → Reason count position m space → m ≡ 0
      go t (no_messages is h) = h
      go t (out_of_range is h k) = absurd (omega (arith, numbered is))
      go t (short is h k l) = absurd (omega (arith, numbered is))
      go t (whole is h k l) = absurd (omega (arith, numbered is))

  tells_28 : Tells outcome 28 1 ↔ ((1 ≤ m) × (InRange count position → ⊥))
  tells_28 = (λ t. go t (reason count position m space), λ h. tells (sending_out_of_range count position m space h.0 (outside (in_range count position) refl h.1)))
    where
      outside : (b : Bool) → in_range count position ≡ b → (InRange count position → ⊥) → not (in_range count position) ≡ true
      outside true e h = absurd (h (in_range_is count position e))
      outside false e h = ap not e

      go : Tells outcome 28 1 → Reason count position m space → (1 ≤ m) × (InRange count position → ⊥)
      go t (no_messages is h) = absurd (omega (arith, numbered is))
      go t (out_of_range is h k) = (h, k)
      go t (short is h k l) = absurd (omega (arith, numbered is))
      go t (whole is h k l) = absurd (omega (arith, numbered is))

  tells_12 : (needed : ℕ) → Tells outcome 12 needed ↔ ((1 ≤ m) × InRange count position × (many ≡ needed) × (space < needed))
  tells_12 needed = (λ t. go t (reason count position m space), λ h. rw (← h.2) (tells (sending_short count position m space h.0 (inside h.1) (omega (arith, h.2, h.3)))))
    where
      go : Tells outcome 12 needed → Reason count position m space → (1 ≤ m) × InRange count position × (many ≡ needed) × (space < needed)
      go t (no_messages is h) = absurd (omega (arith, numbered is))
      go t (out_of_range is h k) = absurd (omega (arith, numbered is))
      go t (short is h k l) =
          let same : many ≡ needed = sym (tells is).1 ∙ t.1 in
          (h, k, same, omega arith)
      go t (whole is h k l) = absurd (omega (arith, numbered is))

  tells_0 : (named next : ℕ) → (Tells outcome 0 named × (sent_position (answer_of outcome) ≡ next))
      ↔ ((1 ≤ m) × InRange count position × (many ≡ named) × (named ≤ space) × (position_after count position named ≡ next))
  tells_0 named next = (
    λ t. go t (reason count position m space),
    λ h.
        let is = sending_whole count position m space h.0 (inside h.1) (omega (arith, h.2, h.3)) in
        let t = tells is in
        ((t.0, t.1 ∙ length-servers_from count position many ∙ h.2), positioned is ∙ ap (position_after count position) h.2 ∙ h.4),
  )
    where
      positioned : {o : SendOutcome} → outcome ≡ o → sent_position (answer_of outcome) ≡ sent_position (answer_of o)
      positioned is = ap (λ (x : SendOutcome). sent_position (answer_of x)) is

      go : Tells outcome 0 named × (sent_position (answer_of outcome) ≡ next) → Reason count position m space
          → (1 ≤ m) × InRange count position × (many ≡ named) × (named ≤ space) × (position_after count position named ≡ next)
      go t (no_messages is h) = absurd (omega (arith, numbered is))
      go t (out_of_range is h k) = absurd (omega (arith, numbered is))
      go t (short is h k l) = absurd (omega (arith, numbered is))
      go t (whole is h k l) =
          let same : many ≡ named = sym (length-servers_from count position many) ∙ sym (tells is).1 ∙ t.0.1 in
          (h, k, same, omega arith, ap (position_after count position) (sym same) ∙ sym (positioned is) ∙ t.1)

pub answered_exactly : AnsweredExactly
answered_exactly = record { no_messages = tells_27; out_of_range = tells_28; list-short = tells_12; accepted = tells_0 }

-- ---- A period

module _ (count position m : ℕ) (some : 1 ≤ m) (below : position < count) where
  abbrev named : List ℕ
  named = servers_from count position (named_count count m)

  size : length named ≡ named_count count m
  size = length-servers_from count position (named_count count m)

  at : (i : ℕ) → i < length named → get_or named i 0 ≡ position_after count position i
  at i h = get_or-servers_from count position (named_count count m) i (omega (arith, size))

  first_at : get_or named 0 0 ≡ position
  unfolding position_after
  first_at = at 0 (omega (arith, size))

  further_at : (i : ℕ) → suc i < length named → get_or named (suc i) 0 ≡ following count (get_or named i 0)
  further_at i h =
      let one : suc i ≡ i + 1 = omega arith in
      at (suc i) h ∙ ap (position_after count position) one ∙ position_after_suc count position i ∙ ap (following count) (sym (at i (omega arith)))

  next_is : position_after count position (named_count count m) ≡ following count (get_or named (length named - 1) 0)
  next_is =
      let last : named_count count m ≡ length named - 1 + 1 = omega (arith, size) in
      ap (position_after count position) last ∙ position_after_suc count position (length named - 1) ∙ ap (following count) (sym (at (length named - 1) (omega (arith, size))))

  named_below : (i : ℕ) → i < length named → get_or named i 0 < count
  named_below i h = rw (at i h) (position_after_below count i position below)

  never_twice : (i j : ℕ) → i < j → j < length named → get_or named i 0 ≡ get_or named j 0 → ⊥
  never_twice i j h k e = position_after_once count position i j below h (omega (arith, size)) (sym (at i (omega arith)) ∙ e ∙ at j k)

  each_named : count ≤ m → (server : ℕ) → server < count → Memᴰ server named
  each_named h server k =
      let r = reached count position server below k in
      Memᴰ.cast (sym r.is) (mem_servers_from count (named_count count m) r.distance position (omega (arith, r.short)))

pub period_kept : PeriodKept
period_kept count position m space p e = go (reason count position m space)
  where
    never : {q : SendRefusal} → sending count position m space ≡ refused q → Kept count position m space p
    never is = absurd (suc-ne-zero 0 (cc))

    kept : 1 ≤ m → InRange count position → named_count count m ≤ space → Kept count position m space (period count position m)
    kept some h enough =
        let after : InRange count (period count position m).next =
        record { below = position_after_below count (named_count count m) position h.below; some = h.some; most = h.most } in
        record {
          first = first_at count position m some h.below;
          further = further_at count position m some h.below;
          next = next_is count position m some h.below;
          servers = named_below count position m some h.below;
          never_twice = never_twice count position m some h.below;
          each = each_named count position m some h.below;
          goes_on = sending_whole count (period count position m).next m space some (ap not (in_range_true count (period count position m).next after)) enough;
        }

    go : Reason count position m space → Kept count position m space p
    go (no_messages is h) = never is
    go (out_of_range is h k) = never is
    go (short is h k l) = never is
    go (whole is some h enough) =
        let same : period count position m ≡ p = cc in
        rw (← same) (kept some h enough)

-- ---- A run of periods

-- So many periods reach what is less than so many times what one names away.
run_reaches : (count m periods position distance : ℕ) → distance < periods * named_count count m
    → Memᴰ (position_after count position distance) (flatten (run count m position periods))
unfolding run flatten
run_reaches count m zero position distance h = absurd (omega (arith, zero-mul (named_count count m)))
run_reaches count m (suc periods) position distance h =
    go (ltb distance many) refl (λ d k. run_reaches count m periods (position_after count position (named_count count m)) d k)
  where
    many : ℕ
    many = named_count count m

    next : ℕ
    next = position_after count position many

    rest : List ℕ
    rest = flatten (run count m next periods)

    go : (t : Bool) → ltb distance many ≡ t → ((d : ℕ) → d < periods * many → Memᴰ (position_after count next d) rest)
        → Memᴰ (position_after count position distance) (servers_from count position many ++ rest)
    go true t later = Memᴰ.append_left rest (mem_servers_from count many distance position (ltb-true distance many t))
    go false t later =
        let over = ltb-false distance many t in
        let parts : distance ≡ many + (distance - many) = omega arith in
        let same : position_after count position distance ≡ position_after count next (distance - many) = ap (position_after count position) parts ∙ position_after_add count position many (distance - many) in
        Memᴰ.append_right (servers_from count position many) (Memᴰ.cast same (later (distance - many) (omega (arith, suc-mul periods many))))

-- ceil(count / m) periods name as many as there are servers.
enough_periods : (count m : ℕ) → 1 ≤ m → 1 ≤ count → count ≤ ceil_div count m * named_count count m
enough_periods count m some servers = go (ltb count m) refl
  where
    go : (t : Bool) → ltb count m ≡ t → count ≤ ceil_div count m * named_count count m
    go true t =
        let less = ltb-true count m t in
        let all : named_count count m ≡ count = omega arith in
        let one : 1 ≤ ceil_div count m = (le-div_iff_mul-le some).1 (omega (arith, one-mul m)) in
        rw all (omega (arith, mul-le-mul_right count one, one-mul count))
    go false t =
        let more = ltb-false count m t in
        let all : named_count count m ≡ m = omega arith in
        rw all (omega (arith, lt-div-mul-add {a = count + (m - 1)} {b = m} some))

pub each_within : EachWithin
each_within count m position server some below h =
    let r = reached count position server below h in
    Memᴰ.cast (sym r.is) (run_reaches count m (ceil_div count m) position r.distance (omega (arith, r.short, enough_periods count m some (omega arith))))
