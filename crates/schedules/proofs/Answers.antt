-- Each answer of a schedule comes exactly where it is due.
use mathlib.Core.Path.{◌≡◌, refl, sym, ap, ◌∙◌}
use mathlib.Core.Bool.{Bool, true, false, cond}
use mathlib.Core.List.{List, [], ◌++◌, append_assoc}
use mathlib.Core.Logic.{◌↔◌, ◌⊎◌, inl, inr}
use Prim.Native.Nat.{ℕ, zero, suc, ◌+◌, ◌≤◌, ◌<◌}
use native.Mathlib.Nat.{suc-ne-zero}
use native.Mathlib.Omega.{arith}
use lib.ListN.{length, drop, length-drop, length-append}
use lib.Dec.{leb, eqb}
use borrow.Author.Tests.{leb-true, leb-false, ne_eqb, eqb-true, eqb-false}
use Rattle.rooms.specs.Table.{most_nodes}
use Rattle.schedules.specs.Sizes.{is_size}
use Rattle.outcomes.specs.Outcome.{accepted, refused, unless, fitting}
use Rattle.outcomes.proofs.Outcomes.{unless_stop, unless_pass, fitting_short, fitting_whole}
use Rattle.schedules.specs.Text.{Step, good, bad, malformed, line}
use Rattle.schedules.specs.Schedule.{in_range, Judgement, judged, ScheduleEnding, whole, stopped, onto, lines_from, lines_of, table_of, ScheduleOutcome, no_lines, scheduled_lines, scheduling, answer_of, schedule_number, schedule_figure}
use Rattle.schedules.specs.Written.{Written, LineFirst, LinesFirst}
use Rattle.schedules.specs.Written as written
use Rattle.schedules.specs.Promises.{Tells, AllLines, NoLineAt, NoSizeAt, OutOfRangeAt}
use Rattle.schedules.proofs.LineLaws.{passed_is}
use Rattle.schedules.proofs.LineLoop.{lines_from_some}
use Rattle.schedules.proofs.RoomTable.{entries_pass}
use Rattle.schedules.proofs.ReadsText.{line_read, lines_read}
use Rattle.schedules.proofs.WritesText.{line-written, line_size, ahead, front-written, lines-written}
use Rattle.schedules.specs.declared.Entry.{Entry}
use Rattle.schedules.specs.declared.ScheduleRefusal.{ScheduleRefusal}
use Rattle.schedules.specs.declared.ScheduleRefusal.TheVariants.{NotALine, NotASize, OutOfRange, TableTooShort}

-- ---- The line at a place of a text

module _ (text : List ℕ) (at : ℕ) where
  -- A line was read: the rest of the text begins with it.
  pub line_first : {e : Entry} {next : ℕ} → line text at ≡ good e next → LineFirst e (drop at text)
  line_first {e} {next} l =
      let r = line_read text at e next l in
      record {
        own = r.s;
        behind = drop next text;
        is = r.bytes;
        line = r.is;
        parent_most = r.parent_most;
        amperes_most = r.amperes_most;
        volts_most = r.volts_most;
      }

  -- The rest of the text begins with a line: it is read.
  record Found (e : Entry) : Type 0 where
    next : ℕ
    is : line text at ≡ good e next

  found : {e : Entry} {rest : List ℕ} → drop at text ≡ rest → LineFirst e rest → Found e
  found {e} d l =
      let r = line-written e l.own l.line l.parent_most l.amperes_most l.volts_most text at l.behind (d ∙ l.is) in
      record { next = r.next; is = r.good_so }

  -- No line was read: the rest begins with none.
  pub none_first : line text at ≡ (bad malformed) → (e : Entry) → LineFirst e (drop at text) → ⊥
  none_first b e l = suc-ne-zero 0 (let g = (found refl l).is in cc)

  none_found : {rest : List ℕ} → drop at text ≡ rest → ((e : Entry) → LineFirst e rest → ⊥) → line text at ≡ (bad malformed)
  none_found d none = go (line text at) refl
    where
      go : (s : Step Entry) → line text at ≡ s → s ≡ (bad malformed)
      go (good e next) g = absurd (none e (rw (← d) (line_first g)))
      go (bad malformed) g = refl

-- What begins with a line is not empty.
line_some : {e : Entry} {text : List ℕ} → LineFirst e text → 1 ≤ length text
line_some {e} l = omega (arith, ap length l.is, length-append l.own l.behind, line_size e l.own l.line)

-- ---- Why a line fails

pub data Why (place : ℕ) (s : Step Entry) (q : ScheduleRefusal) : Type 0 where
  no_line : s ≡ (bad malformed) → q ≡ NotALine place → Why place s q
  no_size : (e : Entry) (next : ℕ) → s ≡ good e next → is_size e.amperes ≡ false → q ≡ NotASize place → Why place s q
  out : (e : Entry) (next : ℕ) → s ≡ good e next → is_size e.amperes ≡ true → in_range place e ≡ false → q ≡ OutOfRange place → Why place s q

why : (place : ℕ) (s : Step Entry) (q : ScheduleRefusal) → judged place s ≡ bad q → Why place s q
unfolding judged
why place (bad malformed) q j = no_line refl (cc)
why place (good e next) q j = size (is_size e.amperes) refl j
  where
    range : (t : Bool) → is_size e.amperes ≡ true → in_range place e ≡ t → cond t (good e next) (bad (OutOfRange place)) ≡ bad q
        → Why place (good e next) q
    range true a b j = absurd (suc-ne-zero 0 (cc))
    range false a b j = out e next refl a b (cc)

    size : (t : Bool) → is_size e.amperes ≡ t
        → cond t (cond (in_range place e) (good e next) (bad (OutOfRange place))) (bad (NotASize place)) ≡ bad q
        → Why place (good e next) q
    size true a j = range (in_range place e) a refl j
    size false a j = no_size e next refl a (cc)

module _ (place : ℕ) (s : Step Entry) where
  fails_line : s ≡ (bad malformed) → judged place s ≡ bad (NotALine place)
  unfolding judged
  fails_line b = rw b

  module _ {e : Entry} {next : ℕ} (g : s ≡ good e next) where
    fails_size : is_size e.amperes ≡ false → judged place s ≡ bad (NotASize place)
    unfolding judged
    fails_size a = rw (g, a)

    fails_range : is_size e.amperes ≡ true → in_range place e ≡ false → judged place s ≡ bad (OutOfRange place)
    unfolding judged
    fails_range a b = rw (g, a, b)

-- ---- Lines that end at a refusal

-- The entries are written in front of a place, where a line fails.
pub record Stopped (text : List ℕ) (place at : ℕ) (entries : List Entry) (q : ScheduleRefusal) : Type 0 where
  pub own : List ℕ
  pub next : ℕ
  pub bytes : drop at text ≡ own ++ drop next text
  pub lines : Written entries own
  pub there : next < length text
  pub place' : ℕ
  pub further : place' ≡ place + length entries
  pub fails : judged place' (line text next) ≡ bad q

stopped_is : (most : ℕ) (text : List ℕ) (place at : ℕ) (q : ScheduleRefusal) → (lines_from most text place at).ending ≡ stopped q
    → Stopped text place at (lines_from most text place at).entries q
unfolding lines_from
stopped_is zero text place at q e = absurd (suc-ne-zero 0 (cc))
stopped_is (suc most) text place at q e =
    go (leb (length text) at) refl (judged place (line text at)) refl e (λ next f. stopped_is most text (suc place) next q f)
  where
    go : (t : Bool) → leb (length text) at ≡ t → (j : Judgement) → judged place (line text at) ≡ j
        → (cond t (record { entries = []; ending = whole }) (onto j (λ next. lines_from most text (suc place) next))).ending ≡ stopped q
        → ((next : ℕ) → (lines_from most text (suc place) next).ending ≡ stopped q → Stopped text (suc place) next (lines_from most text (suc place) next).entries q)
        → Stopped text place at (cond t (record { entries = []; ending = whole }) (onto j (λ next. lines_from most text (suc place) next))).entries q
    go true b j r e further = absurd (suc-ne-zero 0 (cc))
    go false b (good x next) r e further =
        let p = passed_is place (line text at) x next r in
        let one = line_read text at x next p.is in
        let rest = further next e in
        record {
          own = one.s ++ rest.own;
          next = rest.next;
          bytes = one.bytes ∙ ap (λ (l : List ℕ). one.s ++ l) rest.bytes ∙ sym (append_assoc one.s rest.own (drop rest.next text));
          lines = written.line x (lines_from most text (suc place) next).entries one.s rest.own one.is rest.lines;
          there = rest.there;
          place' = rest.place';
          further = omega (arith, rest.further);
          fails = rest.fails;
        }
    go false b (bad p) r e further =
        let same : p ≡ q = cc in
        record {
          own = [];
          next = at;
          bytes = refl;
          lines = written.none;
          there = leb-false (length text) at b;
          place' = place;
          further = omega arith;
          fails = r ∙ ap bad same;
        }

-- Behind lines that pass the text has more, and the line there fails: so do the lines.
ends_so : (text rest : List ℕ) (place : ℕ) (q : ScheduleRefusal) → LinesFirst place text rest → 1 ≤ length rest
    → ((next : ℕ) → drop next text ≡ rest → judged place (line text next) ≡ bad q) → (lines_of text).ending ≡ stopped q
ends_so text rest place q f more fails =
    let r = front-written f.lines 0 f.pass (suc most_nodes) text 0 rest f.is (omega arith) (omega arith) in
    go r.left r.next r.bytes r.place' (omega (arith, r.further, f.counted)) (omega (arith, r.few, r.enough)) r.is
  where
    go : (left next : ℕ) → drop next text ≡ rest → (place' : ℕ) → place' ≡ place → 1 ≤ left
        → lines_of text ≡ ahead f.entries (lines_from left text place' next) → (lines_of text).ending ≡ stopped q
    go zero next d place' same some is = absurd (omega arith)
    go (suc left) next d place' same some is =
        let there : next < length text = omega (arith, length-drop next text, ap length d) in
        let j : judged place' (line text next) ≡ bad q = rw same (fails next d) in
        rw (is, lines_from_some left text place' next there, j)

-- ---- Outcomes

-- What a schedule comes to, and why.
pub data Reason (text : List ℕ) (words : ℕ) : Type 0 where
  stops : (q : ScheduleRefusal) → scheduling text words ≡ refused q → Stopped text 0 0 (lines_of text).entries q → Reason text words
  empty : scheduling text words ≡ refused (OutOfRange 0) → text ≡ [] → Reason text words
  short : (needed : ℕ) → scheduling text words ≡ refused (TableTooShort needed) → AllLines text needed → words < needed → Reason text words
  fits : (table : List ℕ) → scheduling text words ≡ accepted table → AllLines text (length table) → length table ≤ words → Reason text words

module _ (text : List ℕ) (words : ℕ) where
  abbrev outcome : ScheduleOutcome
  outcome = scheduling text words

  abbrev entries : List Entry
  entries = (lines_of text).entries

  abbrev table : List ℕ
  table = table_of entries

  -- The lines end with the text.
  module _ (w : (lines_of text).ending ≡ whole) where
    lines : Written entries text
    lines = lines_read (suc most_nodes) text 0 0 (omega arith) (omega arith) w

    all_lines : 1 ≤ length entries → AllLines text (length table)
    all_lines some = record { entries = entries; lines = lines; pass = entries_pass (suc most_nodes) text 0 0; some = some; needs = refl }

    fitted : (t : Bool) → leb (length table) words ≡ t → 1 ≤ length entries → outcome ≡ fitting TableTooShort table words → Reason text words
    fitted true q some is =
        let enough = leb-true (length table) words q in
        fits table (is ∙ fitting_whole TableTooShort table words enough) (all_lines some) enough
    fitted false q some is =
        let less = leb-false (length table) words q in
        short (length table) (is ∙ fitting_short TableTooShort table words less) (all_lines some) less

    counted : (t : Bool) → eqb (length entries) 0 ≡ t → outcome ≡ scheduled_lines entries whole words → Reason text words
    counted true q is = empty (is ∙ unless_stop (no_lines entries) _ table q) (nothing (eqb-true (length entries) 0 q) lines)
      where
        nothing : {some : List Entry} {t : List ℕ} → length some ≡ 0 → Written some t → t ≡ []
        nothing z written.none = refl
        nothing z (written.line e rest s t l r) = absurd (omega arith)
    counted false q is =
        fitted (leb (length table) words) refl (omega (arith, eqb-false (length entries) 0 q)) (is ∙ unless_pass (no_lines entries) _ table q)

  reason : Reason text words
  unfolding scheduling
  reason = ended (lines_of text).ending refl
    where
      ended : (ending : ScheduleEnding) → (lines_of text).ending ≡ ending → Reason text words
      ended whole w = counted w (eqb (length entries) 0) refl (rw w)
      ended (stopped q) w = stops q (rw w) (stopped_is (suc most_nodes) text 0 0 q w)

  -- ---- From the text to the outcome

  -- Lines that end at a refusal.
  refused_so : {q : ScheduleRefusal} → (lines_of text).ending ≡ stopped q → outcome ≡ refused q
  unfolding scheduling
  refused_so w = rw w

  -- Lines that end with the text.
  module _ {needed : ℕ} (a : AllLines text needed) where
    fitting_so : outcome ≡ fitting TableTooShort (table_of a.entries) words
    unfolding scheduling
    fitting_so =
        rw (lines-written a.lines a.pass)
        (unless_pass (no_lines a.entries) _ (table_of a.entries) (ne_eqb (length a.entries) 0 (λ z. omega (arith, a.some))))

    short_so : words < needed → outcome ≡ refused (TableTooShort needed)
    short_so h =
        fitting_so ∙ fitting_short TableTooShort (table_of a.entries) words (omega (arith, a.needs)) ∙ ap (λ (k : ℕ). refused (TableTooShort k)) a.needs

    fits_so : needed ≤ words → outcome ≡ accepted (table_of a.entries)
    fits_so h = fitting_so ∙ fitting_whole TableTooShort (table_of a.entries) words (omega (arith, a.needs))

  empty_so : text ≡ [] → outcome ≡ refused (OutOfRange 0)
  unfolding scheduling lines_from unless
  empty_so e = rw e

  -- ---- The answers, one by one

  -- The outcome's number and figure, where it is known.
  tells : {o : ScheduleOutcome} → outcome ≡ o → Tells outcome (schedule_number (answer_of o)) (schedule_figure (answer_of o))
  tells is = (ap (λ (x : ScheduleOutcome). schedule_number (answer_of x)) is, ap (λ (x : ScheduleOutcome). schedule_figure (answer_of x)) is)

  -- What stands in front of the line that fails.
  front : {q : ScheduleRefusal} {place : ℕ} (s : Stopped text 0 0 entries q) → s.place' ≡ place → LinesFirst place text (drop s.next text)
  front s same =
      record {
        entries = entries;
        own = s.own;
        is = s.bytes;
        lines = s.lines;
        pass = entries_pass (suc most_nodes) text 0 0;
        counted = omega (arith, s.further, same);
      }

  pub tells_24 : (place : ℕ) → Tells outcome 24 place ↔ NoLineAt text place
  tells_24 place = (λ t. go t reason, λ n. tells (refused_so (ends_so text n.rest place (NotALine place) n.front n.more (λ next d. fails_line place (line text next) (none_found text next d n.none)))))
    where
      stop : {q : ScheduleRefusal} → Tells outcome 24 place → outcome ≡ refused q → (s : Stopped text 0 0 entries q) → Why s.place' (line text s.next) q → NoLineAt text place
      stop t is s (no_line b r) =
          let same : s.place' ≡ place = sym (ap schedule_figure (ap answer_of (is ∙ ap refused r))) ∙ t.1 in
          record { rest = drop s.next text; front = front s same; more = omega (arith, s.there, length-drop s.next text); none = none_first text s.next b }
      stop t is s (no_size e next g a r) = absurd (omega (arith, t.0, (tells (is ∙ ap refused r)).0))
      stop t is s (out e next g a b r) = absurd (omega (arith, t.0, (tells (is ∙ ap refused r)).0))

      go : Tells outcome 24 place → Reason text words → NoLineAt text place
      go t (stops q is s) = stop t is s (why s.place' (line text s.next) q s.fails)
      go t (empty is e) = absurd (omega (arith, t.0, (tells is).0))
      go t (short needed is a h) = absurd (omega (arith, t.0, (tells is).0))
      go t (fits table is a h) = absurd (omega (arith, t.0, (tells is).0))

  pub tells_25 : (place : ℕ) → Tells outcome 25 place ↔ NoSizeAt text place
  tells_25 place = (
    λ t. go t reason,
    λ n. tells (refused_so (ends_so text n.rest place (NotASize place) n.front (line_some n.line) (λ next d. fails_size place (line text next) (found text next d n.line).is n.other))),
  )
    where
      stop : {q : ScheduleRefusal} → Tells outcome 25 place → outcome ≡ refused q → (s : Stopped text 0 0 entries q) → Why s.place' (line text s.next) q → NoSizeAt text place
      stop t is s (no_line b r) = absurd (omega (arith, t.0, (tells (is ∙ ap refused r)).0))
      stop t is s (no_size e next g a r) =
          let same : s.place' ≡ place = sym (ap schedule_figure (ap answer_of (is ∙ ap refused r))) ∙ t.1 in
          record { rest = drop s.next text; front = front s same; entry = e; line = line_first text s.next g; other = a }
      stop t is s (out e next g a b r) = absurd (omega (arith, t.0, (tells (is ∙ ap refused r)).0))

      go : Tells outcome 25 place → Reason text words → NoSizeAt text place
      go t (stops q is s) = stop t is s (why s.place' (line text s.next) q s.fails)
      go t (empty is e) = absurd (omega (arith, t.0, (tells is).0))
      go t (short needed is a h) = absurd (omega (arith, t.0, (tells is).0))
      go t (fits table is a h) = absurd (omega (arith, t.0, (tells is).0))

  pub tells_26 : (place : ℕ) → Tells outcome 26 place ↔ (OutOfRangeAt text place ⊎ ((text ≡ []) × (place ≡ 0)))
  tells_26 place = (λ t. go t reason, back)
    where
      back : OutOfRangeAt text place ⊎ ((text ≡ []) × (place ≡ 0)) → Tells outcome 26 place
      back (inl n) = tells (refused_so (ends_so text n.rest place (OutOfRange place) n.front (line_some n.line) (λ next d. fails_range place (line text next) (found text next d n.line).is n.size n.out)))
      back (inr e) = rw e.1 (tells (empty_so e.0))

      stop : {q : ScheduleRefusal} → Tells outcome 26 place → outcome ≡ refused q → (s : Stopped text 0 0 entries q) → Why s.place' (line text s.next) q → OutOfRangeAt text place
      stop t is s (no_line b r) = absurd (omega (arith, t.0, (tells (is ∙ ap refused r)).0))
      stop t is s (no_size e next g a r) = absurd (omega (arith, t.0, (tells (is ∙ ap refused r)).0))
      stop t is s (out e next g a b r) =
          let same : s.place' ≡ place = sym (ap schedule_figure (ap answer_of (is ∙ ap refused r))) ∙ t.1 in
          record { rest = drop s.next text; front = front s same; entry = e; line = line_first text s.next g; size = a; out = rw (← same) b }

      go : Tells outcome 26 place → Reason text words → OutOfRangeAt text place ⊎ ((text ≡ []) × (place ≡ 0))
      go t (stops q is s) = inl (stop t is s (why s.place' (line text s.next) q s.fails))
      go t (empty is e) = inr (e, sym t.1 ∙ (tells is).1)
      go t (short needed is a h) = absurd (omega (arith, t.0, (tells is).0))
      go t (fits table is a h) = absurd (omega (arith, t.0, (tells is).0))

  -- A refusal of a line is none of the table's, and is no acceptance.
  stops_over : {q : ScheduleRefusal} {place : ℕ} {s : Step Entry} → outcome ≡ refused q → Why place s q → 24 ≤ schedule_number (answer_of outcome)
  stops_over is (no_line b r) = omega (arith, (tells (is ∙ ap refused r)).0)
  stops_over is (no_size e next g a r) = omega (arith, (tells (is ∙ ap refused r)).0)
  stops_over is (out e next g a b r) = omega (arith, (tells (is ∙ ap refused r)).0)

  pub tells_12 : (needed : ℕ) → Tells outcome 12 needed ↔ (AllLines text needed × (words < needed))
  tells_12 needed = (λ t. go t reason, λ h. tells (short_so h.0 h.1))
    where
      go : Tells outcome 12 needed → Reason text words → AllLines text needed × (words < needed)
      go t (stops q is s) = absurd (omega (arith, t.0, stops_over is (why s.place' (line text s.next) q s.fails)))
      go t (empty is e) = absurd (omega (arith, t.0, (tells is).0))
      go t (short n is a h) = let same : n ≡ needed = sym (tells is).1 ∙ t.1 in rw (← same) (a, h)
      go t (fits table is a h) = absurd (omega (arith, t.0, (tells is).0))

  pub tells_0 : (needed : ℕ) → Tells outcome 0 needed ↔ (AllLines text needed × (needed ≤ words))
  tells_0 needed = (λ t. go t reason, λ h. let t = tells (fits_so h.0 h.1) in (t.0, t.1 ∙ h.0.needs))
    where
      go : Tells outcome 0 needed → Reason text words → AllLines text needed × (needed ≤ words)
      go t (stops q is s) = absurd (omega (arith, t.0, stops_over is (why s.place' (line text s.next) q s.fails)))
      go t (empty is e) = absurd (omega (arith, t.0, (tells is).0))
      go t (short n is a h) = absurd (omega (arith, t.0, (tells is).0))
      go t (fits table is a h) = let same : length table ≡ needed = sym (tells is).1 ∙ t.1 in rw (← same) (a, h)
