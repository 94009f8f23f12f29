-- Refusal 9 comes exactly where the lows beneath some node exceed its limit, and names the lowest such node:
-- in the check of a table, and in the answers of Write and Read.
use mathlib.Core.Path.{◌≡◌, refl, sym, ap, ◌∙◌}
use mathlib.Core.Bool.{Bool, true, false, cond}
use mathlib.Core.List.{List}
use mathlib.Core.Logic.Iff
use mathlib.Core.Logic.{◌↔◌}
use Prim.Native.Nat.{ℕ, zero, suc, ◌-◌, ◌≤◌}
use native.Mathlib.Nat.{suc-ne-zero}
use native.Mathlib.Omega.{arith}
use lib.ListN.{length, get_or}
use lib.Dec.{eqb, ltb, leb}
use borrow.Author.Tests.{ltb-true, ltb-false, lt-ltb, le-ltb, eqb-false, eq-eqb, ne_eqb}
use Rattle.numbers.specs.Sheet.{SheetEnding, whole, sheet_of, bytes_of}
use Rattle.numbers.specs.Sheet as sheet
use Rattle.numbers.specs.declared.Fault.TheVariants.{TooLong, NotShortest, CutShort}
use Rattle.rooms.specs.Part.{Step, good, bad, Good, Part, follow, word, ensure, end, many}
use Rattle.rooms.specs.Table.{Room, percent, node, cord, range, load, server, table}
use Rattle.rooms.specs.Limits.{limit, node_at, lows_beneath, first_node, overloaded, checked}
use Rattle.rooms.specs.Outcome.{SheetOutcome, sheet_refusal_number, sheet_refusal_place, sheet_number, answer_of, if_good, read_words, reading, writing}
use Rattle.outcomes.specs.Outcome.{fitting}
use Rattle.outcomes.proofs.Outcomes.{fitting_either}
use Rattle.rooms.specs.Promises.{IsNode, Within, LowestExceeding, Overloaded, IsNine, RefusalNine}
use Rattle.rooms.specs.declared.SheetRefusal.{SheetRefusal}
use Rattle.rooms.specs.declared.SheetRefusal.TheVariants.{BadNumber, WordMissing, WordOutOfRange, GreatestBelowLeast, SharesNotWhole, WordsLeftOver, LowsAboveLimit, OutputTooShort}
use Rattle.rooms.proofs.Search.{first_node_none, none_first_node, first_node_first, first_first_node}

-- ---- The overloaded node of a room

module _ (r : Room) where
  abbrev count : ℕ
  count = length r.nodes

  abbrev over : ℕ → Bool
  over m = ltb (limit (node_at r m)) (lows_beneath r m)

  not_over : (m : ℕ) → Within r (suc m) → over m ≡ false
  not_over m h = let q : suc m - 1 ≡ m = omega arith in le-ltb _ _ (rw q at h)

  pub overloaded_none : (overloaded r ≡ 0) ↔ ((n : ℕ) → IsNode r n → Within r n)
  unfolding overloaded
  overloaded_none = (
    λ e n is. ltb-false _ _ (first_node_none count 0 over e (n - 1) (omega arith) (omega (arith, is.0, is.1))),
    λ h. none_first_node count 0 over (λ m a b. not_over m (h (suc m) (omega arith, omega arith))),
  )

  pub overloaded_lowest : (n : ℕ) → ((1 ≤ n) × (overloaded r ≡ n)) ↔ LowestExceeding r n
  unfolding overloaded
  overloaded_lowest n = (λ e. lowest e.0 e.1, λ h. (h.node.0, names h))
    where
      lowest : 1 ≤ n → first_node count 0 over ≡ n → LowestExceeding r n
      lowest some e =
          let q : n ≡ suc (n - 1) = omega arith in
          let f = first_node_first count 0 over (n - 1) (e ∙ q) in
          record {
            node = (some, omega (arith, f.within));
            exceeds = ltb-true _ _ f.holds;
            lowest = λ m is l. ltb-false _ _ (f.before (m - 1) (omega arith) (omega (arith, is.0)));
          }

      names : LowestExceeding r n → first_node count 0 over ≡ n
      names h =
          let q : suc (n - 1) ≡ n = omega (arith, h.node.0) in
          first_first_node count 0 over (n - 1)
          (record {
            from = omega arith;
            within = omega (arith, h.node.0, h.node.1);
            holds = lt-ltb _ _ h.exceeds;
            before = λ m a b. not_over m (h.lowest (suc m) (omega arith, omega (arith, h.node.1)) (omega arith));
          })
          ∙ q

-- ---- The check of a table whose words are good

-- What the check comes to, by whether no node is overloaded.
abbrev answer : Room → ℕ → Bool → Step Room
answer r j none = cond none (good r j) (bad (LowsAboveLimit (overloaded r)))

module _ (w : List ℕ) (r : Room) (j : ℕ) (e : table w 0 ≡ good r j) where
  checked_is : checked w 0 ≡ answer r j (eqb (overloaded r) 0)
  unfolding checked follow ensure
  checked_is = rw e (go (eqb (overloaded r) 0))
    where
      go : (t : Bool) → follow (cond t (good true j) (bad (LowsAboveLimit (overloaded r)))) (λ _ k. good r k) ≡ answer r j t
      go true = refl
      go false = refl

  checked_good : overloaded r ≡ 0 → checked w 0 ≡ good r j
  checked_good z = checked_is ∙ ap (answer r j) (eq-eqb (overloaded r) 0 z)

  checked_bad : (n : ℕ) → (checked w 0 ≡ bad (LowsAboveLimit n)) ↔ ((1 ≤ n) × (overloaded r ≡ n))
  checked_bad n = (
    λ c. named (eqb (overloaded r) 0) refl (sym checked_is ∙ c),
    λ h. checked_is ∙ ap (answer r j) (ne_eqb (overloaded r) 0 (λ z. omega (arith, h.0, h.1))) ∙ ap (λ (m : ℕ). bad (LowsAboveLimit m)) h.1,
  )
    where
      named : (t : Bool) → eqb (overloaded r) 0 ≡ t → answer r j t ≡ bad (LowsAboveLimit n) → (1 ≤ n) × (overloaded r ≡ n)
      named true q c = absurd (suc-ne-zero 0 (cc))
      named false q c =
          let s : overloaded r ≡ n = cc in
          let z : overloaded r ≡ 0 → ⊥ = eqb-false (overloaded r) 0 q in
          (omega arith, s)

-- ---- No part of a table refuses by 9

-- A step that refusal 9 does not end.
abbrev Early : {A : Type 0} → Step A → Type 0
Early s = (n : ℕ) → s ≡ bad (LowsAboveLimit n) → ⊥

-- A refusal other than 9.
abbrev Other : SheetRefusal → Type 0
Other refusal = (n : ℕ) → refusal ≡ LowsAboveLimit n → ⊥

good_early : {A : Type 0} (a : A) (j : ℕ) → Early (good a j)
good_early a j n e = suc-ne-zero 0 (cc)

bad_early : {A : Type 0} (refusal : SheetRefusal) → Other refusal → Early {A = A} (bad refusal)
bad_early refusal h n e = h n (cc)

follow_early : {A B : Type 0} (s : Step A) (k : A → ℕ → Step B) → Early s → ((a : A) (j : ℕ) → Early (k a j)) → Early (follow s k)
unfolding follow
follow_early (good a j) k h g n e = g a j n e
follow_early (bad refusal) k h g n e = h n (cc)

ensure_early : (t : Bool) (refusal : SheetRefusal) (w : List ℕ) (i : ℕ) → Other refusal → Early (ensure t refusal w i)
unfolding ensure
ensure_early true refusal w i h = good_early true i
ensure_early false refusal w i h = bad_early refusal h

end_early : (w : List ℕ) (i : ℕ) → Early (end w i)
unfolding end
end_early w i = go (ltb i (length w))
  where
    go : (t : Bool) → Early (cond t (bad (WordsLeftOver i)) (good true i))
    go true = bad_early _ (λ n e. suc-ne-zero 0 (cc))
    go false = good_early true i

word_early : (test : ℕ → Bool) (w : List ℕ) (i : ℕ) → Early (word test w i)
unfolding word
word_early test w i = go (leb (length w) i) (test (get_or w i 0))
  where
    go : (s t : Bool) → Early (cond s (bad (WordMissing (length w))) (cond t (good (get_or w i 0) (suc i)) (bad (WordOutOfRange i))))
    go true t = bad_early _ (λ n e. suc-ne-zero 0 (cc))
    go false true = good_early _ _
    go false false = bad_early _ (λ n e. suc-ne-zero 0 (cc))

many_early : {A : Type 0} (part : ℕ → Part A) (next : ℕ → A → ℕ) (w : List ℕ) → ((given i : ℕ) → Early (part given w i)) → (count given i : ℕ)
    → Early (many count part next given w i)
unfolding many
many_early part next w each zero given i = good_early _ _
many_early part next w each (suc count) given i =
    follow_early _ _ (each given i) (λ a j. follow_early _ _ (many_early part next w each count (next given a) j) (λ l k. good_early _ _))

percent_early : (percents : Bool) (w : List ℕ) (i : ℕ) → Early (percent percents w i)
unfolding percent
percent_early false w i = good_early _ _
percent_early true w i =
    follow_early _ _ (good_early _ _) (λ place j.
    follow_early _ _ (word_early _ w j) (λ percent k.
    follow_early _ _ (ensure_early _ _ w k (λ n e. suc-ne-zero 0 (cc))) (λ _ m. good_early _ _)))

node_early : (percents : Bool) (own : ℕ) (w : List ℕ) (i : ℕ) → Early (node percents own w i)
unfolding node
node_early percents own w i =
    follow_early _ _ (word_early _ w i) (λ a j.
    follow_early _ _ (word_early _ w j) (λ b k.
    follow_early _ _ (percent_early percents w k) (λ c l. good_early _ _)))

cord_early : (scale node_count : ℕ) (w : List ℕ) (i : ℕ) → Early (cord scale node_count w i)
unfolding cord
cord_early scale node_count w i = follow_early _ _ (word_early _ w i) (λ a j. follow_early _ _ (word_early _ w j) (λ b k. good_early _ _))

range_early : (w : List ℕ) (i : ℕ) → Early (range w i)
unfolding range
range_early w i =
    follow_early _ _ (word_early _ w i) (λ least j.
    follow_early _ _ (good_early _ _) (λ place k.
    follow_early _ _ (word_early _ w k) (λ greatest l.
    follow_early _ _ (ensure_early _ _ w l (λ n e. suc-ne-zero 0 (cc))) (λ _ m. good_early _ _))))

load_early : (scale node_count before start : ℕ) (w : List ℕ) (i : ℕ) → Early (load scale node_count before start w i)
unfolding load
load_early scale node_count before start w i =
    follow_early _ _ (word_early _ w i) (λ count j.
    follow_early _ _ (many_early _ _ w (λ _. cord_early scale node_count w) count 0 j) (λ cords k.
    follow_early _ _ (ensure_early _ _ w k (λ n e. suc-ne-zero 0 (cc))) (λ _ l. good_early _ _)))

server_early : (scale node_count before : ℕ) (w : List ℕ) (i : ℕ) → Early (server scale node_count before w i)
unfolding server
server_early scale node_count before w i =
    follow_early _ _ (good_early _ _) (λ start j.
    follow_early _ _ (word_early _ w j) (λ rank k.
    follow_early _ _ (range_early w k) (λ range l.
    follow_early _ _ (load_early scale node_count before start w l) (λ cords m. good_early _ _))))

table_early : (w : List ℕ) (i : ℕ) → Early (table w i)
unfolding table
table_early w i =
    follow_early _ _ (word_early _ w i) (λ version j.
    follow_early _ _ (word_early _ w j) (λ node_count k.
    follow_early _ _ (many_early _ _ w (λ own. node_early _ own w) node_count 1 k) (λ nodes l.
    follow_early _ _ (word_early _ w l) (λ server_count m.
    follow_early _ _ (many_early _ _ w (λ before. server_early _ node_count before w) server_count 0 m) (λ servers o.
    follow_early _ _ (end_early w o) (λ _ p. good_early _ _))))))

-- Where 9 ends what follows an early step, the step is good.
early_good : {A B : Type 0} (s : Step A) (k : A → ℕ → Step B) (n : ℕ) → Early s → follow s k ≡ bad (LowsAboveLimit n) → Good s
unfolding follow
early_good (good a j) k n h e = record { value = a; next = j; is = refl }
early_good (bad refusal) k n h e = absurd (h n (cc))

checked_last : (w : List ℕ) (n : ℕ) → checked w 0 ≡ bad (LowsAboveLimit n) → Good (table w 0)
unfolding checked
checked_last w n e = early_good (table w 0) _ n (table_early w 0) e

-- The check of any words.
pub checked_nine : (w : List ℕ) (n : ℕ) → (checked w 0 ≡ bad (LowsAboveLimit n)) ↔ Overloaded w n
checked_nine w n = (found, λ o. (lowest o.room o.end o.is_table).1 o.lowest)
  where
    lowest : (r : Room) (j : ℕ) → table w 0 ≡ good r j → (checked w 0 ≡ bad (LowsAboveLimit n)) ↔ LowestExceeding r n
    lowest r j e = Iff.trans (checked_bad w r j e n) (overloaded_lowest r n)

    found : checked w 0 ≡ bad (LowsAboveLimit n) → Overloaded w n
    found c =
        let t = checked_last w n c in
        record { room = t.value; end = t.next; is_table = t.is; lowest = (lowest t.value t.next t.is).0 c }

-- ---- The answers

-- The refusal with the number 9.
pub nine_lows : (refusal : SheetRefusal) (n : ℕ) → sheet_refusal_number refusal ≡ 9 → sheet_refusal_place refusal ≡ n → refusal ≡ LowsAboveLimit n
nine_lows (BadNumber TooLong place) n e p = absurd (omega arith)
nine_lows (BadNumber NotShortest place) n e p = absurd (omega arith)
nine_lows (BadNumber CutShort place) n e p = absurd (omega arith)
nine_lows (WordMissing place) n e p = absurd (omega arith)
nine_lows (WordOutOfRange place) n e p = absurd (omega arith)
nine_lows (GreatestBelowLeast place) n e p = absurd (omega arith)
nine_lows (SharesNotWhole place) n e p = absurd (omega arith)
nine_lows (WordsLeftOver place) n e p = absurd (omega arith)
nine_lows (LowsAboveLimit place) n e p = ap LowsAboveLimit p
nine_lows (OutputTooShort place) n e p = absurd (omega arith)

-- An output that follows a good table is accepted, or refused by 12.
fitting_other : (output : List ℕ) (entries : ℕ) → sheet_number (answer_of (fitting OutputTooShort output entries)) ≡ 9 → ⊥
fitting_other output entries = fitting_either OutputTooShort output entries (λ (o : SheetOutcome). sheet_number (answer_of o) ≡ 9 → ⊥) (λ e. omega arith) (λ e. omega arith)

step_nine : (s : Step Room) (output : List ℕ) (entries n : ℕ)
    → IsNine (answer_of (if_good s output entries)) n ↔ (s ≡ bad (LowsAboveLimit n))
step_nine (good r j) output entries n = (λ a. absurd (fitting_other output entries a.0), λ e. absurd (suc-ne-zero 0 (cc)))
step_nine (bad refusal) output entries n = (
  λ a. ap bad (nine_lows refusal n a.0 a.1),
  λ e. let q : refusal ≡ LowsAboveLimit n = cc in rw q (refl, refl),
)

output_nine : (w output : List ℕ) (entries n : ℕ)
    → IsNine (answer_of (if_good (checked w 0) output entries)) n ↔ Overloaded w n
output_nine w output entries n = Iff.trans (step_nine (checked w 0) output entries n) (checked_nine w n)

write_nine : (w : List ℕ) (bytes n : ℕ) → IsNine (answer_of (writing w bytes)) n ↔ Overloaded w n
unfolding writing
write_nine w bytes n = output_nine w (bytes_of w) bytes n

read_nine : (sheet : List ℕ) (words n : ℕ)
    → IsNine (answer_of (reading sheet words)) n ↔ (((sheet_of sheet).ending ≡ whole) × Overloaded (sheet_of sheet).words n)
unfolding reading
read_nine bytes words n = go (sheet_of bytes).ending
  where
    given : List ℕ
    given = (sheet_of bytes).words

    go : (ending : SheetEnding) → IsNine (answer_of (read_words given ending words)) n ↔ ((ending ≡ whole) × Overloaded given n)
    go whole =
        let o = output_nine given given words n in
        (λ a. (refl, o.0 a), λ h. o.1 h.1)
    go (sheet.refused fault place) = (
      λ a. absurd (let q = nine_lows (BadNumber fault place) n a.0 a.1 in suc-ne-zero 0 (cc)),
      λ h. absurd (let q = h.0 in suc-ne-zero 0 (cc)),
    )

-- ---- The promise

pub refusal_nine : RefusalNine
refusal_nine =
    record {
      write = write_nine;
      read = read_nine;
      passed = λ w r j e h. checked_good w r j e ((overloaded_none r).1 h);
    }
