-- Sums gathered from the last node to the first, each node's passed on to its parent: what the loop keeps, and that the lowest node
-- above its limit is found. A parent's number is below its child's, so a node's sum is whole when its turn comes.
use mathlib.Core.Path.{◌≡◌, refl, sym, ap, ◌∙◌}
use mathlib.Core.Bool.{Bool, true, false, cond}
use mathlib.Core.List.{List}
use Prim.Native.Nat.{ℕ, zero, suc, ◌+◌, ◌-◌, ◌≤◌, ◌<◌}
use native.Mathlib.Omega.{arith}
use lib.ListN.{length, get_or}
use lib.Dec.{eqb, ltb}
use borrow.Author.Tests.{ne_eqb}
use Rattle.figures.specs.Sums.{on, sum}
use Rattle.std.specs.Prelude.{Option, Some, None}
use Rattle.rooms.specs.Limits.{first_node, found_node}
use Rattle.rooms.specs.Trees.{ParentsFirst, child_sum}
use Rattle.rooms.specs.Credits.{tree_sum, exceeds, SumsGathered}
use Rattle.figures.specs.Credits.{credited}
use Rattle.figures.specs.Figures.{at}
use Rattle.figures.proofs.Sums.{on_no, sum_cong, sum_zero, sum_none, up, sum_up}
use Rattle.figures.proofs.Credits.{credited-at, credited-length, credited_past}
use Rattle.rooms.proofs.Credits.{tree_sum_step, tree_sum_most}

-- ---- What stands on the nodes, where each has its own figure and passes `passed` on to its parent

module _ (count : ℕ) (parent own passed : ℕ → ℕ) where
  -- On each node stand its own figure and what its children among the `done` nodes from place n on passed to it.
  unfoldable pub Holds : ℕ → ℕ → (ℕ → ℕ) → Type 0
  Holds done n now = (i : ℕ) → i < count → now i ≡ own i + up done n (λ m. on (eqb (parent m) (suc i)) (passed m))

  pub holds_start : Holds 0 count own
  unfolding Holds up
  holds_start i l = omega arith

  pub holds_turn : (done m : ℕ) (now next : ℕ → ℕ) → Holds done (suc m) now
      → ((i : ℕ) → i < count → next i ≡ now i + on (eqb (parent m) (suc i)) (passed m)) → Holds (suc done) m next
  unfolding Holds up
  holds_turn done m now next h e i l = omega (arith, h i l, e i l)

  -- It is never more than with all children.
  pub holds_most : (done n : ℕ) (now : ℕ → ℕ) → n + done ≡ count → Holds done n now → (i : ℕ) → i < count → now i ≤ own i + child_sum count parent i passed
  unfolding Holds
  holds_most done n now e h i l = omega (arith, h i l, sum_up done n count (λ m. on (eqb (parent m) (suc i)) (passed m)) e)

  -- When all nodes had their turns, each has what all its children passed to it.
  pub holds_end : (done : ℕ) (now : ℕ → ℕ) → 0 + done ≡ count → Holds done 0 now → (i : ℕ) → i < count → now i ≡ own i + child_sum count parent i passed
  unfolding Holds
  holds_end done now e h i l =
      let f : ℕ → ℕ = λ m. on (eqb (parent m) (suc i)) (passed m) in
      omega (arith, h i l, sum_up done 0 count f e, sum_none f)

  module _ (rises : ParentsFirst count parent) where
    child_sum-later : (done m : ℕ) → suc m + done ≡ count → child_sum count parent m passed ≡ up done (suc m) (λ h. on (eqb (parent h) (suc m)) (passed h))
    child_sum-later done m e =
        let f : ℕ → ℕ = λ h. on (eqb (parent h) (suc m)) (passed h) in
        let z : sum (suc m) f ≡ 0
        = sum_cong (suc m) f (λ h. 0)
        (λ h l. on_no (eqb (parent h) (suc m)) (passed h) (ne_eqb (parent h) (suc m) (λ q. omega (arith, rises h (omega arith)))))
        ∙ sum_zero (suc m) in
        omega (arith, sum_up done (suc m) count f e)

    -- When its turn comes, a node has what all its children passed to it.
    pub holds_whole : (done m : ℕ) (now : ℕ → ℕ) → suc m + done ≡ count → Holds done (suc m) now → now m ≡ own m + child_sum count parent m passed
    unfolding Holds
    holds_whole done m now e h = omega (arith, h m (omega arith), child_sum-later done m e)

-- ---- The loop over the nodes of a table

-- Before the turn of the node at place n - 1: the nodes from n on have passed their sums on, and the lowest of them above its limit is found.
pub record Gathered (parent limit : ℕ → ℕ) (count : ℕ) (start : List ℕ) (found : Option ℕ) (n : ℕ) (sums : List ℕ) : Type 0 where
  pub done : ℕ
  pub all : n + done ≡ count
  pub held : Holds count parent (at start) (tree_sum parent count (at start)) done n (at sums)
  pub size : length sums ≡ length start
  pub past : (i : ℕ) → count ≤ i → get_or sums i 0 ≡ get_or start i 0
  pub first : found ≡ found_node (first_node done n (exceeds parent limit count start))

-- The number found, after one more node.
found_turn : (over : Bool) (m k : ℕ) → cond over (Some (suc m)) (found_node k) ≡ found_node (cond over (suc m) k)
found_turn true m k = refl
found_turn false m k = refl

pub gathered_start : (parent limit : ℕ → ℕ) (count : ℕ) (start : List ℕ) → Gathered parent limit count start None count start
unfolding first_node
gathered_start parent limit count start =
    record {
      done = 0;
      all = omega arith;
      held = holds_start count parent (at start) (tree_sum parent count (at start));
      size = refl;
      past = λ i l. refl;
      first = refl;
    }

module _ {parent limit : ℕ → ℕ} {count : ℕ} {start : List ℕ} where
  pub gathered_end : {found : Option ℕ} {n : ℕ} {sums : List ℕ} → Gathered parent limit count start found n sums → n ≤ 0 → found ≡ found_node (first_node count 0 (exceeds parent limit count start))
  gathered_end {n = zero} inv z =
      let e : inv.done ≡ count = omega (arith, inv.all) in
      inv.first ∙ ap (λ (k : ℕ). found_node (first_node k 0 (exceeds parent limit count start))) e
  gathered_end {n = suc m} inv z = absurd (omega arith)

  module _ (rises : ParentsFirst count parent) where
    -- At the end each node has its whole sum.
    pub gathered_sums : {found : Option ℕ} {n : ℕ} {sums : List ℕ} → Gathered parent limit count start found n sums → n ≤ 0 → SumsGathered parent count start sums
    gathered_sums {n = zero} {sums = sums} inv z = record {
      size = inv.size;
      nodes = λ i l. holds_end count parent (at start) (tree_sum parent count (at start)) inv.done (at sums) inv.all inv.held i l
          ∙ sym (tree_sum_step count parent rises (at start) i l);
      past = inv.past;
    }
    gathered_sums {n = suc m} inv z = absurd (omega arith)

    gathered_whole : (found : Option ℕ) (n : ℕ) (sums : List ℕ) → Gathered parent limit count start found n sums → 0 < n → get_or sums (n - 1) 0 ≡ tree_sum parent count (at start) (n - 1)
    gathered_whole found zero sums inv p = absurd (omega arith)
    gathered_whole found (suc m) sums inv p =
        let e : suc m - 1 ≡ m = omega arith in
        rw e
        (holds_whole count parent (at start) (tree_sum parent count (at start)) rises inv.done m (at sums) inv.all inv.held
        ∙ sym (tree_sum_step count parent rises (at start) m (omega (arith, inv.all))))

    -- No figure ever passes the sum of all, so no credit overflows.
    pub gathered_most : {found : Option ℕ} {n : ℕ} {sums : List ℕ} → Gathered parent limit count start found n sums → (i : ℕ) → i < count → get_or sums i 0 ≤ sum count (at start)
    gathered_most {n = n} {sums = sums} inv i l =
        omega (
          arith,
          holds_most count parent (at start) (tree_sum parent count (at start)) inv.done n (at sums) inv.all inv.held i l,
          tree_sum_step count parent rises (at start) i l,
          tree_sum_most count parent (at start) i,
        )

    turned : (found : Option ℕ) (n : ℕ) (sums : List ℕ) → Gathered parent limit count start found n sums → 0 < n → count ≤ length start
        → Gathered parent limit count start (cond (exceeds parent limit count start (n - 1)) (Some (suc (n - 1))) found) (n - 1) (credited (parent (n - 1)) (tree_sum parent count (at start) (n - 1)) sums)
    unfolding first_node
    turned found zero sums inv p h = absurd (omega arith)
    turned found (suc m) sums inv p h =
        let e : suc m - 1 ≡ m = omega arith in
        let r = rises m (omega (arith, inv.all)) in
        let figure : ℕ = tree_sum parent count (at start) m in
        rw e
        (record {
          done = suc inv.done;
          all = omega (arith, inv.all);
          held = holds_turn count parent (at start) (tree_sum parent count (at start)) inv.done m (at sums) (at (credited (parent m) figure sums)) inv.held
              (λ i l. credited-at (parent m) figure sums i (omega (arith, inv.all, inv.size)));
          size = credited-length (parent m) figure sums ∙ inv.size;
          past = λ i l. credited_past (parent m) figure sums i (omega (arith, inv.all)) ∙ inv.past i l;
          first = rw (inv.first, found_turn (exceeds parent limit count start m) m (first_node inv.done (suc m) (exceeds parent limit count start)));
        })

    -- One turn, in the terms of the code.
    pub gathered_turn : {found : Option ℕ} {n : ℕ} {sums : List ℕ} {most figure above : ℕ} {found' : Option ℕ} {sums' : List ℕ} → Gathered parent limit count start found n sums → 0 < n
        → count ≤ length start
        → most ≡ limit (n - 1) → figure ≡ get_or sums (n - 1) 0 → above ≡ parent (n - 1)
        → found' ≡ cond (ltb most figure) (Some (suc (n - 1))) found → sums' ≡ credited above figure sums → Gathered parent limit count start found' (n - 1) sums'
    gathered_turn {found} {n} {sums} inv p h el ef ep en es =
        rw (es, en, el, ep, ef ∙ gathered_whole found n sums inv p) (turned found n sums inv p h)
