-- Laws of figures summed on nodes: of the pass from the last node to the first that sums over all nodes beneath each.
use mathlib.Core.Path.{◌≡◌, refl, sym, ap, ◌∙◌}
use mathlib.Core.Bool.{Bool, true, false}
use mathlib.Core.List.{List}
use Prim.Native.Nat.{ℕ, zero, suc, ◌+◌, ◌-◌, ◌*◌, ◌^◌, ◌≤◌, ◌<◌}
use native.Mathlib.Nat.{add-zero, mul-le-mul, lt_of_le_of_lt}
use native.Mathlib.Omega.{arith}
use lib.Dec.{eqb, lit<}
use lib.ListN.{length, set}
use lib.Seq.{set-get_or}
use Rattle.figures.specs.Sums.{on, sum}
use Rattle.rooms.specs.Table.{most_cords, most_watts}
use Rattle.rooms.specs.Credits.{tree_sum}
use Rattle.figures.specs.Credits.{credited}
use Rattle.figures.proofs.Sums.{sum_suc, sum_up}
use Rattle.figures.proofs.Credits.{credited-at, credited-length}
use Rattle.rooms.proofs.Credits.{tree_sum_step, tree_sum_most}
use Rattle.rooms.proofs.Gather.{Holds, holds_start, holds_turn, holds_most, holds_whole}
use Rattle.figures.specs.Figures.{at}
use Rattle.rooms.specs.Trees.{ParentsFirst}

pub on_zero : (t : Bool) (a : ℕ) → a ≡ 0 → on t a ≡ 0
on_zero true a e = e
on_zero false a e = refl

-- ---- Sums over all nodes beneath a node

-- Figures of the nodes that together are no more than the most cords' watts, so that no sum of them overflows.
abbrev pub Fits : List ℕ → List ℕ → Type 0
Fits parents start = (length parents ≤ length start) × (sum (length parents) (at start) ≤ most_cords * most_watts)

-- Crediting nothing changes nothing.
pub credited-nothing : (node : ℕ) (l : List ℕ) → credited node 0 l ≡ l
unfolding credited
credited-nothing zero l = refl
credited-nothing (suc m) l = ap (set l m) (add-zero (at l m)) ∙ set-get_or l m 0

-- Before the turn of the node at place n - 1: the nodes from n on have passed their sums on.
pub record Summing (parents start : List ℕ) (n : ℕ) (sums : List ℕ) : Type 0 where
  pub done : ℕ
  pub all : n + done ≡ length parents
  pub held : Holds (length parents) (at parents) (at start) (tree_sum (at parents) (length parents) (at start)) done n (at sums)
  pub size : length sums ≡ length start

pub summing_start : (parents start : List ℕ) → Summing parents start (length parents) start
summing_start parents start =
    record { done = 0; all = omega arith; held = holds_start (length parents) (at parents) (at start) (tree_sum (at parents) (length parents) (at start)); size = refl }

module _ {parents start : List ℕ} (rises : ParentsFirst (length parents) (at parents)) where
  -- No sum ever passes the sum of all.
  summing_most : {n : ℕ} {sums : List ℕ} → Summing parents start n sums → (m : ℕ) → m < length parents → at sums m ≤ sum (length parents) (at start)
  summing_most {n} {sums} inv m l =
      omega (
        arith,
        holds_most (length parents) (at parents) (at start) (tree_sum (at parents) (length parents) (at start)) inv.done n (at sums) inv.all inv.held m l,
        tree_sum_step (length parents) (at parents) rises (at start) m l,
        tree_sum_most (length parents) (at parents) (at start) m,
      )

  -- So a node's credit to its parent does not overflow.
  pub summing_fits : {m : ℕ} {sums : List ℕ} {parent : ℕ} → Fits parents start → Summing parents start (suc m) sums → parent ≡ at parents m
      → (parent ≤ length sums) × (at sums (parent - 1) + at sums m < 2 ^ 64)
  summing_fits {m} {parent = parent} fits inv ep =
      let l : m < length parents = omega (arith, inv.all) in
      let r = rises m l in (
        omega (arith, inv.size, fits.0),
        omega (arith, summing_most inv m l, summing_most inv (parent - 1) (omega arith), fits.1),
      )

  -- A node's sum is whole when its turn comes.
  pub whole_at : {m : ℕ} {sums : List ℕ} → Summing parents start (suc m) sums → at sums m ≡ tree_sum (at parents) (length parents) (at start) m
  whole_at {m} {sums} inv =
      holds_whole (length parents) (at parents) (at start) (tree_sum (at parents) (length parents) (at start)) rises inv.done m (at sums) inv.all inv.held
      ∙ sym (tree_sum_step (length parents) (at parents) rises (at start) m (omega (arith, inv.all)))

  -- A node's turn.
  pub summing_at : {m : ℕ} {sums : List ℕ} {parent : ℕ} {sums' : List ℕ} → length parents ≤ length start → Summing parents start (suc m) sums
      → parent ≡ at parents m → sums' ≡ credited parent (at sums m) sums → Summing parents start m sums'
  summing_at {m} {sums} {sums' = sums'} h inv ep es =
      let r = rises m (omega (arith, inv.all)) in
      let own : ℕ → ℕ = at start in
      let passed : ℕ → ℕ = tree_sum (at parents) (length parents) (at start) in
      let is : sums' ≡ credited (at parents m) (at sums m) sums = es ∙ ap (λ (x : ℕ). credited x (at sums m) sums) ep in
      rw is
      (record {
        done = suc inv.done;
        all = omega (arith, inv.all);
        held = holds_turn (length parents) (at parents) own passed inv.done m (at sums) (at (credited (at parents m) (at sums m) sums)) inv.held
            (λ i l. credited-at (at parents m) (at sums m) sums i (omega (arith, inv.all, inv.size))
            ∙ ap (λ (x : ℕ). at sums i + on (eqb (at parents m) (suc i)) x) (whole_at inv));
        size = credited-length (at parents m) (at sums m) sums ∙ inv.size;
      })

  -- The turn of a node that has nothing to pass on.
  pub summing_idle : {m : ℕ} {sums : List ℕ} → length parents ≤ length start → tree_sum (at parents) (length parents) (at start) m ≡ 0 → Summing parents start (suc m) sums → Summing parents start m sums
  summing_idle {m} {sums} h none inv =
      summing_at h inv refl (sym (ap (λ (x : ℕ). credited (at parents m) x sums) (whole_at inv ∙ none) ∙ credited-nothing (at parents m) sums))

-- One more figure is within a sum over more places.
pub sum-within : (k m : ℕ) (g : ℕ → ℕ) → k < m → sum k g + g k ≤ sum m g
sum-within k m g h = omega (arith, sum_suc k g, sum_up (m - suc k) (suc k) m g (omega arith))

-- An amount times the weights of all children fits its word.
pub product_fits : (x e : ℕ) → x ≤ most_watts → e ≤ most_cords * most_watts → x * e < 2 ^ 64
product_fits x e most few = lt_of_le_of_lt (mul-le-mul most few) (lit< tt)
