-- The starts raised from the lows: what the cords rise by is credited to their nodes, and from the last node to the first taken from
-- what each limit has left.
use mathlib.Core.Path.{◌≡◌, refl, sym, ap, ◌∙◌}
use mathlib.Core.Bool.{Bool}
use mathlib.Core.List.{List}
use mathlib.Core.Logic.{◌⊎◌, inl, inr}
use Prim.Native.Nat.{ℕ, zero, suc, ◌+◌, ◌-◌, ◌*◌, ◌^◌, ◌≤◌, ◌<◌}
use native.Mathlib.Nat.{eq-or-lt_of_le, le_of_eq}
use native.Mathlib.Numerals.{add-one}
use native.Mathlib.Omega.{arith}
use lib.ListN.{length, get_or, set, take, replicate, length-set}
use lib.Seq.{get_or-set_same, get_or-set_other}
use Rattle.figures.specs.Figures.{at}
use Rattle.figures.specs.Sums.{on, sum}
use Rattle.figures.proofs.Sums.{on_add, sum_suc, sum_none}
use Rattle.rooms.specs.Table.{most_cords, most_watts}
use Rattle.rooms.specs.Trees.{beneath, ParentsFirst, sum_beneath}
use Rattle.rooms.specs.Credits.{tree_sum}
use Rattle.figures.specs.Credits.{credited}
use Rattle.figures.proofs.Credits.{credited-length, figure_in_sum, sum_zeros, sum-credited}
use Rattle.rooms.proofs.Credits.{tree_sum_zero, tree_sum-credited}
use Rattle.deals.proofs.NodeSums.{Summing, summing_start, summing_at, whole_at}
use Rattle.deals.specs.Ranks.{list_beneath}

-- ---- The loop over the cords

-- The watts of the cords before place c that hang beneath the node at place n, of so many nodes.
abbrev pub watts_before : (ℕ → ℕ) → ℕ → List ℕ → List ℕ → ℕ → ℕ → ℕ
watts_before parent count nodes watts c n = sum_beneath count parent c (at nodes) n (at watts)

-- What the cords before place c rise by stands on their nodes.
pub record RisesCredited (nodes lows starts : List ℕ) (count c : ℕ) (raised : List ℕ) : Type 0 where
  pub size : length raised ≡ count
  pub most : sum count (at raised) ≤ c * most_watts
  pub risen : (parent : ℕ → ℕ) (n : ℕ) → tree_sum parent count (at raised) n + watts_before parent count nodes lows c n ≡ watts_before parent count nodes starts c n

module _ {nodes lows starts : List ℕ} where
  pub rises_start : {raised : List ℕ} → ((n : ℕ) → at raised n ≡ 0) → RisesCredited nodes lows starts (length raised) 0 raised
  unfolding sum_beneath
  rises_start {raised} zeros = record {
    size = refl;
    most = omega (arith, sum_zeros (length raised) raised zeros);
    risen = λ parent n.
        let low : ℕ → ℕ = λ h. on (beneath parent (length raised) n (at nodes h)) (at lows h) in
        let start : ℕ → ℕ = λ h. on (beneath parent (length raised) n (at nodes h)) (at starts h) in
        omega (arith, tree_sum_zero (length raised) parent (at raised) n zeros, sum_none low, sum_none start);
  }

  module _ {count c node rise : ℕ} {raised : List ℕ} (inv : RisesCredited nodes lows starts count c raised) (node_is : node ≡ at nodes c) (rise_is : rise ≡ at starts c - at lows c)
      (hangs : (1 ≤ at nodes c) × (at nodes c ≤ count) × (at lows c ≤ at starts c) × (at starts c ≤ most_watts)) where
    -- A cord's rise does not overflow its node's figure.
    pub rise_fits : c < most_cords → (node ≤ length raised) × (at raised (node - 1) + rise < 2 ^ 64)
    rise_fits few = (
      omega (arith, inv.size, hangs.1),
      omega (arith, figure_in_sum count (node - 1) raised (omega (arith, hangs.0, hangs.1)), inv.most, hangs.3),
    )

    pub rises_turn : {raised' : List ℕ} → raised' ≡ credited node rise raised → RisesCredited nodes lows starts count (c + 1) raised'
    unfolding sum_beneath
    rises_turn is =
        let some : 1 ≤ node = omega (arith, hangs.0) in
        let there : node ≤ count = omega (arith, hangs.1) in
        let long : count ≤ length raised = omega (arith, inv.size) in
        rw (is, add-one)
        (record {
          size = credited-length node rise raised ∙ inv.size;
          most = omega (arith, sum-credited count node rise raised some there long, inv.most, hangs.3);
          risen = λ parent n.
              let here : Bool = beneath parent count n (at nodes c) in
              let low : ℕ → ℕ = λ h. on (beneath parent count n (at nodes h)) (at lows h) in
              let start : ℕ → ℕ = λ h. on (beneath parent count n (at nodes h)) (at starts h) in
              let more : on (beneath parent count n node) rise ≡ on here rise = ap (λ (v : ℕ). on (beneath parent count n v) rise) node_is in
              let up_to : rise + at lows c ≡ at starts c = omega (arith, hangs.2) in
              let whole : on here rise + on here (at lows c) ≡ on here (at starts c) = sym (on_add here rise (at lows c)) ∙ ap (on here) up_to in
              omega (arith, tree_sum-credited count parent node rise raised n some there long, inv.risen parent n, sum_suc c low, sum_suc c start);
        })

  -- After the last cord.
  module _ {count c : ℕ} {raised : List ℕ} (inv : RisesCredited nodes lows starts count c raised) (all : c ≡ length nodes) where
    pub rises_most : length nodes ≤ most_cords → sum count (at raised) ≤ most_cords * most_watts
    rises_most few = omega (arith, inv.most)

    pub rises_end : (parents : List ℕ) (n : ℕ) → length parents ≡ count
        → tree_sum (at parents) (length parents) (at raised) n + list_beneath parents nodes lows n ≡ list_beneath parents nodes starts n
    rises_end parents n is = rw (is, ← all) (inv.risen (at parents) n)

-- ---- The loop over the nodes

-- Before the turn of the node at place n - 1: the nodes from n on have passed their figures on, and what stood on and beneath each of
-- them is taken from what its limit had left.
pub record RisesTaken (parents raised₀ left₀ : List ℕ) (n : ℕ) (raised left : List ℕ) : Type 0 where
  pub summed : Summing parents raised₀ n raised
  pub size : length left ≡ length left₀
  pub taken : (m : ℕ) → n ≤ m → m < length parents → at left m + tree_sum (at parents) (length parents) (at raised₀) m ≡ at left₀ m
  pub rest : (m : ℕ) → m < n → at left m ≡ at left₀ m

pub taken_start : {parents raised left : List ℕ} → RisesTaken parents raised left (length parents) raised left
taken_start {parents} {raised} = record { summed = summing_start parents raised; size = refl; taken = λ m h l. absurd (omega arith); rest = λ m l. refl }

-- The code counts down to the node's place.
pub taken_next : {parents raised₀ left₀ raised left : List ℕ} {n : ℕ} → 0 < n → RisesTaken parents raised₀ left₀ n raised left → RisesTaken parents raised₀ left₀ (suc (n - 1)) raised left
taken_next {n = n} more inv = let e : suc (n - 1) ≡ n = omega arith in rw e inv

module _ {parents raised₀ left₀ : List ℕ} {m : ℕ} {raised left : List ℕ} (inv : RisesTaken parents raised₀ left₀ (suc m) raised left) where
  pub node_there : m < length parents
  node_there = omega (arith, inv.summed.all)

  module _ (rises : ParentsFirst (length parents) (at parents)) (enough : (n : ℕ) → n < length parents → tree_sum (at parents) (length parents) (at raised₀) n ≤ at left₀ n) where
    -- What stands on the node is no more than what its limit has left.
    pub taken_fits : at raised m ≤ at left m
    taken_fits = omega (arith, whole_at rises inv.summed, enough m node_there, inv.rest m (omega arith))

    pub taken_turn : length raised₀ ≡ length parents → length left₀ ≡ length parents → {parent over : ℕ} {raised' : List ℕ}
        → over ≡ at left m - at raised m → parent ≡ at parents m → raised' ≡ credited parent (at raised m) raised
        → RisesTaken parents raised₀ left₀ m raised' (set left m over)
    taken_turn raised_size left_size {over = over} over_is parent_is is = record {
      summed = summing_at rises (le_of_eq (sym raised_size)) inv.summed parent_is is;
      size = length-set left m over ∙ inv.size;
      taken = λ i h l. go i l (eq-or-lt_of_le h);
      rest = λ i l. get_or-set_other left m i over 0 (λ e. omega arith) ∙ inv.rest i (omega arith);
    }
      where
        here : over + tree_sum (at parents) (length parents) (at raised₀) m ≡ at left₀ m
        here = omega (arith, whole_at rises inv.summed, taken_fits, inv.rest m (omega arith))

        go : (i : ℕ) → i < length parents → (m ≡ i) ⊎ (m < i) → at (set left m over) i + tree_sum (at parents) (length parents) (at raised₀) i ≡ at left₀ i
        go i l (inl e) = rw (← e) (omega (arith, get_or-set_same left m over 0 (omega (arith, inv.size, node_there)), here))
        go i l (inr later) = omega (arith, get_or-set_other left m i over 0 (λ e. omega arith), inv.taken i later l)

-- ---- Before both loops

-- The front of a list of zeros has 0 at every place, also past its end.
pub zeros-front-at : (k n i : ℕ) → ◌≡◌ {A = ℕ} (get_or (take n (replicate k 0)) i 0) 0
zeros-front-at k zero i = refl
zeros-front-at zero (suc n) i = refl
zeros-front-at (suc k) (suc n) zero = refl
zeros-front-at (suc k) (suc n) (suc i) = zeros-front-at k n i
