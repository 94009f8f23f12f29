-- The turns of a rank's dealing to its cords, in the order of their list: each is served by its node.
use mathlib.Core.Path.{◌≡◌, refl, sym, ap, ap₂, subst, ◌∙◌}
use mathlib.Core.List.{List}
use Prim.Native.Nat.{ℕ, suc, ◌+◌, ◌*◌, ◌-◌, ◌/◌, ◌≤◌, ◌<◌}
use native.Mathlib.Nat.{le_trans, add_assoc}
use native.Mathlib.Numerals.{add-one}
use native.Mathlib.Omega.{arith}
use lib.Dec.{eqb}
use lib.ListN.{length, set, length-set}
use lib.Seq.{get_or-set_same, get_or-set_other}
use borrow.Author.Count.{below_more}
use borrow.Author.Tests.{eq-eqb}
use Rattle.figures.specs.Sums.{on}
use Rattle.rooms.specs.Table.{most_watts, most_cords}
use Rattle.figures.proofs.Sums.{on_yes, sum_suc, sum_none}
use Rattle.figures.specs.Figures.{at}
use Rattle.splits.specs.Split.{part}
use Rattle.figures.specs.Places.{Absent}
use Rattle.deals.specs.Passes.{LevelCords, listed_before, over_listed, cord_weight, CordsDealt}
use Rattle.deals.proofs.NodeSums.{sum-within, product_fits}
use Rattle.deals.proofs.CordSums.{cord-within, cord_hangs, cord_bounds}
use Rattle.splits.proofs.Splits.{part_le}
use Rattle.splits.specs.Serving.{MayServe, HasServed}
use Rattle.splits.proofs.Serving.{Served, served_part, served_next, may-serve}

-- A listed cord hangs on the node at place n.
pub record HasCord (listed nodes : List ℕ) (n : ℕ) : Type 0 where
  pub entry : ℕ
  pub within : entry < length listed
  pub hangs : at nodes (at listed entry) ≡ suc n

-- What the pass takes of the cords and of their nodes.
pub record CordsReady (listed nodes starts wants wholes amounts before₀ : List ℕ) : Type 0 where
  pub cords : LevelCords (length amounts) listed nodes starts wants
  pub amount_most : (n : ℕ) → HasCord listed nodes n → at amounts n ≤ most_watts
  pub amount_inside : (n : ℕ) → HasCord listed nodes n → at amounts n ≤ at wholes n
  pub wholes_most : (n : ℕ) → HasCord listed nodes n → at wholes n ≤ most_cords * most_watts
  pub room : (n : ℕ) → HasCord listed nodes n → at before₀ n + over_listed listed nodes (cord_weight starts wants) n ≤ at wholes n

-- The weights served at the node at place n: those before the pass, and of the first i listed cords.
abbrev pub weights_before : List ℕ → List ℕ → List ℕ → List ℕ → List ℕ → ℕ → ℕ → ℕ
weights_before listed nodes starts wants before₀ i n = at before₀ n + listed_before listed nodes (cord_weight starts wants) n i

-- The grant of the cord of entry h.
abbrev pub CordDealt : List ℕ → List ℕ → List ℕ → List ℕ → List ℕ → List ℕ → List ℕ → List ℕ → ℕ → Type 0
CordDealt listed nodes starts wants wholes amounts before₀ grants h =
    (n : ℕ) → at nodes (at listed h) ≡ suc n
    → at grants (at listed h)
    ≡ at starts (at listed h) + part (at amounts n) (at wholes n) (weights_before listed nodes starts wants before₀ h n) (cord_weight starts wants (at listed h))

-- Before the turn of entry i: the cords of the entries before it are served and have their grants, and no other grant is changed.
pub record CordTurn (listed nodes starts wants wholes amounts before₀ grants₀ : List ℕ) (i : ℕ) (before dealt grants : List ℕ) : Type 0 where
  pub ready : CordsReady listed nodes starts wants wholes amounts before₀
  pub reached : i ≤ length listed
  pub grants_size : length grants ≡ length nodes
  pub ours : (h : ℕ) → h < i → CordDealt listed nodes starts wants wholes amounts before₀ grants h
  pub others : (c : ℕ) → Absent listed i c → at grants c ≡ at grants₀ c
  pub served : Served (length amounts) (HasCord listed nodes) (at wholes) amounts (weights_before listed nodes starts wants before₀ i) before dealt

module _ {listed nodes starts wants wholes amounts before₀ grants₀ : List ℕ} where
  pub cords_start : {dealt₀ : List ℕ} → CordsReady listed nodes starts wants wholes amounts before₀
      → length grants₀ ≡ length nodes
      → length before₀ ≡ length amounts
      → length dealt₀ ≡ length amounts
      → ((n : ℕ) → HasCord listed nodes n → at dealt₀ n ≡ at amounts n * at before₀ n / at wholes n)
      → CordTurn listed nodes starts wants wholes amounts before₀ grants₀ 0 before₀ dealt₀ grants₀
  cords_start ready size b d dealt_is =
      record {
        ready = ready;
        reached = omega arith;
        grants_size = size;
        ours = λ h l. absurd (omega arith);
        others = λ c none. refl;
        served = record {
          before_size = b;
          dealt_size = d;
          before_is = λ n has. omega (arith, sum_none (λ h. on (eqb (at nodes (at listed h)) (suc n)) (cord_weight starts wants (at listed h))));
          dealt_is = dealt_is;
        };
      }

  pub cords-end : {i : ℕ} {before dealt grants : List ℕ} → CordTurn listed nodes starts wants wholes amounts before₀ grants₀ i before dealt grants
      → length listed ≤ i
      → CordsDealt listed nodes starts wants wholes amounts before₀ grants₀ grants
  cords-end turn end =
      record {
        ours = λ h n l. turn.ours h (le_trans l end) n;
        others = λ c l none. turn.others c (λ k h. none k (omega (arith, turn.reached)));
      }

  module _ {i : ℕ} {before dealt grants : List ℕ} (turn : CordTurn listed nodes starts wants wholes amounts before₀ grants₀ i before dealt grants) (more : i < length listed) where
    weights_next : (n : ℕ)
        → weights_before listed nodes starts wants before₀ (i + 1) n
        ≡ weights_before listed nodes starts wants before₀ i n + on (eqb (at nodes (at listed i)) (suc n)) (cord_weight starts wants (at listed i))
    weights_next n =
        ap (λ (k : ℕ). weights_before listed nodes starts wants before₀ k n) (add-one i)
        ∙ ap (λ (k : ℕ). at before₀ n + k) (sum_suc i (λ h. on (eqb (at nodes (at listed h)) (suc n)) (cord_weight starts wants (at listed h))))
        ∙ sym (add_assoc (at before₀ n) (listed_before listed nodes (cord_weight starts wants) n i) (on (eqb (at nodes (at listed i)) (suc n)) (cord_weight starts wants (at listed i))))

    -- The cord of the entry, by its place and its node's number as the code has them.
    module _ {c : ℕ} (c_is : c ≡ at listed i) {node : ℕ} (node_is : node ≡ at nodes c) where
      hangs : at nodes (at listed i) ≡ suc (node - 1)
      hangs = omega (arith, ap (at nodes) c_is, turn.ready.cords.hangs i more)

      node-within : node - 1 < length amounts
      node-within = omega (arith, cord_hangs turn.ready.cords more c_is)

      here : HasCord listed nodes (node - 1)
      here = record { entry = i; within = more; hangs = hangs }

      module _ (w : ℕ) (w_is : w ≡ at wants c - at starts c) where
        weight_is : w ≡ cord_weight starts wants (at listed i)
        weight_is = w_is ∙ ap (cord_weight starts wants) c_is

        weight-on : (n : ℕ) → on (eqb (at nodes (at listed i)) (suc n)) (cord_weight starts wants (at listed i)) ≡ on (eqb (suc (node - 1)) (suc n)) w
        weight-on n = ap₂ (λ (k y : ℕ). on (eqb k (suc n)) y) hangs (sym weight_is)

        room_for : weights_before listed nodes starts wants before₀ i (node - 1) + w ≤ at wholes (node - 1)
        room_for =
            omega (
              arith,
              sum-within i (length listed) (λ h. on (eqb (at nodes (at listed h)) (suc (node - 1))) (cord_weight starts wants (at listed h))) more,
              weight-on (node - 1),
              on_yes (eqb (suc (node - 1)) (suc (node - 1))) w (eq-eqb (suc (node - 1)) (suc (node - 1)) refl),
              turn.ready.room (node - 1) here,
            )

        -- What `serve` asks at the node.
        pub cord_may_serve : MayServe (at amounts (node - 1)) (at wholes (node - 1)) w (node - 1) before dealt
        cord_may_serve =
            may-serve turn.served (node - 1) w node-within here room_for
            (product_fits (at amounts (node - 1)) (at wholes (node - 1)) (turn.ready.amount_most (node - 1) here) (turn.ready.wholes_most (node - 1) here))

        module _ {watts : ℕ} {before' dealt' : List ℕ} (has : HasServed (at amounts (node - 1)) (at wholes (node - 1)) w (node - 1) before dealt watts before' dealt') where
          watts_are : watts ≡ part (at amounts (node - 1)) (at wholes (node - 1)) (weights_before listed nodes starts wants before₀ i (node - 1)) w
          watts_are = has.watts_are ∙ served_part turn.served (node - 1) w node-within here

          pub grant_most : at starts c + watts ≤ most_watts
          grant_most =
              omega (
                arith,
                watts_are,
                part_le (at amounts (node - 1)) (at wholes (node - 1)) (weights_before listed nodes starts wants before₀ i (node - 1)) w (turn.ready.amount_inside (node - 1) here),
                w_is,
                cord_bounds turn.ready.cords more c_is,
              )

          pub cord_next : {grants' : List ℕ} → grants' ≡ set grants c (at starts c + watts)
              → CordTurn listed nodes starts wants wholes amounts before₀ grants₀ (i + 1) before' dealt' grants'
          cord_next {grants'} g =
              let kept : (h : ℕ) → (h ≡ c → ⊥) → at grants' h ≡ at grants h = λ h z. ap (λ (l : List ℕ). at l h) g ∙ get_or-set_other grants c h (at starts c + watts) 0 z in
              let stored : at grants' c ≡ at starts c + watts = ap (λ (l : List ℕ). at l c) g ∙ get_or-set_same grants c (at starts c + watts) 0 (omega (arith, turn.grants_size, cord-within turn.ready.cords more c_is)) in
              let granted : at grants' (at listed i)
              ≡ at starts (at listed i) + part (at amounts (node - 1)) (at wholes (node - 1)) (weights_before listed nodes starts wants before₀ i (node - 1)) (cord_weight starts wants (at listed i))
              = ap (at grants') (sym c_is)
              ∙ stored
              ∙ ap₂ ◌+◌ (ap (at starts) c_is)
              (watts_are ∙ ap (part (at amounts (node - 1)) (at wholes (node - 1)) (weights_before listed nodes starts wants before₀ i (node - 1))) weight_is) in
              record {
                ready = turn.ready;
                reached = omega arith;
                grants_size = ap length g ∙ length-set grants c (at starts c + watts) ∙ turn.grants_size;
                ours = below_more (CordDealt listed nodes starts wants wholes amounts before₀ grants') i
                    (λ h l n z. kept (at listed h) (λ q. omega (arith, turn.ready.cords.rises h i l more)) ∙ turn.ours h l n z)
                    (λ n z. subst (λ (k : ℕ). at grants' (at listed i) ≡ at starts (at listed i) + part (at amounts k) (at wholes k) (weights_before listed nodes starts wants before₀ i k) (cord_weight starts wants (at listed i))) (omega (arith, hangs)) granted);
                others = λ h none. kept h (λ q. none i (omega arith) (sym (q ∙ c_is))) ∙ turn.others h (λ k l. none k (omega arith));
                served = served_next turn.served (node - 1) w node-within here (weights_before listed nodes starts wants before₀ (i + 1))
                    (λ n. weights_next n ∙ ap (λ (y : ℕ). weights_before listed nodes starts wants before₀ i n + y) (weight-on n))
                    has;
              }
