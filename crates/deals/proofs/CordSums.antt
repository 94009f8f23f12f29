-- Laws of a rank's listed cords, and of their figures summed on the cords' nodes, cord by cord.
use mathlib.Core.Path.{◌≡◌, sym, ap, ap₂, ◌∙◌}
use mathlib.Core.Bool.{Bool, true, false}
use mathlib.Core.List.{List}
use Prim.Native.Nat.{ℕ, suc, ◌+◌, ◌-◌, ◌*◌, ◌^◌, ◌≤◌, ◌<◌}
use native.Mathlib.Numerals.{add-one}
use native.Mathlib.Omega.{arith}
use lib.Dec.{eqb}
use lib.ListN.{length, take, drop, replicate, get_or-append}
use lib.Seq.{length-take-le}
use Rattle.figures.specs.Sums.{on, sum}
use Rattle.rooms.specs.Table.{most_watts}
use Rattle.figures.specs.Credits.{credited}
use Rattle.figures.proofs.Sums.{sum_suc, sum_none, sum_le}
use Rattle.figures.proofs.Credits.{credited-at, credited-length}
use Rattle.figures.specs.Figures.{at}
use Rattle.figures.proofs.Lists.{sum_most}
use Rattle.figures.proofs.Filled.{zeros-at}
use Rattle.figures.proofs.Fronts.{equal_length, rejoined, lent_length}
use Rattle.deals.specs.Passes.{LevelCords, listed_before, cord_weight}

-- ---- The cord of an entry, by its place as the code has it

module _ {count : ℕ} {listed nodes starts wants : List ℕ} (cords : LevelCords count listed nodes starts wants) {i : ℕ} (more : i < length listed) {c : ℕ} (c_is : c ≡ at listed i) where
  pub cord-within : c < length nodes
  cord-within = omega (arith, cords.within i more)

  pub cord_hangs : (1 ≤ at nodes c) × (at nodes c ≤ count)
  cord_hangs = (omega (arith, ap (at nodes) c_is, cords.hangs i more), omega (arith, ap (at nodes) c_is, cords.there i more))

  pub cord_bounds : (at starts c ≤ at wants c) × (at wants c ≤ most_watts)
  cord_bounds = (
    omega (arith, ap (at starts) c_is, ap (at wants) c_is, cords.ordered i more),
    omega (arith, ap (at wants) c_is, cords.most i more),
  )

-- ---- One figure of the cords, summed on their nodes

-- A list whose first entries are filled with zeros.
pub record Cleared (count : ℕ) (list list' : List ℕ) : Type 0 where
  pub size : length list' ≡ length list
  pub zeros : (n : ℕ) → n < count → at list' n ≡ 0

pub fill_zeros : {count : ℕ} {front : List ℕ} (list : List ℕ) → count ≤ length list → front ≡ replicate (length (take count list)) 0
    → Cleared count list (rejoined count list front)
fill_zeros {count} {front} list few e =
    let size : length front ≡ count = ap length e ∙ equal_length {A = ℕ} (length (take count list)) 0 ∙ length-take-le count list few in
    record {
      size = lent_length (record { few = few; size = size });
      zeros = λ n l. get_or-append front (drop count list) 0 n (omega arith) ∙ ap (λ (f : List ℕ). at f n) e ∙ zeros-at (length (take count list)) n;
    }

-- The figures of the cords of the first i entries are summed on their nodes.
pub record Credited (count : ℕ) (listed nodes : List ℕ) (figure : ℕ → ℕ) (i : ℕ) (sums : List ℕ) : Type 0 where
  pub size : count ≤ length sums
  pub sums_are : (n : ℕ) → n < count → at sums n ≡ listed_before listed nodes figure n i

on_most : (t : Bool) (a : ℕ) → on t a ≤ a
on_most true a = omega arith
on_most false a = omega arith

-- What hangs on one node is within the sum of all.
listed_most : (listed nodes : List ℕ) (figure : ℕ → ℕ) (n i : ℕ) → listed_before listed nodes figure n i ≤ sum i (λ h. figure (at listed h))
listed_most listed nodes figure n i = sum_le i _ _ (λ h l. on_most (eqb (at nodes (at listed h)) (suc n)) (figure (at listed h)))

-- Before the first entry the sums are cleared.
pub credited_start : (listed nodes : List ℕ) (figure : ℕ → ℕ) (count : ℕ) {sums : List ℕ} → count ≤ length sums → ((n : ℕ) → n < count → at sums n ≡ 0)
    → Credited count listed nodes figure 0 sums
credited_start listed nodes figure count size zeros =
    record {
      size = size;
      sums_are = λ n l. zeros n l ∙ sym (sum_none (λ h. on (eqb (at nodes (at listed h)) (suc n)) (figure (at listed h))));
    }

module _ {count : ℕ} {listed nodes starts wants : List ℕ} (cords : LevelCords count listed nodes starts wants) {i : ℕ} (more : i < length listed) {c : ℕ} (c_is : c ≡ at listed i)
    {figure : ℕ → ℕ} {sums : List ℕ} (inv : Credited count listed nodes figure i sums) {x a : ℕ} (x_is : x ≡ at nodes c) where
  -- The figure of the cord of entry i is credited to its node.
  pub credited_more : {sums' : List ℕ} → a ≡ figure c → sums' ≡ credited x a sums → Credited count listed nodes figure (i + 1) sums'
  credited_more {sums'} a_is e =
      let node : ℕ = at nodes (at listed i) in
      let added : ℕ = figure (at listed i) in
      let r : sums' ≡ credited node added sums = e ∙ ap₂ (λ (y b : ℕ). credited y b sums) (x_is ∙ ap (at nodes) c_is) (a_is ∙ ap figure c_is) in
      rw (add-one, r)
      (record {
        size = omega (arith, credited-length node added sums, inv.size);
        sums_are = λ n l. credited-at node added sums n (omega (arith, inv.size, cords.there i more))
            ∙ ap (λ (z : ℕ). z + on (eqb node (suc n)) added) (inv.sums_are n l)
            ∙ sym (sum_suc i (λ h. on (eqb (at nodes (at listed h)) (suc n)) (figure (at listed h))));
      })

  -- A credit has a place and does not overflow: no sum passes the most that so many cords have.
  pub credited_fits : ((h : ℕ) → h < length listed → figure (at listed h) ≤ most_watts) → a ≤ most_watts → (x ≤ length sums) × (at sums (x - 1) + a < 2 ^ 64)
  credited_fits most little =
      let hangs = cord_hangs cords more c_is in
      let own : listed_before listed nodes figure (x - 1) i ≤ i * most_watts
      = omega (arith, listed_most listed nodes figure (x - 1) i, sum_most i most_watts (λ h. figure (at listed h)) (λ h l. most h (omega arith))) in (
        omega (arith, inv.size, hangs.1),
        omega (arith, cords.few, hangs.0, hangs.1, inv.sums_are (x - 1) (omega (arith, hangs.0, hangs.1))),
      )

-- ---- Their weights

-- Before the turn of entry i, in a list of some length.
pub record WeightTurn (count : ℕ) (listed nodes starts wants : List ℕ) (wholes_length i : ℕ) (wholes : List ℕ) : Type 0 where
  pub cords : LevelCords count listed nodes starts wants
  pub reached : i ≤ length listed
  pub wholes_size : length wholes ≡ wholes_length
  pub wholes_are : Credited count listed nodes (cord_weight starts wants) i wholes

module _ {listed nodes starts wants : List ℕ} {x : ℕ} where
  pub weights_start : {count : ℕ} {wholes : List ℕ} → LevelCords count listed nodes starts wants → length wholes ≡ x → count ≤ x → ((n : ℕ) → n < count → at wholes n ≡ 0)
      → WeightTurn count listed nodes starts wants x 0 wholes
  weights_start {count} cords size enough zeros = record {
    cords = cords;
    reached = omega arith;
    wholes_size = size;
    wholes_are = credited_start listed nodes (cord_weight starts wants) count (omega arith) zeros;
  }

  module _ {count i : ℕ} {wholes : List ℕ} (turn : WeightTurn count listed nodes starts wants x i wholes) where
    module _ (more : i < length listed) {c : ℕ} (c_is : c ≡ at listed i) {node : ℕ} (node_is : node ≡ at nodes c) where
      pub weight_fits : {weight : ℕ} → weight ≤ most_watts → (node ≤ length wholes) × (at wholes (node - 1) + weight < 2 ^ 64)
      weight_fits = credited_fits turn.cords more c_is turn.wholes_are node_is (λ h l. omega (arith, turn.cords.most h l))

      pub weights_next : {weight : ℕ} {wholes' : List ℕ} → weight ≡ cord_weight starts wants c → wholes' ≡ credited node weight wholes
          → WeightTurn count listed nodes starts wants x (i + 1) wholes'
      weights_next {weight = weight} e credited_is = record {
        cords = turn.cords;
        reached = omega arith;
        wholes_size = ap length credited_is ∙ credited-length node weight wholes ∙ turn.wholes_size;
        wholes_are = credited_more turn.cords more c_is turn.wholes_are node_is e credited_is;
      }

-- ---- Their starts and weights

-- Before the turn of entry i, in lists of some lengths.
pub record SumTurn (count : ℕ) (listed nodes starts wants : List ℕ) (bases_length wholes_length i : ℕ) (bases wholes : List ℕ) : Type 0 where
  pub weights : WeightTurn count listed nodes starts wants wholes_length i wholes
  pub bases_size : length bases ≡ bases_length
  pub bases_are : Credited count listed nodes (at starts) i bases

module _ {listed nodes starts wants : List ℕ} {x y : ℕ} where
  pub sums_start : {count : ℕ} {bases wholes : List ℕ} → LevelCords count listed nodes starts wants
      → length bases ≡ x → length wholes ≡ y → count ≤ x → count ≤ y → ((n : ℕ) → n < count → at bases n ≡ 0) → ((n : ℕ) → n < count → at wholes n ≡ 0)
      → SumTurn count listed nodes starts wants x y 0 bases wholes
  sums_start {count} cords sb sw eb ew zb zw = record {
    weights = weights_start cords sw ew zw;
    bases_size = sb;
    bases_are = credited_start listed nodes (at starts) count (omega arith) zb;
  }

  module _ {count i : ℕ} {bases wholes : List ℕ} (turn : SumTurn count listed nodes starts wants x y i bases wholes) where
    module _ (more : i < length listed) {c : ℕ} (c_is : c ≡ at listed i) {node : ℕ} (node_is : node ≡ at nodes c) where
      abbrev cords : LevelCords count listed nodes starts wants
      cords = turn.weights.cords

      pub start_fits : {start : ℕ} → start ≤ most_watts → (node ≤ length bases) × (at bases (node - 1) + start < 2 ^ 64)
      start_fits = credited_fits cords more c_is turn.bases_are node_is (λ h l. omega (arith, cords.ordered h l, cords.most h l))

      pub sums_next : {start weight : ℕ} {bases' wholes' : List ℕ} → start ≡ at starts c → weight ≡ cord_weight starts wants c
          → bases' ≡ credited node start bases → wholes' ≡ credited node weight wholes
          → SumTurn count listed nodes starts wants x y (i + 1) bases' wholes'
      sums_next {start = start} es ew cb cw = record {
        weights = weights_next turn.weights more c_is node_is ew cw;
        bases_size = ap length cb ∙ credited-length node start bases ∙ turn.bases_size;
        bases_are = credited_more cords more c_is turn.bases_are node_is es cb;
      }
