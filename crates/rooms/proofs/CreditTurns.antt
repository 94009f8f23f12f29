-- The checks that credit the lows of the parts they find good: one law for each way that they go on or return.
use mathlib.Core.Path.{◌≡◌, refl, sym, ap, ap₂, ◌∙◌, subst}
use mathlib.Core.List.{List, [], ◌∷◌}
use Prim.Native.Nat.{ℕ, zero, suc, ◌+◌, ◌-◌, ◌*◌, ◌^◌, ◌≤◌, ◌<◌}
use native.Mathlib.Omega.{arith}
use native.Mathlib.Nat.{suc-ne-zero, mul-suc}
use lib.ListN.{length, get_or}
use Rattle.figures.specs.Sums.{sum}
use Rattle.rooms.specs.Part.{Step, good, bad, Part, follow, many, word, within}
use Rattle.rooms.specs.Table.{Cord, Server, Range, IsScale, most_watts, most_server_cords, highest_rank, cord, cords, range, load, server, servers, share_of, cord_count}
use Rattle.rooms.specs.Limits.{low, carried}
use Rattle.figures.specs.Credits.{credited}
use Rattle.rooms.specs.Credits.{credited_cords, credited_server, credited_servers, LowsCredited}
use Rattle.figures.specs.Figures.{at}
use Rattle.rooms.specs.Told.{told}
use Rattle.rooms.specs.declared.SheetRefusal.{SheetRefusal}
use Rattle.std.specs.Prelude.{Ok, Err}
use Rattle.rooms.proofs.Inversion.{took, said, cord_is, load_is}
use Rattle.rooms.proofs.Steps.{known}
use Rattle.rooms.proofs.Carried.{carried_most}
use Rattle.figures.proofs.Credits.{credited-length, sum-credited, figure_in_sum}

-- Where a part is refused, nothing is claimed of the sums.
pub credits_refused : {A : Type 0} (f : A → ℕ) (s : Step A) {credit : A → List ℕ → List ℕ} {node_count most : ℕ} {sums sums' : List ℕ} {q : SheetRefusal}
    → Err q ≡ told f s → LowsCredited s credit node_count most sums sums'
unfolding told
credits_refused f (good a j) d = absurd (suc-ne-zero 0 (cc))
credits_refused f (bad m) d = record { are = λ a j is. absurd (suc-ne-zero 0 (cc)); grow = λ a j is. absurd (suc-ne-zero 0 (cc)) }

pub stopped : {A : Type 0} (f : A → ℕ) (s : Step A) {credit : A → List ℕ → List ℕ} {node_count most : ℕ} {sums sums' : List ℕ} {q : SheetRefusal}
    → Err q ≡ told f s → (Err q ≡ told f s) × LowsCredited s credit node_count most sums sums'
stopped f s d = (d, credits_refused f s d)

-- The sums before are known by another name.
pub credits_from : {A : Type 0} {s : Step A} {credit : A → List ℕ → List ℕ} {node_count most : ℕ} {sums start sums' : List ℕ} → sums ≡ start
    → LowsCredited s credit node_count most sums sums' → LowsCredited s credit node_count most start sums'
credits_from {s = s} {credit = credit} {node_count = node_count} {most = most} {sums' = sums'} e = subst (λ (l : List ℕ). LowsCredited s credit node_count most l sums') e

-- ---- A row of any parts

-- What a good row of parts gives.
abbrev pub row_of : {A : Type 0} → Step (List A) → List A
row_of (good l j) = l
row_of (bad refusal) = []

-- Before the next of `left` parts from index j on: the parts that are left, if they are good, credited to the sums as they stand, give
-- the whole row's credits. Each adds at most `most` to the sum of all figures.
pub record Crediting {A : Type 0} (part : ℕ → Part A) (next : ℕ → A → ℕ) (credits : List A → List ℕ → List ℕ) (node_count most : ℕ) (w goal : List ℕ)
    (size bound left given j : ℕ) (sums : List ℕ) : Type 0 where
  pub same : (rest : List A) (end : ℕ) → many left part next given w j ≡ good rest end → credits rest sums ≡ goal
  pub length_is : length sums ≡ size
  pub sum_is : sum node_count (at sums) + most * left ≤ bound

module _ {A : Type 0} {part : ℕ → Part A} {next : ℕ → A → ℕ} {credits : List A → List ℕ → List ℕ} {node_count most : ℕ} {w : List ℕ} where
  crediting_end : ((l : List ℕ) → credits [] l ≡ l) → (count given₀ i : ℕ) (sums₀ : List ℕ) {size left given j : ℕ} {sums : List ℕ}
      → Crediting part next credits node_count most w (credits (row_of (many count part next given₀ w i)) sums₀) size (sum node_count (at sums₀) + most * count) left given j sums
      → left ≤ 0 → LowsCredited (many count part next given₀ w i) credits node_count (most * count) sums₀ sums
  unfolding many
  crediting_end none count given₀ i sums₀ {left = zero} {j = j} {sums = sums} c z = record {
    are = λ a k e. sym (none sums) ∙ c.same [] j refl ∙ ap (λ (s : Step (List A)). credits (row_of s) sums₀) e;
    grow = λ a k e. omega (arith, c.sum_is);
  }
  crediting_end none count given₀ i sums₀ {left = suc l} c z = absurd (omega arith)

  crediting_turn : (credit : A → List ℕ → List ℕ) → ((a : A) (rest : List A) (l : List ℕ) → credits (a ∷ rest) l ≡ credits rest (credit a l))
      → {goal : List ℕ} {size bound left given j : ℕ} {sums : List ℕ} → Crediting part next credits node_count most w goal size bound left given j sums → 0 < left
      → {value : A} {after given' : ℕ} {sums' : List ℕ} → part given w j ≡ good value after → next given value ≡ given'
      → sums' ≡ credit value sums → length sums' ≡ length sums → sum node_count (at sums') ≤ sum node_count (at sums) + most
      → Crediting part next credits node_count most w goal size bound (left - 1) given' after sums'
  unfolding many follow
  crediting_turn credit some {left = zero} c z is en es el em = absurd (omega arith)
  crediting_turn credit some {left = suc l} {given = given} {j = j} {sums = sums} c z {value} {after} {given'} {sums'} is en es el em =
      let e : suc l - 1 ≡ l = omega arith in
      let m : most * suc l ≡ most * l + most = mul-suc most l in
      let whole : (rest : List A) (end : ℕ) → many l part next given' w after ≡ good rest end → many (suc l) part next given w j ≡ good (value ∷ rest) end
      = λ rest end q. rw (is, en, q) in
      rw e
      (record {
        same = λ rest end q. ap (credits rest) es ∙ sym (some value rest sums) ∙ c.same (value ∷ rest) end (whole rest end q);
        length_is = el ∙ c.length_is;
        sum_is = omega (arith, c.sum_is);
      })

-- ---- The cords of a server

abbrev pub CordsCrediting : ℕ → ℕ → ℕ → List ℕ → List ℕ → ℕ → ℕ → ℕ → ℕ → List ℕ → Type 0
CordsCrediting scale node_count least w goal size bound left j =
    Crediting (λ _. cord scale node_count) (λ given _. given) (credited_cords scale least) node_count most_watts w goal size bound left 0 j

-- The cord that is found good, in the terms of the code.
pub record NextCord (scale node_count least : ℕ) (w goal : List ℕ) (size bound left j : ℕ) (sums : List ℕ) (share after : ℕ) : Type 0 where
  pub there : j < length w
  pub node_most : get_or w j 0 ≤ node_count
  pub share_most : share ≤ scale
  pub fits : IsScale scale → least ≤ most_watts → bound < 2 ^ 63
      → (node figure : ℕ) → node ≡ get_or w j 0 → figure ≡ carried scale share least → get_or sums (node - 1) 0 + figure < 2 ^ 64
  pub turn : IsScale scale → least ≤ most_watts → node_count ≤ size
      → (node figure : ℕ) (sums' : List ℕ) → node ≡ get_or w j 0 → figure ≡ carried scale share least → sums' ≡ credited node figure sums
      → CordsCrediting scale node_count least w goal size bound (left - 1) after sums'

module _ {node_count : ℕ} (scale least : ℕ) {w : List ℕ} where
  pub cords-end : (count i : ℕ) (sums₀ : List ℕ) {size left j : ℕ} {sums : List ℕ}
      → CordsCrediting scale node_count least w (credited_cords scale least (row_of (cords scale node_count count w i)) sums₀) size (sum node_count (at sums₀) + most_watts * count) left j sums → left ≤ 0
      → LowsCredited (cords scale node_count count w i) (credited_cords scale least) node_count (most_watts * count) sums₀ sums
  unfolding credited_cords
  cords-end count i sums₀ = crediting_end (λ l. refl) count 0 i sums₀

  pub next_cord : {goal : List ℕ} {size bound left j : ℕ} {sums : List ℕ} → CordsCrediting scale node_count least w goal size bound left j sums → 0 < left
      → {share after : ℕ} → Ok (share, after) ≡ told share_of (cord scale node_count w j) → NextCord scale node_count least w goal size bound left j sums share after
  unfolding credited_cords
  next_cord {j = j} {sums = sums} t z {share = share} {after = after} d =
      let a = known share_of (cord scale node_count w j) d in
      let c = cord_is scale node_count w j a.got after a.is in
      let n : get_or w j 0 ≡ a.got.node = sym (ap (λ (x : Cord). x.node) c.is) in
      let m : IsScale scale → least ≤ most_watts → carried scale share least ≤ most_watts
      = λ s k. omega (arith, carried_most scale share least s.0 (omega (arith, c.share, a.figure))) in
      record {
        there = omega (arith, c.there);
        node_most = omega (arith, c.last);
        share_most = omega (arith, c.share, a.figure);
        fits = λ s k b node figure en ef. omega (arith, m s k, figure_in_sum node_count (node - 1) sums (omega (arith, c.first, c.last)), t.sum_is);
        turn = λ s k h node figure sums' en ef es. crediting_turn (λ c. credited c.node (low scale least c)) (λ a rest l. refl) t z a.is refl
            (es ∙ ap₂ (λ (x y : ℕ). credited x y sums) (en ∙ n) (ef ∙ ap (λ (x : ℕ). carried scale x least) (sym a.figure)))
            (ap length es ∙ credited-length node figure sums)
            (omega (
              arith,
              m s k,
              ap (λ (l : List ℕ). sum node_count (at l)) es,
              sum-credited node_count node figure sums (omega (arith, c.first)) (omega (arith, c.last)) (omega (arith, t.length_is)),
            ));
      }

-- A server's load credits what its cords do.
pub load_credits : (scale node_count before start : ℕ) (w : List ℕ) (i least : ℕ) {count at-cords : ℕ} {sums sums' : List ℕ} → count ≡ get_or w i 0 → at-cords ≡ suc i → count ≤ most_server_cords
    → LowsCredited (cords scale node_count count w at-cords) (credited_cords scale least) node_count (most_watts * count) sums sums'
    → LowsCredited (load scale node_count before start w i) (credited_cords scale least) node_count (most_server_cords * most_watts) sums sums'
load_credits scale node_count before start w i least counted begun few credits =
    let cords_are : (a : List Cord) (j : ℕ) → load scale node_count before start w i ≡ good a j → cords scale node_count _ w _ ≡ good a j
    = λ a j e. ap₂ (λ (k h : ℕ). cords scale node_count k w h) counted begun ∙ (load_is scale node_count before start w i a j e).are in
    record {
      are = λ a j e. credits.are a j (cords_are a j e);
      grow = λ a j e. omega (arith, credits.grow a j (cords_are a j e));
    }

-- ---- The servers of a room

-- A good server's load, after its rank and its range.
pub server-load : (scale node_count before : ℕ) (w : List ℕ) (i : ℕ) {rank at-range : ℕ} {ends : Range} {at_load : ℕ} → word (within 1 highest_rank) w i ≡ good rank at-range → range w at-range ≡ good ends at_load
    → (s : Server) (j : ℕ) → server scale node_count before w i ≡ good s j → (load scale node_count before i w at_load ≡ good s.cords j) × (s.least ≡ ends.least)
unfolding server
server-load scale node_count before w i {at-range = at-range} {ends = ends} {at_load = at_load} ranked ranged s j e =
    let a = took _ _ _ _ (said _ _ _ _ _ e) in
    let b = took _ _ _ _ a.rest in
    let c = took _ _ _ _ b.rest in
    let p : a.at ≡ at-range = cc in
    let r : range w a.at ≡ good ends at_load = ap (range w) p ∙ ranged in
    let g : b.got ≡ ends = cc in
    let h : at_load ≡ b.at = cc in
    let x : record { rank = a.got; least = b.got.least; greatest = b.got.greatest; cords = c.got } ≡ s = cc in
    let y : c.at ≡ j = cc in (
      ap (load scale node_count before i w) h ∙ c.first ∙ ap₂ good (ap (λ (s : Server). s.cords) x) y,
      sym (ap (λ (s : Server). s.least) x) ∙ ap (λ (g : Range). g.least) g,
    )

-- A server credits what its load does, by its least.
pub server_credits : (scale node_count before : ℕ) (w : List ℕ) (i : ℕ) {rank at-range : ℕ} {ends : Range} {at_load least : ℕ} {sums sums' : List ℕ}
    → word (within 1 highest_rank) w i ≡ good rank at-range → range w at-range ≡ good ends at_load → ends.least ≡ least
    → LowsCredited (load scale node_count before i w at_load) (credited_cords scale least) node_count (most_server_cords * most_watts) sums sums'
    → LowsCredited (server scale node_count before w i) (credited_server scale) node_count (most_server_cords * most_watts) sums sums'
server_credits scale node_count before w i {sums = sums} ranked ranged lowest credits =
    record {
      are = λ s j e.
          let l = server-load scale node_count before w i ranked ranged s j e in
          credits.are s.cords j l.0 ∙ ap (λ (x : ℕ). credited_cords scale x s.cords sums) (sym (l.1 ∙ lowest));
      grow = λ s j e. credits.grow s.cords j (server-load scale node_count before w i ranked ranged s j e).0;
    }

abbrev pub ServersCrediting : ℕ → ℕ → List ℕ → List ℕ → ℕ → ℕ → ℕ → ℕ → ℕ → List ℕ → Type 0
ServersCrediting scale node_count = Crediting (server scale node_count) (λ before s. before + cord_count s) (credited_servers scale) node_count (most_server_cords * most_watts)

module _ {node_count : ℕ} (scale : ℕ) {w : List ℕ} where
  pub servers-end : (count i : ℕ) (sums₀ : List ℕ) {size left before j : ℕ} {sums : List ℕ}
      → ServersCrediting scale node_count w (credited_servers scale (row_of (servers scale node_count count 0 w i)) sums₀) size (sum node_count (at sums₀) + most_server_cords * most_watts * count) left before j sums
      → left ≤ 0 → LowsCredited (servers scale node_count count 0 w i) (credited_servers scale) node_count (most_server_cords * most_watts * count) sums₀ sums
  unfolding credited_servers
  servers-end count i sums₀ = crediting_end (λ l. refl) count 0 i sums₀

  pub servers_turn : {goal : List ℕ} {size bound left before j : ℕ} {sums : List ℕ} → ServersCrediting scale node_count w goal size bound left before j sums → 0 < left
      → {count after : ℕ} {sums' : List ℕ} → Ok (count, after) ≡ told cord_count (server scale node_count before w j)
      → LowsCredited (server scale node_count before w j) (credited_server scale) node_count (most_server_cords * most_watts) sums sums' → length sums' ≡ length sums
      → ServersCrediting scale node_count w goal size bound (left - 1) (before + count) after sums'
  unfolding credited_servers
  servers_turn {before = before} {j = j} t z d credits el =
      let a = known cord_count (server scale node_count before w j) d in
      crediting_turn (credited_server scale) (λ a rest l. refl) t z a.is (ap (λ (n : ℕ). before + n) a.figure) (credits.are a.got _ a.is) el (credits.grow a.got _ a.is)
