-- A node's children served in turn: the parts that they get of its amount, and the weights served and the watts dealt there.
use mathlib.Core.Path.{◌≡◌, refl, sym, ap, ap₂, subst, ◌∙◌}
use mathlib.Core.Bool.{Bool, true, false, ◌&&◌}
use mathlib.Core.List.{List}
use Prim.Native.Nat.{ℕ, suc, ◌+◌, ◌*◌, ◌-◌, ◌/◌, ◌^◌, ◌≤◌, ◌<◌}
use native.Mathlib.Nat.{sub-zero}
use native.Mathlib.Omega.{arith}
use lib.Dec.{eqb}
use lib.ListN.{length, set, length-set}
use lib.Seq.{get_or-set_same, get_or-set_other}
use borrow.Author.Tests.{eq-eqb, ne_eqb, eqb-true, eqb-false}
use Rattle.figures.specs.Sums.{on}
use Rattle.figures.proofs.Sums.{on_yes, on_no}
use Rattle.figures.specs.Figures.{at}
use Rattle.splits.specs.Split.{part}
use Rattle.splits.specs.Serving.{MayServe, HasServed}
use Rattle.splits.proofs.Splits.{div_mono, quotient_none}

-- ---- One child

-- A test and, if it holds, another one.
pub both_tests : (p q : Bool) → p ≡ true → q ≡ p && q
both_tests p q e = rw e

pub first_fails : (p q : Bool) → p ≡ false → false ≡ p && q
first_fails p q e = rw e

-- A child that is seen to have all the weight has it.
pub all_seen : (p : Bool) (w e : ℕ) {r : Bool} → r ≡ p && eqb w e → r ≡ true → w ≡ e
all_seen true w e q t = eqb-true w e (sym q ∙ t)
all_seen false w e q t = let z : false ≡ true = sym q ∙ t in let k : ◌≡◌ {A = ℕ} 0 1 = cc in absurd (omega arith)

-- A child with all the weight gets all, where there is weight.
pub serve_all : (x e w p : ℕ) (before dealt : List ℕ) {watts : ℕ} → at before p + w ≤ e → w ≡ e → watts ≡ x * e / e → HasServed x e w p before dealt watts (set before p w) (set dealt p watts)
unfolding part
serve_all x e w p before dealt {watts} room all_weight all =
    let sum_is : at before p + w ≡ e = omega arith in
    let dealt_all : watts ≡ x * (at before p + w) / e = all ∙ ap (λ (y : ℕ). x * y / e) (sym sum_is) in
    record {
      watts_are = dealt_all ∙ sym (ap (◌-◌ (x * (at before p + w) / e)) (quotient_none x (at before p) e (omega arith)) ∙ sub-zero (x * (at before p + w) / e));
      before_is = ap (set before p) (omega arith);
      dealt_is = ap (set dealt p) dealt_all;
    }

-- The watts dealt never fall: the next child's part is the difference of two quotients, of which the later is no less.
pub dealt_rises : (x e w b : ℕ) {dealt watts : ℕ} → dealt ≡ x * b / e → watts ≡ x * (b + w) / e → dealt ≤ watts
dealt_rises x e w b dealt_is watts_are = omega (arith, dealt_is, watts_are, div_mono (x * b) (x * (b + w)) e (omega arith))

-- A child of any weight: the watts dealt grow by its part.
pub serve_some : (x e w p : ℕ) (before dealt : List ℕ) {watts given : ℕ} → at dealt p ≡ x * at before p / e → watts ≡ x * (at before p + w) / e → given ≡ watts - at dealt p
    → HasServed x e w p before dealt given (set before p (at before p + w)) (set dealt p watts)
unfolding part
serve_some x e w p before dealt dealt_is watts_are given_is =
    record { watts_are = given_is ∙ ap₂ ◌-◌ watts_are dealt_is; before_is = refl; dealt_is = ap (set dealt p) watts_are }

-- ---- The children served so far

-- Of each node of some: the weights of its children that were served, and the watts dealt to them.
pub record Served (count : ℕ) (some : ℕ → Type 0) (whole : ℕ → ℕ) (amounts : List ℕ) (weights : ℕ → ℕ) (before dealt : List ℕ) : Type 0 where
  pub before_size : length before ≡ count
  pub dealt_size : length dealt ≡ count
  pub before_is : (n : ℕ) → some n → at before n ≡ weights n
  pub dealt_is : (n : ℕ) → some n → at dealt n ≡ at amounts n * at before n / whole n

module _ {count : ℕ} {some : ℕ → Type 0} {whole : ℕ → ℕ} {amounts : List ℕ} {weights : ℕ → ℕ} {before dealt : List ℕ} (is : Served count some whole amounts weights before dealt) where
  -- Nothing is served.
  pub served_same : (weights' : ℕ → ℕ) {before' dealt' : List ℕ} → ((n : ℕ) → weights' n ≡ weights n) → before' ≡ before → dealt' ≡ dealt
      → Served count some whole amounts weights' before' dealt'
  served_same weights' e b d =
      record {
        before_size = ap length b ∙ is.before_size;
        dealt_size = ap length d ∙ is.dealt_size;
        before_is = λ n h. ap (λ (l : List ℕ). at l n) b ∙ is.before_is n h ∙ sym (e n);
        dealt_is = λ n h. ap (λ (l : List ℕ). at l n) d ∙ is.dealt_is n h ∙ ap (λ (l : List ℕ). at amounts n * at l n / whole n) (sym b);
      }

  -- The amount of a node may be set while none of its children is served.
  pub served_amount : (m a : ℕ) {amounts' : List ℕ} → amounts' ≡ set amounts m a → weights m ≡ 0 → Served count some whole amounts' weights before dealt
  served_amount m a {amounts'} e z =
      record {
        before_size = is.before_size;
        dealt_size = is.dealt_size;
        before_is = is.before_is;
        dealt_is = λ n h. is.dealt_is n h ∙ dealt_same n h (eqb n m) refl;
      }
    where
      dealt_same : (n : ℕ) → some n → (t : Bool) → eqb n m ≡ t → at amounts n * at before n / whole n ≡ at amounts' n * at before n / whole n
      dealt_same n h true q =
          let b : at before n ≡ 0 = is.before_is n h ∙ ap weights (eqb-true n m q) ∙ z in
          quotient_none (at amounts n) (at before n) (whole n) b ∙ sym (quotient_none (at amounts' n) (at before n) (whole n) b)
      dealt_same n h false q =
          ap (λ (y : ℕ). y * at before n / whole n) (sym (ap (λ (l : List ℕ). at l n) e ∙ get_or-set_other amounts m n a 0 (eqb-false n m q)))

  -- A node joins them, while none of its children is served.
  pub served_more : (some' : ℕ → Type 0) (m : ℕ) → m < count → weights m ≡ 0 → ((n : ℕ) → (n ≡ m → ⊥) → some' n → some n)
      → Served count some' whole amounts weights (set before m 0) (set dealt m 0)
  served_more some' m within z others =
      record {
        before_size = length-set before m 0 ∙ is.before_size;
        dealt_size = length-set dealt m 0 ∙ is.dealt_size;
        before_is = λ n h. (here_or_not n h (eqb n m) refl).0;
        dealt_is = λ n h. (here_or_not n h (eqb n m) refl).1;
      }
    where
      here : (at (set before m 0) m ≡ weights m) × (at (set dealt m 0) m ≡ at amounts m * at (set before m 0) m / whole m)
      here =
          let b : at (set before m 0) m ≡ 0 = get_or-set_same before m 0 0 (omega (arith, is.before_size)) in
          (b ∙ sym z, get_or-set_same dealt m 0 0 (omega (arith, is.dealt_size)) ∙ sym (quotient_none (at amounts m) (at (set before m 0) m) (whole m) b))

      here_or_not : (n : ℕ) → some' n → (t : Bool) → eqb n m ≡ t → (at (set before m 0) n ≡ weights n) × (at (set dealt m 0) n ≡ at amounts n * at (set before m 0) n / whole n)
      here_or_not n h true q = subst (λ (k : ℕ). (at (set before m 0) k ≡ weights k) × (at (set dealt m 0) k ≡ at amounts k * at (set before m 0) k / whole k)) (sym (eqb-true n m q)) here
      here_or_not n h false q =
          let old = others n (eqb-false n m q) h in
          let b : at (set before m 0) n ≡ at before n = get_or-set_other before m n 0 0 (eqb-false n m q) in
          (b ∙ is.before_is n old, get_or-set_other dealt m n 0 0 (eqb-false n m q) ∙ is.dealt_is n old ∙ ap (λ (y : ℕ). at amounts n * y / whole n) (sym b))

  -- The next child of the node at place p.
  module _ (p w : ℕ) (within : p < count) (is_some : some p) where
    -- What `serve` asks.
    pub may-serve : weights p + w ≤ whole p → at amounts p * whole p < 2 ^ 64 → MayServe (at amounts p) (whole p) w p before dealt
    may-serve room fits =
        record {
          before_has = omega (arith, is.before_size);
          dealt_has = omega (arith, is.dealt_size);
          room = omega (arith, is.before_is p is_some);
          fits = fits;
          dealt_is = is.dealt_is p is_some;
        }

    pub served_part : part (at amounts p) (whole p) (at before p) w ≡ part (at amounts p) (whole p) (weights p) w
    served_part = ap (λ (b : ℕ). part (at amounts p) (whole p) b w) (is.before_is p is_some)

    -- What `serve` leaves.
    pub served_next : (weights' : ℕ → ℕ) {watts : ℕ} {before' dealt' : List ℕ}
        → ((n : ℕ) → weights' n ≡ weights n + on (eqb (suc p) (suc n)) w)
        → HasServed (at amounts p) (whole p) w p before dealt watts before' dealt'
        → Served count some whole amounts weights' before' dealt'
    served_next weights' {watts} {before'} {dealt'} more has =
        record {
          before_size = ap length has.before_is ∙ length-set before p (at before p + w) ∙ is.before_size;
          dealt_size = ap length has.dealt_is ∙ length-set dealt p (at amounts p * (at before p + w) / whole p) ∙ is.dealt_size;
          before_is = λ n h. (here_or_not n h (eqb n p) refl).0;
          dealt_is = λ n h. (here_or_not n h (eqb n p) refl).1;
        }
      where
        here : (at before' p ≡ weights' p) × (at dealt' p ≡ at amounts p * at before' p / whole p)
        here =
            let b_is : at before' p ≡ at before p + w = ap (λ (l : List ℕ). at l p) has.before_is ∙ get_or-set_same before p (at before p + w) 0 (omega (arith, is.before_size)) in (
              omega (arith, is.before_is p is_some, more p, on_yes (eqb (suc p) (suc p)) w (eq-eqb (suc p) (suc p) refl)),
              ap (λ (l : List ℕ). at l p) has.dealt_is
                  ∙ get_or-set_same dealt p (at amounts p * (at before p + w) / whole p) 0 (omega (arith, is.dealt_size))
                  ∙ ap (λ (y : ℕ). at amounts p * y / whole p) (sym b_is),
            )

        here_or_not : (n : ℕ) → some n → (t : Bool) → eqb n p ≡ t → (at before' n ≡ weights' n) × (at dealt' n ≡ at amounts n * at before' n / whole n)
        here_or_not n h true q = subst (λ (k : ℕ). (at before' k ≡ weights' k) × (at dealt' k ≡ at amounts k * at before' k / whole k)) (sym (eqb-true n p q)) here
        here_or_not n h false q =
            let b_is : at before' n ≡ at before n = ap (λ (l : List ℕ). at l n) has.before_is ∙ get_or-set_other before p n (at before p + w) 0 (eqb-false n p q) in (
              omega (arith, is.before_is n h, more n, on_no (eqb (suc p) (suc n)) w (ne_eqb (suc p) (suc n) (λ e. eqb-false n p q (omega arith)))),
              ap (λ (l : List ℕ). at l n) has.dealt_is
                  ∙ get_or-set_other dealt p n (at amounts p * (at before p + w) / whole p) 0 (eqb-false n p q)
                  ∙ is.dealt_is n h
                  ∙ ap (λ (y : ℕ). at amounts n * y / whole n) (sym b_is),
            )
