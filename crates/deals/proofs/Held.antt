-- The node that holds a cord down, in a deal. Where none above a cord is cut at the cord's level or a higher one, each node on the way has
-- all that its children weigh there and passes each its whole weight, so that the cord has its want. The node that is named, since none
-- above it is so cut, has all of its Requests of those levels; being cut at one of them, it has just its Pcapmin below, and all
-- of its limit.
use mathlib.Core.Path.{◌≡◌, refl, sym, ap, ◌∙◌, subst}
use mathlib.Core.Bool.{Bool, true, false, cond, ◌||◌, false≢true}
use mathlib.Core.Logic.{◌⊎◌, inl, inr}
use Prim.Native.Nat.{ℕ, zero, suc, ◌+◌, ◌-◌, ◌≤◌, ◌<◌}
use native.Mathlib.Nat.{le_refl, le_of_eq}
use native.Mathlib.Decide.{dec_le}
use native.Mathlib.Omega.{arith}
use lib.Dec.{eqb, ltb}
use borrow.Author.Tests.{eqb-true, eqb-false, eq-eqb, ne_eqb, ltb-true, ltb-false}
use Rattle.figures.specs.Figures.{at}
use Rattle.figures.specs.Sums.{on}
use Rattle.figures.proofs.Sums.{on_yes, on_le, sum_cong}
use Rattle.figures.proofs.Lists.{figures-at}
use Rattle.rooms.specs.Trees.{beneath, sum_beneath, ParentsFirst}
use Rattle.rooms.proofs.Trees.{rise}
use Rattle.deals.specs.Metrics.{Deal, metrics, at_level}
use Rattle.deals.specs.Dealing.{weight, cord_over, amount, reached, granted}
use Rattle.deals.specs.Held.{cut_at, some_from, cut_from, nearest_root, holder, held_over}
use Rattle.deals.specs.Promises.{NearestCut}
use Rattle.deals.proofs.Rows.{sum_tight}
use Rattle.deals.proofs.Requests.{Dealable, later, or_right, deal_beneath, deal_beneath_all, asked, pcapmin_is, request_asked, cut_full, cut-lows}
use Rattle.deals.proofs.Amounts.{whole_node, whole_cord}
use Rattle.deals.proofs.Equations.{weights, weights_are, amount-weight, pcapmin_starts}
use Rattle.deals.proofs.Computed.{pcapmin, request, starts_of, amount_of, measured, by_weights, dealt, granted-at, Startable, granted_way, granted_level}

-- ---- Some level

-- A level of the k from j on, of which a test holds.
pub record Some (k j : ℕ) (test : ℕ → Bool) : Type 0 where
  pub level : ℕ
  pub from : j ≤ level
  pub to : level < j + k
  pub holds : test level ≡ true

some_one : (k j : ℕ) (test : ℕ → Bool) → some_from k j test ≡ true → Some k j test
unfolding some_from
some_one zero j test e = absurd (false≢true e)
some_one (suc k) j test e = go (test j) refl e (some_one k (suc j) test)
  where
    go : (t : Bool) → test j ≡ t → t || some_from k (suc j) test ≡ true → (some_from k (suc j) test ≡ true → Some k (suc j) test) → Some (suc k) j test
    go true q b ih = record { level = j; from = le_refl j; to = omega arith; holds = q }
    go false q b ih =
        let s = ih b in
        record { level = s.level; from = omega (arith, s.from); to = omega (arith, s.to); holds = s.holds }

some_none : (k j : ℕ) (test : ℕ → Bool) → some_from k j test ≡ false → (i : ℕ) → j ≤ i → i < j + k → test i ≡ false
unfolding some_from
some_none zero j test e i a b = absurd (omega arith)
some_none (suc k) j test e i a b = go (test j) refl e (eqb j i) refl (λ r l. some_none k (suc j) test r i l (omega arith))
  where
    go : (t : Bool) → test j ≡ t → t || some_from k (suc j) test ≡ false → (s : Bool) → eqb j i ≡ s
        → (some_from k (suc j) test ≡ false → suc j ≤ i → test i ≡ false) → test i ≡ false
    go true q r s u ih = absurd (false≢true (sym r))
    go false q r true u ih = ap test (sym (eqb-true j i u)) ∙ q
    go false q r false u ih = ih r (let n : j ≡ i → ⊥ = eqb-false j i u in omega arith)

-- ---- The way to the root

-- A number that is named above, unless it is 0, or else a node's own.
either : (above own n : ℕ) → cond (eqb above 0) own above ≡ n → ((above ≡ 0) × (own ≡ n)) ⊎ ((above ≡ 0 → ⊥) × (above ≡ n))
either above own n e = go (eqb above 0) refl e
  where
    go : (t : Bool) → eqb above 0 ≡ t → cond t own above ≡ n → ((above ≡ 0) × (own ≡ n)) ⊎ ((above ≡ 0 → ⊥) × (above ≡ n))
    go true q e = inl (eqb-true above 0 q, e)
    go false q e = inr (eqb-false above 0 q, e)

not_named : (t : Bool) (m : ℕ) → on t (suc m) ≡ 0 → t ≡ false
not_named true m e = absurd (omega arith)
not_named false m e = refl

named : (t : Bool) (m n : ℕ) → on t (suc m) ≡ suc n → (t ≡ true) × (m ≡ n)
named true m n e = (refl, omega arith)
named false m n e = absurd (omega arith)

-- Of no node above the one at place n does the test hold.
pub record ClearAbove (parent : ℕ → ℕ) (test : ℕ → Bool) (n : ℕ) : Type 0 where
  pub steps : ℕ
  pub enough : parent n ≤ steps
  pub none : nearest_root parent test steps (parent n) ≡ 0

module _ (nodes : ℕ) (parent : ℕ → ℕ) (rises : ParentsFirst nodes parent) (test : ℕ → Bool) where
  -- Where none is named, the test holds neither of the first node of the way nor of one above it.
  none_named : (k m : ℕ) → suc m ≤ k → m < nodes → nearest_root parent test k (suc m) ≡ 0 → (test m ≡ false) × ClearAbove parent test m
  unfolding nearest_root
  none_named zero m h l e = absurd (omega arith)
  none_named (suc k) m h l e = go (either (nearest_root parent test k (parent m)) (on (test m) (suc m)) 0 e)
    where
      go : ((nearest_root parent test k (parent m) ≡ 0) × (on (test m) (suc m) ≡ 0))
          ⊎ ((nearest_root parent test k (parent m) ≡ 0 → ⊥) × (nearest_root parent test k (parent m) ≡ 0))
          → (test m ≡ false) × ClearAbove parent test m
      go (inl q) = (not_named (test m) m q.1, record { steps = k; enough = omega (arith, rises m l); none = q.0 })
      go (inr q) = absurd (q.0 q.1)

  -- Nor of any node on the way.
  none_met : (k l v : ℕ) → v ≤ k → v ≤ nodes → nearest_root parent test k v ≡ 0 → (m : ℕ) → beneath parent l m v ≡ true → test m ≡ false
  unfolding beneath
  none_met k zero v h g e m b = absurd (false≢true b)
  none_met k (suc l) zero h g e m b = absurd (false≢true b)
  none_met k (suc l) (suc x) h g e m b =
      let s = none_named k x h g e in
      go s.0 (eqb x m) refl b (none_met s.1.steps l (parent x) s.1.enough (omega (arith, rises x g)) s.1.none m)
    where
      go : test x ≡ false → (t : Bool) → eqb x m ≡ t → t || beneath parent l m (parent x) ≡ true → (beneath parent l m (parent x) ≡ true → test m ≡ false)
          → test m ≡ false
      go u true q b ih = ap test (sym (eqb-true x m q)) ∙ u
      go u false q b ih = ih b

  -- The node at place n is met on the way from number v, the test holds of it, and of none above it.
  pub record Nearest (k v n : ℕ) : Type 0 where
    pub place : n < nodes
    pub above : beneath parent k n v ≡ true
    pub holds : test n ≡ true
    pub clear : ClearAbove parent test n

  nearest : (k v n : ℕ) → v ≤ k → v ≤ nodes → nearest_root parent test k v ≡ suc n → Nearest k v n
  unfolding nearest_root beneath
  nearest zero v n h l e = absurd (omega arith)
  nearest (suc k) zero n h l e = absurd (omega arith)
  nearest (suc k) (suc m) n h l e =
      go (either (nearest_root parent test k (parent m)) (on (test m) (suc m)) (suc n) e)
      (nearest k (parent m) n (omega (arith, rises m l)) (omega (arith, rises m l)))
    where
      here : test m ≡ true → nearest_root parent test k (parent m) ≡ 0 → Nearest (suc k) (suc m) m
      here t z = record {
        place = l;
        above = ap (λ (b : Bool). b || beneath parent k m (parent m)) (eq-eqb m m refl);
        holds = t;
        clear = record { steps = k; enough = omega (arith, rises m l); none = z };
      }

      go : ((nearest_root parent test k (parent m) ≡ 0) × (on (test m) (suc m) ≡ suc n))
          ⊎ ((nearest_root parent test k (parent m) ≡ 0 → ⊥) × (nearest_root parent test k (parent m) ≡ suc n))
          → (nearest_root parent test k (parent m) ≡ suc n → Nearest k (parent m) n) → Nearest (suc k) (suc m) n
      go (inl q) ih = let o = named (test m) m n q.1 in subst (Nearest (suc k) (suc m)) o.1 (here o.0 q.0)
      go (inr q) ih =
          let x = ih q.1 in
          record { place = x.place; above = or_right (eqb m n) (beneath parent k n (parent m)) x.above; holds = x.holds; clear = x.clear }

-- ---- A deal

module _ (d : Deal) (ok : Dealable d) (st : Startable d) where
  open d use {nodes, parent, limit, cords, node, level, low, want, levels}

  -- Whether a node is cut at a level or a higher one.
  abbrev cut : ℕ → ℕ → Bool
  cut = cut_from d (metrics d)

  cut_some : (i n : ℕ) → cut i n ≡ true → Some (levels - i) i (λ j. ltb (request d n j) (asked d (request d) n j))
  unfolding cut_from request asked
  cut_some i n e = some_one (levels - i) i (cut_at d (metrics d) n) e

  uncut : (i n : ℕ) → cut i n ≡ false → (j : ℕ) → i ≤ j → j < levels → asked d (request d) n j ≤ request d n j
  unfolding cut_from request asked
  uncut i n e j a h = ltb-false _ _ (some_none (levels - i) i (cut_at d (metrics d) n) e j a (omega arith))

  -- A node that is not cut at a level weighs as much as its children there.
  whole_weight : (n j : ℕ) → n < nodes → j < levels → asked d (request d) n j ≤ request d n j
      → request d n j - starts_of d n j ≡ weights d (starts_of d) (request d) n j
  whole_weight n j l h u =
      omega (
        arith,
        weights_are d ok (pcapmin d) (request d) (measured d ok) (starts_of d) (amount_of d) (reached d (metrics d)) st (dealt d ok) n j l h,
        request_asked d ok (pcapmin d) (request d) (measured d ok) n l j h,
      )

  -- A node that has as much as its children weigh passes each its whole weight.
  node-passed : (j m n : ℕ) → m < nodes → parent m ≡ suc n → amount_of d n j ≡ weights d (starts_of d) (request d) n j
      → amount_of d m j ≡ request d m j - starts_of d m j
  unfolding amount_of amount weights starts_of request
  node-passed j m n l e q = whole_node d _ _ _ _ (by_weights d ok (weight d (metrics d) j)) m n l e q

  cord-passed : (c n : ℕ) → c < cords → node c ≡ suc n → amount_of d n (level c) ≡ weights d (starts_of d) (request d) n (level c)
      → reached d (metrics d) c ≡ at_level d (level c) (cord_over d) c
  unfolding amount_of amount reached weights starts_of request
  cord-passed c n l e q = whole_cord d _ _ _ _ (by_weights d ok (weight d (metrics d) (level c))) c n l e q

  -- A node above which none is cut gets its whole weight.
  gets_whole : (i j : ℕ) → i ≤ j → j < levels → (n : ℕ) → n < nodes → ClearAbove parent (cut i) n → amount_of d n j ≡ request d n j - starts_of d n j
  gets_whole i j a h =
      rise nodes (λ n. ClearAbove parent (cut i) n → amount_of d n j ≡ request d n j - starts_of d n j) (λ n l ih clear. go n l ih clear (parent n) refl)
    where
      go : (n : ℕ) → n < nodes → ((m : ℕ) → m < n → ClearAbove parent (cut i) m → amount_of d m j ≡ request d m j - starts_of d m j)
          → ClearAbove parent (cut i) n → (v : ℕ) → parent n ≡ v → amount_of d n j ≡ request d n j - starts_of d n j
      go n l ih clear zero e = (dealt d ok).root n j l e
      go n l ih clear (suc q) e =
          let u : q < n = later d ok n q l e in
          let lq : q < nodes = omega arith in
          let c = none_named nodes parent ok.rises (cut i) clear.steps q
          (subst (λ (z : ℕ). z ≤ clear.steps) e clear.enough) lq
          (subst (λ (z : ℕ). nearest_root parent (cut i) clear.steps z ≡ 0) e clear.none) in
          node-passed j n q l e (ih q u c.1 ∙ whole_weight q j lq h (uncut i q c.0 j a h))

  -- A cord for which no node is named has its want.
  pub none_has_want : (c : ℕ) → c < cords → holder d (metrics d) c ≡ 0 → at (granted d) c ≡ want c
  unfolding holder
  none_has_want c l e = go (node c) refl
    where
      go : (v : ℕ) → node c ≡ v → at (granted d) c ≡ want c
      go zero q = absurd (omega (arith, ok.hangs c l))
      go (suc m) q =
          let b : m < nodes = omega (arith, ok.here c l) in
          let n = none_named nodes parent ok.rises (cut (level c)) nodes m b b (subst (λ (z : ℕ). nearest_root parent (cut (level c)) nodes z ≡ 0) q e) in
          let h : level c < levels = ok.ranks c l in
          let y = cord-passed c m l q (gets_whole (level c) (level c) (le_refl (level c)) h m b n.1
          ∙ whole_weight m (level c) b h (uncut (level c) m n.0 (level c) (le_refl (level c)) h)) in
          omega (arith, granted-at d ok c l, y, on_yes (eqb (level c) (level c)) (cord_over d c) (eq-eqb (level c) (level c) refl), st.most c l)

  -- ---- The node that is named for a cord of level i

  module _ (i n : ℕ) (l : n < nodes) (holds : cut i n ≡ true) (clear : ClearAbove parent (cut i) n) where
    -- Below the level at which it is cut its Requests are Pcapmin.
    request_lows : (j : ℕ) → j < i → request d n j ≡ pcapmin d n j
    request_lows j b =
        let s = cut_some i n holds in
        cut-lows d ok (pcapmin d) (request d) (measured d ok) n l s.level (omega (arith, s.from, s.to)) (ltb-true _ _ s.holds) j (omega (arith, s.from))

    -- At every level what is granted beneath it is its Request.
    granted_requests : (j : ℕ) → j < levels → deal_beneath d n (at_level d j (at (granted d))) ≡ request d n j
    granted_requests j h = go (dec_le i j)
      where
        s : starts_of d n j ≤ request d n j
        s = st.within n j l h

        go : Dec (i ≤ j) → deal_beneath d n (at_level d j (at (granted d))) ≡ request d n j
        go (yes a) = sym (granted_level d ok st n j l h) ∙ omega (arith, gets_whole i j a h n l clear, s)
        go (no a) =
            sym (granted_level d ok st n j l h)
            ∙ omega (
              arith,
              request_lows j (omega arith),
              pcapmin_starts d ok (pcapmin d) (request d) (measured d ok) (starts_of d) (amount_of d) (reached d (metrics d)) st (dealt d ok) n j l h,
              amount-weight d ok (pcapmin d) (request d) (measured d ok) (starts_of d) (amount_of d) (reached d (metrics d)) st (dealt d ok) n l j h,
              s,
            )

    -- So all of its limit is granted.
    pub holder_full : deal_beneath d n (at (granted d)) ≡ limit n
    holder_full =
        let s = cut_some i n holds in
        sym (deal_beneath_all d ok n (at (granted d)))
        ∙ sum_cong levels _ (request d n) granted_requests
        ∙ cut_full d ok (pcapmin d) (request d) (measured d ok) n l s.level (omega (arith, s.from, s.to)) (ltb-true _ _ s.holds)

    -- And a cord beneath it of a lower level has its low.
    pub holder-lows : (c : ℕ) → c < cords → beneath parent nodes n (node c) ≡ true → level c < i → at (granted d) c ≡ low c
    unfolding sum_beneath
    holder-lows c lc b lower =
        let j = level c in
        let h : j < levels = ok.ranks c lc in
        let here : ℕ → Bool = λ c. beneath parent nodes n (node c) in
        let e : deal_beneath d n (at_level d j (at (granted d))) ≡ deal_beneath d n (at_level d j low)
        = granted_requests j h ∙ request_lows j lower ∙ pcapmin_is d ok (pcapmin d) (request d) (measured d ok) j n h l in
        let t = sum_tight cords (λ c. on (here c) (at_level d j low c)) (λ c. on (here c) (at_level d j (at (granted d)) c))
        (λ c lc. on_le (here c) _ _ (λ _. on_le (eqb (level c) j) (low c) (at (granted d) c) (λ _. (granted_way d ok st).least c lc)))
        (le_of_eq e) c lc in
        let own : (figure : ℕ → ℕ) → on (here c) (at_level d j figure c) ≡ figure c
        = λ figure. on_yes (here c) _ b ∙ on_yes (eqb (level c) j) (figure c) (eq-eqb j j refl) in
        sym (own (at (granted d))) ∙ t ∙ own low

  -- What is named for each cord: by its grant and want.
  held_over-at : (c : ℕ) → c < cords → at (held_over d) c ≡ cond (eqb (at (granted d) c) (want c)) 0 (holder d (metrics d) c)
  unfolding held_over
  held_over-at c l = figures-at cords c _ l

  pub held_none : (c : ℕ) → c < cords → at (granted d) c ≡ want c → at (held_over d) c ≡ 0
  held_none c l e = held_over-at c l ∙ ap (λ (t : Bool). cond t 0 (holder d (metrics d) c)) (eq-eqb (at (granted d) c) (want c) e)

  held_short : (c : ℕ) → c < cords → at (granted d) c < want c → at (held_over d) c ≡ holder d (metrics d) c
  held_short c l h = held_over-at c l ∙ ap (λ (t : Bool). cond t 0 (holder d (metrics d) c)) (ne_eqb (at (granted d) c) (want c) (λ e. omega arith))

  -- A node is named for the cord at place c: this.
  pub record Holder (c : ℕ) : Type 0 where
    pub place : ℕ
    pub is : at (held_over d) c ≡ suc place
    pub nearest : Nearest nodes parent ok.rises (cut (level c)) nodes (node c) place

  pub held_named : (c : ℕ) → c < cords → at (granted d) c < want c → Holder c
  unfolding holder
  held_named c l h = go (holder d (metrics d) c) refl
    where
      go : (v : ℕ) → holder d (metrics d) c ≡ v → Holder c
      go zero e = absurd (omega (arith, none_has_want c l e))
      go (suc n) e = record {
        place = n;
        is = held_short c l h ∙ e;
        nearest = nearest nodes parent ok.rises (cut (level c)) nodes (node c) n (ok.here c l) (ok.here c l) e;
      }

  pub holder_nearest : (c : ℕ) → (x : Holder c) → NearestCut d c x.place
  holder_nearest c x =
      let n = x.nearest in
      let clear = n.clear in
      record {
        above = n.above;
        cut = n.holds;
        nearest =
            none_met nodes parent ok.rises (cut (level c)) clear.steps nodes (parent x.place) clear.enough
            (omega (arith, ok.rises x.place n.place, n.place)) clear.none;
      }
