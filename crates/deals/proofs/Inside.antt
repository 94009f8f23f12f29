-- One deal inside another: what its cords of a level and above are granted is the same there. (Two demand lists for one room
-- that agree from a rank on: each deal is inside the other.)
use mathlib.Core.Path.{◌≡◌, refl, sym, ap, ap₂, ◌∙◌, subst}
use mathlib.Core.Bool.{Bool, true, false}
use Prim.Native.Nat.{ℕ, zero, suc, ◌+◌, ◌-◌, ◌≤◌, ◌<◌, min}
use native.Mathlib.Nat.{le_refl, le_trans, le_of_eq, zero-add, suc-ne-zero}
use native.Mathlib.Omega.{arith}
use lib.Dec.{eqb, leb}
use borrow.Author.Tests.{eqb-true, eqb-false, eq-eqb, ne_eqb, leb-true}
use Rattle.figures.specs.Sums.{on, sum}
use Rattle.figures.proofs.Sums.{on_no, on_cong, sum_cong, sum_zero, sum_none, sum_up, up, up_suc}
use Rattle.rooms.proofs.Trees.{child_sum_cong, down, rise}
use Rattle.figures.specs.Figures.{at}
use Rattle.rooms.specs.Table.{raised}
use Rattle.deals.specs.Metrics.{Deal, metrics, at_level, over_children}
use Rattle.splits.specs.Split.{part}
use Rattle.deals.specs.Dealing.{weight, node_over, cord_over, cord_amount, reached, granted}
use Rattle.deals.proofs.Requests.{Dealable, Measured, later, request-total}
use Rattle.deals.proofs.Amounts.{ByWeights}
use Rattle.deals.proofs.Computed.{pcapmin, request, starts_of, measured, by_weights, dealt, granted-at}
use Rattle.rooms.specs.Trees.{child_sum}

-- The nodes and cords of s stand together in t, a and b places on, and nothing else hangs on those nodes. Their figures are
-- the same, but for the wants and starts of the cords below level z.
pub record Inside (s t : Deal) (a b z : ℕ) : Type 0 where
  pub nodes_fit : a + s.nodes ≤ t.nodes
  pub cords_fit : b + s.cords ≤ t.cords
  pub parent : (n : ℕ) → n < s.nodes → t.parent (n + a) ≡ raised a (s.parent n)
  pub node : (c : ℕ) → c < s.cords → t.node (c + b) ≡ raised a (s.node c)
  pub limit : (n : ℕ) → n < s.nodes → t.limit (n + a) ≡ s.limit n
  pub level : (c : ℕ) → c < s.cords → t.level (c + b) ≡ s.level c
  pub low : (c : ℕ) → c < s.cords → t.low (c + b) ≡ s.low c
  pub want : (c : ℕ) → c < s.cords → z ≤ s.level c → t.want (c + b) ≡ s.want c
  pub start : (c : ℕ) → c < s.cords → z ≤ s.level c → t.start (c + b) ≡ s.start c
  pub levels : t.levels ≡ s.levels
  pub alone : (m n : ℕ) → m < t.nodes → n < s.nodes → t.parent m ≡ suc (n + a) → (a ≤ m) × (m < a + s.nodes)
  pub bare : (c n : ℕ) → c < t.cords → n < s.nodes → t.node c ≡ suc (n + a) → (b ≤ c) × (c < b + s.cords)

-- ---- A sum whose figures stand in the k places from a on

up_shift : (k j a : ℕ) (g : ℕ → ℕ) → up k (j + a) g ≡ up k j (λ i. g (i + a))
unfolding up
up_shift zero j a g = refl
up_shift (suc k) j a g = ap (λ (x : ℕ). g (j + a) + x) (ap (λ (x : ℕ). up k x g) (let q : suc (j + a) ≡ suc j + a = omega arith in q) ∙ up_shift k (suc j) a g)

up_none : (k j : ℕ) (g : ℕ → ℕ) → ((i : ℕ) → j ≤ i → i < j + k → g i ≡ 0) → up k j g ≡ 0
unfolding up
up_none zero j g e = refl
up_none (suc k) j g e = omega (arith, e j (le_refl j) (omega arith), up_none k (suc j) g (λ i l m. e i (omega arith) (omega arith)))

window : (a k n : ℕ) (g : ℕ → ℕ) → a + k ≤ n → ((i : ℕ) → i < n → i < a → g i ≡ 0) → ((i : ℕ) → i < n → a + k ≤ i → g i ≡ 0)
    → sum n g ≡ sum k (λ i. g (i + a))
window a k n g h lo hi =
    let u : sum a g ≡ 0 = sum_cong a g (λ i. 0) (λ i l. lo i (omega arith) l) ∙ sum_zero a in
    let v : up (n - (a + k)) (a + k) g ≡ 0 = up_none (n - (a + k)) (a + k) g (λ i l m. hi i (omega arith) l) in
    let w : up k a g ≡ up k 0 (λ i. g (i + a)) = ap (λ (x : ℕ). up k x g) (sym (zero-add a)) ∙ up_shift k 0 a g in
    omega (arith, sum_up (n - (a + k)) (a + k) n g (omega arith), sum_up k a (a + k) g refl, sum_up k 0 k (λ i. g (i + a)) (zero-add k), sum_none (λ i. g (i + a)))

pub eqb_iff : (x y v w : ℕ) → (x ≡ y → v ≡ w) → (v ≡ w → x ≡ y) → eqb x y ≡ eqb v w
eqb_iff x y v w f g = go (eqb v w) refl
  where
    go : (t : Bool) → eqb v w ≡ t → eqb x y ≡ t
    go true e = eq-eqb x y (g (eqb-true v w e))
    go false e = ne_eqb x y (λ q. eqb-false v w e (f q))

raised_suc : (a v n : ℕ) → raised a v ≡ suc (n + a) → v ≡ suc n
raised_suc a zero n e = absurd (suc-ne-zero (n + a) (sym e))
raised_suc a (suc q) n e = omega arith

-- The test for a parent, or for a cord's node, is the same.
same_test : (a x v n : ℕ) → x ≡ raised a v → eqb x (suc (n + a)) ≡ eqb v (suc n)
same_test a x v n e = eqb_iff x (suc (n + a)) v (suc n) (λ q. raised_suc a v n (sym e ∙ q)) (λ q. e ∙ ap (raised a) q)

module _ (s t : Deal) (a b z : ℕ) (ins : Inside s t a b z) where
  pub child_nodes_in : (n : ℕ) → n < s.nodes → (g : ℕ → ℕ) → child_sum t.nodes t.parent (n + a) g ≡ child_sum s.nodes s.parent n (λ m. g (m + a))
  child_nodes_in n l g =
      window a s.nodes t.nodes (λ m. on (eqb (t.parent m) (suc (n + a))) (g m)) ins.nodes_fit
      (λ i h q. on_no (eqb (t.parent i) (suc (n + a))) (g i) (ne_eqb (t.parent i) (suc (n + a)) (λ e. omega (arith, ins.alone i n h l e))))
      (λ i h q. on_no (eqb (t.parent i) (suc (n + a))) (g i) (ne_eqb (t.parent i) (suc (n + a)) (λ e. omega (arith, ins.alone i n h l e))))
      ∙ sum_cong s.nodes _ _ (λ m h. ap (λ (u : Bool). on u (g (m + a))) (same_test a (t.parent (m + a)) (s.parent m) n (ins.parent m h)))

  pub child_cords_in : (n : ℕ) → n < s.nodes → (f : ℕ → ℕ) → child_sum t.cords t.node (n + a) f ≡ child_sum s.cords s.node n (λ c. f (c + b))
  child_cords_in n l f =
      window b s.cords t.cords (λ c. on (eqb (t.node c) (suc (n + a))) (f c)) ins.cords_fit
      (λ i h q. on_no (eqb (t.node i) (suc (n + a))) (f i) (ne_eqb (t.node i) (suc (n + a)) (λ e. omega (arith, ins.bare i n h l e))))
      (λ i h q. on_no (eqb (t.node i) (suc (n + a))) (f i) (ne_eqb (t.node i) (suc (n + a)) (λ e. omega (arith, ins.bare i n h l e))))
      ∙ sum_cong s.cords _ _ (λ c h. ap (λ (u : Bool). on u (f (c + b))) (same_test a (t.node (c + b)) (s.node c) n (ins.node c h)))

  -- What a cord has at the levels that pass a test is the same where its figure is, at such a level.
  levels_in : (q : ℕ → Bool) (f g : ℕ → ℕ) → ((c : ℕ) → c < s.cords → q (s.level c) ≡ true → f (c + b) ≡ g c)
      → (c : ℕ) → c < s.cords → on (q (t.level (c + b))) (f (c + b)) ≡ on (q (s.level c)) (g c)
  levels_in q f g e c h =
      ap (λ (x : ℕ). on (q x) (f (c + b))) (ins.level c h) ∙ on_cong (q (s.level c)) (f (c + b)) (g c) (e c h)

  pub child_cords_levels : (n : ℕ) → n < s.nodes → (q : ℕ → Bool) (f g : ℕ → ℕ) → ((c : ℕ) → c < s.cords → q (s.level c) ≡ true → f (c + b) ≡ g c)
      → child_sum t.cords t.node (n + a) (λ c. on (q (t.level c)) (f c)) ≡ child_sum s.cords s.node n (λ c. on (q (s.level c)) (g c))
  child_cords_levels n l q f g e =
      child_cords_in n l (λ c. on (q (t.level c)) (f c))
      ∙ sum_cong s.cords _ _ (λ c h. ap (λ (x : ℕ). on (eqb (s.node c) (suc n)) x) (levels_in q f g e c h))

  pub at_level_in : (j : ℕ) (f g : ℕ → ℕ) → ((c : ℕ) → c < s.cords → s.level c ≡ j → f (c + b) ≡ g c)
      → (c : ℕ) → c < s.cords → at_level t j f (c + b) ≡ at_level s j g c
  at_level_in j f g e = levels_in (λ x. eqb x j) f g (λ c h q. e c h (eqb-true (s.level c) j q))

  -- What the cords on a node have at a level is the same where their figures are, at that level.
  pub child_cords_at : (n j : ℕ) → n < s.nodes → (f g : ℕ → ℕ) → ((c : ℕ) → c < s.cords → s.level c ≡ j → f (c + b) ≡ g c)
      → child_sum t.cords t.node (n + a) (at_level t j f) ≡ child_sum s.cords s.node n (at_level s j g)
  child_cords_at n j l f g e = child_cords_levels n l (λ x. eqb x j) f g (λ c h q. e c h (eqb-true (s.level c) j q))

  -- ---- Amounts by weights that are the same here and there

  module _ (ok : Dealable s) (w v x y : ℕ → ℕ) (u o g h : ℕ → ℕ) (by : ByWeights s w v x y) (yb : ByWeights t u o g h)
      (nodes-same : (m : ℕ) → m < s.nodes → u (m + a) ≡ w m) (cords-same : (c : ℕ) → c < s.cords → o (c + b) ≡ v c) where
    whole_in : (n : ℕ) → n < s.nodes → over_children t (n + a) u o ≡ over_children s n w v
    whole_in n l =
        ap₂ ◌+◌
        (child_nodes_in n l u ∙ child_sum_cong s.nodes s.parent n _ _ (λ m lm e. nodes-same m lm))
        (child_cords_in n l o ∙ sum_cong s.cords _ _ (λ c lc. ap (λ (e : ℕ). on (eqb (s.node c) (suc n)) e) (cords-same c lc)))

    -- The running sums.
    nodes-run : (m n : ℕ) → m < s.nodes → n < s.nodes
        → sum (m + a) (λ i. on (eqb (t.parent i) (suc (n + a))) (u i)) ≡ sum m (λ i. on (eqb (s.parent i) (suc n)) (w i))
    nodes-run m n l ln =
        window a m (m + a) (λ i. on (eqb (t.parent i) (suc (n + a))) (u i)) (omega arith)
        (λ i k q. on_no (eqb (t.parent i) (suc (n + a))) (u i)
        (ne_eqb (t.parent i) (suc (n + a)) (λ e. omega (arith, ins.alone i n (omega (arith, ins.nodes_fit)) ln e))))
        (λ i k q. absurd (omega arith))
        ∙ sum_cong m _ _ (λ i k.
        ap₂ (λ (e : Bool) (d : ℕ). on e d) (same_test a (t.parent (i + a)) (s.parent i) n (ins.parent i (omega arith))) (nodes-same i (omega arith)))

    cords-run : (c n : ℕ) → c < s.cords → n < s.nodes
        → sum (c + b) (λ i. on (eqb (t.node i) (suc (n + a))) (o i)) ≡ sum c (λ i. on (eqb (s.node i) (suc n)) (v i))
    cords-run c n l ln =
        window b c (c + b) (λ i. on (eqb (t.node i) (suc (n + a))) (o i)) (omega arith)
        (λ i k q. on_no (eqb (t.node i) (suc (n + a))) (o i)
        (ne_eqb (t.node i) (suc (n + a)) (λ e. omega (arith, ins.bare i n (omega (arith, ins.cords_fit)) ln e))))
        (λ i k q. absurd (omega arith))
        ∙ sum_cong c _ _ (λ i k.
        ap₂ (λ (e : Bool) (d : ℕ). on e d) (same_test a (t.node (i + b)) (s.node i) n (ins.node i (omega arith))) (cords-same i (omega arith)))

    amounts_in : (m : ℕ) → m < s.nodes → g (m + a) ≡ x m
    amounts_in = rise s.nodes (λ m. g (m + a) ≡ x m) (λ m l ih. go m l ih (s.parent m) refl)
      where
        go : (m : ℕ) → m < s.nodes → ((n : ℕ) → n < m → g (n + a) ≡ x n) → (p : ℕ) → s.parent m ≡ p → g (m + a) ≡ x m
        go m l ih zero e =
            yb.root (m + a) (omega (arith, ins.nodes_fit)) (ins.parent m l ∙ ap (raised a) e) ∙ nodes-same m l ∙ sym (by.root m l e)
        go m l ih (suc n) e =
            let k : n < m = later s ok m n l e in
            let ln : n < s.nodes = omega arith in
            yb.inner (m + a) (n + a) (omega (arith, ins.nodes_fit)) (ins.parent m l ∙ ap (raised a) e)
            ∙ ap₂ (λ (c d : ℕ). part c d (sum (m + a) (λ i. on (eqb (t.parent i) (suc (n + a))) (u i))) (u (m + a))) (ih n k) (whole_in n ln)
            ∙ ap₂ (λ (c d : ℕ). part (x n) (over_children s n w v) c d) (nodes-run m n l ln) (nodes-same m l)
            ∙ sym (by.inner m n l e)

    pub reached_in : (c : ℕ) → c < s.cords → h (c + b) ≡ y c
    reached_in c l = go (s.node c) refl
      where
        go : (p : ℕ) → s.node c ≡ p → h (c + b) ≡ y c
        go zero e = absurd (omega (arith, ok.hangs c l))
        go (suc n) e =
            let ln : n < s.nodes = subst (λ (i : ℕ). i ≤ s.nodes) e (ok.here c l) in
            yb.leaf (c + b) (n + a) (omega (arith, ins.cords_fit)) (ins.node c l ∙ ap (raised a) e)
            ∙ ap₂ (λ (f d : ℕ). part f d (child_sum t.nodes t.parent (n + a) u + sum (c + b) (λ i. on (eqb (t.node i) (suc (n + a))) (o i))) (o (c + b)))
            (amounts_in n ln) (whole_in n ln)
            ∙ ap₂ (λ (f d : ℕ). part (x n) (over_children s n w v) f d)
            (ap₂ ◌+◌ (child_nodes_in n ln u ∙ child_sum_cong s.nodes s.parent n _ _ (λ m lm q. nodes-same m lm)) (cords-run c n l ln))
            (cords-same c l)
            ∙ sym (by.leaf c n l e)

  -- ---- Pcapmin and Request

  module _ (ok : Dealable s) (ko : Dealable t) (p r q u : ℕ → ℕ → ℕ) (me : Measured s p r) (em : Measured t q u) where
    inside : (n : ℕ) → n < s.nodes → n + a < t.nodes
    inside n l = omega (arith, ins.nodes_fit)

    pcapmin_in : (j : ℕ) → j < s.levels → (n : ℕ) → n < s.nodes → q (n + a) j ≡ p n j
    pcapmin_in j h = down s.nodes (λ n. q (n + a) j ≡ p n j) (λ n l ih.
        em.lowest (n + a) j (inside n l) (subst (λ (x : ℕ). j < x) (sym ins.levels) h)
        ∙ ap₂ ◌+◌
        (child_nodes_in n l (λ m. q m j) ∙ child_sum_cong s.nodes s.parent n _ _ (λ m lm e. ih m lm (later s ok m n lm e)))
        (child_cords_at n j l t.low s.low (λ c lc e. ins.low c lc))
        ∙ sym (me.lowest n j l h))

    -- By the law of totals, from level z on the Requests sum to the same, and so are the same.
    pub total_in : (k j : ℕ) → j + k ≡ s.levels → z ≤ j → (n : ℕ) → n < s.nodes → up k j (u (n + a)) ≡ up k j (r n)
    total_in k j e h = down s.nodes (λ n. up k j (u (n + a)) ≡ up k j (r n)) (λ n l ih.
        request-total t ko q u em (n + a) (inside n l) k j (e ∙ sym ins.levels)
        ∙ ap₂ min
        (ap₂ ◌-◌ (ins.limit n l) (sum_cong j (q (n + a)) (p n) (λ i g. pcapmin_in i (omega arith) n l)))
        (ap₂ ◌+◌
        (child_nodes_in n l (λ m. up k j (u m)) ∙ child_sum_cong s.nodes s.parent n _ _ (λ m lm o. ih m lm (later s ok m n lm o)))
        (child_cords_levels n l (leb j) t.want s.want (λ c lc o. ins.want c lc (le_trans h (leb-true j (s.level c) o)))))
        ∙ sym (request-total s ok p r me n l k j e))

    pub request_in : (n : ℕ) → n < s.nodes → (j : ℕ) → j < s.levels → z ≤ j → u (n + a) j ≡ r n j
    request_in n l j h g =
        let k : ℕ = s.levels - suc j in
        omega (arith, total_in (suc k) j (omega arith) g n l, total_in k (suc j) (omega arith) (omega arith) n l, up_suc k j (u (n + a)), up_suc k j (r n))

module _ (s t : Deal) (a b z : ℕ) (ins : Inside s t a b z) (ok : Dealable s) (ko : Dealable t) where
  starts_in : (j : ℕ) → j < s.levels → z ≤ j → (n : ℕ) → n < s.nodes → starts_of t (n + a) j ≡ starts_of s n j
  starts_in j h k = down s.nodes (λ n. starts_of t (n + a) j ≡ starts_of s n j) (λ n l ih.
      (dealt t ko).starts (n + a) j (omega (arith, ins.nodes_fit)) (subst (λ (x : ℕ). j < x) (sym ins.levels) h)
      ∙ ap₂ ◌+◌
      (child_nodes_in s t a b z ins n l (λ m. starts_of t m j) ∙ child_sum_cong s.nodes s.parent n _ _ (λ m lm e. ih m lm (later s ok m n lm e)))
      (child_cords_at s t a b z ins n j l t.start s.start (λ c lc e. ins.start c lc (le_trans k (le_of_eq (sym e)))))
      ∙ sym ((dealt s ok).starts n j l h))

  -- What a node, and a cord, is to have over the starts.
  node_over_in : (j : ℕ) → j < s.levels → z ≤ j → (n : ℕ) → n < s.nodes → node_over (metrics t) (n + a) j ≡ node_over (metrics s) n j
  unfolding request starts_of
  node_over_in j h k n l =
      ap₂ ◌-◌ (request_in s t a b z ins ok ko (pcapmin s) (request s) (pcapmin t) (request t) (measured s ok) (measured t ko) n l j h k) (starts_in j h k n l)

  cord_over_in : (c : ℕ) → c < s.cords → z ≤ s.level c → cord_over t (c + b) ≡ cord_over s c
  cord_over_in c l k = ap₂ ◌-◌ (ins.want c l k) (ins.start c l k)

  pub granted_in : (c : ℕ) → c < s.cords → z ≤ s.level c → at (granted t) (c + b) ≡ at (granted s) c
  unfolding reached
  granted_in c l k =
      let j : ℕ = s.level c in
      granted-at t ko (c + b) (omega (arith, ins.cords_fit))
      ∙ ap₂ ◌+◌ (ins.start c l k)
      (ap (λ (i : ℕ). cord_amount t (weight t (metrics t) i) (c + b)) (ins.level c l)
      ∙ reached_in s t a b z ins ok _ _ _ _ _ _ _ _ (by_weights s ok (weight s (metrics s) j)) (by_weights t ko (weight t (metrics t) j))
      (λ m lm. node_over_in j (ok.ranks c l) k m lm)
      (λ h lh. at_level_in s t a b z ins j (cord_over t) (cord_over s) (λ i li e. cord_over_in i li (le_trans k (le_of_eq (sym e)))) h lh)
      c l)
      ∙ sym (granted-at s ok c l)
