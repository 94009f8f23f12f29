-- Pcapmin and Request by their equations, over functions of the places, and the law of totals: at every node the Requests of a
-- level and above sum to the lesser of what the limit leaves over the Pcapmin of the lower levels, and of the children's. From
-- it: no way of dealing gives the cords beneath a node, of a level and above, more than that; and lesser wants never raise it.
use mathlib.Core.Path.{◌≡◌, refl, sym, ap, ap₂, ◌∙◌, subst}
use mathlib.Core.Bool.{Bool, true, false, ◌||◌}
use Prim.Native.Nat.{ℕ, zero, suc, ◌+◌, ◌-◌, ◌≤◌, ◌<◌, min}
use native.Mathlib.Nat.{le_trans, le_of_eq, zero-add, add-le-add, add_comm, not-suc-le-zero}
use native.Mathlib.Omega.{arith}
use lib.Dec.{eqb, leb, leb-zero}
use borrow.Author.Tests.{eqb-true, eq-eqb, leb-true}
use Rattle.figures.specs.Sums.{on, sum}
use Rattle.figures.proofs.Sums.{on_add, on_le, on_yes, sum_suc, sum_cong, sum_le, sum_add, sum_none, sum_up, up, up_add, up_sum, up_one}
use Rattle.rooms.specs.Trees.{beneath, child_sum, sum_beneath, ParentsFirst}
use Rattle.rooms.proofs.Trees.{child_sum_le, down, sum_beneath_cong, sum_beneath_step, sum_beneath_unique}
use Rattle.deals.specs.Metrics.{Deal, at_level, over_children}
use Rattle.deals.specs.Properties.{from_level}
use Rattle.deals.proofs.Rows.{IsRow, row_total, row_fits, row_low, row_high, row_full, row_lows}

up_on : (k j : ℕ) (t : Bool) (g : ℕ → ℕ) → up k j (λ i. on t (g i)) ≡ on t (up k j g)
unfolding up
up_on zero j true g = refl
up_on zero j false g = refl
up_on (suc k) j t g = ap (λ (x : ℕ). on t (g j) + x) (up_on k (suc j) t g) ∙ sym (on_add t (g j) (up k (suc j) g))

-- ---- What is beneath a node

pub or_right : (a b : Bool) → b ≡ true → a || b ≡ true
or_right true b e = refl
or_right false b e = e

beneath_self : (parent : ℕ → ℕ) (k n : ℕ) → n < k → beneath parent k n (suc n) ≡ true
unfolding beneath
beneath_self parent zero n l = absurd (not-suc-le-zero l)
beneath_self parent (suc k) n l = ap (λ (t : Bool). t || beneath parent k n (parent n)) (eq-eqb n n refl)

-- What is beneath a child is beneath its parent.
beneath_child : (nodes : ℕ) (parent : ℕ → ℕ) → ParentsFirst nodes parent → (m n : ℕ) → parent m ≡ suc n
    → (k v : ℕ) → v ≤ k → v ≤ nodes → beneath parent k m v ≡ true → beneath parent k n v ≡ true
unfolding beneath
beneath_child nodes parent rises m n e zero v h g b = b
beneath_child nodes parent rises m n e (suc k) zero h g b = b
beneath_child nodes parent rises m n e (suc k) (suc x) h g b =
    or_right (eqb x n) (beneath parent k n (parent x)) (go (eqb x m) refl b (beneath_child nodes parent rises m n e k (parent x) (omega (arith, rises x g)) (omega (arith, rises x g))))
  where
    go : (t : Bool) → eqb x m ≡ t → t || beneath parent k m (parent x) ≡ true
        → (beneath parent k m (parent x) ≡ true → beneath parent k n (parent x) ≡ true) → beneath parent k n (parent x) ≡ true
    go true q b ih =
        let u : parent x ≡ suc n = ap parent (eqb-true x m q) ∙ e in
        ap (beneath parent k n) u ∙ beneath_self parent k n (omega (arith, rises x g))
    go false q b ih = ih b

-- The sum over the cords beneath the node at place n.
abbrev pub deal_beneath : Deal → ℕ → (ℕ → ℕ) → ℕ
deal_beneath d n figure = sum_beneath d.nodes d.parent d.cords d.node n figure

-- What a deal asks of what it goes by: parents before their children, cords on nodes, levels in the row, lows within wants,
-- and no node whose limit the lows beneath it exceed.
pub record Dealable (d : Deal) : Type 0 where
  pub rises : ParentsFirst d.nodes d.parent
  pub here : (c : ℕ) → c < d.cords → d.node c ≤ d.nodes
  pub hangs : (c : ℕ) → c < d.cords → 0 < d.node c
  pub ranks : (c : ℕ) → c < d.cords → d.level c < d.levels
  pub wants : (c : ℕ) → c < d.cords → d.low c ≤ d.want c
  pub lows : (n : ℕ) → n < d.nodes → deal_beneath d n d.low ≤ d.limit n

-- A way of dealing the whole room: each figure from low to want, and no node over its limit.
pub record WholeWay (d : Deal) (f : ℕ → ℕ) : Type 0 where
  pub least : (c : ℕ) → c < d.cords → d.low c ≤ f c
  pub most : (c : ℕ) → c < d.cords → f c ≤ d.want c
  pub within : (n : ℕ) → n < d.nodes → deal_beneath d n f ≤ d.limit n

-- A way of dealing what is beneath the node at place n: of its cords and its nodes alone.
pub record TreeWay (d : Deal) (n : ℕ) (f : ℕ → ℕ) : Type 0 where
  pub least : (c : ℕ) → c < d.cords → beneath d.parent d.nodes n (d.node c) ≡ true → d.low c ≤ f c
  pub most : (c : ℕ) → c < d.cords → beneath d.parent d.nodes n (d.node c) ≡ true → f c ≤ d.want c
  pub within : (m : ℕ) → m < d.nodes → beneath d.parent d.nodes n (suc m) ≡ true → deal_beneath d m f ≤ d.limit m

module _ (d : Deal) where
  open d use {nodes, parent, limit, cords, node, level, low, want, levels}

  -- What the children of the node at place n ask at level j.
  unfoldable pub asked : (ℕ → ℕ → ℕ) → ℕ → ℕ → ℕ
  asked r n j = over_children d n (λ m. r m j) (at_level d j want)

  -- p and r are the deal's Pcapmin and Request.
  pub record Measured (p r : ℕ → ℕ → ℕ) : Type 0 where
    pub lowest : (n j : ℕ) → n < nodes → j < levels → p n j ≡ over_children d n (λ m. p m j) (at_level d j low)
    pub request : (n : ℕ) → n < nodes → IsRow levels (limit n) (p n) (asked r n) (r n)

module _ (d : Deal) (ok : Dealable d) where
  open d use {nodes, parent, limit, cords, node, level, low, want, levels}

  -- ---- Sums over children, and beneath

  -- A child stands after its parent.
  pub later : (m n : ℕ) → m < nodes → parent m ≡ suc n → n < m
  later m n l e = subst (λ (z : ℕ). z ≤ m) e (ok.rises m l)

  pub deal_beneath_step : (n : ℕ) (w : ℕ → ℕ) → deal_beneath d n w ≡ child_sum cords node n w + child_sum nodes parent n (λ m. deal_beneath d m w)
  deal_beneath_step = sum_beneath_step nodes parent ok.rises cords node ok.here

  pub deal_beneath_unique : (w g : ℕ → ℕ) → ((n : ℕ) → n < nodes → g n ≡ child_sum cords node n w + child_sum nodes parent n g) → (n : ℕ) → n < nodes → g n ≡ deal_beneath d n w
  deal_beneath_unique = sum_beneath_unique nodes parent ok.rises cords node ok.here

  pub deal_beneath_le : (n : ℕ) (f g : ℕ → ℕ) → ((c : ℕ) → c < cords → beneath parent nodes n (node c) ≡ true → f c ≤ g c) → deal_beneath d n f ≤ deal_beneath d n g
  unfolding sum_beneath
  deal_beneath_le n f g h = sum_le cords _ _ (λ c l. on_le (beneath parent nodes n (node c)) (f c) (g c) (h c l))

  -- What the cords that pass a test have, from a level on.
  cords-from : (k j : ℕ) (test : ℕ → Bool) (f : ℕ → ℕ) → j + k ≡ levels
      → up k j (λ i. sum cords (λ c. on (test c) (at_level d i f c))) ≡ sum cords (λ c. on (test c) (from_level d j f c))
  cords-from k j test f e =
      up_sum k j cords (λ c i. on (test c) (at_level d i f c))
      ∙ sum_cong cords _ _ (λ c l.
      up_on k j (test c) (λ i. at_level d i f c)
      ∙ ap (λ (z : ℕ). on (test c) z) (up_one k j (level c) (f c) (le_trans (ok.ranks c l) (le_of_eq (sym e)))))

  pub deal_beneath_from : (k j n : ℕ) (f : ℕ → ℕ) → j + k ≡ levels → up k j (λ i. deal_beneath d n (at_level d i f)) ≡ deal_beneath d n (from_level d j f)
  unfolding sum_beneath
  deal_beneath_from k j n f e = cords-from k j (λ c. beneath parent nodes n (node c)) f e

  pub deal_beneath_all : (n : ℕ) (f : ℕ → ℕ) → sum levels (λ i. deal_beneath d n (at_level d i f)) ≡ deal_beneath d n f
  unfolding sum
  deal_beneath_all n f =
      sym (sum_up levels 0 levels (λ i. deal_beneath d n (at_level d i f)) (zero-add levels)) ∙ zero-add (up levels 0 (λ i. deal_beneath d n (at_level d i f)))
      ∙ deal_beneath_from levels 0 n f (zero-add levels)
      ∙ sum_beneath_cong nodes parent cords node n _ _ (λ c l. on_yes (leb 0 (level c)) (f c) (leb-zero (level c)))

  pub child_cords_add : (n j : ℕ) (f g h : ℕ → ℕ) → ((c : ℕ) → c < cords → h c ≡ f c + g c)
      → child_sum cords node n (at_level d j h) ≡ child_sum cords node n (at_level d j f) + child_sum cords node n (at_level d j g)
  child_cords_add n j f g h e =
      sum_cong cords _ _ (λ c l.
      ap (λ (z : ℕ). on (eqb (node c) (suc n)) z) (ap (λ (z : ℕ). on (eqb (level c) j) z) (e c l) ∙ on_add (eqb (level c) j) (f c) (g c))
      ∙ on_add (eqb (node c) (suc n)) (at_level d j f c) (at_level d j g c))
      ∙ sum_add cords (λ c. on (eqb (node c) (suc n)) (at_level d j f c)) (λ c. on (eqb (node c) (suc n)) (at_level d j g c))

  -- The children's figures from a level on.
  child_nodes_from : (k j n : ℕ) (g : ℕ → ℕ → ℕ) → up k j (λ i. child_sum nodes parent n (λ m. g m i)) ≡ child_sum nodes parent n (λ m. up k j (g m))
  child_nodes_from k j n g =
      up_sum k j nodes (λ m i. on (eqb (parent m) (suc n)) (g m i)) ∙ sum_cong nodes _ _ (λ m l. up_on k j (eqb (parent m) (suc n)) (g m))

  child_cords_from : (k j n : ℕ) (f : ℕ → ℕ) → j + k ≡ levels → up k j (λ i. child_sum cords node n (at_level d i f)) ≡ child_sum cords node n (from_level d j f)
  child_cords_from k j n f e = cords-from k j (λ c. eqb (node c) (suc n)) f e

  -- ---- A way of dealing what is beneath a node is one of what is beneath each of its children

  tree_child : (m n : ℕ) → parent m ≡ suc n → (f : ℕ → ℕ) → TreeWay d n f → TreeWay d m f
  tree_child m n e f w = record {
    least = λ c lc b. w.least c lc (climb nodes (node c) (ok.here c lc) (ok.here c lc) b);
    most = λ c lc b. w.most c lc (climb nodes (node c) (ok.here c lc) (ok.here c lc) b);
    within = λ h lh b. w.within h lh (climb nodes (suc h) lh lh b);
  }
    where
      climb : (k v : ℕ) → v ≤ k → v ≤ nodes → beneath parent k m v ≡ true → beneath parent k n v ≡ true
      climb = beneath_child nodes parent ok.rises m n e

  module _ (p r : ℕ → ℕ → ℕ) (me : Measured d p r) where
    -- Pcapmin is the sum of the lows beneath.
    pub pcapmin_is : (j n : ℕ) → j < levels → n < nodes → p n j ≡ deal_beneath d n (at_level d j low)
    pcapmin_is j n h l = deal_beneath_unique (at_level d j low) (λ n. p n j) (λ n l. me.lowest n j l h ∙ add_comm _ _) n l

    -- Over all levels it is the lows beneath.
    pub pcapmin_all : (n : ℕ) → n < nodes → sum levels (p n) ≡ deal_beneath d n low
    pcapmin_all n l = sum_cong levels _ _ (λ j h. pcapmin_is j n h l) ∙ deal_beneath_all n low

    pcapmin_fits : (n : ℕ) → n < nodes → sum levels (p n) ≤ limit n
    pcapmin_fits n l = le_trans (le_of_eq (pcapmin_all n l)) (ok.lows n l)

    -- ---- Pcapmin ≤ Request ≤ what the children ask, and the Requests fit the limit

    pcapmin_asked_by : (n : ℕ) → n < nodes → ((m : ℕ) → m < nodes → n < m → (j : ℕ) → j < levels → p m j ≤ r m j) → (j : ℕ) → j < levels → p n j ≤ asked d r n j
    unfolding asked
    pcapmin_asked_by n l ih j h =
        le_trans (le_of_eq (me.lowest n j l h))
        (add-le-add (child_sum_le nodes parent n (λ m. p m j) (λ m. r m j) (λ m lm q. ih m lm (later m n lm q) j h)) (child_sum_le cords node n _ _ (λ c lc q. on_le (eqb (level c) j) (low c) (want c) (λ t. ok.wants c lc))))

    pub pcapmin_request : (n : ℕ) → n < nodes → (j : ℕ) → j < levels → p n j ≤ r n j
    pcapmin_request = down nodes (λ n. (j : ℕ) → j < levels → p n j ≤ r n j) (λ n l ih j h.
        row_low levels (limit n) (p n) (asked d r n) (r n) (me.request n l) (pcapmin_asked_by n l ih) (pcapmin_fits n l) (levels - suc j) j (omega arith))

    pub pcapmin_asked : (n : ℕ) → n < nodes → (j : ℕ) → j < levels → p n j ≤ asked d r n j
    pcapmin_asked n l = pcapmin_asked_by n l (λ m lm q. pcapmin_request m lm)

    pub fits : (n : ℕ) → n < nodes → (k j : ℕ) → j + k ≡ levels → sum j (p n) + up k j (r n) ≤ limit n
    fits n l = row_fits levels (limit n) (p n) (asked d r n) (r n) (me.request n l) (pcapmin_asked n l) (pcapmin_fits n l)

    pub requests_fit : (n : ℕ) → n < nodes → sum levels (r n) ≤ limit n
    requests_fit n l = omega (arith, fits n l levels 0 (zero-add levels), sum_up levels 0 levels (r n) (zero-add levels), sum_none (r n))

    -- What the limit leaves at a level is never below 0.
    pub requests_left : (n : ℕ) → n < nodes → (k j : ℕ) → suc j + k ≡ levels → sum j (p n) + up k (suc j) (r n) ≤ limit n
    requests_left n l k j e = omega (arith, fits n l k (suc j) e, sum_suc j (p n))

    pub request_asked : (n : ℕ) → n < nodes → (j : ℕ) → j < levels → r n j ≤ asked d r n j
    request_asked n l j h = row_high levels (limit n) (p n) (asked d r n) (r n) (me.request n l) (levels - suc j) j (omega arith)

    -- Where a node is cut at a level, its Requests sum to its limit, and those of the lower levels are their Pcapmin.
    pub cut_full : (n : ℕ) → n < nodes → (j : ℕ) → j < levels → r n j < asked d r n j → sum levels (r n) ≡ limit n
    cut_full n l j h =
        row_full levels (limit n) (p n) (asked d r n) (r n) (me.request n l) (pcapmin_asked n l) (pcapmin_fits n l) (levels - suc j) j (omega arith)

    pub cut-lows : (n : ℕ) → n < nodes → (j : ℕ) → j < levels → r n j < asked d r n j → (i : ℕ) → i < j → r n i ≡ p n i
    cut-lows n l j h =
        row_lows levels (limit n) (p n) (asked d r n) (r n) (me.request n l) (pcapmin_asked n l) (pcapmin_fits n l) (levels - suc j) j (omega arith)

    -- The children ask no more than the wants beneath.
    asked_beneath : (j n : ℕ) → j < levels → ((m : ℕ) → m < nodes → n < m → r m j ≤ deal_beneath d m (at_level d j want)) → asked d r n j ≤ deal_beneath d n (at_level d j want)
    unfolding asked
    asked_beneath j n h ih =
        let k : child_sum nodes parent n (λ m. r m j) ≤ child_sum nodes parent n (λ m. deal_beneath d m (at_level d j want))
        = child_sum_le nodes parent n _ _ (λ m lm q. ih m lm (later m n lm q)) in
        omega (arith, deal_beneath_step n (at_level d j want))

    request_beneath : (j : ℕ) → j < levels → (n : ℕ) → n < nodes → r n j ≤ deal_beneath d n (at_level d j want)
    request_beneath j h = down nodes (λ n. r n j ≤ deal_beneath d n (at_level d j want)) (λ n l ih. le_trans (request_asked n l j h) (asked_beneath j n h ih))

    pub asked_wants : (n j : ℕ) → n < nodes → j < levels → asked d r n j ≤ deal_beneath d n (at_level d j want)
    asked_wants n j l h = asked_beneath j n h (λ m lm q. request_beneath j h m lm)

    -- ---- The law of totals

    pub request-total : (n : ℕ) → n < nodes → (k j : ℕ) → j + k ≡ levels
        → up k j (r n) ≡ min (limit n - sum j (p n)) (over_children d n (λ m. up k j (r m)) (from_level d j want))
    unfolding asked
    request-total n l k j e =
        row_total levels (limit n) (p n) (asked d r n) (r n) (me.request n l) (pcapmin_asked n l) k j e
        ∙ ap (min (limit n - sum j (p n)))
        (up_add k j (λ i. child_sum nodes parent n (λ m. r m i)) (λ i. child_sum cords node n (at_level d i want)) ∙ ap₂ ◌+◌ (child_nodes_from k j n r) (child_cords_from k j n want e))

    -- What a way of dealing gives a level and above leaves the lower levels their lows.
    way_left : (f : ℕ → ℕ) (n : ℕ) → n < nodes → TreeWay d n f → (k j : ℕ) → j + k ≡ levels → sum j (p n) + deal_beneath d n (from_level d j f) ≤ limit n
    way_left f n l w k j e =
        let g : ℕ → ℕ = λ i. deal_beneath d n (at_level d i f) in
        let a : sum j (p n) ≤ sum j g
        = sum_le j (p n) g (λ i h.
        le_trans (le_of_eq (pcapmin_is i n (omega arith) l)) (deal_beneath_le n _ _ (λ c lc b. on_le (eqb (level c) i) (low c) (f c) (λ t. w.least c lc b)))) in
        omega (arith, sum_up k j levels g e, deal_beneath_from k j n f e, deal_beneath_all n f, w.within n l (beneath_self parent nodes n l))

    -- No way of dealing gives the cords beneath a node, of a level and above, more than its Requests from there on.
    pub way_total : (f : ℕ → ℕ) (k j : ℕ) → j + k ≡ levels → (n : ℕ) → n < nodes → TreeWay d n f → deal_beneath d n (from_level d j f) ≤ up k j (r n)
    way_total f k j e = down nodes (λ n. TreeWay d n f → deal_beneath d n (from_level d j f) ≤ up k j (r n)) (λ n l ih w.
        let a : child_sum nodes parent n (λ m. deal_beneath d m (from_level d j f)) ≤ child_sum nodes parent n (λ m. up k j (r m))
        = child_sum_le nodes parent n _ _ (λ m lm q. ih m lm (later m n lm q) (tree_child m n q f w)) in
        let o : child_sum cords node n (from_level d j f) ≤ child_sum cords node n (from_level d j want)
        = child_sum_le cords node n _ _ (λ c lc q. on_le (leb j (level c)) (f c) (want c) (λ t. w.most c lc (ap (beneath parent nodes n) q ∙ beneath_self parent nodes n l))) in
        omega (arith, request-total n l k j e, way_left f n l w k j e, deal_beneath_step n (from_level d j f)))

-- The deal by other wants and starts.
abbrev pub by_wants : Deal → (ℕ → ℕ) → (ℕ → ℕ) → Deal
by_wants d w s =
    record { nodes = d.nodes; parent = d.parent; limit = d.limit; cords = d.cords; node = d.node; level = d.level; low = d.low; want = w; start = s; levels = d.levels }

-- Wants that are nowhere greater, of a level and above, give Requests from there on whose sum is nowhere greater.
module _ (d : Deal) (w s : ℕ → ℕ) (ok : Dealable d) (ko : Dealable (by_wants d w s))
    (p r q u : ℕ → ℕ → ℕ) (me : Measured d p r) (em : Measured (by_wants d w s) q u) where
  pub request_total_mono : (k j : ℕ) → j + k ≡ d.levels → ((c : ℕ) → c < d.cords → j ≤ d.level c → w c ≤ d.want c)
      → (n : ℕ) → n < d.nodes → up k j (u n) ≤ up k j (r n)
  request_total_mono k j e h = down d.nodes (λ n. up k j (u n) ≤ up k j (r n)) (λ n l ih.
      let a : child_sum d.nodes d.parent n (λ m. up k j (u m)) ≤ child_sum d.nodes d.parent n (λ m. up k j (r m))
      = child_sum_le d.nodes d.parent n _ _ (λ m lm o. ih m lm (later d ok m n lm o)) in
      let o : child_sum d.cords d.node n (from_level d j w) ≤ child_sum d.cords d.node n (from_level d j d.want)
      = child_sum_le d.cords d.node n _ _ (λ c lc i. on_le (leb j (d.level c)) (w c) (d.want c) (λ t. h c lc (leb-true j (d.level c) t))) in
      let same : sum j (q n) ≡ sum j (p n)
      = sum_cong j (q n) (p n) (λ i g. pcapmin_is (by_wants d w s) ko q u em i n (omega arith) l ∙ sym (pcapmin_is d ok p r me i n (omega arith) l)) in
      omega (arith, request-total d ok p r me n l k j e, request-total (by_wants d w s) ko q u em n l k j e))
