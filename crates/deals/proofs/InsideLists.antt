-- A deal inside another, all of its wants and starts the same there: so are its headroom, and the nodes that hold its cords, by their numbers there.
use mathlib.Core.Path.{◌≡◌, refl, sym, ap, ap₂, ◌∙◌}
use mathlib.Core.Bool.{Bool, true, false, cond, ◌||◌}
use Prim.Native.Nat.{ℕ, zero, suc, ◌+◌, ◌-◌, ◌≤◌, ◌<◌, zero-le, min}
use native.Mathlib.Nat.{zero-add, suc-ne-zero}
use native.Mathlib.Omega.{arith}
use lib.Dec.{eqb, ltb}
use borrow.Author.Tests.{ne_eqb}
use Rattle.figures.specs.Figures.{at}
use Rattle.figures.specs.Sums.{on}
use Rattle.figures.proofs.Sums.{sum_cong}
use Rattle.figures.proofs.Lists.{figures-at}
use Rattle.rooms.specs.Table.{raised}
use Rattle.rooms.proofs.Trees.{child_sum_cong, down}
use Rattle.deals.specs.Metrics.{Deal, metrics}
use Rattle.deals.specs.Dealing.{granted}
use Rattle.deals.specs.Headroom.{node_ceiling, requests_at, headroom_weight, headroom_over}
use Rattle.deals.specs.Held.{cut_at, some_from, cut_from, nearest_root, holder, held_over}
use Rattle.deals.proofs.Requests.{Dealable, later}
use Rattle.deals.proofs.Computed.{pcapmin, request, measured, by_weights}
use Rattle.deals.proofs.Totals.{request_total_is}
use Rattle.deals.proofs.Headroom.{ceiling_is}
use Rattle.deals.proofs.Inside.{Inside, child_nodes_in, child_cords_in, child_cords_at, total_in, request_in, reached_in, granted_in}

-- ---- The way to the root, with every number raised

raised-on : (a : ℕ) (t : Bool) (m : ℕ) → on t (suc (m + a)) ≡ raised a (on t (suc m))
raised-on a true m = refl
raised-on a false m = refl

-- A number that is named above, unless it is 0, or else a node's own.
raised_either : (a x m : ℕ) (t : Bool) → cond (eqb (raised a x) 0) (on t (suc (m + a))) (raised a x) ≡ raised a (cond (eqb x 0) (on t (suc m)) x)
raised_either a zero m t = raised-on a t m
raised_either a (suc x) m t =
    ap (λ (z : Bool). cond z (on t (suc (m + a))) (suc (x + a))) (ne_eqb (suc (x + a)) 0 (suc-ne-zero (x + a)))
    ∙ sym (ap (λ (z : Bool). raised a (cond z (on t (suc m)) (suc x))) (ne_eqb (suc x) 0 (suc-ne-zero x)))

-- Tests that agree on all levels agree on some of them.
some_cong : (k j : ℕ) (test other : ℕ → Bool) → ((i : ℕ) → i < j + k → test i ≡ other i) → some_from k j test ≡ some_from k j other
unfolding some_from
some_cong zero j test other e = refl
some_cong (suc k) j test other e = ap₂ ◌||◌ (e j (omega arith)) (some_cong k (suc j) test other (λ i l. e i (omega arith)))

module _ (s t : Deal) (a b : ℕ) (ins : Inside s t a b 0) (ok : Dealable s) (ko : Dealable t) where
  -- ---- Headroom

  asks_in : (n : ℕ) → n < s.nodes → requests_at (metrics t) (n + a) ≡ requests_at (metrics s) n
  asks_in n l =
      request_total_is t (n + a) (omega (arith, ins.nodes_fit)) s.levels 0 (zero-add s.levels ∙ sym ins.levels)
      ∙ total_in s t a b 0 ins ok ko (pcapmin s) (request s) (pcapmin t) (request t) (measured s ok) (measured t ko) s.levels 0 (zero-add s.levels) zero-le n l
      ∙ sym (request_total_is s n l s.levels 0 (zero-add s.levels))

  module _ (f g : ℕ → ℕ) (same : (c : ℕ) → c < s.cords → f (c + b) ≡ g c) where
    ceiling_in : (n : ℕ) → n < s.nodes → node_ceiling t f (n + a) ≡ node_ceiling s g n
    ceiling_in = down s.nodes (λ n. node_ceiling t f (n + a) ≡ node_ceiling s g n) (λ n l ih.
        ceiling_is t ko f (n + a) (omega (arith, ins.nodes_fit))
        ∙ ap₂ min (ins.limit n l)
        (ap₂ ◌+◌
        (child_nodes_in s t a b 0 ins n l (node_ceiling t f) ∙ child_sum_cong s.nodes s.parent n _ _ (λ m lm e. ih m lm (later s ok m n lm e)))
        (child_cords_in s t a b 0 ins n l f ∙ sum_cong s.cords _ _ (λ c lc. ap (λ (e : ℕ). on (eqb (s.node c) (suc n)) e) (same c lc))))
        ∙ sym (ceiling_is s ok g n l))

    pub headroom_in : (c : ℕ) → c < s.cords → at (headroom_over t f) (c + b) ≡ at (headroom_over s g) c
    unfolding headroom_over
    headroom_in c l =
        figures-at t.cords (c + b) _ (omega (arith, ins.cords_fit))
        ∙ reached_in s t a b 0 ins ok _ _ _ _ _ _ _ _ (by_weights s ok (headroom_weight s (metrics s) g)) (by_weights t ko (headroom_weight t (metrics t) f))
        (λ m lm. ap₂ ◌-◌ (ceiling_in m lm) (asks_in m lm))
        (λ h lh. ap₂ ◌-◌ (same h lh) (ins.want h lh zero-le))
        c l
        ∙ sym (figures-at s.cords c _ l)

  -- ---- The nodes that hold cords

  cut_at_in : (n : ℕ) → n < s.nodes → (j : ℕ) → j < s.levels → cut_at t (metrics t) (n + a) j ≡ cut_at s (metrics s) n j
  unfolding request
  cut_at_in n l j h =
      let r : (m : ℕ) → m < s.nodes → request t (m + a) j ≡ request s m j
      = λ m lm. request_in s t a b 0 ins ok ko (pcapmin s) (request s) (pcapmin t) (request t) (measured s ok) (measured t ko) m lm j h zero-le in
      ap₂ ltb (r n l)
      (ap₂ ◌+◌
      (child_nodes_in s t a b 0 ins n l (λ m. request t m j) ∙ child_sum_cong s.nodes s.parent n _ _ (λ m lm e. r m lm))
      (child_cords_at s t a b 0 ins n j l t.want s.want (λ c lc e. ins.want c lc zero-le)))

  cut_from_in : (j n : ℕ) → n < s.nodes → j < s.levels → cut_from t (metrics t) j (n + a) ≡ cut_from s (metrics s) j n
  unfolding cut_from
  cut_from_in j n l h =
      ap (λ (k : ℕ). some_from (k - j) j (cut_at t (metrics t) (n + a))) ins.levels
      ∙ some_cong (s.levels - j) j _ _ (λ i q. cut_at_in n l i (omega arith))

  -- Steps beyond the way to the root change nothing.
  nearest_in : (j : ℕ) → j < s.levels → (k h v : ℕ) → v ≤ k → v ≤ h → v ≤ s.nodes
      → nearest_root t.parent (cut_from t (metrics t) j) h (raised a v) ≡ raised a (nearest_root s.parent (cut_from s (metrics s) j) k v)
  unfolding nearest_root
  nearest_in j e zero zero zero p q l = refl
  nearest_in j e zero (suc h) zero p q l = refl
  nearest_in j e (suc k) zero zero p q l = refl
  nearest_in j e (suc k) (suc h) zero p q l = refl
  nearest_in j e zero h (suc m) p q l = absurd (omega arith)
  nearest_in j e (suc k) zero (suc m) p q l = absurd (omega arith)
  nearest_in j e (suc k) (suc h) (suc m) p q l =
      let above : nearest_root t.parent (cut_from t (metrics t) j) h (t.parent (m + a)) ≡ raised a (nearest_root s.parent (cut_from s (metrics s) j) k (s.parent m))
      = ap (nearest_root t.parent (cut_from t (metrics t) j) h) (ins.parent m l)
      ∙ nearest_in j e k h (s.parent m) (omega (arith, ok.rises m l)) (omega (arith, ok.rises m l)) (omega (arith, ok.rises m l)) in
      ap₂ (λ (x : ℕ) (c : Bool). cond (eqb x 0) (on c (suc (m + a))) x) above (cut_from_in j m l e)
      ∙ raised_either a (nearest_root s.parent (cut_from s (metrics s) j) k (s.parent m)) m (cut_from s (metrics s) j m)

  holder_in : (c : ℕ) → c < s.cords → holder t (metrics t) (c + b) ≡ raised a (holder s (metrics s) c)
  unfolding holder
  holder_in c l =
      ap₂ (λ (j v : ℕ). nearest_root t.parent (cut_from t (metrics t) j) t.nodes v) (ins.level c l) (ins.node c l)
      ∙ nearest_in (s.level c) (ok.ranks c l) s.nodes t.nodes (s.node c) (ok.here c l) (omega (arith, ok.here c l, ins.nodes_fit)) (ok.here c l)

  raised-cond : (x : Bool) (v : ℕ) → cond x 0 (raised a v) ≡ raised a (cond x 0 v)
  raised-cond true v = refl
  raised-cond false v = refl

  pub held_in : (c : ℕ) → c < s.cords → at (held_over t) (c + b) ≡ raised a (at (held_over s) c)
  unfolding held_over
  held_in c l =
      figures-at t.cords (c + b) _ (omega (arith, ins.cords_fit))
      ∙ ap₂ (λ (x y : ℕ). cond (eqb x y) 0 (holder t (metrics t) (c + b))) (granted_in s t a b 0 ins ok ko c l zero-le) (ins.want c l zero-le)
      ∙ ap (cond (eqb (at (granted s) c) (s.want c)) 0) (holder_in c l)
      ∙ raised-cond (eqb (at (granted s) c) (s.want c)) (holder s (metrics s) c)
      ∙ ap (raised a) (sym (figures-at s.cords c _ l))
