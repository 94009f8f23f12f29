-- The rows of holders, one for each number of a node and one for 0: how each follows from its parent's.
use mathlib.Core.Path.{◌≡◌, refl, sym, ap, ap₂, ◌∙◌}
use mathlib.Core.Bool.{Bool, true, false, cond}
use mathlib.Core.List.{List, []}
use mathlib.Core.Logic.{◌⊎◌, inl, inr}
use Prim.Native.Nat.{ℕ, zero, suc, ◌+◌, ◌≤◌, ◌<◌}
use native.Mathlib.Nat.{le_refl, eq-or-lt_of_le, le_of_suc-le-suc}
use native.Mathlib.Omega.{arith}
use native.Mathlib.Numerals.{add-one}
use lib.Dec.{eqb, leb, ltb}
use borrow.Author.Tests.{eqb-true, eqb-false}
use lib.ListN.{length, get_or, set, length-set}
use lib.Seq.{get_or-set_same, get_or-set_other, ext_get_or}
use Rattle.figures.specs.Figures.{at, cell}
use Rattle.figures.specs.Places.{ZeroRows}
use Rattle.figures.specs.Sums.{on}
use Rattle.figures.proofs.Lists.{figures-at, figures-length}
use Rattle.rooms.specs.Table.{most_nodes, highest_rank}
use Rattle.deals.specs.Held.{nearest_root}
use Rattle.rooms.specs.Rows.{cord_row_at}
use Rattle.plan_holders.specs.Holding.{HeldLists, holder_from, CutNodes, RowsByNumber, next_row, HolderRows}
use Rattle.rooms.specs.Trees.{ParentsFirst}
use Rattle.rooms.specs.declared.lists.CordRow.{CordRow}

-- ---- The node nearest the root

-- A parent's number is below its child's: steps beyond a node's number change nothing.
module _ (nodes : ℕ) (parent : ℕ → ℕ) (rises : ParentsFirst nodes parent) (test : ℕ → Bool) where
  nearest_steps : (k l v : ℕ) → v ≤ k → v ≤ l → v ≤ nodes → nearest_root parent test k v ≡ nearest_root parent test l v
  unfolding nearest_root
  nearest_steps zero zero v a b h = refl
  nearest_steps zero (suc l) zero a b h = refl
  nearest_steps zero (suc l) (suc m) a b h = absurd (omega arith)
  nearest_steps (suc k) zero zero a b h = refl
  nearest_steps (suc k) zero (suc m) a b h = absurd (omega arith)
  nearest_steps (suc k) (suc l) zero a b h = refl
  nearest_steps (suc k) (suc l) (suc m) a b h =
      ap (λ (above : ℕ). cond (eqb above 0) (on (test m) (suc m)) above)
      (nearest_steps k l (parent m) (omega (arith, rises m h)) (omega (arith, rises m h)) (omega (arith, rises m h)))

  nearest_zero : (k : ℕ) → nearest_root parent test k 0 ≡ 0
  unfolding nearest_root
  nearest_zero zero = refl
  nearest_zero (suc k) = refl

  -- That of a node, from its parent's.
  nearest_suc : (m : ℕ) → m < nodes
      → nearest_root parent test nodes (suc m)
      ≡ cond (eqb (nearest_root parent test nodes (parent m)) 0) (on (test m) (suc m)) (nearest_root parent test nodes (parent m))
  unfolding nearest_root
  nearest_suc m h =
      nearest_steps nodes (suc nodes) (suc m) h (omega arith) h

-- ---- One row

-- Before the turn of level i, the row has the new figures below i and the parent's from i on.
pub record Turning (above : List ℕ) (cut number i : ℕ) (row : List ℕ) : Type 0 where
  pub size : length row ≡ highest_rank
  pub done : (j : ℕ) → j < i → at row j ≡ cond (eqb (at above j) 0) (on (ltb j cut) number) (at above j)
  pub left : (j : ℕ) → i ≤ j → at row j ≡ at above j

module _ {above : List ℕ} {cut number : ℕ} where
  pub turning_start : length above ≡ highest_rank → Turning above cut number 0 above
  turning_start e = record { size = e; done = λ j h. absurd (omega arith); left = λ j h. refl }

  pub turning_next : {i rank own x : ℕ} {row : List ℕ} → Turning above cut number i row → i < highest_rank → rank ≡ i + 1
      → own ≡ on (leb rank cut) number → x ≡ cond (eqb (at row i) 0) own (at row i) → Turning above cut number (i + 1) (set row i x)
  turning_next {i} {rank} {own} {x} {row} t h r o e =
      rw add-one
      (record {
        size = length-set row i x ∙ t.size;
        done = λ j q. go j (eq-or-lt_of_le (le_of_suc-le-suc q));
        left = λ j q. get_or-set_other row i j x 0 (λ z. omega arith) ∙ t.left j (omega arith);
      })
    where
      own_is : own ≡ on (ltb i cut) number
      own_is = o ∙ ap (λ (k : ℕ). on (leb k cut) number) (r ∙ add-one i)

      here : x ≡ cond (eqb (at above i) 0) (on (ltb i cut) number) (at above i)
      here = e ∙ ap₂ (λ (o : ℕ) (a : ℕ). cond (eqb a 0) o a) own_is (t.left i (le_refl i))

      go : (j : ℕ) → (j ≡ i) ⊎ (j < i) → at (set row i x) j ≡ cond (eqb (at above j) 0) (on (ltb j cut) number) (at above j)
      go j (inl q) = rw q (get_or-set_same row i x 0 (omega (arith, t.size)) ∙ here)
      go j (inr q) = get_or-set_other row i j x 0 (λ z. omega arith) ∙ t.done j q

  pub turning_end : {i : ℕ} {row : List ℕ} → Turning above cut number i row → highest_rank ≤ i → row ≡ next_row above cut number
  turning_end {i} {row} t h =
      ext_get_or 0 row (next_row above cut number) (t.size ∙ sym (figures-length highest_rank _))
      (λ j q. let m : j < highest_rank = omega (arith, t.size) in t.done j (omega arith) ∙ sym (figures-at highest_rank j _ m))

-- ---- All rows

-- Before the turn of the node at place n, the rows of the numbers up to n have their holders.
pub record Filling (parents cuts : List ℕ) (n : ℕ) (rows : List (List ℕ)) : Type 0 where
  pub full : RowsByNumber rows
  pub named : (v j : ℕ) → v ≤ n → j < highest_rank → cell rows v j ≡ holder_from parents cuts j v

module _ {parents cuts : List ℕ} where
  pub filling_start : {rows : List (List ℕ)} → CutNodes parents cuts → ZeroRows (suc most_nodes) highest_rank rows → Filling parents cuts 0 rows
  filling_start {rows} ok none = record { full = none.full; named = go }
    where
      go : (v j : ℕ) → v ≤ 0 → j < highest_rank → cell rows v j ≡ holder_from parents cuts j v
      go zero j a h = none.none 0 j ∙ sym (nearest_zero (length parents) (at parents) ok.rises (λ n. ltb j (at cuts n)) (length parents))
      go (suc v) j a h = absurd (omega arith)

  pub filling_next : {n : ℕ} {above row : List ℕ} {cut number : ℕ} {rows : List (List ℕ)} → CutNodes parents cuts → Filling parents cuts n rows → n < length parents
      → above ≡ get_or rows (at parents n) [] → cut ≡ at cuts n → number ≡ n + 1 → row ≡ next_row above cut number
      → Filling parents cuts (n + 1) (set rows (n + 1) row)
  filling_next {n} {above} {row} {cut} {number} {rows} ok f l a c m e = record {
    full = (length-set rows (n + 1) row ∙ f.full.0, λ v. wide v (eqb v (n + 1)) refl);
    named = λ v j q h. go v j h (eq-or-lt_of_le q);
  }
    where
      there : n + 1 < length rows
      there = omega (arith, f.full.0, ok.few)

      width : length row ≡ highest_rank
      width = ap length e ∙ figures-length highest_rank _

      wide : (v : ℕ) → (t : Bool) → eqb v (n + 1) ≡ t → v < suc most_nodes → length (get_or (set rows (n + 1) row) v []) ≡ highest_rank
      wide v true q h = ap (λ (k : ℕ). length (get_or (set rows (n + 1) row) k [])) (eqb-true v (n + 1) q) ∙ ap length (get_or-set_same rows (n + 1) row [] there) ∙ width
      wide v false q h = ap length (get_or-set_other rows (n + 1) v row [] (eqb-false v (n + 1) q)) ∙ f.full.1 v h

      -- The parent's row has its holders, and the node's follows.
      parent : (j : ℕ) → j < highest_rank → at above j ≡ holder_from parents cuts j (at parents n)
      parent j h = ap (λ (r : List ℕ). at r j) a ∙ f.named (at parents n) j (ok.rises n l) h

      own : (j : ℕ) → on (ltb j cut) number ≡ on (ltb j (at cuts n)) (suc n)
      own j = ap₂ (λ (k : ℕ) (i : ℕ). on (ltb j k) i) c (m ∙ add-one n)

      next : (j : ℕ) → j < highest_rank → at row j ≡ holder_from parents cuts j (suc n)
      next j h =
          ap (λ (r : List ℕ). at r j) e
          ∙ figures-at highest_rank j (λ j. cond (eqb (at above j) 0) (on (ltb j cut) number) (at above j)) h
          ∙ ap₂ (λ (o : ℕ) (x : ℕ). cond (eqb x 0) o x) (own j) (parent j h)
          ∙ sym (nearest_suc (length parents) (at parents) ok.rises (λ i. ltb j (at cuts i)) n l)

      go : (v j : ℕ) → j < highest_rank → (v ≡ n + 1) ⊎ (v < n + 1) → cell (set rows (n + 1) row) v j ≡ holder_from parents cuts j v
      go v j h (inl q) =
          ap (λ (k : ℕ). cell (set rows (n + 1) row) k j) q
          ∙ ap (λ (r : List ℕ). at r j) (get_or-set_same rows (n + 1) row [] there)
          ∙ next j h
          ∙ ap (holder_from parents cuts j) (sym (q ∙ add-one n))
      go v j h (inr q) =
          ap (λ (r : List ℕ). at r j) (get_or-set_other rows (n + 1) v row [] (λ z. omega arith)) ∙ f.named v j (omega arith) h

  pub filling_end : {n : ℕ} {rows : List (List ℕ)} → Filling parents cuts n rows → length parents ≤ n → HolderRows parents cuts rows
  filling_end f h = record { full = f.full; named = λ v j q. f.named v j (omega arith) }

-- ---- The cords

-- What is named for the cord at place c.
abbrev pub held_at : List ℕ → List ℕ → List CordRow → List ℕ → List ℕ → ℕ → ℕ
held_at parents cuts cords wants grants c =
    cond (eqb (at grants c) (at wants c)) 0 (holder_from parents cuts (cord_row_at cords c).level (cord_row_at cords c).node)

-- By the row of its node, at its level.
pub held_is : {parents cuts : List ℕ} {cords : List CordRow} {rows : List (List ℕ)} {wants grants : List ℕ} {c node level x : ℕ} → HeldLists parents cuts cords wants grants
    → HolderRows parents cuts rows → c < length cords → node ≡ (cord_row_at cords c).node → level ≡ (cord_row_at cords c).level
    → x ≡ cond (eqb (at grants c) (at wants c)) 0 (cell rows node level) → x ≡ held_at parents cuts cords wants grants c
held_is {parents} {cuts} {cords} {rows} {wants} {grants} {c} {node} {level} h r l n j e =
    e
    ∙ ap (λ (k : ℕ). cond (eqb (at grants c) (at wants c)) 0 k)
    (ap₂ (cell rows) n j ∙ r.named (cord_row_at cords c).node (cord_row_at cords c).level (h.within c l) (h.ranked c l))
