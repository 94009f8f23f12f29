-- The first word across a cut, searched in the words of a table: the laws of the loops.
use mathlib.Core.Path.{◌≡◌, refl, sym, ap, ap₂, ◌∙◌}
use mathlib.Core.Bool.{Bool, true, false, cond}
use mathlib.Core.List.{List, [], ◌∷◌}
use Prim.Native.Nat.{ℕ, zero, suc, ◌+◌, ◌-◌, ◌≤◌, ◌<◌}
use native.Mathlib.Omega.{arith}
use lib.ListN.{length, get_or, take, drop}
use lib.Seq.{drop-cons, drop-drop, get_or-take, get_or-drop}
use lib.Dec.{ltb}
use borrow.Author.Tests.{ltb-true, ltb-false}
use Rattle.join.specs.Pieces.{piece}
use Rattle.join.proofs.PieceLaws.{drop-take}
use Rattle.part.specs.Crossing.{across}
use Rattle.std.proofs.Common.{Option, Some, None}
use Rattle.part.specs.Sides.{every_across, cords_across, server_span, span}

-- ---- Pieces

module _ (w : List ℕ) where
  pub piece-drop : (k i to : ℕ) → drop k (piece i to w) ≡ piece (i + k) to w
  piece-drop k i to = drop-take k (to - i) (drop i w) ∙ ap₂ take (let q : to - i - k ≡ to - (i + k) = omega arith in q) (drop-drop k i w)

  pub piece_past : (i to : ℕ) → to ≤ i → piece i to w ≡ []
  piece_past i to h = ap (λ (k : ℕ). take k (drop i w)) (let q : to - i ≡ 0 = omega arith in q)

  piece_cons : (i to : ℕ) → i < to → to ≤ length w → piece i to w ≡ get_or w i 0 ∷ piece (i + 1) to w
  piece_cons i to h l =
      ap₂ take (let q : to - i ≡ suc (to - (i + 1)) = omega arith in q) (drop-cons w i 0 (omega arith))
      ∙ ap (λ (k : ℕ). get_or w i 0 ∷ take (to - (i + 1)) (drop k w)) (let q : suc i ≡ i + 1 = omega arith in q)

-- ---- Parents

module _ (nodes gap : ℕ) where
  every_none : (index : ℕ) → every_across nodes gap 0 index [] ≡ None
  unfolding every_across
  every_none index = refl

  every_skip : (skip index : ℕ) (l : List ℕ) → every_across nodes gap skip index l ≡ every_across nodes gap 0 (index + skip) (drop skip l)
  unfolding every_across
  every_skip zero index l = ap (λ (k : ℕ). every_across nodes gap 0 k l) (let q : index ≡ index + 0 = omega arith in q)
  every_skip (suc skip) index [] = refl
  every_skip (suc skip) index (x ∷ l) =
      every_skip skip (index + 1) l ∙ ap (λ (k : ℕ). every_across nodes gap 0 k (drop skip l)) (let q : index + 1 + skip ≡ index + suc skip = omega arith in q)

  every_stop : (index x : ℕ) (l : List ℕ) → across nodes false x ≡ true → every_across nodes gap 0 index (x ∷ l) ≡ Some index
  unfolding every_across
  every_stop index x l e = ap (λ (t : Bool). cond t (Some index) (every_across nodes gap gap (index + 1) l)) e

  every_pass : (index x : ℕ) (l : List ℕ) → across nodes false x ≡ false
      → every_across nodes gap 0 index (x ∷ l) ≡ every_across nodes gap 0 (index + 1 + gap) (drop gap l)
  unfolding every_across
  every_pass index x l e = ap (λ (t : Bool). cond t (Some index) (every_across nodes gap gap (index + 1) l)) e ∙ every_skip gap (index + 1) l

module _ (w : List ℕ) (nodes width i to : ℕ) where
  -- What is left to search, from i on.
  abbrev pub parents_left : Option ℕ
  parents_left = every_across nodes (width - 1) 0 i (piece i to w)

  pub parent_found : {t : Bool} → i < to → to ≤ length w → t ≡ across nodes false (get_or w i 0) → t ≡ true → Some i ≡ parents_left
  parent_found h l is e =
      sym (every_stop nodes (width - 1) i (get_or w i 0) (piece (i + 1) to w) (sym is ∙ e)) ∙ sym (ap (every_across nodes (width - 1) 0 i) (piece_cons w i to h l))

  pub parents_end : to ≤ i → None ≡ parents_left
  parents_end h = sym (ap (every_across nodes (width - 1) 0 i) (piece_past w i to h) ∙ every_none nodes (width - 1) i)

pub parents_again : (w : List ℕ) (nodes width i to : ℕ) {t : Bool} {all : Option ℕ} → 1 ≤ width → i < to → to ≤ length w → t ≡ across nodes false (get_or w i 0) → t ≡ false
    → parents_left w nodes width i to ≡ all → parents_left w nodes width (i + width) to ≡ all
parents_again w nodes width i to some h l is e all =
    let gap = width - 1 in
    let on : i + 1 + gap ≡ i + width = omega arith in
    ap (λ (k : ℕ). every_across nodes gap 0 k (piece k to w)) (sym on)
    ∙ ap (every_across nodes gap 0 (i + 1 + gap)) (sym (piece-drop w gap (i + 1) to))
    ∙ sym (every_pass nodes gap i (get_or w i 0) (piece (i + 1) to w) (sym is ∙ e))
    ∙ sym (ap (every_across nodes gap 0 i) (piece_cons w i to h l))
    ∙ all

-- ---- Cords

module _ (nodes : ℕ) (before : Bool) where
  cords_none : (left index : ℕ) → cords_across nodes before left index [] ≡ None
  unfolding cords_across
  cords_none zero index = refl
  cords_none (suc left) index = refl

  server_pass : (index : ℕ) (l : List ℕ) → cords_across nodes before 0 index l ≡ cords_across nodes before (get_or l 3 0) (index + 4) (drop 4 l)
  unfolding cords_across
  server_pass index (a ∷ b ∷ c ∷ k ∷ l) = refl
  server_pass index (a ∷ b ∷ c ∷ []) = refl
  server_pass index (a ∷ b ∷ []) = refl
  server_pass index (a ∷ []) = refl
  server_pass index [] = refl

  cord_stop : (k index x : ℕ) (l : List ℕ) → across nodes before x ≡ true → cords_across nodes before (suc k) index (x ∷ l) ≡ Some index
  unfolding cords_across
  cord_stop k index x [] e = ap (λ (t : Bool). cond t (Some index) None) e
  cord_stop k index x (s ∷ l) e = ap (λ (t : Bool). cond t (Some index) (cords_across nodes before k (index + 2) l)) e

  cord_pass : (k index x : ℕ) (l : List ℕ) → across nodes before x ≡ false → cords_across nodes before (suc k) index (x ∷ l) ≡ cords_across nodes before k (index + 2) (drop 1 l)
  unfolding cords_across
  cord_pass k index x [] e = ap (λ (t : Bool). cond t (Some index) None) e ∙ sym (cords_none k (index + 2))
  cord_pass k index x (s ∷ l) e = ap (λ (t : Bool). cond t (Some index) (cords_across nodes before k (index + 2) l)) e

module _ (w : List ℕ) (nodes : ℕ) (before : Bool) (left i to : ℕ) where
  -- What is left to search, from i on, where so many cords come first.
  abbrev pub cords_left : Option ℕ
  cords_left = cords_across nodes before left i (piece i to w)

  pub cords-end : to ≤ i → None ≡ cords_left
  cords-end h = sym (ap (cords_across nodes before left i) (piece_past w i to h) ∙ cords_none nodes before left i)

  pub cord_found : {t : Bool} → (left ≡ 0 → ⊥) → i < to → to ≤ length w → t ≡ across nodes before (get_or w i 0) → t ≡ true → Some i ≡ cords_left
  cord_found some h l is e =
      sym (cord_stop nodes before (left - 1) i (get_or w i 0) (piece (i + 1) to w) (sym is ∙ e))
      ∙ sym (ap₂ (λ (k : ℕ) (z : List ℕ). cords_across nodes before k i z) (let q : left ≡ suc (left - 1) = omega arith in q) (piece_cons w i to h l))

module _ (w : List ℕ) (nodes : ℕ) (before : Bool) (left i to : ℕ) {all : Option ℕ} where
  pub server_again : {count : ℕ} → left ≡ 0 → to ≤ length w → count ≡ get_or w (i + 3) 0
      → cords_left w nodes before left i to ≡ all → cords_left w nodes before count (i + 4) to ≡ all
  server_again {count} none l c is = go (ltb (i + 3) to) refl ∙ sym (server_pass nodes before i (piece i to w)) ∙ ap (λ (k : ℕ). cords_across nodes before k i (piece i to w)) (sym none) ∙ is
    where
      go : (t : Bool) → ltb (i + 3) to ≡ t → cords_left w nodes before count (i + 4) to ≡ cords_across nodes before (get_or (piece i to w) 3 0) (i + 4) (drop 4 (piece i to w))
      go true h = ap₂ (λ (k : ℕ) (z : List ℕ). cords_across nodes before k (i + 4) z)
          (c ∙ sym (get_or-take (to - i) (drop i w) 3 0 (omega (arith, ltb-true (i + 3) to h)) ∙ get_or-drop i w 3 0)) (sym (piece-drop w 4 i to))
      go false h =
          sym (cords-end w nodes before count (i + 4) to (omega (arith, ltb-false (i + 3) to h)))
          ∙ cords-end w nodes before (get_or (piece i to w) 3 0) (i + 4) to (omega (arith, ltb-false (i + 3) to h))
          ∙ ap (cords_across nodes before (get_or (piece i to w) 3 0) (i + 4)) (sym (piece-drop w 4 i to))

  pub cord_again : {t : Bool} → (left ≡ 0 → ⊥) → i < to → to ≤ length w → t ≡ across nodes before (get_or w i 0) → t ≡ false
      → cords_left w nodes before left i to ≡ all → cords_left w nodes before (left - 1) (i + 2) to ≡ all
  cord_again some h l is e all =
      ap (λ (k : ℕ). cords_across nodes before (left - 1) (i + 2) (piece k to w)) (let q : i + 2 ≡ i + 1 + 1 = omega arith in q)
      ∙ ap (cords_across nodes before (left - 1) (i + 2)) (sym (piece-drop w 1 (i + 1) to))
      ∙ sym (cord_pass nodes before (left - 1) i (get_or w i 0) (piece (i + 1) to w) (sym is ∙ e))
      ∙ sym (ap₂ (λ (k : ℕ) (z : List ℕ). cords_across nodes before k i z) (let q : left ≡ suc (left - 1) = omega arith in q) (piece_cons w i to h l))
      ∙ all

-- ---- Where servers end

-- A server that starts within a list ends not far behind it, and one that does not has no words.
pub span_near : (size most i more : ℕ) → (size ≤ i → more ≡ 0) → more < most → i ≤ size + most → i + more ≤ size + most
span_near size most i more none small near = go (ltb i size) refl
  where
    go : (t : Bool) → ltb i size ≡ t → i + more ≤ size + most
    go true e = omega (arith, ltb-true i size e)
    go false e = omega (arith, none (ltb-false i size e))

module _ (w : List ℕ) (i : ℕ) where
  -- One server more.
  pub span_more : {k left more all : ℕ} → more ≡ server_span (drop i w) → k ≡ suc left → i + span k (drop i w) ≡ all → i + more + span left (drop (i + more) w) ≡ all
  unfolding span
  span_more {k} {left} {more} {all} is n e =
      let whole : span k (drop i w) ≡ server_span (drop i w) + span left (drop (server_span (drop i w)) (drop i w)) = ap (λ (m : ℕ). span m (drop i w)) n in
      let behind : span left (drop (server_span (drop i w)) (drop i w)) ≡ span left (drop (i + more) w)
      = ap (λ (m : ℕ). span left (drop m (drop i w))) (sym is) ∙ ap (span left) (drop-drop more i w) in
      omega arith

  pub span_done : {k all : ℕ} → k ≡ 0 → i + span k (drop i w) ≡ all → i ≡ all
  unfolding span
  span_done {k} {all} n e = let none : span k (drop i w) ≡ 0 = ap (λ (m : ℕ). span m (drop i w)) n in omega arith
