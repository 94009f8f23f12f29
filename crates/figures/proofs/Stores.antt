-- Laws of lists: a run of stores, `sets`, that starts at the front or follows another run.
--
-- A store past the end of a list changes nothing, so `sets` speaks for a list that is too short as well.
use mathlib.Core.Path.{◌≡◌, refl, sym, ap, ◌∙◌}
use mathlib.Core.List.{List, [], ◌∷◌, ◌++◌}
use Prim.Native.Nat.{ℕ, zero, suc, ◌+◌, ◌≤◌, ◌<◌, min}
use native.Mathlib.Omega.{arith}
use native.Mathlib.Numerals.{add-one}
use lib.ListN.{length, get_or, set, take, drop}
use lib.Seq.{sets, take-suc, take-nil, length-take-le, drop-nil, take_all}

module _ {ℓ} {A : Type ℓ} where
  -- ---- a run of stores

  -- No run changes the empty list.
  pub sets_nil : (i : ℕ) (t : List A) → sets [] i t ≡ []
  sets_nil i [] = refl
  sets_nil i (a ∷ t) = sets_nil (suc i) t

  -- A run that starts past the first element leaves that element.
  pub sets_cons : (x : A) (l : List A) (i : ℕ) (t : List A) → sets (x ∷ l) (suc i) t ≡ x ∷ sets l i t
  sets_cons x l i [] = refl
  sets_cons x l i (a ∷ t) = sets_cons x (set l i a) (suc i) t

  -- One run after another is one run.
  pub sets-append : (l : List A) (i : ℕ) (s t : List A) → sets l i (s ++ t) ≡ sets (sets l i s) (i + length s) t
  sets-append l i [] t =
      let e : i + 0 ≡ i = omega arith in
      rw e
  sets-append l i (a ∷ s) t =
      let e : i + suc (length s) ≡ suc i + length s = omega arith in
      rw e (sets-append (set l i a) (suc i) s t)

  -- ---- a run from the front

  -- What of the run fits, then what it does not reach.
  pub sets-front : (l t : List A) → sets l 0 t ≡ take (length l) t ++ drop (length t) l
  sets-front [] t = sets_nil 0 t ∙ sym (drop-nil (length t))
  sets-front (x ∷ l) [] = refl
  sets-front (x ∷ l) (a ∷ t) = sets_cons a l 0 t ∙ ap (λ (r : List A). a ∷ r) (sets-front l t)

  -- A whole list is replaced by a run that is as long.
  pub sets_all : (l t : List A) → length l ≡ length t → sets l 0 t ≡ t
  sets_all [] [] e = refl
  sets_all [] (a ∷ t) e = absurd (omega arith)
  sets_all (x ∷ l) [] e = absurd (omega arith)
  sets_all (x ∷ l) (a ∷ t) e = sets_cons a l 0 t ∙ ap (λ (r : List A). a ∷ r) (sets_all l t (omega arith))

  -- The first elements are the run's, where it and the list have as many.
  pub take-sets : (n : ℕ) (l t : List A) → n ≤ length l → n ≤ length t → take n (sets l 0 t) ≡ take n t
  take-sets zero l t h k = refl
  take-sets (suc n) [] t h k = absurd (omega arith)
  take-sets (suc n) (x ∷ l) [] h k = absurd (omega arith)
  take-sets (suc n) (x ∷ l) (a ∷ t) h k =
      ap (take (suc n)) (sets_cons a l 0 t) ∙ ap (λ (r : List A). a ∷ r) (take-sets n l t (omega arith) (omega arith))

  -- What stands past the run is untouched.
  pub drop-sets : (l t : List A) → drop (length t) (sets l 0 t) ≡ drop (length t) l
  drop-sets [] t = ap (drop (length t)) (sets_nil 0 t)
  drop-sets (x ∷ l) [] = refl
  drop-sets (x ∷ l) (a ∷ t) = ap (drop (suc (length t))) (sets_cons a l 0 t) ∙ drop-sets l t

  -- A run may be cut to what there is of it and what of it fits.
  pub sets-take : (n : ℕ) (l t : List A) → min (length t) (length l) ≤ n → sets l 0 (take n t) ≡ sets l 0 t
  sets-take n [] t h = sets_nil 0 (take n t) ∙ sym (sets_nil 0 t)
  sets-take n (x ∷ l) [] h = ap (sets (x ∷ l) 0) (take-nil n)
  sets-take zero (x ∷ l) (a ∷ t) h = absurd (omega arith)
  sets-take (suc n) (x ∷ l) (a ∷ t) h =
      sets_cons a l 0 (take n t) ∙ ap (λ (r : List A). a ∷ r) (sets-take n l t (omega arith)) ∙ sym (sets_cons a l 0 t)

  -- A turn of a loop that copies t to a place of l: one more store, one more element of t.
  pub sets_turn_at : (l t : List A) (at i : ℕ) (d : A) → i < length t → set (sets l at (take i t)) (at + i) (get_or t i d) ≡ sets l at (take (i + 1) t)
  sets_turn_at l t at i d h =
      let e : at + length (take i t) ≡ at + i = omega (arith, length-take-le i t (omega arith)) in
      sym (rw (add-one, take-suc t i d, sets-append, e))

  -- And to the front of l.
  pub sets_turn : (l t : List A) (i : ℕ) (d : A) → i < length t → set (sets l 0 (take i t)) i (get_or t i d) ≡ sets l 0 (take (i + 1) t)
  sets_turn l t i d h =
      let e : 0 + i ≡ i = omega arith in
      rw e at (sets_turn_at l t 0 i d h)

  -- A run into the first elements, as many as there are of both, is that run into the list.
  pub sets_in_front : (n : ℕ) (l t : List A) → n ≡ min (length t) (length l) → sets (take n l) 0 (take n t) ++ drop n l ≡ sets l 0 t
  sets_in_front n l t e =
      let few = length-take-le n l (omega arith) in
      let many = length-take-le n t (omega arith) in
      let whole : take (length l) (take n t) ≡ take n t = take_all (length l) (take n t) (omega arith) in
      ap (λ (r : List A). r ++ drop n l) (sets_all (take n l) (take n t) (omega arith))
      ∙ sym (sym (sets-take n l t (omega arith)) ∙ sets-front l (take n t) ∙ rw (whole, many) refl)

  -- ---- a front

  -- No more elements can be taken than there are.
  pub take_min : (n : ℕ) (l : List A) → take (min (length l) n) l ≡ take n l
  take_min n [] = take-nil (min 0 n) ∙ sym (take-nil n)
  take_min zero (x ∷ l) =
      let e : min (suc (length l)) 0 ≡ 0 = omega arith in
      rw e
  take_min (suc n) (x ∷ l) =
      let e : min (suc (length l)) (suc n) ≡ suc (min (length l) n) = omega arith in
      rw e (ap (λ (r : List A). x ∷ r) (take_min n l))
