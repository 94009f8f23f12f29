-- Laws of texts that are put into a buffer, one after the other.
use mathlib.Core.Path.{◌≡◌, refl, sym, ap, ap₂, ◌∙◌}
use mathlib.Core.Bool.{Bool, true, false}
use mathlib.Core.List.{List, [], ◌∷◌, ◌++◌, append_assoc, append-nil}
use Prim.Native.Nat.{ℕ, zero, suc, ◌+◌, ◌-◌, ◌≤◌, ◌<◌, min}
use native.Mathlib.Omega.{arith}
use borrow.Author.Tests.{leb-true, leb-false}
use lib.Dec.{leb}
use lib.ListN.{length, take, drop, length-append}
use lib.Seq.{sets, length-sets, set_out, take-length, length-take-le}
use Rattle.figures.proofs.Stores.{sets_nil, sets_cons, sets-append, sets_all, take-sets, sets_in_front}
use Rattle.io.specs.Counts.{IsPrefixLen}
use Rattle.print.specs.Line.{Put}

-- ---- a run of stores

-- A run past the end changes nothing.
sets_past : (l : List ℕ) (i : ℕ) (t : List ℕ) → length l ≤ i → sets l i t ≡ l
sets_past l i [] h = refl
sets_past l i (a ∷ t) h = rw (set_out l i a h) (sets_past l (suc i) t (omega arith))

-- A run that starts where the one before it ends, or at the buffer's end if that comes first, goes on with it.
sets-on : (l : List ℕ) (i : ℕ) (s t : List ℕ) → sets (sets l i s) (min (i + length s) (length l)) t ≡ sets l i (s ++ t)
sets-on l i s t = go (leb (i + length s) (length l)) refl
  where
    size : length (sets l i s) ≡ length l
    size = length-sets l i s

    go : (test : Bool) → leb (i + length s) (length l) ≡ test
        → sets (sets l i s) (min (i + length s) (length l)) t ≡ sets l i (s ++ t)
    go true e =
        let fits : i + length s ≤ length l = leb-true _ _ e in
        let next : min (i + length s) (length l) ≡ i + length s = omega arith in
        rw next (sym (sets-append l i s t))
    go false e =
        let over : length l < i + length s = leb-false _ _ e in
        sets_past (sets l i s) (min (i + length s) (length l)) t (omega (arith, size))
        ∙ sym (sets_past (sets l i s) (i + length s) t (omega (arith, size)))
        ∙ sym (sets-append l i s t)

-- ---- one text after another

-- The buffer keeps its length.
pub put_size : {a b : List ℕ} {i n : ℕ} {s : List ℕ} → Put a i b n s → length b ≡ length a
put_size {a} {b} {i} {n} {s} p = ap length p.bytes ∙ length-sets a i s

module _ {a b c : List ℕ} {i j k : ℕ} {s t : List ℕ} where
  pub then : Put a i b j s → Put b j c k t → Put a i c k (s ++ t)
  then p q =
      let size = put_size p in
      record {
        bytes = q.bytes ∙ ap (λ (l : List ℕ). sets l j t) p.bytes ∙ rw p.past (sets-on a i s t);
        past = omega (arith, p.past, q.past, length-append s t);
      }

-- The same text by another name.
pub put_as : {a b : List ℕ} {i n : ℕ} {s t : List ℕ} → s ≡ t → Put a i b n s → Put a i b n t
put_as e p = rw (← e) p

-- What is put can be lent.
pub counts : {a b : List ℕ} {i n : ℕ} {s : List ℕ} → Put a i b n s → IsPrefixLen n b
counts {a} {b} {i} {n} {s} p =
    let size = put_size p in
    let inside : n ≤ length b = omega (arith, p.past) in
    (inside, sym (length-take-le n b inside))

-- A text that fits stands whole at the front.
pub put_whole : {a b : List ℕ} {n : ℕ} {s : List ℕ} → Put a 0 b n s → length s ≤ length a → take n b ≡ s
put_whole {a} {b} {n} {s} p h =
    let all : n ≡ length s = omega (arith, p.past) in
    rw (p.bytes, all) (take-sets (length s) a s h (omega arith) ∙ take-length s)

-- ---- a text's bytes

-- So many bytes of a text as fit, in the place of as many of a list.
copied_over : (l t : List ℕ) (at n : ℕ) → n ≡ min (length t) (length l - at) → take at l ++ (take n t ++ drop n (drop at l)) ≡ sets l at t
copied_over l t zero n e =
    let size : length (take n l) ≡ length (take n t) = length-take-le n l (omega arith) ∙ sym (length-take-le n t (omega arith)) in
    sym (ap (λ (r : List ℕ). r ++ drop n l) (sets_all (take n l) (take n t) size)) ∙ sets_in_front n l t (omega arith)
copied_over [] t (suc at) n e =
    let none : n ≡ 0 = omega arith in
    rw none (sym (sets_nil (suc at) t))
copied_over (x ∷ l) t (suc at) n e = ap (λ (r : List ℕ). x ∷ r) (copied_over l t at n (omega arith)) ∙ sym (sets_cons x l at t)

pub put_copied : (text a : List ℕ) (at : ℕ) {n : ℕ} {part b : List ℕ} → at ≤ length a → n ≡ min (length text) (length a - at) → part ≡ take n text
    → b ≡ take at a ++ (part ++ drop (at + n - at) (drop at a)) → Put a at b (at + n) text
put_copied text a at {n} h e is whole =
    let same : at + n - at ≡ n = omega arith in
    record {
      bytes = whole ∙ ap₂ (λ (p : List ℕ) (k : ℕ). take at a ++ (p ++ drop k (drop at a))) is same ∙ copied_over a text at n e;
      past = omega arith;
    }

-- ---- loops over lines

-- What is put so far, followed by the rest, is the whole.
pub record Putting (a : List ℕ) (start : ℕ) (b : List ℕ) (next : ℕ) (rest whole : List ℕ) : Type 0 where
  pub so_far : List ℕ
  pub put : Put a start b next so_far
  pub is : so_far ++ rest ≡ whole

pub putting_next : {a b c : List ℕ} {start i j : ℕ} {piece rest whole : List ℕ}
    → Putting a start b i (piece ++ rest) whole → Put b i c j piece → Putting a start c j rest whole
putting_next {piece = piece} {rest = rest} g p =
    record { so_far = g.so_far ++ piece; put = then g.put p; is = append_assoc g.so_far piece rest ∙ g.is }

pub putting_last : {a b : List ℕ} {start i : ℕ} {whole : List ℕ} → Putting a start b i [] whole → Put a start b i whole
putting_last g = rw (sym (append-nil g.so_far) ∙ g.is) at g.put
