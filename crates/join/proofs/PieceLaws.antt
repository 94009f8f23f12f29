-- Pieces of tables in a list, and numbers of nodes moved in them: the laws of the loops, and of one piece behind another.
use mathlib.Core.Path.{◌≡◌, refl, sym, ap, ap₂, ◌∙◌, subst}
use mathlib.Core.List.{List, [], ◌∷◌, ◌++◌, append_assoc, append-nil}
use Prim.Native.Nat.{ℕ, zero, suc, ◌+◌, ◌-◌, ◌*◌, ◌/◌, ◌≤◌, ◌<◌}
use native.Mathlib.Omega.{arith}
use lib.ListN.{length, get_or, take, drop, set, length-append, length-drop, length-set}
use lib.Seq.{sets, length-take-le, take-nil, drop-nil, take-suc-set, drop-set-lt, drop-cons, take-add, drop-drop, take-take, get_or-drop, take_at, drop_at, take_all}
use Rattle.words.specs.Bytes.{word, words_of}
use Rattle.words.proofs.Bytes.{length-words_of}
use Rattle.figures.specs.Bounds.{AllBelow}
use Rattle.figures.proofs.Stores.{sets_all}
use Rattle.figures.proofs.Bounds.{drop_below}
use Rattle.join.specs.Pieces.{renumbered, renumbered_every, renumbered_cords, piece, MayPut, PiecePut}

-- ---- A list of which the front is done and the rest is to be done

-- What stands from i on is as it was, and with it changed the whole is what is wanted.
pub record Turning (change : List ℕ → List ℕ) (wanted list now : List ℕ) (i : ℕ) : Type 0 where
  pub size : length now ≡ length list
  pub ahead : drop i now ≡ drop i list
  pub same : take i now ++ change (drop i now) ≡ wanted

-- Where nothing is left, all is done.
pub turning_end : {change : List ℕ → List ℕ} {wanted list now : List ℕ} {i : ℕ} → change [] ≡ [] → length now ≤ i → Turning change wanted list now i → now ≡ wanted
turning_end {change} {wanted} {list} {now} {i} none h t =
    sym (append-nil now)
    ∙ ap₂ ◌++◌ (sym (take_all i now h)) (sym (ap change (drop_past now i h) ∙ none))
    ∙ t.same
  where
    drop_past : (l : List ℕ) (i : ℕ) → length l ≤ i → drop i l ≡ []
    drop_past [] i h = drop-nil i
    drop_past (x ∷ l) zero h = absurd (omega arith)
    drop_past (x ∷ l) (suc i) h = drop_past l i (omega arith)

drop_more : (l m : List ℕ) (i k : ℕ) → drop i l ≡ drop i m → drop (i + k) l ≡ drop (i + k) m
drop_more l m i k e = sym (drop-drop k i l) ∙ ap (drop k) e ∙ drop-drop k i m

-- The word at i is changed, and `gap` words behind it stay.
pub turning_set : {change next : List ℕ → List ℕ} {wanted list now : List ℕ} {i : ℕ} (x gap : ℕ) → i < length now
    → ((rest : List ℕ) → change (get_or now i 0 ∷ rest) ≡ x ∷ (take gap rest ++ next (drop gap rest)))
    → Turning change wanted list now i → Turning next wanted list (set now i x) (suc i + gap)
turning_set {change} {next} {wanted} {list} {now} {i} x gap h step t =
    let front : take (suc i + gap) (set now i x) ≡ (take i now ++ (x ∷ [])) ++ take gap (drop (suc i) now)
    = take-add (suc i) gap (set now i x) ∙ ap₂ (λ (a b : List ℕ). a ++ take gap b) (take-suc-set now i x h) (drop-set-lt (suc i) now i x (omega arith)) in
    let back : drop (suc i + gap) (set now i x) ≡ drop gap (drop (suc i) now)
    = sym (drop-drop gap (suc i) (set now i x)) ∙ ap (drop gap) (drop-set-lt (suc i) now i x (omega arith)) in
    record {
      size = length-set now i x ∙ t.size;
      ahead = back ∙ drop-drop gap (suc i) now ∙ drop_more now list (suc i) gap (one_on now list i t.ahead);
      same = ap₂ (λ (a b : List ℕ). a ++ next b) front back
          ∙ append_assoc (take i now ++ (x ∷ [])) (take gap (drop (suc i) now)) _
          ∙ append_assoc (take i now) (x ∷ []) _
          ∙ ap (λ (z : List ℕ). take i now ++ z) (sym (step (drop (suc i) now)) ∙ ap change (sym (drop-cons now i 0 h)))
          ∙ t.same;
    }
  where
    one_on : (l m : List ℕ) (i : ℕ) → drop i l ≡ drop i m → drop (suc i) l ≡ drop (suc i) m
    one_on l m i e = ap (λ (k : ℕ). drop k l) (let q : suc i ≡ i + 1 = omega arith in q) ∙ drop_more l m i 1 e ∙ ap (λ (k : ℕ). drop k m) (let q : i + 1 ≡ suc i = omega arith in q)

-- So many words are passed as they are.
pub turning_pass : {change next : List ℕ → List ℕ} {wanted list now : List ℕ} {i : ℕ} (k : ℕ)
    → ((rest : List ℕ) → drop i now ≡ rest → change rest ≡ take k rest ++ next (drop k rest))
    → Turning change wanted list now i → Turning next wanted list now (i + k)
turning_pass {change} {next} {wanted} {list} {now} {i} k step t = record {
  size = t.size;
  ahead = drop_more now list i k t.ahead;
  same = ap₂ (λ (a b : List ℕ). a ++ next b) (take-add i k now) (sym (drop-drop k i now))
      ∙ append_assoc (take i now) (take k (drop i now)) _
      ∙ ap (λ (z : List ℕ). take i now ++ z) (sym (step (drop i now) refl))
      ∙ t.same;
}

head_at : (l : List ℕ) (i : ℕ) → get_or l i 0 ≡ get_or (drop i l) 0 0
head_at [] i = sym (ap (λ (l : List ℕ). get_or l 0 0) (drop-nil i))
head_at (x ∷ l) zero = refl
head_at (x ∷ l) (suc i) = head_at l i

-- The entry at i is one of the list as it was.
pub turning_at : {change : List ℕ → List ℕ} {wanted list now : List ℕ} {i : ℕ} → Turning change wanted list now i → get_or now i 0 ≡ get_or list i 0
turning_at {change} {wanted} {list} {now} {i} t = head_at now i ∙ ap (λ (l : List ℕ). get_or l 0 0) t.ahead ∙ sym (head_at list i)

-- ---- Every word of a width

module _ (gap up down : ℕ) where
  every_skip : (skip : ℕ) (l : List ℕ) → renumbered_every gap up down skip l ≡ take skip l ++ renumbered_every gap up down 0 (drop skip l)
  unfolding renumbered_every
  every_skip zero l = refl
  every_skip (suc skip) [] = refl
  every_skip (suc skip) (w ∷ l) = ap (λ (z : List ℕ). w ∷ z) (every_skip skip l)

  pub every_length : (skip : ℕ) (l : List ℕ) → length (renumbered_every gap up down skip l) ≡ length l
  unfolding renumbered_every
  every_length zero [] = refl
  every_length zero (w ∷ l) = ap suc (every_length gap l)
  every_length (suc skip) [] = refl
  every_length (suc skip) (w ∷ l) = ap suc (every_length skip l)

  pub every_none : renumbered_every gap up down 0 [] ≡ []
  unfolding renumbered_every
  every_none = refl

  pub every_turn : {wanted list now : List ℕ} {i : ℕ} → i < length now → Turning (renumbered_every gap up down 0) wanted list now i
      → Turning (renumbered_every gap up down 0) wanted list (set now i (renumbered up down (get_or now i 0))) (suc i + gap)
  unfolding renumbered_every
  every_turn {now = now} {i = i} h t =
      turning_set (renumbered up down (get_or now i 0)) gap h (λ rest. ap (λ (z : List ℕ). renumbered up down (get_or now i 0) ∷ z) (every_skip gap rest)) t

-- The same, by a width.
pub every_again : (width up down : ℕ) {wanted list now : List ℕ} {i x : ℕ} → 1 ≤ width → i < length now → x ≡ renumbered up down (get_or now i 0)
    → Turning (renumbered_every (width - 1) up down 0) wanted list now i → Turning (renumbered_every (width - 1) up down 0) wanted list (set now i x) (i + width)
every_again width up down {wanted} {list} {now} {i} {x} some h is t =
    subst (λ (k : ℕ). Turning (renumbered_every (width - 1) up down 0) wanted list (set now i x) k) (let q : suc i + (width - 1) ≡ i + width = omega arith in q)
    (subst (λ (v : ℕ). Turning (renumbered_every (width - 1) up down 0) wanted list (set now i v) (suc i + (width - 1))) (sym is) (every_turn (width - 1) up down h t))

-- ---- The cords of servers

module _ (up down : ℕ) where
  pub cords_none : (left : ℕ) → renumbered_cords up down left [] ≡ []
  unfolding renumbered_cords
  cords_none zero = refl
  cords_none (suc left) = refl

  pub cords-length : (left : ℕ) (l : List ℕ) → length (renumbered_cords up down left l) ≡ length l
  unfolding renumbered_cords
  cords-length (suc left) (n ∷ s ∷ l) = ap (λ (k : ℕ). suc (suc k)) (cords-length left l)
  cords-length (suc left) (n ∷ []) = refl
  cords-length (suc left) [] = refl
  cords-length zero (a ∷ b ∷ c ∷ k ∷ l) = ap (λ (n : ℕ). suc (suc (suc (suc n)))) (cords-length k l)
  cords-length zero (a ∷ b ∷ c ∷ []) = refl
  cords-length zero (a ∷ b ∷ []) = refl
  cords-length zero (a ∷ []) = refl
  cords-length zero [] = refl

  server_pass : (l : List ℕ) → renumbered_cords up down 0 l ≡ take 4 l ++ renumbered_cords up down (get_or l 3 0) (drop 4 l)
  unfolding renumbered_cords
  server_pass (a ∷ b ∷ c ∷ k ∷ l) = refl
  server_pass (a ∷ b ∷ c ∷ []) = refl
  server_pass (a ∷ b ∷ []) = refl
  server_pass (a ∷ []) = refl
  server_pass [] = refl

  cord-set : (left n : ℕ) (l : List ℕ) → renumbered_cords up down (suc left) (n ∷ l) ≡ renumbered up down n ∷ (take 1 l ++ renumbered_cords up down left (drop 1 l))
  unfolding renumbered_cords
  cord-set left n (s ∷ l) = refl
  cord-set left n [] = ap (λ (z : List ℕ). renumbered up down n ∷ z) (sym (cords_none left))

  pub server_turn : {wanted list now : List ℕ} {i left : ℕ} → left ≡ 0 → Turning (renumbered_cords up down left) wanted list now i
      → Turning (renumbered_cords up down (get_or now (i + 3) 0)) wanted list now (i + 4)
  server_turn {now = now} {i = i} e t =
      turning_pass 4 (λ rest d. ap (λ (k : ℕ). renumbered_cords up down k rest) e ∙ server_pass rest
      ∙ ap (λ (k : ℕ). take 4 rest ++ renumbered_cords up down k (drop 4 rest)) (ap (λ (l : List ℕ). get_or l 3 0) (sym d) ∙ get_or-drop i now 3 0)) t

  pub cord_turn : {wanted list now : List ℕ} {i left : ℕ} (k : ℕ) → left ≡ suc k → i < length now → Turning (renumbered_cords up down left) wanted list now i
      → Turning (renumbered_cords up down k) wanted list (set now i (renumbered up down (get_or now i 0))) (suc i + 1)
  cord_turn {now = now} {i = i} k e h t =
      turning_set (renumbered up down (get_or now i 0)) 1 h (λ rest. ap (λ (n : ℕ). renumbered_cords up down n (get_or now i 0 ∷ rest)) e ∙ cord-set k (get_or now i 0) rest) t

  -- The same, by what the code has.
  pub server_again : {wanted list now : List ℕ} {i left count : ℕ} → left ≡ 0 → count ≡ get_or now (i + 3) 0 → Turning (renumbered_cords up down left) wanted list now i
      → Turning (renumbered_cords up down count) wanted list now (i + 4)
  server_again {wanted} {list} {now} {i} e c t = subst (λ (k : ℕ). Turning (renumbered_cords up down k) wanted list now (i + 4)) (sym c) (server_turn e t)

  pub cord_again : {wanted list now : List ℕ} {i left x : ℕ} → (left ≡ 0 → ⊥) → i < length now → x ≡ renumbered up down (get_or now i 0)
      → Turning (renumbered_cords up down left) wanted list now i → Turning (renumbered_cords up down (left - 1)) wanted list (set now i x) (i + 2)
  cord_again {wanted} {list} {now} {i} {left} {x} n h is t =
      subst (λ (k : ℕ). Turning (renumbered_cords up down (left - 1)) wanted list (set now i x) k) (let q : suc i + 1 ≡ i + 2 = omega arith in q)
      (subst (λ (v : ℕ). Turning (renumbered_cords up down (left - 1)) wanted list (set now i v) (suc i + 1)) (sym is)
      (cord_turn (left - 1) (let q : left ≡ suc (left - 1) = omega arith in q) h t))

-- ---- Words of a part of the bytes

four_more : (f : ℕ) → 4 * suc f ≡ suc (suc (suc (suc (4 * f))))
four_more f = omega arith

words_of-drop : (f : ℕ) (bytes : List ℕ) → words_of (drop (4 * f) bytes) ≡ drop f (words_of bytes)
unfolding words_of
words_of-drop zero bytes = refl
words_of-drop (suc f) [] = ap words_of (drop-nil (4 * suc f))
words_of-drop (suc f) (a ∷ []) = ap (λ (k : ℕ). words_of (drop k (a ∷ []))) (four_more f) ∙ ap words_of (drop-nil (suc (suc (suc (4 * f)))))
words_of-drop (suc f) (a ∷ b ∷ []) = ap (λ (k : ℕ). words_of (drop k (a ∷ b ∷ []))) (four_more f) ∙ ap words_of (drop-nil (suc (suc (4 * f))))
words_of-drop (suc f) (a ∷ b ∷ c ∷ []) = ap (λ (k : ℕ). words_of (drop k (a ∷ b ∷ c ∷ []))) (four_more f) ∙ ap words_of (drop-nil (suc (4 * f)))
words_of-drop (suc f) (a ∷ b ∷ c ∷ d ∷ bytes) = ap (λ (k : ℕ). words_of (drop k (a ∷ b ∷ c ∷ d ∷ bytes))) (four_more f) ∙ words_of-drop f bytes

words_of-take : (k : ℕ) (bytes : List ℕ) → words_of (take (4 * k) bytes) ≡ take k (words_of bytes)
unfolding words_of
words_of-take zero bytes = refl
words_of-take (suc k) [] = ap words_of (take-nil (4 * suc k))
words_of-take (suc k) (a ∷ []) = ap (λ (n : ℕ). words_of (take n (a ∷ []))) (four_more k) ∙ ap (λ (l : List ℕ). words_of (a ∷ l)) (take-nil (suc (suc (suc (4 * k)))))
words_of-take (suc k) (a ∷ b ∷ []) = ap (λ (n : ℕ). words_of (take n (a ∷ b ∷ []))) (four_more k) ∙ ap (λ (l : List ℕ). words_of (a ∷ b ∷ l)) (take-nil (suc (suc (4 * k))))
words_of-take (suc k) (a ∷ b ∷ c ∷ []) = ap (λ (n : ℕ). words_of (take n (a ∷ b ∷ c ∷ []))) (four_more k) ∙ ap (λ (l : List ℕ). words_of (a ∷ b ∷ c ∷ l)) (take-nil (suc (4 * k)))
words_of-take (suc k) (a ∷ b ∷ c ∷ d ∷ bytes) = ap (λ (n : ℕ). words_of (take n (a ∷ b ∷ c ∷ d ∷ bytes))) (four_more k) ∙ ap (λ (l : List ℕ). word a b c d ∷ l) (words_of-take k bytes)

-- ---- One piece behind another

pub drop-take : (at end : ℕ) (l : List ℕ) → drop at (take end l) ≡ take (end - at) (drop at l)
drop-take zero end l = ap (λ (k : ℕ). take k l) (let q : end ≡ end - 0 = omega arith in q)
drop-take (suc at) zero l = ap (λ (k : ℕ). take k (drop (suc at) l)) (let q : 0 ≡ 0 - suc at = omega arith in q)
drop-take (suc at) (suc end) [] = sym (take-nil (suc end - suc at))
drop-take (suc at) (suc end) (x ∷ l) = drop-take at end l ∙ ap (λ (k : ℕ). take k (drop at l)) (let q : end - at ≡ suc end - suc at = omega arith in q)

-- A list with a new middle has it behind its front.
pub put_middle : (list : List ℕ) (at end : ℕ) (words : List ℕ) {list' : List ℕ} → end ≡ at + length words → end ≤ length list
    → list' ≡ take at list ++ (words ++ drop (end - at) (drop at list)) → PiecePut list at words list' end
put_middle list at end words {list'} e h is =
    let front : length (take at list) ≡ at = length-take-le at list (omega arith) in
    let rest = drop (end - at) (drop at list) in
    let done : list' ≡ (take at list ++ words) ++ rest = is ∙ sym (append_assoc (take at list) words rest) in
    record {
      ends = e;
      within = h;
      size = ap length done ∙ omega (arith, length-append (take at list ++ words) rest, length-append (take at list) words, length-drop (end - at) (drop at list), length-drop at list);
      front = ap (take end) done ∙ take_at (take at list ++ words) rest end (omega (arith, length-append (take at list) words));
    }

module _ {list words list₁ : List ℕ} {at end : ℕ} (put : PiecePut list at words list₁ end) where
  front_length : length (take at list) ≡ at
  front_length = length-take-le at list (omega (arith, put.ends, put.within))

  -- What was put stands in the middle, and the front before it is as it was.
  pub put_there : take (end - at) (drop at list₁) ≡ words
  put_there = sym (drop-take at end list₁) ∙ ap (drop at) put.front ∙ drop_at (take at list) words at front_length

  pub put_before : take at list₁ ≡ take at list
  put_before = sym (take-take at end list₁ (omega (arith, put.ends))) ∙ ap (take at) put.front ∙ take_at (take at list) words at front_length

  -- What was put may be changed in its place.
  pub put_changed : (change : List ℕ → List ℕ) {part list₂ : List ℕ} → length (change words) ≡ length words
      → part ≡ change (take (end - at) (drop at list₁)) → list₂ ≡ take at list₁ ++ (part ++ drop (end - at) (drop at list₁)) → PiecePut list at (change words) list₂ end
  put_changed change e changed is =
      let p = put_middle list₁ at end (change words) (put.ends ∙ ap (λ (k : ℕ). at + k) (sym e)) (omega (arith, put.size, put.within))
      (is ∙ ap (λ (l : List ℕ). take at list₁ ++ (l ++ drop (end - at) (drop at list₁))) (changed ∙ ap change put_there)) in
      record { ends = p.ends; within = put.within; size = p.size ∙ put.size; front = p.front ∙ ap (λ (l : List ℕ). l ++ change words) put_before }

-- A word is put by a store.
pub put_word : (list : List ℕ) (at word : ℕ) → at < length list → PiecePut list at (word ∷ []) (set list at word) (suc at)
put_word list at word h = record { ends = omega arith; within = h; size = length-set list at word; front = take-suc-set list at word h }

-- One piece behind another.
pub put_both : {list list₁ list₂ words more : List ℕ} {at end last : ℕ} → PiecePut list at words list₁ end → PiecePut list₁ end more list₂ last
    → PiecePut list at (words ++ more) list₂ last
put_both {list} {list₁} {list₂} {words} {more} {at} p q = record {
  ends = omega (arith, p.ends, q.ends, length-append words more);
  within = omega (arith, p.size, q.within);
  size = q.size ∙ p.size;
  front = q.front ∙ ap (λ (l : List ℕ). l ++ more) p.front ∙ append_assoc (take at list) words more;
}

-- The words of a part of the bytes are a piece of their words.
pub piece_words : (bytes : List ℕ) (from to : ℕ) → words_of (take (4 * to - 4 * from) (drop (4 * from) bytes)) ≡ piece from to (words_of bytes)
piece_words bytes from to =
    ap (λ (k : ℕ). words_of (take k (drop (4 * from) bytes))) (let q : 4 * to - 4 * from ≡ 4 * (to - from) = omega arith in q)
    ∙ words_of-take (to - from) (drop (4 * from) bytes) ∙ ap (take (to - from)) (words_of-drop from bytes)

pub piece-length : (words : List ℕ) (from to : ℕ) → to ≤ length words → length (piece from to words) ≡ to - from
piece-length words from to h = length-take-le (to - from) (drop from words) (omega (arith, length-drop from words))

-- A word that is loaded by itself is the one at its index.
pub word-loaded : (bytes : List ℕ) (i : ℕ) {list : List ℕ} → i < length bytes / 4
    → list ≡ sets (0 ∷ []) 0 (words_of (take (4 * (i + 1) - 4 * i) (drop (4 * i) bytes))) → get_or list 0 0 ≡ get_or (words_of bytes) i 0
word-loaded bytes i h e =
    let size : 1 ≡ length (piece i (i + 1) (words_of bytes)) = omega (arith, piece-length (words_of bytes) i (i + 1) (omega (arith, length-words_of bytes))) in
    ap (λ (l : List ℕ). get_or l 0 0) (e ∙ ap (sets (0 ∷ []) 0) (piece_words bytes i (i + 1)) ∙ sets_all (0 ∷ []) (piece i (i + 1) (words_of bytes)) size)
    ∙ ap (λ (k : ℕ). get_or (take k (drop i (words_of bytes))) 0 0) (let q : i + 1 - i ≡ 1 = omega arith in q)
    ∙ first (drop i (words_of bytes)) ∙ sym (head_at (words_of bytes) i)
  where
    first : (l : List ℕ) → get_or (take 1 l) 0 0 ≡ get_or l 0 0
    first [] = refl
    first (x ∷ l) = refl

-- Words that are loaded into the middle of a list are put there.
pub put_loaded : (bytes list : List ℕ) (from to at : ℕ) {part list' : List ℕ} → MayPut bytes from to list at
    → part ≡ sets (take (at + (to - from) - at) (drop at list)) 0 (words_of (take (4 * to - 4 * from) (drop (4 * from) bytes)))
    → list' ≡ take at list ++ (part ++ drop (at + (to - from) - at) (drop at list))
    → PiecePut list at (piece from to (words_of bytes)) list' (at + (to - from))
put_loaded bytes list from to at may loaded is =
    let words = piece from to (words_of bytes) in
    let size : length words ≡ to - from = piece-length (words_of bytes) from to (omega (arith, length-words_of bytes, may.there)) in
    let space = may.space in
    let all = loaded ∙ ap (sets (take (at + (to - from) - at) (drop at list)) 0) (piece_words bytes from to)
    ∙ sets_all (take (at + (to - from) - at) (drop at list)) words
    (length-take-le (at + (to - from) - at) (drop at list) (omega (arith, length-drop at list)) ∙ let q : at + (to - from) - at ≡ length words = omega arith in q) in
    put_middle list at (at + (to - from)) words (ap (λ (k : ℕ). at + k) (sym size)) space (is ∙ ap (λ (l : List ℕ). take at list ++ (l ++ drop (at + (to - from) - at) (drop at list))) all)

-- What was put stands there, no word of it above the bytes' own.
pub piece_below : (bound from to : ℕ) (words : List ℕ) {at end : ℕ} {list list₁ : List ℕ} → PiecePut list at (piece from to words) list₁ end → AllBelow bound words
    → AllBelow bound (take (end - at) (drop at list₁))
piece_below bound from to words put all =
    subst (AllBelow bound) (sym (put_there put)) (take_below (to - from) (drop from words) (drop_below bound words from all))
  where
    take_below : (n : ℕ) (l : List ℕ) → AllBelow bound l → AllBelow bound (take n l)
    take_below zero [] h i = h i
    take_below zero (x ∷ l) h i = omega (arith, h i)
    take_below (suc n) [] h i = h i
    take_below (suc n) (x ∷ l) h zero = h 0
    take_below (suc n) (x ∷ l) h (suc i) = take_below n l (λ k. h (suc k)) i
