-- What the code's answers tell of the parts of a table: one law for each way that a check goes on or returns.
use mathlib.Core.Path.{◌≡◌, refl, sym, ap, ◌∙◌}
use mathlib.Core.Bool.{Bool, true, false}
use mathlib.Core.List.{List, [], ◌∷◌}
use Prim.Native.Nat.{ℕ, zero, suc, ◌+◌, ◌-◌, ◌≤◌, ◌<◌}
use native.Mathlib.Nat.{suc-ne-zero}
use native.Mathlib.Omega.{arith}
use native.Mathlib.Numerals.{add-one}
use lib.ListN.{length, get_or}
use borrow.Author.Tests.{le-leb, lt-leb, lt-ltb, le-ltb}
use Rattle.rooms.specs.Part.{Step, good, bad, Part, follow, word, ensure, end, many, within}
use Rattle.figures.specs.Figures.{total}
use Rattle.rooms.specs.Table.{percent, cord, server, share_of, cord_count, most_cords}
use Rattle.rooms.proofs.Inversion.{word_is, cord_is, server_few}
use Rattle.rooms.specs.Told.{told, nothing, itself}
use Rattle.rooms.specs.declared.SheetRefusal.{SheetRefusal}
use Rattle.rooms.specs.declared.SheetRefusal.TheVariants.{WordMissing, WordOutOfRange, WordsLeftOver}
use Rattle.std.specs.Prelude.{Result, Ok, Err}
use Rattle.std.specs.Result.{IsErrAnd}
use Rattle.std.proofs.lemmas.Result.{err_from_is_err_and}
use Rattle.numbers.proofs.SheetLoops.{ok_parts}

-- ---- One word

module _ (w : List ℕ) (i low high : ℕ) where
  pub missing : length w ≤ i → Err (WordMissing (length w)) ≡ told itself (word (within low high) w i)
  unfolding word told
  missing h = rw (le-leb (length w) i h)

  pub under : i < length w → get_or w i 0 < low → Err (WordOutOfRange i) ≡ told itself (word (within low high) w i)
  unfolding word told
  under h l = rw (lt-leb (length w) i h, lt-leb low (get_or w i 0) l)

  pub over : i < length w → low ≤ get_or w i 0 → high < get_or w i 0 → Err (WordOutOfRange i) ≡ told itself (word (within low high) w i)
  unfolding word told
  over h l m = rw (lt-leb (length w) i h, le-leb low (get_or w i 0) l, lt-leb (get_or w i 0) high m)

  pub inside : i < length w → low ≤ get_or w i 0 → get_or w i 0 ≤ high → Ok (get_or w i 0, i + 1) ≡ told itself (word (within low high) w i)
  unfolding word told
  inside h l m = rw (lt-leb (length w) i h, le-leb low (get_or w i 0) l, le-leb (get_or w i 0) high m, add-one)

-- ---- One part after the other

-- A refusal that `?` passes on as it is, is what is returned.
pub passed_on : {T : Type 0} {r x : Result T SheetRefusal} {q : SheetRefusal} → IsErrAnd r (λ p. p ≡ q) → Err q ≡ x → r ≡ x
passed_on {r = r} e h = let p = err_from_is_err_and r e in rw (p.1, p.2) h

-- A refusal stands, whatever was to follow.
pub stop : {A B : Type 0} (f : A → ℕ) (g : B → ℕ) (s : Step A) (k : A → ℕ → Step B) {q : SheetRefusal} → Err q ≡ told f s → Err q ≡ told g (follow s k)
unfolding follow told
stop f g (good a j) k d = absurd (suc-ne-zero 0 (cc))
stop f g (bad m) k d = d

-- A part that is good: it has the figure that was told.
pub record Known {A : Type 0} (f : A → ℕ) (s : Step A) (v j : ℕ) : Type 0 where
  pub got : A
  pub is : s ≡ good got j
  pub figure : f got ≡ v

pub known : {A : Type 0} (f : A → ℕ) (s : Step A) {v j : ℕ} → Ok (v, j) ≡ told f s → Known f s v j
unfolding told
known f (good a i) d = let both = ok_parts d in record { got = a; is = ap (good a) (sym both.1); figure = sym both.0 }
known f (bad m) d = absurd (suc-ne-zero 0 (cc))

-- After a good part what follows decides.
pub pass_known : {A B : Type 0} (f : A → ℕ) (g : B → ℕ) (s : Step A) (k : A → ℕ → Step B) {x : Result (ℕ × ℕ) SheetRefusal} {v j : ℕ}
    → (a : Known f s v j) → x ≡ told g (k a.got j) → x ≡ told g (follow s k)
unfolding follow
pass_known f g s k a h = rw a.is h

-- The same, for whatever part has the figure that was told.
pub pass : {A B : Type 0} (f : A → ℕ) (g : B → ℕ) (s : Step A) (k : A → ℕ → Step B) {x : Result (ℕ × ℕ) SheetRefusal} {v j : ℕ}
    → Ok (v, j) ≡ told f s → ((a : A) → s ≡ good a j → f a ≡ v → x ≡ told g (k a j)) → x ≡ told g (follow s k)
pass f g s k d h = let a = known f s d in pass_known f g s k a (h a.got a.is a.figure)

-- After a good word, which was told whole, what follows it decides.
pub pass_word : {B : Type 0} (g : B → ℕ) (s : Step ℕ) (k : ℕ → ℕ → Step B) {x : Result (ℕ × ℕ) SheetRefusal} {v j : ℕ}
    → Ok (v, j) ≡ told itself s → x ≡ told g (k v j) → x ≡ told g (follow s k)
pass_word g s k d h = pass itself g s k d (λ a is y. rw y h)

-- A value that takes no word.
pub pass_value : {A B : Type 0} (g : B → ℕ) (a : A) (i : ℕ) (k : A → ℕ → Step B) {x : Result (ℕ × ℕ) SheetRefusal} → x ≡ told g (k a i) → x ≡ told g (follow (good a i) k)
unfolding follow
pass_value g a i k h = h

-- A test that holds, and one that fails.
pub ensured : {B : Type 0} (g : B → ℕ) (t : Bool) (q : SheetRefusal) (w : List ℕ) (i : ℕ) (k : Bool → ℕ → Step B) {x : Result (ℕ × ℕ) SheetRefusal}
    → t ≡ true → x ≡ told g (k true i) → x ≡ told g (follow (ensure t q w i) k)
unfolding follow ensure
ensured g t q w i k e h = rw e h

pub denied : {B : Type 0} (g : B → ℕ) (t : Bool) (q : SheetRefusal) (w : List ℕ) (i : ℕ) (k : Bool → ℕ → Step B) → t ≡ false
    → Err q ≡ told g (follow (ensure t q w i) k)
unfolding follow told ensure
denied g t q w i k e = rw e

-- The end of the table, before its last word and after it.
pub left_over : {B : Type 0} (g : B → ℕ) (w : List ℕ) (i : ℕ) (k : Bool → ℕ → Step B) → i < length w → Err (WordsLeftOver i) ≡ told g (follow (end w i) k)
unfolding follow told end
left_over g w i k h = rw (lt-ltb i (length w) h)

pub ended : {B : Type 0} (g : B → ℕ) (w : List ℕ) (i : ℕ) (k : Bool → ℕ → Step B) {x : Result (ℕ × ℕ) SheetRefusal}
    → length w ≤ i → x ≡ told g (k true i) → x ≡ told g (follow (end w i) k)
unfolding follow end
ended g w i k e h = rw (le-ltb i (length w) e) h

-- The value of the whole.
pub gives : {B : Type 0} (g : B → ℕ) (b : B) (i : ℕ) {v : ℕ} → v ≡ g b → Ok (v, i) ≡ told g (good b i)
unfolding told
gives g b i e = rw e

-- The last part of the whole, whose figure is the whole's.
pub last : {A B : Type 0} (f : A → ℕ) (g : B → ℕ) (s : Step A) (whole : A → B) {r : Result (ℕ × ℕ) SheetRefusal} → ((a : A) → f a ≡ g (whole a)) → r ≡ told f s
    → r ≡ told g (follow s (λ a j. good (whole a) j))
unfolding follow told
last f g (good a j) whole same d = d ∙ ap (λ (v : ℕ). Ok (v, j)) (same a)
last f g (bad q) whole same d = d

-- A percent that ends the whole: its word, or none.
pub percent_last : {B : Type 0} (percents : Bool) (w : List ℕ) (i : ℕ) (whole : ℕ → B) {r : Result (ℕ × ℕ) SheetRefusal} → percents ≡ true → r ≡ told nothing (percent true w i)
    → r ≡ told nothing (follow (percent percents w i) (λ p j. good (whole p) j))
percent_last percents w i whole e d = rw e (last nothing nothing (percent true w i) whole (λ _. refl) d)

pub percent_none : {B : Type 0} (percents : Bool) (w : List ℕ) (i : ℕ) (whole : ℕ → B) → percents ≡ false
    → Ok (0, i) ≡ told nothing (follow (percent percents w i) (λ p j. good (whole p) j))
unfolding follow told percent
percent_none percents w i whole e = rw e

-- How far a check has come: what is left to read decides the whole. A function's later returns start from here.
pub record Reached {B : Type 0} (g : B → ℕ) (goal : Result (ℕ × ℕ) SheetRefusal) : Type 0 where
  pub left : Step B
  pub decides : {x : Result (ℕ × ℕ) SheetRefusal} → x ≡ told g left → x ≡ goal

-- ---- A row of parts, one by one

abbrev plus : {A : Type 0} → ℕ → (A → ℕ) → List A → ℕ
plus acc f l = acc + total f l

-- A loop over a row: `acc` is the figure of the parts passed, and what is left of the row tells the rest.
pub record Row {A : Type 0} (f : A → ℕ) (part : ℕ → Part A) (next : ℕ → A → ℕ) (w : List ℕ) (count given₀ i acc left given j : ℕ) : Type 0 where
  pub same : told (plus acc f) (many left part next given w j) ≡ told (total f) (many count part next given₀ w i)

module _ {A : Type 0} (f : A → ℕ) (part : ℕ → Part A) (next : ℕ → A → ℕ) (w : List ℕ) (count given₀ i : ℕ) where
  pub row_end : {acc left given j : ℕ} → left ≤ 0 → Row f part next w count given₀ i acc left given j
      → Ok (acc, j) ≡ told (total f) (many count part next given₀ w i)
  unfolding many total told
  row_end {left = zero} {j = j} z r = ap (λ (x : ℕ). Ok (x, j)) (omega arith) ∙ r.same
  row_end {left = suc l} z r = absurd (omega arith)

  pub row_stop : {acc left given j : ℕ} {q : SheetRefusal} → 0 < left → Row f part next w count given₀ i acc left given j
      → Err q ≡ told f (part given w j) → Err q ≡ told (total f) (many count part next given₀ w i)
  unfolding many
  row_stop {left = zero} z row d = absurd (omega arith)
  row_stop {acc = acc} {left = suc l} {given = given} {j = j} z row d = stop f (plus acc f) (part given w j) _ d ∙ row.same

  pub row_turn : {acc left given j v k given' : ℕ} → 0 < left → Row f part next w count given₀ i acc left given j
      → Ok (v, k) ≡ told f (part given w j) → ((a : A) → f a ≡ v → next given a ≡ given')
      → Row f part next w count given₀ i (acc + v) (left - 1) given' k
  unfolding many total follow told
  row_turn {left = zero} z row d t = absurd (omega arith)
  row_turn {acc = acc} {left = suc l} {given = given} {j = j} {v = v} {k = k} {given' = given'} z row d t =
      let a = known f (part given w j) d in
      let l' : suc l - 1 ≡ l = omega arith in
      rw l' (finish a.got a.is v a.figure given' (t a.got a.figure))
    where
      go : (a : A) (s : Step (List A)) → told (plus (acc + f a) f) s ≡ told (plus acc f) (follow s (λ rest j. good (a ∷ rest) j))
      go a (good rest j) = ap (λ (x : ℕ). Ok (x, j)) (omega arith)
      go a (bad q) = refl

      finish : (a : A) → part given w j ≡ good a k → (x : ℕ) → f a ≡ x → (y : ℕ) → next given a ≡ y → Row f part next w count given₀ i (acc + x) l y k
      finish a is x ex y ey = rw (← ex, ← ey) (record { same = go a (many l part next (next given a) w k) ∙ (rw is at row.same) })

-- A row of which only the next index is told.
pub nothing-told : {A : Type 0} (s : Step (List A)) → told (total (nothing {A = A})) s ≡ told nothing s
unfolding told total
nothing-told {A} (good l j) = ap (λ (x : ℕ). Ok (x, j)) (go l)
  where
    go : (l : List A) → total (nothing {A = A}) l ≡ 0
    go [] = refl
    go (a ∷ l) = omega (arith, go l)
nothing-told (bad q) = refl

pub row_next : {A : Type 0} (part : ℕ → Part A) (next : ℕ → A → ℕ) (w : List ℕ) (count given₀ i : ℕ) {left given j v k given' : ℕ}
    → 0 < left → Row nothing part next w count given₀ i 0 left given j → Ok (v, k) ≡ told nothing (part given w j) → ((a : A) → next given a ≡ given')
    → Row nothing part next w count given₀ i 0 (left - 1) given' k
row_next part next w count given₀ i {given = given} {j = j} {v = v} z row d t =
    let a = known nothing (part given w j) d in
    let s : 0 + v ≡ 0 = omega (arith, a.figure) in
    rw s at (row_turn nothing part next w count given₀ i z row d (λ a _. t a))

-- ---- Bounds of the figures told

follow_good : {A : Type 0} (s : Step A) → follow s (λ x y. good x y) ≡ s
unfolding follow
follow_good (good a j) = refl
follow_good (bad q) = refl

-- A word that is told is the one that stands there.
pub word-told : (w : List ℕ) (i low high : ℕ) {v j : ℕ} → Ok (v, j) ≡ told itself (word (within low high) w i) → (v ≡ get_or w i 0) × (j ≡ suc i)
word-told w i low high {j = j} d =
    let a = known itself (word (within low high) w i) d in
    let f : follow (word (within low high) w i) (λ x y. good x y) ≡ good a.got j = follow_good (word (within low high) w i) ∙ a.is in
    let b = word_is w i low high (λ x y. good x y) a.got j f in
    let x : get_or w i 0 ≡ a.got = cc in
    let y : suc i ≡ j = cc in
    (sym a.figure ∙ sym x, sym y)

pub word_most : (w : List ℕ) (i low high : ℕ) {v j : ℕ} → Ok (v, j) ≡ told itself (word (within low high) w i) → v ≤ high
word_most w i low high {j = j} d =
    let a = known itself (word (within low high) w i) d in
    let f : follow (word (within low high) w i) (λ x y. good x y) ≡ good a.got j = follow_good (word (within low high) w i) ∙ a.is in
    let b = word_is w i low high (λ x y. good x y) a.got j f in
    let x : get_or w i 0 ≡ a.got = cc in
    omega (arith, b.most, a.figure)

pub cord_most : (scale node_count : ℕ) (w : List ℕ) (i : ℕ) {v j : ℕ} → Ok (v, j) ≡ told share_of (cord scale node_count w i) → v ≤ scale
cord_most scale node_count w i {j = j} d =
    let a = known share_of (cord scale node_count w i) d in
    omega (arith, a.figure, (cord_is scale node_count w i a.got j a.is).share)

pub server_most : (scale node_count before : ℕ) (w : List ℕ) (i : ℕ) {v j : ℕ} → before ≤ most_cords → Ok (v, j) ≡ told cord_count (server scale node_count before w i)
    → before + v ≤ most_cords
server_most scale node_count before w i {j = j} h d =
    let a = known cord_count (server scale node_count before w i) d in
    omega (arith, a.figure, server_few scale node_count before w i a.got j h a.is)
