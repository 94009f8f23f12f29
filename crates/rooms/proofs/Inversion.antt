-- What a good part of a table is: the words it stands in, their ranges, and the index after it.
use mathlib.Core.Path.{◌≡◌, refl, sym, ap, ◌∙◌}
use mathlib.Core.Bool.{Bool, true, false, cond, ◌&&◌}
use mathlib.Core.List.{List, [], ◌∷◌}
use Prim.Native.Nat.{ℕ, zero, suc, ◌+◌, ◌-◌, ◌≤◌, ◌<◌, min}
use native.Mathlib.Nat.{suc-ne-zero}
use native.Mathlib.Omega.{arith}
use lib.ListN.{length, get_or}
use lib.Dec.{leb, ltb}
use borrow.Author.Tests.{leb-true, leb-false, eqb-true, ltb-false}
use Rattle.rooms.specs.Part.{Step, good, bad, Part, follow, word, ensure, end, many, within}
use Rattle.rooms.specs.declared.SheetRefusal.{SheetRefusal}
use Rattle.rooms.specs.declared.SheetRefusal.TheVariants.{WordMissing, WordOutOfRange, WordsLeftOver}
use Rattle.rooms.specs.Table.{Node, Cord, Server, Range, most_watts, most_cords, most_server_cords, highest_rank, node_words, percent, node, cord, cords, range, load, server, cord_count, share_sum}
use Rattle.rooms.specs.Credits.{node_from}
use Rattle.rooms.specs.Words.{PercentFits}
use Rattle.rooms.proofs.NodeWords.{percent_words}

-- ---- One part after another

-- Where one part after another is good, both are.
pub record Took {A B : Type 0} (s : Step A) (k : A → ℕ → Step B) (b : B) (j : ℕ) : Type 0 where
  pub got : A
  pub at : ℕ
  pub first : s ≡ good got at
  pub rest : k got at ≡ good b j

pub took : {A B : Type 0} (s : Step A) (k : A → ℕ → Step B) (b : B) (j : ℕ) → follow s k ≡ good b j → Took s k b j
unfolding follow
took (good a i) k b j e = record { got = a; at = i; first = refl; rest = e }
took (bad q) k b j e = absurd (suc-ne-zero 0 (cc))

-- A value takes no word.
pub said : {A B : Type 0} (a : A) (i : ℕ) (k : A → ℕ → Step B) (b : B) (j : ℕ) → follow (good a i) k ≡ good b j → k a i ≡ good b j
unfolding follow
said a i k b j e = e

-- Where a good part has a test, the test holds.
pub passed : {B : Type 0} (t : Bool) (q : SheetRefusal) (w : List ℕ) (i : ℕ) (k : Bool → ℕ → Step B) (b : B) (j : ℕ)
    → follow (ensure t q w i) k ≡ good b j → (t ≡ true) × (k true i ≡ good b j)
unfolding follow ensure
passed true q w i k b j e = (refl, e)
passed false q w i k b j e = absurd (suc-ne-zero 0 (cc))

-- Where a good part has the end, no word is left.
pub ended : {B : Type 0} (w : List ℕ) (i : ℕ) (k : Bool → ℕ → Step B) (b : B) (j : ℕ)
    → follow (end w i) k ≡ good b j → (length w ≤ i) × (k true i ≡ good b j)
unfolding follow end
ended w i k b j e = go (ltb i (length w)) refl e
  where
    go : (t : Bool) → ltb i (length w) ≡ t → follow (cond t (bad (WordsLeftOver i)) (good true i)) k ≡ good b j → (length w ≤ i) × (k true i ≡ good b j)
    go true d e = absurd (suc-ne-zero 0 (cc))
    go false d e = (ltb-false i (length w) d, e)

-- A good word is there and in range, and what follows it is good.
pub record Word {B : Type 0} (w : List ℕ) (i low high : ℕ) (k : ℕ → ℕ → Step B) (b : B) (j : ℕ) : Type 0 where
  pub there : i < length w
  pub least : low ≤ get_or w i 0
  pub most : get_or w i 0 ≤ high
  pub rest : k (get_or w i 0) (suc i) ≡ good b j

pub word_is : {B : Type 0} (w : List ℕ) (i low high : ℕ) (k : ℕ → ℕ → Step B) (b : B) (j : ℕ)
    → follow (word (within low high) w i) k ≡ good b j → Word w i low high k b j
unfolding word follow
word_is {B} w i low high k b j e = go (leb (length w) i) refl (leb low (get_or w i 0)) refl (leb (get_or w i 0) high) refl e
  where
    go : (x : Bool) → leb (length w) i ≡ x → (y : Bool) → leb low (get_or w i 0) ≡ y → (z : Bool) → leb (get_or w i 0) high ≡ z
        → follow (cond x (bad (WordMissing (length w))) (cond (y && z) (good (get_or w i 0) (suc i)) (bad (WordOutOfRange i)))) k ≡ good b j
        → Word w i low high k b j
    go true ea b eb c ec e = absurd (suc-ne-zero 0 (cc))
    go false ea false eb c ec e = absurd (suc-ne-zero 0 (cc))
    go false ea true eb false ec e = absurd (suc-ne-zero 0 (cc))
    go false ea true eb true ec e =
        record {
          there = leb-false (length w) i ea;
          least = leb-true low (get_or w i 0) eb;
          most = leb-true (get_or w i 0) high ec;
          rest = e;
        }

-- ---- A row of parts

-- A good row of one more is a good part and a good row after it.
pub record ManyIs {A : Type 0} (left : ℕ) (part : ℕ → Part A) (next : ℕ → A → ℕ) (given : ℕ) (w : List ℕ) (i : ℕ) (l : List A) (j : ℕ) : Type 0 where
  pub got : A
  pub at : ℕ
  pub rest : List A
  pub first : part given w i ≡ good got at
  pub others : many left part next (next given got) w at ≡ good rest j
  pub is : l ≡ got ∷ rest

pub many_is : {A : Type 0} (left : ℕ) (part : ℕ → Part A) (next : ℕ → A → ℕ) (given : ℕ) (w : List ℕ) (i : ℕ) (l : List A) (j : ℕ)
    → many (suc left) part next given w i ≡ good l j → ManyIs left part next given w i l j
unfolding many
many_is left part next given w i l j e =
    let a = took _ _ _ _ e in
    let b = took _ _ _ _ a.rest in
    let x : a.got ∷ b.got ≡ l = cc in
    let y : b.at ≡ j = cc in
    record { got = a.got; at = a.at; rest = b.got; first = a.first; others = b.first ∙ ap (good b.got) y; is = sym x }

-- A good row has as many parts as it should.
pub many-length : {A : Type 0} (left : ℕ) (part : ℕ → Part A) (next : ℕ → A → ℕ) (given : ℕ) (w : List ℕ) (i : ℕ) (l : List A) (j : ℕ)
    → many left part next given w i ≡ good l j → length l ≡ left
unfolding many
many-length zero part next given w i l j e = let x : [] ≡ l = cc in rw (← x)
many-length (suc left) part next given w i l j e =
    let a = many_is left part next given w i l j e in
    rw a.is (ap suc (many-length left part next (next given a.got) w a.at a.rest j a.others))

-- ---- A node and a cord

-- A percent of 80, or the word there, which is 80 or 100.
record PercentIs (percents : Bool) (w : List ℕ) (i p j : ℕ) : Type 0 where
  there : i ≤ length w → j ≤ length w
  is : p ≡ cond percents (get_or w i 0) 80
  next : j ≡ i + cond percents 1 0
  fits : PercentFits percents p

percent_is : (percents : Bool) (w : List ℕ) (i p j : ℕ) → percent percents w i ≡ good p j → PercentIs percents w i p j
unfolding percent
percent_is false w i p j e =
    let x : 80 ≡ p = cc in
    let y : i ≡ j = cc in
    rw (← x, ← y) (record { there = λ h. h; is = refl; next = omega arith; fits = refl })
percent_is true w i p j e =
    let a = word_is _ _ _ _ _ _ _ (said _ _ _ _ _ e) in
    let t = passed _ _ _ _ _ _ _ a.rest in
    let x : get_or w i 0 ≡ p = cc in
    let y : suc i ≡ j = cc in
    rw (← x, ← y) (record { there = λ h. a.there; is = refl; next = omega arith; fits = t.0 })

pub record NodeIs (percents : Bool) (own : ℕ) (w : List ℕ) (i : ℕ) (n : Node) (j : ℕ) : Type 0 where
  pub there : i + node_words percents ≤ length w
  pub is : n ≡ node_from percents w i
  pub next : j ≡ i + node_words percents
  pub parent : n.parent ≤ own - 1
  pub rating : n.rating ≤ most_watts
  pub percent : PercentFits percents n.percent

pub node_is : (percents : Bool) (own : ℕ) (w : List ℕ) (i : ℕ) (n : Node) (j : ℕ) → node percents own w i ≡ good n j → NodeIs percents own w i n j
unfolding node
node_is percents own w i n j e =
    let a = word_is _ _ _ _ _ _ _ e in
    let b = word_is _ _ _ _ _ _ _ a.rest in
    let t = took _ _ _ _ b.rest in
    let p = percent_is percents w (suc (suc i)) t.got t.at t.first in
    let x : record { parent = get_or w i 0; rating = get_or w (suc i) 0; percent = t.got } ≡ n = cc in
    let y : t.at ≡ j = cc in
    placed t.got t.at p b.there a.most b.most x y
  where
    placed : (q k : ℕ) → PercentIs percents w (suc (suc i)) q k → suc i < length w → get_or w i 0 ≤ own - 1 → get_or w (suc i) 0 ≤ most_watts
        → record { parent = get_or w i 0; rating = get_or w (suc i) 0; percent = q } ≡ n → k ≡ j → NodeIs percents own w i n j
    placed q k p there parent rating x y =
        let next : k ≡ i + node_words percents = p.next ∙ percent_words percents i in
        rw (← x, ← y)
        (record {
          there = omega (arith, p.there there);
          is = rw p.is;
          next = next;
          parent = parent;
          rating = rating;
          percent = p.fits;
        })

-- The cord of two words.
abbrev pub cord_from : List ℕ → ℕ → Cord
cord_from w i = record { node = get_or w i 0; share = get_or w (suc i) 0 }

pub record CordIs (scale nodes : ℕ) (w : List ℕ) (i : ℕ) (c : Cord) (j : ℕ) : Type 0 where
  pub there : suc i < length w
  pub is : c ≡ cord_from w i
  pub next : j ≡ suc (suc i)
  pub first : 1 ≤ c.node
  pub last : c.node ≤ nodes
  pub share : c.share ≤ scale

pub cord_is : (scale nodes : ℕ) (w : List ℕ) (i : ℕ) (c : Cord) (j : ℕ) → cord scale nodes w i ≡ good c j → CordIs scale nodes w i c j
unfolding cord
cord_is scale nodes w i c j e =
    let a = word_is _ _ _ _ _ _ _ e in
    let b = word_is _ _ _ _ _ _ _ a.rest in
    let x : cord_from w i ≡ c = cc in
    let y : suc (suc i) ≡ j = cc in
    record {
      there = b.there;
      is = sym x;
      next = sym y;
      first = rw (← x) a.least;
      last = rw (← x) a.most;
      share = rw (← x) b.most;
    }

-- ---- A server

abbrev pub range_from : List ℕ → ℕ → Range
range_from w i = record { least = get_or w i 0; greatest = get_or w (suc i) 0 }

pub record RangeIs (w : List ℕ) (i : ℕ) (r : Range) (j : ℕ) : Type 0 where
  pub there : suc i < length w
  pub is : r ≡ range_from w i
  pub next : j ≡ suc (suc i)
  pub ordered : r.least ≤ r.greatest
  pub greatest : r.greatest ≤ most_watts

pub range_is : (w : List ℕ) (i : ℕ) (r : Range) (j : ℕ) → range w i ≡ good r j → RangeIs w i r j
unfolding range
range_is w i r j e =
    let a = word_is _ _ _ _ _ _ _ e in
    let b = word_is _ _ _ _ _ _ _ (said _ _ _ _ _ a.rest) in
    let t = passed _ _ _ _ _ _ _ b.rest in
    let x : range_from w i ≡ r = cc in
    let y : suc (suc i) ≡ j = cc in
    rw (← x)
    (record {
      there = b.there;
      is = refl;
      next = sym y;
      ordered = leb-true _ _ t.0;
      greatest = b.most;
    })

pub record LoadIs (scale node_count before : ℕ) (w : List ℕ) (i : ℕ) (l : List Cord) (j : ℕ) : Type 0 where
  pub there : i < length w
  pub are : cords scale node_count (get_or w i 0) w (suc i) ≡ good l j
  pub count : length l ≡ get_or w i 0
  pub some : 1 ≤ length l
  pub few : length l ≤ min most_server_cords (most_cords - before)
  pub whole : share_sum l ≡ scale

pub load_is : (scale node_count before start : ℕ) (w : List ℕ) (i : ℕ) (l : List Cord) (j : ℕ) → load scale node_count before start w i ≡ good l j
    → LoadIs scale node_count before w i l j
unfolding load
load_is scale node_count before start w i l j e =
    let a = word_is _ _ _ _ _ _ _ e in
    let r = took _ _ _ _ a.rest in
    let t = passed _ _ _ _ _ _ _ r.rest in
    let x : r.got ≡ l = cc in
    let y : r.at ≡ j = cc in
    let n : length r.got ≡ get_or w i 0 = many-length _ _ _ _ _ _ _ _ r.first in
    rw (← x)
    (record {
      there = a.there;
      are = r.first ∙ ap (good r.got) y;
      count = n;
      some = rw n a.least;
      few = rw n a.most;
      whole = eqb-true _ _ t.0;
    })

abbrev pub server_from : List ℕ → ℕ → List Cord → Server
server_from w i l = record { rank = get_or w i 0; least = get_or w (suc i) 0; greatest = get_or w (suc (suc i)) 0; cords = l }

pub record ServerIs (scale node_count before : ℕ) (w : List ℕ) (i : ℕ) (s : Server) (j : ℕ) : Type 0 where
  pub is : s ≡ server_from w i s.cords
  pub lowest : 1 ≤ s.rank
  pub highest : s.rank ≤ highest_rank
  pub ordered : s.least ≤ s.greatest
  pub greatest : s.greatest ≤ most_watts
  pub load : LoadIs scale node_count before w (suc (suc (suc i))) s.cords j

pub server_is : (scale node_count before : ℕ) (w : List ℕ) (i : ℕ) (s : Server) (j : ℕ) → server scale node_count before w i ≡ good s j → ServerIs scale node_count before w i s j
unfolding server
server_is scale node_count before w i s j e =
    let a = word_is _ _ _ _ _ _ _ (said _ _ _ _ _ e) in
    let b = took _ _ _ _ a.rest in
    let r = range_is w (suc i) b.got b.at b.first in
    let c = took _ _ _ _ b.rest in
    let d = load_is scale node_count before i w b.at c.got c.at c.first in
    let x : record { rank = get_or w i 0; least = b.got.least; greatest = b.got.greatest; cords = c.got } ≡ s = cc in
    let y : c.at ≡ j = cc in
    placed b.got b.at c.got c.at r a.least a.most d x y
  where
    placed : (g : Range) (k : ℕ) (l : List Cord) (h : ℕ) → RangeIs w (suc i) g k → 1 ≤ get_or w i 0 → get_or w i 0 ≤ highest_rank → LoadIs scale node_count before w k l h
        → record { rank = get_or w i 0; least = g.least; greatest = g.greatest; cords = l } ≡ s → h ≡ j → ServerIs scale node_count before w i s j
    placed g k l h r low high d x y =
        let m : g.least ≡ get_or w (suc i) 0 = ap (λ (q : Range). q.least) r.is in
        let n : g.greatest ≡ get_or w (suc (suc i)) 0 = ap (λ (q : Range). q.greatest) r.is in
        rw (← x)
        (record {
          is = rw (m, n);
          lowest = low;
          highest = high;
          ordered = r.ordered;
          greatest = r.greatest;
          load = rw (← y, ← r.next) d;
        })

-- With a good server the room still has no more than 1,024 cords.
pub server_few : (scale nodes before : ℕ) (w : List ℕ) (i : ℕ) (s : Server) (j : ℕ) → before ≤ most_cords → server scale nodes before w i ≡ good s j
    → before + cord_count s ≤ most_cords
server_few scale nodes before w i s j h e = omega (arith, (server_is scale nodes before w i s j e).load.few)
