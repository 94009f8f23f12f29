-- How far a part of a table reaches: it never passes an index `last`, no word after that one changes its answer,
-- and each word that a good part took is at most 16,777,215. So one word more than a table may have decides every answer.
use mathlib.Core.Path.{◌≡◌, refl, sym, ap, ◌∙◌}
use mathlib.Core.Bool.{Bool, true, false, cond}
use mathlib.Core.List.{List, [], ◌∷◌}
use Prim.Native.Nat.{ℕ, zero, suc, ◌+◌, ◌-◌, ◌*◌, ◌≤◌, ◌<◌, min}
use native.Mathlib.Nat.{le_refl, suc-ne-zero, mul-suc, mul-le-mul}
use native.Mathlib.Omega.{arith}
use lib.ListN.{length, get_or, take, get_or-eq_default}
use lib.Seq.{length-take-le, get_or-take, take_all}
use lib.Dec.{leb, ltb}
use borrow.Author.Tests.{leb-true, leb-false, ltb-true, ltb-false, lt-leb, lt-ltb}
use Rattle.rooms.specs.Part.{Step, good, bad, Part, ◌>>=◌, give, here, follow, word, ensure, end, many, within}
use Rattle.rooms.specs.declared.SheetRefusal.{SheetRefusal}
use Rattle.rooms.specs.Table.{Room, most_watts, most_nodes, most_servers, most_cords, most_server_cords, highest_rank, most_words, most_node_words, most_scale, newest_version, form_of, node_words, percent, node, nodes, cord, cords, range, load, server, servers, cord_count, room_cords, table}
use Rattle.rooms.specs.Limits.{checked}
use Rattle.rooms.proofs.NodeWords.{percent_words}
use Rattle.rooms.proofs.Inversion.{took, word_is, ended, node_is, cord_is, range_is, server_few}
use Rattle.rooms.proofs.Whole.{form_scale, form_words, percents_of, table_is, checked_is}
use Rattle.rooms.proofs.Extent.{server_next, table_next}

-- ---- The calculus

-- What a good part took: the words from i up to j, all of them there and small.
record Taken (last : ℕ) (w : List ℕ) (i j : ℕ) : Type 0 where
  onward : i ≤ j
  near : j ≤ last
  there : i ≤ length w → j ≤ length w
  small : (k : ℕ) → i ≤ k → k < j → get_or w k 0 ≤ most_watts

-- A part, read from i on, reaches no further than `last`: it answers the same if the table is cut after the word there.
record Reaches {A : Type 0} (last : ℕ) (p : Part A) (w : List ℕ) (i : ℕ) : Type 0 where
  same : (n : ℕ) → last < n → n ≤ length w → p (take n w) i ≡ p w i
  taken : (a : A) (j : ℕ) → p w i ≡ good a j → Taken last w i j

taken_none : (last : ℕ) (w : List ℕ) (i : ℕ) → i ≤ last → Taken last w i i
taken_none last w i h = record { onward = le_refl i; near = h; there = λ l. l; small = λ k l m. absurd (omega arith) }

-- The words of two parts, one after the other.
taken_join : (last : ℕ) (w : List ℕ) (i h j : ℕ) → Taken last w i h → Taken last w h j → Taken last w i j
taken_join last w i h j a b = record { onward = omega arith; near = b.near; there = λ l. b.there (a.there l); small = λ k l m. go k l m (ltb k h) refl }
  where
    go : (k : ℕ) → i ≤ k → k < j → (t : Bool) → ltb k h ≡ t → get_or w k 0 ≤ most_watts
    go k l m true e = a.small k l (ltb-true k h e)
    go k l m false e = b.small k (ltb-false k h e) m

module _ (last : ℕ) (w : List ℕ) (i : ℕ) where
  give_reaches : {A : Type 0} (a : A) → i ≤ last → Reaches last (give a) w i
  give_reaches {A} a h = record { same = λ n l m. refl; taken = go }
    where
      go : (b : A) (j : ℕ) → ◌≡◌ {A = Step A} (good a i) (good b j) → Taken last w i j
      go b j e = let x : i ≡ j = cc in rw (← x) (taken_none last w i h)

  -- One part after the other: what comes second knows of a good part before it.
  then_reaches : {A B : Type 0} {p : Part A} {k : A → Part B}
      → Reaches last p w i → ((a : A) (j : ℕ) → p w i ≡ good a j → Taken last w i j → Reaches last (k a) w j) → Reaches last (◌>>=◌ p k) w i
  unfolding follow
  then_reaches {A} {B} {p} {k} first rest = record { same = same; taken = taken }
    where
      go : (n : ℕ) → last < n → n ≤ length w → (s : Step A) → p w i ≡ s → follow s (λ a j. k a (take n w) j) ≡ follow s (λ a j. k a w j)
      go n l m (good a j) e = (rest a j e (first.taken a j e)).same n l m
      go n l m (bad q) e = refl

      same : (n : ℕ) → last < n → n ≤ length w → (◌>>=◌ p k) (take n w) i ≡ (◌>>=◌ p k) w i
      same n l m = ap (λ (s : Step A). follow s (λ a j. k a (take n w) j)) (first.same n l m) ∙ go n l m (p w i) refl

      taken : (b : B) (j : ℕ) → (◌>>=◌ p k) w i ≡ good b j → Taken last w i j
      taken b j e =
          let t = took (p w i) (λ a j. k a w j) b j e in
          let f = first.taken t.got t.at t.first in
          taken_join last w i t.at j f ((rest t.got t.at t.first f).taken b j t.rest)

  -- The index itself, and a test on what was read, take no word.
  here_reaches : {B : Type 0} (k : ℕ → Part B) → Reaches last (k i) w i → Reaches last (◌>>=◌ here k) w i
  unfolding follow
  here_reaches k r = record { same = r.same; taken = r.taken }

  ensure_reaches : {B : Type 0} (t : Bool) (q : SheetRefusal) (k : Bool → Part B) → Reaches last (k true) w i → Reaches last (◌>>=◌ (ensure t q) k) w i
  unfolding follow ensure
  ensure_reaches true q k r = record { same = r.same; taken = r.taken }
  ensure_reaches {B} false q k r = record { same = λ n l m. refl; taken = go }
    where
      go : (b : B) (j : ℕ) → bad q ≡ good b j → Taken last w i j
      go b j e = absurd (suc-ne-zero 0 (cc))

  word_alone : (low high : ℕ) → high ≤ most_watts → i < last → Reaches last (word (within low high)) w i
  unfolding word follow
  word_alone low high h l = record { same = same; taken = taken }
    where
      same : (n : ℕ) → last < n → n ≤ length w → word (within low high) (take n w) i ≡ word (within low high) w i
      same n m d =
          let a : i < n = omega arith in
          let b : i < length w = omega arith in
          rw (length-take-le n w d, get_or-take n w i 0 a, lt-leb n i a, lt-leb (length w) i b)

      taken : (a j : ℕ) → word (within low high) w i ≡ good a j → Taken last w i j
      taken a j e =
          let v = word_is w i low high (λ x y. good x y) a j (rw e) in
          let x : suc i ≡ j = cc in
          rw (← x) (record { onward = omega arith; near = l; there = λ m. v.there; small = λ k m n. only k (omega arith) (omega (arith, v.most)) })
        where
          only : (k : ℕ) → k ≡ i → get_or w i 0 ≤ most_watts → get_or w k 0 ≤ most_watts
          only k e s = rw e s

  -- A word: what follows it knows its range.
  word_reaches : {B : Type 0} {k : ℕ → Part B} (low high : ℕ) → high ≤ most_watts → i < last
      → ((v : ℕ) → low ≤ v → v ≤ high → Reaches last (k v) w (suc i)) → Reaches last (◌>>=◌ (word (within low high)) k) w i
  unfolding follow
  word_reaches {B} {k} low high h l rest = then_reaches (word_alone low high h l) next
    where
      next : (v j : ℕ) → word (within low high) w i ≡ good v j → Taken last w i j → Reaches last (k v) w j
      next v j e t =
          let a = word_is w i low high (λ x y. good x y) v j (rw e) in
          let x : get_or w i 0 ≡ v = cc in
          let y : suc i ≡ j = cc in
          rw (← x, ← y) (rest (get_or w i 0) a.least a.most)

  -- The end: a word at or before `last` is left over in both tables.
  end_reaches : {B : Type 0} (k : Bool → Part B) → i ≤ last → Reaches last (k true) w i → Reaches last (◌>>=◌ end k) w i
  unfolding follow end
  end_reaches {B} k h r = record { same = same; taken = taken }
    where
      same : (n : ℕ) → last < n → n ≤ length w → (◌>>=◌ end k) (take n w) i ≡ (◌>>=◌ end k) w i
      same n l m = rw (length-take-le n w m, lt-ltb i n (omega arith), lt-ltb i (length w) (omega arith))

      taken : (b : B) (j : ℕ) → (◌>>=◌ end k) w i ≡ good b j → Taken last w i j
      taken b j e = r.taken b j (ended w i (λ a j. k a w j) b j e).1

-- So many parts in a row: `Fits left given i` says that as many as are left fit between i and `last`.
module _ (last : ℕ) (w : List ℕ) {A : Type 0} (part : ℕ → Part A) (next : ℕ → A → ℕ) (Fits : ℕ → ℕ → ℕ → Type 0)
    (stop : (given i : ℕ) → Fits 0 given i → i ≤ last)
    (reach : (left given i : ℕ) → Fits (suc left) given i → Reaches last (part given) w i)
    (keep : (left given i : ℕ) → Fits (suc left) given i → (a : A) (j : ℕ) → part given w i ≡ good a j → Fits left (next given a) j) where
  many_reaches : (left given i : ℕ) → Fits left given i → Reaches last (many left part next given) w i
  unfolding many
  many_reaches zero given i f = give_reaches last w i [] (stop given i f)
  many_reaches (suc left) given i f =
      then_reaches last w i (reach left given i f) (λ a j e t.
      then_reaches last w j (many_reaches left (next given a) j (keep left given i f a j e)) (λ rest k d u.
      give_reaches last w k (a ∷ rest) u.near))

-- ---- The parts of a table

module _ (last : ℕ) (w : List ℕ) where
  percent_reaches : (percents : Bool) (i : ℕ) → i + cond percents 1 0 ≤ last → Reaches last (percent percents) w i
  unfolding percent
  percent_reaches false i l = give_reaches last w i 80 (omega arith)
  percent_reaches true i l =
      here_reaches last w i _
      (word_reaches last w i 80 100 (omega arith) (omega arith) (λ percent _ _.
      ensure_reaches last w (suc i) _ _ _
      (give_reaches last w (suc i) _ (omega arith))))

  node_reaches : (percents : Bool) (own i : ℕ) → own ≤ most_watts → i + node_words percents ≤ last → Reaches last (node percents own) w i
  unfolding node
  node_reaches percents own i h l =
      let words = percent_words percents i in
      word_reaches last w i 0 (own - 1) (omega arith) (omega arith) (λ parent _ _.
      word_reaches last w (suc i) 0 most_watts (le_refl most_watts) (omega arith) (λ rating _ _.
      then_reaches last w (suc (suc i)) (percent_reaches percents (suc (suc i)) (omega arith)) (λ percent j e t.
      give_reaches last w j _ t.near)))

  nodes_reaches : (percents : Bool) (count own i : ℕ) → own + count ≤ most_watts → i + node_words percents * count ≤ last
      → Reaches last (nodes percents count own) w i
  nodes_reaches percents count own i h l =
      many_reaches last w (node percents) (λ own _. suc own) (λ left own i. (own + left ≤ most_watts) × (i + node_words percents * left ≤ last))
      (λ own i f. omega arith)
      (λ left own i f. node_reaches percents own i (omega arith) (omega (arith, mul-suc (node_words percents) left)))
      (λ left own i f n j e. (omega arith, omega (arith, mul-suc (node_words percents) left, (node_is percents own w i n j e).next)))
      count own i (h, l)

  range_reaches : (i : ℕ) → i + 2 ≤ last → Reaches last range w i
  unfolding range
  range_reaches i l =
      word_reaches last w i 0 most_watts (le_refl most_watts) (omega arith) (λ least _ _.
      here_reaches last w (suc i) _
      (word_reaches last w (suc i) 0 most_watts (le_refl most_watts) (omega arith) (λ greatest _ _.
      ensure_reaches last w (suc (suc i)) _ _ _
      (give_reaches last w (suc (suc i)) _ (omega arith)))))

module _ (last : ℕ) (w : List ℕ) (scale : ℕ) (small : scale ≤ most_scale) where
  cord_reaches : (node_count i : ℕ) → node_count ≤ most_watts → i + 2 ≤ last → Reaches last (cord scale node_count) w i
  unfolding cord
  cord_reaches node_count i h l =
      word_reaches last w i 1 node_count h (omega arith) (λ node _ _.
      word_reaches last w (suc i) 0 scale (omega arith) (omega arith) (λ share _ _.
      give_reaches last w (suc (suc i)) _ (omega arith)))

  cords_reaches : (node_count count i : ℕ) → node_count ≤ most_watts → i + 2 * count ≤ last → Reaches last (cords scale node_count count) w i
  cords_reaches node_count count i h l =
      many_reaches last w (λ _. cord scale node_count) (λ given _. given) (λ left given i. i + 2 * left ≤ last)
      (λ given i f. omega arith)
      (λ left given i f. cord_reaches node_count i h (omega arith))
      (λ left given i f c j e. omega (arith, (cord_is scale node_count w i c j e).next))
      count 0 i l

  load_reaches : (node_count before start i : ℕ) → node_count ≤ most_watts → i + 1 + 2 * min most_server_cords (most_cords - before) ≤ last
      → Reaches last (load scale node_count before start) w i
  unfolding load
  load_reaches node_count before start i h l =
      word_reaches last w i 1 (min most_server_cords (most_cords - before)) (omega arith) (omega arith) (λ count some few.
      then_reaches last w (suc i) (cords_reaches node_count count (suc i) h (omega arith)) (λ cords j e t.
      ensure_reaches last w j _ _ _
      (give_reaches last w j _ t.near)))

  server_reaches : (node_count before i : ℕ) → node_count ≤ most_watts → i + 4 + 2 * min most_server_cords (most_cords - before) ≤ last
      → Reaches last (server scale node_count before) w i
  unfolding server
  server_reaches node_count before i h l =
      here_reaches last w i _
      (word_reaches last w i 1 highest_rank (omega arith) (omega arith) (λ rank _ _.
      then_reaches last w (suc i) (range_reaches last w (suc i) (omega arith)) (λ range j e t.
      then_reaches last w j (load_reaches node_count before i j h (omega (arith, (range_is w (suc i) range j e).next))) (λ cords k d u.
      give_reaches last w k _ u.near))))

-- The servers that are left fit, with as many cords as the room may still have.
record ServersFit (last left before i : ℕ) : Type 0 where
  few : before ≤ most_cords
  fit : i + 4 * left + 2 * most_cords ≤ last + 2 * before

servers_reaches : (last : ℕ) (w : List ℕ) (scale : ℕ) → scale ≤ most_scale → (node_count count i : ℕ) → node_count ≤ most_watts → i + 4 * count + 2 * most_cords ≤ last
    → Reaches last (servers scale node_count count 0) w i
servers_reaches last w scale small node_count count i h l =
    many_reaches last w (server scale node_count) (λ before s. before + cord_count s) (ServersFit last)
    (λ before i f. omega arith)
    (λ left before i f. server_reaches last w scale small node_count before i h (omega arith))
    (λ left before i f s j e. record { few = server_few scale node_count before w i s j f.few e; fit = omega (arith, server_next scale node_count before w i s j e) })
    count 0 i (record { few = omega arith; fit = omega arith })

-- ---- The table

table_reaches : (w : List ℕ) → Reaches most_words table w 0
unfolding table
table_reaches w =
    word_reaches most_words w 0 1 newest_version (omega arith) (omega arith) (λ version _ _.
    let percents = (form_of version).percents in
    word_reaches most_words w 1 1 most_nodes (omega arith) (omega arith) (λ node_count _ n.
    let few : node_words percents * node_count ≤ most_node_words * most_nodes = mul-le-mul (form_words version) n in
    then_reaches most_words w 2 (nodes_reaches most_words w percents node_count 1 2 (omega arith) (omega arith)) (λ nodes j e t.
    let near : j ≤ 2 + node_words percents * node_count
    = ((nodes_reaches (2 + node_words percents * node_count) w percents node_count 1 2 (omega arith) (le_refl (2 + node_words percents * node_count))).taken nodes j e).near in
    word_reaches most_words w j 0 most_servers (omega arith) (omega arith) (λ server_count _ s.
    then_reaches most_words w (suc j)
    (servers_reaches most_words w (form_of version).scale (form_scale version).1 node_count server_count (suc j) (omega arith) (omega arith)) (λ servers k d u.
    end_reaches most_words w k _ u.near
    (give_reaches most_words w k _ u.near))))))

checked_reaches : (w : List ℕ) → Reaches most_words checked w 0
unfolding checked
checked_reaches w =
    then_reaches most_words w 0 (table_reaches w) (λ r j e t.
    ensure_reaches most_words w j _ _ _
    (give_reaches most_words w j r t.near))

-- One word more than a table may have decides every answer.
pub prefix_decides : (w : List ℕ) (n : ℕ) → suc most_words ≤ n → checked (take n w) 0 ≡ checked w 0
prefix_decides w n h = go (leb n (length w)) refl
  where
    go : (t : Bool) → leb n (length w) ≡ t → checked (take n w) 0 ≡ checked w 0
    go true e = (checked_reaches w).same n h (leb-true n (length w) e)
    go false e = rw (take_all n w (omega (arith, leb-false n (length w) e)))

-- A good table ends where its words do.
pub table-length : (w : List ℕ) (r : Room) (j : ℕ) → table w 0 ≡ good r j → j ≡ length w
table-length w r j e = omega (arith, ((table_reaches w).taken r j e).there (omega arith), (table_is w r j e).ended)

module _ (w : List ℕ) (r : Room) (j : ℕ) (e : checked w 0 ≡ good r j) where
  pub next_is_length : j ≡ length w
  next_is_length = table-length w r j (checked_is w r j e).0

  -- So its length tells the count of its cords.
  pub length_is : length w ≡ 3 + node_words (percents_of w) * length r.nodes + 4 * length r.servers + 2 * room_cords r
  length_is = sym next_is_length ∙ table_next w r j (checked_is w r j e).0

  pub length_small : length w ≤ most_words
  length_small = omega (arith, next_is_length, ((checked_reaches w).taken r j e).near)

  -- Each word of a good table is at most 16,777,215.
  pub words_small : (i : ℕ) → get_or w i 0 ≤ most_watts
  words_small i = go (ltb i j) refl
    where
      go : (t : Bool) → ltb i j ≡ t → get_or w i 0 ≤ most_watts
      go true l = ((checked_reaches w).taken r j e).small i (omega arith) (ltb-true i j l)
      go false l = rw (get_or-eq_default w 0 {n = i} (omega (arith, next_is_length, ltb-false i j l))) (omega arith)
