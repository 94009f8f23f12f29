-- Laws of a period: the server that follows, servers from a position on, and the position after them.
use mathlib.Core.Path.{◌≡◌, refl, sym, ap, ◌∙◌}
use mathlib.Core.Bool.{Bool, true, false, cond}
use mathlib.Core.List.{List, Memᴰ}
use Prim.Native.Nat.{ℕ, zero, suc, ◌+◌, ◌-◌, ◌≤◌, ◌<◌}
use native.Mathlib.Nat.{zero-add, suc-add}
use native.Mathlib.Omega.{arith}
use borrow.Author.Tests.{ltb-true, ltb-false, lt-ltb, le-ltb}
use lib.Dec.{ltb}
use lib.ListN.{length, get_or, set, take}
use lib.Seq.{sets, take_all}
use Rattle.figures.proofs.Stores.{sets_turn, sets_all}
use Rattle.sender.specs.Period.{following, servers_from, position_after}

module _ (count : ℕ) where
  -- ---- the server that follows

  pub following_next : (server : ℕ) → suc server < count → following count server ≡ suc server
  following_next server h = rw (lt-ltb (suc server) count h)

  pub following_last : (server : ℕ) → count ≤ suc server → following count server ≡ 0
  following_last server h = rw (le-ltb (suc server) count h)

  -- ---- the position after so many servers

  pub position_after_add : (position a b : ℕ) → position_after count position (a + b) ≡ position_after count (position_after count position a) b
  unfolding position_after
  position_after_add position zero b = rw zero-add
  position_after_add position (suc a) b = rw suc-add (position_after_add (following count position) a b)

  -- One server more moves it to the one that follows.
  pub position_after_suc : (position n : ℕ) → position_after count position (n + 1) ≡ following count (position_after count position n)
  unfolding position_after
  position_after_suc position n = position_after_add position n 1

  -- Up to the last server it counts on.
  pub position_after-on : (n position : ℕ) → position + n < count → position_after count position n ≡ position + n
  unfolding position_after
  position_after-on zero position h = omega arith
  position_after-on (suc n) position h =
      ap (λ (p : ℕ). position_after count p n) (following_next position (omega arith)) ∙ (position_after-on n (suc position) (omega arith) ∙ omega arith)

  -- Past the last it goes on from the first.
  pub position_after_round : (position n : ℕ) → position < count → count ≤ position + n → n ≤ count → position_after count position n ≡ n - (count - position)
  position_after_round position n h k m =
      let last = count - position - 1 in
      let parts : n ≡ last + 1 + (n - (count - position)) = omega arith in
      let back : position_after count position (last + 1) ≡ 0 =
      position_after_suc position last ∙ ap (following count) (position_after-on last position (omega arith)) ∙ following_last (position + last) (omega arith) in
      ap (position_after count position) parts ∙ position_after_add position (last + 1) (n - (count - position))
      ∙ ap (λ (p : ℕ). position_after count p (n - (count - position))) back ∙ (position_after-on (n - (count - position)) 0 (omega arith) ∙ omega arith)

  -- It is always a server's.
  pub following_below : (server : ℕ) → 0 < count → following count server < count
  following_below server h = go (ltb (suc server) count) refl
    where
      go : (t : Bool) → ltb (suc server) count ≡ t → cond t (suc server) 0 < count
      go true e = ltb-true (suc server) count e
      go false e = h

  pub position_after_below : (n position : ℕ) → position < count → position_after count position n < count
  unfolding position_after
  position_after_below zero position h = h
  position_after_below (suc n) position h = position_after_below n (following count position) (following_below position (omega arith))

  -- Less than a whole round apart, it is not the same.
  pub position_after_once : (position i j : ℕ) → position < count → i < j → j < count → position_after count position i ≡ position_after count position j → ⊥
  position_after_once position i j h k l e = go (ltb (position + i) count) (ltb (position + j) count) refl refl
    where
      on : (n : ℕ) → ltb (position + n) count ≡ true → position_after count position n ≡ position + n
      on n t = position_after-on n position (ltb-true (position + n) count t)

      round : (n : ℕ) → n < count → ltb (position + n) count ≡ false → position_after count position n ≡ n - (count - position)
      round n m t = position_after_round position n h (ltb-false (position + n) count t) (omega arith)

      go : (s t : Bool) → ltb (position + i) count ≡ s → ltb (position + j) count ≡ t → ⊥
      go true true s t = omega (arith, on i s, on j t)
      go true false s t = omega (arith, on i s, round j l t, ltb-false (position + j) count t)
      go false true s t = omega (arith, ltb-false (position + i) count s, ltb-true (position + j) count t)
      go false false s t = omega (arith, round i (omega arith) s, round j l t, ltb-false (position + i) count s)

  -- How far on from a position a server is.
  pub record Reached (position server : ℕ) : Type 0 where
    pub distance : ℕ
    pub short : distance < count
    pub is : position_after count position distance ≡ server

  pub reached : (position server : ℕ) → position < count → server < count → Reached position server
  reached position server h k = go (ltb server position) refl
    where
      go : (t : Bool) → ltb server position ≡ t → Reached position server
      go true t =
          let less = ltb-true server position t in
          record { distance = count - position + server; short = omega arith; is = position_after_round position (count - position + server) h (omega arith) (omega arith) ∙ omega arith }
      go false t =
          let more = ltb-false server position t in
          record { distance = server - position; short = omega arith; is = position_after-on (server - position) position (omega arith) ∙ omega arith }

  -- ---- servers from a position on

  pub length-servers_from : (position many : ℕ) → length (servers_from count position many) ≡ many
  unfolding servers_from
  length-servers_from position zero = refl
  length-servers_from position (suc many) = ap suc (length-servers_from (following count position) many)

  -- The server named after i others is the one that they lead to.
  pub get_or-servers_from : (position many i : ℕ) → i < many → get_or (servers_from count position many) i 0 ≡ position_after count position i
  unfolding servers_from position_after
  get_or-servers_from position zero i h = absurd (omega arith)
  get_or-servers_from position (suc many) zero h = refl
  get_or-servers_from position (suc many) (suc i) h = get_or-servers_from (following count position) many i (omega arith)

  pub mem_servers_from : (many d position : ℕ) → d < many → Memᴰ (position_after count position d) (servers_from count position many)
  unfolding servers_from position_after
  mem_servers_from zero d position h = absurd (omega arith)
  mem_servers_from (suc many) zero position h = Memᴰ.head refl
  mem_servers_from (suc many) (suc d) position h = Memᴰ.tail (mem_servers_from many d (following count position) (omega arith))

  -- ---- a loop that names servers

  module _ (position : ℕ) (list : List ℕ) where
    abbrev servers : List ℕ
    servers = servers_from count position (length list)

    -- A turn: the server at hand is stored behind those that are there.
    pub name_turn : (i : ℕ) → i < length list
        → set (sets list 0 (take i servers)) i (position_after count position i) ≡ sets list 0 (take (i + 1) servers)
    name_turn i h =
        rw (get_or-servers_from position (length list) i h) at (sets_turn list servers i 0 (omega (arith, length-servers_from position (length list))))

    -- The end: the list has nothing else.
    pub name_end : sets list 0 (take (length list) servers) ≡ servers
    name_end =
        let size = length-servers_from position (length list) in
        ap (sets list 0) (take_all (length list) servers (omega arith)) ∙ sets_all list servers (sym size)
