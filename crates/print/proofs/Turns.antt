-- Turns of the loops that put one line, or one server's lines, after another.
use mathlib.Core.Path.{◌≡◌, ◌∙◌}
use mathlib.Core.List.{List, [], ◌++◌}
use Prim.Native.Nat.{ℕ, suc, ◌+◌, ◌-◌, ◌*◌, ◌≤◌, ◌<◌, min}
use native.Mathlib.Omega.{arith}
use lib.ListN.{length}
use Rattle.rooms.specs.Table.{most_servers}
use Rattle.rooms.specs.declared.lists.CordRow.{CordRow}
use Rattle.rooms.specs.declared.lists.ServerRow.{ServerRow}
use Rattle.print.specs.Line.{server_line, Put}
use Rattle.print.specs.Print.{lines_from, at, server_print}
use Rattle.print.specs.Walk.{cord_line_at, cords_at, servers_at, walk_print}
use Rattle.print.proofs.Putting.{then, put_size, Putting, putting_next, putting_last}

-- ---- lines by place

module _ (line : ℕ → List ℕ) where
  -- One line more.
  lines_from_turn : (count k : ℕ) → k < count → lines_from (count - k) k line ≡ line k ++ lines_from (count - (k + 1)) (k + 1) line
  unfolding lines_from
  lines_from_turn count k h =
      let left : count - k ≡ suc (count - (k + 1)) = omega arith in
      rw left

  -- None is left.
  lines_from-end : (count k : ℕ) → count ≤ k → lines_from (count - k) k line ≡ []
  unfolding lines_from
  lines_from-end count k h =
      let none : count - k ≡ 0 = omega arith in
      rw none

  pub lines_next : {a b c : List ℕ} {start next past : ℕ} {whole : List ℕ} (count k : ℕ) → k < count
      → Putting a start b next (lines_from (count - k) k line) whole → Put b next c past (line k)
      → Putting a start c past (lines_from (count - (k + 1)) (k + 1) line) whole
  lines_next count k h g p = putting_next (rw (lines_from_turn count k h) at g) p

  pub lines_last : {a b : List ℕ} {start next : ℕ} {whole : List ℕ} (count k : ℕ) → count ≤ k
      → Putting a start b next (lines_from (count - k) k line) whole → Put a start b next whole
  lines_last count k h g = putting_last (rw (lines_from-end count k h) at g)

-- ---- servers

-- The walk over the servers, at its place v: what is put, followed by the servers that are left, is the whole; the first grant is no
-- further than so many servers can take it.
pub record Walking (servers : List ServerRow) (cords : List CordRow) (caps : List ℕ) (line : ℕ → ℕ → ℕ → List ℕ) (a : List ℕ) (start count : ℕ) (b : List ℕ) (first next v : ℕ) : Type 0 where
  pub bound : v ≤ count
  pub most : count ≤ most_servers
  pub first_bound : first ≤ 4 * v
  pub put : Putting a start b next (servers_at servers cords caps line (count - v) v first) (servers_at servers cords caps line count 0 0)
  pub size : length b ≡ length a

module _ (servers : List ServerRow) (cords : List CordRow) (caps : List ℕ) (line : ℕ → ℕ → ℕ → List ℕ) (a : List ℕ) (start count : ℕ) where
  -- One server more.
  pub walking_next : (b : List ℕ) (first next v : ℕ) {b' b'' : List ℕ} {at-line past cap few : ℕ}
      → Walking servers cords caps line a start count b first next v → v < count
      → cap ≡ at caps v → few ≡ cords_at servers v
      → Put b next b' at-line (server_line (v + 1) cap)
      → Put b' at-line b'' past (lines_from few 0 (cord_line_at cords line first))
      → Walking servers cords caps line a start count b'' (first + few) past (v + 1)
  unfolding servers_at server_print
  walking_next b first next v {b'} {b''} {at-line} {past} {cap} {few} g h ec es p q =
      let left : count - v ≡ suc (count - (v + 1)) = omega arith in
      let both = then p q in
      record {
        bound = omega arith;
        most = g.most;
        first_bound = omega (arith, g.first_bound);
        put = rw es (putting_next (rw left at g.put) (rw (ec, es) at both));
        size = put_size both ∙ g.size;
      }

-- No server is left.
pub walked : {servers : List ServerRow} {cords : List CordRow} {caps : List ℕ} {line : ℕ → ℕ → ℕ → List ℕ} {a : List ℕ} {start count : ℕ} {b : List ℕ} {first next v : ℕ}
    → Walking servers cords caps line a start count b first next v → count ≤ v → count ≡ min (length servers) most_servers
    → Put a start b next (walk_print servers cords caps line)
unfolding servers_at
walked {count = count} {v = v} g h ec =
    let none : count - v ≡ 0 = omega arith in
    rw (← ec) (putting_last (rw none at g.put))
