-- The rows that are lent for a good table: as many as its servers and cords, of those that any room may have.
use mathlib.Core.Path.{◌≡◌, sym, ◌∙◌}
use mathlib.Core.List.{List}
use Prim.Native.Nat.{ℕ, ◌≤◌}
use native.Mathlib.Omega.{arith}
use lib.ListN.{length, take, replicate, length-replicate}
use lib.Seq.{length-take-le}
use Rattle.rooms.specs.Part.{Good}
use Rattle.rooms.specs.Table.{most_servers, most_cords}
use Rattle.rooms.specs.Limits.{checked}
use Rattle.rooms.proofs.Accepted.{accepted}
use Rattle.rooms.specs.Rows.{ServersFit, CordsFit}

-- The front of a list of equal rows.
front : {A : Type 0} (most n : ℕ) (row : A) → n ≤ most → length (take n (replicate most row)) ≡ n
front most n row h = length-take-le n (replicate most row) (omega (arith, length-replicate most row))

module _ (table : List ℕ) (g : Good (checked table 0)) {n : ℕ} where
  module _ (fit : ServersFit table n) where
    pub servers_few : n ≤ most_servers
    servers_few = omega (arith, fit g.value g.next g.is, (accepted table g.value g.next g.is).few_servers)

    pub servers-front : {A : Type 0} (row : A) → n ≡ length (take n (replicate most_servers row))
    servers-front row = sym (front most_servers n row servers_few)

    pub servers-lent : {A : Type 0} (row : A) → ServersFit table (length (take n (replicate most_servers row)))
    servers-lent row r end is = sym (servers-front row) ∙ fit r end is

  module _ (fit : CordsFit table n) where
    pub cords_few : n ≤ most_cords
    cords_few = omega (arith, fit g.value g.next g.is, (accepted table g.value g.next g.is).few_cords)

    pub cords-front : {A : Type 0} (row : A) → n ≡ length (take n (replicate most_cords row))
    cords-front row = sym (front most_cords n row cords_few)

    pub cords-lent : {A : Type 0} (row : A) → CordsFit table (length (take n (replicate most_cords row)))
    cords-lent row r end is = sym (cords-front row) ∙ fit r end is
