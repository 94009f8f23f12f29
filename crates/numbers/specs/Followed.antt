-- What the contract of a private function cites; no public contract does.
use Rattle.std.specs.Prelude.{◌≡◌, List, ◌++◌, ℕ, ◌<◌, length}
use Rattle.std.proofs.lemmas.List.Edits.{sets}
use Rattle.numbers.specs.Number.{form}

-- A number was put at a place of `sheet`, which is then `changed`. Bytes that are written from `next` on, one at least,
-- stand right behind its form; until they are written, a byte behind the form may be changed as well.
abbrev pub Followed : ℕ → List ℕ → ℕ → List ℕ → ℕ → Type 0
Followed value sheet at changed next = (rest : List ℕ) → 0 < length rest → sets changed next rest ≡ sets sheet at (form value ++ rest)
