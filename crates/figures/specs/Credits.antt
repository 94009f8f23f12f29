-- Figures credited to nodes by their numbers. Cited by contracts that are private: no operation has them.
use Rattle.std.specs.Prelude.{List, ℕ, zero, suc, ◌+◌, get_or, set}

-- A figure added to the one that stands on a node, by the node's number; 0 is no node.
unfoldable pub credited : ℕ → ℕ → List ℕ → List ℕ
credited zero figure l = l
credited (suc m) figure l = set l m (get_or l m 0 + figure)
