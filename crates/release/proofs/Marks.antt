-- Laws of the mark: what is past its end, and what stands in a text that shows a part of it.
use mathlib.Core.Path.{◌≡◌, sym, ap, ◌∙◌}
use mathlib.Core.List.{List}
use Prim.Native.Nat.{ℕ, zero, suc, ◌≤◌, ◌<◌}
use native.Mathlib.Omega.{arith}
use lib.ListN.{length, get_or, take}
use lib.Seq.{sets, get_or-take, length-take-le}
use Rattle.figures.proofs.Stores.{take-sets}

-- What a `match` on a number leaves for its last arm: it is none of the first so many.
abbrev pub Others : ℕ → ℕ → Type 0
Others x zero = Unit {0}
Others x (suc n) = Others x n × (x ≡ n → ⊥)

pub others_past : (x n : ℕ) → Others x n → n ≤ x
others_past x zero o = omega arith
others_past x (suc n) o = omega (arith, others_past x n o.0, o.1)

-- A text that shows so much of another has its entries.
pub shown_at : (text whole : List ℕ) (seen i : ℕ) {text' : List ℕ} → seen ≤ length whole → seen ≤ length text → i < seen → text' ≡ sets text 0 (take seen whole)
    → get_or text' i 0 ≡ get_or whole i 0
shown_at text whole seen i {text'} h k below e =
    let size : length (take seen whole) ≡ seen = length-take-le seen whole h in
    sym (get_or-take seen text' i 0 below) ∙ ap (λ (l : List ℕ). get_or (take seen l) i 0) e
    ∙ ap (λ (l : List ℕ). get_or l i 0) (take-sets seen text (take seen whole) k (omega arith)) ∙ get_or-take seen (take seen whole) i 0 below
    ∙ get_or-take seen whole i 0 below
