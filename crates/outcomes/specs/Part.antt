-- Reading words or bytes in order, whatever the refusals are: a part gives a value and the index of what is next, or the first
-- refusal that is met.
use Rattle.std.specs.Prelude.{◌≡◌, List, ℕ}
use Rattle.outcomes.specs.Outcome.{Outcome, refused}

-- What a part comes to: a value and the index of what is next, or a refusal.
pub data Step (R A : Type 0) : Type 0 where
  good : A → ℕ → Step R A
  bad : R → Step R A

-- A step that is good, with its value and the index of what is next.
pub record Good {R A : Type 0} (s : Step R A) : Type 0 where
  pub value : A
  pub next : ℕ
  pub is : s ≡ good value next

-- A part of a list, read from an index on.
abbrev pub Part : Type 0 → Type 0 → Type 0
Part R A = List ℕ → ℕ → Step R A

-- What follows a good step; a refusal stands.
unfoldable pub follow : {R A B : Type 0} → Step R A → (A → ℕ → Step R B) → Step R B
follow (good a j) k = k a j
follow (bad refusal) k = bad refusal

-- One part after the other.
abbrev pub ◌>>=◌ : {R A B : Type 0} → Part R A → (A → Part R B) → Part R B
◌>>=◌ p k = λ w i. follow (p w i) (λ a j. k a w j)

-- A value that takes nothing.
abbrev pub give : {R A : Type 0} → A → Part R A
give a = λ w i. good a i

-- What an operation comes to by the value of a good step; a step's refusal stands, as one of the operation's.
abbrev pub when_good : {R S A B : Type 0} → (R → S) → Step R A → (A → Outcome B S) → Outcome B S
when_good refusal (good a next) k = k a
when_good refusal (bad q) k = refused (refusal q)
