-- Keys, how they are compared, and the first record with a key.
use Rattle.std.specs.Prelude.{◌≡◌, ℕ, ◌<◌, ◌≤◌, Bool, true, List, Some, None, Option}
use Rattle.std.specs.List.{HoldsAt, AllWithin}

-- a comparison of keys is an equivalence
pub record Equivalence (same : List ℕ → List ℕ → Bool) : Type 0 where
  pub reflexive : (k : List ℕ) → same k k ≡ true
  pub symmetric : (j k : List ℕ) → same j k ≡ true → same k j ≡ true
  pub transitive : (i j k : List ℕ) → same i j ≡ true → same j k ≡ true → same i k ≡ true

-- a comparison takes no two keys for one
abbrev pub Exact : (List ℕ → List ℕ → Bool) → Type 0
Exact same = (j k : List ℕ) → same j k ≡ true → j ≡ k

-- the first of the records from `low` on and below `high` that has a property, or none, where none has it
abbrev pub First : {X : Type 0} → (X → Type 0) → List X → ℕ → ℕ → Option ℕ → Type 0
First P xs low high None = AllWithin (λ x. P x → ⊥) xs low high
First P xs low high (Some i) = (low ≤ i) × (i < high) × HoldsAt P xs i × AllWithin (λ x. P x → ⊥) xs low i
