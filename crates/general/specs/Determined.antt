-- What a promise about an outcome leaves open: nothing. For any outcome; several results are a tuple.
-- Assumes nothing.
use Rattle.std.specs.Prelude.{ℕ, ◌≡◌, List, [], ◌∷◌, ◌⊎◌}

-- any two outcomes that meet the promise are the same
abbrev pub Determined : {A : Type 0} → (A → Type 0) → Type 0
Determined {A} P = (a b : A) → P a → P b → a ≡ b

-- some outcome meets it
abbrev pub Met : {A : Type 0} → (A → Type 0) → Type 0
Met {A} P = (a : A) × P a

-- a number is one of a list
abbrev pub IsOneOf : List ℕ → ℕ → Type 0
IsOneOf [] n = ⊥
IsOneOf (k ∷ ks) n = (n ≡ k) ⊎ IsOneOf ks n
