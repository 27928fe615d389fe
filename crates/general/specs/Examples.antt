-- Worked examples of this crate's definitions, computed. To believe: the literal lists and numbers.
-- Assumes nothing.
use Rattle.std.specs.Prelude.{ℕ, ◌+◌, ◌%◌, ◌≡◌, Bool, true, false, List, [], ◌∷◌, map, eqb, leb, get_or}
use Rattle.std.proofs.Math.Option.{none, some}
use Rattle.general.specs.Least.{least, is_some}
use Rattle.general.specs.Scatter.{all, zeros, onwards}
use Rattle.general.specs.Number.{number}
use Rattle.general.specs.Places.{Places, nowhere, written, Idle}

-- the first `count` of places 2, 0, 1 and 1, those on that the list says
abbrev pub places : List Bool → ℕ → Places
places on count = record { at = λ k. get_or (2 ∷ 0 ∷ 1 ∷ 1 ∷ []) k 9; on = λ k. get_or on k false; count = count }

-- four bytes with them written: place k with 70 + k
abbrev pub after : List Bool → ℕ → List ℕ
after on count = written (places on count) (λ k. 70 + k) (10 ∷ 11 ∷ 12 ∷ 13 ∷ [])

pub record GeneralExamplesHold : Type 0 where
  -- all three; one of them off
  pub three : after (true ∷ true ∷ true ∷ true ∷ []) 3 ≡ 71 ∷ 72 ∷ 70 ∷ 13 ∷ []
  pub off : after (true ∷ false ∷ true ∷ true ∷ []) 3 ≡ 10 ∷ 72 ∷ 70 ∷ 13 ∷ []
  -- two places that are the same: the later value stays
  pub same : after (true ∷ true ∷ true ∷ true ∷ []) 4 ≡ 71 ∷ 73 ∷ 70 ∷ 13 ∷ []
  -- a place outside writes nothing
  pub outside : after (true ∷ true ∷ true ∷ true ∷ true ∷ []) 5 ≡ 71 ∷ 73 ∷ 70 ∷ 13 ∷ []
  pub nothing : (l : List ℕ) → written nowhere zeros l ≡ l
  pub idle : Idle (places (false ∷ false ∷ true ∷ []) 2)
  pub busy : Idle (places (false ∷ false ∷ true ∷ []) 3) → ⊥
  pub every : map all (0 ∷ 7 ∷ []) ≡ true ∷ true ∷ []
  pub cleared : map zeros (0 ∷ 7 ∷ []) ≡ 0 ∷ 0 ∷ []
  pub counted : map (onwards 3) (0 ∷ 2 ∷ []) ≡ 3 ∷ 5 ∷ []
  -- bytes 1, 2 and 3 as a number: the first is the lowest, and those behind do not count
  pub numbers : (number (λ k. k + 1) 3 ≡ 0x030201) × (number (λ k. 255) 2 ≡ 65535) × (number (λ k. 7) 0 ≡ 0)
  -- of 2, 5 and 8 the first; of 0, 1, 2 and so on; the last there is; none below 2, and none at all
  pub first : least (λ k. eqb (k % 3) 2) 9 ≡ some 2
  pub start : least all 4 ≡ some 0
  pub last : least (leb 3) 4 ≡ some 3
  pub absent : (least (leb 3) 3 ≡ none) × (least all 0 ≡ none)
  pub found : map is_some (some 0 ∷ some 5 ∷ none ∷ []) ≡ true ∷ true ∷ false ∷ []
