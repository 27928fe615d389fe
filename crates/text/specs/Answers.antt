-- Lines that are taken from an input and answered, where the input's bytes are known. To believe: what a line is (as many bytes as a line has, or the fewer that are left), and when no further line is taken.
-- Where they are not known, a clause over these words says nothing of the input, as those of `Read`.
-- Assumes nothing.
use Rattle.std.specs.Prelude.{ℕ, ◌^◌, ◌-◌, ◌<◌, ◌≤◌, ◌≡◌, ◌⊎◌, Bool, true, false, List, [], length, replicate, Option, Some, None}
use Rattle.std.specs.Borrow.{Bor, MutBor}
use Rattle.std.specs.Io.KnownBytes.{Consumes, IsAtEnd}
use Rattle.std.specs.List.{FoldsTo}

-- at most n bytes are taken
abbrev pub TakesUpTo : ℕ → Option (List ℕ) → List ℕ → Option (List ℕ) → Type 0
TakesUpTo n before bytes after = Consumes before after bytes × (length bytes ≤ n)

-- n bytes are taken, or fewer and none is left
abbrev pub TakesLine : ℕ → Option (List ℕ) → List ℕ → Option (List ℕ) → Type 0
TakesLine n before line after = TakesUpTo n before line after × (length line < n → IsAtEnd after)

module _ (post : Bor (List ℕ) → MutBor (List ℕ) → Option ℕ → MutBor (List ℕ) → Type 0) where
  -- r is what a call on a line, and on a buffer of 80 zeros, may return
  pub record Returns (line : List ℕ) (r : Option ℕ) : Type 0 where
    pub shown : Bor (List ℕ)
    pub shows : shown.now ≡ line
    pub lent : MutBor (List ℕ)
    pub zeros : lent.now ≡ replicate 80 0
    pub left : MutBor (List ℕ)
    pub met : post shown lent r left

  -- a line is taken, which is not empty and has an answer
  abbrev pub TakesAnswered : ℕ → Option (List ℕ) → List ℕ → Option (List ℕ) → Type 0
  TakesAnswered n before line after = TakesLine n before line after × (0 < length line) × ((k : ℕ) × Returns line (Some k))

  -- no byte is taken, where none is left, or a line that has no answer
  abbrev pub TakesLast : ℕ → Option (List ℕ) → Option (List ℕ) → Type 0
  TakesLast n before after = TakesLine n before [] after ⊎ ((line : List ℕ) × TakesLine n before line after × (0 < length line) × Returns line None)

  -- a line is taken that is not the last, or is
  abbrev pub TakesOne : ℕ → Option (List ℕ) → Option (List ℕ) → Bool → Type 0
  TakesOne n before after true = (line : List ℕ) × TakesAnswered n before line after
  TakesOne n before after false = TakesLast n before after

  -- so many lines are taken, one after the other, each with an answer
  pub record TakesMany (n count : ℕ) (before after : Option (List ℕ)) : Type 0 where
    pub lines : List (List ℕ)
    pub counted : length lines ≡ count
    pub taken : FoldsTo (TakesAnswered n) before lines after

  -- and then the last, but for the case that there were 2^64 - 1
  abbrev pub TakesAll : ℕ → Option (List ℕ) → Option (List ℕ) → Type 0
  TakesAll n before after = (count : ℕ) × (between : Option (List ℕ)) × TakesMany n count before between
      × (TakesLast n between after ⊎ ((count ≡ 2 ^ 64 - 1) × (between ≡ after)))

  -- and then a part of a line, or a line
  abbrev pub TakesSome : ℕ → Option (List ℕ) → Option (List ℕ) → Type 0
  TakesSome n before after = (count : ℕ) × (between : Option (List ℕ)) × TakesMany n count before between
      × ((bytes : List ℕ) × TakesUpTo n between bytes after)
