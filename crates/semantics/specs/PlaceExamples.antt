-- Which bytes some words write, whatever they hold: a place that is written with the value that it has is a place too. In the manner of 01 §7.
-- To believe: the places. B 16, W12 = 35, so row 3 of the byte tile; W8 = 4, X1 = X2 = 0; predicate 0 has every second bit set.
-- Assumes nothing.
use Rattle.std.specs.Prelude.{ℕ, zero, suc, ◌+◌, ◌≡◌, cond, List, [], ◌∷◌, ◌++◌, set, Result, Ok, Err}
use Rattle.general.specs.Places.{Places}
use Rattle.encoding.specs.Codec.{decode_of}
use Rattle.semantics.specs.State.{public_of}
use Rattle.semantics.specs.Effect.{writes_of}
use Rattle.semantics.specs.ExampleBuffers.{settings_at, state_at, x_with, predicate0}
use Rattle.encoding.specs.declared.operation.DecodeRefusal.{DecodeRefusal}
use Rattle.encoding.specs.declared.operation.Operation.{Operation}

-- the places that are written, of the first n
abbrev listed : Places → ℕ → List ℕ
listed q zero = []
listed q (suc n) = listed q n ++ cond (q.on n) (q.at n ∷ []) []

-- those of Z, of ZA and of memory
abbrev places_of : Result Operation DecodeRefusal → List (List ℕ)
places_of (Ok o) =
    let w = writes_of (settings_at 16 0) (public_of (state_at 16 16 (set (set (set (x_with 12 35) 8 4) 1 0) 2 0) (predicate0 16 (0x55 ∷ 0x55 ∷ [])))) o in
    listed w.z w.z.count ∷ listed w.za w.za.count ∷ listed w.memory w.memory.count ∷ []
places_of (Err e) = []

abbrev writes : ℕ → List (List ℕ)
writes w = places_of (decode_of w 3)

-- k numbers from n on, each d further
abbrev count_up : ℕ → ℕ → ℕ → List ℕ
count_up n d zero = []
count_up n d (suc k) = n ∷ count_up (n + d) d k

pub record ExamplePlaces : Type 0 where
  -- to the tile and from it under the predicate; from it with zeroing
  pub to_tile : writes 0xC0000000 ≡ [] ∷ count_up 48 2 8 ∷ [] ∷ []
  pub from_tile : writes 0xC0020000 ≡ count_up 0 2 8 ∷ [] ∷ [] ∷ []
  pub zeroing : writes 0xC0020200 ≡ count_up 0 1 16 ∷ count_up 48 1 16 ∷ [] ∷ []
  -- vectors 4 and 12 to Z0 and Z1, without and with zeroing
  pub array : writes 0xC0060800 ≡ count_up 0 1 32 ∷ [] ∷ [] ∷ []
  pub array_zeroing : writes 0xC0060A00 ≡ count_up 0 1 32 ∷ (count_up 64 1 16 ++ count_up 192 1 16) ∷ [] ∷ []
  -- a store writes the active bytes alone, a load the whole row
  pub store : writes 0xE0220020 ≡ [] ∷ [] ∷ count_up 0 2 8 ∷ []
  pub load : writes 0xE0020020 ≡ [] ∷ count_up 48 1 16 ∷ [] ∷ []
