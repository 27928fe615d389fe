-- The exported promises at literal inputs, each about all results that the promise allows. Worked from 01 §2, §4, §5 and §6. To believe: the literal numbers.
-- Assumes nothing.
use Rattle.std.specs.Prelude.{ℕ, ◌≡◌, List, [], ◌∷◌, map, set, replicate}
use Rattle.settings.specs.Lent.{settings_in}
use Rattle.settings.specs.Results.{filled}
use Rattle.semantics.specs.State.{State}
use Rattle.semantics.specs.ExampleBuffers.{state_at, x_with, ones}
use Rattle.sme_move.specs.Export.{version, listing_version, Exports, DecodeExports, EncodeExports, LengthExports}

-- asked to execute with these settings and results: the number, the results afterwards
abbrev pub GivesResults : List ℕ → ℕ → State → List ℕ → List ℕ → Type 0
GivesResults given w t rs l = (r : ℕ) (rs' : List ℕ) (t' : State) → Exports (settings_in given) w t rs r rs' t' → r ∷ rs' ≡ l

-- B 16, level 1, streaming on, ZA by a number, memory from 1000 hex on
abbrev pub given_za : ℕ → List ℕ
given_za za = 16 ∷ 1 ∷ 1 ∷ za ∷ 0x1000 ∷ []

-- every element active, ten bytes of memory, X1 = 1000 hex and X2 = 0, for E0820020: load, m = 4, horizontal, W12, P0, X1, X2, tile 0
abbrev pub short_memory : State
short_memory = state_at 16 10 (set (set (x_with 12 5) 1 0x1000) 2 0) (ones 16)

-- asked to decode with these fields: the number, the fields afterwards
abbrev pub GivesFields : ℕ → ℕ → List ℕ → List ℕ → Type 0
GivesFields w level f l = (r : ℕ) (f' : List ℕ) → DecodeExports w level f r f' → r ∷ f' ≡ l

-- asked to encode these fields: the number, the word
abbrev pub GivesWord : List ℕ → List ℕ → Type 0
GivesWord f l = (r w : ℕ) → EncodeExports f r w → r ∷ w ∷ [] ≡ l

-- asked for the lengths with these settings and this list: the number, the list afterwards
abbrev pub GivesLengths : List ℕ → List ℕ → List ℕ → Type 0
GivesLengths given ls l = (r : ℕ) (ls' : List ℕ) → LengthExports (settings_in given) ls r ls' → r ∷ ls' ≡ l

pub record ExportExamplesHold : Type 0 where
  pub version_is : version ≡ 8
  pub listing_version_is : listing_version ≡ 9
  -- two results in an array without a place, with one, with two, with more
  pub results : map (filled (7 ∷ 5 ∷ [])) ([] ∷ (9 ∷ []) ∷ (9 ∷ 8 ∷ []) ∷ (9 ∷ 8 ∷ 6 ∷ []) ∷ []) ≡ [] ∷ (7 ∷ []) ∷ (7 ∷ 5 ∷ []) ∷ (7 ∷ 5 ∷ 6 ∷ []) ∷ []
  -- element 2 has its bytes 2 and 3 outside: the address first, then the element, as far as there are places
  pub no_place : GivesResults (given_za 1) 0xE0820020 short_memory [] (7 ∷ [])
  pub one_place : GivesResults (given_za 1) 0xE0820020 short_memory (9 ∷ []) (7 ∷ 0x100A ∷ [])
  pub places : GivesResults (given_za 1) 0xE0820020 short_memory (9 ∷ 8 ∷ 6 ∷ []) (7 ∷ 0x100A ∷ 2 ∷ 6 ∷ [])
  -- with ZA off nothing of an earlier call stays in either place
  pub zeros : GivesResults (given_za 0) 0xE0820020 short_memory (9 ∷ 8 ∷ 6 ∷ []) (5 ∷ 0 ∷ 0 ∷ 6 ∷ [])
  -- at its level, at the one below, above 3
  pub decodes : GivesFields 0xC080ACA9 1 (replicate 11 99) (0 ∷ 1 ∷ 4 ∷ 1 ∷ 2 ∷ 1 ∷ 13 ∷ 3 ∷ 5 ∷ 0 ∷ 0 ∷ 1 ∷ [])
  pub undecodable : GivesFields 0xC080ACA9 0 (replicate 11 99) (3 ∷ replicate 11 99)
  pub bad_level : GivesFields 0xC080ACA9 4 (replicate 11 99) (1 ∷ replicate 11 99)
  -- and back; with predicate 8
  pub encodes : GivesWord (1 ∷ 4 ∷ 1 ∷ 2 ∷ 1 ∷ 13 ∷ 3 ∷ 5 ∷ 0 ∷ 0 ∷ 1 ∷ []) (0 ∷ 0xC080ACA9 ∷ [])
  pub out_of_range : GivesWord (1 ∷ 4 ∷ 1 ∷ 2 ∷ 1 ∷ 13 ∷ 8 ∷ 5 ∷ 0 ∷ 0 ∷ 1 ∷ []) (8 ∷ 0 ∷ [])
  -- whatever the level; by the largest vector length where it is given; of vector lengths that are not allowed; where the level is missing
  pub lengths : GivesLengths (128 ∷ 4 ∷ []) (9 ∷ 8 ∷ 7 ∷ 6 ∷ []) (0 ∷ 32 ∷ 4096 ∷ 256 ∷ 16384 ∷ [])
  pub largest : GivesLengths (16 ∷ 4 ∷ 0 ∷ 0 ∷ 0 ∷ 0 ∷ 64 ∷ []) (9 ∷ 8 ∷ 7 ∷ 6 ∷ []) (0 ∷ 32 ∷ 2048 ∷ 128 ∷ 4096 ∷ [])
  pub below : GivesLengths (64 ∷ 3 ∷ 0 ∷ 0 ∷ 0 ∷ 0 ∷ 16 ∷ []) (9 ∷ 8 ∷ 7 ∷ 6 ∷ []) (1 ∷ 9 ∷ 8 ∷ 7 ∷ 6 ∷ [])
  pub no_lengths : GivesLengths (512 ∷ 3 ∷ []) (9 ∷ 8 ∷ 7 ∷ 6 ∷ []) (1 ∷ 9 ∷ 8 ∷ 7 ∷ 6 ∷ [])
  pub no_level : GivesLengths (128 ∷ []) (9 ∷ 8 ∷ 7 ∷ 6 ∷ []) (1 ∷ 9 ∷ 8 ∷ 7 ∷ 6 ∷ [])
