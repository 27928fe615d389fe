-- Worked examples of listings, in the manner of 01 §7, at vectors of 16 bytes. Worked from request 5, 01 §5 and §6. To believe: the literal bytes and numbers.
-- Assumes nothing.
use Rattle.std.specs.Prelude.{ℕ, ◌-◌, ◌^◌, ◌≡◌, true, false, List, [], ◌∷◌, ◌++◌, map, set, drop, replicate}
use Rattle.settings.specs.Settings.{settings_of}
use Rattle.settings.specs.declared.Settings.{Settings}
use Rattle.semantics.specs.State.{State, state_of}
use Rattle.semantics.specs.ExampleBuffers.{vector_in, switched, settings_at, z_at, za_at, memory_of, state_at, x_with, ones}
use Rattle.listing.specs.Words.{words_in}
use Rattle.listing.specs.Answer.{listed_number, listing_numbers}
use Rattle.listing.specs.Listing.{ListingOutcome, listing_of}

-- C0000020: vector register 1 to row W12 of the tile of bytes, under P0
abbrev pub moves : List ℕ
moves = 0x20 ∷ 0 ∷ 0 ∷ 0xC0 ∷ []

-- E0220020: that row to memory, from the address in X1 on
abbrev pub stores : List ℕ
stores = 0x20 ∷ 0 ∷ 0x22 ∷ 0xE0 ∷ []

-- C0000010, which is no word
abbrev pub undecodes : List ℕ
undecodes = 0x10 ∷ 0 ∷ 0 ∷ 0xC0 ∷ []

-- E0020060: the row from memory, from the address in X3 on
abbrev pub loads : List ℕ
loads = 0x60 ∷ 0 ∷ 2 ∷ 0xE0 ∷ []

-- E02203E0: the row to memory, with the stack pointer as the base, which is no multiple of 16
abbrev misaligns : List ℕ
misaligns = 0xE0 ∷ 0x03 ∷ 0x22 ∷ 0xE0 ∷ []

-- W12 = 2, X1 = 1000 hex, X2 = 0, X3 = 1010 hex, every element active, 24 bytes of memory at 1000 hex: a load by X3 has its elements from 8 on outside
abbrev pub start : State
start = state_at 16 24 (set (set (set (x_with 12 2) 1 0x1000) 2 0) 3 0x1010) (ones 16)

-- ZA has not the right length
abbrev short : State
short = state_of start.x start.z start.p (drop 1 start.za) start.memory

abbrev settings : Settings
settings = settings_at 16 0x1000

-- what a host is told: number, address, element and how many words were done
abbrev pub told_of : ListingOutcome → List ℕ
told_of o = listed_number o.run.answer ∷ listing_numbers o.run

abbrev told : List ℕ → ℕ → List ℕ
told l n = told_of (listing_of settings l n start)

-- settings that are not allowed, lengths that are not right, and both
abbrev told_bad : List ℕ → ℕ → List (List ℕ)
told_bad l n =
    told_of (listing_of (settings_of 24 24 3) l n start) ∷ told_of (listing_of settings l n short) ∷ told_of (listing_of (settings_of 24 24 3) l n short) ∷ []

-- with streaming off, with ZA off
abbrev told_off : List ℕ → List (List ℕ)
told_off l = told_of (listing_of (switched settings false true) l 9 start) ∷ told_of (listing_of (switched settings true false) l 9 start) ∷ []

abbrev most : ℕ
most = 2 ^ 64 - 1

-- two words that are done, one that is refused, and one behind it
abbrev four : List ℕ
four = moves ++ stores ++ undecodes ++ moves

-- buffers after the first two: row 2 is vector register 1, and so are the first 16 bytes of memory
abbrev left : State
left =
    state_of start.x (z_at 16) (ones 16) (vector_in (za_at 16) 16 0 ++ vector_in (za_at 16) 16 1 ++ vector_in (z_at 16) 16 1 ++ drop 48 (za_at 16))
    (vector_in (z_at 16) 16 1 ++ drop 16 (memory_of 24))

pub record ListingsHold : Type 0 where
  -- four bytes to a word, the lowest first; bytes behind the last whole word are none
  pub words : words_in (moves ++ loads ++ (1 ∷ 2 ∷ 3 ∷ [])) ≡ 0xC0000020 ∷ 0xE0020060 ∷ []
  pub none : map words_in ([] ∷ (1 ∷ []) ∷ (1 ∷ 2 ∷ 3 ∷ []) ∷ []) ≡ [] ∷ [] ∷ [] ∷ []
  -- by allowance 0, 1, 2, 3, 4 and the largest: the refused word is reached with 3, and is not counted
  pub allowances :
      map (told four) (0 ∷ 1 ∷ 2 ∷ 3 ∷ 4 ∷ most ∷ []) ≡
      (0 ∷ 0 ∷ 0 ∷ 0 ∷ []) ∷ (0 ∷ 0 ∷ 0 ∷ 1 ∷ []) ∷ (0 ∷ 0 ∷ 0 ∷ 2 ∷ []) ∷ (3 ∷ 0 ∷ 0 ∷ 2 ∷ []) ∷ (3 ∷ 0 ∷ 0 ∷ 2 ∷ []) ∷ (3 ∷ 0 ∷ 0 ∷ 2 ∷ []) ∷ []
  -- what was done stays, and nothing behind the refused word is done
  pub kept : (listing_of settings four most start).state ≡ left
  pub allowed : (listing_of settings four 2 start).state ≡ left
  -- at the end
  pub ended : map (told (moves ++ stores)) (2 ∷ 3 ∷ most ∷ []) ≡ replicate 3 (0 ∷ 0 ∷ 0 ∷ 2 ∷ [])
  -- a byte outside memory: the address and the element of the word that stops
  pub outside : told (moves ++ stores ++ loads ++ moves) most ≡ 7 ∷ 0x1018 ∷ 8 ∷ 2 ∷ []
  pub misaligned : told (moves ++ misaligns ++ moves) most ≡ 6 ∷ 0 ∷ 0 ∷ 1 ∷ []
  -- one to three bytes too many, whatever the allowance, and before any word
  pub odd : map (λ (l : List ℕ). map (told l) (0 ∷ 1 ∷ most ∷ [])) ((7 ∷ []) ∷ (undecodes ++ (1 ∷ 2 ∷ [])) ∷ (moves ++ (1 ∷ 2 ∷ 3 ∷ [])) ∷ []) ≡ replicate 3 (replicate 3 (9 ∷ 0 ∷ 0 ∷ 0 ∷ []))
  pub odd_kept : (listing_of settings (moves ++ (1 ∷ [])) most start).state ≡ start
  -- no word: settings and lengths are checked all the same, switches belong to a word
  pub empty : told [] most ≡ 0 ∷ 0 ∷ 0 ∷ 0 ∷ []
  pub empty_bad : told_bad [] most ≡ (1 ∷ 0 ∷ 0 ∷ 0 ∷ []) ∷ (2 ∷ 0 ∷ 0 ∷ 0 ∷ []) ∷ (1 ∷ 0 ∷ 0 ∷ 0 ∷ []) ∷ []
  pub zero_bad : told_bad moves 0 ≡ (1 ∷ 0 ∷ 0 ∷ 0 ∷ []) ∷ (2 ∷ 0 ∷ 0 ∷ 0 ∷ []) ∷ (1 ∷ 0 ∷ 0 ∷ 0 ∷ []) ∷ []
  pub empty_off : told_off [] ≡ replicate 2 (0 ∷ 0 ∷ 0 ∷ 0 ∷ [])
  pub off : told_off moves ≡ (4 ∷ 0 ∷ 0 ∷ 0 ∷ []) ∷ (5 ∷ 0 ∷ 0 ∷ 0 ∷ []) ∷ []
  -- 1 and 2 come before 9
  pub odd_bad : told_bad (moves ++ (1 ∷ [])) most ≡ (1 ∷ 0 ∷ 0 ∷ 0 ∷ []) ∷ (2 ∷ 0 ∷ 0 ∷ 0 ∷ []) ∷ (1 ∷ 0 ∷ 0 ∷ 0 ∷ []) ∷ []
  -- in two parts: one word, and the rest from there
  pub parts :
      let f = listing_of settings four 1 start in
      let g = listing_of settings (drop 4 four) most f.state in
      (told_of f ≡ 0 ∷ 0 ∷ 0 ∷ 1 ∷ []) × (told_of g ≡ 3 ∷ 0 ∷ 0 ∷ 1 ∷ []) × (g.state ≡ left)
