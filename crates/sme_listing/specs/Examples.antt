-- The promise for listings at literal inputs, about all results that it allows. Worked from request 5, 01 §5 and §6. To believe: the literal numbers.
-- Assumes nothing.
use Rattle.std.specs.Prelude.{ℕ, ◌≡◌, List, [], ◌∷◌, ◌++◌}
use Rattle.settings.specs.Lent.{settings_in}
use Rattle.semantics.specs.State.{State}
use Rattle.listing.specs.Examples.{moves, stores, loads, start}
use Rattle.sme_listing.specs.Export.{ListingExports}

-- asked to run a listing with these settings and results: the number, the results afterwards
abbrev pub GivesResults : List ℕ → List ℕ → ℕ → List ℕ → List ℕ → Type 0
GivesResults given l n rs res = (r : ℕ) (rs' : List ℕ) (t' : State) → ListingExports (settings_in given) l n start rs r rs' t' → r ∷ rs' ≡ res

-- B 16, a level, streaming and ZA on, memory from 1000 hex on
abbrev pub given : ℕ → List ℕ
given level = 16 ∷ level ∷ 1 ∷ 1 ∷ 0x1000 ∷ []

-- two words that are done, and a load that has its elements from 8 on outside memory
abbrev pub faults : List ℕ
faults = moves ++ stores ++ loads

pub record ListingExportsHold : Type 0 where
  -- the address, then the element, then how many words were done, as far as there are places
  pub no_place : GivesResults (given 1) faults 9 [] (7 ∷ [])
  pub one_place : GivesResults (given 1) faults 9 (99 ∷ []) (7 ∷ 0x1018 ∷ [])
  pub two_places : GivesResults (given 1) faults 9 (99 ∷ 98 ∷ []) (7 ∷ 0x1018 ∷ 8 ∷ [])
  pub places : GivesResults (given 1) faults 9 (99 ∷ 98 ∷ 97 ∷ 96 ∷ []) (7 ∷ 0x1018 ∷ 8 ∷ 2 ∷ 96 ∷ [])
  -- at the allowance, with a length that is not right, with a level that is none: nothing of an earlier call stays in a place
  pub allowed : GivesResults (given 1) faults 2 (99 ∷ 98 ∷ 97 ∷ 96 ∷ []) (0 ∷ 0 ∷ 0 ∷ 2 ∷ 96 ∷ [])
  pub odd : GivesResults (given 1) (faults ++ (7 ∷ [])) 9 (99 ∷ 98 ∷ 97 ∷ 96 ∷ []) (9 ∷ 0 ∷ 0 ∷ 0 ∷ 96 ∷ [])
  pub no_level : GivesResults (given 4) faults 9 (99 ∷ 98 ∷ 97 ∷ 96 ∷ []) (1 ∷ 0 ∷ 0 ∷ 0 ∷ 96 ∷ [])
