-- A listing and the list of calls that it makes. In the crossing law each word that is run counts as a call by itself, and a listing never as one call (request 5).
-- To believe: `listing_calls`, and what `ListingCrosses` is handed.
-- Assumes nothing.
use Rattle.std.specs.Prelude.{ℕ, suc, ◌+◌, ◌*◌, ◌-◌, ◌^◌, ◌<◌, ◌≡◌, cond, List, [], ◌∷◌, ◌++◌, map, length, get_or, take, replicate, Ok, Err}
use Rattle.settings.specs.declared.Settings.{Settings}
use Rattle.tiles.specs.Predicate.{bit}
use Rattle.tiles.specs.Tile.{byte_of}
use Rattle.tiles.specs.declared.element.ElementSize.TheVariants.{Bits32}
use Rattle.tiles.specs.declared.direction.Direction.TheVariants.{Horizontal}
use Rattle.semantics.specs.declared.answer.Refusal.{Refusal}
use Rattle.semantics.specs.State.{State, state_of}
use Rattle.semantics.specs.Execute.{if_done}
use Rattle.semantics.specs.ExampleBuffers.{vector_in, settings_at, z_at, za_at, x_with, vectors}
use Rattle.listing.specs.declared.answer.ListingRefusal.TheVariants.{BadListing, Refused}
use Rattle.listing.specs.Words.{word_at, words_in}
use Rattle.listing.specs.Listing.{buffers_checked, is_whole, allowed_in, listing_of}
use Rattle.listing.specs.Examples.{told_of}
use Rattle.laws.specs.Calls.{Call, run}
use Rattle.laws.specs.Crossing.{Crosses, Crossed}
use Rattle.laws.specs.Runs.{call_at, calls_of}

-- the calls of a listing: those of its words that are run, and none where it is refused before any word
unfoldable pub listing_calls : Settings → List ℕ → ℕ → State → List Call
listing_calls s l n t = if_done (buffers_checked s t) [] (cond (is_whole l) (calls_of s (allowed_in l n) t) [])

-- what a listing does to ZA is what its calls do to it
abbrev pub ListingIsCalls : Type 0
ListingIsCalls = (s : Settings) (l : List ℕ) (n : ℕ) (t : State) → run (listing_calls s l n t) t.za ≡ (listing_of s l n t).state.za

-- There is a call for each word that is done, and one for a word that is refused. Call k is of word k, with the settings of the listing, and meets the state that a run
-- of k words leaves, ZA too. Where the listing is refused before any word, there is none.
pub record CallsAre (s : Settings) (l : List ℕ) (n : ℕ) (t : State) : Type 0 where
  pub each : (k : ℕ) → k < length (listing_calls s l n t) → get_or (listing_calls s l n t) k (call_at s 0 t) ≡ call_at s (word_at l k) (listing_of s l k t).state
  pub met : (k : ℕ) → k < length (listing_calls s l n t) → run (take k (listing_calls s l n t)) t.za ≡ (listing_of s l k t).state.za
  pub done : (listing_of s l n t).run.answer ≡ Ok tt → length (listing_calls s l n t) ≡ (listing_of s l n t).run.words
  pub stopped : (r : Refusal) → buffers_checked s t ≡ Ok tt → (listing_of s l n t).run.answer ≡ Err (Refused r) → length (listing_calls s l n t) ≡ suc (listing_of s l n t).run.words
  pub early : (r : Refusal) → buffers_checked s t ≡ Err r → listing_calls s l n t ≡ []
  pub odd : (listing_of s l n t).run.answer ≡ Err BadListing → listing_calls s l n t ≡ []

abbrev pub ListingCallsAre : Type 0
ListingCallsAre = (s : Settings) (l : List ℕ) (n : ℕ) (t : State) → CallsAre s l n t

-- ---- a listing that crosses a tile

-- C0800004, C0800025, C0800446 and C0800067: vector registers 0 to 3 to rows 0 to 3 of tile 1 of 4-byte elements, under P0, the third under P1
abbrev row_words : List ℕ
row_words = 0x04 ∷ 0 ∷ 0x80 ∷ 0xC0 ∷ 0x25 ∷ 0 ∷ 0x80 ∷ 0xC0 ∷ 0x46 ∷ 0x04 ∷ 0x80 ∷ 0xC0 ∷ 0x67 ∷ 0 ∷ 0x80 ∷ 0xC0 ∷ []

-- C0828288, C08282A9, C08282CA and C08282EB: columns 0 to 3 of the tile to vector registers 8 to 11, and zero them
abbrev column_words : List ℕ
column_words = 0x88 ∷ 0x82 ∷ 0x82 ∷ 0xC0 ∷ 0xA9 ∷ 0x82 ∷ 0x82 ∷ 0xC0 ∷ 0xCA ∷ 0x82 ∷ 0x82 ∷ 0xC0 ∷ 0xEB ∷ 0x82 ∷ 0x82 ∷ 0xC0 ∷ []

-- and C0000010, which is no word
abbrev pub crossing : List ℕ
crossing = row_words ++ column_words ++ (0x10 ∷ 0 ∷ 0 ∷ 0xC0 ∷ [])

-- W12 = 0; every bit of P is set but for P1, whose element 1 is inactive; no memory
abbrev pub crossing_start : State
crossing_start = state_of (x_with 12 0) (z_at 16) (255 ∷ 255 ∷ 0x01 ∷ 0x11 ∷ replicate 28 255) (za_at 16) []

abbrev pub crossing_calls : List Call
crossing_calls = listing_calls (settings_at 16 0) crossing (2 ^ 64 - 1) crossing_start

abbrev pub crossing_end : State
crossing_end = (listing_of (settings_at 16 0) crossing (2 ^ 64 - 1) crossing_start).state

-- bytes 0 to 3 of element j of column k, as the law says: of the vector that went to row j, where its predicate was active at k, else ZA's own
abbrev pub said_at : ℕ → ℕ → List ℕ
said_at k j =
    map
    (λ (i : ℕ).
    cond (bit crossing_start.p (get_or (0 ∷ 0 ∷ 1 ∷ 0 ∷ []) j 0 * 2) (k * 4))
    (get_or crossing_start.z (j * 16 + (k * 4 + i)) 0)
    (get_or crossing_start.za (byte_of 16 4 1 Horizontal j k i) 0))
    (0 ∷ 1 ∷ 2 ∷ 3 ∷ [])

abbrev pub said_column : ℕ → List ℕ
said_column k = said_at k 0 ++ said_at k 1 ++ said_at k 2 ++ said_at k 3

-- columns 0 to 3; bytes 8 to 11 of column 1 are ZA's own
abbrev pub crossed_columns : List (List ℕ)
crossed_columns =
    (78 ∷ 85 ∷ 92 ∷ 99 ∷ 190 ∷ 197 ∷ 204 ∷ 211 ∷ 51 ∷ 58 ∷ 65 ∷ 72 ∷ 163 ∷ 170 ∷ 177 ∷ 184 ∷ []) ∷
    (106 ∷ 113 ∷ 120 ∷ 127 ∷ 218 ∷ 225 ∷ 232 ∷ 239 ∷ 210 ∷ 217 ∷ 224 ∷ 231 ∷ 191 ∷ 198 ∷ 205 ∷ 212 ∷ []) ∷
    (134 ∷ 141 ∷ 148 ∷ 155 ∷ 246 ∷ 2 ∷ 9 ∷ 16 ∷ 107 ∷ 114 ∷ 121 ∷ 128 ∷ 219 ∷ 226 ∷ 233 ∷ 240 ∷ []) ∷
    (162 ∷ 169 ∷ 176 ∷ 183 ∷ 23 ∷ 30 ∷ 37 ∷ 44 ∷ 135 ∷ 142 ∷ 149 ∷ 156 ∷ 247 ∷ 3 ∷ 10 ∷ 17 ∷ []) ∷
    []

-- row r of the four tiles, of which tile 1 is zero
abbrev pub rows_after : ℕ → List ℕ
rows_after r = vector_in (za_at 16) 16 (4 * r) ++ replicate 16 0 ++ vector_in (za_at 16) 16 (4 * r + 2) ++ vector_in (za_at 16) 16 (4 * r + 3)

pub record ListingCrosses : Type 0 where
  -- eight words are done and the ninth is refused; it too is a call
  pub told : told_of (listing_of (settings_at 16 0) crossing (2 ^ 64 - 1) crossing_start) ≡ 3 ∷ 0 ∷ 0 ∷ 8 ∷ []
  pub words : map (λ (c : Call). c.word) crossing_calls ≡ words_in crossing
  -- it is one of the lists that the law is about, and the law says of it what it says
  pub crosses : Crosses 16 16 Bits32 Horizontal 1 crossing_calls (za_at 16)
  pub crossed : Crossed 16 16 Bits32 Horizontal 1 crossing_calls (za_at 16)
  -- which comes to these columns, and they are in the registers when the listing ends; ZA is zero in the tile and as it was elsewhere
  pub said : map said_column (0 ∷ 1 ∷ 2 ∷ 3 ∷ []) ≡ crossed_columns
  pub columns : map (vector_in crossing_end.z 16) (8 ∷ 9 ∷ 10 ∷ 11 ∷ []) ≡ crossed_columns
  pub zeroed : crossing_end.za ≡ vectors 64 4 rows_after
