-- Settings, lengths and answers by literal values, computed from the definitions. Worked from 01 §2 and §6. To believe: the literal numbers and records.
-- Assumes nothing.
use Rattle.std.specs.Prelude.{ℕ, zero, suc, ◌≡◌, Bool, true, false, cond, List, [], ◌∷◌, ◌++◌, map, replicate, Result, Ok, Err, ⊤}
use Rattle.settings.specs.Answer.{answer_with, nth_value, done, bad_settings, bad_lengths, undecodable, streaming_off, za_off, stack_misaligned, outside_memory, out_of_range, bad_listing, no_free_tile, bad_held, checked_number}
use Rattle.settings.specs.Settings.{min_vector_bytes, max_vector_bytes, max_level, is_vector_length, valid_vectors, valid_settings, check_of, check_number, settings_of, make_of, with_streaming, with_za, with_memory_address, with_stack_check, stride_of, lengths_of, length_numbers, Measures}
use Rattle.settings.specs.Lent.{settings_in}
use Rattle.settings.specs.Results.{filled}
use Rattle.settings.specs.declared.Settings.{Settings}
use Rattle.settings.specs.declared.answer.BadSettings.{BadSettings}
use Rattle.settings.specs.declared.answer.RefusedSettings.{RefusedSettings}

-- vector length, level, streaming, ZA, memory address, stack check, largest vector length
abbrev pub having : ℕ → ℕ → Bool → Bool → ℕ → Bool → ℕ → Settings
having B l streaming za address check S =
    record { vector_bytes = B; level = l; streaming = streaming; za = za; memory_address = address; stack_check = check; largest_vector_bytes = S }

-- the numbers below n that are vector lengths
abbrev pub lengths_below : ℕ → List ℕ
lengths_below zero = []
lengths_below (suc n) = lengths_below n ++ cond (is_vector_length n) (n ∷ []) []

abbrev pub made : ℕ → ℕ → ℕ → Result Settings RefusedSettings
made B S l = Ok (having B l false false 0 true S)

abbrev pub not_made : Result Settings RefusedSettings
not_made = Err (record { settings = having 16 0 false false 0 true 16 })

-- the two answers of a check
abbrev pub allowed : Result ⊤ BadSettings
allowed = Ok tt

abbrev pub bad : Result ⊤ BadSettings
bad = Err (record {})

-- the lengths of buffers for vectors of S bytes, whatever the vector length
abbrev pub lengths_at : ℕ → List ℕ
lengths_at S = length_numbers (lengths_of (settings_of 16 S 0))

-- asked for the lengths with vectors of B bytes in buffers for S, with this list: the answer's number, the list afterwards
abbrev pub Measured : ℕ → ℕ → List ℕ → List ℕ → Type 0
Measured B S ls l = (r : Result ⊤ BadSettings) (ls' : List ℕ) → Measures (settings_of B S 9) ls r ls' → checked_number r ∷ ls' ≡ l

-- for which of the lengths buffers can be that hold vectors of B bytes
abbrev pub holding : ℕ → List Bool
holding B = map (λ S. valid_vectors (settings_of B S 0)) (16 ∷ 32 ∷ 64 ∷ 128 ∷ 256 ∷ [])

pub record SettingsExamplesHold : Type 0 where
  pub limits : min_vector_bytes ∷ max_vector_bytes ∷ max_level ∷ [] ≡ 16 ∷ 256 ∷ 3 ∷ []
  -- of the numbers up to 1,024
  pub five : lengths_below 1025 ≡ 16 ∷ 32 ∷ 64 ∷ 128 ∷ 256 ∷ []
  -- no number is cut off
  pub wide : map is_vector_length (0x1_0000_0010 ∷ 0x1_0000_0000_0000_0100 ∷ []) ≡ false ∷ false ∷ []
  -- of the twenty-five pairs fifteen are allowed
  pub pairs :
      map holding (16 ∷ 32 ∷ 64 ∷ 128 ∷ 256 ∷ []) ≡
      (true ∷ true ∷ true ∷ true ∷ true ∷ []) ∷
      (false ∷ true ∷ true ∷ true ∷ true ∷ []) ∷
      (false ∷ false ∷ true ∷ true ∷ true ∷ []) ∷
      (false ∷ false ∷ false ∷ true ∷ true ∷ []) ∷
      (false ∷ false ∷ false ∷ false ∷ true ∷ []) ∷ []
  -- a largest length that is none: 0, one below the vector length, one between two lengths, one above all, and none is cut off
  pub largest : map (λ S. valid_vectors (settings_of 32 S 0)) (0 ∷ 16 ∷ 31 ∷ 33 ∷ 48 ∷ 255 ∷ 257 ∷ 512 ∷ 0x1_0000_0040 ∷ 0x1_0000_0000_0000_0040 ∷ []) ≡ replicate 10 false
  -- the level alone, the vector length alone, both; switches, the stack check's too, and address do not count
  pub levels : map (λ l. valid_settings (having 32 l true false 9 true 64)) (0 ∷ 1 ∷ 2 ∷ 3 ∷ 4 ∷ 5 ∷ 255 ∷ 256 ∷ 0x1_0000_0003 ∷ 0xFFFF_FFFF_FFFF_FFFF ∷ []) ≡ replicate 4 true ++ replicate 6 false
  pub valid : map valid_settings (having 16 0 false false 0 true 16 ∷ having 16 3 true true 0xFFFF_FFFF_FFFF_FFFF false 256 ∷ having 24 3 true true 0 true 256 ∷ having 24 4 true true 0 false 24 ∷ having 32 3 true true 0 true 16 ∷ having 32 3 true true 0 true 0 ∷ []) ≡ true ∷ true ∷ false ∷ false ∷ false ∷ false ∷ []
  pub checked : map check_of (having 128 3 false true 5 false 128 ∷ having 128 4 false true 5 true 128 ∷ having 129 3 false true 5 true 256 ∷ having 128 3 false true 5 true 129 ∷ having 128 3 false true 5 true 64 ∷ []) ≡ allowed ∷ bad ∷ bad ∷ bad ∷ bad ∷ []
  pub checked_numbers : map check_number (having 128 3 false true 5 true 256 ∷ having 128 4 false true 5 true 256 ∷ having 129 3 false true 5 true 256 ∷ having 128 3 false true 5 true 0 ∷ []) ≡ 0 ∷ 1 ∷ 1 ∷ 1 ∷ []
  -- made: every vector length, every largest one, every level
  pub lengths_made : map (λ B. make_of B B 2) (16 ∷ 32 ∷ 64 ∷ 128 ∷ 256 ∷ []) ≡ made 16 16 2 ∷ made 32 32 2 ∷ made 64 64 2 ∷ made 128 128 2 ∷ made 256 256 2 ∷ []
  pub largest_made : map (λ S. make_of 16 S 2) (16 ∷ 32 ∷ 64 ∷ 128 ∷ 256 ∷ []) ≡ made 16 16 2 ∷ made 16 32 2 ∷ made 16 64 2 ∷ made 16 128 2 ∷ made 16 256 2 ∷ []
  pub levels_made : map (make_of 64 128) (0 ∷ 1 ∷ 2 ∷ 3 ∷ []) ≡ made 64 128 0 ∷ made 64 128 1 ∷ made 64 128 2 ∷ made 64 128 3 ∷ []
  -- refused by the vector length, by the largest one, by the level, by all
  pub not_lengths : map (λ B. make_of B 256 3) (0 ∷ 1 ∷ 8 ∷ 15 ∷ 17 ∷ 31 ∷ 48 ∷ 255 ∷ 257 ∷ 512 ∷ 1024 ∷ []) ≡ replicate 11 not_made
  pub not_largest : map (λ S. make_of 64 S 3) (0 ∷ 16 ∷ 32 ∷ 63 ∷ 65 ∷ 96 ∷ 255 ∷ 257 ∷ 512 ∷ []) ≡ replicate 9 not_made
  pub not_levels : map (make_of 64 64) (4 ∷ 5 ∷ 255 ∷ 256 ∷ []) ≡ replicate 4 not_made
  pub neither : make_of 65 66 4 ≡ not_made
  -- one item replaced, on and off, where every item is another than new settings have
  pub streaming_cleared : with_streaming (having 37 9 true true 4097 false 41) false ≡ having 37 9 false true 4097 false 41
  pub streaming_set : with_streaming (having 37 9 false false 4097 false 41) true ≡ having 37 9 true false 4097 false 41
  pub za_cleared : with_za (having 37 9 true true 4097 false 41) false ≡ having 37 9 true false 4097 false 41
  pub za_set : with_za (having 37 9 false false 4097 false 41) true ≡ having 37 9 false true 4097 false 41
  pub address : with_memory_address (having 37 9 true false 4097 false 41) 8190 ≡ having 37 9 true false 8190 false 41
  pub address_back : with_memory_address (having 37 9 false true 4097 false 41) 0 ≡ having 37 9 false true 0 false 41
  pub check_cleared : with_stack_check (having 37 9 true true 4097 true 41) false ≡ having 37 9 true true 4097 false 41
  pub check_set : with_stack_check (having 37 9 false false 4097 false 41) true ≡ having 37 9 false false 4097 true 41
  -- given as numbers: all, any but 0 being on, or off for the stack check; missing ones; too few and too many
  pub given : map settings_in ((37 ∷ 9 ∷ 0 ∷ 1 ∷ 4097 ∷ 0 ∷ 41 ∷ []) ∷ (37 ∷ 9 ∷ 0x1_0000_0000 ∷ 0 ∷ 0x1_0000_0001 ∷ 0x1_0000_0000 ∷ 0 ∷ []) ∷ []) ≡ having 37 9 false true 4097 true 41 ∷ having 37 9 true false 0x1_0000_0001 false 0 ∷ []
  -- the stack check is on where it is missing, and the largest vector length is the vector length
  pub missing : map settings_in ((64 ∷ 3 ∷ []) ∷ (64 ∷ 3 ∷ 1 ∷ []) ∷ (64 ∷ 3 ∷ 1 ∷ 1 ∷ []) ∷ (64 ∷ 3 ∷ 1 ∷ 1 ∷ 5 ∷ []) ∷ (64 ∷ 3 ∷ 1 ∷ 1 ∷ 5 ∷ 7 ∷ []) ∷ []) ≡
      having 64 3 false false 0 true 64 ∷ having 64 3 true false 0 true 64 ∷ having 64 3 true true 0 true 64 ∷ having 64 3 true true 5 true 64 ∷ having 64 3 true true 5 false 64 ∷ []
  -- but a 0 that is given is no length
  pub not_given : map (λ l. check_number (settings_in l)) ([] ∷ (64 ∷ []) ∷ (64 ∷ 3 ∷ []) ∷ (64 ∷ 3 ∷ 1 ∷ 1 ∷ 0 ∷ 0 ∷ []) ∷ (64 ∷ 3 ∷ 1 ∷ 1 ∷ 0 ∷ 0 ∷ 128 ∷ []) ∷ (64 ∷ 3 ∷ 1 ∷ 1 ∷ 0 ∷ 0 ∷ 0 ∷ []) ∷ (64 ∷ 3 ∷ 1 ∷ 1 ∷ 0 ∷ 0 ∷ 32 ∷ []) ∷ (64 ∷ 3 ∷ 1 ∷ 1 ∷ 0 ∷ 0 ∷ 64 ∷ 0 ∷ []) ∷ []) ≡ 1 ∷ 1 ∷ 0 ∷ 0 ∷ 0 ∷ 1 ∷ 1 ∷ 1 ∷ []
  -- X in numbers, Z, P and ZA in bytes, at each largest vector length
  pub measures : map lengths_at (16 ∷ 32 ∷ 64 ∷ 128 ∷ 256 ∷ []) ≡
      (32 ∷ 512 ∷ 32 ∷ 256 ∷ []) ∷ (32 ∷ 1024 ∷ 64 ∷ 1024 ∷ []) ∷ (32 ∷ 2048 ∷ 128 ∷ 4096 ∷ []) ∷ (32 ∷ 4096 ∷ 256 ∷ 16384 ∷ []) ∷ (32 ∷ 8192 ∷ 512 ∷ 65536 ∷ []) ∷ []
  pub as_record : lengths_of (having 16 3 true true 9 false 64) ≡ record { x = 32; z = 2048; p = 128; za = 4096 }
  pub stride : map stride_of (having 16 0 false false 0 true 16 ∷ having 16 3 true true 9 true 256 ∷ []) ≡ 16 ∷ 256 ∷ []
  -- the level does not count
  pub measured : Measured 32 64 (9 ∷ 8 ∷ 7 ∷ 6 ∷ []) (0 ∷ 32 ∷ 2048 ∷ 128 ∷ 4096 ∷ [])
  pub unmeasured : Measured 65 128 (9 ∷ 8 ∷ 7 ∷ 6 ∷ []) (1 ∷ 9 ∷ 8 ∷ 7 ∷ 6 ∷ [])
  pub unlaid : Measured 64 32 (9 ∷ 8 ∷ 7 ∷ 6 ∷ []) (1 ∷ 9 ∷ 8 ∷ 7 ∷ 6 ∷ [])
  -- the answers' numbers, and what an answer carries
  pub answers : done ∷ bad_settings ∷ bad_lengths ∷ undecodable ∷ streaming_off ∷ za_off ∷ stack_misaligned ∷ outside_memory ∷ out_of_range ∷ bad_listing ∷ no_free_tile ∷ bad_held ∷ [] ≡ 0 ∷ 1 ∷ 2 ∷ 3 ∷ 4 ∷ 5 ∷ 6 ∷ 7 ∷ 8 ∷ 9 ∷ 13 ∷ 16 ∷ []
  pub numbers : map checked_number (allowed ∷ bad ∷ []) ≡ 0 ∷ 1 ∷ []
  pub values : map (nth_value (answer_with 7 (5 ∷ 6 ∷ []))) (0 ∷ 1 ∷ 2 ∷ []) ≡ 5 ∷ 6 ∷ 0 ∷ []
  pub none : nth_value (answer_with 0 []) 0 ≡ 0
  -- two results in an array without a place, with one, with two, with more
  pub results : map (filled (7 ∷ 5 ∷ [])) ([] ∷ (9 ∷ []) ∷ (9 ∷ 8 ∷ []) ∷ (9 ∷ 8 ∷ 6 ∷ []) ∷ []) ≡ [] ∷ (7 ∷ []) ∷ (7 ∷ 5 ∷ []) ∷ (7 ∷ 5 ∷ 6 ∷ []) ∷ []
