-- One crossing list in full, in either direction: vectors of 32 bytes, four-byte elements, tile 1, slices in no order, levels from 1 on, partial predicates,
-- bytes of ZA that are not zero and differ from their neighbours, and refused calls of every answer.
-- Assumes nothing.
use Rattle.std.specs.Prelude.{ℕ, suc, ◌+◌, ◌*◌, ◌-◌, ◌%◌, ◌^◌, ◌≡◌, true, false, List, [], ◌∷◌, ◌++◌, length, set, replicate}
use Rattle.settings.specs.Settings.{settings_of, with_memory_address}
use Rattle.settings.specs.declared.Settings.{Settings}
use Rattle.tiles.specs.declared.element.ElementSize.TheVariants.{Bits32}
use Rattle.tiles.specs.declared.direction.Direction.{Direction}
use Rattle.semantics.specs.ExampleBuffers.{bytes_from, switched, settings_at, za_at, memory_of, x_with}
use Rattle.laws.specs.Calls.{Call, numbers_at}
use Rattle.laws.specs.Crossing.{Crosses}
use Rattle.laws.specs.Exhibit.{Choice, calls_in, calls_out}

abbrev pub shown_rows : List ℕ
shown_rows = 3 ∷ 0 ∷ 6 ∷ 1 ∷ 7 ∷ 4 ∷ 2 ∷ 5 ∷ []

abbrev pub shown_columns : List ℕ
shown_columns = 5 ∷ 2 ∷ 0 ∷ 7 ∷ 3 ∷ 6 ∷ 1 ∷ 4 ∷ []

abbrev pub shown_z : ℕ → List ℕ
shown_z k = bytes_from k 1024

abbrev pub shown_p : ℕ → List ℕ
shown_p k = bytes_from k 64

-- each call has registers, an offset, X, vectors, predicates and a memory that ends at 2^64 of its own, each row a level too: 1, 2 or 3. All index registers
-- have bits above the low 32. The low 32 are 2^32 - 1 in rows 0 to 2, where the sum with the offset passes 2^32, and a little less in all columns.
abbrev pub shown_row : ℕ → Choice
shown_row k =
    record {
      index = 12 + k % 4;
      offset = suc k % 4;
      predicate = 7 - k;
      register = 31 - 4 * k;
      settings = with_memory_address (switched (settings_of 32 32 (1 + k % 3)) true true) (2 ^ 64 - suc k);
      x = x_with (12 + k % 4) (3 * 2 ^ 32 + k - suc k % 4);
      z = shown_z k;
      p = shown_p k;
      memory = memory_of (suc k);
    }

abbrev pub shown_column : ℕ → Choice
shown_column k =
    record {
      index = 15 - k % 4;
      offset = (k + 2) % 4;
      predicate = 0;
      register = 7 + 3 * k;
      settings = settings_at 32 (2 ^ 64 - 8 * suc k);
      x = x_with (15 - k % 4) (2 ^ 64 - 8 + k - (k + 2) % 4);
      z = shown_z (k + 8);
      p = shown_p (k + 8);
      memory = memory_of (8 * suc k);
    }

abbrev pub refused_at : Settings → ℕ → List ℕ → Call
refused_at s w x = record { settings = s; word = w; x = x; z = shown_z 0; p = shown_p 0; memory = [] }

-- vectors of 17 bytes; too few numbers in X; a word that is no instruction; streaming off; ZA off; a stack pointer that is no
-- multiple of 16; an active store with no memory; loads in place of these two stores
abbrev pub refused_calls : List Call
refused_calls =
    refused_at (settings_at 17 0) 0xC0000000 (replicate 32 0) ∷
    refused_at (settings_at 32 0) 0xC0000000 [] ∷
    refused_at (settings_at 32 0) 0xC0000010 (replicate 32 0) ∷
    refused_at (switched (settings_of 32 32 3) false true) 0xC0000000 (replicate 32 0) ∷
    refused_at (switched (settings_of 32 32 3) true false) 0xC0000000 (replicate 32 0) ∷
    refused_at (settings_at 32 0) 0xE03F03E0 (set (replicate 32 0) 31 0x1008) ∷
    refused_at (settings_at 32 0) 0xE0220020 (replicate 32 0) ∷
    refused_at (settings_at 32 0) 0xE01F03E0 (set (replicate 32 0) 31 0x1008) ∷
    refused_at (settings_at 32 0) 0xE0C20020 (replicate 32 0) ∷ []

-- they are refused with 1 to 7 in turn, the loads with 6 and 7 too, at any ZA of the right length
abbrev pub RefusalsShown : Type 0
RefusalsShown = (za : List ℕ) → length za ≡ 1024 → numbers_at refused_calls za ≡ 1 ∷ 2 ∷ 3 ∷ 4 ∷ 5 ∷ 6 ∷ 7 ∷ 6 ∷ 7 ∷ []

-- the list, with those before, between and after its moves
abbrev pub shown_in : Direction → List Call
shown_in d = calls_in Bits32 d 1 shown_row shown_rows

abbrev pub shown_out : Direction → List Call
shown_out d = calls_out Bits32 d 1 shown_column shown_columns

abbrev pub shown_calls : Direction → List Call
shown_calls d = refused_calls ++ (shown_in d ++ (refused_calls ++ (shown_out d ++ (refused_calls ++ []))))

abbrev pub ListShown : Type 0
ListShown = (d : Direction) → Crosses 32 32 Bits32 d 1 (shown_calls d) (za_at 32)
