-- Settings as hosts lend them: a list of numbers. Renders 01 §2 for the boundary to hosts, which 01 leaves open (docs/DECISIONS.md).
-- To believe: the order of the numbers; that 0 is off and every other number on, where the sixth says whether the stack check is off; that vector length and level
-- must be given, and what else is missing is as new settings have it, which is 0 for each but the last, the largest vector length, which these are told: missing it is
-- the vector length, and a 0 that is given is no length; and that too few or too many numbers are settings which no machine has.
-- Assumes nothing.
use Rattle.std.specs.Prelude.{ℕ, Bool, cond, not, ◌&&◌, List, eqb, leb, length, get_or}
use Rattle.settings.specs.Settings.{settings_of}
use Rattle.settings.specs.declared.Settings.{Settings}

-- how many numbers must be given, and how many there are
abbrev pub fewest : ℕ
fewest = 2

abbrev pub most : ℕ
most = 7

-- a switch
abbrev pub is_off : ℕ → Bool
is_off n = eqb n 0

abbrev pub is_on : ℕ → Bool
is_on n = not (is_off n)

-- each number in its place, or what it is where it is missing; the sixth says whether the stack check is off. The largest vector length is told beside them
abbrev pub settings_with : List ℕ → ℕ → Settings
settings_with l S =
    record {
      vector_bytes = get_or l 0 0;
      level = get_or l 1 0;
      streaming = is_on (get_or l 2 0);
      za = is_on (get_or l 3 0);
      memory_address = get_or l 4 0;
      stack_check = is_off (get_or l 5 0);
      largest_vector_bytes = S;
    }

-- it is the seventh number and, where that is missing, the vector length
abbrev pub settings_at : List ℕ → Settings
settings_at l = settings_with l (get_or l 6 (get_or l 0 0))

-- the settings that no machine has: there are no vectors of 0 bytes, so every call on them is answered 1
abbrev pub no_settings : Settings
no_settings = settings_of 0 0 0

-- the settings that a host hands in
abbrev pub settings_in : List ℕ → Settings
settings_in l = cond (leb fewest (length l) && leb (length l) most) (settings_at l) no_settings
