-- The buffers that the worked examples are executed on, and what a host sees of an execution.
-- To believe: the buffers, and that `Seen` has all that a host sees.
-- Assumes nothing.
use Rattle.std.specs.Prelude.{ℕ, zero, suc, ◌+◌, ◌*◌, ◌/◌, ◌%◌, Bool, true, false, not, cond, List, [], ◌∷◌, ◌++◌, set, take, drop, replicate}
use Rattle.settings.specs.Settings.{settings_of, with_streaming, with_za, with_memory_address, with_stack_check}
use Rattle.settings.specs.declared.Settings.{Settings}
use Rattle.semantics.specs.Answer.{executed_number, executed_fault}
use Rattle.semantics.specs.State.{State, state_of}
use Rattle.semantics.specs.Execute.{Outcome, execute_of}

-- bytes in turn from two lists, the first byte from the first list if the test holds
abbrev pub alternate : Bool → List ℕ → List ℕ → List ℕ
alternate b [] ys = []
alternate b (x ∷ xs) [] = []
alternate b (x ∷ xs) (y ∷ ys) = cond b x y ∷ alternate (not b) xs ys

-- n bytes from index i on, none of them zero, neighbours different; each buffer starts elsewhere
abbrev pub bytes_from : ℕ → ℕ → List ℕ
bytes_from i zero = []
bytes_from i (suc n) = (i * 7 % 251 + 1) ∷ bytes_from (suc i) n

abbrev pub vector_in : List ℕ → ℕ → ℕ → List ℕ
vector_in l B v = take B (drop (v * B) l)

-- settings with streaming and ZA so, and of level 3 with both on
abbrev pub switched : Settings → Bool → Bool → Settings
switched s streaming za = with_za (with_streaming s streaming) za

-- with vectors of B bytes in buffers for S, or for B
abbrev pub settings_within : ℕ → ℕ → ℕ → Settings
settings_within B S address = with_memory_address (switched (settings_of B S 3) true true) address

abbrev pub settings_at : ℕ → ℕ → Settings
settings_at B address = settings_within B B address

abbrev pub z_at : ℕ → List ℕ
z_at B = bytes_from 11 (32 * B)

abbrev pub za_at : ℕ → List ℕ
za_at B = bytes_from 97 (B * B)

abbrev pub memory_of : ℕ → List ℕ
memory_of n = bytes_from 200 n

abbrev pub state_at : ℕ → ℕ → List ℕ → List ℕ → State
state_at B n x p = state_of x (z_at B) p (za_at B) (memory_of n)

-- X with one register set
abbrev pub x_with : ℕ → ℕ → List ℕ
x_with r v = set (bytes_from 50 32) r v

-- P with every bit set, and with register 0 given, all others set
abbrev pub ones : ℕ → List ℕ
ones B = replicate (16 * (B / 8)) 255

abbrev pub predicate0 : ℕ → List ℕ → List ℕ
predicate0 B r = r ++ replicate (15 * (B / 8)) 255

-- what a host sees of an execution: the number, the address and the element of its answer, and the buffers that a word may write
pub record Seen : Type 0 where
  pub number : ℕ
  pub address : ℕ
  pub element : ℕ
  pub z : List ℕ
  pub za : List ℕ
  pub memory : List ℕ

abbrev pub seen : Outcome → Seen
seen o =
    let f = executed_fault o.answer in
    record { number = executed_number o.answer; address = f.address; element = f.element; z = o.state.z; za = o.state.za; memory = o.state.memory }

-- a word executed at a vector length, with memory of n bytes at an address; the same with the stack check off; at address 0
abbrev pub executed_in : ℕ → ℕ → ℕ → ℕ → List ℕ → List ℕ → Seen
executed_in B address n w x p = seen (execute_of (settings_at B address) w (state_at B n x p))

abbrev pub executed_unchecked : ℕ → ℕ → ℕ → ℕ → List ℕ → List ℕ → Seen
executed_unchecked B address n w x p = seen (execute_of (with_stack_check (settings_at B address) false) w (state_at B n x p))

abbrev pub executed : ℕ → ℕ → ℕ → List ℕ → List ℕ → Seen
executed B w n x p = executed_in B 0 n w x p

-- at 16 bytes under a level, with streaming and ZA so, and with both on
abbrev pub executed_under : ℕ → Bool → Bool → ℕ → Seen
executed_under level streaming za w =
    seen (execute_of (switched (settings_of 16 16 level) streaming za) w (state_at 16 8 (bytes_from 50 32) (ones 16)))

abbrev pub executed_at : ℕ → ℕ → Seen
executed_at level w = executed_under level true true w

-- a buffer of n vectors of B bytes, given by vector
abbrev pub vectors : ℕ → ℕ → (ℕ → List ℕ) → List ℕ
vectors B zero f = []
vectors B (suc n) f = vectors B n f ++ f n

-- 0, with these Z, ZA and memory; refused by a number that carries nothing, and by 7 with an address and an element, nothing changed
abbrev pub done_with : List ℕ → List ℕ → List ℕ → Seen
done_with z za memory = record { number = 0; address = 0; element = 0; z = z; za = za; memory = memory }

abbrev pub refused_with : ℕ → ℕ → ℕ → Seen
refused_with B n number = record { number = number; address = 0; element = 0; z = z_at B; za = za_at B; memory = memory_of n }

abbrev pub outside_with : ℕ → ℕ → ℕ → ℕ → Seen
outside_with B n address element = record { number = 7; address = address; element = element; z = z_at B; za = za_at B; memory = memory_of n }
