-- When each answer is given: each row of the table of 01 §6, as docs/RULES.md has it, is a proposition of its own in the table's words, and an answer
-- is given exactly if its own holds and none before it does. specs/Execute.antt has a chain of tests, specs/Lines.antt a list of them.
-- To believe: that these are the table's rows. Of the definitions of execution it uses `execute_of`, its number, address and element, and, for a word that decodes, `decode_of`; what an
-- active element and an address are is said in specs/Operations.antt.
-- Assumes nothing.
use Rattle.std.specs.Prelude.{ℕ, zero, suc, ◌+◌, ◌*◌, ◌/◌, ◌%◌, ◌^◌, ◌<◌, ◌≤◌, ◌≡◌, true, false, List, [], ◌∷◌, ◌⊎◌, length, get_or, Ok}
use Rattle.general.specs.Determined.{IsOneOf}
use Rattle.settings.specs.declared.Settings.{Settings}
use Rattle.tiles.specs.Element.{bytes_of}
use Rattle.encoding.specs.Codec.{decode_of}
use Rattle.encoding.specs.declared.operation.SliceAccess.{SliceAccess}
use Rattle.encoding.specs.declared.operation.Operation.{Operation}
use Rattle.encoding.specs.declared.operation.Operation.TheVariants.{St1, Ld1}
use Rattle.semantics.specs.Answer.{executed_number, executed_fault}
use Rattle.semantics.specs.State.{State}
use Rattle.semantics.specs.Execute.{execute_of}
use Rattle.semantics.specs.Operations.{elements_in, Active, address_in}

-- the proposition at a place of a list, and where there is none one that does not hold
abbrev pub ReasonAt : List {1} (Type 0) → ℕ → Type 0
ReasonAt [] n = ⊥
ReasonAt (P ∷ Ps) zero = P
ReasonAt (P ∷ Ps) (suc n) = ReasonAt Ps n

-- a number is none of the five lengths
abbrev pub NotLength : ℕ → Type 0
NotLength n = IsOneOf (16 ∷ 32 ∷ 64 ∷ 128 ∷ 256 ∷ []) n → ⊥

module _ (s : Settings) (w : ℕ) (t : State) where
  -- the word is a load or store
  abbrev pub IsAccess : SliceAccess → Type 0
  IsAccess o = (decode_of w s.level ≡ Ok (St1 o)) ⊎ (decode_of w s.level ≡ Ok (Ld1 o))

  -- an address is not in memory: it is before memory's first byte or after its last
  abbrev pub NotInMemory : ℕ → Type 0
  NotInMemory a = (a < s.memory_address) ⊎ (s.memory_address + length t.memory ≤ a)

  -- 1: B not one of the five; the largest length not one of the five, or below B (request 12); or level above 3
  abbrev pub SettingsBad : Type 0
  SettingsBad = NotLength s.vector_bytes ⊎ (NotLength s.largest_vector_bytes ⊎ ((s.largest_vector_bytes < s.vector_bytes) ⊎ (3 < s.level)))

  -- 2: X, Z, P or ZA not of the length that the largest vector length fixes (request 12), or memory address + memory length above 2^64
  abbrev pub LengthsBad : Type 0
  LengthsBad =
      (length t.x ≡ 32 → ⊥) ⊎ ((length t.z ≡ 32 * s.largest_vector_bytes → ⊥) ⊎ ((length t.p ≡ 16 * (s.largest_vector_bytes / 8) → ⊥) ⊎
      ((length t.za ≡ s.largest_vector_bytes * s.largest_vector_bytes → ⊥) ⊎ (2 ^ 64 < s.memory_address + length t.memory))))

  -- 3: the word does not decode at this level
  abbrev pub DoesNotDecode : Type 0
  DoesNotDecode = (o : Operation) → decode_of w s.level ≡ Ok o → ⊥

  -- 6: the stack check on (request 4), a load or store with Rn = 31, at least one active element, stack pointer not a multiple of 16
  pub record StackBad : Type 0 where
    pub access : SliceAccess
    pub is : IsAccess access
    pub base : access.rn ≡ 31
    pub element : ℕ
    pub below : element < elements_in s access.slice
    pub active : Active s t access.slice access.pg element
    pub misaligned : get_or t.x 31 0 % 16 ≡ 0 → ⊥
    pub checked : s.stack_check ≡ true

  -- 7: a load or store with an active element of which a byte is not in memory
  pub record ByteOutside : Type 0 where
    pub access : SliceAccess
    pub is : IsAccess access
    pub element : ℕ
    pub byte : ℕ
    pub below : element < elements_in s access.slice
    pub within : byte < bytes_of access.slice.size
    pub active : Active s t access.slice access.pg element
    pub outside : NotInMemory (address_in t.x access element byte)

  -- in their order: the reason for answer n + 1 stands at place n
  abbrev pub reasons : List {1} (Type 0)
  reasons = SettingsBad ∷ LengthsBad ∷ DoesNotDecode ∷ (s.streaming ≡ false) ∷ (s.za ≡ false) ∷ StackBad ∷ ByteOutside ∷ []

  abbrev pub given : ℕ
  given = executed_number (execute_of s w t).answer

  -- n + 1 is given exactly if the reason at place n holds and none before it does; 0 exactly if none of the seven does
  pub record GivenExactly : Type 0 where
    pub reason : (n : ℕ) → n < 7 → given ≡ n + 1 → ReasonAt reasons n × ((k : ℕ) → k < n → ReasonAt reasons k → ⊥)
    pub number : (n : ℕ) → n < 7 → ReasonAt reasons n → ((k : ℕ) → k < n → ReasonAt reasons k → ⊥) → given ≡ n + 1
    pub done : given ≡ 0 → (n : ℕ) → ReasonAt reasons n → ⊥
    pub none : ((n : ℕ) → ReasonAt reasons n → ⊥) → given ≡ 0

  -- what 7 carries: the lowest-numbered active element with a byte outside memory (request 6), and the address of its first such byte (least i)
  pub record FirstOutside : Type 0 where
    pub first : ByteOutside
    pub told_element : (executed_fault (execute_of s w t).answer).element ≡ first.element
    pub told_address : (executed_fault (execute_of s w t).answer).address ≡ address_in t.x first.access first.element first.byte
    pub no_lower_element : (e i : ℕ) → e < first.element → i < bytes_of first.access.slice.size → Active s t first.access.slice first.access.pg e → NotInMemory (address_in t.x first.access e i) → ⊥
    pub no_earlier_byte : (i : ℕ) → i < first.byte → NotInMemory (address_in t.x first.access first.element i) → ⊥

  -- and every other answer carries address 0 and element 0
  pub record FaultTold : Type 0 where
    pub seven : given ≡ 7 → FirstOutside
    pub zero : (given ≡ 7 → ⊥) → ((executed_fault (execute_of s w t).answer).address ≡ 0) × ((executed_fault (execute_of s w t).answer).element ≡ 0)

  -- a refusal changes no buffer
  abbrev pub RefusalKeeps : Type 0
  RefusalKeeps = (given ≡ 0 → ⊥) → (execute_of s w t).state ≡ t

abbrev pub AnswersExactly : Type 0
AnswersExactly = (s : Settings) (w : ℕ) (t : State) → GivenExactly s w t × FaultTold s w t × RefusalKeeps s w t
