-- Execution of one word: the answer, and the state afterwards. Renders 01 §6 over 01 §2 and §5, as docs/RULES.md has them.
-- To believe: the order of the checks, when each fails, and that only answer 0 changes a buffer. The answer goes by settings,
-- word and `Public` alone.
-- Assumes nothing.
use Rattle.std.specs.Prelude.{ℕ, ◌+◌, ◌%◌, ◌^◌, Bool, true, false, ◌&&◌, not, List, eqb, leb, length, Result, ⊤, Ok, Err}
use Rattle.std.proofs.Math.Option.{Option, none, some}
use Rattle.general.specs.Least.{least, is_some}
use Rattle.settings.specs.Settings.{valid_settings, lengths_of}
use Rattle.settings.specs.declared.Settings.{Settings}
use Rattle.encoding.specs.Codec.{decode_of}
use Rattle.encoding.specs.declared.operation.SliceAccess.{SliceAccess}
use Rattle.encoding.specs.declared.operation.Operation.{Operation}
use Rattle.encoding.specs.declared.operation.Operation.TheVariants.{MovaToTile, MovazFromTile, MovaFromArray, MovazFromArray, St1, MovaFromTile, Ld1}
use Rattle.semantics.specs.declared.answer.Fault.{Fault}
use Rattle.semantics.specs.declared.answer.Refusal.{Refusal}
use Rattle.semantics.specs.declared.answer.Refusal.TheVariants.{BadSettings, BadLengths, Undecodable, StreamingOff, ZaOff, StackMisaligned, OutsideMemory}
use Rattle.semantics.specs.State.{State, Public, public_of}
use Rattle.semantics.specs.Access.{base_of, address_of, element_of, in_memory}
use Rattle.semantics.specs.Effect.{active_under, effect_of}
use Rattle.encoding.specs.declared.operation.DecodeRefusal.{DecodeRefusal}

-- ---- the answer

-- the rest where a check holds, else the refusal
abbrev pub guard : Bool → Refusal → Result ⊤ Refusal → Result ⊤ Refusal
guard true refusal rest = rest
guard false refusal rest = Err refusal

-- the lengths that settings fix, and memory ends at 2^64 or before
abbrev pub valid_lengths : Settings → ℕ → ℕ → ℕ → ℕ → ℕ → Bool
valid_lengths s lx lz lp lza lm =
    eqb lx (lengths_of s).x && eqb lz (lengths_of s).z && eqb lp (lengths_of s).p && eqb lza (lengths_of s).za && leb (s.memory_address + lm) (2 ^ 64)

-- settings and lengths, then the rest
abbrev pub buffers_answer : Settings → ℕ → ℕ → ℕ → ℕ → ℕ → Result ⊤ Refusal → Result ⊤ Refusal
buffers_answer s lx lz lp lza lm rest = guard (valid_settings s) BadSettings (guard (valid_lengths s lx lz lp lza lm) BadLengths rest)

module _ (s : Settings) (x p : List ℕ) (lm : ℕ) where
  -- byte k of a load or store is of an active element
  abbrev pub access_active : SliceAccess → ℕ → Bool
  access_active o = active_under s p o.pg o.slice

  -- byte k is of an active element and not in memory
  abbrev pub faulting : SliceAccess → ℕ → Bool
  faulting o k = access_active o k && not (in_memory s.memory_address lm (address_of x o k))

  -- the first such byte: the least byte of the lowest element that has one
  abbrev pub fault_of : SliceAccess → Option ℕ
  fault_of o = least (faulting o) s.vector_bytes

  -- what is told of it: its address, and its element (request 6)
  abbrev pub fault_at : SliceAccess → ℕ → Fault
  fault_at o k = record { address = address_of x o k; element = element_of o k }

  abbrev pub fault_answer : SliceAccess → Option ℕ → Result ⊤ Refusal
  fault_answer o none = Ok tt
  fault_answer o (some k) = Err (OutsideMemory (fault_at o k))

  -- the stack pointer is the base, some element is active, and the stack pointer is no multiple of 16
  abbrev pub misaligned : SliceAccess → Bool
  misaligned o = eqb o.rn 31 && is_some (least (access_active o) s.vector_bytes) && not (eqb (base_of x o.rn % 16) 0)

  -- and the stack check is on (request 4)
  abbrev pub stack_bad : SliceAccess → Bool
  stack_bad o = misaligned o && s.stack_check

  unfoldable pub access_answer : SliceAccess → Result ⊤ Refusal
  access_answer o = guard (not (stack_bad o)) StackMisaligned (fault_answer o (fault_of o))

  -- only a load or store can be refused once streaming and ZA are on
  abbrev pub operation_answer : Operation → Result ⊤ Refusal
  operation_answer (MovaToTile o) = Ok tt
  operation_answer (MovazFromTile o) = Ok tt
  operation_answer (MovaFromArray o) = Ok tt
  operation_answer (MovazFromArray o) = Ok tt
  operation_answer (St1 o) = access_answer o
  operation_answer (MovaFromTile o) = Ok tt
  operation_answer (Ld1 o) = access_answer o

  -- once settings and lengths are right
  abbrev pub word_answer : Result Operation DecodeRefusal → Result ⊤ Refusal
  word_answer (Ok o) = guard s.streaming StreamingOff (guard s.za ZaOff (operation_answer o))
  word_answer (Err e) = Err Undecodable

unfoldable pub answer_of : Settings → ℕ → Public → Result ⊤ Refusal
answer_of s w u =
    buffers_answer s (length u.x) u.z_length (length u.p) u.za_length u.memory_length
    (word_answer s u.x u.p u.memory_length (decode_of w s.level))

-- ---- the state

-- what a decoded word would do; another does nothing
abbrev pub word_effect : Settings → Result Operation DecodeRefusal → State → State
word_effect s (Ok o) t = effect_of s o t
word_effect s (Err e) t = t

-- an effect only with done
abbrev pub if_done : {A : Type 0} → Result ⊤ Refusal → A → A → A
if_done (Ok _) before after = after
if_done (Err r) before after = before

pub record Outcome : Type 0 where
  pub answer : Result ⊤ Refusal
  pub state : State

unfoldable pub execute_of : Settings → ℕ → State → Outcome
execute_of s w t =
    let a = answer_of s w (public_of t) in
    record { answer = a; state = if_done a t (word_effect s (decode_of w s.level) t) }
