-- What the switch of the stack check changes (specs/Claims.antt, `StackCheckSwitched`).
-- Assumes nothing.
use Rattle.std.specs.Prelude.{Result, ⊤, Err, Ok}
use Prim.Native.Nat.{ℕ}
use mathlib.Core.Path.{◌≡◌, refl}
use mathlib.Core.Bool.{Bool, true, false, ◌&&◌, not}
use mathlib.Core.List.{[], ◌∷◌}
use mathlib.Core.Option.{Option, none, some}
use mathlib.Core.Logic.{inl, inr}
use lib.ListN.{length}
use Rattle.general.specs.Determined.{IsOneOf}
use Rattle.settings.specs.Settings.{valid_settings, with_stack_check}
use Rattle.settings.specs.declared.Settings.{Settings}
use Rattle.encoding.specs.Codec.{decode_of}
use Rattle.encoding.specs.declared.operation.SliceAccess.{SliceAccess}
use Rattle.encoding.specs.declared.operation.Operation.{Operation}
use Rattle.encoding.specs.declared.operation.Operation.TheVariants.{MovaToTile, MovazFromTile, MovaFromArray, MovazFromArray, St1, MovaFromTile, Ld1}
use Rattle.semantics.specs.declared.answer.Refusal.{Refusal}
use Rattle.semantics.specs.declared.answer.Refusal.TheVariants.{BadSettings, BadLengths, StreamingOff, ZaOff, StackMisaligned}
use Rattle.semantics.specs.Answer.{executed_number}
use Rattle.semantics.specs.State.{State}
use Rattle.semantics.specs.Effect.{writes_of, values_of, effect_of}
use Rattle.semantics.specs.Execute.{guard, valid_lengths, fault_answer, fault_of, misaligned, access_answer, operation_answer, word_answer, answer_of, word_effect, if_done, execute_of}
use Rattle.encoding.specs.declared.operation.DecodeRefusal.{DecodeRefusal}
use Rattle.encoding.specs.declared.operation.DecodeRefusal.TheVariants.{BadLevel, Undecodable}

-- two answers, with the check off and with it on: they are the same; or with it on the answer is 6, and with it off 0 or 7
pub data Switched (off on : Result ⊤ Refusal) : Type 0 where
  alike : off ≡ on → Switched off on
  apart : on ≡ Err StackMisaligned → IsOneOf (0 ∷ 7 ∷ []) (executed_number off) → Switched off on

-- an earlier check does not go by the switch
guarded : (b : Bool) (r : Refusal) (off on : Result ⊤ Refusal) → Switched off on → Switched (guard b r off) (guard b r on)
guarded true r off on h = h
guarded false r off on h = alike refl

module _ (s : Settings) (w : ℕ) (t : State) where
  abbrev off : Settings
  off = with_stack_check s false

  abbrev on : Settings
  on = with_stack_check s true

  -- whatever the rest of the check says
  checked : (b : Bool) (rest : Result ⊤ Refusal) → IsOneOf (0 ∷ 7 ∷ []) (executed_number rest) → Switched (guard (not (b && false)) StackMisaligned rest) (guard (not (b && true)) StackMisaligned rest)
  checked true rest h = apart refl h
  checked false rest h = alike refl

  fault_number : (o : SliceAccess) (f : Option ℕ) → IsOneOf (0 ∷ 7 ∷ []) (executed_number (fault_answer s t.x t.p (length t.memory) o f))
  fault_number o none = inl refl
  fault_number o (some k) = inr (inl refl)

  access_switched : (o : SliceAccess) → Switched (access_answer off t.x t.p (length t.memory) o) (access_answer on t.x t.p (length t.memory) o)
  unfolding access_answer
  access_switched o =
      let fault = fault_of s t.x t.p (length t.memory) o in
      checked (misaligned s t.x t.p (length t.memory) o) (fault_answer s t.x t.p (length t.memory) o fault) (fault_number o fault)

  word_switched : (d : Result Operation DecodeRefusal) → Switched (word_answer off t.x t.p (length t.memory) d) (word_answer on t.x t.p (length t.memory) d)
  word_switched (Ok o) = guarded s.streaming StreamingOff _ _ (guarded s.za ZaOff _ _ (go o))
    where
      go : (o : Operation) → Switched (operation_answer off t.x t.p (length t.memory) o) (operation_answer on t.x t.p (length t.memory) o)
      go (MovaToTile q) = alike refl
      go (MovazFromTile q) = alike refl
      go (MovaFromArray q) = alike refl
      go (MovazFromArray q) = alike refl
      go (St1 q) = access_switched q
      go (MovaFromTile q) = alike refl
      go (Ld1 q) = access_switched q
  word_switched (Err BadLevel) = alike refl
  word_switched (Err Undecodable) = alike refl

  pub answer_switched : Switched (execute_of off w t).answer (execute_of on w t).answer
  unfolding execute_of answer_of
  answer_switched = guarded (valid_settings s) BadSettings _ _ (guarded (valid_lengths s (length t.x) (length t.z) (length t.p) (length t.za) (length t.memory)) BadLengths _ _ (word_switched (decode_of w s.level)))

  -- what a word does does not go by the switch
  effect_same : (o : Operation) → effect_of off o t ≡ effect_of on o t
  unfolding effect_of writes_of values_of
  effect_same (MovaToTile q) = refl
  effect_same (MovazFromTile q) = refl
  effect_same (MovaFromArray q) = refl
  effect_same (MovazFromArray q) = refl
  effect_same (St1 q) = refl
  effect_same (MovaFromTile q) = refl
  effect_same (Ld1 q) = refl

  word_effect_same : (d : Result Operation DecodeRefusal) → word_effect off d t ≡ word_effect on d t
  word_effect_same (Ok o) = effect_same o
  word_effect_same (Err BadLevel) = refl
  word_effect_same (Err Undecodable) = refl

  pub outcome_same : (execute_of off w t).answer ≡ (execute_of on w t).answer → execute_of off w t ≡ execute_of on w t
  unfolding execute_of
  outcome_same e i = record { answer = e i; state = if_done (e i) t (word_effect_same (decode_of w s.level) i) }
