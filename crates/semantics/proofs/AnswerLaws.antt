-- Laws of specs/Answer.antt: which numbers an answer can have, and which results are zeros.
-- Assumes nothing.
use Rattle.std.specs.Prelude.{Result, ⊤, Ok, Err}
use Prim.Native.Nat.{ℕ}
use mathlib.Core.Path.{◌≡◌, refl}
use mathlib.Core.List.{List, [], ◌∷◌}
use mathlib.Core.Logic.{inl, inr}
use Rattle.general.specs.Determined.{IsOneOf}
use Rattle.semantics.specs.Answer.{executed_number, result_numbers}
use Rattle.semantics.specs.declared.answer.Refusal.{Refusal}
use Rattle.semantics.specs.declared.answer.Refusal.TheVariants.{BadSettings, BadLengths, Undecodable, StreamingOff, ZaOff, StackMisaligned, OutsideMemory}

abbrev answers : List ℕ
answers = 0 ∷ 1 ∷ 2 ∷ 3 ∷ 4 ∷ 5 ∷ 6 ∷ 7 ∷ []

refusal_numbers : (r : Refusal) → IsOneOf answers (executed_number (Err r))
refusal_numbers BadSettings = inr (inl refl)
refusal_numbers BadLengths = inr (inr (inl refl))
refusal_numbers Undecodable = inr (inr (inr (inl refl)))
refusal_numbers StreamingOff = inr (inr (inr (inr (inl refl))))
refusal_numbers ZaOff = inr (inr (inr (inr (inr (inl refl)))))
refusal_numbers StackMisaligned = inr (inr (inr (inr (inr (inr (inl refl))))))
refusal_numbers (OutsideMemory f) = inr (inr (inr (inr (inr (inr (inr (inl refl)))))))

pub executed_numbers : (e : Result ⊤ Refusal) → IsOneOf answers (executed_number e)
executed_numbers (Ok _) = inl refl
executed_numbers (Err r) = refusal_numbers r

refusal_zeros : (r : Refusal) → (executed_number (Err r) ≡ 7 → ⊥) → result_numbers (Err r) ≡ 0 ∷ 0 ∷ []
refusal_zeros BadSettings n = refl
refusal_zeros BadLengths n = refl
refusal_zeros Undecodable n = refl
refusal_zeros StreamingOff n = refl
refusal_zeros ZaOff n = refl
refusal_zeros StackMisaligned n = refl
refusal_zeros (OutsideMemory f) n = absurd (n refl)

pub executed_zeros : (e : Result ⊤ Refusal) → (executed_number e ≡ 7 → ⊥) → result_numbers e ≡ 0 ∷ 0 ∷ []
executed_zeros (Ok _) n = refl
executed_zeros (Err r) n = refusal_zeros r n
