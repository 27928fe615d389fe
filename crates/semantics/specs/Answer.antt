-- The number and the values of each answer of execution. Renders 01 §6.
-- To believe: the numbers, and that only answer 7 carries something, an address and then an element (request 6).
-- Assumes nothing.
use Rattle.std.specs.Prelude.{ℕ, List, [], ◌∷◌, Result, ⊤, Ok, Err}
use Rattle.settings.specs.Answer.{Answer, answer_with, nth_value, done, bad_settings, bad_lengths, undecodable, streaming_off, za_off, stack_misaligned, outside_memory}
use Rattle.semantics.specs.declared.answer.Fault.{Fault}
use Rattle.semantics.specs.declared.answer.Refusal.{Refusal}
use Rattle.semantics.specs.declared.answer.Refusal.TheVariants.{BadSettings, BadLengths, Undecodable, StreamingOff, ZaOff, StackMisaligned, OutsideMemory}

abbrev pub refusal_answer : Refusal → Answer
refusal_answer BadSettings = answer_with bad_settings []
refusal_answer BadLengths = answer_with bad_lengths []
refusal_answer Undecodable = answer_with undecodable []
refusal_answer StreamingOff = answer_with streaming_off []
refusal_answer ZaOff = answer_with za_off []
refusal_answer StackMisaligned = answer_with stack_misaligned []
refusal_answer (OutsideMemory f) = answer_with outside_memory (f.address ∷ f.element ∷ [])

abbrev pub executed_answer : Result ⊤ Refusal → Answer
executed_answer (Ok _) = answer_with done []
executed_answer (Err r) = refusal_answer r

-- what an answer carries, zeros where it carries nothing
abbrev pub carried : Answer → Fault
carried a = record { address = nth_value a 0; element = nth_value a 1 }

-- what there is where it carries nothing
abbrev pub no_fault : Fault
no_fault = record { address = 0; element = 0 }

abbrev pub refusal_number : Refusal → ℕ
refusal_number r = (refusal_answer r).number

abbrev pub refusal_fault : Refusal → Fault
refusal_fault r = carried (refusal_answer r)

abbrev pub executed_number : Result ⊤ Refusal → ℕ
executed_number e = (executed_answer e).number

abbrev pub executed_fault : Result ⊤ Refusal → Fault
executed_fault e = carried (executed_answer e)

-- the results of an execution, in the order in which a host gets them
abbrev pub result_numbers : Result ⊤ Refusal → List ℕ
result_numbers e = (executed_fault e).address ∷ (executed_fault e).element ∷ []
