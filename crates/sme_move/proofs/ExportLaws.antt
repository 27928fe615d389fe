-- Laws of specs/Export.antt: what the inner functions promise, in the numbers that hosts get.
-- Assumes nothing.
use Rattle.std.specs.Prelude.{Result, ⊤, Ok, Err}
use Prim.Native.Nat.{ℕ}
use mathlib.Core.Path.{◌≡◌, refl, ◌∙◌, ap, subst}
use mathlib.Core.List.{List, [], ◌∷◌}
use lib.ListN.{set}
use Rattle.std.specs.Result.{MatchResult}
use Rattle.settings.specs.Answer.{done}
use Rattle.settings.specs.declared.Settings.{Settings}
use Rattle.encoding.specs.Answer.{decoded_answer}
use Rattle.encoding.specs.declared.operation.Operation.{Operation}
use Rattle.settings.specs.Results.{filled}
use Rattle.settings.proofs.ResultLaws.{puts_more}
use Rattle.semantics.specs.declared.answer.Refusal.{Refusal}
use Rattle.semantics.specs.Answer.{refusal_number, refusal_fault, no_fault, executed_number, executed_fault, result_numbers}
use Rattle.semantics.specs.State.{State}
use Rattle.semantics.specs.Promise.{Executes}
use Rattle.semantics.specs.declared.answer.Fault.{Fault}
use Rattle.sme_move.specs.Export.{Exports, fields_after}
use Rattle.encoding.specs.declared.operation.DecodeRefusal.{DecodeRefusal}
use Rattle.encoding.specs.declared.operation.DecodeRefusal.TheVariants.{BadLevel, Undecodable}

-- ---- decoding

-- the fields stay where there is no operation
fields_stay : (d : Result Operation DecodeRefusal) (f : List ℕ) → ((o : Operation) → d ≡ Ok o → ⊥) → f ≡ fields_after (decoded_answer d) f
fields_stay (Ok o) f k = absurd (k o refl)
fields_stay (Err BadLevel) f k = refl
fields_stay (Err Undecodable) f k = refl

-- ---- results

-- the number of an answer, and what it carries
pub numbered : (e : Result ⊤ Refusal) (n : ℕ) → MatchResult e (λ _. n ≡ done) (λ r. n ≡ refusal_number r) → n ≡ executed_number e
numbered (Ok u) n h = h
numbered (Err r) n h = h

pub faulted : (e : Result ⊤ Refusal) (f : Fault) → MatchResult e (λ _. f ≡ no_fault) (λ r. f ≡ refusal_fault r) → f ≡ executed_fault e
faulted (Ok u) f h = h
faulted (Err r) f h = h

-- the results of an execution, put one after the other
pub fills : (old : List ℕ) (e : Result ⊤ Refusal) {once twice : List ℕ} (f : Fault) → f ≡ executed_fault e → once ≡ set old 0 f.address → twice ≡ set once 1 f.element → twice ≡ filled (result_numbers e) old
fills old e f q first second =
    puts_more (f.address ∷ []) old f.element (puts_more [] old f.address refl first) second ∙ ap (λ (g : Fault). filled (g.address ∷ g.element ∷ []) old) q

-- what executing promises of settings that were read, with number and results
pub execute_exports : {s s' : Settings} {w : ℕ} {t t' : State} {e : (Result ⊤ Refusal)} {rs rs' : List ℕ} {r : ℕ} → s ≡ s' → Executes s w t e t' → r ≡ executed_number e → rs' ≡ filled (result_numbers e) rs → Exports s' w t rs r rs' t'
execute_exports {w} {t} {t'} {e} {rs} {rs'} {r} q h n f = subst (λ (s : Settings). Exports s w t rs r rs' t') q (record { answer = e; executes = h; number = n; results = f })
