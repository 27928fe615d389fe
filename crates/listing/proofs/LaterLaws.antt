-- Answers that come after those of settings and lengths: once these are right no word is answered 1 or 2, and none is ever answered 9.
-- Assumes nothing.
use Rattle.std.specs.Prelude.{Result, ⊤, Ok, Err}
use Prim.Native.Nat.{ℕ}
use mathlib.Core.Path.{◌≡◌, refl, sym, ap, ◌∙◌, subst}
use mathlib.Core.Bool.{Bool, true, false, not, ◌&&◌, true≢false}
use lib.Dec.{eqb}
use mathlib.Core.List.{List, [], ◌∷◌}
use mathlib.Core.Option.{Option, none, some}
use lib.ListN.{length}
use Rattle.settings.specs.declared.Settings.{Settings}
use Rattle.encoding.specs.Codec.{decode_of}
use Rattle.encoding.specs.declared.operation.SliceAccess.{SliceAccess}
use Rattle.encoding.specs.declared.operation.Operation.{Operation}
use Rattle.encoding.specs.declared.operation.Operation.TheVariants.{MovaToTile, MovazFromTile, MovaFromArray, MovazFromArray, St1, MovaFromTile, Ld1}
use Rattle.semantics.specs.declared.answer.Refusal.{Refusal}
use Rattle.semantics.specs.declared.answer.Refusal.TheVariants.{StreamingOff, ZaOff, StackMisaligned}
use Rattle.semantics.specs.Answer.{executed_number}
use Rattle.semantics.specs.State.{State}
use Rattle.semantics.specs.Execute.{guard, fault_of, fault_answer, stack_bad, access_answer, operation_answer, word_answer, if_done, execute_of}
use Rattle.semantics.specs.Run.{one_more, run_of}
use Rattle.semantics.proofs.ExecuteLaws.{SizedAt, sized_answer}
use Rattle.semantics.proofs.Claims.{execution_keeps}
use Rattle.listing.proofs.RunLaws.{sized_keeps}
use Rattle.encoding.specs.declared.operation.DecodeRefusal.{DecodeRefusal}
use Rattle.encoding.specs.declared.operation.DecodeRefusal.TheVariants.{BadLevel, Undecodable}

-- a number that is none of the three that come before the words
abbrev is_later : ℕ → Bool
is_later n = not (eqb n 1) && not (eqb n 2) && not (eqb n 9)

abbrev pub Later : Result ⊤ Refusal → Type 0
Later a = is_later (executed_number a) ≡ true

pub later_not : (a : Result ⊤ Refusal) (n : ℕ) → is_later n ≡ false → Later a → executed_number a ≡ n → ⊥
later_not a n e h q = true≢false (sym h ∙ ap is_later q ∙ e)

later_guard : (b : Bool) (r : Refusal) (rest : Result ⊤ Refusal) → Later (Err r) → Later rest → Later (guard b r rest)
later_guard true r rest h g = g
later_guard false r rest h g = h

module _ (s : Settings) (x p : List ℕ) (lm : ℕ) where
  later_access : (o : SliceAccess) → Later (access_answer s x p lm o)
  unfolding access_answer
  later_access o = later_guard (not (stack_bad s x p lm o)) StackMisaligned _ refl (fault (fault_of s x p lm o))
    where
      fault : (k : Option ℕ) → Later (fault_answer s x p lm o k)
      fault none = refl
      fault (some k) = refl

  later_operation : (o : Operation) → Later (operation_answer s x p lm o)
  later_operation (MovaToTile o) = refl
  later_operation (MovazFromTile o) = refl
  later_operation (MovaFromArray o) = refl
  later_operation (MovazFromArray o) = refl
  later_operation (St1 o) = later_access o
  later_operation (MovaFromTile o) = refl
  later_operation (Ld1 o) = later_access o

  later_decoded : (d : Result Operation DecodeRefusal) → Later (word_answer s x p lm d)
  later_decoded (Ok o) = later_guard s.streaming StreamingOff _ refl (later_guard s.za ZaOff _ refl (later_operation o))
  later_decoded (Err BadLevel) = refl
  later_decoded (Err Undecodable) = refl

-- a word on buffers of the right lengths, and so a run of words
later_word : (s : Settings) (w : ℕ) (t : State) → SizedAt s t → Later (execute_of s w t).answer
later_word s w t h = subst Later (sym (sized_answer s w t h)) (later_decoded s t.x t.p (length t.memory) (decode_of w s.level))

pub later_run : (s : Settings) (ws : List ℕ) (t : State) → SizedAt s t → Later (run_of s ws t).ending.answer
unfolding run_of
later_run s [] t h = refl
later_run s (w ∷ ws) t h = go (execute_of s w t).answer refl (later_run s ws t' (sized_keeps s t t' (execution_keeps s w t) h))
  where
    t' : State
    t' = (execute_of s w t).state

    go : (a : Result ⊤ Refusal) → a ≡ (execute_of s w t).answer → Later (run_of s ws t').ending.answer → Later (if_done a (record { words = 0; ending = execute_of s w t }) (one_more (run_of s ws t'))).ending.answer
    go (Ok _) e ih = ih
    go (Err r) e ih = later_word s w t h
