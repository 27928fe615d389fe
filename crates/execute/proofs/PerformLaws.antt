-- What performing an operation relies on and promises, put together for execution.
-- Assumes nothing.
use Rattle.std.specs.Prelude.{Result, ⊤, Ok, Err}
use Prim.Native.Nat.{ℕ}
use mathlib.Core.Path.{◌≡◌, refl, sym, ap, ◌∙◌}
use mathlib.Core.Bool.{Bool, true, false}
use mathlib.Core.List.{List}
use native.Mathlib.Omega.{arith}
use lib.ListN.{length}
use Rattle.settings.specs.Settings.{lengths_of}
use Rattle.settings.specs.declared.Settings.{Settings}
use Rattle.encoding.specs.Codec.{decode_of}
use Rattle.encoding.specs.Range.{ArrayInRange, AccessInRange, InRange}
use Rattle.encoding.specs.Steps.{array_move, access_move}
use Rattle.encoding.specs.declared.operation.ArrayToVectors.{ArrayToVectors}
use Rattle.encoding.specs.declared.operation.SliceAccess.{SliceAccess}
use Rattle.encoding.specs.declared.operation.Operation.{Operation}
use Rattle.semantics.specs.declared.answer.Refusal.{Refusal}
use Rattle.semantics.specs.declared.answer.Refusal.TheVariants.{StreamingOff, ZaOff}
use Rattle.semantics.specs.Answer.{executed_answer}
use Rattle.semantics.specs.State.{State, state_of, public_of}
use Rattle.semantics.specs.Execute.{guard, buffers_answer, operation_answer, word_answer, answer_of, word_effect, if_done, execute_of}
use Rattle.semantics.specs.Promise.{Executes}
use Rattle.semantics.specs.Steps.{Sized, Performs, Moves}
use Rattle.semantics.proofs.ExecuteLaws.{buffers_refused, answers_agree, SizedAt, sized_answer, operation_answer_lem}
use Rattle.encoding.specs.declared.operation.DecodeRefusal.{DecodeRefusal}

-- ---- what operations rely on

module _ (s : Settings) (lx lz lp lza lm : ℕ) (h : Sized s lx lz lp lza lm) where
  -- a function that is not lent memory, or Z
  pub without_memory : Sized s lx lz lp lza 0
  without_memory = record { vectors = h.vectors; level = h.level; x = h.x; z = h.z; p = h.p; za = h.za; memory = omega (arith, h.memory) }

  pub without_z : Sized s lx (lengths_of s).z lp lza lm
  without_z = record { vectors = h.vectors; level = h.level; x = h.x; z = refl; p = h.p; za = h.za; memory = h.memory }

-- what is in range whether a move zeroes or not, an access stores or not
pub array_range : (b : Bool) (o : ArrayToVectors) → InRange (array_move b o) → ArrayInRange o
array_range true o h = h
array_range false o h = h

pub access_range : (b : Bool) (o : SliceAccess) → InRange (access_move b o) → AccessInRange o
access_range true o h = h
access_range false o h = h

-- a move is done
pub array_done : (s : Settings) (x p : List ℕ) (lm : ℕ) (b : Bool) (o : ArrayToVectors) → operation_answer s x p lm (array_move b o) ≡ Ok tt
array_done s x p lm true o = refl
array_done s x p lm false o = refl

pub moves_perform : (s : Settings) (op o : Operation) (x z p za memory : List ℕ) {z' za' : List ℕ} → op ≡ o → operation_answer s x p (length memory) o ≡ Ok tt → Moves s o x z p za z' za' → Performs s op (state_of x z p za memory) (Ok tt) (state_of x z' p za' memory)
moves_perform s op o x z p za memory e ans h = rw e (record { answer = sym ans; state = h memory })

-- ---- one word

module _ (s : Settings) (w : ℕ) (t : State) where
  executes : (r : Result ⊤ Refusal) (t' : State) → r ≡ (execute_of s w t).answer → t' ≡ (execute_of s w t).state → Executes s w t r t'
  unfolding execute_of
  executes r t' e q = record { answer = e; numbers = ap executed_answer e ∙ answers_agree s (public_of t) w; state = q }

  -- a refusal leaves the state
  pub refused_executes : (r : Refusal) → (execute_of s w t).answer ≡ Err r → Executes s w t (Err r) t
  unfolding execute_of
  refused_executes r e = executes (Err r) t (sym e) (ap (λ (a : Result ⊤ Refusal). if_done a t (word_effect s (decode_of w s.level) t)) (sym e))

  -- settings and lengths refuse whatever the word
  pub buffers_refuse : (r : Refusal) → buffers_answer s (length t.x) (length t.z) (length t.p) (length t.za) (length t.memory) (Ok tt) ≡ Err r → Executes s w t (Err r) t
  unfolding execute_of answer_of
  buffers_refuse r e = refused_executes r (buffers_refused s (length t.x) (length t.z) (length t.p) (length t.za) (length t.memory) (word_answer s t.x t.p (length t.memory) (decode_of w s.level)) r e)

  -- the word refuses
  pub word_refuses : (r : Refusal) → SizedAt s t → word_answer s t.x t.p (length t.memory) (decode_of w s.level) ≡ Err r → Executes s w t (Err r) t
  word_refuses r h e = refused_executes r (sized_answer s w t h ∙ e)

  module _ (o : Operation) (h : SizedAt s t) (dec : decode_of w s.level ≡ Ok o) where
    rest : Result ⊤ Refusal
    rest = operation_answer s t.x t.p (length t.memory) o

    -- the two switches
    switched : (a b : Bool) → s.streaming ≡ a → s.za ≡ b → word_answer s t.x t.p (length t.memory) (decode_of w s.level) ≡ guard a StreamingOff (guard b ZaOff rest)
    unfolding rest
    switched a b d e = ap (word_answer s t.x t.p (length t.memory)) dec ∙ ap (λ (a : Bool). guard a StreamingOff (guard s.za ZaOff rest)) d ∙ ap (λ (b : Bool). guard a StreamingOff (guard b ZaOff rest)) e

    pub streaming_off_lem : s.streaming ≡ false → Executes s w t (Err StreamingOff) t
    streaming_off_lem e = word_refuses StreamingOff h (switched false s.za e refl)

    pub za_off_lem : s.streaming ≡ true → s.za ≡ false → Executes s w t (Err ZaOff) t
    za_off_lem on e = word_refuses ZaOff h (switched true false on e)

    -- what performing the operation promises is what executing the word does
    pub performed : (r : Result ⊤ Refusal) (t' : State) → s.streaming ≡ true → s.za ≡ true → Performs s o t r t' → Executes s w t r t'
    unfolding execute_of
    performed r t' on za q =
        let e : (execute_of s w t).answer ≡ r = operation_answer_lem s w t o h dec on za ∙ sym q.answer in
        executes r t' (sym e)
        (q.state ∙
        ap (λ (d : Result Operation DecodeRefusal). if_done r t (word_effect s d t)) (sym dec) ∙
        ap (λ (a : Result ⊤ Refusal). if_done a t (word_effect s (decode_of w s.level) t)) (sym e))
