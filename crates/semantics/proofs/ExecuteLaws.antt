-- Laws of specs/Execute.antt and specs/Lines.antt: what a done answer says, that a refusal changes nothing, and that both definitions of the answer agree.
-- Assumes nothing.
use Rattle.std.specs.Prelude.{Result, ⊤, Ok, Err, is_ok}
use Prim.Native.Nat.{ℕ, ◌+◌, ◌^◌, ◌≤◌}
use mathlib.Core.Path.{◌≡◌, refl, sym, ap, ◌∙◌, subst}
use mathlib.Core.Bool.{Bool, true, false, cond, ◌&&◌, not, and-eq-true_iff, true≢false}
use mathlib.Core.List.{[]}
use mathlib.Core.Option.{Option, none, some}
use lib.Dec.{eqb, leb}
use lib.ListN.{length}
use borrow.Author.Tests.{eqb-true, leb-true, eq-eqb, le-leb}
use Rattle.general.specs.Least.{is_some}
use Rattle.settings.specs.Answer.{Answer, answer_with, done, stack_misaligned, outside_memory}
use Rattle.settings.specs.Settings.{valid_vectors, valid_settings, max_level, lengths_of}
use Rattle.settings.specs.declared.Settings.{Settings}
use Rattle.encoding.specs.Codec.{decode_of}
use Rattle.encoding.specs.declared.operation.SliceAccess.{SliceAccess}
use Rattle.encoding.specs.declared.operation.Operation.{Operation}
use Rattle.encoding.specs.declared.operation.Operation.TheVariants.{MovaToTile, MovazFromTile, MovaFromArray, MovazFromArray, St1, MovaFromTile, Ld1}
use Rattle.semantics.specs.declared.answer.Refusal.{Refusal}
use Rattle.semantics.specs.declared.answer.Refusal.TheVariants.{BadSettings, BadLengths, StreamingOff, ZaOff, StackMisaligned}
use Rattle.semantics.specs.Answer.{refusal_answer, executed_answer}
use Rattle.semantics.specs.State.{State, Public, public_of}
use Rattle.semantics.specs.Effect.{effect_of}
use Rattle.semantics.specs.Execute.{guard, valid_lengths, buffers_answer, fault_of, fault_answer, stack_bad, access_answer, operation_answer, word_answer, answer_of, word_effect, if_done, execute_of}
use Rattle.semantics.specs.Lines.{first_line, access_of, fault_values, access_lines, word_lines, answer_in_numbers}
use Rattle.semantics.specs.Steps.{Sized}
use Rattle.encoding.specs.declared.operation.DecodeRefusal.{DecodeRefusal}
use Rattle.encoding.specs.declared.operation.DecodeRefusal.TheVariants.{BadLevel, Undecodable}

-- ---- guard

-- a refusal is not done
pub refused_not_done : (r : Refusal) → ◌≡◌ {A = Result ⊤ Refusal} (Err r) (Ok tt) → ⊥
refused_not_done r e = true≢false (sym (ap is_ok e))

-- what is done has passed the check
pub guard_done : (b : Bool) (r : Refusal) (rest : Result ⊤ Refusal) → guard b r rest ≡ Ok tt → (b ≡ true) × (rest ≡ Ok tt)
guard_done true r rest e = (refl, e)
guard_done false r rest e = absurd (refused_not_done r e)

-- ---- the check of settings and lengths

pub settings_facts : (s : Settings) → valid_settings s ≡ true → (valid_vectors s ≡ true) × (s.level ≤ max_level)
settings_facts s e = let h = (and-eq-true_iff (valid_vectors s) (leb s.level max_level)).0 e in (h.0, leb-true _ _ h.1)

module _ (s : Settings) (lx lz lp lza lm : ℕ) where
  pub lengths_facts : valid_lengths s lx lz lp lza lm ≡ true → (lx ≡ (lengths_of s).x) × (lz ≡ (lengths_of s).z) × (lp ≡ (lengths_of s).p) × (lza ≡ (lengths_of s).za) × (s.memory_address + lm ≤ 2 ^ 64)
  lengths_facts e =
      let a = eqb lx (lengths_of s).x in
      let b = eqb lz (lengths_of s).z in
      let c = eqb lp (lengths_of s).p in
      let d = eqb lza (lengths_of s).za in
      let h = (and-eq-true_iff (a && b && c && d) (leb (s.memory_address + lm) (2 ^ 64))).0 e in
      let g = (and-eq-true_iff (a && b && c) d).0 h.0 in
      let k = (and-eq-true_iff (a && b) c).0 g.0 in
      let l = (and-eq-true_iff a b).0 k.0 in
      (eqb-true _ _ l.0, eqb-true _ _ l.1, eqb-true _ _ k.1, eqb-true _ _ g.1, leb-true _ _ h.1)

  pub valid_sized : valid_settings s ≡ true → valid_lengths s lx lz lp lza lm ≡ true → Sized s lx lz lp lza lm
  valid_sized v e =
      let i = settings_facts s v in
      let h = lengths_facts e in
      record { vectors = i.0; level = i.1; x = h.0; z = h.1; p = h.2; za = h.3; memory = h.4 }

  pub sized_settings : Sized s lx lz lp lza lm → valid_settings s ≡ true
  sized_settings h = rw h.vectors (le-leb _ _ h.level)

  pub sized_lengths : Sized s lx lz lp lza lm → valid_lengths s lx lz lp lza lm ≡ true
  sized_lengths h = rw (eq-eqb _ _ h.x, eq-eqb _ _ h.z, eq-eqb _ _ h.p, eq-eqb _ _ h.za) (le-leb _ _ h.memory)

  -- with the right lengths the rest decides
  pub buffers_rest : (rest : Result ⊤ Refusal) → Sized s lx lz lp lza lm → buffers_answer s lx lz lp lza lm rest ≡ rest
  buffers_rest rest h = rw (sized_settings h, sized_lengths h)

  -- what is done has them
  pub buffers_done : (rest : Result ⊤ Refusal) → buffers_answer s lx lz lp lza lm rest ≡ Ok tt → Sized s lx lz lp lza lm × (rest ≡ Ok tt)
  buffers_done rest e =
      let v = guard_done (valid_settings s) _ _ e in
      let l = guard_done (valid_lengths s lx lz lp lza lm) _ _ v.1 in
      (valid_sized v.0 l.0, l.1)

  -- a refusal comes from settings and lengths whatever the rest
  pub buffers_refused : (rest : Result ⊤ Refusal) (r : Refusal) → buffers_answer s lx lz lp lza lm (Ok tt) ≡ Err r → buffers_answer s lx lz lp lza lm rest ≡ Err r
  buffers_refused rest r e = go (valid_settings s) (valid_lengths s lx lz lp lza lm) e
    where
      go : (a b : Bool) → guard a BadSettings (guard b BadLengths (Ok tt)) ≡ Err r → guard a BadSettings (guard b BadLengths rest) ≡ Err r
      go false b e = e
      go true false e = e
      go true true e = absurd (refused_not_done r (sym e))

-- ---- the answer in numbers

-- a check is a line that applies where it fails
guard_line : (b : Bool) (r : Refusal) (rest : Result ⊤ Refusal) (a : Answer) → executed_answer rest ≡ a → executed_answer (guard b r rest) ≡ cond (not b) (refusal_answer r) a
guard_line true r rest a e = e
guard_line false r rest a e = refl

module _ (s : Settings) (u : Public) where
  -- the last two lines
  access_lines_lem : (o : SliceAccess) → executed_answer (access_answer s u.x u.p u.memory_length o) ≡ first_line (access_lines s u (some o))
  unfolding access_answer
  access_lines_lem o = go (stack_bad s u.x u.p u.memory_length o) (fault_of s u.x u.p u.memory_length o)
    where
      go : (b : Bool) (f : Option ℕ) → executed_answer (guard (not b) StackMisaligned (fault_answer s u.x u.p u.memory_length o f)) ≡ cond b (answer_with stack_misaligned []) (cond (is_some f) (answer_with outside_memory (fault_values s u (some o) f)) (answer_with done []))
      go true f = refl
      go false none = refl
      go false (some k) = refl

  operation_lines : (o : Operation) → executed_answer (operation_answer s u.x u.p u.memory_length o) ≡ first_line (access_lines s u (access_of (Ok o)))
  operation_lines (MovaToTile o) = refl
  operation_lines (MovazFromTile o) = refl
  operation_lines (MovaFromArray o) = refl
  operation_lines (MovazFromArray o) = refl
  operation_lines (St1 o) = access_lines_lem o
  operation_lines (MovaFromTile o) = refl
  operation_lines (Ld1 o) = access_lines_lem o

  word_lines_lem : (d : Result Operation DecodeRefusal) → executed_answer (word_answer s u.x u.p u.memory_length d) ≡ first_line (word_lines s u d)
  word_lines_lem (Ok o) = guard_line s.streaming StreamingOff _ _ (guard_line s.za ZaOff _ _ (operation_lines o))
  word_lines_lem (Err BadLevel) = refl
  word_lines_lem (Err Undecodable) = refl

  -- both definitions of the answer agree
  pub answers_agree : (w : ℕ) → executed_answer (answer_of s w u) ≡ answer_in_numbers s w u
  unfolding answer_of answer_in_numbers
  answers_agree w =
      guard_line (valid_settings s) BadSettings _ _
      (guard_line (valid_lengths s (length u.x) u.z_length (length u.p) u.za_length u.memory_length) BadLengths _ _ (word_lines_lem (decode_of w s.level)))

-- ---- one execution

-- what the check of settings and lengths finds of a state
abbrev pub SizedAt : Settings → State → Type 0
SizedAt s t = Sized s (length t.x) (length t.z) (length t.p) (length t.za) (length t.memory)

module _ (s : Settings) (w : ℕ) (t : State) where
  -- what a done execution of an operation is
  pub record Does (o : Operation) : Type 0 where
    pub answer : (execute_of s w t).answer ≡ Ok tt
    pub sized : SizedAt s t
    pub decoded : decode_of w s.level ≡ Ok o
    pub state : (execute_of s w t).state ≡ effect_of s o t

  -- an execution is done, with an operation, or leaves the state as it was
  pub data Ends : Type 0 where
    does : (o : Operation) → Does o → Ends
    stays : (r : Refusal) → (execute_of s w t).answer ≡ Err r → (execute_of s w t).state ≡ t → Ends

  -- a done answer comes from a decoded operation
  operation_done : (d : Result Operation DecodeRefusal) → word_answer s t.x t.p (length t.memory) d ≡ Ok tt → (o : Operation) × (d ≡ Ok o)
  operation_done (Ok o) e = (o, refl)
  operation_done (Err BadLevel) e = absurd (refused_not_done _ e)
  operation_done (Err Undecodable) e = absurd (refused_not_done _ e)

  pub ends : Ends
  unfolding execute_of answer_of
  ends = go (answer_of s w (public_of t)) refl
    where
      go : (a : Result ⊤ Refusal) → answer_of s w (public_of t) ≡ a → Ends
      go (Ok _) e =
          let b = buffers_done s _ _ _ _ _ _ e in
          let o = operation_done (decode_of w s.level) b.1 in
          does o.0
          (record {
            answer = e;
            sized = b.0;
            decoded = o.1;
            state =
                ap (λ (a : Result ⊤ Refusal). if_done a t (word_effect s (decode_of w s.level) t)) e ∙
                ap (λ (d : Result Operation DecodeRefusal). word_effect s d t) o.1;
          })
      go (Err r) e = stays r e (ap (λ (a : Result ⊤ Refusal). if_done a t (word_effect s (decode_of w s.level) t)) e)

  -- with the right lengths the word decides
  pub sized_answer : SizedAt s t → (execute_of s w t).answer ≡ word_answer s t.x t.p (length t.memory) (decode_of w s.level)
  unfolding execute_of answer_of
  sized_answer h = buffers_rest s _ _ _ _ _ _ h

  -- an execution of an operation with streaming and ZA on answers what the operation answers
  pub operation_answer_lem : (o : Operation) → SizedAt s t → decode_of w s.level ≡ Ok o → s.streaming ≡ true → s.za ≡ true → (execute_of s w t).answer ≡ operation_answer s t.x t.p (length t.memory) o
  operation_answer_lem o h dec on za =
      let rest = operation_answer s t.x t.p (length t.memory) o in
      sized_answer h ∙
      ap (word_answer s t.x t.p (length t.memory)) dec ∙
      ap (λ (b : Bool). guard b StreamingOff (guard s.za ZaOff rest)) on ∙
      ap (λ (b : Bool). guard b ZaOff rest) za

  -- a done execution of a word that decodes to an operation is done with that operation
  pub does_operation : (o : Operation) → decode_of w s.level ≡ Ok o → (execute_of s w t).answer ≡ Ok tt → Does o
  does_operation o d e = go ends
    where
      -- the operation of a decoded word; o where there is none
      held : Result Operation DecodeRefusal → Operation
      held (Ok q) = q
      held (Err BadLevel) = o
      held (Err Undecodable) = o

      go : Ends → Does o
      go (does q h) = subst Does (ap held (sym h.decoded ∙ d)) h
      go (stays r n q) = absurd (refused_not_done r (sym n ∙ e))

  -- and the operation is not refused
  pub does_answer : (o : Operation) → Does o → operation_answer s t.x t.p (length t.memory) o ≡ Ok tt
  does_answer o h =
      (guard_done s.za _ _
      (guard_done s.streaming _ _ (sym (ap (word_answer s t.x t.p (length t.memory)) h.decoded) ∙ (sym (sized_answer h.sized) ∙ h.answer))).1).1
