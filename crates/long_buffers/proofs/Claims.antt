-- Each theorem of specs/Within.antt.
-- Assumes nothing.
use Rattle.std.specs.Prelude.{Result, ⊤, Ok, Err}
use Prim.Native.Nat.{ℕ, suc, ◌+◌, ◌*◌, ◌/◌, ◌%◌, ◌<◌, ◌≤◌}
use mathlib.Core.Path.{◌≡◌, refl, sym, ap, ◌∙◌, subst}
use mathlib.Core.Bool.{true, false}
use mathlib.Core.List.{List, [], ◌∷◌}
use mathlib.Core.Logic.{◌⊎◌, inl, inr, ⊎_elim}
use native.Mathlib.Nat.{mod-lt, div-add-mod'}
use native.Mathlib.Omega.{arith}
use lib.Dec.{ltb}
use lib.ListN.{length, get_or}
use lib.Seq.{ext_get_or}
use borrow.Author.Tests.{ltb-true, ltb-false}
use Rattle.general.proofs.BoolLaws.{by_test}
use Rattle.settings.specs.Settings.{valid_vectors, valid_settings, stride_of}
use Rattle.settings.specs.declared.Settings.{Settings}
use Rattle.settings.proofs.SettingsLaws.{vector_length_long, vectors_parts, stride_fits}
use Rattle.tiles.proofs.TileLaws.{digits_same}
use Rattle.encoding.specs.Codec.{decode_of}
use Rattle.encoding.specs.Range.{InRange}
use Rattle.encoding.specs.declared.operation.Operation.{Operation}
use Rattle.encoding.proofs.RangeLaws.{decoded_in_range}
use Rattle.semantics.specs.declared.answer.Refusal.{Refusal}
use Rattle.semantics.specs.State.{State, state_of, public_of}
use Rattle.semantics.specs.Effect.{effect_of}
use Rattle.semantics.specs.Execute.{buffers_answer, word_answer, answer_of, if_done, execute_of}
use Rattle.semantics.specs.Run.{Ran, one_more, run_of}
use Rattle.semantics.proofs.ExecuteLaws.{settings_facts, refused_not_done, Ends, does, stays, ends, does_operation}
use Rattle.semantics.proofs.EffectLaws.{effect_keeps, effect_leaves_others}
use Rattle.long_buffers.specs.Within.{SameByte, BeyondStays, NothingBetween, AgreeWithin, GoesByWithin, RunGoesByWithin, ExecutionKeepsBeyond, RunKeepsBeyond, ExecutionsGoByWithin, RunsGoByWithin}
use Rattle.long_buffers.proofs.PlaceLaws.{Inside, z_inside, za_inside}
use Rattle.long_buffers.proofs.AgreeLaws.{word_same, effect_agrees}

-- ---- what lies beyond B stays

beyond_refl : (s : Settings) (t : State) → BeyondStays s t t
beyond_refl s t = record { z_long = refl; p_long = refl; za_long = refl; z = λ v k h w. refl; p = λ v k h w. refl; za = λ v k h w. refl; vectors = λ v k h w. refl }

beyond_trans : (s : Settings) (a b c : State) → BeyondStays s a b → BeyondStays s b c → BeyondStays s a c
beyond_trans s a b c f g =
    record {
      z_long = f.z_long ∙ g.z_long;
      p_long = f.p_long ∙ g.p_long;
      za_long = f.za_long ∙ g.za_long;
      z = λ v k h w. f.z v k h w ∙ g.z v k h w;
      p = λ v k h w. f.p v k h w ∙ g.p v k h w;
      za = λ v k h w. f.za v k h w ∙ g.za v k h w;
      vectors = λ v k h w. f.vectors v k h w ∙ g.vectors v k h w;
    }

module _ (s : Settings) (laid : valid_vectors s ≡ true) where
  abbrev B : ℕ
  B = s.vector_bytes

  abbrev S : ℕ
  S = stride_of s

  -- a place inside is not beyond: neither its byte nor its vector
  inside_byte : (n v k i : ℕ) → k < S → Inside s laid n i → v * S + k ≡ i → (v < n) × (k < B)
  inside_byte n v k i h p e =
      let d = digits_same S v k p.vector p.byte h (omega (arith, p.below, (stride_fits s laid).fit)) (e ∙ p.place) in
      (omega (arith, d.0, p.few), omega (arith, d.1, p.below))

  effect_beyond : (o : Operation) (t : State) → InRange o → BeyondStays s t (effect_of s o t)
  unfolding effect_of
  effect_beyond o t r =
      let others = effect_leaves_others s o t in
      let z-in = z_inside s laid (public_of t) o r in
      let za-in = za_inside s laid (public_of t) o r in
      let keeps = effect_keeps s o t in
      record {
        z_long = sym keeps.z;
        p_long = refl;
        za_long = sym keeps.za;
        z = λ v k h w. sym (others.z (v * S + k) (λ j c y e. omega (arith, inside_byte 32 v k _ w (z-in j c) e)));
        p = λ v k h w. refl;
        za = λ v k h w. sym (others.za (v * S + k) (λ j c y e. omega (arith, inside_byte B v k _ w (za-in j c) e)));
        vectors = λ v k h w. sym (others.za (v * S + k) (λ j c y e. omega (arith, inside_byte B v k _ w (za-in j c) e)));
      }

pub execution_keeps_beyond : ExecutionKeepsBeyond
execution_keeps_beyond s w t = go (ends s w t)
  where
    go : Ends s w t → BeyondStays s t (execute_of s w t).state
    go (does o d) = subst (BeyondStays s t) (sym d.state) (effect_beyond s d.sized.vectors o t (decoded_in_range w s.level o d.decoded))
    go (stays r n e) = subst (BeyondStays s t) (sym e) (beyond_refl s t)

pub run_keeps_beyond : RunKeepsBeyond
unfolding run_of
run_keeps_beyond s [] t = beyond_refl s t
run_keeps_beyond s (w ∷ ws) t = go (execute_of s w t).answer (execution_keeps_beyond s w t) (run_keeps_beyond s ws (execute_of s w t).state)
  where
    go : (a : Result ⊤ Refusal) → BeyondStays s t (execute_of s w t).state → BeyondStays s (execute_of s w t).state (run_of s ws (execute_of s w t).state).ending.state →
        BeyondStays s t (if_done a (record { words = 0; ending = execute_of s w t }) (one_more (run_of s ws (execute_of s w t).state))).ending.state
    go (Ok _) f g = beyond_trans s t (execute_of s w t).state _ f g
    go (Err r) f g = f

-- ---- and does not matter

module _ (s : Settings) (w : ℕ) where
  -- the same of states with one X and one memory
  shared_same : (x z z' p p' za za' memory : List ℕ) → AgreeWithin s (state_of x z p za memory) (state_of x z' p' za' memory) → (execute_of s w (state_of x z p za memory)).answer ≡ (execute_of s w (state_of x z' p' za' memory)).answer
  unfolding execute_of answer_of
  shared_same x z z' p p' za za' memory agree = go (by_test (valid_settings s))
    where
      answer : List ℕ → List ℕ → List ℕ → Result ⊤ Refusal → Result ⊤ Refusal
      answer z p za rest = buffers_answer s (length x) (length z) (length p) (length za) (length memory) rest

      -- the lengths are the same
      lengths_same : (rest : Result ⊤ Refusal) → answer z p za rest ≡ answer z' p' za' rest
      lengths_same rest =
          ap (λ (n : ℕ). buffers_answer s (length x) n (length p) (length za) (length memory) rest) agree.z_long ∙
          ap (λ (n : ℕ). buffers_answer s (length x) (length z') n (length za) (length memory) rest) agree.p_long ∙
          ap (λ (n : ℕ). buffers_answer s (length x) (length z') (length p') n (length memory) rest) agree.za_long

      go : (valid_settings s ≡ true) ⊎ (valid_settings s ≡ false) → answer z p za (word_answer s x p (length memory) (decode_of w s.level)) ≡ answer z' p' za' (word_answer s x p' (length memory) (decode_of w s.level))
      go (inl y) = lengths_same _ ∙ ap (answer z' p' za') (word_same s (settings_facts s y).0 x z z' p p' za za' memory agree (decode_of w s.level))
      go (inr n) = rw n

  shared_agree : (x z z' p p' za za' memory : List ℕ) → AgreeWithin s (state_of x z p za memory) (state_of x z' p' za' memory) → GoesByWithin s w (state_of x z p za memory) (state_of x z' p' za' memory)
  shared_agree x z z' p p' za za' memory agree = record { answer = same; state = go (ends s w t) (ends s w u) }
    where
      t : State
      t = state_of x z p za memory

      u : State
      u = state_of x z' p' za' memory

      same : (execute_of s w t).answer ≡ (execute_of s w u).answer
      same = shared_same x z z' p p' za za' memory agree

      go : Ends s w t → Ends s w u → AgreeWithin s (execute_of s w t).state (execute_of s w u).state
      go (does o d) e =
          let d' = does_operation s w u o d.decoded (sym same ∙ d.answer) in
          let after = effect_agrees s d.sized.vectors x z z' p p' za za' memory agree o (decoded_in_range w s.level o d.decoded) in
          subst (λ (a : State). AgreeWithin s a (execute_of s w u).state) (sym d.state) (subst (AgreeWithin s (effect_of s o t)) (sym d'.state) after)
      go (stays r n e) (does o d) = absurd (refused_not_done r (sym n ∙ same ∙ d.answer))
      go (stays r n e) (stays r' n' e') = subst (λ (a : State). AgreeWithin s a (execute_of s w u).state) (sym e) (subst (AgreeWithin s t) (sym e') agree)

pub executions_go_by_within : ExecutionsGoByWithin
executions_go_by_within s w t u agree = subst (GoesByWithin s w t) one (shared_agree s w t.x t.z u.z t.p u.p t.za u.za t.memory (subst (AgreeWithin s t) (sym one) agree))
  where
    -- u has t's X and memory
    one : state_of t.x u.z u.p u.za t.memory ≡ u
    one i = record { x = agree.x i; z = u.z; p = u.p; za = u.za; memory = agree.memory i }

pub runs_go_by_within : RunsGoByWithin
unfolding run_of
runs_go_by_within s [] t u agree = record { words = refl; answer = refl; state = agree }
runs_go_by_within s (w ∷ ws) t u agree =
    let h = executions_go_by_within s w t u agree in
    go (execute_of s w t).answer (execute_of s w u).answer refl refl h.answer h.state (runs_go_by_within s ws (execute_of s w t).state (execute_of s w u).state h.state)
  where
    step : Result ⊤ Refusal → State → Ran
    step a t = if_done a (record { words = 0; ending = execute_of s w t }) (one_more (run_of s ws (execute_of s w t).state))

    go : (a b : Result ⊤ Refusal) → (execute_of s w t).answer ≡ a → (execute_of s w u).answer ≡ b → (execute_of s w t).answer ≡ (execute_of s w u).answer → AgreeWithin s (execute_of s w t).state (execute_of s w u).state →
        RunGoesByWithin s (run_of s ws (execute_of s w t).state) (run_of s ws (execute_of s w u).state) → RunGoesByWithin s (step a t) (step b u)
    go (Ok _) (Ok _) e e' same f g = record { words = ap suc g.words; answer = g.answer; state = g.state }
    go (Err r) (Err r') e e' same f g = record { words = refl; answer = same; state = f }
    go (Ok _) (Err r) e e' same f g = absurd (refused_not_done r (sym e' ∙ sym same ∙ e))
    go (Err r) (Ok _) e e' same f g = absurd (refused_not_done r (sym e ∙ same ∙ e'))

-- ---- no byte is neither

-- two buffers whose parts start n bytes apart, the same at each byte of each part
parts_same : (n : ℕ) (l l' : List ℕ) → 0 < n → length l ≡ length l' → ((v k : ℕ) → k < n → SameByte n l l' v k) → l ≡ l'
parts_same n l l' some long same =
    ext_get_or 0 l l' long (λ i w. subst (λ (j : ℕ). get_or l j 0 ≡ get_or l' j 0) (div-add-mod' i n) (same (i / n) (i % n) (mod-lt i some)))

-- a number is below another or not
by_bound : (P : Type 0) (k b : ℕ) → (k < b → P) → (b ≤ k → P) → P
by_bound P k b f g = ⊎_elim (λ e. f (ltb-true k b e)) (λ e. g (ltb-false k b e)) (by_test (ltb k b))

pub nothing_between : NothingBetween
nothing_between s t u laid beyond agree i = record { x = agree.x i; z = z_same i; p = p_same i; za = za_same i; memory = agree.memory i }
  where
    some : 16 ≤ stride_of s
    some = vector_length_long (stride_of s) (vectors_parts s laid).largest

    z_same : t.z ≡ u.z
    z_same = parts_same (stride_of s) t.z u.z (omega (arith, some)) agree.z_long (λ v k h. by_bound _ k s.vector_bytes (agree.z v k) (λ w. beyond.z v k w h))

    p_same : t.p ≡ u.p
    p_same = parts_same (stride_of s / 8) t.p u.p (omega (arith, some)) agree.p_long (λ v k h. by_bound _ k (s.vector_bytes / 8) (agree.p v k) (λ w. beyond.p v k w h))

    za_same : t.za ≡ u.za
    za_same =
        parts_same (stride_of s) t.za u.za (omega (arith, some)) agree.za_long
        (λ v k h. by_bound _ v s.vector_bytes (λ few. by_bound _ k s.vector_bytes (agree.za v k few) (λ w. beyond.za v k w h)) (λ w. beyond.vectors v k w h))
