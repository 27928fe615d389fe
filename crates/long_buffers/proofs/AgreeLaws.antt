-- Two states that agree within B: what is active is the same in both, so is the answer, and each operation writes the same within B.
-- Assumes nothing.
use Rattle.std.specs.Prelude.{Result, ⊤, Ok, Err}
use Prim.Native.Nat.{ℕ, ◌*◌, ◌/◌, ◌%◌, ◌^◌, ◌<◌}
use mathlib.Core.Path.{◌≡◌, refl, sym, ap, ◌∙◌}
use mathlib.Core.Bool.{Bool, true, cond, ◌&&◌, not}
use mathlib.Core.List.{List}
use mathlib.Core.Option.{Option}
use native.Mathlib.Nat.{div-mul-le_self}
use native.Mathlib.Omega.{arith}
use lib.Dec.{eqb}
use lib.ListN.{length, get_or}
use lib.Seq.{ext_get_or}
use Rattle.general.specs.Least.{least, is_some}
use Rattle.general.specs.Scatter.{all, zeros}
use Rattle.general.specs.Places.{written}
use Rattle.general.proofs.LeastLaws.{least_same}
use Rattle.general.proofs.ScatterLaws.{scatter_both}
use Rattle.general.proofs.PlaceLaws.{written_length}
use Rattle.settings.specs.Settings.{valid_vectors}
use Rattle.settings.specs.declared.Settings.{Settings}
use Rattle.settings.proofs.SettingsLaws.{vector_valid}
use Rattle.tiles.specs.Element.{bytes_of}
use Rattle.tiles.specs.Predicate.{active}
use Rattle.tiles.specs.declared.slice.TileSlice.{TileSlice}
use Rattle.tiles.specs.declared.element.ElementSize.TheVariants.{Bits8}
use Rattle.tiles.proofs.LengthLaws.{whole_elements}
use Rattle.encoding.specs.Flat.{registers_of}
use Rattle.encoding.specs.Range.{SliceInRange, ArrayInRange, InRange}
use Rattle.encoding.specs.declared.operation.ArrayToVectors.{ArrayToVectors}
use Rattle.encoding.specs.declared.operation.SliceAccess.{SliceAccess}
use Rattle.encoding.specs.declared.operation.Operation.{Operation}
use Rattle.encoding.specs.declared.operation.Operation.TheVariants.{MovaToTile, MovazFromTile, MovaFromArray, MovazFromArray, St1, MovaFromTile, Ld1}
use Rattle.semantics.specs.declared.answer.Refusal.{Refusal}
use Rattle.semantics.specs.declared.answer.Refusal.TheVariants.{StreamingOff, ZaOff, StackMisaligned}
use Rattle.semantics.specs.State.{State, state_of, public_of}
use Rattle.semantics.specs.Access.{base_of, address_of, in_memory}
use Rattle.semantics.specs.Effect.{active_under, slice_byte, group_byte, memory_byte, writes_of, slice_value, group_value, loaded_value, values_of, effect_of}
use Rattle.semantics.specs.Execute.{guard, fault_answer, fault_of, faulting, access_active, access_answer, operation_answer, word_answer}
use Rattle.long_buffers.specs.Within.{AgreeWithin}
use Rattle.long_buffers.proofs.PlaceLaws.{Inside, slice_inside, group_inside}
use Rattle.encoding.specs.declared.operation.DecodeRefusal.{DecodeRefusal}
use Rattle.encoding.specs.declared.operation.DecodeRefusal.TheVariants.{BadLevel, Undecodable}

-- the two states: X and memory are the same
module _ (s : Settings) (laid : valid_vectors s ≡ true) (x z z' p p' za za' memory : List ℕ) (agree : AgreeWithin s (state_of x z p za memory) (state_of x z' p' za' memory)) where
  abbrev B : ℕ
  B = s.vector_bytes

  abbrev t : State
  t = state_of x z p za memory

  abbrev u : State
  u = state_of x z' p' za' memory

  -- ---- what is active

  active_same : (pg : ℕ) (o : TileSlice) (k : ℕ) → k < B → active_under s p pg o k ≡ active_under s p' pg o k
  unfolding active
  active_same pg o k h =
      let i = k / bytes_of o.size * bytes_of o.size in
      let below : i / 8 < B / 8 = omega (arith, div-mul-le_self k (bytes_of o.size), (whole_elements Bits8 B (vector_valid s laid)).eights) in
      ap (λ (b : ℕ). eqb (b / 2 ^ (i % 8) % 2) 1) (agree.p pg (i / 8) below)

  -- ---- the answer

  access_same : (o : SliceAccess) → access_answer s x p (length memory) o ≡ access_answer s x p' (length memory) o
  unfolding access_answer
  access_same o =
      let lm = length memory in
      let on = least_same (access_active s x p lm o) (access_active s x p' lm o) B (active_same o.pg o.slice) in
      let fault = least_same (faulting s x p lm o) (faulting s x p' lm o) B (λ k h. ap (λ (b : Bool). b && not (in_memory s.memory_address lm (address_of x o k))) (active_same o.pg o.slice k h)) in
      ap (λ (f : Option ℕ). guard (not (eqb o.rn 31 && is_some f && not (eqb (base_of x o.rn % 16) 0) && s.stack_check)) StackMisaligned (fault_answer s x p lm o (fault_of s x p lm o))) on ∙
      ap (λ (f : Option ℕ). guard (not (eqb o.rn 31 && is_some (least (access_active s x p' lm o) B) && not (eqb (base_of x o.rn % 16) 0) && s.stack_check)) StackMisaligned (fault_answer s x p lm o f)) fault

  operation_same : (o : Operation) → operation_answer s x p (length memory) o ≡ operation_answer s x p' (length memory) o
  operation_same (MovaToTile o) = refl
  operation_same (MovazFromTile o) = refl
  operation_same (MovaFromArray o) = refl
  operation_same (MovazFromArray o) = refl
  operation_same (St1 o) = access_same o
  operation_same (MovaFromTile o) = refl
  operation_same (Ld1 o) = access_same o

  pub word_same : (d : Result Operation DecodeRefusal) → word_answer s x p (length memory) d ≡ word_answer s x p' (length memory) d
  word_same (Ok o) = ap (λ (a : Result ⊤ Refusal). guard s.streaming StreamingOff (guard s.za ZaOff a)) (operation_same o)
  word_same (Err BadLevel) = refl
  word_same (Err Undecodable) = refl

  -- ---- what is read

  inside_same : (i : ℕ) → Inside s laid B i → get_or za i 0 ≡ get_or za' i 0
  inside_same i h = rw h.place (agree.za h.vector h.byte h.few h.below)

  slice_same : (o : TileSlice) → SliceInRange o → (k : ℕ) → k < B → slice_value s t o k ≡ slice_value s u o k
  slice_same o r k h = inside_same (slice_byte s x o k) (slice_inside s laid x o r k h)

  group_same : (o : ArrayToVectors) → ArrayInRange o → (k : ℕ) → k < registers_of o.registers * B → group_value s t o k ≡ group_value s u o k
  group_same o r k h = inside_same (group_byte s x o k) (group_inside s laid x o r k h)

  loaded_same : (o : SliceAccess) (k : ℕ) → k < B → loaded_value s t o k ≡ loaded_value s u o k
  loaded_same o k h = ap (λ (b : Bool). cond b (get_or memory (memory_byte s x o k) 0) 0) (active_same o.pg o.slice k h)

  -- ---- what is written: bytes of two buffers that are the same are so afterwards

  abbrev Both : (Operation → State → List ℕ) → List ℕ → List ℕ → Operation → Type 0
  Both after l l' o = (i : ℕ) → get_or l i 0 ≡ get_or l' i 0 → get_or (after o t) i 0 ≡ get_or (after o u) i 0

  -- each buffer as an operation leaves it
  abbrev z_after : Operation → State → List ℕ
  z_after o a = written (writes_of s (public_of a) o).z (values_of s o a).z a.z

  abbrev za_after : Operation → State → List ℕ
  za_after o a = written (writes_of s (public_of a) o).za (values_of s o a).za a.za

  abbrev memory_after : Operation → State → List ℕ
  memory_after o a = written (writes_of s (public_of a) o).memory (values_of s o a).memory a.memory

  z_both : (o : Operation) → InRange o → Both z_after z z' o
  unfolding writes_of values_of
  z_both (MovaToTile o) r i e = scatter_both _ all all zeros zeros 0 z z' i (λ k h. refl) (λ k h. refl) agree.z_long e
  z_both (MovazFromTile o) r i e = scatter_both _ all all _ _ B z z' i (λ k h. refl) (slice_same o.slice r.slice) agree.z_long e
  z_both (MovaFromArray o) r i e = scatter_both _ all all _ _ _ z z' i (λ k h. refl) (group_same o r) agree.z_long e
  z_both (MovazFromArray o) r i e = scatter_both _ all all _ _ _ z z' i (λ k h. refl) (group_same o r) agree.z_long e
  z_both (St1 o) r i e = scatter_both _ all all zeros zeros 0 z z' i (λ k h. refl) (λ k h. refl) agree.z_long e
  z_both (MovaFromTile o) r i e = scatter_both _ _ _ _ _ B z z' i (active_same o.pg o.whole.slice) (slice_same o.whole.slice r.whole.slice) agree.z_long e
  z_both (Ld1 o) r i e = scatter_both _ all all zeros zeros 0 z z' i (λ k h. refl) (λ k h. refl) agree.z_long e

  za_both : (o : Operation) → InRange o → Both za_after za za' o
  unfolding writes_of values_of
  za_both (MovaToTile o) r i e = scatter_both _ _ _ _ _ B za za' i (active_same o.pg o.slice) (agree.z o.zn) agree.za_long e
  za_both (MovazFromTile o) r i e = scatter_both _ all all zeros zeros B za za' i (λ k h. refl) (λ k h. refl) agree.za_long e
  za_both (MovaFromArray o) r i e = scatter_both _ all all zeros zeros 0 za za' i (λ k h. refl) (λ k h. refl) agree.za_long e
  za_both (MovazFromArray o) r i e = scatter_both _ all all zeros zeros _ za za' i (λ k h. refl) (λ k h. refl) agree.za_long e
  za_both (St1 o) r i e = scatter_both _ all all zeros zeros 0 za za' i (λ k h. refl) (λ k h. refl) agree.za_long e
  za_both (MovaFromTile o) r i e = scatter_both _ all all zeros zeros 0 za za' i (λ k h. refl) (λ k h. refl) agree.za_long e
  za_both (Ld1 o) r i e = scatter_both _ all all _ _ B za za' i (λ k h. refl) (loaded_same o) agree.za_long e

  memory_both : (o : Operation) → InRange o → Both memory_after memory memory o
  unfolding writes_of values_of
  memory_both (MovaToTile o) r i e = refl
  memory_both (MovazFromTile o) r i e = refl
  memory_both (MovaFromArray o) r i e = refl
  memory_both (MovazFromArray o) r i e = refl
  memory_both (St1 o) r i e = scatter_both _ _ _ _ _ B memory memory i (active_same o.pg o.slice) (slice_same o.slice r.slice) refl e
  memory_both (MovaFromTile o) r i e = refl
  memory_both (Ld1 o) r i e = refl

  pub effect_agrees : (o : Operation) → InRange o → AgreeWithin s (effect_of s o t) (effect_of s o u)
  unfolding effect_of
  effect_agrees o r =
      record {
        x = refl;
        memory = ext_get_or 0 (memory_after o t) (memory_after o u) (written_length _ _ memory ∙ sym (written_length _ _ memory)) (λ i w. memory_both o r i refl);
        z_long = written_length _ _ z ∙ agree.z_long ∙ sym (written_length _ _ z');
        p_long = agree.p_long;
        za_long = written_length _ _ za ∙ agree.za_long ∙ sym (written_length _ _ za');
        z = λ v k h. z_both o r _ (agree.z v k h);
        p = agree.p;
        za = λ v k hv hk. za_both o r _ (agree.za v k hv hk);
      }
