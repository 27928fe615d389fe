-- The effect of each operation in the words of specs/Operations.antt: what it leaves at each byte of a slice, of a register, of a group, and beside them.
-- Assumes nothing.
use Rattle.std.specs.Prelude.{Ok}
use Prim.Native.Nat.{ℕ, suc, ◌+◌, ◌*◌, ◌/◌, ◌%◌, ◌^◌, ◌<◌, ◌≤◌}
use mathlib.Core.Path.{◌≡◌, refl, sym, ap, ◌∙◌}
use mathlib.Core.Bool.{Bool, true, false, cond, ◌&&◌, not, true≢false}
use mathlib.Core.Option.{Option, none, some}
use mathlib.Core.List.{List}
use native.Mathlib.Nat.{mod-lt, mul-le-mul_right, suc-mul, div-add-mod', add-mul}
use native.Mathlib.Omega.{arith}
use lib.Arith.{digits_lt, digits_div, digits_mod}
use lib.Dec.{leb, ltb}
use lib.ListN.{length, get_or}
use borrow.Author.Tests.{eqb-true, eq-eqb, leb-true, ltb-true}
use Rattle.general.specs.Scatter.{scatter, all, zeros, onwards}
use Rattle.general.proofs.BoolLaws.{and_parts, refute}
use Rattle.general.proofs.LeastLaws.{least_none}
use Rattle.general.proofs.ScatterLaws.{get_or-scatter, get_or-scatter_other}
use Rattle.settings.specs.Settings.{is_vector_length, max_vector_bytes, stride_of}
use Rattle.settings.specs.declared.Settings.{Settings}
use Rattle.settings.proofs.SettingsLaws.{five_lengths, vector_length_long, vector_valid, stride_fits}
use Rattle.tiles.specs.Element.{bytes_of}
use Rattle.tiles.specs.Predicate.{active}
use Rattle.tiles.specs.Tile.{byte_of, slice_at}
use Rattle.tiles.specs.declared.direction.Direction.{Direction}
use Rattle.tiles.specs.declared.direction.Direction.TheVariants.{Horizontal, Vertical}
use Rattle.tiles.specs.declared.slice.TileSlice.{TileSlice}
use Rattle.tiles.proofs.LengthLaws.{whole_elements}
use Rattle.tiles.proofs.TileLaws.{slice_at_element, element_within, byte_within}
use Rattle.tiles.proofs.SliceLaws.{active_element, written_at}
use Rattle.tiles.proofs.GroupLaws.{group_at-vector, group_at_lem, vectors_at, vectors_other}
use Rattle.tiles.proofs.Claims.{groups_differ}
use Rattle.tiles.specs.Group.{group_at}
use Rattle.tiles.specs.Claims.{GroupDiffers}
use Rattle.encoding.specs.Flat.{registers_of}
use Rattle.encoding.specs.Range.{SliceInRange, ToTileInRange, FromTileInRange, PredicatedInRange, ArrayInRange, AccessInRange, InRange}
use Rattle.encoding.specs.Steps.{array_move}
use Rattle.encoding.specs.declared.operation.VectorToTile.{VectorToTile}
use Rattle.encoding.specs.declared.operation.TileToVector.{TileToVector}
use Rattle.encoding.specs.declared.operation.PredicatedTileToVector.{PredicatedTileToVector}
use Rattle.encoding.specs.declared.operation.Operation.{Operation}
use Rattle.encoding.specs.declared.operation.Operation.TheVariants.{MovaToTile, MovazFromTile, MovaFromArray, MovazFromArray, St1, MovaFromTile, Ld1}
use Rattle.encoding.specs.declared.operation.SliceAccess.{SliceAccess}
use Rattle.encoding.specs.declared.operation.ArrayToVectors.{ArrayToVectors}
use Rattle.encoding.specs.declared.operation.RegisterCount.{RegisterCount}
use Rattle.encoding.specs.declared.operation.RegisterCount.TheVariants.{Two, Four}
use Rattle.semantics.specs.State.{State}
use Rattle.semantics.specs.Access.{base_of, offset_of, address_of, in_memory}
use Rattle.semantics.specs.Effect.{slice_byte, group_in, group_byte, memory_byte, active_under, registers_byte, writes_of, slice_value, group_value, register_value, loaded_value, values_of, effect_of}
use Rattle.semantics.specs.Execute.{faulting, fault_of, fault_answer, stack_bad, access_answer, operation_answer}
use Rattle.semantics.specs.Operations.{tile_byte, elements_in, slice_number_in, in_slice, in_register, Active, EachByte, first_vector, in_group, in_registers, EachVector, address_in, ActiveInside, OthersStay, ToTile, FromTileZeroing, FromTile, TakesVectors, FromArray, FromArrayZeroing, ToMemory, FromMemory, Means}
use Rattle.semantics.proofs.ExecuteLaws.{refused_not_done, guard_done, SizedAt}

-- a choice by a test that passes, and by one that fails
cond_on : (b : Bool) (x y : ℕ) → b ≡ true → cond b x y ≡ x
cond_on true x y e = refl
cond_on false x y e = cc

cond_off : (b : Bool) (x y : ℕ) → b ≡ false → cond b x y ≡ y
cond_off true x y e = cc
cond_off false x y e = refl

-- both definitions of where a byte of a tile lies
tile_byte_lem : (S m t : ℕ) (d : Direction) (j e i : ℕ) → byte_of S m t d j e i ≡ tile_byte S m t d j e i
unfolding byte_of
tile_byte_lem S m t Horizontal j e i = refl
tile_byte_lem S m t Vertical j e i = refl

-- what a done execution says of a slice
record SliceFits (s : Settings) (t : State) (o : TileSlice) : Type 0 where
  whole : elements_in s o * bytes_of o.size ≡ s.vector_bytes
  apart : s.vector_bytes ≤ stride_of s
  tile : o.tile < bytes_of o.size
  number : slice_number_in s t o < elements_in s o
  long : s.vector_bytes * stride_of s ≤ length t.za

slice_fits : (s : Settings) (t : State) (o : TileSlice) → SizedAt s t → SliceInRange o → SliceFits s t o
slice_fits s t o h r =
    let w = whole_elements o.size s.vector_bytes (vector_valid s h.vectors) in
    let fit = (stride_fits s h.vectors).fit in
    record { whole = w.elements; apart = fit; tile = r.tile; number = mod-lt _ w.slices; long = omega (arith, h.za, mul-le-mul_right (stride_of s) fit) }

module _ (s : Settings) (t : State) (o : TileSlice) where
  -- ---- active elements

  active_on : (pg e i : ℕ) → i < bytes_of o.size → Active s t o pg e → active_under s t.p pg o (e * bytes_of o.size + i) ≡ true
  active_on pg e i h a = active_element t.p (pg * (stride_of s / 8)) (bytes_of o.size) e i h ∙ eq-eqb _ 1 a

  active_off : (pg e i : ℕ) → i < bytes_of o.size → (Active s t o pg e → ⊥) → active_under s t.p pg o (e * bytes_of o.size + i) ≡ false
  active_off pg e i h n = active_element t.p (pg * (stride_of s / 8)) (bytes_of o.size) e i h ∙ refute _ (λ y. n (eqb-true _ 1 y))

  -- ---- a slice

  element_byte : SliceFits s t o → (e i : ℕ) → i < bytes_of o.size → slice_byte s t.x o (e * bytes_of o.size + i) ≡ in_slice s t o e i
  element_byte fits e i h =
      slice_at_element (stride_of s) s.vector_bytes (bytes_of o.size) (elements_in s o) fits.whole fits.apart o.tile fits.tile o.direction (slice_number_in s t o) e i h ∙
      tile_byte_lem (stride_of s) (bytes_of o.size) o.tile o.direction (slice_number_in s t o) e i

  module _ (fits : SliceFits s t o) (on : ℕ → Bool) (val : ℕ → ℕ) where
    slice_at_lem : (e i : ℕ) → e < elements_in s o → i < bytes_of o.size → get_or (scatter (slice_byte s t.x o) on val s.vector_bytes t.za) (in_slice s t o e i) 0 ≡ cond (on (e * bytes_of o.size + i)) (val (e * bytes_of o.size + i)) (get_or t.za (in_slice s t o e i) 0)
    slice_at_lem e i he hi =
        rw (← tile_byte_lem (stride_of s) (bytes_of o.size) o.tile o.direction (slice_number_in s t o) e i)
        (written_at (stride_of s) s.vector_bytes (bytes_of o.size) (elements_in s o) fits.whole fits.apart o.tile fits.tile o.direction on val t.za (slice_number_in s t o) e i fits.long fits.number he hi)

    slice_beside : OthersStay (λ q. EachByte s o (λ e i. q ≡ in_slice s t o e i → ⊥)) t.za (scatter (slice_byte s t.x o) on val s.vector_bytes t.za)
    unfolding slice_at
    slice_beside q h =
        get_or-scatter_other (slice_byte s t.x o) on val s.vector_bytes t.za q
        (λ k w y e. h (k / bytes_of o.size) (k % bytes_of o.size)
        (element_within (stride_of s) s.vector_bytes (bytes_of o.size) (elements_in s o) fits.whole fits.apart o.tile fits.tile k w)
        (byte_within (stride_of s) s.vector_bytes (bytes_of o.size) (elements_in s o) fits.whole fits.apart o.tile fits.tile k)
        (e ∙ tile_byte_lem (stride_of s) (bytes_of o.size) o.tile o.direction (slice_number_in s t o) (k / bytes_of o.size) (k % bytes_of o.size)))

    -- ---- a register

    register_at : (v e i : ℕ) → v * stride_of s + s.vector_bytes ≤ length t.z → e < elements_in s o → i < bytes_of o.size → get_or (scatter (onwards (v * stride_of s)) on val s.vector_bytes t.z) (in_register s o v e i) 0 ≡ cond (on (e * bytes_of o.size + i)) (val (e * bytes_of o.size + i)) (get_or t.z (in_register s o v e i) 0)
    register_at v e i room he hi =
        let k : e * bytes_of o.size + i < s.vector_bytes = rw (← fits.whole) (digits_lt he hi) in
        get_or-scatter (onwards (v * stride_of s)) on val s.vector_bytes t.z (e * bytes_of o.size + i) k (omega arith) (λ j w y ne q. ne (omega arith))

    register_beside : (v : ℕ) → OthersStay (λ q. EachByte s o (λ e i. q ≡ in_register s o v e i → ⊥)) t.z (scatter (onwards (v * stride_of s)) on val s.vector_bytes t.z)
    register_beside v q h =
        get_or-scatter_other (onwards (v * stride_of s)) on val s.vector_bytes t.z q
        (λ k w y e. h (k / bytes_of o.size) (k % bytes_of o.size)
        (element_within (stride_of s) s.vector_bytes (bytes_of o.size) (elements_in s o) fits.whole fits.apart o.tile fits.tile k w)
        (byte_within (stride_of s) s.vector_bytes (bytes_of o.size) (elements_in s o) fits.whole fits.apart o.tile fits.tile k)
        (e ∙ ap (λ (j : ℕ). v * stride_of s + j) (sym (div-add-mod' k (bytes_of o.size)))))

-- ---- a group

-- what a done execution says of a group: r vectors below B that differ, r registers below 32
record GroupFits (s : Settings) (t : State) (o : ArrayToVectors) : Type 0 where
  some : 0 < s.vector_bytes
  apart : s.vector_bytes ≤ stride_of s
  whole : registers_of o.registers * (s.vector_bytes / registers_of o.registers) ≡ s.vector_bytes
  first : first_vector s t o < s.vector_bytes / registers_of o.registers
  long : s.vector_bytes * stride_of s ≤ length t.za
  room : (o.zd + registers_of o.registers) * stride_of s ≤ length t.z

pub few_registers : (r : RegisterCount) → (registers_of r ≤ 4) × (0 < registers_of r)
few_registers Two = (omega arith, omega arith)
few_registers Four = (omega arith, omega arith)

pub whole_groups : (r : RegisterCount) (B : ℕ) → is_vector_length B ≡ true → (registers_of r * (B / registers_of r) ≡ B) × (0 < B / registers_of r)
whole_groups Two = five_lengths (λ B. (2 * (B / 2) ≡ B) × (0 < B / 2)) (omega arith, omega arith) (omega arith, omega arith) (omega arith, omega arith) (omega arith, omega arith) (omega arith, omega arith)
whole_groups Four = five_lengths (λ B. (4 * (B / 4) ≡ B) × (0 < B / 4)) (omega arith, omega arith) (omega arith, omega arith) (omega arith, omega arith) (omega arith, omega arith) (omega arith, omega arith)

group_fits : (s : Settings) (t : State) (o : ArrayToVectors) → SizedAt s t → ArrayInRange o → GroupFits s t o
group_fits s t o h r =
    let v = vector_valid s h.vectors in
    let fit = (stride_fits s h.vectors).fit in
    let w = whole_groups o.registers s.vector_bytes v in
    record {
      some = omega (arith, vector_length_long _ v);
      apart = fit;
      whole = w.0;
      first = mod-lt _ w.1;
      long = omega (arith, h.za, mul-le-mul_right (stride_of s) fit);
      room = omega (arith, h.z, mul-le-mul_right (stride_of s) r.vectors);
    }

module _ (s : Settings) (t : State) (o : ArrayToVectors) (fits : GroupFits s t o) (val : ℕ → ℕ) where
  -- vector j of the group, and that they differ
  abbrev vector_of : ℕ → ℕ
  vector_of j = get_or (group_in s t.x o) j 0

  group_differs : GroupDiffers s.vector_bytes (registers_of o.registers) (first_vector s t o)
  group_differs = groups_differ s.vector_bytes (registers_of o.registers) (s.vector_bytes / registers_of o.registers) (first_vector s t o) (few_registers o.registers).0 (omega (arith, fits.first)) fits.whole fits.first

  group_vector : (j k : ℕ) → j < registers_of o.registers → vector_of j * stride_of s + k ≡ in_group s t o j k
  group_vector j k h = ap (λ (v : ℕ). v * stride_of s + k) (group_at_lem s.vector_bytes (registers_of o.registers) (first_vector s t o) j (omega (arith, (few_registers o.registers).0)))

  group_zeroed : (j k : ℕ) → j < registers_of o.registers → k < s.vector_bytes → get_or (scatter (group_byte s t.x o) all val (registers_of o.registers * s.vector_bytes) t.za) (in_group s t o j k) 0 ≡ val (j * s.vector_bytes + k)
  unfolding group_at
  group_zeroed j k hj hk =
      let below : vector_of j * stride_of s + k < s.vector_bytes * stride_of s = digits_lt (group_differs.below j hj) (omega (arith, fits.apart)) in
      rw (← group_vector j k hj) (vectors_at (stride_of s) s.vector_bytes (registers_of o.registers) fits.some fits.apart vector_of group_differs.differ val t.za j k hj hk (omega (arith, fits.long)))

  group_beside : OthersStay (λ q. EachVector s o (λ j k. q ≡ in_group s t o j k → ⊥)) t.za (scatter (group_byte s t.x o) all val (registers_of o.registers * s.vector_bytes) t.za)
  unfolding group_at
  group_beside q h = vectors_other (stride_of s) s.vector_bytes (registers_of o.registers) fits.some fits.apart vector_of group_differs.differ val t.za q (λ j k hj hk e. h j k hj hk (e ∙ group_vector j k hj))

  -- and the registers
  register_differs : (i j : ℕ) → i < registers_of o.registers → j < registers_of o.registers → o.zd + i ≡ o.zd + j → i ≡ j
  register_differs i j hi hj e = omega arith

  registers_at : (j k : ℕ) → j < registers_of o.registers → k < s.vector_bytes → get_or (scatter (registers_byte s o.zd) all val (registers_of o.registers * s.vector_bytes) t.z) (in_registers s o j k) 0 ≡ val (j * s.vector_bytes + k)
  registers_at j k hj hk =
      let below : (o.zd + j) * stride_of s + k < (o.zd + registers_of o.registers) * stride_of s = digits_lt (omega arith) (omega (arith, fits.apart)) in
      vectors_at (stride_of s) s.vector_bytes (registers_of o.registers) fits.some fits.apart (λ j. o.zd + j) register_differs val t.z j k hj hk (omega (arith, fits.room))

  registers_beside : OthersStay (λ q. EachVector s o (λ j k. q ≡ in_registers s o j k → ⊥)) t.z (scatter (registers_byte s o.zd) all val (registers_of o.registers * s.vector_bytes) t.z)
  registers_beside q h = vectors_other (stride_of s) s.vector_bytes (registers_of o.registers) fits.some fits.apart (λ j. o.zd + j) register_differs val t.z q h

-- ---- memory

-- what a done execution says of a load or store: every byte of an active element is in memory
record AccessFits (s : Settings) (t : State) (o : SliceAccess) : Type 0 where
  slice : SliceFits s t o.slice
  few : s.vector_bytes ≤ max_vector_bytes
  inside : (k : ℕ) → k < s.vector_bytes → active_under s t.p o.pg o.slice k ≡ true → in_memory s.memory_address (length t.memory) (address_of t.x o k) ≡ true

-- a test that fails with a part that passes fails by the other
and_not : (a b : Bool) → a && not b ≡ false → a ≡ true → b ≡ true
and_not a true e h = refl
and_not true false e h = absurd (true≢false e)
and_not false false e h = absurd (true≢false (sym h))

fault_none : (s : Settings) (x p : List ℕ) (lm : ℕ) (o : SliceAccess) → access_answer s x p lm o ≡ Ok tt → fault_of s x p lm o ≡ none
unfolding access_answer
fault_none s x p lm o e = go (fault_of s x p lm o) (guard_done (not (stack_bad s x p lm o)) _ _ e).1
  where
    go : (f : Option ℕ) → fault_answer s x p lm o f ≡ Ok tt → f ≡ none
    go none e = refl
    go (some k) e = absurd (refused_not_done _ e)

access_fits : (s : Settings) (t : State) (o : SliceAccess) → SizedAt s t → AccessInRange o → access_answer s t.x t.p (length t.memory) o ≡ Ok tt → AccessFits s t o
access_fits s t o h r e =
    record {
      slice = slice_fits s t o.slice h r.slice;
      few = (whole_elements o.slice.size s.vector_bytes (vector_valid s h.vectors)).longest;
      inside = λ k w y. and_not _ _ (least_none (faulting s t.x t.p (length t.memory) o) s.vector_bytes (fault_none s t.x t.p (length t.memory) o e) k w) y;
    }

module _ (s : Settings) (t : State) (o : SliceAccess) (fits : AccessFits s t o) where
  -- the bytes of a slice are at addresses that follow one another, so no two are the same
  address_follows : (k : ℕ) → address_of t.x o k ≡ (base_of t.x o.rn + offset_of t.x o.rm * bytes_of o.slice.size + k) % 2 ^ 64
  address_follows k =
      let m = bytes_of o.slice.size in
      let c = offset_of t.x o.rm in
      ap (λ (a : ℕ). a % 2 ^ 64) (omega (arith, add-mul c (k / m) m, div-add-mod' k m))

  address_same : (j k : ℕ) → j < s.vector_bytes → k < s.vector_bytes → address_of t.x o j ≡ address_of t.x o k → j ≡ k
  address_same j k hj hk e = omega (arith, fits.few, address_follows j, address_follows k)

  -- a byte that is in memory
  in_bounds : (k : ℕ) → k < s.vector_bytes → active_under s t.p o.pg o.slice k ≡ true → (s.memory_address ≤ address_of t.x o k) × (address_of t.x o k < s.memory_address + length t.memory)
  in_bounds k w y =
      let h = and_parts (leb s.memory_address (address_of t.x o k)) (ltb (address_of t.x o k) (s.memory_address + length t.memory)) (fits.inside k w y) in
      (leb-true _ _ h.0, ltb-true _ _ h.1)

  address_element : (e i : ℕ) → i < bytes_of o.slice.size → address_of t.x o (e * bytes_of o.slice.size + i) ≡ address_in t.x o e i
  address_element e i h = rw (digits_div e h, digits_mod e h)

  slice_byte_lem : (e i : ℕ) → i < bytes_of o.slice.size → slice_byte s t.x o.slice (e * bytes_of o.slice.size + i) ≡ in_slice s t o.slice e i
  slice_byte_lem e i h = element_byte s t o.slice fits.slice e i h

  stored_at : (e i q : ℕ) → e < elements_in s o.slice → i < bytes_of o.slice.size → Active s t o.slice o.pg e → s.memory_address + q ≡ address_in t.x o e i →
      get_or (scatter (memory_byte s t.x o) (active_under s t.p o.pg o.slice) (slice_value s t o.slice) s.vector_bytes t.memory) q 0 ≡ get_or t.za (in_slice s t o.slice e i) 0
  stored_at e i q he hi a r =
      let k = e * bytes_of o.slice.size + i in
      let w : k < s.vector_bytes = rw (← fits.slice.whole) (digits_lt he hi) in
      let on = active_under s t.p o.pg o.slice in
      let y : on k ≡ true = active_on s t o.slice o.pg e i hi a in
      let b = in_bounds k w y in
      let place : memory_byte s t.x o k ≡ q = omega (arith, address_element e i hi) in
      rw (← place)
      (get_or-scatter (memory_byte s t.x o) on (slice_value s t o.slice) s.vector_bytes t.memory k w (omega (arith, b.0, b.1))
      (λ j v yj ne same. let c = in_bounds j v yj in ne (address_same j k v w (omega (arith, b.0, c.0, same)))) ∙
      cond_on (on k) _ _ y ∙ ap (λ (n : ℕ). get_or t.za n 0) (slice_byte_lem e i hi))

  stored_beside : OthersStay (λ q. EachByte s o.slice (λ e i. Active s t o.slice o.pg e → s.memory_address + q ≡ address_in t.x o e i → ⊥)) t.memory (scatter (memory_byte s t.x o) (active_under s t.p o.pg o.slice) (slice_value s t o.slice) s.vector_bytes t.memory)
  unfolding active
  stored_beside q h =
      let m = bytes_of o.slice.size in
      let f = fits.slice in
      get_or-scatter_other (memory_byte s t.x o) (active_under s t.p o.pg o.slice) (slice_value s t o.slice) s.vector_bytes t.memory q
      (λ k w y e. h (k / m) (k % m)
      (element_within (stride_of s) s.vector_bytes m (elements_in s o.slice) f.whole f.apart o.slice.tile f.tile k w)
      (byte_within (stride_of s) s.vector_bytes m (elements_in s o.slice) f.whole f.apart o.slice.tile f.tile k)
      (eqb-true _ 1 y) (let b = in_bounds k w y in omega (arith, b.0, e)))

-- ---- each operation

-- a register of a state of the right lengths
register_room : (s : Settings) (t : State) (v : ℕ) → SizedAt s t → v < 32 → v * stride_of s + s.vector_bytes ≤ length t.z
register_room s t v h w =
    let r : suc v * stride_of s ≤ 32 * stride_of s = mul-le-mul_right (stride_of s) w in
    omega (arith, suc-mul v (stride_of s), h.z, (stride_fits s h.vectors).fit)

module _ (s : Settings) (t : State) (h : SizedAt s t) where
  to_tile_lem : (o : VectorToTile) → ToTileInRange o → ToTile s t (effect_of s (MovaToTile o) t) o
  unfolding writes_of values_of effect_of scatter
  to_tile_lem o r =
      let f = slice_fits s t o.slice h r.slice in
      let on = active_under s t.p o.pg o.slice in
      let val = register_value s t o.zn in
      record {
        active = λ e i he hi a. slice_at_lem s t o.slice f on val e i he hi ∙ cond_on _ _ _ (active_on s t o.slice o.pg e i hi a);
        inactive = λ e i he hi a. slice_at_lem s t o.slice f on val e i he hi ∙ cond_off _ _ _ (active_off s t o.slice o.pg e i hi a);
        za = slice_beside s t o.slice f on val;
        z = refl;
        memory = refl;
      }

  from_tile_zeroing : (o : TileToVector) → FromTileInRange o → FromTileZeroing s t (effect_of s (MovazFromTile o) t) o
  unfolding writes_of values_of effect_of scatter
  from_tile_zeroing o r =
      let f = slice_fits s t o.slice h r.slice in
      let val = slice_value s t o.slice in
      record {
        takes = λ e i he hi. register_at s t o.slice f all val o.zd e i (register_room s t o.zd h r.vector) he hi ∙ ap (λ (n : ℕ). get_or t.za n 0) (element_byte s t o.slice f e i hi);
        zero = λ e i he hi. slice_at_lem s t o.slice f all zeros e i he hi;
        z = register_beside s t o.slice f all val o.zd;
        za = slice_beside s t o.slice f all zeros;
        memory = refl;
      }

  from_tile_lem : (o : PredicatedTileToVector) → PredicatedInRange o → FromTile s t (effect_of s (MovaFromTile o) t) o
  unfolding writes_of values_of effect_of scatter
  from_tile_lem o r =
      let q = o.whole.slice in
      let v = o.whole.zd in
      let f = slice_fits s t q h r.whole.slice in
      let on = active_under s t.p o.pg q in
      let val = slice_value s t q in
      let room = register_room s t v h r.whole.vector in
      record {
        active = λ e i he hi a. register_at s t q f on val v e i room he hi ∙ cond_on _ _ _ (active_on s t q o.pg e i hi a) ∙ ap (λ (n : ℕ). get_or t.za n 0) (element_byte s t q f e i hi);
        inactive = λ e i he hi a. register_at s t q f on val v e i room he hi ∙ cond_off _ _ _ (active_off s t q o.pg e i hi a);
        z = register_beside s t q f on val v;
        za = refl;
        memory = refl;
      }

  takes_vectors : (zeroing : Bool) (o : ArrayToVectors) → ArrayInRange o → TakesVectors s t (effect_of s (array_move zeroing o) t) o
  unfolding writes_of values_of effect_of scatter
  takes_vectors zeroing o r = go zeroing
    where
      f : GroupFits s t o
      f = group_fits s t o h r

      taken : EachVector s o (λ j k. get_or (scatter (registers_byte s o.zd) all (group_value s t o) (registers_of o.registers * s.vector_bytes) t.z) (in_registers s o j k) 0 ≡ get_or t.za (in_group s t o j k) 0)
      taken j k hj hk =
          registers_at s t o f (group_value s t o) j k hj hk ∙
          ap (λ (n : ℕ). get_or t.za n 0) (group_at-vector (stride_of s) s.vector_bytes (group_in s t.x o) j k hk ∙ group_vector s t o f (group_value s t o) j k hj)

      go : (b : Bool) → TakesVectors s t (effect_of s (array_move b o) t) o
      go true = record { takes = taken; z = registers_beside s t o f (group_value s t o); memory = refl }
      go false = record { takes = taken; z = registers_beside s t o f (group_value s t o); memory = refl }

  from_array : (o : ArrayToVectors) → ArrayInRange o → FromArray s t (effect_of s (MovaFromArray o) t) o
  unfolding writes_of values_of effect_of scatter
  from_array o r = record { vectors = takes_vectors false o r; za = refl }

  from_array_zeroing : (o : ArrayToVectors) → ArrayInRange o → FromArrayZeroing s t (effect_of s (MovazFromArray o) t) o
  unfolding writes_of values_of effect_of
  from_array_zeroing o r =
      let f = group_fits s t o h r in
      record { vectors = takes_vectors true o r; zero = group_zeroed s t o f zeros; za = group_beside s t o f zeros }

  -- active bytes of a load or store are in memory
  access_inside : (o : SliceAccess) → AccessFits s t o → ActiveInside s t o
  access_inside o f e i he hi a =
      let k : e * bytes_of o.slice.size + i < s.vector_bytes = rw (← f.slice.whole) (digits_lt he hi) in
      rw (← address_element s t o f e i hi) (in_bounds s t o f _ k (active_on s t o.slice o.pg e i hi a))

  stores : (o : SliceAccess) → AccessFits s t o → ToMemory s t (effect_of s (St1 o) t) o
  unfolding writes_of values_of effect_of scatter
  stores o f =
      record {
        inside = access_inside o f;
        active = λ e i he hi q a r. stored_at s t o f e i q he hi a r;
        memory = stored_beside s t o f;
        z = refl;
        za = refl;
      }

  loads : (o : SliceAccess) → AccessFits s t o → FromMemory s t (effect_of s (Ld1 o) t) o
  unfolding writes_of values_of effect_of scatter
  loads o f =
      let val = loaded_value s t o in
      record {
        inside = access_inside o f;
        active = λ e i he hi q a r. slice_at_lem s t o.slice f.slice all val e i he hi ∙ cond_on _ _ _ (active_on s t o.slice o.pg e i hi a) ∙ ap (λ (n : ℕ). get_or t.memory n 0) (omega (arith, address_element s t o f e i hi));
        inactive = λ e i he hi a. slice_at_lem s t o.slice f.slice all val e i he hi ∙ cond_off _ _ _ (active_off s t o.slice o.pg e i hi a);
        za = slice_beside s t o.slice f.slice all val;
        z = refl;
        memory = refl;
      }

  -- an operation in range that is not refused
  pub effect_means : (o : Operation) → InRange o → operation_answer s t.x t.p (length t.memory) o ≡ Ok tt → Means s t (effect_of s o t) o
  effect_means (MovaToTile o) r e = to_tile_lem o r
  effect_means (MovazFromTile o) r e = from_tile_zeroing o r
  effect_means (MovaFromArray o) r e = from_array o r
  effect_means (MovazFromArray o) r e = from_array_zeroing o r
  effect_means (St1 o) r e = stores o (access_fits s t o h r e)
  effect_means (MovaFromTile o) r e = from_tile_lem o r
  effect_means (Ld1 o) r e = loads o (access_fits s t o h r e)
