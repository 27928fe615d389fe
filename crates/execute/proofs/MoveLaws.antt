-- What moves rely on, from checked buffers and an operation's ranges, and that what the leaves write is what the definitions say.
-- Assumes nothing.
use Prim.Native.Nat.{ℕ, ◌+◌, ◌*◌, ◌/◌, ◌%◌, ◌≤◌, ◌<◌}
use mathlib.Core.Path.{◌≡◌, refl, sym, ap, ap₂, ◌∙◌}
use mathlib.Core.Bool.{Bool, true, false, cond}
use mathlib.Core.List.{List, [], ◌∷◌}
use native.Mathlib.Nat.{mod-lt, div-lt_iff_lt-mul}
use native.Mathlib.Omega.{arith}
use lib.Arith.{digits_div, digits_mod}
use lib.ListN.{length, get_or}
use Rattle.general.specs.Scatter.{scatter, all, zeros, onwards}
use Rattle.general.proofs.ScatterLaws.{length-scatter, get_or-scatter_other}
use Rattle.settings.specs.Settings.{is_vector_length, max_vector_bytes, stride_of, lengths_of}
use Rattle.settings.specs.declared.Settings.{Settings}
use Rattle.settings.proofs.SettingsLaws.{five_lengths, vector_length_small, vector_valid, stride_fits}
use Rattle.tiles.specs.Element.{bytes_of}
use Rattle.tiles.specs.Slice.{PowerOfTwo}
use Rattle.tiles.specs.Predicate.{active}
use Rattle.tiles.specs.Span.{span_at, run_from, slice_span}
use Rattle.tiles.specs.Group.{group_of, group_at}
use Rattle.tiles.specs.declared.element.ElementSize.TheVariants.{Bits8, Bits16, Bits32}
use Rattle.tiles.specs.declared.slice.TileSlice.{TileSlice}
use Rattle.tiles.specs.declared.span.Span.{Span}
use Rattle.tiles.specs.Claims.{GroupDiffers}
use Rattle.tiles.proofs.Claims.{groups_differ}
use Rattle.tiles.proofs.LengthLaws.{elements_power}
use Rattle.tiles.proofs.SpanLaws.{Spanned, vector_spanned, slice_spanned}
use Rattle.tiles.proofs.TileLaws.{digits_same}
use Rattle.moves.specs.Paired.{Paired, Governed, governing_part, value_at, merged}
use Rattle.moves.proofs.BlockLaws.{written_none, written_block}
use Rattle.moves.proofs.SpanLaws.{spanned_paired, spanned_written, spanned_merged}
use Rattle.moves.proofs.PredicateLaws.{part_governs, part_active}
use Rattle.encoding.specs.Flat.{registers_of}
use Rattle.encoding.specs.Range.{SliceInRange}
use Rattle.encoding.specs.Steps.{array_move}
use Rattle.encoding.specs.declared.operation.RegisterCount.{RegisterCount}
use Rattle.encoding.specs.declared.operation.RegisterCount.TheVariants.{Two, Four}
use Rattle.encoding.specs.declared.operation.ArrayToVectors.{ArrayToVectors}
use Rattle.encoding.specs.declared.operation.VectorToTile.{VectorToTile}
use Rattle.encoding.specs.declared.operation.TileToVector.{TileToVector}
use Rattle.encoding.specs.declared.operation.PredicatedTileToVector.{PredicatedTileToVector}
use Rattle.encoding.specs.declared.operation.Operation.TheVariants.{MovaToTile, MovazFromTile, MovaFromTile}
use Rattle.semantics.specs.State.{state_of}
use Rattle.semantics.specs.Effect.{slice_byte, register_byte, group_in, active_under, registers_byte, writes_of, values_of, effect_of}
use Rattle.semantics.specs.Steps.{Sized, Moves}
use Rattle.execute.specs.Promise.{TakesVector, InGroup, GroupTaken}

-- ---- groups of vectors of the ZA array

-- groups of r vectors among B
pub record Groups (B r : ℕ) : Type 0 where
  pub few : r ≤ 4
  pub some : 0 < B / r
  pub most : B / r ≤ max_vector_bytes
  pub whole : r * (B / r) ≡ B

pub groups : (r : RegisterCount) (B : ℕ) → is_vector_length B ≡ true → Groups B (registers_of r)
groups Two = five_lengths (λ B. Groups B 2) (omega arith) (omega arith) (omega arith) (omega arith) (omega arith)
groups Four = five_lengths (λ B. Groups B 4) (omega arith) (omega arith) (omega arith) (omega arith) (omega arith)

-- as many as a vector has elements of r bytes
pub groups_power : (r : RegisterCount) (B : ℕ) → is_vector_length B ≡ true → PowerOfTwo (B / registers_of r)
groups_power Two = elements_power Bits16
groups_power Four = elements_power Bits32

-- the vectors of a group, as code forms them
pub group_list : (B r w : ℕ) {first apart : ℕ} → apart ≡ B / r → first ≡ w % apart → first ∷ (first + apart) ∷ (first + apart + apart) ∷ (first + apart + apart + apart) ∷ [] ≡ group_of B r (w % (B / r))
group_list B r w {first} {apart} e f =
    let third : first + apart + apart ≡ first + 2 * apart = omega arith in
    let fourth : first + 2 * apart + apart ≡ first + 3 * apart = omega arith in
    rw (third, fourth, f, e)

module _ (s : Settings) where
  abbrev B : ℕ
  B = s.vector_bytes

  abbrev S : ℕ
  S = stride_of s

  -- ---- between a vector register and a slice of a tile

  -- the spans that code is given for slice o and register v
  module _ (x z p za : List ℕ) (sized : Sized s (length x) (length z) (length p) (length za) 0) (o : TileSlice) (range : SliceInRange o) (v : ℕ) (few : v < 32) {slice register : Span} (sliced : slice ≡ slice_span s x o) (vectored : register ≡ run_from s o.size (v * S)) where
    abbrev m : ℕ
    m = bytes_of o.size

    slice_is : Spanned slice m B (length za) (slice_byte s x o)
    slice_is = rw sliced (slice_spanned s sized.vectors x o range.tile (length za) (omega (arith, sized.za)))

    register_is : Spanned register m B (length z) (register_byte s v)
    register_is = rw vectored (vector_spanned s sized.vectors o.size v 32 (length z) few (omega (arith, sized.z)))

    pub to_slice : Paired slice register m (length za) (length z)
    to_slice = spanned_paired slice_is register_is (vector_length_small B (vector_valid s sized.vectors))

    pub from_slice : Paired register slice m (length z) (length za)
    from_slice = spanned_paired register_is slice_is (vector_length_small B (vector_valid s sized.vectors))

    pub slice_apart : m ≤ slice.step
    slice_apart = slice_is.apart

    pub taken_slice : {z' : List ℕ} → z' ≡ scatter (span_at register m) all (value_at za slice m) (register.count * m) z → z' ≡ scatter (register_byte s v) all (λ (k : ℕ). get_or za (slice_byte s x o k) 0) B z
    taken_slice = spanned_written register_is slice_is all (λ k b. b) za z

    pub zeroed_slice : {za' : List ℕ} → za' ≡ scatter (span_at slice m) all zeros (register.count * m) za → za' ≡ scatter (slice_byte s x o) all zeros B za
    zeroed_slice e = e ∙ rw (slice_is.places, register_is.bytes)

    -- under predicate pg, whose bytes for a vector are these
    module _ (pg : ℕ) (below : pg < 8) {bits : List ℕ} (lends : bits ≡ governing_part s pg p) where
      pub slice_governed : Governed slice m bits
      slice_governed = rw lends (part_governs s sized.vectors p sized.p pg (omega arith) _ refl slice m slice_is.bytes)

      pub register_governed : Governed register m bits
      register_governed = rw lends (part_governs s sized.vectors p sized.p pg (omega arith) _ refl register m register_is.bytes)

      same_active : (k : ℕ) → k < B → active bits 0 m k ≡ active_under s p pg o k
      same_active k w = rw lends (part_active s sized.vectors p sized.p pg (omega arith) _ refl m k w)

      pub merged_to : {za' : List ℕ} → za' ≡ merged false (active bits 0 m) slice register m z za → za' ≡ scatter (slice_byte s x o) (active_under s p pg o) (λ (k : ℕ). get_or z (register_byte s v k) 0) B za
      merged_to = spanned_merged slice_is register_is _ _ z za same_active

      pub merged_from : {z' : List ℕ} → z' ≡ merged false (active bits 0 m) register slice m za z → z' ≡ scatter (register_byte s v) (active_under s p pg o) (λ (k : ℕ). get_or za (slice_byte s x o k) 0) B z
      merged_from = spanned_merged register_is slice_is _ _ za z same_active

  module _ (x z p za : List ℕ) where
    pub moved_to_tile : (o : VectorToTile) {za' : List ℕ} → za' ≡ scatter (slice_byte s x o.slice) (active_under s p o.pg o.slice) (λ (k : ℕ). get_or z (register_byte s o.zn k) 0) (B) za → Moves s (MovaToTile o) x z p za z za'
    unfolding scatter writes_of values_of effect_of
    moved_to_tile o w memory = ap (λ (l : List ℕ). state_of x z p l memory) w

    pub moved_from_tile : (o : PredicatedTileToVector) {z' : List ℕ} → z' ≡ scatter (register_byte s o.whole.zd) (active_under s p o.pg o.whole.slice) (λ (k : ℕ). get_or za (slice_byte s x o.whole.slice k) 0) (B) z → Moves s (MovaFromTile o) x z p za z' za
    unfolding scatter writes_of values_of effect_of
    moved_from_tile o w memory = ap (λ (l : List ℕ). state_of x l p za memory) w

    pub taken_from_tile : (o : TileToVector) {z' za' : List ℕ} → z' ≡ scatter (register_byte s o.zd) all (λ (k : ℕ). get_or za (slice_byte s x o.slice k) 0) (B) z → za' ≡ scatter (slice_byte s x o.slice) all zeros (B) za → Moves s (MovazFromTile o) x z p za z' za'
    unfolding scatter writes_of values_of effect_of
    taken_from_tile o w v memory = ap₂ (λ (l m : List ℕ). state_of x l p m memory) w v

  -- ---- vectors of the ZA array

  -- one vector, copied and zeroed
  module _ (z za : List ℕ) (sized : Sized s 32 (length z) (lengths_of s).p (length za) 0) (register vector : ℕ) (few : register < 32) (among : vector < B) {to from : Span} (t : to ≡ run_from s Bits8 (register * S)) (f : from ≡ run_from s Bits8 (vector * S)) where
    to_is : Spanned to 1 (B) (length z) (onwards (register * S))
    to_is = rw t (vector_spanned s sized.vectors Bits8 register 32 (length z) few (omega (arith, sized.z)))

    from_is : Spanned from 1 (B) (length za) (onwards (vector * S))
    from_is = rw f (vector_spanned s sized.vectors Bits8 vector (S) (length za) (omega (arith, (stride_fits s sized.vectors).fit)) (omega (arith, sized.za)))

    pub vector_paired : Paired to from 1 (length z) (length za)
    vector_paired = spanned_paired to_is from_is (vector_length_small _ (vector_valid s sized.vectors))

    pub vector_apart : 1 ≤ from.step
    vector_apart = from_is.apart

    pub vector_copied : {z' : List ℕ} → z' ≡ scatter (span_at to 1) all (value_at za from 1) (to.count * 1) z → TakesVector s false register vector z za z' za
    vector_copied e = record { copied = spanned_written to_is from_is all (λ k b. b) za z e; zeroed = refl }

    pub vector_taken : {z' za' : List ℕ} → z' ≡ scatter (span_at to 1) all (value_at za from 1) (to.count * 1) z → za' ≡ scatter (span_at from 1) all zeros (to.count * 1) za → TakesVector s true register vector z za z' za'
    vector_taken e h =
        record { copied = spanned_written to_is from_is all (λ k b. b) za z e; zeroed = h ∙ rw (from_is.places, to_is.bytes) }

  -- the vectors of a group one after another
  module _ (zeroes : Bool) (zd : ℕ) (registers : RegisterCount) (g z za : List ℕ) (sized : Sized s 32 (length z) (lengths_of s).p (length za) 0) (fit : zd + registers_of registers ≤ 32) (grouped : InGroup B (registers_of registers) g) where
    abbrev r : ℕ
    r = registers_of registers

    pub taken_none : GroupTaken s zeroes zd g z za 0 z za
    taken_none = record { copied = (written_none _ _ _ z B).1; zeroed = go zeroes }
      where
        go : (b : Bool) → za ≡ cond b (scatter (group_at S B g) all zeros (0 * B) za) za
        go true = (written_none _ _ _ za B).1
        go false = refl

    -- vectors of the group are among those of ZA, and differ
    among : GroupDiffers B r grouped.0
    among =
        let h = groups registers B (vector_valid s sized.vectors) in
        groups_differ B r (B / r) grouped.0 h.few h.some h.whole grouped.1

    module _ (n : ℕ) (below : n < r) {z₁ za₁ : List ℕ} (so : GroupTaken s zeroes zd g z za n z₁ za₁) where
      -- where byte i of vector n is, in ZA and in the registers
      vector_place : (i : ℕ) → i < B → group_at S B g (n * B + i) ≡ get_or g n 0 * S + i
      unfolding group_at
      vector_place i w = rw (digits_div n w, digits_mod n w)

      register_place : (i : ℕ) → i < B → registers_byte s zd (n * B + i) ≡ (zd + n) * S + i
      register_place i w = rw (digits_div n w, digits_mod n w)

      -- it is no byte of an earlier vector
      places_differ : (i k : ℕ) → i < B → k < n * B → get_or g n 0 * S + i ≡ group_at S B g k → ⊥
      unfolding group_at
      places_differ i k w v e =
          let f = stride_fits s sized.vectors in
          let some : 0 < B = omega arith in
          let earlier : k / B < n = (div-lt_iff_lt-mul some).1 v in
          let same = (digits_same S (get_or g n 0) i (get_or g (k / B) 0) (k % B) (omega (arith, f.fit)) (omega (arith, f.fit, mod-lt k some)) e).0 in
          omega (arith, among.differ n (k / B) below (omega arith) (rw grouped.2 at same))

      -- so it holds what it held
      kept : (b : Bool) (i : ℕ) → i < B → za₁ ≡ cond b (scatter (group_at S B g) all zeros (n * B) za) za → get_or za (group_at S B g (n * B + i)) 0 ≡ get_or za₁ (get_or g n 0 * S + i) 0
      kept true i w e =
          rw (vector_place i w, e)
          (sym (get_or-scatter_other (group_at S B g) all zeros (n * B) za (get_or g n 0 * S + i) (λ k v y q. places_differ i k w v q)))
      kept false i w e = rw (vector_place i w, e)

      same_lengths : (length z₁ ≡ length z) × (length za₁ ≡ length za)
      same_lengths = (ap length so.copied ∙ length-scatter _ _ _ _ z, go zeroes so.zeroed)
        where
          go : (b : Bool) → za₁ ≡ cond b (scatter (group_at S B g) all zeros (n * B) za) za → length za₁ ≡ length za
          go true e = ap length e ∙ length-scatter _ _ _ _ za
          go false e = ap length e

      pub vector_ready : Sized s 32 (length z₁) (lengths_of s).p (length za₁) 0 × (zd + n < 32) × (get_or g n 0 < B)
      vector_ready = (rw (same_lengths.0, same_lengths.1) sized, omega arith, rw grouped.2 (among.below n below))

      pub one_more : {z₂ za₂ : List ℕ} → TakesVector s zeroes (zd + n) (get_or g n 0) z₁ za₁ z₂ za₂ → GroupTaken s zeroes zd g z za (n + 1) z₂ za₂
      one_more {z₂} {za₂} w =
          record { copied = (written_block _ _ _ z n B _ _ _ so.copied (λ i v. (refl, register_place i v, kept zeroes i v so.zeroed)) w.copied).1; zeroed = go zeroes so.zeroed w.zeroed }
        where
          go : (b : Bool) → za₁ ≡ cond b (scatter (group_at S B g) all zeros (n * B) za) za → za₂ ≡ cond b (scatter (onwards (get_or g n 0 * S)) all zeros B za₁) za₁ → za₂ ≡ cond b (scatter (group_at S B g) all zeros ((n + 1) * B) za) za
          go true e f = (written_block _ _ _ za n B _ _ _ e (λ i v. (refl, vector_place i v, refl)) f).1
          go false e f = f ∙ e

  pub taken_from_array : (x z p za : List ℕ) (zeroes : Bool) (o : ArrayToVectors) {g z' za' : List ℕ} → g ≡ group_in s x o → GroupTaken s zeroes o.zd g z za (registers_of o.registers) z' za' → Moves s (array_move zeroes o) x z p za z' za'
  unfolding scatter writes_of values_of effect_of
  taken_from_array x z p za true o e w memory = ap₂ (λ (l m : List ℕ). state_of x l p m memory) (w.copied ∙ rw e) (w.zeroed ∙ rw e)
  taken_from_array x z p za false o e w memory = ap₂ (λ (l m : List ℕ). state_of x l p m memory) (w.copied ∙ rw e) w.zeroed
