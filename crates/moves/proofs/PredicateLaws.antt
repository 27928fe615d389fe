-- The bytes of P that govern a vector, lent as a part of their own: they have its bits.
-- Assumes nothing.
use mathlib.Core.Path.{◌≡◌, refl}
use mathlib.Core.Bool.{true}
use mathlib.Core.List.{List}
use Prim.Native.Nat.{ℕ, ◌+◌, ◌*◌, ◌/◌, ◌%◌, ◌<◌, ◌≤◌}
use native.Mathlib.Nat.{zero-add, mul-le-mul_right, add-mul, div-mul-le_self}
use native.Mathlib.Omega.{arith}
use lib.ListN.{length}
use Rattle.settings.specs.Settings.{is_vector_length, valid_vectors, stride_of}
use Rattle.settings.specs.declared.Settings.{Settings}
use Rattle.settings.proofs.SettingsLaws.{five_lengths, vector_valid, stride_fits}
use Rattle.tiles.specs.Predicate.{active}
use Rattle.tiles.specs.declared.element.ElementSize.TheVariants.{Bits8}
use Rattle.tiles.specs.declared.span.Span.{Span}
use Rattle.tiles.proofs.LengthLaws.{whole_elements}
use Rattle.moves.specs.Paired.{Governed}
use Rattle.moves.proofs.PartLaws.{lent, lent_length, lent_byte}

-- a vector has fewer than eight predicate bytes, or eights of them
bytes_eights : (B : ℕ) → is_vector_length B ≡ true → 8 ≤ B / 8 → B / 8 % 8 ≡ 0
bytes_eights = five_lengths (λ B. 8 ≤ B / 8 → B / 8 % 8 ≡ 0) (λ h. absurd (omega arith)) (λ h. absurd (omega arith)) (λ h. refl) (λ h. refl) (λ h. refl)

-- predicate register pg of P, which has 16, from `start` on
module _ (s : Settings) (laid : valid_vectors s ≡ true) (p : List ℕ) (long : length p ≡ 16 * (stride_of s / 8)) (pg : ℕ) (few : pg < 16) (start : ℕ) (starts : start ≡ pg * (stride_of s / 8)) where
  abbrev B : ℕ
  B = s.vector_bytes

  valid : is_vector_length B ≡ true
  valid = vector_valid s laid

  -- a vector's part of it lies in P
  pub part_within : start + B / 8 ≤ length p
  part_within =
      let f = stride_fits s laid in
      let above : pg + 1 ≤ 16 = omega arith in
      omega (arith, mul-le-mul_right (stride_of s / 8) above, add-mul pg 1 (stride_of s / 8), f.fit)

  -- the same in bits
  pub part_bits : start * 8 + B ≤ 8 * length p
  part_bits = omega (arith, part_within, (whole_elements Bits8 B valid).eights)

  -- the part, as code lends it
  abbrev pub part : List ℕ
  part = lent start (B / 8) p

  part_length : length part ≡ B / 8
  part_length = lent_length start (B / 8) p part_within

  -- it has a bit for each byte of the vector
  pub part_bits_lent : B ≡ 8 * length part
  part_bits_lent = rw part_length (omega (arith, (whole_elements Bits8 B valid).eights))

  pub part_governs : (v : Span) (m : ℕ) → v.count * m ≡ B → Governed v m part
  part_governs v m e =
      let w = whole_elements Bits8 B valid in
      record { bytes = rw part_length (omega (arith, w.eights)); eights = rw part_length (bytes_eights B valid) }

  pub part_active : (m k : ℕ) → k < B → active part 0 m k ≡ active p start m k
  unfolding active
  part_active m k h =
      let i = k / m * m in
      let below : i / 8 < B / 8 = omega (arith, div-mul-le_self k m, (whole_elements Bits8 B valid).eights) in
      rw (zero-add (i / 8), lent_byte start (B / 8) p (i / 8) below)
