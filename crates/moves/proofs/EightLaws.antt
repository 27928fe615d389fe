-- Laws of specs/Eights.antt: eight predicate bytes looked at together.
-- Assumes nothing.
use mathlib.Core.Path.{◌≡◌, refl, sym, ap, ◌∙◌}
use mathlib.Core.Bool.{Bool, ◌&&◌, not}
use mathlib.Core.List.{List}
use mathlib.Core.Option.{none}
use Prim.Native.Nat.{ℕ, zero, suc, ◌+◌, ◌*◌, ◌/◌, ◌%◌, ◌^◌, ◌<◌, ◌≤◌}
use native.Mathlib.Nat.{mod-lt, div-mul-le_self}
use native.Mathlib.Omega.{arith}
use lib.Bits.{bit_and, bit_xor, and_zero_l, and_le_l, and_le_r, and_shr, and_mod, and_lt, xor_lt, xor_self}
use lib.Dec.{eqb}
use lib.ListN.{length, get_or}
use borrow.Author.Tests.{eqb-true, eq-eqb, not-false}
use Rattle.general.specs.Least.{least}
use Rattle.general.specs.Number.{number}
use Rattle.general.proofs.LeastLaws.{least_none}
use Rattle.general.proofs.NumberLaws.{Bytes, number_and, number_xor, number_add, number_same}
use Rattle.tiles.specs.Element.{bytes_of}
use Rattle.tiles.specs.Predicate.{active}
use Rattle.tiles.specs.declared.element.ElementSize.{ElementSize}
use Rattle.tiles.specs.declared.element.ElementSize.TheVariants.{Bits8, Bits16, Bits32, Bits64, Bits128}
use Rattle.moves.specs.Eights.{bits_in, eight_at, eight_bits, AllActive, AllMixed}

-- ---- every element is active

-- a byte that has all of some bits has each of them
has_bit : (v bits j : ℕ) → bit_and v bits ≡ bits → bits / 2 ^ j % 2 ≡ 1 → v / 2 ^ j % 2 ≡ 1
has_bit v bits j e h = go (v / 2 ^ j % 2) refl (mod-lt (v / 2 ^ j) (omega arith))
  where
    same : bit_and (v / 2 ^ j % 2) 1 ≡ 1
    same =
        let shifted = sym (and_shr v bits j) ∙ ap (λ (b : ℕ). b / 2 ^ j) e in
        let low = sym (and_mod (v / 2 ^ j) (bits / 2 ^ j) 1) ∙ ap (λ (b : ℕ). b % 2) shifted ∙ h in
        rw h at low

    go : (r : ℕ) → v / 2 ^ j % 2 ≡ r → r < 2 → v / 2 ^ j % 2 ≡ 1
    go zero q w = absurd (omega (arith, sym (and_zero_l 1) ∙ ap (λ (b : ℕ). bit_and b 1) (sym q) ∙ same))
    go (suc zero) q w = q
    go (suc (suc r)) q w = absurd (omega arith)

-- an element's first bit is one of those that its size goes by: of the eight bits of a byte, each that is a multiple of the
-- element's bytes, by a computed test
lacks : ElementSize → ℕ → Bool
lacks s j = eqb (j % bytes_of s) 0 && not (eqb (bits_in s 0 / 2 ^ j % 2) 1)

none_lacks : (s : ElementSize) → least (lacks s) 8 ≡ none
unfolding least lacks
none_lacks Bits8 = refl
none_lacks Bits16 = refl
none_lacks Bits32 = refl
none_lacks Bits64 = refl
none_lacks Bits128 = refl

-- where an element starts: at such a bit, of a predicate byte that has the bits of the first
record Starts (s : ElementSize) (i : ℕ) : Type 0 where
  multiple : i % 8 % bytes_of s ≡ 0
  bits : bits_in s (i / 8 % 8) ≡ bits_in s 0

-- each element starts so
element_starts : (s : ElementSize) (e : ℕ) → Starts s (e * bytes_of s)
element_starts Bits8 e = record { multiple = omega arith; bits = refl }
element_starts Bits16 e = record { multiple = omega arith; bits = refl }
element_starts Bits32 e = record { multiple = omega arith; bits = refl }
element_starts Bits64 e = record { multiple = omega arith; bits = refl }
element_starts Bits128 e = record { multiple = omega arith; bits = omega arith }

-- where one starts its size goes by that bit
start_bit : (s : ElementSize) (i : ℕ) → Starts s i → bits_in s (i / 8 % 8) / 2 ^ (i % 8) % 2 ≡ 1
unfolding lacks
start_bit s i h =
    let passed = least_none (lacks s) 8 (none_lacks s) (i % 8) (mod-lt i (omega arith)) in
    rw h.bits (eqb-true _ 1 (not-false _ (rw (eq-eqb _ 0 h.multiple) at passed)))

-- the bits that elements go by are bytes
bits_below : (s : ElementSize) → Bytes (bits_in s) 8
bits_below Bits8 i w = omega arith
bits_below Bits16 i w = omega arith
bits_below Bits32 i w = omega arith
bits_below Bits64 i w = omega arith
bits_below Bits128 i w = omega arith

module _ (p : List ℕ) (byte : (i : ℕ) → get_or p i 0 < 256) (s : ElementSize) where
  -- what eight bytes are under the bits that elements go by they are one by one
  eight_under : (at : ℕ) (c : ℕ → ℕ) → Bytes c 8 → bit_and (eight_at p at) (eight_bits s) ≡ number c 8 → (i : ℕ) → i < 8 → bit_and (get_or p (at + i) 0) (bits_in s i) ≡ c i
  eight_under at c below e =
      let b : ℕ → ℕ = λ i. get_or p (at + i) 0 in
      let joined = number_and b (bits_in s) 8 (λ i w. byte (at + i)) (bits_below s) in
      number_same (λ i. bit_and (b i) (bits_in s i)) c 8 (λ i w. omega (arith, and_le_r (b i) (bits_in s i), bits_below s i w)) below (sym joined ∙ e)

  -- they have all of these bits, or none
  pub eight_has : (at : ℕ) → bit_and (eight_at p at) (eight_bits s) ≡ eight_bits s → (i : ℕ) → i < 8 → bit_and (get_or p (at + i) 0) (bits_in s i) ≡ bits_in s i
  eight_has at = eight_under at (bits_in s) (bits_below s)

  pub eight_lacks : (at : ℕ) → bit_and (eight_at p at) (eight_bits s) ≡ 0 → (i : ℕ) → i < 8 → bit_and (get_or p (at + i) 0) (bits_in s i) ≡ 0
  unfolding number
  eight_lacks at = eight_under at (λ i. 0) (λ i w. omega arith)

  -- or each has one that is set and one that is clear
  pub eight_mixed : (at : ℕ) → AllMixed (bit_and (eight_at p at) (eight_bits s)) s → (i : ℕ) → i < 8 → (bit_and (get_or p (at + i) 0) (bits_in s i) ≡ 0 → ⊥) × (bit_and (get_or p (at + i) 0) (bits_in s i) ≡ bits_in s i → ⊥)
  eight_mixed at mixed =
      let b : ℕ → ℕ = λ i. get_or p (at + i) 0 in
      mixed (λ i. bit_and (b i) (bits_in s i)) (λ i w. omega (arith, and_le_r (b i) (bits_in s i), bits_below s i w)) (number_and b (bits_in s) 8 (λ i w. byte (at + i)) (bits_below s))

  -- where all eights have them every element is active
  pub eights_active : length p % 8 ≡ 0 → ((j : ℕ) → j < length p / 8 → bit_and (eight_at p (j * 8)) (eight_bits s) ≡ eight_bits s) → AllActive p s
  unfolding active
  eights_active whole h k w =
      let m = bytes_of s in
      let i = k / m * m in
      let below : i ≤ k = div-mul-le_self k m in
      let has = eight_has (i / 8 / 8 * 8) (h (i / 8 / 8) (omega arith)) (i / 8 % 8) (omega arith) in
      let place : i / 8 / 8 * 8 + i / 8 % 8 ≡ 0 + i / 8 = omega arith in
      eq-eqb _ 1 (has_bit (get_or p (0 + i / 8) 0) (bits_in s (i / 8 % 8)) (i % 8) (rw place at has) (start_bit s i (element_starts s (k / m))))

-- ---- eight bytes of which each has set and clear bits

-- what the lower seven bits of a byte tell by its highest bit: that one of them is set
abbrev told : ℕ → ℕ
told b = bit_and b 127 + 127

told_below : (b : ℕ) → told b < 256
told_below b = omega (arith, and_le_r b 127)

-- a byte of which it is told that a bit is set, and one of those that elements go by clear, is neither zero nor all of these
not_alike : (b bits : ℕ) → bit_and (bit_and (told b) (told (bit_xor b bits))) 128 ≡ 128 → (b ≡ 0 → ⊥) × (b ≡ bits → ⊥)
not_alike b bits e =
    let l = and_le_l (bit_and (told b) (told (bit_xor b bits))) 128 in (
      λ z. omega (arith, and_le_l (told b) (told (bit_xor b bits)), ap told z),
      λ q. omega (arith, and_le_r (told b) (told (bit_xor b bits)), ap told (ap (λ (a : ℕ). bit_xor a bits) q ∙ xor_self bits)),
    )

-- eight of the same byte
abbrev eight_of : ℕ → ℕ
eight_of b = number (λ (i : ℕ). b) 8

-- what eight bytes tell at once they tell one by one
number_told : (f : ℕ → ℕ) → Bytes f 8 → bit_and (number f 8) (eight_of 127) + eight_of 127 ≡ number (λ (i : ℕ). told (f i)) 8
number_told f h =
    let all : ℕ → ℕ = λ i. 127 in
    let all-is : Bytes all 8 = λ i w. omega arith in
    rw (number_and f all 8 h all-is) (number_add (λ i. bit_and (f i) 127) all 8 (λ i w. omega (arith, and_le_r (f i) 127)) all-is)

module _ (s : ElementSize) (b : ℕ → ℕ) (byte : Bytes b 8) where
  -- what byte i tells of set and of clear bits
  abbrev both : ℕ → ℕ
  both i = bit_and (told (b i)) (told (bit_xor (b i) (bits_in s i)))

  both_below : Bytes both 8
  both_below i w = and_lt 8 _ _ (told_below (b i)) (told_below (bit_xor (b i) (bits_in s i)))

  number_both : bit_and (bit_and (bit_and (number b 8) (eight_of 127) + eight_of 127) (bit_and (bit_xor (number b 8) (eight_bits s)) (eight_of 127) + eight_of 127)) (eight_of 128) ≡ number (λ (i : ℕ). bit_and (both i) 128) 8
  number_both =
      let differ : ℕ → ℕ = λ i. bit_xor (b i) (bits_in s i) in
      let differ-is : Bytes differ 8 = λ i w. xor_lt 8 _ _ (byte i w) (bits_below s i w) in
      rw (number_xor b (bits_in s) 8 byte (bits_below s), number_told b byte, number_told differ differ-is, number_and (λ i. told (b i)) (λ i. told (differ i)) 8 (λ i w. told_below (b i)) (λ i w. told_below (differ i)))
      (number_and both (λ i. 128) 8 both_below (λ i w. omega arith))

  -- where each tells both, none is zero or all bits
  number_mixed : number (λ (i : ℕ). bit_and (both i) 128) 8 ≡ eight_of 128 → (i : ℕ) → i < 8 → (b i ≡ 0 → ⊥) × (b i ≡ bits_in s i → ⊥)
  number_mixed e i w =
      not_alike (b i) (bits_in s i) (number_same (λ i. bit_and (both i) 128) (λ i. 128) 8 (λ i w. omega (arith, and_le_r (both i) 128)) (λ i w. omega arith) e i w)

-- so code that tests this of eight bytes at once finds each mixed
pub tests_mixed : (v bits : ℕ) (s : ElementSize) → bits ≡ eight_bits s → bit_and (bit_and (bit_and v 0x7F7F7F7F7F7F7F7F + 0x7F7F7F7F7F7F7F7F) (bit_and (bit_xor v bits) 0x7F7F7F7F7F7F7F7F + 0x7F7F7F7F7F7F7F7F)) 0x8080808080808080 ≡ 0x8080808080808080 → AllMixed v s
unfolding number
tests_mixed v bits s l e b byte q = number_mixed s b byte (sym (number_both s b byte) ∙ (rw (l, q) at e))
