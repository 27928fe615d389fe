-- Predicate bytes that are looked at together, eight as one number. Serves the code of this crate only: contracts of public
-- functions say `active` of the crate tiles.
-- Assumes nothing.
use Rattle.std.specs.Prelude.{◌≡◌, true, List, ℕ, ◌+◌, ◌*◌, ◌-◌, ◌%◌, ◌<◌, ◌≤◌, length, get_or}
use Rattle.general.specs.Number.{number}
use Rattle.tiles.specs.Element.{bytes_of}
use Rattle.tiles.specs.Predicate.{active}
use Rattle.tiles.specs.declared.element.ElementSize.{ElementSize}
use Rattle.tiles.specs.declared.element.ElementSize.TheVariants.{Bits8, Bits16, Bits32, Bits64, Bits128}

-- the bits of predicate byte i that elements of a size go by: the bit of each element's first byte. An element of 16 bytes has
-- two predicate bytes, of which the second has none.
abbrev pub bits_in : ElementSize → ℕ → ℕ
bits_in Bits8 i = 0xFF
bits_in Bits16 i = 0x55
bits_in Bits32 i = 0x11
bits_in Bits64 i = 0x01
bits_in Bits128 i = 1 - i % 2

-- eight predicate bytes from index `at` on
abbrev pub eight_at : List ℕ → ℕ → ℕ
eight_at p at = number (λ (i : ℕ). get_or p (at + i) 0) 8

-- the bits of eight that elements of a size go by
abbrev pub eight_bits : ElementSize → ℕ
eight_bits s = number (bits_in s) 8

-- eight predicate bytes or more are a multiple of eight
abbrev pub InEights : List ℕ → Type 0
InEights p = 8 ≤ length p → length p % 8 ≡ 0

-- every element is active
abbrev pub AllActive : List ℕ → ElementSize → Type 0
AllActive p s = (k : ℕ) → k < 8 * length p → active p 0 (bytes_of s) k ≡ true

-- none of the eight bytes of v is zero, and none is the bits that elements of a size go by: where v has these bits alone, each
-- byte has one that is set and one that is clear
abbrev pub AllMixed : ℕ → ElementSize → Type 0
AllMixed v s = (b : ℕ → ℕ) → ((i : ℕ) → i < 8 → b i < 256) → v ≡ number b 8 → (i : ℕ) → i < 8 → (b i ≡ 0 → ⊥) × (b i ≡ bits_in s i → ⊥)
