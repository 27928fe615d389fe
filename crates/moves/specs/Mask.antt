-- The masks that bytes are tested by, and a run merged by predicate bytes. Serves the code of run.rt and size_bits.rt only: contracts
-- of public functions say `active` of the crate tiles.
-- Assumes nothing.
use Rattle.std.specs.Prelude.{◌≡◌, Bool, List, ℕ, ◌+◌, ◌*◌, ◌/◌, ◌%◌, ◌^◌, ◌<◌, ◌≤◌, length, get_or}
use Rattle.std.specs.Int.Bits.{bit_and}
use Rattle.general.specs.Scatter.{scatter, onwards}
use Rattle.tiles.specs.Element.{bytes_of}
use Rattle.tiles.specs.Predicate.{active}
use Rattle.tiles.specs.declared.element.ElementSize.{ElementSize}
use Rattle.moves.specs.Eights.{bits_in}
use Rattle.moves.specs.Paired.{set_in}

-- the masks of elements of m bytes, for 16 bytes of a vector: byte i goes by bit i / m * m, which is bit i / m * m % 8 of a byte
abbrev pub Masks : ℕ → List ℕ → Type 0
Masks m masks = (i : ℕ) → i < 16 → get_or masks i 0 ≡ 2 ^ (i / m * m % 8)

-- byte k, of those that go by the predicate bytes `by` one after another, is of an element whose bit is set
abbrev pub set_among : List ℕ → ℕ → ℕ → Bool
set_among by m k = set_in (get_or by (k / 8) 0) m (k % 8)

-- a predicate byte that has some of the bits that elements of a size go by, and not all
pub record SomeBits (b : ℕ) (s : ElementSize) : Type 0 where
  pub some : bit_and b (bits_in s 0) ≡ 0 → ⊥
  pub lacking : bit_and b (bits_in s 0) ≡ bits_in s 0 → ⊥

-- n predicate bytes from index `first` of p on are there, and in both buffers the bytes that go by any of p
pub record Covered (p : List ℕ) (first n : ℕ) (dst src : List ℕ) : Type 0 where
  pub there : first + n ≤ length p
  pub written : 8 * length p ≤ length dst
  pub read : 8 * length p ≤ length src

-- the bytes of dst that go by n predicate bytes, from predicate byte `first` on, copied where their element is active
abbrev pub merged_by : List ℕ → ElementSize → List ℕ → ℕ → ℕ → List ℕ → List ℕ
merged_by p s src first n dst =
    scatter (onwards (first * 8)) (λ (k : ℕ). active p 0 (bytes_of s) (first * 8 + k)) (λ (k : ℕ). get_or src (first * 8 + k) 0) (n * 8) dst
