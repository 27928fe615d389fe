-- Laws of specs/Number.antt: operations that take numbers byte by byte, and that equal numbers have equal bytes.
-- Assumes nothing.
use Prim.Native.Nat.{ℕ, zero, suc, ◌+◌, ◌*◌, ◌<◌}
use mathlib.Core.Path.{◌≡◌, refl, ap, ◌∙◌}
use native.Mathlib.Omega.{arith}
use lib.Bits.{bit_and, bit_xor, and_block, xor_block}
use Rattle.general.specs.Number.{number}

-- each of the first n is a byte
abbrev pub Bytes : (ℕ → ℕ) → ℕ → Type 0
Bytes f n = (i : ℕ) → i < n → f i < 256

-- then so are those behind the first
bytes_rest : (f : ℕ → ℕ) (n : ℕ) → Bytes f (suc n) → Bytes (λ (i : ℕ). f (suc i)) n
bytes_rest f n h i w = h (suc i) (omega arith)

-- an operation that takes a lowest byte apart from the rest takes numbers byte by byte
module _ (op : ℕ → ℕ → ℕ) (none : op 0 0 ≡ 0) (block : (a b r s : ℕ) → r < 256 → s < 256 → op (a * 256 + r) (b * 256 + s) ≡ op a b * 256 + op r s) where
  number_bytewise : (f g : ℕ → ℕ) (n : ℕ) → Bytes f n → Bytes g n → op (number f n) (number g n) ≡ number (λ (i : ℕ). op (f i) (g i)) n
  unfolding number
  number_bytewise f g zero h w = none
  number_bytewise f g (suc n) h w =
      let rest = number_bytewise (λ (i : ℕ). f (suc i)) (λ (i : ℕ). g (suc i)) n (bytes_rest f n h) (bytes_rest g n w) in
      block _ _ (f 0) (g 0) (h 0 (omega arith)) (w 0 (omega arith)) ∙ ap (λ (a : ℕ). a * 256 + op (f 0) (g 0)) rest

-- so do `and`, exclusive `or` and the sum
pub number_and : (f g : ℕ → ℕ) (n : ℕ) → Bytes f n → Bytes g n → bit_and (number f n) (number g n) ≡ number (λ (i : ℕ). bit_and (f i) (g i)) n
number_and = number_bytewise bit_and refl (and_block 8)

pub number_xor : (f g : ℕ → ℕ) (n : ℕ) → Bytes f n → Bytes g n → bit_xor (number f n) (number g n) ≡ number (λ (i : ℕ). bit_xor (f i) (g i)) n
number_xor = number_bytewise bit_xor refl (xor_block 8)

pub number_add : (f g : ℕ → ℕ) (n : ℕ) → Bytes f n → Bytes g n → number f n + number g n ≡ number (λ (i : ℕ). f i + g i) n
number_add = number_bytewise ◌+◌ refl (λ a b r s h w. omega arith)

-- equal numbers have equal bytes
pub number_same : (f g : ℕ → ℕ) (n : ℕ) → Bytes f n → Bytes g n → number f n ≡ number g n → (i : ℕ) → i < n → f i ≡ g i
unfolding number
number_same f g zero h w e i v = absurd (omega arith)
number_same f g (suc n) h w e zero v = omega (arith, h 0 (omega arith), w 0 (omega arith))
number_same f g (suc n) h w e (suc i) v =
    number_same (λ (i : ℕ). f (suc i)) (λ (i : ℕ). g (suc i)) n (bytes_rest f n h) (bytes_rest g n w)
    (omega (arith, h 0 (omega arith), w 0 (omega arith))) i (omega arith)
