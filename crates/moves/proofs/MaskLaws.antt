-- Masks and flags of predicate bytes: they are the tests `active`.
-- Assumes nothing.
use mathlib.Core.Path.{◌≡◌, refl, ap, ◌∙◌}
use mathlib.Core.Bool.{Bool, true, not}
use mathlib.Core.List.{List, [], ◌∷◌}
use Prim.Native.Nat.{ℕ, zero, suc, ◌+◌, ◌-◌, ◌*◌, ◌/◌, ◌%◌, ◌^◌, ◌<◌, ◌≤◌}
use native.Mathlib.Nat.{add-zero, zero-add, zero-mul, one-mul, pow-suc, add_comm, mod-lt}
use native.Mathlib.Numerals.{add-one}
use native.Mathlib.Omega.{arith}
use lib.Bits.{bit_and, and_high, and_mask, and_mod, and_shr}
use mathlib.Core.Option.{none}
use borrow.Author.Tests.{eqb-true, not-false}
use lib.Dec.{eqb, eqb-suc-zero}
use Rattle.general.specs.Least.{least}
use Rattle.general.proofs.LeastLaws.{least_none}
use lib.ListN.{get_or}
use lib.Pow.{pow_pos}
use Rattle.tiles.specs.Element.{bytes_of}
use Rattle.tiles.specs.declared.element.ElementSize.{ElementSize}
use Rattle.tiles.specs.declared.element.ElementSize.TheVariants.{Bits8, Bits16, Bits32, Bits64, Bits128}
use Rattle.tiles.specs.Predicate.{active}
use Rattle.moves.specs.Eights.{bits_in}
use Rattle.moves.specs.Mask.{Masks, set_among}
use Rattle.moves.specs.Paired.{set_in}

one_bit_lem : (b v : ℕ) → b < 2 → 0 < v → not (eqb (b * v) 0) ≡ eqb b 1
one_bit_lem zero v h w = rw zero-mul
one_bit_lem (suc zero) zero h w = absurd (omega arith)
one_bit_lem (suc zero) (suc v) h w = rw (one-mul (suc v), eqb-suc-zero v)
one_bit_lem (suc (suc b)) v h w = absurd (omega arith)

-- a mask of one bit tests that bit
mask_tests_bit : (x j : ℕ) → not (eqb (bit_and x (2 ^ j)) 0) ≡ eqb (x / 2 ^ j % 2) 1
mask_tests_bit x j =
    let s : 2 ^ (1 + j) ≡ 2 ^ j * 2 = rw (add_comm 1 j, add-one j) (pow-suc 2 j) in
    let e : 2 ^ (1 + j) - 2 ^ j ≡ 2 ^ j = omega arith in
    let a : bit_and x (2 ^ j) ≡ x / 2 ^ j % 2 * 2 ^ j = rw e at (and_high x 1 j) in
    rw a (one_bit_lem (x / 2 ^ j % 2) (2 ^ j) (mod-lt (x / 2 ^ j) (omega arith)) (pow_pos j))

-- ---- bytes of a vector by predicate bytes, for elements of at most 4 bytes

-- byte i after the bytes that go by a predicate bytes is of an element that starts there, and goes by predicate byte a + i / 8
record Placed (m : ℕ) : Type 0 where
  start : (a i : ℕ) → (a * 8 + i) / m * m ≡ a * 8 + i / m * m
  byte : (i : ℕ) → i / m * m / 8 ≡ i / 8
  within : (i : ℕ) → i < 8 → i / m * m % 8 ≡ i / m * m
  bit : (i : ℕ) → i % 8 / m * m ≡ i / m * m % 8

placed : (s : ElementSize) → bytes_of s ≤ 4 → Placed (bytes_of s)
placed Bits8 h = record { start = λ a i. omega arith; byte = λ i. omega arith; within = λ i w. omega arith; bit = λ i. omega arith }
placed Bits16 h = record { start = λ a i. omega arith; byte = λ i. omega arith; within = λ i w. omega arith; bit = λ i. omega arith }
placed Bits32 h = record { start = λ a i. omega arith; byte = λ i. omega arith; within = λ i w. omega arith; bit = λ i. omega arith }
placed Bits64 h = absurd (omega arith)
placed Bits128 h = absurd (omega arith)

eights_byte : (a r : ℕ) → (a * 8 + r) / 8 ≡ a + r / 8
eights_byte a r = omega arith

eights_bit : (a r : ℕ) → (a * 8 + r) % 8 ≡ r % 8
eights_bit a r = omega arith

-- by which bit it goes
active_bit : (p : List ℕ) (s : ElementSize) → bytes_of s ≤ 4 → (a i : ℕ) → active p 0 (bytes_of s) (a * 8 + i) ≡ eqb (get_or p (a + i / 8) 0 / 2 ^ (i / bytes_of s * bytes_of s % 8) % 2) 1
unfolding active
active_bit p s few a i =
    let r = i / bytes_of s * bytes_of s in
    rw ((placed s few).start a i, eights_byte a r, eights_bit a r, (placed s few).byte i, zero-add (a + i / 8))

-- byte i of 8 goes by its bit in their predicate byte
pub active_set : (p : List ℕ) (s : ElementSize) (a : ℕ) → bytes_of s ≤ 4 → (i : ℕ) → i < 8 → active p 0 (bytes_of s) (a * 8 + i) ≡ set_in (get_or p a 0) (bytes_of s) i
active_set p s a few i h =
    let none : i / 8 ≡ 0 = omega arith in
    rw (active_bit p s few a i, none, add-zero a, (placed s few).within i h)

-- the bytes of predicate bytes one after another go by their bits in them
pub active_among : (p : List ℕ) (s : ElementSize) (a n : ℕ) (by : List ℕ) → bytes_of s ≤ 4 → ((i : ℕ) → i < n → get_or by i 0 ≡ get_or p (a + i) 0) → (k : ℕ) → k < n * 8 → set_among by (bytes_of s) k ≡ active p 0 (bytes_of s) (a * 8 + k)
active_among p s a n by few same k h =
    let here : k / 8 < n = omega arith in
    rw (active_bit p s few a k, same (k / 8) here, (placed s few).bit k)

-- and so do their masks tell
pub masked_among : (by : List ℕ) (s : ElementSize) (masks : List ℕ) → bytes_of s ≤ 4 → Masks (bytes_of s) masks → (k : ℕ) → k < 16 → not (eqb (bit_and (get_or by (k / 8) 0) (get_or masks k 0)) 0) ≡ set_among by (bytes_of s) k
masked_among by s masks few table k h =
    rw (table k h, (placed s few).bit k) (mask_tests_bit (get_or by (k / 8) 0) (k / bytes_of s * bytes_of s % 8))

-- of a single predicate byte
pub among_one : (b m k : ℕ) → k < 8 → set_among (b ∷ []) m k ≡ set_in b m k
among_one b m k h =
    let none : k / 8 ≡ 0 = omega arith in
    let rest : k % 8 ≡ k = omega arith in
    rw (none, rest)

-- ---- a predicate byte under the bits that elements go by

-- the bit of the element of byte i is one of them
bit_missing : ElementSize → ℕ → Bool
bit_missing s i = not (eqb (bits_in s 0 / 2 ^ (i / bytes_of s * bytes_of s) % 2) 1)

none_missing : (s : ElementSize) → least (bit_missing s) 8 ≡ none
unfolding least bit_missing
none_missing Bits8 = refl
none_missing Bits16 = refl
none_missing Bits32 = refl
none_missing Bits64 = refl
none_missing Bits128 = refl

pub bits_set : (s : ElementSize) (i : ℕ) → i < 8 → set_in (bits_in s 0) (bytes_of s) i ≡ true
unfolding bit_missing
bits_set s i h = not-false _ (least_none (bit_missing s) 8 (none_missing s) i h)

-- a bit that is set in both is set, and no other
and_bit : (x c j : ℕ) → c / 2 ^ j % 2 ≡ 1 → bit_and x c / 2 ^ j % 2 ≡ x / 2 ^ j % 2
and_bit x c j e =
    and_shr_mod ∙ ap (bit_and (x / 2 ^ j % 2)) e ∙ and_mask (x / 2 ^ j % 2) 1 ∙ omega arith
  where
    and_shr_mod : bit_and x c / 2 ^ j % 2 ≡ bit_and (x / 2 ^ j % 2) (c / 2 ^ j % 2)
    and_shr_mod = ap (λ (b : ℕ). b % 2) (and_shr x c j) ∙ and_mod (x / 2 ^ j) (c / 2 ^ j) 1

-- what else is in the byte does not matter
pub set_under : (s : ElementSize) (x i : ℕ) → i < 8 → set_in (bit_and x (bits_in s 0)) (bytes_of s) i ≡ set_in x (bytes_of s) i
set_under s x i h =
    ap (λ (b : ℕ). eqb b 1) (and_bit x (bits_in s 0) (i / bytes_of s * bytes_of s) (eqb-true _ 1 (bits_set s i h)))
