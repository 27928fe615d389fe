-- Laws of specs/Count.antt.
-- Assumes nothing.
use mathlib.Core.Path.{◌≡◌, refl, ap, ◌∙◌}
use Prim.Native.Nat.{ℕ, zero, suc, ◌+◌, ◌*◌, ◌≤◌}
use native.Mathlib.Nat.{zero-add, add-zero, add-suc, add_assoc, add-mul, one-mul}
use native.Mathlib.Omega.{arith}
use Rattle.encoding.specs.Codec.{decode_of}
use mir.Val.{bool_byte}
use Rattle.std.proofs.Common.{Result, Ok, Err, is_ok}
use Rattle.encoding.specs.declared.operation.Operation.{Operation}
use Rattle.encoding.specs.declared.operation.DecodeRefusal.{DecodeRefusal}
use Rattle.count_words.specs.Count.{count_of, decode_count}

-- a word counts at most once
count_of_below : (d : Result Operation DecodeRefusal) → count_of d ≤ 1
count_of_below (Ok o) = omega arith
count_of_below (Err e) = omega arith

-- code tests for an operation
pub counted : (d : Result Operation DecodeRefusal) → bool_byte (is_ok d) ≡ count_of d
counted (Ok o) = refl
counted (Err e) = refl

-- of n words at most n decode
pub decode_count-below : (level first n : ℕ) → decode_count level first n ≤ n
unfolding decode_count
decode_count-below level first zero = omega arith
decode_count-below level first (suc n) = omega (arith, decode_count-below level first n, count_of_below (decode_of (first + n) level))

-- words are counted one after the other
decode_count-append : (level first m n : ℕ) → decode_count level first (m + n) ≡ decode_count level first m + decode_count level (first + m) n
unfolding decode_count
decode_count-append level first m zero = simp add-zero
decode_count-append level first m (suc n) = rw (add-suc, decode_count-append level first m n) (simp add_assoc)

-- a block of n words more
pub decode_count-block : (level k n : ℕ) → decode_count level 0 ((k + 1) * n) ≡ decode_count level 0 (k * n) + decode_count level (k * n) n
decode_count-block level k n =
    ap (decode_count level 0) (rw (add-mul, one-mul)) ∙ decode_count-append level 0 (k * n) n
    ∙ ap (λ (first : ℕ). decode_count level 0 (k * n) + decode_count level first n) (zero-add (k * n))
