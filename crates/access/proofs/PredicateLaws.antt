-- Laws of specs/Promise.antt: the first number that a test holds of, and predicate bytes that a search for it passes.
-- Assumes nothing.
use Rattle.std.proofs.Common.{◌≡◌, ℕ, ◌+◌, ◌*◌, ◌/◌, ◌%◌, ◌^◌, ◌<◌, ◌≤◌, Bool, true, false, ◌&&◌, List, get_or, sym, refl, ◌∙◌, zero-add, arith, eq-eqb, ne_eqb, not, zero, suc, Option, Some, None, is_none}
use mathlib.Core.Option.{none, some}
use native.Mathlib.Nat.{zero-div}
use native.Mathlib.Decide.{dec_le}
use Rattle.general.specs.Least.{least, is_some}
use Rattle.general.proofs.LeastLaws.{least_never, least_found}
use Rattle.tiles.specs.Element.{bytes_of}
use Rattle.tiles.specs.declared.element.ElementSize.{ElementSize}
use Rattle.tiles.specs.declared.element.ElementSize.TheVariants.{Bits8, Bits16, Bits32, Bits64, Bits128}
use Rattle.tiles.specs.Predicate.{active}
use Rattle.access.specs.Promise.{NoneOn, FirstAt, First}

-- ---- the first number that a test holds of

module _ (f : ℕ → Bool) (n : ℕ) where
  pub first_some : (r : ℕ) → FirstAt f 0 n r → least f n ≡ some r
  first_some r h = least_found f r n (least_never f r (λ k v. h.passed k (omega arith) v)) h.holds h.below

  pub first_none : NoneOn f 0 n → least f n ≡ none
  first_none h = least_never f n (λ k v. h k (omega arith) v)

  -- whether there is one
  pub first_there : (r : Option ℕ) → First f 0 n r → is_some (least f n) ≡ not (is_none r)
  first_there (Some r) h = rw (first_some r h)
  first_there None h = rw (first_none h)

-- a test that agrees with another
pub least_agree : (f g : ℕ → Bool) (n : ℕ) → ((k : ℕ) → k < n → f k ≡ g k) → least f n ≡ least g n
unfolding least
least_agree f g zero e = refl
least_agree f g (suc n) e = rw (least_agree f g n (λ k w. e k (omega arith)), e n (omega arith)) refl

module _ (f g : ℕ → Bool) (from n : ℕ) (e : (k : ℕ) → k < n → f k ≡ g k) where
  pub none_agree : NoneOn f from n → NoneOn g from n
  none_agree h k w v = sym (e k v) ∙ h k w v

  pub first_agree : (r : ℕ) → FirstAt f from n r → FirstAt g from n r
  first_agree r h =
      record { start = h.start; below = h.below; holds = sym (e r h.below) ∙ h.holds; passed = λ k w v. sym (e k (omega (arith, h.below))) ∙ h.passed k w v }

-- there is none
pub no_some : (r : Option ℕ) → ((k : ℕ) → r ≡ Some k → ⊥) → r ≡ None
no_some None h = refl
no_some (Some k) h = absurd (h k refl)

-- further numbers that were passed
pub passed_more : (f : ℕ → Bool) (from n k : ℕ) → ((j : ℕ) → from ≤ j → j < k → j < n → f j ≡ false) → (k' : ℕ) → ((j : ℕ) → k ≤ j → j < k' → f j ≡ false) → (j : ℕ) → from ≤ j → j < k' → j < n → f j ≡ false
passed_more f from n k h k' g j w v d = go (dec_le k j)
  where
    go : Dec (k ≤ j) → f j ≡ false
    go (yes above) = g j above v
    go (no below) = h j w (omega arith) d

-- bytes that one predicate byte governs are not active where it is zero
same_byte : (s : ElementSize) (j k : ℕ) → j / 8 ≡ k / 8 → j / bytes_of s * bytes_of s / 8 ≡ k / bytes_of s * bytes_of s / 8
same_byte Bits8 j k e = omega arith
same_byte Bits16 j k e = omega arith
same_byte Bits32 j k e = omega arith
same_byte Bits64 j k e = omega arith
same_byte Bits128 j k e = omega arith

pub zero_inactive : (p : List ℕ) (s : ElementSize) (j k : ℕ) → j / 8 ≡ k / 8 → get_or p (k / bytes_of s * bytes_of s / 8) 0 ≡ 0 → active p 0 (bytes_of s) j ≡ false
unfolding active
zero_inactive p s j k e z =
    rw (zero-add (j / bytes_of s * bytes_of s / 8), same_byte s j k e, z, zero-div (2 ^ (j / bytes_of s * bytes_of s % 8)))

-- bytes from k on up to the end of its element are of that element, and it ends behind k
pub same_element : (s : ElementSize) (j k : ℕ) → k ≤ j → j < k / bytes_of s * bytes_of s + bytes_of s → k / bytes_of s * bytes_of s ≡ j / bytes_of s * bytes_of s
same_element Bits8 j k w v = omega arith
same_element Bits16 j k w v = omega arith
same_element Bits32 j k w v = omega arith
same_element Bits64 j k w v = omega arith
same_element Bits128 j k w v = omega arith

pub element_ends : (s : ElementSize) (k : ℕ) → k < k / bytes_of s * bytes_of s + bytes_of s
element_ends Bits8 k = omega arith
element_ends Bits16 k = omega arith
element_ends Bits32 k = omega arith
element_ends Bits64 k = omega arith
element_ends Bits128 k = omega arith

-- a byte by the bit of its element's first byte i
module _ (p : List ℕ) (s : ElementSize) (k : ℕ) {i : ℕ} (e : i ≡ k / bytes_of s * bytes_of s) where
  pub bit_active : get_or p (i / 8) 0 / 2 ^ (i % 8) % 2 ≡ 1 → active p 0 (bytes_of s) k ≡ true
  unfolding active
  bit_active h = rw (← e, zero-add (i / 8)) (eq-eqb _ 1 h)

  pub bit_inactive : (get_or p (i / 8) 0 / 2 ^ (i % 8) % 2 ≡ 1 → ⊥) → active p 0 (bytes_of s) k ≡ false
  unfolding active
  bit_inactive h = rw (← e, zero-add (i / 8)) (ne_eqb _ 1 h)

-- ---- tests joined

pub and_false : (b : Bool) → false ≡ b && false
and_false true = refl
and_false false = refl
