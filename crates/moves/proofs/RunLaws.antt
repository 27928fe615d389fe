-- Bytes of a run merged by predicate bytes, part after part.
-- Assumes nothing.
use mathlib.Core.Path.{◌≡◌, refl, sym, ap, ◌∙◌}
use mathlib.Core.Bool.{Bool, false}
use mathlib.Core.List.{List}
use Prim.Native.Nat.{ℕ, ◌+◌, ◌*◌, ◌-◌, ◌/◌, ◌%◌, ◌<◌, ◌≤◌, min}
use native.Mathlib.Nat.{zero-add, min-le_right, min-eq_left}
use native.Mathlib.Omega.{arith}
use lib.Arith.{bin_ind}
use lib.Bits.{bit_and, and_step, and_zero_l}
use lib.ListN.{length, get_or}
use borrow.Rule.Slice.PartMut.{put_mid}
use Rattle.general.specs.Number.{number}
use Rattle.general.specs.Scatter.{scatter, all, onwards}
use Rattle.general.proofs.ScatterLaws.{scatter_none, scatter_skip, scatter_glue, scatter_agree, scatter_tests}
use Rattle.tiles.specs.Element.{bytes_of}
use Rattle.tiles.specs.Predicate.{active}
use Rattle.tiles.specs.declared.element.ElementSize.{ElementSize}
use Rattle.tiles.specs.declared.element.ElementSize.TheVariants.{Bits8, Bits16, Bits32, Bits64, Bits128}
use Rattle.moves.specs.Eights.{bits_in, eight_at, eight_bits, AllMixed}
use Rattle.moves.specs.Mask.{set_among, SomeBits, merged_by}
use Rattle.moves.specs.Paired.{set_in}
use Rattle.moves.proofs.EightLaws.{eight_mixed}
use Rattle.moves.proofs.GroupLaws.{set_in-zero}
use Rattle.moves.proofs.MaskLaws.{active_among, active_set, bits_set, set_under}
use Rattle.moves.proofs.PartLaws.{lent, lent_byte, lent_scatter}

-- every predicate byte has the same bits
bits_same : (s : ElementSize) → bytes_of s ≤ 4 → (i : ℕ) → bits_in s i ≡ bits_in s 0
bits_same Bits8 few i = refl
bits_same Bits16 few i = refl
bits_same Bits32 few i = refl
bits_same Bits64 few i = refl
bits_same Bits128 few i = absurd (omega arith)

-- each of eight predicate bytes that are mixed is
pub some_bits : (p : List ℕ) → ((i : ℕ) → get_or p i 0 < 256) → (s : ElementSize) → bytes_of s ≤ 4 → (a : ℕ) → AllMixed (bit_and (eight_at p a) (eight_bits s)) s → (i : ℕ) → i < 8 → SomeBits (get_or p (a + i) 0) s
some_bits p byte s few a mixed i w =
    let h = rw (bits_same s few i) at (eight_mixed p byte s a mixed i w) in
    record { some = h.0; lacking = h.1 }

-- bits that were taken are there
pub and_again : (x c : ℕ) → bit_and (bit_and x c) c ≡ bit_and x c
and_again x =
    bin_ind (λ (n : ℕ). (c : ℕ) → bit_and (bit_and n c) c ≡ bit_and n c) (λ c. rw (and_zero_l c, and_zero_l c))
    (λ n ih c. rw (and_step n c) (step (bit_and (n / 2) (c / 2)) (min (n % 2) (c % 2)) c (ih (c / 2)) (min-le_right (n % 2) (c % 2)))) x
  where
    step : (r m c : ℕ) → bit_and r (c / 2) ≡ r → m ≤ c % 2 → bit_and (r * 2 + m) c ≡ r * 2 + m
    step r m c e h =
        let half : (r * 2 + m) / 2 ≡ r = omega arith in
        let odd : (r * 2 + m) % 2 ≡ m = omega arith in
        and_step (r * 2 + m) c ∙ rw (half, odd, e, min-eq_left h)

-- no byte is written where no test holds
pub none_written : (at : ℕ → ℕ) (on : ℕ → Bool) (val : ℕ → ℕ) (n : ℕ) (l : List ℕ) → ((i : ℕ) → i < n → on i ≡ false) → l ≡ scatter at on val n l
none_written at on val n l h =
    scatter_none at on val ∙ sym (scatter_skip at on val 0 n l (λ i w. ap on (zero-add i) ∙ h i w)) ∙ ap (λ (k : ℕ). scatter at on val k l) (zero-add n)

module _ (p : List ℕ) (s : ElementSize) (src : List ℕ) where
  -- what goes by n predicate bytes, and then what goes by the next k
  pub merged_more : (first n k : ℕ) (l : List ℕ) {d d' : List ℕ} → d ≡ merged_by p s src first n l → d' ≡ merged_by p s src (first + n) k d → d' ≡ merged_by p s src first (n + k) l
  merged_more first n k l q r =
      let next : (i : ℕ) → first * 8 + (n * 8 + i) ≡ (first + n) * 8 + i = λ i. omega arith in
      let bytes : (n + k) * 8 ≡ n * 8 + k * 8 = omega arith in
      r
      ∙ ap (merged_by p s src (first + n) k) q
      ∙ sym (scatter_glue _ _ _ _ _ _ (n * 8) (k * 8) l (λ i w. (ap (active p 0 (bytes_of s)) (next i), next i, ap (λ (j : ℕ). get_or src j 0) (next i))))
      ∙ ap (λ (j : ℕ). scatter (onwards (first * 8)) (λ (i : ℕ). active p 0 (bytes_of s) (first * 8 + i)) (λ (i : ℕ). get_or src (first * 8 + i) 0) j l) (sym bytes)

  -- by predicate byte a, of which a byte has the bits that elements go by
  pub merged_byte : (a : ℕ) (d : List ℕ) {d' : List ℕ} → bytes_of s ≤ 4 → d' ≡ scatter (onwards (a * 8)) (set_in (bit_and (get_or p a 0) (bits_in s 0)) (bytes_of s)) (λ (k : ℕ). get_or src (a * 8 + k) 0) 8 d → d' ≡ merged_by p s src a 1 d
  merged_byte a d few e =
      e ∙ scatter_tests _ _ _ _ 8 d (λ i w. set_under s (get_or p a 0) i w ∙ sym (active_set p s a few i w))

  -- by two of them
  pub merged_two : (a : ℕ) (d : List ℕ) {d' : List ℕ} → bytes_of s ≤ 4 → d' ≡ scatter (onwards (a * 8)) (set_among (lent a 2 p) (bytes_of s)) (λ (k : ℕ). get_or src (a * 8 + k) 0) 16 d → d' ≡ merged_by p s src a 2 d
  merged_two a d few e = e ∙ scatter_tests _ _ _ _ 16 d (active_among p s a 2 (lent a 2 p) few (lent_byte a 2 p))

  -- ---- eight of them that are alike

  -- byte k goes by predicate byte k / 8
  eight_set : (a : ℕ) → bytes_of s ≤ 4 → (k : ℕ) → active p 0 (bytes_of s) (a * 8 + k) ≡ set_in (bit_and (get_or p (a + k / 8) 0) (bits_in s 0)) (bytes_of s) (k % 8)
  eight_set a few k =
      let place : a * 8 + k ≡ (a + k / 8) * 8 + k % 8 = omega arith in
      let low : k % 8 < 8 = omega arith in
      rw place (active_set p s (a + k / 8) few (k % 8) low ∙ sym (set_under s (get_or p (a + k / 8) 0) (k % 8) low))

  -- none has a bit set
  pub merged_clear : (a : ℕ) (d : List ℕ) → bytes_of s ≤ 4 → ((i : ℕ) → i < 8 → bit_and (get_or p (a + i) 0) (bits_in s i) ≡ 0) → d ≡ merged_by p s src a 8 d
  merged_clear a d few h =
      none_written _ _ _ 64 d (λ k w. eight_set a few k ∙ set_in-zero _ (bytes_of s) (k % 8) (rw (bits_same s few (k / 8)) at (h (k / 8) (omega arith))))

  -- all have all bits set
  pub merged_full : (a : ℕ) (d : List ℕ) {d' : List ℕ} → bytes_of s ≤ 4 → ((i : ℕ) → i < 8 → bit_and (get_or p (a + i) 0) (bits_in s i) ≡ bits_in s i) → d' ≡ scatter (onwards (a * 8)) all (λ (k : ℕ). get_or src (a * 8 + k) 0) 64 d → d' ≡ merged_by p s src a 8 d
  merged_full a d few h e =
      e ∙ scatter_tests _ _ _ _ 64 d (λ k w. sym (eight_set a few k ∙ ap (λ (b : ℕ). set_in b (bytes_of s) (k % 8)) (rw (bits_same s few (k / 8)) at (h (k / 8) (omega arith))) ∙ bits_set s (k % 8) (omega arith)))

  -- ---- all of them, in parts that are lent: n bytes from place t on of dst, and from place f on of src
  pub merged_lent : (f t : ℕ) (dst : List ℕ) {d : List ℕ} → t + 8 * length p ≤ length dst → d ≡ merged_by p s (lent f (8 * length p) src) 0 (length p) (lent t (8 * length p) dst) → put_mid t (t + 8 * length p - t) dst d ≡ scatter (onwards t) (active p 0 (bytes_of s)) (λ (k : ℕ). get_or src (f + k) 0) (8 * length p) dst
  merged_lent f t dst h e =
      let n = 8 * length p in
      let part = lent t n dst in
      let bytes : length p * 8 ≡ n = omega arith in
      let tests = scatter_tests (onwards 0) (λ (k : ℕ). active p 0 (bytes_of s) (0 + k)) (active p 0 (bytes_of s)) (λ (k : ℕ). get_or (lent f n src) (0 + k) 0) n part (λ k w. ap (active p 0 (bytes_of s)) (zero-add k)) in
      let values = scatter_agree (onwards 0) (onwards 0) (active p 0 (bytes_of s)) (λ (k : ℕ). get_or (lent f n src) (0 + k) 0) (λ (k : ℕ). get_or src (f + k) 0) n part (λ k w y. (refl, rw (zero-add k) (lent_byte f n src k w))) in
      ap (put_mid t (t + n - t) dst) ((rw bytes at e) ∙ tests ∙ values) ∙ lent_scatter (active p 0 (bytes_of s)) (λ (k : ℕ). get_or src (f + k) 0) t n dst h n (omega arith)

-- what sizes of at most 4 bytes go by
pub first_bits : (s : ElementSize) → eight_bits s % 256 ≡ bits_in s 0
unfolding number
first_bits Bits8 = refl
first_bits Bits16 = refl
first_bits Bits32 = refl
first_bits Bits64 = refl
first_bits Bits128 = refl
