-- The states of specs/Examples.antt that agree within B: each byte goes by its place alone.
-- Assumes nothing.
use Prim.Native.Nat.{ℕ, zero, suc, ◌+◌, ◌*◌, ◌/◌, ◌%◌, ◌<◌, ◌≤◌}
use mathlib.Core.Path.{◌≡◌, refl, sym, ap, ◌∙◌}
use mathlib.Core.Bool.{cond, ◌&&◌, and-false}
use native.Mathlib.Nat.{zero-add}
use native.Mathlib.Omega.{arith}
use lib.Arith.{digits_lt, digits_div, digits_mod}
use lib.Dec.{ltb}
use lib.ListN.{length, get_or}
use borrow.Author.Tests.{lt-ltb, le-ltb}
use Rattle.settings.specs.Settings.{stride_of}
use Rattle.settings.proofs.SettingsLaws.{stride_fits, vector_valid}
use Rattle.tiles.specs.declared.element.ElementSize.TheVariants.{Bits8}
use Rattle.tiles.proofs.LengthLaws.{whole_elements}
use Rattle.long_buffers.specs.Examples.{numbered, FillingsShown}

-- ---- numbered lists

numbered_long : (f : ℕ → ℕ) (i n : ℕ) → length (numbered f i n) ≡ n
numbered_long f i zero = refl
numbered_long f i (suc n) = ap suc (numbered_long f (suc i) n)

numbered_at : (f : ℕ → ℕ) (i n q : ℕ) → q < n → get_or (numbered f i n) q 0 ≡ f (i + q)
numbered_at f i zero q h = absurd (omega arith)
numbered_at f i (suc n) zero h = ap f (omega arith)
numbered_at f i (suc n) (suc q) h = numbered_at f (suc i) n q (omega arith) ∙ ap f (omega arith)

-- two of one length are the same where what numbers them is
numbered_same : (f g : ℕ → ℕ) (i n q : ℕ) → f (i + q) ≡ g (i + q) → get_or (numbered f i n) q 0 ≡ get_or (numbered g i n) q 0
numbered_same f g i zero q e = refl
numbered_same f g i (suc n) zero e = let r : i ≡ i + 0 = omega arith in ap f r ∙ e ∙ ap g (sym r)
numbered_same f g i (suc n) (suc q) e = let r : suc i + q ≡ i + suc q = omega arith in numbered_same f g (suc i) n q (ap f r ∙ e ∙ ap g (sym r))

-- ---- the two states

-- parts of `apart` bytes, of which the first `long` are given by w: byte k of part v is w's below `long`, and b from there on
module _ (long apart : ℕ) (w : ℕ → ℕ) where
  abbrev by_part : ℕ → ℕ → ℕ
  by_part b i = cond (ltb (i % apart) long) (w i) b

  part_within : (b v k : ℕ) → k < long → long ≤ apart → by_part b (0 + (v * apart + k)) ≡ w (v * apart + k)
  part_within b v k h fit =
      let below : k < apart = omega arith in
      rw (zero-add (v * apart + k), digits_mod v below, lt-ltb k long h)

  part_same : (b c n v k : ℕ) → k < long → long ≤ apart → get_or (numbered (by_part b) 0 n) (v * apart + k) 0 ≡ get_or (numbered (by_part c) 0 n) (v * apart + k) 0
  part_same b c n v k h fit = numbered_same (by_part b) (by_part c) 0 n (v * apart + k) (part_within b v k h fit ∙ sym (part_within c v k h fit))

  part_beyond : (b n v k : ℕ) → v < n → long ≤ k → k < apart → get_or (numbered (by_part b) 0 (n * apart)) (v * apart + k) 0 ≡ b
  part_beyond b n v k hv hk below =
      numbered_at (by_part b) 0 (n * apart) (v * apart + k) (digits_lt hv below) ∙ rw (zero-add (v * apart + k), digits_mod v below, le-ltb k long hk)

-- the same with only the first `long` parts
module _ (long apart : ℕ) (w : ℕ → ℕ) (fit : long < apart) where
  abbrev by_both : ℕ → ℕ → ℕ
  by_both b i = cond (ltb (i / apart) long && ltb (i % apart) long) (w i) b

  both_within : (b v k : ℕ) → v < long → k < long → by_both b (0 + (v * apart + k)) ≡ w (v * apart + k)
  both_within b v k hv hk =
      let below : k < apart = omega arith in
      rw (zero-add (v * apart + k), digits_div v below, digits_mod v below, lt-ltb v long hv, lt-ltb k long hk)

  both_same : (b c n v k : ℕ) → v < long → k < long → get_or (numbered (by_both b) 0 n) (v * apart + k) 0 ≡ get_or (numbered (by_both c) 0 n) (v * apart + k) 0
  both_same b c n v k hv hk = numbered_same (by_both b) (by_both c) 0 n (v * apart + k) (both_within b v k hv hk ∙ sym (both_within c v k hv hk))

  -- bytes from `long` on, and parts from `long` on
  byte_beyond : (b n v k : ℕ) → v < n → long ≤ k → k < apart → get_or (numbered (by_both b) 0 (n * apart)) (v * apart + k) 0 ≡ b
  byte_beyond b n v k hv hk below =
      numbered_at (by_both b) 0 (n * apart) (v * apart + k) (digits_lt hv below) ∙
      rw (zero-add (v * apart + k), digits_mod v below, le-ltb k long hk, and-false (ltb ((v * apart + k) / apart) long))

  part_past : (b n v k : ℕ) → long ≤ v → v < n → k < apart → get_or (numbered (by_both b) 0 (n * apart)) (v * apart + k) 0 ≡ b
  part_past b n v k hv most below =
      numbered_at (by_both b) 0 (n * apart) (v * apart + k) (digits_lt most below) ∙ rw (zero-add (v * apart + k), digits_div v below, le-ltb v long hv)

pub fillings_shown : FillingsShown
fillings_shown s t b c laid longer =
    let f = stride_fits s laid in
    let B = s.vector_bytes in
    let S = stride_of s in
    let z : ℕ → ℕ = λ i. get_or t.z i 0 in
    let p : ℕ → ℕ = λ i. get_or t.p i 0 in
    let za : ℕ → ℕ = λ i. get_or t.za i 0 in
    let eights = (whole_elements Bits8 B (vector_valid s laid)).eights in
    let eighth : B / 8 < S / 8 = omega (arith, eights, f.eights) in
    record {
      agree =
          record {
            x = refl;
            memory = refl;
            z_long = numbered_long _ 0 (32 * S) ∙ sym (numbered_long _ 0 (32 * S));
            p_long = numbered_long _ 0 (16 * (S / 8)) ∙ sym (numbered_long _ 0 (16 * (S / 8)));
            za_long = numbered_long _ 0 (S * S) ∙ sym (numbered_long _ 0 (S * S));
            z = λ v k h. part_same B S z b c (32 * S) v k h f.fit;
            p = λ v k h. part_same (B / 8) (S / 8) p b c (16 * (S / 8)) v k h (omega (arith, eighth));
            za = λ v k hv hk. both_same B S za longer b c (S * S) v k hv hk;
          };
      z = part_beyond B S z b 32;
      p = part_beyond (B / 8) (S / 8) p b 16;
      za = byte_beyond B S za longer b S;
      vectors = part_past B S za longer b S;
    }
