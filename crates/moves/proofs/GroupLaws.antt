-- Groups of elements that go by one predicate byte, as columns are merged by.
-- Assumes nothing.
use mathlib.Core.Path.{◌≡◌, refl, sym, ap}
use mathlib.Core.Bool.{Bool, true, false, cond, ◌||◌, not}
use mathlib.Core.List.{List}
use Prim.Native.Nat.{ℕ, zero, suc, ◌+◌, ◌*◌, ◌/◌, ◌%◌, ◌^◌, ◌<◌, ◌≤◌}
use native.Mathlib.Nat.{div-lt_iff_lt-mul, mod-lt, add-mul, zero-mul, suc-mul, mul_assoc, mul_comm, mul-le-mul_right, mul-mod_right, zero-add, zero-div, div-add-mod'}
use native.Mathlib.Omega.{arith}
use borrow.Author.Tests.{eqb-true, not-false}
use lib.Arith.{digits_div, digits_mod}
use lib.Dec.{eqb}
use lib.ListN.{length, get_or}
use Rattle.settings.specs.Settings.{max_vector_bytes}
use Rattle.tiles.specs.Element.{bytes_of}
use Rattle.tiles.specs.declared.element.ElementSize.{ElementSize}
use Rattle.tiles.specs.declared.element.ElementSize.TheVariants.{Bits8, Bits16, Bits32, Bits64, Bits128}
use Rattle.tiles.specs.declared.span.Span.{Span}
use Rattle.tiles.specs.Predicate.{active}
use Rattle.tiles.specs.Span.{strided, span_at}
use Rattle.tiles.proofs.SpanLaws.{block_within}
use Rattle.moves.specs.Paired.{Paired, Governed, Grouped, part_of, value_at, merged, set_in}
use Rattle.moves.proofs.BlockLaws.{WrittenTo, written_block, written_skip}
use Rattle.moves.proofs.SpanLaws.{reads}

-- byte i of element j goes by the element's bit
pub set_in-element : (b m j i : ℕ) → i < m → set_in b m (j * m + i) ≡ eqb (b / 2 ^ (j * m) % 2) 1
set_in-element b m j i h = rw (digits_div j h)

-- a predicate byte that is zero has no bit set
pub set_in-zero : (b m k : ℕ) → b ≡ 0 → set_in b m k ≡ false
set_in-zero b m k e = rw (e, zero-div (2 ^ (k / m * m)))

-- elements that are not written: no zeroing, and a predicate byte of zero
none_written : (zeroing : Bool) (b : ℕ) → zeroing || not (eqb b 0) ≡ false → (zeroing ≡ false) × (b ≡ 0)
none_written true b e = let z : ◌≡◌ {A = ℕ} 0 1 = cc in (cc, omega arith)
none_written false b e = (refl, eqb-true b 0 (not-false _ e))

-- the bit of an element is in a byte
pub bit_within : {m per : ℕ} → Grouped m per → (j : ℕ) → j < per → j * m < 8
bit_within h j w = h.bits j w

-- byte i of group g, of `per` elements each

module _ {m per : ℕ} (h : Grouped m per) where
  -- a group has whole predicate bytes
  pub group_bytes : per * m ≡ 8 * (per * m / 8)
  group_bytes = omega (arith, h.fills)

  -- the bit of an element is in the first of them
  bit_below : (i : ℕ) → i < per * m → i / m * m < 8
  bit_below i w = h.bits (i / m) ((div-lt_iff_lt-mul h.some).1 w)

  group_place : (g i : ℕ) → g * (per * m) + i ≡ (g * per + i / m) * m + i % m
  group_place g i = omega (arith, mul_assoc g per m, add-mul (g * per) (i / m) m, div-add-mod' i m)

  group_element : (g i : ℕ) → (g * (per * m) + i) / m ≡ g * per + i / m
  group_element g i = rw (group_place g i) (digits_div (g * per + i / m) (mod-lt i h.some))

  group_rest : (g i : ℕ) → (g * (per * m) + i) % m ≡ i % m
  group_rest g i = rw (group_place g i) (digits_mod (g * per + i / m) (mod-lt i h.some))

  pub strided_group : (start step g i : ℕ) → strided start step m (g * (per * m) + i) ≡ strided (start + g * per * step) step m i
  unfolding strided
  strided_group start step g i =
      rw (group_element g i, group_rest g i) (omega (arith, add-mul (g * per) (i / m) step))

  pub active_group : (p : List ℕ) (g i : ℕ) → i < per * m → active p 0 m (g * (per * m) + i) ≡ set_in (get_or p (g * (per * m / 8)) 0) m i
  unfolding active
  active_group p g i w =
      let r = i / m * m in
      let low : r < 8 = bit_below i w in
      let x : (g * per + i / m) * m ≡ 8 * (g * (per * m / 8)) + r = omega (arith, add-mul (g * per) (i / m) m, mul_assoc g per m, ap (λ (k : ℕ). g * k) group_bytes, mul_assoc g 8 (per * m / 8)) in
      let byte : (8 * (g * (per * m / 8)) + r) / 8 ≡ g * (per * m / 8) = omega arith in
      let bit : (8 * (g * (per * m / 8)) + r) % 8 ≡ r = omega arith in
      rw (group_element g i, x, byte, bit, zero-add (g * (per * m / 8)))

  -- a group is small, and not empty
  pub group_small : (0 < per * m) × (per * m ≤ max_vector_bytes)
  group_small = (omega (arith, mul-le-mul_right m h.filled, h.some), go per h.bits)
    where
      go : (k : ℕ) → ((j : ℕ) → j < k → j * m < 8) → k * m ≤ max_vector_bytes
      go zero b = omega (arith, zero-mul m)
      go (suc k) b = omega (arith, suc-mul k m, b k (omega arith), h.most)

  -- n groups of a vector, which has so many predicate bytes
  module _ {to from : Span} {ld ls : ℕ} {p : List ℕ} (w : Paired to from m ld ls) (q : Governed to m p) (n : ℕ) (e : n * per ≡ to.count) where
    pub groups_whole : n * (per * m) ≡ to.count * m
    groups_whole = rw (← e) (sym (mul_assoc n per m))

    module _ {g : ℕ} (below : g < n) where
      -- the first predicate byte of group g is there
      pub group_index : g * (per * m / 8) < length p
      group_index =
          omega (arith, q.bytes, group_bytes, group_small.0, groups_whole, ap (λ (k : ℕ). n * k) group_bytes, mul_assoc n 8 (per * m / 8), mul_comm n 8, mul_assoc 8 n (per * m / 8), block_within g (per * m / 8) n below)

      -- and its elements are among those of the vector
      pub group_elements : g * per + per ≤ to.count
      group_elements = omega (arith, block_within g per n below)

      pub group_first : g * per < to.count
      group_first = omega (arith, group_elements, h.filled)

      pub part_paired : Paired (part_of to (g * per) per) (part_of from (g * per) per) m ld ls
      part_paired =
          record {
            same = refl;
            short = group_small.1;
            written = (omega (arith, w.written.1 (g * per) group_first), λ j v. omega (arith, w.written.1 (g * per + j) (omega (arith, group_elements)), add-mul (g * per) j to.step));
            read = (omega (arith, reads w (g * per) group_first), λ j v. omega (arith, reads w (g * per + j) (omega (arith, group_elements)), add-mul (g * per) j from.step));
          }

  -- what a loop over groups has once g of them are merged
  module _ (zeroing : Bool) (p src : List ℕ) (to from : Span) (l : List ℕ) where
    abbrev pub GroupsMerged : ℕ → List ℕ → Type 0
    GroupsMerged g d = WrittenTo (span_at to m) (λ (k : ℕ). zeroing || active p 0 m k) (λ (k : ℕ). cond (active p 0 m k) (value_at src from m k) 0) l (g * (per * m)) d

    -- group g is merged
    pub group_merged : (g : ℕ) {d d' : List ℕ} → GroupsMerged g d → d' ≡ merged zeroing (set_in (get_or p (g * (per * m / 8)) 0) m) (part_of to (g * per) per) (part_of from (g * per) per) m src d → GroupsMerged (g + 1) d'
    group_merged g q r =
        written_block _ _ _ _ g (per * m) _ _ _ q.1
        (λ i w. (rw (active_group p g i w), strided_group to.start to.step g i, rw (active_group p g i w, strided_group from.start from.step g i))) r

    -- group g is passed over: its predicate byte is zero
    pub group_passed : (g : ℕ) {d : List ℕ} → GroupsMerged g d → zeroing || not (eqb (get_or p (g * (per * m / 8)) 0) 0) ≡ false → GroupsMerged (g + 1) d
    group_passed g q e =
        let none = none_written zeroing (get_or p (g * (per * m / 8)) 0) e in
        written_skip _ _ _ _ g (per * m) q.1 (λ i w. rw (active_group p g i w, set_in-zero _ m i none.1) (ap (λ (t : Bool). t || false) none.0))

-- ---- the five sizes

abbrev pub per_byte : ElementSize → ℕ
per_byte Bits8 = 8
per_byte Bits16 = 4
per_byte Bits32 = 2
per_byte Bits64 = 1
per_byte Bits128 = 1

pub size_grouped : (s : ElementSize) → Grouped (bytes_of s) (per_byte s)
size_grouped Bits8 = record { some = omega arith; most = omega arith; fills = refl; filled = omega arith; bits = λ j w. omega arith }
size_grouped Bits16 = record { some = omega arith; most = omega arith; fills = refl; filled = omega arith; bits = λ j w. omega arith }
size_grouped Bits32 = record { some = omega arith; most = omega arith; fills = refl; filled = omega arith; bits = λ j w. omega arith }
size_grouped Bits64 = record { some = omega arith; most = omega arith; fills = refl; filled = omega arith; bits = λ j w. omega arith }
size_grouped Bits128 = record { some = omega arith; most = omega arith; fills = refl; filled = omega arith; bits = λ j w. omega arith }

-- whole predicate bytes have whole groups
pub size_whole : (s : ElementSize) (count lp : ℕ) → count * bytes_of s ≡ 8 * lp → count % per_byte s ≡ 0
size_whole Bits8 count lp e = let q : count ≡ 8 * lp = omega arith in rw q (mul-mod_right 8 lp)
size_whole Bits16 count lp e = let q : count ≡ 4 * lp = omega arith in rw q (mul-mod_right 4 lp)
size_whole Bits32 count lp e = let q : count ≡ 2 * lp = omega arith in rw q (mul-mod_right 2 lp)
size_whole Bits64 count lp e = omega arith
size_whole Bits128 count lp e = omega arith
