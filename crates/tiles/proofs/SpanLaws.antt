-- Laws of specs/Span.antt: a run is a run of bytes, a slice's elements are where `slice_at` says, and both end within their buffers.
-- Assumes nothing.
use mathlib.Core.Path.{◌≡◌, refl, fun_ext}
use mathlib.Core.Bool.{true}
use mathlib.Core.List.{List}
use Prim.Native.Nat.{ℕ, zero, suc, ◌+◌, ◌*◌, ◌-◌, ◌/◌, ◌%◌, ◌<◌, ◌≤◌}
use native.Mathlib.Nat.{add-mul, mul_assoc, mul-le-mul, mul-le-mul_left, mul-le-mul_right, suc-mul, mod-lt, div-add-mod'}
use native.Mathlib.Omega.{arith}
use lib.Arith.{digits_div, digits_mod}
use Rattle.general.specs.Scatter.{onwards}
use Rattle.settings.specs.Settings.{is_vector_length, valid_vectors, max_vector_bytes, stride_of}
use Rattle.settings.specs.declared.Settings.{Settings}
use Rattle.settings.proofs.SettingsLaws.{vector_valid, stride_fits}
use Rattle.tiles.specs.declared.direction.Direction.{Direction}
use Rattle.tiles.specs.declared.direction.Direction.TheVariants.{Horizontal, Vertical}
use Rattle.tiles.specs.declared.element.ElementSize.{ElementSize}
use Rattle.tiles.specs.declared.slice.TileSlice.{TileSlice}
use Rattle.tiles.specs.declared.span.Span.{Span}
use Rattle.tiles.specs.Element.{bytes_of}
use Rattle.tiles.specs.Slice.{slice_number_of}
use Rattle.tiles.specs.Tile.{byte_of, slice_at}
use Rattle.tiles.specs.Span.{strided, span_at, Within, run_from, slice_start, slice_step, slice_span}
use Rattle.tiles.proofs.TileLaws.{byte_of_within}
use Rattle.tiles.proofs.LengthLaws.{whole_elements}

-- ---- elements of m bytes

-- one block more of m bytes, and block e is within n blocks
pub block_within : (e m n : ℕ) → e < n → e * m + m ≤ n * m
block_within e m n h = rw (← suc-mul e m) (mul-le-mul_right m h)

-- byte i of element e
pub strided_element : (start step m e i : ℕ) → i < m → strided start step m (e * m + i) ≡ start + e * step + i
unfolding strided
strided_element start step m e i h = rw (digits_div e h, digits_mod e h)

-- elements that touch are a run of bytes
pub strided_run : (start m : ℕ) → strided start m m ≡ onwards start
unfolding strided
strided_run start m = fun_ext (λ k. omega (arith, div-add-mod' k m))

-- ---- what a span is: the vector's bytes, where they lie, and that they end within the buffer

pub record Spanned (v : Span) (m B long : ℕ) (at : ℕ → ℕ) : Type 0 where
  pub counted : v.count ≡ B / m
  pub bytes : v.count * m ≡ B
  pub places : span_at v m ≡ at
  pub within : Within v m long
  pub apart : m ≤ v.step

module _ (s : Settings) (laid : valid_vectors s ≡ true) where
  abbrev B : ℕ
  B = s.vector_bytes

  abbrev S : ℕ
  S = stride_of s

  valid : is_vector_length B ≡ true
  valid = vector_valid s laid

  pub run_spanned : (size : ElementSize) (start long : ℕ) → start + B ≤ long → Spanned (run_from s size start) (bytes_of size) B long (onwards start)
  run_spanned size start long room =
      let w = whole_elements size B valid in
      let m = bytes_of size in
      record { counted = refl; bytes = w.elements; places = strided_run start m; within = (omega arith, λ e h. omega (arith, block_within e m (B / m) h, w.elements)); apart = omega arith }

  -- vector `number` of a buffer of n vectors
  pub vector_spanned : (size : ElementSize) (number n long : ℕ) → number < n → n * S ≤ long → Spanned (run_from s size (number * S)) (bytes_of size) B long (onwards (number * S))
  vector_spanned size number n long below room =
      run_spanned size (number * S) long (omega (arith, block_within number S n below, (stride_fits s laid).fit))

  module _ (x : List ℕ) (o : TileSlice) (tile : o.tile < bytes_of o.size) where
    abbrev m : ℕ
    m = bytes_of o.size

    abbrev n : ℕ
    n = slice_number_of B x o

    start_byte : (d : Direction) (e i : ℕ) → slice_start S m o.tile d n + e * slice_step S m d + i ≡ byte_of S m o.tile d n e i
    unfolding byte_of
    start_byte Horizontal e i = omega arith
    start_byte Vertical e i = omega (arith, add-mul (e * m) o.tile S, mul_assoc e m S)

    number_below : n < B / m
    number_below = mod-lt _ (whole_elements o.size B valid).slices

    -- the vector that a horizontal slice is
    pub vector_below : n * m + o.tile < B
    vector_below = omega (arith, block_within n m (B / m) number_below, (whole_elements o.size B valid).elements)

    step_apart : (d : Direction) → m ≤ slice_step S m d
    step_apart Horizontal = omega arith
    step_apart Vertical =
        let f = stride_fits s laid in
        let some : 1 ≤ S = omega (arith, vector_below) in
        omega (arith, mul-le-mul_left m some)

    pub slice_spanned : (long : ℕ) → S * S ≤ long → Spanned (slice_span s x o) m B long (slice_at S m o.tile o.direction n)
    unfolding strided slice_at
    slice_spanned long room =
        let w = whole_elements o.size B valid in
        let f = stride_fits s laid in
        let square : B * S ≤ S * S = mul-le-mul_right S f.fit in
        let slice-ends : (e : ℕ) → e < B / m → slice_start S m o.tile o.direction n + e * slice_step S m o.direction + m ≤ long = λ e h. omega (arith, start_byte o.direction e (m - 1), byte_of_within S B m (B / m) w.elements f.fit o.tile tile o.direction n e (m - 1) number_below h (omega arith)) in
        record {
          counted = refl;
          bytes = w.elements;
          places = fun_ext (λ k. start_byte o.direction (k / m) (k % m));
          within = (omega (arith, slice-ends 0 w.slices), slice-ends);
          apart = step_apart o.direction;
        }

    -- the products that code forms are small
    pub products_small : (n * m ≤ max_vector_bytes) × ((n * m + o.tile) * S ≤ 65536) × (o.tile * S ≤ 65536) × (m * S ≤ 65536)
    products_small =
        let w = whole_elements o.size B valid in
        let f = stride_fits s laid in
        let v = vector_below in
        let e = block_within n m (B / m) number_below in
        let short : n * m + o.tile ≤ max_vector_bytes = omega (arith, w.longest) in
        let tiles : o.tile ≤ max_vector_bytes = omega (arith, w.longest) in
        let element : m ≤ max_vector_bytes = omega (arith, w.longest) in
        (omega arith, mul-le-mul short f.longest, mul-le-mul tiles f.longest, mul-le-mul element f.longest)

-- ---- elements that touch end together
pub run_end : (v : Span) (m long : ℕ) → Within v m long → v.step ≡ m → v.start + v.count * m ≤ long
run_end v m long w q = go v.count (λ e h. rw q at (w.1 e h))
  where
    go : (c : ℕ) → ((e : ℕ) → e < c → v.start + e * m + m ≤ long) → v.start + c * m ≤ long
    go zero h = omega (arith, w.0)
    go (suc c) h = omega (arith, suc-mul c m, h c (omega arith))
