-- What the functions of this crate rely on, for elements of m bytes. Only contracts between crates of this project cite these.
-- Assumes nothing.
use Rattle.std.specs.Prelude.{◌≡◌, Bool, cond, ◌&&◌, ◌||◌, List, ℕ, ◌+◌, ◌-◌, ◌*◌, ◌/◌, ◌%◌, ◌^◌, ◌≤◌, ◌<◌, eqb, ltb, length, get_or, take, drop}
use Rattle.general.specs.Scatter.{scatter}
use Rattle.settings.specs.Settings.{max_vector_bytes, stride_of}
use Rattle.settings.specs.declared.Settings.{Settings}
use Rattle.tiles.specs.Span.{span_at, Within}
use Rattle.tiles.specs.declared.span.Span.{Span}
use Rattle.moves.specs.Eights.{InEights}

-- as many elements in one place of a buffer of ld bytes as in another of a buffer of ls, and no more than a vector has
pub record Paired (to from : Span) (m ld ls : ℕ) : Type 0 where
  pub same : from.count ≡ to.count
  pub short : to.count * m ≤ max_vector_bytes
  pub written : Within to m ld
  pub read : Within from m ls

-- the predicate bytes p are those of a vector with these elements
pub record Governed (to : Span) (m : ℕ) (p : List ℕ) : Type 0 where
  pub bytes : to.count * m ≡ 8 * length p
  pub eights : InEights p

-- the predicate bytes of register pg that govern a vector, of P
abbrev pub governing_part : Settings → ℕ → List ℕ → List ℕ
governing_part s pg p = let start = pg * (stride_of s / 8) in take (start + s.vector_bytes / 8 - start) (drop start p)

-- the elements of both follow each other without a gap; they are merged so if they have at most 4 bytes
abbrev pub are_runs : Span → Span → ℕ → Bool
are_runs a b m = eqb a.step m && eqb b.step m

abbrev pub merged_as_run : Span → Span → ℕ → Bool
merged_as_run a b m = ltb m 8 && are_runs a b m

-- byte k of the elements of `from`
abbrev pub value_at : List ℕ → Span → ℕ → ℕ → ℕ
value_at src from m k = get_or src (span_at from m k) 0

-- elements that are `on` are copied, and with zeroing the others become zero
abbrev pub merged : Bool → (ℕ → Bool) → Span → Span → ℕ → List ℕ → List ℕ → List ℕ
merged zeroing on to from m src dst =
    scatter (span_at to m) (λ (k : ℕ). zeroing || on k) (λ (k : ℕ). cond (on k) (value_at src from m k) 0) (to.count * m) dst

-- so many elements of a span, from element e on
abbrev pub part_of : Span → ℕ → ℕ → Span
part_of v e count = record { start = v.start + e * v.step; step = v.step; count = count }

-- byte k is of an element whose bit in the predicate byte b is set
abbrev pub set_in : ℕ → ℕ → ℕ → Bool
set_in b m k = eqb (b / 2 ^ (k / m * m) % 2) 1

-- `per` elements of m bytes go by one predicate byte, and have whole predicate bytes
pub record Grouped (m per : ℕ) : Type 0 where
  pub some : 0 < m
  pub most : m ≤ 16
  pub fills : per * m % 8 ≡ 0
  pub filled : 0 < per
  pub bits : (j : ℕ) → j < per → j * m < 8
