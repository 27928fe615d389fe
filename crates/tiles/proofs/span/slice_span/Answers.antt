-- `tiles::span::slice_span` meets its contract: the start and the step by direction, from numbers that are those of the definition.
-- Assumes nothing.
use mathlib.Core.Path.{◌≡◌, ap, ◌∙◌}
use Prim.Native.Nat.{◌+◌, ◌*◌, ◌≤◌}
use native.Mathlib.Omega.{arith}
use Rattle.settings.proofs.SettingsLaws.{vector_valid}
use Rattle.tiles.specs.Slice.{selected, slice_number_of}
use Rattle.tiles.proofs.LengthLaws.{whole_elements, elements_power}
use Rattle.tiles.proofs.SpanLaws.{products_small}
use Rattle.tiles.proofs.span.slice_span.Goals.{After-stride-stride}
use Rattle.tiles.proofs.span.slice_span.Goals as goal

-- the number of the slice
number : (c : After-stride-stride) → let a = c.args in c.selected-number.result ≡ slice_number_of a.settings.vector_bytes a.x.now a.slice
number c =
    let a = c.args in
    c.selected-number.ensures.0 ∙ ap (selected a.x.now a.slice.index a.slice.offset) c.elements_in-count.ensures

-- what code multiplies is small
small : (c : After-stride-stride) → let n = c.selected-number.result in let m = c.bytes-m.result in let t = c.args.slice.tile in let S = c.stride-stride.result in
    (n * m ≤ 256) × ((n * m + t) * S ≤ 65536) × (t * S ≤ 65536) × (m * S ≤ 65536)
small c =
    rw (number c, c.bytes-m.ensures.0, c.stride-stride.ensures) (products_small c.args.settings c.requires.0 c.args.x.now c.args.slice c.requires.3)

pub selected-number-requires : goal.selected-number-requires
selected-number-requires c =
    let count = c.elements_in-count.ensures in
    let size = c.args.slice.size in
    let valid = vector_valid c.args.settings c.requires.0 in
    (rw count (elements_power size _ valid), rw count (whole_elements size _ valid).few, c.requires.2)

pub overflow_mul-result-in-Horizontal : goal.overflow_mul-result-in-Horizontal
overflow_mul-result-in-Horizontal c = omega (arith, small (goal.at.overflow_mul-result-in-Horizontal c).After-stride-stride)

pub overflow_mul-result-in-Vertical : goal.overflow_mul-result-in-Vertical
overflow_mul-result-in-Vertical c = omega (arith, small (goal.at.overflow_mul-result-in-Vertical c).After-stride-stride)

pub overflow_add-result-in-Vertical : goal.overflow_add-result-in-Vertical
overflow_add-result-in-Vertical c = omega (arith, small (goal.at.overflow_add-result-in-Vertical c).After-stride-stride)

pub overflow_mul-result-in-Vertical-3 : goal.overflow_mul-result-in-Vertical-3
overflow_mul-result-in-Vertical-3 c = omega (arith, small (goal.at.overflow_mul-result-in-Vertical-3 c).After-stride-stride)
