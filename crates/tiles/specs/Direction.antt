-- The two directions of a tile's slices. Renders 01 §3 and V of 01 §4. To believe: vertical is 1.
-- Assumes nothing.
use Rattle.std.specs.Prelude.{ℕ, cond, eqb}
use Rattle.tiles.specs.declared.direction.Direction.{Direction}
use Rattle.tiles.specs.declared.direction.Direction.TheVariants.{Horizontal, Vertical}

abbrev pub direction_number : Direction → ℕ
direction_number Horizontal = 0
direction_number Vertical = 1

-- the way back: vertical where no direction has the number
abbrev pub direction_of : ℕ → Direction
direction_of d = cond (eqb d 0) Horizontal Vertical

abbrev pub flip : Direction → Direction
flip Horizontal = Vertical
flip Vertical = Horizontal
