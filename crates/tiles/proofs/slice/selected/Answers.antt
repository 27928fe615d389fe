-- `tiles::slice::selected` meets its contract: modulo a power of two is the bits below it.
-- Assumes nothing.
use mathlib.Core.Path.{◌≡◌}
use Prim.Native.Nat.{ℕ, ◌+◌, ◌-◌, ◌%◌, ◌<◌}
use native.Mathlib.Nat.{mod-lt}
use lib.Bits.{bit_and, and_mask}
use lib.Pow.{pow_pos}
use Rattle.tiles.specs.Slice.{PowerOfTwo}
use Rattle.tiles.proofs.slice.selected.Goals as goal

below : (w n : ℕ) → PowerOfTwo n → (bit_and w (n - 1) ≡ w % n) × (w % n < n)
below w n p = rw p.equal (and_mask w p.exponent, mod-lt w (pow_pos p.exponent))

pub returns : goal.returns
returns c =
    let b = below (c.args.x % 4294967296 + c.args.offset) c.args.n c.requires.0 in
    (b.0, rw b.0 b.1)
