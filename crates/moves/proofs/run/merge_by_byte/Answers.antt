-- `moves::run::merge_by_byte` meets its contract: up to predicate byte i what goes by those from the first on is merged.
-- Assumes nothing.
use mathlib.Core.Path.{◌≡◌}
use Prim.Native.Nat.{◌+◌, ◌-◌}
use native.Mathlib.Omega.{arith}
use lib.ListN.{get_or}
use Rattle.general.proofs.ScatterLaws.{scatter_none}
use Rattle.moves.specs.Eights.{bits_in}
use Rattle.moves.proofs.RunLaws.{and_again, merged_more, merged_byte}
use Rattle.moves.proofs.run.merge_by_byte.Goals as goal

pub loop-i-init : goal.loop-i-init
loop-i-init c =
    let none : c.args.first - c.args.first ≡ 0 = omega arith in
    rw none (scatter_none _ _ _)

pub merge_byte-requires : goal.merge_byte-requires
merge_byte-requires c =
    let a = c.args in
    (omega arith, omega arith, rw c.one.ensures (and_again (get_or a.p.now c.loop-i.i 0) (bits_in a.bits.size 0)))

pub loop-i-preserved : goal.loop-i-preserved
loop-i-preserved c =
    let l = c.loop-i in
    let a = c.args in
    let here : a.first + (l.i - a.first) ≡ l.i = omega arith in
    let next : l.i + 1 - a.first ≡ l.i - a.first + 1 = omega arith in
    let one = merged_byte a.p.now a.bits.size a.src.now l.i _ a.bits.few (rw c.one.ensures at c.merge_byte.ensures) in
    rw next (merged_more a.p.now a.bits.size a.src.now a.first (l.i - a.first) 1 a.dst.now l.invariant (rw here one))
