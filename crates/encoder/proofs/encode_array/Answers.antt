-- `encoder::encode_array` meets its contract: each refusal is outside the range that the row asks, and past them all the sum is the row's word.
-- Assumes nothing.
use native.Mathlib.Omega.{arith}
use Rattle.encoder.proofs.EncoderLaws.{array_encodes, array_refuses}
use Rattle.encoder.proofs.encode_array.Goals as goal

pub returns-then-rv-lt8 : goal.returns-then-rv-lt8
returns-then-rv-lt8 c = let o = c.args.o in array_refuses o.rv o.off o.zd c.args.zeroes o.registers (λ h. omega arith)

pub returns-then-rv-gt11 : goal.returns-then-rv-gt11
returns-then-rv-gt11 c = let o = c.args.o in array_refuses o.rv o.off o.zd c.args.zeroes o.registers (λ h. omega arith)

pub returns-then-off-gt7 : goal.returns-then-off-gt7
returns-then-off-gt7 c = let o = c.args.o in array_refuses o.rv o.off o.zd c.args.zeroes o.registers (λ h. omega arith)

pub returns-then-zd-gt31 : goal.returns-then-zd-gt31
returns-then-zd-gt31 c = let o = c.args.o in array_refuses o.rv o.off o.zd c.args.zeroes o.registers (λ h. omega arith)

pub returns-then-zd-number-ne0 : goal.returns-then-zd-number-ne0
returns-then-zd-number-ne0 c =
    let o = c.args.o in
    array_refuses o.rv o.off o.zd c.args.zeroes o.registers (λ h. (rw c.number.ensures.0 at c.if-zd-number-ne0.true) h.4)

pub returns : goal.returns
returns c =
    let o = c.args.o in
    array_encodes o.rv o.off o.zd c.args.zeroes o.registers _ (omega (arith, rw c.number.ensures.0 at c.if-zd-number-ne0.false)) (omega arith)
