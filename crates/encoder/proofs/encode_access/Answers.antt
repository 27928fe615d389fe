-- `encoder::encode_access` meets its contract: each refusal is outside the range that the row asks, and past them all the sum is the row's word.
-- Assumes nothing.
use mathlib.Core.Path.{◌≡◌, sym, ◌∙◌}
use mathlib.Core.Bool.{true}
use native.Mathlib.Omega.{arith}
use Rattle.encoder.specs.Steps.{slice_held}
use Rattle.encoder.proofs.EncoderLaws.{SliceRange, slice_held_lem, slice_outside, access_encodes, access_refuses}
use Rattle.encoder.proofs.encode_access.Goals.{Else-not-is_slice_held}
use Rattle.encoder.proofs.encode_access.Goals as goal

-- the slice is held once its test is passed
passed : (c : Else-not-is_slice_held) → slice_held c.args.o.slice ≡ true
passed c = sym c.is_slice_held.ensures ∙ c.if-not-is_slice_held.false

held : (c : Else-not-is_slice_held) → SliceRange c.args.o.slice
held c = slice_held_lem _ (passed c)

pub returns-then-not-is_slice_held : goal.returns-then-not-is_slice_held
returns-then-not-is_slice_held c =
    let o = c.args.o in
    access_refuses o.slice.direction o.slice.index o.pg o.rn o.rm o.slice.tile o.slice.offset c.args.stores o.slice.size (λ h. slice_outside c.args.o.slice (sym c.is_slice_held.ensures ∙ c.if-not-is_slice_held.true) (record { low = h.0; high = h.1; tile = h.5; offset = h.6 }))

pub returns-then-pg-gt7 : goal.returns-then-pg-gt7
returns-then-pg-gt7 c = let o = c.args.o in access_refuses o.slice.direction o.slice.index o.pg o.rn o.rm o.slice.tile o.slice.offset c.args.stores o.slice.size (λ h. omega arith)

pub returns-then-rn-gt31 : goal.returns-then-rn-gt31
returns-then-rn-gt31 c = let o = c.args.o in access_refuses o.slice.direction o.slice.index o.pg o.rn o.rm o.slice.tile o.slice.offset c.args.stores o.slice.size (λ h. omega arith)

pub returns-then-rm-gt31 : goal.returns-then-rm-gt31
returns-then-rm-gt31 c = let o = c.args.o in access_refuses o.slice.direction o.slice.index o.pg o.rn o.rm o.slice.tile o.slice.offset c.args.stores o.slice.size (λ h. omega arith)

pub returns : goal.returns
returns c =
    let o = c.args.o in
    let s = held (goal.at.returns c).Else-not-is_slice_held in
    access_encodes o.slice.direction o.slice.index o.pg o.rn o.rm o.slice.tile o.slice.offset c.args.stores o.slice.size _ (omega (arith, s)) (omega (arith, s))
