-- `encoder::encode_from_tile` meets its contract: each refusal is outside the range that the row asks, and past them all the sum is the row's word.
-- Assumes nothing.
use Rattle.std.specs.Prelude.{ℕ, Option, None, Some, is_none}
use Rattle.std.specs.Option.{unwrap_or}
use mathlib.Core.Path.{◌≡◌, refl, sym, ◌∙◌}
use mathlib.Core.Bool.{true}
use native.Mathlib.Omega.{arith}
use Rattle.encoder.specs.Steps.{slice_held}
use Rattle.encoder.proofs.EncoderLaws.{SliceRange, slice_held_lem, slice_outside, from_tile_encodes, from_tile_refuses}
use Rattle.encoder.proofs.encode_from_tile.Goals.{Else-not-is_slice_held}
use Rattle.encoder.proofs.encode_from_tile.Goals as goal

-- where there is no predicate its field is 0
no_predicate : (predicate : Option ℕ) → is_none predicate ≡ true → unwrap_or predicate 0 ≡ 0
no_predicate None e = refl
no_predicate (Some pg) e = cc

-- the slice is held once its test is passed
passed : (c : Else-not-is_slice_held) → slice_held c.args.o.slice ≡ true
passed c = sym c.is_slice_held.ensures ∙ c.if-not-is_slice_held.false

held : (c : Else-not-is_slice_held) → SliceRange c.args.o.slice
held c = slice_held_lem _ (passed c)

pub returns-then-pg-gt7 : goal.returns-then-pg-gt7
returns-then-pg-gt7 c = from_tile_refuses _ _ _ _ _ _ _ _ (no_predicate c.args.predicate) (λ h. omega (arith, c.unwrap_or-pg.ensures))

pub returns-then-not-is_slice_held : goal.returns-then-not-is_slice_held
returns-then-not-is_slice_held c = from_tile_refuses _ _ _ _ _ _ _ _ (no_predicate c.args.predicate) (λ h. slice_outside c.args.o.slice (sym c.is_slice_held.ensures ∙ c.if-not-is_slice_held.true) (record { low = h.1; high = h.2; tile = h.3; offset = h.4 }))

pub returns-then-zd-gt31 : goal.returns-then-zd-gt31
returns-then-zd-gt31 c = from_tile_refuses _ _ _ _ _ _ _ _ (no_predicate c.args.predicate) (λ h. omega (arith, c.unwrap_or-pg.ensures))

pub returns : goal.returns
returns c =
    let o = c.args.o in
    let s = held (goal.at.returns c).Else-not-is_slice_held in
    from_tile_encodes o.slice.direction (unwrap_or c.args.predicate 0) o.slice.index o.slice.tile o.slice.offset o.zd (is_none c.args.predicate) o.slice.size _ (omega (arith, s, c.unwrap_or-pg.ensures)) (omega (arith, s))
