-- `decoder::class::classify_move` meets its contract: no word decodes at level 0, and bits 23:16 that no row has exclude every row.
-- Assumes nothing.
use native.Mathlib.Omega.{arith}
use Prim.Native.Nat.{ℕ, zero, suc, ◌<◌}
use native.Mathlib.Nat.{mod-lt}
use mathlib.Core.Logic.{◌⊎◌, ⊎_elim, inl, inr}
use mathlib.Core.Path.{◌≡◌, refl}
use mathlib.Core.List.{[], ◌∷◌}
use Rattle.std.specs.Prelude.{◌≢◌}
use Rattle.encoding.specs.Word.{bits_at}
use Rattle.encoding.specs.Table.{table}
use Rattle.encoding.proofs.TableLaws.{is, isnt}
use Rattle.encoding.proofs.CodecLaws.{undecodable_as}
use Rattle.decoder.proofs.class.classify_move.Goals as goal

-- a bit is 0 or 1
zero_or_one : (b : ℕ) → b < 2 → (b ≡ 0) ⊎ (b ≡ 1)
zero_or_one zero h = inl refl
zero_or_one (suc zero) h = inr refl
zero_or_one (suc (suc b)) h = absurd (omega arith)

pub returns-then-level-lt1 : goal.returns-then-level-lt1
unfolding table
returns-then-level-lt1 c = undecodable_as 0 [] _ _ refl tt (omega arith) (omega arith)

pub returns-in_err-size : goal.returns-in_err-size
unfolding table
returns-in_err-size c =
    let w = c.args.word in
    let wide : (bits_at 16 1 w ≡ 1) × (bits_at 22 2 w ≢ 3) = c.in_err-size.ensures.none refl in
    rw c.from_residual.ensures (undecodable_as 3 (isnt 22 2 3 ∷ is 16 1 1 ∷ is 24 8 0xC0 ∷ []) _ _ refl (omega arith) (omega arith) (omega arith))

pub returns-else-two-wide-eq0 : goal.returns-else-two-wide-eq0
unfolding table
returns-else-two-wide-eq0 c =
    ⊎_elim
    (λ v. undecodable_as 3 (isnt 22 2 0 ∷ is 16 1 0 ∷ is 17 5 3 ∷ is 24 8 0xC0 ∷ []) _ _ refl (omega arith) (omega arith) (omega arith))
    (λ v. undecodable_as 3 (is 16 1 1 ∷ is 17 5 3 ∷ is 24 8 0xC0 ∷ []) _ _ refl (omega arith) (omega arith) (omega arith))
    (zero_or_one (bits_at 16 1 c.args.word) (mod-lt _ (omega arith)))

pub returns-in_default : goal.returns-in_default
unfolding table
returns-in_default c = undecodable_as 3 (is 24 8 0xC0 ∷ isnt 17 5 3 ∷ isnt 17 5 1 ∷ isnt 17 5 0 ∷ []) _ _ refl (omega arith) (omega arith) (omega arith)
