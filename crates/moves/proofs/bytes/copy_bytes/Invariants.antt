-- `moves::bytes::copy_bytes` meets its contract: after i turns the first i bytes are copied.
-- Assumes nothing.
use Prim.Native.Nat.{ℕ, ◌+◌}
use lib.ListN.{get_or}
use mathlib.Core.Path.{◌≡◌}
use Rattle.general.specs.Scatter.{scatter, all, onwards}
use Rattle.moves.proofs.bytes.copy_bytes.Given as goal

abbrev pub invariant-loop-i : goal.invariant-loop-i
invariant-loop-i l =
    l.dst ≡ scatter (onwards l.at_dst) all (λ (k : ℕ). get_or l.src (l.at_src + k) 0) l.i l.initial.dst
