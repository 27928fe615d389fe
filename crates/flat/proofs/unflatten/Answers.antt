-- `flat::unflatten` meets its contract: the numbers of the operation are compared with those given.
-- Assumes nothing.
use mathlib.Core.Path.{sym, ap, ◌∙◌}
use mathlib.Core.Bool.{true≢false}
use native.Mathlib.Omega.{arith}
use lib.Pointwise.{bytes_decides}
use Rattle.encoding.specs.Flat.{flat_of}
use Rattle.encoding.proofs.FlatLaws.{unflattens, unflattens_none}
use Rattle.flat.proofs.unflatten.Goals as goal

pub returns-then-eq : goal.returns-then-eq
returns-then-eq c = unflattens _ _ (sym c.flatten.ensures ∙ (bytes_decides _ _).0 (sym c.eq.ensures ∙ c.if-eq.true))

pub returns-else-eq : goal.returns-else-eq
returns-else-eq c =
    unflattens_none _ (omega arith)
    (λ e. true≢false (sym ((bytes_decides _ _).1 (c.flatten.ensures ∙ ap flat_of c.operation_of-operation.ensures ∙ e)) ∙ sym c.eq.ensures ∙ c.if-eq.false))
