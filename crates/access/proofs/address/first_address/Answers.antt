-- `access::address::first_address` meets its contract.
-- Assumes nothing.
use Rattle.std.proofs.Common.{ℕ, ◌+◌, ◌%◌, ◌^◌, ap, ◌∙◌}
use Rattle.tiles.specs.Element.{bytes_of}
use Rattle.semantics.specs.Access.{base_of, address_at}
use Rattle.access.proofs.AccessLaws.{address_from}
use Rattle.access.proofs.address.first_address.Goals as goal

pub returns : goal.returns
returns c k =
    let a = c.args in
    let base = base_of a.x.now a.rn in
    address_from a.size base c.offset_or_zero-offset.result _ k
    (ap (λ (d : ℕ). (base + d) % 2 ^ 64) c.scaled.ensures)
    ∙ ap (λ (f : ℕ). address_at base f (bytes_of a.size) k) c.offset_or_zero-offset.ensures
