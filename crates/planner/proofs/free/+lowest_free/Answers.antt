-- The proof of the cycle of calls {lowest_free}. Of what the two halves have the lower is the answer.
-- Assumes nothing.
use Rattle.std.proofs.Common.{◌≡◌, ◌/◌, ℕ, Some, sym, ap, ◌∙◌, arith}
use Rattle.std.specs.Bool.{then_some}
use Rattle.planner.specs.Steps.{lowest_in}
use Rattle.planner.proofs.SizeLaws.{size_parts, halved}
use Rattle.planner.proofs.TileLaws.{exists_tile}
use Rattle.planner.proofs.HeldLaws.{valid_exists}
use Rattle.planner.proofs.SearchLaws.{lower, lowest_tile, lowest_halves}
use Rattle.planner.proofs.free.+lowest_free.Goals.{After-lowest_free-b}
use Rattle.planner.proofs.free.+lowest_free.Goals as goal

pub is_free-requires : goal.is_free-requires
is_free-requires t c =
    let p = c.requires in
    (exists_tile _ (record { size = (size_parts _ p.1).0; below = p.3 }), valid_exists c.args.held.now p.4)

pub returns-then-parts-asked : goal.returns-then-parts-asked
returns-then-parts-asked t c =
    let a = c.args in
    c.then_some.ensures ∙ ap (λ b. then_some b a.number) c.is_free.ensures ∙ lowest_tile a.held.now (16 / a.parts) a.number c.requires.3
    ∙ ap (λ (k : ℕ). lowest_in a.held.now (16 / k) (16 / a.parts) a.number) c.if-parts-asked.true

pub lowest_free-a-requires : goal.lowest_free-a-requires
lowest_free-a-requires t c =
    let p = c.requires in
    let d = halved _ _ p.0 p.1 (omega arith) in
    (omega (arith, d.fewer), (p.0, d.size, d.within, omega (arith, d.double), p.4))

pub lowest_free-b-requires : goal.lowest_free-b-requires
lowest_free-b-requires t c =
    let p = c.requires in
    let d = halved _ _ p.0 p.1 (omega arith) in
    (omega (arith, d.fewer), (p.0, d.size, d.within, omega (arith, d.double), p.4))

-- the lower of what the halves gave
halves : (t : ℕ) (c : After-lowest_free-b t) → lower c.lowest_free-a.result c.lowest_free-b.result ≡ lowest_in c.args.held.now (16 / c.args.asked) (16 / c.args.parts) c.args.number
halves t c =
    let a = c.args in
    let p = c.requires in
    rw (c.lowest_free-a.ensures, c.lowest_free-b.ensures) (lowest_halves a.held.now a.asked a.parts a.number p.0 p.1 (omega arith) p.3)

pub returns-in-Some-Some : goal.returns-in-Some-Some
returns-in-Some-Some t c =
    ap Some c.min.ensures ∙ sym (λ i. lower (c.in-Some-Some.is-0 i) (c.in-Some-Some.is-1 i)) ∙ halves t (goal.at.returns-in-Some-Some t c).After-lowest_free-b

pub returns-in-Some-None : goal.returns-in-Some-None
returns-in-Some-None t c =
    sym (λ i. lower (c.in-Some-None.is-0 i) (c.in-Some-None.is-1 i)) ∙ halves t (goal.at.returns-in-Some-None t c).After-lowest_free-b

pub returns-in-None-default : goal.returns-in-None-default
returns-in-None-default t c =
    sym (ap (λ o. lower o c.lowest_free-b.result) c.in-None-default.is-0) ∙ halves t (goal.at.returns-in-None-default t c).After-lowest_free-b
