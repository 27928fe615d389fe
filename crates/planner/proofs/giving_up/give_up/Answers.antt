-- `planner::giving_up::give_up` meets its contract. The invariant: what is kept is the first i tiles but the one given up.
-- Assumes nothing.
use Rattle.std.proofs.Common.{◌≡◌, ◌≤◌, Ok, refl, sym, ap, ◌∙◌, arith, length, get_or, take}
use lib.Seq.{length-take-le}
use Rattle.planner.specs.Tile.{no_tile, without}
use Rattle.planner.specs.Held.{held_tiles, held_from, joined}
use Rattle.planner.specs.declared.held.Held.{Held}
use Rattle.planner.proofs.HeldLaws.{valid_held_lem}
use Rattle.planner.proofs.RoomLaws.{gives_up_one, give_up_invalid, give_up_unheld, give_up_done, without_length, keep_same, keep_other, kept_all, length-unheld, length-among}
use Rattle.planner.proofs.giving_up.give_up.Goals.{Else-not-is_valid, After-loop-y, then-ne, else-ne}
use Rattle.planner.proofs.giving_up.give_up.Goals as goal

pub returns-then-not-is_valid : goal.returns-then-not-is_valid
returns-then-not-is_valid c = gives_up_one _ _ _ (sym (give_up_invalid _ _ (sym c.is_valid.ensures ∙ c.if-not-is_valid.true)))

pub loop-y-init : goal.loop-y-init
unfolding without
loop-y-init c = refl

-- of tiles that are valid there are at most sixteen
few : (c : Else-not-is_valid) → c.args.held.count ≤ 16
few c = (valid_held_lem c.args.held (sym c.is_valid.ensures ∙ c.if-not-is_valid.false)).few

all : (c : Else-not-is_valid) → length (held_tiles c.args.held) ≡ c.args.held.count
all c = length-take-le c.args.held.count c.args.held.tiles (omega (arith, few c))

pub join-kept-requires : goal.join-kept-requires
join-kept-requires c =
    let l = held_tiles c.args.held in
    let v = (goal.at.join-kept-requires c).Else-not-is_valid in
    omega (
      arith,
      few v,
      all v,
      ap (λ (k : Held). k.count) c.loop-y.invariant,
      without_length (take c.loop-y.y-index l) c.args.x,
      length-take-le c.loop-y.y-index l (omega arith),
    )

pub loop-y-preserved : goal.loop-y-preserved
loop-y-preserved c =
    let l = held_tiles c.args.held in
    let i = c.loop-y.y-index in
    let x = c.args.x in
    let v = (goal.at.loop-y-preserved c).Else-not-is_valid in
    let y = get_or l i no_tile in
    let inv : c.loop-y.kept ≡ held_from (without (take i l) x) = c.loop-y.invariant in
    elim c.if-ne.branch [
      | then-ne w ↦ w.kept-is ∙ w.join-kept.ensures ∙ ap (λ (k : Held). joined k y) inv
          ∙ keep_other l i x c.loop-y-test.true (sym c.ne.ensures ∙ w.if-ne.true) (omega (arith, few v, all v))
      | else-ne w ↦ w.kept-is ∙ inv ∙ keep_same l i x c.loop-y-test.true (sym c.ne.ensures ∙ w.if-ne.false)
    ]

-- behind the last one all are looked at
kept : (c : After-loop-y) → c.loop-y.kept ≡ held_from (without (held_tiles c.args.held) c.args.x)
kept c = kept_all (held_tiles c.args.held) c.loop-y.y-index c.args.x c.loop-y.kept c.loop-y.invariant c.loop-y-test.false

pub returns-then-kept-held : goal.returns-then-kept-held
returns-then-kept-held c =
    let h = c.args.held in
    let k = ap (λ (k : Held). k.count) (kept (goal.at.returns-then-kept-held c).After-loop-y) in
    gives_up_one _ _ _ (sym (give_up_unheld h _ (length-unheld h _ (all (goal.at.returns-then-kept-held c).Else-not-is_valid ∙ sym c.if-kept-held.true ∙ k))))

pub returns : goal.returns
returns c =
    let h = c.args.held in
    let v = sym c.is_valid.ensures ∙ c.if-not-is_valid.false in
    let e = kept (goal.at.returns c).After-loop-y in
    let held = length-among h _ (λ q. c.if-kept-held.false (ap (λ (k : Held). k.count) e ∙ sym q ∙ all (goal.at.returns c).Else-not-is_valid)) in
    gives_up_one _ _ _ (ap Ok e ∙ sym (give_up_done h _ v held))
