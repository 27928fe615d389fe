-- `access::reach::is_stack_bad` meets its contract: the predicate is looked at late, and the switch last.
-- Assumes nothing.
use Rattle.std.proofs.Common.{◌%◌, arith, eq-eqb, ne_eqb}
use Rattle.access.proofs.PredicateLaws.{first_there}
use Rattle.access.proofs.reach.is_stack_bad.Goals as goal

pub returns-then-is_none : goal.returns-then-is_none
returns-then-is_none c =
    let found = c.first_active in
    rw (eq-eqb c.args.rn 31 (omega arith), first_there _ _ found.result found.ensures, c.is_none.ensures, c.if-is_none.true)

pub returns : goal.returns
returns c =
    let found = c.first_active in
    let a = c.args in
    rw (eq-eqb a.rn 31 (omega arith), ne_eqb (a.base % 16) 0 (λ e. omega arith), first_there _ _ found.result found.ensures, c.is_none.ensures, c.if-is_none.false)
