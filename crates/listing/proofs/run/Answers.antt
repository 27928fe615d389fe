-- `listing::run` meets its contract: settings and lengths come first, then the listing's length, then its words.
-- Assumes nothing.
use Rattle.std.specs.Prelude.{Ok, Err}
use mathlib.Core.Path.{sym, ap, ◌∙◌}
use mathlib.Core.Bool.{false}
use mathlib.Core.List.{List}
use Prim.Native.Nat.{ℕ}
use borrow.Author.Tests.{eq-eqb, ne_eqb}
use native.Mathlib.Omega.{arith}
use Rattle.semantics.specs.State.{state_of}
use Rattle.semantics.specs.Run.{run_of}
use Rattle.listing.specs.declared.answer.ListingRefusal.TheVariants.{Refused}
use Rattle.listing.specs.Listing.{not_run}
use Rattle.semantics.proofs.ExecuteLaws.{buffers_done}
use Rattle.listing.proofs.WordLaws.{take_words}
use Rattle.listing.proofs.ListingLaws.{definition_runs, buffers_end, length-ends, words_end}
use Rattle.listing.proofs.run.Goals as goal

pub returns-in-Err : goal.returns-in-Err
returns-in-Err c =
    let a = c.args in
    rw c.into.ensures
    (definition_runs a.settings a.listing.now a.allowance _ (not_run (Err (Refused c.in-Err.refusal)) (state_of a.x.now a.z.now a.p.now a.za.now a.memory.now))
    (buffers_end a.settings a.listing.now a.allowance _ _ (sym c.check_buffers-checked.ensures.equal ∙ c.in-Err.is)))

pub returns-then-listing-ne0 : goal.returns-then-listing-ne0
returns-then-listing-ne0 c =
    let a = c.args in
    definition_runs a.settings a.listing.now a.allowance _ _
    (length-ends a.settings a.listing.now a.allowance _ false (sym c.check_buffers-checked.ensures.equal ∙ c.in_default.is) (ne_eqb _ _ c.if-listing-ne0.true))

pub returns : goal.returns
returns c =
    let a = c.args in
    words_end a.settings a.listing.now a.allowance _ (sym c.check_buffers-checked.ensures.equal ∙ c.in_default.is) (eq-eqb _ _ c.if-listing-ne0.false) _
    (ap (λ (ws : List ℕ). run_of a.settings ws (state_of a.x.now a.z.now a.p.now a.za.now a.memory.now)) (sym (take_words a.listing.now 0 a.allowance _ _ c.allowed_words-n.ensures))) _ _
    c.perform_words.ensures
