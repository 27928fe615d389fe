-- `access::reach::find_reach` meets its contract: the stack check, then the whole vector, then the window and the first fault.
-- Assumes nothing.
use Rattle.std.proofs.Common.{◌≡◌, ℕ, ◌+◌, ◌%◌, ◌^◌, List, Bool, true, false, ◌<◌, ◌&&◌, not, refl, ap, sym, ◌∙◌, arith}
use Rattle.encoding.specs.declared.operation.SliceAccess.{SliceAccess}
use Rattle.tiles.specs.Element.{bytes_of}
use Rattle.tiles.specs.Predicate.{active}
use Rattle.semantics.specs.Access.{address_of}
use Rattle.semantics.specs.Effect.{active_under}
use Rattle.access.specs.Window.{covered}
use Rattle.semantics.specs.Execute.{stack_bad}
use Rattle.access.specs.Promise.{Governs}
use Rattle.access.proofs.AccessLaws.{stack_found, stack_refused, reaches_whole, reaches_fault, reaches_parts}
use Rattle.access.proofs.PredicateLaws.{first_agree, none_agree, no_some}
use Rattle.access.proofs.reach.find_reach.Goals.{After-is_stack_bad, After-first_address-start, After-first_fault}
use Rattle.access.proofs.reach.find_reach.Goals as goal

-- the answer of the stack check
stack : (c : After-is_stack_bad) (p : List ℕ) (o : SliceAccess) → let a = c.args in Governs a.settings p o a.governing.now → (o.slice.size ≡ a.size) × (o.rn ≡ a.rn) × (o.rm ≡ a.rm) → (t : Bool) → c.is_stack_bad.result ≡ t → stack_bad a.settings a.x.now p a.memory_bytes o ≡ t
stack c p o g e t h =
    let a = c.args in
    stack_found a.settings a.x.now p a.memory_bytes o g ∙ rw (e.0, e.1) (sym c.is_stack_bad.ensures ∙ h)

-- the address of byte k
addresses : (c : After-first_address-start) (o : SliceAccess) → let a = c.args in (o.slice.size ≡ a.size) × (o.rn ≡ a.rn) × (o.rm ≡ a.rm) → (k : ℕ) → (c.first_address-start.result + k) % 2 ^ 64 ≡ address_of a.x.now o k
addresses c o e k = rw (e.0, e.1, e.2) (c.first_address-start.ensures k)

pub returns-then-is_stack_bad : goal.returns-then-is_stack_bad
returns-then-is_stack_bad c p o g e =
    let a = c.args in
    stack_refused a.settings a.x.now p a.memory_bytes o (stack (goal.at.returns-then-is_stack_bad c).After-is_stack_bad p o g e true c.if-is_stack_bad.true)

pub returns-then-at-memory_bytes : goal.returns-then-at-memory_bytes
returns-then-at-memory_bytes c p o g e =
    let a = c.args in
    reaches_whole a.settings a.x.now p a.memory_bytes o _ _ (addresses (goal.at.returns-then-at-memory_bytes c).After-first_address-start o e) (omega (arith, c.ranges)) c.requires.5
    (stack (goal.at.returns-then-at-memory_bytes c).After-is_stack_bad p o g e false c.if-is_stack_bad.false) (omega (arith, c.if-at-memory_bytes.true, c.if-n-memory_bytes.true))

-- what the window leaves out, as it is active by P
found : (c : After-first_fault) (p : List ℕ) (o : SliceAccess) → let a = c.args in Governs a.settings p o a.governing.now → o.slice.size ≡ a.size → (k : ℕ) → k < a.settings.vector_bytes →
    (active a.governing.now 0 (bytes_of a.size) k && not (covered c.of-window.result k)) ≡ (active_under a.settings p o.pg o.slice k && not (covered c.of-window.result k))
found c p o g e k w =
    let a = c.args in
    rw (← e) (ap (λ (b : Bool). b && not (covered c.of-window.result k)) (g.active k w))

pub returns-in-Some : goal.returns-in-Some
returns-in-Some c p o g e =
    let a = c.args in
    let after = (goal.at.returns-in-Some c).After-first_fault in
    let first = rw (c.in-Some.is, ← g.bits) at c.first_fault.ensures in
    reaches_fault a.settings a.x.now p a.memory_bytes o _ _ (addresses (goal.at.returns-in-Some c).After-first_address-start o e) (omega (arith, c.ranges)) c.requires.5
    (stack (goal.at.returns-in-Some c).After-is_stack_bad p o g e false c.if-is_stack_bad.false) c.of-window.result c.of-window.ensures c.in-Some.byte
    (first_agree _ _ 0 a.settings.vector_bytes (found after p o g e.0) c.in-Some.byte first) _ refl (rw e.0 c.elements_in-element.ensures)

pub returns : goal.returns
returns c p o g e =
    let a = c.args in
    let after = (goal.at.returns c).After-first_fault in
    let never = rw (no_some _ c.in_default.not-Some, ← g.bits) at c.first_fault.ensures in
    reaches_parts a.settings a.x.now p a.memory_bytes o _ _ (addresses (goal.at.returns c).After-first_address-start o e) (omega (arith, c.ranges)) c.requires.5
    (stack (goal.at.returns c).After-is_stack_bad p o g e false c.if-is_stack_bad.false) c.of-window.result c.of-window.ensures
    (none_agree _ _ 0 a.settings.vector_bytes (found after p o g e.0) never)
