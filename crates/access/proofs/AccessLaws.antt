-- Laws of the definitions of loads and stores (specs/Access.antt of the crate semantics): addresses, indexes of memory, and that what the
-- code computes is what execution answers.
-- Assumes nothing.
use Rattle.std.proofs.Common.{◌≡◌, ℕ, ◌+◌, ◌*◌, ◌%◌, ◌^◌, ◌<◌, ◌≤◌, Bool, true, false, not, ◌&&◌, ltb, leb, eqb, length, List, sym, refl, ap, ◌∙◌, mod-eq_of_lt, arith, ltb-false, ltb-true, lt-ltb, le-leb, leb-true, Ok, Err}
use mathlib.Core.Bool.{and-eq-true_iff}
use mathlib.Core.Option.{Option, none, some}
use borrow.Author.Tests.{not-false}
use Rattle.general.specs.Least.{least, is_some}
use Rattle.general.proofs.LeastLaws.{least_never}
use Rattle.settings.specs.declared.Settings.{Settings}
use Rattle.tiles.specs.Element.{bytes_of}
use Rattle.tiles.specs.Predicate.{active}
use Rattle.tiles.specs.declared.element.ElementSize.{ElementSize}
use Rattle.tiles.specs.declared.element.ElementSize.TheVariants.{Bits8, Bits16, Bits32, Bits64, Bits128}
use Rattle.encoding.specs.declared.operation.SliceAccess.{SliceAccess}
use Rattle.semantics.specs.declared.answer.Fault.{Fault}
use Rattle.semantics.specs.declared.answer.Refusal.TheVariants.{StackMisaligned, OutsideMemory}
use Rattle.semantics.specs.Access.{base_of, address_at, address_of, element_of, in_memory}
use Rattle.semantics.specs.Effect.{memory_byte}
use Rattle.semantics.specs.Execute.{access_active, faulting, fault_at, stack_bad, access_answer}
use Rattle.access.specs.declared.reach.Reach.TheVariants.{Whole, Parts}
use Rattle.access.specs.declared.window.Window.{Window}
use Rattle.access.specs.Window.{covered, Windowed}
use Rattle.access.specs.Promise.{NoneOn, FirstAt, Governs, Reaches}
use Rattle.access.proofs.PredicateLaws.{and_false, least_agree, first_some, first_none, none_agree, first_agree}
use Rattle.access.proofs.WindowLaws.{covered_first, covered_second}

-- ---- addresses, and indexes of memory

-- byte k goes k after the first byte, modulo 2^64
pub address_from : (size : ElementSize) (base offset r k : ℕ) → r ≡ (base + offset * bytes_of size % 2 ^ 64) % 2 ^ 64 → (r + k) % 2 ^ 64 ≡ address_at base offset (bytes_of size) k
address_from Bits8 base offset r k e = omega arith
address_from Bits16 base offset r k e = omega arith
address_from Bits32 base offset r k e = omega arith
address_from Bits64 base offset r k e = omega arith
address_from Bits128 base offset r k e = omega arith

-- memory has lm bytes from address a on; address start would have index `at`, counted modulo 2^64
module _ (at a lm start : ℕ) (wraps : (at + a) % 2 ^ 64 ≡ start) (room : a + lm ≤ 2 ^ 64) where
  -- where an index is in memory so is the address, as far from a
  index_address : (k : ℕ) → (at + k) % 2 ^ 64 < lm → (start + k) % 2 ^ 64 ≡ a + (at + k) % 2 ^ 64
  index_address k h = omega arith

  index_outside : (k : ℕ) → lm ≤ (at + k) % 2 ^ 64 → (b : Bool) → in_memory a lm ((start + k) % 2 ^ 64) ≡ b → b ≡ false
  index_outside k h true e =
      let address = (start + k) % 2 ^ 64 in
      let w = (and-eq-true_iff (leb a address) (ltb address (a + lm))).0 e in
      let above : a ≤ address = leb-true a address w.0 in
      let below : address < a + lm = ltb-true address (a + lm) w.1 in
      absurd (omega arith)
  index_outside k h false e = refl

  pub index_memory : (k : ℕ) → ltb ((at + k) % 2 ^ 64) lm ≡ in_memory a lm ((start + k) % 2 ^ 64)
  index_memory k = go (ltb ((at + k) % 2 ^ 64) lm) refl
    where
      go : (b : Bool) → ltb ((at + k) % 2 ^ 64) lm ≡ b → ltb ((at + k) % 2 ^ 64) lm ≡ in_memory a lm ((start + k) % 2 ^ 64)
      go true e =
          let h = ltb-true ((at + k) % 2 ^ 64) lm e in
          e ∙ rw (index_address k h, le-leb a (a + (at + k) % 2 ^ 64) (omega arith)) (sym (lt-ltb (a + (at + k) % 2 ^ 64) (a + lm) (omega arith)))
      go false e =
          e ∙ sym (index_outside k (ltb-false ((at + k) % 2 ^ 64) lm e) (in_memory a lm ((start + k) % 2 ^ 64)) refl)

-- ---- the answer, by what the code computes

module _ (s : Settings) (x p : List ℕ) (lm : ℕ) (o : SliceAccess) where
  pub stack_refused : stack_bad s x p lm o ≡ true → Err StackMisaligned ≡ access_answer s x p lm o
  unfolding access_answer
  stack_refused e = rw e

  fault_refused : (k : ℕ) → stack_bad s x p lm o ≡ false → least (faulting s x p lm o) s.vector_bytes ≡ some k → Err (OutsideMemory (fault_at s x p lm o k)) ≡ access_answer s x p lm o
  unfolding access_answer
  fault_refused k e q = rw (e, q)

  access_done : stack_bad s x p lm o ≡ false → least (faulting s x p lm o) s.vector_bytes ≡ none → access_answer s x p lm o ≡ Ok tt
  unfolding access_answer
  access_done e q = rw (e, q)

  -- the stack check by the predicate bytes that are lent
  pub stack_found : {governing : List ℕ} → Governs s p o governing →
      stack_bad s x p lm o ≡ eqb o.rn 31 && is_some (least (active governing 0 (bytes_of o.slice.size)) (8 * length governing)) && not (eqb (base_of x o.rn % 16) 0) && s.stack_check
  stack_found {governing} g =
      let on = active governing 0 (bytes_of o.slice.size) in
      ap (λ (q : Option ℕ). eqb o.rn 31 && is_some q && not (eqb (base_of x o.rn % 16) 0) && s.stack_check)
      (sym (least_agree on (access_active s x p lm o) s.vector_bytes g.active) ∙ ap (least on) g.bits)

  -- byte 0 has address `start`, and would have index `at` of memory
  module _ (start at : ℕ) (addresses : (k : ℕ) → (start + k) % 2 ^ 64 ≡ address_of x o k) (wraps : (at + s.memory_address) % 2 ^ 64 ≡ start) (room : s.memory_address + lm ≤ 2 ^ 64) (stack : stack_bad s x p lm o ≡ false) where
    abbrev B : ℕ
    B = s.vector_bytes

    index_byte : (k : ℕ) → (at + k) % 2 ^ 64 < lm → memory_byte s x o k ≡ (at + k) % 2 ^ 64
    index_byte k h = rw (← addresses k, index_address at s.memory_address lm start wraps room k h) (omega arith)

    index_inside : (k : ℕ) → in_memory s.memory_address lm (address_of x o k) ≡ ltb ((at + k) % 2 ^ 64) lm
    index_inside k = rw (← addresses k) (sym (index_memory at s.memory_address lm start wraps room k))

    -- where the whole vector is in memory nothing faults, and its bytes follow each other
    pub reaches_whole : at + B ≤ lm → Reaches s x p lm o (Ok (Whole at))
    reaches_whole h =
        let index : (k : ℕ) → k < B → (at + k) % 2 ^ 64 ≡ at + k = λ k w. mod-eq_of_lt (omega arith) in
        let passes : (k : ℕ) → k < B → faulting s x p lm o k ≡ false =
        λ k w. rw (index_inside k, index k w, lt-ltb (at + k) lm (omega arith)) (sym (and_false (access_active s x p lm o k))) in (
          access_done stack (least_never (faulting s x p lm o) B passes),
          h,
          λ k w. index_byte k (rw (index k w) (omega arith)) ∙ index k w,
        )

    -- where it is not: by the window, and the first active byte that it leaves out
    module _ (w : Window) (h : Windowed at B lm w) where
      abbrev left_out : ℕ → Bool
      left_out k = access_active s x p lm o k && not (covered w k)

      same : (k : ℕ) → k < B → left_out k ≡ faulting s x p lm o k
      same k v = ap (λ (b : Bool). access_active s x p lm o k && not b) (sym (h.inside k v) ∙ sym (index_inside k))

      pub reaches_fault : (r : ℕ) → FirstAt left_out 0 B r → (f : Fault) → f.address ≡ (start + r) % 2 ^ 64 → f.element ≡ element_of o r → Err (OutsideMemory f) ≡ access_answer s x p lm o
      reaches_fault r first f e q =
          ap (λ (g : Fault). Err (OutsideMemory g)) (λ i. record { address = (e ∙ addresses r) i; element = q i })
          ∙ fault_refused r stack (first_some _ B r (first_agree left_out (faulting s x p lm o) 0 B same r first))

      covered_byte : (k : ℕ) → k < B → covered w k ≡ true → memory_byte s x o k ≡ (at + k) % 2 ^ 64
      covered_byte k v c = index_byte k (ltb-true _ lm (h.inside k v ∙ c))

      pub reaches_parts : NoneOn left_out 0 B → Reaches s x p lm o (Ok (Parts w))
      reaches_parts never = (
        access_done stack (first_none _ B (none_agree left_out (faulting s x p lm o) 0 B same never)),
        record {
          fits = h.fits;
          placed =
              record {
                first = λ k v. covered_byte k (omega (arith, w.ordered, h.fits.end)) (covered_first w k v) ∙ h.placed.first k v;
                second = λ k v. covered_byte (w.skip + k) (omega (arith, h.fits.end)) (covered_second w (w.skip + k) (omega arith) (omega arith)) ∙ h.placed.second k v;
              };
          covers = λ k v y. not-false _ (rw y at (never k (omega arith) v));
        },
      )
