-- Each test of the answer says what its reason in specs/Reasons.antt says, and the first that applies gives the number.
-- Assumes nothing.
use Rattle.std.specs.Prelude.{Result, Ok, Err}
use Prim.Native.Nat.{ℕ, zero, suc, ◌+◌, ◌*◌, ◌/◌, ◌%◌, ◌^◌, ◌<◌, ◌≤◌}
use mathlib.Core.Path.{◌≡◌, refl, sym, ap, ◌∙◌}
use mathlib.Core.Bool.{Bool, true, false, cond, ◌&&◌, not, true≢false}
use mathlib.Core.List.{List, [], ◌∷◌}
use mathlib.Core.Option.{Option, none, some, some-injective}
use mathlib.Core.Logic.{◌⊎◌, inl, inr}
use native.Mathlib.Nat.{mod-lt, mul-le-mul_right, suc-mul, div-lt_iff_lt-mul, div-add-mod'}
use native.Mathlib.Omega.{arith}
use lib.Arith.{digits_lt, digits_div, digits_mod}
use lib.Dec.{eqb, leb, ltb}
use lib.ListN.{length, get_or}
use Rattle.general.specs.Least.{least, is_some}
use Rattle.general.proofs.LeastLaws.{none_some, is_some_lem, least_some, some_least}
use Rattle.general.proofs.BoolLaws.{and_parts, and_both, by_test, refute, clash}
use Rattle.settings.specs.Answer.{Answer, answer_with, bad_settings, bad_lengths, undecodable, streaming_off, za_off, stack_misaligned, outside_memory}
use Rattle.settings.specs.Settings.{is_vector_length, valid_vectors, valid_settings, max_level, stride_of}
use Rattle.settings.specs.declared.Settings.{Settings}
use Rattle.settings.proofs.SettingsLaws.{vector_valid}
use Rattle.settings.proofs.Claims.{is_five_lengths, vectors_fit}
use borrow.Author.Tests.{not-true, eqb-true, eqb-false, leb-true, leb-false, ltb-true, ltb-false, eq-eqb}
use Rattle.semantics.specs.Answer.{executed_number, executed_answer}
use Rattle.semantics.specs.State.{State, public_of}
use Rattle.semantics.proofs.ExecuteLaws.{settings_facts, lengths_facts, answers_agree, Ends, does, stays, ends}
use Rattle.tiles.specs.Element.{bytes_of}
use Rattle.tiles.specs.Predicate.{active}
use Rattle.tiles.proofs.LengthLaws.{whole_elements}
use Rattle.tiles.proofs.SliceLaws.{active_element}
use Rattle.encoding.specs.Codec.{decode_of}
use Rattle.encoding.specs.declared.operation.SliceAccess.{SliceAccess}
use Rattle.encoding.specs.declared.operation.Operation.{Operation}
use Rattle.encoding.specs.declared.operation.Operation.TheVariants.{MovaToTile, MovazFromTile, MovaFromArray, MovazFromArray, St1, MovaFromTile, Ld1}
use Rattle.semantics.specs.Access.{address_of, element_of, in_memory}
use Rattle.semantics.specs.Execute.{valid_lengths, access_active, faulting, fault_of, misaligned, execute_of}
use Rattle.semantics.specs.Operations.{elements_in, Active, address_in}
use Rattle.semantics.specs.Lines.{AnswerLine, line_with, first_line, is_operation, access_of, stack_is_bad, fault_in, fault_values, answer_in_numbers}
use Rattle.semantics.specs.Reasons.{ReasonAt, SettingsBad, LengthsBad, NotInMemory, StackBad, ByteOutside, reasons, given, GivenExactly, FirstOutside, FaultTold, RefusalKeeps}
use Rattle.encoding.specs.declared.operation.DecodeRefusal.{DecodeRefusal}
use Rattle.encoding.specs.declared.operation.DecodeRefusal.TheVariants.{BadLevel, Undecodable}

-- ---- the first of some tests

-- the first test that passes, counted from n + 1 on; 0 where none does
first_from : ℕ → List Bool → ℕ
first_from n [] = 0
first_from n (b ∷ bs) = cond b (suc n) (first_from (suc n) bs)

first_bound : (n : ℕ) (bs : List Bool) → (first_from n bs ≡ 0) ⊎ (n < first_from n bs)
unfolding first_from
first_bound n [] = inl refl
first_bound n (true ∷ bs) = inr (omega arith)
first_bound n (false ∷ bs) = go (first_bound (suc n) bs)
  where
    go : (first_from (suc n) bs ≡ 0) ⊎ (suc n < first_from (suc n) bs) → (first_from (suc n) bs ≡ 0) ⊎ (n < first_from (suc n) bs)
    go (inl e) = inl e
    go (inr h) = inr (omega arith)

-- each test passes exactly if its proposition holds, where H holds and none of those before it does
Reflects : Type 0 → List Bool → List {1} (Type 0) → Type 0
Reflects H [] [] = Unit {0}
Reflects H [] (P ∷ Ps) = ⊥
Reflects H (b ∷ bs) [] = ⊥
Reflects H (b ∷ bs) (P ∷ Ps) = (H → (b ≡ true → P) × (P → b ≡ true)) × Reflects (H × (P → ⊥)) bs Ps

abbrev NoneBefore : List {1} (Type 0) → ℕ → Type 0
NoneBefore Ps k = (j : ℕ) → j < k → ReasonAt Ps j → ⊥

-- what a test that fails refutes
refuted : {H P : Type 0} → (H → (false ≡ true → P) × (P → false ≡ true)) → H → P → ⊥
refuted r h p = true≢false (sym ((r h).1 p))

-- so the number is that of the first proposition that holds
first_reason : (H : Type 0) (n : ℕ) (bs : List Bool) (Ps : List {1} (Type 0)) → H → Reflects H bs Ps → (k : ℕ) → first_from n bs ≡ n + k + 1 → ReasonAt Ps k × NoneBefore Ps k
unfolding first_from Reflects
first_reason H n [] [] h r k e = absurd (omega arith)
first_reason H n [] (P ∷ Ps) h r k e = absurd r
first_reason H n (b ∷ bs) [] h r k e = absurd r
first_reason H n (true ∷ bs) (P ∷ Ps) h r zero e = ((r.0 h).0 refl, λ j w p. omega arith)
first_reason H n (true ∷ bs) (P ∷ Ps) h r (suc k) e = absurd (omega arith)
first_reason H n (false ∷ bs) (P ∷ Ps) h r zero e = go (first_bound (suc n) bs)
  where
    go : (first_from (suc n) bs ≡ 0) ⊎ (suc n < first_from (suc n) bs) → P × NoneBefore (P ∷ Ps) zero
    go (inl q) = absurd (omega arith)
    go (inr q) = absurd (omega arith)
first_reason H n (false ∷ bs) (P ∷ Ps) h r (suc k) e =
    let ih = first_reason (H × (P → ⊥)) (suc n) bs Ps (h, refuted r.0 h) r.1 k (omega arith) in (ih.0, before ih.1)
  where
    before : NoneBefore Ps k → NoneBefore (P ∷ Ps) (suc k)
    before q zero w p = refuted r.0 h p
    before q (suc j) w p = q j (omega arith) p

reason_first : (H : Type 0) (n : ℕ) (bs : List Bool) (Ps : List {1} (Type 0)) → H → Reflects H bs Ps → (k : ℕ) → ReasonAt Ps k → NoneBefore Ps k → first_from n bs ≡ n + k + 1
unfolding first_from Reflects
reason_first H n [] [] h r k p q = absurd p
reason_first H n [] (P ∷ Ps) h r k p q = absurd r
reason_first H n (b ∷ bs) [] h r k p q = absurd r
reason_first H n (true ∷ bs) (P ∷ Ps) h r zero p q = omega arith
reason_first H n (true ∷ bs) (P ∷ Ps) h r (suc k) p q = absurd (q 0 (omega arith) ((r.0 h).0 refl))
reason_first H n (false ∷ bs) (P ∷ Ps) h r zero p q = absurd (refuted r.0 h p)
reason_first H n (false ∷ bs) (P ∷ Ps) h r (suc k) p q =
    let ih = reason_first (H × (P → ⊥)) (suc n) bs Ps (h, refuted r.0 h) r.1 k p (λ j w. q (suc j) (omega arith)) in omega arith

first_none : (H : Type 0) (n : ℕ) (bs : List Bool) (Ps : List {1} (Type 0)) → H → Reflects H bs Ps → first_from n bs ≡ 0 → (k : ℕ) → ReasonAt Ps k → ⊥
unfolding first_from Reflects
first_none H n [] [] h r e k p = p
first_none H n [] (P ∷ Ps) h r e k p = r
first_none H n (b ∷ bs) [] h r e k p = r
first_none H n (true ∷ bs) (P ∷ Ps) h r e k p = omega arith
first_none H n (false ∷ bs) (P ∷ Ps) h r e zero p = refuted r.0 h p
first_none H n (false ∷ bs) (P ∷ Ps) h r e (suc k) p = first_none (H × (P → ⊥)) (suc n) bs Ps (h, refuted r.0 h) r.1 e k p

none_first : (H : Type 0) (n : ℕ) (bs : List Bool) (Ps : List {1} (Type 0)) → H → Reflects H bs Ps → ((k : ℕ) → ReasonAt Ps k → ⊥) → first_from n bs ≡ 0
unfolding first_from Reflects
none_first H n [] [] h r q = refl
none_first H n [] (P ∷ Ps) h r q = absurd r
none_first H n (b ∷ bs) [] h r q = absurd r
none_first H n (true ∷ bs) (P ∷ Ps) h r q = absurd (q 0 ((r.0 h).0 refl))
none_first H n (false ∷ bs) (P ∷ Ps) h r q = none_first (H × (P → ⊥)) (suc n) bs Ps (h, refuted r.0 h) r.1 (λ k. q (suc k))

-- ---- the seven tests as lines

module _ (a b c d e f g : Bool) (vs : List ℕ) where
  tests : List Bool
  tests = a ∷ b ∷ c ∷ d ∷ e ∷ f ∷ g ∷ []

  lines : List AnswerLine
  lines = line_with a bad_settings [] ∷ line_with b bad_lengths [] ∷ line_with c undecodable [] ∷ line_with d streaming_off [] ∷ line_with e za_off [] ∷ line_with f stack_misaligned [] ∷ line_with g outside_memory vs ∷ []

lines_number : (a b c d e f g : Bool) (vs : List ℕ) → (first_line (lines a b c d e f g vs)).number ≡ first_from 0 (tests a b c d e f g vs)
unfolding first_from tests lines
lines_number true b c d e f g vs = refl
lines_number false true c d e f g vs = refl
lines_number false false true d e f g vs = refl
lines_number false false false true e f g vs = refl
lines_number false false false false true f g vs = refl
lines_number false false false false false true g vs = refl
lines_number false false false false false false true vs = refl
lines_number false false false false false false false vs = refl

-- only the last carries something
lines_value : (a b c d e f g : Bool) (vs : List ℕ) → ((first_from 0 (tests a b c d e f g vs) ≡ 7) × (g ≡ true) × (first_line (lines a b c d e f g vs) ≡ answer_with outside_memory vs)) ⊎ ((first_from 0 (tests a b c d e f g vs) ≡ 7 → ⊥) × ((first_line (lines a b c d e f g vs)).values ≡ []))
unfolding first_from tests lines
lines_value true b c d e f g vs = inr ((λ q. omega arith), refl)
lines_value false true c d e f g vs = inr ((λ q. omega arith), refl)
lines_value false false true d e f g vs = inr ((λ q. omega arith), refl)
lines_value false false false true e f g vs = inr ((λ q. omega arith), refl)
lines_value false false false false true f g vs = inr ((λ q. omega arith), refl)
lines_value false false false false false true g vs = inr ((λ q. omega arith), refl)
lines_value false false false false false false true vs = inl (refl, refl, refl)
lines_value false false false false false false false vs = inr ((λ q. omega arith), refl)

-- ---- what each test says

false_not : (b : Bool) → b ≡ false → not b ≡ true
false_not true e = sym e
false_not false e = refl

-- 1
module _ (s : Settings) (w : ℕ) (t : State) where
  settings_bad : not (valid_settings s) ≡ true → SettingsBad s w t
  settings_bad e = go _ _ _ _ refl refl refl refl (not-true _ e)
    where
      go : (a b c d : Bool) → is_vector_length s.vector_bytes ≡ a → is_vector_length (stride_of s) ≡ b → leb s.vector_bytes (stride_of s) ≡ c → leb s.level max_level ≡ d → a && b && c && d ≡ false → SettingsBad s w t
      go false b c d x y f l e = inl (λ five. clash _ ((is_five_lengths s.vector_bytes).1 five) x)
      go true false c d x y f l e = inr (inl (λ five. clash _ ((is_five_lengths (stride_of s)).1 five) y))
      go true true false d x y f l e = inr (inr (inl (leb-false _ _ f)))
      go true true true false x y f l e = inr (inr (inr (leb-false _ _ l)))
      go true true true true x y f l e = absurd (true≢false e)

  bad_settings_lem : SettingsBad s w t → not (valid_settings s) ≡ true
  bad_settings_lem h = false_not _ (refute _ (λ v. go h (settings_facts s v)))
    where
      go : SettingsBad s w t → (valid_vectors s ≡ true) × (s.level ≤ max_level) → ⊥
      go (inl n) f = n ((vectors_fit s).0 f.0).vector
      go (inr (inl n)) f = n ((vectors_fit s).0 f.0).largest
      go (inr (inr (inl l))) f = omega (arith, ((vectors_fit s).0 f.0).fit)
      go (inr (inr (inr l))) f = omega (arith, f.1)

  -- 2
  lengths_bad : not (valid_lengths s (length t.x) (length t.z) (length t.p) (length t.za) (length t.memory)) ≡ true → LengthsBad s w t
  lengths_bad e = go _ _ _ _ _ refl refl refl refl refl (not-true _ e)
    where
      go : (a b c d m : Bool) → eqb (length t.x) 32 ≡ a → eqb (length t.z) (32 * stride_of s) ≡ b → eqb (length t.p) (16 * (stride_of s / 8)) ≡ c → eqb (length t.za) (stride_of s * stride_of s) ≡ d → leb (s.memory_address + length t.memory) (2 ^ 64) ≡ m → a && b && c && d && m ≡ false → LengthsBad s w t
      go false b c d m x z p za y e = inl (eqb-false _ _ x)
      go true false c d m x z p za y e = inr (inl (eqb-false _ _ z))
      go true true false d m x z p za y e = inr (inr (inl (eqb-false _ _ p)))
      go true true true false m x z p za y e = inr (inr (inr (inl (eqb-false _ _ za))))
      go true true true true false x z p za y e = inr (inr (inr (inr (leb-false _ _ y))))
      go true true true true true x z p za y e = absurd (true≢false e)

  bad_lengths_lem : LengthsBad s w t → not (valid_lengths s (length t.x) (length t.z) (length t.p) (length t.za) (length t.memory)) ≡ true
  bad_lengths_lem h = false_not _ (refute _ (λ v. go h (lengths_facts s (length t.x) (length t.z) (length t.p) (length t.za) (length t.memory) v)))
    where
      go : LengthsBad s w t → (length t.x ≡ 32) × (length t.z ≡ 32 * stride_of s) × (length t.p ≡ 16 * (stride_of s / 8)) × (length t.za ≡ stride_of s * stride_of s) × (s.memory_address + length t.memory ≤ 2 ^ 64) → ⊥
      go (inl n) f = n f.0
      go (inr (inl n)) f = n f.1
      go (inr (inr (inl n))) f = n f.2
      go (inr (inr (inr (inl n)))) f = n f.3
      go (inr (inr (inr (inr l)))) f = omega (arith, f.4)

-- 3
no_operation : (d : Result Operation DecodeRefusal) → not (is_operation d) ≡ true → (o : Operation) → d ≡ Ok o → ⊥
no_operation d e o q = true≢false (sym e ∙ ap (λ (d : Result Operation DecodeRefusal). not (is_operation d)) q)

operation_none : (d : Result Operation DecodeRefusal) → ((o : Operation) → d ≡ Ok o → ⊥) → not (is_operation d) ≡ true
operation_none (Ok o) h = absurd (h o refl)
operation_none (Err BadLevel) h = refl
operation_none (Err Undecodable) h = refl

-- ---- loads and stores

-- a word that decodes to d is the load or store o
abbrev AccessIn : Result Operation DecodeRefusal → SliceAccess → Type 0
AccessIn d o = (d ≡ Ok (St1 o)) ⊎ (d ≡ Ok (Ld1 o))

access_is : (d : Result Operation DecodeRefusal) (o : SliceAccess) → access_of d ≡ some o → AccessIn d o
access_is (Ok (MovaToTile q)) o e = absurd (none_some e)
access_is (Ok (MovazFromTile q)) o e = absurd (none_some e)
access_is (Ok (MovaFromArray q)) o e = absurd (none_some e)
access_is (Ok (MovazFromArray q)) o e = absurd (none_some e)
access_is (Ok (St1 q)) o e = inl (ap (λ (a : SliceAccess). Ok (St1 a)) (some-injective q o e))
access_is (Ok (MovaFromTile q)) o e = absurd (none_some e)
access_is (Ok (Ld1 q)) o e = inr (ap (λ (a : SliceAccess). Ok (Ld1 a)) (some-injective q o e))
access_is (Err BadLevel) o e = absurd (none_some e)
access_is (Err Undecodable) o e = absurd (none_some e)

is_access : (d : Result Operation DecodeRefusal) (o : SliceAccess) → AccessIn d o → access_of d ≡ some o
is_access d o (inl e) = ap access_of e
is_access d o (inr e) = ap access_of e

module _ (s : Settings) (w : ℕ) (t : State) (valid : is_vector_length s.vector_bytes ≡ true) where
  -- the word's load or store, if it is one
  abbrev found : Option SliceAccess
  found = access_of (decode_of w s.level)

  module _ (o : SliceAccess) where
    abbrev m : ℕ
    m = bytes_of o.slice.size

    -- byte k of the vector is of element k / m
    element_of_lem : (k : ℕ) → k < s.vector_bytes → k / m < elements_in s o.slice
    element_of_lem k h = let e = whole_elements o.slice.size s.vector_bytes valid in (div-lt_iff_lt-mul {k = m} {x = k} {y = elements_in s o.slice} e.some).1 (rw e.elements h)

    byte_of : (k : ℕ) → k % m < m
    byte_of k = mod-lt k (whole_elements o.slice.size s.vector_bytes valid).some

    byte_below_lem : (e i : ℕ) → e < elements_in s o.slice → i < m → e * m + i < s.vector_bytes
    byte_below_lem e i he hi = rw (← (whole_elements o.slice.size s.vector_bytes valid).elements) (digits_lt he hi)

    active_of : (k : ℕ) → access_active s t.x t.p (length t.memory) o k ≡ true → Active s t o.slice o.pg (k / m)
    unfolding active
    active_of k y = eqb-true _ 1 y

    outside_test : (a : ℕ) → NotInMemory s w t a → not (in_memory s.memory_address (length t.memory) a) ≡ true
    outside_test a h = false_not _ (refute _ (λ y. go h (and_parts _ _ y)))
      where
        go : NotInMemory s w t a → (leb s.memory_address a ≡ true) × (ltb a (s.memory_address + length t.memory) ≡ true) → ⊥
        go (inl l) y = let b = leb-true s.memory_address a y.0 in omega arith
        go (inr l) y = let b = ltb-true a (s.memory_address + length t.memory) y.1 in omega arith

    test_outside : (a : ℕ) → not (in_memory s.memory_address (length t.memory) a) ≡ true → NotInMemory s w t a
    test_outside a e = go (by_test (leb s.memory_address a))
      where
        go : (leb s.memory_address a ≡ true) ⊎ (leb s.memory_address a ≡ false) → NotInMemory s w t a
        go (inl y) = inr (ltb-false _ _ (refute _ (λ v. clash _ (and_both _ _ y v) (not-true _ e))))
        go (inr n) = inl (leb-false _ _ n)

    faulting_at : (e i : ℕ) → i < m → Active s t o.slice o.pg e → NotInMemory s w t (address_in t.x o e i) → faulting s t.x t.p (length t.memory) o (e * m + i) ≡ true
    faulting_at e i h a n =
        and_both _ _ (active_element t.p (o.pg * (stride_of s / 8)) m e i h ∙ eq-eqb _ 1 a)
        (rw (digits_div e h, digits_mod e h) (outside_test (address_in t.x o e i) n))

  -- 6
  stack_bad_lem : stack_is_bad s (public_of t) found ≡ true → StackBad s w t
  stack_bad_lem e = go found refl e
    where
      go : (a : Option SliceAccess) → found ≡ a → stack_is_bad s (public_of t) a ≡ true → StackBad s w t
      go none q e = absurd (true≢false (sym e))
      go (some o) q e =
          let c = and_parts (misaligned s t.x t.p (length t.memory) o) _ e in
          let h = and_parts (eqb o.rn 31 && is_some (least (access_active s t.x t.p (length t.memory) o) s.vector_bytes)) _ c.0 in
          let b = and_parts (eqb o.rn 31) _ h.0 in
          let k = is_some_lem _ b.1 in
          let l = least_some (access_active s t.x t.p (length t.memory) o) s.vector_bytes k.0 k.1 in
          let is31 = eqb-true o.rn 31 b.0 in
          record {
            access = o;
            is = access_is (decode_of w s.level) o q;
            base = is31;
            element = k.0 / m o;
            below = element_of_lem o k.0 l.0;
            active = active_of o k.0 l.1;
            misaligned = λ z. clash _ (eq-eqb (get_or t.x o.rn 0 % 16) 0 (ap (λ (r : ℕ). get_or t.x r 0 % 16) is31 ∙ z)) (not-true _ h.1);
            checked = c.1;
          }

  bad_stack : StackBad s w t → stack_is_bad s (public_of t) found ≡ true
  bad_stack h =
      let o = h.access in
      ap (stack_is_bad s (public_of t)) (is_access (decode_of w s.level) o h.is) ∙
      and_both _ _
      (and_both _ _
      (and_both _ _ (eq-eqb o.rn 31 h.base)
      (some_least (access_active s t.x t.p (length t.memory) o) s.vector_bytes (h.element * m o + 0) (byte_below_lem o h.element 0 h.below (some_bytes o))
      (active_element t.p (o.pg * (stride_of s / 8)) (m o) h.element 0 (some_bytes o) ∙ eq-eqb _ 1 h.active)))
      (false_not _ (refute _ (λ y. h.misaligned (ap (λ (r : ℕ). get_or t.x r 0 % 16) (sym h.base) ∙ eqb-true _ 0 y)))))
      h.checked
    where
      some_bytes : (o : SliceAccess) → 0 < m o
      some_bytes o = (whole_elements o.slice.size s.vector_bytes valid).some

  -- 7
  outside_first : (o : SliceAccess) (k : ℕ) → found ≡ some o → fault_of s t.x t.p (length t.memory) o ≡ some k → ByteOutside s w t
  outside_first o k q e =
      let l = least_some (faulting s t.x t.p (length t.memory) o) s.vector_bytes k e in
      let b = and_parts (access_active s t.x t.p (length t.memory) o k) _ l.1 in
      record {
        access = o;
        is = access_is (decode_of w s.level) o q;
        element = k / m o;
        byte = k % m o;
        below = element_of_lem o k l.0;
        within = byte_of o k;
        active = active_of o k b.0;
        outside = test_outside o (address_in t.x o (k / m o) (k % m o)) b.1;
      }

  outside_bad : is_some (fault_in s (public_of t) found) ≡ true → ByteOutside s w t
  outside_bad e = go found refl e
    where
      go : (a : Option SliceAccess) → found ≡ a → is_some (fault_in s (public_of t) a) ≡ true → ByteOutside s w t
      go none q e = absurd (true≢false (sym e))
      go (some o) q e = let k = is_some_lem _ e in outside_first o k.0 q k.1

  bad_outside : ByteOutside s w t → is_some (fault_in s (public_of t) found) ≡ true
  bad_outside h =
      let o = h.access in
      ap (λ (a : Option SliceAccess). is_some (fault_in s (public_of t) a)) (is_access (decode_of w s.level) o h.is) ∙
      some_least (faulting s t.x t.p (length t.memory) o) s.vector_bytes (h.element * m o + h.byte) (byte_below_lem o h.element h.byte h.below h.within)
      (faulting_at o h.element h.byte h.within h.active h.outside)

  -- 7 tells the lowest element and its first byte
  first_outside : (o : SliceAccess) (k : ℕ) → found ≡ some o → fault_of s t.x t.p (length t.memory) o ≡ some k → (executed_answer (execute_of s w t).answer).values ≡ address_of t.x o k ∷ element_of o k ∷ [] → FirstOutside s w t
  unfolding outside_first
  first_outside o k q e told =
      let l = least_some (faulting s t.x t.p (length t.memory) o) s.vector_bytes k e in
      let b = and_parts (access_active s t.x t.p (length t.memory) o k) _ l.1 in
      record {
        first = outside_first o k q e;
        told_element = ap (λ (vs : List ℕ). get_or vs 1 0) told;
        told_address = ap (λ (vs : List ℕ). get_or vs 0 0) told;
        no_lower_element = λ j i h w a n. clash _ (faulting_at o j i w a n) (l.2 (j * m o + i) (earlier j i h w));
        no_earlier_byte = λ i h n. clash _ (faulting_at o (k / m o) i (below i h) (active_of o k b.0) n) (l.2 (k / m o * m o + i) (omega (arith, div-add-mod' k (m o))));
      }
    where
      below : (i : ℕ) → i < k % m o → i < m o
      below i h = omega (arith, byte_of o k)

      earlier : (j i : ℕ) → j < k / m o → i < m o → j * m o + i < k
      earlier j i h w =
          let r : suc j * m o ≤ k / m o * m o = mul-le-mul_right (m o) h in
          omega (arith, suc-mul j (m o), div-add-mod' k (m o))

-- ---- the answer

module _ (s : Settings) (w : ℕ) (t : State) where
  -- an execution that is not refused for its settings has a vector length
  vector_good : (SettingsBad s w t → ⊥) → is_vector_length s.vector_bytes ≡ true
  vector_good h = go (by_test (valid_settings s))
    where
      go : (valid_settings s ≡ true) ⊎ (valid_settings s ≡ false) → is_vector_length s.vector_bytes ≡ true
      go (inl y) = vector_valid s (settings_facts s y).0
      go (inr n) = absurd (h (settings_bad s w t (false_not _ n)))

  abbrev length_test : Bool
  length_test = not (valid_lengths s (length t.x) (length t.z) (length t.p) (length t.za) (length t.memory))

  abbrev told : List ℕ
  told = fault_values s (public_of t) (access_of (decode_of w s.level)) (fault_in s (public_of t) (access_of (decode_of w s.level)))

  -- the word's load or store, if it is one, and whether a byte of it is outside memory
  abbrev access_of_word : Option SliceAccess
  access_of_word = access_of (decode_of w s.level)

  abbrev fault_test : Bool
  fault_test = is_some (fault_in s (public_of t) access_of_word)

  tests_of_word : List Bool
  tests_of_word = tests (not (valid_settings s)) length_test (not (is_operation (decode_of w s.level))) (not s.streaming) (not s.za) (stack_is_bad s (public_of t) access_of_word) fault_test told

  lines_of_word : List AnswerLine
  lines_of_word = lines (not (valid_settings s)) length_test (not (is_operation (decode_of w s.level))) (not s.streaming) (not s.za) (stack_is_bad s (public_of t) access_of_word) fault_test told

  tests_reflect : Reflects (Unit {0}) tests_of_word (reasons s w t)
  unfolding Reflects tests tests_of_word
  tests_reflect = (
    (λ h. (settings_bad s w t, bad_settings_lem s w t)),
    (
      (λ h. (lengths_bad s w t, bad_lengths_lem s w t)),
      (
        (λ h. (no_operation (decode_of w s.level), operation_none (decode_of w s.level))),
        (
          (λ h. (not-true s.streaming, false_not s.streaming)),
          (
            (λ h. (not-true s.za, false_not s.za)),
            (
              (λ h. let v = vector_good h.0.0.0.0.1 in (stack_bad_lem s w t v, bad_stack s w t v)),
              ((λ h. let v = vector_good h.0.0.0.0.0.1 in (outside_bad s w t v, bad_outside s w t v)), tt {0}),
            ),
          ),
        ),
      ),
    ),
  )

  -- the answer is the first line
  answer_first : executed_answer (execute_of s w t).answer ≡ first_line lines_of_word
  unfolding execute_of answer_in_numbers lines lines_of_word
  answer_first = answers_agree s (public_of t) w

  given_first : given s w t ≡ first_from 0 tests_of_word
  unfolding tests_of_word lines_of_word
  given_first = ap (λ (a : Answer). a.number) answer_first ∙ lines_number _ _ _ _ _ _ _ told

  pub given_exactly : GivenExactly s w t
  given_exactly =
      record {
        reason = λ n h e. first_reason (Unit {0}) 0 tests_of_word (reasons s w t) (tt {0}) tests_reflect n (let q = sym given_first ∙ e in omega arith);
        number = λ n h p q. given_first ∙ (reason_first (Unit {0}) 0 tests_of_word (reasons s w t) (tt {0}) tests_reflect n p q ∙ omega arith);
        done = λ e. first_none (Unit {0}) 0 tests_of_word (reasons s w t) (tt {0}) tests_reflect (sym given_first ∙ e);
        none = λ h. given_first ∙ none_first (Unit {0}) 0 tests_of_word (reasons s w t) (tt {0}) tests_reflect h;
      }

  -- what the last test tells
  seventh : given s w t ≡ 7 → first_line lines_of_word ≡ answer_with outside_memory told →
      fault_test ≡ true → FirstOutside s w t
  seventh e l y = go (access_of_word) refl y (ap (λ (a : Answer). a.values) (answer_first ∙ l))
    where
      valid : is_vector_length s.vector_bytes ≡ true
      valid = vector_good ((given_exactly.reason 6 (omega arith) e).1 0 (omega arith))

      go : (a : Option SliceAccess) → access_of_word ≡ a → is_some (fault_in s (public_of t) a) ≡ true → (executed_answer (execute_of s w t).answer).values ≡ fault_values s (public_of t) a (fault_in s (public_of t) a) → FirstOutside s w t
      go none q y r = absurd (true≢false (sym y))
      go (some o) q y r = let k = is_some_lem _ y in first_outside s w t valid o k.0 q k.1 (r ∙ ap (fault_values s (public_of t) (some o)) k.1)

  pub fault_told : FaultTold s w t
  unfolding tests_of_word lines_of_word
  fault_told = go (lines_value _ _ _ _ _ _ _ told)
    where
      go : ((first_from 0 tests_of_word ≡ 7) × (fault_test ≡ true) × (first_line lines_of_word ≡ answer_with outside_memory told)) ⊎
          ((first_from 0 tests_of_word ≡ 7 → ⊥) × ((first_line lines_of_word).values ≡ [])) → FaultTold s w t
      go (inl h) = record { seven = λ e. seventh e h.2 h.1; zero = λ n. absurd (n (given_first ∙ h.0)) }
      go (inr h) = record { seven = λ e. absurd (h.0 (sym given_first ∙ e)); zero = λ n. let e = ap (λ (a : Answer). a.values) answer_first ∙ h.1 in (ap (λ (vs : List ℕ). get_or vs 0 0) e, ap (λ (vs : List ℕ). get_or vs 1 0) e) }

  pub refusal_keeps : RefusalKeeps s w t
  refusal_keeps h = go (ends s w t)
    where
      go : Ends s w t → (execute_of s w t).state ≡ t
      go (does o d) = absurd (h (ap executed_number d.answer))
      go (stays r e q) = q
