-- Spans as loops go through them, elements that touch, and what leaves write where code knows the places of a vector.
-- Assumes nothing.
use mathlib.Core.Path.{◌≡◌, refl, sym, ap, ◌∙◌}
use mathlib.Core.Bool.{Bool, true, false, cond, ◌||◌}
use mathlib.Core.List.{List}
use Prim.Native.Nat.{ℕ, ◌+◌, ◌*◌, ◌/◌, ◌<◌, ◌≤◌}
use native.Mathlib.Nat.{div-lt_iff_lt-mul, mod-lt}
use native.Mathlib.Omega.{arith}
use lib.ListN.{length, get_or}
use borrow.Author.Tests.{eqb-true, ltb-true}
use Rattle.settings.specs.Settings.{max_vector_bytes}
use Rattle.tiles.specs.Element.{bytes_of}
use Rattle.tiles.specs.declared.element.ElementSize.{ElementSize}
use Rattle.tiles.specs.declared.element.ElementSize.TheVariants.{Bits8, Bits16, Bits32, Bits64, Bits128}
use Rattle.tiles.specs.declared.span.Span.{Span}
use Rattle.general.specs.Scatter.{scatter, all, zeros, onwards}
use Rattle.general.proofs.BoolLaws.{and_parts}
use Rattle.general.proofs.ScatterLaws.{get_or-scatter_other, scatter_agree, scatter_tests}
use Rattle.tiles.specs.Predicate.{active}
use Rattle.tiles.specs.Span.{strided, span_at}
use Rattle.tiles.proofs.SpanLaws.{Spanned, block_within, strided_element, strided_run, run_end}
use Rattle.moves.specs.Eights.{AllActive}
use Rattle.moves.specs.Paired.{Paired, Governed, are_runs, merged_as_run, value_at, merged}

-- an element has bytes, at most 16
pub bytes_of_range : (s : ElementSize) → (0 < bytes_of s) × (bytes_of s ≤ 16)
bytes_of_range Bits8 = omega arith
bytes_of_range Bits16 = omega arith
bytes_of_range Bits32 = omega arith
bytes_of_range Bits64 = omega arith
bytes_of_range Bits128 = omega arith

-- a size of fewer than 8 bytes is one of at most 4
bytes_of_few : (s : ElementSize) → bytes_of s < 8 → bytes_of s ≤ 4
bytes_of_few Bits8 h = omega arith
bytes_of_few Bits16 h = omega arith
bytes_of_few Bits32 h = omega arith
bytes_of_few Bits64 h = absurd (omega arith)
bytes_of_few Bits128 h = absurd (omega arith)

-- an element that is written ends within its buffer, and so does one that is read
pub writes : {to from : Span} {m ld ls : ℕ} → Paired to from m ld ls → (e : ℕ) → e < to.count → to.start + e * to.step + m ≤ ld
writes h e w = h.written.1 e w

pub reads : {to from : Span} {m ld ls : ℕ} → Paired to from m ld ls → (e : ℕ) → e < to.count → from.start + e * from.step + m ≤ ls
reads h e w = h.read.1 e (rw h.same w)

-- without zeroing the active elements alone are written
pub merged_active : (on : ℕ → Bool) (to from : Span) (m : ℕ) (src dst : List ℕ) → merged false on to from m src dst ≡ scatter (span_at to m) on (value_at src from m) (to.count * m) dst
merged_active on to from m src dst = scatter_agree _ _ on _ _ _ dst (λ k w y. (refl, rw y))

-- where every element is active, a copy is a merge, whatever would become of the others
pub full_merged : (zeroing : Bool) (p : List ℕ) (size : ElementSize) (to from : Span) (src dst : List ℕ) {d : List ℕ} → Governed to (bytes_of size) p → AllActive p size → d ≡ scatter (span_at to (bytes_of size)) all (value_at src from (bytes_of size)) (to.count * bytes_of size) dst → d ≡ merged zeroing (active p 0 (bytes_of size)) to from (bytes_of size) src dst
full_merged zeroing p size to from src dst g full e =
    let m = bytes_of size in
    let n = to.count * m in
    let each : (k : ℕ) → k < n → active p 0 m k ≡ true = λ k w. full k (omega (arith, g.bytes)) in
    e
    ∙ scatter_agree _ _ all _ (λ (k : ℕ). cond (active p 0 m k) (value_at src from m k) 0) n dst (λ k w y. (refl, rw (each k w)))
    ∙ scatter_tests _ all (λ (k : ℕ). zeroing || active p 0 m k) _ n dst (λ k w. rw (each k w) (or_all zeroing))
  where
    or_all : (b : Bool) → true ≡ b || true
    or_all true = refl
    or_all false = refl

module _ (start step m : ℕ) (some : 0 < m) (apart : m ≤ step) where
  -- no byte of an earlier element is one of element e
  strided_differ : (e i k : ℕ) → k < e * m → start + e * step + i ≡ strided start step m k → ⊥
  unfolding strided
  strided_differ e i k h q =
      let before : k / m < e = (div-lt_iff_lt-mul some).1 h in
      omega (arith, block_within (k / m) step e before, mod-lt k some)

  -- element e holds what it held before the earlier ones were cleared
  pub cleared_later : (e i : ℕ) (l d : List ℕ) → i < m → d ≡ scatter (strided start step m) all zeros (e * m) l → get_or l (strided start step m (e * m + i)) 0 ≡ get_or d (start + e * step + i) 0
  cleared_later e i l d h q =
      ap (λ (k : ℕ). get_or l k 0) (strided_element start step m e i h)
      ∙ rw q (sym (get_or-scatter_other (strided start step m) all zeros (e * m) l (start + e * step + i) (λ k w y r. strided_differ e i k w r)))

-- ---- elements that touch, in both buffers: one run of bytes each

pub runs_steps : (a b : Span) (m : ℕ) {r : Bool} → r ≡ are_runs a b m → r ≡ true → (a.step ≡ m) × (b.step ≡ m)
runs_steps a b m e t = let p = and_parts _ _ (sym e ∙ t) in (eqb-true _ _ p.0, eqb-true _ _ p.1)

pub merged_run_steps : (a b : Span) (size : ElementSize) {r : Bool} → r ≡ merged_as_run a b (bytes_of size) → r ≡ true → (a.step ≡ bytes_of size) × (b.step ≡ bytes_of size) × (bytes_of size ≤ 4)
merged_run_steps a b size e t =
    let p = and_parts _ _ (sym e ∙ t) in
    let r = runs_steps a b (bytes_of size) refl p.1 in
    (r.0, r.1, bytes_of_few size (ltb-true _ _ p.0))

module _ {to from : Span} {m ld ls : ℕ} (h : Paired to from m ld ls) (p : to.step ≡ m) (q : from.step ≡ m) where
  pub runs_end : (to.count * m ≤ max_vector_bytes) × (to.start + to.count * m ≤ ld) × (from.start + to.count * m ≤ ls)
  runs_end = (h.short, run_end to m ld h.written p, rw (← h.same) (run_end from m ls h.read q))

  -- the same by the predicate bytes that govern them
  pub runs_governed : {pred : List ℕ} → Governed to m pred → (8 * length pred ≤ max_vector_bytes) × (to.start + 8 * length pred ≤ ld) × (from.start + 8 * length pred ≤ ls)
  runs_governed g = let e = runs_end in (omega (arith, g.bytes), omega (arith, g.bytes), omega (arith, g.bytes))

module _ (to from : Span) (m : ℕ) (src : List ℕ) (p : to.step ≡ m) (q : from.step ≡ m) where
  -- where they lie
  pub run_at : span_at to m ≡ onwards to.start
  run_at = rw p (strided_run to.start m)

  pub run_from_lem : span_at from m ≡ onwards from.start
  run_from_lem = rw q (strided_run from.start m)

  -- what is written there, by what is read
  pub run_written : (on : ℕ → Bool) (by : ℕ → ℕ → ℕ) (n : ℕ) (dst : List ℕ) {d : List ℕ} → d ≡ scatter (onwards to.start) on (λ (k : ℕ). by k (get_or src (from.start + k) 0)) n dst → d ≡ scatter (span_at to m) on (λ (k : ℕ). by k (value_at src from m k)) n dst
  run_written on by n dst e =
      e
      ∙ ap (λ (at : ℕ → ℕ). scatter at on (λ (k : ℕ). by k (get_or src (from.start + k) 0)) n dst) (sym run_at)
      ∙ ap (λ (at : ℕ → ℕ). scatter (span_at to m) on (λ (k : ℕ). by k (get_or src (at k) 0)) n dst) (sym run_from_lem)

-- ---- spans of a vector of B bytes, by where its bytes lie

module _ {to from : Span} {m B ld ls : ℕ} {at at' : ℕ → ℕ} (t : Spanned to m B ld at) (f : Spanned from m B ls at') where
  pub spanned_paired : B ≤ max_vector_bytes → Paired to from m ld ls
  spanned_paired long =
      record { same = f.counted ∙ sym t.counted; short = rw t.bytes long; written = t.within; read = f.within }

  -- what is written, by what is read
  pub spanned_written : (on : ℕ → Bool) (by : ℕ → ℕ → ℕ) (src dst : List ℕ) {d : List ℕ} → d ≡ scatter (span_at to m) on (λ (k : ℕ). by k (value_at src from m k)) (to.count * m) dst → d ≡ scatter at on (λ (k : ℕ). by k (get_or src (at' k) 0)) B dst
  spanned_written on by src dst e =
      e
      ∙ ap (λ (n : ℕ). scatter (span_at to m) on (λ (k : ℕ). by k (value_at src from m k)) n dst) t.bytes
      ∙ ap (λ (p : ℕ → ℕ). scatter p on (λ (k : ℕ). by k (value_at src from m k)) B dst) t.places
      ∙ ap (λ (p : ℕ → ℕ). scatter at on (λ (k : ℕ). by k (get_or src (p k) 0)) B dst) f.places

  -- the same for elements that are merged under a test that agrees with another
  pub spanned_merged : (on on' : ℕ → Bool) (src dst : List ℕ) {d : List ℕ} → ((k : ℕ) → k < B → on k ≡ on' k) → d ≡ merged false on to from m src dst → d ≡ scatter at on' (λ (k : ℕ). get_or src (at' k) 0) B dst
  spanned_merged on on' src dst h e =
      spanned_written on (λ k v. v) src dst (e ∙ merged_active on to from m src dst) ∙ scatter_tests at on on' _ B dst h

  -- and where the others become zero
  pub spanned_replaced : (on on' : ℕ → Bool) (src dst : List ℕ) {d : List ℕ} → ((k : ℕ) → k < B → on k ≡ on' k) → d ≡ merged true on to from m src dst → d ≡ scatter at all (λ (k : ℕ). cond (on' k) (get_or src (at' k) 0) 0) B dst
  spanned_replaced on on' src dst h e =
      spanned_written all (λ k v. cond (on k) v 0) src dst e
      ∙ scatter_agree at at all _ _ B dst (λ k w y. (refl, ap (λ (b : Bool). cond b (get_or src (at' k) 0) 0) (h k w)))
