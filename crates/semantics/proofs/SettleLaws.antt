-- The sentences of specs/Operations.antt settle every byte: two states that meet them for one operation, and keep X, P and the lengths, are the same.
-- Assumes nothing.
use Prim.Native.Nat.{ℕ, zero, suc, ◌+◌, ◌*◌, ◌-◌, ◌/◌, ◌%◌, ◌^◌, ◌<◌}
use mathlib.Core.Path.{◌≡◌, refl, sym, ap, ◌∙◌}
use mathlib.Core.Bool.{Bool, true, false, ◌&&◌}
use mathlib.Core.List.{List}
use mathlib.Core.Option.{Option, none, some}
use native.Mathlib.Decide.{ℕ_discrete}
use native.Mathlib.Nat.{mod-lt, mul-zero, div-lt_iff_lt-mul}
use native.Mathlib.Omega.{arith}
use lib.Arith.{digits_lt, digits_div, digits_mod}
use lib.Dec.{eqb}
use lib.ListN.{length, get_or}
use lib.Seq.{ext_get_or}
use borrow.Author.Tests.{eqb-true, eqb-false, eq-eqb}
use Rattle.general.specs.Least.{least}
use Rattle.general.proofs.BoolLaws.{and_parts, and_both, clash}
use Rattle.general.proofs.LeastLaws.{least_none, least_some}
use Rattle.settings.specs.Settings.{stride_of}
use Rattle.settings.specs.declared.Settings.{Settings}
use Rattle.tiles.specs.Element.{bytes_of}
use Rattle.tiles.specs.declared.slice.TileSlice.{TileSlice}
use Rattle.encoding.specs.declared.operation.SliceAccess.{SliceAccess}
use Rattle.encoding.specs.declared.operation.Operation.{Operation}
use Rattle.encoding.specs.declared.operation.Operation.TheVariants.{MovaToTile, MovazFromTile, MovaFromArray, MovazFromArray, St1, MovaFromTile, Ld1}
use Rattle.semantics.specs.State.{State}
use Rattle.semantics.specs.Operations.{elements_in, in_slice, in_register, Active, in_group, in_registers, address_in, OthersStay, ToMemory, FromMemory, Means}
use Rattle.semantics.specs.Claims.{Keeps}

-- ---- lists

positive : (n m k : ℕ) → k < n * m → 0 < m
positive n zero k h = absurd (omega (arith, mul-zero n))
positive n (suc m) k h = omega arith

module _ (n m : ℕ) (hit : ℕ → ℕ → ℕ → Bool) where
  -- of the pairs below n and m, one that hits q, or none
  record Hit (q : ℕ) : Type 0 where
    first : ℕ
    second : ℕ
    first_below : first < n
    second_below : second < m
    hits : hit q first second ≡ true

  abbrev Missed : ℕ → Type 0
  Missed q = (e i : ℕ) → e < n → i < m → hit q e i ≡ false

  data Found (q : ℕ) : Type 0 where
    at : Hit q → Found q
    nowhere : Missed q → Found q

  found : (q : ℕ) → Found q
  found q = go (least (λ k. hit q (k / m) (k % m)) (n * m)) refl
    where
      go : (o : Option ℕ) → least (λ k. hit q (k / m) (k % m)) (n * m) ≡ o → Found q
      go (some k) e =
          let l = least_some (λ k. hit q (k / m) (k % m)) (n * m) k e in
          let p = positive n m k l.0 in
          at (record { first = k / m; second = k % m; first_below = (div-lt_iff_lt-mul {k = m} {x = k} {y = n} p).1 l.0; second_below = mod-lt k p; hits = l.1 })
      go none e = nowhere (λ e' i he hi. sym (ap (λ (x : ℕ). hit q x ((e' * m + i) % m)) (digits_div e' hi) ∙ ap (λ (x : ℕ). hit q e' x) (digits_mod e' hi)) ∙ least_none (λ k. hit q (k / m) (k % m)) (n * m) e (e' * m + i) (digits_lt he hi))

  -- lists of one length that agree where they are hit and where they are not
  lists_settle : (l l' : List ℕ) → length l ≡ length l' → ((q e i : ℕ) → e < n → i < m → hit q e i ≡ true → get_or l q 0 ≡ get_or l' q 0) → ((q : ℕ) → Missed q → get_or l q 0 ≡ get_or l' q 0) → l ≡ l'
  lists_settle l l' long here beside = ext_get_or 0 l l' long (λ q w. go q (found q))
    where
      go : (q : ℕ) → Found q → get_or l q 0 ≡ get_or l' q 0
      go q (at h) = here q h.first h.second h.first_below h.second_below h.hits
      go q (nowhere h) = beside q h

-- lists that agree at places given by pairs, and elsewhere with a third
places_settle : (n m : ℕ) (place : ℕ → ℕ → ℕ) (l₀ l l' : List ℕ) → length l ≡ length l' → ((e i : ℕ) → e < n → i < m → get_or l (place e i) 0 ≡ get_or l' (place e i) 0) →
    OthersStay (λ q. (e i : ℕ) → e < n → i < m → q ≡ place e i → ⊥) l₀ l → OthersStay (λ q. (e i : ℕ) → e < n → i < m → q ≡ place e i → ⊥) l₀ l' → l ≡ l'
places_settle n m place l₀ l l' long here a b =
    lists_settle n m (λ q e i. eqb q (place e i)) l l' long
    (λ q e i he hi y. let r = eqb-true q (place e i) y in ap (λ (k : ℕ). get_or l k 0) r ∙ here e i he hi ∙ ap (λ (k : ℕ). get_or l' k 0) (sym r))
    (λ q miss. let away : (e i : ℕ) → e < n → i < m → q ≡ place e i → ⊥ = λ e i he hi. eqb-false q (place e i) (miss e i he hi) in a q away ∙ sym (b q away))

-- ---- states

state_same : (a b : State) → a.x ≡ b.x → a.z ≡ b.z → a.p ≡ b.p → a.za ≡ b.za → a.memory ≡ b.memory → a ≡ b
state_same a b x z p za memory = λ i. record { x = x i; z = z i; p = p i; za = za i; memory = memory i }

module _ (s : Settings) (t a b : State) (ka : Keeps t a) (kb : Keeps t b) where
  -- each element is active or not
  by_active : (o : TileSlice) (pg e : ℕ) (Q : Type 0) → (Active s t o pg e → Q) → ((Active s t o pg e → ⊥) → Q) → Q
  by_active o pg e Q f g = go (ℕ_discrete _ 1)
    where
      go : Dec (Active s t o pg e) → Q
      go (yes h) = f h
      go (no h) = g h

  same_state : a.z ≡ b.z → a.za ≡ b.za → a.memory ≡ b.memory → a ≡ b
  same_state z za memory = state_same a b (ka.x ∙ sym kb.x) z (ka.p ∙ sym kb.p) za memory

  za_long_lem : length a.za ≡ length b.za
  za_long_lem = ka.za ∙ sym kb.za

  z_long_lem : length a.z ≡ length b.z
  z_long_lem = ka.z ∙ sym kb.z

  memory_long : length a.memory ≡ length b.memory
  memory_long = ka.memory ∙ sym kb.memory

  -- a byte of memory is that of an active element, or none is
  stores_settle : (o : SliceAccess) → ToMemory s t a o → ToMemory s t b o → a.memory ≡ b.memory
  stores_settle o f g =
      lists_settle (elements_in s o.slice) (bytes_of o.slice.size) (λ q e i. eqb (bit_of e) 1 && eqb (s.memory_address + q) (address_in t.x o e i)) a.memory b.memory memory_long
      (λ q e i he hi y. let h = and_parts (eqb (bit_of e) 1) _ y in let on = eqb-true (bit_of e) 1 h.0 in let r = eqb-true (s.memory_address + q) (address_in t.x o e i) h.1 in f.active e i he hi q on r ∙ sym (g.active e i he hi q on r))
      (λ q miss. let away : (e i : ℕ) → e < elements_in s o.slice → i < bytes_of o.slice.size → Active s t o.slice o.pg e → s.memory_address + q ≡ address_in t.x o e i → ⊥ = λ e i he hi on r. clash _ (and_both _ _ (eq-eqb (bit_of e) 1 on) (eq-eqb _ _ r)) (miss e i he hi) in f.memory q away ∙ sym (g.memory q away))
    where
      -- the bit by which an element is active
      bit_of : ℕ → ℕ
      bit_of e = get_or t.p (o.pg * (stride_of s / 8) + e * bytes_of o.slice.size / 8) 0 / 2 ^ (e * bytes_of o.slice.size % 8) % 2

  loads_settle : (o : SliceAccess) → FromMemory s t a o → FromMemory s t b o → a.za ≡ b.za
  loads_settle o f g =
      places_settle _ _ (in_slice s t o.slice) t.za a.za b.za za_long_lem
      (λ e i he hi. by_active o.slice o.pg e _
      (λ y. let q = address_in t.x o e i - s.memory_address in let r : s.memory_address + q ≡ address_in t.x o e i = omega (arith, (f.inside e i he hi y).0) in f.active e i he hi q y r ∙ sym (g.active e i he hi q y r))
      (λ y. f.inactive e i he hi y ∙ sym (g.inactive e i he hi y)))
      f.za g.za

  pub means_settle : (o : Operation) → Means s t a o → Means s t b o → a ≡ b
  means_settle (MovaToTile o) f g =
      same_state (f.z ∙ sym g.z)
      (places_settle _ _ (in_slice s t o.slice) t.za a.za b.za za_long_lem
      (λ e i he hi. by_active o.slice o.pg e _ (λ y. f.active e i he hi y ∙ sym (g.active e i he hi y)) (λ y. f.inactive e i he hi y ∙ sym (g.inactive e i he hi y)))
      f.za g.za)
      (f.memory ∙ sym g.memory)
  means_settle (MovazFromTile o) f g =
      same_state
      (places_settle _ _ (in_register s o.slice o.zd) t.z a.z b.z z_long_lem (λ e i he hi. f.takes e i he hi ∙ sym (g.takes e i he hi)) f.z g.z)
      (places_settle _ _ (in_slice s t o.slice) t.za a.za b.za za_long_lem (λ e i he hi. f.zero e i he hi ∙ sym (g.zero e i he hi)) f.za g.za)
      (f.memory ∙ sym g.memory)
  means_settle (MovaFromArray o) f g =
      same_state
      (places_settle _ _ (in_registers s o) t.z a.z b.z z_long_lem (λ j k hj hk. f.vectors.takes j k hj hk ∙ sym (g.vectors.takes j k hj hk)) f.vectors.z g.vectors.z)
      (f.za ∙ sym g.za) (f.vectors.memory ∙ sym g.vectors.memory)
  means_settle (MovazFromArray o) f g =
      same_state
      (places_settle _ _ (in_registers s o) t.z a.z b.z z_long_lem (λ j k hj hk. f.vectors.takes j k hj hk ∙ sym (g.vectors.takes j k hj hk)) f.vectors.z g.vectors.z)
      (places_settle _ _ (in_group s t o) t.za a.za b.za za_long_lem (λ j k hj hk. f.zero j k hj hk ∙ sym (g.zero j k hj hk)) f.za g.za)
      (f.vectors.memory ∙ sym g.vectors.memory)
  means_settle (St1 o) f g = same_state (f.z ∙ sym g.z) (f.za ∙ sym g.za) (stores_settle o f g)
  means_settle (MovaFromTile o) f g =
      let q = o.whole.slice in
      same_state
      (places_settle _ _ (in_register s q o.whole.zd) t.z a.z b.z z_long_lem
      (λ e i he hi. by_active q o.pg e _ (λ y. f.active e i he hi y ∙ sym (g.active e i he hi y)) (λ y. f.inactive e i he hi y ∙ sym (g.inactive e i he hi y)))
      f.z g.z)
      (f.za ∙ sym g.za) (f.memory ∙ sym g.memory)
  means_settle (Ld1 o) f g = same_state (f.z ∙ sym g.z) (loads_settle o f g) (f.memory ∙ sym g.memory)
