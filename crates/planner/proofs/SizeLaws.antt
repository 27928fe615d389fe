-- Laws of element sizes, as numbers and as parts: a computed test over the five, or over each pair of them.
-- Assumes nothing.
use Prim.Native.Nat.{ℕ, ◌+◌, ◌*◌, ◌-◌, ◌/◌, ◌%◌, ◌<◌, ◌≤◌}
use mathlib.Core.Path.{◌≡◌, refl, sym, subst, ap, ◌∙◌}
use mathlib.Core.Bool.{Bool, true, false, ◌&&◌, ◌||◌}
use mathlib.Core.List.{[], ◌∷◌}
use mathlib.Core.Logic.{◌⊎◌, inl, inr, ⊎_elim}
use native.Mathlib.Decide.{dec_lt}
use native.Mathlib.Nat.{mod-lt, mod-eq_of_lt, mod-eq-sub-mod, mod-mod_of_dvd, dvd_of_mod-eq-zero, dvd-mul_left, add-mod_right}
use native.Mathlib.Omega.{arith}
use lib.Dec.{eqb, leb, ltb}
use borrow.Author.Tests.{eqb-true, ltb-true, leb-true, le-ltb, lt-leb}
use Rattle.tiles.specs.Element.{bytes_of, size_of}
use Rattle.tiles.specs.declared.element.ElementSize.{ElementSize}
use Rattle.tiles.specs.declared.element.ElementSize.TheVariants.{Bits8, Bits16, Bits32, Bits64, Bits128}
use Rattle.general.proofs.BoolLaws.{and_parts, or_parts, clash, all_of, all_at}
use Rattle.planner.specs.Tile.{is_size}

-- ---- tests over the sizes

-- a test that every size passes
abbrev each : (ℕ → Bool) → Bool
each f = all_of (f 1 ∷ f 2 ∷ f 4 ∷ f 8 ∷ f 16 ∷ [])

each_at : (f : ℕ → Bool) → each f ≡ true → (s : ElementSize) → f (bytes_of s) ≡ true
each_at f e Bits8 = all_at _ e 0
each_at f e Bits16 = all_at _ e 1
each_at f e Bits32 = all_at _ e 2
each_at f e Bits64 = all_at _ e 3
each_at f e Bits128 = all_at _ e 4

-- the test at a number that is a size, and at two
pub size_at : (f : ℕ → Bool) → each f ≡ true → (m : ℕ) → is_size m ≡ true → f m ≡ true
unfolding is_size
size_at f e m h = subst (λ (k : ℕ). f k ≡ true) (eqb-true _ _ h) (each_at f e (size_of m))

pub pair_at : (f : ℕ → ℕ → Bool) → each (λ a. each (f a)) ≡ true → (a b : ℕ) → is_size a ≡ true → is_size b ≡ true → f a b ≡ true
pair_at f e a b h k = size_at (f a) (size_at (λ c. each (f c)) e a h) b k

-- a test on one side only
after : (a b : Bool) → a || b ≡ true → a ≡ false → b ≡ true
after a b e f = ⊎_elim (λ p. absurd (clash a p f)) (λ p. p) (or_parts a b e)

-- ---- one size

-- a size is not 0 and at most 16
pub size_range : (m : ℕ) → is_size m ≡ true → (0 < m) × (m ≤ 16)
unfolding all_of
size_range m e =
    let p = and_parts (leb 1 m) (leb m 16) (size_at (λ k. leb 1 k && leb k 16) refl m e) in
    (leb-true 1 m p.0, leb-true m 16 p.1)

-- the parts of a tile are a size's bytes again, and turn back into its bytes
pub size_parts : (m : ℕ) → is_size m ≡ true → (is_size (16 / m) ≡ true) × (16 / (16 / m) ≡ m)
unfolding is_size all_of
size_parts m e =
    let p = and_parts (is_size (16 / m)) (eqb (16 / (16 / m)) m) (size_at (λ k. is_size (16 / k) && eqb (16 / (16 / k)) k) refl m e) in
    (p.0, eqb-true _ _ p.1)

-- ---- two sizes

-- a size divides each that is not below it
pub size_divides : (a b : ℕ) → is_size a ≡ true → is_size b ≡ true → a ≤ b → b % a ≡ 0
unfolding all_of
size_divides a b h k w = eqb-true _ _ (after (ltb b a) (eqb (b % a) 0) (pair_at (λ a b. ltb b a || eqb (b % a) 0) refl a b h k) (le-ltb _ _ w))

pub mod_size : (a b : ℕ) → is_size a ≡ true → is_size b ≡ true → a ≤ b → (v : ℕ) → v % b % a ≡ v % a
mod_size a b h k w v = mod-mod_of_dvd a v (dvd_of_mod-eq-zero a (size_divides a b h k w))

-- parts that are more than those asked for can be halved, and the bytes then double
pub record Halved (asked parts : ℕ) : Type 0 where
  pub size : is_size (parts / 2) ≡ true
  pub within : asked ≤ parts / 2
  pub fewer : parts / 2 < parts
  pub double : 16 / (parts / 2) ≡ 2 * (16 / parts)

pub halved : (a b : ℕ) → is_size a ≡ true → is_size b ≡ true → a < b → Halved a b
unfolding is_size all_of
halved a b h k w =
    let f : ℕ → ℕ → Bool = λ a b. leb b a || all_of (is_size (b / 2) ∷ leb a (b / 2) ∷ ltb (b / 2) b ∷ eqb (16 / (b / 2)) (2 * (16 / b)) ∷ []) in
    let p = all_at (is_size (b / 2) ∷ leb a (b / 2) ∷ ltb (b / 2) b ∷ eqb (16 / (b / 2)) (2 * (16 / b)) ∷ []) (after (leb b a) _ (pair_at f refl a b h k) (lt-leb _ _ w)) in
    record { size = p 0; within = leb-true _ _ (p 1); fewer = ltb-true _ _ (p 2); double = eqb-true _ _ (p 3) }

-- ---- halves, for any m

-- what leaves n by m leaves n or n + m by 2m
pub halves : (m t n : ℕ) → 0 < m → t % m ≡ n → (t % (2 * m) ≡ n) ⊎ (t % (2 * m) ≡ n + m)
halves m t n pos e = go (dec_lt (t % (2 * m)) m)
  where
    u : ℕ
    u = t % (2 * m)

    same : u % m ≡ n
    same = mod-mod_of_dvd m t (dvd-mul_left m 2) ∙ e

    go : Dec (u < m) → (u ≡ n) ⊎ (u ≡ n + m)
    go (yes w) = inl (sym (mod-eq_of_lt w) ∙ same)
    go (no w) =
        let less : u - m < m = omega (arith, mod-lt t {m = 2 * m} (omega arith)) in
        let rest : u - m ≡ n = sym (mod-eq_of_lt less) ∙ sym (mod-eq-sub-mod {n = u} {m = m} (omega arith)) ∙ same in
        inr (omega (arith, rest))

-- and back
pub halves_lower : (m t n : ℕ) → n < m → t % (2 * m) ≡ n → t % m ≡ n
halves_lower m t n w e = sym (mod-mod_of_dvd m t (dvd-mul_left m 2)) ∙ ap (λ (k : ℕ). k % m) e ∙ mod-eq_of_lt w

pub halves_upper : (m t n : ℕ) → n < m → t % (2 * m) ≡ n + m → t % m ≡ n
halves_upper m t n w e =
    sym (mod-mod_of_dvd m t (dvd-mul_left m 2)) ∙ ap (λ (k : ℕ). k % m) e ∙ rw add-mod_right (mod-eq_of_lt w)
