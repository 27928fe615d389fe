-- Laws of specs/Least.antt, for any test.
-- Assumes nothing.
use Prim.Native.Nat.{ℕ, zero, suc, ◌<◌}
use mathlib.Core.Path.{◌≡◌, refl, sym, ◌∙◌}
use mathlib.Core.Bool.{Bool, true, false, cond, true≢false, false≢true}
use mathlib.Core.Option.{Option, none, some, some-injective}
use native.Mathlib.Decide.{ℕ_discrete}
use native.Mathlib.Omega.{arith}
use Rattle.general.specs.Least.{or_else, least, is_some}

-- there is none, or there is one
pub none_some : {A : Type 0} {a : A} → none ≡ some a → ⊥
none_some e = let z : ◌≡◌ {A = ℕ} 0 1 = cc in omega arith

pub is_some_lem : (o : Option ℕ) → is_some o ≡ true → (k : ℕ) × (o ≡ some k)
is_some_lem (some k) e = (k, refl)
is_some_lem none e = absurd (false≢true e)

module _ (f : ℕ → Bool) where
  -- a place that passes the test, and none before it does
  pub least_found : (k n : ℕ) → least f k ≡ none → f k ≡ true → k < n → least f n ≡ some k
  unfolding least
  least_found k zero e h w = absurd (omega arith)
  least_found k (suc n) e h w = go (λ v. least_found k n e h v) (ℕ_discrete n k)
    where
      go : (k < n → least f n ≡ some k) → Dec (n ≡ k) → or_else (least f n) (cond (f n) (some n) none) ≡ some k
      go ih (yes q) = rw (q, e, h)
      go ih (no ne) = rw (ih (omega arith))

  -- where every place fails the test there is none
  pub least_never : (n : ℕ) → ((k : ℕ) → k < n → f k ≡ false) → least f n ≡ none
  unfolding least
  least_never zero h = refl
  least_never (suc n) h = rw (least_never n (λ k w. h k (omega arith)), h n (omega arith))

  -- where there is none, every place fails the test
  pub least_none : (n : ℕ) → least f n ≡ none → (k : ℕ) → k < n → f k ≡ false
  unfolding least
  least_none zero e k w = absurd (omega arith)
  least_none (suc n) e k w = go (least f n) refl (f n) refl e (λ q v. least_none n q k v) (ℕ_discrete k n)
    where
      go : (o : Option ℕ) → least f n ≡ o → (b : Bool) → f n ≡ b → or_else o (cond b (some n) none) ≡ none → (least f n ≡ none → k < n → f k ≡ false) → Dec (k ≡ n) → f k ≡ false
      go (some j) q b h e ih d = let z : ◌≡◌ {A = ℕ} 0 1 = cc in absurd (omega arith)
      go none q true h e ih d = let z : ◌≡◌ {A = ℕ} 0 1 = cc in absurd (omega arith)
      go none q false h e ih (yes r) = rw r h
      go none q false h e ih (no ne) = ih q (omega arith)

  -- where there is one, it passes the test, and none before it does
  pub least_some : (n k : ℕ) → least f n ≡ some k → (k < n) × (f k ≡ true) × ((j : ℕ) → j < k → f j ≡ false)
  unfolding least
  least_some zero k e = let z : ◌≡◌ {A = ℕ} 0 1 = cc in absurd (omega arith)
  least_some (suc n) k e = go (least f n) refl (f n) refl e (λ q. least_some n k q)
    where
      go : (o : Option ℕ) → least f n ≡ o → (b : Bool) → f n ≡ b → or_else o (cond b (some n) none) ≡ some k →
          (least f n ≡ some k → (k < n) × (f k ≡ true) × ((j : ℕ) → j < k → f j ≡ false)) →
          (k < suc n) × (f k ≡ true) × ((j : ℕ) → j < k → f j ≡ false)
      go (some i) q b h e ih = let r = ih (rw q e) in (omega (arith, r.0), r.1, r.2)
      go none q true h e ih =
          let w = some-injective n k e in
          (omega arith, rw (← w) h, λ j v. least_none n q j (omega arith))
      go none q false h e ih = let z : ◌≡◌ {A = ℕ} 0 1 = cc in absurd (omega arith)

  -- a test that passes somewhere has a first place where it does
  pub some_least : (n k : ℕ) → k < n → f k ≡ true → is_some (least f n) ≡ true
  some_least n k h y = go (least f n) refl
    where
      go : (o : Option ℕ) → least f n ≡ o → is_some o ≡ true
      go (some j) e = refl
      go none e = absurd (true≢false (sym y ∙ least_none n e k h))

-- tests that agree below n
pub least_same : (f g : ℕ → Bool) (n : ℕ) → ((k : ℕ) → k < n → f k ≡ g k) → least f n ≡ least g n
unfolding least
least_same f g zero h = refl
least_same f g (suc n) h = rw (least_same f g n (λ k w. h k (omega arith)), h n (omega arith))
