-- Tests taken apart: what a conjunction, a disjunction and a choice by a test say, and the same for any number of tests.
-- Assumes nothing.
use Prim.Native.Nat.{ℕ, zero, suc}
use mathlib.Core.Path.{◌≡◌, refl, sym, ◌∙◌}
use mathlib.Core.Bool.{Bool, true, false, ◌&&◌, ◌||◌, and-eq-true_iff, true≢false, false≢true}
use mathlib.Core.List.{List, [], ◌∷◌}
use mathlib.Core.Logic.{◌⊎◌, inl, inr, ⊎_elim}
use lib.ListN.{get_or}

pub and_parts : (a b : Bool) → a && b ≡ true → (a ≡ true) × (b ≡ true)
and_parts a b = (and-eq-true_iff a b).0

pub and_both : (a b : Bool) → a ≡ true → b ≡ true → a && b ≡ true
and_both a b p q = (and-eq-true_iff a b).1 (p, q)

pub or_parts : (a b : Bool) → a || b ≡ true → (a ≡ true) ⊎ (b ≡ true)
or_parts true b e = inl refl
or_parts false b e = inr e

pub or_right : (a b : Bool) → b ≡ true → a || b ≡ true
or_right true b e = refl
or_right false b e = e

pub or_neither : (a b : Bool) → a || b ≡ false → (a ≡ false) × (b ≡ false)
or_neither true b e = absurd (true≢false e)
or_neither false b e = (refl, e)

-- a test with what it gives
pub by_test : (b : Bool) → (b ≡ true) ⊎ (b ≡ false)
by_test true = inl refl
by_test false = inr refl

-- a test that cannot pass fails
pub refute : (b : Bool) → (b ≡ true → ⊥) → b ≡ false
refute true h = absurd (h refl)
refute false h = refl

-- a test does not both pass and fail
pub clash : (b : Bool) → b ≡ true → b ≡ false → ⊥
clash b p q = true≢false (sym p ∙ q)

-- ---- lists of tests

-- all pass
unfoldable pub all_of : List Bool → Bool
all_of [] = true
all_of (b ∷ bs) = b && all_of bs

-- so each does
pub all_at : (bs : List Bool) → all_of bs ≡ true → (i : ℕ) → get_or bs i true ≡ true
unfolding all_of
all_at [] e i = refl
all_at (b ∷ bs) e zero = (and_parts b (all_of bs) e).0
all_at (b ∷ bs) e (suc i) = all_at bs (and_parts b (all_of bs) e).1 i

-- one passes
unfoldable pub one_of : List Bool → Bool
one_of [] = false
one_of (b ∷ bs) = b || one_of bs

-- P, for which there is a proof from each test
abbrev pub Cases : List Bool → Type 0 → Type 0
Cases [] P = P
Cases (b ∷ bs) P = (b ≡ true → P) → Cases bs P

-- P itself needs none of them
cases_shown : (bs : List Bool) (P : Type 0) → P → Cases bs P
cases_shown [] P p = p
cases_shown (b ∷ bs) P p = λ k. cases_shown bs P p

-- so what each of them shows holds
pub one_cases : (bs : List Bool) (P : Type 0) → one_of bs ≡ true → Cases bs P
unfolding one_of
one_cases [] P e = absurd (false≢true e)
one_cases (b ∷ bs) P e = λ k. ⊎_elim (λ t. cases_shown bs P (k t)) (λ t. one_cases bs P t) (or_parts b (one_of bs) e)
