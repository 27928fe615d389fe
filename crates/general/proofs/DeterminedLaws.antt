-- Laws of specs/Determined.antt: promises that say what the outcome is equal to.
-- Assumes nothing.
use Prim.Native.Nat.{ℕ}
use mathlib.Core.Path.{◌≡◌, sym, ◌∙◌, subst}
use mathlib.Core.Bool.{Bool, true, false, cond}
use mathlib.Core.List.{List, [], ◌∷◌, ◌++◌}
use mathlib.Core.Logic.{inl, inr}
use Rattle.general.specs.Determined.{Determined, IsOneOf}

-- an outcome that is equal to something is determined
pub equal_determines : {A : Type 0} (P : A → Type 0) (x : A) → ((a : A) → P a → a ≡ x) → Determined P
equal_determines P x e a b p q = e a p ∙ sym (e b q)

-- a number by a test is one of a list that has both
pub one_of_test : (b : Bool) (ks : List ℕ) (n x y : ℕ) → IsOneOf ks x → IsOneOf ks y → n ≡ cond b x y → IsOneOf ks n
one_of_test true ks n x y p q e = subst (IsOneOf ks) (sym e) p
one_of_test false ks n x y p q e = subst (IsOneOf ks) (sym e) q

-- one of a list is one of a longer list
pub one_of_more : (ks ls : List ℕ) (n : ℕ) → IsOneOf ks n → IsOneOf (ks ++ ls) n
one_of_more [] ls n p = absurd p
one_of_more (k ∷ ks) ls n (inl e) = inl e
one_of_more (k ∷ ks) ls n (inr p) = inr (one_of_more ks ls n p)

-- what a test gives with another number than the first
pub other_number : {A : Type 0} (b : Bool) (n x y : ℕ) (a c d : A) → n ≡ cond b x y → a ≡ cond b c d → (n ≡ x → ⊥) → a ≡ d
other_number true n x y a c d q e h = absurd (h q)
other_number false n x y a c d q e h = e
