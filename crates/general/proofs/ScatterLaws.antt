-- Laws of specs/Scatter.antt, for any places, test and values.
-- Assumes nothing.
use mathlib.Core.Path.{◌≡◌, refl, sym, ap, ◌∙◌}
use mathlib.Core.Bool.{Bool, true, false, cond}
use mathlib.Core.List.{List, [], ◌∷◌}
use mathlib.Core.Option.{Option, none, some}
use Prim.Native.Nat.{ℕ, zero, suc, ◌+◌, ◌<◌, ◌≤◌}
use native.Mathlib.Nat.{add-zero, add-suc, le_antisymm}
use native.Mathlib.Numerals.{add-one}
use native.Mathlib.Decide.{ℕ_discrete}
use native.Mathlib.Omega.{arith}
use lib.Dec.{eqb}
use lib.ListN.{length, get_or, set, length-set}
use lib.Seq.{get_or-set_same, get_or-set_other, ext_get_or}
use borrow.Author.Tests.{eqb-true, eqb-false}
use Rattle.general.specs.Least.{least}
use Rattle.general.specs.Scatter.{set_if, scatter}
use Rattle.general.proofs.LeastLaws.{least_none, least_some}

pub length-set_if : (b : Bool) (l : List ℕ) (i v : ℕ) → length (set_if b l i v) ≡ length l
length-set_if true l i v = length-set l i v
length-set_if false l i v = refl

pub get_or-set_if_other : (b : Bool) (l : List ℕ) (i v j : ℕ) → (b ≡ true → j ≡ i → ⊥) → get_or (set_if b l i v) j 0 ≡ get_or l j 0
get_or-set_if_other true l i v j h = get_or-set_other l i j v 0 (h refl)
get_or-set_if_other false l i v j h = refl

pub get_or-set_if_same : (b : Bool) (l : List ℕ) (i v : ℕ) → i < length l → get_or (set_if b l i v) i 0 ≡ cond b v (get_or l i 0)
get_or-set_if_same true l i v h = get_or-set_same l i v 0 h
get_or-set_if_same false l i v h = refl

module _ (at : ℕ → ℕ) (on : ℕ → Bool) (val : ℕ → ℕ) where
  pub length-scatter : (n : ℕ) (l : List ℕ) → length (scatter at on val n l) ≡ length l
  unfolding scatter
  length-scatter zero l = refl
  length-scatter (suc k) l = length-set_if (on k) (scatter at on val k l) (at k) (val k) ∙ length-scatter k l

  -- a byte that is none of the places that are on stays
  pub get_or-scatter_other : (n : ℕ) (l : List ℕ) (p : ℕ) → ((k : ℕ) → k < n → on k ≡ true → p ≡ at k → ⊥) → get_or (scatter at on val n l) p 0 ≡ get_or l p 0
  unfolding scatter
  get_or-scatter_other zero l p h = refl
  get_or-scatter_other (suc k) l p h =
      get_or-set_if_other (on k) (scatter at on val k l) (at k) (val k) p (h k (omega arith))
      ∙ get_or-scatter_other k l p (λ j w. h j (omega arith))

  -- a byte at one of the places, where no other below n that is on is the same
  pub get_or-scatter : (n : ℕ) (l : List ℕ) (k : ℕ) → k < n → at k < length l → ((j : ℕ) → j < n → on j ≡ true → (j ≡ k → ⊥) → at k ≡ at j → ⊥) → get_or (scatter at on val n l) (at k) 0 ≡ cond (on k) (val k) (get_or l (at k) 0)
  unfolding scatter
  get_or-scatter zero l k h b inj = absurd (omega arith)
  get_or-scatter (suc n) l k h b inj =
      go (λ w. get_or-scatter n l k w b (λ j v. inj j (omega arith))) (ℕ_discrete n k)
    where
      go : (k < n → get_or (scatter at on val n l) (at k) 0 ≡ cond (on k) (val k) (get_or l (at k) 0)) → Dec (n ≡ k) → get_or (set_if (on n) (scatter at on val n l) (at n) (val n)) (at k) 0 ≡ cond (on k) (val k) (get_or l (at k) 0)
      go ih (yes e) =
          rw e (
          get_or-set_if_same (on k) (scatter at on val k l) (at k) (val k) (rw (length-scatter k l) b)
          ∙ ap (cond (on k) (val k)) (get_or-scatter_other k l (at k) (λ j w y. inj j (omega arith) y (omega arith)))
          )
      go ih (no ne) =
          get_or-set_if_other (on n) (scatter at on val n l) (at n) (val n) (at k) (λ y. inj n (omega arith) y ne)
          ∙ ih (omega arith)

  -- places at which the test fails are passed over
  pub scatter_skip : (n k : ℕ) (l : List ℕ) → ((i : ℕ) → i < k → on (n + i) ≡ false) → scatter at on val (n + k) l ≡ scatter at on val n l
  unfolding scatter
  scatter_skip n zero l h = rw add-zero
  scatter_skip n (suc k) l h =
      rw (add-suc, h k (omega arith)) (scatter_skip n k l (λ i w. h i (omega arith)))

  -- further places, counted from 0 again
  pub scatter_glue : (at' : ℕ → ℕ) (on' : ℕ → Bool) (val' : ℕ → ℕ) (n k : ℕ) (l : List ℕ) → ((i : ℕ) → i < k → (on (n + i) ≡ on' i) × (at (n + i) ≡ at' i) × (val (n + i) ≡ val' i)) → scatter at on val (n + k) l ≡ scatter at' on' val' k (scatter at on val n l)
  unfolding scatter
  scatter_glue at' on' val' n zero l h = rw add-zero
  scatter_glue at' on' val' n (suc k) l h =
      let w = h k (omega arith) in
      rw (add-suc, w.0, w.1, w.2, scatter_glue at' on' val' n k l (λ i v. h i (omega arith)))

-- for loops: one more place, none yet, and the end
pub scatter_more : (at : ℕ → ℕ) (on : ℕ → Bool) (val : ℕ → ℕ) (i : ℕ) (l : List ℕ) {d : List ℕ} → d ≡ scatter at on val i l → on i ≡ true → set d (at i) (val i) ≡ scatter at on val (i + 1) l
unfolding scatter
scatter_more at on val i l e h = rw (e, add-one i, h)

pub scatter_none : (at : ℕ → ℕ) (on : ℕ → Bool) (val : ℕ → ℕ) {l : List ℕ} → l ≡ scatter at on val 0 l
unfolding scatter
scatter_none at on val = refl

pub scatter_end : (at : ℕ → ℕ) (on : ℕ → Bool) (val : ℕ → ℕ) (l : List ℕ) {i n : ℕ} {d : List ℕ} → d ≡ scatter at on val i l → i ≤ n → n ≤ i → d ≡ scatter at on val n l
scatter_end at on val l e h k = e ∙ ap (λ (j : ℕ). scatter at on val j l) (le_antisymm h k)

-- places and values that agree below n, where the test holds
pub scatter_agree : (at at' : ℕ → ℕ) (on : ℕ → Bool) (val val' : ℕ → ℕ) (n : ℕ) (l : List ℕ) → ((k : ℕ) → k < n → on k ≡ true → (at k ≡ at' k) × (val k ≡ val' k)) → scatter at on val n l ≡ scatter at' on val' n l
unfolding scatter
scatter_agree at at' on val val' zero l h = refl
scatter_agree at at' on val val' (suc n) l h =
    go (on n) (h n (omega arith)) (scatter_agree at at' on val val' n l (λ k w. h k (omega arith)))
  where
    go : (b : Bool) → (b ≡ true → (at n ≡ at' n) × (val n ≡ val' n)) → {d d' : List ℕ} → d ≡ d' → set_if b d (at n) (val n) ≡ set_if b d' (at' n) (val' n)
    go true w e = rw ((w refl).0, (w refl).1, e)
    go false w e = e

-- tests that agree below n
pub scatter_tests : (at : ℕ → ℕ) (on on' : ℕ → Bool) (val : ℕ → ℕ) (n : ℕ) (l : List ℕ) → ((k : ℕ) → k < n → on k ≡ on' k) → scatter at on val n l ≡ scatter at on' val n l
unfolding scatter
scatter_tests at on on' val zero l h = refl
scatter_tests at on on' val (suc n) l h = rw (h n (omega arith), scatter_tests at on on' val n l (λ k w. h k (omega arith)))

-- two lists of one length that agree at a byte agree there once the same is written to both
set_both : (l l' : List ℕ) (i v q : ℕ) → length l ≡ length l' → get_or l q 0 ≡ get_or l' q 0 → get_or (set l i v) q 0 ≡ get_or (set l' i v) q 0
set_both [] [] i v q long e = e
set_both [] (y ∷ l') i v q long e = absurd (omega arith)
set_both (x ∷ l) [] i v q long e = absurd (omega arith)
set_both (x ∷ l) (y ∷ l') zero v zero long e = refl
set_both (x ∷ l) (y ∷ l') zero v (suc q) long e = e
set_both (x ∷ l) (y ∷ l') (suc i) v zero long e = e
set_both (x ∷ l) (y ∷ l') (suc i) v (suc q) long e = set_both l l' i v q (omega arith) e

pub scatter_both : (at : ℕ → ℕ) (on on' : ℕ → Bool) (val val' : ℕ → ℕ) (n : ℕ) (l l' : List ℕ) (q : ℕ) → ((k : ℕ) → k < n → on k ≡ on' k) → ((k : ℕ) → k < n → val k ≡ val' k) → length l ≡ length l' → get_or l q 0 ≡ get_or l' q 0 → get_or (scatter at on val n l) q 0 ≡ get_or (scatter at on' val' n l') q 0
unfolding scatter
scatter_both at on on' val val' zero l l' q tests values long e = e
scatter_both at on on' val val' (suc n) l l' q tests values long e =
    rw (tests n (omega arith), values n (omega arith))
    (go (on' n) (scatter_both at on on' val val' n l l' q (λ k w. tests k (omega arith)) (λ k w. values k (omega arith)) long e))
  where
    same_length : length (scatter at on val n l) ≡ length (scatter at on' val' n l')
    same_length = length-scatter at on val n l ∙ long ∙ sym (length-scatter at on' val' n l')

    go : (b : Bool) → get_or (scatter at on val n l) q 0 ≡ get_or (scatter at on' val' n l') q 0 → get_or (set_if b (scatter at on val n l) (at n) (val' n)) q 0 ≡ get_or (set_if b (scatter at on' val' n l') (at n) (val' n)) q 0
    go true ih = set_both (scatter at on val n l) (scatter at on' val' n l') (at n) (val' n) q same_length ih
    go false ih = ih

-- lists of one length that agree at n places, and wherever none of them is
pub lists_agree : (at : ℕ → ℕ) (n : ℕ) (l l' : List ℕ) → length l ≡ length l' → ((k : ℕ) → k < n → get_or l (at k) 0 ≡ get_or l' (at k) 0) → ((q : ℕ) → ((k : ℕ) → k < n → q ≡ at k → ⊥) → get_or l q 0 ≡ get_or l' q 0) → l ≡ l'
lists_agree at n l l' long here beside =
    ext_get_or 0 l l' long (λ q w. go q (least (λ (k : ℕ). eqb q (at k)) n) refl)
  where
    go : (q : ℕ) (o : Option ℕ) → least (λ (k : ℕ). eqb q (at k)) n ≡ o → get_or l q 0 ≡ get_or l' q 0
    go q (some k) e =
        let h = least_some (λ (j : ℕ). eqb q (at j)) n k e in
        rw (eqb-true q (at k) h.1) (here k h.0)
    go q none e = beside q (λ k w. eqb-false q (at k) (least_none (λ (j : ℕ). eqb q (at j)) n e k w))
