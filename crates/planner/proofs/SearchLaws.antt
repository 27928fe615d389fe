-- Laws of the search by halves (`lowest_in` of specs/Steps.antt).
-- Assumes nothing.
use Prim.Native.Nat.{ℕ, ◌+◌, ◌*◌, ◌/◌, ◌%◌, ◌<◌, ◌≤◌}
use mathlib.Core.Path.{◌≡◌, refl, sym, ap, ◌∙◌, fun_ext}
use mathlib.Core.Bool.{Bool, true, false, ◌&&◌}
use mathlib.Core.List.{List}
use mathlib.Core.Logic.{◌⊎◌, inl, inr, ⊎_elim}
use mathlib.Core.Option as maybe
use native.Mathlib.Decide.{dec_le}
use Rattle.std.proofs.Common.{Option, Some, None, min}
use native.Mathlib.Nat.{mod-eq_of_lt, mod-one}
use native.Mathlib.Omega.{arith}
use lib.Dec.{eqb}
use borrow.Author.Tests.{eqb-true, eq-eqb}
use Rattle.general.proofs.BoolLaws.{by_test, and_parts, and_both, refute, clash}
use Rattle.std.specs.Bool.{then_some}
use Rattle.general.specs.Least.{least}
use Rattle.general.proofs.LeastLaws.{least_found, least_never, least_none, least_some}
use Rattle.planner.specs.Tile.{tile_of, is_size, is_free, lowest_free}
use Rattle.planner.specs.Steps.{found, lowest_in}
use Rattle.planner.specs.declared.tile.Tile.{Tile}
use Rattle.planner.proofs.SizeLaws.{halved, halves, halves_lower, halves_upper}

-- ---- the least that passes one of two tests

-- the lower of what two searches found
abbrev pub lower : Option ℕ → Option ℕ → Option ℕ
lower None o = o
lower (Some i) None = Some i
lower (Some i) (Some j) = Some (min i j)

-- h passes where f or g does, so the least of h is the lower one of theirs
module _ (f g h : ℕ → Bool) (n : ℕ) (either : (k : ℕ) → h k ≡ true → (f k ≡ true) ⊎ (g k ≡ true)) (first : (k : ℕ) → f k ≡ true → h k ≡ true) (second : (k : ℕ) → g k ≡ true → h k ≡ true) where
  fails : (k : ℕ) → f k ≡ false → g k ≡ false → h k ≡ false
  fails k p q = refute (h k) (λ e. ⊎_elim (λ a. clash (f k) a p) (λ a. clash (g k) a q) (either k e))

  found_at : (k : ℕ) → k < n → h k ≡ true → ((j : ℕ) → j < k → f j ≡ false) → ((j : ℕ) → j < k → g j ≡ false) → found (least h n) ≡ Some k
  found_at k w e p q = ap found (least_found h k n (least_never h k (λ j v. fails j (p j v) (q j v))) e w)

  pub least_lower : found (least h n) ≡ lower (found (least f n)) (found (least g n))
  least_lower = go (least f n) refl (least g n) refl
    where
      both : (i j : ℕ) → least f n ≡ maybe.some i → least g n ≡ maybe.some j → Dec (i ≤ j) → found (least h n) ≡ Some (min i j)
      both i j e d (yes le) =
          let a = least_some f n i e in
          let b = least_some g n j d in
          found_at i a.0 (first i a.1) a.2 (λ k v. b.2 k (omega arith)) ∙ ap Some (omega arith)
      both i j e d (no gt) =
          let a = least_some f n i e in
          let b = least_some g n j d in
          found_at j b.0 (second j b.1) (λ k v. a.2 k (omega arith)) b.2 ∙ ap Some (omega arith)

      go : (o : maybe.Option ℕ) → least f n ≡ o → (p : maybe.Option ℕ) → least g n ≡ p → found (least h n) ≡ lower (found o) (found p)
      go maybe.none e maybe.none d = ap found (least_never h n (λ k w. fails k (least_none f n e k w) (least_none g n d k w)))
      go maybe.none e (maybe.some j) d = let b = least_some g n j d in found_at j b.0 (second j b.1) (λ k v. least_none f n e k (omega (arith, b.0))) b.2
      go (maybe.some i) e maybe.none d = let a = least_some f n i e in found_at i a.0 (first i a.1) a.2 (λ k v. least_none g n d k (omega (arith, a.0)))
      go (maybe.some i) e (maybe.some j) d = both i j e d (dec_le i j)

-- ---- the search

module _ (l : List Tile) (a m n : ℕ) where
  -- tile t of a bytes lies inside tile n of m bytes, and is free
  abbrev inside : ℕ → Bool
  inside t = eqb (t % m) n && is_free l (tile_of a t)

  inside_parts : (t : ℕ) → inside t ≡ true → (t % m ≡ n) × (is_free l (tile_of a t) ≡ true)
  inside_parts t e = let p = and_parts (eqb (t % m) n) (is_free l (tile_of a t)) e in (eqb-true _ _ p.0, p.1)

  inside_both : (t : ℕ) → t % m ≡ n → is_free l (tile_of a t) ≡ true → inside t ≡ true
  inside_both t p q = and_both (eqb (t % m) n) (is_free l (tile_of a t)) (eq-eqb _ _ p) q

-- the whole of a tile is that tile
module _ (l : List Tile) (m n : ℕ) (w : n < m) where
  lowest_itself : is_free l (tile_of m n) ≡ true → lowest_in l m m n ≡ Some n
  unfolding lowest_in
  lowest_itself e =
      ap found (least_found (inside l m m n) n m
      (least_never (inside l m m n) n (λ k v. refute _ (λ p. absurd (omega (arith, sym (mod-eq_of_lt {n = k} {m = m} (omega arith)) ∙ (inside_parts l m m n k p).0)))))
      (inside_both l m m n n (mod-eq_of_lt w) e) w)

  lowest_taken : is_free l (tile_of m n) ≡ false → lowest_in l m m n ≡ None
  unfolding lowest_in
  lowest_taken e =
      ap found (least_never (inside l m m n) m (λ k v. refute _ (λ p.
      let q = inside_parts l m m n k p in
      clash (is_free l (tile_of m n)) (ap (λ (t : ℕ). is_free l (tile_of m t)) (sym q.0 ∙ mod-eq_of_lt v) ∙ q.1) e)))

  pub lowest_tile : then_some (is_free l (tile_of m n)) n ≡ lowest_in l m m n
  lowest_tile = go (by_test (is_free l (tile_of m n)))
    where
      go : (is_free l (tile_of m n) ≡ true) ⊎ (is_free l (tile_of m n) ≡ false) → then_some (is_free l (tile_of m n)) n ≡ lowest_in l m m n
      go (inl e) = rw e (sym (lowest_itself e))
      go (inr e) = rw e (sym (lowest_taken e))

-- of two halves the lower
module _ (l : List Tile) (a m d n : ℕ) (double : d ≡ 2 * m) (w : n < m) where
  pos : 0 < m
  pos = omega arith

  parted : (t : ℕ) → inside l a m n t ≡ true → (inside l a d n t ≡ true) ⊎ (inside l a d (n + m) t ≡ true)
  parted t e =
      let p = inside_parts l a m n t e in
      rw double (⊎_elim
      (λ c. inl (inside_both l a (2 * m) n t c p.1))
      (λ c. inr (inside_both l a (2 * m) (n + m) t c p.1))
      (halves m t n pos p.0))

  lower_half : (t : ℕ) → inside l a d n t ≡ true → inside l a m n t ≡ true
  lower_half t e = let p = inside_parts l a (2 * m) n t (rw double at e) in inside_both l a m n t (halves_lower m t n w p.0) p.1

  upper_half : (t : ℕ) → inside l a d (n + m) t ≡ true → inside l a m n t ≡ true
  upper_half t e = let p = inside_parts l a (2 * m) (n + m) t (rw double at e) in inside_both l a m n t (halves_upper m t n w p.0) p.1

  pub halves_lower_lem : lowest_in l a m n ≡ lower (lowest_in l a d n) (lowest_in l a d (n + m))
  unfolding lowest_in
  halves_lower_lem = least_lower (inside l a d n) (inside l a d (n + m)) (inside l a m n) a parted lower_half upper_half

-- what the two halves of a tile gave
pub lowest_halves : (l : List Tile) (asked parts n : ℕ) → is_size asked ≡ true → is_size parts ≡ true → asked < parts → n < 16 / parts →
    lower (lowest_in l (16 / asked) (16 / (parts / 2)) n) (lowest_in l (16 / asked) (16 / (parts / 2)) (n + 16 / parts)) ≡ lowest_in l (16 / asked) (16 / parts) n
lowest_halves l asked parts n ea ep more w =
    sym (halves_lower_lem l (16 / asked) (16 / parts) (16 / (parts / 2)) n (halved asked parts ea ep more).double w)

-- the whole of ZA
pub all_inside : (l : List Tile) (m : ℕ) → lowest_in l m 1 0 ≡ found (lowest_free l m)
unfolding lowest_in
all_inside l m = ap (λ (f : ℕ → Bool). found (least f m)) (fun_ext (λ t. rw (mod-one t)))

pub search_none : (l : List Tile) (m : ℕ) → lowest_in l m 1 0 ≡ None → lowest_free l m ≡ maybe.none
search_none l m e = go (lowest_free l m) (sym (all_inside l m) ∙ e)
  where
    go : (o : maybe.Option ℕ) → found o ≡ None → o ≡ maybe.none
    go maybe.none e = refl
    go (maybe.some t) e = absurd (cc)

pub search_some : (l : List Tile) (m t : ℕ) → lowest_in l m 1 0 ≡ Some t → lowest_free l m ≡ maybe.some t
search_some l m t e = go (lowest_free l m) (sym (all_inside l m) ∙ e)
  where
    go : (o : maybe.Option ℕ) → found o ≡ Some t → o ≡ maybe.some t
    go maybe.none e = absurd (cc)
    go (maybe.some u) e = cc
