-- Laws of tiles as sets of parts (specs/Tile.antt): which exist, and which share a part.
-- Assumes nothing.
use Prim.Native.Nat.{ℕ, ◌%◌, ◌<◌, ◌≤◌}
use mathlib.Core.Path.{◌≡◌, refl, sym, ap, ◌∙◌}
use mathlib.Core.Bool.{true, false, ◌&&◌}
use mathlib.Core.Logic.{⊎_elim}
use mathlib.Core.Option.{Option, none, some}
use native.Mathlib.Decide.{ℕ_discrete}
use native.Mathlib.Nat.{mod-lt, mod-eq_of_lt}
use native.Mathlib.Omega.{arith}
use lib.Dec.{eqb, ltb}
use borrow.Author.Tests.{eqb-true, eq-eqb, ne_eqb, ltb-true, lt-ltb}
use Rattle.general.proofs.BoolLaws.{and_parts, and_both, by_test, refute, clash}
use Rattle.general.specs.Least.{least, is_some}
use Rattle.general.proofs.LeastLaws.{least_none, least_some}
use Rattle.planner.specs.Tile.{is_size, is_tile, covers, shares, is_same}
use Rattle.planner.specs.declared.tile.Tile.{Tile}
use Rattle.planner.proofs.SizeLaws.{size_range, mod_size}

-- ---- tiles that exist

pub record Exists (x : Tile) : Type 0 where
  pub size : is_size x.bytes ≡ true
  pub below : x.number < x.bytes

pub tile_exists : (x : Tile) → is_tile x ≡ true → Exists x
tile_exists x e = let p = and_parts (is_size x.bytes) (ltb x.number x.bytes) e in record { size = p.0; below = ltb-true _ _ p.1 }

pub exists_tile : (x : Tile) → Exists x → is_tile x ≡ true
exists_tile x p = and_both _ _ p.size (lt-ltb _ _ p.below)

pub tile_some : (x : Tile) → Exists x → 0 < x.bytes
tile_some x p = (size_range x.bytes p.size).0

-- ---- tiles that share a vector

-- vector v of ZA is a tile's
abbrev pub Covers : Tile → ℕ → Type 0
Covers x v = v % x.bytes ≡ x.number

abbrev pub Disjoint : Tile → Tile → Type 0
Disjoint x y = (v : ℕ) → Covers x v → Covers y v → ⊥

pub disjoint_sym : (x y : Tile) → Disjoint x y → Disjoint y x
disjoint_sym x y d v p q = d v q p

-- a tile has the vector of its own number
pub covers_own : (x : Tile) → Exists x → Covers x x.number
covers_own x p = mod-eq_of_lt p.below

-- the part of a vector of a tile is the tile's
pub covers_part : (x : Tile) → Exists x → (v : ℕ) → Covers x v → covers x (v % 16) ≡ true
unfolding is_size
covers_part x p v c = eq-eqb _ _ (mod_size x.bytes 16 p.size refl (size_range x.bytes p.size).1 v ∙ c)

-- a part of both
pub record Common (x y : Tile) : Type 0 where
  pub part : ℕ
  pub below : part < 16
  pub first : Covers x part
  pub second : Covers y part

pub shares_common : (x y : Tile) → shares x y ≡ true → Common x y
unfolding shares
shares_common x y e = go (least (λ r. covers x r && covers y r) 16) refl e
  where
    go : (o : Option ℕ) → least (λ r. covers x r && covers y r) 16 ≡ o → is_some o ≡ true → Common x y
    go (some r) q e =
        let p = least_some (λ r. covers x r && covers y r) 16 r q in
        let c = and_parts (covers x r) (covers y r) p.1 in
        record { part = r; below = p.0; first = eqb-true _ _ c.0; second = eqb-true _ _ c.1 }
    go none q e = absurd (clash false e refl)

pub common_shares : (x y : Tile) → Exists x → Exists y → (v : ℕ) → Covers x v → Covers y v → shares x y ≡ true
unfolding shares
common_shares x y px py v cx cy = go (least (λ r. covers x r && covers y r) 16) refl
  where
    go : (o : Option ℕ) → least (λ r. covers x r && covers y r) 16 ≡ o → is_some o ≡ true
    go (some r) q = refl
    go none q =
        absurd (clash (covers x (v % 16) && covers y (v % 16)) (and_both (covers x (v % 16)) (covers y (v % 16)) (covers_part x px v cx) (covers_part y py v cy))
        (least_none (λ r. covers x r && covers y r) 16 q (v % 16) (mod-lt v {m = 16} (omega arith))))

pub disjoint_shares : (x y : Tile) → Disjoint x y → shares x y ≡ false
disjoint_shares x y d = refute (shares x y) (λ e. let c = shares_common x y e in d c.part c.first c.second)

pub shares_disjoint : (x y : Tile) → Exists x → Exists y → shares x y ≡ false → Disjoint x y
shares_disjoint x y px py e v cx cy = clash (shares x y) (common_shares x y px py v cx cy) e

-- sharing goes both ways
pub shares_sym : (x y : Tile) → Exists x → Exists y → shares x y ≡ shares y x
shares_sym x y px py =
    ⊎_elim
    (λ p. let c = shares_common x y p in p ∙ sym (common_shares y x py px c.part c.second c.first))
    (λ p. p ∙ sym (disjoint_shares y x (disjoint_sym x y (shares_disjoint x y px py p))))
    (by_test (shares x y))

-- a tile of more bytes shares a byte with one of fewer exactly if it lies inside
pub shares_inside : (x y : Tile) → Exists x → Exists y → x.bytes ≤ y.bytes → shares x y ≡ eqb (y.number % x.bytes) x.number
shares_inside x y px py h = go (ℕ_discrete (y.number % x.bytes) x.number)
  where
    go : Dec (y.number % x.bytes ≡ x.number) → shares x y ≡ eqb (y.number % x.bytes) x.number
    go (yes p) = common_shares x y px py y.number p (covers_own y py) ∙ sym (eq-eqb _ _ p)
    go (no p) =
        disjoint_shares x y (λ v cx cy. p (ap (λ (k : ℕ). k % x.bytes) (sym cy) ∙ mod_size x.bytes y.bytes px.size py.size h v ∙ cx))
        ∙ sym (ne_eqb _ _ p)

-- ---- the same tile

-- a tile shares a byte with itself
pub shares_own : (x : Tile) → Exists x → shares x x ≡ true
shares_own x p = common_shares x x p p x.number (covers_own x p) (covers_own x p)

pub same_is : (x y : Tile) → is_same x y ≡ true → x ≡ y
same_is x y e =
    let p = and_parts (eqb x.bytes y.bytes) (eqb x.number y.number) e in
    λ i. record { bytes = eqb-true x.bytes y.bytes p.0 i; number = eqb-true x.number y.number p.1 i }

pub same_own : (x : Tile) → is_same x x ≡ true
same_own x = and_both _ _ (eq-eqb x.bytes x.bytes refl) (eq-eqb x.number x.number refl)
