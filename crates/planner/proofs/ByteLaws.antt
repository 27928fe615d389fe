-- Laws of the bytes of a tile (specs/Bytes.antt): a byte of ZA is a tile's exactly if its vector and its column are within B and the
-- vector is one of the tile's.
-- Assumes nothing.
use Prim.Native.Nat.{ℕ, ◌+◌, ◌*◌, ◌/◌, ◌%◌, ◌<◌}
use mathlib.Core.Path.{◌≡◌, sym, ap, ◌∙◌}
use mathlib.Core.Bool.{true}
use mathlib.Core.Logic.{inl, inr, ⊎_elim}
use native.Mathlib.Nat.{mod-lt, div-add-mod', div-lt_iff_lt-mul, mul-div_cancel, mul-mod_left}
use native.Mathlib.Omega.{arith}
use lib.Arith.{digits_lt, digits_div, digits_mod}
use borrow.Author.Tests.{eqb-true}
use Rattle.settings.proofs.SettingsLaws.{vector_length_long}
use Rattle.tiles.specs.Element.{size_of}
use Rattle.tiles.proofs.LengthLaws.{whole_elements}
use Rattle.planner.specs.Tile.{tile_of, is_size, shares}
use Rattle.planner.specs.Bytes.{Vectors, ByteIn, ByteShared, TilesHalve, SharesBytes}
use Rattle.planner.specs.declared.tile.Tile.{Tile}
use Rattle.planner.proofs.SizeLaws.{size_range, halves, halves_lower, halves_upper}
use Rattle.planner.proofs.TileLaws.{Exists, tile_exists, tile_some, Covers, shares_common, common_shares}
use Rattle.general.proofs.BoolLaws.{clash}

-- by vector q / S and column q % S
record At (S B : ℕ) (x : Tile) (q : ℕ) : Type 0 where
  vector : q / S < B
  column : q % S < B
  tile : Covers x (q / S)

module _ (S B : ℕ) (v : Vectors S B) (x : Tile) (p : Exists x) where
  -- whole elements fill a vector
  fills : B / x.bytes * x.bytes ≡ B
  unfolding is_size
  fills = ap (λ (k : ℕ). B / k * k) (sym (eqb-true _ _ p.size)) ∙ (whole_elements (size_of x.bytes) B v.valid).elements

  byte_at : (q : ℕ) → ByteIn S B x q → At S B x q
  byte_at q b =
      let c : b.column * x.bytes + b.byte < B = rw (← fills) (digits_lt b.column_below b.byte_below) in
      let r : b.row * x.bytes + x.number < B = rw (← fills) (digits_lt b.row_below p.below) in
      let inside : b.column * x.bytes + b.byte < S = omega (arith, c, v.fit) in
      let d : q / S ≡ b.row * x.bytes + x.number = ap (λ (k : ℕ). k / S) b.place ∙ digits_div (b.row * x.bytes + x.number) inside in
      let e : q % S ≡ b.column * x.bytes + b.byte = ap (λ (k : ℕ). k % S) b.place ∙ digits_mod (b.row * x.bytes + x.number) inside in
      record { vector = rw d r; column = rw e c; tile = ap (λ (k : ℕ). k % x.bytes) d ∙ digits_mod b.row p.below }

  at_byte : (q : ℕ) → At S B x q → ByteIn S B x q
  at_byte q a =
      let below : (k : ℕ) → k < B → k / x.bytes < B / x.bytes = λ k w. (div-lt_iff_lt-mul {k = x.bytes} {x = k} {y = B / x.bytes} (tile_some x p)).1 (rw fills w) in
      record {
        row = q / S / x.bytes;
        column = q % S / x.bytes;
        byte = q % S % x.bytes;
        row_below = below (q / S) a.vector;
        column_below = below (q % S) a.column;
        byte_below = mod-lt (q % S) (tile_some x p);
        place =
            sym (div-add-mod' q S)
            ∙ ap (λ (k : ℕ). k * S + q % S) (sym (div-add-mod' (q / S) x.bytes) ∙ ap (λ (k : ℕ). q / S / x.bytes * x.bytes + k) a.tile)
            ∙ ap (λ (k : ℕ). (q / S / x.bytes * x.bytes + x.number) * S + k) (sym (div-add-mod' (q % S) x.bytes));
      }

-- ---- halves

pub tiles_halve : TilesHalve
tiles_halve S B m t q v e e2 w =
    let px : Exists (tile_of m t) = record { size = e; below = w } in
    let pl : Exists (tile_of (2 * m) t) = record { size = e2; below = omega arith } in
    let pu : Exists (tile_of (2 * m) (t + m)) = record { size = e2; below = omega arith } in
    record {
      parted = λ b.
          let a = byte_at S B v (tile_of m t) px q b in
          ⊎_elim
          (λ c. inl (at_byte S B v (tile_of (2 * m) t) pl q (record { vector = a.vector; column = a.column; tile = c })))
          (λ c. inr (at_byte S B v (tile_of (2 * m) (t + m)) pu q (record { vector = a.vector; column = a.column; tile = c })))
          (halves m (q / S) t (size_range m e).0 a.tile);
      lower = λ b.
          let a = byte_at S B v (tile_of (2 * m) t) pl q b in
          at_byte S B v (tile_of m t) px q (record { vector = a.vector; column = a.column; tile = halves_lower m (q / S) t w a.tile });
      upper = λ b.
          let a = byte_at S B v (tile_of (2 * m) (t + m)) pu q b in
          at_byte S B v (tile_of m t) px q (record { vector = a.vector; column = a.column; tile = halves_upper m (q / S) t w a.tile });
      apart = λ b c.
          let a = byte_at S B v (tile_of (2 * m) t) pl q b in
          let d = byte_at S B v (tile_of (2 * m) (t + m)) pu q c in
          absurd (omega (arith, sym a.tile ∙ d.tile, (size_range m e).0));
    }

-- ---- sharing

-- the first byte of a vector of a tile
first_byte : (S B : ℕ) → Vectors S B → (x : Tile) → Exists x → (r : ℕ) → r < B → Covers x r → ByteIn S B x (r * S)
first_byte S B v x p r w c =
    let pos : 0 < S = omega (arith, v.fit) in
    let d : r * S / S ≡ r = mul-div_cancel r pos in
    let e : r * S % S ≡ 0 = mul-mod_left r S in
    at_byte S B v x p (r * S) (record { vector = rw d w; column = rw e (omega arith); tile = ap (λ (k : ℕ). k % x.bytes) d ∙ c })

module _ (S B : ℕ) (x y : Tile) (v : Vectors S B) (px : Exists x) (py : Exists y) where
  pub shared_byte : shares x y ≡ true → ByteShared S B x y
  shared_byte e =
      let c = shares_common x y e in
      let w : c.part < B = omega (arith, c.below, vector_length_long B v.valid) in
      record { at = c.part * S; first = first_byte S B v x px c.part w c.first; second = first_byte S B v y py c.part w c.second }

  pub byte_shared : ByteShared S B x y → shares x y ≡ true
  byte_shared b = common_shares x y px py (b.at / S) (byte_at S B v x px b.at b.first).tile (byte_at S B v y py b.at b.second).tile

pub shares_bytes : SharesBytes
shares_bytes S B x y v tx ty =
    let px = tile_exists x tx in
    let py = tile_exists y ty in
    (shared_byte S B x y v px py, λ e b. clash (shares x y) (byte_shared S B x y v px py b) e)
