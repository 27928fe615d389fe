-- What a done call that moves into a tile or out of it says: the lengths and ranges that execution checked, and what it wrote.
-- Assumes nothing.
use Prim.Native.Nat.{ℕ, suc, ◌+◌, ◌*◌, ◌/◌, ◌%◌, ◌<◌, ◌≤◌}
use mathlib.Core.Path.{◌≡◌, sym, ap, subst}
use mathlib.Core.List.{List}
use mathlib.Core.Bool.{true}
use mathlib.Core.Option.{some}
use native.Mathlib.Nat.{mod-lt, mul-le-mul_right, suc-mul}
use native.Mathlib.Omega.{arith}
use lib.ListN.{length, get_or}
use Rattle.settings.specs.Settings.{is_vector_length, stride_of}
use Rattle.settings.proofs.SettingsLaws.{vector_valid, stride_fits}
use Rattle.tiles.specs.Element.{bytes_of}
use Rattle.tiles.specs.declared.element.ElementSize.{ElementSize}
use Rattle.tiles.specs.declared.direction.Direction.{Direction}
use Rattle.encoding.specs.declared.operation.Operation.{Operation}
use Rattle.encoding.specs.declared.operation.Operation.TheVariants.{MovaToTile, MovazFromTile, MovaFromArray, MovazFromArray, St1, MovaFromTile, Ld1}
use Rattle.encoding.proofs.RangeLaws.{decoded_in_range}
use Rattle.general.specs.Scatter.{scatter, all, zeros, onwards}
use Rattle.tiles.specs.Predicate.{active}
use Rattle.tiles.specs.Tile.{slice_at}
use Rattle.semantics.specs.State.{State}
use Rattle.semantics.specs.Effect.{writes_of, values_of, effect_of}
use Rattle.tiles.proofs.LengthLaws.{whole_elements}
use Rattle.laws.specs.Calls.{Call, outcome, za_after, Move, into, out, other, move_of, moved, register_of, predicate_of}
use Rattle.laws.proofs.CallLaws.{DoesCall, has_move}

module _ (c : Call) (za : List ℕ) where
  -- a call that moves into slice k of a tile
  pub record Into (S B : ℕ) (size : ElementSize) (d : Direction) (t k : ℕ) : Type 0 where
    pub vector : is_vector_length B ≡ true
    pub fits : B ≤ S
    pub long : B * S ≤ length za
    pub tile : t < bytes_of size
    pub within : k < B / bytes_of size
    pub is : za_after c za ≡ scatter (slice_at S (bytes_of size) t d k) (active c.p (predicate_of c * (S / 8)) (bytes_of size)) (λ (j : ℕ). get_or c.z (register_of c * S + j) 0) B za

  -- a call that takes slice k of a tile
  pub record Out (S B : ℕ) (size : ElementSize) (d : Direction) (t k : ℕ) : Type 0 where
    pub vector : is_vector_length B ≡ true
    pub long : B * S ≤ length za
    pub tile : t < bytes_of size
    pub within : k < B / bytes_of size
    pub room : register_of c * S + B ≤ length c.z
    pub takes : (outcome c za).state.z ≡ scatter (onwards (register_of c * S)) all (λ (j : ℕ). get_or za (slice_at S (bytes_of size) t d k j) 0) B c.z
    pub is : za_after c za ≡ scatter (slice_at S (bytes_of size) t d k) all zeros B za

  abbrev Facts : Move → Type 0
  Facts (into S B size d t k) = Into S B size d t k
  Facts (out S B size d t k) = Out S B size d t k
  Facts other = Unit {0}

  slice_within : (B : ℕ) (size : ElementSize) (a : ℕ) → is_vector_length B ≡ true → a % (B / bytes_of size) < B / bytes_of size
  slice_within B size a h = mod-lt a (whole_elements size B h).slices

  register_room : (v B S : ℕ) (l : List ℕ) → v < 32 → B ≤ S → length l ≡ 32 * S → v * S + B ≤ length l
  register_room v B S l h f e =
      let w : suc v * S ≤ 32 * S = mul-le-mul_right S h in
      omega (arith, suc-mul v S)

  -- ZA has the vectors of the tile
  vectors_room : (B S n : ℕ) → B ≤ S → n ≡ S * S → B * S ≤ n
  vectors_room B S n f e = omega (arith, mul-le-mul_right S f)

  facts : (o : Operation) → DoesCall c za o → Facts (move_of c o)
  unfolding writes_of values_of effect_of
  facts (MovaToTile o) d =
      let r = decoded_in_range c.word c.settings.level (MovaToTile o) d.decoded in
      let v = vector_valid c.settings d.sized.vectors in
      let f = (stride_fits c.settings d.sized.vectors).fit in
      record {
        vector = v;
        fits = f;
        long = vectors_room _ _ _ f d.sized.za;
        tile = r.slice.tile;
        within = slice_within _ o.slice.size _ v;
        is = rw d.decoded (ap (λ (t : State). t.za) d.state);
      }
  facts (MovazFromTile o) d =
      let r = decoded_in_range c.word c.settings.level (MovazFromTile o) d.decoded in
      let v = vector_valid c.settings d.sized.vectors in
      let f = (stride_fits c.settings d.sized.vectors).fit in
      record {
        vector = v;
        long = vectors_room _ _ _ f d.sized.za;
        tile = r.slice.tile;
        within = slice_within _ o.slice.size _ v;
        room = rw d.decoded (register_room o.zd c.settings.vector_bytes (stride_of c.settings) c.z r.vector f d.sized.z);
        takes = rw d.decoded (ap (λ (t : State). t.z) d.state);
        is = ap (λ (t : State). t.za) d.state;
      }
  facts (MovaFromArray o) d = tt
  facts (MovazFromArray o) d = tt
  facts (St1 o) d = tt
  facts (MovaFromTile o) d = tt
  facts (Ld1 o) d = tt

  pub into_call : (S B : ℕ) (size : ElementSize) (d : Direction) (t k : ℕ) → moved c za ≡ some (into S B size d t k) → Into S B size d t k
  into_call S B size d t k e = let h = has_move c za (into S B size d t k) e in subst Facts (sym h.same) (facts h.operation h.does)

  pub out_call_lem : (S B : ℕ) (size : ElementSize) (d : Direction) (t k : ℕ) → moved c za ≡ some (out S B size d t k) → Out S B size d t k
  out_call_lem S B size d t k e = let h = has_move c za (out S B size d t k) e in subst Facts (sym h.same) (facts h.operation h.does)
