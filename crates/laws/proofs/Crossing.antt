-- The crossing law: rows in, columns out. Both halves of the list are phases; a byte of the tile is written by its row's call,
-- kept until its column's call, read and zeroed there.
-- Assumes nothing.
use Prim.Native.Nat.{ℕ, zero, suc, ◌+◌, ◌*◌, ◌/◌, ◌<◌, ◌≤◌}
use mathlib.Core.Path.{◌≡◌, refl, sym, ap, ◌∙◌, subst}
use mathlib.Core.Bool.{Bool, true, cond}
use mathlib.Core.List.{List, [], ◌∷◌, ◌++◌, map, append_assoc}
use mathlib.Core.Option.{some}
use mathlib.Core.Logic.{◌⊎◌, inl, inr}
use native.Mathlib.Omega.{arith}
use lib.ListN.{length, get_or}
use Rattle.settings.specs.Settings.{is_vector_length}
use Rattle.tiles.specs.Element.{bytes_of}
use Rattle.tiles.specs.declared.element.ElementSize.{ElementSize}
use Rattle.tiles.specs.declared.direction.Direction.{Direction}
use Rattle.tiles.specs.declared.direction.Direction.TheVariants.{Horizontal, Vertical}
use Rattle.general.specs.Scatter.{all, zeros}
use Rattle.tiles.specs.Predicate.{bit}
use Rattle.tiles.specs.Direction.{flip}
use Rattle.tiles.specs.Tile.{byte_at, byte_of, Outside}
use Rattle.tiles.proofs.TileLaws.{byte_at_within, slices_cross}
use Rattle.tiles.proofs.SliceLaws.{active_element, written_at, taken_at}
use Rattle.tiles.proofs.LengthLaws.{whole_elements}
use Rattle.laws.specs.Calls.{Call, outcome, run, Move, into, out, moved, register_of, predicate_of}
use Rattle.laws.specs.Crossing.{EachOnce, slices_of, Once, Crossed, CrossingLaw}
use Rattle.laws.proofs.CallLaws.{run_append, run_long, quiet, Parts, parts, cons_same}
use Rattle.laws.proofs.MoveFacts.{into_call, out_call_lem}
use Rattle.laws.proofs.PhaseLaws.{Trace, ended, rested, went, trace, Writes, outside_stays, listed, Single, single}

-- ---- lists

-- a call of two lists in a row is in the first or in the second
data Found (xs ys b : List Call) (c : Call) (a : List Call) : Type 0 where
  in_first : (a' : List Call) → xs ≡ b ++ c ∷ a' → Found xs ys b c a
  in_second : (b' : List Call) → b ≡ xs ++ b' → ys ≡ b' ++ c ∷ a → Found xs ys b c a

found : (xs ys b : List Call) (c : Call) (a : List Call) → xs ++ ys ≡ b ++ c ∷ a → Found xs ys b c a
found [] ys b c a e = in_second b refl e
found (x ∷ xs) ys [] c a e = in_first xs (ap (λ (y : Call). y ∷ xs) (cons_same e).0)
found (x ∷ xs) ys (y ∷ b) c a e = go (found xs ys b c a (cons_same e).1)
  where
    same : x ≡ y
    same = (cons_same e).0

    go : Found xs ys b c a → Found (x ∷ xs) ys (y ∷ b) c a
    go (in_first a' q) = in_first a' (ap (λ (z : Call). z ∷ xs) same ∙ ap (λ (l : List Call). y ∷ l) q)
    go (in_second b' q r) = in_second b' (ap (λ (z : Call). z ∷ b) (sym same) ∙ ap (λ (l : List Call). x ∷ l) q) r

empty : (l : List ℕ) → length l ≡ 0 → l ≡ []
empty [] e = refl
empty (x ∷ l) e = absurd (omega arith)

-- where slices are named some call is done
record Named (f : ℕ → Move) : Type 0 where
  call : Call
  za : List ℕ
  slice : ℕ
  move : moved call za ≡ some (f slice)

named : {f : ℕ → Move} {cs : List Call} {za l : List ℕ} → Trace f cs za l → 0 < length l → Named f
named ended h = absurd (omega arith)
named (rested q r u) h = named u h
named (went {c = c} {za = za} {x = x} q u) h = record { call = c; za = za; slice = x; move = q }

-- ---- moves

into_same : (S B : ℕ) (size : ElementSize) (d : Direction) (t x y : ℕ) → into S B size d t x ≡ into S B size d t y → x ≡ y
into_same S B size d t x y e = cc

out_same : (S B : ℕ) (size : ElementSize) (d : Direction) (t x y : ℕ) → out S B size d t x ≡ out S B size d t y → x ≡ y
out_same S B size d t x y e = cc

in_not_out : {S S' B B' : ℕ} {size size' : ElementSize} {d d' : Direction} {t t' k k' : ℕ} → into S B size d t k ≡ out S' B' size' d' t' k' → ⊥
in_not_out e = let z : ◌≡◌ {A = ℕ} 0 1 = cc in omega arith

-- the tile's bytes, by the slices of either direction
by_slices : (S m n t : ℕ) (d : Direction) (P : ℕ → Type 0) → ((k e i : ℕ) → k < n → e < n → i < m → P (byte_of S m t d k e i)) → (r k i : ℕ) → r < n → k < n → i < m → P (byte_at S m t r k i)
unfolding byte_of
by_slices S m n t Horizontal P h r k i hr hk hi = h r k i hr hk hi
by_slices S m n t Vertical P h r k i hr hk hi = h k r i hk hr hi

-- ---- a tile with slices

module _ (S B : ℕ) (size : ElementSize) (d : Direction) (t : ℕ) (valid : is_vector_length B ≡ true) (fits : B ≤ S) (tile : t < bytes_of size) where
  abbrev m : ℕ
  m = bytes_of size

  abbrev n : ℕ
  n = slices_of B size

  divides : n * m ≡ B
  divides = (whole_elements size B valid).elements

  -- both kinds of move write within a slice
  into_writes : (c : Call) (za : List ℕ) (k : ℕ) → moved c za ≡ some (into S B size d t k) → Writes S B m n divides fits t tile d c za k
  into_writes c za k e = let h = into_call c za S B size d t k e in record { within = h.within; on = _; val = _; is = h.is }

  out_writes : (c : Call) (za : List ℕ) (k : ℕ) → moved c za ≡ some (out S B size (flip d) t k) → Writes S B m n divides fits t tile (flip d) c za k
  out_writes c za k e = let h = out_call_lem c za S B size (flip d) t k e in record { within = h.within; on = _; val = _; is = h.is }

  module _ (za : List ℕ) (first second : List Call) (rows columns : List ℕ) (u : Trace (into S B size d t) first za rows) (v : Trace (out S B size (flip d) t) second (run first za) columns) (each_row : EachOnce n rows) (each_column : EachOnce n columns) where
    abbrev za₁ : List ℕ
    za₁ = run first za

    abbrev cs : List Call
    cs = first ++ second

    -- the call of row j, in the first half
    row_call : (j : ℕ) → j < n → Single S B m n divides fits t tile d (into S B size d t) (into_same S B size d t) into_writes first za j
    row_call j h = single S B m n divides fits t tile d (into S B size d t) (into_same S B size d t) into_writes j h u (each_row.once j h)

    -- the call of column k, in the second
    column_call : (k : ℕ) → k < n → Single S B m n divides fits t tile (flip d) (out S B size (flip d) t) (out_same S B size (flip d) t) out_writes second za₁ k
    column_call k h = single S B m n divides fits t tile (flip d) (out S B size (flip d) t) (out_same S B size (flip d) t) out_writes k h v (each_column.once k h)

    -- no call of the second half moves in, none of the first out
    not_in_second : (b a : List Call) (c : Call) (j : ℕ) → second ≡ b ++ c ∷ a → moved c (run b za₁) ≡ some (into S B size d t j) → ⊥
    not_in_second b a c j e q =
        in_not_out (listed S B m n divides fits t tile (flip d) (out S B size (flip d) t) (out_same S B size (flip d) t) out_writes v b a c (into S B size d t j) e q).same

    not_in_first : (b a : List Call) (c : Call) (k : ℕ) → first ≡ b ++ c ∷ a → moved c (run b za) ≡ some (out S B size (flip d) t k) → ⊥
    not_in_first b a c k e q =
        in_not_out (sym (listed S B m n divides fits t tile d (into S B size d t) (into_same S B size d t) into_writes u b a c (out S B size (flip d) t k) e q).same)

    row : (j : ℕ) → j < n → Once cs za (into S B size d t j)
    row j h =
        let r = row_call j h in
        record {
          before = r.before;
          call = r.call;
          after = r.after ++ second;
          place = ap (λ (l : List Call). l ++ second) r.place ∙ append_assoc r.before (r.call ∷ r.after) second;
          move = r.move;
          only = λ b a c e q. go r.only b a c q (found first second b c a e);
        }
      where
        go : {before : List Call} → ((b a : List Call) (c : Call) → first ≡ b ++ c ∷ a → moved c (run b za) ≡ some (into S B size d t j) → b ≡ before) → (b a : List Call) (c : Call) → moved c (run b za) ≡ some (into S B size d t j) → Found first second b c a → b ≡ before
        go only b a c q (in_first a' e) = only b a' c e q
        go only b a c q (in_second b' e f) =
            absurd (not_in_second b' a c j f (ap (moved c) (sym (run_append first b' za)) ∙ ap (λ (l : List Call). moved c (run l za)) (sym e) ∙ q))

    column : (k : ℕ) → k < n → Once cs za (out S B size (flip d) t k)
    column k h =
        let r = column_call k h in
        record {
          before = first ++ r.before;
          call = r.call;
          after = r.after;
          place = ap (λ (l : List Call). first ++ l) r.place ∙ sym (append_assoc first r.before (r.call ∷ r.after));
          move = ap (moved r.call) (run_append first r.before za) ∙ r.move;
          only = λ b a c e q. go r.only b a c q (found first second b c a e);
        }
      where
        go : {before : List Call} → ((b a : List Call) (c : Call) → second ≡ b ++ c ∷ a → moved c (run b za₁) ≡ some (out S B size (flip d) t k) → b ≡ before) → (b a : List Call) (c : Call) → moved c (run b za) ≡ some (out S B size (flip d) t k) → Found first second b c a → b ≡ first ++ before
        go only b a c q (in_first a' e) = absurd (not_in_first b a' c k e q)
        go only b a c q (in_second b' e f) =
            e ∙ ap (λ (l : List Call). first ++ l) (only b' a c f (ap (moved c) (sym (run_append first b' za)) ∙ ap (λ (l : List Call). moved c (run l za)) (sym e) ∙ q))

    back : (k j i : ℕ) (hk : k < n) (hj : j < n) → i < m →
        get_or (outcome (column k hk).call (run (column k hk).before za)).state.z (register_of (column k hk).call * S + (j * m + i)) 0 ≡
        cond (bit (row j hj).call.p (predicate_of (row j hj).call * (S / 8)) (k * m))
        (get_or (row j hj).call.z (register_of (row j hj).call * S + (k * m + i)) 0)
        (get_or za (byte_of S m t d j k i) 0)
    unfolding row column
    back k j i hk hj hi =
        let r = row_call j hj in
        let c = column_call k hk in
        let at = run r.before za in
        let p = into_call r.call at S B size d t j r.move in
        let o = out_call_lem c.call (run c.before za₁) S B size (flip d) t k c.move in
        ap (λ (a : List ℕ). get_or (outcome c.call a).state.z (register_of c.call * S + (j * m + i)) 0) (run_append first c.before za) ∙
        ap (λ (l : List ℕ). get_or l (register_of c.call * S + (j * m + i)) 0) o.takes ∙
        taken_at S B m n divides fits t tile (flip d) (run c.before za₁) (register_of c.call * S) c.call.z k j i o.room hj hi ∙
        c.until j i hj hi ∙
        ap (λ (x : ℕ). get_or za₁ x 0) (sym (slices_cross S m t d j k i)) ∙
        r.since k i hk hi ∙
        ap (λ (l : List ℕ). get_or l (byte_of S m t d j k i) 0) p.is ∙
        written_at S B m n divides fits t tile d _ _ at j k i (omega (arith, p.long)) hj hk hi ∙
        ap (λ (b : Bool). cond b (get_or r.call.z (register_of r.call * S + (k * m + i)) 0) (get_or at (byte_of S m t d j k i) 0)) (active_element r.call.p (predicate_of r.call * (S / 8)) m k i hi) ∙
        ap (cond (bit r.call.p (predicate_of r.call * (S / 8)) (k * m)) (get_or r.call.z (register_of r.call * S + (k * m + i)) 0)) (r.until k i hk hi)

    -- a column's call found ZA long enough
    long_enough : (k : ℕ) → k < n → B * S ≤ length za
    long_enough k h =
        let c = column_call k h in
        omega (arith, run_long first za, run_long c.before za₁, (out_call_lem c.call (run c.before za₁) S B size (flip d) t k c.move).long)

    inside : (r k i : ℕ) → r < n → k < n → i < m → byte_at S m t r k i < length (run cs za)
    inside r k i hr hk hi = omega (arith, run_long cs za, long_enough k hk, byte_at_within S B m n divides fits t r k i tile hr hk hi)

    zeroed_slice : (k e i : ℕ) → k < n → e < n → i < m → get_or (run cs za) (byte_of S m t (flip d) k e i) 0 ≡ 0
    zeroed_slice k e i hk he hi =
        let c = column_call k hk in
        let at = run c.before za₁ in
        let o = out_call_lem c.call at S B size (flip d) t k c.move in
        ap (λ (l : List ℕ). get_or l (byte_of S m t (flip d) k e i) 0) (run_append first second za) ∙
        c.since e i he hi ∙
        ap (λ (l : List ℕ). get_or l (byte_of S m t (flip d) k e i) 0) o.is ∙
        written_at S B m n divides fits t tile (flip d) all zeros at k e i (omega (arith, o.long)) hk he hi

    kept : (p : ℕ) → Outside S m n t p → get_or (run cs za) p 0 ≡ get_or za p 0
    kept p o =
        ap (λ (l : List ℕ). get_or l p 0) (run_append first second za) ∙
        outside_stays S B m n divides fits t tile (flip d) (out S B size (flip d) t) (out_same S B size (flip d) t) out_writes p o v ∙
        outside_stays S B m n divides fits t tile d (into S B size d t) (into_same S B size d t) into_writes p o u

    pub crossed : Crossed S B size d t cs za
    crossed =
        record {
          column = column;
          row = row;
          back = back;
          inside = inside;
          zeroed = by_slices S m n t (flip d) (λ p. get_or (run cs za) p 0 ≡ 0) zeroed_slice;
          kept = kept;
          long = run_long cs za;
        }

-- ---- the law

-- without slices there are no moves, and nothing happens
no_slices : (S B : ℕ) (size : ElementSize) (d : Direction) (t : ℕ) (cs : List Call) (za : List ℕ) → slices_of B size ≡ 0 → run cs za ≡ za → Crossed S B size d t cs za
no_slices S B size d t cs za none same =
    record {
      column = λ k h. absurd (omega arith);
      row = λ j h. absurd (omega arith);
      back = λ k j i hk hj hi. absurd (omega arith);
      inside = λ r k i hr hk hi. absurd (omega arith);
      zeroed = λ r k i hr hk hi. absurd (omega arith);
      kept = λ p o. ap (λ (l : List ℕ). get_or l p 0) same;
      long = run_long cs za;
    }

pub crossing : CrossingLaw
crossing S B size d t cs za h = go (zero_or_more (slices_of B size))
  where
    zero_or_more : (n : ℕ) → (n ≡ 0) ⊎ (0 < n)
    zero_or_more zero = inl refl
    zero_or_more (suc n) = inr (omega arith)

    p : Parts cs za (map (into S B size d t) h.rows) (map (out S B size (flip d) t) h.columns)
    p = parts cs za (map (into S B size d t) h.rows) (map (out S B size (flip d) t) h.columns) h.order

    u : Trace (into S B size d t) p.first za h.rows
    u = trace (into S B size d t) p.first za h.rows p.firsts

    v : Trace (out S B size (flip d) t) p.second (run p.first za) h.columns
    v = trace (out S B size (flip d) t) p.second (run p.first za) h.columns p.seconds

    go : (slices_of B size ≡ 0) ⊎ (0 < slices_of B size) → Crossed S B size d t cs za
    go (inl e) = no_slices S B size d t cs za e (quiet cs za (h.order ∙ rw (empty h.rows (h.each_row.many ∙ e), empty h.columns (h.each_column.many ∙ e))))
    go (inr e) =
        let w = named u (rw h.each_row.many e) in
        let i = into_call w.call w.za S B size d t w.slice w.move in
        subst (λ (l : List Call). Crossed S B size d t l za) (sym p.whole)
        (crossed S B size d t i.vector i.fits i.tile za p.first p.second h.rows h.columns u v h.each_row h.each_column)
