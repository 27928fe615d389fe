-- The theorems of specs/Drawn.antt. The calls that the conclusion speaks of are found in the list by their moves, each of which is there once; the rest is
-- the conclusion itself, and numbers.
-- Assumes nothing.
use Rattle.std.specs.Prelude.{Result, Ok}
use Prim.Native.Nat.{ℕ, zero, suc, ◌+◌, ◌*◌, ◌-◌, ◌/◌, ◌%◌, ◌^◌, ◌<◌}
use mathlib.Core.Path.{◌≡◌, refl, sym, ap, ◌∙◌, subst}
use mathlib.Core.Bool.{Bool, true, false, cond, not, ◌&&◌}
use mathlib.Core.List.{List, [], ◌∷◌, ◌++◌, map, append_assoc}
use mathlib.Core.Option.{none, some}
use mathlib.Core.Logic.{◌⊎◌, inl, inr}
use native.Mathlib.Nat.{le_refl, mod-lt, div-add-mod'}
use native.Mathlib.Omega.{arith}
use lib.Arith.{digits_lt, digits_mod}
use lib.Dec.{eqb, ltb}
use lib.ListN.{length, get_or, replicate, get_or-replicate}
use borrow.Author.Tests.{eqb-true, eqb-false, eq-eqb, ltb-true, lt-ltb, not-true}
use Rattle.general.specs.Least.{least}
use Rattle.general.proofs.BoolLaws.{by_test, and_parts, and_both, clash, all_of}
use Rattle.tiles.specs.Element.{bytes_of}
use Rattle.tiles.specs.Predicate.{bit}
use Rattle.tiles.proofs.TileLaws.{digits_same, element_below}
use Rattle.tiles.proofs.LengthLaws.{WholeElements, whole_elements}
use Rattle.tiles.specs.Direction.{flip}
use Rattle.tiles.specs.Tile.{byte_at, byte_of, Outside}
use Rattle.tiles.specs.declared.element.ElementSize.TheVariants.{Bits32}
use Rattle.tiles.specs.declared.direction.Direction.{Direction}
use Rattle.tiles.specs.declared.direction.Direction.TheVariants.{Horizontal, Vertical}
use Rattle.settings.proofs.Claims.{is_five_lengths}
use Rattle.semantics.specs.ExampleBuffers.{bytes_from, za_at}
use Rattle.laws.specs.Calls.{Call, outcome, run, Move, moved, decoded_of, register_in, predicate_in, register_of, predicate_of}
use Rattle.laws.specs.Crossing.{occurrences, slices_of, Once, Crossed}
use Rattle.laws.specs.Exhibit.{inward, outward, call_by}
use Rattle.laws.specs.Shown.{shown_rows, shown_columns, shown_z, shown_row, shown_column, refused_calls, shown_calls}
use Rattle.laws.specs.Drawn.{VectorsAfter, calls_among, ColumnsByChoices, bytes_at, columns_shown, places_beside, z_after, za_last, ConclusionDrawn, ListCrossed}
use Rattle.laws.proofs.CallLaws.{cons_same, run_long}
use Rattle.laws.proofs.PhaseLaws.{occurrences_past}
use Rattle.laws.proofs.Exhibit.{inward_decodes, outward_decodes, goes_in, comes_out}
use Rattle.laws.proofs.Shown.{fitting_32, passes, row_ready, column_ready, rows_once, columns_once, list_shown}
use Rattle.laws.proofs.Crossing.{crossing}
use Rattle.encoding.specs.declared.operation.DecodeRefusal.{DecodeRefusal}
use Rattle.encoding.specs.declared.operation.Operation.{Operation}

-- ---- the call of a move

after_same : (l xs ys : List Call) {x y : Call} → l ++ x ∷ xs ≡ l ++ y ∷ ys → x ≡ y
after_same [] xs ys e = (cons_same e).0
after_same (z ∷ l) xs ys e = after_same l xs ys (cons_same e).1

-- where a move is there once, a call that has it is the call that has it
once_call : {cs : List Call} {za : List ℕ} {m : Move} (o : Once cs za m) (b a : List Call) (c : Call) → cs ≡ b ++ c ∷ a → moved c (run b za) ≡ some m → o.call ≡ c
once_call o b a c e q = after_same o.before o.after a (sym o.place ∙ e ∙ ap (λ (l : List Call). l ++ c ∷ a) (o.only b a c e q))

-- a call in a list
record Placed (cs : List Call) (c : Call) : Type 0 where
  before : List Call
  after : List Call
  place : cs ≡ before ++ c ∷ after

-- the call of a number that stands in a list, in the list of calls
placed : (call : ℕ → Call) (k : ℕ) (l : List ℕ) (rest : List Call) → 0 < occurrences k l → Placed (map call l ++ rest) (call k)
unfolding occurrences
placed call k [] rest h = absurd (omega arith)
placed call k (x ∷ l) rest h = go (by_test (eqb x k)) (placed call k l rest)
  where
    go : (eqb x k ≡ true) ⊎ (eqb x k ≡ false) → (0 < occurrences k l → Placed (map call l ++ rest) (call k)) → Placed (call x ∷ map call l ++ rest) (call k)
    go (inl y) v = record { before = []; after = map call l ++ rest; place = ap (λ (j : ℕ). call j ∷ map call l ++ rest) (eqb-true x k y) }
    go (inr y) v =
        let p = v (omega (arith, occurrences_past k x l (eqb-false x k y))) in
        record { before = call x ∷ p.before; after = p.after; place = ap (λ (cs : List Call). call x ∷ cs) p.place }

-- the same with calls before them
placed_later : (first : List Call) {cs : List Call} {c : Call} → Placed cs c → Placed (first ++ cs) c
placed_later first {cs} {c} p =
    record { before = first ++ p.before; after = p.after; place = ap (λ (l : List Call). first ++ l) p.place ∙ sym (append_assoc first p.before (c ∷ p.after)) }

-- ---- of any list

pub vectors_after : VectorsAfter
vectors_after S B size d t cs za fits tile c v q hq = (go (by_test (ltb v B && ltb q B && eqb (v % m) t)), inside)
  where
    m : ℕ
    m = bytes_of size

    w : WholeElements B (bytes_of size)
    w = whole_elements size B ((is_five_lengths B).1 fits.vector)

    -- the byte in a vector of the tile is one of the tile's
    place : v % m ≡ t → byte_at S m t (v / m) (q / m) (q % m) ≡ v * S + q
    place e =
        let row : v / m * m + t ≡ v = ap (λ (x : ℕ). v / m * m + x) (sym e) ∙ div-add-mod' v m in
        ap (λ (x : ℕ). x * S + (q / m * m + q % m)) row ∙ ap (λ (x : ℕ). v * S + x) (div-add-mod' q m)

    below : (x : ℕ) → x < B → x / m < slices_of B size
    below x h = element_below B B m (slices_of B size) w.elements (le_refl B) x w.some h

    inside : v < B → q < B → v % m ≡ t → v * S + q < length (run cs za)
    inside lv lq e = subst (λ (p : ℕ). p < length (run cs za)) (place e) (c.inside (v / m) (q / m) (q % m) (below v lv) (below q lq) (mod-lt q w.some))

    inner : v < B → q < B → v % m ≡ t → get_or (run cs za) (v * S + q) 0 ≡ 0
    inner lv lq e = ap (λ (p : ℕ). get_or (run cs za) p 0) (sym (place e)) ∙ c.zeroed (v / m) (q / m) (q % m) (below v lv) (below q lq) (mod-lt q w.some)

    -- a byte of the tile is in one of its vectors, below B in it
    outer : ltb v B && ltb q B && eqb (v % m) t ≡ false → Outside S m (slices_of B size) t (v * S + q)
    outer n r k i hr hk hi e =
        let low : k * m + i < B = rw (← w.elements) (digits_lt hk hi) in
        let row : r * m + t < B = rw (← w.elements) (digits_lt hr tile) in
        let same = digits_same S v q (r * m + t) (k * m + i) hq (omega (arith, fits.fit)) e in
        clash _
        (and_both _ _ (and_both _ _ (lt-ltb v B (omega (arith, same.0))) (lt-ltb q B (omega (arith, same.1)))) (eq-eqb _ _ (ap (λ (x : ℕ). x % m) same.0 ∙ digits_mod r tile)))
        n

    go : (ltb v B && ltb q B && eqb (v % m) t ≡ true) ⊎ (ltb v B && ltb q B && eqb (v % m) t ≡ false) → get_or (run cs za) (v * S + q) 0 ≡ cond (ltb v B && ltb q B && eqb (v % bytes_of size) t) 0 (get_or za (v * S + q) 0)
    go (inl y) =
        let h = and_parts (ltb v B && ltb q B) (eqb (v % m) t) y in
        let g = and_parts (ltb v B) (ltb q B) h.0 in
        inner (ltb-true _ _ g.0) (ltb-true _ _ g.1) (eqb-true _ _ h.1) ∙ sym (ap (λ (b : Bool). cond b 0 (get_or za (v * S + q) 0)) y)
    go (inr y) = c.kept (v * S + q) (outer y) ∙ sym (ap (λ (b : Bool). cond b 0 (get_or za (v * S + q) 0)) y)

-- ---- of lists by choices

pub columns_by_choices : ColumnsByChoices
columns_by_choices S B size d t ins outs rows columns za first between last fits tile long ready_in ready_out each_row each_column c k j i hk hj hi =
    ap (λ (r : ℕ). get_or (outcome (c.column k hk).call (run (c.column k hk).before za)).state.z (r * S + (j * m + i)) 0) (sym register) ∙
    c.back k j i hk hj hi ∙
    ap (λ (x : Call). cond (bit x.p (predicate_of x * (S / 8)) (k * m)) (get_or x.z (register_of x * S + (k * m + i)) 0) content) row_is ∙
    ap (λ (x : Result Operation DecodeRefusal). cond (bit (ins j).p (predicate_in x * (S / 8)) (k * m)) (get_or (ins j).z (register_in x * S + (k * m + i)) 0) content) row_decodes
  where
    m : ℕ
    m = bytes_of size

    content : ℕ
    content = get_or za (byte_of S (bytes_of size) t d j k i) 0

    in_call : ℕ → Call
    in_call k = call_by (inward size d t) (ins k)

    out_call : ℕ → Call
    out_call k = call_by (outward size (flip d) t) (outs k)

    -- the call of row j
    row_place : Placed (calls_among size d t ins outs rows columns first between last) (in_call j)
    row_place = placed_later first (placed in_call j rows (between ++ (map out_call columns ++ last)) (omega (arith, each_row.once j hj)))

    row_is : (c.row j hj).call ≡ in_call j
    row_is =
        once_call (c.row j hj) row_place.before row_place.after (in_call j) row_place.place
        (goes_in S B size fits j (ins j) (run row_place.before za) (run_long row_place.before za ∙ long) d t tile (ready_in j hj))

    row_decodes : decoded_of (in_call j) ≡ Ok (inward size d t (ins j))
    row_decodes = inward_decodes S B size d t tile j (ins j) (ready_in j hj)

    -- the call of column k
    column_place : Placed (calls_among size d t ins outs rows columns first between last) (out_call k)
    column_place = placed_later first (placed_later (map in_call rows) (placed_later between (placed out_call k columns last (omega (arith, each_column.once k hk)))))

    column_is : (c.column k hk).call ≡ out_call k
    column_is =
        once_call (c.column k hk) column_place.before column_place.after (out_call k) column_place.place
        (comes_out S B size fits k (outs k) (run column_place.before za) (run_long column_place.before za ∙ long) (flip d) t tile (ready_out k hk))

    register : register_of (c.column k hk).call ≡ (outs k).register
    register = ap register_of column_is ∙ ap register_in (outward_decodes S B size (flip d) t tile k (outs k) (ready_out k hk))

-- ---- bytes

-- bytes that are those of a list one by one are the list
bytes_are : (l v : List ℕ) (i : ℕ) → ((q : ℕ) → q < length v → get_or l (i + q) 0 ≡ get_or v q 0) → bytes_at l i (length v) ≡ v
bytes_are l [] i h = refl
bytes_are l (x ∷ v) i h =
    let first : get_or l i 0 ≡ x = ap (λ (p : ℕ). get_or l p 0) (let e : i ≡ i + 0 = omega arith in e) ∙ h 0 (omega arith) in
    let rest : bytes_at l (suc i) (length v) ≡ v =
    bytes_are l v (suc i) (λ q w. ap (λ (p : ℕ). get_or l p 0) (let e : suc i + q ≡ i + suc q = omega arith in e) ∙ h (suc q) (omega arith)) in
    ap (λ (y : ℕ). y ∷ bytes_at l (suc i) (length v)) first ∙ ap (λ (r : List ℕ). x ∷ r) rest

-- ---- the bytes of the columns, computed

-- byte q of those from i on
abbrev byte_from : ℕ → ℕ → ℕ
byte_from i q = (i + q) * 7 % 251 + 1

byte_from_lem : (i n q : ℕ) → q < n → get_or (bytes_from i n) q 0 ≡ byte_from i q
byte_from_lem i zero q h = absurd (omega arith)
byte_from_lem i (suc n) zero h = ap (λ (j : ℕ). j * 7 % 251 + 1) (omega arith)
byte_from_lem i (suc n) (suc q) h = byte_from_lem (suc i) n q (omega arith) ∙ ap (λ (j : ℕ). j * 7 % 251 + 1) (omega arith)

byte_of_below : (d : Direction) (j k i : ℕ) → j < 8 → k < 8 → i < 4 → byte_of 32 4 1 d j k i < 1024
unfolding byte_of
byte_of_below Horizontal j k i hj hk hi = omega arith
byte_of_below Vertical j k i hj hk hi = omega arith

-- byte q of column k, by what the rows' calls were handed
byte_back : Direction → ℕ → ℕ → ℕ
byte_back d k q =
    let j = q / 4 in
    cond (eqb (byte_from j ((7 - j) * 4 + k * 4 / 8) / 2 ^ (k * 4 % 8) % 2) 1) (byte_from j ((31 - 4 * j) * 32 + (k * 4 + q % 4))) (byte_from 97 (byte_of 32 4 1 d j k (q % 4)))

as_shown : Direction → ℕ → ℕ → Bool
as_shown d k q = eqb (byte_back d k q) (get_or (get_or (columns_shown d) k []) q 0)

-- all bytes of all columns, in a row
all_shown : (d : Direction) → least (λ x. not (as_shown d (x / 32) (x % 32))) 256 ≡ none
unfolding least byte_of byte_back as_shown
all_shown Horizontal = refl
all_shown Vertical = refl

byte_shown : (d : Direction) (k q : ℕ) → k < 8 → q < 32 → byte_back d k q ≡ get_or (get_or (columns_shown d) k []) q 0
unfolding as_shown
byte_shown d k q h w = eqb-true _ _ (sym (ap (λ (a : ℕ). as_shown d a (x % 32)) column ∙ ap (as_shown d k) byte) ∙ passes (λ x. as_shown d (x / 32) (x % 32)) 256 (all_shown d) x (omega arith))
  where
    x : ℕ
    x = k * 32 + q

    column : x / 32 ≡ k
    column = omega arith

    byte : x % 32 ≡ q
    byte = omega arith

column_long : (d : Direction) (k : ℕ) → k < 8 → length (get_or (columns_shown d) k []) ≡ 32
unfolding least
column_long Horizontal k h = eqb-true _ 32 (passes (λ k. eqb (length (get_or (columns_shown Horizontal) k [])) 32) 8 refl k h)
column_long Vertical k h = eqb-true _ 32 (passes (λ k. eqb (length (get_or (columns_shown Vertical) k [])) 32) 8 refl k h)

module _ (d : Direction) (c : Crossed 32 32 Bits32 d 1 (shown_calls d) (za_at 32)) where
  back_byte : (k q : ℕ) (h : k < 8) → q < 32 → get_or (z_after d c k h) ((7 + 3 * k) * 32 + q) 0 ≡ byte_back d k q
  unfolding byte_back
  back_byte k q h w =
      let j = q / 4 in
      let i = q % 4 in
      let hj : j < 8 = omega arith in
      let hi : i < 4 = omega arith in
      let active = eqb (byte_from j ((7 - j) * 4 + k * 4 / 8) / 2 ^ (k * 4 % 8) % 2) 1 in
      let first = get_or (za_at 32) (byte_of 32 4 1 d j k i) 0 in
      let at : (7 + 3 * k) * 32 + q ≡ (7 + 3 * k) * 32 + (j * 4 + i) = omega arith in
      ap (λ (p : ℕ). get_or (z_after d c k h) p 0) at ∙
      columns_by_choices 32 32 Bits32 d 1 shown_row shown_column shown_rows shown_columns (za_at 32) refused_calls refused_calls (refused_calls ++ []) fitting_32 (omega arith) refl row_ready column_ready rows_once columns_once c k j i h hj hi ∙
      ap (λ (b : ℕ). cond (eqb (b / 2 ^ (k * 4 % 8) % 2) 1) (get_or (shown_z j) ((31 - 4 * j) * 32 + (k * 4 + i)) 0) first) (byte_from_lem j 64 ((7 - j) * 4 + k * 4 / 8) (omega arith)) ∙
      ap (λ (b : ℕ). cond active b first) (byte_from_lem j 1024 ((31 - 4 * j) * 32 + (k * 4 + i)) (omega arith)) ∙
      ap (cond active (byte_from j ((31 - 4 * j) * 32 + (k * 4 + i)))) (byte_from_lem 97 1024 (byte_of 32 4 1 d j k i) (byte_of_below d j k i hj h hi))

  column_back : (k : ℕ) (h : k < 8) → bytes_at (z_after d c k h) ((7 + 3 * k) * 32) 32 ≡ get_or (columns_shown d) k []
  column_back k h =
      ap (bytes_at (z_after d c k h) ((7 + 3 * k) * 32)) (sym (column_long d k h)) ∙
      bytes_are (z_after d c k h) (get_or (columns_shown d) k []) ((7 + 3 * k) * 32) (λ q w. back_byte k q h (rw (column_long d k h) at w) ∙ byte_shown d k q h (rw (column_long d k h) at w))

  -- a vector of the tile
  vector_zeroed : (r : ℕ) → r < 8 → bytes_at (za_last d c) ((4 * r + 1) * 32) 32 ≡ replicate 32 0
  vector_zeroed r h = bytes_are (za_last d c) (replicate 32 0) ((4 * r + 1) * 32) (λ q w. ap (λ (p : ℕ). get_or (za_last d c) p 0) (at q) ∙ c.zeroed r (q / 4) (q % 4) h (omega arith) (omega arith) ∙ sym (get_or-replicate 32 q 0 0 w))
    where
      at : (q : ℕ) → (4 * r + 1) * 32 + q ≡ (r * 4 + 1) * 32 + (q / 4 * 4 + q % 4)
      at q = omega arith

  -- places in vectors of other tiles
  beside_outside : (p : ℕ) → (p / 32 % 4 ≡ 1 → ⊥) → Outside 32 4 8 1 p
  beside_outside p n r k i hr hk hi e = n (omega arith)

  places_kept : (l : List ℕ) → all_of (map (λ (p : ℕ). not (eqb (p / 32 % 4) 1)) l) ≡ true → map (λ (p : ℕ). get_or (za_last d c) p 0) l ≡ map (λ (p : ℕ). get_or (za_at 32) p 0) l
  unfolding all_of
  places_kept [] e = refl
  places_kept (p ∷ l) e =
      let h = and_parts (not (eqb (p / 32 % 4) 1)) (all_of (map (λ (p : ℕ). not (eqb (p / 32 % 4) 1)) l)) e in
      ap (λ (b : ℕ). b ∷ map (λ (p : ℕ). get_or (za_last d c) p 0) l) (c.kept p (beside_outside p (eqb-false _ 1 (not-true _ h.0)))) ∙
      ap (λ (r : List ℕ). get_or (za_at 32) p 0 ∷ r) (places_kept l h.1)

pub conclusion_drawn : ConclusionDrawn
unfolding all_of
conclusion_drawn d c = record { back = column_back d c; zeroed = vector_zeroed d c; kept = places_kept d c places_beside refl; long = c.long }

pub list_crossed : ListCrossed
list_crossed d = (crossing 32 32 Bits32 d 1 (shown_calls d) (za_at 32) (list_shown d), conclusion_drawn d _)
