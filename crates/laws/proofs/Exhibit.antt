-- The theorems of specs/Exhibit.antt: each call of the list passes every check, and its own index register gives its slice.
-- Assumes nothing.
use Rattle.std.specs.Prelude.{Result, ⊤, Ok}
use Prim.Native.Nat.{ℕ, zero, suc, ◌+◌, ◌*◌, ◌-◌, ◌/◌, ◌%◌, ◌^◌, ◌<◌, ◌≤◌}
use mathlib.Core.Path.{◌≡◌, refl, sym, ap, ◌∙◌, subst}
use mathlib.Core.Bool.{true, false}
use mathlib.Core.List.{List, [], ◌∷◌, ◌++◌, map, append-nil}
use mathlib.Core.Option.{none, some}
use mathlib.Core.Logic.{◌⊎◌, inl, inr}
use native.Mathlib.Nat.{add-mul-mod_self_left, div-le_self, mod-eq_of_lt}
use native.Mathlib.Omega.{arith}
use lib.Dec.{eqb}
use lib.ListN.{length, get_or, set, replicate, length-set, length-replicate}
use lib.Seq.{get_or-set_same}
use borrow.Author.Tests.{eqb-true, eqb-false}
use Rattle.general.proofs.LeastLaws.{none_some}
use Rattle.settings.specs.Settings.{max_level, max_vector_bytes, stride_of}
use Rattle.settings.specs.Claims.{Fitting}
use Rattle.settings.proofs.Claims.{is_five_lengths, vectors_fit}
use Rattle.tiles.specs.Element.{bytes_of}
use Rattle.encoding.specs.Codec.{row_of_numbers, decode_of, encode_of}
use Rattle.encoding.specs.Answer.{encoded_answer}
use Rattle.encoding.specs.Flat.{flat_of}
use Rattle.encoding.specs.Table.{table}
use Rattle.tiles.specs.declared.element.ElementSize.{ElementSize}
use Rattle.tiles.specs.declared.element.ElementSize.TheVariants.{Bits8, Bits16, Bits32, Bits64, Bits128}
use Rattle.tiles.specs.declared.direction.Direction.{Direction}
use Rattle.encoding.specs.declared.operation.Operation.{Operation}
use Rattle.encoding.proofs.CodecLaws.{level_of, encoded_decodes}
use Rattle.encoder.specs.Steps.{offset_count}
use Rattle.encoder.proofs.EncoderLaws.{to_tile_encodes, from_tile_encodes}
use Rattle.tiles.specs.Direction.{flip}
use Rattle.tiles.specs.Slice.{selected}
use Rattle.semantics.specs.declared.answer.Refusal.{Refusal}
use Rattle.semantics.specs.Execute.{if_done, operation_answer}
use Rattle.tiles.proofs.LengthLaws.{whole_elements}
use Rattle.semantics.proofs.ExecuteLaws.{SizedAt, operation_answer_lem}
use Rattle.laws.specs.Calls.{Call, state_with, outcome, za_after, run, Move, into, out, decoded_of, move_of, decoded_move, moved, with_move, moves}
use Rattle.laws.specs.Crossing.{occurrences, slices_of}
use Rattle.laws.specs.Exhibit.{Choice, inward, outward, word_for, call_by, crossing_calls, Ready, Below, ListsExist, ChoicesExist, down_from, OrdersExist, RefusedMayStand}
use Rattle.laws.proofs.CallLaws.{CallEnds, moves_by, rests, call_ends, call_long, run_long}
use Rattle.laws.proofs.PhaseLaws.{occurrences_here, occurrences_past}
use Rattle.general.proofs.BoolLaws.{by_test}
use Rattle.encoding.specs.declared.operation.OutOfRange.{OutOfRange}

-- ---- words

-- the word of an operation that encodes decodes to it from the level of its row on
word_decodes : (o : Operation) (v level : ℕ) → Ok v ≡ encode_of o → level_of (row_of_numbers (flat_of o)) ≤ level → level ≤ max_level → decode_of (word_for o) level ≡ Ok o
word_decodes o v level e m l =
    subst (λ (w : ℕ). decode_of w level ≡ Ok o) (ap (λ (x : Result ℕ OutOfRange). get_or (encoded_answer x).values 0 0) e) (encoded_decodes o v level (sym e) m l).1

-- which is 1 into a tile, 3 out of it
inward_level : (size : ElementSize) (d : Direction) (t : ℕ) (h : Choice) → level_of (row_of_numbers (flat_of (inward size d t h))) ≡ 1
unfolding table row_of_numbers
inward_level Bits8 d t h = refl
inward_level Bits16 d t h = refl
inward_level Bits32 d t h = refl
inward_level Bits64 d t h = refl
inward_level Bits128 d t h = refl

outward_level : (size : ElementSize) (d : Direction) (t : ℕ) (h : Choice) → level_of (row_of_numbers (flat_of (outward size d t h))) ≡ 3
unfolding table row_of_numbers
outward_level Bits8 d t h = refl
outward_level Bits16 d t h = refl
outward_level Bits32 d t h = refl
outward_level Bits64 d t h = refl
outward_level Bits128 d t h = refl

-- how many offsets a word can name
offsets_counted : (size : ElementSize) → 16 / bytes_of size ≡ offset_count size
offsets_counted Bits8 = refl
offsets_counted Bits16 = refl
offsets_counted Bits32 = refl
offsets_counted Bits64 = refl
offsets_counted Bits128 = refl

-- the words of ready choices
module _ (S B : ℕ) (size : ElementSize) (d : Direction) (t : ℕ) (tile : t < bytes_of size) (k : ℕ) (h : Choice) where
  pub inward_decodes : Ready 1 S B size k h → decoded_of (call_by (inward size d t) h) ≡ Ok (inward size d t h)
  inward_decodes ready =
      word_decodes (inward size d t h) _ h.settings.level
      (to_tile_encodes d h.index h.predicate h.register t h.offset size _ (omega (arith, offsets_counted size)) refl).equal
      (omega (arith, inward_level size d t h, ready.level)) ready.level.1

  pub outward_decodes : Ready 3 S B size k h → decoded_of (call_by (outward size d t) h) ≡ Ok (outward size d t h)
  outward_decodes ready =
      word_decodes (outward size d t h) _ h.settings.level
      (from_tile_encodes d 0 h.index t h.offset h.register true size _ (omega (arith, offsets_counted size)) refl).equal
      (omega (arith, outward_level size d t h, ready.level)) ready.level.1

-- ---- orders

below_more : (n k : ℕ) (l : List ℕ) → n ≤ k → Below n l → Below k l
below_more n k [] h b = tt
below_more n k (x ∷ l) h b = (omega (arith, b.0), below_more n k l h b.1)

down_below : (n : ℕ) → Below n (down_from n)
down_below zero = tt
down_below (suc n) = (omega arith, below_more n (suc n) (down_from n) (omega arith) (down_below n))

down_length : (n : ℕ) → length (down_from n) ≡ n
down_length zero = refl
down_length (suc n) = ap suc (down_length n)

-- a number that is not below n does not stand in a list below n
below_none : (n k : ℕ) (l : List ℕ) → n ≤ k → Below n l → occurrences k l ≡ 0
unfolding occurrences
below_none n k [] h b = refl
below_none n k (x ∷ l) h b = occurrences_past k x l (λ e. omega (arith, b.0)) ∙ below_none n k l h b.1

down_once : (n k : ℕ) → k < n → occurrences k (down_from n) ≡ 1
down_once zero k h = absurd (omega arith)
down_once (suc n) k h = go (by_test (eqb n k)) (down_once n k)
  where
    go : (eqb n k ≡ true) ⊎ (eqb n k ≡ false) → (k < n → occurrences k (down_from n) ≡ 1) → occurrences k (n ∷ down_from n) ≡ 1
    go (inl y) v = let e = eqb-true n k y in occurrences_here k n (down_from n) e ∙ ap suc (below_none n k (down_from n) (omega arith) (down_below n))
    go (inr y) v = let ne = eqb-false n k y in occurrences_past k n (down_from n) ne ∙ v (omega arith)

pub orders_exist : OrdersExist
orders_exist n = (record { many = down_length n; once = down_once n }, down_below n)

-- ---- choices

-- k + n * 16 less an offset, in the index register, gives slice k of n with that offset
selects : (n k index offset : ℕ) → k < n → n ≤ max_vector_bytes → index ≤ 15 → offset < 16 → (get_or (set (replicate 32 0) index (k + n * 16 - offset)) index 0 % 2 ^ 32 + offset) % n ≡ k
selects n k index offset h few low small =
    rw (get_or-set_same (replicate 32 0) index (k + n * 16 - offset) 0 (omega arith))
    (ap (λ (w : ℕ). (w + offset) % n) (mod-eq_of_lt below) ∙ ap (λ (w : ℕ). w % n) again ∙ add-mul-mod_self_left k n 16 ∙ mod-eq_of_lt h)
  where
    below : k + n * 16 - offset < 2 ^ 32
    below = omega arith

    again : k + n * 16 - offset + offset ≡ k + n * 16
    again = omega arith

pub choices_exist : ChoicesExist
choices_exist least S B level size k index offset predicate register fits from up_to h low high o p r =
    record {
      vector = refl;
      largest = refl;
      level = (from, up_to);
      streaming = refl;
      za = refl;
      indices = (low, high);
      offsets = o;
      predicates = p;
      registers = r;
      slice = selects (slices_of B size) k index offset h (whole_elements size B ((is_five_lengths B).1 fits.vector)).few high (omega (arith, div-le_self 16 (bytes_of size)));
      xs = length-set (replicate 32 0) index _;
      zs = length-replicate (32 * S) 0;
      ps = length-replicate (16 * (S / 8)) 255;
      memory = omega arith;
    }

-- ---- one call

module _ (S B : ℕ) (size : ElementSize) (fits : Fitting B S) (k : ℕ) (h : Choice) (za : List ℕ) (long : length za ≡ S * S) where
  -- a call whose operation is never refused is done
  call_done : (least : ℕ) → Ready least S B size k h → (o : Choice → Operation) → decoded_of (call_by o h) ≡ Ok (o h) → operation_answer h.settings h.x h.p (length h.memory) (o h) ≡ Ok tt → moved (call_by o h) za ≡ some (move_of (call_by o h) (o h))
  unfolding moved
  call_done least ready o decodes ans =
      let c = call_by o h in
      let sized : SizedAt h.settings (state_with c za) =
      record {
        vectors = (vectors_fit h.settings).1 (rw (ready.vector, ready.largest) fits);
        level = ready.level.1;
        x = ready.xs;
        z = rw ready.largest ready.zs;
        p = rw ready.largest ready.ps;
        za = rw ready.largest long;
        memory = ready.memory;
      } in
      ap (λ (a : Result ⊤ Refusal). if_done a none (decoded_move c (decoded_of c))) (operation_answer_lem h.settings (word_for (o h)) (state_with c za) (o h) sized decodes ready.streaming ready.za ∙ ans) ∙
      ap (decoded_move c) decodes

  -- its move is on slice k, with vectors of B bytes that start S apart
  on_slice : (least : ℕ) → Ready least S B size k h → (move : ℕ → ℕ → ℕ → Move) → some (move (stride_of h.settings) h.settings.vector_bytes (selected h.x h.index h.offset (h.settings.vector_bytes / bytes_of size))) ≡ some (move S B k)
  on_slice least ready move =
      ap (λ (s : ℕ). some (move s h.settings.vector_bytes (selected h.x h.index h.offset (h.settings.vector_bytes / bytes_of size)))) ready.largest ∙
      ap (λ (b : ℕ). some (move S b (selected h.x h.index h.offset (b / bytes_of size)))) ready.vector ∙
      ap (λ (j : ℕ). some (move S B j)) ready.slice

  module _ (d : Direction) (t : ℕ) (tile : t < bytes_of size) where
    -- the call of a ready choice moves into its slice
    pub goes_in : Ready 1 S B size k h → moved (call_by (inward size d t) h) za ≡ some (into S B size d t k)
    goes_in ready = call_done 1 ready (inward size d t) (inward_decodes S B size d t tile k h ready) refl ∙ on_slice 1 ready (λ s b j. into s b size d t j)

    -- or out of it
    pub comes_out : Ready 3 S B size k h → moved (call_by (outward size d t) h) za ≡ some (out S B size d t k)
    comes_out ready = call_done 3 ready (outward size d t) (outward_decodes S B size d t tile k h ready) refl ∙ on_slice 3 ready (λ s b j. out s b size d t j)

-- the moves of calls on slices below n, each of which is done with its own move at any ZA of a length
list_moves : (n long : ℕ) (call : ℕ → Call) (f : ℕ → Move) → ((k : ℕ) (za : List ℕ) → k < n → length za ≡ long → moved (call k) za ≡ some (f k)) → (l : List ℕ) (rest : List Call) (za : List ℕ) → Below n l → length za ≡ long → moves (map call l ++ rest) za ≡ map f l ++ moves rest (run (map call l) za)
unfolding moves run
list_moves n long call f h [] rest za b e = refl
list_moves n long call f h (x ∷ l) rest za b e =
    rw (h x za b.0 e)
    (ap (λ (t : List Move). f x ∷ t) (list_moves n long call f h l rest (za_after (call x) za) b.1 (call_long (call x) za ∙ e)))

-- ---- the list

pub lists_exist : ListsExist
unfolding moves
lists_exist S B size d t ins outs rows columns za fits tile long-za ready_in ready_out each_row below_row each_column below_column =
    record { rows = rows; columns = columns; order = order; each_row = each_row; each_column = each_column }
  where
    n : ℕ
    n = slices_of B size

    in_call : ℕ → Call
    in_call k = call_by (inward size d t) (ins k)

    out_call : ℕ → Call
    out_call k = call_by (outward size (flip d) t) (outs k)

    za₁ : List ℕ
    za₁ = run (map in_call rows) za

    -- the second half, which nothing follows
    last : moves (map out_call columns) za₁ ≡ map (out S B size (flip d) t) columns
    last =
        ap (λ (l : List Call). moves l za₁) (sym (append-nil (map out_call columns))) ∙
        list_moves n (S * S) out_call (out S B size (flip d) t) (λ k a h e. comes_out S B size fits k (outs k) a e (flip d) t tile (ready_out k h)) columns [] za₁ below_column (run_long (map in_call rows) za ∙ long-za) ∙
        append-nil (map (out S B size (flip d) t) columns)

    order : moves (crossing_calls size d t ins outs rows columns) za ≡ map (into S B size d t) rows ++ map (out S B size (flip d) t) columns
    order =
        list_moves n (S * S) in_call (into S B size d t) (λ k a h e. goes_in S B size fits k (ins k) a e d t tile (ready_in k h)) rows (map out_call columns) za below_row long-za ∙
        ap (λ (l : List Move). map (into S B size d t) rows ++ l) last

-- ---- refused calls

-- a call with no move changes neither ZA nor the moves of the calls around it
insert_moves : (before after : List Call) (c : Call) (za : List ℕ) → moved c (run before za) ≡ none → moves (before ++ c ∷ after) za ≡ moves (before ++ after) za
unfolding moves run
insert_moves [] after c za e = rw e (go (call_ends c za))
  where
    go : CallEnds c za → moves after (za_after c za) ≡ moves after za
    go (moves_by o d q) = absurd (none_some (sym e ∙ q))
    go (rests q r) = ap (moves after) r
insert_moves (b ∷ before) after c za e = ap (with_move (moved b za)) (insert_moves before after c (za_after b za) e)

-- a refused call has no move
refused_none : (c : Call) (za : List ℕ) → ((outcome c za).answer ≡ Ok tt → ⊥) → moved c za ≡ none
refused_none c za n = go (call_ends c za)
  where
    go : CallEnds c za → moved c za ≡ none
    go (moves_by o d q) = absurd (n d.answer)
    go (rests q r) = q

pub refused_may_stand : RefusedMayStand
refused_may_stand S B size d t before after c za h n =
    record { rows = h.rows; columns = h.columns; order = insert_moves before after c za (refused_none c (run before za) n) ∙ h.order; each_row = h.each_row; each_column = h.each_column }
