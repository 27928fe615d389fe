-- The crossing law: what went into a tile as rows comes out as columns. Renders demand 3 as 01 §9 explains it.
-- To believe: `Crosses`, which lists are meant, and `Crossed`, what is claimed of them.
-- Assumes nothing.
use Rattle.std.specs.Prelude.{ℕ, suc, ◌+◌, ◌*◌, ◌/◌, ◌<◌, ◌≡◌, cond, List, [], ◌∷◌, ◌++◌, map, eqb, length, get_or}
use Rattle.std.proofs.Math.Option.{some}
use Rattle.tiles.specs.Element.{bytes_of}
use Rattle.tiles.specs.declared.element.ElementSize.{ElementSize}
use Rattle.tiles.specs.declared.direction.Direction.{Direction}
use Rattle.tiles.specs.Predicate.{bit}
use Rattle.tiles.specs.Direction.{flip}
use Rattle.tiles.specs.Tile.{byte_at, byte_of, Outside}
use Rattle.laws.specs.Calls.{Call, outcome, run, Move, into, out, moved, moves, register_of, predicate_of}

-- how often k stands in a list
unfoldable pub occurrences : ℕ → List ℕ → ℕ
occurrences k [] = 0
occurrences k (x ∷ l) = cond (eqb x k) (suc (occurrences k l)) (occurrences k l)

-- the numbers below n, each once and in any order
pub record EachOnce (n : ℕ) (l : List ℕ) : Type 0 where
  pub many : length l ≡ n
  pub once : (k : ℕ) → k < n → occurrences k l ≡ 1

-- the slices of a tile, and so the elements of a slice
abbrev pub slices_of : ℕ → ElementSize → ℕ
slices_of B size = B / bytes_of size

-- Which lists of calls are meant: with whatever refused calls between them, the done calls move first into the slices of one
-- tile in direction d, each once, and then out of its slices in the other direction, each once, all with vectors B bytes long
-- that start S bytes apart. That they share B is assumed here; ZA's length shows S alone (request 12). Nothing else is assumed: each
-- call has settings of its own, a done move shows that its level is from 1 to 3, a done move and zero that it is 3, and a done call
-- that its switches are on and its lengths and registers right.
pub record Crosses (S B : ℕ) (size : ElementSize) (d : Direction) (t : ℕ) (cs : List Call) (za : List ℕ) : Type 0 where
  pub rows : List ℕ
  pub columns : List ℕ
  pub order : moves cs za ≡ map (into S B size d t) rows ++ map (out S B size (flip d) t) columns
  pub each_row : EachOnce (slices_of B size) rows
  pub each_column : EachOnce (slices_of B size) columns

-- exactly one call of the list is done and has the move
pub record Once (cs : List Call) (za : List ℕ) (m : Move) : Type 0 where
  pub before : List Call
  pub call : Call
  pub after : List Call
  pub place : cs ≡ before ++ call ∷ after
  pub move : moved call (run before za) ≡ some m
  pub only : (b a : List Call) (c : Call) → cs ≡ b ++ c ∷ a → moved c (run b za) ≡ some m → b ≡ before

-- What is claimed, with S how far apart vectors and registers start, and B how long they are.
pub record Crossed (S B : ℕ) (size : ElementSize) (d : Direction) (t : ℕ) (cs : List Call) (za : List ℕ) : Type 0 where
  -- exactly one call takes column k, and exactly one moves to row j
  pub column : (k : ℕ) → k < slices_of B size → Once cs za (out S B size (flip d) t k)
  pub row : (j : ℕ) → j < slices_of B size → Once cs za (into S B size d t j)
  -- At the end of the call that takes column k, byte i of element j of its register Zd is that byte of element k of the vector
  -- Zn moved to row j, as it stood at that move, if that move's predicate Pg was active at element k; if not, it is the tile's
  -- first content at row j, element k.
  pub back : (k j i : ℕ) (hk : k < slices_of B size) (hj : j < slices_of B size) → i < bytes_of size →
      get_or (outcome (column k hk).call (run (column k hk).before za)).state.z (register_of (column k hk).call * S + (j * bytes_of size + i)) 0 ≡
      cond (bit (row j hj).call.p (predicate_of (row j hj).call * (S / 8)) (k * bytes_of size))
      (get_or (row j hj).call.z (register_of (row j hj).call * S + (k * bytes_of size + i)) 0)
      (get_or za (byte_of S (bytes_of size) t d j k i) 0)
  -- afterwards every byte of the tile lies in ZA and is zero, every other byte is as at the start, and so is the length
  pub inside : (r k i : ℕ) → r < slices_of B size → k < slices_of B size → i < bytes_of size → byte_at S (bytes_of size) t r k i < length (run cs za)
  pub zeroed : (r k i : ℕ) → r < slices_of B size → k < slices_of B size → i < bytes_of size → get_or (run cs za) (byte_at S (bytes_of size) t r k i) 0 ≡ 0
  pub kept : (p : ℕ) → Outside S (bytes_of size) (slices_of B size) t p → get_or (run cs za) p 0 ≡ get_or za p 0
  pub long : length (run cs za) ≡ length za

-- the law: for every vector length, largest vector length, size, tile and direction; columns first and rows last is the other direction
abbrev pub CrossingLaw : Type 0
CrossingLaw = (S B : ℕ) (size : ElementSize) (d : Direction) (t : ℕ) (cs : List Call) (za : List ℕ) → Crosses S B size d t cs za → Crossed S B size d t cs za
