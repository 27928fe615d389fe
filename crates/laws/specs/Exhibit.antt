-- Lists of calls to which the crossing law applies, so that it is seen not to be empty: for every vector length and every largest one,
-- every element size, tile and direction, every order of the slices, every index register, offset, predicate and vector register that a word can
-- name, every level at which its word decodes (1 to 3 into a tile, 3 out of it), and any content of X, of the vectors, of the
-- predicates, of memory and of ZA; and refused calls in them.
-- Assumes nothing.
use Rattle.std.specs.Prelude.{ℕ, zero, suc, ◌+◌, ◌*◌, ◌-◌, ◌/◌, ◌%◌, ◌^◌, ◌<◌, ◌≤◌, ◌≡◌, true, List, [], ◌∷◌, ◌++◌, map, length, get_or, set, replicate, Ok}
use Rattle.settings.specs.Settings.{max_level, settings_of}
use Rattle.settings.specs.Claims.{Fitting}
use Rattle.settings.specs.declared.Settings.{Settings}
use Rattle.tiles.specs.Element.{bytes_of}
use Rattle.encoding.specs.Answer.{encoded_word}
use Rattle.encoding.specs.Codec.{encode_of}
use Rattle.tiles.specs.declared.element.ElementSize.{ElementSize}
use Rattle.tiles.specs.declared.direction.Direction.{Direction}
use Rattle.encoding.specs.declared.operation.Operation.{Operation}
use Rattle.encoding.specs.declared.operation.Operation.TheVariants.{MovaToTile, MovazFromTile}
use Rattle.tiles.specs.Direction.{flip}
use Rattle.semantics.specs.ExampleBuffers.{switched}
use Rattle.laws.specs.Calls.{Call, outcome, run}
use Rattle.laws.specs.Crossing.{EachOnce, slices_of, Crosses}

-- what such a call may choose: the numbers in its word, beside size, direction and tile, and all that it is handed
pub record Choice : Type 0 where
  pub index : ℕ
  pub offset : ℕ
  pub predicate : ℕ
  pub register : ℕ
  pub settings : Settings
  pub x : List ℕ
  pub z : List ℕ
  pub p : List ℕ
  pub memory : List ℕ

-- the moves; one out of a tile with zeroing names no predicate
abbrev pub inward : ElementSize → Direction → ℕ → Choice → Operation
inward size d t h =
    MovaToTile (record { slice = record { size = size; direction = d; index = h.index; tile = t; offset = h.offset }; pg = h.predicate; zn = h.register })

abbrev pub outward : ElementSize → Direction → ℕ → Choice → Operation
outward size d t h = MovazFromTile (record { slice = record { size = size; direction = d; index = h.index; tile = t; offset = h.offset }; zd = h.register })

abbrev pub word_for : Operation → ℕ
word_for o = encoded_word (encode_of o)

abbrev pub call_by : (Choice → Operation) → Choice → Call
call_by o h = record { settings = h.settings; word = word_for (o h); x = h.x; z = h.z; p = h.p; memory = h.memory }

-- rows in, and columns out in the other direction, in an order of each: the calls on row k and on column k have choices of their own
abbrev pub calls_in : ElementSize → Direction → ℕ → (ℕ → Choice) → List ℕ → List Call
calls_in size d t ins rows = map (λ (k : ℕ). call_by (inward size d t) (ins k)) rows

abbrev pub calls_out : ElementSize → Direction → ℕ → (ℕ → Choice) → List ℕ → List Call
calls_out size d t outs columns = map (λ (k : ℕ). call_by (outward size (flip d) t) (outs k)) columns

abbrev pub crossing_calls : ElementSize → Direction → ℕ → (ℕ → Choice) → (ℕ → Choice) → List ℕ → List ℕ → List Call
crossing_calls size d t ins outs rows columns = calls_in size d t ins rows ++ calls_out size d t outs columns

-- what a call needs so as to be done with vectors of B bytes in buffers for vectors of S, and to be on slice k; its word decodes from a least level on
pub record Ready (least S B : ℕ) (size : ElementSize) (k : ℕ) (h : Choice) : Type 0 where
  pub vector : h.settings.vector_bytes ≡ B
  pub largest : h.settings.largest_vector_bytes ≡ S
  pub level : (least ≤ h.settings.level) × (h.settings.level ≤ max_level)
  pub streaming : h.settings.streaming ≡ true
  pub za : h.settings.za ≡ true
  -- a word can name them
  pub indices : (12 ≤ h.index) × (h.index ≤ 15)
  pub offsets : h.offset < 16 / bytes_of size
  pub predicates : h.predicate < 8
  pub registers : h.register < 32
  -- the slice is k, whatever the index register has above its low 32 bits
  pub slice : (get_or h.x h.index 0 % 2 ^ 32 + h.offset) % slices_of B size ≡ k
  -- the lengths are right
  pub xs : length h.x ≡ 32
  pub zs : length h.z ≡ 32 * S
  pub ps : length h.p ≡ 16 * (S / 8)
  pub memory : h.settings.memory_address + length h.memory ≤ 2 ^ 64

-- every number of a list is below n
abbrev pub Below : ℕ → List ℕ → Type 0
Below n [] = Unit {0}
Below n (x ∷ l) = (x < n) × Below n l

-- such calls, in any order of the slices, are a list that is meant, for each of the fifteen pairs of a vector length and a largest one: each with a level of its
-- own, from 1 on into the tile and 3 out of it
abbrev pub ListsExist : Type 0
ListsExist =
    (S B : ℕ) (size : ElementSize) (d : Direction) (t : ℕ) (ins outs : ℕ → Choice) (rows columns za : List ℕ) →
    Fitting B S → t < bytes_of size → length za ≡ S * S →
    ((k : ℕ) → k < slices_of B size → Ready 1 S B size k (ins k)) → ((k : ℕ) → k < slices_of B size → Ready 3 S B size k (outs k)) →
    EachOnce (slices_of B size) rows → Below (slices_of B size) rows → EachOnce (slices_of B size) columns → Below (slices_of B size) columns →
    Crosses S B size d t (crossing_calls size d t ins outs rows columns) za

-- for every slice there are such choices, whichever level they have and index register, offset, predicate and vector register they name: here with
-- an X that is zero but for the index register
abbrev pub choice_of : ℕ → ℕ → ℕ → ElementSize → ℕ → ℕ → ℕ → ℕ → ℕ → Choice
choice_of S B level size k index offset predicate register =
    record {
      index = index;
      offset = offset;
      predicate = predicate;
      register = register;
      settings = switched (settings_of B S level) true true;
      x = set (replicate 32 0) index (k + slices_of B size * 16 - offset);
      z = replicate (32 * S) 0;
      p = replicate (16 * (S / 8)) 255;
      memory = [];
    }

abbrev pub ChoicesExist : Type 0
ChoicesExist =
    (least S B level : ℕ) (size : ElementSize) (k index offset predicate register : ℕ) → Fitting B S → least ≤ level → level ≤ max_level →
    k < slices_of B size → 12 ≤ index → index ≤ 15 → offset < 16 / bytes_of size → predicate < 8 → register < 32 →
    Ready least S B size k (choice_of S B level size k index offset predicate register)

-- an order of the slices: downwards
abbrev pub down_from : ℕ → List ℕ
down_from zero = []
down_from (suc n) = n ∷ down_from n

abbrev pub OrdersExist : Type 0
OrdersExist = (n : ℕ) → EachOnce n (down_from n) × Below n (down_from n)

-- a refused call, with any answer but 0, may stand anywhere in such a list
abbrev pub RefusedMayStand : Type 0
RefusedMayStand =
    (S B : ℕ) (size : ElementSize) (d : Direction) (t : ℕ) (before after : List Call) (c : Call) (za : List ℕ) →
    Crosses S B size d t (before ++ after) za → ((outcome c (run before za)).answer ≡ Ok tt → ⊥) → Crosses S B size d t (before ++ c ∷ after) za
