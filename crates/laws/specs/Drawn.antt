-- What the crossing law's conclusion comes to: of any list by the vectors of ZA, of the lists of Exhibit.antt by the choices of their calls, and of the list of
-- Shown.antt in numbers, the bytes of every column, of the tile and of some other places. A conclusion that says less does not give them.
-- Assumes nothing.
use Rattle.std.specs.Prelude.{ℕ, zero, suc, ◌+◌, ◌*◌, ◌/◌, ◌%◌, ◌<◌, ◌≡◌, cond, ◌&&◌, List, [], ◌∷◌, ◌++◌, map, eqb, ltb, length, get_or, replicate}
use Rattle.settings.specs.Claims.{Fitting}
use Rattle.tiles.specs.Element.{bytes_of}
use Rattle.tiles.specs.Predicate.{bit}
use Rattle.tiles.specs.Tile.{byte_of}
use Rattle.tiles.specs.declared.element.ElementSize.{ElementSize}
use Rattle.tiles.specs.declared.element.ElementSize.TheVariants.{Bits32}
use Rattle.tiles.specs.declared.direction.Direction.{Direction}
use Rattle.tiles.specs.declared.direction.Direction.TheVariants.{Horizontal, Vertical}
use Rattle.semantics.specs.ExampleBuffers.{za_at}
use Rattle.laws.specs.Calls.{Call, outcome, run}
use Rattle.laws.specs.Crossing.{EachOnce, slices_of, Crossed}
use Rattle.laws.specs.Exhibit.{Choice, calls_in, calls_out, Ready}
use Rattle.laws.specs.Shown.{shown_calls}

-- ---- of any list

-- ZA afterwards: of the first B vectors those of the tile, every m-th from t on, lie in it and are zero in their first B bytes; every other byte is as it was, those
-- beyond B of any vector and the vectors from B on among them
abbrev pub VectorsAfter : Type 0
VectorsAfter =
    (S B : ℕ) (size : ElementSize) (d : Direction) (t : ℕ) (cs : List Call) (za : List ℕ) → Fitting B S → t < bytes_of size →
    Crossed S B size d t cs za → (v q : ℕ) → q < S →
    (get_or (run cs za) (v * S + q) 0 ≡ cond (ltb v B && ltb q B && eqb (v % bytes_of size) t) 0 (get_or za (v * S + q) 0)) ×
    (v < B → q < B → v % bytes_of size ≡ t → v * S + q < length (run cs za))

-- ---- of lists by choices

-- the calls of ready choices, with any others before, between and after them
abbrev pub calls_among : ElementSize → Direction → ℕ → (ℕ → Choice) → (ℕ → Choice) → List ℕ → List ℕ → List Call → List Call → List Call → List Call
calls_among size d t ins outs rows columns first between last =
    first ++ (calls_in size d t ins rows ++ (between ++ (calls_out size d t outs columns ++ last)))

-- byte i of element j of the register of column k is by the choices of row j
abbrev pub ColumnsByChoices : Type 0
ColumnsByChoices =
    (S B : ℕ) (size : ElementSize) (d : Direction) (t : ℕ) (ins outs : ℕ → Choice) (rows columns za : List ℕ) (first between last : List Call) →
    Fitting B S → t < bytes_of size → length za ≡ S * S →
    ((k : ℕ) → k < slices_of B size → Ready 1 S B size k (ins k)) → ((k : ℕ) → k < slices_of B size → Ready 3 S B size k (outs k)) →
    EachOnce (slices_of B size) rows → EachOnce (slices_of B size) columns →
    (c : Crossed S B size d t (calls_among size d t ins outs rows columns first between last) za) →
    (k j i : ℕ) (hk : k < slices_of B size) → j < slices_of B size → i < bytes_of size →
    get_or (outcome (c.column k hk).call (run (c.column k hk).before za)).state.z ((outs k).register * S + (j * bytes_of size + i)) 0 ≡
    cond (bit (ins j).p ((ins j).predicate * (S / 8)) (k * bytes_of size))
    (get_or (ins j).z ((ins j).register * S + (k * bytes_of size + i)) 0)
    (get_or za (byte_of S (bytes_of size) t d j k i) 0)

-- ---- of the list of Shown.antt

-- n bytes of a list from place i on
abbrev pub bytes_at : List ℕ → ℕ → ℕ → List ℕ
bytes_at l i zero = []
bytes_at l i (suc n) = get_or l i 0 ∷ bytes_at l (suc i) n

-- The columns 0 to 7. Bytes 4 * j to 4 * j + 3 are those of element k of the vector that went to row j, where its predicate was active at k;
-- where it was not, ZA's own at row j, element k. So the two directions differ in the latter only.
abbrev pub columns_shown : Direction → List (List ℕ)
columns_shown Horizontal =
    (168 ∷ 175 ∷ 182 ∷ 189 ∷ 43 ∷ 50 ∷ 57 ∷ 64 ∷ 147 ∷ 154 ∷ 161 ∷ 168 ∷ 78 ∷ 85 ∷ 92 ∷ 99 ∷ 126 ∷ 133 ∷ 140 ∷ 147 ∷ 113 ∷ 120 ∷ 127 ∷ 134 ∷ 105 ∷ 112 ∷ 119 ∷ 126 ∷ 148 ∷ 155 ∷ 162 ∷ 169 ∷ []) ∷
    (179 ∷ 186 ∷ 193 ∷ 200 ∷ 60 ∷ 67 ∷ 74 ∷ 81 ∷ 175 ∷ 182 ∷ 189 ∷ 196 ∷ 106 ∷ 113 ∷ 120 ∷ 127 ∷ 154 ∷ 161 ∷ 168 ∷ 175 ∷ 18 ∷ 25 ∷ 32 ∷ 39 ∷ 33 ∷ 40 ∷ 47 ∷ 54 ∷ 248 ∷ 4 ∷ 11 ∷ 18 ∷ []) ∷
    (207 ∷ 214 ∷ 221 ∷ 228 ∷ 88 ∷ 95 ∷ 102 ∷ 109 ∷ 242 ∷ 249 ∷ 5 ∷ 12 ∷ 67 ∷ 74 ∷ 81 ∷ 88 ∷ 26 ∷ 33 ∷ 40 ∷ 47 ∷ 46 ∷ 53 ∷ 60 ∷ 67 ∷ 61 ∷ 68 ∷ 75 ∷ 82 ∷ 25 ∷ 32 ∷ 39 ∷ 46 ∷ []) ∷
    (235 ∷ 242 ∷ 249 ∷ 5 ∷ 116 ∷ 123 ∷ 130 ∷ 137 ∷ 19 ∷ 26 ∷ 33 ∷ 40 ∷ 162 ∷ 169 ∷ 176 ∷ 183 ∷ 210 ∷ 217 ∷ 224 ∷ 231 ∷ 197 ∷ 204 ∷ 211 ∷ 218 ∷ 89 ∷ 96 ∷ 103 ∷ 110 ∷ 53 ∷ 60 ∷ 67 ∷ 74 ∷ []) ∷
    (29 ∷ 36 ∷ 43 ∷ 50 ∷ 155 ∷ 162 ∷ 169 ∷ 176 ∷ 8 ∷ 15 ∷ 22 ∷ 29 ∷ 190 ∷ 197 ∷ 204 ∷ 211 ∷ 238 ∷ 245 ∷ 1 ∷ 8 ∷ 225 ∷ 232 ∷ 239 ∷ 246 ∷ 217 ∷ 224 ∷ 231 ∷ 238 ∷ 9 ∷ 16 ∷ 23 ∷ 30 ∷ []) ∷
    (57 ∷ 64 ∷ 71 ∷ 78 ∷ 172 ∷ 179 ∷ 186 ∷ 193 ∷ 75 ∷ 82 ∷ 89 ∷ 96 ∷ 151 ∷ 158 ∷ 165 ∷ 172 ∷ 15 ∷ 22 ∷ 29 ∷ 36 ∷ 2 ∷ 9 ∷ 16 ∷ 23 ∷ 245 ∷ 1 ∷ 8 ∷ 15 ∷ 37 ∷ 44 ∷ 51 ∷ 58 ∷ []) ∷
    (68 ∷ 75 ∷ 82 ∷ 89 ∷ 200 ∷ 207 ∷ 214 ∷ 221 ∷ 103 ∷ 110 ∷ 117 ∷ 124 ∷ 179 ∷ 186 ∷ 193 ∷ 200 ∷ 138 ∷ 145 ∷ 152 ∷ 159 ∷ 158 ∷ 165 ∷ 172 ∷ 179 ∷ 173 ∷ 180 ∷ 187 ∷ 194 ∷ 137 ∷ 144 ∷ 151 ∷ 158 ∷ []) ∷
    (113 ∷ 120 ∷ 127 ∷ 134 ∷ 239 ∷ 246 ∷ 2 ∷ 9 ∷ 92 ∷ 99 ∷ 106 ∷ 113 ∷ 207 ∷ 214 ∷ 221 ∷ 228 ∷ 166 ∷ 173 ∷ 180 ∷ 187 ∷ 186 ∷ 193 ∷ 200 ∷ 207 ∷ 50 ∷ 57 ∷ 64 ∷ 71 ∷ 93 ∷ 100 ∷ 107 ∷ 114 ∷ []) ∷
    []
columns_shown Vertical =
    (168 ∷ 175 ∷ 182 ∷ 189 ∷ 179 ∷ 186 ∷ 193 ∷ 200 ∷ 147 ∷ 154 ∷ 161 ∷ 168 ∷ 235 ∷ 242 ∷ 249 ∷ 5 ∷ 126 ∷ 133 ∷ 140 ∷ 147 ∷ 40 ∷ 47 ∷ 54 ∷ 61 ∷ 105 ∷ 112 ∷ 119 ∷ 126 ∷ 96 ∷ 103 ∷ 110 ∷ 117 ∷ []) ∷
    (43 ∷ 50 ∷ 57 ∷ 64 ∷ 60 ∷ 67 ∷ 74 ∷ 81 ∷ 175 ∷ 182 ∷ 189 ∷ 196 ∷ 127 ∷ 134 ∷ 141 ∷ 148 ∷ 154 ∷ 161 ∷ 168 ∷ 175 ∷ 18 ∷ 25 ∷ 32 ∷ 39 ∷ 211 ∷ 218 ∷ 225 ∷ 232 ∷ 248 ∷ 4 ∷ 11 ∷ 18 ∷ []) ∷
    (186 ∷ 193 ∷ 200 ∷ 207 ∷ 88 ∷ 95 ∷ 102 ∷ 109 ∷ 242 ∷ 249 ∷ 5 ∷ 12 ∷ 67 ∷ 74 ∷ 81 ∷ 88 ∷ 47 ∷ 54 ∷ 61 ∷ 68 ∷ 46 ∷ 53 ∷ 60 ∷ 67 ∷ 103 ∷ 110 ∷ 117 ∷ 124 ∷ 25 ∷ 32 ∷ 39 ∷ 46 ∷ []) ∷
    (78 ∷ 85 ∷ 92 ∷ 99 ∷ 116 ∷ 123 ∷ 130 ∷ 137 ∷ 134 ∷ 141 ∷ 148 ∷ 155 ∷ 162 ∷ 169 ∷ 176 ∷ 183 ∷ 210 ∷ 217 ∷ 224 ∷ 231 ∷ 218 ∷ 225 ∷ 232 ∷ 239 ∷ 246 ∷ 2 ∷ 9 ∷ 16 ∷ 53 ∷ 60 ∷ 67 ∷ 74 ∷ []) ∷
    (29 ∷ 36 ∷ 43 ∷ 50 ∷ 249 ∷ 5 ∷ 12 ∷ 19 ∷ 8 ∷ 15 ∷ 22 ∷ 29 ∷ 54 ∷ 61 ∷ 68 ∷ 75 ∷ 238 ∷ 245 ∷ 1 ∷ 8 ∷ 110 ∷ 117 ∷ 124 ∷ 131 ∷ 217 ∷ 224 ∷ 231 ∷ 238 ∷ 166 ∷ 173 ∷ 180 ∷ 187 ∷ []) ∷
    (57 ∷ 64 ∷ 71 ∷ 78 ∷ 172 ∷ 179 ∷ 186 ∷ 193 ∷ 169 ∷ 176 ∷ 183 ∷ 190 ∷ 151 ∷ 158 ∷ 165 ∷ 172 ∷ 15 ∷ 22 ∷ 29 ∷ 36 ∷ 2 ∷ 9 ∷ 16 ∷ 23 ∷ 245 ∷ 1 ∷ 8 ∷ 15 ∷ 58 ∷ 65 ∷ 72 ∷ 79 ∷ []) ∷
    (5 ∷ 12 ∷ 19 ∷ 26 ∷ 200 ∷ 207 ∷ 214 ∷ 221 ∷ 61 ∷ 68 ∷ 75 ∷ 82 ∷ 179 ∷ 186 ∷ 193 ∷ 200 ∷ 117 ∷ 124 ∷ 131 ∷ 138 ∷ 158 ∷ 165 ∷ 172 ∷ 179 ∷ 173 ∷ 180 ∷ 187 ∷ 194 ∷ 137 ∷ 144 ∷ 151 ∷ 158 ∷ []) ∷
    (113 ∷ 120 ∷ 127 ∷ 134 ∷ 176 ∷ 183 ∷ 190 ∷ 197 ∷ 92 ∷ 99 ∷ 106 ∷ 113 ∷ 207 ∷ 214 ∷ 221 ∷ 228 ∷ 9 ∷ 16 ∷ 23 ∷ 30 ∷ 186 ∷ 193 ∷ 200 ∷ 207 ∷ 50 ∷ 57 ∷ 64 ∷ 71 ∷ 93 ∷ 100 ∷ 107 ∷ 114 ∷ []) ∷
    []

-- places of the other three tiles, and their bytes before the list's first call
abbrev pub places_beside : List ℕ
places_beside = 0 ∷ 16 ∷ 31 ∷ 64 ∷ 95 ∷ 127 ∷ 128 ∷ 287 ∷ 320 ∷ 448 ∷ 511 ∷ 543 ∷ 640 ∷ 767 ∷ 895 ∷ 927 ∷ 960 ∷ 1000 ∷ 1023 ∷ []

abbrev pub bytes_beside : List ℕ
bytes_beside = 178 ∷ 39 ∷ 144 ∷ 124 ∷ 90 ∷ 63 ∷ 70 ∷ 179 ∷ 159 ∷ 51 ∷ 241 ∷ 214 ∷ 140 ∷ 25 ∷ 168 ∷ 141 ∷ 121 ∷ 150 ∷ 60 ∷ []

module _ (d : Direction) (c : Crossed 32 32 Bits32 d 1 (shown_calls d) (za_at 32)) where
  -- Z as the call that takes column k leaves it, and ZA as the list leaves it
  abbrev pub z_after : (k : ℕ) → k < 8 → List ℕ
  z_after k h = (outcome (c.column k h).call (run (c.column k h).before (za_at 32))).state.z

  abbrev pub za_last : List ℕ
  za_last = run (shown_calls d) (za_at 32)

  -- column k is in vector register 7 + 3 * k; the tile is vectors 1, 5, 9 and so on of ZA
  pub record Drawn : Type 0 where
    pub back : (k : ℕ) (h : k < 8) → bytes_at (z_after k h) ((7 + 3 * k) * 32) 32 ≡ get_or (columns_shown d) k []
    pub zeroed : (r : ℕ) → r < 8 → bytes_at za_last ((4 * r + 1) * 32) 32 ≡ replicate 32 0
    pub kept : map (λ (p : ℕ). get_or za_last p 0) places_beside ≡ bytes_beside
    pub long : length za_last ≡ 1024

-- however the conclusion is had, it says so
abbrev pub ConclusionDrawn : Type 0
ConclusionDrawn = (d : Direction) (c : Crossed 32 32 Bits32 d 1 (shown_calls d) (za_at 32)) → Drawn d c

-- and it is had
abbrev pub ListCrossed : Type 0
ListCrossed = (d : Direction) → (c : Crossed 32 32 Bits32 d 1 (shown_calls d) (za_at 32)) × Drawn d c
