-- Vectors of B bytes in buffers for vectors of S bytes, S not below B: what lies beyond B never changes and never affects an answer. Renders request 12.
-- To believe: which bytes lie beyond B (`BeyondStays`) and which within (`AgreeWithin`); that no byte is neither is a theorem too (`NothingBetween`). The others are about
-- every execution and every run, whatever the settings and whichever the answer; proofs/Claims.antt proves each.
-- Assumes nothing.
use Rattle.std.specs.Prelude.{ℕ, ◌+◌, ◌*◌, ◌/◌, ◌<◌, ◌≤◌, ◌≡◌, true, List, length, get_or}
use Rattle.settings.specs.Settings.{valid_vectors}
use Rattle.settings.specs.declared.Settings.{Settings}
use Rattle.semantics.specs.State.{State}
use Rattle.semantics.specs.Execute.{execute_of}
use Rattle.semantics.specs.Run.{Ran, run_of}

-- byte k of part v is the same in two buffers whose parts start n bytes apart
abbrev pub SameByte : ℕ → List ℕ → List ℕ → ℕ → ℕ → Type 0
SameByte n l l' v k = get_or l (v * n + k) 0 ≡ get_or l' (v * n + k) 0

module _ (s : Settings) where
  -- how long vectors are, and how far apart they start; predicates start an eighth of that apart
  abbrev pub B : ℕ
  B = s.vector_bytes

  abbrev pub S : ℕ
  S = s.largest_vector_bytes

  -- ---- what lies beyond B stays

  -- bytes from B on of any register, from B/8 on of any predicate, and from B on of any vector of ZA; and ZA's vectors from B on. The buffers keep their lengths
  pub record BeyondStays (t t' : State) : Type 0 where
    pub z_long : length t.z ≡ length t'.z
    pub p_long : length t.p ≡ length t'.p
    pub za_long : length t.za ≡ length t'.za
    pub z : (v k : ℕ) → B ≤ k → k < S → SameByte S t.z t'.z v k
    pub p : (v k : ℕ) → B / 8 ≤ k → k < S / 8 → SameByte (S / 8) t.p t'.p v k
    pub za : (v k : ℕ) → B ≤ k → k < S → SameByte S t.za t'.za v k
    pub vectors : (v k : ℕ) → B ≤ v → k < S → SameByte S t.za t'.za v k

  -- ---- and does not matter

  -- two states with the same X, the same memory and buffers of the same lengths, which agree in the first B bytes of every register, the first B/8 of every
  -- predicate, and the first B of each of ZA's first B vectors
  pub record AgreeWithin (t u : State) : Type 0 where
    pub x : t.x ≡ u.x
    pub memory : t.memory ≡ u.memory
    pub z_long : length t.z ≡ length u.z
    pub p_long : length t.p ≡ length u.p
    pub za_long : length t.za ≡ length u.za
    pub z : (v k : ℕ) → k < B → SameByte S t.z u.z v k
    pub p : (v k : ℕ) → k < B / 8 → SameByte (S / 8) t.p u.p v k
    pub za : (v k : ℕ) → v < B → k < B → SameByte S t.za u.za v k

  -- a word gets the same answer on both, and they agree so afterwards
  pub record GoesByWithin (w : ℕ) (t u : State) : Type 0 where
    pub answer : (execute_of s w t).answer ≡ (execute_of s w u).answer
    pub state : AgreeWithin (execute_of s w t).state (execute_of s w u).state

  -- and so does a run, with as many words done
  pub record RunGoesByWithin (r r' : Ran) : Type 0 where
    pub words : r.words ≡ r'.words
    pub answer : r.ending.answer ≡ r'.ending.answer
    pub state : AgreeWithin r.ending.state r'.ending.state

-- ---- the theorems

-- states that are the same beyond B and agree within it are the same
abbrev pub NothingBetween : Type 0
NothingBetween = (s : Settings) (t u : State) → valid_vectors s ≡ true → BeyondStays s t u → AgreeWithin s t u → t ≡ u

abbrev pub ExecutionKeepsBeyond : Type 0
ExecutionKeepsBeyond = (s : Settings) (w : ℕ) (t : State) → BeyondStays s t (execute_of s w t).state

abbrev pub RunKeepsBeyond : Type 0
RunKeepsBeyond = (s : Settings) (ws : List ℕ) (t : State) → BeyondStays s t (run_of s ws t).ending.state

abbrev pub ExecutionsGoByWithin : Type 0
ExecutionsGoByWithin = (s : Settings) (w : ℕ) (t u : State) → AgreeWithin s t u → GoesByWithin s w t u

abbrev pub RunsGoByWithin : Type 0
RunsGoByWithin = (s : Settings) (ws : List ℕ) (t u : State) → AgreeWithin s t u → RunGoesByWithin s (run_of s ws t) (run_of s ws u)
