-- A vector of which memory has a part only, as code reaches it. Only contracts of inner functions cite these: nothing here has to be believed.
-- Assumes nothing.
use Rattle.std.specs.Prelude.{◌≡◌, ℕ, ◌+◌, ◌%◌, ◌^◌, ◌<◌, ◌≤◌, Bool, ◌&&◌, ◌||◌, List, replicate, ◌≢◌, nat_le, nat_lt, slice_index}
use Rattle.general.specs.Scatter.{scatter, all, onwards}
use Rattle.settings.specs.Settings.{max_vector_bytes}
use Rattle.access.specs.declared.window.Window.{Window}

-- byte k of the vector is in one of the window's two parts
abbrev pub covered : Window → ℕ → Bool
covered w k = nat_lt k w.head || (nat_le w.skip k && nat_lt k (w.skip + w.tail))

-- the two parts, which lie one after the other, end in a vector of n bytes, and lie apart in memory of lm
pub record Fits (w : Window) (n lm : ℕ) : Type 0 where
  pub end : w.skip + w.tail ≤ n
  pub first : w.at + w.head ≤ lm
  pub second : w.tail ≤ lm
  pub apart : (j k : ℕ) → j < w.head → k < w.tail → w.at + j ≢ k

-- byte k that is covered is byte `place k` of memory
pub record Placed (w : Window) (place : ℕ → ℕ) : Type 0 where
  pub first : (k : ℕ) → k < w.head → place k ≡ w.at + k
  pub second : (k : ℕ) → k < w.tail → place (w.skip + k) ≡ k

-- the window of n bytes whose byte 0 would have index `at` of lm bytes, counted modulo 2^64: what is covered is what lies in them
pub record Windowed (at n lm : ℕ) (w : Window) : Type 0 where
  pub fits : Fits w n lm
  pub placed : Placed w (λ (k : ℕ). (at + k) % 2 ^ 64)
  pub inside : (k : ℕ) → k < n → nat_lt ((at + k) % 2 ^ 64) lm ≡ covered w k

-- a vector before anything is read
abbrev pub blank : List ℕ
blank = replicate max_vector_bytes 0

-- `count` bytes of src from b on, copied to those of dst from a on
abbrev pub copied : ℕ → List ℕ → ℕ → ℕ → List ℕ → List ℕ
copied a src b count dst = scatter (onwards a) all (λ (k : ℕ). slice_index src (b + k)) count dst

-- a vector with what memory has of it, and memory with what the vector has
abbrev pub window_read : Window → List ℕ → List ℕ → List ℕ
window_read w memory vector = copied w.skip memory 0 w.tail (copied 0 memory w.at w.head vector)

abbrev pub window_written : Window → List ℕ → List ℕ → List ℕ
window_written w vector memory = copied 0 vector w.skip w.tail (copied w.at vector 0 w.head memory)
