-- What the exported functions promise, in numbers. Renders 01 §6.
-- To believe: an answer is given as its number; results (an address, an element, a word) are written whatever the answer, those of an execution as far as the
-- host's array has places, and buffers only with answer 0. What settings a host's numbers are stands in crates/settings/specs/Lent.antt.
-- Assumes nothing.
use Rattle.std.specs.Prelude.{ℕ, ◌+◌, ◌*◌, ◌≡◌, cond, List, eqb, Result, ⊤}
use Rattle.settings.specs.Answer.{Answer, nth_value, done, bad_settings}
use Rattle.settings.specs.Settings.{valid_vectors, lengths_of, length_numbers}
use Rattle.settings.specs.Results.{filled}
use Rattle.settings.specs.declared.Settings.{Settings}
use Rattle.encoding.specs.Codec.{decode_answer, encode_answer}
use Rattle.semantics.specs.declared.answer.Refusal.{Refusal}
use Rattle.semantics.specs.Answer.{executed_number, result_numbers}
use Rattle.semantics.specs.State.{State}
use Rattle.semantics.specs.Promise.{Executes}

-- the version of what is exported: major and minor number
abbrev pub version : ℕ
version = 65536 * 0 + 8

-- that of the functions for listings, likewise
abbrev pub listing_version : ℕ
listing_version = 65536 * 0 + 9

-- one execution: what executing promises, with the number of its answer, and its results in the host's array
pub record Exports (s : Settings) (w : ℕ) (t : State) (rs : List ℕ) (r : ℕ) (rs' : List ℕ) (t' : State) : Type 0 where
  pub answer : Result ⊤ Refusal
  pub executes : Executes s w t answer t'
  pub number : r ≡ executed_number answer
  pub results : rs' ≡ filled (result_numbers answer) rs

-- the eleven fields after decoding: those of the answer where it is 0, else as they were
abbrev pub fields_after : Answer → List ℕ → List ℕ
fields_after a f = cond (eqb a.number done) a.values f

pub record DecodeExports (w level : ℕ) (f : List ℕ) (r : ℕ) (f' : List ℕ) : Type 0 where
  pub number : r ≡ (decode_answer w level).number
  pub fields : f' ≡ fields_after (decode_answer w level) f

-- the word is written with every answer, and is 0 with a refusal
pub record EncodeExports (f : List ℕ) (r w : ℕ) : Type 0 where
  pub number : r ≡ (encode_answer f).number
  pub word : w ≡ nth_value (encode_answer f) 0

pub record LengthExports (s : Settings) (l : List ℕ) (r : ℕ) (l' : List ℕ) : Type 0 where
  pub number : r ≡ cond (valid_vectors s) done bad_settings
  pub lengths : l' ≡ cond (valid_vectors s) (length_numbers (lengths_of s)) l
