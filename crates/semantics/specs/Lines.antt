-- The answer of execution once more, in numbers: the table of 01 §6 line by line, of which the first that applies is the answer.
-- What executing promises is held to this too, so that the order of the checks and their numbers are not believed alone; when a line applies is
-- what specs/Execute.antt says.
-- Assumes nothing.
use Rattle.std.specs.Prelude.{ℕ, Bool, true, false, cond, not, List, [], ◌∷◌, length, Result, Ok, Err}
use Rattle.std.proofs.Math.Option.{Option, none, some}
use Rattle.general.specs.Least.{is_some}
use Rattle.settings.specs.Answer.{Answer, answer_with, done, bad_settings, bad_lengths, undecodable, streaming_off, za_off, stack_misaligned, outside_memory}
use Rattle.settings.specs.Settings.{valid_settings}
use Rattle.settings.specs.declared.Settings.{Settings}
use Rattle.encoding.specs.Codec.{decode_of}
use Rattle.encoding.specs.declared.operation.SliceAccess.{SliceAccess}
use Rattle.encoding.specs.declared.operation.Operation.TheVariants.{MovaToTile, MovazFromTile, MovaFromArray, MovazFromArray, St1, MovaFromTile, Ld1}
use Rattle.semantics.specs.State.{Public}
use Rattle.semantics.specs.Access.{address_of, element_of}
use Rattle.semantics.specs.Execute.{valid_lengths, fault_of, stack_bad}
use Rattle.encoding.specs.declared.operation.DecodeRefusal.{DecodeRefusal}
use Rattle.encoding.specs.declared.operation.Operation.{Operation}

-- a line of the table: whether it applies, and its answer
pub record AnswerLine : Type 0 where
  pub applies : Bool
  pub answer : Answer

abbrev pub line_with : Bool → ℕ → List ℕ → AnswerLine
line_with b n vs = record { applies = b; answer = answer_with n vs }

-- the first line that applies, 0 where none does
abbrev pub first_line : List AnswerLine → Answer
first_line [] = answer_with done []
first_line (l ∷ ls) = cond l.applies l.answer (first_line ls)

abbrev pub is_operation : Result Operation DecodeRefusal → Bool
is_operation (Ok o) = true
is_operation (Err e) = false

-- the load or store that a word is, if it is one
abbrev pub access_of : Result Operation DecodeRefusal → Option SliceAccess
access_of (Ok (MovaToTile o)) = none
access_of (Ok (MovazFromTile o)) = none
access_of (Ok (MovaFromArray o)) = none
access_of (Ok (MovazFromArray o)) = none
access_of (Ok (St1 o)) = some o
access_of (Ok (MovaFromTile o)) = none
access_of (Ok (Ld1 o)) = some o
access_of (Err e) = none

module _ (s : Settings) (u : Public) where
  abbrev pub stack_is_bad : Option SliceAccess → Bool
  stack_is_bad none = false
  stack_is_bad (some o) = stack_bad s u.x u.p u.memory_length o

  abbrev pub fault_in : Option SliceAccess → Option ℕ
  fault_in none = none
  fault_in (some o) = fault_of s u.x u.p u.memory_length o

  -- the address of byte k, and its element
  abbrev pub fault_values : Option SliceAccess → Option ℕ → List ℕ
  fault_values none k = []
  fault_values (some o) none = []
  fault_values (some o) (some k) = address_of u.x o k ∷ element_of o k ∷ []

  -- the last two lines
  abbrev pub access_lines : Option SliceAccess → List AnswerLine
  access_lines a = line_with (stack_is_bad a) stack_misaligned [] ∷ line_with (is_some (fault_in a)) outside_memory (fault_values a (fault_in a)) ∷ []

  -- those that look at the word
  abbrev pub word_lines : Result Operation DecodeRefusal → List AnswerLine
  word_lines d = line_with (not (is_operation d)) undecodable [] ∷ line_with (not s.streaming) streaming_off [] ∷ line_with (not s.za) za_off [] ∷ access_lines (access_of d)

  abbrev pub lines_of : Result Operation DecodeRefusal → List AnswerLine
  lines_of d =
      line_with (not (valid_settings s)) bad_settings [] ∷
      line_with (not (valid_lengths s (length u.x) u.z_length (length u.p) u.za_length u.memory_length)) bad_lengths [] ∷ word_lines d

unfoldable pub answer_in_numbers : Settings → ℕ → Public → Answer
answer_in_numbers s w u = first_line (lines_of s u (decode_of w s.level))
