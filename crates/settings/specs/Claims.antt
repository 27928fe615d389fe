-- What the promises of specs/Settings.antt, Lent.antt and Results.antt leave open: nothing. Each statement is from the promise alone, whichever function meets it;
-- proofs/Claims.antt proves each. Renders 01 §2, §6 and §9.
-- Assumes nothing.
use Rattle.std.specs.Prelude.{ℕ, ◌*◌, ◌/◌, ◌<◌, ◌≤◌, ◌≡◌, Bool, true, false, cond, List, [], ◌∷◌, length, get_or, Result, ⊤}
use Rattle.general.specs.Determined.{Determined, Met, IsOneOf}
use Rattle.settings.specs.Answer.{checked_number}
use Rattle.settings.specs.Settings.{is_vector_length, valid_vectors, check_number, Checks, settings_made, Makes, with_streaming, with_za, with_memory_address, with_stack_check, stride_of, lengths_of, length_numbers, Measures}
use Rattle.settings.specs.Lent.{is_off, is_on, settings_in}
use Rattle.settings.specs.Results.{filled}
use Rattle.settings.specs.declared.Settings.{Settings}
use Rattle.settings.specs.declared.answer.BadSettings.{BadSettings}
use Rattle.settings.specs.declared.answer.RefusedSettings.{RefusedSettings}

-- the vector lengths of 01
abbrev pub five : List ℕ
five = 16 ∷ 32 ∷ 64 ∷ 128 ∷ 256 ∷ []

-- a number is a vector length exactly if it is one of the five
abbrev pub FiveLengths : Type 0
FiveLengths = (B : ℕ) → (is_vector_length B ≡ true → IsOneOf five B) × (IsOneOf five B → is_vector_length B ≡ true)

-- vectors of length B in buffers for vectors of length S (request 12): each is one of the five, and S is not below B
pub record Fitting (B S : ℕ) : Type 0 where
  pub vector : IsOneOf five B
  pub largest : IsOneOf five S
  pub fit : B ≤ S

abbrev pub VectorsFit : Type 0
VectorsFit =
    (s : Settings) →
    (valid_vectors s ≡ true → Fitting s.vector_bytes s.largest_vector_bytes) × (Fitting s.vector_bytes s.largest_vector_bytes → valid_vectors s ≡ true)

-- vectors start the largest length apart, and the lengths of buffers go by it, whatever the other items
pub record GoesByLargest (s : Settings) : Type 0 where
  pub stride : stride_of s ≡ s.largest_vector_bytes
  pub lengths :
      length_numbers (lengths_of s) ≡
      32 ∷ (32 * s.largest_vector_bytes) ∷ (16 * (s.largest_vector_bytes / 8)) ∷ (s.largest_vector_bytes * s.largest_vector_bytes) ∷ []

abbrev pub LengthsGoByLargest : Type 0
LengthsGoByLargest = (s : Settings) → GoesByLargest s

-- settings item by item
pub record Items (s : Settings) (B l : ℕ) (on on' : Bool) (a : ℕ) (on'' : Bool) (S : ℕ) : Type 0 where
  pub vector_bytes : s.vector_bytes ≡ B
  pub level : s.level ≡ l
  pub streaming : s.streaming ≡ on
  pub za : s.za ≡ on'
  pub memory_address : s.memory_address ≡ a
  pub stack_check : s.stack_check ≡ on''
  pub largest : s.largest_vector_bytes ≡ S

-- those in which only vector lengths and level are asked for: the stack check is on (request 4)
abbrev pub Plain : Settings → ℕ → ℕ → ℕ → Type 0
Plain s B S l = Items s B l false false 0 true S

-- each `with..` changes its item and no other, whatever the settings
pub record WithsChange (s : Settings) : Type 0 where
  pub streaming :
      (on : Bool) → Items (with_streaming s on) s.vector_bytes s.level on s.za s.memory_address s.stack_check s.largest_vector_bytes
  pub za :
      (on : Bool) → Items (with_za s on) s.vector_bytes s.level s.streaming on s.memory_address s.stack_check s.largest_vector_bytes
  pub memory_address : (a : ℕ) → Items (with_memory_address s a) s.vector_bytes s.level s.streaming s.za a s.stack_check s.largest_vector_bytes
  pub stack_check :
      (on : Bool) → Items (with_stack_check s on) s.vector_bytes s.level s.streaming s.za s.memory_address on s.largest_vector_bytes

abbrev pub ItemsChange : Type 0
ItemsChange = (s : Settings) → WithsChange s

-- settings as numbers
abbrev pub numbers_of : Settings → List ℕ
numbers_of s =
    s.vector_bytes ∷ s.level ∷ cond s.streaming 1 0 ∷ cond s.za 1 0 ∷ s.memory_address ∷ cond s.stack_check 0 1 ∷ s.largest_vector_bytes ∷ []

-- settings that no machine has: every check of them is answered 1, and so is the question for the lengths
pub record NoMachine (s : Settings) : Type 0 where
  pub check : check_number s ≡ 1
  pub vectors : valid_vectors s ≡ false

-- settings that a host gives as numbers: any can be given; a switch is off by 0 alone, and the stack check, of which the sixth number says whether it is off, is
-- on by 0 alone; what is missing is as in new settings, and the largest vector length, which these are told, is the vector length; a 0 that is given for it, and too
-- few or too many numbers, are settings that no machine has
pub record LentSettings : Type 0 where
  pub whole : (s : Settings) → settings_in (numbers_of s) ≡ s
  pub off : (n : ℕ) → is_on n ≡ false → n ≡ 0
  pub on : (n : ℕ) → is_off n ≡ true → n ≡ 0
  pub first_two : (B l : ℕ) → Plain (settings_in (B ∷ l ∷ [])) B B l
  pub first_three : (B l a : ℕ) → Items (settings_in (B ∷ l ∷ a ∷ [])) B l (is_on a) false 0 true B
  pub first_four : (B l a b : ℕ) → Items (settings_in (B ∷ l ∷ a ∷ b ∷ [])) B l (is_on a) (is_on b) 0 true B
  pub first_five : (B l a b c : ℕ) → Items (settings_in (B ∷ l ∷ a ∷ b ∷ c ∷ [])) B l (is_on a) (is_on b) c true B
  pub first_six : (B l a b c d : ℕ) → Items (settings_in (B ∷ l ∷ a ∷ b ∷ c ∷ d ∷ [])) B l (is_on a) (is_on b) c (is_off d) B
  pub all_seven : (B l a b c d S : ℕ) → Items (settings_in (B ∷ l ∷ a ∷ b ∷ c ∷ d ∷ S ∷ [])) B l (is_on a) (is_on b) c (is_off d) S
  pub zero : (B l a b c d : ℕ) → NoMachine (settings_in (B ∷ l ∷ a ∷ b ∷ c ∷ d ∷ 0 ∷ []))
  pub few : (l : List ℕ) → length l < 2 → NoMachine (settings_in l)
  pub many : (l : List ℕ) → 7 < length l → NoMachine (settings_in l)

-- an array is as long as it was once numbers are written to it; it has them in their places, and behind them what it had
pub record FilledIs (ns old : List ℕ) : Type 0 where
  pub long : length (filled ns old) ≡ length old
  pub written : (i : ℕ) → i < length ns → i < length old → get_or (filled ns old) i 0 ≡ get_or ns i 0
  pub behind : (i : ℕ) → length ns ≤ i → get_or (filled ns old) i 0 ≡ get_or old i 0

abbrev pub ResultsFill : Type 0
ResultsFill = (ns old : List ℕ) → FilledIs ns old

-- checking: one answer, 0 exactly if the two vector lengths fit and the level is at most 3, else 1
pub record ChecksDetermine (s : Settings) : Type 0 where
  pub met : Met (Checks s)
  pub determined : Determined (Checks s)
  pub numbers : (r : Result ⊤ BadSettings) → Checks s r → IsOneOf (0 ∷ 1 ∷ []) (checked_number r)
  pub done : (r : Result ⊤ BadSettings) → Checks s r → checked_number r ≡ 0 → Fitting s.vector_bytes s.largest_vector_bytes × (s.level ≤ 3)
  pub valid : (r : Result ⊤ BadSettings) → Checks s r → Fitting s.vector_bytes s.largest_vector_bytes → s.level ≤ 3 → checked_number r ≡ 0

-- making: one record; what was asked for with 0, which is given exactly if the two vector lengths fit and the level is at most 3, and with 1 the refused settings of
-- 01, item by item
pub record MakesDetermine (B S level : ℕ) : Type 0 where
  pub met : Met (Makes B S level)
  pub determined : Determined (Makes B S level)
  pub numbers : (r : Result Settings RefusedSettings) → Makes B S level r → IsOneOf (0 ∷ 1 ∷ []) (checked_number r)
  pub done : (r : Result Settings RefusedSettings) → Makes B S level r → checked_number r ≡ 0 → Fitting B S × (level ≤ 3)
  pub valid : (r : Result Settings RefusedSettings) → Makes B S level r → Fitting B S → level ≤ 3 → checked_number r ≡ 0
  pub made : (r : Result Settings RefusedSettings) → Makes B S level r → checked_number r ≡ 0 → Plain (settings_made r) B S level
  pub refused : (r : Result Settings RefusedSettings) → Makes B S level r → (checked_number r ≡ 0 → ⊥) → Plain (settings_made r) 16 16 0

-- asking for the lengths: one answer and one list, with 0 what the largest vector length fixes, with 1 the list that was there; 0 exactly if the two lengths fit
pub record MeasuresDetermine (s : Settings) (ls : List ℕ) : Type 0 where
  pub met : Met (λ (o : Result ⊤ BadSettings × List ℕ). Measures s ls o.0 o.1)
  pub determined : Determined (λ (o : Result ⊤ BadSettings × List ℕ). Measures s ls o.0 o.1)
  pub numbers : (r : Result ⊤ BadSettings) (ls' : List ℕ) → Measures s ls r ls' → IsOneOf (0 ∷ 1 ∷ []) (checked_number r)
  pub fitting : (r : Result ⊤ BadSettings) (ls' : List ℕ) → Measures s ls r ls' → checked_number r ≡ 0 → Fitting s.vector_bytes s.largest_vector_bytes
  pub valid : (r : Result ⊤ BadSettings) (ls' : List ℕ) → Measures s ls r ls' → Fitting s.vector_bytes s.largest_vector_bytes → checked_number r ≡ 0
  pub done : (r : Result ⊤ BadSettings) (ls' : List ℕ) → Measures s ls r ls' → checked_number r ≡ 0 →
      ls' ≡ 32 ∷ (32 * s.largest_vector_bytes) ∷ (16 * (s.largest_vector_bytes / 8)) ∷ (s.largest_vector_bytes * s.largest_vector_bytes) ∷ []
  pub refused : (r : Result ⊤ BadSettings) (ls' : List ℕ) → Measures s ls r ls' → (checked_number r ≡ 0 → ⊥) → ls' ≡ ls

pub record SettingsDetermine : Type 0 where
  pub checks : (s : Settings) → ChecksDetermine s
  pub makes : (B S level : ℕ) → MakesDetermine B S level
  pub measures : (s : Settings) (ls : List ℕ) → MeasuresDetermine s ls
