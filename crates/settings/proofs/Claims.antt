-- Each theorem of specs/Claims.antt.
-- Assumes nothing.
use Prim.Native.Nat.{ℕ}
use mathlib.Core.Path.{◌≡◌, refl, sym, ap, ◌∙◌}
use mathlib.Core.Bool.{Bool, true, false, cond}
use mathlib.Core.List.{List, [], ◌∷◌}
use mathlib.Core.Logic.{◌⊎◌, inl, inr}
use native.Mathlib.Omega.{arith}
use lib.Dec.{leb}
use borrow.Author.Tests.{leb-true, le-leb, eqb-true, not-false}
use Rattle.std.specs.Prelude.{Result, Ok, Err, ⊤}
use Rattle.general.specs.Determined.{IsOneOf}
use Rattle.general.proofs.BoolLaws.{and_parts, by_test}
use Rattle.general.proofs.DeterminedLaws.{equal_determines, one_of_test, other_number}
use Rattle.settings.specs.Answer.{done, bad_settings, checked_number}
use Rattle.settings.specs.Settings.{is_vector_length, valid_vectors, valid_settings, check_of, check_number, Checks, settings_of, make_of, settings_made, Makes, lengths_of, length_numbers, Measures}
use Rattle.settings.specs.Lent.{is_off, is_on, no_settings, settings_in}
use Rattle.settings.specs.Claims.{five, FiveLengths, VectorsFit, LengthsGoByLargest, Items, Plain, ItemsChange, NoMachine, LentSettings, ChecksDetermine, MakesDetermine, MeasuresDetermine, SettingsDetermine}
use Rattle.settings.specs.declared.Settings.{Settings}
use Rattle.settings.specs.declared.answer.BadSettings.{BadSettings}
use Rattle.settings.specs.declared.answer.RefusedSettings.{RefusedSettings}
use Rattle.settings.proofs.SettingsLaws.{five_lengths, Vectors, vectors_parts, vectors_true, vectors_false, vector_length_long, checks_valid, checks_bad}
use Rattle.settings.proofs.LentLaws.{settings_few, settings_many}

pub is_five_lengths : FiveLengths
unfolding is_vector_length
is_five_lengths B = (five_lengths (IsOneOf five) (inl refl) (inr (inl refl)) (inr (inr (inl refl))) (inr (inr (inr (inl refl)))) (inr (inr (inr (inr (inl refl))))) B, back)
  where
    back : IsOneOf five B → is_vector_length B ≡ true
    back (inl e) = ap is_vector_length e
    back (inr (inl e)) = ap is_vector_length e
    back (inr (inr (inl e))) = ap is_vector_length e
    back (inr (inr (inr (inl e)))) = ap is_vector_length e
    back (inr (inr (inr (inr (inl e))))) = ap is_vector_length e
    back (inr (inr (inr (inr (inr e))))) = absurd e

pub vectors_fit : VectorsFit
vectors_fit s = (
  λ e. let v = vectors_parts s e in record { vector = (is_five_lengths _).0 v.vector; largest = (is_five_lengths _).0 v.largest; fit = v.fit },
  λ f. vectors_true s (record { vector = (is_five_lengths _).1 f.vector; largest = (is_five_lengths _).1 f.largest; fit = f.fit }),
)

-- a test that gives 0 passed
pub passed : (b : Bool) → cond b done bad_settings ≡ 0 → b ≡ true
passed true e = refl
passed false e = absurd (omega arith)

-- and one that gives 1 did not
pub failed : (b : Bool) → cond b done bad_settings ≡ 1 → b ≡ false
failed true e = absurd (omega arith)
failed false e = refl

checks_determine : (s : Settings) → ChecksDetermine s
checks_determine s = record {
  met = met (by_test (valid_settings s));
  determined = equal_determines (Checks s) (check_of s) (λ r p. p.equal);
  numbers = λ r p. one_of_test (valid_settings s) (0 ∷ 1 ∷ []) _ _ _ (inl refl) (inr (inl refl)) p.number;
  done = λ r p e.
      let v = and_parts (valid_vectors s) (leb s.level 3) (passed (valid_settings s) (sym p.number ∙ e)) in
      ((vectors_fit s).0 v.0, leb-true s.level 3 v.1);
  valid = λ r p f l. p.number ∙ rw ((vectors_fit s).1 f, le-leb s.level 3 l);
}
  where
    met : (valid_settings s ≡ true) ⊎ (valid_settings s ≡ false) → (r : Result ⊤ BadSettings) × Checks s r
    met (inl e) = (Ok tt, checks_valid s e)
    met (inr e) = (Err (record {}), checks_bad s e)

pub lengths_go_by_largest : LengthsGoByLargest
lengths_go_by_largest s = record { stride = refl; lengths = refl }

-- any settings, item by item
items : {s : Settings} → Items s s.vector_bytes s.level s.streaming s.za s.memory_address s.stack_check s.largest_vector_bytes
items = record { vector_bytes = refl; level = refl; streaming = refl; za = refl; memory_address = refl; stack_check = refl; largest = refl }

pub items_change : ItemsChange
items_change s =
    record {
      streaming = λ on. items;
      za = λ on. items;
      memory_address = λ a. items;
      stack_check = λ on. items;
    }

-- a switch as a number and back
switch : (b : Bool) → is_on (cond b 1 0) ≡ b
switch true = refl
switch false = refl

-- that of the stack check, which is given by whether it is off
unswitch : (b : Bool) → is_off (cond b 0 1) ≡ b
unswitch true = refl
unswitch false = refl

-- no vector has 0 bytes
no_machine : (s : Settings) → no_settings ≡ s → NoMachine s
unfolding is_vector_length
no_machine s e = record { check = ap check_number (sym e); vectors = ap valid_vectors (sym e) }

-- and none starts 0 bytes after another
none_apart : (s : Settings) → s.largest_vector_bytes ≡ 0 → NoMachine s
none_apart s e =
    let v = vectors_false s (λ (w : Vectors s). absurd (omega (arith, vector_length_long _ w.largest, e))) in
    record { check = rw v; vectors = v }

off_is_0 : (n : ℕ) → is_on n ≡ false → n ≡ 0
off_is_0 n e = eqb-true n 0 (not-false _ e)

pub lent_settings : LentSettings
lent_settings = record {
  whole = λ s. rw (switch s.streaming, switch s.za, unswitch s.stack_check);
  off = off_is_0;
  on = λ n e. eqb-true n 0 e;
  first_two = λ B l. items;
  first_three = λ B l a. items;
  first_four = λ B l a b. items;
  first_five = λ B l a b c. items;
  first_six = λ B l a b c d. items;
  all_seven = λ B l a b c d S. items;
  zero = λ B l a b c d. none_apart (settings_in (B ∷ l ∷ a ∷ b ∷ c ∷ d ∷ 0 ∷ [])) refl;
  few = λ l h. no_machine (settings_in l) (settings_few l h);
  many = λ l h. no_machine (settings_in l) (settings_many l (omega (arith, h)) h);
}

-- settings with vector lengths, a level and nothing else
plain : (s : Settings) (B S l : ℕ) → s ≡ settings_of B S l → Plain s B S l
plain s B S l e = record {
  vector_bytes = ap (λ (s : Settings). s.vector_bytes) e;
  level = ap (λ (s : Settings). s.level) e;
  streaming = ap (λ (s : Settings). s.streaming) e;
  za = ap (λ (s : Settings). s.za) e;
  memory_address = ap (λ (s : Settings). s.memory_address) e;
  stack_check = ap (λ (s : Settings). s.stack_check) e;
  largest = ap (λ (s : Settings). s.largest_vector_bytes) e;
}

makes_determine : (B S level : ℕ) → MakesDetermine B S level
makes_determine B S level = record {
  met = (make_of B S level, record { equal = refl; number = number (valid_settings (settings_of B S level)) });
  determined = equal_determines (Makes B S level) (make_of B S level) (λ r p. p.equal);
  numbers = λ r p. one_of_test (valid_settings (settings_of B S level)) (0 ∷ 1 ∷ []) _ _ _ (inl refl) (inr (inl refl)) p.number;
  done = λ r p e.
      let v = and_parts (valid_vectors (settings_of B S level)) (leb level 3) (passed (valid_settings (settings_of B S level)) (sym p.number ∙ e)) in
      ((vectors_fit (settings_of B S level)).0 v.0, leb-true level 3 v.1);
  valid = λ r p f l. p.number ∙ rw ((vectors_fit (settings_of B S level)).1 f, le-leb level 3 l);
  made = λ r p e.
      plain (settings_made r) B S level (ap settings_made p.equal ∙ ap (λ (b : Bool). settings_made (made b)) (passed (valid_settings (settings_of B S level)) (sym p.number ∙ e)));
  refused = λ r p n.
      plain (settings_made r) 16 16 0 (ap settings_made (p.equal ∙ other_number (valid_settings (settings_of B S level)) _ _ _ _ _ _ p.number refl n));
}
  where
    made : Bool → Result Settings RefusedSettings
    made b = cond b (Ok (settings_of B S level)) (Err (record { settings = settings_of 16 16 0 }))

    number : (b : Bool) → checked_number (made b) ≡ cond b done bad_settings
    number true = refl
    number false = refl

measures_determine : (s : Settings) (ls : List ℕ) → MeasuresDetermine s ls
measures_determine s ls = record {
  met = ((answer (valid_vectors s), lengths (valid_vectors s)), record { answer = refl; number = number (valid_vectors s); lengths = refl });
  determined = equal_determines (λ (o : Result ⊤ BadSettings × List ℕ). Measures s ls o.0 o.1) (answer (valid_vectors s), lengths (valid_vectors s)) (λ o p i. (p.answer i, p.lengths i));
  numbers = λ r ls' p. one_of_test (valid_vectors s) (0 ∷ 1 ∷ []) _ _ _ (inl refl) (inr (inl refl)) p.number;
  fitting = λ r ls' p e. (vectors_fit s).0 (passed (valid_vectors s) (sym p.number ∙ e));
  valid = λ r ls' p f. p.number ∙ rw ((vectors_fit s).1 f);
  done = λ r ls' p e. p.lengths ∙ ap (λ (b : Bool). lengths b) (passed (valid_vectors s) (sym p.number ∙ e));
  refused = λ r ls' p. other_number (valid_vectors s) _ _ _ _ _ _ p.number p.lengths;
}
  where
    answer : Bool → Result ⊤ BadSettings
    answer b = cond b (Ok tt) (Err (record {}))

    lengths : Bool → List ℕ
    lengths b = cond b (length_numbers (lengths_of s)) ls

    number : (b : Bool) → checked_number (answer b) ≡ cond b done bad_settings
    number true = refl
    number false = refl

pub settings_determine : SettingsDetermine
settings_determine = record { checks = checks_determine; makes = makes_determine; measures = measures_determine }
