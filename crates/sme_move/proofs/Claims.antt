-- Each theorem of specs/Claims.antt.
-- Assumes nothing.
use Rattle.std.specs.Prelude.{Result, ⊤}
use Prim.Native.Nat.{ℕ}
use mathlib.Core.Path.{◌≡◌, refl, sym, ap, ◌∙◌, subst}
use mathlib.Core.Bool.{Bool, false, cond}
use mathlib.Core.List.{List, [], ◌∷◌}
use mathlib.Core.Logic.{inl, inr}
use native.Mathlib.Omega.{arith}
use lib.ListN.{get_or}
use borrow.Author.Tests.{eq-eqb, ne_eqb}
use Rattle.general.specs.Determined.{IsOneOf}
use Rattle.general.proofs.DeterminedLaws.{equal_determines, one_of_test, other_number}
use Rattle.settings.specs.Answer.{Answer, answer_with, nth_value, done, bad_settings}
use Rattle.settings.specs.Settings.{valid_vectors, valid_settings, lengths_of, length_numbers}
use Rattle.settings.specs.Lent.{settings_in}
use Rattle.settings.specs.Results.{filled}
use Rattle.settings.specs.declared.Settings.{Settings}
use Rattle.settings.proofs.ResultLaws.{results_fill}
use Rattle.settings.proofs.Claims.{vectors_fit, passed, failed, lent_settings}
use Rattle.encoding.specs.Codec.{decode_answer, encode_answer}
use Rattle.encoding.proofs.AnswerLaws.{decode_answered, encode_answered}
use Rattle.semantics.specs.declared.answer.Refusal.{Refusal}
use Rattle.semantics.specs.Answer.{executed_number, result_numbers}
use Rattle.semantics.specs.State.{State, public_of}
use Rattle.semantics.specs.Lines.{answer_in_numbers}
use Rattle.semantics.specs.Execute.{execute_of}
use Rattle.semantics.proofs.AnswerLaws.{executed_numbers, executed_zeros}
use Rattle.semantics.proofs.Claims.{definition_executes, executing_determines, answers_exactly}
use Rattle.sme_move.specs.Export.{Exports, fields_after, DecodeExports, EncodeExports, LengthExports}
use Rattle.sme_move.specs.Claims.{ExportsDetermine, DecodeExportsDetermine, EncodeExportsDetermine, LengthExportsDetermine, AnswersNoMachine, ExportsAllDetermine}

-- ---- execution

exports_determine : (s : Settings) (w : ℕ) (t : State) (rs : List ℕ) → ExportsDetermine s w t rs
exports_determine s w t rs = record {
  met = ((executed_number a, filled (result_numbers a) rs, (execute_of s w t).state), record { answer = a; executes = definition_executes s w t; number = refl; results = refl });
  determined = equal_determines (λ (o : ℕ × List ℕ × State). Exports s w t rs o.0 o.1 o.2) (executed_number a, filled (result_numbers a) rs, (execute_of s w t).state)
      (λ o p i. (number p i, (p.results ∙ ap (λ (e : Result ⊤ Refusal). filled (result_numbers e) rs) p.executes.answer) i, p.executes.state i));
  numbers = λ r rs' t' p. subst (IsOneOf (0 ∷ 1 ∷ 2 ∷ 3 ∷ 4 ∷ 5 ∷ 6 ∷ 7 ∷ [])) (sym p.number) (executed_numbers p.answer);
  table = λ r rs' t' p.
      (p.number ∙ ap (λ (a : Answer). a.number) p.executes.numbers, p.results ∙ ap (λ (a : Answer). filled (nth_value a 0 ∷ nth_value a 1 ∷ []) rs) p.executes.numbers);
  refused = λ r rs' t' p n. (executing_determines s w t).refused p.answer t' p.executes (λ e. n (p.number ∙ e));
  outside = λ r rs' t' p e.
      let given = p.executes.answer in
      let o = (answers_exactly s w t).1.seven (sym (p.number ∙ ap executed_number given) ∙ e) in
      (o, p.results ∙ ap (λ (a : Result ⊤ Refusal). filled (result_numbers a) rs) given ∙ (λ i. filled (o.told_address i ∷ o.told_element i ∷ []) rs));
  zeros = λ r rs' t' p n. p.results ∙ ap (λ (ns : List ℕ). filled ns rs) (executed_zeros p.answer (λ e. n (p.number ∙ e)));
}
  where
    a : Result ⊤ Refusal
    a = (execute_of s w t).answer

    number : {r : ℕ} {rs' : List ℕ} {t' : State} → Exports s w t rs r rs' t' → r ≡ executed_number (execute_of s w t).answer
    number p = p.number ∙ ap executed_number p.executes.answer

-- ---- words

decode_exports_determine : (w level : ℕ) (f : List ℕ) → DecodeExportsDetermine w level f
decode_exports_determine w level f = record {
  determined = equal_determines (λ (o : ℕ × List ℕ). DecodeExports w level f o.0 o.1) ((decode_answer w level).number, fields_after (decode_answer w level) f) (λ o p i. (p.number i, p.fields i));
  numbers = λ r f' p. subst (IsOneOf (0 ∷ 1 ∷ 3 ∷ [])) (sym p.number) (decode_answered w level).number;
  number = λ r f' p. p.number;
  done = λ r f' p e. p.fields ∙ ap (λ (b : Bool). cond b (decode_answer w level).values f) (eq-eqb (decode_answer w level).number done (sym p.number ∙ e));
  refused = λ r f' p n. p.fields ∙ ap (λ (b : Bool). cond b (decode_answer w level).values f) (ne_eqb (decode_answer w level).number done (λ e. n (p.number ∙ e)));
}

encode_exports_determine : (f : List ℕ) → EncodeExportsDetermine f
encode_exports_determine f = record {
  determined = equal_determines (λ (o : ℕ × ℕ). EncodeExports f o.0 o.1) ((encode_answer f).number, nth_value (encode_answer f) 0) (λ o p i. (p.number i, p.word i));
  numbers = λ r w p. subst (IsOneOf (0 ∷ 8 ∷ [])) (sym p.number) (encode_answered f).number;
  table = λ r w p. (p.number, p.word);
  refused = λ r w p n. p.word ∙ ap (λ (vs : List ℕ). get_or vs 0 0) ((encode_answered f).values (λ e. n (p.number ∙ e)));
}

-- ---- lengths

length_exports_determine : (s : Settings) (l : List ℕ) → LengthExportsDetermine s l
length_exports_determine s l = record {
  determined = equal_determines (λ (o : ℕ × List ℕ). LengthExports s l o.0 o.1) _ (λ o p i. (p.number i, p.lengths i));
  numbers = λ r l' p. one_of_test allowed (0 ∷ 1 ∷ []) _ _ _ (inl refl) (inr (inl refl)) p.number;
  fitting = λ r l' p e. (vectors_fit s).0 (passed allowed (sym p.number ∙ e));
  valid = λ r l' p f. p.number ∙ rw ((vectors_fit s).1 f);
  done = λ r l' p e. p.lengths ∙ ap (λ (b : Bool). cond b (length_numbers (lengths_of s)) l) (passed allowed (sym p.number ∙ e));
  refused = λ r l' p. other_number allowed _ _ _ _ _ _ p.number p.lengths;
}
  where
    allowed : Bool
    allowed = valid_vectors s

-- ---- too few or too many settings

no_machine : (s : Settings) → valid_settings s ≡ false → valid_vectors s ≡ false → AnswersNoMachine s
unfolding answer_in_numbers
no_machine s e f = record {
  executes = λ w t rs r rs' t' p.
      let q = exports_determine s w t rs in
      let one = (q.table r rs' t' p).0 ∙ ap (λ (a : Answer). a.number) (bad_settings_lem w t) in
      (one, q.zeros r rs' t' p (λ g. omega (arith, one, g)), q.refused r rs' t' p (λ g. omega (arith, one, g)));
  checks = rw e;
  lengths = λ l r l' p. (p.number ∙ rw f, p.lengths ∙ rw f);
}
  where
    bad_settings_lem : (w : ℕ) (t : State) → answer_in_numbers s w (public_of t) ≡ answer_with bad_settings []
    bad_settings_lem w t = rw e

pub exports_all_determine : ExportsAllDetermine
exports_all_determine = record {
  executes = exports_determine;
  results = results_fill;
  decodes = decode_exports_determine;
  encodes = encode_exports_determine;
  lengths = length_exports_determine;
  zero = λ B l a b c d. let q = lent_settings.zero B l a b c d in no_machine (settings_in (B ∷ l ∷ a ∷ b ∷ c ∷ d ∷ 0 ∷ [])) (failed _ q.check) q.vectors;
  few = λ given h. let q = lent_settings.few given h in no_machine (settings_in given) (failed _ q.check) q.vectors;
  many = λ given h. let q = lent_settings.many given h in no_machine (settings_in given) (failed _ q.check) q.vectors;
}
