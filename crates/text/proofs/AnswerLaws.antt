-- Laws of specs/Answers.antt: no line is taken, and one more.
-- Assumes nothing.
use Rattle.std.proofs.Common.{ℕ, ◌+◌, ◌≡◌, refl, Bool, true, List, [], ◌∷◌, ◌++◌, Option, MutBor, Bor, arith, length-append}
use Rattle.std.proofs.lemmas.Fn.{FoldsTo-push}
use Rattle.text.specs.Answers.{TakesAnswered, TakesOne, TakesMany}

module _ (post : Bor (List ℕ) → MutBor (List ℕ) → Option ℕ → MutBor (List ℕ) → Type 0) (n : ℕ) where
  pub takes_none : (before : Option (List ℕ)) → TakesMany post n 0 before before
  takes_none before = record { lines = []; counted = refl; taken = refl }

  module _ (count : ℕ) (before between after : Option (List ℕ)) (many : TakesMany post n count before between) where
    one_more : TakesOne post n between after true → TakesMany post n (count + 1) before after
    one_more (line, one) =
        record {
          lines = many.lines ++ (line ∷ []);
          counted = omega (arith, many.counted, length-append many.lines (line ∷ []));
          taken = FoldsTo-push (TakesAnswered post n) before many.lines between line after many.taken one;
        }

    pub takes_more : (goes_on : Bool) → goes_on ≡ true → TakesOne post n between after goes_on → TakesMany post n (count + 1) before after
    takes_more goes_on told one = one_more (rw told at one)
