-- Laws of a run of words: what it keeps, and while it goes on what is left of it after some words are done.
-- Assumes nothing.
use Rattle.std.specs.Prelude.{Result, ⊤, Ok, Err}
use Prim.Native.Nat.{ℕ, zero, suc, ◌+◌, ◌<◌, ◌≤◌}
use mathlib.Core.Path.{◌≡◌, refl, sym, ap, ◌∙◌, subst}
use mathlib.Core.List.{List}
use native.Mathlib.Nat.{add-zero}
use native.Mathlib.Omega.{arith}
use lib.ListN.{length}
use Rattle.settings.specs.declared.Settings.{Settings}
use Rattle.semantics.specs.declared.answer.Refusal.{Refusal}
use Rattle.semantics.specs.State.{State}
use Rattle.semantics.specs.Execute.{Outcome, if_done, execute_of}
use Rattle.semantics.specs.Run.{Ran, one_more, run_of}
use Rattle.semantics.specs.Promise.{Executes}
use Rattle.semantics.specs.Claims.{Keeps}
use Rattle.semantics.proofs.ExecuteLaws.{SizedAt}
use Rattle.semantics.proofs.Claims.{execution_keeps}
use Rattle.listing.specs.declared.answer.ListingRefusal.TheVariants.{Refused}
use Rattle.listing.specs.Answer.{as_listed}
use Rattle.listing.specs.Words.{word_at, words_from}
use Rattle.listing.specs.Steps.{EndsAs}

-- ---- lengths

-- buffers as long as they were have the right lengths still
pub sized_keeps : (s : Settings) (t t' : State) → Keeps t t' → SizedAt s t → SizedAt s t'
sized_keeps s t t' k h =
    record {
      vectors = h.vectors;
      level = h.level;
      x = ap (λ (l : List ℕ). length l) k.x ∙ h.x;
      z = k.z ∙ h.z;
      p = ap (λ (l : List ℕ). length l) k.p ∙ h.p;
      za = k.za ∙ h.za;
      memory = omega (arith, k.memory, h.memory);
    }

pub keeps_refl : (t : State) → Keeps t t
keeps_refl t = record { x = refl; p = refl; z = refl; za = refl; memory = refl }

pub keeps_trans : (a b c : State) → Keeps a b → Keeps b c → Keeps a c
keeps_trans a b c f g = record { x = g.x ∙ f.x; p = g.p ∙ f.p; z = g.z ∙ f.z; za = g.za ∙ f.za; memory = g.memory ∙ f.memory }

-- ---- a run that goes on

-- a run of which some words were done before
abbrev pub words_on : ℕ → Ran → Ran
words_on i r = record { words = i + r.words; ending = r.ending }

-- one more of them
words_on-more : (i : ℕ) (r : Ran) → words_on i (one_more r) ≡ words_on (suc i) r
words_on-more i r = λ k. record { words = e k; ending = r.ending }
  where
    e : i + suc r.words ≡ suc i + r.words
    e = omega arith

-- none behind them
pub words_on-none : (i : ℕ) (o : Outcome) → words_on i (record { words = 0; ending = o }) ≡ record { words = i; ending = o }
words_on-none i o = λ k. record { words = add-zero i k; ending = o }

-- a run that ended so, as its function gives it
ends_as : (ran : Ran) (i : ℕ) (a : Result ⊤ Refusal) (t' : State) → ran ≡ record { words = i; ending = record { answer = a; state = t' } } → EndsAs ran (record { words = i; answer = as_listed a }) t'
ends_as ran i a t' e = (λ k. record { words = (sym e k).words; answer = as_listed (sym e k).ending.answer }, λ k. (sym e k).ending.state)

module _ (s : Settings) (l : List ℕ) (n : ℕ) (t : State) where
  -- i of n words are done and have left a state; what is left runs on from it
  pub record Onward (i : ℕ) (t' : State) : Type 0 where
    pub left : ℕ
    pub sum : i + left ≡ n
    pub kept : Keeps t t'
    pub rest : run_of s (words_from l 0 n) t ≡ words_on i (run_of s (words_from l i left) t')

  pub onward_begins : Onward 0 t
  onward_begins = record { left = n; sum = omega arith; kept = keeps_refl t; rest = λ k. record { words = e k; ending = (run_of s (words_from l 0 n) t).ending } }
    where
      e : (run_of s (words_from l 0 n) t).words ≡ 0 + (run_of s (words_from l 0 n) t).words
      e = omega arith

  module _ (i : ℕ) (t' : State) (o : Onward i t') where
    pub onward_sized : SizedAt s t → SizedAt s t'
    onward_sized = sized_keeps s t t' o.kept

    -- at the end all are done
    pub onward_ends : i ≤ n → n ≤ i → EndsAs (run_of s (words_from l 0 n) t) (record { words = n; answer = Ok tt }) t'
    unfolding run_of words_from
    onward_ends h g = go o.left o.sum o.rest
      where
        i_is : i ≡ n
        i_is = omega (arith, h, g)

        go : (m : ℕ) → i + m ≡ n → run_of s (words_from l 0 n) t ≡ words_on i (run_of s (words_from l i m) t') → EndsAs (run_of s (words_from l 0 n) t) (record { words = n; answer = Ok tt }) t'
        go zero q p = ends_as _ n (Ok tt) t' (p ∙ words_on-none i (record { answer = Ok tt; state = t' }) ∙ ap (λ (j : ℕ). record { words = j; ending = record { answer = Ok tt; state = t' } }) i_is)
        go (suc m) q p = absurd (omega (arith, g, q))

    module _ (w : ℕ) (a : Result ⊤ Refusal) (t'' : State) (h : i < n) (same : w ≡ word_at l i) (x : Executes s w t' a t'') where
      -- what the next word leaves has the lengths that were
      pub onward_kept : Keeps t t''
      onward_kept = keeps_trans t t' t'' o.kept (subst (Keeps t') (sym x.state) (execution_keeps s w t'))

      -- what is left, with the next word before it
      next : Result ⊤ Refusal → Outcome → ℕ → Ran
      next b r m = if_done b (record { words = 0; ending = r }) (one_more (run_of s (words_from l (suc i) m) r.state))

      -- the next word's outcome is what was given
      given : execute_of s (word_at l i) t' ≡ record { answer = a; state = t'' }
      given = ap (λ (v : ℕ). execute_of s v t') (sym same) ∙ (λ k. record { answer = sym x.answer k; state = sym x.state k })

      run_next : (m : ℕ) → i + m ≡ n → run_of s (words_from l 0 n) t ≡ words_on i (run_of s (words_from l i m) t') →
          (m' : ℕ) × (suc i + m' ≡ n) × (run_of s (words_from l 0 n) t ≡ words_on i (next a (record { answer = a; state = t'' }) m'))
      unfolding run_of words_from next
      run_next zero q p = absurd (omega (arith, h, q))
      run_next (suc m) q p = (m, omega (arith, q), p ∙ ap (λ (r : Outcome). words_on i (next r.answer r m)) given)

      -- a done word goes on with the state that it left
      pub onward_done : a ≡ Ok tt → Onward (i + 1) t''
      unfolding next
      onward_done e =
          let f = run_next o.left o.sum o.rest in
          let r = run_of s (words_from l (suc i) f.0) t'' in
          subst (λ (j : ℕ). Onward j t'') (omega arith)
          (record {
            left = f.0;
            sum = f.1;
            kept = onward_kept;
            rest = f.2 ∙ ap (λ (b : Result ⊤ Refusal). words_on i (next b (record { answer = a; state = t'' }) f.0)) e ∙ words_on-more i r;
          })

      -- a refused one is the last, and is not counted
      pub onward_refused : (r : Refusal) → a ≡ Err r → EndsAs (run_of s (words_from l 0 n) t) (record { words = i; answer = Err (Refused r) }) t''
      unfolding next
      onward_refused r e =
          let f = run_next o.left o.sum o.rest in
          subst (λ (b : Result ⊤ Refusal). EndsAs (run_of s (words_from l 0 n) t) (record { words = i; answer = as_listed b }) t'') e
          (ends_as _ i a t''
          (f.2 ∙ ap (λ (b : Result ⊤ Refusal). words_on i (next b (record { answer = a; state = t'' }) f.0)) e ∙ words_on-none i (record { answer = a; state = t'' })))
