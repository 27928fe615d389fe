-- Laws of specs/Calls.antt: what a done call writes, what a refused one leaves, and lists of calls taken apart.
-- Assumes nothing.
use Rattle.std.specs.Prelude.{Result, ⊤}
use Prim.Native.Nat.{ℕ}
use mathlib.Core.Path.{◌≡◌, refl, sym, ap, ◌∙◌}
use mathlib.Core.List.{List, [], ◌∷◌, ◌++◌}
use mathlib.Core.Option.{Option, none, some}
use native.Mathlib.Omega.{arith}
use lib.ListN.{length}
use Rattle.general.proofs.LeastLaws.{none_some}
use Rattle.encoding.specs.declared.operation.Operation.{Operation}
use Rattle.semantics.specs.declared.answer.Refusal.{Refusal}
use Rattle.semantics.specs.State.{State}
use Rattle.semantics.specs.Execute.{if_done}
use Rattle.semantics.proofs.Claims.{execution_keeps}
use Rattle.semantics.proofs.ExecuteLaws.{Does, Ends, does, stays, ends}
use Rattle.laws.specs.Calls.{Call, state_with, za_after, run, Move, decoded_of, move_of, decoded_move, moved, with_move, moves}

-- ---- one call

abbrev pub DoesCall : Call → List ℕ → Operation → Type 0
DoesCall c za o = Does c.settings c.word (state_with c za) o

-- a call is done, with the move of its operation, or has no move and leaves ZA
pub data CallEnds (c : Call) (za : List ℕ) : Type 0 where
  moves_by : (o : Operation) → DoesCall c za o → moved c za ≡ some (move_of c o) → CallEnds c za
  rests : moved c za ≡ none → za_after c za ≡ za → CallEnds c za

pub call_ends : (c : Call) (za : List ℕ) → CallEnds c za
unfolding moved
call_ends c za = go (ends c.settings c.word (state_with c za))
  where
    go : Ends c.settings c.word (state_with c za) → CallEnds c za
    go (does o d) =
        moves_by o d
        (ap (λ (a : Result ⊤ Refusal). if_done a none (decoded_move c (decoded_of c))) d.answer ∙
        ap (decoded_move c) d.decoded)
    go (stays r n e) = rests (ap (λ (a : Result ⊤ Refusal). if_done a none (decoded_move c (decoded_of c))) n) (ap (λ (t : State). t.za) e)

pub some_same : {A : Type 0} {a b : A} → some a ≡ some b → a ≡ b
some_same e = cc

-- a call that has a move is done
pub record HasMove (c : Call) (za : List ℕ) (m : Move) : Type 0 where
  pub operation : Operation
  pub does : DoesCall c za operation
  pub same : m ≡ move_of c operation

pub has_move : (c : Call) (za : List ℕ) (m : Move) → moved c za ≡ some m → HasMove c za m
has_move c za m e = go (call_ends c za)
  where
    go : CallEnds c za → HasMove c za m
    go (moves_by o d q) = record { operation = o; does = d; same = some_same (sym e ∙ q) }
    go (rests q k) = absurd (none_some (sym q ∙ e))

-- a call keeps ZA's length
pub call_long : (c : Call) (za : List ℕ) → length (za_after c za) ≡ length za
call_long c za = (execution_keeps c.settings c.word (state_with c za)).za

-- ---- lists of calls

pub run_append : (b a : List Call) (za : List ℕ) → run (b ++ a) za ≡ run a (run b za)
unfolding run
run_append [] a za = refl
run_append (c ∷ b) a za = run_append b a (za_after c za)

pub run_long : (cs : List Call) (za : List ℕ) → length (run cs za) ≡ length za
unfolding run
run_long [] za = refl
run_long (c ∷ cs) za = run_long cs (za_after c za) ∙ call_long c za

pub cons_same : {A : Type 0} {x y : A} {xs ys : List A} → x ∷ xs ≡ y ∷ ys → (x ≡ y) × (xs ≡ ys)
cons_same e = (cc, cc)

pub nil_cons : {A : Type 0} {x : A} {xs : List A} → [] ≡ x ∷ xs → ⊥
nil_cons e = let z : ◌≡◌ {A = ℕ} 0 1 = cc in omega arith

-- no moves, no change
pub quiet : (cs : List Call) (za : List ℕ) → moves cs za ≡ [] → run cs za ≡ za
unfolding run moves
quiet [] za e = refl
quiet (c ∷ cs) za e = go (call_ends c za) (quiet cs (za_after c za))
  where
    go : CallEnds c za → (moves cs (za_after c za) ≡ [] → run cs (za_after c za) ≡ za_after c za) → run cs (za_after c za) ≡ za
    go (moves_by o d q) k = absurd (nil_cons (sym (rw q at e)))
    go (rests q r) k = k (rw q at e) ∙ r

-- a list whose moves are two lists in a row is two lists of calls in a row
pub record Parts (cs : List Call) (za : List ℕ) (xs ys : List Move) : Type 0 where
  pub first : List Call
  pub second : List Call
  pub whole : cs ≡ first ++ second
  pub firsts : moves first za ≡ xs
  pub seconds : moves second (run first za) ≡ ys

later : (c : Call) (cs : List Call) (za : List ℕ) (xs xs' ys : List Move) → with_move (moved c za) xs' ≡ xs → Parts cs (za_after c za) xs' ys → Parts (c ∷ cs) za xs ys
unfolding run moves
later c cs za xs xs' ys e p =
    record { first = c ∷ p.first; second = p.second; whole = ap (λ (l : List Call). c ∷ l) p.whole; firsts = ap (with_move (moved c za)) p.firsts ∙ e; seconds = p.seconds }

pub parts : (cs : List Call) (za : List ℕ) (xs ys : List Move) → moves cs za ≡ xs ++ ys → Parts cs za xs ys
unfolding run moves
parts cs za [] ys e = record { first = []; second = cs; whole = refl; firsts = refl; seconds = e }
parts [] za (x ∷ xs) ys e = absurd (nil_cons e)
parts (c ∷ cs) za (x ∷ xs) ys e = go (call_ends c za) (parts cs (za_after c za) xs ys) (parts cs (za_after c za) (x ∷ xs) ys)
  where
    go : CallEnds c za → (moves cs (za_after c za) ≡ xs ++ ys → Parts cs (za_after c za) xs ys) → (moves cs (za_after c za) ≡ x ∷ xs ++ ys → Parts cs (za_after c za) (x ∷ xs) ys) → Parts (c ∷ cs) za (x ∷ xs) ys
    go (moves_by o d q) k l =
        let f : move_of c o ∷ moves cs (za_after c za) ≡ x ∷ xs ++ ys = rw q at e in
        let g = cons_same f in
        later c cs za (x ∷ xs) xs ys (ap (λ (m : Option Move). with_move m xs) q ∙ ap (λ (m : Move). m ∷ xs) g.0) (k g.1)
    go (rests q r) k l = later c cs za (x ∷ xs) (x ∷ xs) ys (ap (λ (m : Option Move). with_move m (x ∷ xs)) q) (l (rw q at e))
