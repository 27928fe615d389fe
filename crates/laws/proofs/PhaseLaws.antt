-- A phase of the crossing law: a list of calls whose done ones each write within one slice of a tile, all in one direction.
-- Rows going in and columns coming out are both such a phase, so each law here serves both.
-- Assumes nothing.
use Prim.Native.Nat.{ℕ, suc, ◌*◌, ◌<◌, ◌≤◌}
use mathlib.Core.Path.{◌≡◌, refl, sym, ap, ◌∙◌}
use mathlib.Core.Bool.{Bool, true, false}
use mathlib.Core.List.{List, [], ◌∷◌, ◌++◌, map}
use mathlib.Core.Option.{none, some}
use mathlib.Core.Logic.{◌⊎◌, inl, inr}
use native.Mathlib.Omega.{arith}
use lib.Dec.{eqb}
use lib.ListN.{get_or}
use borrow.Author.Tests.{eqb-true, eqb-false, eq-eqb, ne_eqb}
use Rattle.general.proofs.LeastLaws.{none_some}
use Rattle.general.proofs.BoolLaws.{by_test}
use Rattle.tiles.specs.declared.direction.Direction.{Direction}
use Rattle.general.specs.Scatter.{scatter}
use Rattle.tiles.specs.Tile.{byte_of, slice_at, Outside}
use Rattle.tiles.proofs.SliceLaws.{written_beside, written_outside}
use Rattle.laws.specs.Calls.{Call, za_after, run, Move, move_of, moved, moves}
use Rattle.laws.specs.Crossing.{occurrences}
use Rattle.laws.proofs.CallLaws.{CallEnds, moves_by, rests, call_ends, some_same, cons_same, nil_cons}

-- ---- a list of calls with the slices that its moves name

-- f names the move of a slice; each call is refused, or done with the move of the next slice
pub data Trace (f : ℕ → Move) : List Call → List ℕ → List ℕ → Type 0 where
  ended : {za : List ℕ} → Trace f [] za []
  rested : {c : Call} {cs : List Call} {za l : List ℕ} → moved c za ≡ none → za_after c za ≡ za → Trace f cs (za_after c za) l → Trace f (c ∷ cs) za l
  went : {c : Call} {cs : List Call} {za : List ℕ} {x : ℕ} {l : List ℕ} → moved c za ≡ some (f x) → Trace f cs (za_after c za) l → Trace f (c ∷ cs) za (x ∷ l)

pub trace : (f : ℕ → Move) (cs : List Call) (za l : List ℕ) → moves cs za ≡ map f l → Trace f cs za l
unfolding moves
trace f [] za [] e = ended
trace f [] za (x ∷ l) e = absurd (nil_cons e)
trace f (c ∷ cs) za l e = go l e (call_ends c za) (λ l. trace f cs (za_after c za) l)
  where
    go : (l : List ℕ) → moves (c ∷ cs) za ≡ map f l → CallEnds c za → ((l : List ℕ) → moves cs (za_after c za) ≡ map f l → Trace f cs (za_after c za) l) → Trace f (c ∷ cs) za l
    go l e (rests q r) k = rested q r (k l (rw q at e))
    go [] e (moves_by o d q) k = absurd (nil_cons (sym (rw q at e)))
    go (x ∷ l) e (moves_by o d q) k =
        let p : move_of c o ∷ moves cs (za_after c za) ≡ f x ∷ map f l = rw q at e in
        let g = cons_same p in
        went (q ∙ ap some g.0) (k l g.1)

pub occurrences_here : (k x : ℕ) (l : List ℕ) → x ≡ k → occurrences k (x ∷ l) ≡ suc (occurrences k l)
unfolding occurrences
occurrences_here k x l e = rw (eq-eqb x k e)

pub occurrences_past : (k x : ℕ) (l : List ℕ) → (x ≡ k → ⊥) → occurrences k (x ∷ l) ≡ occurrences k l
unfolding occurrences
occurrences_past k x l n = rw (ne_eqb x k n)

module _ (S B m n : ℕ) (size : n * m ≡ B) (fit : B ≤ S) (t : ℕ) (tile : t < m) (d : Direction) where
  -- a call writes within slice k
  pub record Writes (c : Call) (za : List ℕ) (k : ℕ) : Type 0 where
    pub within : k < n
    pub on : ℕ → Bool
    pub val : ℕ → ℕ
    pub is : za_after c za ≡ scatter (slice_at S m t d k) on val B za

  module _ (f : ℕ → Move) (f-same : (x y : ℕ) → f x ≡ f y → x ≡ y) (writes : (c : Call) (za : List ℕ) (k : ℕ) → moved c za ≡ some (f k) → Writes c za k) where
    beside_call : (c : Call) (za : List ℕ) (x k : ℕ) → moved c za ≡ some (f x) → k < n → (x ≡ k → ⊥) → (e i : ℕ) → e < n → i < m → get_or (za_after c za) (byte_of S m t d k e i) 0 ≡ get_or za (byte_of S m t d k e i) 0
    beside_call c za x k q hk ne e i he hi =
        let w = writes c za x q in
        rw w.is (written_beside S B m n size fit t tile d w.on w.val za x k e i w.within hk he hi (λ r. ne (sym r)))

    -- a slice that no done call names is not the next one, nor among those after it
    not_next : (k x : ℕ) (l : List ℕ) → occurrences k (x ∷ l) ≡ 0 → x ≡ k → ⊥
    not_next k x l z y = omega (arith, occurrences_here k x l y)

    not_later : (k x : ℕ) (l : List ℕ) → occurrences k (x ∷ l) ≡ 0 → occurrences k l ≡ 0
    not_later k x l z = sym (occurrences_past k x l (not_next k x l z)) ∙ z

    -- the bytes of a slice that no done call names stay
    pub unnamed_stays : {cs : List Call} {za l : List ℕ} (k : ℕ) → k < n → Trace f cs za l → occurrences k l ≡ 0 → (e i : ℕ) → e < n → i < m → get_or (run cs za) (byte_of S m t d k e i) 0 ≡ get_or za (byte_of S m t d k e i) 0
    unfolding run
    unnamed_stays k hk ended z e i he hi = refl
    unnamed_stays k hk (rested q r u) z e i he hi = unnamed_stays k hk u z e i he hi ∙ ap (λ (a : List ℕ). get_or a (byte_of S m t d k e i) 0) r
    unnamed_stays k hk (went {c = c} {za = za} {x = x} {l = l} q u) z e i he hi =
        unnamed_stays k hk u (not_later k x l z) e i he hi ∙ beside_call c za x k q hk (not_next k x l z) e i he hi

    -- the bytes outside the tile stay
    pub outside_stays : {cs : List Call} {za l : List ℕ} (p : ℕ) → Outside S m n t p → Trace f cs za l → get_or (run cs za) p 0 ≡ get_or za p 0
    unfolding run
    outside_stays p o ended = refl
    outside_stays p o (rested q r u) = outside_stays p o u ∙ ap (λ (a : List ℕ). get_or a p 0) r
    outside_stays p o (went {c = c} {za = za} {x = x} q u) =
        let w = writes c za x q in
        outside_stays p o u ∙ rw w.is (written_outside S B m n size fit t tile d w.on w.val za x p w.within o)

    -- a call of the list that is done has the move of a slice of l
    pub record Listed (l : List ℕ) (mv : Move) : Type 0 where
      pub slice : ℕ
      pub named : occurrences slice l ≡ 0 → ⊥
      pub same : mv ≡ f slice

    pub listed : {cs : List Call} {za l : List ℕ} → Trace f cs za l → (b a : List Call) (c : Call) (mv : Move) → cs ≡ b ++ c ∷ a → moved c (run b za) ≡ some mv → Listed l mv
    unfolding run
    listed ended [] a c mv e q = absurd (nil_cons e)
    listed ended (y ∷ b) a c mv e q = absurd (nil_cons e)
    listed (rested {c = c'} {za = za} r w u) [] a c mv e q =
        absurd (none_some (sym r ∙ ap (λ (y : Call). moved y za) (cons_same e).0 ∙ q))
    listed (rested {c = c'} {za = za} r w u) (y ∷ b) a c mv e q =
        listed u b a c mv (cons_same e).1 (ap (λ (y : Call). moved c (run b (za_after y za))) (cons_same e).0 ∙ q)
    listed (went {c = c'} {za = za} {x = x} {l = l} r u) [] a c mv e q =
        record {
          slice = x;
          named = λ z. not_next x x l z refl;
          same = some_same (sym (ap (λ (y : Call). moved y za) (cons_same e).0 ∙ q) ∙ r);
        }
    listed (went {c = c'} {za = za} {x = x} {l = l} r u) (y ∷ b) a c mv e q =
        let h = listed u b a c mv (cons_same e).1 (ap (λ (y : Call). moved c (run b (za_after y za))) (cons_same e).0 ∙ q) in
        record { slice = h.slice; named = λ z. h.named (not_later h.slice x l z); same = h.same }

    -- the one call that names slice k: the slice is as it was until that call, and afterwards as the call left it
    pub record Single (cs : List Call) (za : List ℕ) (k : ℕ) : Type 0 where
      pub before : List Call
      pub call : Call
      pub after : List Call
      pub place : cs ≡ before ++ call ∷ after
      pub move : moved call (run before za) ≡ some (f k)
      pub until : (e i : ℕ) → e < n → i < m → get_or (run before za) (byte_of S m t d k e i) 0 ≡ get_or za (byte_of S m t d k e i) 0
      pub since : (e i : ℕ) → e < n → i < m → get_or (run cs za) (byte_of S m t d k e i) 0 ≡ get_or (za_after call (run before za)) (byte_of S m t d k e i) 0
      pub only : (b a : List Call) (c : Call) → cs ≡ b ++ c ∷ a → moved c (run b za) ≡ some (f k) → b ≡ before

    -- a call before does not touch the slice and does not name it
    single_later : (c : Call) (cs : List Call) (za : List ℕ) (k : ℕ) → (moved c za ≡ some (f k) → ⊥) → ((e i : ℕ) → e < n → i < m → get_or (za_after c za) (byte_of S m t d k e i) 0 ≡ get_or za (byte_of S m t d k e i) 0) → Single cs (za_after c za) k → Single (c ∷ cs) za k
    unfolding run
    single_later c cs za k other keeps h =
        record {
          before = c ∷ h.before;
          call = h.call;
          after = h.after;
          place = ap (λ (l : List Call). c ∷ l) h.place;
          move = h.move;
          until = λ e i he hi. h.until e i he hi ∙ keeps e i he hi;
          since = h.since;
          only = only;
        }
      where
        only : (b a : List Call) (c' : Call) → c ∷ cs ≡ b ++ c' ∷ a → moved c' (run b za) ≡ some (f k) → b ≡ c ∷ h.before
        only [] a c' e q = absurd (other (ap (λ (y : Call). moved y za) (cons_same e).0 ∙ q))
        only (y ∷ b) a c' e q =
            let same : c ≡ y = (cons_same e).0 in
            let rest = h.only b a c' (cons_same e).1 (ap (λ (y : Call). moved c' (run b (za_after y za))) same ∙ q) in
            ap (λ (z : Call). z ∷ b) (sym same) ∙ ap (λ (l : List Call). c ∷ l) rest

    -- the first call names it, and none after it
    single_first : (c : Call) (cs : List Call) (za l : List ℕ) (k : ℕ) → k < n → moved c za ≡ some (f k) → Trace f cs (za_after c za) l → occurrences k l ≡ 0 → Single (c ∷ cs) za k
    unfolding run
    single_first c cs za l k hk q u z =
        record {
          before = [];
          call = c;
          after = cs;
          place = refl;
          move = q;
          until = λ e i he hi. refl;
          since = λ e i he hi. unnamed_stays k hk u z e i he hi;
          only = only;
        }
      where
        only : (b a : List Call) (c' : Call) → c ∷ cs ≡ b ++ c' ∷ a → moved c' (run b za) ≡ some (f k) → b ≡ []
        only [] a c' e r = refl
        only (y ∷ b) a c' e r =
            let h = listed u b a c' (f k) (cons_same e).1 (ap (λ (y : Call). moved c' (run b (za_after y za))) (cons_same e).0 ∙ r) in
            absurd (h.named (ap (λ (j : ℕ). occurrences j l) (sym (f-same k h.slice h.same)) ∙ z))

    pub single : {cs : List Call} {za l : List ℕ} (k : ℕ) → k < n → Trace f cs za l → occurrences k l ≡ 1 → Single cs za k
    unfolding occurrences
    single k hk ended o = absurd (omega arith)
    single k hk (rested {c = c} {cs = cs} {za = za} q r u) o =
        single_later c cs za k (λ y. none_some (sym q ∙ y)) (λ e i he hi. ap (λ (a : List ℕ). get_or a (byte_of S m t d k e i) 0) r) (single k hk u o)
    single k hk (went {c = c} {cs = cs} {za = za} {x = x} {l = l} q u) o = go (by_test (eqb x k)) (single k hk u)
      where
        go : (eqb x k ≡ true) ⊎ (eqb x k ≡ false) → (occurrences k l ≡ 1 → Single cs (za_after c za) k) → Single (c ∷ cs) za k
        go (inl y) v =
            let e = eqb-true x k y in
            single_first c cs za l k hk (q ∙ ap (λ (j : ℕ). some (f j)) e) u (let h = occurrences_here k x l e in omega arith)
        go (inr y) v =
            let ne = eqb-false x k y in
            single_later c cs za k (λ r. ne (f-same x k (some_same (sym q ∙ r)))) (beside_call c za x k q hk ne) (v (sym (occurrences_past k x l ne) ∙ o))
