-- Laws of specs/Line.antt: what is put where there is nothing to put, and texts that are put one after the other.
-- Assumes nothing.
use mathlib.Core.Path.{◌≡◌, refl, sym, ap, ◌∙◌}
use mathlib.Core.List.{List, [], ◌∷◌, ◌++◌}
use Prim.Native.Nat.{ℕ, suc, ◌+◌, ◌≤◌, min}
use native.Mathlib.Nat.{add-zero, add-suc, suc-add}
use native.Mathlib.Decide.{dec_le}
use native.Mathlib.Omega.{arith}
use lib.ListN.{length, set, length-append}
use lib.Seq.{sets, length-sets, length-take-le, set_out}
use Rattle.text.specs.Line.{Puts}

-- past the end nothing is set
sets_out : (l : List ℕ) (i : ℕ) (vs : List ℕ) → length l ≤ i → sets l i vs ≡ l
sets_out l i [] h = refl
sets_out l i (v ∷ vs) h = rw set_out (sets_out l (suc i) vs (omega arith))

-- two lists are set one after the other
sets_append : (l : List ℕ) (i : ℕ) (xs ys : List ℕ) → sets l i (xs ++ ys) ≡ sets (sets l i xs) (i + length xs) ys
sets_append l i [] ys = rw add-zero
sets_append l i (x ∷ xs) ys = rw (add-suc, ← suc-add) (sets_append (set l i x) (suc i) xs ys)

-- the end serves for any position past it
sets_min : (l : List ℕ) (i n : ℕ) (vs : List ℕ) → n ≡ min i (length l) → sets l n vs ≡ sets l i vs
sets_min l i n vs e = by_order (dec_le i (length l))
  where
    by_order : Dec (i ≤ length l) → sets l n vs ≡ sets l i vs
    by_order (yes h) = ap (λ (k : ℕ). sets l k vs) (omega arith)
    by_order (no h) = sets_out l n vs (omega arith) ∙ sym (sets_out l i vs (omega arith))

-- the buffer and the position tell the rest
pub puts_made : {before bytes after : List ℕ} {at next : ℕ} → after ≡ sets before at bytes → next ≡ min (at + length bytes) (length before) → Puts before at bytes after next
puts_made {before} {bytes} {after} {at} {next} e p =
    let within : next ≤ length after = omega (arith, length-sets before at bytes, ap length e) in
    record { line = e; position = p; within = (within, sym (length-take-le next after within)) }

-- the buffer keeps its length
pub puts_length : {a xs b : List ℕ} {at n : ℕ} → Puts a at xs b n → length b ≡ length a
puts_length {a} {xs} {b} {at} p = ap length p.line ∙ length-sets a at xs

-- what is put may be called by another name
pub puts_cong : {a xs ys b : List ℕ} {at n : ℕ} → xs ≡ ys → Puts a at xs b n → Puts a at ys b n
puts_cong e p = rw e at p

-- nothing is put
pub puts_nothing : {l : List ℕ} {at n : ℕ} → n ≡ min at (length l) → Puts l at [] l n
puts_nothing e = puts_made refl (rw add-zero e)

-- two texts are put one after the other
pub puts_append : {a xs b ys c : List ℕ} {at n m : ℕ} → Puts a at xs b n → Puts b n ys c m → Puts a at (xs ++ ys) c m
puts_append {a} {xs} {b} {ys} {c} {at} {n} {m} p q =
    let kept : length b ≡ length a = puts_length p in
    puts_made
    (q.line ∙ sets_min b (at + length xs) n ys (rw kept p.position) ∙ ap (λ (l : List ℕ). sets l (at + length xs) ys) p.line ∙ sym (sets_append a at xs ys))
    (rw length-append (omega (arith, p.position, q.position)))
