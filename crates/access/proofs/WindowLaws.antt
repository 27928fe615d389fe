-- Laws of specs/Window.antt: which bytes are covered, and what is read of memory and written back there.
-- Assumes nothing.
use Rattle.std.proofs.Common.{◌≡◌, ℕ, ◌+◌, ◌-◌, ◌^◌, ◌<◌, ◌≤◌, min, Bool, true, cond, ◌&&◌, ltb, leb, ◌⊎◌, List, ◌++◌, length, get_or, take, drop, length-take-le, get_or-take, sym, refl, ap, ◌∙◌, subst, inl, inr, ⊎_elim, zero-add, arith, ltb-true, lt-ltb, le-leb, leb-true}
use native.Mathlib.Decide.{dec_lt}
use lib.ListN.{get_or-eq_default}
use borrow.Rule.Slice.PartMut.{put_mid}
use Rattle.general.specs.Scatter.{scatter, all, onwards}
use Rattle.general.proofs.BoolLaws.{and_parts, and_both, or_parts, or_right, by_test}
use Rattle.general.proofs.ScatterLaws.{length-scatter, get_or-scatter, get_or-scatter_other, lists_agree}
use Rattle.moves.proofs.PartLaws.{lent, lent_length, lent_byte, lent_scatter}
use Rattle.access.specs.declared.window.Window.{Window}
use Rattle.access.specs.Window.{covered, Fits, Placed, copied, window_read, window_written}

-- ---- which bytes are covered: those of the first part and of the second, and no other

module _ (w : Window) (k : ℕ) where
  pub covered_cases : covered w k ≡ true → (k < w.head) ⊎ ((w.skip ≤ k) × (k < w.skip + w.tail))
  covered_cases e =
      ⊎_elim (λ a. inl (ltb-true _ _ a))
      (λ b. let p = and_parts _ _ b in inr (leb-true _ _ p.0, ltb-true _ _ p.1))
      (or_parts (ltb k w.head) (leb w.skip k && ltb k (w.skip + w.tail)) e)

  pub covered_first : k < w.head → covered w k ≡ true
  covered_first h = rw (lt-ltb k w.head h)

  pub covered_second : w.skip ≤ k → k < w.skip + w.tail → covered w k ≡ true
  covered_second h t = or_right (ltb k w.head) _ (and_both _ _ (le-leb _ _ h) (lt-ltb _ _ t))

-- what fits in a vector fits in a longer one
pub fits_more : {w : Window} {n n' lm : ℕ} → Fits w n lm → n ≤ n' → Fits w n' lm
fits_more f h =
    record { end = omega arith; first = f.first; second = f.second; apart = f.apart }

-- what holds of each byte of both parts, with its index of memory, holds of each covered byte with its place
by_part : {w : Window} {place : ℕ → ℕ} → Placed w place → (P : ℕ → ℕ → Type 0) → ((k : ℕ) → k < w.head → P k (w.at + k)) → ((k : ℕ) → k < w.tail → P (w.skip + k) k) → (k : ℕ) → covered w k ≡ true → P k (place k)
by_part {w} {place} placed P first second k e =
    ⊎_elim (λ h. rw (placed.first k h) (first k h))
    (λ h.
    let j = k - w.skip in
    let t : j < w.tail = omega arith in
    let again : w.skip + j ≡ k = omega arith in
    subst (λ (i : ℕ). P i (place i)) again (rw (placed.second j t) (second j t)))
    (covered_cases w k e)

-- ---- what is read of memory and written back

-- byte k of a run that is written, from a place on and from the start
run_byte : (base : ℕ) (on : ℕ → Bool) (val : ℕ → ℕ) (n : ℕ) (l : List ℕ) (k : ℕ) → k < n → base + n ≤ length l → get_or (scatter (onwards base) on val n l) (base + k) 0 ≡ cond (on k) (val k) (get_or l (base + k) 0)
run_byte base on val n l k h room =
    get_or-scatter (onwards base) on val n l k h (omega arith) (λ j v y ne e. ne (omega arith))

start_byte : (on : ℕ → Bool) (val : ℕ → ℕ) (n : ℕ) (l : List ℕ) (k : ℕ) → k < n → n ≤ length l → get_or (scatter (onwards 0) on val n l) k 0 ≡ cond (on k) (val k) (get_or l k 0)
start_byte on val n l k h room = rw (zero-add k) at (run_byte 0 on val n l k h (omega arith))

-- both keep the length
pub length-read : (w : Window) (memory vector : List ℕ) → length (window_read w memory vector) ≡ length vector
length-read w memory vector = simp length-scatter

pub length-written : (w : Window) (vector memory : List ℕ) → length (window_written w vector memory) ≡ length memory
length-written w vector memory = simp length-scatter

module _ {w : Window} {n lm : ℕ} (fits : Fits w n lm) where
  module _ (memory vector : List ℕ) (long : n ≤ length vector) where
    -- what is read of both parts
    read_first : (k : ℕ) → k < w.head → get_or (window_read w memory vector) k 0 ≡ get_or memory (w.at + k) 0
    read_first k h =
        get_or-scatter_other (onwards w.skip) all _ w.tail _ k (λ j v y e. omega arith)
        ∙ start_byte all _ w.head vector k h (omega arith)

    read_second : (k : ℕ) → k < w.tail → get_or (window_read w memory vector) (w.skip + k) 0 ≡ get_or memory k 0
    read_second k h =
        run_byte w.skip all _ w.tail _ k h (rw length-scatter (omega arith))
        ∙ ap (λ (j : ℕ). get_or memory j 0) (zero-add k)

    -- a covered byte is read from its place
    pub window_byte : {place : ℕ → ℕ} → Placed w place → (k : ℕ) → covered w k ≡ true → get_or (window_read w memory vector) k 0 ≡ get_or memory (place k) 0
    window_byte placed =
        by_part placed (λ (k p : ℕ). get_or (window_read w memory vector) k 0 ≡ get_or memory p 0) read_first read_second

module _ {w : Window} {n : ℕ} (memory : List ℕ) (fits : Fits w n (length memory)) {place : ℕ → ℕ} (placed : Placed w place) where
  -- a covered byte is one of the vector, and lies in memory
  covered_within : (k : ℕ) → covered w k ≡ true → (k < n) × (place k < length memory)
  covered_within =
      by_part placed (λ (k p : ℕ). (k < n) × (p < length memory)) (λ k h. omega arith) (λ k h. omega arith)

  -- covered bytes lie apart
  covered_apart : (k : ℕ) → covered w k ≡ true → (j : ℕ) → covered w j ≡ true → (j ≡ k → ⊥) → place k ≡ place j → ⊥
  covered_apart =
      by_part placed (λ (k p : ℕ). (j : ℕ) → covered w j ≡ true → (j ≡ k → ⊥) → p ≡ place j → ⊥)
      (λ k h. by_part placed (λ (j q : ℕ). (j ≡ k → ⊥) → w.at + k ≡ q → ⊥) (λ j v ne e. ne (omega arith)) (λ j v ne. fits.apart k j h v))
      (λ k h. by_part placed (λ (j q : ℕ). (j ≡ w.skip + k → ⊥) → k ≡ q → ⊥) (λ j v ne e. fits.apart j k v h (sym e)) (λ j v ne e. ne (omega arith)))

  module _ (v : List ℕ) where
    -- what is written of both parts: the second leaves the first alone
    written_first : (k : ℕ) → k < w.head → get_or (window_written w v memory) (w.at + k) 0 ≡ get_or v k 0
    written_first k h =
        get_or-scatter_other (onwards 0) all _ w.tail _ (w.at + k) (λ j t y e. fits.apart k j h t (omega arith))
        ∙ run_byte w.at all _ w.head memory k h fits.first
        ∙ ap (λ (j : ℕ). get_or v j 0) (zero-add k)

    written_second : (k : ℕ) → k < w.tail → get_or (window_written w v memory) k 0 ≡ get_or v (w.skip + k) 0
    written_second k h = start_byte all _ w.tail _ k h (rw length-scatter fits.second)

    -- a covered byte is written to its place
    written_byte : (k : ℕ) → covered w k ≡ true → get_or (window_written w v memory) (place k) 0 ≡ get_or v k 0
    written_byte =
        by_part placed (λ (k p : ℕ). get_or (window_written w v memory) p 0 ≡ get_or v k 0) written_first written_second

    -- the rest of memory stays
    written_beside : (q : ℕ) → ((k : ℕ) → covered w k ≡ true → q ≡ place k → ⊥) → get_or (window_written w v memory) q 0 ≡ get_or memory q 0
    written_beside q away =
        get_or-scatter_other (onwards 0) all _ w.tail _ q (λ k h y e. away (w.skip + k) (covered_second w (w.skip + k) (omega arith) (omega arith)) (omega (arith, placed.second k h)))
        ∙ get_or-scatter_other (onwards w.at) all _ w.head memory q (λ k h y e. away k (covered_first w k h) (omega (arith, placed.first k h)))

  -- lists as long as memory that agree at the places of covered bytes, and wherever none of them is
  covered_agree : (l l' : List ℕ) → length l ≡ length memory → length l' ≡ length memory → ((k : ℕ) → covered w k ≡ true → get_or l (place k) 0 ≡ get_or l' (place k) 0) → ((q : ℕ) → ((k : ℕ) → covered w k ≡ true → q ≡ place k → ⊥) → get_or l q 0 ≡ get_or l' q 0) → l ≡ l'
  covered_agree l l' long long' here beside =
      lists_agree (λ (k : ℕ). cond (covered w k) (place k) (length memory)) n l l' (long ∙ sym long')
      (λ k h. ⊎_elim (λ e. rw e (here k e)) (λ e. rw e (get_or-eq_default l 0 (omega arith) ∙ sym (get_or-eq_default l' 0 (omega arith)))) (by_test (covered w k)))
      (λ q away. beside q (λ k e r. away k (covered_within k e).0 (rw e r)))

  -- what was read, changed at covered bytes and written back is memory changed at their places
  pub window_stored : (on : ℕ → Bool) → ((k : ℕ) → k < n → on k ≡ true → covered w k ≡ true) → (val : ℕ → ℕ) (vector : List ℕ) → n ≤ length vector → {v : List ℕ} → v ≡ scatter (onwards 0) on val n (window_read w memory vector) → window_written w v memory ≡ scatter place on val n memory
  window_stored on within val vector long {v} e =
      covered_agree _ _ (length-written w v memory) (length-scatter place on val n memory)
      (λ k y.
      let b = covered_within k y in
      written_byte v k y
      ∙ rw e (start_byte on val n (window_read w memory vector) k b.0 (rw (length-read w memory vector) long))
      ∙ ap (cond (on k) (val k)) (window_byte fits memory vector long placed k y)
      ∙ sym (get_or-scatter place on val n memory k b.0 b.1 (λ j h t. covered_apart k y j (within j h t))))
      (λ q away. written_beside v q away ∙ sym (get_or-scatter_other place on val n memory q (λ k h t. away k (within k h t))))

-- ---- bytes that are copied to a part of a list

-- a part that is filled whole
filled : (val : ℕ → ℕ) (n : ℕ) (l part : List ℕ) → length l ≡ n → length part ≡ n → ((k : ℕ) → k < n → get_or part k 0 ≡ val k) → part ≡ scatter (onwards 0) all val n l
filled val n l part long length_is same =
    lists_agree (λ (k : ℕ). k) n part _ (length_is ∙ sym (length-scatter (onwards 0) all val n l ∙ long))
    (λ k w. same k w ∙ sym (start_byte all val n l k w (omega arith)))
    (λ q away. beyond q (dec_lt q n) away)
  where
    beyond : (q : ℕ) → Dec (q < n) → ((k : ℕ) → k < n → q ≡ k → ⊥) → get_or part q 0 ≡ get_or (scatter (onwards 0) all val n l) q 0
    beyond q (yes w) away = absurd (away q w refl)
    beyond q (no w) away =
        get_or-eq_default part 0 (omega arith) ∙ sym (get_or-eq_default (scatter (onwards 0) all val n l) 0 (rw (length-scatter (onwards 0) all val n l) (omega arith)))

-- as the parts come back: one in the middle of a list, with the first bytes of another, and one at its start, with bytes from the middle of another
pub copied_inside : (a n : ℕ) (src dst : List ℕ) {part : List ℕ} → n ≤ length src → a + n ≤ length dst → part ≡ take n src → put_mid a (a + n - a) dst part ≡ copied a src 0 n dst
copied_inside a n src dst {part} has room e =
    let val : ℕ → ℕ = λ k. get_or src (0 + k) 0 in
    ap (put_mid a (a + n - a) dst) (filled val n (lent a n dst) part (lent_length a n dst room) (ap length e ∙ length-take-le n src has) byte)
    ∙ lent_scatter all val a n dst room n (omega arith)
  where
    byte : (k : ℕ) → k < n → get_or part k 0 ≡ get_or src (0 + k) 0
    byte k w = ap (λ (l : List ℕ). get_or l k 0) e ∙ get_or-take n src k 0 w ∙ ap (λ (i : ℕ). get_or src i 0) (sym (zero-add k))

pub copied_front : (b n : ℕ) (src dst : List ℕ) {part : List ℕ} → b + n ≤ length src → n ≤ length dst → part ≡ lent b n src → part ++ drop n dst ≡ copied 0 src b n dst
copied_front b n src dst {part} has room e =
    let val : ℕ → ℕ = λ k. get_or src (b + k) 0 in
    sym (ap (λ (m : ℕ). put_mid 0 m dst part) whole)
    ∙ ap (put_mid 0 (0 + n - 0) dst) (filled val n (lent 0 n dst) part (lent_length 0 n dst (omega arith)) (ap length e ∙ lent_length b n src has) (λ k w. ap (λ (l : List ℕ). get_or l k 0) e ∙ lent_byte b n src k w))
    ∙ lent_scatter all val 0 n dst (omega arith) n (omega arith)
  where
    whole : 0 + n - 0 ≡ n
    whole = omega arith

-- ---- what `min` is where memory ends at address 2^64, or in a vector

before_wrap : (at n last : ℕ) → at < 2 ^ 64 → 0 < n → last ≡ min (2 ^ 64 - 1 - at) (n - 1) → last + 1 ≡ min (2 ^ 64 - at) n
before_wrap at n last a some e = omega arith

before_end : (at n lm head : ℕ) → at < lm → head ≡ min (lm - at) n → at + head ≤ lm
before_end at n lm head h e = omega arith
