-- What loads and stores write is what the definitions say: at once, under a predicate, and by way of a window.
-- Assumes nothing.
use Rattle.std.proofs.Common.{◌≡◌, ℕ, ◌+◌, ◌*◌, ◌<◌, ◌≤◌, Bool, true, false, cond, List, length, get_or, sym, refl, ap, ◌∙◌, zero-add, arith, Ok, Err}
use Rattle.settings.specs.Settings.{max_vector_bytes, valid_vectors, lengths_of}
use Rattle.settings.specs.declared.Settings.{Settings}
use Rattle.general.specs.Scatter.{scatter, all, onwards}
use Rattle.general.proofs.ScatterLaws.{scatter_agree}
use Rattle.settings.proofs.SettingsLaws.{vector_valid}
use Rattle.tiles.specs.Element.{bytes_of}
use Rattle.tiles.specs.declared.span.Span.{Span}
use Rattle.tiles.specs.Predicate.{active}
use Rattle.tiles.specs.Span.{run_from, slice_span}
use Rattle.tiles.specs.declared.element.ElementSize.TheVariants.{Bits128}
use Rattle.tiles.proofs.LengthLaws.{whole_elements}
use Rattle.tiles.proofs.SpanLaws.{Spanned, slice_spanned, run_spanned}
use Rattle.moves.specs.Paired.{Paired, Governed, governing_part, merged}
use Rattle.moves.proofs.SpanLaws.{spanned_paired, spanned_merged, spanned_replaced}
use Rattle.moves.proofs.PredicateLaws.{part_governs, part_active, part_bits_lent}
use Rattle.encoding.specs.Range.{AccessInRange}
use Rattle.encoding.specs.declared.operation.SliceAccess.{SliceAccess}
use Rattle.encoding.specs.declared.operation.Operation.TheVariants.{St1, Ld1}
use Rattle.encoding.specs.Steps.{access_move}
use Rattle.semantics.specs.declared.answer.Refusal.{Refusal}
use Rattle.semantics.specs.State.{state_of}
use Rattle.semantics.specs.Effect.{slice_byte, memory_byte, active_under, writes_of, loaded_value, values_of, effect_of}
use Rattle.semantics.specs.Execute.{access_answer}
use Rattle.semantics.specs.Steps.{Sized, Performs}
use Rattle.access.specs.declared.window.Window.{Window}
use Rattle.access.specs.Window.{Fits, blank, window_read, window_written}
use Rattle.access.specs.Promise.{Covers, Governs, Reaches}
use Rattle.access.specs.declared.reach.Reach.TheVariants.{Whole, Parts}
use Rattle.access.proofs.WindowLaws.{fits_more, window_byte, window_stored}

-- ---- the state afterwards

module _ (s : Settings) (x z p za memory : List ℕ) (o : SliceAccess) (done : access_answer s x p (length memory) o ≡ Ok tt) where
  abbrev B : ℕ
  B = s.vector_bytes

  abbrev on : ℕ → Bool
  on = active_under s p o.pg o.slice

  abbrev val : ℕ → ℕ
  val k = get_or za (slice_byte s x o.slice k) 0

  store_performs : {memory' : List ℕ} → memory' ≡ scatter (memory_byte s x o) on val B memory → Performs s (St1 o) (state_of x z p za memory) (Ok tt) (state_of x z p za memory')
  unfolding scatter writes_of values_of effect_of
  store_performs w = record { answer = sym done; state = ap (λ (l : List ℕ). state_of x z p za l) w }

  load_performs : {za' : List ℕ} → za' ≡ scatter (slice_byte s x o.slice) all (loaded_value s (state_of x z p za memory) o) B za → Performs s (Ld1 o) (state_of x z p za memory) (Ok tt) (state_of x z p za' memory)
  unfolding scatter writes_of values_of effect_of
  load_performs w = record { answer = sym done; state = ap (λ (l : List ℕ). state_of x z p l memory) w }

  -- the whole vector is in memory, from index `at` on
  module _ (at : ℕ) (places : (k : ℕ) → k < B → memory_byte s x o k ≡ at + k) where
    pub whole_stored : {memory' : List ℕ} → memory' ≡ scatter (onwards at) on val B memory → Performs s (St1 o) (state_of x z p za memory) (Ok tt) (state_of x z p za memory')
    whole_stored e = store_performs (e ∙ scatter_agree _ _ on val val B memory (λ k w y. (sym (places k w), refl)))

    pub whole_loaded : {za' : List ℕ} → za' ≡ scatter (slice_byte s x o.slice) all (λ (k : ℕ). cond (on k) (get_or memory (at + k) 0) 0) B za → Performs s (Ld1 o) (state_of x z p za memory) (Ok tt) (state_of x z p za' memory)
    whole_loaded e =
        load_performs (e ∙ scatter_agree _ _ all _ _ B za (λ k w y. (refl, ap (λ (i : ℕ). cond (on k) (get_or memory i 0) 0) (sym (places k w)))))

  -- a window has every active byte of it
  module _ (w : Window) (c : Covers s x p (length memory) o w) (long : B ≤ length blank) where
    pub parts_stored : {v memory' : List ℕ} → v ≡ scatter (onwards 0) on val B (window_read w memory blank) → memory' ≡ window_written w v memory → Performs s (St1 o) (state_of x z p za memory) (Ok tt) (state_of x z p za memory')
    parts_stored q e =
        store_performs (e ∙ window_stored memory c.fits c.placed on c.covers val blank long q)

    pub parts_loaded : {za' : List ℕ} → za' ≡ scatter (slice_byte s x o.slice) all (λ (k : ℕ). cond (on k) (get_or (window_read w memory blank) (0 + k) 0) 0) B za → Performs s (Ld1 o) (state_of x z p za memory) (Ok tt) (state_of x z p za' memory)
    parts_loaded e = load_performs (e ∙ scatter_agree _ _ all _ _ B za (λ k v y. (refl, byte k v (on k) refl)))
      where
        byte : (k : ℕ) → k < B → (b : Bool) → on k ≡ b → cond b (get_or (window_read w memory blank) (0 + k) 0) 0 ≡ cond b (get_or memory (memory_byte s x o k) 0) 0
        byte k v true q =
            ap (λ (i : ℕ). get_or (window_read w memory blank) i 0) (zero-add k) ∙ window_byte c.fits memory blank long c.placed k (c.covers k v q)
        byte k v false q = refl

-- a refusal, of either
pub access_refused : (s : Settings) (x z p za memory : List ℕ) (o : SliceAccess) (stores : Bool) (r : Refusal) → Err r ≡ access_answer s x p (length memory) o → Performs s (access_move stores o) (state_of x z p za memory) (Err r) (state_of x z p za memory)
access_refused s x z p za memory o true r e = record { answer = e; state = refl }
access_refused s x z p za memory o false r e = record { answer = e; state = refl }

-- the part of P that is lent governs
pub part_serves : (s : Settings) (p : List ℕ) (o : SliceAccess) → valid_vectors s ≡ true → length p ≡ (lengths_of s).p → AccessInRange o → {governing : List ℕ} → governing ≡ governing_part s o.pg p → Governs s p o governing
part_serves s p o valid long range e =
    let few : o.pg < 16 = omega (arith, range.predicate) in
    rw e (record { bits = part_bits_lent s valid p long o.pg few _ refl; active = λ k v. part_active s valid p long o.pg few _ refl (bytes_of o.slice.size) k v })

-- ---- what was prepared serves each of the four ways

-- what is known of a load or store once it is known where it goes
pub record Primed (s : Settings) (x p za memory : List ℕ) (o : SliceAccess) (slice : Span) (governing : List ℕ) : Type 0 where
  pub sized : Sized s (length x) (lengths_of s).z (length p) (length za) (length memory)
  pub range : AccessInRange o
  pub slice_is : slice ≡ slice_span s x o.slice
  pub part_is : governing ≡ governing_part s o.pg p

module _ {s : Settings} {x p za memory : List ℕ} {o : SliceAccess} {slice : Span} {part : List ℕ} (primed : Primed s x p za memory o slice part) where
  abbrev h : Sized s (length x) (lengths_of s).z (length p) (length za) (length memory)
  h = primed.sized

  abbrev m : ℕ
  m = bytes_of o.slice.size

  governed : (v : Span) → v.count * m ≡ s.vector_bytes → Governed v m part
  governed v e = rw primed.part_is (part_governs s h.vectors p h.p o.pg (omega (arith, primed.range.predicate)) _ refl v m e)

  agrees : (k : ℕ) → k < s.vector_bytes → active part 0 m k ≡ active_under s p o.pg o.slice k
  agrees k v = rw primed.part_is (part_active s h.vectors p h.p o.pg (omega (arith, primed.range.predicate)) _ refl m k v)

  slice_at_lem : Spanned slice m s.vector_bytes (length za) (slice_byte s x o.slice)
  slice_at_lem = rw primed.slice_is (slice_spanned s h.vectors x o.slice primed.range.slice.tile (length za) (omega (arith, h.za)))

  module _ (at long : ℕ) (fits : at + s.vector_bytes ≤ long) {v : Span} (e : v ≡ run_from s o.slice.size at) where
    run_at : Spanned v m s.vector_bytes long (onwards at)
    run_at = rw e (run_spanned s h.vectors o.slice.size at long fits)

    pub store_paired : Paired v slice m long (length za) × Governed v m part
    store_paired =
        (spanned_paired run_at slice_at_lem (whole_elements Bits128 _ (vector_valid s h.vectors)).longest, governed v run_at.bytes)

    pub load_paired : Paired slice v m (length za) long × Governed slice m part
    load_paired =
        (spanned_paired slice_at_lem run_at (whole_elements Bits128 _ (vector_valid s h.vectors)).longest, governed slice slice_at_lem.bytes)

    -- a store writes the active bytes of the slice, a load those of what it reads, and zero
    stored : (dst : List ℕ) {d : List ℕ} → d ≡ merged false (active part 0 m) v slice m za dst → d ≡ scatter (onwards at) (active_under s p o.pg o.slice) (λ (k : ℕ). get_or za (slice_byte s x o.slice k) 0) s.vector_bytes dst
    stored dst e = spanned_merged run_at slice_at_lem _ _ za dst agrees e

    loaded : (src : List ℕ) {d : List ℕ} → d ≡ merged true (active part 0 m) slice v m src za → d ≡ scatter (slice_byte s x o.slice) all (λ (k : ℕ). cond (active_under s p o.pg o.slice k) (get_or src (at + k) 0) 0) s.vector_bytes za
    loaded src e = spanned_replaced slice_at_lem run_at _ _ src za agrees e

  -- a vector has room in a blank one, and so has a window
  pub short : 0 + s.vector_bytes ≤ length blank
  short = omega (arith, (whole_elements Bits128 _ (vector_valid s h.vectors)).longest)

  pub window_fits : (w : Window) → Reaches s x p (length memory) o (Ok (Parts w)) → Fits w max_vector_bytes (length memory)
  window_fits w reach = fits_more reach.1.fits (whole_elements Bits128 _ (vector_valid s h.vectors)).longest

  module _ (z : List ℕ) where
    module _ (at : ℕ) (reach : Reaches s x p (length memory) o (Ok (Whole at))) {v : Span} (e : v ≡ run_from s o.slice.size at) where
      pub stores_whole : {memory' : List ℕ} → memory' ≡ merged false (active part 0 m) v slice m za memory → Performs s (St1 o) (state_of x z p za memory) (Ok tt) (state_of x z p za memory')
      stores_whole w = whole_stored s x z p za memory o reach.0 at reach.2 (stored at (length memory) reach.1 e memory w)

      pub loads_whole : {za' : List ℕ} → za' ≡ merged true (active part 0 m) slice v m memory za → Performs s (Ld1 o) (state_of x z p za memory) (Ok tt) (state_of x z p za' memory)
      loads_whole w = whole_loaded s x z p za memory o reach.0 at reach.2 (loaded at (length memory) reach.1 e memory w)

    module _ (w : Window) (reach : Reaches s x p (length memory) o (Ok (Parts w))) {v : Span} (e : v ≡ run_from s o.slice.size 0) where
      pub stores_parts : {memory' : List ℕ} → memory' ≡ window_written w (merged false (active part 0 m) v slice m za (window_read w memory blank)) memory → Performs s (St1 o) (state_of x z p za memory) (Ok tt) (state_of x z p za memory')
      stores_parts q = parts_stored s x z p za memory o reach.0 w reach.1 (omega (arith, short)) (stored 0 (length blank) short e (window_read w memory blank) refl) q

      pub loads_parts : {za' : List ℕ} → za' ≡ merged true (active part 0 m) slice v m (window_read w memory blank) za → Performs s (Ld1 o) (state_of x z p za memory) (Ok tt) (state_of x z p za' memory)
      loads_parts q = parts_loaded s x z p za memory o reach.0 w reach.1 (omega (arith, short)) (loaded 0 (length blank) short e (window_read w memory blank) q)
