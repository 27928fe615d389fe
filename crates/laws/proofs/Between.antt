-- The theorems of specs/Between.antt.
-- Assumes nothing.
use Rattle.std.specs.Prelude.{Result, ⊤, Ok, Err}
use Prim.Native.Nat.{ℕ, suc, ◌*◌, ◌/◌, ◌<◌, ◌≤◌}
use mathlib.Core.Path.{◌≡◌, refl, sym, ap, ◌∙◌, subst}
use mathlib.Core.Bool.{true, true≢false}
use mathlib.Core.List.{List, [], ◌∷◌, ◌++◌, map}
use mathlib.Core.Option.{Option, none, some}
use native.Mathlib.Nat.{le_refl, mod-lt, mul-le-mul_right}
use native.Mathlib.Omega.{arith}
use Rattle.tiles.specs.Element.{bytes_of}
use Rattle.tiles.specs.declared.element.ElementSize.{ElementSize}
use Rattle.tiles.specs.declared.direction.Direction.{Direction}
use Rattle.encoding.specs.declared.operation.RegisterCount.{RegisterCount}
use Rattle.encoding.specs.declared.operation.RegisterCount.TheVariants.{Two, Four}
use Rattle.encoding.specs.declared.operation.Operation.{Operation}
use Rattle.encoding.specs.declared.operation.DecodeRefusal.{DecodeRefusal}
use Rattle.encoding.specs.declared.operation.Operation.TheVariants.{MovaToTile, MovazFromTile, MovaFromArray, MovazFromArray, St1, MovaFromTile, Ld1}
use Rattle.encoding.specs.Flat.{registers_of}
use Rattle.encoding.proofs.RangeLaws.{decoded_in_range}
use Rattle.general.specs.Scatter.{all}
use Rattle.tiles.specs.Predicate.{active}
use Rattle.tiles.specs.Direction.{flip}
use Rattle.tiles.proofs.TileLaws.{element_below}
use Rattle.tiles.proofs.LengthLaws.{whole_elements}
use Rattle.tiles.proofs.SliceLaws.{active_element, written_at}
use Rattle.semantics.specs.declared.answer.Refusal.{Refusal}
use Rattle.semantics.specs.State.{State, public_of}
use Rattle.semantics.specs.Effect.{writes_of, values_of, effect_of}
use Rattle.semantics.specs.Execute.{if_done}
use Rattle.semantics.proofs.ExecuteLaws.{refused_not_done, Ends, does, stays, ends}
use Rattle.semantics.proofs.EffectLaws.{effect_idle}
use Rattle.general.specs.Places.{Idle}
use Rattle.settings.specs.Settings.{stride_of}
use Rattle.settings.proofs.SettingsLaws.{vector_length_long, vector_valid, stride_fits}
use Rattle.laws.specs.Calls.{Call, state_with, outcome, za_after, run, Move, into, out, other, decoded_of, move_of, decoded_move, moved, with_move, moves}
use Rattle.laws.specs.Between.{LeavesZa, refused, idle, LeavesIsKept, BesideMayRun, Beside, BesideLeaves, RefusedLeaves, InactiveLeaves, LoadsHavePlaces, LoadsDoNotLeave, LoadsZero, LoadsStayOut, ZeroingDoesNotLeave, ZeroingStaysOut}
use Rattle.laws.specs.Crossing.{Crosses}
use Rattle.laws.proofs.CallLaws.{DoesCall, run_append}

same_operation : {o o' : Operation} → ◌≡◌ {A = Result Operation DecodeRefusal} (Ok o) (Ok o') → o ≡ o'
same_operation e = cc

pub leaves_is_kept : LeavesIsKept
leaves_is_kept c za l = go l (ends c.settings c.word (state_with c za))
  where
    go : LeavesZa c za → Ends c.settings c.word (state_with c za) → za_after c za ≡ za
    go l (stays r n q) = ap (λ (t : State). t.za) q
    go (refused r e) (does o d) = absurd (refused_not_done r (sym e ∙ d.answer))
    go (idle o e h) (does o' d) =
        ap (λ (t : State). t.za) d.state ∙
        effect_idle c.settings o' (state_with c za) (subst (λ (o : Operation). Idle (writes_of c.settings (public_of (state_with c za)) o).za) (same_operation (sym e ∙ d.decoded)) h)

pub beside_may_run : BesideMayRun
unfolding run
beside_may_run before after c za l =
    run_append before (c ∷ after) za ∙ ap (run after) (leaves_is_kept c (run before za) l) ∙ sym (run_append before after za)

-- operations that have no place in ZA
pub beside_leaves : BesideLeaves
unfolding writes_of
beside_leaves c za o e b = idle o e (go o b)
  where
    go : (o : Operation) → Beside o → Idle (writes_of c.settings (public_of (state_with c za)) o).za
    go (MovaToTile o) b = absurd b
    go (MovazFromTile o) b = absurd b
    go (MovaFromArray o) b = λ k h. absurd (omega arith)
    go (MovazFromArray o) b = absurd b
    go (St1 o) b = λ k h. absurd (omega arith)
    go (MovaFromTile o) b = λ k h. absurd (omega arith)
    go (Ld1 o) b = absurd b

pub refused_leaves : RefusedLeaves
refused_leaves c za n = go (outcome c za).answer refl
  where
    go : (a : Result ⊤ Refusal) → (outcome c za).answer ≡ a → LeavesZa c za
    go (Ok _) e = absurd (n e)
    go (Err r) e = refused r e

pub inactive_leaves : InactiveLeaves
unfolding writes_of active
inactive_leaves c za o e h = go (ends c.settings c.word (state_with c za))
  where
    go : Ends c.settings c.word (state_with c za) → LeavesZa c za
    go (stays r n q) = refused r n
    go (does o' d) =
        let B = c.settings.vector_bytes in
        let w = whole_elements o.slice.size B (vector_valid c.settings d.sized.vectors) in
        idle (MovaToTile o) e (λ k below. h (k / bytes_of o.slice.size) (element_below B B (bytes_of o.slice.size) (B / bytes_of o.slice.size) w.elements (le_refl B) k w.some below))

-- ---- calls that write ZA

-- a done call is done by its own operation
done_does : (c : Call) (za : List ℕ) (o : Operation) → decoded_of c ≡ Ok o → (outcome c za).answer ≡ Ok tt → DoesCall c za o
done_does c za o e a = go (ends c.settings c.word (state_with c za))
  where
    go : Ends c.settings c.word (state_with c za) → DoesCall c za o
    go (does o' d) = subst (DoesCall c za) (same_operation (sym d.decoded ∙ e)) d
    go (stays r n q) = absurd (refused_not_done r (sym n ∙ a))

-- if its first place in ZA is there and is written, it does not leave ZA
first_written : (c : Call) (za : List ℕ) (o : Operation) → decoded_of c ≡ Ok o → (outcome c za).answer ≡ Ok tt → (0 < c.settings.vector_bytes → 0 < (writes_of c.settings (public_of (state_with c za)) o).za.count) → (writes_of c.settings (public_of (state_with c za)) o).za.on 0 ≡ true → LeavesZa c za → ⊥
first_written c za o q a there on (refused r e) = refused_not_done r (sym e ∙ a)
first_written c za o q a there on (idle o' e h) =
    let d = done_does c za o q a in
    let none = subst (λ (o : Operation). Idle (writes_of c.settings (public_of (state_with c za)) o).za) (same_operation (sym e ∙ q)) h in
    let long : 0 < c.settings.vector_bytes = omega (arith, vector_length_long _ (vector_valid c.settings d.sized.vectors)) in
    true≢false (sym on ∙ none 0 (there long))

pub loads_have_places : LoadsHavePlaces
unfolding writes_of
loads_have_places s u o = (refl, λ k. refl)

pub loads_do_not_leave : LoadsDoNotLeave
unfolding writes_of
loads_do_not_leave c za o q a = first_written c za (Ld1 o) q a (λ long. long) refl

pub zeroing_does_not_leave : ZeroingDoesNotLeave
unfolding writes_of
zeroing_does_not_leave c za o q a = first_written c za (MovazFromArray o) q a (there o.registers _) refl
  where
    there : (r : RegisterCount) (B : ℕ) → 0 < B → 0 < registers_of r * B
    there Two B h = omega arith
    there Four B h = omega arith

pub loads_zero : LoadsZero
unfolding writes_of values_of effect_of
loads_zero c za o e i q a he hi off =
    let B = c.settings.vector_bytes in
    let S = stride_of c.settings in
    let m = bytes_of o.slice.size in
    let d = done_does c za (Ld1 o) q a in
    let h = whole_elements o.slice.size B (vector_valid c.settings d.sized.vectors) in
    let fit = (stride_fits c.settings d.sized.vectors).fit in
    let r = decoded_in_range c.word c.settings.level (Ld1 o) d.decoded in
    let inactive = active_element c.p (o.pg * (S / 8)) m e i hi ∙ off in
    rw (ap (λ (t : State). t.za) d.state)
    (written_at S B m (B / m) h.elements fit o.slice.tile r.slice.tile o.slice.direction all _ za _ e i (omega (arith, d.sized.za, mul-le-mul_right S fit)) (mod-lt _ h.slices) he hi ∙ rw inactive)

-- how many moves of a list are neither into a tile nor out of one
abbrev others : List Move → ℕ
others [] = 0
others (into S B size d t k ∷ ms) = others ms
others (out S B size d t k ∷ ms) = others ms
others (other ∷ ms) = suc (others ms)

others_none : (S B : ℕ) (size : ElementSize) (d : Direction) (t : ℕ) (rows columns : List ℕ) → others (map (into S B size d t) rows ++ map (out S B size (flip d) t) columns) ≡ 0
others_none S B size d t [] [] = refl
others_none S B size d t [] (k ∷ columns) = others_none S B size d t [] columns
others_none S B size d t (k ∷ rows) columns = others_none S B size d t rows columns

others_later : (m : Option Move) (ms : List Move) → others ms ≤ others (with_move m ms)
others_later none ms = omega arith
others_later (some (into S B size d t k)) ms = omega arith
others_later (some (out S B size d t k)) ms = omega arith
others_later (some other) ms = omega arith

others_some : (before after : List Call) (c : Call) (za : List ℕ) → moved c (run before za) ≡ some other → 0 < others (moves (before ++ c ∷ after) za)
unfolding run moves
others_some [] after c za e = rw e (omega arith)
others_some (b ∷ before) after c za e = omega (arith, others_some before after c (za_after b za) e, others_later (moved b za) (moves (before ++ c ∷ after) (za_after b za)))

-- no call that is done and moves neither way is a call of a crossing list
other_stays_out : (S B : ℕ) (size : ElementSize) (d : Direction) (t : ℕ) (before after : List Call) (c : Call) (za : List ℕ) (o : Operation) → move_of c o ≡ other → decoded_of c ≡ Ok o → (outcome c (run before za)).answer ≡ Ok tt → Crosses S B size d t (before ++ c ∷ after) za → ⊥
unfolding moved
other_stays_out S B size d t before after c za o m e a h =
    let is-other : moved c (run before za) ≡ some other = ap (λ (r : Result ⊤ Refusal). if_done r none (decoded_move c (decoded_of c))) a ∙ ap (decoded_move c) e ∙ ap some m in
    omega (arith, others_some before after c za is-other, ap others h.order, others_none S B size d t h.rows h.columns)

pub loads_stay_out : LoadsStayOut
loads_stay_out S B size d t before after c za o = other_stays_out S B size d t before after c za (Ld1 o) refl

pub zeroing_stays_out : ZeroingStaysOut
zeroing_stays_out S B size d t before after c za o = other_stays_out S B size d t before after c za (MovazFromArray o) refl
