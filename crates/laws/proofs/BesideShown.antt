-- The theorems of specs/BesideShown.antt: that the calls are done is computed, that they may run between is by the laws.
-- Assumes nothing.
use Rattle.std.specs.Prelude.{Ok}
use Prim.Native.Nat.{ℕ, suc, ◌*◌, ◌/◌}
use mathlib.Core.Path.{◌≡◌, refl, sym}
use mathlib.Core.List.{List, [], ◌∷◌, ◌++◌, map}
use mathlib.Core.Option.{none}
use Rattle.general.specs.Least.{least}
use Rattle.general.specs.Scatter.{scatter}
use Rattle.general.proofs.LeastLaws.{least_none}
use Rattle.settings.specs.Settings.{is_vector_length, stride_of}
use Rattle.encoding.specs.Table.{table}
use Rattle.encoding.specs.Codec.{row_of_word, decode_of}
use Rattle.encoding.specs.declared.operation.Operation.{Operation}
use Rattle.encoding.specs.declared.operation.Operation.TheVariants.{MovaToTile}
use Rattle.encoding.specs.declared.operation.VectorToTile.{VectorToTile}
use Rattle.tiles.specs.Element.{bytes_of}
use Rattle.tiles.specs.Predicate.{bit, active}
use Rattle.tiles.specs.Tile.{byte_of, slice_at}
use Rattle.semantics.specs.Effect.{writes_of, values_of, effect_of}
use Rattle.semantics.specs.Execute.{access_answer, answer_of, execute_of}
use Rattle.semantics.specs.ExampleBuffers.{za_at}
use Rattle.laws.specs.Calls.{Call, run, numbers_at, decoded_of}
use Rattle.laws.specs.Between.{LeavesZa, Beside}
use Rattle.laws.specs.Shown.{refused_calls, shown_in, shown_out}
use Rattle.laws.specs.BesideShown.{Each, MayRun, beside_calls, beside_operations, BesideShown, store_between, StoreShown, RefusedShown, inactive_calls, InactiveShown}
use Rattle.laws.proofs.CallLaws.{cons_same, nil_cons}
use Rattle.laws.proofs.Between.{beside_may_run, beside_leaves, refused_leaves, inactive_leaves}
use Rattle.laws.proofs.Shown.{numbered, refusals_shown}

-- ---- operations that have no place in ZA

all_may_run : (cs : List Call) (os : List Operation) → map decoded_of cs ≡ map Ok os → Each Beside os → Each MayRun cs
all_may_run [] os e b = tt
all_may_run (c ∷ cs) [] e b = absurd (nil_cons (sym e))
all_may_run (c ∷ cs) (o ∷ os) e b =
    (λ before after za. beside_may_run before after c za (beside_leaves c (run before za) o (cons_same e).0 b.0), all_may_run cs os (cons_same e).1 b.1)

pub beside_shown : BesideShown
unfolding table row_of_word decode_of is_vector_length active least access_answer answer_of execute_of
beside_shown = record { done = λ za e. rw e refl; decoded = refl; may = may; runs = all_may_run beside_calls beside_operations refl may }
  where
    may : Each Beside beside_operations
    may = (tt, (tt, (tt, (tt, (tt, (tt, (tt, (tt, (tt, (tt, (tt, (tt, (tt, (tt, (tt, (tt, (tt, tt)))))))))))))))))

pub store_shown : StoreShown
unfolding table row_of_word decode_of is_vector_length active least access_answer answer_of execute_of
store_shown =
    record {
      done = λ za e. rw e refl;
      decoded = refl;
      ends = λ d. beside_may_run (refused_calls ++ shown_in d) (refused_calls ++ (shown_out d ++ (refused_calls ++ []))) store_between (za_at 32) (beside_leaves store_between (run (refused_calls ++ shown_in d) (za_at 32)) _ refl tt);
    }

-- ---- refused calls

all_leave : (cs : List Call) (ns za : List ℕ) → numbers_at cs za ≡ map suc ns → Each (λ (c : Call). LeavesZa c za) cs
all_leave [] ns za e = tt
all_leave (c ∷ cs) [] za e = absurd (nil_cons (sym e))
all_leave (c ∷ cs) (n ∷ ns) za e = (refused_leaves c za (numbered _ n (cons_same e).0), all_leave cs ns za (cons_same e).1)

pub refused_shown : RefusedShown
refused_shown za e = all_leave refused_calls (0 ∷ 1 ∷ 2 ∷ 3 ∷ 4 ∷ 5 ∷ 6 ∷ 5 ∷ 6 ∷ []) za (refusals_shown za e)

-- ---- moves with no active element

-- no element of a move to a tile is active, as a test computes
inactive_call_lem : (c : Call) (za : List ℕ) (o : VectorToTile) → decoded_of c ≡ Ok (MovaToTile o) → least (λ e. bit c.p (o.pg * (stride_of c.settings / 8)) (e * bytes_of o.slice.size)) (c.settings.vector_bytes / bytes_of o.slice.size) ≡ none → LeavesZa c za
inactive_call_lem c za o e n = inactive_leaves c za o e (least_none _ _ n)

pub inactive_shown : InactiveShown
unfolding table row_of_word decode_of is_vector_length scatter active byte_of slice_at least writes_of values_of effect_of access_answer answer_of execute_of
inactive_shown = record { done = λ za e. rw e refl; kept = refl; leave = leave }
  where
    leave : (za : List ℕ) → Each (λ (c : Call). LeavesZa c za) inactive_calls
    leave za = (
      inactive_call_lem _ za _ refl refl,
      (
        inactive_call_lem _ za _ refl refl,
        (
          inactive_call_lem _ za _ refl refl,
          (
            inactive_call_lem _ za _ refl refl,
            (
              inactive_call_lem _ za _ refl refl,
              (inactive_call_lem _ za _ refl refl, (inactive_call_lem _ za _ refl refl, (inactive_call_lem _ za _ refl refl, (inactive_call_lem _ za _ refl refl, (inactive_call_lem _ za _ refl refl, tt))))),
            ),
          ),
        ),
      ),
    )
