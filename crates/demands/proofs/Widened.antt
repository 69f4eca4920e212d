-- What SPECIFICATION 17.2 asks of the outcome of the widest table.
use Rattle.std.specs.Prelude.{◌≡◌, refl, ◌↔◌, Bool, true, false, cond, List, ℕ, ◌≤◌, ◌<◌, T, ltb, length, drop, Ok}
use Rattle.std.proofs.Common.{sym, ap, subst, arith, ltb-false}
use Rattle.std.proofs.Math.Bool.{not}
use Rattle.refusals.specs.declared.Refusal.{Refusal}
use Rattle.refusals.specs.Refusals.{keep_too_short, table_too_short, start_not_safe}
use Rattle.systems.specs.Bools.{T_true}
use Rattle.systems.specs.Tests.{ones}
use Rattle.systems.specs.Definitions.{Signature, System}
use Rattle.systems.specs.Finite.{FiniteSystem, Capping, safe, safe_states, widest, cell, Widest}
use Rattle.systems.proofs.Theorems.{safe_states_largest, implementation_iff, widest_exactly, widest_start_exactly, no_departure_exactly}
use Rattle.bitmaps.specs.Packed.{bytes_for, packed}
use Rattle.tables_header.specs.Header.{header_bytes, table_bytes}
use Rattle.tables_rows.specs.Raster.{set_at}
use Rattle.tables.specs.Outcome.{Widened, widest_refused, widest_systems}
use Rattle.demands.specs.Words.{Consistent, LongEnough, Denotes}
use Rattle.demands.specs.Demands.{WidestDemand}
use Rattle.demands.proofs.Same.{refines_same}
use Rattle.demands.proofs.Kept.{keeps}
use Rattle.demands.proofs.Files.{file, file_set, file_form, file_rest, file_long, file_denoted, file_padding, widest_length}

-- the chain of judgements, with slices that are long enough and a safe start
record MadeTable (keep_short table_short : Bool) (o f : Widened) : Type 0 where
  is : o ≡ f
  keep_long : keep_short ≡ false
  table_long : table_short ≡ false

widest_passed : (b c d : Bool) (i j : ℕ) (t : Refusal) (keep kept given : List ℕ) (f : Widened) → d ≡ false
    → LongEnough (cond b (widest_refused (keep_too_short i) keep given)
    (cond c (widest_refused (table_too_short j) keep given) (cond d (widest_refused t kept given) f))).answer
    → MadeTable b c (cond b (widest_refused (keep_too_short i) keep given)
    (cond c (widest_refused (table_too_short j) keep given) (cond d (widest_refused t kept given) f))) f
widest_passed true c d i j t keep kept given f k l = absurd (l.keep i refl)
widest_passed false true d i j t keep kept given f k l = absurd (l.table j refl)
widest_passed false false true i j t keep kept given f k l = let y : ◌≡◌ {A = ℕ} 0 1 = cc in absurd (omega arith)
widest_passed false false false i j t keep kept given f k l =
    record { is = refl; keep_long = refl; table_long = refl }

module _ {A : Signature} {M N : System A} {L R : FiniteSystem A} (C : Capping M L) (D : Capping N R)
    (consistent : Consistent M) (keep given : List ℕ) where
  start_safe : T (safe L L.start)
  start_safe = (implementation_iff C).0 consistent

  abbrev kept_bytes : List ℕ
  kept_bytes = packed L.size (safe_states L) keep

  abbrev file_made : List ℕ
  file_made = file L.size R.size (widest L R) given

  abbrev widest_made : Widened
  widest_made = record {
    answer = Ok (record { count = ones (widest L R); start = cell L R (widest L R) L.start R.start });
    keep = kept_bytes;
    table = file_made;
  }

  made_is : LongEnough (widest_systems L R keep given).answer
      → MadeTable (ltb (length keep) (bytes_for L.size)) (ltb (length given) (table_bytes R.size L.size))
      (widest_systems L R keep given) widest_made
  unfolding widest_systems
  made_is l =
      widest_passed (ltb (length keep) (bytes_for L.size)) (ltb (length given) (table_bytes R.size L.size))
      (not (safe L L.start)) (bytes_for L.size) (table_bytes R.size L.size) (start_not_safe L.start) keep
      kept_bytes given widest_made (ap not (T_true (safe L L.start) start_safe)) l

  file_widest : table_bytes R.size L.size ≤ length given → (x : M.State) (y : N.State)
      → Denotes L.size R.size C.cap D.cap file_made x y ↔ Widest C D x y
  file_widest room x y =
      let same : (s t : ℕ) → s < L.size → t < R.size
      → set_at R.size (drop (header_bytes R.size L.size) file_made) s t ≡ cell L R (widest L R) s t =
      file_set L.size R.size (widest L R) given room (widest_length L R) in (
        λ (p, q, t). (p, q, subst T (same (C.cap x) (D.cap y) p q) t),
        λ (p, q, t). (p, q, subst T (sym (same (C.cap x) (D.cap y) p q)) t),
      )

  pub demand_2_widest : LongEnough (widest_systems L R keep given).answer
      → WidestDemand M N L.size R.size C.cap D.cap keep given (widest_systems L R keep given)
  demand_2_widest l =
      let p = made_is l in
      let room : table_bytes R.size L.size ≤ length given = ltb-false (length given)
      (table_bytes R.size L.size) p.table_long in
      let long = widest_length L R in
      let start : T (cell L R (widest L R) L.start R.start) ↔ Widest C D M.start N.start = (
        λ t. rw (C.starts, D.starts) (L.start_state.0, R.start_state.0, t),
        λ h. rw (C.starts, D.starts) at h.2,
      ) in
      let has = file_widest room M.start N.start in
      let none = widest_start_exactly C D start_safe in
      let every = no_departure_exactly C D start_safe in
      subst (λ (o : Widened). WidestDemand M N L.size R.size C.cap D.cap keep given o) (sym p.is)
      (record {
        count = ones (widest L R);
        start = cell L R (widest L R) L.start R.start;
        answer = refl;
        form = file_form L.size R.size (widest L R) given;
        long = file_long L.size R.size (widest L R) given room long;
        rest = file_rest L.size R.size (widest L R) given;
        pairs = λ S q x y.
            let i = file_widest room x y in
            let m = widest_exactly C D x y in (
              λ h. let (Q, r, z) = m.0 (i.0 h) in (Q, refines_same (safe_states_largest C) q Q r, z),
              λ (Q, r, z). i.1 (m.1 (Q, refines_same q (safe_states_largest C) Q r, z)),
            );
        padding = file_padding L.size R.size (widest L R) given room long;
        count_is = ap ones (sym
            (file_denoted L.size R.size (widest L R) given room long (omega (arith, R.start_state.0))));
        start_is = (λ t. has.1 (start.0 t), λ h. start.1 (has.0 h));
        start_means = (λ t. every.0 (none.0 (start.0 t)), λ all. start.1 (none.1 (every.1 all)));
        kept = λ S q. keeps C S q keep p.keep_long;
      })
