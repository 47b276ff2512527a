-- The plans between two multiples are the derivations of the full run. Assumes nothing.
use Rattle.std.specs.Prelude.{Result, Ok, Err}
use Prim.Native.Nat.{ℕ, zero, suc, ◌+◌, ◌-◌, ◌%◌, ◌≤◌, ◌<◌}
use native.Mathlib.Nat.{zero-add, add-mod, mod-eq_of_lt}
use native.Mathlib.Omega.{arith}
use mathlib.Core.Path.{◌≡◌, refl, ap, ap₂, ◌∙◌}
use mathlib.Core.Bool.{true, not}
use mathlib.Core.List.{◌∷◌, map}
use lib.Dec.{eqb}
use borrow.Author.Tests.{le-ltb, ne_eqb}
use Rattle.def.specs.Binary.{floor_log2}
use Rattle.def.specs.Constants.{slice_type_of}
use Rattle.def.specs.declared.{EvcPoc.EvcPoc, PocVal.PocVal, Refusal.Refusal, SliceType.SliceType}
use Rattle.tbl.specs.DepthRows.{depth_rule}
use Rattle.poc.specs.PictureNumber.{max_poc}
use Rattle.poc.specs.Distance.{Step, step, run, layer_of}
use Rattle.poc.specs.FullRun.{call_of, full_run}
use Rattle.gop.specs.Plan.{Planning, is_inter, depth_of, derived_plan, in_hierarchy, plan}
use Rattle.gop.specs.Group.{plans_from, plan_of, Group}
use Rattle.gop.proofs.Lengths.{Length, a-length, layer_at, layers_at}

-- a place behind a multiple
place_of : (p n j : ℕ) → p % n ≡ 0 → j < n → (p + j) % n ≡ j
place_of p n j m h = add-mod p j n ∙ rw (m, mod-eq_of_lt h, zero-add j, mod-eq_of_lt h)

-- the record that a derivation's plan leaves is the derivation's
plan_after : (inter : SliceType) (L : ℕ) (s : Step) → (plan_of inter L s).poc ≡ s.after
plan_after inter L s = go s.answer
  where
    go : (a : Result PocVal Refusal) → (derived_plan inter (layer_of s + 1) (not (eqb (layer_of s + 1) (L + 1))) a s.after).poc ≡ s.after
    go (Ok n) = refl
    go (Err why) = refl

module _ (n interval inter p : ℕ) (type : is_inter (slice_type_of inter) ≡ true) (g : Group n interval p) where
  known : Length n
  known = a-length n g.is_length

  -- one plan
  between : (j : ℕ) (r : EvcPoc) → 1 ≤ j → j < n → plan (p + j) n interval inter true r ≡ in_hierarchy n j (slice_type_of inter) r
  unfolding plan
  between j r low high =
      let m = place_of p n j g.multiple high in
      let top = known.room p g.multiple g.highest in
      rw (g.is_length, type, le-ltb max_poc (p + j) (omega arith), g.no_key j low high, m, ne_eqb j 0 (omega arith))

  layer-depth : (j : ℕ) → layer_at j + 1 ≡ depth_of j
  unfolding depth_rule
  layer-depth j = omega arith

  one : (j : ℕ) (r : EvcPoc) → 1 ≤ j → j < n
      → plan (p + j) n interval inter true r ≡ plan_of (slice_type_of inter) (floor_log2 n) (step r (call_of (floor_log2 n) (layer_at j)))
  one j r low high = between j r low high ∙ rw (known.last-depth, layer-depth j)

  -- k plans from place j on
  each : (k j : ℕ) (r : EvcPoc) → 1 ≤ j → j + k ≤ n
      → plans_from k (p + j) n interval inter r ≡ map (plan_of (slice_type_of inter) (floor_log2 n)) (run r (map (call_of (floor_log2 n)) (layers_at j k)))
  unfolding plans_from run layers_at
  each zero j r low high = refl
  each (suc k) j r low high =
      let s = step r (call_of (floor_log2 n) (layer_at j)) in
      let e = one j r low (omega arith) in
      let q : p + j + 1 ≡ p + (j + 1) = omega arith in
      ap₂ ◌∷◌ e
      (ap₂ (λ (c : ℕ) (x : EvcPoc). plans_from k c n interval inter x) q (ap (λ (x : Planning). x.poc) e ∙ plan_after (slice_type_of inter) (floor_log2 n) s)
      ∙ each k (j + 1) s.after (omega arith) (omega arith))

  -- all of them
  pub all-between : (r : EvcPoc) → plans_from (n - 1) (p + 1) n interval inter r ≡ map (plan_of (slice_type_of inter) (floor_log2 n)) (run r (full_run (floor_log2 n)))
  all-between r = let h = known.above-one in each (n - 1) 1 r (omega arith) (omega arith) ∙ rw known.full
