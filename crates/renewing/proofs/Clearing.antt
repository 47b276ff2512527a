-- The new machine on slices of the right sizes.
-- Assumes nothing.
use mathlib.Core.Path.{◌≡◌, refl}
use mathlib.Core.Bool.{true, false}
use mathlib.Core.List.{List}
use Prim.Native.Nat.{ℕ}
use lib.ListN.{length, replicate}
use Rattle.machine.specs.Lent.{Slices, slices, sized}
use Rattle.sizing.proofs.Sized.{sized-long}
use Rattle.renewing.specs.Renewed.{Renewed}

pub not-renewed : (s : Slices) → sized s ≡ false → Renewed 18 s s
not-renewed s e = record { gives = rw e; slices_are = rw e }

pub renewed : {s : Slices} {keys rows registers : List ℕ} → sized s ≡ true
    → keys ≡ replicate (length s.keys) 0 → rows ≡ replicate (length s.rows) 0 → registers ≡ replicate (length s.registers) 0
    → Renewed 0 s (slices keys rows registers)
renewed {s} e k w r =
    let long = sized-long s e in
    record {
      gives = rw e;
      slices_are = rw (e, k, w, r, long.0.slots_long, long.0.rows_long, long.1) refl;
    }
