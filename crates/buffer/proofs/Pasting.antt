-- As many elements as there are, pasted from the start.
-- Assumes nothing.
use Prim.Native.Nat.{ℕ, ◌+◌}
use native.Mathlib.Omega.{arith}
use mathlib.Core.Path.{◌≡◌}
use mathlib.Core.List.{List, append-nil}
use lib.ListN.{length, drop_of_length-le}
use lib.Seq.{take_all, paste}

pub paste_all : (n : ℕ) (d s : List ℕ) → length d ≡ n → length s ≡ n → paste d 0 s n ≡ s
paste_all n d s e f = rw (take_all n s (omega arith), drop_of_length-le d {i = 0 + n} (omega arith)) (append-nil s)
