use Rattle.std.proofs.Common.{ℕ, List, [], ◌∷◌, length}
use Rattle.seq.proofs.Stores.{Storing}
use Rattle.hex_digits.specs.Hex.{digits_of}
use Rattle.framing.proofs.write_digits.Given as goal

abbrev digits : ℕ → List ℕ
digits b = digits_of (b ∷ [])

abbrev pub invariant-loop-i : goal.invariant-loop-i
invariant-loop-i l = Storing digits 2 l.initial.target 0 l.bytes (length l.bytes) l.i l.target
