use Rattle.std.proofs.Common.{◌≡◌, length, ℕ, ◌<◌, false, get_or}
use Rattle.def.specs.State.{slots}
use Rattle.marking.specs.OnKeys.{key_outdated}
use Rattle.marking.proofs.sweep.pick_outdated.Given as goal

abbrev pub invariant-loop-i : goal.invariant-loop-i
invariant-loop-i l = (length l.picks ≡ slots) × ((j : ℕ) → j < l.i → get_or l.picks j false ≡ key_outdated l.gap j (get_or l.keys j 0))
