-- An answer to a line, by what the line is.
-- Assumes nothing.
use Rattle.std.specs.Prelude.{Option}
use Rattle.line.specs.declared.Call.{Call}
use Prim.Native.Nat.{ℕ}
use mathlib.Core.Path.{◌≡◌, subst}
use Rattle.running.specs.Slices.{Slices}
use Rattle.answering.specs.Answered.{OnSlices}

pub on_line : {r : ℕ} {line told : Option Call} {before after : Slices} → line ≡ told → OnSlices r line before after → OnSlices r told before after
on_line {r} {line} {told} {before} {after} e p = subst (λ (l : Option Call). OnSlices r l before after) e p
