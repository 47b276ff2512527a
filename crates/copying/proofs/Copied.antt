-- What a copy on the rows came to, on lists that are lent.
-- Assumes nothing.
use Rattle.std.specs.Prelude.{Result}
use mathlib.Core.Path.{◌≡◌}
use mathlib.Core.List.{List}
use Prim.Native.Nat.{ℕ}
use Rattle.def.specs.declared.{EvcRefP.EvcRefP, Answer.Answer, Refusal.Refusal}
use Rattle.keys.specs.Keys.{lists_in}
use Rattle.refp.specs.Copy.{copy}
use Rattle.refp.specs.Running.{CopyCame}
use Rattle.copying.specs.Copying.{GivesCopy}

pub copy-comes-to : {answer : Result Answer Refusal} {refp : List EvcRefP} {rows after stored : List ℕ} (cnt lidx : ℕ) (e : EvcRefP) → lists_in rows ≡ refp
    → CopyCame answer rows after stored (copy (lists_in rows) cnt lidx e) → GivesCopy (copy refp cnt lidx e) answer (lists_in after)
copy-comes-to cnt lidx e same came = rw (← same) (record { answers = came.answers; lists_are = came.lists_are })
