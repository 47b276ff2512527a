-- Init on the rest: it comes to what init_whole says, whatever keys and rows hold.
-- Assumes nothing.
use Rattle.std.specs.Prelude.{Ok, Err}
use mathlib.Core.Path.{◌≡◌, refl}
use mathlib.Core.Bool.{true, false, ◌||◌}
use mathlib.Core.List.{List}
use Prim.Native.Nat.{ℕ}
use lib.Dec.{ltb}
use Rattle.seq.proofs.Tests.{cond-true, cond-false}
use Rattle.def.specs.declared.{Answer.Answer, Refusal.Refusal}
use Rattle.def.specs.State.{slots, list_places}
use Rattle.keys.specs.declared.Rest.{Rest}
use Rattle.keys.specs.Keys.{stands, Sized}
use Rattle.picman.specs.Init.{init_whole}
use Rattle.picman.specs.OnKeys.{Calls}
use Rattle.picman.proofs.Calls.{calls_by, calls-refused, calls-done}

module _ (keys rows : List ℕ) (rest : Rest) (sized : Sized keys rows) (size refs : ℕ) where
  abbrev limited : Rest
  limited = record rest { lease = 0; max_pb_size = size; max_num_ref_pics = refs; poc_increase = 1 }

  pub on-too-big : (ltb slots size || ltb list_places refs) ≡ true
      → Calls (Err Refusal.SizeTooBig) keys rows rest keys rows rest (init_whole (stands keys rows rest) size refs)
  on-too-big t = calls_by (cond-true _ _ t) (calls-refused Refusal.SizeTooBig keys rows rest sized)

  pub on-set : (ltb slots size || ltb list_places refs) ≡ false
      → Calls (Ok Answer.Done) keys rows rest keys rows limited (init_whole (stands keys rows rest) size refs)
  on-set t = calls_by (cond-false _ _ t) (calls-done (record { answers = refl; stands_for = refl; lists_stay = refl; still_sized = sized }))
