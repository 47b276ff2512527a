-- The row for a marked picture, each way out with the tests in front of it.
-- Assumes nothing.
use mathlib.Core.Path.{◌≡◌}
use mathlib.Core.Bool.{Bool, true, false}
use Prim.Native.Nat.{ℕ, ◌≤◌, ◌<◌}
use lib.Dec.{ltb}
use borrow.Author.Tests.{le-leb, lt-leb, eq-eqb, ne_eqb}
use Rattle.ordering.specs.InNumbers.{key_in}
use Rattle.passes.specs.declared.{Direction.Direction, PassRule.PassRule}
use Rattle.passes.specs.Passes.{takes_key}
use Rattle.passes.specs.InNumbers.{ask_in}
use Rattle.reasons.specs.declared.{Reason.Reason}
use Rattle.reasons.specs.Reasons.{other_side, judged}

module _ (rule : PassRule) (both : Bool) (way : Direction) (cnt bound key : ℕ) where
  abbrev answer : Reason
  answer = judged (ask_in rule) both true way cnt bound (key_in key)

  abbrev takes : Bool
  takes = takes_key (ask_in rule) way cnt bound (key_in key)

  module _ (t : takes ≡ false) where
    pub judged-full : rule.limit ≤ cnt → Reason.Full ≡ answer
    judged-full f = rw (t, le-leb rule.limit cnt f)

    module _ (f : cnt < rule.limit) where
      pub judged-old : ltb (key_in key).poc rule.oldest ≡ true → Reason.Old ≡ answer
      judged-old o = rw (t, lt-leb rule.limit cnt f, o)

      module _ (o : ltb (key_in key).poc rule.oldest ≡ false) where
        pub judged-same : (key_in key).poc ≡ rule.poc → Reason.SameNumber ≡ answer
        judged-same e = rw (t, lt-leb rule.limit cnt f, o, eq-eqb (key_in key).poc rule.poc e)

        module _ (e : (key_in key).poc ≡ rule.poc → ⊥) where
          pub judged-side : other_side both rule.poc (key_in key) ≡ true → Reason.OtherSide ≡ answer
          judged-side d = rw (t, lt-leb rule.limit cnt f, o, ne_eqb (key_in key).poc rule.poc e, d)

          pub judged-layer : other_side both rule.poc (key_in key) ≡ false → Reason.LayerOverBound ≡ answer
          judged-layer d = rw (t, lt-leb rule.limit cnt f, o, ne_eqb (key_in key).poc rule.poc e, d)
