-- `store::buffers::held_buffers` meets its contract: what is flagged so far, with what is left, is what the keys hold. Assumes nothing.
use mathlib.Core.Path.{refl, sym, ◌∙◌}
use mathlib.Core.Bool.{false, or-false}
use native.Mathlib.Omega.{arith}
use lib.ListN.{length-set, get_or-replicate, drop_of_length-le}
use Rattle.seq.specs.Lists.{any_of, select}
use Rattle.store.proofs.Holding.{flag-step}
use Rattle.store.proofs.buffers.held_buffers.Goals as goal

pub loop-key-init : goal.loop-key-init
loop-key-init c = (refl, λ b h. rw (get_or-replicate 32 b false false h))

pub loop-key-preserved : goal.loop-key-preserved
loop-key-preserved c =
    let l = c.loop-key in
    let f = c.buffer_of-b.ensures in (
      simp length-set l.invariant.0,
      λ b h. flag-step _ l.held l.key-index _ _ b (omega arith) f.0 c.is_present.ensures (omega arith) ∙ l.invariant.1 b h,
    )

pub returns : goal.returns
unfolding any_of select
returns c =
    record {
      size = c.loop-key.invariant.0;
      flag = λ b h.
          let l = c.loop-key in
          let none_left = drop_of_length-le c.args.keys.now {i = l.key-index} (omega arith) in
          sym (or-false _) ∙ (rw none_left at (l.invariant.1 b h));
    }
