-- `tbl::slice_depth` meets its contract: the table is its rule's. Assumes nothing.
use Prim.Native.Nat.{ℕ, ◌+◌, ◌-◌}
use native.Mathlib.Omega.{arith}
use mathlib.Core.Path.{◌≡◌, subst, ◌∙◌}
use mathlib.Core.Bool.{Bool, true}
use lib.Dec.{ltb}
use lib.Count.{count_trailing_zeros}
use lib.Ieee as Ieee
use Rattle.def.specs.Binary.{floor_log2}
use Rattle.seq.specs.Lists.{entries, entries_from}
use Rattle.tbl.specs.DepthRows.{is_gop_size, slice_depth, depth_rule}
use Rattle.tbl.proofs.Rows.{Gop, gop, before-last, answer-is}
use Rattle.tbl.proofs.slice_depth.Goals as goal

within : ℕ → ℕ → Bool
within n j = ltb (j + 1) n

pub returns : goal.returns
unfolding slice_depth depth_rule floor_log2 Ieee.size Ieee.span Ieee.climb count_trailing_zeros entries entries_from within
returns c =
    let n = c.in_ok-gop_size.gop_size.pictures in
    let j = c.args.position in
    let e : is_gop_size n ≡ true = c.in_ok-gop_size.gop_size.is_size in
    let g : Gop n = gop n e in
    subst (λ (m : ℕ). c.depth_in.result ≡ slice_depth m j) c.in_ok-gop_size.ensures
    (c.depth_in.ensures ∙ answer-is 15 within (λ _. depth_rule) n (n - 1) j e (omega arith) (before-last j n))
