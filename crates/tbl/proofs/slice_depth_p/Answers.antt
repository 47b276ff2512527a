-- `tbl::slice_depth_p` meets its contract: the table is its rule's. Assumes nothing.
use Prim.Native.Nat.{ℕ}
use mathlib.Core.Path.{◌≡◌, refl, subst, ◌∙◌}
use mathlib.Core.Bool.{Bool, true}
use lib.Dec.{ltb}
use lib.Count.{count_trailing_zeros}
use lib.Ieee as Ieee
use Rattle.def.specs.Binary.{floor_log2}
use Rattle.seq.specs.Lists.{entries, entries_from}
use Rattle.tbl.specs.DepthRows.{is_gop_size, slice_depth_p, depth_rule_p}
use Rattle.tbl.proofs.Rows.{Gop, gop, answer-is}
use Rattle.tbl.proofs.slice_depth_p.Goals as goal

within : ℕ → ℕ → Bool
within n j = ltb j n

pub returns : goal.returns
unfolding slice_depth_p depth_rule_p floor_log2 Ieee.size Ieee.span Ieee.climb count_trailing_zeros entries entries_from within
returns c =
    let n = c.in_ok-gop_size.gop_size.pictures in
    let j = c.args.position in
    let e : is_gop_size n ≡ true = c.in_ok-gop_size.gop_size.is_size in
    let g : Gop n = gop n e in
    subst (λ (m : ℕ). c.depth_in.result ≡ slice_depth_p m j) c.in_ok-gop_size.ensures
    (c.depth_in.ensures ∙ answer-is 16 within depth_rule_p n n j e g.high refl)
