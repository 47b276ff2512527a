use Rattle.std.proofs.Common.{◌≡◌, ◌∙◌, ◌++◌, ◌*◌, ◌+◌, ◌-◌, arith, take, drop, ap, ℕ}
use borrow.Rule.Slice.PartMut.{put_mid}
use Rattle.keys.proofs.RowLaws.{copied-behind, copied-before, different}
use Rattle.keys.proofs.row.copy_row.Goals as goal

pub returns-then-from-to : goal.returns-then-from-to
returns-then-from-to c =
    let a = c.args in
    let cut = c.split_at_mut-front in
    let m : 21 * a.from + a.n - 21 * a.from ≡ a.n = omega arith in
    copied-behind a.rows.now cut.result.0.now cut.result.1.now _ a.from (21 * a.to) a.n cut.ensures.value c.requires.4 (omega (arith, cut.ensures.front_len)) cut.ensures.front_len (c.copy_from_slice.ensures.after ∙ ap (λ (k : ℕ). take k (drop (21 * a.from) cut.result.0.now)) m)

pub returns-else-from-to : goal.returns-else-from-to
returns-else-from-to c =
    let a = c.args in
    let cut = c.split_at_mut-front-else-from-to in
    let m : 21 * a.to + a.n - 21 * a.to ≡ a.n = omega arith in
    ap (λ (k : ℕ). put_mid (21 * a.to) k cut.result.0.now c.copy_from_slice-else-from-to.new.self ++ cut.result.1.now) m ∙ copied-before a.rows.now cut.result.0.now cut.result.1.now _ a.from (21 * a.to) a.n cut.ensures.value c.requires.4 cut.ensures.front_len (omega (arith, different a.from a.to c.requires.3 c.if-from-to.false, cut.ensures.front_len, c.requires.4)) c.copy_from_slice-else-from-to.ensures.after
