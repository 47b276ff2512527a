-- The line's texts stand behind what was there.
use Rattle.std.proofs.Common.{arith}
use Rattle.telling.proofs.Bytes.{line-told, stands}
use Rattle.telling.proofs.LineTeller.end_line.Goals as goal

pub returns : goal.returns
returns g c =
    let l = c.self.inside in
    let s = stands l.out l.err l.told.out l.told.err c.self.view_is (omega arith) (omega arith) in
    let a = s.0 in
    let b = s.1 in
    let r = c.requires.out_room in
    let q = c.requires.err_room in
    let held = c.as_slice.ensures.value in
    rw (← c.self.view_is, c.clear.ensures)
    (line-told g.L.Lines.told l.held.items l.out l.err c.tell-told.new.out c.tell-told.new.err l.number l.told.out l.told.err c.tell-told.result.out
    c.tell-told.result.err 131072 (omega arith) (omega arith) (omega arith) (omega arith) (rw held at c.tell-told.ensures))
