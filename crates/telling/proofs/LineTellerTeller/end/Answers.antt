-- The last line is told, or there was none.
use Rattle.std.proofs.Common.{◌≡◌, length, rules}
use Rattle.telling.proofs.Bytes.{last-told, no-last}
use Rattle.telling.proofs.LineTellerTeller.end.Goals as goal

pub returns-then-not-is_empty : goal.returns-then-not-is_empty
returns-then-not-is_empty g c =
    let some : length c.self.inside.held.items ≡ 0 → ⊥ = search rules in
    rw (← c.self.view_is) (last-told g.L.Lines.told c.self.inside.held.items c.self.inside.number some c.end_line.ensures)

pub returns-else-not-is_empty : goal.returns-else-not-is_empty
returns-else-not-is_empty g c =
    let none : length c.self.inside.held.items ≡ 0 = search rules in
    rw (← c.self.view_is) (no-last g.L.Lines.told c.self.inside.held.items c.self.inside.number none)
