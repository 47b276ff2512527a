-- A good line that stands whole in the piece.
use Rattle.std.proofs.Common.{rules, sym, ◌∙◌, ◌≡◌, length}
use Rattle.std.proofs.lemmas.List.{nil_from_length}
use Rattle.run.proofs.NextLines.{next-found}
use Rattle.run.proofs.next_line.Goals as goal

pub returns-in-Some : goal.returns-in-Some
returns-in-Some c =
    let none : length c.args.partial.now.items ≡ 0 = search rules in
    next-found c.args.piece.now _ c.args.at (sym c.read_line_at.ensures ∙ c.in-Some.is) (nil_from_length _ none)
