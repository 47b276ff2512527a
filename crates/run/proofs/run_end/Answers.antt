-- `run::run_end` meets its contract. Assumes nothing.
use Rattle.std.proofs.Common.{rules, ◌≡◌, length, ap}
use Rattle.std.proofs.lemmas.List.{nil_from_length}
use Rattle.run.proofs.Ending.{end_none, end_line}
use Rattle.run.proofs.run_end.Goals as goal

pub returns-then-is_empty : goal.returns-then-is_empty
returns-then-is_empty c =
    let none : length c.args.session.now.partial.items ≡ 0 = search rules in
    end_none c.args.keys.now c.args.rows.now c.args.session.now c.args.out.now c.requires.sound (nil_from_length _ none)

pub returns : goal.returns
returns c =
    let some : (length c.args.session.now.partial.items ≡ 0 → ⊥) = search rules in
    end_line c.args.keys.now c.args.rows.now c.args.session.now c.args.out.now (λ e. some (ap length e)) (search rules)
