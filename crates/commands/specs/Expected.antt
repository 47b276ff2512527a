-- What is expected where a line cannot be read, by its number: 0 to 13 in the order of the type. Any other number stands for the end of the line,
-- whose own is 12.
-- Assumes nothing.
use Rattle.std.specs.Prelude.{ℕ, cond, eqb}
use Rattle.commands.specs.declared.Expected.{Expected}

abbrev pub expected_of : ℕ → Expected
expected_of n =
    cond (eqb n 0) Expected.Command
    (cond (eqb n 1) Expected.First
    (cond (eqb n 2) Expected.Second
    (cond (eqb n 3) Expected.Slice
    (cond (eqb n 4) Expected.Number
    (cond (eqb n 5) Expected.Picture
    (cond (eqb n 6) Expected.PutPart
    (cond (eqb n 7) Expected.ListPart
    (cond (eqb n 8) Expected.Layer
    (cond (eqb n 9) Expected.Gap
    (cond (eqb n 10) Expected.Intra
    (cond (eqb n 11) Expected.Limit
    (cond (eqb n 13) Expected.ShorterLine Expected.End))))))))))))
