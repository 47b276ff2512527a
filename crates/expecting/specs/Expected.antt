-- The message of a line of commands that could not be read.
-- Assumes nothing.
use Rattle.std.specs.Prelude.{ℕ, List, ◌++◌}
use Rattle.phrases.specs.Phrases.{chars, decimal}
use Rattle.commands.specs.declared.Expected.{Expected}

abbrev pub expected_text : Expected → List ℕ
expected_text Expected.Command = chars "init, get, put, out, lists or derive"
expected_text Expected.First = chars "a number from 0 to 255"
expected_text Expected.Second = chars "a number from 0 to 255"
expected_text Expected.Slice = chars "I, P, B or a number from 0 to 255"
expected_text Expected.Number = chars "a number from 0 to 4294967295"
expected_text Expected.Picture = chars "none or a number from 0 to 4294967295"
expected_text Expected.PutPart = chars "layer, gap, idr, out, ref or none, each once"
expected_text Expected.ListPart = chars "layer, intra or limit, each once"
expected_text Expected.Layer = chars "a number from 0 to 255"
expected_text Expected.Gap = chars "a number from 0 to 4294967295"
expected_text Expected.Intra = chars "a number from -2147483648 to 2147483647"
expected_text Expected.Limit = chars "a number from 0 to 255"
expected_text Expected.End = chars "the end of the line"
expected_text Expected.ShorterLine = chars "at most 1023 characters"

unfoldable pub expected_words : ℕ → Expected → List ℕ
expected_words number want = chars "line " ++ (decimal number ++ (chars ": expected " ++ (expected_text want ++ chars "\n")))
