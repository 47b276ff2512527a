-- The commands: `init 4 2`, `get`, `put 0 layer 0 gap 0 idr out ref`, `put none layer 0 gap 0`, `out`, `lists B 8 layer 1 intra 4 limit 21`,
-- `derive 3 1`. What stands behind a put's number and a list call's may stand in any order and may be left out.
-- Assumes nothing.
use Rattle.std.specs.Prelude.{ℕ, List, [], ◌∷◌, Option, None, Some, Result, Ok, Err}
use Rattle.line.specs.declared.Call.{Call}
use Rattle.line.specs.Claims.{CallFits}
use Rattle.commands.specs.declared.Expected.{Expected}
use Rattle.commands.specs.declared.draft.Draft.{Draft}
use Rattle.commands.specs.Words.{words_from}
use Rattle.commands.specs.Drafts.{next, step, finished}

abbrev pub and_then : {A B E : Type 0} → Result A E → (A → Result B E) → Result B E
and_then (Ok a) f = f a
and_then (Err e) f = Err e

-- The first word that does not fit decides what was expected.
unfoldable pub step_over : Draft → List (List ℕ) → Result Draft Expected
unfolding next
step_over d [] = Ok d
step_over d (w ∷ ws) = and_then (step d w) (λ e. step_over e ws)

-- The line's characters, without its newline.
unfoldable pub read_command : List ℕ → Result (Option Call) Expected
unfolding step_over words_from
read_command line = and_then (step_over Draft.Command (words_from [] line)) finished

-- A command's call fits its bytes, so it is one that the writer writes.
abbrev pub CommandFits : Result (Option Call) Expected → Type 0
CommandFits (Ok (Some call)) = CallFits call
CommandFits (Ok None) = Unit {0}
CommandFits (Err want) = Unit {0}
