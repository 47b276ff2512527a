-- Printing and reading agree: what is made of the words for a call is that call, for each kind of command and every call that is written.
-- Assumes nothing.
use Rattle.std.specs.Prelude.{ℕ, ◌≡◌, [], None, Some, Ok}
use Rattle.framing.specs.Framing.{whole_of}
use Rattle.line.specs.Calls.{call_bytes}
use Rattle.line.specs.declared.Call.{Call}
use Rattle.line.specs.Claims.{CallFits}
use Rattle.phrases.specs.Phrases.{chars}
use Rattle.commands.specs.Commands.{read_command}
use Rattle.asking.specs.Asked.{texts, asked}
use Rattle.spelling.specs.Spelling.{say_command}

abbrev pub SaidIsRead : Type 0
SaidIsRead = (call : Call) → CallFits call → read_command (say_command call) ≡ Ok (Some call)

-- So what the program makes of the words for a call, in whatever line they stand, is the line of that call, and no message.
abbrev pub SaidIsAsked : Type 0
SaidIsAsked = (number : ℕ) (call : Call) → CallFits call → asked number (say_command call) ≡ texts (whole_of (call_bytes call)) []

-- Some lines as a person types them, and the words that they stand for.
pub record ShortForms : Type 0 where
  pub usual_put : read_command (chars "put 5 ref out") ≡ read_command (chars "put 5 layer 0 gap 0 out ref")
  pub no_picture : read_command (chars "put none layer 0 gap 0") ≡ read_command (chars "put 0 layer 0 gap 0 none")
  pub usual_lists : read_command (chars "lists B 8") ≡ read_command (chars "lists 3 8 layer 0 intra 0 limit 21")
  pub comment : read_command (chars "get # a lease") ≡ read_command (chars "get")
  pub empty : read_command (chars "  # nothing") ≡ Ok None
