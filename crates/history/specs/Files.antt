-- One picture, one file: the decoder files a picture under the number that is handed over. Over any run of lines from the new machine,
-- what was put and wanted is handed over exactly once, or still waits.
-- Assumes nothing.
use Rattle.std.specs.Prelude.{ℕ, ◌+◌, ◌≤◌, ◌≡◌, Bool, cond, ◌&&◌, eqb, length, Option, Some, None, Ok}
use mathlib.Core.List.{List, [], ◌∷◌, map, flat_map}
use Rattle.seq.specs.Lists.{count_if, select, Distinct}
use Rattle.def.specs.declared.Slot.{Slot}
use Rattle.def.specs.State.{is_wanted}
use Rattle.poc.specs.Distance as poc
use Rattle.poc.specs.Clip.{Clip}
use Rattle.line.specs.declared.{Call.Call, Reply.Reply}
use Rattle.line.specs.Calls.{read_line}
use Rattle.line.specs.Answers.{answer_line}
use Rattle.reader.specs.Reading.{reads_from}
use Rattle.machine.specs.declared.Machine.{Machine}
use Rattle.machine.specs.Step.{new_machine, put_call_of, step_line}
use Rattle.run.specs.Run.{program}
use Rattle.line.specs.Lines.{lines_from}
use Rattle.history.specs.Pictures.{is_done}

-- A line of a run, good or bad, with the reply that the program shows for it.
pub record Turn : Type 0 where
  pub line : Option Call
  pub reply : Reply

-- Lines one after the other, each on the machine that the one before left; and the machine after the last.
unfoldable pub turns : Machine → List (Option Call) → List Turn
turns m [] = []
turns m (l ∷ ls) = record { line = l; reply = (step_line m l).reply } ∷ turns (step_line m l).machine ls

unfoldable pub leaves : Machine → List (Option Call) → Machine
leaves m [] = m
leaves m (l ∷ ls) = leaves (step_line m l).machine ls

-- What the program prints for an input is the replies of a run over the input's lines.
abbrev pub ProgramShows : Type 0
ProgramShows =
    (input : List ℕ) → program input ≡ flat_map (λ (t : Turn). answer_line t.reply) (turns new_machine (map read_line (lines_from [] input)))

abbrev pub replies : List Turn → List Reply
replies ts = map (λ (t : Turn). t.reply) ts

-- And reading what it prints from the start gives these replies back, in order, and nothing else.
abbrev pub ProgramIsRead : Type 0
ProgramIsRead =
    (input : List ℕ) (n : ℕ) → length (program input) ≤ n
    → reads_from n (program input) 0 ≡ map Ok (replies (turns new_machine (map read_line (lines_from [] input))))

-- A number under a condition.
abbrev pub if_so : Bool → ℕ → List ℕ
if_so b n = cond b (n ∷ []) []

-- The number of a wanted picture that was put: of an accepted put with a picture that is wanted for output.
abbrev pub put_number : Option Call → Reply → List ℕ
put_number (Some (Call.PutPic flags poc tid gap)) r =
    if_so (is_done r && ((put_call_of flags poc tid gap).has_pic && (put_call_of flags poc tid gap).need_for_output)) poc
put_number (Some (Call.Init size refs)) r = []
put_number (Some Call.GetEmptyPic) r = []
put_number (Some Call.OutPic) r = []
put_number (Some (Call.RefpInit slice poc layer intra limit)) r = []
put_number (Some (Call.PocDerivation L t)) r = []
put_number None r = []

-- The number that an out handed over, as its reply shows it.
abbrev pub out_number : Option Call → Reply → List ℕ
out_number (Some Call.OutPic) r = if_so (is_done r) r.value
out_number (Some (Call.Init size refs)) r = []
out_number (Some Call.GetEmptyPic) r = []
out_number (Some (Call.PutPic flags poc tid gap)) r = []
out_number (Some (Call.RefpInit slice poc layer intra limit)) r = []
out_number (Some (Call.PocDerivation L t)) r = []
out_number None r = []

-- These numbers over a run, in its order; and the numbers of the slots that still wait to be handed over.
abbrev pub put_numbers : List Turn → List ℕ
put_numbers ts = flat_map (λ (t : Turn). put_number t.line t.reply) ts

abbrev pub out_numbers : List Turn → List ℕ
out_numbers ts = flat_map (λ (t : Turn). out_number t.line t.reply) ts

abbrev pub waiting : Machine → List ℕ
waiting m = map (λ (s : Slot). s.pic.poc) (select is_wanted m.pm.pic)

-- Of every number, the wanted pictures that were put are as many as the outs that showed it and the slots that still wait with it, together.
abbrev pub OnePictureOneFile : Type 0
OnePictureOneFile =
    (lines : List (Option Call)) (n : ℕ)
    → count_if (eqb n) (put_numbers (turns new_machine lines))
    ≡ count_if (eqb n) (out_numbers (turns new_machine lines)) + count_if (eqb n) (waiting (leaves new_machine lines))

-- So where the numbers put and wanted all differ, no number is handed over twice.
abbrev pub FilesDiffer : Type 0
FilesDiffer = (lines : List (Option Call)) → Distinct (put_numbers (turns new_machine lines)) → Distinct (out_numbers (turns new_machine lines))

-- ---- numbers that were derived

-- The derivations among the lines, and the numbers that the replies to the accepted ones show.
abbrev pub derivation : Option Call → List poc.Call
derivation (Some (Call.PocDerivation L t)) = record { log2 = L; layer = t } ∷ []
derivation (Some (Call.Init size refs)) = []
derivation (Some Call.GetEmptyPic) = []
derivation (Some (Call.PutPic flags poc tid gap)) = []
derivation (Some Call.OutPic) = []
derivation (Some (Call.RefpInit slice poc layer intra limit)) = []
derivation None = []

abbrev pub derivations : List (Option Call) → List poc.Call
derivations ls = flat_map derivation ls

abbrev pub derived_number : Option Call → Reply → List ℕ
derived_number (Some (Call.PocDerivation L t)) r = if_so (is_done r) r.value
derived_number (Some (Call.Init size refs)) r = []
derived_number (Some Call.GetEmptyPic) r = []
derived_number (Some (Call.PutPic flags poc tid gap)) r = []
derived_number (Some Call.OutPic) r = []
derived_number (Some (Call.RefpInit slice poc layer intra limit)) r = []
derived_number None r = []

abbrev pub derived_numbers : List Turn → List ℕ
derived_numbers ts = flat_map (λ (t : Turn). derived_number t.line t.reply) ts

-- Where the derivations of a run are those of a clip, the numbers that their replies show all differ.
abbrev pub DerivedDiffer : Type 0
DerivedDiffer =
    (lines : List (Option Call)) → Clip new_machine.poc (derivations lines) → Distinct (derived_numbers (turns new_machine lines))

-- And where each number is put and wanted at most as often as the derivations of a clip gave it, no number is handed over twice. For 0 it
-- may be once more: no derivation of a clip gives 0, the number of the IDR picture that a clip begins with.
abbrev pub ClipFilesDiffer : Type 0
ClipFilesDiffer =
    (lines : List (Option Call)) → Clip new_machine.poc (derivations lines)
    → ((n : ℕ) → count_if (eqb n) (put_numbers (turns new_machine lines)) ≤ count_if (eqb n) (0 ∷ derived_numbers (turns new_machine lines)))
    → Distinct (out_numbers (turns new_machine lines))
