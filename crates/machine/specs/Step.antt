-- Section 11 of the specification: what each call does to state, lists and record, and what its answer shows.
-- Assumes nothing.
use Rattle.std.specs.Prelude.{ℕ, ◌*◌, ◌/◌, ◌%◌, Bool, false, not, List, eqb, pos, replicate, Result, Ok, Err, Option, Some, None}
use Rattle.def.specs.Constants.{slice_type_of}
use Rattle.def.specs.Refusals.{refusal_number}
use Rattle.def.specs.State.{list_places, new_pm}
pub use Rattle.def.specs.Word.{signed_of}
use Rattle.def.specs.declared.{PocVal.PocVal, Refusal.Refusal}
use Rattle.def.specs.declared.EvcRefP.{EvcRefP}
use Rattle.def.specs.declared.PutCall.{PutCall}
use Rattle.def.specs.declared.RefpCall.{RefpCall}
use Rattle.def.specs.Results.{RefpResult, PmResult}
use Rattle.poc.specs.PictureNumber.{Derivation, derive, record_of}
use Rattle.refp.specs.Lists.{lists}
use Rattle.picman.specs.Get.{get}
use Rattle.picman.specs.Put.{put}
use Rattle.picman.specs.Out.{out}
use Rattle.picman.specs.Init.{init}
use Rattle.line.specs.declared.Call.{Call}
use Rattle.line.specs.declared.Call.TheVariants.{Init, GetEmptyPic, PutPic, OutPic, RefpInit, PocDerivation}
use Rattle.line.specs.declared.Reply.{Reply}
use Rattle.line.specs.Answers.{reply, reply_of, no_buffer, twos_complement, bad_line_reply}
use Rattle.machine.specs.declared.Machine.{Machine}
use Rattle.machine.specs.declared.Stepped.{Stepped}

-- The machine that every run begins with: nothing in it, and every number 0.
abbrev pub new_ref_p : EvcRefP
new_ref_p = record { present = false; buf = 0; poc = 0; list_poc = replicate list_places 0 }

abbrev pub new_lists : List EvcRefP
new_lists = replicate (2 * list_places) new_ref_p

abbrev pub new_machine : Machine
new_machine = record { pm = new_pm; refp = new_lists; poc = record_of (pos 0) 0 0 }

-- A put's flags, by bits: 1 IDR, 2 wanted for output, 4 reference, 8 no picture.
abbrev pub flag : ℕ → ℕ → Bool
flag flags weight = eqb (flags / weight % 2) 1

abbrev pub put_call_of : ℕ → ℕ → ℕ → ℕ → PutCall
put_call_of flags poc tid gap = record {
  has_pic = not (flag flags 8);
  is_idr = flag flags 1;
  need_for_output = flag flags 2;
  ref_pic = flag flags 4;
  poc = poc;
  temporal_id = tid;
  ref_pic_gap_length = gap;
}

abbrev pub refp_call_of : ℕ → ℕ → ℕ → ℕ → ℕ → RefpCall
refp_call_of slice poc layer intra limit = record {
  slice_type = slice_type_of slice;
  poc = poc;
  layer_id = layer;
  last_intra = signed_of intra;
  max_num_ref_pics = limit;
}

abbrev pub stepped : Reply → Machine → Stepped
stepped r m = record { reply = r; machine = m }

-- The calls on the state leave lists and record.
abbrev pub on_state : ℕ → Machine → PmResult → Stepped
on_state call m r = stepped (reply_of call r.answer) (record { pm = r.pm; refp = m.refp; poc = m.poc })

abbrev pub on_lists : ℕ → Machine → RefpResult → Stepped
on_lists call m r = stepped (reply_of call r.answer) (record { pm = r.pm; refp = r.refp; poc = m.poc })

abbrev pub derived_reply : ℕ → Result PocVal Refusal → Reply
derived_reply call (Ok n) = reply call 0 no_buffer (twos_complement n.0)
derived_reply call (Err why) = reply call (refusal_number why) no_buffer 0

abbrev pub on_record : ℕ → Machine → Derivation → Stepped
on_record call m d = stepped (derived_reply call d.answer) (record { pm = m.pm; refp = m.refp; poc = d.poc })

-- One call.
unfoldable pub step : Machine → Call → Stepped
step m (Init size refs) = on_state 1 m (init m.pm size refs)
step m GetEmptyPic = on_state 2 m (get m.pm)
step m (PutPic flags poc tid gap) = on_state 3 m (put m.pm m.refp (put_call_of flags poc tid gap))
step m OutPic = on_state 4 m (out m.pm)
step m (RefpInit slice poc layer intra limit) = on_lists 5 m (lists m.pm m.refp (refp_call_of slice poc layer intra limit))
step m (PocDerivation L t) = on_record 6 m (derive L t m.poc)

-- One line: a bad one changes nothing.
unfoldable pub step_line : Machine → Option Call → Stepped
unfolding step
step_line m (Some c) = step m c
step_line m None = stepped bad_line_reply m
