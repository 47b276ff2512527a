-- The frames, computed.
-- Assumes nothing.
use mathlib.Core.Path.{refl}
use lib.Ieee.{size, span, climb}
use Rattle.seq.specs.Lists.{all_of, any_of, count_if, select, all_differ, select_at, move_to}
use Rattle.def.specs.Binary.{floor_log2}
use Rattle.whole.specs.Whole.{whole}
use Rattle.poc.specs.PictureNumber.{derive, offset_from, seek, in_layer}
use Rattle.marking.specs.Marking.{marked, sweep, slide, excess, unmark_first, note_first, last_walk}
use Rattle.ordering.specs.Order.{keys_from, insert_key, ordered, down}
use Rattle.passes.specs.Passes.{pass_on, pass}
use Rattle.choosing.specs.Choice.{choice}
use Rattle.refp.specs.Lists.{lists_whole, lists}
use Rattle.frames.specs.Frames.{frames, state_after, FramesHold}

pub frames-hold : FramesHold
unfolding frames state_after derive offset_from seek in_layer floor_log2 size span climb marked sweep select_at slide excess count_if unmark_first note_first last_walk move_to whole all_of any_of select all_differ lists_whole lists choice down keys_from ordered insert_key pass pass_on
frames-hold = refl
