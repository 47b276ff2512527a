-- The list call (`evc_picman_refp_init`): which pictures the two reference lists of a slice hold, and what else becomes of state and lists.
-- Assumes nothing.
use Rattle.std.specs.Prelude.{Bool, true, false, cond, not, List, ◌++◌, map, ltb, length, get_or, take, drop, Ok, Err}
use Rattle.def.specs.State.{list_places, highest_poc, no_slot, with_counts}
use Rattle.def.specs.declared.{Slot.Slot, EvcPm.EvcPm, EvcRefP.EvcRefP, RefpCall.RefpCall, SliceType.SliceType, Answer.Answer, Refusal.Refusal}
use Rattle.def.specs.Results.{RefpResult}
use Rattle.whole.specs.Whole.{whole}
use Rattle.ordering.specs.Order.{Key, down}
use Rattle.choosing.specs.Choice.{Chosen, turned_down, chosen, choice}

-- What an entry says of the picture of a key: that there is one, its buffer, its number and its list numbers.
abbrev pub entry_of : List Slot → Key → EvcRefP
entry_of xs k =
    let s = get_or xs k.slot no_slot in
    record { present = true; buf = s.buf; poc = s.pic.poc; list_poc = s.pic.list_poc }

-- All entries lose flag and buffer number and keep the rest.
abbrev pub dropped : EvcRefP → EvcRefP
dropped e = record { present = false; buf = 0; poc = e.poc; list_poc = e.list_poc }

-- One list: the pictures taken, then what the entries behind them keep.
abbrev pub written : List Slot → List Key → List EvcRefP → List EvcRefP
written xs ks es = map (entry_of xs) ks ++ drop (length ks) (map dropped es)

-- Both lists, flat, forward first.
abbrev pub both_written : List Slot → List Key → List Key → List EvcRefP → List EvcRefP
both_written xs fwd bwd refp = written xs fwd (take list_places refp) ++ written xs bwd (drop list_places refp)

-- A call that is turned down changes nothing.
abbrev pub lists_refused : Refusal → EvcPm → List EvcRefP → RefpResult
lists_refused why pm refp = record { answer = Err why; pm = pm; refp = refp }

-- The answer shows the counts of the state.
abbrev pub counts_shown : EvcPm → List EvcRefP → RefpResult
counts_shown pm refp = record { answer = Ok (Answer.Counts pm.num_refp_0 pm.num_refp_1); pm = pm; refp = refp }

-- Counts are set at the end.
abbrev pub lists_with : EvcPm → List EvcRefP → List Key → List Key → RefpResult
lists_with pm refp fwd bwd = counts_shown (with_counts pm (length fwd) (length bwd)) (both_written pm.pic fwd bwd refp)

abbrev pub lists_chosen : EvcPm → List EvcRefP → Chosen → RefpResult
lists_chosen pm refp (turned_down why) = lists_refused why pm refp
lists_chosen pm refp (chosen fwd bwd) = lists_with pm refp fwd bwd

abbrev pub is_i : SliceType → Bool
is_i SliceType.EVC_ST_UNKNOWN = false
is_i SliceType.EVC_ST_I = true
is_i SliceType.EVC_ST_P = false
is_i SliceType.EVC_ST_B = false

-- On a whole state: number too high (6); slice I changes nothing, old counts included; else what is chosen on the order of the marked pictures.
unfoldable pub lists_whole : EvcPm → List EvcRefP → RefpCall → RefpResult
unfolding down choice
lists_whole pm refp c =
    cond (ltb highest_poc c.poc) (lists_refused Refusal.NumberTooHigh pm refp)
    (cond (is_i c.slice_type) (counts_shown pm refp) (lists_chosen pm refp (choice c (down pm.pic))))

-- State not whole (7) first.
unfoldable pub lists : EvcPm → List EvcRefP → RefpCall → RefpResult
unfolding whole lists_whole
lists pm refp c = cond (not (whole pm)) (lists_refused Refusal.StateNotWhole pm refp) (lists_whole pm refp c)
