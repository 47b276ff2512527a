-- The copy of one entry (`check_copy_refp`): it goes to place `cnt` of one list unless its number stands before that.
-- Assumes nothing.
use Rattle.std.specs.Prelude.{ℕ, ◌+◌, ◌*◌, cond, ◌||◌, List, ltb, eqb, set, take, drop, Ok, Err}
use Rattle.seq.specs.Lists.{any_of}
use Rattle.def.specs.State.{list_places}
use Rattle.def.specs.declared.{EvcRefP.EvcRefP, Answer.Answer, Refusal.Refusal}
use Rattle.def.specs.Results.{CopyResult}

-- The first `cnt` entries of list `lidx`, 0 forward and 1 backward.
abbrev pub first_entries : List EvcRefP → ℕ → ℕ → List EvcRefP
first_entries refp cnt lidx = take cnt (drop (lidx * list_places) refp)

-- No such place (14): `cnt` over 20, or `lidx` not 0 or 1. Same number (13): it stands among the first entries. Else the entry is written as it is.
unfoldable pub copy : List EvcRefP → ℕ → ℕ → EvcRefP → CopyResult
unfolding any_of
copy refp cnt lidx src =
    cond (ltb 20 cnt || ltb 1 lidx) (record { answer = Err Refusal.NoSuchPlace; refp = refp })
    (cond (any_of (λ e. eqb e.poc src.poc) (first_entries refp cnt lidx)) (record { answer = Err Refusal.SameNumber; refp = refp })
    (record { answer = Ok Answer.Done; refp = set refp (lidx * list_places + cnt) src }))
