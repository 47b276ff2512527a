-- The table of words against the numbers of the refusals: each refusal has its word, and no other status shows it.
-- Assumes nothing.
use Rattle.std.specs.Prelude.{ℕ, ◌≡◌, List}
use Rattle.phrases.specs.Phrases.{chars}
use Rattle.def.specs.declared.Refusal.{Refusal}
use Rattle.def.specs.declared.Refusal.TheVariants.{SizeTooBig, StoreFull, PictureLeased, NoLease, SlotTaken, NumberTooHigh, StateNotWhole}
use Rattle.def.specs.declared.Refusal.TheVariants.{TooManyReferences, NoReferences, ForwardListEmpty, SameNumber, NoSuchPlace, BadLayer}
use Rattle.def.specs.declared.Refusal.TheVariants.{BadRecord, BadLength, BadLine, BadPlan, NoRoom}
use Rattle.def.specs.Refusals.{refusal_number}
use Rattle.wording.specs.Words.{status_word}

-- The trade's word for each refusal.
abbrev pub refusal_word : Refusal → List ℕ
refusal_word SizeTooBig = chars "size too big"
refusal_word StoreFull = chars "rack full"
refusal_word PictureLeased = chars "picture still out"
refusal_word NoLease = chars "nothing out"
refusal_word SlotTaken = chars "slot taken"
refusal_word NumberTooHigh = chars "number too high"
refusal_word StateNotWhole = chars "torn rack"
refusal_word TooManyReferences = chars "too many references"
refusal_word NoReferences = chars "no references"
refusal_word ForwardListEmpty = chars "forward list empty"
refusal_word SameNumber = chars "twin"
refusal_word NoSuchPlace = chars "no such place"
refusal_word BadLayer = chars "bad layer"
refusal_word BadRecord = chars "bad record"
refusal_word BadLength = chars "bad length"
refusal_word BadLine = chars "bad line"
refusal_word BadPlan = chars "bad plan"
refusal_word NoRoom = chars "no room"

abbrev pub EachHasItsWord : Type 0
EachHasItsWord = (why : Refusal) → status_word (refusal_number why) ≡ refusal_word why

-- No code shows another's word, withdrawn and unknown numbers among them.
abbrev pub NoOtherShowsIt : Type 0
NoOtherShowsIt = (why : Refusal) (status : ℕ) → status_word status ≡ refusal_word why → status ≡ refusal_number why
