-- The third demand, section 5 of the specification: the numbers of one sub-group never meet.
-- Assumes nothing.
use Rattle.std.specs.Prelude.{ℕ, ◌+◌, ◌-◌, ◌^◌, ◌≤◌, ◌<◌, ◌≡◌, Bool, true, false, eqb, ℤ, pos, ◌+ℤ◌, length, Result, Ok, Err}
use mathlib.Core.List.{List, [], ◌∷◌, map, Memᴰ}
use Rattle.seq.specs.Lists.{count_if, select, Distinct, Once, Rising}
use Rattle.def.specs.declared.EvcPoc.{EvcPoc}
use Rattle.def.specs.declared.{PocVal.PocVal, Refusal.Refusal}
use Rattle.poc.specs.PictureNumber.{derive, number, max_log2}

-- One derivation that is asked for: its L, so that the length is 2^L, and its layer. Any bytes.
pub record Call : Type 0 where
  pub log2 : ℕ
  pub layer : ℕ

-- A call, what it answered, and the record as it left it.
pub record Step : Type 0 where
  pub call : Call
  pub answer : Result PocVal Refusal
  pub after : EvcPoc

abbrev pub step : EvcPoc → Call → Step
step r c = record { call = c; answer = (derive c.log2 c.layer r).answer; after = (derive c.log2 c.layer r).poc }

-- What a list of derivations does, the record handed on from each to the next.
unfoldable pub run : EvcPoc → List Call → List Step
run r [] = []
run r (c ∷ cs) = step r c ∷ run (step r c).after cs

abbrev pub is_accepted : Step → Bool
is_accepted s = accepts s.answer
  where
    accepts : Result PocVal Refusal → Bool
    accepts (Ok n) = true
    accepts (Err why) = false

-- The accepted ones of a list of derivations.
unfoldable pub accepted_steps : EvcPoc → List Call → List Step
unfolding run select
accepted_steps r cs = select is_accepted (run r cs)

-- The number of an accepted call is what it answers; a call turned down has none, and 0 stands for it where nothing reads it.
abbrev pub number_of : Step → ℤ
number_of s = shown s.answer
  where
    shown : Result PocVal Refusal → ℤ
    shown (Ok n) = n.0
    shown (Err why) = pos 0

abbrev pub layer_of : Step → ℕ
layer_of s = s.call.layer

-- The decoding offset that a call leaves in the record.
abbrev pub offset_after : Step → ℤ
offset_after s = s.after.prev_doc_offset.0

-- What is accepted behind the first call of a sub-group: its length, layers from 1 up to L in order, and of a layer t no more than the 2^(t-1) offsets that it has.
pub record LaterCalls (L : ℕ) (steps : List Step) : Type 0 where
  pub same_length : (s : Step) → Memᴰ s steps → s.call.log2 ≡ L
  pub layers : (s : Step) → Memᴰ s steps → (1 ≤ layer_of s) × (layer_of s ≤ L)
  pub never_fall : Rising (map layer_of steps)
  pub at_most : (t : ℕ) → count_if (eqb t) (map layer_of steps) ≤ 2 ^ (t - 1)

-- The record stands right after a picture of layer 0 with number p: previous is p and the offset 0. The number that it holds is not read.
pub record AfterKey (p : ℕ) (r : EvcPoc) : Type 0 where
  pub previous : r.prev_poc_val ≡ p
  pub offset : r.prev_doc_offset.0 ≡ pos 0

-- A sub-group: what is accepted first is of layer 0 and length 2^L and gets the number p, what is accepted behind it is as above. Calls that are turned
-- down may stand anywhere, also in front.
pub record SubGroup (L p : ℕ) (r : EvcPoc) (calls : List Call) : Type 0 where
  pub short : L ≤ max_log2
  pub key : Step
  pub later : List Step
  pub are : accepted_steps r calls ≡ key ∷ later
  pub key_length : key.call.log2 ≡ L
  pub key_layer : layer_of key ≡ 0
  pub key_number : number_of key ≡ pos p
  pub rest : LaterCalls L later

-- The same where the list's first call is the accepted one of layer 0: the demand's own words.
pub record FirstIsKey (L p : ℕ) (r : EvcPoc) (first : Call) (later : List Call) : Type 0 where
  pub short : L ≤ max_log2
  pub first_length : first.log2 ≡ L
  pub first_layer : first.layer ≡ 0
  pub first_number : (step r first).answer ≡ Ok (record { 0 = pos p })
  pub rest : LaterCalls L (accepted_steps (step r first).after later)

-- n lies strictly between p - 2^L and p: it is p less a distance from 1 to 2^L - 1.
pub record Between (L p : ℕ) (n : ℤ) : Type 0 where
  pub distance : ℕ
  pub above_zero : 1 ≤ distance
  pub below_length : distance < 2 ^ L
  pub apart : n +ℤ pos distance ≡ pos p

-- Layer t, from 1 to L, and offset d, from 2^(t-1) to 2^t - 1, give the number n by the whole-number formula with previous p.
pub record Origin (L p : ℕ) (n : ℤ) (t d : ℕ) : Type 0 where
  pub layer_low : 1 ≤ t
  pub layer_high : t ≤ L
  pub offset_low : 2 ^ (t - 1) ≤ d
  pub offset_high : d < 2 ^ t
  pub gives : number p L t d ≡ n

-- Exactly one layer and offset can have given n, and every accepted call that answers n did so with that pair.
pub record ComesFrom (L p : ℕ) (n : ℤ) (steps : List Step) : Type 0 where
  pub layer : ℕ
  pub offset : ℕ
  pub origin : Origin L p n layer offset
  pub only : (t d : ℕ) → Origin L p n t d → (t ≡ layer) × (d ≡ offset)
  pub met_with : (s : Step) → Memᴰ s steps → number_of s ≡ n → (layer_of s ≡ layer) × (offset_after s ≡ pos offset)

-- The conclusions, of the later accepted calls.
pub record Apart (L p : ℕ) (steps : List Step) : Type 0 where
  pub differ : Distinct (pos p ∷ map number_of steps)
  pub within : (s : Step) → Memᴰ s steps → Between L p (number_of s)
  pub full_run : length steps + 1 ≡ 2 ^ L → (n : ℤ) → Between L p n → Once n (map number_of steps)
  pub comes_from : (n : ℤ) → Between L p n → ComesFrom L p n steps

-- Demand 3, on a record: derivations on one that stands right after a picture of layer 0.
abbrev pub DistanceFrom : Type 0
DistanceFrom =
    (L p : ℕ) (r : EvcPoc) (calls : List Call) → AfterKey p r → LaterCalls L (accepted_steps r calls) → Apart L p (accepted_steps r calls)

-- Demand 3, on a list of derivations whose first accepted one is of layer 0.
abbrev pub DistanceRule : Type 0
DistanceRule = (L p : ℕ) (r : EvcPoc) (calls : List Call) (g : SubGroup L p r calls) → Apart L p g.later

-- Demand 3 in its own words, where that one comes first.
abbrev pub DistanceFirst : Type 0
DistanceFirst =
    (L p : ℕ) (r : EvcPoc) (first : Call) (later : List Call) → FirstIsKey L p r first later
    → Apart L p (accepted_steps (step r first).after later)
