-- Beyond demand 3: in a clip, sub-group after sub-group on one record, no number is ever given twice.
-- Assumes nothing.
use Rattle.std.specs.Prelude.{ℕ, ◌≡◌, List, [], ◌∷◌, ◌++◌, map}
use Rattle.seq.specs.Lists.{Distinct}
use Rattle.def.specs.declared.EvcPoc.{EvcPoc}
use Rattle.poc.specs.Distance.{Call, step, accepted_steps, number_of, SubGroup}

-- The record as a list of derivations leaves it.
unfoldable pub leaves : EvcPoc → List Call → EvcPoc
leaves r [] = r
leaves r (c ∷ cs) = leaves (step r c).after cs

-- These calls on the record r are sub-groups, one after the other, each on the record that the one before left and of any length
-- 2^L. Behind the last one calls may follow that are all turned down.
pub data Clip : EvcPoc → List Call → Type 0 where
  ended : {r : EvcPoc} {calls : List Call} → accepted_steps r calls ≡ [] → Clip r calls
  group : {r : EvcPoc} {calls rest : List Call} (L p : ℕ) → SubGroup L p r calls → Clip (leaves r calls) rest → Clip r (calls ++ rest)

-- In a clip the numbers of all accepted calls differ.
abbrev pub ClipRule : Type 0
ClipRule = (r : EvcPoc) (calls : List Call) → Clip r calls → Distinct (map number_of (accepted_steps r calls))
