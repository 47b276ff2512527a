-- The hypotheses of the distance rule can be met: a full run of every length, and that all its calls are accepted.
-- Assumes nothing.
use Rattle.std.specs.Prelude.{ℕ, zero, suc, ◌+◌, ◌^◌, ◌≤◌, ◌≡◌, List, [], ◌++◌, map, length, replicate}
use Rattle.def.specs.declared.EvcPoc.{EvcPoc}
use Rattle.poc.specs.PictureNumber.{max_poc, max_log2}
use Rattle.poc.specs.Distance.{Call, run, accepted_steps, LaterCalls, AfterKey}

-- n layers from layer k + 1 on, each layer t as often as it may be, 2^(t-1) times.
unfoldable pub layers_from : ℕ → ℕ → List ℕ
layers_from k zero = []
layers_from k (suc n) = replicate (2 ^ k) (suc k) ++ layers_from (suc k) n

-- The layers 1, then 2 twice, 3 four times, and so on up to L.
abbrev pub full_layers : ℕ → List ℕ
full_layers L = layers_from 0 L

abbrev pub call_of : ℕ → ℕ → Call
call_of L t = record { log2 = L; layer = t }

-- Those layers as calls of length 2^L.
abbrev pub full_run : ℕ → List Call
full_run L = map (call_of L) (full_layers L)

-- Where all calls of a list, and not only the accepted ones, are as the rule wants them, none is turned down.
abbrev pub NoneTurnedDown : Type 0
NoneTurnedDown =
    (L p : ℕ) (r : EvcPoc) (calls : List Call) → L ≤ max_log2 → p ≤ max_poc → AfterKey p r → LaterCalls L (run r calls)
    → accepted_steps r calls ≡ run r calls

-- The calls of a full run are all accepted, as the rule wants them, and 2^L - 1 of them.
pub record IsFullRun (L : ℕ) (r : EvcPoc) (calls : List Call) : Type 0 where
  pub none_turned_down : accepted_steps r calls ≡ run r calls
  pub meets : LaterCalls L (accepted_steps r calls)
  pub full : length (accepted_steps r calls) + 1 ≡ 2 ^ L

-- For every L from 0 to 15, on every record that stands right after a picture of layer 0.
abbrev pub FullRunExists : Type 0
FullRunExists = (L p : ℕ) (r : EvcPoc) → L ≤ max_log2 → p ≤ max_poc → AfterKey p r → IsFullRun L r (full_run L)
