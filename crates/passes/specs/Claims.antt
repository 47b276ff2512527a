-- What is claimed of a pass over an order; the question why a picture is not in a list rests on these.
-- Proofs: proofs/PassLaws.antt, proofs/Taken.antt, proofs/Backward.antt.
-- Assumes nothing.
use Rattle.std.specs.Prelude.{ℕ, ◌≤◌, ◌≡◌, false, not, List, [], ◌∷◌, ◌++◌, length, take}
use Rattle.seq.specs.Lists.{select}
use Rattle.ordering.specs.Order.{Key}
use Rattle.passes.specs.declared.{Direction.Direction, Walk.Walk}
use Rattle.passes.specs.Passes.{Ask, Progress, below, pass_on, pass, list_of}

-- ---- a pass, from every list and every bound

-- Over two parts it is the pass over the first and then over the second.
abbrev pub PassAppends : Type 0
PassAppends = (a : Ask) (way : Direction) (p : Progress) (ks hs : List Key) → pass_on a way p (ks ++ hs) ≡ pass_on a way (pass_on a way p ks) hs

-- A full list stays as it is, and the bound too.
abbrev pub FullStays : Type 0
FullStays = (a : Ask) (way : Direction) (p : Progress) (ks : List Key) → a.limit ≤ length p.list → pass_on a way p ks ≡ p

-- A list only grows at its end.
abbrev pub GrowsAtEnd : Type 0
GrowsAtEnd = (a : Ask) (way : Direction) (p : Progress) (ks : List Key) → take (length p.list) (pass_on a way p ks).list ≡ p.list

-- ---- passing over is leaving out

-- The request without the age test.
abbrev pub ageless : Ask → Ask
ageless a = record { limit = a.limit; poc = a.poc; old = λ _. false; start = a.start; after = a.after }

-- The order less its old pictures.
abbrev pub young : Ask → List Key → List Key
young a ks = select (λ k. not (a.old k)) ks

-- A pass is the pass without the age test over the order less its old pictures.
abbrev pub PassingOver : Type 0
PassingOver = (a : Ask) (way : Direction) (p : Progress) (ks : List Key) → pass_on a way p ks ≡ pass_on (ageless a) way p (young a ks)

-- So is every list.
abbrev pub ListsPassOver : Type 0
ListsPassOver = (a : Ask) (walk : Walk) (ks : List Key) → list_of a walk ks ≡ list_of (ageless a) walk (young a ks)

-- ---- the backward list of B, for every request, order, limit and layer, with old pictures passed over

-- A pass that takes nothing from the empty list gives back every list it is handed: the bound never moves, and limit 0 is the full list.
abbrev pub NothingTaken : Type 0
NothingTaken = (a : Ask) (way : Direction) (ks list : List Key) → pass a way ks [] ≡ [] → pass a way ks list ≡ list

-- When the forward list has an entry, the backward list has one: so no list call has an empty backward list to tell of.
abbrev pub BackwardHasEntry : Type 0
BackwardHasEntry = (a : Ask) (ks : List Key) → (list_of a Walk.DownThenUp ks ≡ [] → ⊥) → list_of a Walk.UpThenDown ks ≡ [] → ⊥

-- If going up takes nothing from the empty list, the backward list is the forward list.
abbrev pub BackwardIsForward : Type 0
BackwardIsForward = (a : Ask) (ks : List Key) → pass a Direction.Up ks [] ≡ [] → list_of a Walk.UpThenDown ks ≡ list_of a Walk.DownThenUp ks

-- A request of B at number 8, layer 1, with no age test, and pictures of layer 0.
abbrev pub at_eight : Ask
at_eight = record { limit = 21; poc = 8; old = λ _. false; start = 0; after = below }

abbrev pub key_at : ℕ → ℕ → Key
key_at n slot = record { poc = n; layer = 0; slot = slot }

-- For example: where nothing is higher, the backward list takes more than its first entry, all that the forward list takes.
abbrev pub NothingHigher : Type 0
NothingHigher = list_of at_eight Walk.UpThenDown (key_at 4 1 ∷ key_at 0 0 ∷ []) ≡ key_at 4 1 ∷ key_at 0 0 ∷ []
