-- The keys in the order of the walk are the keys themselves: as many, of each test as many, the same members, none twice if none was.
-- Assumes nothing.
use mathlib.Core.Path.{◌≡◌, refl}
use mathlib.Core.Bool.{Bool}
use mathlib.Core.List.{List, Memᴰ}
use Prim.Native.Nat.{ℕ, ◌<◌}
use native.Mathlib.Omega.{arith}
use lib.ListN.{length, get_or, length-reverse}
use Rattle.seq.specs.Lists.{count_if, Distinct}
use Rattle.std.proofs.lemmas.List.{get_or-reverse}
use Rattle.seq.proofs.Orders.{count-reverse, mem-reverse, distinct-reverse}
use Rattle.passes.specs.declared.Direction.{Direction}
use Rattle.passes.specs.InNumbers.{place_of}
use Rattle.ordering.specs.Order.{Key}
use Rattle.passes.specs.Passes.{walked}

pub walked-length : (way : Direction) (ks : List Key) → length (walked way ks) ≡ length ks
walked-length Direction.Up ks = length-reverse ks
walked-length Direction.Down ks = refl

pub walked-count : (way : Direction) (p : Key → Bool) (ks : List Key) → count_if p (walked way ks) ≡ count_if p ks
walked-count Direction.Up p ks = count-reverse p ks
walked-count Direction.Down p ks = refl

pub walked-mem : {k : Key} (way : Direction) (ks : List Key) → Memᴰ k (walked way ks) → Memᴰ k ks
walked-mem Direction.Up ks m = mem-reverse ks m
walked-mem Direction.Down ks m = m

pub walked-distinct : (way : Direction) (ks : List Key) → Distinct ks → Distinct (walked way ks)
walked-distinct Direction.Up ks d = distinct-reverse ks d
walked-distinct Direction.Down ks d = d

-- which key comes after i others
pub place-below : (way : Direction) (num i : ℕ) → i < num → place_of way num i < num
place-below Direction.Up num i h = omega arith
place-below Direction.Down num i h = h

pub walked_at : (way : Direction) (ks : List Key) (i : ℕ) (d : Key) → i < length ks → get_or (walked way ks) i d ≡ get_or ks (place_of way (length ks) i) d
walked_at Direction.Up ks i d h = get_or-reverse ks i d h
walked_at Direction.Down ks i d h = refl
