-- The length of a group as a type.
-- Assumes nothing.
use Rattle.std.specs.Prelude.{ℕ, ◌≡◌, false, Result, MatchResult}
use Rattle.def.specs.declared.Refusal.{Refusal}
use Rattle.def.specs.declared.Refusal.TheVariants.{BadLength}
use Rattle.tbl.specs.declared.GopSize.{GopSize}
use Rattle.tbl.specs.DepthRows.{is_gop_size}

-- The length that is n, or 17 where no group has it.
abbrev pub GivesSize : ℕ → Result GopSize Refusal → Type 0
GivesSize n r = MatchResult r (λ size. size.pictures ≡ n) (λ why. (why ≡ BadLength) × (is_gop_size n ≡ false))
