-- A record written among the thirteen registers.
-- Assumes nothing.
use Rattle.std.specs.Prelude.{◌≡◌, List, ℕ, length}
use Rattle.def.specs.declared.EvcPoc.{EvcPoc}
use Rattle.registers.specs.Registers.{rest_of, poc_of}

-- The record is read back as it is, and whatever else the registers are read as stays.
pub record Recorded (before after : List ℕ) (poc : EvcPoc) : Type 0 where
  pub rest_stays : rest_of after ≡ rest_of before
  pub poc_is : poc_of after ≡ poc
  pub still_long : length after ≡ length before
