-- `records::write_poc_at` meets its contract: three numbers of four bytes, stored one after the other.
-- Assumes nothing.
use Rattle.std.proofs.Common.{◌≡◌, ℕ, ◌+◌, List, subst, arith, rules}
use mir.Syntax.{w32}
use mir.Val.{to_z, of_z}
use Rattle.seq.specs.Lists.{Stored}
use Rattle.seq.proofs.Stores.{stored-then}
use Rattle.words.specs.Words.{poc_bytes}
use Rattle.records.proofs.write_poc_at.Goals as goal

-- the last number's place, counted from the one before
placed : {bs after ys : List ℕ} {n : ℕ} (i : ℕ) → Stored bs (i + 8) ys n after → Stored bs (i + 4 + 4) ys n after
placed {bs} {after} {ys} {n} i p =
    let e : i + 8 ≡ i + 4 + 4 = omega arith in
    subst (λ (j : ℕ). Stored bs j ys n after) e p

-- what the machine reads of a field's bits is the field
pub returns : goal.returns
unfolding poc_bytes
returns c =
    let poc = c.args.poc in
    let e : to_z w32 (of_z w32 poc.poc_val.0) ≡ poc.poc_val.0 = search rules in
    let f : to_z w32 (of_z w32 poc.prev_doc_offset.0) ≡ poc.prev_doc_offset.0 = search rules in
    let number = rw e at c.write_signed.ensures in
    let offset = rw f at c.write_signed-2.ensures in
    stored-then number (stored-then c.write_word.ensures (placed c.args.at offset))
