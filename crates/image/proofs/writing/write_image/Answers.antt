-- State, lists and record, stored one after the other, fill the image.
-- Assumes nothing.
use Rattle.std.proofs.Common.{◌≡◌, ℕ, List, rules, subst}
use Rattle.std.proofs.lemmas.List.{set-get_or}
use mathlib.Core.List.{flat_map}
use Rattle.seq.specs.Lists.{Stored}
use Rattle.seq.proofs.Stores.{stored-then, stored-whole}
use Rattle.def.specs.declared.EvcRefP.{EvcRefP}
use Rattle.image.specs.Image.{refp_bytes, image_bytes}
use Rattle.image.proofs.writing.write_image.Goals as goal

-- What is stored of a list is stored of any that is the same.
of_lists : {bs after : List ℕ} {i n : ℕ} {written refp : List EvcRefP} → Stored bs i (flat_map refp_bytes written) n after → written ≡ refp
    → Stored bs i (flat_map refp_bytes refp) n after
of_lists {bs} {after} {i} {n} p e = subst (λ (l : List EvcRefP). Stored bs i (flat_map refp_bytes l) n after) e p

pub returns : goal.returns
unfolding image_bytes
returns c =
    stored-whole (stored-then c.write_pm.ensures (stored-then (of_lists {refp = c.args.refp.now} c.write_row.ensures (search (rules, set-get_or))) c.write_poc_at.ensures)) c.requires
