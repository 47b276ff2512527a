-- `words::write_word` meets its contract: four bytes in place of four. Assumes nothing.
use Prim.Native.Nat.{ℕ, ◌+◌, ◌-◌, ◌≤◌}
use native.Mathlib.Omega.{arith}
use mathlib.Core.Path.{◌≡◌, refl, sym, ◌∙◌}
use mathlib.Core.List.{List, append_assoc}
use lib.ListN.{length, take, drop}
use lib.Seq.{sets-eq, drop-drop}
use borrow.Rule.Slice.PartMut.{put_mid}
use Rattle.seq.specs.Lists.{Stored}
use Rattle.def.specs.Word.{word_bytes}
use Rattle.words.proofs.write_word.Goals as goal

put : (bs ys : List ℕ) (i n : ℕ) → length ys ≡ n → i + n ≤ length bs → Stored bs i ys n (put_mid i n bs ys)
put bs ys i n wide fits =
    record { holds = rw (← wide, drop-drop (length ys) i bs) (sym (sets-eq ys bs i (omega arith) ∙ append_assoc (take i bs) ys (drop (i + length ys) bs))); wide = wide }

pub returns : goal.returns
returns c =
    let e : c.args.at + 4 - c.args.at ≡ 4 = omega arith in
    rw (e, c.copy_from_slice.ensures.after, c.to_be_bytes.ensures) (put c.args.image.now (word_bytes c.args.n) c.args.at 4 refl c.requires)
