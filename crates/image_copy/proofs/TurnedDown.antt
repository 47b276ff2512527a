-- A copy that is turned down leaves the image as it was. Assumes nothing.
use Prim.Native.Nat.{ℕ}
use mathlib.Core.Path.{◌≡◌, refl, ap, ◌∙◌}
use mathlib.Core.Bool.{Bool, true, false, cond, ◌&&◌}
use mathlib.Core.List.{List}
use Rattle.seq.proofs.Tests.{and_left}
use Rattle.def.specs.Refusals.{NumberInUse}
use Rattle.def.specs.declared.{EvcRefP.EvcRefP}
use Rattle.def.specs.Results.{CopyResult}
use Rattle.refp.proofs.CopyLaws.{copy-refused-unchanged}
use Rattle.image.specs.Image.{Bytes, refp_at, refp_of, is_image}
use Rattle.image.proofs.BytesKept.{bytes-kept}
use Rattle.machine.proofs.EveryCall.{refused-answer}
use Rattle.exchange.specs.Lent.{bad_line, Left, left, machine_of, machine_bytes}
use Rattle.image_copy.specs.Copied.{is_entry, copy_into, with_lists, relisted, copied}

pub copy-kept : (image : List ℕ) (bytes : Bytes image) (cnt lidx : ℕ) (entry : List ℕ)
    → NumberInUse (copied image cnt lidx entry).given → (copied image cnt lidx entry).image ≡ image
unfolding copied
copy-kept image bytes cnt lidx entry t = go (is_image image && is_entry entry) refl t
  where
    r : CopyResult
    r = copy_into image cnt lidx entry

    result : Bool → Left
    result b = cond b (relisted image r) (left bad_line image)

    go : (b : Bool) → (is_image image && is_entry entry) ≡ b → NumberInUse (result b).given → (result b).image ≡ image
    go true e u =
        ap (λ (l : List EvcRefP). machine_bytes (with_lists (machine_of image) l))
        (refused-answer 0 r.answer u (copy-refused-unchanged (refp_of image) cnt lidx (refp_at entry 0)))
        ∙ bytes-kept image bytes (and_left (is_image image) (is_entry entry) e)
    go false e u = refl
