-- `image_copy::copy_image` meets its contract: each way out knows which test failed, the last that both were passed.
-- Assumes nothing.
use mathlib.Core.Path.{◌≡◌, sym, ◌∙◌}
use mathlib.Core.Bool.{true, false, true≢false}
use mathlib.Core.List.{List}
use Prim.Native.Nat.{ℕ}
use native.Mathlib.Omega.{arith}
use lib.Dec.{eqb}
use lib.ListN.{length}
use borrow.Author.Tests.{eqb-true}
use Rattle.seq.proofs.Tests.{and_left}
use Rattle.image.specs.Image.{refp_width, Bytes, is_flag, is_image}
use Rattle.exchange.specs.Lent.{left, machine_of, ImageHolds}
use Rattle.image_copy.specs.Copied.{is_entry, copy_into, with_lists, copied, Copies}
use Rattle.image.proofs.BytesKept.{image-long}
use Rattle.exchange.proofs.Kept.{left-kept}
use Rattle.image_copy.proofs.TurnedDown.{copy-kept}
use Rattle.image_copy.proofs.copy_image.Goals as goal
use Rattle.image_copy.proofs.copy_image.Goals.{then-not-is_image-via-then-not-is_image as no_image}
use Rattle.image_copy.proofs.copy_image.Goals.{then-not-is_image-via-else-not-is_image+then-not-is_entry as no_entry}

entry-long : (bs : List ℕ) → is_entry bs ≡ true → length bs ≡ refp_width
entry-long bs e = eqb-true (length bs) refp_width (and_left (eqb (length bs) refp_width) (is_flag bs 0) e)

copies : {r cnt lidx : ℕ} {image entry image' : List ℕ} → Bytes image → left r image' ≡ copied image cnt lidx entry
    → (is_image image ≡ true → is_entry entry ≡ true → ImageHolds image' (with_lists (machine_of image) (copy_into image cnt lidx entry).refp))
    → Copies r image cnt lidx entry image'
copies {cnt = cnt} {lidx} {image} {entry} bytes e h = record { given = e; holds = h; kept = left-kept e (copy-kept image bytes cnt lidx entry) }

pub returns-then-not-is_image : goal.returns-then-not-is_image
unfolding copied
returns-then-not-is_image c =
    let bytes : Bytes c.args.image.now = record { each = λ i. omega (arith, c.slice_known-1.given i) } in
    elim c.then-not-is_image.branch [
      | no_image w ↦
          let e : is_image c.args.image.now ≡ false = sym c.is_image.ensures ∙ w.if-not-is_image.true in
          copies bytes (rw e) (λ f _. absurd (true≢false (sym f ∙ e)))
      | no_entry w ↦
          let e : is_entry c.args.entry.now ≡ false = sym w.is_entry.ensures ∙ w.if-not-is_entry.true in
          copies bytes (rw ((sym c.is_image.ensures ∙ w.if-not-is_image.false), e)) (λ _ f. absurd (true≢false (sym f ∙ e)))
    ]

pub copy_entry-requires : goal.copy_entry-requires
copy_entry-requires c =
    (image-long _ (sym c.is_image.ensures ∙ c.if-not-is_image.false), entry-long c.args.entry.now (sym c.is_entry.ensures ∙ c.if-not-is_entry.false))

pub returns : goal.returns
unfolding copied
returns c =
    let e = c.copy_entry.ensures in
    copies (record { each = λ i. omega (arith, c.slice_known-1.given i) }) (rw ((sym c.is_image.ensures ∙ c.if-not-is_image.false), (sym c.is_entry.ensures ∙ c.if-not-is_entry.false)) e.given) (λ _ _. e.holds)
