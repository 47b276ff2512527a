-- Load and save, way out by way out: from what was tested and written to what holds of them.
-- Assumes nothing.
use Prim.Native.Nat.{ℕ}
use mathlib.Core.Path.{◌≡◌, refl, sym, ap, ap₂, subst, ◌∙◌}
use mathlib.Core.Bool.{true, false}
use mathlib.Core.List.{List}
use native.Mathlib.Omega.{arith}
use lib.ListN.{length}
use borrow.Author.Tests.{eq-eqb, ne_eqb}
use Rattle.def.specs.declared.EvcPoc.{EvcPoc}
use Rattle.keys.specs.declared.Rest.{Rest}
use Rattle.keys.specs.Keys.{stands}
use Rattle.registers.specs.Registers.{rest_of, poc_of}
use Rattle.whole.specs.Whole.{whole}
use Rattle.image.specs.Image.{image_length, is_image}
use Rattle.machine.specs.declared.{Machine.Machine, Scalars.Scalars}
use Rattle.machine.specs.Running.{machine_in}
use Rattle.machine.specs.Lent.{slices, machine_at, sized}
use Rattle.parting.specs.Parts.{TakenMachine}
use Rattle.parting.proofs.Parted.{same-machine}
use Rattle.exchange.specs.Lent.{bad_line, not_whole, left, machine_of, machine_bytes, ImageHolds}
use Rattle.transfer.specs.Exchanged.{load_status, Loads, saved, Saves}

-- scalars by their parts are those that registers are read as
scalars-at : (keys rows registers : List ℕ) (s : Scalars) → rest_of registers ≡ s.rest → poc_of registers ≡ s.poc
    → machine_at (slices keys rows registers) ≡ machine_in keys rows s
scalars-at keys rows registers s e f = ap₂ (λ (q : Rest) (p : EvcPoc). machine_in keys rows (record { rest = q; poc = p })) e f

module _ (keys rows registers : List ℕ) where
  module _ (image : List ℕ) where
    -- ---- load

    load-refused : (n : ℕ) → n ≡ load_status keys rows registers image → (n ≡ 0 → ⊥) → Loads n keys rows registers image keys rows registers
    load-refused n e refusal = record {
      given = e;
      loaded = λ z. absurd (refusal z);
      kept = λ t. record { same_keys = refl; same_rows = refl; same_registers = refl };
    }

    pub load-other-sizes : sized (slices keys rows registers) ≡ false → Loads bad_line keys rows registers image keys rows registers
    load-other-sizes e = load-refused bad_line (rw e) (λ z. omega arith)

    pub load-no-image : sized (slices keys rows registers) ≡ true → is_image image ≡ false → Loads bad_line keys rows registers image keys rows registers
    load-no-image e f = load-refused bad_line (rw (e, f)) (λ z. omega arith)

    module _ (fit : sized (slices keys rows registers) ≡ true) (is : is_image image ≡ true) where
      pub load-not-whole : whole (machine_of image).pm ≡ false → Loads not_whole keys rows registers image keys rows registers
      load-not-whole w = load-refused not_whole (rw (fit, is, w)) (λ z. omega arith)

      pub load-done : (m : Machine) → m ≡ machine_of image → whole m.pm ≡ true
          → (keys' rows' registers' : List ℕ) (s : Scalars) → TakenMachine m keys' rows' s → rest_of registers' ≡ s.rest → poc_of registers' ≡ s.poc
          → Loads 0 keys rows registers image keys' rows' registers'
      load-done m e w keys' rows' registers' s taken f g =
          let found : whole (machine_of image).pm ≡ true = rw e at w in
          record {
            given = rw (fit, is, found);
            loaded = λ z. scalars-at keys' rows' registers' s f g ∙ same-machine taken w ∙ e;
            kept = λ t. absurd (omega (arith, t.0));
          }

    -- ---- save

    save-refused : (n : ℕ) → left n image ≡ saved keys rows registers image → (n ≡ 0 → ⊥) → Saves n keys rows registers image image
    save-refused n e refusal = record { given = e; holds = λ z. absurd (refusal z); kept = λ t. refl }

    pub save-other-sizes : sized (slices keys rows registers) ≡ false → Saves bad_line keys rows registers image image
    save-other-sizes e = save-refused bad_line (rw e) (λ z. omega arith)

    pub save-no-room : sized (slices keys rows registers) ≡ true → (length image ≡ image_length → ⊥) → Saves bad_line keys rows registers image image
    save-no-room e f = save-refused bad_line (rw (e, ne_eqb (length image) image_length f)) (λ z. omega arith)

    module _ (fit : sized (slices keys rows registers) ≡ true) (long : length image ≡ image_length) where
      pub save-not-whole : whole (stands keys rows (rest_of registers)) ≡ false → Saves not_whole keys rows registers image image
      save-not-whole w = save-refused not_whole (rw (fit, eq-eqb (length image) image_length long, w)) (λ z. omega arith)

      pub save-done : whole (stands keys rows (rest_of registers)) ≡ true
          → (m : Machine) (s : Scalars) → m ≡ machine_in keys rows s → rest_of registers ≡ s.rest → poc_of registers ≡ s.poc
          → (image' : List ℕ) → image' ≡ machine_bytes m → ImageHolds image' m → Saves 0 keys rows registers image image'
      save-done w m s e f g image' b h =
          let same : m ≡ machine_at (slices keys rows registers) = e ∙ sym (scalars-at keys rows registers s f g) in
          record {
            given = rw (fit, eq-eqb (length image) image_length long, w) (ap (left 0) (b ∙ ap machine_bytes same));
            holds = λ z. subst (ImageHolds image') same h;
            kept = λ t. absurd (omega (arith, t.0));
          }
