-- The end of the input: no line is left, or one that lacks its newline.
-- Assumes nothing.
use Prim.Native.Nat.{ℕ}
use mathlib.Core.Path.{◌≡◌, refl}
use mathlib.Core.List.{List, [], ◌∷◌}
use Rattle.line.specs.Lines.{newline}
use Rattle.run.specs.declared.Session.{Session}
use Rattle.run.specs.Run.{lacked_newline, feed}
use Rattle.run.specs.Session.{SoundSession, RanOver, EndedOver}

module _ (keys rows : List ℕ) (s : Session) (out : List ℕ) where
  -- Nothing is written, and all is as it was.
  pub end_none : SoundSession keys rows s → s.partial.items ≡ [] → EndedOver keys rows s out s 0 keys rows out
  unfolding feed
  end_none sound none =
      record { written = rw none refl; length_is = rw none refl; machine = rw none refl; no_line = none; stays_sound = sound }

  -- A newline behind the line that is not finished yet ends it.
  lacks-newline : (l : List ℕ) → (l ≡ [] → ⊥) → lacked_newline l ≡ newline ∷ []
  lacks-newline [] n = absurd (n refl)
  lacks-newline (c ∷ cs) n = refl

  pub end_line : (s.partial.items ≡ [] → ⊥) → {after : Session} {len : ℕ} {keys' rows' out' : List ℕ}
      → RanOver keys rows s (newline ∷ []) out after len keys' rows' out' → EndedOver keys rows s out after len keys' rows' out'
  unfolding feed
  end_line n ran =
      let lacks = lacks-newline s.partial.items n in
      record {
        written = rw lacks ran.written;
        length_is = rw lacks ran.length_is;
        machine = rw lacks ran.machine;
        no_line = ran.line;
        stays_sound = ran.stays_sound;
      }
