-- Slots taken apart one after the other: a slot that keeps its own rules is read back, but for its list numbers whatever comes behind it, and with
-- them where no other slot holds its buffer.
-- Assumes nothing.
use mathlib.Core.Path.{◌≡◌, refl, sym, ap, ap₂, ◌∙◌}
use mathlib.Core.Bool.{Bool, true, false, cond}
use mathlib.Core.Bool as Bool
use mathlib.Core.List.Memᴰ
use mathlib.Core.List.{List, [], ◌∷◌, map, Memᴰ}
use mathlib.Core.Logic.{◌⊎◌, inl, inr}
use Prim.Native.Nat.{ℕ, ◌*◌}
use native.Mathlib.Omega.{arith}
use lib.ListN.{length, replicate}
use lib.Seq.{length-paste}
use Rattle.seq.specs.Lists.{select, Distinct}
use Rattle.seq.proofs.Members.{select-mem, holds-tail}
use Rattle.def.specs.State.{list_places, empty_slot, occupied_by, is_present, buffer_of}
use Rattle.def.specs.declared.{Slot.Slot}
use Rattle.keys.specs.Keys.{row_length, rows_length, row_at, slot_at, lists_in}
use Rattle.keys.proofs.RowLaws.{row_other, row-whole}
use Rattle.keys.proofs.KeyLaws.{slot-made}
use Rattle.keys.proofs.ListRows.{lists_stay}
use Rattle.whole.specs.Whole.{buffers_of}
use Rattle.conversion.specs.Apart.{rows_of}
use Rattle.conversion.specs.Keyed.{slot_fits, key_for, rows_with, Shaped}
use Rattle.conversion.proofs.KeyedLaws.{key-none, key-held, rows-kept, rows_none, rows-held, buffer_below, zero}

-- ---- the rows

module _ (s : Slot) (rows : List ℕ) (long : length rows ≡ rows_length) (shaped : Shaped s) where
  pub with-long : length (rows_with rows s) ≡ rows_length
  with-long = pick (slot_fits s) s.present refl refl
    where
      pick : (f p : Bool) → slot_fits s ≡ f → s.present ≡ p → length (rows_with rows s) ≡ rows_length
      pick false p e q = rw (rows-kept s e rows) long
      pick true false e q = rw (rows_none s e q rows) long
      pick true true e q =
          let b = buffer_below s e q in
          rw (rows-held s e q rows)
          (length-paste rows (row_length * s.buf) s.pic.list_poc row_length (omega arith) (omega (arith, shaped.row_long)) ∙ long)

  -- no row but the buffer's own changes, and not the lists
  with-other : (c : ℕ) → (s.present ≡ true → c ≡ s.buf → ⊥) → row_at (rows_with rows s) c ≡ row_at rows c
  with-other c n = pick (slot_fits s) s.present refl refl
    where
      pick : (f p : Bool) → slot_fits s ≡ f → s.present ≡ p → row_at (rows_with rows s) c ≡ row_at rows c
      pick false p e q = rw (rows-kept s e rows) refl
      pick true false e q = rw (rows_none s e q rows) refl
      pick true true e q =
          let b = buffer_below s e q in
          rw (rows-held s e q rows)
          (row_other rows s.buf s.pic.list_poc row_length long (omega arith) (omega arith) (omega (arith, shaped.row_long)) c (n q))

  with-lists : lists_in (rows_with rows s) ≡ lists_in rows
  with-lists = pick (slot_fits s) s.present refl refl
    where
      pick : (f p : Bool) → slot_fits s ≡ f → s.present ≡ p → lists_in (rows_with rows s) ≡ lists_in rows
      pick false p e q = rw (rows-kept s e rows) refl
      pick true false e q = rw (rows_none s e q rows) refl
      pick true true e q =
          let b = buffer_below s e q in
          rw (rows-held s e q rows) (lists_stay rows s.buf s.pic.list_poc row_length long b (omega arith) (omega (arith, shaped.row_long)))

  with_row : slot_fits s ≡ true → s.present ≡ true → row_at (rows_with rows s) s.buf ≡ s.pic.list_poc
  with_row e q =
      let b = buffer_below s e q in
      rw (rows-held s e q rows) (row-whole rows s.buf s.pic.list_poc long (omega arith) shaped.row_long)

abbrev AllShaped : List Slot → Type 0
AllShaped ss = (s : Slot) → Memᴰ s ss → Shaped s

pub rows_long : (ss : List Slot) (rows : List ℕ) → length rows ≡ rows_length → AllShaped ss → length (rows_of rows ss) ≡ rows_length
unfolding rows_of
rows_long [] rows l h = l
rows_long (s ∷ ss) rows l h = rows_long ss (rows_with rows s) (with-long s rows l (h s (Memᴰ.head refl))) (holds-tail h)

pub rows-lists : (ss : List Slot) (rows : List ℕ) → length rows ≡ rows_length → AllShaped ss → lists_in (rows_of rows ss) ≡ lists_in rows
unfolding rows_of
rows-lists [] rows l h = refl
rows-lists (s ∷ ss) rows l h =
    rows-lists ss (rows_with rows s) (with-long s rows l (h s (Memᴰ.head refl))) (holds-tail h) ∙ with-lists s rows l (h s (Memᴰ.head refl))

first-held : (s : Slot) (ss : List Slot) → s.present ≡ true → Memᴰ s.buf (buffers_of (s ∷ ss))
first-held s ss p = Memᴰ.map buffer_of (select-mem is_present (s ∷ ss) (Memᴰ.head refl) p)

later-held : (s : Slot) (ss : List Slot) {c : ℕ} → Memᴰ c (buffers_of ss) → Memᴰ c (buffers_of (s ∷ ss))
unfolding select
later-held s ss {c} m = pick s.present
  where
    pick : (p : Bool) → Memᴰ c (map buffer_of (cond p (s ∷ select is_present ss) (select is_present ss)))
    pick true = Memᴰ.tail m
    pick false = m

-- The row of a buffer that none of the slots holds.
rows_other : (ss : List Slot) (rows : List ℕ) → length rows ≡ rows_length → AllShaped ss → (c : ℕ)
    → (Memᴰ c (buffers_of ss) → ⊥) → row_at (rows_of rows ss) c ≡ row_at rows c
unfolding rows_of
rows_other [] rows l h c n = refl
rows_other (s ∷ ss) rows l h c n =
    rows_other ss (rows_with rows s) (with-long s rows l (h s (Memᴰ.head refl))) (holds-tail h) c (λ m. n (later-held s ss m))
    ∙ with-other s rows l (h s (Memᴰ.head refl)) c (λ p e. n (Memᴰ.cast e (first-held s ss p)))

-- ---- a slot read back

-- The slot without its list numbers.
abbrev pub bare : Slot → Slot
bare s = record {
  present = s.present;
  buf = s.buf;
  pic = record {
    poc = s.pic.poc;
    is_ref = s.pic.is_ref;
    need_for_out = s.pic.need_for_out;
    temporal_id = s.pic.temporal_id;
    list_poc = replicate list_places 0;
  };
}

-- A list of zeros.
all-zero : (ns : List ℕ) → ((n : ℕ) → Memᴰ n ns → n ≡ 0) → ns ≡ replicate (length ns) 0
all-zero [] h = refl
all-zero (n ∷ ns) h = ap₂ (λ (x : ℕ) (xs : List ℕ). x ∷ xs) (h n (Memᴰ.head refl)) (all-zero ns (holds-tail h))

slot_is : (s : Slot) (p r w : Bool) (b n l : ℕ) (ns : List ℕ) → s.present ≡ p → s.buf ≡ b → s.pic.poc ≡ n
    → s.pic.is_ref ≡ r → s.pic.need_for_out ≡ w
    → s.pic.temporal_id ≡ l → s.pic.list_poc ≡ ns
    → s ≡ record { present = p; buf = b; pic = record { poc = n; is_ref = r; need_for_out = w; temporal_id = l; list_poc = ns } }
slot_is s p r w b n l ns e1 e2 e3 e4 e5 e6 e7 =
    λ i. record { present = e1 i; buf = e2 i; pic = record { poc = e3 i; is_ref = e4 i; need_for_out = e5 i; temporal_id = e6 i; list_poc = e7 i } }

module _ (s : Slot) (fits : slot_fits s ≡ true) (shaped : Shaped s) where
  pub empty-is : s.present ≡ false → s ≡ empty_slot
  empty-is p =
      let z = zero s fits p in
      slot_is s false false false 0 0 0 (replicate list_places 0) p z.buf_zero z.poc_zero z.not_ref z.not_wanted z.layer_zero
      (all-zero s.pic.list_poc z.numbers_zero ∙ ap (λ (n : ℕ). replicate n 0) shaped.row_long)

  held-read : (rows : List ℕ) → s.present ≡ true
      → slot_at rows (key_for s)
      ≡ occupied_by
      (record {
        poc = s.pic.poc;
        is_ref = s.pic.is_ref;
        need_for_out = s.pic.need_for_out;
        temporal_id = s.pic.temporal_id;
        list_poc = row_at rows s.buf;
      })
      s.buf
  held-read rows p =
      let b = buffer_below s fits p in
      ap (slot_at rows) (key-held s fits p)
      ∙ slot-made rows s.pic.poc s.pic.temporal_id s.buf s.pic.need_for_out s.pic.is_ref shaped.layer_low (omega arith)

  pub bare-read : (rows : List ℕ) → bare (slot_at rows (key_for s)) ≡ bare s
  bare-read rows = pick s.present refl
    where
      pick : (p : Bool) → s.present ≡ p → bare (slot_at rows (key_for s)) ≡ bare s
      pick true p = ap bare (held-read rows p) ∙ ap (λ (t : Bool). record { present = t; buf = s.buf; pic = (bare s).pic }) (sym p)
      pick false p = rw (key-none s fits p) (sym (ap bare (empty-is p)))

  pub slot_read : (rows : List ℕ) → (s.present ≡ true → row_at rows s.buf ≡ s.pic.list_poc) → slot_at rows (key_for s) ≡ s
  slot_read rows r = pick s.present refl
    where
      pick : (p : Bool) → s.present ≡ p → slot_at rows (key_for s) ≡ s
      pick true p = held-read rows p ∙ rw (r p, ← p)
      pick false p = ap (slot_at rows) (key-none s fits p) ∙ sym (empty-is p)

-- Where the buffer numbers differ each slot is read back.
pub slots_read : (ss : List Slot) (rows : List ℕ) → length rows ≡ rows_length → AllShaped ss
    → ((s : Slot) → Memᴰ s ss → slot_fits s ≡ true) → Distinct (buffers_of ss)
    → (s : Slot) → Memᴰ s ss → slot_at (rows_of rows ss) (key_for s) ≡ s
unfolding rows_of select Distinct
slots_read [] rows l h f d s m = absurd (Memᴰ.not-nil m)
slots_read (s ∷ ss) rows l h f d t m = pick s.present refl d (slots_read ss after long (holds-tail h) (holds-tail f)) (Memᴰ.cases_cons m)
  where
    after : List ℕ
    after = rows_with rows s

    shaped : Shaped s
    shaped = h s (Memᴰ.head refl)

    long : length (rows_with rows s) ≡ rows_length
    long = with-long s rows l shaped

    pick : (p : Bool) → s.present ≡ p → Distinct (map buffer_of (cond p (s ∷ select is_present ss) (select is_present ss)))
        → (Distinct (buffers_of ss) → (u : Slot) → Memᴰ u ss → slot_at (rows_of (rows_with rows s) ss) (key_for u) ≡ u)
        → (t ≡ s) ⊎ Memᴰ t ss → slot_at (rows_of (rows_with rows s) ss) (key_for t) ≡ t
    pick true p d below (inr n) = below d.1 t n
    pick false p d below (inr n) = below d t n
    pick true p d below (inl e) =
        rw e (slot_read s (f s (Memᴰ.head refl)) shaped (rows_of (rows_with rows s) ss) (λ q.
        rows_other ss (rows_with rows s) long (holds-tail h) s.buf d.0 ∙ with_row s rows l shaped (f s (Memᴰ.head refl)) q))
    pick false p d below (inl e) =
        rw e (slot_read s (f s (Memᴰ.head refl)) shaped (rows_of (rows_with rows s) ss) (λ q. absurd (Bool.true≢false (sym q ∙ p))))
