-- A derivation by cases, and from them why it is turned down. Assumes nothing.
use Rattle.std.specs.Prelude.{Err}
use mathlib.Core.Path.{◌≡◌, refl, sym, subst}
use mathlib.Core.Bool.{Bool, true, false, cond, not, ◌||◌}
use mathlib.Core.Logic.{inl, inr}
use Prim.Native.Nat.{ℕ, ◌+◌, ◌^◌, ◌≤◌, ◌<◌}
use native.Mathlib.Nat.{pos_of_ne-zero, mod-lt}
use native.Mathlib.Omega.{arith}
use lib.Dec.{eqb, ltb}
use lib.IntN.{ℤ, pos, negsuc}
use lib.Pow.{pow_pos}
use borrow.Author.Tests.{ltb-true, ltb-false, leb-true, leb-false, eqb-true, eqb-false, le-ltb}
use Rattle.def.specs.declared.EvcPoc.{EvcPoc}
use Rattle.def.specs.declared.Refusal.{Refusal}
use Rattle.def.specs.declared.Refusal.TheVariants.{BadLayer, BadRecord, NumberTooHigh}
use Rattle.poc.specs.PictureNumber.{Derivation}
use Rattle.poc.specs.PictureNumber.{derive, number, too_high, offset_fits, offset_of, offset_from, bad_record, derivation_refused}
use Rattle.poc.specs.PictureNumber.{key_picture, other_picture, next_offset, next_previous, max_poc, max_log2, max_doc_offset}
use Rattle.poc.specs.Domain.{Checked}
use Rattle.poc.specs.Why.{LayerIsBad, OffsetIsBad, negative, too_large, RecordIsBad, NumberIsTooHigh, derived_number, grown_previous}
use Rattle.poc.specs.Why.{Refusing, is_bad_layer, is_bad_record, is_too_high, DeriveWhy, DeriveRefused}
use Rattle.poc.proofs.Answers.{derived}
use Rattle.poc.proofs.Settled.{settled-high, settled-fits, sum_low}
use Rattle.poc.proofs.Offset.{offset_from-lands}
use Rattle.poc.proofs.Gap.{part-below}

-- The cases of a derivation, each with its condition and what it gives.
data Derives (L t : ℕ) (r : EvcPoc) : Derivation → Type 0 where
  bad-layer : LayerIsBad L t → Derives L t r (derivation_refused BadLayer r)
  bad-record : L ≤ max_log2 → t ≤ L → RecordIsBad r → Derives L t r (derivation_refused BadRecord r)
  high : Checked L t r → NumberIsTooHigh L t r → Derives L t r (derivation_refused NumberTooHigh r)
  gives : Checked L t r → (NumberIsTooHigh L t r → ⊥) → (z : ℤ) (prev d : ℕ) → Derives L t r (derived z prev d)

module _ (L t : ℕ) (r : EvcPoc) where
  -- ---- layer 0

  key-derives : Checked L t r → t ≡ 0 → Derives L t r (key_picture L r)
  key-derives h e = pick (ltb max_poc top) refl
    where
      top : ℕ
      top = r.prev_poc_val + 2 ^ L

      pick : (b : Bool) → ltb max_poc top ≡ b → Derives L t r (key_picture L r)
      pick true k = rw (settled-high r (pos top) top 0 (ltb-true max_poc top k)) (high h (derived_number e (ltb-true max_poc top k)))
      pick false k =
          let fits = ltb-false max_poc top k in
          rw (settled-fits r (pos top) top 0 (le-ltb max_poc top fits) fits) (gives h apart (pos top) top 0)
        where
          apart : NumberIsTooHigh L t r → ⊥
          apart (derived_number z l) = let a = ltb-false max_poc top k in omega arith
          apart (grown_previous z w l) = omega arith

  -- ---- another layer

  module _ (h : Checked L t r) (above : 1 ≤ t) where
    abbrev found : ℕ
    found = offset_from L t (next_offset L r)

    low : (v : ℕ) → v ≤ max_poc → too_high (number v L t found) ≡ false
    low v fits =
        sum_low v _ (2 ^ L) (part-below L t found above h.layer (offset_from-lands L t above h.layer (next_offset L r) (mod-lt _ (pow_pos L)))) fits

    -- by whether previous is too high, once it is known which one it is
    other-derives : Derives L t r (other_picture L t r)
    other-derives = pick (eqb (next_offset L r) 0) refl
      where
        fit : (v : ℕ) → next_previous L r ≡ v → v ≤ max_poc → (NumberIsTooHigh L t r → ⊥) → Derives L t r (other_picture L t r)
        fit v e fits apart = rw (e, settled-fits r (number v L t found) v found (low v fits) fits) (gives h apart (number v L t found) v found)

        over : (v : ℕ) → next_previous L r ≡ v → max_poc < v → NumberIsTooHigh L t r → Derives L t r (other_picture L t r)
        over v e k why = rw (e, settled-high r (number v L t found) v found k) (high h why)

        wrapped : next_offset L r ≡ 0 → next_previous L r ≡ r.prev_poc_val + 2 ^ L → (b : Bool) → ltb max_poc (r.prev_poc_val + 2 ^ L) ≡ b
            → Derives L t r (other_picture L t r)
        wrapped w e true k = over _ e (ltb-true max_poc _ k) (grown_previous above w (ltb-true max_poc _ k))
        wrapped w e false k = fit _ e (ltb-false max_poc _ k) apart
          where
            apart : NumberIsTooHigh L t r → ⊥
            apart (derived_number z l) = omega arith
            apart (grown_previous z w l) = let a = ltb-false max_poc (r.prev_poc_val + 2 ^ L) k in omega arith

        pick : (b : Bool) → eqb (next_offset L r) 0 ≡ b → Derives L t r (other_picture L t r)
        pick true e =
            wrapped (eqb-true _ 0 e) (rw e) (ltb max_poc (r.prev_poc_val + 2 ^ L)) refl
        pick false e = fit _ (rw e) h.previous apart
          where
            apart : NumberIsTooHigh L t r → ⊥
            apart (derived_number z l) = omega arith
            apart (grown_previous z w l) = eqb-false _ 0 e w

  -- ---- the tests in front

  module _ (short : L ≤ max_log2) (layer : t ≤ L) where
    checked : Checked L t r → Derives L t r (cond (eqb t 0) (key_picture L r) (other_picture L t r))
    checked h = pick (eqb t 0) refl
      where
        pick : (b : Bool) → eqb t 0 ≡ b → Derives L t r (cond b (key_picture L r) (other_picture L t r))
        pick true e = key-derives h (eqb-true t 0 e)
        pick false e = other-derives h (pos_of_ne-zero (eqb-false t 0 e))

    offset-tested : (z : ℤ) → r.prev_doc_offset.0 ≡ z → (b : Bool) → offset_fits z ≡ b → r.prev_poc_val ≤ max_poc
        → Derives L t r (cond (not b) (derivation_refused BadRecord r) (cond (eqb t 0) (key_picture L r) (other_picture L t r)))
    offset-tested (pos d) e true f p =
        let k = leb-true d max_doc_offset f in
        checked (record { short = short; layer = layer; previous = p; is_offset = rw e; offset = rw e k })
    offset-tested (pos d) e false f p =
        let k = leb-false d max_doc_offset f in
        bad-record short layer (inr (subst OffsetIsBad (sym e) (too_large d k)))
    offset-tested (negsuc d) e true f p = let z : ◌≡◌ {A = ℕ} 0 1 = cc in absurd (omega arith)
    offset-tested (negsuc d) e false f p = bad-record short layer (inr (subst OffsetIsBad (sym e) (negative d)))

    tested : (b : Bool) → ltb max_poc r.prev_poc_val ≡ b
        → Derives L t r
        (cond (b || not (offset_fits r.prev_doc_offset.0)) (derivation_refused BadRecord r) (cond (eqb t 0) (key_picture L r) (other_picture L t r)))
    tested true e = bad-record short layer (inl (ltb-true max_poc _ e))
    tested false e = offset-tested r.prev_doc_offset.0 refl (offset_fits r.prev_doc_offset.0) refl (ltb-false max_poc _ e)

  derives : Derives L t r (derive L t r)
  unfolding derive
  derives = pick (ltb max_log2 L) refl (ltb L t) refl
    where
      pick : (a : Bool) → ltb max_log2 L ≡ a → (b : Bool) → ltb L t ≡ b
          → Derives L t r
          (cond (a || b) (derivation_refused BadLayer r)
          (cond (bad_record r) (derivation_refused BadRecord r) (cond (eqb t 0) (key_picture L r) (other_picture L t r))))
      pick true e b f = bad-layer (inl (ltb-true max_log2 L e))
      pick false e true f = bad-layer (inr (ltb-true L t f))
      pick false e false f = tested (ltb-false max_log2 L e) (ltb-false L t f) (ltb max_poc r.prev_poc_val) refl

  -- ---- the conditions shut each other out

  layer-good : L ≤ max_log2 → t ≤ L → LayerIsBad L t → ⊥
  layer-good s l (inl k) = omega arith
  layer-good s l (inr k) = omega arith

  record-good : Checked L t r → RecordIsBad r → ⊥
  record-good h (inl k) = let p = h.previous in omega arith
  record-good h (inr k) = pick r.prev_doc_offset.0 h.is_offset h.offset k
    where
      pick : (z : ℤ) → z ≡ pos (offset_of z) → offset_of z ≤ max_doc_offset → OffsetIsBad z → ⊥
      pick _ e l (negative n) = let z : ◌≡◌ {A = ℕ} 0 1 = cc in omega arith
      pick _ e l (too_large d k) = omega arith

  because : {x : Derivation} {why : Refusal} → Derives L t r x → x.answer ≡ Err why → Refusing L t r why
  because {why = why} (bad-layer b) e = let q : BadLayer ≡ why = cc in subst (Refusing L t r) q (is_bad_layer b)
  because {why = why} (bad-record s l b) e = let q : BadRecord ≡ why = cc in subst (Refusing L t r) q (is_bad_record s l b)
  because {why = why} (high h k) e = let q : NumberTooHigh ≡ why = cc in subst (Refusing L t r) q (is_too_high h k)
  because (gives h f z prev d) e = let z : ◌≡◌ {A = ℕ} 0 1 = cc in absurd (omega arith)

  so : {x : Derivation} {why : Refusal} → Derives L t r x → Refusing L t r why → x.answer ≡ Err why
  so (bad-layer b) (is_bad_layer c) = refl
  so (bad-layer b) (is_bad_record s l c) = absurd (layer-good s l b)
  so (bad-layer b) (is_too_high h c) = absurd (layer-good h.short h.layer b)
  so (bad-record s l b) (is_bad_layer c) = absurd (layer-good s l c)
  so (bad-record s l b) (is_bad_record s' l' c) = refl
  so (bad-record s l b) (is_too_high h c) = absurd (record-good h b)
  so (high h b) (is_bad_layer c) = absurd (layer-good h.short h.layer c)
  so (high h b) (is_bad_record s l c) = absurd (record-good h c)
  so (high h b) (is_too_high h' c) = refl
  so (gives h f z prev d) (is_bad_layer c) = absurd (layer-good h.short h.layer c)
  so (gives h f z prev d) (is_bad_record s l c) = absurd (record-good h c)
  so (gives h f z prev d) (is_too_high h' c) = absurd (f c)

  keeps : {x : Derivation} {why : Refusal} → Derives L t r x → x.answer ≡ Err why → x.poc ≡ r
  keeps (bad-layer b) e = refl
  keeps (bad-record s l b) e = refl
  keeps (high h b) e = refl
  keeps (gives h f z prev d) e = let z : ◌≡◌ {A = ℕ} 0 1 = cc in absurd (omega arith)

pub derive-why : DeriveWhy
derive-why L t r why = (λ e. because L t r (derives L t r) e, λ k. so L t r (derives L t r) k)

pub derive-refused : DeriveRefused
derive-refused L t r why e = keeps L t r (derives L t r) e
