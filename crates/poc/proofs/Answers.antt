-- Laws of a list of derivations: what an accepted call leaves, that a call turned down leaves the record as it was, and the
-- accepted ones of a list, call by call. Assumes nothing.
use Rattle.std.specs.Prelude.{Ok}
use mathlib.Core.Path.{◌≡◌, refl, sym, ap, ◌∙◌}
use mathlib.Core.Bool.{Bool, true, false, cond, ◌||◌, true≢false, false≢true}
use mathlib.Core.List.{List, ◌∷◌}
use Prim.Native.Nat.{ℕ, ◌+◌, ◌^◌}
use lib.Dec.{eqb, ltb}
use lib.IntN.{ℤ, pos}
use Rattle.def.specs.declared.EvcPoc.{EvcPoc}
use Rattle.def.specs.declared.Refusal.{Refusal}
use Rattle.def.specs.declared.Refusal.TheVariants.{BadLayer, BadRecord, NumberTooHigh}
use Rattle.poc.specs.PictureNumber.{Derivation}
use Rattle.poc.specs.PictureNumber.{derive, number, offset_from, record_of, derivation_refused, settled, too_high, max_poc, bad_layer}
use Rattle.poc.specs.PictureNumber.{bad_record, key_picture, other_picture, next_offset, next_previous}
use Rattle.poc.specs.Distance.{Call, Step, step, is_accepted, accepted_steps}

-- A call with what a derivation came to.
abbrev pub step_of : Call → Derivation → Step
step_of c x = record { call = c; answer = x.answer; after = x.poc }

-- A derivation that gives the number z and leaves the previous number and the offset.
abbrev pub derived : ℤ → ℕ → ℕ → Derivation
derived z prev d = record { answer = Ok (record { 0 = z }); poc = record_of z prev d }

-- ---- one call

module _ (c : Call) where
  -- where a call is accepted, a refusal's condition does not hold
  passes : (b : Bool) (why : Refusal) (r : EvcPoc) (x : Derivation) → is_accepted (step_of c (cond b (derivation_refused why r) x)) ≡ true
      → cond b (derivation_refused why r) x ≡ x
  passes true why r x e = absurd (false≢true e)
  passes false why r x e = refl

  settled_is : (r : EvcPoc) (z : ℤ) (prev d : ℕ) → is_accepted (step_of c (settled r z prev d)) ≡ true → settled r z prev d ≡ derived z prev d
  settled_is r z prev d e = passes (too_high z || ltb max_poc prev) NumberTooHigh r (derived z prev d) e

  -- what an accepted call gives and leaves
  pub accepted-is : (L t : ℕ) (r : EvcPoc) → is_accepted (step_of c (derive L t r)) ≡ true
      → derive L t r
      ≡ cond (eqb t 0) (derived (pos (r.prev_poc_val + 2 ^ L)) (r.prev_poc_val + 2 ^ L) 0)
      (derived (number (next_previous L r) L t (offset_from L t (next_offset L r))) (next_previous L r) (offset_from L t (next_offset L r)))
  unfolding derive
  accepted-is L t r e =
      let x = cond (eqb t 0) (key_picture L r) (other_picture L t r) in
      let y = cond (bad_record r) (derivation_refused BadRecord r) x in
      let a = passes (bad_layer L t) BadLayer r y e in
      let f = ap (λ d. is_accepted (step_of c d)) (sym a) ∙ e in
      let b = passes (bad_record r) BadRecord r x f in
      let g = ap (λ d. is_accepted (step_of c d)) (sym b) ∙ f in
      a ∙ b ∙ settles (eqb t 0) g
    where
      settles : (b : Bool) → is_accepted (step_of c (cond b (key_picture L r) (other_picture L t r))) ≡ true
          → cond b (key_picture L r) (other_picture L t r)
          ≡ cond b (derived (pos (r.prev_poc_val + 2 ^ L)) (r.prev_poc_val + 2 ^ L) 0)
          (derived (number (next_previous L r) L t (offset_from L t (next_offset L r))) (next_previous L r) (offset_from L t (next_offset L r)))
      settles true g = settled_is r (pos (r.prev_poc_val + 2 ^ L)) (r.prev_poc_val + 2 ^ L) 0 g
      settles false g =
          let d = offset_from L t (next_offset L r) in
          settled_is r (number (next_previous L r) L t d) (next_previous L r) d g

  refusal-keeps : (b : Bool) (why : Refusal) (r : EvcPoc) (x : Derivation) → (is_accepted (step_of c x) ≡ false → x.poc ≡ r)
      → is_accepted (step_of c (cond b (derivation_refused why r) x)) ≡ false → (cond b (derivation_refused why r) x).poc ≡ r
  refusal-keeps true why r x f e = refl
  refusal-keeps false why r x f e = f e

  settled-keeps : (r : EvcPoc) (z : ℤ) (prev d : ℕ) → is_accepted (step_of c (settled r z prev d)) ≡ false → (settled r z prev d).poc ≡ r
  settled-keeps r z prev d e =
      refusal-keeps (too_high z || ltb max_poc prev) NumberTooHigh r (derived z prev d) (λ f. absurd (true≢false f)) e

  -- a call turned down leaves the record as it was
  pub refused-keeps : (L t : ℕ) (r : EvcPoc) → is_accepted (step_of c (derive L t r)) ≡ false → (derive L t r).poc ≡ r
  unfolding derive
  refused-keeps L t r e = refusal-keeps (bad_layer L t) BadLayer r _ (refusal-keeps (bad_record r) BadRecord r _ (settles (eqb t 0))) e
    where
      settles : (b : Bool) → is_accepted (step_of c (cond b (key_picture L r) (other_picture L t r))) ≡ false
          → (cond b (key_picture L r) (other_picture L t r)).poc ≡ r
      settles true g = settled-keeps r (pos (r.prev_poc_val + 2 ^ L)) (r.prev_poc_val + 2 ^ L) 0 g
      settles false g =
          let d = offset_from L t (next_offset L r) in
          settled-keeps r (number (next_previous L r) L t d) (next_previous L r) d g

-- ---- a list of calls

module _ (r : EvcPoc) (c : Call) (cs : List Call) where
  pub accepted-yes : is_accepted (step r c) ≡ true → accepted_steps r (c ∷ cs) ≡ step r c ∷ accepted_steps (step r c).after cs
  unfolding accepted_steps
  accepted-yes e = rw e

  pub accepted-no : is_accepted (step r c) ≡ false → accepted_steps r (c ∷ cs) ≡ accepted_steps r cs
  unfolding accepted_steps
  accepted-no e = rw (e, refused-keeps c c.log2 c.layer r e)
