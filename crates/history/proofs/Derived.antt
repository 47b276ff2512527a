-- The numbers that a run's derivations give are those of the clip's rule, as 32-bit words; words of numbers that fit differ where the numbers do.
-- Assumes nothing.
use Rattle.std.specs.Prelude.{Result, Ok, Err, Option, Some, None}
use Prim.Native.Nat.{ℕ, suc, ◌+◌, ◌-◌, ◌^◌, ◌≤◌, ◌<◌}
use mathlib.Core.Path.{◌≡◌, refl, sym, ap, ◌∙◌, subst}
use mathlib.Core.Bool.{Bool, true, false, cond, ◌||◌}
use mathlib.Core.Logic.{⊎_elim}
use mathlib.Core.List.Memᴰ
use mathlib.Core.List.{List, [], ◌∷◌, ◌++◌, map, flat_map, Memᴰ}
use native.Mathlib.Omega.{arith}
use lib.Dec.{ltb, eqb}
use lib.IntN.{ℤ, pos, negsuc, sub_ℕ}
use lib.Pow.{pow_mono}
use lib.Signed.{mag}
use borrow.Author.Tests.{ltb-true, ltb-false}
use Rattle.seq.specs.Lists.{select, Distinct}
use Rattle.seq.proofs.Members.{mem-select, mem-unmap}
use Rattle.seq.proofs.Distinct.{distinct-by, fewer-distinct}
use Rattle.def.specs.declared.{EvcPoc.EvcPoc, PocVal.PocVal, Refusal.Refusal}
use Rattle.def.specs.declared.Refusal.TheVariants.{NumberTooHigh, BadLayer, BadRecord}
use Rattle.def.specs.Word.{twos_complement, signed_of}
use Rattle.def.proofs.WordLaws.{signed-of-complement}
use Rattle.poc.specs.PictureNumber.{Derivation, max_poc, max_log2, settled, key_picture, other_picture, derivation_refused, bad_record}
use Rattle.poc.specs.PictureNumber.{next_offset, next_previous, offset_from, number, record_of, derive}
use Rattle.poc.specs.Distance as poc
use Rattle.poc.specs.Distance.{run, accepted_steps, number_of}
use Rattle.poc.specs.Clip.{Clip}
use Rattle.poc.proofs.Differences.{pos_inj}
use Rattle.poc.proofs.Clip.{clip-above, clip-rule}
use Rattle.line.specs.declared.Call.{Call}
use Rattle.machine.specs.declared.Machine.{Machine}
use Rattle.machine.specs.Step.{new_machine, derived_reply, step, step_line}
use Rattle.history.specs.Pictures.{is_done}
use Rattle.history.specs.Files.{turns, if_so, put_numbers, derivations, derived_numbers, DerivedDiffer, ClipFilesDiffer}
use Rattle.history.proofs.Calls.{refused-status}
use Rattle.history.proofs.Files.{files-differ}

-- ---- the replies show the numbers

abbrev word_of : poc.Step → ℕ
word_of s = twos_complement (number_of s)

derived-shown : (m : Machine) (ls : List (Option Call)) → derived_numbers (turns m ls) ≡ map word_of (accepted_steps m.poc (derivations ls))
unfolding turns flat_map step_line step accepted_steps run select
derived-shown m [] = refl
derived-shown m (None ∷ ls) = derived-shown m ls
derived-shown m (Some (Call.Init size refs) ∷ ls) = derived-shown (step m (Call.Init size refs)).machine ls
derived-shown m (Some Call.GetEmptyPic ∷ ls) = derived-shown (step m Call.GetEmptyPic).machine ls
derived-shown m (Some (Call.PutPic flags poc tid gap) ∷ ls) = derived-shown (step m (Call.PutPic flags poc tid gap)).machine ls
derived-shown m (Some Call.OutPic ∷ ls) = derived-shown (step m Call.OutPic).machine ls
derived-shown m (Some (Call.RefpInit slice poc layer intra limit) ∷ ls) = derived-shown (step m (Call.RefpInit slice poc layer intra limit)).machine ls
derived-shown m (Some (Call.PocDerivation L t) ∷ ls) =
    pick (derive L t m.poc).answer (derived-shown (step m (Call.PocDerivation L t)).machine ls)
  where
    d : Derivation
    d = derive L t m.poc

    later : List poc.Step
    later = accepted_steps d.poc (derivations ls)

    answered : Result PocVal Refusal → poc.Step
    answered a = record { call = record { log2 = L; layer = t }; answer = a; after = d.poc }

    pick : {shown : List ℕ} (a : Result PocVal Refusal) → shown ≡ map word_of later
        → if_so (is_done (derived_reply 6 a)) (derived_reply 6 a).value ++ shown ≡ map word_of (cond (poc.is_accepted (answered a)) (answered a ∷ later) later)
    pick (Ok n) e = ap {B = List ℕ} (λ l. twos_complement n.0 ∷ l) e
    pick (Err why) e = rw (refused-status why) e

-- ---- every number fits 32 bits

-- a difference below zero is no further from it than what was taken away
sub_low : (a b n : ℕ) → sub_ℕ a b ≡ negsuc n → n < b
sub_low a b n e = pick (ltb a b) refl e
  where
    pick : (t : Bool) → ltb a b ≡ t → cond t (negsuc (b - suc a)) (pos (a - b)) ≡ negsuc n → n < b
    pick true t q = let l = ltb-true a b t in let m : b - suc a ≡ n = cc in omega arith
    pick false t q = let z : ◌≡◌ {A = ℕ} 0 1 = cc in absurd (omega arith)

module _ (c : poc.Call) (r : EvcPoc) where
  -- the number that an answer gives, if any, fits
  abbrev pub Fits : Result PocVal Refusal → Type 0
  Fits a = mag (number_of (record { call = c; answer = a; after = r })) < 2 ^ 31

  abbrev derived_as : ℤ → ℕ → ℕ → Derivation
  derived_as z prev k = record { answer = Ok (record { 0 = z }); poc = record_of z prev k }

  settled-fits : (z : ℤ) (prev k : ℕ) → ((n : ℕ) → z ≡ negsuc n → n < 2 ^ 31) → Fits (settled r z prev k).answer
  settled-fits (pos n) prev k small = pick (ltb max_poc n) refl (ltb max_poc prev)
    where
      pick : (b : Bool) → ltb max_poc n ≡ b → (h : Bool)
          → Fits (cond (b || h) (derivation_refused NumberTooHigh r) (derived_as (pos n) prev k)).answer
      pick true t h = omega arith
      pick false t true = omega arith
      pick false t false = let l = ltb-false max_poc n t in omega arith
  settled-fits (negsuc n) prev k small = pick (ltb max_poc prev)
    where
      pick : (h : Bool) → Fits (cond h (derivation_refused NumberTooHigh r) (derived_as (negsuc n) prev k)).answer
      pick true = omega arith
      pick false = small n refl

  pub derived-fits : Fits (derive c.log2 c.layer r).answer
  unfolding derive
  derived-fits = pick (ltb max_log2 c.log2) refl (ltb c.log2 c.layer) (bad_record r) (eqb c.layer 0)
    where
      L : ℕ
      L = c.log2

      t : ℕ
      t = c.layer

      pick : (long : Bool) → ltb max_log2 L ≡ long → (high bad key : Bool)
          → Fits (cond (long || high) (derivation_refused BadLayer r)
          (cond bad (derivation_refused BadRecord r) (cond key (key_picture L r) (other_picture L t r)))).answer
      pick true e high bad key = omega arith
      pick false e true bad key = omega arith
      pick false e false true key = omega arith
      pick false e false false true =
          settled-fits (pos (r.prev_poc_val + 2 ^ L)) (r.prev_poc_val + 2 ^ L) 0 (λ n q. let z : ◌≡◌ {A = ℕ} 0 1 = cc in absurd (omega arith))
      pick false e false false false =
          let d = offset_from L t (next_offset L r) in
          let short : L ≤ 15 = ltb-false max_log2 L e in
          let few : 2 ^ L ≤ 32768 = pow_mono short in
          settled-fits (number (next_previous L r) L t d) (next_previous L r) d (λ n q. let l = sub_low _ (2 ^ L) n q in omega arith)

-- so two that show one word are one number
same_word : (r : EvcPoc) (cs : List poc.Call) {s : poc.Step} → Memᴰ s (accepted_steps r cs) → signed_of (word_of s) ≡ number_of s
unfolding accepted_steps run
same_word r cs {s} m = signed-of-complement (number_of s) (of-run r cs (mem-select poc.is_accepted (run r cs) m).0)
  where
    of-run : (r : EvcPoc) (cs : List poc.Call) → Memᴰ s (run r cs) → mag (number_of s) < 2 ^ 31
    of-run r [] m = absurd (Memᴰ.not-nil m)
    of-run r (c ∷ cs) m =
        ⊎_elim (λ e. subst (λ (x : poc.Step). mag (number_of x) < 2 ^ 31) (sym e) (derived-fits c r)) (λ n. of-run (poc.step r c).after cs n)
        (Memᴰ.cases_cons m)

-- ---- the claims

pub derived-differ : DerivedDiffer
derived-differ lines clip =
    let r = new_machine.poc in
    let cs = derivations lines in
    subst (λ (l : List ℕ). Distinct l) (sym (derived-shown new_machine lines))
    (distinct-by number_of word_of (accepted_steps r cs) (λ a b m n e. sym (same_word r cs m) ∙ ap signed_of e ∙ same_word r cs n) (clip-rule r cs clip))

-- the numbers of a clip lie above the record's previous number, so none is 0
zero-not-derived : (lines : List (Option Call)) → Clip new_machine.poc (derivations lines) → Memᴰ 0 (derived_numbers (turns new_machine lines)) → ⊥
zero-not-derived lines clip m =
    let r = new_machine.poc in
    let cs = derivations lines in
    let u = mem-unmap word_of (accepted_steps r cs) (rw (derived-shown new_machine lines) at m) in
    let a = (clip-above clip (number_of u.0) (Memᴰ.map number_of u.1)).1 in
    let zero : signed_of 0 ≡ pos 0 = refl in
    let same = pos_inj 0 a.value (sym zero ∙ ap signed_of u.2 ∙ same_word r cs u.1 ∙ a.is) in
    let high = a.above in
    omega arith

pub clip-files-differ : ClipFilesDiffer
unfolding Distinct
clip-files-differ lines clip few =
    let ts = turns new_machine lines in
    files-differ lines (fewer-distinct (0 ∷ derived_numbers ts) (put_numbers ts) few (zero-not-derived lines clip, derived-differ lines clip))
