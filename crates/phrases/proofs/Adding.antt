-- Texts put into a buffer, one behind the other.
-- Assumes nothing.
use Prim.Native.Nat.{ℕ, ◌+◌, ◌-◌, ◌≤◌}
use native.Mathlib.Omega.{arith}
use mathlib.Core.Path.{◌≡◌, sym, ap, ◌∙◌}
use mathlib.Core.List.{List, ◌++◌, append_assoc}
use lib.ListN.{length, length-append, take, drop}
use lib.Seq.{sets, sets-eq, take_all, paste, drop-drop}
use borrow.Rule.Slice.PartMut.{put_mid}
use Rattle.seq.proofs.Stores.{sets-append}
use Rattle.phrases.specs.Phrases.{Added}

pub pasted : (bs text : List ℕ) (at : ℕ) → at + length text ≤ length bs → paste bs at text (length text) ≡ sets bs at text
pasted bs text at h = rw (take_all (length text) text (omega arith)) (sym (sets-eq text bs at h))

-- A text copied into a part of a buffer that is as long as the text.
pub put-text : (bs text : List ℕ) (at : ℕ) → at + length text ≤ length bs → put_mid at (at + length text - at) bs text ≡ sets bs at text
put-text bs text at h =
    let size : at + length text - at ≡ length text = omega arith in
    rw size (ap (λ (l : List ℕ). take at bs ++ (text ++ l)) (drop-drop (length text) at bs) ∙ sym (append_assoc (take at bs) text (drop (at + length text) bs)) ∙ sym (sets-eq text bs at h))

pub added_then : {bs mid after xs ys : List ℕ} {i m n : ℕ} → Added bs i xs m mid → Added mid m ys n after → Added bs i (xs ++ ys) n after
added_then {bs} {mid} {after} {xs} {ys} {i} {m} {n} p q = record {
  holds =
      q.holds
      ∙ ap (λ (l : List ℕ). sets l m ys) p.holds
      ∙ ap (λ (k : ℕ). sets (sets bs i xs) k ys) p.behind
      ∙ sym (sets-append bs i xs ys);
  behind = let a = p.behind in let b = q.behind in let c = length-append xs ys in omega arith;
}

-- A text at the front.
pub added-front : {bs after text : List ℕ} {n : ℕ} → Added bs 0 text n after → n ≤ length bs → after ≡ text ++ drop n bs
added-front {bs} {after} {text} {n} p h =
    let b = p.behind in
    p.holds
    ∙ sets-eq text bs 0 (omega arith)
    ∙ ap (λ (k : ℕ). text ++ drop k bs) (sym b)
