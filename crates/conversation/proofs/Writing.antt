-- What a writer holds after one write and another.
use Rattle.std.proofs.Common.{◌≡◌, ℕ, ◌+◌, List, [], ◌++◌, take, drop, sym, ap, ◌∙◌, append_assoc, append-nil, take-append-drop, length, ◌-◌, subst, arith, length-drop}
use Rattle.std.proofs.Math.Seq.{take-add}
use Rattle.std.proofs.lemmas.List.{take_all}
use Rattle.std.specs.Prelude.{None, Some, Option}
use Rattle.std.specs.Io.KnownBytes.{Keeps, Appends}
use Rattle.conversation.specs.Pouring.{AppendsFront}

pub appends-more : (a b c : Option (List ℕ)) (xs ys : List ℕ) → Appends a b xs → Appends b c ys → Appends a c (xs ++ ys)
appends-more None b c xs ys h k = tt
appends-more (Some x) None c xs ys h k = absurd h
appends-more (Some x) (Some y) None xs ys h k = absurd k
appends-more (Some x) (Some y) (Some z) xs ys h k = k ∙ ap (λ (w : List ℕ). w ++ ys) h ∙ append_assoc x xs ys

pub appends-kept : (a b c : Option (List ℕ)) (xs : List ℕ) → Appends a b xs → Keeps b c → Appends a c xs
appends-kept None b c xs h k = tt
appends-kept (Some x) None c xs h k = absurd h
appends-kept (Some x) (Some y) None xs h k = absurd k
appends-kept (Some x) (Some y) (Some z) xs h k = k ∙ h

-- What is left of the bytes, as the code's slice.
rest-is : (m : ℕ) (l : List ℕ) → take (length l - m) (drop m l) ≡ drop m l
rest-is m l = take_all _ _ (omega (arith, length-drop m l))

pub appends-on : (a b c : Option (List ℕ)) (m n : ℕ) (bytes : List ℕ) → Appends a b (take m bytes)
    → Appends b c (take n (take (length bytes - m) (drop m bytes))) → Appends a c (take (m + n) bytes)
appends-on a b c m n bytes h k =
    let same : take m bytes ++ take n (take (length bytes - m) (drop m bytes)) ≡ take (m + n) bytes =
    ap (λ (r : List ℕ). take m bytes ++ take n r) (rest-is m bytes) ∙ sym (take-add m n bytes) in
    subst (λ (w : List ℕ). Appends a c w) same (appends-more a b c _ _ h k)

pub fronted : (a b : Option (List ℕ)) (n : ℕ) (bytes : List ℕ) → Appends a b (take n bytes) → AppendsFront a b bytes
fronted a b n bytes h = record { front = take n bytes; rest = drop n bytes; whole = take-append-drop n bytes; appended = h }

pub front-more : (a b c : Option (List ℕ)) (xs ys : List ℕ) → Appends a b xs → AppendsFront b c ys → AppendsFront a c (xs ++ ys)
front-more a b c xs ys h k = record {
  front = xs ++ k.front;
  rest = k.rest;
  whole = append_assoc xs k.front k.rest ∙ ap (λ (w : List ℕ). xs ++ w) k.whole;
  appended = appends-more a b c xs k.front h k.appended;
}

pub all-front : (a b : Option (List ℕ)) (xs : List ℕ) → Appends a b xs → AppendsFront a b xs
all-front a b xs h = record { front = xs; rest = []; whole = append-nil xs; appended = h }

pub appends-none : (a : Option (List ℕ)) → Appends a a []
appends-none None = tt
appends-none (Some x) = sym (append-nil x)

pub front-none : (a : Option (List ℕ)) → AppendsFront a a []
front-none a = all-front a a [] (appends-none a)

-- A beginning of a beginning.
pub front-longer : (a b : Option (List ℕ)) (xs rest : List ℕ) → AppendsFront a b xs → AppendsFront a b (xs ++ rest)
front-longer a b xs rest h = record {
  front = h.front;
  rest = h.rest ++ rest;
  whole = sym (append_assoc h.front h.rest rest) ∙ ap (λ (w : List ℕ). w ++ rest) h.whole;
  appended = h.appended;
}
