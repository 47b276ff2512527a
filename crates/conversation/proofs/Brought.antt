-- What reads brought, one after the other.
-- Assumes nothing.
use Rattle.std.proofs.Common.{◌≡◌, ℕ, List, [], ◌++◌, refl, sym, ap, ◌∙◌, append_assoc, append-nil}
use Rattle.std.specs.Prelude.{Option, None, Some}
use Rattle.std.specs.Io.KnownBytes.{Consumes, Keeps, IsAtEnd}

pub consumes-none : (a : Option (List ℕ)) → Consumes a a []
consumes-none None = tt
consumes-none (Some x) = refl

pub consumes-more : (a b c : Option (List ℕ)) (xs ys : List ℕ) → Consumes a b xs → Consumes b c ys → Consumes a c (xs ++ ys)
consumes-more None b c xs ys h k = tt
consumes-more (Some x) None c xs ys h k = absurd h
consumes-more (Some x) (Some y) None xs ys h k = absurd k
consumes-more (Some x) (Some y) (Some z) xs ys h k = h ∙ ap (λ (w : List ℕ). xs ++ w) k ∙ sym (append_assoc xs ys z)

pub consumes-kept : (a b c : Option (List ℕ)) (xs : List ℕ) → Consumes a b xs → Keeps b c → Consumes a c xs
consumes-kept None b c xs h k = tt
consumes-kept (Some x) None c xs h k = absurd h
consumes-kept (Some x) (Some y) None xs h k = absurd k
consumes-kept (Some x) (Some y) (Some z) xs h k = h ∙ ap (λ (w : List ℕ). xs ++ w) (sym k)

-- A read that brought nothing.
pub consumes-same : (a b c : Option (List ℕ)) (xs : List ℕ) → Consumes a b xs → Consumes b c [] → Consumes a c xs
consumes-same None b c xs h k = tt
consumes-same (Some x) None c xs h k = absurd h
consumes-same (Some x) (Some y) None xs h k = absurd k
consumes-same (Some x) (Some y) (Some z) xs h k = h ∙ ap (λ (w : List ℕ). xs ++ w) k

-- At the end all was read.
pub all-read : (xs : List ℕ) (new : Option (List ℕ)) (input : List ℕ) → Consumes (Some xs) new input → IsAtEnd new → xs ≡ input
all-read xs None input c e = absurd c
all-read xs (Some ys) input c e = c ∙ ap (λ (w : List ℕ). input ++ w) e ∙ append-nil input
