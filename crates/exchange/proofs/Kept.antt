-- From what a definition leaves to what the image holds. Assumes nothing.
use Prim.Native.Nat.{ℕ}
use mathlib.Core.Path.{◌≡◌, ap, subst, ◌∙◌}
use mathlib.Core.List.{List}
use Rattle.def.specs.Refusals.{NumberInUse}
use Rattle.exchange.specs.Lent.{Left, left}

pub left-kept : {r : ℕ} {image image' : List ℕ} {x : Left} → left r image' ≡ x → (NumberInUse x.given → x.image ≡ image) → NumberInUse r → image' ≡ image
left-kept e f t = ap (λ (y : Left). y.image) e ∙ f (subst NumberInUse (ap (λ (y : Left). y.given) e) t)
