-- One byte more: what is kept of the line, and texts behind those that stand in the buffers.
-- Assumes nothing.
use Prim.Native.Nat.{ℕ, ◌+◌, ◌-◌, ◌*◌, ◌≤◌, ◌<◌}
use native.Mathlib.Numerals.{add-one}
use native.Mathlib.Omega.{arith}
use mathlib.Core.Path.{◌≡◌, refl, sym, ap, ◌∙◌}
use mathlib.Core.Bool.{Bool, true, false, cond}
use mathlib.Core.Logic.{⊎_elim}
use mathlib.Core.List.{List, [], ◌∷◌, ◌++◌, append_assoc, append-nil}
use lib.ListN.{length, get_or, take, drop, length-append, length-drop}
use lib.Seq.{take_all, take_at, take-suc, length-take-le, length-sets}
use borrow.Rule.Slice.PartMut.{mid_of, post_of, put_mid}
use Rattle.std.proofs.lemmas.List.{take-append-le, length-take, nil_from_length}
use Rattle.seq.proofs.Tests.{lt-or-ge}
use Rattle.buffer.specs.Buffer.{is_newline}
use Rattle.phrases.specs.Phrases.{Added}
use Rattle.phrases.proofs.Adding.{added-front, added_then}
use Rattle.asking.specs.Asked.{Texts, texts}
use Rattle.telling.specs.Told.{joined, next_number}
use Rattle.telling.specs.Telling.{kept, most, Speaker, speaker, Fed, fed, kept_more, feed_byte, feed, finish, Gives, GivesPiece, PieceRoom, ToldPiece, Wrote}
use Rattle.telling.specs.Laws.{feed-append, joined-assoc}

-- ---- a byte of the line

pub keep-more : (line : List ℕ) (c number : ℕ) (t : Texts) → length line < kept
    → fed (speaker (line ++ (c ∷ [])) number) t ≡ kept_more (fed (speaker line number) t) c
keep-more line c number t h =
    ap (λ (l : List ℕ). fed (speaker l number) t) (sym (take_all kept (line ++ (c ∷ [])) (omega (arith, length-append line (c ∷ [])))))

pub keep-full : (line : List ℕ) (c number : ℕ) (t : Texts) → length line ≡ kept
    → fed (speaker line number) t ≡ kept_more (fed (speaker line number) t) c
keep-full line c number t full = ap (λ (l : List ℕ). fed (speaker l number) t) (sym (take_at line (c ∷ []) kept full))

-- Of what is kept of a line and one character more, as much is kept as of the whole.
keep-kept : (line more : List ℕ) → take kept (take kept line ++ more) ≡ take kept (line ++ more)
keep-kept line more =
    ⊎_elim (λ (h : length line < kept). ap (λ (l : List ℕ). take kept (l ++ more)) (take_all kept line (omega arith)))
    (λ (h : kept ≤ length line).
    take_at (take kept line) more kept (length-take-le kept line h) ∙ sym (take-append-le kept line more h))
    (lt-or-ge (length line) kept)

pub keep-so-far : (line : List ℕ) (i number : ℕ) {t u : Fed} → i < length line → t ≡ fed (speaker (take kept (take i line)) number) (texts [] [])
    → u ≡ kept_more t (get_or line i 0) → u ≡ fed (speaker (take kept (take (i + 1) line)) number) (texts [] [])
keep-so-far line i number {t} {u} h e f =
    let c = get_or line i 0 in
    let front : take (i + 1) line ≡ take i line ++ (c ∷ []) = rw add-one (take-suc line i 0 h) in
    let all : take kept (take kept (take i line) ++ (c ∷ [])) ≡ take kept (take (i + 1) line) = keep-kept (take i line) (c ∷ []) ∙ ap (take kept) (sym front) in
    f
    ∙ ap (λ (x : Fed). kept_more x c) e
    ∙ ap (λ (l : List ℕ). fed (speaker l number) (texts [] [])) all

-- ---- the end of the line

-- A text at the front of the part of a buffer from a place on stands behind what stood before that place.
behind : (out ys text : List ℕ) (at n size : ℕ) → length out ≡ size → at + most ≤ size → n ≤ most → Added (mid_of at (size - at) out) 0 text n ys
    → take (at + n) (put_mid at (size - at) out ys) ≡ take at out ++ text
behind out ys text at n size long fits short p =
    let b = p.behind in
    let part = length-drop at out in
    let room = length-take-le (size - at) (drop at out) (omega arith) in
    let front : ys ≡ text ++ drop n (mid_of at (size - at) out) = added-front p (omega arith) in
    let before = length-take-le at out (omega arith) in
    let all = length-append (take at out) text in
    let rest = drop n (mid_of at (size - at) out) ++ post_of at (size - at) out in
    let whole : put_mid at (size - at) out ys ≡ (take at out ++ text) ++ rest =
    ap (λ (l : List ℕ). take at out ++ (l ++ post_of at (size - at) out)) front
    ∙ ap (λ (l : List ℕ). take at out ++ l) (append_assoc text (drop n (mid_of at (size - at) out)) (post_of at (size - at) out))
    ∙ sym (append_assoc (take at out) text rest) in
    ap (take (at + n)) whole ∙ take_at (take at out ++ text) rest (at + n) (omega arith)

size-behind : (front text : List ℕ) (n : ℕ) → 0 + length text ≡ n → n ≤ most → length (front ++ text) ≤ length front + most
size-behind front text n e short = let all = length-append front text in omega arith

pub line-told : (told : ℕ → List ℕ → Texts) (line out err ys zs : List ℕ) (number a b m n size : ℕ) → length out ≡ size → length err ≡ size
    → a + most ≤ size → b + most ≤ size
    → Wrote (mid_of a (size - a) out) (mid_of b (size - b) err) (told number line) m n ys zs
    → Gives told (fed (speaker line number) (texts (take a out) (take b err))) 10
    (fed (speaker [] (next_number number)) (texts (take (a + m) (put_mid a (size - a) out ys)) (take (b + n) (put_mid b (size - b) err zs))))
line-told told line out err ys zs number a b m n size long₁ long₂ room₁ room₂ w =
    let t = told number line in
    let to_out = behind out ys t.out a m size long₁ room₁ w.out_short w.to_out in
    let to_err = behind err zs t.err b n size long₂ room₂ w.err_short w.to_err in
    record {
      is = ap (λ (x : List ℕ). fed (speaker [] (next_number number)) (texts x (take (b + n) (put_mid b (size - b) err zs)))) to_out
          ∙ ap (λ (x : List ℕ). fed (speaker [] (next_number number)) (texts (take a out ++ t.out) x)) to_err;
      out_short = rw to_out (size-behind (take a out) t.out m (sym w.to_out.behind) w.out_short);
      err_short = rw to_err (size-behind (take b err) t.err n (sym w.to_err.behind) w.err_short);
    }

-- How much stands in a buffer.
pub stands : {s : Fed} {sp : Speaker} (out err : List ℕ) (a b : ℕ) → fed sp (texts (take a out) (take b err)) ≡ s → a ≤ length out → b ≤ length err
    → (length s.texts.out ≡ a) × (length s.texts.err ≡ b)
stands out err a b e f g =
    (ap (λ (x : Fed). length x.texts.out) (sym e) ∙ length-take-le a out f, ap (λ (x : Fed). length x.texts.err) (sym e) ∙ length-take-le b err g)

-- ---- a piece

-- The first i bytes of a piece have been told.
pub record SoFar (told : ℕ → List ℕ → Texts) (s : Speaker) (piece : List ℕ) (i : ℕ) (t : Fed) : Type 0 where
  pub within : i ≤ length piece
  pub is : t ≡ feed told s (take i piece)
  pub out_most : length t.texts.out ≤ most * i
  pub err_most : length t.texts.err ≤ most * i

pub so-far-none : (told : ℕ → List ℕ → Texts) (s : Speaker) (piece : List ℕ) → SoFar told s piece 0 (fed s (texts [] []))
unfolding feed
so-far-none told s piece = record { within = omega arith; is = refl; out_most = omega arith; err_most = omega arith }

nothing-after : (t : Texts) → joined t (texts [] []) ≡ t
nothing-after t = rw (append-nil t.out, append-nil t.err)

feed-one : (told : ℕ → List ℕ → Texts) (s : Speaker) (c : ℕ) → feed told s (c ∷ []) ≡ feed_byte told s c
unfolding feed
feed-one told s c = ap (fed (feed_byte told s c).speaker) (nothing-after (feed_byte told s c).texts)

pub so-far-more : (told : ℕ → List ℕ → Texts) (s : Speaker) (piece : List ℕ) (i : ℕ) {t u : Fed} → i < length piece
    → SoFar told s piece i t → Gives told t (get_or piece i 0) u → SoFar told s piece (i + 1) u
so-far-more told s piece i {t} {u} h f g =
    let c = get_or piece i 0 in
    let before = feed told s (take i piece) in
    let front : take (i + 1) piece ≡ take i piece ++ (c ∷ []) = rw add-one (take-suc piece i 0 h) in
    let all : feed told s (take (i + 1) piece) ≡ fed (feed told before.speaker (c ∷ [])).speaker (joined before.texts (feed told before.speaker (c ∷ [])).texts) =
    ap (feed told s) front ∙ feed-append told s (take i piece) (c ∷ []) in
    let byte = feed-one told before.speaker c in
    let a = f.out_most in
    let b = f.err_most in
    let d = g.out_short in
    let e = g.err_short in
    record {
      within = omega arith;
      is =
          g.is
          ∙ ap (λ (x : Fed). fed (feed_byte told x.speaker c).speaker (joined x.texts (feed_byte told x.speaker c).texts)) f.is
          ∙ ap (λ (x : Fed). fed x.speaker (joined before.texts x.texts)) (sym byte)
          ∙ sym all;
      out_most = omega arith;
      err_most = omega arith;
    }

-- ---- a piece of any length

-- Of a piece all but the rest has been told: what it gave stands at the fronts of the buffers, and there is room for what the rest gives.
pub record PartsTold (told : ℕ → List ℕ → Texts) (s : Speaker) (piece out err : List ℕ) (t : Fed) (rest out' err' : List ℕ) (m n : ℕ) : Type 0 where
  pub done : Texts
  pub all :
      let last = feed told t.speaker rest in
      feed told s piece ≡ fed last.speaker (joined done last.texts)
  pub to_out : Added out 0 done.out m out'
  pub to_err : Added err 0 done.err n err'
  pub out_room : m + most * length rest ≤ length out'
  pub err_room : n + most * length rest ≤ length err'

pub no-parts : (told : ℕ → List ℕ → Texts) (t : Fed) (piece out err : List ℕ) → PieceRoom piece out err
    → PartsTold told t.speaker piece out err t piece out err 0 0
no-parts told t piece out err r =
    let a = r.out_room in
    let b = r.err_room in
    record {
      done = texts [] [];
      all = refl;
      to_out = record { holds = refl; behind = refl };
      to_err = record { holds = refl; behind = refl };
      out_room = omega arith;
      err_room = omega arith;
    }

room-after : (part left : List ℕ) {before after text rest : List ℕ} {at next : ℕ} → rest ≡ part ++ left → length text ≤ most * length part
    → at + most * length rest ≤ length before → Added before at text next after → next + most * length left ≤ length after
room-after part left {before} {after} {text} {rest} {at} {next} e short room p =
    let b = p.behind in
    let size : length after ≡ length before = ap length p.holds ∙ length-sets before at text in
    let parts : length rest ≡ length part + length left = ap length e ∙ length-append part left in
    omega arith

pub one-part-more : (told : ℕ → List ℕ → Texts) (s : Speaker) (piece out err : List ℕ) {t u : Fed} {rest part left out₁ err₁ out₂ err₂ : List ℕ} {m n j k : ℕ}
    → PartsTold told s piece out err t rest out₁ err₁ m n → rest ≡ part ++ left → GivesPiece told t part u
    → Added out₁ m u.texts.out j out₂ → Added err₁ n u.texts.err k err₂ → PartsTold told s piece out err u left out₂ err₂ j k
one-part-more told s piece out err {t} {u} {rest} {part} {left} {out₁} {err₁} {out₂} {err₂} {m} {n} {j} {k} p e g a b =
    let f = feed told t.speaker part in
    let last = feed told f.speaker left in
    record {
      done = joined p.done u.texts;
      all =
          p.all
          ∙ ap (λ (x : Fed). fed x.speaker (joined p.done x.texts)) (ap (feed told t.speaker) e ∙ feed-append told t.speaker part left)
          ∙ ap (fed last.speaker) (sym (joined-assoc p.done f.texts last.texts))
          ∙ ap
          (λ (x : Fed).
          let end = feed told x.speaker left in
          fed end.speaker (joined (joined p.done x.texts) end.texts))
          (sym g.is);
      to_out = added_then p.to_out a;
      to_err = added_then p.to_err b;
      out_room = room-after part left e g.out_short p.out_room a;
      err_room = room-after part left e g.err_short p.err_room b;
    }

byte-keeps : (told : ℕ → List ℕ → Texts) (s : Speaker) (c : ℕ) → length (feed_byte told s c).speaker.line ≤ kept
byte-keeps told s c = by (is_newline c)
  where
    by : (b : Bool) → length (cond b (fed (speaker [] (next_number s.number)) (told s.number s.line))
        (fed (speaker (take kept (s.line ++ (c ∷ []))) s.number) (texts [] []))).speaker.line ≤ kept
    by true = omega arith
    by false = let m = length-take kept (s.line ++ (c ∷ [])) in omega arith

feed-keeps : (told : ℕ → List ℕ → Texts) (s : Speaker) (piece : List ℕ) → length s.line ≤ kept → length (feed told s piece).speaker.line ≤ kept
unfolding feed
feed-keeps told s [] h = h
feed-keeps told s (c ∷ cs) h = feed-keeps told (feed_byte told s c).speaker cs (byte-keeps told s c)

pub all-parts : (told : ℕ → List ℕ → Texts) (s : Speaker) (piece out err : List ℕ) {t : Fed} {rest out' err' : List ℕ} {m n : ℕ}
    → PartsTold told s piece out err t rest out' err' m n → length rest ≡ 0 → ToldPiece told s piece out err m n t.speaker out' err'
unfolding feed
all-parts told s piece out err {t} {rest} {out'} {err'} {m} {n} p none =
    let all : feed told s piece ≡ fed t.speaker p.done =
    rw (nil_from_length rest none) at p.all ∙ ap (fed t.speaker) (nothing-after p.done) in
    let a = p.out_room in
    let b = p.err_room in
    record {
      speaker_is = ap (λ (x : Fed). x.speaker) (sym all);
      keeps = λ h. rw (← ap (λ (x : Fed). x.speaker) all) (feed-keeps told s piece h);
      to_out = rw all p.to_out;
      to_err = rw all p.to_err;
      out_fits = omega arith;
      err_fits = omega arith;
    }

-- ---- the last line

pub last-told : (told : ℕ → List ℕ → Texts) (line : List ℕ) (number : ℕ) {t : Fed} → (length line ≡ 0 → ⊥)
    → Gives told (fed (speaker line number) (texts [] [])) 10 t → t ≡ finish told (speaker line number)
last-told told [] number some g = absurd (some refl)
last-told told (c ∷ cs) number some g = g.is ∙ sym (feed-one told (speaker (c ∷ cs) number) 10)

pub no-last : (told : ℕ → List ℕ → Texts) (line : List ℕ) (number : ℕ) → length line ≡ 0
    → fed (speaker line number) (texts [] []) ≡ finish told (speaker line number)
unfolding feed
no-last told [] number e = refl
no-last told (c ∷ cs) number e = absurd (omega arith)
