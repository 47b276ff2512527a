-- Laws of lines as their bytes come: of a line no more counts than what is kept of it, and an input gives the same in pieces.
-- Assumes nothing.
use Prim.Native.Nat.{ℕ, ◌≤◌, ◌<◌}
use native.Mathlib.Omega.{arith}
use mathlib.Core.Path.{◌≡◌, refl, sym, ap, ◌∙◌}
use mathlib.Core.Logic.{⊎_elim}
use mathlib.Core.List.{List, [], ◌∷◌, ◌++◌, append_assoc}
use lib.ListN.{length, take}
use lib.Seq.{take_all, length-take-le}
use borrow.Author.Tests.{lt-ltb}
use Rattle.seq.proofs.Tests.{lt-or-ge}
use Rattle.answers.proofs.AnswersRead.{other_length}
use Rattle.commands.specs.declared.Expected.{Expected}
use Rattle.expecting.specs.Expected.{expected_words}
use Rattle.asking.specs.Asked.{Texts, texts, asked}
use Rattle.saying.specs.Words.{bad_line_words, said_line}
use Rattle.telling.specs.Told.{joined, said}
use Rattle.telling.specs.Telling.{kept, Speaker, Fed, fed, feed_byte, feed, finish, gives, HearsLines, EndsLines, piece_room}

-- ---- what is kept of a line

long-line : (line : List ℕ) → kept ≤ length line → 1023 < length (take kept line)
long-line line h = let e = length-take-le kept line h in omega arith

asked-long : (number : ℕ) (line : List ℕ) → 1023 < length line → asked number line ≡ texts [] (expected_words number Expected.ShorterLine)
unfolding asked
asked-long number line h = rw (lt-ltb 1023 (length line) h)

said-long : (number : ℕ) (line : List ℕ) → (length line ≡ 16 → ⊥) → said_line number line ≡ bad_line_words number
unfolding said_line
said-long number line h = rw (other_length line h)

pub asked-kept : (number : ℕ) (line : List ℕ) → asked number (take kept line) ≡ asked number line
asked-kept number line =
    ⊎_elim (λ (h : length line < kept). ap (asked number) (take_all kept line (omega arith)))
    (λ (h : kept ≤ length line). asked-long number (take kept line) (long-line line h) ∙ sym (asked-long number line (omega arith)))
    (lt-or-ge (length line) kept)

pub said-kept : (number : ℕ) (line : List ℕ) → said number (take kept line) ≡ said number line
said-kept number line =
    ap (λ (w : List ℕ). texts w []) (⊎_elim (λ (h : length line < kept). ap (said_line number) (take_all kept line (omega arith)))
    (λ (h : kept ≤ length line).
    let e = length-take-le kept line h in
    said-long number (take kept line) (λ f. omega arith) ∙ sym (said-long number line (λ f. omega arith)))
    (lt-or-ge (length line) kept))

-- ---- an input in pieces

pub joined-assoc : (a b c : Texts) → joined (joined a b) c ≡ joined a (joined b c)
joined-assoc a b c = rw (append_assoc a.out b.out c.out, append_assoc a.err b.err c.err)

pub feed-append : (told : ℕ → List ℕ → Texts) (s : Speaker) (a b : List ℕ) →
    let f = feed told s a in
    let g = feed told f.speaker b in
    feed told s (a ++ b) ≡ fed g.speaker (joined f.texts g.texts)
unfolding feed
feed-append told s [] b = refl
feed-append told s (c ∷ a) b =
    let first = feed_byte told s c in
    let f = feed told first.speaker a in
    let g = feed told f.speaker b in
    ap (λ (x : Fed). fed x.speaker (joined first.texts x.texts)) (feed-append told first.speaker a b)
    ∙ ap (fed g.speaker) (sym (joined-assoc first.texts f.texts g.texts))

pub gives-on : (told : ℕ → List ℕ → Texts) (s : Speaker) (piece rest : List ℕ) →
    let f = feed told s piece in
    gives told s (piece ++ rest) ≡ joined f.texts (gives told f.speaker rest)
gives-on told s piece rest =
    let f = feed told s piece in
    let g = feed told f.speaker rest in
    ap (λ (x : Fed). joined x.texts (finish told x.speaker).texts) (feed-append told s piece rest)
    ∙ joined-assoc f.texts g.texts (finish told g.speaker).texts

pub lines-hear-on : (told : ℕ → List ℕ → Texts) (s t : Fed) (piece rest : List ℕ) → HearsLines told s piece t
    → ((gives told s.speaker (piece ++ rest)).out ≡ t.texts.out ++ (gives told t.speaker rest).out)
    × ((gives told s.speaker (piece ++ rest)).err ≡ t.texts.err ++ (gives told t.speaker rest).err)
lines-hear-on told s t piece rest h =
    let all : gives told s.speaker (piece ++ rest) ≡ joined t.texts (gives told t.speaker rest) =
    gives-on told s.speaker piece rest ∙ ap (λ (f : Fed). joined f.texts (gives told f.speaker rest)) (sym h) in
    (ap (λ (x : Texts). x.out) all, ap (λ (x : Texts). x.err) all)

pub lines-end-so : (told : ℕ → List ℕ → Texts) (s t : Fed) → EndsLines told s t
    → ((gives told s.speaker []).out ≡ t.texts.out) × ((gives told s.speaker []).err ≡ t.texts.err)
unfolding feed
lines-end-so told s t h = (ap (λ (f : Fed). f.texts.out) (sym h), ap (λ (f : Fed). f.texts.err) (sym h))

pub room-is-some : 0 < piece_room
room-is-some = omega arith
