-- The turns of a conversation, how it ends, and what it gives for the whole input.
-- Assumes nothing.
use Rattle.std.proofs.Common.{◌≡◌, ℕ, ◌+◌, ◌<◌, ◌≤◌, take, arith, true, false, Bool, List, [], ◌++◌, length, refl, sym, ap, ◌∙◌, append_assoc, append-nil, subst}
use Rattle.std.specs.Prelude.{Option, None, Some, IfSome, Result, Ok, Err, OnOk, OnErr, MatchResult}
use Rattle.std.specs.Io.KnownBytes.{Appends, Consumes, ReadConsumes, IsAtEnd}
use Rattle.std.specs.declared.io.Error.{Error}
use lib.Seq.{length-take-le}
use Rattle.conversation.specs.Pouring.{AppendsFront}
use Rattle.conversation.specs.Reading.{IsInterrupted}
use Rattle.conversation.specs.declared.Stop.{Stop}
use Rattle.conversation.specs.declared.Stop.TheVariants.{Read, Write, LastWrite, UsedUp}
use Rattle.conversation.specs.Conversation.{Turns, no_turn, next_turn, most_turns, is_final, Course, stopped, to_the_end, Wrote, Fronts, one_front, next_front, Conversed}
use Rattle.conversation.proofs.Brought.{consumes-none, consumes-more, consumes-kept, consumes-same, all-read}
use Rattle.conversation.proofs.Writing.{appends-none, appends-more, all-front, front-none, front-more, front-longer}

-- Something was read.
pub some-read : (n : ℕ) (piece : List ℕ) → n ≤ length piece → (n ≡ 0 → ⊥) → 0 < length (take n piece)
some-read n piece fits some = let e = length-take-le n piece fits in omega arith

-- So many turns, and what they read and wrote.
pub record Reached {T : Type 0} (Hears : T → List ℕ → T → Type 0) (output messages : T → List ℕ)
    (left left' wrote wrote' said said' : Option (List ℕ)) (s : T) (n : ℕ) (t : T) : Type 0 where
  pub input : List ℕ
  pub out : List ℕ
  pub err : List ℕ
  pub turns : Turns Hears output messages s n input out err t
  pub reads : Consumes left left' input
  pub writes : Appends wrote wrote' out
  pub front : Fronts said said' err

module _ {T : Type 0} {Hears : T → List ℕ → T → Type 0} {output messages : T → List ℕ} (left wrote said : Option (List ℕ)) (s : T) where
  pub reached-none : Reached Hears output messages left left wrote wrote said said s 0 s
  reached-none = record {
    input = [];
    out = [];
    err = [];
    turns = no_turn;
    reads = consumes-none left;
    writes = appends-none wrote;
    front = one_front (front-none said);
  }

module _ {T : Type 0} {Hears : T → List ℕ → T → Type 0} {output messages : T → List ℕ}
    {left left' wrote wrote' said said' : Option (List ℕ)} {s t : T} {n : ℕ}
    (r : Reached Hears output messages left left' wrote wrote' said said' s n t) where
  pub reached-more : {left'' wrote'' said'' : Option (List ℕ)} {u : T} (piece : List ℕ) → 0 < length piece → Consumes left' left'' piece
      → Hears t piece u → Appends wrote' wrote'' (output u) → AppendsFront said' said'' (messages u)
      → Reached Hears output messages left left'' wrote wrote'' said said'' s (n + 1) u
  reached-more {left''} {wrote''} {u = u} piece some c h a f = record {
    input = _;
    out = _;
    err = _;
    turns = next_turn piece r.turns some h;
    reads = consumes-more left left' left'' r.input piece r.reads c;
    writes = appends-more wrote wrote' wrote'' r.out (output u) r.writes a;
    front = next_front r.front f;
  }

module _ {T : Type 0} {Hears : T → List ℕ → T → Type 0} {Ends : T → T → Type 0} {output messages : T → List ℕ}
    {room : ℕ} {left left' wrote wrote' said said' : Option (List ℕ)} {s t : T} {n : ℕ}
    (r : Reached Hears output messages left left' wrote wrote' said said' s n t) where
  -- ---- what ends it, `answer` being what the last read or write came to

  pub read-failed : {left'' : Option (List ℕ)} (piece : List ℕ) (answer : Result ℕ Error) {r' : Result (Unit {0}) Stop}
      → MatchResult answer (λ n. ⊥) (λ e. r' ≡ Err (Read e)) → ReadConsumes left' left'' answer piece → (IsInterrupted answer → ⊥)
      → Conversed Hears Ends output messages room left left'' wrote wrote' said said' s r' t
  read-failed piece (Ok n) w k p = absurd w
  read-failed {left''} piece (Err e) w k p = rw w (record {
    made = n;
    input = r.input;
    out = r.out;
    err = r.err;
    course = stopped r.turns;
    reads = consumes-kept left left' left'' r.input r.reads k;
    writes = r.writes;
    front = r.front;
    at_end = λ some f. cc;
    patient = p;
    used_up = λ f. cc;
    some_turn = λ why f. cc;
  })

  pub write-failed : {left'' wrote'' said'' : Option (List ℕ)} {u : T} (answer : Result (Unit {0}) Error) {r' : Result (Unit {0}) Stop} (piece : List ℕ)
      → MatchResult answer (λ n. ⊥) (λ e. r' ≡ Err (Write e)) → 0 < length piece → Consumes left' left'' piece → Hears t piece u
      → OnErr answer (AppendsFront wrote' wrote'' (output u)) → AppendsFront said' said'' (messages u)
      → Conversed Hears Ends output messages room left left'' wrote wrote'' said said'' s r' u
  write-failed (Ok x) piece w some c h a f = absurd w
  write-failed {left''} {wrote''} {u = u} (Err e) piece w some c h a f = rw w (record {
    made = n + 1;
    input = _;
    out = _;
    err = _;
    course = stopped (next_turn piece r.turns some h);
    reads = consumes-more left left' left'' r.input piece r.reads c;
    writes = front-more wrote wrote' wrote'' r.out (output u) r.writes a;
    front = next_front r.front f;
    at_end = λ some g. cc;
    patient = tt;
    used_up = λ g. cc;
    some_turn = λ why g. omega arith;
  })

  pub ended : {left'' wrote'' said'' : Option (List ℕ)} {u : T} (answer : Result (Unit {0}) Error) {r' : Result (Unit {0}) Stop}
      → MatchResult answer (λ x. r' ≡ Ok x) (λ e. r' ≡ Err (LastWrite e)) → Consumes left' left'' [] → (0 < room → IsAtEnd left'') → Ends t u
      → OnOk answer (Appends wrote' wrote'' (output u)) → OnErr answer (AppendsFront wrote' wrote'' (output u)) → AppendsFront said' said'' (messages u)
      → Conversed Hears Ends output messages room left left'' wrote wrote'' said said'' s r' u
  ended {left''} {wrote''} {u = u} (Ok x) w c e h a b f = rw w (record {
    made = n;
    input = r.input;
    out = _;
    err = _;
    course = to_the_end r.turns h;
    reads = consumes-same left left' left'' r.input r.reads c;
    writes = appends-more wrote wrote' wrote'' r.out (output u) r.writes a;
    front = next_front r.front f;
    at_end = λ some g. e some;
    patient = tt;
    used_up = λ g. cc;
    some_turn = λ f g. cc;
  })
  ended {left''} {wrote''} {u = u} (Err why) w c e h a b f = rw w (record {
    made = n;
    input = r.input;
    out = _;
    err = _;
    course = to_the_end r.turns h;
    reads = consumes-same left left' left'' r.input r.reads c;
    writes = front-more wrote wrote' wrote'' r.out (output u) r.writes b;
    front = next_front r.front f;
    at_end = λ some g. e some;
    patient = tt;
    used_up = λ g. cc;
    some_turn = λ f g. cc;
  })

  pub all-used : n ≡ most_turns → Conversed Hears Ends output messages room left left' wrote wrote' said said' s (Err UsedUp) t
  all-used e = record {
    made = n;
    input = r.input;
    out = r.out;
    err = r.err;
    course = stopped r.turns;
    reads = r.reads;
    writes = r.writes;
    front = r.front;
    at_end = λ some g. cc;
    patient = tt;
    used_up = λ g. e;
    some_turn = λ why g. cc;
  }

wrote-front : (r : Result (Unit {0}) Stop) {a b : Option (List ℕ)} {xs : List ℕ} → Wrote r a b xs → AppendsFront a b xs
wrote-front (Ok u) {a} {b} {xs} h = all-front a b xs h
wrote-front (Err (Read e)) {a} {b} {xs} h = all-front a b xs h
wrote-front (Err (Write e)) h = h
wrote-front (Err (LastWrite e)) h = h
wrote-front (Err UsedUp) {a} {b} {xs} h = all-front a b xs h

-- ---- what it gives for the whole input

-- Turns give the beginning of what is given for the whole input, `whole` of it to the output, say, where a piece does.
pub turns-begin : {T : Type 0} {Hears : T → List ℕ → T → Type 0} {output messages : T → List ℕ} (whole : T → List ℕ → List ℕ)
    → ((s t : T) (piece rest : List ℕ) → Hears s piece t → whole s (piece ++ rest) ≡ output t ++ whole t rest)
    → {s t : T} {n : ℕ} {input out err : List ℕ} → Turns Hears output messages s n input out err t
    → (rest : List ℕ) → whole s (input ++ rest) ≡ out ++ whole t rest
turns-begin whole on no_turn rest = refl
turns-begin {output = output} whole on {s = s} (next_turn {t = t} {u} {input = input} {out} piece before some h) rest =
    ap (whole s) (append_assoc input piece rest)
    ∙ turns-begin whole on before (piece ++ rest)
    ∙ ap (λ (w : List ℕ). out ++ w) (on t u piece rest h)
    ∙ sym (append_assoc out (output u) (whole u rest))

-- The output and the messages change places.
swapped : {T : Type 0} {Hears : T → List ℕ → T → Type 0} {output messages : T → List ℕ} {s t : T} {n : ℕ} {input out err : List ℕ}
    → Turns Hears output messages s n input out err t → Turns Hears messages output s n input err out t
swapped no_turn = no_turn
swapped (next_turn piece before some h) = next_turn piece (swapped before) some h

-- The same of the messages.
pub turns-complain : {T : Type 0} {Hears : T → List ℕ → T → Type 0} {output messages : T → List ℕ} (whole : T → List ℕ → List ℕ)
    → ((s t : T) (piece rest : List ℕ) → Hears s piece t → whole s (piece ++ rest) ≡ messages t ++ whole t rest)
    → {s t : T} {n : ℕ} {input out err : List ℕ} → Turns Hears output messages s n input out err t
    → (rest : List ℕ) → whole s (input ++ rest) ≡ err ++ whole t rest
turns-complain whole on turns rest = turns-begin whole on (swapped turns) rest

module _ {T : Type 0} {Hears : T → List ℕ → T → Type 0} {Ends : T → T → Type 0} {output messages : T → List ℕ} (tells complains : T → List ℕ → List ℕ)
    (on : (s t : T) (piece rest : List ℕ) → Hears s piece t
    → (tells s (piece ++ rest) ≡ output t ++ tells t rest) × (complains s (piece ++ rest) ≡ messages t ++ complains t rest))
    (so : (s t : T) → Ends s t → (tells s [] ≡ output t) × (complains s [] ≡ messages t)) where
  -- To the end of the input, all of it is given.
  all-given : {s t : T} {n : ℕ} {input out err : List ℕ} (b : Bool) → b ≡ true → Course Hears Ends output messages s b n input out err t
      → (tells s input ≡ out) × (complains s input ≡ err)
  all-given b e (stopped turns) = cc
  all-given {s} b e (to_the_end {last = last} {t} {n} {input} {out} {err} turns ends) =
      let end = so last t ends in (
        ap (tells s) (sym (append-nil input)) ∙ turns-begin tells (λ a b p r h. (on a b p r h).0) turns [] ∙ ap (λ (w : List ℕ). out ++ w) end.0,
        ap (complains s) (sym (append-nil input)) ∙ turns-complain complains (λ a b p r h. (on a b p r h).1) turns [] ∙ ap (λ (w : List ℕ). err ++ w) end.1,
      )

  -- Wherever it stopped, the output is the beginning of it, whatever else the input would have brought.
  begun : {s t : T} {n : ℕ} {input out err : List ℕ} (b : Bool) → b ≡ false → Course Hears Ends output messages s b n input out err t
      → (rest : List ℕ) → tells s (input ++ rest) ≡ out ++ tells t rest
  begun b e (stopped turns) rest = turns-begin tells (λ a b p r h. (on a b p r h).0) turns rest
  begun b e (to_the_end turns ends) rest = cc

  pub conversed-all : {room : ℕ} → 0 < room → (left : Option (List ℕ)) {left' wrote wrote' said said' : Option (List ℕ)} {s t : T} (r : Result (Unit {0}) Stop)
      → Conversed Hears Ends output messages room left left' wrote wrote' said said' s r t
      → OnOk r (IfSome left (λ bytes. Appends wrote wrote' (tells s bytes) × Fronts said said' (complains s bytes)))
  conversed-all more left (Err e) k = tt
  conversed-all more None (Ok u) k = tt
  conversed-all more (Some xs) {left'} {wrote} {wrote'} {said} {said'} {s} (Ok u) k =
      let is = all-given true refl k.course in
      let read = all-read xs left' k.input k.reads (k.at_end more refl) in (
        subst (λ (w : List ℕ). Appends wrote wrote' w) (sym is.0 ∙ ap (tells s) (sym read)) k.writes,
        subst (λ (w : List ℕ). Fronts said said' w) (sym is.1 ∙ ap (complains s) (sym read)) k.front,
      )

  -- A beginning of a beginning, or of the whole.
  pub conversed-begins : {room : ℕ} → 0 < room → (left : Option (List ℕ)) {left' wrote wrote' said said' : Option (List ℕ)} {s t : T} (r : Result (Unit {0}) Stop)
      → Conversed Hears Ends output messages room left left' wrote wrote' said said' s r t
      → IfSome left (λ bytes. AppendsFront wrote wrote' (tells s bytes))
  conversed-begins more None r k = tt
  conversed-begins more (Some xs) {left'} {wrote} {wrote'} {s = s} {t} r k = by (is_final r) refl k.course
    where
      got : AppendsFront wrote wrote' k.out
      got = wrote-front r k.writes

      by : (b : Bool) → is_final r ≡ b → Course Hears Ends output messages s b k.made k.input k.out k.err t → AppendsFront wrote wrote' (tells s xs)
      by true e course =
          let is = all-given true refl course in
          let read = all-read xs left' k.input k.reads (k.at_end more e) in
          subst (λ (w : List ℕ). AppendsFront wrote wrote' w) (sym is.0 ∙ ap (tells s) (sym read)) got
      by false e course = some left' k.reads
        where
          some : (o : Option (List ℕ)) → Consumes (Some xs) o k.input → AppendsFront wrote wrote' (tells s xs)
          some None c = absurd c
          some (Some ys) c =
              subst (λ (w : List ℕ). AppendsFront wrote wrote' w) (sym (ap (tells s) c ∙ begun false refl course ys))
              (front-longer wrote wrote' k.out (tells t ys) got)
