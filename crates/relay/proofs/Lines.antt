-- Bytes that come one by one give what the lines of the whole give.
-- Assumes nothing.
use Prim.Native.Nat.{ℕ, zero, suc}
use mathlib.Core.Path.{◌≡◌, refl, ap, ◌∙◌}
use mathlib.Core.Bool.{Bool, true, false, cond}
use mathlib.Core.List.{List, [], ◌∷◌, ◌++◌}
use lib.ListN.{take}
use Rattle.buffer.specs.Buffer.{is_newline, last_line, lines_from}
use Rattle.asking.specs.Asked.{Texts, texts}
use Rattle.telling.specs.Told.{joined, next_number, told_lines, told_input}
use Rattle.telling.specs.Telling.{kept, Speaker, speaker, Fed, fed, feed, finish, gives}
use Rattle.telling.specs.Laws.{joined-assoc}
use Rattle.relay.specs.Relayed.{KeptTells}

take_more : (k : ℕ) (l cs : List ℕ) → take k (take k l ++ cs) ≡ take k (l ++ cs)
take_more zero l cs = refl
take_more (suc k) [] cs = refl
take_more (suc k) (x ∷ l) cs = rw (take_more k l cs)

module _ (told : ℕ → List ℕ → Texts) (enough : KeptTells told) where
  -- What a last line gives that lacks its newline.
  last-kept : (number : ℕ) (line : List ℕ) → (finish told (speaker (take kept line) number)).texts ≡ told_lines told number (last_line line)
  unfolding told_lines feed
  last-kept number [] = refl
  last-kept number (c ∷ cs) = rw (enough number (c ∷ cs))

  feed-lines : (input line : List ℕ) (number : ℕ) → gives told (speaker (take kept line) number) input ≡ told_lines told number (lines_from line input)
  unfolding feed told_lines lines_from
  feed-lines [] line number = last-kept number line
  feed-lines (c ∷ cs) line number = by (is_newline c) (feed-lines cs [] (next_number number)) (feed-lines cs (line ++ (c ∷ [])) number)
    where
      this : Bool → Fed
      this b =
          cond b (fed (speaker [] (next_number number)) (told number (take kept line)))
          (fed (speaker (take kept (take kept line ++ (c ∷ []))) number) (texts [] []))

      rest : Speaker → Texts
      rest s = gives told s cs

      by : (b : Bool) → rest (speaker [] (next_number number)) ≡ told_lines told (next_number number) (lines_from [] cs)
          → rest (speaker (take kept (line ++ (c ∷ []))) number) ≡ told_lines told number (lines_from (line ++ (c ∷ [])) cs)
          → (let f = feed told (this b).speaker cs in joined (joined (this b).texts f.texts) (finish told f.speaker).texts)
          ≡ told_lines told number (cond b (line ∷ lines_from [] cs) (lines_from (line ++ (c ∷ [])) cs))
      by true p q =
          let f = feed told (speaker [] (next_number number)) cs in
          joined-assoc (told number (take kept line)) f.texts (finish told f.speaker).texts
          ∙ ap (joined (told number (take kept line))) p
          ∙ ap (λ (t : Texts). joined t (told_lines told (next_number number) (lines_from [] cs))) (enough number line)
      by false p q = rw (take_more kept line (c ∷ [])) q

  -- From line 1 on, all that is given is what the lines of the input give.
  pub gives-input : (input : List ℕ) → gives told (speaker [] 1) input ≡ told_input told input
  unfolding told_input
  gives-input input = feed-lines input [] 1
