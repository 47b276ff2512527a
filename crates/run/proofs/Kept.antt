-- Runs that agree in their machine and in what is kept of their unfinished line go on alike.
-- Assumes nothing.
use Prim.Native.Nat.{ℕ, zero, suc}
use native.Mathlib.Omega.{arith}
use mathlib.Core.Path.{◌≡◌, refl, sym, ap, ◌∙◌}
use mathlib.Core.Bool.{Bool, true, false, cond}
use mathlib.Core.List.{List, [], ◌∷◌, ◌++◌}
use lib.Dec.{eqb}
use lib.ListN.{take}
use Rattle.line.specs.Calls.{read_line}
use Rattle.line.specs.Lines.{newline}
use Rattle.run.specs.Run.{Runner, Fed, end_line, extend_line, feed_byte, feed, lacked_newline, finish}
use Rattle.run.specs.Partial.{kept_length}
use Rattle.run.proofs.PartialLaws.{kept-reads}

join : {a b c d : List ℕ} → a ≡ b → c ≡ d → a ++ c ≡ b ++ d
join e f = cc

-- Two runs that keep the same go on alike.
pub record Alike (r s : Runner) : Type 0 where
  pub machines : r.machine ≡ s.machine
  pub lines : take kept_length r.line ≡ take kept_length s.line

pub record FedAlike (f g : Fed) : Type 0 where
  pub runners : Alike f.runner g.runner
  pub written : f.written ≡ g.written

alike-reads : {r s : Runner} → Alike r s → read_line r.line ≡ read_line s.line
alike-reads {r} {s} a = sym (kept-reads r.line) ∙ ap read_line a.lines ∙ kept-reads s.line

take_more : (k : ℕ) (l cs : List ℕ) → take k (take k l ++ cs) ≡ take k (l ++ cs)
take_more zero l cs = refl
take_more (suc k) [] cs = refl
take_more (suc k) (x ∷ l) cs = rw (take_more k l cs) refl

extend-alike : {r s : Runner} (c : ℕ) → Alike r s → FedAlike (extend_line r c) (extend_line s c)
extend-alike {r} {s} c a =
    record {
      runners =
          record {
            machines = a.machines;
            lines =
                sym (take_more kept_length r.line (c ∷ []))
                ∙ ap (λ (l : List ℕ). take kept_length (l ++ (c ∷ []))) a.lines
                ∙ take_more kept_length s.line (c ∷ []);
          };
      written = refl;
    }

end-alike : {r s : Runner} → Alike r s → FedAlike (end_line r) (end_line s)
end-alike {r} {s} a =
    let e : end_line r ≡ end_line s = rw (a.machines, alike-reads a) refl in
    record {
      runners = record { machines = ap (λ (f : Fed). f.runner.machine) e; lines = refl };
      written = ap (λ (f : Fed). f.written) e;
    }

byte-alike : {r s : Runner} (c : ℕ) → Alike r s → FedAlike (feed_byte r c) (feed_byte s c)
byte-alike {r} {s} c a = go (eqb c newline)
  where
    go : (b : Bool) → FedAlike (cond b (end_line r) (extend_line r c)) (cond b (end_line s) (extend_line s c))
    go true = end-alike a
    go false = extend-alike c a

pub feed-alike : {r s : Runner} (cs : List ℕ) → Alike r s → FedAlike (feed r cs) (feed s cs)
unfolding feed
feed-alike [] a = record { runners = a; written = refl }
feed-alike {r} {s} (c ∷ cs) a =
    let n = byte-alike c a in
    let f = feed-alike {r = (feed_byte r c).runner} {s = (feed_byte s c).runner} cs n.runners in
    record { runners = f.runners; written = join n.written f.written }

pub finish-alike : {r s : Runner} → Alike r s → finish r ≡ finish s
unfolding feed
finish-alike {r} {s} a = rw a.machines (by r.line s.line a.lines (alike-reads a))
  where
    by : (l k : List ℕ) → take kept_length l ≡ take kept_length k → read_line l ≡ read_line k
        → feed (record { machine = s.machine; line = l }) (lacked_newline l) ≡ feed (record { machine = s.machine; line = k }) (lacked_newline k)
    by [] [] e f = refl
    by [] (c ∷ cs) e f = absurd (let z : ◌≡◌ {A = ℕ} 0 1 = cc in omega arith)
    by (c ∷ cs) [] e f = absurd (let z : ◌≡◌ {A = ℕ} 0 1 = cc in omega arith)
    by (c ∷ cs) (d ∷ ds) e f = rw f refl
