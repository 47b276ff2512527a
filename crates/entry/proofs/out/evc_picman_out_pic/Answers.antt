use Rattle.std.proofs.Common.{◌≡◌, refl, rules}
use Rattle.std.specs.Prelude.{ℕ, List, Option, Some, None, Result, Ok, Err, MatchResult}
use Rattle.def.specs.declared.{EvcPm.EvcPm, EvcRefP.EvcRefP, Refusal.Refusal}
use Rattle.keys.specs.declared.{Rest.Rest}
use Rattle.picman.specs.declared.{Shown.Shown, NoMoreOutput.NoMoreOutput}
use Rattle.picman.specs.Out.{out}
use Rattle.picman.specs.Results.{out_answer}
use Rattle.picman.proofs.OutOnKeys.{numbers_fit}
use Rattle.entry.specs.Opening.{Opens, Gives}
use Rattle.entry.specs.Output.{output_answer}
use Rattle.entry.specs.declared.out.{NoOutput.NoOutput}
use Rattle.entry.proofs.Opened.{opened-whole}
use Rattle.entry.proofs.Calling.{turned-away, still-whole, gives}
use Rattle.entry.proofs.Defining.{out-defined}
use Rattle.entry.proofs.out.evc_picman_out_pic.Goals as goal

refused-on : {pm : EvcPm} {refp : List EvcRefP} {keys rows : List ℕ} (o : Result Rest Refusal) (given : Result (Option Shown) NoOutput) → Opens pm refp keys rows o
    → MatchResult o (λ rest. ⊥) (λ why. given ≡ Err (NoOutput.Refused why)) → Gives (out pm) (output_answer given) pm
refused-on (Ok rest) given p e = absurd e
refused-on (Err why) given p e = rw e (turned-away out-defined p refl)

answer-is : (handed : Result (Option Shown) NoMoreOutput) (given : Result (Option Shown) NoOutput)
    → MatchResult handed (λ x. given ≡ Ok x) (λ why. given ≡ Err NoOutput.NoMore) → output_answer given ≡ Ok (out_answer handed)
answer-is (Ok (Some s)) given e = rw e refl
answer-is (Ok None) given e = rw e refl
answer-is (Err why) given e = rw e refl

pub returns-in_err-rest : goal.returns-in_err-rest
returns-in_err-rest c = refused-on c.open_state.result c.from_residual.result c.open_state.ensures (search rules)

pub out-handed-requires : goal.out-handed-requires
out-handed-requires c =
    let o = c.open_state.ensures in
    let is : c.open_state.result ≡ Ok c.in_ok-rest.rest = search rules in
    (o.sized.slots_long, numbers_fit c.open_state.new.keys c.open_state.new.rows c.in_ok-rest.rest o.sized.slots_long (opened-whole o is))

pub put_together-requires : goal.put_together-requires
put_together-requires c =
    let is : c.open_state.result ≡ Ok c.in_ok-rest.rest = search rules in
    let came = (c.out-handed.ensures _ c.open_state.ensures.sized.rows_long).comes in
    (came.still_sized, still-whole out-defined c.open_state.ensures is came)

pub returns : goal.returns
returns c =
    let is : c.open_state.result ≡ Ok c.in_ok-rest.rest = search rules in
    rw (c.put_together.ensures, answer-is c.out-handed.result c.map_err-2.result (search rules))
    (gives out-defined c.open_state.ensures is (c.out-handed.ensures _ c.open_state.ensures.sized.rows_long).comes)
