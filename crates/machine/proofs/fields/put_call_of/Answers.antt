-- `machine::fields::put_call_of` meets its contract. Assumes nothing.
use Rattle.machine.proofs.fields.put_call_of.Goals as goal

pub returns : goal.returns
returns c =
    rw (c.flag-4.ensures, c.flag-3.ensures, c.flag-2.ensures, c.flag.ensures)
