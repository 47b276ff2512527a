-- `machine_why::ask_slices` meets its contract: the answer is shown. Assumes nothing.
use Rattle.machine_why.proofs.ask_slices.Goals as goal

pub returns : goal.returns
returns c rows = rw (c.show_why.ensures, c.slices_answer.ensures rows)
