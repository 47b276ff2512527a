-- `conversion::together::put_slots` meets its contract: each slot is the one of its key. Assumes nothing.
use Rattle.std.proofs.Common.{rules, ◌≡◌, ◌∙◌, ◌<◌, ℕ, List, length, map, sym, arith}
use lib.ListN.{get_or, length-map}
use lib.Seq.{ext_get_or}
use Rattle.keys.specs.Keys.{slot_at}
use Rattle.seq.specs.Lists.{entries}
use Rattle.seq.proofs.Made.{made}
use Rattle.seq.proofs.Members.{map_at}
use Rattle.seq.proofs.Rows.{entry, length-entries}
use Rattle.conversion.proofs.together.put_slots.Goals as goal

by-places : {A : Type 0} (f : ℕ → A) (keys : List ℕ) (n : ℕ) → length keys ≡ n → entries (λ i. f (get_or keys i 0)) n ≡ map f keys
by-places {A} f keys n long =
    let rule : ℕ → A = λ i. f (get_or keys i 0) in
    ext_get_or (f 0) (entries rule n) (map f keys) (length-entries rule n ∙ sym long ∙ sym (length-map keys f))
    (λ k l. let h : k < n = omega (arith, length-entries rule n) in entry rule (f 0) n k h ∙ sym (map_at f keys k 0 (f 0) (omega arith)))

pub returns : goal.returns
returns c =
    made _ (λ i. slot_at c.args.rows.now (get_or c.args.keys.now i 0)) _ _ (λ i l y q called. search (rules, called)) c.from_fn.ensures.items
    ∙ by-places (slot_at c.args.rows.now) c.args.keys.now _ c.requires.0.slots_long
