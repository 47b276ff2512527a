use Rattle.std.proofs.Common.{◌∙◌, sym, refl}
use Rattle.store.proofs.Holding.{place-free}
use Rattle.store.proofs.buffers.free_buffer.Goals as goal

pub unwrap-requires : goal.unwrap-requires
unwrap-requires c = rw (c.lowest_free.ensures, place-free c.args.keys.now _ c.requires c.held_buffers-held.ensures) refl

pub returns : goal.returns
returns c =
    let e = sym c.unwrap.ensures ∙ c.lowest_free.ensures ∙ place-free c.args.keys.now _ c.requires c.held_buffers-held.ensures in cc
