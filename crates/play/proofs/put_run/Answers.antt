-- The three parts of the printout, one after the other.
use mathlib.Core.Path.{sym, ◌∙◌, ap}
use mathlib.Core.List.{List}
use Prim.Native.Nat.{ℕ}
use native.Mathlib.Omega.{arith}
use lib.ListN.{length, replicate}
use Rattle.play.proofs.Whole.{image_length, assembled, blocks_ready, space_fits}
use Rattle.std.proofs.lemmas.List.{length-replicate}
use borrow.Author.Rules.{rules}
use Rattle.play.proofs.put_run.Goals as goal

pub slice_bounds-space-end : goal.slice_bounds-space-end
slice_bounds-space-end c = (space_fits c.args.card _ c.requires _ (replicate 4096 0) c.image_size-size.ensures.value (sym (length-replicate {A = ℕ} 4096 0))).0

pub slice_bounds-image-end : goal.slice_bounds-image-end
slice_bounds-image-end c = sym (space_fits c.args.card _ c.requires _ (replicate 4096 0) c.image_size-size.ensures.value (sym (length-replicate {A = ℕ} 4096 0))).1

pub copy_from_slice-requires : goal.copy_from_slice-requires
copy_from_slice-requires c =
    (space_fits c.args.card _ c.requires _ (replicate 4096 0) c.image_size-size.ensures.value (sym (length-replicate {A = ℕ} 4096 0))).1 ∙ c.image_size-size.ensures.value
    ∙ sym (ap (λ (l : List ℕ). length l) c.image_of-first.ensures ∙ image_length c.args.card _ c.requires)

pub changes-requires : goal.changes-requires
changes-requires c = blocks_ready c.args.card _ c.requires _ _ _ _ c.image_size-size.ensures.value c.blocks_of.ensures (omega (arith, c.header.ensures.upper_bound, c.keep_events.ensures.end_bound)) (search rules)

pub returns : goal.returns
returns c =
    (assembled c.args.card _ c.requires _ _ _ _ _ _ c.image_of-first.ensures c.copy_from_slice.ensures.after c.image_size-size.ensures.value c.event_count-count.ensures c.blocks_of.ensures
    c.header.ensures.puts c.keep_events.ensures.puts c.keep_events.ensures.image_after c.changes.ensures).put
