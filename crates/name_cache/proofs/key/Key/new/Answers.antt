use Rattle.std.proofs.Common.{refl}
use Rattle.name_cache.proofs.Pads.{padded, few}
use Rattle.name_cache.proofs.key.Key.new.Goals as goal

pub invariant_of-result : goal.invariant_of-result
invariant_of-result c = padded _ c.as_slice-text.result.now _ (rw c.as_slice-text.ensures.bytes (few c.args.name.now c.as_slice-text.ensures.lawful)) c.copy_from_slice.ensures.after refl
