use Rattle.std.proofs.Common.{◌≡◌, Bool, true, false}
use Rattle.std.specs.Prelude.{IsTrue}
use Rattle.call_model.specs.declared.entry.Inner.TheVariants.{Doom}
use Rattle.vfs_core.proofs.AdvancingLaws.{ends_revoked, goes_doom, under_there}
use Rattle.vfs_core.proofs.advancing.enter_dooms.Goals as goal

never : (b : Bool) → b ≡ false → IsTrue b → ⊥
never b e h = let t : b ≡ true = h in cc

pub returns-then-not-is_revoke-clause-advanced : goal.returns-then-not-is_revoke-clause-advanced
returns-then-not-is_revoke-clause-advanced c = (
  Doom c.args.at,
  goes_doom c.args.world.now c.enter_doom.new.world c.args.history.now c.enter_doom.new.history c.args.caller c.args.call.now c.args.at c.requires.needs
      (λ revoke. never c.is_revoke.result c.if-not-is_revoke.true (c.is_revoke.ensures.1 revoke))
      c.enter_doom.ensures.doomed c.enter_doom.ensures.entered c.enter_doom.ensures.spare,
)

pub unreachable-requires : goal.unreachable-requires
unreachable-requires c = under_there c.args.world.now c.args.caller c.args.call.now c.args.at c.requires.needs c.in-None.ensures

pub returns-clause-advanced : goal.returns-clause-advanced
returns-clause-advanced c =
    ends_revoked c.args.world.now c.doom_open.new.world c.args.history.now c.doom_open.new.history c.args.caller c.args.call.now c.args.at c.in-Some.node c.done.result.reply
    (c.is_revoke.ensures.0 c.if-not-is_revoke.false) c.requires.needs c.in-Some.ensures c.doom_open.ensures.dooms c.doom_open.ensures.all c.done.ensures
