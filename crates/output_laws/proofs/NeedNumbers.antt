-- What calls need has numbers of at most 64 bits.
use Rattle.std.proofs.Common.{◌≡◌, ℕ, ◌<◌, ◌≤◌, true, List, refl, ap, subst, arith}
use Rattle.std.specs.Prelude.{Option, Some, None, IsSome, IfSome, is_some, option_and_then}
use Rattle.std.specs.FinMap.{get}
use Rattle.vfs_tree.specs.Layers.{kind_in, linked_by, store_by}
use Rattle.vfs_tree.specs.Nodes.{AreBelow}
use Rattle.vfs_tree.specs.Views.{facts_in, dir_in, facts_of}
use Rattle.vfs_tree.specs.declared.mount.MountKind.{MountKind}
use Rattle.vfs_tree.specs.declared.node.Node.{Node}
use Rattle.vfs_tree.specs.declared.node.Store.{Store}
use Rattle.vfs_tree.specs.declared.walk.Step.TheVariants.{Wants}
use Rattle.vfs_tree.specs.declared.world.World.{World}
use Rattle.call_model.specs.Rows.{row}
use Rattle.call_model.specs.declared.call.Call.{Call}
use Rattle.call_model.specs.declared.entry.Inner.{Inner}
use Rattle.call_model.specs.declared.entry.Inner.TheVariants.{Shadow, CopyUp, Detach, Doom}
use Rattle.call_model.specs.declared.entry.Ref.{Ref}
use Rattle.call_model.specs.declared.entry.Ref.TheVariants.{Fd, Cwd as Here}
use Rattle.trace_text.specs.Bounded.{IsBounded, IsBoundedRef, IsBoundedInner}
use Rattle.call_laws.specs.Fitting.{IsLive, MayNeed, Fits}
use Rattle.call_laws.specs.Needing.{IsFree}
use Rattle.call_laws.proofs.MountParts.{FreeInner}
use Rattle.call_laws.proofs.NamedLaws.{no_way}
use Rattle.call_laws.proofs.Parts.{Keeps}
use Rattle.call_laws.proofs.RowLaws.{row_fits, row_free}
use Rattle.call_laws.proofs.SoundParts.{mount_there}
use Rattle.call_laws.proofs.Whole.{IsWhole}
use Rattle.need_laws.specs.Lacking.{LacksDir, LacksFile}
use Rattle.need_laws.proofs.NeededShown.{lacks_dir, lacks_file}
use Rattle.output_laws.proofs.KeyLaws.{AreKeyed, few, mount_few}

-- ---- directories of stores

dir_there : (t : Store) (i : ℕ) (o : Option Node) → linked_by (option_and_then (facts_in t i) o) ≡ true → IsSome o
dir_there t i (Some node) is = refl
dir_there t i None is = no_way is

dir_few : (o : Option Store) (i : ℕ) → IfSome o (λ t. AreBelow t.nodes t.next) → IfSome o (λ t. t.next ≤ 4294967295) → linked_by (option_and_then (λ t. dir_in t i) o) ≡ true → IsBounded i
dir_few (Some t) i below most is =
    let less : i < t.next = below i (dir_there t i (get t.nodes i) is) in
    few i (omega (arith, less, most))
dir_few None i below most is = no_way is

module _ (w : World) (h : IsWhole w) (keys : AreKeyed w) where
  kind_few : (m : ℕ) (k : MountKind) → kind_in (facts_of w) m ≡ Some k → IsBounded m
  kind_few m k is = mount_few w h m (mount_there (get w.mounts m) (ap is_some is))

  free_few : (m u : ℕ) (n : List ℕ) → IsFree (facts_of w) m u n → IsBounded u
  free_few m u n free = let s = store_by (kind_in (facts_of w) m) in dir_few (get w.stores s) u (h.lasts.numbered s) (h.lasts.counted.inodes s) free.linked

  live_few : (at : Ref) → IsLive w at → IsBoundedRef at
  live_few (Fd c d) live = keys.opens (c, d) live.1
  live_few (Here c) live = keys.cwds c live.1

  module _ (c : ℕ) (call : Call) where
    may_need : (x : Inner) → row w c call ≡ Wants x → MayNeed w c call x
    may_need x needs = subst (Fits w c call) needs (row_fits w c call)

    free_inner : (x : Inner) → row w c call ≡ Wants x → FreeInner w x
    free_inner x needs = (subst (λ o. Keeps (λ y. Unit {0}) (FreeInner w) o) needs (row_free w c call)).holds

    -- what a call needs has such numbers
    pub need_few : (x : Inner) → row w c call ≡ Wants x → IsBoundedInner x
    need_few (Shadow m u n) needs =
        let a : LacksDir w m u n = lacks_dir w c m u call n h.sound h.lasts needs in
        (kind_few m _ a.union, free_few m u n a.free)
    need_few (CopyUp m u n) needs =
        let a : LacksFile w m u n = lacks_file w c m u call n h.sound h.lasts needs in
        let free : IsWhole w → IsFree (facts_of w) m u n = free_inner (CopyUp m u n) needs in
        (kind_few m _ a.union, free_few m u n (free h))
    need_few (Detach m) needs =
        let free : FreeInner w (Detach m) = free_inner (Detach m) needs in
        mount_few w h m (free.2 h)
    need_few (Doom at) needs =
        let may : MayNeed w c call (Doom at) = may_need (Doom at) needs in
        live_few at may.0
