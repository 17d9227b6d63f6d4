-- Checks, needs and edits that several rows make.
use Rattle.std.specs.Prelude.{ℕ, Bool, true, not, ◌==◌, List, Option, Some, None, is_some}
use Rattle.std.specs.FinMap.{get}
use Rattle.vfs_tree.specs.Place.{Seen, Mem, Null, UnionUp, UnionLow, bare}
use Rattle.vfs_tree.specs.Layers.{kind_in, store_by, base, is_dir}
use Rattle.vfs_tree.specs.Carriers.{is_in_union}
use Rattle.vfs_tree.specs.Nodes.{node_at, entry_at, is_white}
use Rattle.vfs_tree.specs.Edits.{made, with_store}
use Rattle.vfs_tree.specs.StoreEdits.{removed}
use Rattle.vfs_tree.specs.Steps.{◌>>=◌, ◌>>◌, refuse_if}
use Rattle.vfs_tree.specs.declared.walk.Step.{Step}
use Rattle.vfs_tree.specs.declared.walk.Step.TheVariants.{Go, Refuse, Wants}
use Rattle.vfs_tree.specs.Views.{facts_of}
use Rattle.vfs_tree.specs.declared.errno.Errno.{Errno}
use Rattle.vfs_tree.specs.declared.errno.Errno.TheVariants as errno
use Rattle.vfs_tree.specs.declared.node.Node.{Node}
use Rattle.vfs_tree.specs.declared.node.Store.{Store}
use Rattle.vfs_tree.specs.declared.walk.Found.{Found}
use Rattle.vfs_tree.specs.declared.walk.Found.TheVariants as found
use Rattle.vfs_tree.specs.declared.walk.Need.{Need}
use Rattle.vfs_tree.specs.declared.world.World.{World}
use Rattle.call_model.specs.declared.entry.Inner.{Inner}
use Rattle.call_model.specs.declared.entry.Inner.TheVariants.{Shadow, CopyUp}
use Rattle.call_model.specs.declared.reply.Reply.{Reply}
use Rattle.call_model.specs.declared.target.Target.{Target}

-- what a part of a call comes to: a need is an inner entry
abbrev pub Doing : Type 0 → Type 0
Doing A = Step A Inner

-- what a call comes to: the world that it leaves, and its reply
abbrev pub Outcome : Type 0
Outcome = Doing (World × Reply)

-- ---- needs. ENOSPC comes in place of one that would make a node where the store has no number left.

abbrev pub is_full_store : Option Store → Bool
is_full_store (Some t) = t.next == 4294967295
is_full_store None = true

-- whether a store has no inode number left
abbrev pub is_full : World → ℕ → Bool
is_full w s = is_full_store (get w.stores s)

-- the mount number of the memory file system in which a union has its upper layer
abbrev pub upper_store : World → ℕ → ℕ
upper_store w m = store_by (kind_in (facts_of w) m)

-- an inner entry that makes a node in the upper layer of a union
abbrev pub need_node : {A : Type 0} → World → ℕ → Inner → Doing A
need_node w m what = refuse_if (is_full w (upper_store w m)) errno.ENOSPC >> Wants what

-- a shadow directory
abbrev pub need_shadow : {A : Type 0} → World → Need → Doing A
need_shadow w x = need_node w x.mount (Shadow x.mount x.dir x.name)

-- what a walk or a listing comes to, as a part of a call
abbrev pub lifted : {A : Type 0} → World → Step A Need → Doing A
lifted w (Go a) = Go a
lifted w (Refuse e) = Refuse e
lifted w (Wants x) = need_shadow w x

-- a file of the lower layer alone is copied to the upper layer before it is changed
abbrev pub copied_place : World → Seen → Doing (Unit {0})
copied_place w (UnionLow m u n q) = need_node w m (CopyUp m u n)
copied_place w (UnionUp m i) = Go tt
copied_place w (Mem m i) = Go tt
copied_place w (Null m p) = Go tt

abbrev pub copied : World → Seen → Doing (Unit {0})
copied w p = copied_place w (bare p)

-- ---- what a walk found

-- A place. No other answer comes of a walk of the forms `Follow` and `NoFollow`.
abbrev pub place_at : World → Found → Doing Seen
place_at w (found.At p) = Go p
place_at w (found.Refused e) = Refuse e
place_at w (found.Need x) = need_shadow w x
place_at w _ = Refuse errno.EINVAL

-- a mount
abbrev pub mount_at : World → Found → Doing ℕ
mount_at w (found.Mount m) = Go m
mount_at w (found.Refused e) = Refuse e
mount_at w (found.Need x) = need_shadow w x
mount_at w _ = Refuse errno.EINVAL

-- a name in a directory, and the answer `dot` where the path ends with no name
abbrev pub target_at : World → Errno → Found → Doing Target
target_at w dot (found.In d n c) = Go (record { dir = d; name = n; child = c })
target_at w dot (found.Dot d) = Refuse dot
target_at w dot (found.Refused e) = Refuse e
target_at w dot (found.Need x) = need_shadow w x
target_at w dot _ = Refuse errno.EINVAL

-- what stands at a name, which must be there
abbrev pub there : Option Seen → Doing Seen
there (Some p) = Go p
there None = Refuse errno.ENOENT

-- a directory at a path
abbrev pub dir_at : World → Found → Doing Seen
dir_at w a = do
  p ← place_at w a
  refuse_if (not (is_dir (facts_of w) p)) errno.ENOTDIR
  Go p

-- a name in a directory at which nothing stands; also the directory itself is there
abbrev pub free_target : World → Found → Doing Target
free_target w a = do
  t ← target_at w errno.EEXIST a
  refuse_if (is_some t.child) errno.EEXIST
  Go t

-- ---- edits through a place

-- what a place is
abbrev pub node_of : World → Seen → Option Node
node_of w p = let b = base (facts_of w) p in node_at w b.store b.ino

-- the store of a place's node is edited, at that node
abbrev pub edit_at : World → Seen → (Store → ℕ → Store) → World
edit_at w p edit = let b = base (facts_of w) p in with_store (λ t. edit t b.ino) w b.store (get w.stores b.store)

-- whether a whiteout stands at a name of a directory
abbrev pub has_white : World → Seen → List ℕ → Bool
has_white w d n = let b = base (facts_of w) d in is_white (entry_at w b.store b.ino n)

-- a node is made at a name of a directory; ENOSPC where the store has no number left
abbrev pub make_at : World → Seen → List ℕ → Node → Doing World
make_at w d n node = do
  refuse_if (is_full w (base (facts_of w) d).store) errno.ENOSPC
  Go (edit_at w d (λ t dir. made t dir n node))

-- a name of a directory is dropped
abbrev pub drop_at : World → Seen → List ℕ → World
drop_at w d n = edit_at w d (λ t dir. removed (is_in_union d) t dir n)
