-- What is open keeps its file.
use Rattle.std.proofs.Common.{◌≡◌, ℕ, Bool, true, false, cond, not, ◌&&◌, ◌||◌, ◌==◌, List, [], ◌∷◌, ◌++◌, refl, ap, sym, ◌∙◌, subst, eq-eqb, ◌+◌, length}
use Rattle.std.specs.Prelude.{Option, Some, None, IsSome, IfSome, option_map, option_and_then, nat_lt}
use Rattle.std.specs.FinMap.{get}
use Rattle.finite_maps.specs.Keys.{pair_cmp}
use Rattle.vfs_tree.specs.Facts.{Facts}
use Rattle.vfs_tree.specs.Layers.{kind_in, store_by, base, same_node, is_dir_kind, is_dir, cut_by}
use Rattle.vfs_tree.specs.Nodes.{node_at, is_dir_node}
use Rattle.vfs_tree.specs.Place.{Seen, Mem, Null, UnionUp, UnionLow}
use Rattle.vfs_tree.specs.Sound.{is_mem, is_null, is_union, names_mounts, IsSoundPlace, IsSoundDir, EachLayer, EachPlace, IsSound}
use Rattle.vfs_tree.specs.Start.{start_world}
use Rattle.vfs_tree.specs.Steps.{◌>>=◌, ◌>>◌, refuse_if}
use Rattle.vfs_tree.specs.Views.{kind_of_node, is_linked_in, facts_of}
use Rattle.vfs_tree.specs.declared.errno.Errno.{Errno}
use Rattle.vfs_tree.specs.declared.errno.Errno.TheVariants as errno
use Rattle.vfs_tree.specs.declared.limits.Limits.{Limits}
use Rattle.vfs_tree.specs.declared.mount.Mount.{Mount}
use Rattle.vfs_tree.specs.declared.mount.MountKind.{MountKind}
use Rattle.vfs_tree.specs.declared.mount.MountKind.TheVariants as kind
use Rattle.vfs_tree.specs.declared.node.Node.{Node}
use Rattle.vfs_tree.specs.declared.node.Node.TheVariants.{Dir, File, Link}
use Rattle.vfs_tree.specs.declared.node.Store.{Store}
use Rattle.vfs_tree.specs.declared.open.Open.{Open}
use Rattle.vfs_tree.specs.declared.walk.NodeId.{NodeId}
use Rattle.vfs_tree.specs.declared.walk.Step.TheVariants.{Go}
use Rattle.vfs_tree.specs.declared.world.World.{World}
use Rattle.call_model.specs.Apply.{Applied, Finished, Needs, apply, settle}
use Rattle.call_model.specs.Checks.{Outcome, node_of}
use Rattle.call_model.specs.DataRows.{contents, bytes_of, opened, piece, most_moved, with_offset}
use Rattle.call_model.specs.Kept.{is_open_on, is_cwd_on, is_mounted_on, kept, kept_store}
use Rattle.call_model.specs.Legal.{Pending, IsLegal, IsLegalFrom, after, doomers_after, doomers_in, is_no_memory, replay, world_after}
use Rattle.call_model.specs.declared.call.Call.{Call}
use Rattle.call_model.specs.declared.call.Call.TheVariants as call
use Rattle.call_model.specs.declared.entry.Entry.{Entry}
use Rattle.call_model.specs.declared.entry.Entry.TheVariants as entry
use Rattle.call_model.specs.declared.reply.Reply.{Reply}
use Rattle.call_model.specs.declared.reply.Reply.TheVariants as reply
use Rattle.call_laws.specs.Lasting.{IsUncut, IsLasting}
use Rattle.call_laws.specs.Prefixes.{pending_before}
use Rattle.call_laws.proofs.KeptLaws.{store_kept, node_kept}
use Rattle.call_laws.proofs.NamedLaws.{no_way, value_any}
use Rattle.call_laws.proofs.PlaceLaws.{lasting-start}
use Rattle.call_laws.proofs.PrefixLaws.{legal-before, legal-after, replay-joined}
use Rattle.call_laws.proofs.RefusalLaws.{failed_row}
use Rattle.call_laws.proofs.SoundLaws.{sound-start}
use Rattle.call_laws.proofs.SoundParts.{second_of, both_of, mem_there, mount_there}
use Rattle.call_laws.proofs.Whole.{IsWhole}
use Rattle.call_laws.proofs.WorldLaws.{sound_call, whole-history}
use Rattle.edit_laws.proofs.HistoryTells.{right_whole}
use Rattle.open_laws.specs.Contents.{written_place, is_done, WritesElsewhere, AllWriteElsewhere, IsOpenAt, StaysOpenAt, DropsFiles}
use Rattle.open_laws.proofs.KeptNodes.{StaysNode, KeepsNodes, KeepsNode, HasFewer, one_of, call_keeps, call_kept, inner_keeps, after_umount, after_force, after_drop}

-- ---- the node of a place

union_kept : (o r : Option MountKind) → ((k : MountKind) → o ≡ Some k → r ≡ Some k) → is_union o ≡ true → r ≡ o
union_kept (Some k) r stay h = stay k refl
union_kept None r stay h = no_way h

base_same : (f g : Facts) → ((m : ℕ) (k : MountKind) → kind_in f m ≡ Some k → kind_in g m ≡ Some k) → (p : Seen) → names_mounts f p ≡ true → base g p ≡ base f p
base_same f g stay (Mem m i) h = refl
base_same f g stay (Null m p) h = base_same f g stay p (second_of (is_null (kind_in f m)) (names_mounts f p) h)
base_same f g stay (UnionUp m i) h = let at : Option MountKind → NodeId = λ o. record { store = store_by o; ino = i } in ap at (union_kept (kind_in f m) (kind_in g m) (stay m) h)
base_same f g stay (UnionLow m u n p) h = base_same f g stay p (second_of (is_union (kind_in f m)) (names_mounts f p) h)

-- a node that isn't a directory stays what it is
same_file : (o r : Option Node) → IsSome (option_map kind_of_node o) → ((x : Node) → o ≡ Some x → StaysNode x r) → is_dir_kind (option_map kind_of_node o) ≡ false → r ≡ o
same_file (Some (Dir parent opaque names)) r there stays file = no_way (sym file)
same_file (Some (File bytes)) r there stays file = stays (File bytes) refl
same_file (Some (Link target)) r there stays file = stays (Link target) refl
same_file None r there stays file = no_way there

dir_contents : (o : Option Node) → is_dir_node o ≡ true → contents o ≡ []
dir_contents (Some (Dir parent opaque names)) h = refl
dir_contents (Some (File bytes)) h = no_way h
dir_contents (Some (Link target)) h = no_way h
dir_contents None h = no_way h

same_contents : (o r : Option Node) → IsSome (option_map kind_of_node o) → ((x : Node) → o ≡ Some x → StaysNode x r) → contents r ≡ contents o
same_contents (Some (Dir parent opaque names)) r there stays = dir_contents r (stays (Dir parent opaque names) refl)
same_contents (Some (File bytes)) r there stays = ap contents (stays (File bytes) refl)
same_contents (Some (Link target)) r there stays = ap contents (stays (Link target) refl)
same_contents None r there stays = no_way there

same_dir : (o r : Option Node) → IsSome (option_map kind_of_node o) → ((x : Node) → o ≡ Some x → StaysNode x r) → is_dir_kind (option_map kind_of_node r) ≡ is_dir_kind (option_map kind_of_node o)
same_dir (Some (Dir parent opaque names)) r there stays = as_dir r (stays (Dir parent opaque names) refl)
  where
    as_dir : (o : Option Node) → is_dir_node o ≡ true → is_dir_kind (option_map kind_of_node o) ≡ true
    as_dir (Some (Dir parent opaque names)) h = refl
    as_dir (Some (File bytes)) h = no_way h
    as_dir (Some (Link target)) h = no_way h
    as_dir None h = no_way h
same_dir (Some (File bytes)) r there stays = ap (λ o. is_dir_kind (option_map kind_of_node o)) (stays (File bytes) refl)
same_dir (Some (Link target)) r there stays = ap (λ o. is_dir_kind (option_map kind_of_node o)) (stays (Link target) refl)
same_dir None r there stays = no_way there

-- what a place rests on is as before
record SameFile (w v : World) (p : Seen) : Type 0 where
  pub node : is_dir (facts_of w) p ≡ false → node_of v p ≡ node_of w p
  pub bytes : bytes_of v p ≡ bytes_of w p

module _ (w v : World) (p : Seen) where
  abbrev b : NodeId
  b = base (facts_of w) p

  module _ (keeps : KeepsNode b w v) (place : IsSoundPlace (facts_of w) p) where
    same_base : base (facts_of v) p ≡ b
    same_base = base_same (facts_of w) (facts_of v) keeps.1 p place.mounts

    moved : node_of v p ≡ node_at v b.store b.ino
    moved = ap (λ (x : NodeId). node_at v x.store x.ino) same_base

    stays : (x : Node) → node_of w p ≡ Some x → StaysNode x (node_of v p)
    stays x e = subst (StaysNode x) (sym moved) (keeps.0 x e)

    kept_file : SameFile w v p
    kept_file = record {
      node = λ file. same_file (node_of w p) (node_of v p) place.base stays file;
      bytes = same_contents (node_of w p) (node_of v p) place.base stays;
    }

    kept_dir : is_dir (facts_of v) p ≡ is_dir (facts_of w) p
    kept_dir = same_dir (node_of w p) (node_of v p) place.base stays

  fewer_node : HasFewer w v → IsSoundPlace (facts_of v) p → node_of v p ≡ node_of w p
  fewer_node fewer place =
      let same : base (facts_of w) p ≡ base (facts_of v) p = base_same (facts_of v) (facts_of w) fewer.1 p place.mounts in
      ap (λ (x : NodeId). node_at v x.store x.ino) (sym same)
      ∙ ap (λ m. option_and_then (λ (t : Store). get t.nodes b.ino) (get m b.store)) fewer.0

  fewer_file : HasFewer w v → IsSoundPlace (facts_of v) p → SameFile w v p
  fewer_file fewer place = let same = fewer_node fewer place in record { node = λ _. same; bytes = ap contents same }

-- ---- entries

open_place : (w : World) (k : ℕ × ℕ) (o : Open) → IsSound w → get w.opens k ≡ Some o → o.dead ≡ false → IsSoundPlace (facts_of w) o.place
open_place w k o sound at alive = subst (λ x. IfSome x (λ o. o.dead ≡ false → IsSoundPlace (facts_of w) o.place)) at (sound.opens k) alive

sound_at : (w : World) (k : ℕ × ℕ) (p : Seen) → IsSound w → IsOpenAt w k p → IsSoundPlace (facts_of w) p
sound_at w k p sound x = subst (IsSoundPlace (facts_of w)) x.place (open_place w k x.file sound x.at x.live)

-- what isn't done leaves the world
left_same : (w : World) (a : Applied) → ((new : World) (e : Errno) → a ≡ Finished new (reply.Fail e) → new ≡ w) → is_done a ≡ false → world_after w a ≡ w
left_same w (Finished new (reply.Fail e)) stays off = stays new e refl
left_same w (Finished new _) stays off = no_way (sym off)
left_same w (Needs x) stays off = refl

module _ (w : World) (k : ℕ × ℕ) (p : Seen) (sound : IsSound w) (lasts : IsLasting w) (before : IsOpenAt w k p) where
  by_kept : (e : Entry) → KeepsNode (base (facts_of w) p) w (after w e) → IsOpenAt (after w e) k p → SameFile w (after w e) p
  by_kept e keeps there = kept_file w (after w e) p keeps (sound_at w k p sound before)

  by_fewer : (c : ℕ) (x : Call) (r : Reply) → HasFewer w (after w (entry.Call c x r)) → IsOpenAt (after w (entry.Call c x r)) k p → SameFile w (after w (entry.Call c x r)) p
  by_fewer c x r fewer there = let v = after w (entry.Call c x r) in fewer_file w v p fewer (sound_at v k p (sound_call w c x r sound lasts) there)

  call_same : (c : ℕ) (x : Call) (r : Reply) → IfSome (written_place w c x) (λ q. same_node (base (facts_of w) q) (base (facts_of w) p) ≡ false) → IsOpenAt (after w (entry.Call c x r)) k p → SameFile w (after w (entry.Call c x r)) p
  call_same c (call.Umount a) r away = by_fewer c (call.Umount a) r (after_umount w c a r)
  call_same c (call.UmountForce a) r away = by_fewer c (call.UmountForce a) r (after_force w c a r)
  call_same c x r away = by_kept (entry.Call c x r) (call_kept w (base (facts_of w) p) lasts c x r (λ y. y) away)

  -- where nothing is changed
  same_left : (v : World) → v ≡ w → SameFile w v p
  same_left v is = record { node = λ _. ap (λ v. node_of v p) is; bytes = ap (λ v. bytes_of v p) is }

  call_or : (c : ℕ) (x : Call) (r : Reply) (lacks done : Bool) → is_no_memory r ≡ lacks → is_done (apply w c x) ≡ done → WritesElsewhere w (entry.Call c x r) p → IsOpenAt (after w (entry.Call c x r)) k p
      → SameFile w (after w (entry.Call c x r)) p
  call_or c x r true done memory is away there = same_left (after w (entry.Call c x r)) (ap (λ b. cond b w (world_after w (apply w c x))) memory)
  call_or c x r false true memory is away there = call_same c x r (away memory is) there
  call_or c x r false false memory is away there =
      same_left (after w (entry.Call c x r)) (ap (λ b. cond b w (world_after w (apply w c x))) memory ∙ left_same w (apply w c x) (λ new e. failed_row w new c x e) is)

  entry_same : (e : Entry) → WritesElsewhere w e p → IsOpenAt (after w e) k p → SameFile w (after w e) p
  entry_same (entry.Call c x r) away = call_or c x r (is_no_memory r) (is_done (apply w c x)) refl refl away
  entry_same (entry.Inner c x) away = by_kept (entry.Inner c x) (one_of (base (facts_of w) p) w (after w (entry.Inner c x)) (inner_keeps w lasts c x))

pub open_node : (w : World) (e : Entry) (k : ℕ × ℕ) (p : Seen) → IsSound w → IsLasting w → IsOpenAt w k p → IsOpenAt (after w e) k p → WritesElsewhere w e p → is_dir (facts_of w) p ≡ false → node_of (after w e) p ≡ node_of w p
open_node w e k p sound lasts before there away file = (entry_same w k p sound lasts before e away there).node file

pub open_bytes : (w : World) (e : Entry) (k : ℕ × ℕ) (p : Seen) → IsSound w → IsLasting w → IsOpenAt w k p → IsOpenAt (after w e) k p → WritesElsewhere w e p → bytes_of (after w e) p ≡ bytes_of w p
open_bytes w e k p sound lasts before there away = (entry_same w k p sound lasts before e away there).bytes

-- ---- histories

open_now : (w : World) (es : List Entry) (k : ℕ × ℕ) (p : Seen) → StaysOpenAt w es k p → IsOpenAt w k p
open_now w [] k p stays = stays
open_now w (e ∷ es) k p stays = stays.0

same_through : (w v u : World) (p : Seen) → SameFile w v p → SameFile v u p → SameFile w u p
same_through w v u p a b = record {
  node = λ file. let same = a.node file in b.node (ap (λ o. is_dir_kind (option_map kind_of_node o)) same ∙ file) ∙ same;
  bytes = b.bytes ∙ a.bytes;
}

same_along : (pending : Pending) (ds : List ℕ) (w : World) (es : List Entry) (k : ℕ × ℕ) (p : Seen) → IsLegalFrom pending ds w es → IsWhole w → StaysOpenAt w es k p → AllWriteElsewhere w es p → SameFile w (replay w es) p
same_along pending ds w [] k p legal h stays away = record { node = λ _. refl; bytes = refl }
same_along pending ds w (e ∷ es) k p legal h stays away =
    let v = after w e in
    same_through w v (replay v es) p (entry_same w k p h.sound h.lasts stays.0 e away.0 (open_now v es k p stays.1))
    (same_along pending (doomers_after ds e) v es k p legal.1 (right_whole pending ds w e es legal.0 h) stays.1 away.1)

pub history_node : (pending : Pending) (w : World) (es : List Entry) (k : ℕ × ℕ) (p : Seen) → IsLegal pending w es → IsSound w → IsLasting w → StaysOpenAt w es k p → AllWriteElsewhere w es p → is_dir (facts_of w) p ≡ false
    → node_of (replay w es) p ≡ node_of w p
history_node pending w es k p legal sound lasts stays away = (same_along pending [] w es k p legal (record { sound = sound; lasts = lasts }) stays away).node

pub history_bytes : (pending : Pending) (w : World) (es : List Entry) (k : ℕ × ℕ) (p : Seen) → IsLegal pending w es → IsSound w → IsLasting w → StaysOpenAt w es k p → AllWriteElsewhere w es p
    → bytes_of (replay w es) p ≡ bytes_of w p
history_bytes pending w es k p legal sound lasts stays away = (same_along pending [] w es k p legal (record { sound = sound; lasts = lasts }) stays away).bytes

module _ (limits : Limits) (pending : Pending) (es fs : List Entry) (k : ℕ × ℕ) (p : Seen) where
  abbrev first : World
  first = start_world limits

  module _ (legal : IsLegal pending first (es ++ fs)) (stays : StaysOpenAt (replay first es) fs k p) (away : AllWriteElsewhere (replay first es) fs p) where
    same_after : SameFile (replay first es) (replay (replay first es) fs) p
    same_after =
        let h : IsWhole first = record { sound = sound-start limits; lasts = lasting-start limits } in
        same_along pending (doomers_in [] es) (replay first es) fs k p (legal-after pending first es fs legal) (whole-history (pending_before pending fs) [] first es (legal-before pending first es fs legal) h) stays away

    pub start_node : is_dir (facts_of (replay first es)) p ≡ false → node_of (replay first (es ++ fs)) p ≡ node_of (replay first es) p
    start_node file = ap (λ v. node_of v p) (replay-joined first es fs) ∙ same_after.node file

    pub start_bytes : bytes_of (replay first (es ++ fs)) p ≡ bytes_of (replay first es) p
    start_bytes = ap (λ v. bytes_of v p) (replay-joined first es fs) ∙ same_after.bytes

-- ---- names that are dropped

drop_keeps : (w : World) (c : ℕ) (x : Call) (r : Reply) → IsLasting w → DropsFiles x → KeepsNodes w (after w (entry.Call c x r))
drop_keeps w c (call.Unlink p) r lasts drops = call_keeps w lasts c (call.Unlink p) r refl (λ x. x)
drop_keeps w c (call.Rename p q) r lasts drops = call_keeps w lasts c (call.Rename p q) r refl (λ x. x)
drop_keeps w c _ r lasts drops = absurd drops

pub unlinked_open : (w : World) (c : ℕ) (x : Call) (r : Reply) → DropsFiles x → (after w (entry.Call c x r)).opens ≡ w.opens
unlinked_open w c x r drops = after_drop w c x r drops

pub unlinked_node : (w : World) (c : ℕ) (x : Call) (r : Reply) (k : ℕ × ℕ) (o : Open) → IsSound w → IsLasting w → DropsFiles x → get w.opens k ≡ Some o → o.dead ≡ false → is_dir (facts_of w) o.place ≡ false → node_of (after w (entry.Call c x r)) o.place ≡ node_of w o.place
unlinked_node w c x r k o sound lasts drops at alive file = (kept_file w (after w (entry.Call c x r)) o.place (one_of (base (facts_of w) o.place) w (after w (entry.Call c x r)) (drop_keeps w c x r lasts drops)) (open_place w k o sound at alive)).node file

-- what a read of an open file answers
abbrev checked : Open → Bool → ℕ → Outcome → Outcome
checked o dir n found = (refuse_if o.dead errno.EIO >> (refuse_if (not o.mode.read) errno.EBADF >> (refuse_if dir errno.EISDIR >> refuse_if (nat_lt most_moved n) errno.EINVAL))) >> found

abbrev reply_of : Applied → Reply
reply_of (Finished u r) = r
reply_of (Needs x) = reply.Done

answer_same : (w v : World) (o : Open) (dir : Bool) (n : ℕ) (bytes : List ℕ) (r : Reply) → settle w (checked o dir n (Go (w, reply.Bytes bytes))) ≡ Finished w r → settle v (checked o dir n (Go (v, reply.Bytes bytes))) ≡ Finished v r
answer_same w v o dir n bytes r = by o.dead o.mode.read dir (nat_lt most_moved n)
  where
    by : (a b d l : Bool) → settle w ((refuse_if a errno.EIO >> (refuse_if (not b) errno.EBADF >> (refuse_if d errno.EISDIR >> refuse_if l errno.EINVAL))) >> Go (w, reply.Bytes bytes)) ≡ Finished w r
        → settle v ((refuse_if a errno.EIO >> (refuse_if (not b) errno.EBADF >> (refuse_if d errno.EISDIR >> refuse_if l errno.EINVAL))) >> Go (v, reply.Bytes bytes)) ≡ Finished v r
    by true b d l e = ap (Finished v) (ap reply_of e)
    by false false d l e = ap (Finished v) (ap reply_of e)
    by false true true l e = ap (Finished v) (ap reply_of e)
    by false true false true e = ap (Finished v) (ap reply_of e)
    by false true false false e = ap (Finished v) (ap reply_of e)

module _ (w v : World) (c d n at : ℕ) (o : Open) (r : Reply) (opens : v.opens ≡ w.opens) (open_at : get w.opens (c, d) ≡ Some o) (dirs : is_dir (facts_of v) o.place ≡ is_dir (facts_of w) o.place) (bytes : bytes_of v o.place ≡ bytes_of w o.place) where
  abbrev read_of : World → Option Open → Outcome
  read_of u x = opened x >>= (λ (y : Open). checked y (is_dir (facts_of u) y.place) n (Go (u, reply.Bytes (piece (bytes_of u y.place) at n))))

  read_same : apply w c (call.Pread d n at) ≡ Finished w r → apply v c (call.Pread d n at) ≡ Finished v r
  read_same is =
      ap (λ x. settle v (read_of v x)) (ap (λ m. get m (c, d)) opens ∙ open_at)
      ∙ ap (λ x. settle v (checked o x n (Go (v, reply.Bytes (piece (bytes_of v o.place) at n))))) dirs
      ∙ ap (λ x. settle v (checked o (is_dir (facts_of w) o.place) n (Go (v, reply.Bytes (piece x at n))))) bytes
      ∙ answer_same w v o (is_dir (facts_of w) o.place) n (piece (bytes_of w o.place) at n) r (sym (ap (λ x. settle w (read_of w x)) open_at) ∙ is)

pub unlinked_read : (w : World) (b : ℕ) (x : Call) (s : Reply) (c d n at : ℕ) (o : Open) (r : Reply) → IsSound w → IsLasting w → DropsFiles x → get w.opens (c, d) ≡ Some o → o.dead ≡ false
    → apply w c (call.Pread d n at) ≡ Finished w r → apply (after w (entry.Call b x s)) c (call.Pread d n at) ≡ Finished (after w (entry.Call b x s)) r
unlinked_read w b x s c d n at o r sound lasts drops there alive is =
    let v = after w (entry.Call b x s) in
    let keeps = one_of (base (facts_of w) o.place) w v (drop_keeps w b x s lasts drops) in
    let place = open_place w (c, d) o sound there alive in
    read_same w v c d n at o r (after_drop w b x s drops) there (kept_dir w v o.place keeps place) (kept_file w v o.place keeps place).bytes is

-- where the offset moves
abbrev moved_on : World → ℕ → ℕ → ℕ → Open → List ℕ → World × Reply
moved_on u c d n o bytes = let read = piece bytes o.offset n in (with_offset u c d o (o.offset + length read), reply.Bytes read)

answer_moved : (w v to u : World) (o : Open) (dir : Bool) (n : ℕ) (from : World) (bytes : List ℕ) (r : Reply) → settle w (checked o dir n (Go (from, reply.Bytes bytes))) ≡ Finished u r
    → settle v (checked o dir n (Go (to, reply.Bytes bytes))) ≡ Finished (world_after v (settle v (checked o dir n (Go (to, reply.Bytes bytes))))) r
answer_moved w v to u o dir n from bytes r = by o.dead o.mode.read dir (nat_lt most_moved n)
  where
    by : (a b d l : Bool) → settle w ((refuse_if a errno.EIO >> (refuse_if (not b) errno.EBADF >> (refuse_if d errno.EISDIR >> refuse_if l errno.EINVAL))) >> Go (from, reply.Bytes bytes)) ≡ Finished u r
        → settle v ((refuse_if a errno.EIO >> (refuse_if (not b) errno.EBADF >> (refuse_if d errno.EISDIR >> refuse_if l errno.EINVAL))) >> Go (to, reply.Bytes bytes))
        ≡ Finished (world_after v (settle v ((refuse_if a errno.EIO >> (refuse_if (not b) errno.EBADF >> (refuse_if d errno.EISDIR >> refuse_if l errno.EINVAL))) >> Go (to, reply.Bytes bytes)))) r
    by true b d l e = ap (Finished v) (ap reply_of e)
    by false false d l e = ap (Finished v) (ap reply_of e)
    by false true true l e = ap (Finished v) (ap reply_of e)
    by false true false true e = ap (Finished v) (ap reply_of e)
    by false true false false e = ap (Finished to) (ap reply_of e)

module _ (w v u : World) (c d n : ℕ) (o : Open) (r : Reply) (opens : v.opens ≡ w.opens) (open_at : get w.opens (c, d) ≡ Some o) (dirs : is_dir (facts_of v) o.place ≡ is_dir (facts_of w) o.place) (bytes : bytes_of v o.place ≡ bytes_of w o.place) where
  abbrev moving_of : World → Option Open → Outcome
  moving_of x y = opened y >>= (λ (z : Open). checked z (is_dir (facts_of x) z.place) n (Go (moved_on x c d n z (bytes_of x z.place))))

  its_read : apply v c (call.Read d n) ≡ settle v (checked o (is_dir (facts_of w) o.place) n (Go (moved_on v c d n o (bytes_of w o.place))))
  its_read =
      ap (λ x. settle v (moving_of v x)) (ap (λ m. get m (c, d)) opens ∙ open_at)
      ∙ ap (λ x. settle v (checked o x n (Go (moved_on v c d n o (bytes_of v o.place))))) dirs
      ∙ ap (λ x. settle v (checked o (is_dir (facts_of w) o.place) n (Go (moved_on v c d n o x)))) bytes

  moved_same : apply w c (call.Read d n) ≡ Finished u r → apply v c (call.Read d n) ≡ Finished (world_after v (apply v c (call.Read d n))) r
  moved_same is =
      let read = piece (bytes_of w o.place) o.offset n in
      subst (λ a. a ≡ Finished (world_after v a) r) (sym its_read)
      (answer_moved w v (with_offset v c d o (o.offset + length read)) u o (is_dir (facts_of w) o.place) n (with_offset w c d o (o.offset + length read)) read r
      (sym (ap (λ x. settle w (moving_of w x)) open_at) ∙ is))

pub unlinked_moves : (w u : World) (b : ℕ) (x : Call) (s : Reply) (c d n : ℕ) (o : Open) (r : Reply) → IsSound w → IsLasting w → DropsFiles x → get w.opens (c, d) ≡ Some o → o.dead ≡ false
    → apply w c (call.Read d n) ≡ Finished u r → apply (after w (entry.Call b x s)) c (call.Read d n) ≡ Finished (world_after (after w (entry.Call b x s)) (apply (after w (entry.Call b x s)) c (call.Read d n))) r
unlinked_moves w u b x s c d n o r sound lasts drops there alive is =
    let v = after w (entry.Call b x s) in
    let keeps = one_of (base (facts_of w) o.place) w v (drop_keeps w b x s lasts drops) in
    let place = open_place w (c, d) o sound there alive in
    moved_same w v u c d n o r (after_drop w b x s drops) there (kept_dir w v o.place keeps place) (kept_file w v o.place keeps place).bytes is

-- ---- what is kept

-- the mount of its store is there
module _ (w : World) (sound : IsSound w) where
  upper_mem : (m : ℕ) (t : Option Mount) → get w.mounts m ≡ t → cut_by t ≡ false → IfSome t (λ t. t.cut ≡ false → EachPlace (IsSoundDir (facts_of w)) t) → is_union (option_map (λ (t : Mount). t.kind) t) ≡ true
      → is_mem (kind_in (facts_of w) (store_by (option_map (λ (t : Mount). t.kind) t))) ≡ true
  upper_mem m (Some t) at uncut places union = by t.kind (places uncut).1 union
    where
      by : (k : MountKind) → EachLayer (IsSoundDir (facts_of w)) k → is_union (Some k) ≡ true → is_mem (kind_in (facts_of w) (store_by (Some k))) ≡ true
      by kind.Mem layers h = no_way h
      by (kind.Null layer) layers h = no_way h
      by (kind.Union s u lower) layers h = layers.0.place.mounts
  upper_mem m None at uncut places union = no_way union

  store_there : (p : Seen) → names_mounts (facts_of w) p ≡ true → IsUncut (facts_of w) p → is_mem (kind_in (facts_of w) (base (facts_of w) p).store) ≡ true
  store_there (Mem m i) names uncut = names
  store_there (Null m p) names uncut = store_there p (second_of (is_null (kind_in (facts_of w) m)) (names_mounts (facts_of w) p) names) uncut.1
  store_there (UnionUp m i) names uncut = upper_mem m (get w.mounts m) refl uncut (sound.view.places m) names
  store_there (UnionLow m u n p) names uncut = store_there p (second_of (is_union (kind_in (facts_of w) m)) (names_mounts (facts_of w) p) names) uncut.1

same_self : (b : NodeId) → same_node b (record { store = b.store; ino = b.ino }) ≡ true
same_self b = both_of (b.store == b.store) (b.ino == b.ino) (eq-eqb b.store b.store refl) (eq-eqb b.ino b.ino refl)

or_open : (a b c : Bool) → b ≡ true → (a || (b || c)) ≡ true
or_open true b c h = refl
or_open false true c h = refl
or_open false false c h = no_way h

module _ (w : World) (k : ℕ × ℕ) (o : Open) (sound : IsSound w) (at : get w.opens k ≡ Some o) (alive : o.dead ≡ false) where
  abbrev its : NodeId
  its = base (facts_of w) o.place

  held : IsSoundPlace (facts_of w) o.place
  held = open_place w k o sound at alive

  rests : is_open_on w (record { store = its.store; ino = its.ino }) ≡ true
  rests =
      value_any pair_cmp (λ (o : Open). not o.dead && same_node (base (facts_of w) o.place) (record { store = its.store; ino = its.ino })) w.opens k o at
      (both_of (not o.dead) (same_node its (record { store = its.store; ino = its.ino })) (ap not alive) (same_self its))

  in_store : (x : Option Store) → option_and_then (λ (t : Store). get t.nodes its.ino) (option_map (kept_store w its.store) x) ≡ option_and_then (λ (t : Store). get t.nodes its.ino) x
  in_store (Some t) =
      let id : NodeId = record { store = its.store; ino = its.ino } in
      node_kept w its.store t its.ino
      ∙ ap (λ b. cond b (get t.nodes its.ino) None) (or_open (is_linked_in t its.ino) (is_open_on w id) (is_cwd_on w id || is_mounted_on w id) rests)
  in_store None = refl

  pub open_kept_in : IsSome (get w.mounts its.store) → node_of (kept w) o.place ≡ node_of w o.place
  open_kept_in mounted =
      ap (λ (x : NodeId). node_at (kept w) x.store x.ino) (base_same (facts_of w) (facts_of (kept w)) (λ m k e. e) o.place held.mounts)
      ∙ ap (option_and_then (λ (t : Store). get t.nodes its.ino)) (store_kept w its.store ∙ ap (λ x. cond x (option_map (kept_store w its.store) (get w.stores its.store)) None) mounted)
      ∙ in_store (get w.stores its.store)

  pub open_kept : IsUncut (facts_of w) o.place → node_of (kept w) o.place ≡ node_of w o.place
  open_kept uncut = open_kept_in (mount_there (get w.mounts its.store) (mem_there (kind_in (facts_of w) its.store) (store_there w sound o.place held.mounts uncut)))
