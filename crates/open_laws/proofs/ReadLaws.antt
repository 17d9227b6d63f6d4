-- A descriptor that stays live reads the same while nothing writes to what it stands for.
use Rattle.std.proofs.Common.{◌≡◌, ℕ, Bool, true, false, not, List, [], ◌∷◌, ◌++◌, refl, ap, sym, ◌∙◌, subst}
use Rattle.std.specs.Prelude.{Option, Some, None, option_map, nat_lt}
use Rattle.std.specs.FinMap.{get}
use Rattle.vfs_tree.specs.Layers.{is_dir, is_dir_kind}
use Rattle.vfs_tree.specs.Place.{Seen, UnionLow}
use Rattle.vfs_tree.specs.Sound.{IsSound}
use Rattle.vfs_tree.specs.Start.{start_world}
use Rattle.vfs_tree.specs.Steps.{◌>>=◌, ◌>>◌, refuse_if}
use Rattle.vfs_tree.specs.Views.{kind_of_node, facts_of}
use Rattle.vfs_tree.specs.declared.errno.Errno.{Errno}
use Rattle.vfs_tree.specs.declared.errno.Errno.TheVariants as errno
use Rattle.vfs_tree.specs.declared.limits.Limits.{Limits}
use Rattle.vfs_tree.specs.declared.open.Open.{Open}
use Rattle.vfs_tree.specs.declared.walk.Step.TheVariants.{Go}
use Rattle.vfs_tree.specs.declared.world.World.{World}
use Rattle.call_model.specs.Apply.{Applied, Finished, Needs, apply, settle}
use Rattle.call_model.specs.Checks.{Outcome, node_of}
use Rattle.call_model.specs.DataRows.{contents, bytes_of, opened, piece, most_moved}
use Rattle.call_model.specs.Effects.{effect}
use Rattle.call_model.specs.Legal.{Pending, IsLegal, IsLegalFrom, IsRight, after, doomers_after, doomers_in, next_call, replay}
use Rattle.call_model.specs.declared.call.Call.{Call}
use Rattle.call_model.specs.declared.call.Call.TheVariants as call
use Rattle.call_model.specs.declared.entry.Entry.{Entry}
use Rattle.call_model.specs.declared.entry.Entry.TheVariants as entry
use Rattle.call_model.specs.declared.entry.Inner.{Inner}
use Rattle.call_model.specs.declared.entry.Inner.TheVariants.{Shadow, CopyUp, Detach, Doom}
use Rattle.call_model.specs.declared.reply.Reply.{Reply}
use Rattle.call_model.specs.declared.reply.Reply.TheVariants as reply
use Rattle.call_laws.specs.Lasting.{IsLasting}
use Rattle.call_laws.specs.Prefixes.{pending_before}
use Rattle.call_laws.proofs.NamedLaws.{no_way}
use Rattle.call_laws.proofs.PlaceLaws.{lasting-start}
use Rattle.call_laws.proofs.PrefixLaws.{legal-before, legal-after, replay-joined}
use Rattle.call_laws.proofs.SoundLaws.{sound-start}
use Rattle.call_laws.proofs.Whole.{IsWhole}
use Rattle.call_laws.proofs.WorldLaws.{whole-history, IsNext, next_is}
use Rattle.fuel_laws.specs.Staying.{StaysButDead, StaysButOffset}
use Rattle.fuel_laws.proofs.OthersLaws.{open_shadow, open_doomed, stays_open}
use Rattle.edit_laws.proofs.HistoryTells.{right_whole}
use Rattle.need_laws.specs.Lacking.{LacksFile}
use Rattle.need_laws.specs.Turning.{is_seen_over}
use Rattle.need_laws.proofs.NeededShown.{lacks_file}
use Rattle.need_laws.proofs.TurnLaws.{copy_older, copy_others}
use Rattle.open_laws.specs.Contents.{WritesElsewhere, IsOpenAt}
use Rattle.open_laws.specs.Unwritten.{IsUnwrittenBy, StaysUnwritten}
use Rattle.open_laws.proofs.OpenFiles.{open_node, open_bytes}

-- ---- what a descriptor stands for in two worlds

-- it is opened in the same way, and the node is as it was
record Reads (w v : World) (o n : Open) : Type 0 where
  pub mode : n.mode ≡ o.mode
  pub node : is_dir (facts_of w) o.place ≡ false → node_of v n.place ≡ node_of w o.place
  pub bytes : bytes_of v n.place ≡ bytes_of w o.place

reads_through : (w v u : World) (o m n : Open) → Reads w v o m → Reads v u m n → Reads w u o n
reads_through w v u o m n a b = record {
  mode = b.mode ∙ a.mode;
  node = λ file. let same = a.node file in b.node (ap (λ o. is_dir_kind (option_map kind_of_node o)) same ∙ file) ∙ same;
  bytes = b.bytes ∙ a.bytes;
}

abbrev open_or : Open → Option Open → Open
open_or d (Some o) = o
open_or d None = d

one_open : (x : Option Open) (o n : Open) → x ≡ Some o → x ≡ Some n → n ≡ o
one_open x o n a b = ap (open_or n) (sym b ∙ a)

reads_itself : (w : World) (o n : Open) → n ≡ o → Reads w w o n
reads_itself w o n same = subst (λ n. Reads w w o n) (sym same) (record { mode = refl; node = λ _. refl; bytes = refl })

-- ---- an entry

module _ (w : World) (e : Entry) (k : ℕ × ℕ) (o n : Open) (h : IsWhole w) (was : get w.opens k ≡ Some o) (alive : o.dead ≡ false) (is : get (after w e).opens k ≡ Some n) (live : n.dead ≡ false)
    (away : WritesElsewhere w e o.place) where
  -- where the place stays
  put : n.place ≡ o.place → n.mode ≡ o.mode → Reads w (after w e) o n
  put same mode =
      let before : IsOpenAt w k o.place = record { file = o; at = was; live = alive; place = refl } in
      let there : IsOpenAt (after w e) k o.place = record { file = n; at = is; live = live; place = same } in
      record {
        mode = mode;
        node = λ file. ap (node_of (after w e)) same ∙ open_node w e k o.place h.sound h.lasts before there away file;
        bytes = ap (bytes_of (after w e)) same ∙ open_bytes w e k o.place h.sound h.lasts before there away;
      }

  put_same : n ≡ o → Reads w (after w e) o n
  put_same same = put (ap (λ (x : Open). x.place) same) (ap (λ (x : Open). x.mode) same)

reads_call : (w : World) (c : ℕ) (x : Call) (r : Reply) (k : ℕ × ℕ) (o n : Open) → IsWhole w → get w.opens k ≡ Some o → o.dead ≡ false → get (after w (entry.Call c x r)).opens k ≡ Some n → n.dead ≡ false
    → WritesElsewhere w (entry.Call c x r) o.place → Reads w (after w (entry.Call c x r)) o n
reads_call w c x r k o n h was alive is live away =
    let a : StaysButOffset (Some o) (Some n) = subst (λ y. StaysButOffset y (Some n)) was (subst (StaysButOffset (get w.opens k)) is (stays_open w c x r k)) in
    put w (entry.Call c x r) k o n h was alive is live away a.0 a.1

-- a copy that is needed
module _ (w : World) (c m u : ℕ) (name : List ℕ) (k : ℕ × ℕ) (o n : Open) (h : IsWhole w) (was : get w.opens k ≡ Some o) (alive : o.dead ≡ false) (is : get (effect w c (CopyUp m u name)).opens k ≡ Some n) (live : n.dead ≡ false)
    (a : LacksFile w m u name) where
  abbrev v : World
  v = effect w c (CopyUp m u name)

  copied : (b : Bool) → is_seen_over (UnionLow m u name a.file) o.place ≡ b → Reads w v o n
  copied true over =
      let t = copy_older w c m a.store a.top u a.lower a.file name k o h.sound h.lasts a.union a.uncut a.there was over in
      let same : n ≡ record o { place = t.place } = one_open (get v.opens k) (record o { place = t.place }) n t.at is in
      let node : node_of v n.place ≡ node_of w o.place = ap (λ (x : Open). node_of v x.place) same ∙ t.same in
      record { mode = ap (λ (x : Open). x.mode) same; node = λ _. node; bytes = ap contents node }
  copied false over =
      put_same w (entry.Inner c (CopyUp m u name)) k o n h was alive is live tt
      (one_open (get v.opens k) o n (copy_others w c m a.store a.top u a.lower a.file name k o h.sound h.lasts a.union a.uncut a.there was over) is)

reads_copy : (w : World) (c m u : ℕ) (name : List ℕ) (k : ℕ × ℕ) (o n : Open) → IsWhole w → IsNext w c (CopyUp m u name) → get w.opens k ≡ Some o → o.dead ≡ false → get (effect w c (CopyUp m u name)).opens k ≡ Some n → n.dead ≡ false
    → Reads w (effect w c (CopyUp m u name)) o n
reads_copy w c m u name k o n h next was alive is live =
    let a : LacksFile w m u name = lacks_file w c m u next.call name h.sound h.lasts next.needs in
    copied w c m u name k o n h was alive is live a (is_seen_over (UnionLow m u name a.file) o.place) refl

reads_inner : (w : World) (c : ℕ) (x : Inner) (k : ℕ × ℕ) (o n : Open) → IsWhole w → IsNext w c x → get w.opens k ≡ Some o → o.dead ≡ false → get (effect w c x).opens k ≡ Some n → n.dead ≡ false → Reads w (effect w c x) o n
reads_inner w c (Shadow m u name) k o n h next was alive is live =
    put_same w (entry.Inner c (Shadow m u name)) k o n h was alive is live tt (one_open (get w.opens k) o n was (sym (ap (λ opens. get opens k) (open_shadow w c m u name)) ∙ is))
reads_inner w c (CopyUp m u name) k o n h next was alive is live = reads_copy w c m u name k o n h next was alive is live
reads_inner w c (Detach m) k o n h next was alive is live = put_same w (entry.Inner c (Detach m)) k o n h was alive is live tt (one_open (get w.opens k) o n was is)
reads_inner w c (Doom at) k o n h next was alive is live =
    let a : StaysButDead (Some o) (Some n) = subst (λ y. StaysButDead y (Some n)) was (subst (StaysButDead (get w.opens k)) is (open_doomed w c at k)) in
    put w (entry.Inner c (Doom at)) k o n h was alive is live tt a.0 a.2

reads_entry : (p : Pending) (ds : List ℕ) (w : World) (e : Entry) (es : List Entry) (k : ℕ × ℕ) (o n : Open) → IsRight p ds w e es → IsWhole w → get w.opens k ≡ Some o → o.dead ≡ false → get (after w e).opens k ≡ Some n → n.dead ≡ false
    → WritesElsewhere w e o.place → Reads w (after w e) o n
reads_entry p ds w (entry.Call c x r) es k o n right h was alive is live away = reads_call w c x r k o n h was alive is live away
reads_entry p ds w (entry.Inner c x) es k o n right h was alive is live away = reads_inner w c x k o n h (next_is w c (next_call p c es) x right) was alive is live

-- ---- histories

-- what is open, and isn't dead
record IsLiveNow (w : World) (k : ℕ × ℕ) : Type 0 where
  pub file : Open
  pub at : get w.opens k ≡ Some file
  pub alive : file.dead ≡ false

live_now : (w : World) (es : List Entry) (k : ℕ × ℕ) (n : Open) → StaysUnwritten w es k → get (replay w es).opens k ≡ Some n → n.dead ≡ false → IsLiveNow w k
live_now w [] k n left is live = record { file = n; at = is; alive = live }
live_now w (e ∷ es) k n left is live = let x = left.0 in record { file = x.at.file; at = x.at.at; alive = x.at.live }

unwritten_place : (w : World) (e : Entry) (k : ℕ × ℕ) (o : Open) → get w.opens k ≡ Some o → IsUnwrittenBy w e k → WritesElsewhere w e o.place
unwritten_place w e k o was x = subst (WritesElsewhere w e) (sym x.at.place ∙ ap (λ (y : Open). y.place) (one_open (get w.opens k) o x.at.file was x.at.at)) x.elsewhere

reads_along : (p : Pending) (ds : List ℕ) (w : World) (es : List Entry) (k : ℕ × ℕ) (o n : Open) → IsLegalFrom p ds w es → IsWhole w → StaysUnwritten w es k → get w.opens k ≡ Some o → o.dead ≡ false → get (replay w es).opens k ≡ Some n → n.dead ≡ false
    → Reads w (replay w es) o n
reads_along p ds w [] k o n legal h left was alive is live = reads_itself w o n (one_open (get w.opens k) o n was is)
reads_along p ds w (e ∷ es) k o n legal h left was alive is live =
    let v : World = after w e in
    let x : IsLiveNow v k = live_now v es k n left.1 is live in
    reads_through w v (replay v es) o x.file n (reads_entry p ds w e es k o x.file legal.0 h was alive x.at x.alive (unwritten_place w e k o was left.0))
    (reads_along p (doomers_after ds e) v es k x.file n legal.1 (right_whole p ds w e es legal.0 h) left.1 x.at x.alive is live)

-- ---- what a read answers

-- what a read answers that passes these checks
abbrev answer : World → Bool → Bool → Bool → Bool → List ℕ → Applied
answer u dead reads dir many bytes =
    settle u ((refuse_if dead errno.EIO >> (refuse_if (not reads) errno.EBADF >> (refuse_if dir errno.EISDIR >> refuse_if many errno.EINVAL))) >> Go (u, reply.Bytes bytes))

abbrev bytes_or : Reply → List ℕ
bytes_or (reply.Bytes bytes) = bytes
bytes_or _ = []

abbrev is_bytes : Reply → Bool
is_bytes (reply.Bytes bytes) = true
is_bytes _ = false

abbrev reply_of : Applied → Reply
reply_of (Finished u r) = r
reply_of (Needs x) = reply.Done

record Passes (dead reads dir many : Bool) (bytes given : List ℕ) : Type 0 where
  pub alive : dead ≡ false
  pub may : reads ≡ true
  pub file : dir ≡ false
  pub few : many ≡ false
  pub same : bytes ≡ given

module _ (u : World) (given : List ℕ) where
  fails : {A : Type 0} (e : Errno) → Finished u (reply.Fail e) ≡ Finished u (reply.Bytes given) → A
  fails e is = no_way (ap (λ a. is_bytes (reply_of a)) is)

  passes : (dead reads dir many : Bool) (bytes : List ℕ) → answer u dead reads dir many bytes ≡ Finished u (reply.Bytes given) → Passes dead reads dir many bytes given
  passes true reads dir many bytes is = fails errno.EIO is
  passes false false dir many bytes is = fails errno.EBADF is
  passes false true true many bytes is = fails errno.EISDIR is
  passes false true false true bytes is = fails errno.EINVAL is
  passes false true false false bytes is = record { alive = refl; may = refl; file = refl; few = refl; same = ap (λ a. bytes_or (reply_of a)) is }

  answers : (dead reads dir many : Bool) (bytes : List ℕ) → Passes dead reads dir many bytes given → answer u dead reads dir many bytes ≡ Finished u (reply.Bytes given)
  answers dead reads dir many bytes x =
      ap (λ b. answer u b reads dir many bytes) x.alive
      ∙ ap (λ b. answer u false b dir many bytes) x.may
      ∙ ap (λ b. answer u false true b many bytes) x.file
      ∙ ap (λ b. answer u false true false b bytes) x.few
      ∙ ap (λ bytes. Finished u (reply.Bytes bytes)) x.same

module _ (c d count at : ℕ) where
  abbrev read_of : World → Option Open → Outcome
  read_of u x =
      opened x >>= (λ (y : Open). ((refuse_if y.dead errno.EIO >> (refuse_if (not y.mode.read) errno.EBADF >> (refuse_if (is_dir (facts_of u) y.place) errno.EISDIR >> refuse_if (nat_lt most_moved count) errno.EINVAL))) >> Go (u, reply.Bytes (piece (bytes_of u y.place) at count))))

  read_is : (u : World) (o : Open) → get u.opens (c, d) ≡ Some o
      → apply u c (call.Pread d count at) ≡ answer u o.dead o.mode.read (is_dir (facts_of u) o.place) (nat_lt most_moved count) (piece (bytes_of u o.place) at count)
  read_is u o is = ap (λ x. settle u (read_of u x)) is

  reads_same : (w v : World) (bytes : List ℕ) (o n : Open) → Reads w v o n → get w.opens (c, d) ≡ Some o → get v.opens (c, d) ≡ Some n → n.dead ≡ false
      → apply w c (call.Pread d count at) ≡ Finished w (reply.Bytes bytes) → apply v c (call.Pread d count at) ≡ Finished v (reply.Bytes bytes)
  reads_same w v bytes o n x was is live done =
      let many : Bool = nat_lt most_moved count in
      let old = piece (bytes_of w o.place) at count in
      let new = piece (bytes_of v n.place) at count in
      let p : Passes o.dead o.mode.read (is_dir (facts_of w) o.place) many old bytes =
      passes w bytes o.dead o.mode.read (is_dir (facts_of w) o.place) many old (sym (read_is w o was) ∙ done) in
      read_is v n is
      ∙ answers v bytes n.dead n.mode.read (is_dir (facts_of v) n.place) many new
      (record {
        alive = live;
        may = ap (λ m. m.read) x.mode ∙ p.may;
        file = ap (λ o. is_dir_kind (option_map kind_of_node o)) (x.node p.file) ∙ p.file;
        few = p.few;
        same = ap (λ xs. piece xs at count) x.bytes ∙ p.same;
      })

-- ---- the laws

module _ (p : Pending) (ds : List ℕ) (w : World) (es : List Entry) (k : ℕ × ℕ) (legal : IsLegalFrom p ds w es) (h : IsWhole w) (left : StaysUnwritten w es k) where
  reads_at : (from to : Seen) (a : IsOpenAt w k from) (b : IsOpenAt (replay w es) k to) → Reads w (replay w es) a.file b.file
  reads_at from to a b = reads_along p ds w es k a.file b.file legal h left a.at a.live b.at b.live

  node_along : (from to : Seen) → IsOpenAt w k from → IsOpenAt (replay w es) k to → is_dir (facts_of w) from ≡ false → node_of (replay w es) to ≡ node_of w from
  node_along from to a b file =
      ap (node_of (replay w es)) (sym b.place) ∙ (reads_at from to a b).node (ap (is_dir (facts_of w)) a.place ∙ file) ∙ ap (node_of w) a.place

  bytes_along : (from to : Seen) → IsOpenAt w k from → IsOpenAt (replay w es) k to → bytes_of (replay w es) to ≡ bytes_of w from
  bytes_along from to a b = ap (bytes_of (replay w es)) (sym b.place) ∙ (reads_at from to a b).bytes ∙ ap (bytes_of w) a.place

pread_along : (p : Pending) (ds : List ℕ) (w : World) (es : List Entry) (c d count at : ℕ) (to : Seen) (bytes : List ℕ) → IsLegalFrom p ds w es → IsWhole w → StaysUnwritten w es (c, d) → IsOpenAt (replay w es) (c, d) to
    → apply w c (call.Pread d count at) ≡ Finished w (reply.Bytes bytes) → apply (replay w es) c (call.Pread d count at) ≡ Finished (replay w es) (reply.Bytes bytes)
pread_along p ds w es c d count at to bytes legal h left b done =
    let x : IsLiveNow w (c, d) = live_now w es (c, d) b.file left b.at b.live in
    reads_same c d count at w (replay w es) bytes x.file b.file (reads_along p ds w es (c, d) x.file b.file legal h left x.at x.alive b.at b.live) x.at b.at b.live done

pub world_node : (p : Pending) (w : World) (es : List Entry) (k : ℕ × ℕ) (from to : Seen) → IsLegal p w es → IsSound w → IsLasting w → StaysUnwritten w es k → IsOpenAt w k from → IsOpenAt (replay w es) k to → is_dir (facts_of w) from ≡ false
    → node_of (replay w es) to ≡ node_of w from
world_node p w es k from to legal sound lasts left = node_along p [] w es k legal (record { sound = sound; lasts = lasts }) left from to

pub world_bytes : (p : Pending) (w : World) (es : List Entry) (k : ℕ × ℕ) (from to : Seen) → IsLegal p w es → IsSound w → IsLasting w → StaysUnwritten w es k → IsOpenAt w k from → IsOpenAt (replay w es) k to
    → bytes_of (replay w es) to ≡ bytes_of w from
world_bytes p w es k from to legal sound lasts left = bytes_along p [] w es k legal (record { sound = sound; lasts = lasts }) left from to

pub world_pread : (p : Pending) (w : World) (es : List Entry) (c d count at : ℕ) (to : Seen) (bytes : List ℕ) → IsLegal p w es → IsSound w → IsLasting w → StaysUnwritten w es (c, d) → IsOpenAt (replay w es) (c, d) to
    → apply w c (call.Pread d count at) ≡ Finished w (reply.Bytes bytes) → apply (replay w es) c (call.Pread d count at) ≡ Finished (replay w es) (reply.Bytes bytes)
world_pread p w es c d count at to bytes legal sound lasts left = pread_along p [] w es c d count at to bytes legal (record { sound = sound; lasts = lasts }) left

module _ (limits : Limits) (p : Pending) (es fs : List Entry) where
  abbrev first : World
  first = start_world limits

  abbrev mid : World
  mid = replay first es

  abbrev last : World
  last = replay first (es ++ fs)

  module _ (legal : IsLegal p first (es ++ fs)) where
    mid_whole : IsWhole mid
    mid_whole = whole-history (pending_before p fs) [] first es (legal-before p first es fs legal) (record { sound = sound-start limits; lasts = lasting-start limits })

    rest : IsLegalFrom p (doomers_in [] es) mid fs
    rest = legal-after p first es fs legal

    joined : last ≡ replay mid fs
    joined = replay-joined first es fs

  pub start_node : (k : ℕ × ℕ) (from to : Seen) → IsLegal p first (es ++ fs) → StaysUnwritten mid fs k → IsOpenAt mid k from → IsOpenAt last k to → is_dir (facts_of mid) from ≡ false → node_of last to ≡ node_of mid from
  start_node k from to legal left a b file =
      ap (λ v. node_of v to) (joined legal) ∙ node_along p (doomers_in [] es) mid fs k (rest legal) (mid_whole legal) left from to a (subst (λ v. IsOpenAt v k to) (joined legal) b) file

  pub start_bytes : (k : ℕ × ℕ) (from to : Seen) → IsLegal p first (es ++ fs) → StaysUnwritten mid fs k → IsOpenAt mid k from → IsOpenAt last k to → bytes_of last to ≡ bytes_of mid from
  start_bytes k from to legal left a b =
      ap (λ v. bytes_of v to) (joined legal) ∙ bytes_along p (doomers_in [] es) mid fs k (rest legal) (mid_whole legal) left from to a (subst (λ v. IsOpenAt v k to) (joined legal) b)

  pub start_pread : (c d count at : ℕ) (to : Seen) (bytes : List ℕ) → IsLegal p first (es ++ fs) → StaysUnwritten mid fs (c, d) → IsOpenAt last (c, d) to → apply mid c (call.Pread d count at) ≡ Finished mid (reply.Bytes bytes)
      → apply last c (call.Pread d count at) ≡ Finished last (reply.Bytes bytes)
  start_pread c d count at to bytes legal left b done =
      subst (λ v. apply v c (call.Pread d count at) ≡ Finished v (reply.Bytes bytes)) (sym (joined legal))
      (pread_along p (doomers_in [] es) mid fs c d count at to bytes (rest legal) (mid_whole legal) left (subst (λ v. IsOpenAt v (c, d) to) (joined legal) b) done)
