-- A copy of a file of the lower layer, and the open files that turn to it.
use Rattle.std.proofs.Common.{◌≡◌, ℕ, Bool, true, false, cond, not, ◌&&◌, ◌||◌, ◌==◌, List, refl, ap, sym, ◌∙◌, subst, eqb-true}
use Rattle.std.specs.Prelude.{Option, Some, None, IsSome, IfSome, option_map, option_and_then, nat_lt}
use Rattle.std.specs.Str.{bytes_eq}
use Rattle.std.specs.Cmp.{nat_cmp_total}
use Rattle.std.specs.FinMap.{get, insert}
use Rattle.finite_maps.proofs.EntryLaws.{pair_total, get_at-insert}
use Rattle.vfs_tree.specs.Child.{child_below, child_union, child_within, child_of, low_by, upper_entry}
use Rattle.vfs_tree.specs.Edits.{made, with_store}
use Rattle.vfs_tree.specs.Facts.{Facts}
use Rattle.vfs_tree.specs.Layers.{kind_in, store_by, base, is_cut, is_dir, is_dir_kind, is_linked, linked_by, same_place}
use Rattle.vfs_tree.specs.Nodes.{next_of, entry_in, node_at, AreBelow}
use Rattle.vfs_tree.specs.Place.{Seen, Mem, Null, UnionUp, UnionLow, bare}
use Rattle.vfs_tree.specs.Sound.{IsSound}
use Rattle.vfs_tree.specs.Steps.{◌>>=◌, ◌>>◌, refuse_if}
use Rattle.vfs_tree.specs.Views.{kind_of_node, dir_in, facts_of}
use Rattle.vfs_tree.specs.declared.errno.Errno.TheVariants as errno
use Rattle.vfs_tree.specs.declared.mount.MountKind.{MountKind}
use Rattle.vfs_tree.specs.declared.mount.MountKind.TheVariants as kind
use Rattle.vfs_tree.specs.declared.node.NameEntry.{NameEntry}
use Rattle.vfs_tree.specs.declared.node.NameEntry.TheVariants.{Ino}
use Rattle.vfs_tree.specs.declared.node.Node.{Node}
use Rattle.vfs_tree.specs.declared.node.Node.TheVariants.{Dir, File, Link}
use Rattle.vfs_tree.specs.declared.node.Store.{Store}
use Rattle.vfs_tree.specs.declared.open.Open.{Open}
use Rattle.vfs_tree.specs.declared.walk.Child.TheVariants as child
use Rattle.vfs_tree.specs.declared.walk.NodeId.{NodeId}
use Rattle.vfs_tree.specs.declared.walk.Step.TheVariants.{Go}
use Rattle.vfs_tree.specs.declared.world.World.{World}
use Rattle.call_model.specs.Apply.{Applied, settle, apply}
use Rattle.call_model.specs.Checks.{Outcome, node_of}
use Rattle.call_model.specs.DataRows.{contents, bytes_of, piece, most_moved, opened}
use Rattle.call_model.specs.Effects.{turned, turned_open, turned_opens, copy_of, copied_child, effect}
use Rattle.call_model.specs.declared.call.Call.TheVariants as call
use Rattle.call_model.specs.declared.entry.Inner.TheVariants.{CopyUp}
use Rattle.call_model.specs.declared.reply.Reply.TheVariants as reply
use Rattle.call_laws.specs.Lasting.{IsLasting}
use Rattle.call_laws.proofs.FlagLaws.{get_each}
use Rattle.call_laws.proofs.MadeLaws.{node_new, entry_new}
use Rattle.call_laws.proofs.NamedLaws.{no_way}
use Rattle.call_laws.proofs.SoundMade.{IsDirAt, dir_at}
use Rattle.call_laws.proofs.SoundParts.{first_of, second_of, or_none}
use Rattle.call_laws.proofs.Whole.{IsWhole}
use Rattle.model_laws.proofs.FileLaws.{same_bytes}
use Rattle.layer_laws.proofs.CopiedLaws as copied
use Rattle.layer_laws.proofs.CopiedLaws.{HasStore}
use Rattle.need_laws.specs.Turning.{is_seen_over, TurnsTo, AreOpenAlike}
use Rattle.need_laws.proofs.WriteLaws.{bare_base}

-- ---- places that turn

-- the same place rests on the same node
one_base : (f : Facts) (p q : Seen) → same_place p q ≡ true → base f p ≡ base f q
one_base f (Mem m i) (Mem n j) e =
    let at : ℕ → ℕ → NodeId = λ s i. record { store = s; ino = i } in
    ap (λ s. at s i) (eqb-true m n (first_of (m == n) (i == j) e)) ∙ ap (at n) (eqb-true i j (second_of (m == n) (i == j) e))
one_base f (Null m p) (Null n q) e = one_base f p q (second_of (m == n) (same_place p q) e)
one_base f (UnionUp m i) (UnionUp n j) e =
    ap (λ m. base f (UnionUp m i)) (eqb-true m n (first_of (m == n) (i == j) e)) ∙ ap (λ i. base f (UnionUp n i)) (eqb-true i j (second_of (m == n) (i == j) e))
one_base f (UnionLow m u a p) (UnionLow n v b q) e =
    one_base f p q (second_of (bytes_eq a b) (same_place p q) (second_of (u == v) (bytes_eq a b && same_place p q) (second_of (m == n) ((u == v) && (bytes_eq a b && same_place p q)) e)))
one_base f _ _ e = no_way e

module _ (m u : ℕ) (n : List ℕ) (q : Seen) (i : ℕ) where
  abbrev from : Seen
  from = UnionLow m u n q

  abbrev to : Seen
  to = UnionUp m i

  -- what is seen over the file is seen over the copy then
  turned_base : (f : Facts) (p : Seen) → is_seen_over from p ≡ true → base f (turned from to p) ≡ base f to
  turned_base f (Mem l j) e = no_way e
  turned_base f (Null l p) e = turned_base f p e
  turned_base f (UnionUp l j) e = no_way e
  turned_base f (UnionLow l v a p) e = by (turned_base f p) (same_place from (UnionLow l v a p)) e
    where
      by : (is_seen_over from p ≡ true → base f (turned from to p) ≡ base f to) → (b : Bool) → (b || is_seen_over from p) ≡ true → base f (cond b to (UnionLow l v a (turned from to p))) ≡ base f to
      by more true e = refl
      by more false e = more e

  -- it was seen over the node that is copied
  seen_base : (f : Facts) (p : Seen) → is_seen_over from p ≡ true → base f p ≡ base f q
  seen_base f (Mem l j) e = no_way e
  seen_base f (Null l p) e = seen_base f p e
  seen_base f (UnionUp l j) e = no_way e
  seen_base f (UnionLow l v a p) e = by (seen_base f p) (same_place from (UnionLow l v a p)) refl e
    where
      by : (is_seen_over from p ≡ true → base f p ≡ base f q) → (b : Bool) → same_place from (UnionLow l v a p) ≡ b → (b || is_seen_over from p) ≡ true → base f p ≡ base f q
      by more true is e = sym (one_base f from (UnionLow l v a p) is)
      by more false is e = more e

  -- what isn't seen over it stays
  unturned : (p : Seen) → is_seen_over from p ≡ false → turned from to p ≡ p
  unturned (Mem l j) e = refl
  unturned (Null l p) e = ap (Null l) (unturned p e)
  unturned (UnionUp l j) e = refl
  unturned (UnionLow l v a p) e =
      let x = or_none (same_place from (UnionLow l v a p)) (is_seen_over from p) e in
      ap (λ b. cond b to (UnionLow l v a (turned from to p))) x.0 ∙ ap (UnionLow l v a) (unturned p x.1)

-- ---- reads

abbrev place_or : Option Open → Open → Seen
place_or (Some x) o = x.place
place_or None o = o.place

-- what a read answers that passes these checks
abbrev checked : Bool → Bool → Bool → ℕ → Outcome → Outcome
checked dead reads dir n found = (refuse_if dead errno.EIO >> (refuse_if (not reads) errno.EBADF >> (refuse_if dir errno.EISDIR >> refuse_if (nat_lt most_moved n) errno.EINVAL))) >> found

-- descriptors that are open alike at one node read the same
module _ (v : World) (a d b e n at : ℕ) (p q : Seen) (alike : AreOpenAlike v (a, d) (b, e) p q) (is : base (facts_of v) p ≡ base (facts_of v) q) where
  abbrev x : Open
  x = alike.one

  abbrev y : Open
  y = alike.other

  same : base (facts_of v) x.place ≡ base (facts_of v) y.place
  same = ap (base (facts_of v)) alike.place ∙ is ∙ sym (ap (base (facts_of v)) alike.other_place)

  abbrev answer : Option Open → Applied
  answer o = settle v (opened o >>= (λ (z : Open). checked z.dead z.mode.read (is_dir (facts_of v) z.place) n (Go (v, reply.Bytes (piece (bytes_of v z.place) at n)))))

  abbrev answer_by : Bool → Bool → NodeId → Applied
  answer_by dead reads b = settle v (checked dead reads (is_dir_kind ((facts_of v).kind b.store b.ino)) n (Go (v, reply.Bytes (piece (contents (node_at v b.store b.ino)) at n))))

  same_pread : apply v a (call.Pread d n at) ≡ apply v b (call.Pread e n at)
  same_pread =
      ap answer alike.at
      ∙ ap (λ dead. answer_by dead x.mode.read (base (facts_of v) x.place)) alike.dead
      ∙ ap (λ reads. answer_by y.dead reads (base (facts_of v) x.place)) alike.reads
      ∙ ap (answer_by y.dead y.mode.read) same
      ∙ sym (ap answer alike.other_at)

-- ---- the copy

copy_same : (o : Option Node) → is_dir_kind (option_map kind_of_node o) ≡ false → IsSome (option_map kind_of_node o) → Some (copy_of o) ≡ o
copy_same (Some (File bytes)) plain known = refl
copy_same (Some (Link target)) plain known = refl
copy_same (Some (Dir parent opaque names)) plain known = no_way (sym plain)
copy_same None plain known = no_way known

module _ (w : World) (h : IsWhole w) (m s top : ℕ) (lower : Seen) (is : kind_in (facts_of w) m ≡ Some (kind.Union s top lower)) (cut : is_cut (facts_of w) m ≡ false)
    (u : ℕ) (n : List ℕ) (q : Seen) (there : child_of (facts_of w) (UnionUp m u) n ≡ child.At (UnionLow m u n q)) where
  abbrev f : Facts
  f = facts_of w

  store_is : store_by (kind_in f m) ≡ s
  store_is = copied.store_is w h m s top lower is cut u n q there

  linked_in : is_linked f s u ≡ true
  linked_in = copied.linked_in w h m s top lower is cut u n q there

  stored : HasStore (get w.stores s)
  stored = copied.stored w h m s top lower is cut u n q there

  abbrev t : Store
  t = stored.store

  -- ---- the world with the copy

  abbrev node : Node
  node = copy_of (node_of w q)

  abbrev i : ℕ
  i = next_of (get w.stores s)

  abbrev new : World
  new = record w { stores = insert w.stores s (made t u n node) }

  abbrev turns : World
  turns = turned_opens (UnionLow m u n q) (UnionUp m i) new

  effect_is : (c : ℕ) → effect w c (CopyUp m u n) ≡ turns
  effect_is c =
      ap (copied_child w m u n) (copied.copied_is w h m s top lower is cut u n q there)
      ∙ ap (λ (r : ℕ). turned_opens (UnionLow m u n q) (UnionUp m (next_of (get w.stores r))) (with_store (λ t. made t u n node) w r (get w.stores r))) store_is
      ∙ ap (λ (o : Option Store). turned_opens (UnionLow m u n q) (UnionUp m i) (with_store (λ t. made t u n node) w s o)) stored.at

  number_is : i ≡ t.next
  number_is = ap next_of stored.at

  numbered : AreBelow t.nodes t.next
  numbered = subst (λ o. IfSome o (λ t. AreBelow t.nodes t.next)) stored.at (h.lasts.numbered s)

  parts : IsDirAt (get t.nodes u)
  parts = dir_at t u (get t.nodes u) (sym (ap (λ (o : Option Store). linked_by (option_and_then (λ (t : Store). dir_in t u) o)) stored.at) ∙ linked_in)

  no_name : get parts.names n ≡ None
  no_name = sym (ap (entry_in n) parts.at) ∙ sym (ap (λ (o : Option Store). entry_in n (option_and_then (λ (t : Store). get t.nodes u) o)) stored.at) ∙ copied.free_in w h m s top lower is cut u n q there

  store_new : get new.stores s ≡ Some (made t u n node)
  store_new = get_at-insert nat_cmp_total w.stores s (made t u n node)

  entry_made : (facts_of new).entry s u n ≡ Some (Ino i)
  entry_made =
      ap (λ (o : Option Store). entry_in n (option_and_then (λ (t : Store). get t.nodes u) o)) store_new
      ∙ entry_new t u n node parts.parent parts.opaque parts.names numbered parts.at
      ∙ sym (ap (λ j. Some (Ino j)) number_is)

  node_made : node_at new s i ≡ Some node
  node_made =
      ap (λ (o : Option Store). option_and_then (λ (t : Store). get t.nodes i) o) store_new
      ∙ ap (get (made t u n node).nodes) number_is
      ∙ node_new t u n node parts.parent parts.opaque parts.names numbered parts.at

  name_in : child_of (facts_of turns) (UnionUp m u) n ≡ child.At (UnionUp m i)
  name_in =
      let g = facts_of new in
      ap (λ (e : Option NameEntry). child_union g m u n e (child_below (child_within m g) (low_by g (child_within m g) u (kind_in g m)))) (ap (λ (o : Option MountKind). upper_entry g o u n) is ∙ entry_made)

  copy_in : node_of turns (UnionUp m i) ≡ node_of w q
  copy_in = ap (λ (o : Option MountKind). node_at new (store_by o) i) is ∙ node_made ∙ copy_same (node_of w q) (copied.plain w h m s top lower is cut u n q there) (copied.known w h m s top lower is cut u n q there)

  open_in : (k : ℕ × ℕ) (o : Open) → get w.opens k ≡ Some o → get turns.opens k ≡ Some (record o { place = turned (UnionLow m u n q) (UnionUp m i) o.place })
  open_in k o at = get_each pair_total (turned_open (UnionLow m u n q) (UnionUp m i)) w.opens k ∙ ap (option_map (turned_open (UnionLow m u n q) (UnionUp m i))) at

  older_in : (k : ℕ × ℕ) (o : Open) → get w.opens k ≡ Some o → is_seen_over (UnionLow m u n q) o.place ≡ true → TurnsTo w turns k o (UnionUp m i)
  older_in k o at over = record {
    place = turned (UnionLow m u n q) (UnionUp m i) o.place;
    at = open_in k o at;
    base = λ f. turned_base m u n q i f o.place over;
    same = ap (λ (b : NodeId). node_at turns b.store b.ino) (turned_base m u n q i (facts_of turns) o.place over) ∙ copy_in ∙ sym (ap (λ (b : NodeId). node_at w b.store b.ino) (seen_base m u n q i f o.place over));
  }

  others_in : (k : ℕ × ℕ) (o : Open) → get w.opens k ≡ Some o → is_seen_over (UnionLow m u n q) o.place ≡ false → get turns.opens k ≡ Some o
  others_in k o at over = open_in k o at ∙ ap (λ (p : Seen). Some (record o { place = p })) (unturned m u n q i o.place over)

pub copy_name : (w : World) (c m s top u : ℕ) (lower q : Seen) (n : List ℕ) → IsSound w → IsLasting w → kind_in (facts_of w) m ≡ Some (kind.Union s top lower) → is_cut (facts_of w) m ≡ false
    → child_of (facts_of w) (UnionUp m u) n ≡ child.At (UnionLow m u n q) → child_of (facts_of (effect w c (CopyUp m u n))) (UnionUp m u) n ≡ child.At (UnionUp m (next_of (get w.stores s)))
copy_name w c m s top u lower q n sound lasts is cut there =
    let h : IsWhole w = record { sound = sound; lasts = lasts } in
    subst (λ (v : World). child_of (facts_of v) (UnionUp m u) n ≡ child.At (UnionUp m (next_of (get w.stores s)))) (sym (effect_is w h m s top lower is cut u n q there c)) (name_in w h m s top lower is cut u n q there)

pub copy_node : (w : World) (c m s top u : ℕ) (lower q : Seen) (n : List ℕ) → IsSound w → IsLasting w → kind_in (facts_of w) m ≡ Some (kind.Union s top lower) → is_cut (facts_of w) m ≡ false
    → child_of (facts_of w) (UnionUp m u) n ≡ child.At (UnionLow m u n q) → node_of (effect w c (CopyUp m u n)) (UnionUp m (next_of (get w.stores s))) ≡ node_of w q
copy_node w c m s top u lower q n sound lasts is cut there =
    let h : IsWhole w = record { sound = sound; lasts = lasts } in
    ap (λ (v : World). node_of v (UnionUp m (next_of (get w.stores s)))) (effect_is w h m s top lower is cut u n q there c) ∙ copy_in w h m s top lower is cut u n q there

pub copy_older : (w : World) (c m s top u : ℕ) (lower q : Seen) (n : List ℕ) (k : ℕ × ℕ) (o : Open) → IsSound w → IsLasting w → kind_in (facts_of w) m ≡ Some (kind.Union s top lower) → is_cut (facts_of w) m ≡ false
    → child_of (facts_of w) (UnionUp m u) n ≡ child.At (UnionLow m u n q) → get w.opens k ≡ Some o → is_seen_over (UnionLow m u n q) o.place ≡ true
    → TurnsTo w (effect w c (CopyUp m u n)) k o (UnionUp m (next_of (get w.stores s)))
copy_older w c m s top u lower q n k o sound lasts is cut there at over =
    let h : IsWhole w = record { sound = sound; lasts = lasts } in
    subst (λ (v : World). TurnsTo w v k o (UnionUp m (next_of (get w.stores s)))) (sym (effect_is w h m s top lower is cut u n q there c)) (older_in w h m s top lower is cut u n q there k o at over)

-- what rests on the copy's node has its bytes
module _ (w v : World) (c m s top u : ℕ) (lower p q : Seen) (n : List ℕ) (k : ℕ × ℕ) (o new : Open) where
  copy_base : IsSound w → IsLasting w → kind_in (facts_of w) m ≡ Some (kind.Union s top lower) → is_cut (facts_of w) m ≡ false → child_of (facts_of w) (UnionUp m u) n ≡ child.At (UnionLow m u n q)
      → get w.opens k ≡ Some o → is_seen_over (UnionLow m u n q) o.place ≡ true → get (effect w c (CopyUp m u n)).opens k ≡ Some new → bare p ≡ UnionUp m (next_of (get w.stores s))
      → base (facts_of v) new.place ≡ base (facts_of v) p
  copy_base sound lasts is cut there at over turned up =
      let t = copy_older w c m s top u lower q n k o sound lasts is cut there at over in
      ap (λ (x : Option Open). base (facts_of v) (place_or x new)) (sym turned ∙ t.at) ∙ t.base (facts_of v) ∙ sym (ap (base (facts_of v)) up) ∙ bare_base (facts_of v) p

  pub copy_reads : IsSound w → IsLasting w → kind_in (facts_of w) m ≡ Some (kind.Union s top lower) → is_cut (facts_of w) m ≡ false → child_of (facts_of w) (UnionUp m u) n ≡ child.At (UnionLow m u n q)
      → get w.opens k ≡ Some o → is_seen_over (UnionLow m u n q) o.place ≡ true → get (effect w c (CopyUp m u n)).opens k ≡ Some new → bare p ≡ UnionUp m (next_of (get w.stores s))
      → bytes_of v new.place ≡ bytes_of v p
  copy_reads sound lasts is cut there at over turned up = same_bytes v new.place p (copy_base sound lasts is cut there at over turned up)

  pub copy_pread : (a d b e count at : ℕ) → IsSound w → IsLasting w → kind_in (facts_of w) m ≡ Some (kind.Union s top lower) → is_cut (facts_of w) m ≡ false → child_of (facts_of w) (UnionUp m u) n ≡ child.At (UnionLow m u n q)
      → get w.opens k ≡ Some o → is_seen_over (UnionLow m u n q) o.place ≡ true → get (effect w c (CopyUp m u n)).opens k ≡ Some new → bare p ≡ UnionUp m (next_of (get w.stores s))
      → AreOpenAlike v (a, d) (b, e) new.place p → apply v a (call.Pread d count at) ≡ apply v b (call.Pread e count at)
  copy_pread a d b e count at sound lasts is cut there held over turned up alike =
      same_pread v a d b e count at new.place p alike (copy_base sound lasts is cut there held over turned up)

pub copy_others : (w : World) (c m s top u : ℕ) (lower q : Seen) (n : List ℕ) (k : ℕ × ℕ) (o : Open) → IsSound w → IsLasting w → kind_in (facts_of w) m ≡ Some (kind.Union s top lower) → is_cut (facts_of w) m ≡ false
    → child_of (facts_of w) (UnionUp m u) n ≡ child.At (UnionLow m u n q) → get w.opens k ≡ Some o → is_seen_over (UnionLow m u n q) o.place ≡ false
    → get (effect w c (CopyUp m u n)).opens k ≡ Some o
copy_others w c m s top u lower q n k o sound lasts is cut there at over =
    let h : IsWhole w = record { sound = sound; lasts = lasts } in
    ap (λ (v : World). get v.opens k) (effect_is w h m s top lower is cut u n q there c) ∙ others_in w h m s top lower is cut u n q there k o at over
