-- A directory that is made shows no name.
use Rattle.std.proofs.Common.{◌≡◌, ℕ, ◌<◌, Bool, true, false, ◌==◌, List, [], ◌∷◌, refl, ap, sym, ◌∙◌, subst, arith, eqb-true}
use Rattle.std.specs.Prelude.{Option, Some, None, IsSome, IfSome, is_some, option_map, option_and_then}
use Rattle.std.specs.FinMap.{get}
use Rattle.vfs_tree.specs.Child.{child_mem, child_null, child_below, low_by, upper_entry}
use Rattle.vfs_tree.specs.Edits.{made, with_store, new_dir}
use Rattle.vfs_tree.specs.Facts.{Facts}
use Rattle.vfs_tree.specs.Layers.{base, kind_in, store_by, is_cut, is_dir, is_dir_kind, opaque_by, linked_by}
use Rattle.vfs_tree.specs.Nodes.{entry_in, node_at, is_given, is_white, next_of, AreBelow}
use Rattle.vfs_tree.specs.Place.{Seen, Mem, Null, UnionUp, UnionLow, bare}
use Rattle.vfs_tree.specs.Shown as seen
use Rattle.vfs_tree.specs.Shown.{shown, shown_along, shown_at, shown_child, shown_low, shown_node, shown_union, shown_within}
use Rattle.vfs_tree.specs.Sound.{IsSound, AreFiles, is_null, is_union, names_mounts}
use Rattle.vfs_tree.specs.Views.{kind_of_node, dir_in, facts_of}
use Rattle.vfs_tree.specs.declared.mount.MountKind.{MountKind}
use Rattle.vfs_tree.specs.declared.mount.MountKind.TheVariants as kind
use Rattle.vfs_tree.specs.declared.node.NameEntry.{NameEntry}
use Rattle.vfs_tree.specs.declared.node.NameEntry.TheVariants.{Ino, White}
use Rattle.vfs_tree.specs.declared.node.Node.{Node}
use Rattle.vfs_tree.specs.declared.node.Store.{Store}
use Rattle.vfs_tree.specs.declared.view.DirFacts.{DirFacts}
use Rattle.vfs_tree.specs.declared.walk.Child.{Child}
use Rattle.vfs_tree.specs.declared.walk.Child.TheVariants as child
use Rattle.vfs_tree.specs.declared.walk.Found.{Found}
use Rattle.vfs_tree.specs.declared.walk.Found.TheVariants as found
use Rattle.vfs_tree.specs.declared.walk.Leaf.TheVariants as leaf
use Rattle.vfs_tree.specs.declared.walk.NodeId.{NodeId}
use Rattle.vfs_tree.specs.declared.world.World.{World}
use Rattle.call_model.specs.Apply.{Finished, apply}
use Rattle.call_model.specs.Checks.{edit_at, free_target, has_white, is_full, make_at}
use Rattle.call_model.specs.NameEdits.{NewDir, SetName, edited_by, make_dir_edits, mkdir_edits}
use Rattle.call_model.specs.NameRows as rows
use Rattle.call_model.specs.Rows.{found_at, way}
use Rattle.call_model.specs.declared.call.Call.TheVariants as call
use Rattle.call_model.specs.declared.reply.Reply.TheVariants as reply
use Rattle.call_laws.specs.Lasting.{IsLasting, IsUncut}
use Rattle.call_laws.proofs.DropLaws.{some_kind}
use Rattle.call_laws.proofs.FoundLaws.{IsGood, good_layers}
use Rattle.call_laws.proofs.GivenLaws.{given_target}
use Rattle.call_laws.proofs.MadeLaws.{linked_dir, no_node}
use Rattle.call_laws.proofs.NameLaws.{has_room, linked_in, view_of}
use Rattle.call_laws.proofs.NamedLaws.{no_way}
use Rattle.call_laws.proofs.Parts.{Keeps, found_so, then, unless}
use Rattle.call_laws.proofs.PlaceLaws.{good_view, well_at}
use Rattle.call_laws.proofs.ShownLaws.{shown_absent}
use Rattle.call_laws.proofs.SoundParts.{second_of, not_so}
use Rattle.call_laws.proofs.SoundRows.{LeavesSo, AnyNeed}
use Rattle.call_laws.proofs.WalkLaws.{IsTarget}
use Rattle.call_laws.proofs.Whole.{IsWhole}
use Rattle.model_laws.proofs.Leaving.{done-so}
use Rattle.fuel_laws.specs.Layered.{IsFalling, IsLayered}
use Rattle.fuel_laws.proofs.FallLaws.{over_falling}
use Rattle.fuel_laws.proofs.LookLaws.{shown_null_whole}
use Rattle.fuel_laws.proofs.UpLaws.{part_opaque}
use Rattle.edit_laws.proofs.Answering.{found_free}
use Rattle.edit_laws.proofs.MadeTells.{mkdir_tells}
use Rattle.layer_laws.specs.Apart.{IsApart}
use Rattle.layer_laws.proofs.AvoidLaws.{none_along}
use Rattle.layer_laws.proofs.TwinLaws.{dir_shown}
use Rattle.layer_laws.proofs.UpperLaws.{IsMade, world_made}
use Rattle.shown_laws.proofs.CoveredViews.{whole}
use Rattle.shown_laws.proofs.HiddenNames.{target_in}
use Rattle.shown_laws.proofs.MadeBelow.{nothing_below}
use Rattle.shown_laws.proofs.MadeViews.{with_dir_made, made_view, made_dir_facts, made_name, made_kind, made_entry, made_empty}
use Rattle.shown_laws.proofs.Undeleted.{left_by, sound_left, lasting_left, layered_left, shown_bare}

-- ---- what mkdir leaves

record MadeIn (w : World) (d : Seen) (n : List ℕ) (o : Option Seen) (v : World) : Type 0 where
  pub none : o ≡ None
  pub room : is_full w (base (facts_of w) d).store ≡ false
  pub is : v ≡ edit_at w d (λ t dir. made t dir n (new_dir (base (facts_of w) d).ino (has_white w d n)))

abbrev MadeAt : World → Found → World → Type 0
MadeAt w (found.In d n o) v = MadeIn w d n o v
MadeAt w _ v = Unit {0}

made_so : (w : World) (d : Seen) (n : List ℕ) (node : Node) → Keeps (λ v. (is_full w (base (facts_of w) d).store ≡ false) × (v ≡ edit_at w d (λ t dir. made t dir n node))) AnyNeed (make_at w d n node)
made_so w d n node = unless (is_full w (base (facts_of w) d).store) _ (λ room. found_so (room, refl))

mkdir_makes : (w : World) (a : Found) → Keeps (LeavesSo (MadeAt w a)) AnyNeed (rows.mkdir w a)
mkdir_makes w a =
    then (free_target w a) (found_free w a) (λ t is.
    then (rows.made_dir w t) (made_so w t.dir t.name (new_dir (base (facts_of w) t.dir).ino (has_white w t.dir t.name))) (λ v m.
    found_so (subst (λ a. MadeAt w a v) (sym is) (record { none = refl; room = m.0; is = m.1 }))))

-- ---- parts

neither : (e : Option NameEntry) → is_given e ≡ false → is_white e ≡ false → e ≡ None
neither (Some (Ino j)) given white = no_way (sym given)
neither (Some White) given white = no_way (sym white)
neither None given white = refl

under_null : (m : ℕ) (c : Child) → child_null m c ≡ child.Absent → c ≡ child.Absent
under_null m (child.At p) e = absurd (let clash : child.At (Null m p) ≡ child.Absent = e in cc)
under_null m child.Absent e = refl
under_null m (child.Need x) e = absurd (let clash : child.Need x ≡ child.Absent = e in cc)

module _ (w new : World) (c : ℕ) (text : List ℕ) (d : Seen) (n : List ℕ) (o : Option Seen) (sound : IsSound w) (lasts : IsLasting w) (layered : IsLayered w) (apart : IsApart w)
    (at : found_at w c (way leaf.Parent text) ≡ found.In d n o) (is : apply w c (call.Mkdir text) ≡ Finished new reply.Done) where
  abbrev f : Facts
  f = facts_of w

  abbrev g : Facts
  g = facts_of new

  abbrev s : ℕ
  s = (base f d).store

  abbrev u : ℕ
  u = (base f d).ino

  abbrev white : Bool
  white = has_white w d n

  h : IsWhole w
  h = whole w sound lasts

  makes : MadeIn w d n o new
  makes = subst (λ a. MadeAt w a new) at (done-so (MadeAt w (found_at w c (way leaf.Parent text))) w new c (call.Mkdir text) (mkdir_makes w (found_at w c (way leaf.Parent text))) is)

  x : IsTarget f d n None
  x = subst (IsTarget f d n) makes.none (target_in w (found_at w c (way leaf.Parent text)) d n o (well_at w sound lasts c (way leaf.Parent text)) at)

  free : is_given (f.entry s u n) ≡ false
  free = given_target f (view_of w h) d n None x

  told : g ≡ edited_by f (make_dir_edits w d n)
  told =
      ap facts_of (sym (left_by w new c (call.Mkdir text) reply.Done refl is))
      ∙ mkdir_tells w new c text sound lasts is ∙ ap (λ a. edited_by f (mkdir_edits w a)) at

  -- ---- in the store

  abbrev Empty : Seen → Type 0
  Empty p = (shown new p (n ∷ []) ≡ Some seen.Dir) × ((k : List ℕ) (ns : List (List ℕ)) → shown new p (n ∷ k ∷ ns) ≡ None)

  empty_by : (p q : Seen) → shown_child g p n ≡ child.At q → shown_at new (child.At q) ≡ Some seen.Dir → ((k : List ℕ) → shown_child g q k ≡ child.Absent) → Empty p
  empty_by p q there dir none = (
    ap (shown_at new) there ∙ dir,
    λ k ns.
        ap (λ (c : Child). shown_at new (shown_along g (child_below (shown_child g) c k) ns)) there
        ∙ ap (λ (c : Child). shown_at new (shown_along g c ns)) (none k) ∙ ap (shown_at new) (none_along g ns),
  )

  module _ (t : Store) (stored : get w.stores s ≡ Some t) where
    abbrev i : ℕ
    i = t.next

    shows : g ≡ with_dir_made f s u i n white
    shows =
        told
        ∙ ap (λ (o : Option Store). edited_by f (NewDir s (next_of o) u white ∷ SetName s u n (Ino (next_of o)) ∷ [])) stored
        ∙ made_view f s u i n white free

    linked : linked_by (dir_in t u) ≡ true
    linked = linked_in w d n None t x stored

    below : AreBelow t.nodes t.next
    below = subst (λ o. IfSome o (λ t. AreBelow t.nodes t.next)) stored (lasts.numbered s)

    other : u ≡ i → ⊥
    other e =
        let less : u < t.next = below u (some_kind (get t.nodes u) (ap is_some (linked_dir t u (get t.nodes u) linked))) in
        let same : u ≡ t.next = e in
        omega (arith, less, same)

    unused : get t.nodes i ≡ None
    unused = no_node (get t.nodes i) i (below i)

    abbrev node_by : Option Store → Option Node
    node_by o = option_and_then (λ (t : Store). get t.nodes i) o

    entry_before : (k : List ℕ) → f.entry s i k ≡ None
    entry_before k = ap (λ (o : Option Store). entry_in k (node_by o)) stored ∙ ap (entry_in k) unused

    kind_before : f.kind s i ≡ None
    kind_before = ap (λ (o : Option Store). option_map kind_of_node (node_by o)) stored ∙ ap (option_map kind_of_node) unused

    dir_then : g.dir s i ≡ Some (record { parent = u; opaque = white; linked = true })
    dir_then = ap (λ (f : Facts). f.dir s i) shows ∙ made_dir_facts f s u i n white

    name_then : g.name_of s i ≡ Some n
    name_then = ap (λ (f : Facts). f.name_of s i) shows ∙ made_name f s u i n white

    entry_then : g.entry s u n ≡ Some (Ino i)
    entry_then = ap (λ (f : Facts). f.entry s u n) shows ∙ made_entry f s u i n white

    none_then : (k : List ℕ) → g.entry s i k ≡ None
    none_then k = ap (λ (f : Facts). f.entry s i k) shows ∙ made_empty f s u i n white other entry_before k

    node_then : option_map shown_node (node_at new s i) ≡ Some seen.Dir
    node_then = dir_shown (node_at new s i) (ap is_dir_kind (ap (λ (f : Facts). f.kind s i) shows ∙ made_kind f s u i n white))

    -- in a memory mount
    in_mem : Empty (Mem s u)
    in_mem = empty_by (Mem s u) (Mem s i) (ap (child_mem s) entry_then) node_then (λ k. ap (child_mem s) (none_then k))

    -- ---- in a union

    module _ (m top : ℕ) (lower : Seen) (union : kind_in f m ≡ Some (kind.Union s top lower)) (uncut : is_cut f m ≡ false) (nothing : shown_child f (UnionUp m u) n ≡ child.Absent) where
      union_then : kind_in g m ≡ Some (kind.Union s top lower)
      union_then = ap (λ (f : Facts). kind_in f m) shows ∙ union

      abbrev look : Seen → List ℕ → Child
      look = shown_within m g

      by_entry : (r : ℕ) (k : List ℕ) (e : Option NameEntry) → g.entry s r k ≡ e → shown_child g (UnionUp m r) k ≡ shown_union g m r k e (child_below look (low_by g look r (kind_in g m)))
      by_entry r k e at =
          ap (λ (o : Option MountKind). shown_union g m r k (upper_entry g o r k) (child_below look (low_by g look r (kind_in g m)))) union_then
          ∙ ap (λ (e : Option NameEntry). shown_union g m r k e (child_below look (low_by g look r (kind_in g m)))) at

      top_there : IsSome (f.kind s top)
      top_there = let x : IsGood f (Mem s top) = (good_layers f (good_view w sound lasts) m (kind.Union s top lower) union uncut).0 in x.sound.base

      other_top : (i == top) ≡ false
      other_top = not_so (i == top) (λ e. no_way (sym (ap is_some (ap (f.kind s) (sym (eqb-true i top e)) ∙ kind_before)) ∙ top_there))

      -- over a whiteout
      none_opaque : white ≡ true → (k : List ℕ) → shown_child g (UnionUp m i) k ≡ child.Absent
      none_opaque over k =
          by_entry i k None (none_then k)
          ∙ ap (λ (c : Child). shown_low g m i k (child_below look c k)) (part_opaque g look m i s top lower union_then other_top (ap opaque_by dir_then ∙ over))

      -- where the upper layer has nothing
      none_free : white ≡ false → (k : List ℕ) → shown_child g (UnionUp m i) k ≡ child.Absent
      none_free bare k =
          let node : Node = new_dir u false in
          let v : World = world_made w s u n t node in
          let same : new ≡ v =
          makes.is ∙ ap (λ (o : Option Store). with_store (λ t. made t u n (new_dir u white)) w s o) stored
          ∙ ap (λ (b : Bool). world_made w s u n t (new_dir u b)) bare in
          let after : IsWhole new = whole new (sound_left w new c (call.Mkdir text) reply.Done refl is sound lasts) (lasting_left w new c (call.Mkdir text) reply.Done refl is sound lasts) in
          let is_made : IsMade w m s top lower u n t node = record {
            union = union;
            uncut = uncut;
            apart = apart m s top lower union;
            store = stored;
            linked = linked;
            free = sym (ap (λ (o : Option Store). entry_in n (option_and_then (λ (t : Store). get t.nodes u) o)) stored) ∙ neither (f.entry s u n) free bare;
            fresh = (refl, refl);
          } in
          let facts_new = let at : Bool → Option DirFacts = λ b. Some (record { parent = u; opaque = b; linked = true }) in dir_then ∙ ap at bare in
          subst (λ v. shown_child (facts_of v) (UnionUp m i) k ≡ child.Absent) (sym same)
          (nothing_below w h m s top lower u n t is_made (subst IsWhole same after)
          (subst (λ o. IfSome o (λ t. t.next < 4294967295)) stored (has_room w s h makes.room)) nothing
          (subst (λ v. (facts_of v).dir s i ≡ Some (record { parent = u; opaque = false; linked = true })) same facts_new)
          (subst (λ v. (facts_of v).name_of s i ≡ Some n) same name_then)
          (λ k. subst (λ v. (facts_of v).entry s i k ≡ None) same (none_then k)) k)

      none_below : (b : Bool) → white ≡ b → (k : List ℕ) → shown_child g (UnionUp m i) k ≡ child.Absent
      none_below true e = none_opaque e
      none_below false e = none_free e

      in_union : Empty (UnionUp m u)
      in_union =
          empty_by (UnionUp m u) (UnionUp m i) (by_entry u n (Some (Ino i)) entry_then)
          (ap (λ (o : Option MountKind). option_map shown_node (node_at new (store_by o) i)) union_then ∙ node_then)
          (none_below white refl)

    union_case : (m j : ℕ) (k : Option MountKind) → kind_in f m ≡ k → is_union k ≡ true → base f d ≡ record { store = store_by k; ino = j } → is_cut f m ≡ false → shown_child f (UnionUp m j) n ≡ child.Absent → Empty (UnionUp m j)
    union_case m j (Some (kind.Union r top lower)) has y rests uncut nothing =
        let ino : u ≡ j = ap (λ (b : NodeId). b.ino) rests in
        subst (λ j. Empty (UnionUp m j)) ino
        (in_union m top lower (has ∙ ap (λ r. Some (kind.Union r top lower)) (sym (ap (λ (b : NodeId). b.store) rests))) uncut (subst (λ j. shown_child f (UnionUp m j) n ≡ child.Absent) (sym ino) nothing))
    union_case m j (Some kind.Mem) has y rests uncut nothing = no_way y
    union_case m j (Some (kind.Null layer)) has y rests uncut nothing = no_way y
    union_case m j None has y rests uncut nothing = no_way y

    -- the directory in which it is made, under its null mounts
    at_bare : (e : Seen) → base f d ≡ base f e → names_mounts f e ≡ true → IsUncut f e → AreFiles f e → is_dir f e ≡ true → IsFalling e → shown_child f e n ≡ child.Absent → Empty (bare e)
    at_bare (Mem m j) rests names uncut files dir falls nothing = subst Empty (ap (λ (b : NodeId). Mem b.store b.ino) rests) in_mem
    at_bare (Null m p) rests names uncut files dir falls nothing =
        at_bare p rests (second_of (is_null (kind_in f m)) (names_mounts f p) names) uncut.1 files dir falls.1
        (under_null m (shown_child f p n) (sym (shown_null_whole w sound layered m p n falls) ∙ nothing))
    at_bare (UnionUp m j) rests names uncut files dir falls nothing = union_case m j (kind_in f m) refl names rests uncut nothing
    at_bare (UnionLow m a k p) rests names uncut files dir falls nothing = no_way (sym files.0 ∙ dir)

  by_store : (o : Option Store) → get w.stores s ≡ o → Empty (bare d)
  by_store (Some t) stored =
      at_bare t stored d refl x.good.sound.mounts x.good.uncut x.good.sound.files x.dir (over_falling w sound d x.good.over) (shown_absent f d n x.child)
  by_store None stored = no_way (sym (ap (λ (s : Option Store). linked_by (option_and_then (λ (t : Store). dir_in t u) s)) stored) ∙ x.linked)

  as_bare : (ns : List (List ℕ)) → shown new d ns ≡ shown new (bare d) ns
  as_bare ns =
      shown_bare new (sound_left w new c (call.Mkdir text) reply.Done refl is sound lasts) (layered_left w new c (call.Mkdir text) reply.Done refl is sound lasts layered) d ns
      (over_falling w sound d x.good.over)

  pub made_there : shown new d (n ∷ []) ≡ Some seen.Dir
  made_there = as_bare (n ∷ []) ∙ (by_store (get w.stores s) refl).0

  pub made_nothing : (k : List ℕ) (ns : List (List ℕ)) → shown new d (n ∷ k ∷ ns) ≡ None
  made_nothing k ns = as_bare (n ∷ k ∷ ns) ∙ (by_store (get w.stores s) refl).1 k ns
