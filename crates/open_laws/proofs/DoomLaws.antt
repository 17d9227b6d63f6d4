-- A place is doomed when no live reference stands on it.
use Rattle.std.proofs.Common.{◌≡◌, ℕ, ◌<◌, ◌≤◌, ◌⊎◌, inl, inr, true, false, List, ◌∷◌, ◌++◌, refl, ap, sym, ◌∙◌, subst, arith}
use Rattle.std.specs.Prelude.{Option, Some, None, IfSome, option_map}
use Rattle.std.specs.FinMap.{get}
use Rattle.vfs_tree.specs.Facts.{Facts}
use Rattle.vfs_tree.specs.Layers.{base, depth, is_dir, is_dir_kind, is_file_kind}
use Rattle.vfs_tree.specs.Mounts.{is_of}
use Rattle.vfs_tree.specs.Place.{Seen, mount_of}
use Rattle.vfs_tree.specs.Sound.{IsSoundPlace, IsSound}
use Rattle.vfs_tree.specs.Start.{start_world}
use Rattle.vfs_tree.specs.Views.{facts_of}
use Rattle.vfs_tree.specs.declared.limits.Limits.{Limits}
use Rattle.vfs_tree.specs.declared.node.Kind.{Kind}
use Rattle.vfs_tree.specs.declared.node.Kind.TheVariants as kind
use Rattle.vfs_tree.specs.declared.open.Cwd.{Cwd}
use Rattle.vfs_tree.specs.declared.open.Open.{Open}
use Rattle.vfs_tree.specs.declared.walk.NodeId.{NodeId}
use Rattle.vfs_tree.specs.declared.walk.Step.TheVariants.{Wants}
use Rattle.vfs_tree.specs.declared.world.World.{World}
use Rattle.call_model.specs.Legal.{Pending, IsLegal, next_call, replay}
use Rattle.call_model.specs.Refs.{place_of}
use Rattle.call_model.specs.Rows.{row}
use Rattle.call_model.specs.declared.call.Call.{Call}
use Rattle.call_model.specs.declared.entry.Entry.{Entry}
use Rattle.call_model.specs.declared.entry.Entry.TheVariants as entry
use Rattle.call_model.specs.declared.entry.Inner.{Inner}
use Rattle.call_model.specs.declared.entry.Inner.TheVariants.{Doom}
use Rattle.call_model.specs.declared.entry.Ref.{Ref}
use Rattle.call_model.specs.declared.entry.Ref.TheVariants.{Fd, Cwd as Here}
use Rattle.call_laws.specs.Fitting.{IsLive}
use Rattle.call_laws.specs.Lasting.{IsOver, IsLasting}
use Rattle.call_laws.specs.Prefixes.{pending_before}
use Rattle.call_laws.proofs.NamedLaws.{no_way}
use Rattle.call_laws.proofs.PrefixLaws.{legal-before, legal-after}
use Rattle.call_laws.proofs.Whole.{IsWhole}
use Rattle.call_laws.proofs.WorldLaws.{sound_from_start, lasting_from_start, IsNext, next_is}
use Rattle.open_laws.specs.Deepest.{IsDescriptor, IsDeepest, IsDeepestOn}
use Rattle.open_laws.specs.Stacks.{IsOnTop, StandsOnTop}
use Rattle.open_laws.specs.Standing.{IsStanding, AllStand}
use Rattle.open_laws.proofs.DeepLaws.{first_deepest, first_open_deepest}
use Rattle.open_laws.proofs.DoomRows.{IsChosen, doomed_chosen}
use Rattle.open_laws.proofs.HistoryLaws.{all_from_start}
use Rattle.open_laws.proofs.StackLaws.{Fits, IsUnder, under}

no_file : (k : Option Kind) → is_dir_kind k ≡ true → is_file_kind k ≡ true → ⊥
no_file (Some kind.Dir) dir file = no_way file
no_file (Some kind.File) dir file = no_way dir
no_file (Some kind.Link) dir file = no_way dir
no_file None dir file = no_way dir

abbrev place_or : Seen → Option Seen → Seen
place_or p (Some q) = q
place_or p None = p

one_place : (o : Option Seen) (p q : Seen) → o ≡ Some p → o ≡ Some q → p ≡ q
one_place o p q a b = ap (place_or p) (sym a ∙ b)

module _ (w : World) (h : IsWhole w) (stands : AllStand w) where
  abbrev f : Facts
  f = facts_of w

  -- where a live reference is: an open file, or a current directory, which is a directory
  record IsAt (r : Ref) (q : Seen) : Type 0 where
    pub fits : Fits f q
    pub held : IsStanding w (mount_of q)
    pub kind : IsDescriptor r ⊎ (is_dir f q ≡ true)

  where_live : (r : Ref) (q : Seen) → IsLive w r → place_of w r ≡ Some q → IsAt r q
  where_live (Fd c d) q live here = by (get w.opens (c, d)) live.0 here (h.sound.opens (c, d)) (h.lasts.opens (c, d)) (stands.opens (c, d))
    where
      by : (o : Option Open) → IfSome o (λ o. o.dead ≡ false) → option_map (λ (o : Open). o.place) o ≡ Some q
          → IfSome o (λ o. o.dead ≡ false → IsSoundPlace f o.place) → IfSome o (λ o. o.dead ≡ false → IsOver f o.place) → IfSome o (λ o. o.dead ≡ false → IsStanding w (mount_of o.place)) → IsAt (Fd c d) q
      by (Some o) alive e sound over held = subst (IsAt (Fd c d)) (ap (place_or q) e) (record { fits = (sound alive, over alive); held = held alive; kind = inl tt })
      by None alive e sound over held = absurd (let clash : None ≡ Some q = e in cc)
  where_live (Here c) q live here = by (get w.cwds c) live.0 here (h.sound.cwds c) (h.lasts.cwds c) (stands.cwds c)
    where
      by : (o : Option Cwd) → IfSome o (λ d. d.dead ≡ false) → option_map (λ (d : Cwd). d.place) o ≡ Some q → IfSome o (λ d. d.dead ≡ false → IsSoundPlace f d.place)
          → IfSome o (λ d. d.dead ≡ false → IsOver f d.place × (is_dir f d.place ≡ true)) → IfSome o (λ d. d.dead ≡ false → IsStanding w (mount_of d.place)) → IsAt (Here c) q
      by (Some d) alive e sound over held = subst (IsAt (Here c)) (ap (place_or q) e) (record { fits = (sound alive, (over alive).0); held = held alive; kind = inr (over alive).1 })
      by None alive e sound over held = absurd (let clash : None ≡ Some q = e in cc)

  module _ (at : Ref) (p : Seen) (there : place_of w at ≡ Some p) where
    -- the first in a mount, or in one that stands on it
    top_inside : (m : ℕ) → IsDeepest w m at → IsOnTop w p
    top_inside m x r q live here on =
        let place : IsAt r q = where_live r q live here in
        let u : IsUnder w h q p = under w h q p on place.fits place.held in
        let same : x.place ≡ p = one_place (place_of w at) x.place p x.stands.here there in
        let less : depth f p < depth f q = u.less in
        let most : depth f q ≤ depth f x.place = x.deepest r q (record { live = live; here = here; inside = u.of m (subst (λ s. is_of w.mounts m (mount_of s) ≡ true) same x.stands.inside) }) in
        let level : depth f x.place ≡ depth f p = ap (depth f) same in
        absurd (omega (arith, less, most, level))

    -- the first that rests on a file
    top_open : (node : NodeId) → is_file_kind (f.kind node.store node.ino) ≡ true → IsDeepestOn w node at → IsOnTop w p
    top_open node file x r q live here on = by u.rests place.kind
      where
        place : IsAt r q
        place = where_live r q live here

        u : IsUnder w h q p
        u = under w h q p on place.fits place.held

        same : x.place ≡ p
        same = one_place (place_of w at) x.place p x.stands.here there

        rests : base f p ≡ node
        rests = ap (base f) (sym same) ∙ x.stands.rests

        plain : (s : Seen) → base f s ≡ node → is_dir f s ≡ true → ⊥
        plain s is dir = no_file (f.kind node.store node.ino) (sym (ap (λ (b : NodeId). is_dir_kind (f.kind b.store b.ino)) is) ∙ dir) file

        by : (base f p ≡ base f q) ⊎ (is_dir f p ≡ true) → IsDescriptor r ⊎ (is_dir f q ≡ true) → ⊥
        by (inr dir) k = plain p rests dir
        by (inl base) (inr dir) = plain q (sym base ∙ rests) dir
        by (inl base) (inl file) =
            let less : depth f p < depth f q = u.less in
            let most : depth f q ≤ depth f x.place = x.deepest r q (record { file = file; live = live; here = here; rests = sym base ∙ rests }) in
            let level : depth f x.place ≡ depth f p = ap (depth f) same in
            absurd (omega (arith, less, most, level))

    top : IsChosen w at → IsOnTop w p
    top (inl x) = top_inside x.0 (first_deepest w x.0 at x.1)
    top (inr x) = top_open (base f x.0) x.1 (first_open_deepest w (base f x.0) at x.2)

  tops : (at : Ref) (o : Option Seen) → place_of w at ≡ o → IsChosen w at → IfSome o (IsOnTop w)
  tops at (Some p) there x = top at p there x
  tops at None there x = tt

-- what a call dooms
pub doomed_top : (w : World) (c : ℕ) (call : Call) (at : Ref) → IsSound w → IsLasting w → AllStand w → row w c call ≡ Wants (Doom at) → StandsOnTop w at
doomed_top w c call at sound lasts stands is = tops w (record { sound = sound; lasts = lasts }) stands at (place_of w at) refl (doomed_chosen w c call at is)

-- what a history dooms
pub history_top : (limits : Limits) (p : Pending) (es fs : List Entry) (c : ℕ) (at : Ref) → IsLegal p (start_world limits) (es ++ entry.Inner c (Doom at) ∷ fs) → StandsOnTop (replay (start_world limits) es) at
history_top limits p es fs c at legal =
    let x : Inner = Doom at in
    let w : World = replay (start_world limits) es in
    let q : Pending = pending_before p (entry.Inner c x ∷ fs) in
    let before : IsLegal q (start_world limits) es = legal-before p (start_world limits) es (entry.Inner c x ∷ fs) legal in
    let next : IsNext w c x = next_is w c (next_call p c fs) x (legal-after p (start_world limits) es (entry.Inner c x ∷ fs) legal).0 in
    doomed_top w c next.call at (sound_from_start limits q es before) (lasting_from_start limits q es before) (all_from_start limits q es before) next.needs
