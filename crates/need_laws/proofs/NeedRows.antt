-- What calls need: a shadow directory or a copy where a union has a directory or a file in its lower layer alone.
use Rattle.std.proofs.Common.{◌≡◌, ℕ, true, false, List, subst}
use Rattle.std.specs.Prelude.{Some, None}
use Rattle.vfs_tree.specs.Child.{child_of, low}
use Rattle.vfs_tree.specs.Facts.{Facts}
use Rattle.vfs_tree.specs.Layers.{kind_in, is_cut}
use Rattle.vfs_tree.specs.Place.{Seen, Mem, Null, UnionUp, UnionLow, bare}
use Rattle.vfs_tree.specs.Sound.{is_null, is_union, names_mounts}
use Rattle.vfs_tree.specs.Views.{facts_of}
use Rattle.vfs_tree.specs.declared.walk.Child.TheVariants as child
use Rattle.vfs_tree.specs.declared.walk.Found.{Found}
use Rattle.vfs_tree.specs.declared.walk.Found.TheVariants as found
use Rattle.vfs_tree.specs.declared.walk.Need.{Need}
use Rattle.vfs_tree.specs.declared.walk.Step.TheVariants.{Wants}
use Rattle.vfs_tree.specs.declared.world.World.{World}
use Rattle.call_model.specs.Checks.{is_full, upper_store, copied}
use Rattle.call_model.specs.Rows.{first_way, second_way, first_found, second_found, row}
use Rattle.call_model.specs.declared.call.Call.{Call}
use Rattle.call_model.specs.declared.call.Call.TheVariants as call
use Rattle.call_model.specs.declared.entry.Inner.{Inner}
use Rattle.call_model.specs.declared.entry.Inner.TheVariants.{Shadow, CopyUp, Detach, Doom}
use Rattle.call_laws.specs.Lasting.{IsUncut}
use Rattle.call_laws.proofs.FoundLaws.{IsGoodView}
use Rattle.call_laws.proofs.Parts.{Keeps, Any, found_so, needed, unless}
use Rattle.call_laws.proofs.PlaceLaws.{good_view, well_at}
use Rattle.call_laws.proofs.SoundParts.{first_of, second_of}
use Rattle.call_laws.proofs.WalkLaws.{FoundWell}
use Rattle.call_laws.proofs.Whole.{IsWhole}
use Rattle.need_laws.proofs.FoundNeeds.{LowThere, At, FoundHere, here_at, here-found}
use Rattle.need_laws.proofs.ShadowLaws.{ShadowAt, ShadowNeed, need-low, need-visible, need-has_visible}
use Rattle.layer_laws.proofs.NeedRows.{FoundAsks, LowAsks, ReadsSo, want_readdir, want_row}

-- a file that a union has in its lower layer alone
pub record CopyAt (f : Facts) (m u : ℕ) (n : List ℕ) : Type 0 where
  pub file : Seen
  pub there : child_of f (UnionUp m u) n ≡ child.At (UnionLow m u n file)
  pub union : is_union (kind_in f m) ≡ true
  pub uncut : is_cut f m ≡ false

-- a node that is made has a number left, and what it stands for is there
abbrev pub NeedSo : World → Inner → Type 0
NeedSo w (Shadow m u n) = (is_full w (upper_store w m) ≡ false) × ShadowAt (facts_of w) m u n
NeedSo w (CopyUp m u n) = (is_full w (upper_store w m) ≡ false) × CopyAt (facts_of w) m u n
NeedSo w (Detach m) = Unit {0}
NeedSo w (Doom at) = Unit {0}

module _ (w : World) (h : IsWhole w) where
  abbrev f : Facts
  f = facts_of w

  view : IsGoodView (facts_of w)
  view = good_view w h.sound h.lasts

  copies_bare : (p : Seen) → names_mounts f p ≡ true → IsUncut f p → LowThere f p → Keeps Any (NeedSo w) (copied w p)
  copies_bare (Mem m i) names cut low = found_so tt
  copies_bare (Null m p) names cut low = copies_bare p (second_of (is_null (kind_in f m)) (names_mounts f p) names) cut.1 low
  copies_bare (UnionUp m i) names cut low = found_so tt
  copies_bare (UnionLow m u n p) names cut low =
      unless (is_full w (upper_store w m)) _ (λ e. needed (e, record { file = p; there = low; union = first_of (is_union (kind_in f m)) (names_mounts f p) names; uncut = cut.0 }))

  copies_so : (p : Seen) → At w h p → Keeps Any (NeedSo w) (copied w p)
  copies_so p at = copies_bare p at.0.sound.mounts at.0.uncut at.1

  shadows_so : (x : Need) → ShadowNeed f x → is_full w (upper_store w x.mount) ≡ false → NeedSo w (Shadow x.mount x.dir x.name)
  shadows_so x need room = (room, need)

  lows_so : (p : Seen) → LowAsks w (ShadowNeed f) p
  lows_so (UnionUp m i) = need-low f view m i
  lows_so (Mem m i) = tt
  lows_so (Null m p) = tt
  lows_so (UnionLow m u n p) = tt

  finds_so : (a : Found) → FoundWell f a → FoundHere w h a → FoundAsks (ShadowNeed f) (At w h) a
  finds_so (found.At p) well here = here
  finds_so (found.In d n (Some p)) well here = here_at f view d p n well.good well.child
  finds_so (found.In d n None) well here = tt
  finds_so (found.Dot d) well here = tt
  finds_so (found.Mount m) well here = tt
  finds_so (found.Refused e) well here = tt
  finds_so (found.Need x) well here = here

  reads_so : (c : ℕ) (x : Call) → ReadsSo w (NeedSo w) c x
  reads_so c (call.Readdir d) = want_readdir w (NeedSo w) (ShadowNeed f) (At w h) shadows_so copies_so (λ m. tt) (λ at. tt) c d (λ o is alive dir. need-visible w view o.place)
  reads_so c _ = tt

  so-row : (c : ℕ) (x : Call) → Keeps Any (NeedSo w) (row w c x)
  so-row c x =
      want_row w (NeedSo w) (ShadowNeed f) (At w h) shadows_so copies_so (λ m. tt) (λ at. tt) (λ d at. need-has_visible w view d) (λ d at. lows_so (bare d)) c x
      (finds_so (first_found w c x) (well_at w h.sound h.lasts c (first_way x)) (here-found w h c (first_way x)))
      (finds_so (second_found w c x) (well_at w h.sound h.lasts c (second_way x)) (here-found w h c (second_way x))) (reads_so c x)

-- what a call needs
pub row_need : (w : World) → IsWhole w → (c : ℕ) (x : Call) (i : Inner) → row w c x ≡ Wants i → NeedSo w i
row_need w h c x i needs = (subst (Keeps Any (NeedSo w)) needs (so-row w h c x)).holds
