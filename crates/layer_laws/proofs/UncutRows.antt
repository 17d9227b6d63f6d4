-- No call but a listing in a mount that is cut needs a shadow directory in a union that is cut.
use Rattle.std.proofs.Common.{◌≡◌, ℕ, Bool, true, false, List, refl, ap, sym, ◌∙◌, subst}
use Rattle.std.specs.Prelude.{Option, Some, None, IfSome, option_map}
use Rattle.std.specs.FinMap.{get}
use Rattle.vfs_tree.specs.Child.{low}
use Rattle.vfs_tree.specs.Facts.{Facts}
use Rattle.vfs_tree.specs.Layers.{is_cut, is_dir}
use Rattle.vfs_tree.specs.Place.{Seen, Mem, Null, UnionUp, UnionLow, bare, mount_of}
use Rattle.vfs_tree.specs.Sound.{IsSoundPlace, IsSound}
use Rattle.vfs_tree.specs.Views.{facts_of}
use Rattle.vfs_tree.specs.Visible.{visible}
use Rattle.vfs_tree.specs.declared.open.Open.{Open}
use Rattle.vfs_tree.specs.declared.walk.Child.{Child}
use Rattle.vfs_tree.specs.declared.walk.Child.TheVariants as child
use Rattle.vfs_tree.specs.declared.walk.Found.{Found}
use Rattle.vfs_tree.specs.declared.walk.Found.TheVariants as found
use Rattle.vfs_tree.specs.declared.walk.Need.{Need}
use Rattle.vfs_tree.specs.declared.walk.Step.{Step}
use Rattle.vfs_tree.specs.declared.walk.Step.TheVariants.{Go, Refuse, Wants}
use Rattle.vfs_tree.specs.declared.world.World.{World}
use Rattle.call_model.specs.Checks.{Doing, is_full, upper_store, copied}
use Rattle.call_model.specs.Rows.{first_way, second_way, first_found, second_found, row}
use Rattle.call_model.specs.declared.call.Call.{Call}
use Rattle.call_model.specs.declared.call.Call.TheVariants as call
use Rattle.call_model.specs.declared.entry.Inner.{Inner}
use Rattle.call_model.specs.declared.entry.Inner.TheVariants.{Shadow, CopyUp, Detach, Doom}
use Rattle.call_model.specs.declared.reply.Reply.{Reply}
use Rattle.call_laws.specs.Lasting.{IsOver, IsLasting}
use Rattle.call_laws.proofs.ChildInduction.{Anything, Comes, ChildComes, so-low, so-visible, so-has_visible}
use Rattle.call_laws.proofs.FoundLaws.{IsGood, UncutNeed, IsGoodView, under_null, good_keeps}
use Rattle.call_laws.proofs.NamedLaws.{no_way}
use Rattle.call_laws.proofs.Parts.{Keeps, Any}
use Rattle.call_laws.proofs.PlaceLaws.{good_view, good_dir, well_at, good_child_at}
use Rattle.call_laws.proofs.WalkLaws.{FoundWell}
use Rattle.call_laws.proofs.Whole.{IsWhole}
use Rattle.layer_laws.specs.Listings.{IsCutListing}
use Rattle.layer_laws.proofs.NeedRows.{FoundAsks, LowAsks, ReadsSo, any_copy, want_readdir, want_row}

-- where the union of a shadow directory is cut, the property holds
abbrev InUncut : World → Type 0 → Inner → Type 0
InUncut w P (Shadow m u n) = is_cut (facts_of w) m ≡ true → P
InUncut w P (CopyUp m u n) = Unit {0}
InUncut w P (Detach m) = Unit {0}
InUncut w P (Doom at) = Unit {0}

if_there : (o : Option Open) (P : Open → Type 0) → IfSome o P → (x : Open) → o ≡ Some x → P x
if_there o P h x is = subst (λ o. IfSome o P) is h

module _ (w : World) (h : IsWhole w) (P : Type 0) where
  abbrev f : Facts
  f = facts_of w

  view : IsGoodView f
  view = good_view w h.sound h.lasts

  abbrev N : Inner → Type 0
  N = InUncut w P

  -- a need in a union that isn't cut, or else the property
  abbrev CutOr : Need → Type 0
  CutOr x = is_cut f x.mount ≡ true → P

  shadows_so : (x : Need) → UncutNeed f x → is_full w (upper_store w x.mount) ≡ false → N (Shadow x.mount x.dir x.name)
  shadows_so x h room = λ cut. no_way (sym h ∙ cut)

  copies_so : (p : Seen) → IsGood f p → Keeps Any N (copied w p)
  copies_so p g = any_copy w N (λ m u n. tt) p

  lows_so : (d : Seen) → IsGood f d → LowAsks w (UncutNeed f) (bare d)
  lows_so (Mem m i) g = tt
  lows_so (Null m p) g = lows_so p (under_null f m p g)
  lows_so (UnionUp m i) g = any_child (low f m i) (so-low f (UncutNeed f) (IsGood f) (good_keeps f view) m i g)
    where
      any_child : (c : Child) → ChildComes (UncutNeed f) (IsGood f) c → ChildComes (UncutNeed f) Anything c
      any_child (child.At p) h = tt
      any_child child.Absent h = tt
      any_child (child.Need x) h = h
  lows_so (UnionLow m u n p) g = tt

  finds_so : (a : Found) → FoundWell f a → FoundAsks (UncutNeed f) (IsGood f) a
  finds_so (found.At p) t = t.good
  finds_so (found.In d n (Some p)) t = good_child_at w h.sound h.lasts d p n t
  finds_so (found.In d n None) t = tt
  finds_so (found.Dot d) t = tt
  finds_so (found.Mount m) t = tt
  finds_so (found.Refused e) t = tt
  finds_so (found.Need x) t = t

  -- an open directory in a mount that isn't cut
  open_lists : (o : Option Open) → IfSome o (λ o. o.dead ≡ false → IsSoundPlace f o.place) → IfSome o (λ o. o.dead ≡ false → IsOver f o.place)
      → (option_map (λ (o : Open). is_cut f (mount_of o.place)) o ≡ Some true → P)
      → (x : Open) → o ≡ Some x → x.dead ≡ false → is_dir f x.place ≡ true → Comes CutOr Anything (visible w x.place)
  open_lists o sound over cutting x is alive dir = by (is_cut f (mount_of x.place)) refl
    where
      anyway : P → (m : Step (List (List ℕ)) Need) → Comes CutOr Anything m
      anyway p (Go a) = tt
      anyway p (Refuse e) = tt
      anyway p (Wants x) = λ cut. p

      uncut : (m : Step (List (List ℕ)) Need) → Comes (UncutNeed f) Anything m → Comes CutOr Anything m
      uncut (Go a) h = tt
      uncut (Refuse e) h = tt
      uncut (Wants x) h = λ cut. no_way (sym h ∙ cut)

      by : (b : Bool) → is_cut f (mount_of x.place) ≡ b → Comes CutOr Anything (visible w x.place)
      by true cut = anyway (cutting (ap (option_map (λ (o : Open). is_cut f (mount_of o.place))) is ∙ ap Some cut)) (visible w x.place)
      by false cut =
          uncut (visible w x.place) (so-visible w (UncutNeed f) (IsGood f) (good_keeps f view) x.place
          (good_dir w h.sound h.lasts x.place (if_there o (λ o. o.dead ≡ false → IsSoundPlace f o.place) sound x is alive) (if_there o (λ o. o.dead ≡ false → IsOver f o.place) over x is alive) dir cut))

  reads_so : (c : ℕ) (call : Call) → (IsCutListing w c call → P) → ReadsSo w N c call
  reads_so c (call.Readdir d) cutting =
      want_readdir w N CutOr (IsGood f) (λ x h _. h) copies_so (λ m. tt) (λ at. tt) c d (open_lists (get w.opens (c, d)) (h.sound.opens (c, d)) (h.lasts.opens (c, d)) cutting)
  reads_so c _ cutting = tt

  row_uncut : (c : ℕ) (call : Call) → (IsCutListing w c call → P) → Keeps Any N (row w c call)
  row_uncut c call cutting =
      want_row w N (UncutNeed f) (IsGood f) shadows_so copies_so (λ m. tt) (λ at. tt) (λ d g. so-has_visible w (UncutNeed f) (IsGood f) (good_keeps f view) d g) lows_so c call
      (finds_so (first_found w c call) (well_at w h.sound h.lasts c (first_way call))) (finds_so (second_found w c call) (well_at w h.sound h.lasts c (second_way call))) (reads_so c call cutting)

  asked : (m u : ℕ) (n : List ℕ) (r : Doing (World × Reply)) → r ≡ Wants (Shadow m u n) → Keeps Any N r → is_cut f m ≡ true → P
  asked m u n r is h =
      let x : Keeps {A = World × Reply} Any N (Wants (Shadow m u n)) = subst (λ (r : Doing (World × Reply)). Keeps Any N r) is h in x.holds

pub shadow_uncut : (w : World) (c : ℕ) (call : Call) (m u : ℕ) (n : List ℕ) → IsSound w → IsLasting w → row w c call ≡ Wants (Shadow m u n) → is_cut (facts_of w) m ≡ true → IsCutListing w c call
shadow_uncut w c call m u n sound lasts is cut =
    let h : IsWhole w = record { sound = sound; lasts = lasts } in
    asked w h (IsCutListing w c call) m u n (row w c call) is (row_uncut w h (IsCutListing w c call) c call (λ x. x)) cut
