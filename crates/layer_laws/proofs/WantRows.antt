-- The shadow directory that a call needs is for a name at which its union shows a directory.
use Rattle.std.proofs.Common.{◌≡◌, ℕ, true, false, List, [], ◌∷◌, refl, subst}
use Rattle.std.specs.Prelude.{Option, Some, None, IfSome, option_map}
use Rattle.vfs_tree.specs.Layers.{base, is_cut, is_dir_kind}
use Rattle.vfs_tree.specs.Nodes.{node_at}
use Rattle.vfs_tree.specs.Place.{Seen, Mem, Null, UnionUp, UnionLow, bare}
use Rattle.vfs_tree.specs.Shown.{shown_child, shown_node, shown_at, shown}
use Rattle.vfs_tree.specs.Shown as seen
use Rattle.vfs_tree.specs.Sound.{IsSound}
use Rattle.vfs_tree.specs.Views.{kind_of_node, facts_of}
use Rattle.vfs_tree.specs.declared.node.Node.{Node}
use Rattle.vfs_tree.specs.declared.node.Node.TheVariants.{Dir, File, Link}
use Rattle.vfs_tree.specs.declared.walk.Child.{Child}
use Rattle.vfs_tree.specs.declared.walk.Child.TheVariants as child
use Rattle.vfs_tree.specs.declared.walk.Found.{Found}
use Rattle.vfs_tree.specs.declared.walk.Found.TheVariants as found
use Rattle.vfs_tree.specs.declared.walk.NodeId.{NodeId}
use Rattle.vfs_tree.specs.declared.walk.Step.TheVariants.{Wants}
use Rattle.vfs_tree.specs.declared.world.World.{World}
use Rattle.call_model.specs.Checks.{Doing}
use Rattle.call_model.specs.Rows.{first_way, second_way, first_found, second_found, row}
use Rattle.call_model.specs.declared.call.Call.{Call}
use Rattle.call_model.specs.declared.call.Call.TheVariants as call
use Rattle.call_model.specs.declared.entry.Inner.{Inner}
use Rattle.call_model.specs.declared.entry.Inner.TheVariants.{Shadow, CopyUp, Detach, Doom}
use Rattle.call_model.specs.declared.reply.Reply.{Reply}
use Rattle.call_laws.specs.Lasting.{IsLasting}
use Rattle.call_laws.specs.Needing.{IsFree}
use Rattle.call_laws.proofs.ChildInduction.{Anything}
use Rattle.call_laws.proofs.MountParts.{FreeInner}
use Rattle.call_laws.proofs.Parts.{Keeps, Any}
use Rattle.call_laws.proofs.PlaceLaws.{good_view}
use Rattle.call_laws.proofs.RowLaws.{row_free}
use Rattle.layer_laws.proofs.NeedRows.{FoundAsks, LowAsks, ReadsSo, any_copy, want_readdir, want_row}
use Rattle.layer_laws.proofs.WantLaws.{DirAt, DirShown, WantNeed, WantFound, want-low, want-found, want-visible, want-has_visible}

-- a shadow directory is for a directory that its union shows
abbrev pub ShowsDir : World → Inner → Type 0
ShowsDir w (Shadow m u n) = DirShown (facts_of w) m u n
ShowsDir w (CopyUp m u n) = Unit {0}
ShowsDir w (Detach m) = Unit {0}
ShowsDir w (Doom at) = Unit {0}

module _ (w : World) where
  some_place : (o : Option Seen) → IfSome o Anything
  some_place (Some p) = tt
  some_place None = tt

  finds_so : (a : Found) → WantFound (facts_of w) a → FoundAsks (WantNeed (facts_of w)) Anything a
  finds_so (found.At p) h = tt
  finds_so (found.In d n c) h = some_place c
  finds_so (found.Dot d) h = tt
  finds_so (found.Mount m) h = tt
  finds_so (found.Refused e) h = tt
  finds_so (found.Need x) h = h

  lows_so : (p : Seen) → LowAsks w (WantNeed (facts_of w)) p
  lows_so (Mem m i) = tt
  lows_so (Null m p) = tt
  lows_so (UnionUp m i) = want-low (facts_of w) m i
  lows_so (UnionLow m u n p) = tt

  reads_so : (c : ℕ) (call : Call) → ReadsSo w (ShowsDir w) c call
  reads_so c (call.Readdir d) =
      want_readdir w (ShowsDir w) (WantNeed (facts_of w)) Anything (λ x h _. h) (λ p _. any_copy w (ShowsDir w) (λ m u n. tt) p) (λ m. tt) (λ at. tt) c d (λ o is alive dir. want-visible w o.place)
  reads_so c _ = tt

  asks_row : (c : ℕ) (call : Call) → Keeps Any (ShowsDir w) (row w c call)
  asks_row c call =
      want_row w (ShowsDir w) (WantNeed (facts_of w)) Anything (λ x h _. h) (λ p _. any_copy w (ShowsDir w) (λ m u n. tt) p) (λ m. tt) (λ at. tt)
      (λ d g. want-has_visible w d) (λ d g. lows_so (bare d)) c call
      (finds_so (first_found w c call) (want-found w c (first_way call))) (finds_so (second_found w c call) (want-found w c (second_way call))) (reads_so c call)

  -- ---- what is shown

  node_shown : (o : Option Node) → is_dir_kind (option_map kind_of_node o) ≡ true → option_map shown_node o ≡ Some seen.Dir
  node_shown (Some (Dir parent opaque names)) h = refl
  node_shown (Some (File bytes)) h = absurd cc
  node_shown (Some (Link target)) h = absurd cc
  node_shown None h = absurd cc

  dir_shown_at : (c : Child) → DirAt (facts_of w) c → shown_at w c ≡ Some seen.Dir
  dir_shown_at (child.At q) h = let b : NodeId = base (facts_of w) q in node_shown (node_at w b.store b.ino) h
  dir_shown_at child.Absent h = absurd h
  dir_shown_at (child.Need x) h = absurd h

  asked : (m u : ℕ) (n : List ℕ) (r : Doing (World × Reply)) → r ≡ Wants (Shadow m u n) → Keeps Any (ShowsDir w) r → DirShown (facts_of w) m u n
  asked m u n r is h = let x : Keeps {A = World × Reply} Any (ShowsDir w) (Wants (Shadow m u n)) = subst (λ (r : Doing (World × Reply)). Keeps Any (ShowsDir w) r) is h in x.holds

-- the shadow directory that a call needs is for a directory that its union shows
pub shadow_shown : (w : World) (c : ℕ) (call : Call) (m u : ℕ) (n : List ℕ) → IsSound w → IsLasting w → row w c call ≡ Wants (Shadow m u n) → is_cut (facts_of w) m ≡ false
    → shown w (UnionUp m u) (n ∷ []) ≡ Some seen.Dir
shadow_shown w c call m u n sound lasts is cut =
    dir_shown_at w (shown_child (facts_of w) (UnionUp m u) n) (asked w m u n (row w c call) is (asks_row w c call) (good_view w sound lasts) cut)

free_in : (w : World) (m u : ℕ) (n : List ℕ) (r : Doing (World × Reply)) → r ≡ Wants (Shadow m u n) → Keeps (λ x. Unit {0}) (FreeInner w) r → IsFree (facts_of w) m u n
free_in w m u n r is h =
    let x : Keeps {A = World × Reply} (λ x. Unit {0}) (FreeInner w) (Wants (Shadow m u n)) = subst (λ (r : Doing (World × Reply)). Keeps (λ x. Unit {0}) (FreeInner w) r) is h in x.holds

-- and the upper layer has nothing at the name
pub shadow_free : (w : World) (c : ℕ) (call : Call) (m u : ℕ) (n : List ℕ) → row w c call ≡ Wants (Shadow m u n) → IsFree (facts_of w) m u n
shadow_free w c call m u n is = free_in w m u n (row w c call) is (row_free w c call)
