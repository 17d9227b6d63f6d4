-- A copy changes nothing of what its union shows.
use Rattle.std.proofs.Common.{◌≡◌, ℕ, suc, false, List, [], ◌∷◌, refl, ap, sym, ◌∙◌}
use Rattle.std.specs.Prelude.{Option, Some, None, IsSome, option_map}
use Rattle.vfs_tree.specs.Facts.{Facts}
use Rattle.vfs_tree.specs.Layers.{store_by, is_dir, is_dir_kind, kind_of}
use Rattle.vfs_tree.specs.Place.{Seen, UnionUp, UnionLow}
use Rattle.vfs_tree.specs.Shown.{shown_child, shown_along, shown_node, shown_at, shown}
use Rattle.vfs_tree.specs.Views.{kind_of_node, facts_of}
use Rattle.vfs_tree.specs.declared.mount.MountKind.{MountKind}
use Rattle.vfs_tree.specs.declared.node.Node.{Node}
use Rattle.vfs_tree.specs.declared.node.Node.TheVariants.{Dir, File, Link}
use Rattle.vfs_tree.specs.declared.node.Store.{Store}
use Rattle.vfs_tree.specs.declared.walk.Child.{Child}
use Rattle.vfs_tree.specs.declared.walk.Child.TheVariants as child
use Rattle.vfs_tree.specs.declared.world.World.{World}
use Rattle.call_model.specs.Checks.{node_of}
use Rattle.call_model.specs.Effects.{copy_of}
use Rattle.call_laws.proofs.MadeLaws.{IsFresh}
use Rattle.call_laws.proofs.NamedLaws.{no_way}
use Rattle.call_laws.proofs.Whole.{IsWhole}
use Rattle.layer_laws.proofs.AvoidLaws.{none_along}
use Rattle.layer_laws.proofs.UpperLaws.{IsMade, world_made, upper_shows}
use Rattle.layer_laws.proofs.TwinLaws.{plain_shows, node_made, made_at}

copy_shown : (o : Option Node) → is_dir_kind (option_map kind_of_node o) ≡ false → IsSome (option_map kind_of_node o) → Some (shown_node (copy_of o)) ≡ option_map shown_node o
copy_shown (Some (File bytes)) plain known = refl
copy_shown (Some (Link target)) plain known = refl
copy_shown (Some (Dir parent opaque names)) plain known = no_way (sym plain)
copy_shown None plain known = no_way known

pub fresh_copy : (u : ℕ) (o : Option Node) → IsFresh u (copy_of o)
fresh_copy u (Some (File bytes)) = tt
fresh_copy u (Some (Link target)) = tt
fresh_copy u (Some (Dir parent opaque names)) = tt
fresh_copy u None = tt

plain_copy : (o : Option Node) → is_dir_kind (option_map kind_of_node (Some (copy_of o))) ≡ false
plain_copy (Some (File bytes)) = refl
plain_copy (Some (Link target)) = refl
plain_copy (Some (Dir parent opaque names)) = refl
plain_copy None = refl

module _ (w : World) (h : IsWhole w) (m s top : ℕ) (lower : Seen) (u : ℕ) (n : List ℕ) (t : Store) (q : Seen) (x : IsMade w m s top lower u n t (copy_of (node_of w q))) (hv : IsWhole (world_made w s u n t (copy_of (node_of w q))))
    (there : shown_child (facts_of w) (UnionUp m u) n ≡ child.At (UnionLow m u n q)) (plain : is_dir (facts_of w) q ≡ false) (known : IsSome (kind_of (facts_of w) q)) where
  abbrev v : World
  v = world_made w s u n t (copy_of (node_of w q))

  abbrev f : Facts
  f = facts_of w

  abbrev g : Facts
  g = facts_of v

  abbrev i : ℕ
  i = t.next

  copy_plain : is_dir g (UnionUp m i) ≡ false
  copy_plain =
      ap (λ (o : Option MountKind). is_dir_kind (g.kind (store_by o) i)) x.union
      ∙ ap (λ (o : Option Node). is_dir_kind (option_map kind_of_node o)) (node_made w h m s top lower u n t (copy_of (node_of w q)) x hv)
      ∙ plain_copy (node_of w q)

  like_file : (ns : List (List ℕ)) → shown_at v (shown_along g (child.At (UnionUp m i)) ns) ≡ shown_at w (shown_along f (child.At (UnionLow m u n q)) ns)
  like_file [] = made_at w h m s top lower u n t (copy_of (node_of w q)) x hv ∙ copy_shown (node_of w q) plain known
  like_file (k ∷ ns) =
      ap (shown_at v) (ap (λ (c : Child). shown_along g c ns) (plain_shows v (suc m) (UnionUp m i) k copy_plain) ∙ none_along g ns) ∙ sym (ap (shown_at w) (none_along f ns))

  pub copy_upper : (r : ℕ) → IsSome (f.kind s r) → (ns : List (List ℕ)) → shown v (UnionUp m r) ns ≡ shown w (UnionUp m r) ns
  copy_upper r has ns =
      upper_shows w h m s top lower u n t (copy_of (node_of w q)) x hv (λ ns. like_file ns ∙ sym (ap (λ (c : Child). shown_at w (shown_along f c ns)) there)) r has ns
