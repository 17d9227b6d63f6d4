-- The names that a directory lists are those at which it shows something.
use Rattle.std.proofs.Common.{◌≡◌, ℕ, zero, suc, ◌<◌, Bool, true, false, cond, List, [], ◌∷◌, refl, ap, sym, ◌∙◌, subst, arith}
use Rattle.std.specs.Prelude.{◌↔◌, Option, Some, None, IsSome}
use Rattle.std.specs.List.{Contains}
use Rattle.std.specs.FinMap.{get}
use Rattle.vfs_tree.specs.Child.{child_mem, child_null, child_below, low_by, upper_entry, child_within}
use Rattle.vfs_tree.specs.Facts.{Facts}
use Rattle.vfs_tree.specs.Layers.{kind_in, store_by, is_cut, is_dir}
use Rattle.vfs_tree.specs.Nodes.{Names, is_given, node_at}
use Rattle.vfs_tree.specs.Place.{Seen, Mem, Null, UnionUp, UnionLow, mount_of}
use Rattle.vfs_tree.specs.Shown.{shown_low, shown_union, shown_within, shown_child, shown}
use Rattle.vfs_tree.specs.Sound.{is_union, IsSoundDir, IsSound}
use Rattle.vfs_tree.specs.Steps.{◌>>=◌}
use Rattle.vfs_tree.specs.Views.{facts_of}
use Rattle.vfs_tree.specs.Visible.{names_at, merged, Listed, listed_below, visible_within, visible}
use Rattle.vfs_tree.specs.declared.mount.MountKind.{MountKind}
use Rattle.vfs_tree.specs.declared.mount.MountKind.TheVariants as kind
use Rattle.vfs_tree.specs.declared.node.NameEntry.{NameEntry}
use Rattle.vfs_tree.specs.declared.node.NameEntry.TheVariants.{Ino, White}
use Rattle.vfs_tree.specs.declared.walk.Child.{Child}
use Rattle.vfs_tree.specs.declared.walk.Child.TheVariants as child
use Rattle.vfs_tree.specs.declared.walk.Step.TheVariants.{Go, Refuse, Wants}
use Rattle.vfs_tree.specs.declared.world.World.{World}
use Rattle.call_laws.specs.Lasting.{IsOver, IsUncut, IsLasting}
use Rattle.call_laws.proofs.FoundLaws.{IsGood, IsGoodView, under_null, dir_ready}
use Rattle.call_laws.proofs.NamedLaws.{no_way}
use Rattle.call_laws.proofs.PlaceLaws.{good_view}
use Rattle.call_laws.proofs.ShownLaws.{Agree, agree-low_by, agree-within}
use Rattle.layer_laws.proofs.BaseLaws.{is_there, something_shown, shown_something}
use Rattle.layer_laws.proofs.LowerLaws.{Stands}
use Rattle.layer_laws.proofs.NamesLaws.{names_are, none_in, given_from, given_to, merged_upper, upper_merged, merged_lower, lower_merged}
use Rattle.layer_laws.proofs.NestLaws.{Nests, shown_from}
use Rattle.layer_laws.proofs.PartLaws.{Lower, good_nests, lower_part}

there_mem : (m : ℕ) (e : Option NameEntry) → is_there (child_mem m e) ≡ is_given e
there_mem m (Some (Ino i)) = refl
there_mem m (Some White) = refl
there_mem m None = refl

there_null : (m : ℕ) (c : Child) → is_there (child_null m c) ≡ is_there c
there_null m (child.At p) = refl
there_null m child.Absent = refl
there_null m (child.Need x) = refl

there_if : (b : Bool) (p q : Seen) → is_there (cond b (child.At p) (child.At q)) ≡ true
there_if true p q = refl
there_if false p q = refl

there_low : (f : Facts) (m u : ℕ) (n : List ℕ) (c : Child) → is_there (shown_low f m u n c) ≡ is_there c
there_low f m u n (child.At q) = there_if (is_dir f q) q (UnionLow m u n q)
there_low f m u n child.Absent = refl
there_low f m u n (child.Need x) = refl

-- the names are those at which something stands
abbrev Lists : List (List ℕ) → List ℕ → Child → Type 0
Lists names n c = Contains names n ↔ (is_there c ≡ true)

-- by the upper entry
lists_union : (f : Facts) (m u : ℕ) (n : List ℕ) (upper : Names) (lower : List (List ℕ)) (below : List ℕ → Child) → Lists lower n (below n)
    → (e : Option NameEntry) → get upper n ≡ e → Lists (merged upper lower) n (shown_union f m u n e below)
lists_union f m u n upper lower below h (Some (Ino i)) is = (λ _. refl, λ _. upper_merged upper n (Ino i) is lower refl)
lists_union f m u n upper lower below h (Some White) is = (λ c. no_way (merged_upper upper n White is lower c), λ e. no_way e)
lists_union f m u n upper lower below h None is = (
  λ c. there_low f m u n (below n) ∙ h.0 (merged_lower upper n is lower c),
  λ e. lower_merged upper n is lower (h.1 (sym (there_low f m u n (below n)) ∙ e)),
)

abbrev names_or : Listed → List (List ℕ)
names_or (Go names) = names
names_or (Refuse e) = []
names_or (Wants x) = []

-- what a listing comes to
record ListedGo (l : Listed) (k : List (List ℕ) → Listed) (r : List (List ℕ)) : Type 0 where
  pub names : List (List ℕ)
  pub first : l ≡ Go names
  pub then : k names ≡ Go r

listed_go : (l : Listed) (k : List (List ℕ) → Listed) (r : List (List ℕ)) → (l >>= k) ≡ Go r → ListedGo l k r
listed_go (Go names) k r e = record { names = names; first = refl; then = e }
listed_go (Refuse x) k r e = absurd cc
listed_go (Wants x) k r e = absurd cc

module _ (w : World) (view : IsGoodView (facts_of w)) where
  abbrev f : Facts
  f = facts_of w

  abbrev ListsAt : ℕ → Type 0
  ListsAt k = (d : Seen) → mount_of d < k → IsGood f d → (names : List (List ℕ)) → visible_within k w d ≡ Go names → (n : List ℕ) → Lists names n (shown_child f d n)

  -- by the lower part
  lists_part : (k m u s : ℕ) → ListsAt k → m < suc k → (upper : Names) (n : List ℕ) → f.entry s u n ≡ get upper n → (a b : Child) → Agree a b → Stands (Lower f m) a
      → (names : List (List ℕ)) → (listed_below (visible_within k w) a >>= (λ lower. Go (merged upper lower))) ≡ Go names
      → Lists names n (shown_union f m u n (f.entry s u n) (child_below (shown_within m f) b))
  lists_part k m u s lists less upper n is (child.At d) b same h names e =
      let low : mount_of d < m = h.1 in
      let x = listed_go (visible_within k w d) (λ lower. Go (merged upper lower)) names e in
      let below : Lists x.names n (shown_within m f d n) =
      subst (Lists x.names n) (sym (shown_from f view m d n (good_nests f view d h.0) h.1)) (lists d (omega (arith, low, less)) h.0 x.names x.first n) in
      subst (λ (c : Child). Lists names n (shown_union f m u n (f.entry s u n) (child_below (shown_within m f) c))) (sym same)
      (subst (λ (ns : List (List ℕ)). Lists ns n (shown_union f m u n (f.entry s u n) (shown_within m f d))) (ap names_or x.then)
      (lists_union f m u n upper x.names (shown_within m f d) below (f.entry s u n) (sym is)))
  lists_part k m u s lists less upper n is child.Absent b same h names e =
      subst (λ (c : Child). Lists names n (shown_union f m u n (f.entry s u n) (child_below (shown_within m f) c))) (sym same)
      (subst (λ (ns : List (List ℕ)). Lists ns n (shown_union f m u n (f.entry s u n) (λ n. child.Absent))) (ap names_or e)
      (lists_union f m u n upper [] (λ n. child.Absent) (λ c. absurd (none_in n c), λ e. no_way e) (f.entry s u n) (sym is)))
  lists_part k m u s lists less upper n is (child.Need x) b same h names e = absurd cc

  -- by the mount's kind
  lists_kind : (k m u : ℕ) → ListsAt k → m < suc k → is_cut f m ≡ false → (o : Option MountKind) → kind_in f m ≡ o → is_union o ≡ true → (names : List (List ℕ))
      → (listed_below (visible_within k w) (low_by f (child_within m f) u o) >>= (λ lower. Go (merged (names_at w (store_by o) u) lower))) ≡ Go names
      → (n : List ℕ) → Lists names n (shown_union f m u n (upper_entry f o u n) (child_below (shown_within m f) (low_by f (shown_within m f) u o)))
  lists_kind k m u lists less cut (Some (kind.Union s top lower)) is union names e n =
      let low : Option MountKind = Some (kind.Union s top lower) in
      lists_part k m u s lists less (names_at w s u) n (names_are n (node_at w s u)) (low_by f (child_within m f) u low) (low_by f (shown_within m f) u low)
      (agree-low_by f (child_within m f) (shown_within m f) (agree-within m f) u low) (lower_part f view m m s top lower is cut u) names e
  lists_kind k m u lists less cut (Some kind.Mem) is union names e n = no_way union
  lists_kind k m u lists less cut (Some (kind.Null layer)) is union names e n = no_way union
  lists_kind k m u lists less cut None is union names e n = no_way union

  lists_within : (k : ℕ) → ListsAt k
  lists_within zero d less g names e n = absurd (omega (arith, less))
  lists_within (suc k) (Mem m i) less g names e n =
      let own : Names = names_at w m i in
      let at : is_there (child_mem m (f.entry m i n)) ≡ is_given (get own n) = there_mem m (f.entry m i n) ∙ ap is_given (names_are n (node_at w m i)) in
      subst (λ (ns : List (List ℕ)). Lists ns n (child_mem m (f.entry m i n))) (ap names_or e) (λ c. at ∙ given_from own n c, λ t. given_to own n (sym at ∙ t))
  lists_within (suc k) (Null m p) less g names e n =
      let nests : Nests f (Null m p) = good_nests f view (Null m p) g in
      let low : mount_of p < m = nests.0 in
      let x = lists_within k p (omega (arith, low, less)) (under_null f m p g) names e n in
      let at : is_there (child_null m (shown_within m f p n)) ≡ is_there (shown_child f p n) = there_null m (shown_within m f p n) ∙ ap is_there (shown_from f view m p n nests.1 nests.0) in
      (λ c. at ∙ x.0 c, λ t. x.1 (sym at ∙ t))
  lists_within (suc k) (UnionUp m u) less g names e n = lists_kind k m u (lists_within k) less g.uncut (kind_in f m) refl g.sound.mounts names e n
  lists_within (suc k) (UnionLow m u a p) less g names e n =
      subst (λ (ns : List (List ℕ)). Lists ns n child.Absent) (ap names_or e) (λ c. absurd (none_in n c), λ t. no_way t)

something : (c : Child) → is_there c ≡ true → (p : Seen) × (c ≡ child.At p)
something (child.At p) h = (p, refl)
something child.Absent h = no_way h
something (child.Need x) h = no_way h

module _ (w : World) (d : Seen) (names : List (List ℕ)) (n : List ℕ) (sound : IsSound w) (lasts : IsLasting w) (dir : IsSoundDir (facts_of w) d) (cut : IsUncut (facts_of w) d) (over : IsOver (facts_of w) d)
    (e : visible w d ≡ Go names) where
  lists : Lists names n (shown_child (facts_of w) d n)
  lists =
      let g : IsGood (facts_of w) d = record { sound = dir.place; uncut = cut; over = over; ready = dir_ready (facts_of w) d dir.place.files dir.dir } in
      lists_within w (good_view w sound lasts) (suc (mount_of d)) d (omega arith) g names e n

  -- a directory that callers may come by lists the names at which it shows something
  pub visible_shown : Contains names n ↔ ((p : Seen) × (shown_child (facts_of w) d n ≡ child.At p))
  visible_shown = (λ c. something (shown_child (facts_of w) d n) (lists.0 c), λ p. lists.1 (ap is_there p.1))

  -- by what stands there
  pub visible_tree : Contains names n ↔ IsSome (shown w d (n ∷ []))
  visible_tree = (λ c. something_shown w sound.view d n (lists.0 c), λ h. lists.1 (shown_something w (shown_child (facts_of w) d n) h))
