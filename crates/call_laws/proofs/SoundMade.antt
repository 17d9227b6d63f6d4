-- A world stays sound where a node is made at a free name.
use Rattle.std.proofs.Common.{◌≡◌, ℕ, Bool, true, false, List, refl, ap, sym, ◌∙◌, subst, nat_cmp}
use Rattle.std.specs.Prelude.{Option, Some, None, IfSome, option_map, option_and_then}
use Rattle.std.specs.Cmp.{nat_cmp_total}
use Rattle.std.specs.FinMap.{FinMap, get, insert}
use Rattle.std.proofs.lemmas.Map.Lookups.{exact_unsigned}
use Rattle.finite_maps.proofs.EntryLaws.{by_key}
use Rattle.vfs_tree.specs.Edits.{made, with_store, with_made, new_dir}
use Rattle.vfs_tree.specs.Layers.{linked_by, is_linked}
use Rattle.vfs_tree.specs.Nodes.{Names, entry_in, is_given, AreBelow, IsNumbered}
use Rattle.vfs_tree.specs.Sound.{AreSoundNames, IsSoundPlace, IsSoundDir, EachPlace, IsSound}
use Rattle.vfs_tree.specs.Views.{kind_of_node, is_linked_in, facts_in, dir_in, dir_name, facts_of}
use Rattle.vfs_tree.specs.declared.node.Node.{Node}
use Rattle.vfs_tree.specs.declared.node.Node.TheVariants.{Dir, File, Link}
use Rattle.vfs_tree.specs.declared.node.Store.{Store}
use Rattle.vfs_tree.specs.declared.walk.Step.TheVariants.{Wants}
use Rattle.vfs_tree.specs.declared.world.World.{World}
use Rattle.call_model.specs.Checks.{upper_store}
use Rattle.call_model.specs.Effects.{shadowed}
use Rattle.call_model.specs.Rows.{row}
use Rattle.call_model.specs.declared.call.Call.{Call}
use Rattle.call_model.specs.declared.entry.Inner.TheVariants.{Shadow}
use Rattle.call_laws.specs.Needing.{IsFree}
use Rattle.call_laws.proofs.MountParts.{FreeInner}
use Rattle.call_laws.proofs.Parts.{Keeps}
use Rattle.call_laws.proofs.RowLaws.{row_free}
use Rattle.call_laws.proofs.MadeLaws.{IsFresh, StoreNames, made_names, kind_stays}
use Rattle.call_laws.proofs.NamedLaws.{no_way}
use Rattle.call_laws.proofs.SoundParts.{if_each, each_place, Stays, stays_place, stays_dir}

-- what holds of the names of a store, where it is there
abbrev pub NamesOf : Option Store → Type 0
NamesOf o = AreSoundNames
    (λ d n. entry_in n (option_and_then (λ (t : Store). get t.nodes d) o))
    (λ i. option_map kind_of_node (option_and_then (λ (t : Store). get t.nodes i) o))
    (λ i. option_and_then (λ t. dir_in t i) o)
    (λ i. option_and_then (λ t. dir_name t i) o)

-- a world with other stores, whose names are sound and whose nodes stay
pub sound-stores : (w : World) (stores : FinMap nat_cmp Store) → IsSound w → ((s : ℕ) → NamesOf (get stores s)) → Stays (facts_of w) (facts_of (record w { stores = stores })) → IsSound (record w { stores = stores })
sound-stores w stores h names stays =
    let f = facts_of w in
    let g = facts_of (record w { stores = stores }) in
    record {
      view = record {
        names = names;
        places = λ m. if_each (λ t. t.cut ≡ false → EachPlace (IsSoundDir f) t) (λ t. t.cut ≡ false → EachPlace (IsSoundDir g) t) (λ t s e. each_place (IsSoundDir f) (IsSoundDir g) (stays_dir f g stays) t (s e)) (get w.mounts m) (h.view.places m);
        root = h.view.root;
        smaller = h.view.smaller;
      };
      opens = λ k. if_each (λ o. o.dead ≡ false → IsSoundPlace f o.place) (λ o. o.dead ≡ false → IsSoundPlace g o.place) (λ o s e. stays_place f g stays o.place (s e)) (get w.opens k) (h.opens k);
      cwds = λ c. if_each (λ d. d.dead ≡ false → IsSoundPlace f d.place) (λ d. d.dead ≡ false → IsSoundPlace g d.place) (λ d s e. stays_place f g stays d.place (s e)) (get w.cwds c) (h.cwds c);
      apart = h.apart;
    }

-- a directory of a store
pub record IsDirAt (o : Option Node) : Type 0 where
  pub parent : ℕ
  pub opaque : Bool
  pub names : Names
  pub at : o ≡ Some (Dir parent opaque names)

pub dir_at : (t : Store) (u : ℕ) (o : Option Node) → linked_by (option_and_then (facts_in t u) o) ≡ true → IsDirAt o
dir_at t u (Some (Dir parent opaque names)) h = record { parent = parent; opaque = opaque; names = names; at = refl }
dir_at t u (Some (File bytes)) h = no_way h
dir_at t u (Some (Link target)) h = no_way h
dir_at t u None h = no_way h

pub link_at : (t : Store) (u : ℕ) (o : Option Node) → linked_by (option_and_then (facts_in t u) o) ≡ true → is_linked_in t u ≡ true
link_at t u (Some (Dir parent opaque names)) h = h
link_at t u (Some (File bytes)) h = no_way h
link_at t u (Some (Link target)) h = no_way h
link_at t u None h = no_way h

module _ (w : World) (s u : ℕ) (n : List ℕ) (node : Node) (numbered : IsNumbered w) (linked : is_linked (facts_of w) s u ≡ true)
    (free : is_given ((facts_of w).entry s u n) ≡ false) (fresh : IsFresh u node) (h : IsSound w) where
  made_case : (o : Option Store) → get w.stores s ≡ o → IsSound (with_store (λ t. made t u n node) w s o)
  made_case None e = h
  made_case (Some t) e =
      let link : linked_by (dir_in t u) ≡ true = sym (ap (λ o. linked_by (option_and_then (λ (t : Store). dir_in t u) o)) e) ∙ linked in
      let d = dir_at t u (get t.nodes u) link in
      let empty_at : is_given (entry_in n (get t.nodes u)) ≡ false = sym (ap (λ o. is_given (entry_in n (option_and_then (λ (t : Store). get t.nodes u) o))) e) ∙ free in
      let unused : is_given (get d.names n) ≡ false = sym (ap (λ o. is_given (entry_in n o)) d.at) ∙ empty_at in
      let below : AreBelow t.nodes t.next = subst (λ o. IfSome o (λ t. AreBelow t.nodes t.next)) e (numbered s) in
      let before : StoreNames t = subst NamesOf e (h.view.names s) in
      let store : Store = made t u n node in
      sound-stores w (insert w.stores s store) h
      (λ r. by_key nat_cmp_total exact_unsigned w.stores s store r NamesOf (λ _. made_names t u n node d.parent d.opaque d.names below d.at (link_at t u (get t.nodes u) link) unused fresh before) (h.view.names r))
      (record {
        kinds = λ m k x. x;
        nodes = λ r i k x. by_key nat_cmp_total exact_unsigned w.stores s store r (λ o. option_map kind_of_node (option_and_then (λ (t : Store). get t.nodes i) o) ≡ Some k)
            (λ same. kind_stays t u n node d.parent d.opaque d.names below d.at (link_at t u (get t.nodes u) link) unused fresh before i k
            (sym (ap (λ o. option_map kind_of_node (option_and_then (λ (t : Store). get t.nodes i) o)) (ap (get w.stores) same ∙ e)) ∙ x))
            x;
      })

  -- a node is made at a name of a linked directory that gives nothing
  pub sound-made : IsSound (with_made w s u n node)
  sound-made = made_case (get w.stores s) refl

-- a shadow directory is made where the upper directory has nothing
pub sound-shadow : (w : World) (m u : ℕ) (n : List ℕ) → IsNumbered w → is_linked (facts_of w) (upper_store w m) u ≡ true → is_given ((facts_of w).entry (upper_store w m) u n) ≡ false → IsSound w → IsSound (shadowed w m u n)
sound-shadow w m u n numbered linked free h = sound-made w (upper_store w m) u n (new_dir u false) numbered linked free (refl, refl) h

-- so where a call needs it
pub sound-needed_shadow : (w : World) (c m u : ℕ) (n : List ℕ) (call : Call) → row w c call ≡ Wants (Shadow m u n) → IsNumbered w → IsSound w → IsSound (shadowed w m u n)
sound-needed_shadow w c m u n call needs numbered h =
    let free : IsFree (facts_of w) m u n = (subst (λ o. Keeps (λ x. Unit {0}) (FreeInner w) o) needs (row_free w c call)).holds in
    sound-shadow w m u n numbered free.linked (ap is_given free.free) h
