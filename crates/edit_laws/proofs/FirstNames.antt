-- Which name a directory has first for a node is told by the names that give the node.
use Rattle.std.proofs.Common.{◌≡◌, ℕ, ◌⊎◌, inl, inr, Bool, true, false, cond, ◌&&◌, T, List, [], ◌∷◌, refl, ap, sym, ◌∙◌, subst, is_lt, eqb-true, eq-eqb}
use Rattle.std.specs.Prelude.{Option, Some, None, option_map}
use Rattle.std.specs.declared.cmp.Ordering.{Ordering}
use Rattle.std.specs.declared.cmp.Ordering.TheVariants.{Less, Equal, Greater}
use Rattle.std.specs.List.{find as find_in, AllByRecursion}
use Rattle.std.specs.Cmp.Lexicographic.{nat_list_cmp_total}
use Rattle.std.specs.Ordering.{eq_by_cmp}
use Rattle.std.specs.FinMap.{get, empty, entries, find, is_sorted, entries_sorted, get-entries, get-empty}
use Rattle.std.specs.FinMap.Entries.{below_all}
use Rattle.std.proofs.lemmas.Cmp.{tied_itself}
use Rattle.std.proofs.lemmas.Map.Lookups.{exact_bytes}
use Rattle.finite_maps.proofs.EntryLaws.{entries-empty}
use Rattle.vfs_tree.specs.Name.{name_cmp}
use Rattle.vfs_tree.specs.Nodes.{Names, entry_in}
use Rattle.vfs_tree.specs.Views.{gives, name_in, name_by}
use Rattle.vfs_tree.specs.Visible.{names_in}
use Rattle.vfs_tree.specs.declared.node.NameEntry.{NameEntry}
use Rattle.vfs_tree.specs.declared.node.NameEntry.TheVariants.{Ino, White}
use Rattle.vfs_tree.specs.declared.node.Node.{Node}
use Rattle.vfs_tree.specs.declared.node.Node.TheVariants.{Dir, File, Link}
use Rattle.call_laws.proofs.NamedLaws.{no_way}
use Rattle.call_laws.proofs.WeightLaws.{equal, all_given}

front : (a b : Bool) → T (a && b) → T a
front true b h = tt
front false b h = h

back : (a b : Bool) → T (a && b) → T b
back true b h = h
back false b h = absurd h

is_less : (r : Ordering) → T (is_lt r) → r ≡ Less
is_less Less h = refl
is_less Equal h = absurd h
is_less Greater h = absurd h

gives_it : (i : ℕ) (e : NameEntry) → gives i e ≡ true → e ≡ Ino i
gives_it i (Ino j) h = ap Ino (eqb-true j i h)
gives_it i White h = no_way h

not_given : {A : Type 0} (i : ℕ) (e : NameEntry) → gives i e ≡ false → Some e ≡ Some (Ino i) → A
not_given i (Ino j) h e = no_way (sym h ∙ eq-eqb j i (let same : j ≡ i = cc in same))
not_given i White h e = absurd (let clash : Some White ≡ Some (Ino i) = e in cc)

-- what stands behind a name in order comes after it
behind : (k : List ℕ) (es : List (List ℕ × NameEntry)) → T (below_all name_cmp k es) → (q : List ℕ) (v : NameEntry) → find name_cmp q es ≡ Some v → name_cmp k q ≡ Less
behind k [] h q v e = absurd (let clash : None ≡ Some v = e in cc)
behind k (x ∷ es) h q v e = by (λ f. behind k es (back _ _ h) q v f) (eq_by_cmp name_cmp q x.0) refl e
  where
    by : (find name_cmp q es ≡ Some v → name_cmp k q ≡ Less) → (b : Bool) → eq_by_cmp name_cmp q x.0 ≡ b → cond b (Some x.1) (find name_cmp q es) ≡ Some v → name_cmp k q ≡ Less
    by rest true is f = ap (name_cmp k) (exact_bytes q x.0 (equal (name_cmp q x.0) is)) ∙ is_less (name_cmp k x.0) (front _ _ h)
    by rest false is f = rest f

-- a name that gives the node, before all others that do
record First (i : ℕ) (names : Names) (es : List (List ℕ × NameEntry)) (x : List ℕ × NameEntry) : Type 0 where
  pub at : get names x.0 ≡ Some (Ino i)
  pub before : (q : List ℕ) → find name_cmp q es ≡ Some (Ino i) → (name_cmp x.0 q ≡ Less) ⊎ (x.0 ≡ q)

abbrev entry_or : List ℕ × NameEntry → Option (List ℕ × NameEntry) → List ℕ × NameEntry
entry_or d (Some x) = x
entry_or d None = d

first_among : (i : ℕ) (names : Names) (es : List (List ℕ × NameEntry)) → AllByRecursion (λ e. get names e.0 ≡ Some e.1) es → T (is_sorted name_cmp es) → (x : List ℕ × NameEntry)
    → find_in (λ e. gives i e.1) es ≡ Some x → First i names es x
first_among i names [] all sorted x is = absurd (let clash : None ≡ Some x = is in cc)
first_among i names (e ∷ es) all sorted x is = by (λ f. first_among i names es all.1 (back _ _ sorted) x f) (gives i e.1) refl is
  where
    own : gives i e.1 ≡ true → (q : List ℕ) (b : Bool) → eq_by_cmp name_cmp q e.0 ≡ b → cond b (Some e.1) (find name_cmp q es) ≡ Some (Ino i) → (name_cmp e.0 q ≡ Less) ⊎ (e.0 ≡ q)
    own g q true is f = inr (sym (exact_bytes q e.0 (equal (name_cmp q e.0) is)))
    own g q false is f = inl (behind e.0 es (front _ _ sorted) q (Ino i) f)

    later : gives i e.1 ≡ false → First i names es x → (q : List ℕ) (b : Bool) → eq_by_cmp name_cmp q e.0 ≡ b → cond b (Some e.1) (find name_cmp q es) ≡ Some (Ino i) → (name_cmp x.0 q ≡ Less) ⊎ (x.0 ≡ q)
    later g r q true is f = not_given i e.1 g f
    later g r q false is f = r.before q f

    by : (find_in (λ e. gives i e.1) es ≡ Some x → First i names es x) → (b : Bool) → gives i e.1 ≡ b → cond b (Some e) (find_in (λ e. gives i e.1) es) ≡ Some x → First i names (e ∷ es) x
    by rest true g f = subst (First i names (e ∷ es)) (ap (entry_or e) f) (record { at = all.0 ∙ ap Some (gives_it i e.1 g); before = λ q. own g q (eq_by_cmp name_cmp q e.0) refl })
    by rest false g f = let r = rest f in record { at = r.at; before = λ q. later g r q (eq_by_cmp name_cmp q e.0) refl }

none_among : (i : ℕ) (es : List (List ℕ × NameEntry)) → find_in (λ e. gives i e.1) es ≡ None → (q : List ℕ) → find name_cmp q es ≡ Some (Ino i) → ⊥
none_among i [] none q e = absurd (let clash : None ≡ Some (Ino i) = e in cc)
none_among i (x ∷ es) none q e = by (λ rest f. none_among i es rest q f) (gives i x.1) refl none
  where
    here : (find name_cmp q es ≡ Some (Ino i) → ⊥) → gives i x.1 ≡ false → (b : Bool) → cond b (Some x.1) (find name_cmp q es) ≡ Some (Ino i) → ⊥
    here later g true f = not_given i x.1 g f
    here later g false f = later f

    by : (find_in (λ e. gives i e.1) es ≡ None → find name_cmp q es ≡ Some (Ino i) → ⊥) → (b : Bool) → gives i x.1 ≡ b → cond b (Some x) (find_in (λ e. gives i e.1) es) ≡ None → ⊥
    by later true g f = absurd (let clash : Some x ≡ None = f in cc)
    by later false g f = here (later f) g (eq_by_cmp name_cmp q x.0) e

one_name : (j k : List ℕ) → (name_cmp j k ≡ Less) ⊎ (j ≡ k) → (name_cmp k j ≡ Less) ⊎ (k ≡ j) → j ≡ k
one_name j k (inr e) b = e
one_name j k (inl p) (inr e) = sym e
one_name j k (inl p) (inl q) = absurd (let clash : Less ≡ Equal = sym (nat_list_cmp_total.trans j k j p q) ∙ tied_itself nat_list_cmp_total j in cc)

-- the same names give the node in both
module _ (i : ℕ) (a b : Names) (to : (m : List ℕ) → get a m ≡ Some (Ino i) → get b m ≡ Some (Ino i)) (from : (m : List ℕ) → get b m ≡ Some (Ino i) → get a m ≡ Some (Ino i)) where
  abbrev first : Names → Option (List ℕ × NameEntry)
  first names = find_in (λ e. gives i e.1) (entries names)

  first_is : (names : Names) (x : List ℕ × NameEntry) → first names ≡ Some x → First i names (entries names) x
  first_is names x e = first_among i names (entries names) (all_given name_cmp nat_list_cmp_total names) (entries_sorted names) x e

  found : (names : Names) (m : List ℕ) → get names m ≡ Some (Ino i) → find name_cmp m (entries names) ≡ Some (Ino i)
  found names m e = sym (get-entries names m) ∙ e

  by : (o r : Option (List ℕ × NameEntry)) → first a ≡ o → first b ≡ r → option_map (λ e. e.0) o ≡ option_map (λ e. e.0) r
  by (Some x) (Some y) p q =
      let f = first_is a x p in
      let g = first_is b y q in
      ap Some (one_name x.0 y.0 (f.before y.0 (found a y.0 (from y.0 g.at))) (g.before x.0 (found b x.0 (to x.0 f.at))))
  by (Some x) None p q = absurd (none_among i (entries b) q x.0 (found b x.0 (to x.0 (first_is a x p).at)))
  by None (Some y) p q = absurd (none_among i (entries a) p y.0 (found a y.0 (from y.0 (first_is b y q).at)))
  by None None p q = refl

  same_first : name_in i a ≡ name_in i b
  same_first = by (first a) (first b) refl refl

-- ---- nodes

names_are : (m : List ℕ) (o : Option Node) → get (names_in o) m ≡ entry_in m o
names_are m (Some (Dir parent opaque names)) = refl
names_are m (Some (File bytes)) = get-empty {X = NameEntry} name_cmp m
names_are m (Some (Link target)) = get-empty {X = NameEntry} name_cmp m
names_are m None = get-empty {X = NameEntry} name_cmp m

no_names : (i : ℕ) → name_in i empty ≡ None
no_names i = ap (λ (es : List (List ℕ × NameEntry)). option_map (λ e. e.0) (find_in (λ e. gives i e.1) es)) (entries-empty {X = NameEntry} name_cmp)

by_names : (i : ℕ) (o : Option Node) → name_by i o ≡ name_in i (names_in o)
by_names i (Some (Dir parent opaque names)) = refl
by_names i (Some (File bytes)) = sym (no_names i)
by_names i (Some (Link target)) = sym (no_names i)
by_names i None = sym (no_names i)

-- the first name for a node is the same where the same names give it
pub same_name_by : (i : ℕ) (o r : Option Node) → ((m : List ℕ) → entry_in m o ≡ Some (Ino i) → entry_in m r ≡ Some (Ino i)) → ((m : List ℕ) → entry_in m r ≡ Some (Ino i) → entry_in m o ≡ Some (Ino i)) → name_by i o ≡ name_by i r
same_name_by i o r to from =
    by_names i o
    ∙ same_first i (names_in o) (names_in r) (λ m e. names_are m r ∙ to m (sym (names_are m o) ∙ e)) (λ m e. names_are m o ∙ from m (sym (names_are m r) ∙ e))
    ∙ sym (by_names i r)

-- there is none where none gives it
pub no_name_by : (i : ℕ) (o : Option Node) → ((m : List ℕ) → entry_in m o ≡ Some (Ino i) → ⊥) → name_by i o ≡ None
no_name_by i o none = same_name_by i o None (λ m e. absurd (none m e)) (λ m e. absurd (let clash : None ≡ Some (Ino i) = e in cc))
