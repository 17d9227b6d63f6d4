-- What is known of how many names of a store give its nodes.
use Rattle.std.specs.Prelude.{ℕ, ◌+◌, ◌-◌, ◌^◌, ◌≤◌, ◌≡◌, min, Bool, true, not, ◌&&◌, nat_lt, Option, Some, None, cond}
use Rattle.std.specs.FinMap.{get, insert}
use Rattle.vfs_tree.specs.Counts.{times}
use Rattle.vfs_tree.specs.declared.name_counts.NameCounts.{NameCounts}
use Rattle.vfs_tree.specs.declared.node.NameEntry.{NameEntry}
use Rattle.vfs_tree.specs.declared.node.NameEntry.TheVariants.{Ino, White}
use Rattle.vfs_tree.specs.declared.node.Store.{Store}

-- how many names give a node, where that is known
abbrev pub known_of : NameCounts → ℕ → Option ℕ
known_of c i = cond c.sure (get c.known i) None

-- nothing is known, where that is said
abbrev pub unsure_if : Bool → NameCounts → NameCounts
unsure_if does c = record c { sure = c.sure && not does }

-- the greatest count that is kept
abbrev pub most_names : ℕ
most_names = 2 ^ 64 - 1

abbrev pub raised_by : Option ℕ → NameCounts → ℕ → NameCounts
raised_by (Some n) c i = record { known = insert c.known i (min (n + 1) most_names); sure = c.sure && nat_lt n most_names }
raised_by None c i = c

-- one name more gives a node of a store with that next number
abbrev pub raised : ℕ → NameCounts → ℕ → NameCounts
raised next c i = raised_by (get c.known i) (record c { sure = c.sure && nat_lt i next }) i

abbrev pub lowered_by : Option ℕ → NameCounts → ℕ → NameCounts
lowered_by (Some n) c i = record c { known = insert c.known i (n - 1) }
lowered_by None c i = c

-- one name fewer gives a node
abbrev pub lowered : NameCounts → ℕ → NameCounts
lowered c i = lowered_by (get c.known i) c i

-- a name has an entry from now on
abbrev pub raised_for : ℕ → NameCounts → NameEntry → NameCounts
raised_for next c (Ino i) = raised next c i
raised_for next c White = c

-- a name doesn't have an entry any more
abbrev pub lowered_for : NameCounts → Option NameEntry → NameCounts
lowered_for c (Some (Ino i)) = lowered c i
lowered_for c (Some White) = c
lowered_for c None = c

-- a name that had one entry has another
abbrev pub replaced : ℕ → NameCounts → Option NameEntry → NameEntry → NameCounts
replaced next c before entry = lowered_for (raised_for next c entry) before

-- a new node has its first name, which had another entry
abbrev pub first_named : NameCounts → ℕ → Option NameEntry → NameCounts
first_named c i before = lowered_for (record c { known = insert c.known i 1 }) before

-- the counts that are known are those of the names, and no name gives the next number or one above
pub record AreRight (c : NameCounts) (f : ℕ → ℕ) (next : ℕ) : Type 0 where
  pub counts : (i n : ℕ) → get c.known i ≡ Some n → n ≡ f i
  pub beyond : (i : ℕ) → next ≤ i → f i ≡ 0

-- what is sure is right
abbrev pub AreSure : NameCounts → (ℕ → ℕ) → ℕ → Type 0
AreSure c f next = c.sure ≡ true → AreRight c f next

-- what is known of a store's names is right
abbrev pub AreCounts : NameCounts → Store → Type 0
AreCounts c t = AreSure c (times t.nodes) t.next
