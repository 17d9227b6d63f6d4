-- What contracts see of a table of mounts.
use Rattle.std.specs.Prelude.{ℕ, ◌+◌, false, Some, IsSome, All, refl}
use Rattle.std.specs.Ordering.{nat_cmp}
use Rattle.std.specs.FinMap.{FinMap, get, insert, empty, code}
use Rattle.std.specs.Coded.{Coded, code_by, coded×, coded_ℕ}
use Rattle.vfs_tree.specs.Place.{Seen}
use Rattle.vfs_tree.specs.Start.{root_mount}
use Rattle.vfs_tree.specs.Mounts.{Mounts, Leaving, layers}
use Rattle.vfs_tree.specs.declared.mount.Mount.{Mount}
use Rattle.vfs_tree.specs.declared.mount.MountKind.{MountKind}

-- the mounts by number, by caller the mount that the caller is leaving, the number of the next mount, the slot of each
-- mount by its number, and how many mounts there may be
pub record Table : Type 0 where
  pub mounts : Mounts
  pub leaving : Leaving
  pub next_mount : ℕ
  pub slots : FinMap nat_cmp ℕ
  pub most : ℕ

-- the code of a table
abbrev pub table_code : Coded Mount → Coded Table
table_code mount =
    code_by (Mounts × (Leaving × (ℕ × (Leaving × ℕ))))
    (coded× (code coded_ℕ mount) (coded× (code coded_ℕ coded_ℕ) (coded× coded_ℕ (coded× (code coded_ℕ coded_ℕ) coded_ℕ))))
    (λ t. (t.mounts, (t.leaving, (t.next_mount, (t.slots, t.most)))))
    (λ p. record { mounts = p.0; leaving = p.1.0; next_mount = p.1.1.0; slots = p.1.1.1.0; most = p.1.1.1.1 })
    (λ _. refl)

-- the table at the start: mount 0 alone, in slot 0
abbrev pub start_table : ℕ → Table
start_table most = record { mounts = insert empty 0 root_mount; leaving = empty; next_mount = 1; slots = insert empty 0 0; most = most }

-- a new mount
abbrev pub new_mount : ℕ → MountKind → Seen → Mount
new_mount number kind on = record { number = number; kind = kind; on = Some on; cut = false }

-- the table with a new mount in a slot
abbrev pub with_mount : MountKind → Seen → ℕ → Table → Table
with_mount kind on slot table = record table {
  mounts = insert table.mounts table.next_mount (new_mount table.next_mount kind on);
  next_mount = table.next_mount + 1;
  slots = insert table.slots table.next_mount slot;
}

-- each layer of a mount of that kind lies in a mount that is there
abbrev pub HasLayers : MountKind → Mounts → Type 0
HasLayers kind mounts = All (λ layer. IsSome (get mounts layer)) (layers kind)
