-- What contracts see of a name cache: its entries, the most recently used first, and what they say.
use Rattle.std.specs.Prelude.{ℕ, ◌≡◌, ◌-◌, Bool, false, ◌&&◌, ◌||◌, ◌==◌, ◌⊎◌, nat_eq, not, cond, List, ◌∷◌, length, take, Option, None, Some}
use Rattle.std.specs.Option.{option_map_or}
use Rattle.std.specs.Cmp.Lexicographic.{pointwise}
use Rattle.std.specs.Map.{lookup, lookup_entry, remove_entry}
use Rattle.lru.specs.LruCache.{last_entry}
use Rattle.op_vector.specs.declared.data.Vid.{Vid}

-- a directory and a name
abbrev pub Place : Type 0
Place = Vid × List ℕ

-- an entry: the vnode that the name gives in the directory, or none where it is known to be absent
abbrev pub Entry : Type 0
Entry = Place × Option Vid

-- whether two numbers are one vnode's
abbrev pub same_vid : Vid → Vid → Bool
same_vid a b = (a.slot == b.slot) && (a.generation == b.generation)

-- whether a key is this directory and name
abbrev pub is_place : Vid → List ℕ → Place → Bool
is_place dir name p = same_vid dir p.0 && pointwise nat_eq name p.1

-- what the entries say of a directory and a name: nothing, or the vnode that the name gives, or that it is absent
abbrev pub says : List Entry → Vid → List ℕ → Option (Option Vid)
says es dir name = lookup (is_place dir name) es

-- of each directory and name the same is said
abbrev pub SayTheSame : List Entry → List Entry → Type 0
SayTheSame before after = (dir : Vid) (name : List ℕ) → says after dir name ≡ says before dir name

-- what is said was said before, or is what the directory and the name were entered with
abbrev pub AddsAtMost : Vid → List ℕ → Option Vid → List Entry → List Entry → Type 0
AddsAtMost dir name what before after = (d : Vid) (n : List ℕ) (w : Option Vid) → says after d n ≡ Some w → (says before d n ≡ Some w) ⊎ ((d ≡ dir) × (n ≡ name) × (w ≡ what))

-- the entries after one was entered: a name that is there keeps its key, and else the last of 1024 goes
abbrev pub entered : Vid → List ℕ → Option Vid → List Entry → List Entry
entered dir name what es = option_map_or (λ e. (e.0, what) ∷ remove_entry (is_place dir name) es) (lookup_entry (is_place dir name) es) (((dir, name), what) ∷ take 1023 es)

-- whether what a name gives is the vnode
abbrev pub gives : Vid → Option Vid → Bool
gives vid None = false
gives vid (Some v) = same_vid vid v

-- whether an entry names the vnode neither as its directory nor as what its name gives
abbrev pub spares : Vid → Entry → Bool
spares vid e = not (same_vid vid e.0.0 || gives vid e.1)

-- what is left of what was said of a name in a directory, without a vnode
abbrev pub left_of : Vid → Vid → Option (Option Vid) → Option (Option Vid)
left_of vid dir None = None
left_of vid dir (Some what) = cond (not (same_vid vid dir || gives vid what)) (Some what) None

-- the key of an entry that doesn't name the vnode
abbrev pub spared : Vid → Option Entry → Option Place
spared vid None = None
spared vid (Some e) = cond (spares vid e) (Some e.0) None

-- the entries after the last of them was moved to the front, or was dropped where it fails the test
abbrev pub turned : (Entry → Bool) → List Entry → List Entry
turned p es = option_map_or (λ e. cond (p e) (e ∷ take (length es - 1) es) (take (length es - 1) es)) (last_entry es) es
