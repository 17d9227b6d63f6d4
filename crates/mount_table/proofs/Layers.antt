-- On which mounts a mount stands, by the layers of seats.
use Rattle.std.proofs.Common.{ℕ, zero, suc, Bool, true, false, ◌≡◌, ◌≢◌, ◌<◌, ◌==◌, ◌||◌, List, [], ◌∷◌, get_or, refl, ap, sym, ◌∙◌, inl, inr, arith, All}
use Rattle.std.specs.Prelude.{Option, Some, None}
use Rattle.std.specs.List.{list_any}
use Rattle.std.specs.Ordering.{nat_cmp}
use Rattle.std.specs.Cmp.{nat_cmp_total}
use Rattle.std.specs.FinMap.{get, find, get-from_entries}
use Rattle.std.proofs.lemmas.Bool.{cases_eq}
use Rattle.vfs_tree.specs.declared.mount.MountKind.{MountKind}
use Rattle.vfs_tree.specs.Mounts.{Mounts, layers, layers_at, stands_within, stands_on}
use Rattle.mount_table.specs.declared.seat.Seat.{Seat}
use Rattle.mount_table.specs.Seats.{numbered, mounts_in, layers_of, AreLower, IsPlace}
use Rattle.mount_table.proofs.Entries.{key_yes, key_no}
use Rattle.mount_table.proofs.Order.{found_at, none_at}

-- two tests that agree on the elements of a list
any_same : (bound : ℕ) (p q : ℕ → Bool) (ls : List ℕ) → All (λ l. l < bound) ls → ((l : ℕ) → l < bound → p l ≡ q l) → list_any p ls ≡ list_any q ls
any_same bound p q [] all same = refl
any_same bound p q (l ∷ ls) all same =
    ap (λ b. b || list_any p ls) (same l (all 0 0 (omega arith)))
    ∙ ap (λ b. q l || b) (any_same bound p q ls (λ k d h. all (suc k) d (omega arith)) same)

any_equal : (p q : ℕ → Bool) (ls : List ℕ) → ((l : ℕ) → p l ≡ q l) → list_any p ls ≡ list_any q ls
any_equal p q [] same = refl
any_equal p q (l ∷ ls) same = ap (λ b. b || list_any p ls) (same l) ∙ ap (λ b. q l || b) (any_equal p q ls same)

-- mounts with the same layers stand on the same
within_same : (k : ℕ) (m n : Mounts) (b : ℕ) → ((a : ℕ) → layers_at (get m a) ≡ layers_at (get n a)) → (a : ℕ) → stands_within k m a b ≡ stands_within k n a b
within_same zero m n b same a = refl
within_same (suc k) m n b same a =
    ap (list_any (λ l. (l == b) || stands_within k m l b)) (same a)
    ∙ any_equal (λ l. (l == b) || stands_within k m l b) (λ l. (l == b) || stands_within k n l b) (layers_at (get n a)) (λ l. ap (λ x. (l == b) || x) (within_same k m n b same l))

pub stands_same : (m n : Mounts) (a b : ℕ) → ((a : ℕ) → layers_at (get m a) ≡ layers_at (get n a)) → stands_on m a b ≡ stands_on n a b
stands_same m n a b same = within_same (suc a) m n b same a

-- more steps than a mount's number find nothing more
enough : (mounts : Mounts) (b : ℕ) → ((a : ℕ) → All (λ l. l < a) (layers_at (get mounts a))) → (j k a : ℕ) → a < j → a < k → stands_within j mounts a b ≡ stands_within k mounts a b
enough mounts b lower zero k a h i = absurd (omega arith)
enough mounts b lower (suc j) zero a h i = absurd (omega arith)
enough mounts b lower (suc j) (suc k) a h i =
    any_same a (λ l. (l == b) || stands_within j mounts l b) (λ l. (l == b) || stands_within k mounts l b) (layers_at (get mounts a)) (lower a)
    (λ l below. ap (λ x. (l == b) || x) (enough mounts b lower j k l (omega arith) (omega arith)))

-- a mount stands on another where one of its layers is it, or stands on it
pub stands_by : (mounts : Mounts) (a b : ℕ) → ((a : ℕ) → All (λ l. l < a) (layers_at (get mounts a)))
    → stands_on mounts a b ≡ list_any (λ l. (l == b) || stands_on mounts l b) (layers_at (get mounts a))
stands_by mounts a b lower =
    any_same a (λ l. (l == b) || stands_within a mounts l b) (λ l. (l == b) || stands_on mounts l b) (layers_at (get mounts a)) (lower a)
    (λ l below. ap (λ x. (l == b) || x) (enough mounts b lower a (suc l) l below (omega arith)))

-- ---- the layers of seats

abbrev pub or_none : Option (List ℕ) → List ℕ
or_none (Some ls) = ls
or_none None = []

find_layers : (seats : List Seat) (n : ℕ) → layers_at (find nat_cmp n (numbered (λ seat. seat.mount) seats)) ≡ or_none (find nat_cmp n (layers_of seats))
find_layers [] n = refl
find_layers (seat ∷ rest) n = elim (cases_eq n seat.mount.number) [
  | inl e ↦ rw (key_yes n seat.mount.number e) refl
  | inr m ↦ rw (key_no n seat.mount.number m) (find_layers rest n)
]

pub layers_in : (seats : List Seat) (n : ℕ) → layers_at (get (mounts_in seats) n) ≡ or_none (find nat_cmp n (layers_of seats))
layers_in seats n = ap layers_at (get-from_entries nat_cmp_total (numbered (λ seat. seat.mount) seats) n) ∙ find_layers seats n

-- seats with the same layers
pub stands_alike : (now old : List Seat) (a b : ℕ) → layers_of now ≡ layers_of old → stands_on (mounts_in now) a b ≡ stands_on (mounts_in old) a b
stands_alike now old a b same = stands_same (mounts_in now) (mounts_in old) a b (λ n. layers_in now n ∙ (ap (λ ls. or_none (find nat_cmp n ls)) same ∙ sym (layers_in old n)))

lower_found : (seats : List Seat) (n : ℕ) → AreLower seats → All (λ l. l < n) (or_none (find nat_cmp n (layers_of seats)))
lower_found [] n lower = λ k d h. absurd (omega arith)
lower_found (seat ∷ rest) n lower = elim (cases_eq n seat.mount.number) [
  | inl e ↦ rw (key_yes n seat.mount.number e) (rw e lower.0)
  | inr m ↦ rw (key_no n seat.mount.number m) (lower_found rest n lower.1)
]

pub lower_in : (seats : List Seat) → AreLower seats → (n : ℕ) → All (λ l. l < n) (layers_at (get (mounts_in seats) n))
lower_in seats lower n = rw (layers_in seats n) (lower_found seats n lower)

-- where a mount stands, by its seat
pub stands_at : (seats : List Seat) (a b at : ℕ) (d : Seat) (kind : MountKind) → AreLower seats → IsPlace seats a at → (get_or seats at d).mount.kind ≡ kind
    → stands_on (mounts_in seats) a b ≡ list_any (λ l. (l == b) || stands_on (mounts_in seats) l b) (layers kind)
stands_at seats a b at d kind lower place is =
    let found = layers_in seats a ∙ ap or_none (found_at (λ seat. layers seat.mount.kind) seats a at d place) in
    stands_by (mounts_in seats) a b (lower_in seats lower) ∙ ap (list_any (λ l. (l == b) || stands_on (mounts_in seats) l b)) (found ∙ ap layers is)

pub smaller_at : (seats : List Seat) (a at : ℕ) (d : Seat) (kind : MountKind) → AreLower seats → IsPlace seats a at → (get_or seats at d).mount.kind ≡ kind
    → All (λ l. l < a) (layers kind)
smaller_at seats a at d kind lower place is =
    rw (layers_in seats a ∙ (ap or_none (found_at (λ seat. layers seat.mount.kind) seats a at d place) ∙ ap layers is)) at (lower_in seats lower a)

pub stands_nowhere : (seats : List Seat) (a b : ℕ) → AreLower seats → All (λ seat. seat.mount.number ≢ a) seats → stands_on (mounts_in seats) a b ≡ false
stands_nowhere seats a b lower none =
    stands_by (mounts_in seats) a b (lower_in seats lower)
    ∙ ap (list_any (λ l. (l == b) || stands_on (mounts_in seats) l b)) (layers_in seats a ∙ ap or_none (none_at (λ seat. layers seat.mount.kind) seats a none))

-- a layer is the mount that is asked for, or it isn't
pub hit : (x b : ℕ) (s r : Bool) → x ≡ b → (((x == b) || s) || r) ≡ true
hit x b s r e = let yes : (x == b) ≡ true = grind arith in ap (λ t. (t || s) || r) yes

pub miss : (x b : ℕ) (s r : Bool) → x ≢ b → (((x == b) || s) || r) ≡ (s || r)
miss x b s r n = let no : (x == b) ≡ false = grind arith in ap (λ t. (t || s) || r) no

pub or_none_else : (s : Bool) → (s || false) ≡ s
or_none_else true = refl
or_none_else false = refl

-- a layer stands on it, or doesn't
pub reached : (x b : ℕ) (s r : Bool) → s ≡ true → (((x == b) || s) || r) ≡ true
reached x b s r h = ap (λ t. ((x == b) || t) || r) h ∙ over (x == b) r
  where
    over : (t r : Bool) → ((t || true) || r) ≡ true
    over true r = refl
    over false r = refl

pub passed_by : (x b : ℕ) (s r : Bool) → x ≢ b → s ≡ false → (((x == b) || s) || r) ≡ r
passed_by x b s r n h = miss x b s r n ∙ ap (λ t. t || r) h
