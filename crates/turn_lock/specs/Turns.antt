-- The rule of the lock.
-- Each atomic step keeps it, whatever the other passes did before.
-- Word 0 is the next ticket, word 1 the ticket that is served, and word 2 the length of the value's list. Slot 0 holds the value while it is at home.
use Rattle.std.specs.Prelude.{◌≡◌, ℕ, zero, suc, ◌^◌, ◌<◌, ◌≤◌, ◌⊎◌, Bool, true, false, List, [], ◌∷◌, length, Option, Some, None}
use mathlib.Core.Option.{some, none}
use mathlib.Core.Option as maybe
use lib.ListN.{get_elem?}
use Rattle.atomic_table.specs.Table.{State}
use Rattle.turn_lock.specs.declared.view.View.{View}
use Rattle.turn_lock.specs.Known.{StartsWith, part_in, is_in}

-- slot 0: the value is out with a pass, or at home
abbrev pub homes_at : {T : Type 0} → Bool → T → List (maybe.Option (Option T))
homes_at true y = none ∷ []
homes_at false y = some (Some y) ∷ []

-- the view of the pass j exists, and P is true of it
abbrev pub At : {W : Type 0} → (W → Type 0) → List W → ℕ → Type 0
At {W} P views j = (v : W) × (get_elem? views j ≡ some v) × P v

-- the numbers 1 to n with these parts
abbrev pub parts_to : {Q : Type 0} → (ℕ → Q) → ℕ → List (ℕ × Q)
parts_to part zero = []
parts_to part (suc n) = (suc n, part (suc n)) ∷ parts_to part n

-- what is left of a pass that was joined to another: no number and no ticket
abbrev pub spent_view : {T E F Q : Type 0} → View T E F Q
spent_view = record { seen = []; heard = []; fixed = None; ticket = None; out = None; mine = [] }

-- the first pass has seen the list of the first value, and has the numbers 1 to n
abbrev pub first_view : {T E F Q : Type 0} → (T → List E) → (T → F) → (T → ℕ → Q) → T → ℕ → View T E F Q
first_view list fixed part y n = record { seen = list y; heard = []; fixed = Some (fixed y); ticket = None; out = None; mine = parts_to (part y) n }

module _ {T E F Q : Type 0} (list : T → List E) (part : T → ℕ → Q) (kept_fixed : F) (top : ℕ) where
  -- what the pass j knows, where `cur` is the value or, while it is out, what its holder counted last
  -- `saw` and `heard` begin the list, its ticket is still to be served and is its own, its value is `cur`, its numbers are its own and their parts are those of `cur`, and only a spent pass has no number
  pub record Knows (cur : T) (owner keeper : ℕ → ℕ) (serving next : ℕ) (out : Bool) (j : ℕ) (v : View T E F Q) : Type 0 where
    pub saw : StartsWith (list cur) v.seen
    pub heard : StartsWith (list cur) v.heard
    pub same : (f : F) → v.fixed ≡ Some f → f ≡ kept_fixed
    pub drew : (n : ℕ) → v.ticket ≡ Some n → (serving ≤ n) × (n < next) × (owner n ≡ j)
    pub has : (y : T) → v.out ≡ Some y → (y ≡ cur) × (v.ticket ≡ Some serving) × (out ≡ true) × (v.seen ≡ list cur)
    pub owns : (n : ℕ) (q : Q) → part_in n v.mine ≡ Some q → (keeper n ≡ j) × (q ≡ part cur n) × (0 < n) × (n ≤ top)
    pub live : (v ≡ spent_view) ⊎ (0 < length v.mine)

module _ {T E F Q : Type 0} (list : T → List E) (fixed : T → F) (part : T → ℕ → Q) (kept_fixed : F) (top : ℕ) where
  -- the whole: words and slot, and what each pass knows;
  -- `owner` says whose ticket a number from `serving` up to below `next` is, and `keeper` which pass has a number from 1 to `top`
  pub record Turns (s : State (Option T) (View T E F Q)) : Type 0 where
    pub cur : T
    pub owner : ℕ → ℕ
    pub keeper : ℕ → ℕ
    pub next : ℕ
    pub serving : ℕ
    pub count : ℕ
    pub out : Bool
    pub words_are : s.words ≡ next ∷ serving ∷ count ∷ []
    pub homes_are : s.homes ≡ homes_at out cur
    pub ordered : serving ≤ next
    pub fits : next < 2 ^ 64
    pub counted : count ≡ length (list cur)
    pub fixed_is : fixed cur ≡ kept_fixed
    pub holder : out ≡ true → At (λ v. v.out ≡ Some cur) s.views (owner serving)
    pub drawn : (n : ℕ) → serving ≤ n → n < next → At (λ v. v.ticket ≡ Some n) s.views (owner n)
    pub kept : (n : ℕ) → 0 < n → n ≤ top → At (λ v. is_in n v.mine ≡ true) s.views (keeper n)
    pub each : (j : ℕ) (v : View T E F Q) → get_elem? s.views j ≡ some v → Knows list part kept_fixed top cur owner keeper serving next out j v
