-- What each atomic step tells its pass, and what the calls make of these.
use Rattle.std.specs.Prelude.{◌≡◌, ◌≢◌, ℕ, false, not, nat_eq, filter, ◌++◌, List, [], ◌∷◌, map, length, ◌<◌, Option, Some, None}
use Rattle.atomic_table.specs.Table.{Me, Step, rest}
use Rattle.atomic_table.specs.declared.shared.Seat.{Seat}
use Rattle.turn_lock.specs.declared.view.View.{View}
use Rattle.turn_lock.specs.Known.{Known, StartsWith, longer, part_in, is_in}

-- the numbers with these parts
abbrev pub refreshed : {Q : Type 0} → (ℕ → Q) → List (ℕ × Q) → List (ℕ × Q)
refreshed part mine = map (λ e. (e.0, part e.0)) mine

-- all numbers but one
abbrev pub without_number : {Q : Type 0} → ℕ → List (ℕ × Q) → List (ℕ × Q)
without_number n mine = filter (λ e. not (nat_eq e.0 n)) mine

-- one number alone
abbrev pub only_number : {Q : Type 0} → ℕ → List (ℕ × Q) → List (ℕ × Q)
only_number n mine = filter (λ e. nat_eq e.0 n) mine

-- each number's part is the one that is known
abbrev pub AreKnown : {Q : Type 0} → (ℕ → Q) → List (ℕ × Q) → Type 0
AreKnown {Q} part mine = (n : ℕ) (q : Q) → part_in n mine ≡ Some q → part n ≡ q

-- no ticket and no slot is out with the pass, or the value alone, which was handed out
abbrev pub Rests : {T : Type 0} → Option T → Option ℕ → List (ℕ × Option T) → Type 0
Rests None ticket slots = (ticket ≡ None) × (slots ≡ [])
Rests (Some y) ticket slots = slots ≡ (0, None) ∷ []

module _ {T E F Q : Type 0} where
  -- what contracts see of a pass, by its seat at the table
  abbrev pub shown : Seat (Option T) (View T E F Q) → Known T E F Q
  shown s = record { table = s.table_id; fixed = s.me.0.fixed; seen = s.me.0.seen; parts = s.me.0.mine; held = s.me.0.out }

  -- between two calls: `count` is the length of what was seen, and there is a number
  pub record Settled (count : ℕ) (m : Me (Option T) (View T E F Q)) : Type 0 where
    pub counted : count ≡ length m.0.seen
    pub numbered : 0 < length m.0.mine
    pub rests : Rests m.0.out m.0.ticket m.1

  -- the view of a pass after a split, and of the pass that was cut off
  abbrev pub kept_view : ℕ → View T E F Q → View T E F Q
  kept_view n v = record v { mine = without_number n v.mine }

  abbrev pub given_view : ℕ → View T E F Q → View T E F Q
  given_view n v = record v { ticket = None; out = None; mine = only_number n v.mine }

  -- the view with the numbers of two passes, before what they have seen is compared
  abbrev pub both_view : View T E F Q → View T E F Q → View T E F Q
  both_view v w = record v { mine = v.mine ++ w.mine; heard = w.seen }

  -- the view once it is compared
  abbrev pub agreed_view : View T E F Q → View T E F Q
  agreed_view v = record v { seen = longer v.seen v.heard; heard = [] }

  -- both lists are beginnings of one, and the longer is kept
  abbrev pub agreed : Step (Option T) → Me (Option T) (View T E F Q) → ℕ → Me (Option T) (View T E F Q) → Type 0
  agreed st m r m' = (m' ≡ (agreed_view m.0, m.1)) × StartsWith (longer m.0.seen m.0.heard) m.0.seen × StartsWith (longer m.0.seen m.0.heard) m.0.heard

  -- the view with a ticket
  abbrev pub with_ticket : ℕ → View T E F Q → View T E F Q
  with_ticket n v = record v { ticket = Some n }

  -- where the word was the one expected it is the ticket, and else nothing changed
  abbrev pub drew : Step (Option T) → Me (Option T) (View T E F Q) → ℕ → Me (Option T) (View T E F Q) → Type 0
  drew st m r m' = (r ≡ st.first → m' ≡ (with_ticket r m.0, m.1)) × (r ≢ st.first → m' ≡ m)

  -- the view without its ticket and the value
  abbrev pub done : View T E F Q → View T E F Q
  done v = record v { ticket = None; out = None }

  -- the value is at home again
  abbrev pub passed : Step (Option T) → Me (Option T) (View T E F Q) → ℕ → Me (Option T) (View T E F Q) → Type 0
  passed st m r m' = m' ≡ (done m.0, rest m.1)

  -- it has a number, and no ticket
  abbrev pub IsIdle : Me (Option T) (View T E F Q) → Type 0
  IsIdle m = (m.0.ticket ≡ None) × (m.0.out ≡ None) × (m.1 ≡ []) × (0 < length m.0.mine)

  -- it has the turn, and the value y was handed out
  abbrev pub Holds : T → Me (Option T) (View T E F Q) → Type 0
  Holds y m = (m.0.out ≡ Some y) × (m.1 ≡ (0, None) ∷ [])

  module _ (list : T → List E) (fixed : T → F) (part : T → ℕ → Q) where
    -- the view that takes the value y
    abbrev pub taking : T → View T E F Q → View T E F Q
    taking y v = record v { seen = list y; out = Some y }

    -- the pass took the value y, which agrees with all that the pass knew
    abbrev pub Took : Me (Option T) (View T E F Q) → Me (Option T) (View T E F Q) → Type 0
    Took m m' = (y : T) × (m' ≡ (taking y m.0, (0, Some y) ∷ m.1)) × StartsWith (list y) m.0.seen × ((f : F) → m.0.fixed ≡ Some f → fixed y ≡ f) × AreKnown (part y) m.0.mine

    -- where the ticket is served, the pass took the value
    abbrev pub looked : Step (Option T) → Me (Option T) (View T E F Q) → ℕ → Me (Option T) (View T E F Q) → Type 0
    looked st m r m' = (m.0.ticket ≡ Some r → Took m m') × (m.0.ticket ≢ Some r → m' ≡ m)

    -- the value y was handed out: its list begins with what had been seen, and its fixed data and the parts are those that were known
    pub record Entered (m m' : Me (Option T) (View T E F Q)) (y : T) : Type 0 where
      pub holds : Holds y m'
      pub seen : m'.0.seen ≡ list y
      pub same : (m'.0.fixed ≡ m.0.fixed) × (m'.0.mine ≡ m.0.mine)
      pub later : StartsWith (list y) m.0.seen
      pub fixed_is : (f : F) → m.0.fixed ≡ Some f → fixed y ≡ f
      pub parts : AreKnown (part y) m.0.mine

    -- the value y may be given back
    pub record MayLeave (m : Me (Option T) (View T E F Q)) (y : T) : Type 0 where
      pub out : T
      pub holds : Holds out m
      pub later : StartsWith (list y) m.0.seen
      pub fixed_is : m.0.fixed ≡ Some (fixed y)
      pub others : (n : ℕ) → is_in n m.0.mine ≡ false → part y n ≡ part out n

    -- the value y was given back
    pub record Left (m m' : Me (Option T) (View T E F Q)) (y : T) : Type 0 where
      pub idle : (m'.0.ticket ≡ None) × (m'.0.out ≡ None) × (m'.1 ≡ [])
      pub seen : m'.0.seen ≡ list y
      pub fixed_is : m'.0.fixed ≡ m.0.fixed
      pub mine : m'.0.mine ≡ refreshed (part y) m.0.mine

  module _ (list : T → List E) (part : T → ℕ → Q) where
    -- the view that gives the value y in place of the one that was handed out
    abbrev pub recount : T → View T E F Q → View T E F Q
    recount y v = record v { seen = list y; out = Some y; mine = refreshed (part y) v.mine }

    -- the value in the slot is the one that counts from now on
    abbrev pub recounted : Step (Option T) → Me (Option T) (View T E F Q) → ℕ → Me (Option T) (View T E F Q) → Type 0
    recounted st m r m' = (y : T) → m.1 ≡ (0, Some y) ∷ [] → m' ≡ (recount y m.0, m.1)

  -- the pass has what both had, and has seen the longer of their lists, which the other begins
  pub record Joined (m o m' : Me (Option T) (View T E F Q)) : Type 0 where
    pub seen : m'.0.seen ≡ longer m.0.seen o.0.seen
    pub later : StartsWith m'.0.seen m.0.seen × StartsWith m'.0.seen o.0.seen
    pub mine : m'.0.mine ≡ m.0.mine ++ o.0.mine
    pub fixed_is : m'.0.fixed ≡ m.0.fixed
    pub idle : (m'.0.ticket ≡ None) × (m'.0.out ≡ None) × (m'.1 ≡ [])
