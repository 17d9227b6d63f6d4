-- The descriptor that open(2) answers.
use Rattle.std.proofs.Common.{◌≡◌, ℕ, zero, suc, ◌+◌, ◌≤◌, ◌<◌, inl, inr, Bool, true, false, not, List, [], refl, ap, sym, ◌∙◌, subst, arith, eq-or-lt_of_le}
use Rattle.std.specs.Prelude.{Option, Some, None, IsSome, is_some, nat_lt, ◌&&◌}
use Rattle.std.specs.FinMap.{get, len}
use Rattle.finite_maps.proofs.EntryLaws.{pair_total, get_at-insert}
use Rattle.vfs_tree.specs.Layers.{is_dir}
use Rattle.vfs_tree.specs.Place.{Seen}
use Rattle.vfs_tree.specs.Views.{facts_of}
use Rattle.vfs_tree.specs.declared.node.Node.TheVariants.{File}
use Rattle.vfs_tree.specs.declared.open.Open.{Open}
use Rattle.vfs_tree.specs.declared.walk.Found.{Found}
use Rattle.vfs_tree.specs.declared.walk.Found.TheVariants as found
use Rattle.vfs_tree.specs.declared.walk.Step.TheVariants.{Go, Refuse, Wants}
use Rattle.vfs_tree.specs.declared.world.World.{World}
use Rattle.call_model.specs.Apply.{Applied, Finished, Needs, settle, apply}
use Rattle.call_model.specs.Checks.{Outcome, is_full, upper_store, make_at}
use Rattle.call_model.specs.DataRows as rows
use Rattle.call_model.specs.NameEdits.{is_fail}
use Rattle.call_model.specs.Rows.{first_found, row}
use Rattle.call_model.specs.declared.call.Call.TheVariants as call
use Rattle.call_model.specs.declared.call.Flags.{Flags}
use Rattle.call_model.specs.declared.reply.Reply.{Reply}
use Rattle.call_model.specs.declared.reply.Reply.TheVariants as reply
use Rattle.call_laws.proofs.NamedLaws.{no_way}
use Rattle.call_laws.proofs.Parts.{Keeps, found_so, refused, needed, weaker, then, unless}
use Rattle.call_laws.proofs.SoundRows.{AnyNeed}
use Rattle.model_laws.proofs.Leaving.{past, in-row}
use Rattle.fuel_laws.specs.Lowest.{IsLowestFree, IsJustOpened}

-- ---- free descriptors

-- the first free one of so many from one on
pub record IsFirst (w : World) (c d k fd : ℕ) : Type 0 where
  pub least : d ≤ fd
  pub most : fd < d + k
  pub free : get w.opens (c, fd) ≡ None
  pub taken : (e : ℕ) → d ≤ e → e < fd → IsSome (get w.opens (c, e))

not_there : (o : Option Open) → is_some o ≡ false → o ≡ None
not_there (Some x) h = no_way (sym h)
not_there None h = refl

module _ (w : World) (c : ℕ) where
  first_next : (d k fd : ℕ) → is_some (get w.opens (c, d)) ≡ true → IsFirst w c (d + 1) k fd → IsFirst w c d (suc k) fd
  first_next d k fd there h =
      let least : d + 1 ≤ fd = h.least in
      let most : fd < (d + 1) + k = h.most in
      record {
        least = omega (arith, least);
        most = omega (arith, most);
        free = h.free;
        taken = λ e from less. elim (eq-or-lt_of_le from) as (λ _. IsSome (get w.opens (c, e))) [
          | inl same ↦ subst (λ x. IsSome (get w.opens (c, x))) same there
          | inr more ↦ h.taken e (omega (arith, more)) less
        ];
      }

  first_here : (d k : ℕ) → is_some (get w.opens (c, d)) ≡ false → IsFirst w c d (suc k) d
  first_here d k free = record {
    least = omega arith;
    most = omega arith;
    free = not_there (get w.opens (c, d)) free;
    taken = λ e from less. absurd (omega (arith, from, less));
  }

  pub first_free : (k d : ℕ) → Keeps (IsFirst w c d k) AnyNeed (rows.free_from k w c d)
  first_free zero d = refused
  first_free (suc k) d =
      elim (is_some (get w.opens (c, d))) as (λ b. is_some (get w.opens (c, d)) ≡ b → Keeps (IsFirst w c d (suc k)) AnyNeed (rows.free_case (rows.free_from k w c (d + 1)) d b)) [
        | true ↦ λ there. weaker (rows.free_from k w c (d + 1)) (λ fd h. first_next d k fd there h) (λ _ n. n) (first_free k (d + 1))
        | false ↦ λ free. found_so (first_here d k free)
      ] refl

-- ---- the row

-- what an open leaves and answers
record Opens (w : World) (c : ℕ) (f : Flags) (x : World × Reply) : Type 0 where
  pub fd : ℕ
  pub reply : x.1 ≡ reply.Fd fd
  pub first : IsFirst w c 0 32 fd
  pub opened : IsJustOpened x.0 c fd f

just : (w : World) (c fd : ℕ) (f : Flags) (p : Seen) → IsJustOpened (rows.open_place w c fd f p) c fd f
just w c fd f p = record { file = record { place = p; offset = 0; mode = rows.mode_of f; dead = false }; at = get_at-insert pair_total w.opens (c, fd) _; start = refl; mode = refl; alive = refl }

module _ (w : World) (c : ℕ) (f : Flags) where
  opens_so : (fd : ℕ) → IsFirst w c 0 32 fd → (v : World) (p : Seen) → Opens w c f (rows.open_place v c fd f p, reply.Fd fd)
  opens_so fd first v p = record { fd = fd; reply = refl; first = first; opened = just v c fd f p }

  open_found : (fd : ℕ) → IsFirst w c 0 32 fd → (a : Found) → Keeps (Opens w c f) AnyNeed (rows.open_found w c fd f a)
  open_found fd first (found.At p) =
      unless (is_dir (facts_of w) p && rows.writes f.access) _ (λ _.
      unless (not (is_dir (facts_of w) p) && f.dir) _ (λ _.
      past (rows.copied_for (rows.writes f.access) w p) (λ _. found_so (opens_so fd first (rows.cut_to f.cut w p) p))))
  open_found fd first (found.In d n None) = past (make_at w d n (File [])) (λ new. found_so (opens_so fd first new _))
  open_found fd first (found.In d n (Some p)) = refused
  open_found fd first (found.Dot d) = refused
  open_found fd first (found.Mount m) = refused
  open_found fd first (found.Refused e) = refused
  open_found fd first (found.Need x) = unless (is_full w (upper_store w x.mount)) _ (λ _. needed tt)

  open_file : (a : Found) → Keeps (Opens w c f) AnyNeed (rows.open_file w c f a)
  open_file a =
      unless (not (rows.are_flags f)) _ (λ _.
      then (rows.free_descriptor w c) (first_free w c 32 0) (λ fd first.
      unless (not (nat_lt (len w.opens) w.limits.files)) _ (λ _. open_found fd first a)))

  open_row : (text : List ℕ) → Keeps (Opens w c f) AnyNeed (row w c (call.Open text f))
  open_row text = in-row (Opens w c f) w c (call.Open text f) (open_file (first_found w c (call.Open text f)))

-- ---- what is answered

abbrev world_or : World → Applied → World
world_or w (Finished v r) = v
world_or w (Needs x) = w

abbrev reply_or : Applied → Reply
reply_or (Finished v r) = r
reply_or (Needs x) = reply.Done

abbrev is_finished : Applied → Bool
is_finished (Finished v r) = true
is_finished (Needs x) = false

module _ (w new : World) (c : ℕ) (f : Flags) (r : Reply) where
  answers_so : (o : Outcome) → Keeps (Opens w c f) AnyNeed o → settle w o ≡ Finished new r → is_fail r ≡ false → Opens w c f (new, r)
  answers_so (Go x) h is done =
      let a : x.0 ≡ new = ap (world_or w) is in
      let b : x.1 ≡ r = ap reply_or is in
      subst (λ v. Opens w c f (v, r)) a (subst (λ s. Opens w c f (x.0, s)) b h.holds)
  answers_so (Refuse e) h is done = no_way (sym (ap (λ a. is_fail (reply_or a)) is ∙ done))
  answers_so (Wants x) h is done = no_way (ap is_finished is)

  answered : (text : List ℕ) → apply w c (call.Open text f) ≡ Finished new r → is_fail r ≡ false → Opens w c f (new, r)
  answered text is done = answers_so (row w c (call.Open text f)) (open_row w c f text) is done

pub open_descriptor : (w new : World) (c : ℕ) (text : List ℕ) (f : Flags) (r : Reply) → apply w c (call.Open text f) ≡ Finished new r → is_fail r ≡ false → (fd : ℕ) × (r ≡ reply.Fd fd)
open_descriptor w new c text f r is done = let x : Opens w c f (new, r) = answered w new c f r text is done in (x.fd, x.reply)

abbrev fd_or : Reply → ℕ
fd_or (reply.Fd fd) = fd
fd_or _ = 0

module _ (w new : World) (c fd : ℕ) (text : List ℕ) (f : Flags) (is : apply w c (call.Open text f) ≡ Finished new (reply.Fd fd)) where
  opens : Opens w c f (new, reply.Fd fd)
  opens = answered w new c f (reply.Fd fd) text is refl

  same : opens.fd ≡ fd
  same = sym (ap fd_or opens.reply)

  first : IsFirst w c 0 32 fd
  first = subst (IsFirst w c 0 32) same opens.first

  pub open_lowest : IsLowestFree w c fd
  open_lowest = record { free = first.free; taken = λ e less. first.taken e (omega arith) less }

  pub open_few : fd < 32
  open_few = let most : fd < 0 + 32 = first.most in omega (arith, most)

  pub open_just : IsJustOpened new c fd f
  open_just = subst (λ d. IsJustOpened new c d f) same opens.opened
