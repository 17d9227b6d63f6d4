-- Descriptors that are looked for, taken and given back.
use Rattle.std.proofs.Common.{◌≡◌, ℕ, ◌+◌, suc, Bool, true, false, List, [], ap, sym, ◌∙◌, subst}
use Rattle.std.specs.Prelude.{None, Result, is_some}
use Rattle.std.specs.FinMap.{FinMap, get, remove}
use Rattle.finite_maps.specs.Keys.{pair_cmp}
use Rattle.finite_maps.proofs.EntryLaws.{pair_total, pair_exact, remove-insert}
use Rattle.vfs_tree.specs.Steps.{◌>>◌, refuse_if}
use Rattle.vfs_tree.specs.declared.errno.Errno.TheVariants as errno
use Rattle.vfs_tree.specs.declared.node.Node.TheVariants.{File}
use Rattle.vfs_tree.specs.declared.open.Open.{Open}
use Rattle.vfs_tree.specs.declared.walk.Step.TheVariants.{Go}
use Rattle.vfs_tree.specs.declared.world.World.{World}
use Rattle.vfs_tree.specs.Place.{Seen}
use Rattle.call_model.specs.Checks.{make_at}
use Rattle.call_model.specs.DataRows.{with_open, free_case, free_from}
use Rattle.plain_checks.specs.Coming.{Stops, Comes}
use Rattle.plain_checks.specs.declared.stop.Stop.{Stop}
use Rattle.plain_checks.specs.declared.stop.Stop.TheVariants as stop

-- a descriptor that is open is passed by
pub passed : (steps k : ℕ) (w : World) (c d : ℕ) (r : Result ℕ Stop) → steps ≡ suc k → is_some (get w.opens (c, d)) ≡ true → Comes (free_from k w c (d + 1)) r → Comes (free_from steps w c d) r
passed steps k w c d r more held h =
    subst (λ s. Comes (free_from s w c d) r) (sym more) (subst (λ b. Comes (free_case (free_from k w c (d + 1)) d b) r) (sym held) h)

-- a descriptor that was free and was taken is given back
pub given_back : (w v : World) (m : FinMap pair_cmp Open) (c d : ℕ) (o : Open) → get w.opens (c, d) ≡ None → v ≡ with_open w c d o → m ≡ remove v.opens (c, d) → record v { opens = m } ≡ w
given_back w v m c d o none is gone =
    ap (λ (x : FinMap pair_cmp Open). record v { opens = x }) gone
    ∙ ap (λ (x : World). record x { opens = remove x.opens (c, d) }) is
    ∙ ap (λ (x : FinMap pair_cmp Open). record w { opens = x }) (remove-insert pair_total pair_exact w.opens (c, d) o none)

-- ---- a file is made after its descriptor was taken

stops_for : {A : Type 0} (b : Bool) (x y : A) (why : Stop) → Stops {A = A} (refuse_if b errno.ENOSPC >> Go x) why → Stops {A = A} (refuse_if b errno.ENOSPC >> Go y) why
stops_for true x y (stop.Refused e) h = h
stops_for true x y (stop.Needs n) h = h
stops_for true x y stop.NoMemory h = tt
stops_for false x y (stop.Refused e) h = absurd (cc)
stops_for false x y (stop.Needs n) h = absurd (cc)
stops_for false x y stop.NoMemory h = tt

-- why it isn't made
pub unmade : (w v : World) (c d : ℕ) (o : Open) (dir : Seen) (name bytes : List ℕ) (why : Stop) → v ≡ with_open w c d o → bytes ≡ []
    → Stops (make_at v dir name (File bytes)) why → Stops (make_at w dir name (File [])) why
unmade w v c d o dir name bytes why is none h =
    stops_for _ _ _ why (subst (λ x. Stops (make_at x dir name (File [])) why) is (subst (λ b. Stops (make_at v dir name (File b)) why) none h))
