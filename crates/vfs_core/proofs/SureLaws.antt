-- The calls that never want memory: they aren't refused for want of it, and need no inner entry.
use Rattle.std.proofs.Common.{◌≡◌, ℕ, ℤ, pos, negsuc, Bool, true, false, not, refl, subst}
use Rattle.std.specs.Prelude.{Option, Some, None, nat_lt, ◌+ℤ◌}
use Rattle.std.specs.FinMap.{get}
use Rattle.vfs_tree.specs.Layers.{is_dir}
use Rattle.vfs_tree.specs.Steps.{◌>>=◌, ◌>>◌, refuse_if}
use Rattle.vfs_tree.specs.Views.{facts_of}
use Rattle.vfs_tree.specs.declared.errno.Errno.{Errno}
use Rattle.vfs_tree.specs.declared.errno.Errno.TheVariants as errno
use Rattle.vfs_tree.specs.declared.node.Node.{Node}
use Rattle.vfs_tree.specs.declared.node.Node.TheVariants.{Dir, File, Link}
use Rattle.vfs_tree.specs.declared.open.Open.{Open}
use Rattle.vfs_tree.specs.declared.walk.Step.TheVariants.{Go, Refuse, Wants}
use Rattle.vfs_tree.specs.declared.world.World.{World}
use Rattle.call_model.specs.Checks.{Doing, node_of}
use Rattle.call_model.specs.DataRows as rows
use Rattle.call_model.specs.Legal.{is_enomem, is_no_memory}
use Rattle.call_model.specs.NameRows.{stat_of}
use Rattle.call_model.specs.Rows.{row}
use Rattle.call_model.specs.declared.call.Call.{Call}
use Rattle.call_model.specs.declared.call.Call.TheVariants as call
use Rattle.call_model.specs.declared.call.Whence.{Whence}
use Rattle.call_model.specs.declared.entry.Inner.{Inner}
use Rattle.call_model.specs.declared.reply.Reply.{Reply}
use Rattle.call_laws.specs.Fitting.{Fits, Leaves}
use Rattle.call_laws.proofs.RowLaws.{row_fits}
use Rattle.plain_calls.specs.Answering.{NeedsNoMemory}

-- it is done, or refused, and that not for want of memory
abbrev Done : {A : Type 0} → Doing A → Type 0
Done (Go a) = Unit {0}
Done (Refuse e) = is_enomem e ≡ false
Done (Wants x) = ⊥

-- the same under a name
record Sure {A : Type 0} (m : Doing A) : Type 0 where
  done : Done m

found : {A : Type 0} {a : A} → Sure (Go a)
found = record { done = tt }

refused : {A : Type 0} {e : Errno} → is_enomem e ≡ false → Sure {A = A} (Refuse e)
refused known = record { done = known }

-- a part, and then one that takes what it found
then : {A B : Type 0} (m : Doing A) {k : A → Doing B} → Sure m → ((a : A) → Sure (k a)) → Sure (m >>= k)
then (Go a) h more = more a
then (Refuse e) h more = refused h.done
then (Wants x) h more = absurd h.done

-- a check, and then a part
unless : {A : Type 0} (b : Bool) (e : Errno) {m : Doing A} → is_enomem e ≡ false → Sure m → Sure (refuse_if b e >> m)
unless true e known h = refused known
unless false e known h = h

-- a check alone
check : (b : Bool) (e : Errno) → is_enomem e ≡ false → Sure (refuse_if b e)
check true e known = refused known
check false e known = found

sure_opened : (o : Option Open) → Sure (rows.opened o)
sure_opened (Some o) = found
sure_opened None = refused refl

sure_descriptor : (w : World) (c d : ℕ) → Sure (rows.descriptor w c d)
sure_descriptor w c d = sure_opened (get w.opens (c, d))

sure_offset_of : (i : ℤ) → Sure (rows.offset_of i)
sure_offset_of (pos n) = unless (nat_lt 4294967295 n) errno.EINVAL refl found
sure_offset_of (negsuc n) = refused refl

sure_check_read : (w : World) (o : Open) (n : ℕ) → Sure (rows.check_read w o n)
sure_check_read w o n =
    unless o.dead errno.EIO refl
    (unless (not o.mode.read) errno.EBADF refl
    (unless (is_dir (facts_of w) o.place) errno.EISDIR refl
    (check (nat_lt rows.most_moved n) errno.EINVAL refl)))

sure_stat_of : (o : Option Node) → Sure (stat_of o)
sure_stat_of (Some (Dir parent opaque names)) = found
sure_stat_of (Some (File bytes)) = found
sure_stat_of (Some (Link target)) = found
sure_stat_of None = refused refl

sure_close : (w : World) (c d : ℕ) → Sure (rows.close w c d)
sure_close w c d = then (rows.descriptor w c d) (sure_descriptor w c d) (λ _. found)

sure_read : (w : World) (c d n : ℕ) → Sure (rows.read w c d n)
sure_read w c d n = then (rows.descriptor w c d) (sure_descriptor w c d) (λ o. then (rows.check_read w o n) (sure_check_read w o n) (λ _. found))

sure_pread : (w : World) (c d n at : ℕ) → Sure (rows.pread w c d n at)
sure_pread w c d n at = then (rows.descriptor w c d) (sure_descriptor w c d) (λ o. then (rows.check_read w o n) (sure_check_read w o n) (λ _. found))

sure_lseek : (w : World) (c d : ℕ) (h : Whence) (i : ℤ) → Sure (rows.lseek w c d h i)
sure_lseek w c d h i =
    then (rows.descriptor w c d) (sure_descriptor w c d) (λ o.
    unless o.dead errno.EBADF refl
    (then (rows.offset_of (pos (rows.seek_from w o h) +ℤ i)) (sure_offset_of (pos (rows.seek_from w o h) +ℤ i)) (λ _. found)))

sure_fstat : (w : World) (c d : ℕ) → Sure (rows.fstat w c d)
sure_fstat w c d =
    then (rows.descriptor w c d) (sure_descriptor w c d) (λ o.
    unless o.dead errno.EBADF refl
    (then (stat_of (node_of w o.place)) (sure_stat_of (node_of w o.place)) (λ _. found)))

sure_row : (w : World) (c : ℕ) (call : Call) → NeedsNoMemory call → Sure (row w c call)
sure_row w c (call.Close d) none = sure_close w c d
sure_row w c (call.Read d n) none = sure_read w c d n
sure_row w c (call.Pread d n at) none = sure_pread w c d n at
sure_row w c (call.Lseek d h i) none = sure_lseek w c d h i
sure_row w c (call.Fstat d) none = sure_fstat w c d
sure_row w c _ none = absurd none

-- no call is answered by want of memory
pub sure_answer : (w new : World) (c : ℕ) (call : Call) (r : Reply) → row w c call ≡ Go (new, r) → is_no_memory r ≡ false
sure_answer w new c call r is = let fits : Leaves w c call new r = subst (Fits w c call) is (row_fits w c call) in fits.answered

-- nor is such a call refused for it
pub sure_refusal : (w : World) (c : ℕ) (call : Call) (e : Errno) → NeedsNoMemory call → row w c call ≡ Refuse e → is_enomem e ≡ false
sure_refusal w c call e none is = (subst (λ m. Sure m) is (sure_row w c call none)).done

-- and it needs no inner entry
pub sure_need : (w : World) (c : ℕ) (call : Call) (x : Inner) → NeedsNoMemory call → row w c call ≡ Wants x → ⊥
sure_need w c call x none is = (subst (λ m. Sure m) is (sure_row w c call none)).done
