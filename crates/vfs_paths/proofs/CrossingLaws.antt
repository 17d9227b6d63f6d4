-- One mount further in, and one further out.
use Rattle.std.proofs.Common.{◌≡◌, ℕ, suc, ◌==◌, Bool, true, false, not, sym, ap, ◌∙◌}
use Rattle.std.specs.Prelude.{◌&&◌, Some}
use Rattle.vfs_tree.specs.Place.{Seen, mount_of}
use Rattle.vfs_tree.specs.Facts.{Facts}
use Rattle.vfs_tree.specs.Layers.{root_of, is_root, on_of, is_cut}
use Rattle.vfs_tree.specs.Steps.{◌>>◌, refuse_if}
use Rattle.vfs_tree.specs.Walk.{enter_case, enter_within, leave_case, leave_within}
use Rattle.vfs_tree.specs.declared.errno.Errno.TheVariants as errno

-- through the mount that covers the place
pub entered_more : (f : Facts) (k j m : ℕ) (b : Bool) (p q : Seen) → k ≡ suc j → Some m ≡ f.covering p → (not b && is_cut f m) ≡ false → q ≡ root_of f m
    → enter_within j f b q ≡ enter_within k f b p
entered_more f k j m b p q more covers enters root =
    ap (enter_within j f b) root
    ∙ sym
    (ap (λ k. enter_within k f b p) more ∙ (λ i. enter_case (enter_within j f b) f b p (sym covers i))
    ∙ ap (λ c. refuse_if c errno.EIO >> enter_within j f b (root_of f m)) enters)

-- to the directory that the mount covers
pub left_more : (f : Facts) (k j : ℕ) (d on next : Seen) → k ≡ suc j → (not (mount_of d == 0) && is_root f d) ≡ true → Some on ≡ on_of f (mount_of d)
    → next ≡ on → leave_within j f next ≡ leave_within k f d
left_more f k j d on next more root covers same =
    ap (leave_within j f) same ∙ sym (ap (λ k. leave_within k f d) more ∙ (λ i. leave_case (leave_within j f) d (root i) (sym covers i)))
