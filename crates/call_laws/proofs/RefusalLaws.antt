-- Refusals leave the world, and only dooms make dead.
use Rattle.std.proofs.Common.{◌≡◌, ℕ, Bool, true, false, cond, List, [], refl, ap, sym, ◌∙◌}
use Rattle.std.specs.FinMap.{get}
use Rattle.std.specs.Prelude.{MatchBool}
use Rattle.vfs_tree.specs.Child.{child_of, child_below, low}
use Rattle.vfs_tree.specs.Edits.{new_dir}
use Rattle.vfs_tree.specs.Nodes.{next_of}
use Rattle.vfs_tree.specs.Place.{Seen, UnionUp, UnionLow}
use Rattle.vfs_tree.specs.Views.{facts_of}
use Rattle.vfs_tree.specs.declared.errno.Errno.{Errno}
use Rattle.vfs_tree.specs.declared.node.Node.TheVariants.{File}
use Rattle.vfs_tree.specs.declared.walk.Child.{Child}
use Rattle.vfs_tree.specs.declared.walk.Child.TheVariants as child
use Rattle.vfs_tree.specs.declared.walk.Step.TheVariants.{Go, Refuse, Wants}
use Rattle.vfs_tree.specs.declared.world.World.{World}
use Rattle.call_model.specs.Apply.{Applied, Finished, Needs, settle, apply}
use Rattle.call_model.specs.Checks.{Outcome, upper_store, node_of}
use Rattle.call_model.specs.Effects.{made_above, turned_open, turned_opens, copy_of, copied_child, effect}
use Rattle.call_model.specs.Legal.{MayAnswer, MayLackMemory, after, is_no_memory, world_after}
use Rattle.call_model.specs.Rows.{row}
use Rattle.call_model.specs.declared.call.Call.{Call}
use Rattle.call_model.specs.declared.entry.Entry.TheVariants as entry
use Rattle.call_model.specs.declared.entry.Inner.TheVariants.{Shadow, CopyUp, Detach}
use Rattle.call_model.specs.declared.reply.Reply.{Reply}
use Rattle.call_model.specs.declared.reply.Reply.TheVariants as reply
use Rattle.call_laws.specs.Flags.{SetsNoFlag}
use Rattle.call_model.specs.NameEdits.{is_fail}
use Rattle.call_laws.proofs.FlagLaws.{no_flag, no_flag-through, no_flag-each}
use Rattle.call_laws.proofs.LiveLaws.{alone-made_above}
use Rattle.call_laws.proofs.MountParts.{Answered}
use Rattle.call_laws.proofs.Parts.{Keeps}
use Rattle.call_laws.proofs.RowLaws.{row_answered}

-- ---- refusals

-- whether it is finished with a refusal
abbrev is_refused : Applied → Bool
is_refused (Finished v r) = is_fail r
is_refused (Needs x) = false

failed_leaves : (w new : World) (e : Errno) (o : Outcome) → Keeps (λ x. Answered w x.0 x.1) (λ x. Unit {0}) o → settle w o ≡ Finished new (reply.Fail e) → new ≡ w
failed_leaves w new e (Go x) h is = absurd (let clash : false ≡ true = sym h.holds.done ∙ ap is_refused is in cc)
failed_leaves w new e (Refuse d) h is = sym (ap (world_after w) is)
failed_leaves w new e (Wants x) h is = sym (ap (world_after w) is)

-- a call that fails leaves the world
pub failed_row : (w new : World) (c : ℕ) (call : Call) (e : Errno) → apply w c call ≡ Finished new (reply.Fail e) → new ≡ w
failed_row w new c call e is = failed_leaves w new e (row w c call) (row_answered w c call) is

-- and so does its entry, also where it found no memory
pub failed_answer : (w new : World) (ds : List ℕ) (c : ℕ) (call : Call) (e : Errno) → MayAnswer w ds c call (reply.Fail e) new → new ≡ w
failed_answer w new ds c call e h =
    elim (is_no_memory (reply.Fail e)) as (λ b. MatchBool b (MayLackMemory w ds c × (new ≡ w)) (apply w c call ≡ Finished new (reply.Fail e)) → new ≡ w) [
      | true ↦ λ x. x.1
      | false ↦ λ x. failed_row w new c call e x
    ] h

pub no_memory_entry : (w : World) (c : ℕ) (call : Call) (r : Reply) → is_no_memory r ≡ true → after w (entry.Call c call r) ≡ w
no_memory_entry w c call r e = ap (λ b. cond b w (world_after w (apply w c call))) e

-- ---- dead flags

itself : (w : World) → SetsNoFlag w w
itself w = no_flag w w refl refl

flags_settled : (w : World) (o : Outcome) → Keeps (λ x. Answered w x.0 x.1) (λ x. Unit {0}) o → SetsNoFlag w (world_after w (settle w o))
flags_settled w (Go x) h = h.holds.flags
flags_settled w (Refuse e) h = itself w
flags_settled w (Wants x) h = itself w

flags_if : (b : Bool) (w new : World) → SetsNoFlag w new → SetsNoFlag w (cond b w new)
flags_if true w new h = itself w
flags_if false w new h = h

-- no call makes dead
pub flags-call : (w : World) (c : ℕ) (call : Call) (r : Reply) → SetsNoFlag w (after w (entry.Call c call r))
flags-call w c call r = flags_if (is_no_memory r) w (world_after w (apply w c call)) (flags_settled w (row w c call) (row_answered w c call))

-- nor a shadow directory
pub flags-shadow : (w : World) (c m u : ℕ) (n : List ℕ) → SetsNoFlag w (effect w c (Shadow m u n))
flags-shadow w c m u n = let h = alone-made_above w m u n (new_dir u false) in no_flag w _ h.0 h.1

turned_flags : (from to : Seen) (w v : World) → SetsNoFlag w v → SetsNoFlag w (turned_opens from to v)
turned_flags from to w v h =
    no_flag-through w v (turned_opens from to v) h (record { opens = λ k e. no_flag-each (turned_open from to) (λ o. refl) v.opens k e; cwds = λ c e. e })

flags_child : (w : World) (m u : ℕ) (n : List ℕ) (o : Child) → SetsNoFlag w (copied_child w m u n o)
flags_child w m u n (child.At q) =
    let h = alone-made_above w m u n (copy_of (node_of w q)) in
    turned_flags (UnionLow m u n q) (UnionUp m (next_of (get w.stores (upper_store w m)))) w (made_above w m u n (copy_of (node_of w q))) (no_flag w _ h.0 h.1)
flags_child w m u n child.Absent = let h = alone-made_above w m u n (File []) in no_flag w _ h.0 h.1
flags_child w m u n (child.Need x) = let h = alone-made_above w m u n (File []) in no_flag w _ h.0 h.1

-- nor a copy
pub flags-copy_up : (w : World) (c m u : ℕ) (n : List ℕ) → SetsNoFlag w (effect w c (CopyUp m u n))
flags-copy_up w c m u n = flags_child w m u n (child_below (child_of (facts_of w)) (low (facts_of w) m u) n)

-- nor the detachment of a mount
pub flags-detach : (w : World) (c m : ℕ) → SetsNoFlag w (effect w c (Detach m))
flags-detach w c m = no_flag w (effect w c (Detach m)) refl refl
